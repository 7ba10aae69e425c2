use Rattle.std.proofs.Common.{◌≡◌, ◌<◌, length, get_or, ap, sym, refl, arith, subst}
use Rattle.std.specs.Prelude.{Some}
use Rattle.std.proofs.lemmas.List.{get_or_read}
use Rattle.trace_layout.specs.Scopes.{IsFinishSoFar}
use Rattle.trace_layout.specs.declared.finishes.Finish.{Finish}
use Rattle.trace_layout.proofs.Opened.{parks, scopes_changed}
use Rattle.trace_layout.proofs.finishes.Scopes.park.Goals as goal

pub returns-then-finish-len : goal.returns-then-finish-len
returns-then-finish-len c =
    let s = c.args.self.now in
    let k = c.args.finish in
    let f = c.index_mut-finish.result.now in
    let there : k < length s.all.items = omega (arith, s.all.ok.0) in
    let at : (d : Finish) → get_or s.all.items k d ≡ f = λ d. sym (get_or_read s.all.items k f there c.index_mut-finish.ensures.value d) in
    λ es n was.
    scopes_changed es n s _ k (record f { parked = Some c.args.number }) there (λ d. ap (λ (x : Finish). x.first) (at d))
    (parks es n k f (Some c.args.number) (subst (IsFinishSoFar es n k) (at f) (was.each k f there))) refl refl refl was

use Rattle.std.proofs.Common.{◌≡◌, ◌<◌, length, get_or, ap, sym, refl, arith, subst}
use Rattle.std.specs.Prelude.{true}
use Rattle.std.proofs.lemmas.List.{get_or_read}
use Rattle.trace_layout.specs.Scopes.{IsFinishSoFar}
use Rattle.trace_layout.specs.declared.finishes.Finish.{Finish}
use Rattle.trace_layout.proofs.Opened.{passes, scopes_changed}
use Rattle.trace_layout.proofs.finishes.Scopes.pass.Goals as goal

pub returns-then-place-len : goal.returns-then-place-len
returns-then-place-len c =
    let s = c.args.self.now in
    let k = c.in-Some.place.now in
    let n = c.args.number in
    let f = c.index_mut-finish.result.now in
    let there : k < length s.all.items = omega (arith, s.all.ok.0) in
    let at : (d : Finish) → get_or s.all.items k d ≡ f = λ d. sym (get_or_read s.all.items k f there c.index_mut-finish.ensures.value d) in
    λ es was.
    scopes_changed es n s _ k (record f { last = n; is_passed = true }) there (λ d. ap (λ (x : Finish). x.first) (at d))
    (passes es n k f (subst (IsFinishSoFar es n k) (at f) (was.each k f there))) refl refl refl was

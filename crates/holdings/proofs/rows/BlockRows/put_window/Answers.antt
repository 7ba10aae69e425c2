use Rattle.std.proofs.Common.{◌≡◌, ◌+◌, ◌∙◌, ℕ, arith, rules, ap, sym, w64, FitsSigned}
use Rattle.std.proofs.lemmas.Int.{to_z-of_z}
use Rattle.std.specs.Prelude.{ℤ}
use Rattle.sections.specs.Place.{Place}
use Rattle.blocks.specs.Held.{in_place_of, numbers, only, put, put_all}
use Rattle.holdings.specs.Rows.{held_in}
use Rattle.holdings.proofs.PuttingLemmas.{next-none, next-put, up_to}
use Rattle.holdings.proofs.rows.BlockRows.put_window.Goals.{in-Some+in_ok-put, in_default}
use Rattle.holdings.proofs.rows.BlockRows.put_window.Goals as goal

pub loop-index-preserved : goal.loop-index-preserved
loop-index-preserved c =
    let n = numbers (held_in c.args.others.now) in
    let m = held_in c.args.self.now in
    let now = held_in c.loop-index.self in
    let a = c.args.window.array.number in
    let at = c.args.window.at in
    let i = c.loop-index.index in
    let p : Place = record { array = a; index = i } in
    let so_far = c.loop-index.invariant.0 in (
      elim c.match-number.branch [
        | in-Some+in_ok-put w ↦
            (let z : ℤ = w.in-Some.number in
            let fits : FitsSigned w64 z = search rules in
            ap held_in w.self-is
            ∙ next-put n m now a at i (omega arith) so_far z (sym w.in-Some.ensures) (held_in w.put.new.self)
            (w.in_ok-put.ensures.written ∙ ap (λ (z : ℤ). put p (in_place_of (now p) z) now) (to_z-of_z w64 z fits)))
        | in_default w ↦ ap held_in w.self-is ∙ next-none n m now a at i (omega arith) so_far (sym c.number.ensures ∙ w.in_default.is)
      ],
      omega arith,
    )

pub returns : goal.returns
returns c =
    let a = c.args.window.array.number in
    let at = c.args.window.at in
    let all : c.loop-index.index ≡ at + c.args.window.len = omega (arith, c.loop-index.invariant.1) in
    c.loop-index.invariant.0
    ∙ ap (λ (i : ℕ). put_all (only (up_to a at i) (numbers (held_in c.args.others.now))) (held_in c.args.self.now)) all

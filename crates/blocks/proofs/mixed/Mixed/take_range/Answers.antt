use Rattle.std.proofs.Common.{◌≡◌, Some, ap, sym, refl, ◌∙◌, arith, rules, w64, FitsSigned}
use Rattle.std.proofs.lemmas.Int.{to_z-of_z}
use Rattle.std.specs.Prelude.{ℤ, if◌then◌else◌}
use Rattle.blocks.specs.Blocks.{held_in, held_at}
use Rattle.blocks.specs.Held.{Held, Owned}
use Rattle.blocks.specs.Offsets.{Offsets, in_range}
use Rattle.blocks.proofs.BlockLemmas.{IsAsWide-again, IsAsWide-there, owned_held}
use Rattle.blocks.proofs.WalkLemmas.{in_range-true, in_range-below, in_range-behind, so_far-begun, so_far-done, so_far-more}
use Rattle.blocks.proofs.mixed.Mixed.take_range.Goals as goal
use Rattle.blocks.proofs.mixed.Mixed.take_range.Goals.{in-Some, in_default}

pub loop-offset-init : goal.loop-offset-init
loop-offset-init c = (
  so_far-begun c.args.from
      (λ k. if in_range c.args.from c.args.to k then held_at c.args.other.now k else held_in c.args.self.now k)
      (held_in c.args.self.now)
      (λ k lt. ap (λ b. if b then held_at c.args.other.now k else held_in c.args.self.now k)
      (in_range-below c.args.from c.args.to k lt)),
  record { first = refl; length = refl },
  omega arith,
)

pub put-requires : goal.put-requires
put-requires c =
    IsAsWide-there c.loop-offset.self.numbers c.args.self.now.numbers c.loop-offset.offset c.loop-offset.invariant.1
    (c.requires.room c.loop-offset.offset (in_range-true c.args.from c.args.to c.loop-offset.offset (omega arith) (omega arith)))

pub loop-offset-preserved : goal.loop-offset-preserved
loop-offset-preserved c =
    let other = held_at c.args.other.now in
    let old = held_in c.args.self.now in
    let new : Offsets Held = λ k. if in_range c.args.from c.args.to k then other k else old k in
    let i = c.loop-offset.offset in
    let inv = c.loop-offset.invariant in
    let here = in_range-true c.args.from c.args.to i (omega arith) (omega arith) in
    let there : new i ≡ other i = ap (λ b. if b then other i else old i) here in
    elim c.match-owned.branch [
      | in-Some w ↦ (let v = w.in-Some.number in
          let fits : FitsSigned w64 v = search rules in
          let is : new i ≡ Some (Owned v) = there ∙ owned_held (other i) v (sym w.in-Some.ensures) in
          let same = ap (λ (n : ℤ). Some (Owned n)) (sym (to_z-of_z w64 v fits)) in (
            rw w.self-is (so_far-more i new old (held_in c.loop-offset.self) (held_in w.put.new.self) _ (is ∙ same) inv.0 w.put.ensures.held),
            rw w.self-is (IsAsWide-again _ _ _ w.put.ensures.room inv.1),
            rw w.copied-is (omega (arith, inv.2)),
          ))
      | in_default w ↦ absurd (c.requires.owned i here (sym w.in_default.ensures))
    ]

pub returns-clause-held : goal.returns-clause-held
returns-clause-held c =
    let other = held_at c.args.other.now in
    let old = held_in c.args.self.now in
    so_far-done c.loop-offset.offset
    (λ k. if in_range c.args.from c.args.to k then other k else old k) old (held_in c.loop-offset.self)
    (λ k le. ap (λ b. if b then other k else old k)
    (in_range-behind c.args.from c.args.to k (omega (arith, le, c.loop-offset-test.false))))
    c.loop-offset.invariant.0

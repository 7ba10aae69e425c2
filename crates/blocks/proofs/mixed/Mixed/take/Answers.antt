use Rattle.std.proofs.Common.{◌≡◌, ◌+◌, ◌≤◌, ℕ, Some, ap, sym, refl, ◌∙◌, arith, rules, w64, FitsSigned}
use Rattle.std.proofs.lemmas.Int.{to_z-of_z}
use Rattle.std.specs.Prelude.{option_map, ℤ}
use Rattle.blocks.specs.Blocks.{held_in, held_at, owned_at}
use Rattle.blocks.specs.Held.{Held, Owned, first_of, owned_number}
use Rattle.blocks.specs.Offsets.{Offsets}
use Rattle.blocks.proofs.BlockLemmas.{IsAsWide-again, IsAsWide-there, first_of-none, first_of-owned, first_of-unowned}
use Rattle.blocks.proofs.WalkLemmas.{how_many-le, how_many-none, how_many-rest, how_many-skip, how_many-some}
use Rattle.blocks.proofs.WalkLemmas.{so_far-begun, so_far-kept, so_far-more}
use Rattle.blocks.proofs.mixed.Mixed.take.Goals as goal
use Rattle.blocks.proofs.mixed.Mixed.take.Goals.{in-Some, in_default-owned}

pub loop-offset-init : goal.loop-offset-init
loop-offset-init c = (
  so_far-begun c.start-low.result
      (λ k. first_of (option_map Owned (owned_at c.args.other.now k)) (held_in c.args.self.now k)) (held_in c.args.self.now)
      (λ k lt. first_of-unowned (held_at c.args.other.now k) (held_in c.args.self.now k) (c.start-low.ensures.before k lt)),
  record { first = refl; length = refl },
  sym (how_many-none (owned_at c.args.other.now) c.start-low.result
      (λ k lt. ap owned_number (c.start-low.ensures.before k lt))),
  c.start-low.ensures.places,
)

pub put-requires : goal.put-requires
put-requires c =
    IsAsWide-there c.loop-offset.self.numbers c.args.self.now.numbers c.loop-offset.offset c.loop-offset.invariant.1
    (c.requires c.loop-offset.offset (λ none. absurd (let e = c.in-Some.ensures ∙ none in cc)))

pub overflow_add-copied : goal.overflow_add-copied
overflow_add-copied c =
    let few = how_many-le (owned_at c.args.other.now) c.loop-offset.offset in
    let is = c.loop-offset.invariant.2 in
    let end = c.loop-offset.invariant.3 in
    omega (arith, few, is, end)

pub loop-offset-preserved : goal.loop-offset-preserved
loop-offset-preserved c =
    let other = owned_at c.args.other.now in
    let old = held_in c.args.self.now in
    let new : Offsets Held = λ k. first_of (option_map Owned (other k)) (old k) in
    let i = c.loop-offset.offset in
    let inv = c.loop-offset.invariant in
    let end : i + 1 ≤ 256 = omega (arith, c.end-high.ensures.places, c.loop-offset-test.true) in
    elim c.match-owned.branch [
      | in-Some w ↦ (let v = w.in-Some.number in
          let fits : FitsSigned w64 v = search rules in
          let is : new i ≡ Some (Owned v) = first_of-owned (other i) v (old i) (sym w.in-Some.ensures) in
          let same = ap (λ (n : ℤ). Some (Owned n)) (sym (to_z-of_z w64 v fits)) in (
            rw w.self-is (so_far-more i new old (held_in c.loop-offset.self) (held_in w.put.new.self) _ (is ∙ same) inv.0 w.put.ensures.held),
            rw w.self-is (IsAsWide-again _ _ _ w.put.ensures.room inv.1),
            rw w.copied-is (ap (λ (n : ℕ). n + 1) inv.2 ∙ sym (how_many-some other i v (sym w.in-Some.ensures))),
            end,
          ))
      | in_default-owned w ↦ (
        rw w.self-is (so_far-kept i new old (held_in c.loop-offset.self)
            (first_of-none (other i) (old i) (sym w.in_default-owned.ensures)) inv.0),
        rw w.self-is inv.1,
        rw w.copied-is (inv.2 ∙ sym (how_many-skip other i (sym w.in_default-owned.ensures))),
        end,
      )
    ]

pub returns-clause-copied : goal.returns-clause-copied
returns-clause-copied c =
    let other = owned_at c.args.other.now in
    c.loop-offset.invariant.2 ∙ sym (how_many-rest other c.loop-offset.offset 256 c.loop-offset.invariant.3
    (λ k le. ap owned_number (c.end-high.ensures.behind k (omega (arith, le, c.loop-offset-test.false)))))

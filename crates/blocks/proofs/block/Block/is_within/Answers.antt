use Rattle.std.proofs.Common.{◌≡◌, ℕ, ◌<◌, ◌≤◌, Bool, true, false, None, refl}
use Rattle.std.proofs.lemmas.Bool.{ltb-false, ltb-true}
use Rattle.std.specs.Prelude.{nat_lt}
use Rattle.blocks.specs.Blocks.{held_at, owned_at}
use Rattle.blocks.specs.Offsets.{HasAll, IsWithin}
use Rattle.blocks.specs.declared.block.Block.{Block}
use Rattle.blocks.proofs.WalkLemmas.{in_range-true}
use Rattle.blocks.proofs.block.Block.is_within.Goals as goal

-- the other owns all offsets between the first that may be held and the last
all_within : (b other : Block) (low high : ℕ) → ((k : ℕ) → k < low → held_at b k ≡ None) → ((k : ℕ) → high ≤ k → held_at b k ≡ None)
    → HasAll low high (owned_at other) → IsWithin (held_at b) (owned_at other)
all_within b other low high before behind all k some none = by_low (nat_lt k low) refl
  where
    by_high : low ≤ k → (t : Bool) → nat_lt k high ≡ t → ⊥
    by_high le true e = all k (in_range-true low high k le (ltb-true _ _ e)) none
    by_high le false e = some (behind k (ltb-false _ _ e))

    by_low : (t : Bool) → nat_lt k low ≡ t → ⊥
    by_low true e = some (before k (ltb-true _ _ e))
    by_low false e = by_high (ltb-false _ _ e) (nat_lt k high) refl

pub returns-then-owns_range : goal.returns-then-owns_range
returns-then-owns_range c =
    let within = all_within c.args.self.now c.args.other.now c.start-low.result c.end-high.result c.start-low.ensures.before c.end-high.ensures.behind
    (c.owns_range.ensures c.if-owns_range.true) in
    (λ t. within, λ w. refl)

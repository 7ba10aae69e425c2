-- What rows hold, block by block.
use Rattle.std.proofs.Common.{◌≡◌, ℕ, ◌+◌, ◌/◌, ◌%◌, ◌<◌, ◌≤◌, List}
use Rattle.std.proofs.Common.{Option, Some, Bool, true, false, refl, sym, ap, ◌∙◌, arith}
use Rattle.std.proofs.lemmas.Bool.{and_parts, and_from, eqb-true, eq-eqb}
use Rattle.std.proofs.lemmas.Bool.Decides.{nat_tests}
use Rattle.std.specs.Prelude.{◌&&◌, nat_eq, nat_le, nat_lt, if◌then◌else◌}
use Rattle.sections.specs.Covers.{is_in}
use Rattle.sections.specs.Place.{Place, Window}
use Rattle.sections.proofs.Covering.{in_window}
use Rattle.blocks.specs.Blocks.{held_at}
use Rattle.blocks.specs.Held.{Held}
use Rattle.blocks.specs.Offsets.{in_range}
use Rattle.blocks.specs.declared.block.Block.{Block}
use Rattle.holdings.specs.Pieces.{taking}
use Rattle.holdings.proofs.WritingLemmas.{held_of-if}
use Rattle.holdings.specs.Rows.{Replaces, block_of, held_in_list, held_of, in_block}
use Rattle.holdings.specs.declared.row.BlockRow.{BlockRow}

-- ---- places of one block

pub same_block : (at n i : ℕ) → at % 256 + n ≤ 256 → at ≤ i → i < at + n → i / 256 ≡ at / 256
same_block at n i fits low high = omega arith

-- in the block of a piece, its places are those with offsets in a range
interval-offsets : (at n i : ℕ) → i / 256 ≡ at / 256
    → (nat_le at i && nat_lt i (at + n)) ≡ in_range (at % 256) (at % 256 + n) (i % 256)
interval-offsets at n i same =
    let low : (at ≤ i → at % 256 ≤ i % 256) = λ h. omega (arith, same, h) in
    let low' : (at % 256 ≤ i % 256 → at ≤ i) = λ h. omega (arith, same, h) in
    let high : (i < at + n → i % 256 < at % 256 + n) = λ h. omega (arith, same, h) in
    let high' : (i % 256 < at % 256 + n → i < at + n) = λ h. omega (arith, same, h) in
    grind (arith, nat_tests)

pub is_in-block : (w : Window) (q : Place) → in_block w.array (w.at / 256) q ≡ true
    → is_in w q ≡ in_range (w.at % 256) (w.at % 256 + w.length) (q.index % 256)
is_in-block w q e =
    let parts = and_parts (nat_eq q.array w.array) (nat_eq (q.index / 256) (w.at / 256)) e in
    ap (λ b. b && (nat_le w.at q.index && nat_lt q.index (w.at + w.length))) parts.0
    ∙ interval-offsets w.at w.length q.index (eqb-true _ _ parts.1)

pub in_its_block : (w : Window) (q : Place) → w.at % 256 + w.length ≤ 256 → is_in w q ≡ true → in_block w.array (w.at / 256) q ≡ true
in_its_block w q fits is =
    let at = in_window w q is in
    and_from _ _ (eq-eqb _ _ at.array) (eq-eqb _ _ (same_block w.at w.length q.index fits at.low at.high))

pub is_in-elsewhere : (w : Window) (q : Place) → w.at % 256 + w.length ≤ 256 → in_block w.array (w.at / 256) q ≡ false → is_in w q ≡ false
is_in-elsewhere w q fits e = by_case (is_in w q) refl
  where
    by_case : (b : Bool) → is_in w q ≡ b → is_in w q ≡ false
    by_case false is = is
    by_case true is = absurd (let h = in_its_block w q fits is in cc)

-- ---- what is held of a piece

block_of-same : (rs : List BlockRow) (w : Window) (q : Place) → in_block w.array (w.at / 256) q ≡ true
    → block_of rs q.array (q.index / 256) ≡ block_of rs w.array (w.at / 256)
block_of-same rs w q e =
    let parts = and_parts (nat_eq q.array w.array) (nat_eq (q.index / 256) (w.at / 256)) e in
    ap (λ a. block_of rs a (q.index / 256)) (eqb-true _ _ parts.0) ∙ ap (block_of rs w.array) (eqb-true _ _ parts.1)

pub held_of-piece : (rs : List BlockRow) (w : Window) (q : Place) → in_block w.array (w.at / 256) q ≡ true
    → held_in_list rs q ≡ held_of (block_of rs w.array (w.at / 256)) (q.index % 256)
held_of-piece rs w q e = ap (λ o. held_of o (q.index % 256)) (block_of-same rs w q e)

-- ---- one block in the place of another

pub held-replaced : (a b : ℕ) (x : Block) (old new : List BlockRow) → Replaces a b x old new → (q : Place)
    → held_in_list new q ≡ (if in_block a b q then held_at x (q.index % 256) else held_in_list old q)
held-replaced a b x old new rep q =
    ap (λ o. held_of o (q.index % 256)) (rep q.array (q.index / 256))
    ∙ held_of-if (in_block a b q) x (block_of old q.array (q.index / 256)) (q.index % 256)

-- a block was taken out, changed, and put back
pub held-changed : (w : Window) (a b x : Block) (old mid new : List BlockRow) (m : Place → Option Held)
    → w.at % 256 + w.length ≤ 256 → block_of old w.array (w.at / 256) ≡ Some a
    → Replaces w.array (w.at / 256) x old mid → Replaces w.array (w.at / 256) b mid new
    → ((q : Place) → in_block w.array (w.at / 256) q ≡ true → held_at b (q.index % 256)
    ≡ (if in_range (w.at % 256) (w.at % 256 + w.length) (q.index % 256) then m q else held_at a (q.index % 256)))
    → held_in_list new ≡ taking (is_in w) m (held_in_list old)
held-changed w a b x old mid new m fits is out back says = λ t q. at_place q (in_block w.array (w.at / 256) q) refl t
  where
    at_place : (q : Place) (c : Bool) → in_block w.array (w.at / 256) q ≡ c → held_in_list new q ≡ taking (is_in w) m (held_in_list old) q
    at_place q true e =
        held-replaced w.array (w.at / 256) b mid new back q
        ∙ ap (λ c. if c then held_at b (q.index % 256) else held_in_list mid q) e
        ∙ says q e
        ∙ ap (λ c. if c then m q else held_at a (q.index % 256)) (sym (is_in-block w q e))
        ∙ ap (λ v. if is_in w q then m q else v)
        (sym (held_of-piece old w q e ∙ ap (λ o. held_of o (q.index % 256)) is))
    at_place q false e =
        held-replaced w.array (w.at / 256) b mid new back q
        ∙ ap (λ c. if c then held_at b (q.index % 256) else held_in_list mid q) e
        ∙ held-replaced w.array (w.at / 256) x old mid out q
        ∙ ap (λ c. if c then held_at x (q.index % 256) else held_in_list old q) e
        ∙ ap (λ c. if c then m q else held_in_list old q) (sym (is_in-elsewhere w q fits e))

-- The number of places of a window in blocks that aren't wholly inside it, computed from the start
-- and the end of its whole blocks.
use Rattle.std.proofs.Common.{◌≡◌, ℕ, zero, suc, ◌+◌, ◌-◌, ◌*◌, ◌/◌, ◌<◌, ◌≤◌, min, max, ◌∷◌, Bool, inl, inr, true, false, refl, ap, ◌∙◌, arith, cond}
use Rattle.std.proofs.lemmas.Bool.{cases_lt, leb-true, leb-false}
use Rattle.std.proofs.lemmas.List.Sums.{sum_by-cons}
use Rattle.std.specs.List.{count_by, range_with_len}
use Rattle.std.specs.Prelude.{◌⊎◌, not, ◌&&◌, nat_le}
use Rattle.sections.specs.Place.{Window}
use Rattle.holdings.specs.Copied.{has_block, split_places}

-- a test passes what lies outside a range
record Outside (p : ℕ → Bool) (from to i : ℕ) : Type 0 where
  passes : p i ≡ true
  out : (i < from) ⊎ (to ≤ i)

record Inside (p : ℕ → Bool) (from to i : ℕ) : Type 0 where
  passes : p i ≡ false
  low : from ≤ i
  high : i < to

abbrev Parts : (p : ℕ → Bool) (from to i : ℕ) → Type 0
Parts p from to i = Outside p from to i ⊎ Inside p from to i

count_outside : (p : ℕ → Bool) (from to a k : ℕ) → ((i : ℕ) → a ≤ i → i < a + k → Parts p from to i)
    → count_by p (range_with_len a k) ≡ k - (min to (a + k) - max from a)
count_outside p from to a zero parts = omega arith
count_outside p from to a (suc k) parts =
    let rest = count_outside p from to (a + 1) k (λ i low high. parts i (omega (arith, low)) (omega (arith, high))) in
    let more : count_by p (a ∷ range_with_len (a + 1) k) ≡ cond {A = ℕ} (p a) 1 0 + count_by p (range_with_len (a + 1) k) =
    sum_by-cons (λ x. cond {A = ℕ} (p x) 1 0) a (range_with_len (a + 1) k) in
    elim (parts a (omega arith) (omega arith)) [
      | inl o ↦
          (let one : cond {A = ℕ} (p a) 1 0 ≡ 1 = ap (λ b. cond {A = ℕ} b 1 0) o.passes in
          more ∙ omega (arith, rest, one, o.out))
      | inr i ↦
          (let none : cond {A = ℕ} (p a) 1 0 ≡ 0 = ap (λ b. cond {A = ℕ} b 1 0) i.passes in
          more ∙ omega (arith, rest, none, i.low, i.high))
    ]

-- the start and the end of the whole blocks of a window, in an array of n places
pub record AreWhole (n : ℕ) (w : Window) (from to : ℕ) : Type 0 where
  pub first : from ≡ (w.at + 255) / 256 * 256
  pub last : n ≤ w.at + w.length → to ≡ w.at + w.length
  pub inner : w.at + w.length < n → to ≡ (w.at + w.length) / 256 * 256

abbrev is_split : (n : ℕ) (w : Window) → ℕ → Bool
is_split n w i = not (has_block n w (i / 256))

block_parts : (n : ℕ) (w : Window) (from to : ℕ) → AreWhole n w from to → (i : ℕ) → w.at ≤ i → i < w.at + w.length
    → Parts (is_split n w) from to i
block_parts n w from to whole i low high =
    by_tests (nat_le w.at (256 * (i / 256))) (nat_le (min n (256 * (i / 256) + 256)) (w.at + w.length)) refl refl
  where
    ends : (w.at + w.length < n) ⊎ (n ≤ w.at + w.length) → ((w.at + w.length < n) × (to ≡ (w.at + w.length) / 256 * 256))
        ⊎ ((n ≤ w.at + w.length) × (to ≡ w.at + w.length))
    ends (inl h) = inl (h, whole.inner h)
    ends (inr h) = inr (h, whole.last h)

    by_tests : (x y : Bool) → nat_le w.at (256 * (i / 256)) ≡ x → nat_le (min n (256 * (i / 256) + 256)) (w.at + w.length) ≡ y
        → Parts (is_split n w) from to i
    by_tests false y e f = inl (record {
      passes = ap (λ b. not (b && nat_le (min n (256 * (i / 256) + 256)) (w.at + w.length))) e;
      out = inl (let lt = leb-false w.at (256 * (i / 256)) e in omega (arith, lt, whole.first));
    })
    by_tests true false e f = inl (record {
      passes = ap (λ b. not (b && nat_le (min n (256 * (i / 256) + 256)) (w.at + w.length))) e ∙ ap not f;
      out = inr (let lt = leb-false (min n (256 * (i / 256) + 256)) (w.at + w.length) f in
          let to_is = whole.inner (omega (arith, lt)) in omega (arith, lt, to_is));
    })
    by_tests true true e f = inr (record {
      passes = ap (λ b. not (b && nat_le (min n (256 * (i / 256) + 256)) (w.at + w.length))) e ∙ ap not f;
      low = let le = leb-true w.at (256 * (i / 256)) e in omega (arith, le, whole.first);
      high = let le = leb-true (min n (256 * (i / 256) + 256)) (w.at + w.length) f in
          let to_is = ends (cases_lt (w.at + w.length) n) in omega (arith, le, high, to_is);
    })

pub split_places-whole : (n : ℕ) (w : Window) (from to : ℕ) → AreWhole n w from to
    → w.length - (to - from) ≡ split_places (λ a. n) w
split_places-whole n w from to whole =
    let count = count_outside (is_split n w) from to w.at w.length (block_parts n w from to whole) in
    by_end (cases_lt (w.at + w.length) n) count
  where
    by_end : (w.at + w.length < n) ⊎ (n ≤ w.at + w.length)
        → count_by (is_split n w) (range_with_len w.at w.length) ≡ w.length - (min to (w.at + w.length) - max from w.at)
        → w.length - (to - from) ≡ count_by (is_split n w) (range_with_len w.at w.length)
    by_end (inl h) count = let to_is = whole.inner h in omega (arith, count, to_is, whole.first)
    by_end (inr h) count = let to_is = whole.last h in omega (arith, count, to_is, whole.first)

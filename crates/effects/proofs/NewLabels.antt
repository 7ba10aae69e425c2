-- A union that adds something adds a label.
use Rattle.std.proofs.Common.{◌≡◌, ◌⊎◌, inl, inr, ℕ, zero, suc, ◌+◌, ◌*◌, ◌/◌, ◌%◌, ◌^◌, ◌<◌, refl, sym, ap, subst, ◌∙◌, arith}
use Rattle.std.proofs.lemmas.Bool.{cases_lt}
use Rattle.std.proofs.lemmas.Nat.Bits.{bit_at-lt, bit_at_or, same_from_bits_below}
use Rattle.std.specs.Int.{bit_at}
use Rattle.std.specs.Prelude.{Bool, true, false, ◌||◌, bit_or}
use Rattle.effects.specs.LabelSets.{HasBit, HasNew, HasNewBit}
use Rattle.effects.proofs.LabelSetLemmas.{United}

-- the first n bits are there, or one is new
record NewBelow (old word n : ℕ) : Type 0 where
  bit : ℕ
  below : bit < n
  has : bit_at word bit ≡ 1
  missing : bit_at old bit ≡ 0

search : (old word n : ℕ) → ((i : ℕ) → i < n → bit_at word i ≡ 1 → bit_at old i ≡ 1) ⊎ NewBelow old word n
search old word zero = inl (λ i h e. absurd (omega (arith, h)))
search old word (suc n) = elim (search old word n) [
  | inr r ↦ inr (record { bit = r.bit; below = let b = r.below in omega (arith, b); has = r.has; missing = r.missing })
  | inl all ↦ at all (bit_at old n) (bit_at word n) refl refl
]
  where
    at : ((i : ℕ) → i < n → bit_at word i ≡ 1 → bit_at old i ≡ 1) → (x y : ℕ) → bit_at old n ≡ x → bit_at word n ≡ y
        → ((i : ℕ) → i < suc n → bit_at word i ≡ 1 → bit_at old i ≡ 1) ⊎ NewBelow old word (suc n)
    at all zero zero e f = inl (λ i h b. elim (cases_lt i n) [
      | inl l ↦ all i l b
      | inr past ↦
          let same : i ≡ n = omega (arith, h, past) in
          let none : bit_at word i ≡ 0 = ap (bit_at word) same ∙ f in
          absurd (omega (arith, b, none))
    ])
    at all zero (suc y) e f = inr (record { bit = n; below = omega arith; has = omega (arith, f, bit_at-lt word n); missing = e })
    at all (suc x) y e f = inl (λ i h b. elim (cases_lt i n) [
      | inl l ↦ all i l b
      | inr past ↦
          let same : i ≡ n = omega (arith, h, past) in
          ap (bit_at old) same ∙ (let one : bit_at old n ≡ 1 = omega (arith, e, bit_at-lt old n) in one)
    ])

-- a word that changes gets a new bit
pub new_bit : (old word : ℕ) → old < 2 ^ 64 → bit_or old word < 2 ^ 64 → (bit_or old word ≡ old → ⊥) → HasNewBit old word
new_bit old word within both changed = elim (search old word 64) [
  | inr r ↦ record { bit = r.bit; below = r.below; has = r.has; missing = r.missing }
  | inl all ↦ absurd (changed (same_from_bits_below 64 (bit_or old word) old both within (λ i h. same i (all i h))))
]
  where
    same : (i : ℕ) → (bit_at word i ≡ 1 → bit_at old i ≡ 1) → bit_at (bit_or old word) i ≡ bit_at old i
    same i there = elim (cases_lt (bit_at word i) 1) [
      | inl none ↦ omega (arith, none, bit_at_or old word i)
      | inr some ↦
          let one : bit_at word i ≡ 1 = omega (arith, some, bit_at-lt word i) in
          let had = there one in
          omega (arith, one, had, bit_at_or old word i)
    ]

-- and so does a set with a word that changes
new_label : (init other : ℕ → ℕ) (k : ℕ) → HasNewBit (init k) (other k) → HasNew (HasBit init) (HasBit other)
new_label init other k r =
    let below = r.below in
    let word : (k * 64 + r.bit) / 64 ≡ k = omega (arith, below) in
    let bit : (k * 64 + r.bit) % 64 ≡ r.bit = omega (arith, below) in
    record {
      label = k * 64 + r.bit;
      among = ap (λ n. bit_at (other n) ((k * 64 + r.bit) % 64)) word ∙ ap (bit_at (other k)) bit ∙ r.has;
      missing = λ h.
          let had : bit_at (init k) r.bit ≡ 1 =
          sym (ap (λ n. bit_at (init n) ((k * 64 + r.bit) % 64)) word ∙ ap (bit_at (init k)) bit) ∙ h in
          let none = r.missing in
          omega (arith, had, none);
    }

-- something was new up to here, or is here
pub new_so_far : (init other now : ℕ → ℕ) (k : ℕ) (grown here : Bool) → United init other now k
    → (here ≡ true → HasNewBit (now k) (other k)) → (grown ≡ true → HasNew (HasBit init) (HasBit other))
    → (grown || here) ≡ true → HasNew (HasBit init) (HasBit other)
new_so_far init other now k true here u new so_far h = so_far refl
new_so_far init other now k false here u new so_far h =
    new_label init other k (subst (λ w. HasNewBit w (other k)) (u.above k (omega arith)) (new h))

-- Bits of words, and labels of sets.
use Rattle.std.proofs.Common.{◌≡◌, ◌≢◌, ◌⊎◌, inl, inr, ℕ, zero, suc, ◌+◌, ◌*◌, ◌/◌, ◌%◌, ◌^◌, ◌<◌, ◌≤◌, max, refl, sym, ◌∙◌, ap, subst, arith}
use Rattle.std.proofs.Common.{eq-eqb, List, ◌++◌, length, take, take_all, replicate, true≢false}
use Rattle.std.proofs.lemmas.List.{get_or_past}
use Rattle.std.proofs.lemmas.Bool.{eqb-true, eqb-false, ltb-true, ltb-false, cases_lt}
use Rattle.std.proofs.lemmas.Nat.Bits.{bit_at-trailing_zeros, bit_at-zero, bit_at-lt, bit_at_or, bit_at-pow_same, bit_at-pow_other, shr_and_one}
use Rattle.std.specs.Int.{bit_at, trailing_zeros, w64}
use Rattle.std.specs.Prelude.{◌↔◌, Bool, true, false, nat_eq, nat_lt, IsTrue, bit_and, bit_or, ◌||◌, if◌then◌else◌, Some}
use Rattle.types.specs.Run.{bind, by_number}
use Rattle.types.proofs.Lists.{by_number-append-replicate}
use Rattle.effects.specs.LabelSets.{HasBit}
use Rattle.effects.specs.Least.{IsLeast}

pub bit_test : (w i : ℕ) → IsTrue (nat_eq (bit_and (w / 2 ^ i) 1) 1) ↔ (bit_at w i ≡ 1)
bit_test w i = (
  λ h. sym (shr_and_one w i) ∙ eqb-true (bit_and (w / 2 ^ i) 1) 1 h,
  λ h. eq-eqb (bit_and (w / 2 ^ i) 1) 1 (shr_and_one w i ∙ h),
)

pub no_bit : (i : ℕ) → bit_at 0 i ≡ 1 → ⊥
no_bit i h = omega (arith, bit_at-zero i)

or_bit_cases : (x y : ℕ) → x < 2 → y < 2 → max x y ≡ 1 → (x ≡ 1) ⊎ (y ≡ 1)
or_bit_cases zero y l m h = inr (omega arith)
or_bit_cases (suc x) y l m h = inl (omega arith)

or_bit_from : (a b i : ℕ) → bit_at (bit_or a b) i ≡ 1 → (bit_at a i ≡ 1) ⊎ (bit_at b i ≡ 1)
or_bit_from a b i h = or_bit_cases (bit_at a i) (bit_at b i) (bit_at-lt a i) (bit_at-lt b i) (sym (bit_at_or a b i) ∙ h)

or_bit_to : (a b i : ℕ) → (bit_at a i ≡ 1) ⊎ (bit_at b i ≡ 1) → bit_at (bit_or a b) i ≡ 1
or_bit_to a b i (inl h) = omega (arith, bit_at_or a b i, bit_at-lt b i)
or_bit_to a b i (inr h) = omega (arith, bit_at_or a b i, bit_at-lt a i)

-- a bit of two words together is one of the first or of the second
pub or_bit : (a b i : ℕ) → (bit_at (bit_or a b) i ≡ 1) ↔ ((bit_at a i ≡ 1) ⊎ (bit_at b i ≡ 1))
or_bit a b i = (or_bit_from a b i, or_bit_to a b i)

pow_bit_from : (k i : ℕ) (b : Bool) → nat_eq i k ≡ b → bit_at (2 ^ k) i ≡ 1 → i ≡ k
pow_bit_from k i true e h = eqb-true i k e
pow_bit_from k i false e h = absurd (omega (arith, h, bit_at-pow_other k i (eqb-false i k e)))

-- the one bit of a power
pub pow_bit : (k i : ℕ) → (bit_at (2 ^ k) i ≡ 1) ↔ (i ≡ k)
pow_bit k i = (pow_bit_from k i (nat_eq i k) refl, λ e. subst (λ j. bit_at (2 ^ k) j ≡ 1) (sym e) (bit_at-pow_same k))

united_case : (words : ℕ → ℕ) (k w l : ℕ) (b : Bool) → nat_eq k (l / 64) ≡ b
    → (bit_at (if b then bit_or (words k) w else words (l / 64)) (l % 64) ≡ 1) ↔ (HasBit words l ⊎ ((l / 64 ≡ k) × (bit_at w (l % 64) ≡ 1)))
united_case words k w l true e =
    let k_is : k ≡ l / 64 = eqb-true k (l / 64) e in
    let or = or_bit (words k) w (l % 64) in (
      λ h. elim (or.0 h) [ inl a ↦ inl (subst (λ n. bit_at (words n) (l % 64) ≡ 1) k_is a) | inr b ↦ inr (sym k_is, b) ],
      λ h. elim h [ inl a ↦ or.1 (inl (subst (λ n. bit_at (words n) (l % 64) ≡ 1) (sym k_is) a)) | inr b ↦ or.1 (inr b.1) ],
    )
united_case words k w l false e =
    (λ h. inl h, λ h. elim h [ inl a ↦ a | inr b ↦ absurd (eqb-false k (l / 64) e (sym b.0)) ])

-- the labels after a word is united with another
pub united : (words : ℕ → ℕ) (k w l : ℕ)
    → HasBit (bind k (bit_or (words k) w) words) l ↔ (HasBit words l ⊎ ((l / 64 ≡ k) × (bit_at w (l % 64) ≡ 1)))
united words k w l = united_case words k w l (nat_eq k (l / 64)) refl

-- a label and its bit
same_label : (l k : ℕ) → l / 64 ≡ k / 64 → l % 64 ≡ k % 64 → l ≡ k
same_label l k h e = omega arith

-- the labels after a label's bit is set
pub inserted : (words new : ℕ → ℕ) (k w : ℕ) → w ≡ 2 ^ (k % 64) → new ≡ bind (k / 64) (bit_or (words (k / 64)) w) words
    → (l : ℕ) → HasBit new l ↔ (HasBit words l ⊎ (l ≡ k))
inserted words new k w w_is e l =
    let u = united words (k / 64) w l in
    let pow = pow_bit (k % 64) (l % 64) in (
      λ h. elim (u.0 (subst (λ (f : ℕ → ℕ). HasBit f l) e h)) [
        | inl a ↦ inl a
        | inr b ↦ inr (same_label l k b.0 (pow.0 (subst (λ n. bit_at n (l % 64) ≡ 1) w_is b.1)))
      ],
      λ h. subst (λ (f : ℕ → ℕ). HasBit f l) (sym e) (u.1 (elim h [
        | inl a ↦ inl a
        | inr b ↦ inr (ap (λ n. n / 64) b, subst (λ n. bit_at n (l % 64) ≡ 1) (sym w_is) (pow.1 (ap (λ n. n % 64) b)))
      ])),
    )

-- two sets of words, united up to word k
pub record United (init other now : ℕ → ℕ) (k : ℕ) : Type 0 where
  pub below : (i : ℕ) → i < k → now i ≡ bit_or (init i) (other i)
  pub above : (i : ℕ) → k ≤ i → now i ≡ init i

bind_same : (k v : ℕ) (f : ℕ → ℕ) (i : ℕ) (b : Bool) → nat_eq k i ≡ b → i ≡ k → (if b then v else f i) ≡ v
bind_same k v f i true e h = refl
bind_same k v f i false e h = absurd (eqb-false k i e (sym h))

bind_other : (k v : ℕ) (f : ℕ → ℕ) (i : ℕ) (b : Bool) → nat_eq k i ≡ b → (i ≡ k → ⊥) → (if b then v else f i) ≡ f i
bind_other k v f i true e h = absurd (h (sym (eqb-true k i e)))
bind_other k v f i false e h = refl

at_word : (new f : ℕ → ℕ) (k v i : ℕ) → new ≡ bind k v f → i ≡ k → new i ≡ v
at_word new f k v i e h = ap (λ (g : ℕ → ℕ). g i) e ∙ bind_same k v f i (nat_eq k i) refl h

beside_word : (new f : ℕ → ℕ) (k v i : ℕ) → new ≡ bind k v f → (i ≡ k → ⊥) → new i ≡ f i
beside_word new f k v i e h = ap (λ (g : ℕ → ℕ). g i) e ∙ bind_other k v f i (nat_eq k i) refl h

united_below : (init other now new : ℕ → ℕ) (k : ℕ) → United init other now k
    → new ≡ bind k (bit_or (now k) (other k)) now → (i : ℕ) → i < k + 1 → (b : Bool) → nat_eq i k ≡ b
    → new i ≡ bit_or (init i) (other i)
united_below init other now new k u e i h true j =
    let i_is : i ≡ k = eqb-true i k j in
    at_word new now k (bit_or (now k) (other k)) i e i_is
    ∙ ap (λ n. bit_or n (other k)) (u.above k (omega arith))
    ∙ ap (λ n. bit_or (init n) (other n)) (sym i_is)
united_below init other now new k u e i h false j =
    let ne : i ≢ k = eqb-false i k j in
    beside_word new now k (bit_or (now k) (other k)) i e ne ∙ u.below i (omega arith)

pub united_more : (init other now new : ℕ → ℕ) (k : ℕ) → United init other now k
    → new ≡ bind k (bit_or (now k) (other k)) now → United init other new (k + 1)
united_more init other now new k u e = record {
  below = λ i h. united_below init other now new k u e i h (nat_eq i k) refl;
  above = λ i h. beside_word new now k (bit_or (now k) (other k)) i e (λ (j : i ≡ k). omega arith) ∙ u.above i (omega arith);
}

unchanged_case : (now new : ℕ → ℕ) (k w : ℕ) → new ≡ bind k (bit_or (now k) w) now → bit_or (now k) w ≡ now k
    → (i : ℕ) (b : Bool) → nat_eq i k ≡ b → new i ≡ now i
unchanged_case now new k w e same i true j =
    let i_is : i ≡ k = eqb-true i k j in
    at_word new now k (bit_or (now k) w) i e i_is ∙ same ∙ ap now (sym i_is)
unchanged_case now new k w e same i false j = beside_word new now k (bit_or (now k) w) i e (eqb-false i k j)

-- if nothing is new, the words are unchanged
pub unchanged : (now new : ℕ → ℕ) (k w : ℕ) → new ≡ bind k (bit_or (now k) w) now → bit_or (now k) w ≡ now k
    → (i : ℕ) → new i ≡ now i
unchanged now new k w e same i = unchanged_case now new k w e same i (nat_eq i k) refl

united_label_case : (init other now : ℕ → ℕ) (k : ℕ) → United init other now k → ((i : ℕ) → k ≤ i → other i ≡ 0)
    → (l : ℕ) (b : Bool) → nat_lt (l / 64) k ≡ b → HasBit now l ↔ (HasBit init l ⊎ HasBit other l)
united_label_case init other now k u past l true e =
    let is = u.below (l / 64) (ltb-true (l / 64) k e) in
    let or = or_bit (init (l / 64)) (other (l / 64)) (l % 64) in
    (λ h. or.0 (subst (λ n. bit_at n (l % 64) ≡ 1) is h), λ h. subst (λ n. bit_at n (l % 64) ≡ 1) (sym is) (or.1 h))
united_label_case init other now k u past l false e =
    let is = u.above (l / 64) (ltb-false (l / 64) k e) in (
      λ h. inl (subst (λ n. bit_at n (l % 64) ≡ 1) is h),
      λ h. elim h [
        | inl a ↦ subst (λ n. bit_at n (l % 64) ≡ 1) (sym is) a
        | inr b ↦ absurd (no_bit (l % 64) (subst (λ n. bit_at n (l % 64) ≡ 1) (past (l / 64) (ltb-false (l / 64) k e)) b))
      ],
    )

-- the labels of two sets, united as far as the second goes
pub united_labels : (init other now : ℕ → ℕ) (k : ℕ) → United init other now k → ((i : ℕ) → k ≤ i → other i ≡ 0)
    → (l : ℕ) → HasBit now l ↔ (HasBit init l ⊎ HasBit other l)
united_labels init other now k u past l = united_label_case init other now k u past l (nat_lt (l / 64) k) refl

nothing_below : (words : ℕ → ℕ) (k w : ℕ) → words k ≡ w → trailing_zeros w64 w < 64
    → ((i : ℕ) → i < trailing_zeros w64 w → bit_at w i ≡ 0) → ((i : ℕ) → i < k → words i ≡ 0)
    → (m : ℕ) → HasBit words m → m < k * 64 + trailing_zeros w64 w → (b : Bool) → nat_lt (m / 64) k ≡ b → ⊥
nothing_below words k w e low none zeros m h c true j =
    no_bit (m % 64) (subst (λ n. bit_at n (m % 64) ≡ 1) (zeros (m / 64) (ltb-true (m / 64) k j)) h)
nothing_below words k w e low none zeros m h c false j =
    let at_least : k ≤ m / 64 = ltb-false (m / 64) k j in
    let word : m / 64 ≡ k = omega arith in
    let bit : m % 64 < trailing_zeros w64 w = omega arith in
    let is : bit_at w (m % 64) ≡ 1 = subst (λ n. bit_at n (m % 64) ≡ 1) (ap words word ∙ e) h in
    omega (arith, is, none (m % 64) bit)

not_less : (words : ℕ → ℕ) (k w : ℕ) → words k ≡ w → trailing_zeros w64 w < 64
    → ((i : ℕ) → i < trailing_zeros w64 w → bit_at w i ≡ 0) → ((i : ℕ) → i < k → words i ≡ 0)
    → (m : ℕ) → HasBit words m → (b : Bool) → nat_lt m (k * 64 + trailing_zeros w64 w) ≡ b → k * 64 + trailing_zeros w64 w ≤ m
not_less words k w e low none zeros m h false c = ltb-false m (k * 64 + trailing_zeros w64 w) c
not_less words k w e low none zeros m h true c =
    absurd (nothing_below words k w e low none zeros m h (ltb-true m (k * 64 + trailing_zeros w64 w) c) (nat_lt (m / 64) k) refl)

-- the smallest label is the lowest bit of the first word that isn't zero
pub least_bit : (words : ℕ → ℕ) (k w : ℕ) → words k ≡ w → (w ≡ 0 → ⊥) → w < 2 ^ 64 → ((i : ℕ) → i < k → words i ≡ 0)
    → IsLeast (HasBit words) (Some (k * 64 + trailing_zeros w64 w))
least_bit words k w e positive fits zeros =
    let t = bit_at-trailing_zeros w64 w (omega arith) fits in
    let low : trailing_zeros w64 w < 64 = t.0 in
    let word : (k * 64 + trailing_zeros w64 w) / 64 ≡ k = omega arith in
    let bit : (k * 64 + trailing_zeros w64 w) % 64 ≡ trailing_zeros w64 w = omega arith in (
      ap (λ n. bit_at (words n) ((k * 64 + trailing_zeros w64 w) % 64)) word
          ∙ ap (λ n. bit_at n ((k * 64 + trailing_zeros w64 w) % 64)) e ∙ ap (bit_at w) bit ∙ t.1,
      λ m h. not_less words k w e low t.2 zeros m h (nat_lt m (k * 64 + trailing_zeros w64 w)) refl,
    )

-- zeros after the words change nothing
pub filled : (xs ys : List ℕ) (n m : ℕ) → length xs ≤ n → ys ≡ take n xs ++ replicate m 0 → by_number 0 ys ≡ by_number 0 xs
filled xs ys n m h e = ap (by_number 0) (e ∙ ap (λ (zs : List ℕ). zs ++ replicate m 0) (take_all n xs h)) ∙ by_number-append-replicate 0 xs m

no_label_case : (words : ℕ → ℕ) (k : ℕ) → ((i : ℕ) → i < k → words i ≡ 0) → ((i : ℕ) → k ≤ i → words i ≡ 0) → (l : ℕ) → HasBit words l
    → (b : Bool) → nat_lt (l / 64) k ≡ b → ⊥
no_label_case words k below above l h true e = no_bit (l % 64) (subst (λ n. bit_at n (l % 64) ≡ 1) (below (l / 64) (ltb-true (l / 64) k e)) h)
no_label_case words k below above l h false e = no_bit (l % 64) (subst (λ n. bit_at n (l % 64) ≡ 1) (above (l / 64) (ltb-false (l / 64) k e)) h)

-- a set without bits has no smallest label
pub no_label : (words : ℕ → ℕ) (k : ℕ) → ((i : ℕ) → i < k → words i ≡ 0) → ((i : ℕ) → k ≤ i → words i ≡ 0) → (l : ℕ) → HasBit words l → ⊥
no_label words k below above l h = no_label_case words k below above l h (nat_lt (l / 64) k) refl

-- there are zeros past the end of a list
pub zeros_behind : (xs : List ℕ) (i : ℕ) → length xs ≤ i → by_number 0 xs i ≡ 0
zeros_behind xs i h = get_or_past xs i 0 h

-- nothing was new up to here, and nothing is new here
pub still_unchanged : (init now new : ℕ → ℕ) (k w : ℕ) (grown here : Bool) → new ≡ bind k (bit_or (now k) w) now
    → (here ≡ false → bit_or (now k) w ≡ now k) → (grown ≡ false → (i : ℕ) → now i ≡ init i)
    → (grown || here) ≡ false → (i : ℕ) → new i ≡ init i
still_unchanged init now new k w true here e same so_far h i = absurd (true≢false h)
still_unchanged init now new k w false here e same so_far h i = unchanged now new k w e (same h) i ∙ so_far refl i

-- there are no labels after the last word
pub bits_end : (xs : List ℕ) (l : ℕ) → HasBit (by_number 0 xs) l → l < length xs * 64
bits_end xs l h = elim (cases_lt (l / 64) (length xs)) [
  | inl less ↦ omega arith
  | inr past ↦ absurd (no_bit (l % 64) (subst (λ w. bit_at w (l % 64) ≡ 1) (zeros_behind xs (l / 64) past) h))
]

-- The order of races.
use Rattle.std.proofs.Common.{◌≡◌, ℕ, ◌≤◌, ◌<◌, Bool, true, false, List, [], ◌∷◌, if◌then◌else◌, nat_eq, nat_lt, refl, sym}
use Rattle.std.proofs.Common.{ap, ◌∙◌, subst, arith, true≢false}
use Rattle.std.proofs.lemmas.Bool.Decides.{nat_tests}
use Rattle.std.proofs.lemmas.Bool.{ltb-true, eqb-true}
use Rattle.std.specs.Prelude.{Option, Some, cond}
use Rattle.std.proofs.Common.{Ordering, Less, Equal, Greater}
use Rattle.std.specs.Ordering.{is_lt, is_some_and, nat_cmp, partial_lt, partial_ordering_then}
use Rattle.std.specs.Cmp.Lexicographic.{slice_partial_cmp}
use Rattle.effects.specs.Accesses.{Access}
use Rattle.race_checker.specs.Races.{is_less, kind_number, access_key, Race, race_key, comes_before}

-- the first numbers, if the rest is in order
heads_trans : (x y z : ℕ) (a b c : Bool) → (a ≡ false → b ≡ false → c ≡ false)
    → (if nat_eq y x then a else nat_lt y x) ≡ false → (if nat_eq z y then b else nat_lt z y) ≡ false
    → (if nat_eq z x then c else nat_lt z x) ≡ false
heads_trans x y z a b c rest p q = grind (arith, nat_tests)

heads_one : (x y : ℕ) (a b : Bool) → (a ≡ true → b ≡ false) → (if nat_eq x y then a else nat_lt x y) ≡ true
    → (if nat_eq y x then b else nat_lt y x) ≡ false
heads_one x y a b rest p = grind (arith, nat_tests)

-- what doesn't come before the second, which doesn't come before the first
pub not_less_trans : (xs ys zs : List ℕ) → is_less ys xs ≡ false → is_less zs ys ≡ false → is_less zs xs ≡ false
not_less_trans [] ys zs p q = refl
not_less_trans (x ∷ xs) [] zs p q = absurd (true≢false p)
not_less_trans (x ∷ xs) (y ∷ ys) [] p q = absurd (true≢false q)
not_less_trans (x ∷ xs) (y ∷ ys) (z ∷ zs) p q = heads_trans x y z _ _ _ (not_less_trans xs ys zs) p q

-- of two only one comes before the other
pub not_both_less : (xs ys : List ℕ) → is_less xs ys ≡ true → is_less ys xs ≡ false
not_both_less [] ys p = refl
not_both_less (x ∷ xs) [] p = absurd (true≢false (sym p))
not_both_less (x ∷ xs) (y ∷ ys) p = heads_one x y _ _ (not_both_less xs ys) p

-- nothing comes before itself
pub not_less_itself : (xs : List ℕ) → is_less xs xs ≡ false
not_less_itself xs = by (is_less xs xs) refl
  where
    by : (b : Bool) → is_less xs xs ≡ b → is_less xs xs ≡ false
    by true e = not_both_less xs xs e
    by false e = e

-- a first number that is no smaller, and a rest that isn't less if the first numbers are equal
heads : (x y : ℕ) (b : Bool) → y ≤ x → (x ≡ y → b ≡ false) → (if nat_eq x y then b else nat_lt x y) ≡ false
heads x y b h rest = grind (arith, nat_tests)

head_of : (x y : ℕ) (b : Bool) → (if nat_eq x y then b else nat_lt x y) ≡ false → y ≤ x
head_of x y b h = grind (arith, nat_tests)

rest_of : (x y : ℕ) (b : Bool) → (if nat_eq x y then b else nat_lt x y) ≡ false → x ≡ y → b ≡ false
rest_of x y b h e = grind (arith, nat_tests)

-- two rows of two numbers, neither of which is less, combined both ways
both_ways : (s k t j : ℕ) → is_less (t ∷ j ∷ []) (s ∷ k ∷ []) ≡ false → is_less (s ∷ k ∷ []) (t ∷ j ∷ []) ≡ false
    → is_less (s ∷ k ∷ t ∷ j ∷ []) (t ∷ j ∷ s ∷ k ∷ []) ≡ false
both_ways s k t j h g =
    heads s t _ first (λ e. heads k j _ (second e) (λ d. heads t s _ (omega arith) (λ b. heads j k _ (omega arith) (λ a. refl))))
  where
    first : t ≤ s
    first = head_of s t _ g

    second : s ≡ t → j ≤ k
    second e = head_of k j _ (rest_of s t _ g e)

module _ (f a b c d s t k j : ℕ) where
  -- a race at labels that are no larger, with the same accesses in the same order
  lower_labels : c ≤ a → d ≤ b
      → is_less (a ∷ b ∷ f ∷ s ∷ k ∷ t ∷ j ∷ []) (c ∷ d ∷ f ∷ s ∷ k ∷ t ∷ j ∷ []) ≡ false
  lower_labels h g = heads a c _ h (λ e. heads b d _ g (λ i. not_less_itself (f ∷ s ∷ k ∷ t ∷ j ∷ [])))

  -- a race at labels that are no larger, with the same accesses in the other order: (a, s, k) is
  -- no larger than (b, t, j), but (c, s, k) no smaller than (d, t, j)
  other_order : c ≤ a → d ≤ b → is_less (b ∷ t ∷ j ∷ []) (a ∷ s ∷ k ∷ []) ≡ false
      → is_less (c ∷ s ∷ k ∷ []) (d ∷ t ∷ j ∷ []) ≡ false
      → is_less (a ∷ b ∷ f ∷ s ∷ k ∷ t ∷ j ∷ []) (d ∷ c ∷ f ∷ t ∷ j ∷ s ∷ k ∷ []) ≡ false
  other_order h g one two =
      let swapped : d ≤ c = head_of c d _ two in
      let ordered : a ≤ b = head_of b a _ one in
      heads a d _ (omega arith) (λ e. heads b c _ (omega arith) (λ i. heads f f _ (omega arith) (λ x.
      both_ways s k t j (rest_of b a _ one (omega arith)) (rest_of c d _ two (omega arith)))))

-- two accesses with others to the same sections, of the same kinds, at labels that are no larger
pub record Earlier (x y : Access) : Type 0 where
  pub section : x.section ≡ y.section
  pub write : x.write ≡ y.write
  pub label : x.label ≤ y.label

abbrev pub told : (f : ℕ) (x y : Access) → Race
told f x y = record { procedure = f; first = x; second = y }

abbrev moved : Access → Access → Access
moved x y = record y { label = x.label }

moved_same : (x y : Access) → Earlier x y → x ≡ moved x y
moved_same x y h = ap (λ s. with s x.write) h.section ∙ ap (with y.section) h.write
  where
    with : ℕ → Bool → Access
    with s w = record { label = x.label; section = s; write = w }

-- the race of earlier accesses isn't later, in the same order
pub earlier_in_order : (f : ℕ) (x y a b : Access) → Earlier a x → Earlier b y
    → comes_before (told f x y) (told f a b) ≡ false
earlier_in_order f x y a b h g =
    subst (λ (r : Race). comes_before (told f x y) r ≡ false)
    (ap (λ (z : Access). told f z (moved b y)) (sym (moved_same a x h)) ∙ ap (told f a) (sym (moved_same b y g)))
    (lower_labels f x.label y.label a.label b.label x.section y.section (kind_number x.write) (kind_number y.write) h.label g.label)

-- nor is it later in the other order, if that is the order of the earlier accesses
pub earlier_other_order : (f : ℕ) (x y a b : Access) → Earlier a x → Earlier b y
    → is_less (access_key y) (access_key x) ≡ false → is_less (access_key a) (access_key b) ≡ false
    → comes_before (told f x y) (told f b a) ≡ false
earlier_other_order f x y a b h g one two =
    subst (λ (r : Race). comes_before (told f x y) r ≡ false)
    (ap (λ (z : Access). told f z (moved a x)) (sym (moved_same b y g)) ∙ ap (told f b) (sym (moved_same a x h)))
    (other_order f x.label y.label a.label b.label x.section y.section (kind_number x.write) (kind_number y.write) h.label g.label
    one
    (subst (λ (z : Access). is_less (access_key z) (access_key (moved b y)) ≡ false) (moved_same a x h)
    (subst (λ (z : Access). is_less (access_key a) (access_key z) ≡ false) (moved_same b y g) two)))

first_decides : (b c : Bool) (rest : Option Ordering) → (b ≡ true → c ≡ true → ⊥)
    → is_some_and is_lt (partial_ordering_then (Some (cond b Less (cond c Equal Greater))) rest)
    ≡ (if c then is_some_and is_lt rest else b)
first_decides true true rest h = absurd (h refl refl)
first_decides true false rest h = refl
first_decides false true rest h = refl
first_decides false false rest h = refl

-- how rows of numbers are compared
pub compared : (xs ys : List ℕ) → partial_lt (slice_partial_cmp (λ x y. Some (nat_cmp x y))) xs ys ≡ is_less xs ys
compared [] [] = refl
compared [] (y ∷ ys) = refl
compared (x ∷ xs) [] = refl
compared (x ∷ xs) (y ∷ ys) =
    first_decides (nat_lt x y) (nat_eq x y) (slice_partial_cmp (λ x y. Some (nat_cmp x y)) xs ys)
    (λ less same. let h : x < y = ltb-true x y less in let e : x ≡ y = eqb-true x y same in absurd (omega arith))
    ∙ ap (λ b. if nat_eq x y then b else nat_lt x y) (compared xs ys)

pub compared_keys : (xs ys : List ℕ) (r s : Race) (b : Bool) → xs ≡ race_key r → ys ≡ race_key s
    → b ≡ partial_lt (slice_partial_cmp (λ x y. Some (nat_cmp x y))) xs ys → b ≡ comes_before r s
compared_keys xs ys r s b d e h =
    h ∙ compared xs ys ∙ ap (λ (zs : List ℕ). is_less zs ys) d ∙ ap (λ (zs : List ℕ). is_less (race_key r) zs) e

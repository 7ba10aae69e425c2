-- A value depends only on the places of the sections that its expression indexes.
use Rattle.std.proofs.Common.{◌≡◌, ℕ, ◌+◌, List, [], ◌∷◌, ◌++◌, Some, None, Ok, Err, refl, ap, ◌∙◌, arith}
use Rattle.std.proofs.lemmas.Bool.{ltb-true}
use Rattle.std.proofs.lemmas.List.Elements.{Contains-append_left, Contains-append_right}
use Rattle.std.specs.Prelude.{ℤ, pos, negsuc, neg_ℤ, nat_lt, Bool, true, false, not, ok_or, if◌then◌else◌}
use Rattle.types.specs.declared.fault.FaultKind.TheVariants.{Index}
use Rattle.types.specs.Code.{Number, Literal, Scalar, Element, Length, Negative, Chain, Links, Done, Link, Truth}
use Rattle.types.specs.Code.{Constant, Compare, Not, Both, Either, Truths, NoMore, Also}
use Rattle.sections.specs.Place.{Window, Place, In}
use Rattle.types.specs.Value.{Environment, Valued, then_try, element_of, within_64_bits, operate, holds, number, links, truth, all, any}
use Rattle.types.specs.Indexed.{indexed, indexed_links, indexed_truth, indexed_truths}
use Rattle.types.specs.Laws.{SameOn}

then_try-same : {A B : Type 0} (x y : Valued A) (f g : A → Valued B) → x ≡ y → ((a : A) → f a ≡ g a) → then_try x f ≡ then_try y g
then_try-same x y f g e h = each x ∙ ap (λ y. then_try y g) e
  where
    each : (x : _) → then_try x f ≡ then_try x g
    each (Ok a) = h a
    each (Err k) = refl

module _ (env : Environment) (read other : Place → ℤ) where
  abbrev Same : List ℕ → Type 0
  Same ss = SameOn env ss read other

  same_left : (xs ys : List ℕ) → Same (xs ++ ys) → Same xs
  same_left xs ys h s c = h s (Contains-append_left xs ys s c)

  same_right : (xs ys : List ℕ) → Same (xs ++ ys) → Same ys
  same_right xs ys h s c = h s (Contains-append_right xs ys s c)

  same_first : (s : ℕ) (ss : List ℕ) → Same (s ∷ ss) → (q : Place) → In (env.windows s) q → read q ≡ other q
  same_first s ss h = h s (0, omega arith, refl)

  element_same : (w : Window) (v : ℤ) → ((q : Place) → In w q → read q ≡ other q)
      → then_try (element_of w v) (λ q. Ok (read q)) ≡ then_try (element_of w v) (λ q. Ok (other q))
  element_same w (negsuc n) h = refl
  element_same w (pos n) h =
      inside (nat_lt n w.length) (λ e. let lt = ltb-true n w.length e in
      record { array = refl; low = omega arith; high = omega (arith, lt) })
    where
      q : Place
      q = record { array = w.array; index = w.at + n }

      inside : (b : Bool) → (b ≡ true → In w q)
          → then_try (ok_or (if b then Some q else None) Index) (λ q. Ok (read q))
          ≡ then_try (ok_or (if b then Some q else None) Index) (λ q. Ok (other q))
      inside true k = ap Ok (h q (k refl))
      inside false k = refl

  mutual
    pub number_same : (e : Number) → Same (indexed e) → number env read e ≡ number env other e
    number_same (Literal v) h = refl
    number_same (Scalar x) h = refl
    number_same (Element s i) h =
        then_try-same (number env read i) (number env other i) _ _ (number_same i (same_right (s ∷ []) (indexed i) h))
        (λ v. element_same (env.windows s) v (same_first s (indexed i) h))
    number_same (Length s) h = refl
    number_same (Negative e) h = ap (λ x. then_try x (λ v. within_64_bits (neg_ℤ v))) (number_same e h)
    number_same (Chain e rest) h =
        then_try-same (number env read e) (number env other e) (links env read rest) (links env other rest)
        (number_same e (same_left (indexed e) (indexed_links rest) h)) (links_same rest (same_right (indexed e) (indexed_links rest) h))

    links_same : (rest : Links) → Same (indexed_links rest) → (x : ℤ) → links env read rest x ≡ links env other rest x
    links_same Done h x = refl
    links_same (Link o e rest) h x =
        then_try-same (number env read e) (number env other e) _ _ (number_same e (same_left (indexed e) (indexed_links rest) h))
        (λ y. then_try-same (operate o x y) (operate o x y) (links env read rest)
        (links env other rest) refl (links_same rest (same_right (indexed e) (indexed_links rest) h)))

  -- the first of several, and what follows it
  first_same : (t : Truth) (rest : Truths) → (Same (indexed_truth t) → truth env read t ≡ truth env other t)
      → Same (indexed_truths (Also t rest)) → (f g : Bool → Valued Bool)
      → (Same (indexed_truths rest) → (b : Bool) → f b ≡ g b) → then_try (truth env read t) f ≡ then_try (truth env other t) g
  first_same t rest one h f g go =
      then_try-same (truth env read t) (truth env other t) f g (one (same_left (indexed_truth t) (indexed_truths rest) h))
      (go (same_right (indexed_truth t) (indexed_truths rest) h))

  mutual
    pub truth_same : (t : Truth) → Same (indexed_truth t) → truth env read t ≡ truth env other t
    truth_same (Constant b) h = refl
    truth_same (Compare r a b) h =
        then_try-same (number env read a) (number env other a) _ _ (number_same a (same_left (indexed a) (indexed b) h))
        (λ x. ap (λ v. then_try v (λ y. Ok (holds r x y))) (number_same b (same_right (indexed a) (indexed b) h)))
    truth_same (Not t) h = ap (λ v. then_try v (λ b. Ok (not b))) (truth_same t h)
    truth_same (Both ts) h = all_same ts h true
    truth_same (Either ts) h = any_same ts h false

    all_same : (ts : Truths) → Same (indexed_truths ts) → (b : Bool) → all env read ts b ≡ all env other ts b
    all_same NoMore h b = refl
    all_same (Also t rest) h false = refl
    all_same (Also t rest) h true = first_same t rest (truth_same t) h (all env read rest) (all env other rest) (all_same rest)

    any_same : (ts : Truths) → Same (indexed_truths ts) → (b : Bool) → any env read ts b ≡ any env other ts b
    any_same NoMore h b = refl
    any_same (Also t rest) h true = refl
    any_same (Also t rest) h false = first_same t rest (truth_same t) h (any env read rest) (any env other rest) (any_same rest)

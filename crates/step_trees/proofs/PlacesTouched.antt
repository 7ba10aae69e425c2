-- What a step reads and writes lies in the sections that its statement names.
use Rattle.std.proofs.Common.{◌≡◌, inl, inr, ℕ, List, [], ◌∷◌, ◌++◌, refl, subst, Ok, Err}
use Rattle.std.specs.Prelude.{ℤ, Bool, true, false, flat_map}
use Rattle.types.proofs.Bindings.{element_in}
use Rattle.sections.specs.Place.{Place, In}
use Rattle.sections.specs.Member.{Member, first, next}
use Rattle.types.specs.Code.{Number, Literal, Scalar, Element, Length, Negative, Chain, Links, Done, Link, Truth, Constant, Compare, Not, Both, Either, Truths, NoMore, Also, Primitive, Skip, Assign, Store, Print, Raise, Code, Do, If, While, Split, Parts, Begun, Call, Async}
use Rattle.types.specs.Code.{Finish, Rescue}
use Rattle.types.specs.Indexed.{indexed, indexed_links, indexed_truth, indexed_truths}
use Rattle.types.specs.Value.{Environment, Valued, then_try, element_of, operate, number, truth}
use Rattle.types.specs.TreePlaces.{after, number_reads, links_read, numbers_read, truth_reads, all_read, any_read, primitive_reads, step_reads, step_writes}
use Rattle.effects.specs.Accesses.{Access, reads, own_accesses, own_primitive}
use Rattle.effects.specs.Footprint.{Touches, Overwrites}
use Rattle.effects.proofs.Members.{in_left, in_right, in_map, in_parts}

none_in : {A : Type 0} {B : Type 0} {x : A} → Member x [] → B
none_in h = elim h [ ]

-- a place that follows a value
after_in : {A B : Type 0} {q : Place} (r : Valued A) (go : A → List Place) → Member q (after r go)
    → ((v : A) → r ≡ Ok v → Member q (go v) → B) → B
after_in (Ok v) go h f = f v refl h
after_in (Err e) go h f = none_in h

value_of : {A B : Type 0} (r : Valued A) (f : A → Valued B) (b : B) → then_try r f ≡ Ok b
    → (a : A) × (r ≡ Ok a) × (f a ≡ Ok b)
value_of (Ok a) f b e = (a, refl, e)
value_of (Err x) f b e = cc

module _ (env : Environment) (contents : Place → ℤ) (q : Place) where
  -- the place lies in one of these sections
  record LiesIn (ss : List ℕ) : Type 0 where
    section : ℕ
    among : Member section ss
    place : In (env.windows section) q

  more : {ss ts : List ℕ} → ((s : ℕ) → Member s ss → Member s ts) → LiesIn ss → LiesIn ts
  more f h = record { section = h.section; among = f h.section h.among; place = h.place }

  parts : {A : Type 0} (xs : List Place) {ys : List Place} → Member q (xs ++ ys) → (Member q xs → A)
      → (Member q ys → A) → A
  parts xs h f g = elim (in_parts xs h) [ inl h ↦ f h | inr h ↦ g h ]

  -- it is read first, or after a value that depends on what is read first
  either_in : {A : Type 0} (x : Valued A) (go : A → List Place) (own : List Place) (ss ts : List ℕ) → (Member q own → LiesIn ss)
      → ((v : A) → Member q (go v) → LiesIn ts) → Member q (own ++ after x go) → LiesIn (ss ++ ts)
  either_in x go own ss ts early later h = parts own h
      (λ h. more (λ x m. in_left ts m) (early h))
      (λ h. after_in x go h (λ v k m. more (λ x m. in_right ss m) (later v m)))

  only : {A : Type 0} {r : Place} → Member q (r ∷ []) → (r ≡ q → A) → A
  only Member.first f = f refl
  only (Member.next h) f = none_in h

  mutual
    number_in : (e : Number) → Member q (number_reads env contents e) → LiesIn (indexed e)
    number_in (Literal n) h = none_in h
    number_in (Scalar x) h = none_in h
    number_in (Element s e) h = parts (number_reads env contents e) h
        (λ h. more (λ x m. next m) (number_in e h))
        (λ h. after_in (then_try (number env contents e) (element_of (env.windows s))) (λ q. q ∷ []) h (λ r v m.
        let x = value_of (number env contents e) (element_of (env.windows s)) r v in
        only m (λ same. record { section = s; among = first; place = subst (In (env.windows s)) same (element_in (env.windows s) x.0 r x.2) })))
    number_in (Length s) h = none_in h
    number_in (Negative e) h = number_in e h
    number_in (Chain e rest) h =
        either_in (number env contents e) (links_read env contents rest) _ _ _ (number_in e) (links_in rest) h

    links_in : (rest : Links) (x : ℤ) → Member q (links_read env contents rest x) → LiesIn (indexed_links rest)
    links_in Done x h = none_in h
    links_in (Link o e rest) x h =
        either_in (then_try (number env contents e) (operate o x)) (links_read env contents rest) _ _ _ (number_in e) (links_in rest) h

  numbers_in : (es : List Number) → Member q (numbers_read env contents es) → LiesIn (flat_map indexed es)
  numbers_in [] h = none_in h
  numbers_in (e ∷ es) h =
      either_in (number env contents e) (λ v. numbers_read env contents es) _ _ _ (number_in e) (λ v m. numbers_in es m) h

  mutual
    truth_in : (t : Truth) → Member q (truth_reads env contents t) → LiesIn (indexed_truth t)
    truth_in (Constant b) h = none_in h
    truth_in (Compare r a b) h =
        either_in (number env contents a) (λ x. number_reads env contents b) _ _ _ (number_in a) (λ v m. number_in b m) h
    truth_in (Not t) h = truth_in t h
    truth_in (Both ts) h = all_in ts true h
    truth_in (Either ts) h = any_in ts false h

    all_in : (ts : Truths) (b : Bool) → Member q (all_read env contents ts b) → LiesIn (indexed_truths ts)
    all_in NoMore b h = none_in h
    all_in (Also t rest) false h = none_in h
    all_in (Also t rest) true h =
        either_in (truth env contents t) (all_read env contents rest) _ _ _ (truth_in t) (all_in rest) h

    any_in : (ts : Truths) (b : Bool) → Member q (any_read env contents ts b) → LiesIn (indexed_truths ts)
    any_in NoMore b h = none_in h
    any_in (Also t rest) true h = none_in h
    any_in (Also t rest) false h =
        either_in (truth env contents t) (any_read env contents rest) _ _ _ (truth_in t) (any_in rest) h

  -- as accesses
  as_reads : (l : ℕ) {ss : List ℕ} {xs : List Access} → ((x : Access) → Member x (reads l ss) → Member x xs)
      → LiesIn ss → Touches env (λ x. Member x xs) q
  as_reads l f h = record {
    access = record { label = l; section = h.section; write = false };
    among = f (record { label = l; section = h.section; write = false }) (in_map (λ s. record { label = l; section = s; write = false }) h.among);
    place = h.place;
  }

  primitive_touches : (l : ℕ) (s : Primitive) → Member q (primitive_reads env contents s)
      → Touches env (λ x. Member x (own_primitive l s)) q
  primitive_touches l Skip h = none_in h
  primitive_touches l (Assign x e) h = as_reads l (λ x m. m) (number_in e h)
  primitive_touches l (Store s i e) h = as_reads l (λ x m. next m)
      (either_in (number env contents i) (λ at. number_reads env contents e) _ _ _ (number_in i) (λ v m. number_in e m) h)
  primitive_touches l (Print es) h = as_reads l (λ x m. m) (numbers_in es h)
  primitive_touches l (Raise e) h = as_reads l (λ x m. m) (number_in e h)

  -- what a step reads it may touch
  pub step_touches : (l : ℕ) (s : Code) → Member q (step_reads env contents s)
      → Touches env (λ x. Member x (own_accesses l s)) q
  step_touches l (Do s) h = primitive_touches l s h
  step_touches l (If t b c) h = as_reads l (λ x m. m) (truth_in t h)
  step_touches l (While t b) h = as_reads l (λ x m. m) (truth_in t h)
  step_touches l (Split s e x y b) h = as_reads l (λ x m. m) (number_in e h)
  step_touches l (Parts s e x i b) h = as_reads l (λ x m. m) (number_in e h)
  step_touches l (Begun s n k x i b) h = none_in h
  step_touches l (Call f es ss) h = as_reads l (λ x m. m) (numbers_in es h)
  step_touches l (Async b) h = none_in h
  step_touches l (Finish b) h = none_in h
  step_touches l (Rescue b x c) h = none_in h

  -- what a step writes it may write
  pub step_overwrites : (l : ℕ) (s : Code) → Member q (step_writes env contents s)
      → Overwrites env (λ x. Member x (own_accesses l s)) q
  step_overwrites l (Do Skip) h = none_in h
  step_overwrites l (Do (Assign x e)) h = none_in h
  step_overwrites l (Do (Store s i e)) h =
      after_in (number env contents i) (λ at. after (number env contents e) (λ v. after (element_of (env.windows s) at) (λ q. q ∷ []))) h (λ at f h.
      after_in (number env contents e) (λ v. after (element_of (env.windows s) at) (λ q. q ∷ [])) h (λ v g h.
      after_in (element_of (env.windows s) at) (λ q. q ∷ []) h (λ r k h. only h (λ same.
      record {
        access = record { label = l; section = s; write = true };
        among = first;
        place = subst (In (env.windows s)) same (element_in (env.windows s) at r k);
        writes = refl;
      }))))
  step_overwrites l (Do (Print es)) h = none_in h
  step_overwrites l (Do (Raise e)) h = none_in h
  step_overwrites l (If t b c) h = none_in h
  step_overwrites l (While t b) h = none_in h
  step_overwrites l (Split s e x y b) h = none_in h
  step_overwrites l (Parts s e x i b) h = none_in h
  step_overwrites l (Begun s n k x i b) h = none_in h
  step_overwrites l (Call f es ss) h = none_in h
  step_overwrites l (Async b) h = none_in h
  step_overwrites l (Finish b) h = none_in h
  step_overwrites l (Rescue b x c) h = none_in h

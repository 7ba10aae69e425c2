-- A step depends only on the places that it reads, and changes only those that it writes.
use Rattle.std.proofs.Common.{◌≡◌, ◌⊎◌, inl, inr, ℕ, List, [], ◌∷◌, ◌++◌, map, Some, None, refl, sym, ap, ◌∙◌, subst, Ok, Err}
use Rattle.std.specs.Prelude.{ℤ, Bool, true, false, not, ok_or, if◌then◌else◌, neg_ℤ}
use Rattle.sections.proofs.Windows.{places_same}
use Rattle.sections.specs.Place.{Place, same_place, sides_of}
use Rattle.sections.specs.Member.{Member, first}
use Rattle.types.specs.declared.fault.FaultKind.{FaultKind}
use Rattle.types.specs.declared.fault.FaultKind.TheVariants.{SplitPoint, Raised}
use Rattle.types.specs.Code.{Number, Literal, Scalar, Element, Length, Negative, Chain, Links, Done, Link, Truth, Constant, Compare, Not, Both, Either, Truths, NoMore, Also, Primitive, Skip, Assign, Store, Print, Raise, Code, Do, If, While, Split, Parts, Begun, Call, Async, Finish, Rescue, Codes, End, Then, Program}
use Rattle.types.specs.Contents.{Contents, read}
use Rattle.types.specs.Value.{Environment, Valued, then_try, within_64_bits, element_of, operate, holds, holds_number, number, links, numbers, truth, all, any}
use Rattle.types.specs.Run.{State, array_of, entry, with_sides, procedure_of}
use Rattle.types.specs.Trees.{Leaf, Tree, single, before_rest, called}
use Rattle.types.specs.TreeSteps.{on_value, as_state, with_state, size_by, before_turns, tree_after, store_after, leaf_step}
use Rattle.types.specs.TreePlaces.{after, number_reads, links_read, numbers_read, truth_reads, all_read, any_read, primitive_reads, step_reads, primitive_writes, step_writes, first_reads, first_writes, next_reads}
use Rattle.effects.proofs.Members.{in_left, in_right}
use Rattle.step_trees.proofs.Turns.{same_pair}
use Rattle.step_trees.proofs.Deeds.{Deed, Assigns, Prints, Fails, by_value, stores, deed, did, primitive-did}
use Rattle.step_trees.specs.Laws.{SameStep}
use Rattle.step_trees.proofs.Steps.{tree_or, store_or}
use Rattle.step_trees.proofs.LocalSteps.{Update, updated, Hits, update_of, did_tree, did_store}

after_twice : {A B : Type 0} (x : Valued A) (f : A → Valued B) (go : B → List Place)
    → after (then_try x f) go ≡ after x (λ v. after (f v) go)
after_twice (Ok v) f go = refl
after_twice (Err e) f go = refl

module _ (env : Environment) (r o : Place → ℤ) where
  -- the stores have the same numbers at these places
  abbrev Same : List Place → Type 0
  Same ps = (q : Place) → Member q ps → r q ≡ o q

  left : (ps qs : List Place) → Same (ps ++ qs) → Same ps
  left ps qs h q m = h q (in_left qs m)

  right : (ps qs : List Place) → Same (ps ++ qs) → Same qs
  right ps qs h q m = h q (in_right ps m)

  -- what continues with a value is the same, if it does nothing without a value
  same_value : {A B : Type 0} (go : Valued A → (A → B) → B) → ((a : A) (f : A → B) → go (Ok a) f ≡ f a)
      → ((e : FaultKind) (f g : A → B) → go (Err e) f ≡ go (Err e) g) → (x y : Valued A) (f g : A → B)
      (reads : A → List Place) → x ≡ y → Same (after x reads)
      → ((a : A) → Same (reads a) → f a ≡ g a) → go x f ≡ go y g
  same_value go value fault x y f g reads e h k = by x h ∙ ap (λ y. go y g) e
    where
      by : (x : _) → Same (after x reads) → go x f ≡ go x g
      by (Ok a) h = value a f ∙ k a h ∙ sym (value a g)
      by (Err e) h = fault e f g

  same_try : {A B : Type 0} (x y : Valued A) (f g : A → Valued B) (reads : A → List Place) → x ≡ y
      → Same (after x reads)
      → ((a : A) → Same (reads a) → f a ≡ g a) → then_try x f ≡ then_try y g
  same_try x y f g reads e h k =
      same_value (λ x f. then_try x f) (λ a f. refl) (λ e f g. refl) x y f g reads e h k

  -- the same fact, for a value for which its own places are read first
  same_first : {A B : Type 0} (x y : Valued A) (f g : A → Valued B) (own : List Place) (reads : A → List Place)
      → (Same own → x ≡ y) → Same (own ++ after x reads)
      → ((a : A) → Same (reads a) → f a ≡ g a) → then_try x f ≡ then_try y g
  same_first x y f g own reads e h k = same_try x y f g reads (e (left own _ h)) (right own _ h) k

  twice : {A B : Type 0} (x : Valued A) (f : A → Valued B) (go : B → List Place) → Same (after (then_try x f) go)
      → Same (after x (λ v. after (f v) go))
  twice x f go h = subst Same (after_twice x f go) h

  mutual
    number_by : (e : Number) → Same (number_reads env r e) → number env r e ≡ number env o e
    number_by (Literal v) h = refl
    number_by (Scalar x) h = refl
    number_by (Element s e) h =
        let w = env.windows s in
        same_try (number env r e) (number env o e) _ _ (λ v. after (element_of w v) (λ q. q ∷ []))
        (number_by e (left (number_reads env r e) _ h)) (twice (number env r e) (element_of w) (λ q. q ∷ []) (right (number_reads env r e) _ h))
        (λ v h. same_try (element_of w v) (element_of w v) (λ q. Ok (r q)) (λ q. Ok (o q)) (λ q. q ∷ []) refl h (λ q h. ap Ok (h q first)))
    number_by (Length s) h = refl
    number_by (Negative e) h = ap (λ x. then_try x (λ v. within_64_bits (neg_ℤ v))) (number_by e h)
    number_by (Chain e rest) h =
        same_first (number env r e) (number env o e) (links env r rest) (links env o rest) _ (links_read env r rest) (number_by e) h
        (links_by rest)

    links_by : (rest : Links) (x : ℤ) → Same (links_read env r rest x) → links env r rest x ≡ links env o rest x
    links_by Done x h = refl
    links_by (Link p e rest) x h =
        same_try (number env r e) (number env o e) _ _ (λ y. after (operate p x y) (links_read env r rest))
        (number_by e (left (number_reads env r e) _ h)) (twice (number env r e) (operate p x) (links_read env r rest) (right (number_reads env r e) _ h))
        (λ y h. same_try (operate p x y) (operate p x y) (links env r rest) (links env o rest) (links_read env r rest) refl h (λ z h. links_by rest z h))

  numbers_by : (es : List Number) → Same (numbers_read env r es) → numbers env r es ≡ numbers env o es
  numbers_by [] h = refl
  numbers_by (e ∷ es) h =
      same_first (number env r e) (number env o e) _ _ _ (λ v. numbers_read env r es) (number_by e) h
      (λ v h. ap (λ x. then_try x (λ vs. Ok (v ∷ vs))) (numbers_by es h))

  mutual
    truth_by : (t : Truth) → Same (truth_reads env r t) → truth env r t ≡ truth env o t
    truth_by (Constant b) h = refl
    truth_by (Compare c a b) h =
        same_first (number env r a) (number env o a) _ _ _ (λ x. number_reads env r b) (number_by a) h
        (λ x h. ap (λ y. then_try y (λ y. Ok (holds c x y))) (number_by b h))
    truth_by (Not t) h = ap (λ x. then_try x (λ b. Ok (not b))) (truth_by t h)
    truth_by (Both ts) h = all_by ts true h
    truth_by (Either ts) h = any_by ts false h

    all_by : (ts : Truths) (b : Bool) → Same (all_read env r ts b) → all env r ts b ≡ all env o ts b
    all_by NoMore b h = refl
    all_by (Also t rest) false h = refl
    all_by (Also t rest) true h =
        same_first (truth env r t) (truth env o t) (all env r rest) (all env o rest) _ (all_read env r rest) (truth_by t) h (all_by rest)

    any_by : (ts : Truths) (b : Bool) → Same (any_read env r ts b) → any env r ts b ≡ any env o ts b
    any_by NoMore b h = refl
    any_by (Also t rest) true h = refl
    any_by (Also t rest) false h =
        same_first (truth env r t) (truth env o t) (any env r rest) (any env o rest) _ (any_read env r rest) (truth_by t) h (any_by rest)

  same_deed : {A : Type 0} (x y : Valued A) (f g : A → Deed) (reads : A → List Place) → x ≡ y → Same (after x reads)
      → ((a : A) → Same (reads a) → f a ≡ g a) → by_value x f ≡ by_value y g
  same_deed x y f g reads e h k = same_value (λ x f. by_value x f) (λ a f. refl) (λ e f g. refl) x y f g reads e h k

  deed_by : (p : Program) (s : Primitive) → Same (primitive_reads env r s) → deed p env r s ≡ deed p env o s
  deed_by p Skip h = refl
  deed_by p (Assign x e) h = ap (λ v. by_value v (Assigns x)) (number_by e h)
  deed_by p (Store s i e) h =
      same_deed (number env r i) (number env o i) _ _ (λ at. number_reads env r e) (number_by i (left (number_reads env r i) _ h)) (right (number_reads env r i) _ h)
      (λ at h. ap (λ n. by_value n (λ v. by_value (element_of (env.windows s) at) (λ q. stores (holds_number (array_of p q.array).element v) q v))) (number_by e h))
  deed_by p (Print es) h = ap (λ v. by_value v Prints) (numbers_by es h)
  deed_by p (Raise e) h = ap (λ v. by_value v (λ v. Fails (Raised v))) (number_by e h)

-- what a deed writes is what the step is about to write
module _ (env : Environment) (r : Place → ℤ) where
  value_writes : {A : Type 0} (P : Place → Type 0) (x : Valued A) (d : A → Deed) (go : A → List Place)
      → ((q : Place) → Member q (after x go) → P q)
      → ((v : A) → ((q : Place) → Member q (go v) → P q) → Hits P (update_of (d v))) → Hits P (update_of (by_value x d))
  value_writes P (Ok v) d go h f = f v h
  value_writes P (Err e) d go h f = tt

  stores_write : (P : Place → Type 0) (b : Bool) (q : Place) (v : ℤ) → P q → Hits P (update_of (stores b q v))
  stores_write P true q v h = h
  stores_write P false q v h = tt

  deed_writes : (p : Program) (s : Primitive)
      → Hits (λ q. Member q (primitive_writes env r s)) (update_of (deed p env r s))
  deed_writes p Skip = tt
  deed_writes p (Assign x e) = value_writes _ (number env r e) (Assigns x) (λ v. []) (λ q h. by (number env r e) q h) (λ v h. tt)
    where
      by : {B : Type 0} (x : Valued ℤ) (q : Place) → Member q (after x (λ v. [])) → B
      by (Ok v) q h = elim h [ ]
      by (Err e) q h = elim h [ ]
  deed_writes p (Store s i e) =
      value_writes _ (number env r i) _ (λ at. after (number env r e) (λ v. after (element_of (env.windows s) at) (λ q. q ∷ []))) (λ q h. h) (λ at h.
      value_writes _ (number env r e) _ (λ v. after (element_of (env.windows s) at) (λ q. q ∷ [])) h (λ v h.
      value_writes _ (element_of (env.windows s) at) _ (λ q. q ∷ []) h (λ q h.
      stores_write _ (holds_number (array_of p q.array).element v) q v (h q first))))
  deed_writes p (Print es) = by (numbers env r es)
    where
      by : (x : Valued (List ℤ)) → Hits (λ q. Member q []) (update_of (by_value x Prints))
      by (Ok v) = tt
      by (Err e) = tt
  deed_writes p (Raise e) = by (number env r e)
    where
      by : (x : Valued ℤ) → Hits (λ q. Member q []) (update_of (by_value x (λ v. Fails (Raised v))))
      by (Ok v) = tt
      by (Err e) = tt

module _ (p : Program) where
  -- the same step over two stores
  record Alike (l : ℕ) (s : Code) (k : Leaf) (a c : Contents) : Type 0 where
    update : Update
    writes : Hits (λ q. Member q (step_writes k.environment (read a) s)) update
    tree : tree_after p l s k a ≡ tree_after p l s k c
    one_store : store_after p l s k a ≡ updated update a
    other_store : store_after p l s k c ≡ updated update c

  alike : (l : ℕ) (s : Code) (k : Leaf) (a c : Contents)
      → Same k.environment (read a) (read c) (step_reads k.environment (read a) s) → Alike l s k a c
  alike l (Do s) k a c h =
      let d = deed p k.environment (read a) s in
      let e = deed p k.environment (read c) s in
      let same : d ≡ e = deed_by k.environment (read a) (read c) p s h in
      record {
        update = update_of d;
        writes = deed_writes k.environment (read a) p s;
        tree =
            ap (with_state k) (primitive-did p l s (as_state k a)) ∙ did_tree l d k a c
            ∙ ap (λ d. with_state k (did l d (as_state k c))) same ∙ sym (ap (with_state k) (primitive-did p l s (as_state k c)));
        one_store = ap (λ (st : State (Unit {0})). st.store) (primitive-did p l s (as_state k a)) ∙ did_store l d k a;
        other_store =
            ap (λ (st : State (Unit {0})). st.store) (primitive-did p l s (as_state k c)) ∙ did_store l e k c ∙ ap (λ d. updated (update_of d) c) (sym same);
      }
  alike l (If t b d) k a c h = record {
    update = None;
    writes = tt;
    tree = ap (λ v. on_value l k v (λ v. single (before_rest (if v then b else d) k))) (truth_by k.environment (read a) (read c) t h);
    one_store = refl;
    other_store = refl;
  }
  alike l (While t b) k a c h = record {
    update = None;
    writes = tt;
    tree = ap (λ v. on_value l k v (λ v. single (if v then before_rest b (before_rest (Then l (While t b) End) k) else k))) (truth_by k.environment (read a) (read c) t h);
    one_store = refl;
    other_store = refl;
  }
  alike l (Split s e x y b) k a c h = record {
    update = None;
    writes = tt;
    tree = ap (λ v. on_value l k (then_try v (λ v. ok_or (sides_of (k.environment.windows s) v) SplitPoint)) (λ ws.
        single (before_rest b (record k { environment = with_sides x y ws k.environment })))) (number_by k.environment (read a) (read c) e h);
    one_store = refl;
    other_store = refl;
  }
  alike l (Parts s e x i b) k a c h = record {
    update = None;
    writes = tt;
    tree = ap (λ v. on_value l k (size_by v) (λ n. single (before_turns l s n 0 x i b k))) (number_by k.environment (read a) (read c) e h);
    one_store = refl;
    other_store = refl;
  }
  alike l (Begun s n m x i b) k a c h = record { update = None; writes = tt; tree = refl; one_store = refl; other_store = refl }
  alike l (Call f es ss) k a c h = record {
    update = None;
    writes = tt;
    tree = ap (λ v. on_value l k v (λ vs. single (called (procedure_of p f) (entry vs (map k.environment.windows ss)) k))) (numbers_by k.environment (read a) (read c) es h);
    one_store = refl;
    other_store = refl;
  }
  alike l (Async b) k a c h = record { update = None; writes = tt; tree = refl; one_store = refl; other_store = refl }
  alike l (Finish b) k a c h = record { update = None; writes = tt; tree = refl; one_store = refl; other_store = refl }
  alike l (Rescue b x d) k a c h = record { update = None; writes = tt; tree = refl; one_store = refl; other_store = refl }

  places_of : (u : Update) (a c : Contents) (P : Place → Type 0) → Hits P u → (q : Place)
      → ((updated u a q ≡ a q) × (updated u c q ≡ c q)) ⊎ (P q × (updated u a q ≡ updated u c q))
  places_of None a c P h q = inl (refl, refl)
  places_of (Some x) a c P h q = by (same_place x.0 q) refl
    where
      by : (z : Bool) → same_place x.0 q ≡ z
          → (((if z then Some x.1 else a q) ≡ a q) × ((if z then Some x.1 else c q) ≡ c q)) ⊎ (P q × ((if z then Some x.1 else a q) ≡ (if z then Some x.1 else c q)))
      by true e = inr (subst P (places_same x.0 q e) h, refl)
      by false e = inl (refl, refl)

  same_in : (d : Codes) (k : Leaf) (a : Contents) (u : Tree) (b c : Contents) → k.rest ≡ d
      → leaf_step p d k a ≡ Some (u, b)
      → ((q : Place) → Member q (next_reads k a) → read a q ≡ read c q) → SameStep p k a u b c
  same_in End k a u b c r e h = cc
  same_in (Then l s rest) k a u b c r e h =
      let j = record k { rest = rest } in
      let m = alike l s j a c (λ q i. h q (subst (λ d. Member q (first_reads k.environment (read a) d)) (sym r) i)) in
      let u_is : tree_after p l s j a ≡ u = ap (tree_or u) e in
      let b_is : store_after p l s j a ≡ b = ap (store_or b) e in
      let at_b : updated m.update a ≡ b = sym m.one_store ∙ b_is in
      record {
        store = updated m.update c;
        step = ap (λ d. leaf_step p d k c) r ∙ same_pair (sym m.tree ∙ u_is) m.other_store;
        places = λ q. elim (places_of m.update a c (λ q. Member q (step_writes k.environment (read a) s)) m.writes q) [
          | inl x ↦ inl (sym (ap (λ (b : Contents). b q) at_b) ∙ x.0, x.1)
          | inr x ↦ inr (subst (λ d. Member q (first_writes k.environment (read a) d)) (sym r) x.0, sym (ap (λ (b : Contents). b q) at_b) ∙ x.1)
        ];
      }

  -- the step of a leaf depends only on what it reads
  pub same_step : (k : Leaf) (a : Contents) (u : Tree) (b c : Contents) → leaf_step p k.rest k a ≡ Some (u, b)
      → ((q : Place) → Member q (next_reads k a) → read a q ≡ read c q) → SameStep p k a u b c
  same_step k a u b c = same_in k.rest k a u b c refl

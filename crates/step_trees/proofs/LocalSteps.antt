-- A step depends only on what its leaf may touch, and changes at most one place that it may write.
use Rattle.std.proofs.Common.{◌≡◌, inl, ℕ, List, [], ◌∷◌, ◌++◌, map, Option, Some, None, refl, sym, ap, ◌∙◌, subst}
use Rattle.std.proofs.lemmas.List.Elements.{Contains-append_left, Contains-append_right}
use Rattle.std.specs.Prelude.{ℤ, pos, Bool, true, false, Ok, Err, ok_or, unwrap_or, flat_map, if◌then◌else◌}
use Rattle.types.proofs.Bindings.{element_in}
use Rattle.sections.specs.Place.{Place, sides_of}
use Rattle.sections.specs.Member.{Member, first, next}
use Rattle.types.specs.declared.fault.FaultKind.TheVariants.{Raised, SplitPoint}
use Rattle.types.specs.Code.{Number, Primitive, Skip, Assign, Store, Print, Raise, Code, Do, If, While, Split, Parts, Begun, Call, Async, Finish, Rescue, Codes, End, Then, Program}
use Rattle.types.specs.Indexed.{indexed, indexed_truth}
use Rattle.types.specs.Contents.{Contents, read, write}
use Rattle.types.specs.Value.{Environment, Valued, then_try, element_of, holds_number, number, numbers}
use Rattle.types.specs.Run.{State, array_of, primitive, entry, with_sides, procedure_of}
use Rattle.types.specs.Laws.{SameOn}
use Rattle.types.proofs.Readings.{number_same, truth_same}
use Rattle.types.specs.Trees.{Leaf, Tree, single, before_rest, called}
use Rattle.types.specs.TreeSteps.{on_value, as_state, with_state, size_by, before_turns, tree_after, store_after}
use Rattle.effects.specs.Accesses.{Access, reads, own_accesses, own_primitive}
use Rattle.effects.specs.Effects.{AllOf, All, accesses}
use Rattle.effects.specs.Footprint.{Touches, Overwrites}
use Rattle.effects.proofs.Members.{in_map}
use Rattle.step_trees.proofs.Deeds.{Deed, Nothing, Assigns, Writes, Prints, Fails, by_value, stores, deed, did, primitive-did}
use Rattle.step_trees.specs.Still.{still, left_of}
use Rattle.step_trees.proofs.Footprints.{Within, first_within, second_within}
use Rattle.step_trees.proofs.Steps.{Step}
use Rattle.effects.proofs.OwnAccesses.{contained}

-- a number that is written to a place, if any
abbrev pub Update : Type 0
Update = Option (Place × ℤ)

abbrev pub updated : Update → Contents → Contents
updated None a = a
updated (Some x) a = write x.0 x.1 a

abbrev pub Hits : (Place → Type 0) → Update → Type 0
Hits P None = Unit {0}
Hits P (Some x) = P x.0

pub hits_map : {P Q : Place → Type 0} → ((q : Place) → P q → Q q) → (u : Update) → Hits P u → Hits Q u
hits_map f None h = tt
hits_map f (Some x) h = f x.0 h

abbrev pub update_of : Deed → Update
update_of Nothing = None
update_of (Assigns x v) = None
update_of (Writes q v) = Some (q, v)
update_of (Prints vs) = None
update_of (Fails f) = None

module _ (env : Environment) (a c : Contents) where
  -- the stores have the same numbers at each place that these accesses name
  abbrev Agrees : List Access → Type 0
  Agrees xs = (q : Place) → Touches env (λ x. Member x xs) q → a q ≡ c q

  fewer : (xs ys : List Access) → ((x : Access) → Member x xs → Member x ys) → Agrees ys → Agrees xs
  fewer xs ys f h q t = h q (record { access = t.access; among = f t.access t.among; place = t.place })

  same_on : (l : ℕ) (ss : List ℕ) → Agrees (reads l ss) → SameOn env ss (read a) (read c)
  same_on l ss h s m q i = ap (λ o. unwrap_or o (pos 0)) (h q (record {
    access = record { label = l; section = s; write = false };
    among = in_map (λ s. record { label = l; section = s; write = false }) (contained s ss m);
    place = i;
  }))

  numbers_same : (es : List Number) → SameOn env (flat_map indexed es) (read a) (read c)
      → numbers env (read a) es ≡ numbers env (read c) es
  numbers_same [] h = refl
  numbers_same (e ∷ es) h =
      ap (λ v. then_try v (λ v. then_try (numbers env (read a) es) (λ vs. Ok (v ∷ vs))))
      (number_same env (read a) (read c) e (λ s m. h s (Contains-append_left (indexed e) (flat_map indexed es) s m)))
      ∙ ap (λ w. then_try (number env (read c) e) (λ v. then_try w (λ vs. Ok (v ∷ vs))))
      (numbers_same es (λ s m. h s (Contains-append_right (indexed e) (flat_map indexed es) s m)))

  module _ (p : Program) (l : ℕ) where
    deed_same : (s : Primitive) → Agrees (own_primitive l s) → deed p env (read a) s ≡ deed p env (read c) s
    deed_same Skip h = refl
    deed_same (Assign x e) h = ap (λ v. by_value v (Assigns x)) (number_same env (read a) (read c) e (same_on l (indexed e) h))
    deed_same (Store s i e) h =
        let both = same_on l (indexed i ++ indexed e) (fewer (reads l (indexed i ++ indexed e)) (own_primitive l (Store s i e)) (λ x m. next m) h) in
        ap (λ n. by_value n (λ at. by_value (number env (read a) e) (λ v. by_value (element_of (env.windows s) at) (λ q.
        stores (holds_number (array_of p q.array).element v) q v))))
        (number_same env (read a) (read c) i (λ s m. both s (Contains-append_left (indexed i) (indexed e) s m)))
        ∙ ap (λ n. by_value (number env (read c) i) (λ at. by_value n (λ v. by_value (element_of (env.windows s) at) (λ q.
        stores (holds_number (array_of p q.array).element v) q v))))
        (number_same env (read a) (read c) e (λ s m. both s (Contains-append_right (indexed i) (indexed e) s m)))
    deed_same (Print es) h = ap (λ v. by_value v Prints) (numbers_same es (same_on l (flat_map indexed es) h))
    deed_same (Raise e) h = ap (λ v. by_value v (λ v. Fails (Raised v))) (number_same env (read a) (read c) e (same_on l (indexed e) h))

module _ (P : Place → Type 0) where
  value_hits : {A : Type 0} (r : Valued A) (d : A → Deed) → ((v : A) → r ≡ Ok v → Hits P (update_of (d v)))
      → Hits P (update_of (by_value r d))
  value_hits (Ok v) d h = h v refl
  value_hits (Err f) d h = tt

  stores_hits : (b : Bool) (q : Place) (v : ℤ) → P q → Hits P (update_of (stores b q v))
  stores_hits true q v h = h
  stores_hits false q v h = tt

deed_hits : (p : Program) (env : Environment) (r : Place → ℤ) (l : ℕ) (s : Primitive)
    → Hits (Overwrites env (λ x. Member x (own_primitive l s))) (update_of (deed p env r s))
deed_hits p env r l Skip = tt
deed_hits p env r l (Assign x e) = value_hits _ (number env r e) (Assigns x) (λ v h. tt)
deed_hits p env r l (Store s i e) =
    value_hits _ (number env r i) _ (λ at h. value_hits _ (number env r e) _ (λ v h. value_hits _ (element_of (env.windows s) at) _ (λ q h.
    stores_hits _ (holds_number (array_of p q.array).element v) q v (record {
      access = record { label = l; section = s; write = true };
      among = first;
      place = element_in (env.windows s) at q h;
      writes = refl;
    }))))
deed_hits p env r l (Print es) = value_hits _ (numbers env r es) Prints (λ v h. tt)
deed_hits p env r l (Raise e) = value_hits _ (number env r e) _ (λ v h. tt)

-- a deed changes a leaf in the same way for every store, and changes the store at one place
pub did_tree : (l : ℕ) (d : Deed) (k : Leaf) (a c : Contents)
    → with_state k (did l d (as_state k a)) ≡ with_state k (did l d (as_state k c))
did_tree l Nothing k a c = refl
did_tree l (Assigns x v) k a c = refl
did_tree l (Writes q v) k a c = refl
did_tree l (Prints vs) k a c = refl
did_tree l (Fails f) k a c = refl

pub did_store : (l : ℕ) (d : Deed) (k : Leaf) (a : Contents)
    → (did l d (as_state k a)).store ≡ updated (update_of d) a
did_store l Nothing k a = refl
did_store l (Assigns x v) k a = refl
did_store l (Writes q v) k a = refl
did_store l (Prints vs) k a = refl
did_store l (Fails f) k a = refl

module _ (p : Program) where
  -- what a statement's step does to the store
  record LocalAfter (l : ℕ) (s : Code) (k : Leaf) (a : Contents) : Type 0 where
    update : Update
    writes : Hits (Overwrites k.environment (λ x. Member x (own_accesses l s))) update
    store : store_after p l s k a ≡ updated update a
    elsewhere : (c : Contents) → Agrees k.environment a c (own_accesses l s)
        → (tree_after p l s k a ≡ tree_after p l s k c) × (store_after p l s k c ≡ updated update c)

  local_after : (l : ℕ) (s : Code) (k : Leaf) (a : Contents) → LocalAfter l s k a
  local_after l (Do s) k a = record {
    update = update_of (at a);
    writes = deed_hits p k.environment (read a) l s;
    store = as_deed a ∙ did_store l (at a) k a;
    elsewhere = λ c h.
        let same : at a ≡ at c = deed_same k.environment a c p l s h in (
          ap (with_state k) (primitive-did p l s (as_state k a)) ∙ did_tree l (at a) k a c
              ∙ ap (λ d. with_state k (did l d (as_state k c))) same ∙ sym (ap (with_state k) (primitive-did p l s (as_state k c))),
          as_deed c ∙ did_store l (at c) k c ∙ ap (λ d. updated (update_of d) c) (sym same),
        );
  }
    where
      at : Contents → Deed
      at a = deed p k.environment (read a) s

      as_deed : (a : Contents) → (primitive p l s (as_state k a)).store ≡ (did l (at a) (as_state k a)).store
      as_deed a = ap (λ (st : State (Unit {0})). st.store) (primitive-did p l s (as_state k a))
  local_after l (If t b d) k a = record {
    update = None;
    writes = tt;
    store = refl;
    elsewhere = λ c h. (
      ap (λ v. on_value l k v (λ v. single (before_rest (if v then b else d) k)))
          (truth_same k.environment (read a) (read c) t (same_on k.environment a c l (indexed_truth t) h)),
      refl,
    );
  }
  local_after l (While t b) k a = record {
    update = None;
    writes = tt;
    store = refl;
    elsewhere = λ c h. (
      ap (λ v. on_value l k v (λ v. single (if v then before_rest b (before_rest (Then l (While t b) End) k) else k)))
          (truth_same k.environment (read a) (read c) t (same_on k.environment a c l (indexed_truth t) h)),
      refl,
    );
  }
  local_after l (Split s e x y b) k a = record {
    update = None;
    writes = tt;
    store = refl;
    elsewhere = λ c h. (
      ap (λ v. on_value l k (then_try v (λ v. ok_or (sides_of (k.environment.windows s) v) SplitPoint)) (λ ws.
          single (before_rest b (record k { environment = with_sides x y ws k.environment }))))
          (number_same k.environment (read a) (read c) e (same_on k.environment a c l (indexed e) h)),
      refl,
    );
  }
  local_after l (Parts s e x i b) k a = record {
    update = None;
    writes = tt;
    store = refl;
    elsewhere = λ c h. (
      ap (λ v. on_value l k (size_by v) (λ n. single (before_turns l s n 0 x i b k)))
          (number_same k.environment (read a) (read c) e (same_on k.environment a c l (indexed e) h)),
      refl,
    );
  }
  local_after l (Begun s n m x i b) k a = record { update = None; writes = tt; store = refl; elsewhere = λ c h. (refl, refl) }
  local_after l (Call f es ss) k a = record {
    update = None;
    writes = tt;
    store = refl;
    elsewhere = λ c h. (
      ap (λ v. on_value l k v (λ vs. single (called (procedure_of p f) (entry vs (map k.environment.windows ss)) k)))
          (numbers_same k.environment a c es (same_on k.environment a c l (flat_map indexed es) h)),
      refl,
    );
  }
  local_after l (Async b) k a = record { update = None; writes = tt; store = refl; elsewhere = λ c h. (refl, refl) }
  local_after l (Finish b) k a = record { update = None; writes = tt; store = refl; elsewhere = λ c h. (refl, refl) }
  local_after l (Rescue b x d) k a = record { update = None; writes = tt; store = refl; elsewhere = λ c h. (refl, refl) }

  -- a step of a leaf, over each store with the same numbers where the tree may still touch it
  pub record Local (n : ℕ) (k : Leaf) (t : Tree) (a : Contents) (u : Tree) (b : Contents) : Type 0 where
    pub update : Update
    pub writes : Hits (still p t).writes update
    pub store : b ≡ updated update a
    pub elsewhere : (c : Contents) → ((q : Place) → (still p t).touches q → a q ≡ c q)
        → Step p n k t c u (updated update c)

  -- a step of a part of a tree
  of_part : {n m : ℕ} {k : Leaf} {t u v w : Tree} {a b : Contents} → Within (still p t) (still p v)
      → ((c d : Contents) → Step p n k t c u d → Step p m k v c w d)
      → Local n k t a u b → Local m k v a w b
  of_part part whole s = record {
    update = s.update;
    writes = hits_map part.writes s.update s.writes;
    store = s.store;
    elsewhere = λ c h. whole c (updated s.update c) (s.elsewhere c (λ q t. h q (part.touches q t)));
  }

  module _ (k : Leaf) (l : ℕ) (s : Code) (rest : Codes) (e : k.rest ≡ Then l s rest) where
    own_touches : (q : Place) → Touches k.environment (λ x. Member x (own_accesses l s)) q → (left_of p k).touches q
    own_touches q t = inl (inl (record { access = t.access; among = subst (λ c. All p accesses c t.access) (sym e) (All.here (AllOf.own_access t.among)); place = t.place }))

    own_writes : (q : Place) → Overwrites k.environment (λ x. Member x (own_accesses l s)) q → (left_of p k).writes q
    own_writes q t = inl (inl (record { access = t.access; among = subst (λ c. All p accesses c t.access) (sym e) (All.here (AllOf.own_access t.among)); place = t.place; writes = t.writes }))

  pub local : {n : ℕ} {k : Leaf} {t u : Tree} {a b : Contents} → Step p n k t a u b → Local n k t a u b
  local (Step.here {k = k} {l = l} {s = s} {rest = rest} {a = a} r e f) =
      let m = local_after l s (record k { rest = rest }) a in
      record {
        update = m.update;
        writes = hits_map (own_writes k l s rest r) m.update m.writes;
        store = f ∙ m.store;
        elsewhere = λ c h.
            let x = m.elsewhere c (λ q t. h q (own_touches k l s rest r q t)) in
            Step.here r (e ∙ x.0) (sym x.1);
      }
  local (Step.first s e) = of_part (first_within _ _) (λ c d s. Step.first s e) (local s)
  local (Step.left s) = of_part (first_within _ _) (λ c d s. Step.left s) (local s)
  local (Step.right e s) = of_part (second_within _ _) (λ c d s. Step.right e s) (local s)

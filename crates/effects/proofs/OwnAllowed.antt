-- What a statement that follows the rules does by its own expressions is allowed.
use Rattle.std.proofs.Common.{ℕ, List, [], ◌∷◌, ◌++◌, inl, inr, sym, ap, ◌∙◌, subst}
use Rattle.std.specs.Prelude.{false, flat_map}
use Rattle.std.specs.List.{AllByRecursion}
use Rattle.shared_lemmas.proofs.Truths.{false_true}
use Rattle.sections.specs.Member.{Member, first, next}
use Rattle.types.specs.Code.{Number, Literal, Scalar, Element, Length, Negative, Chain, Links, Done, Link, Truth}
use Rattle.types.specs.Code.{Constant, Compare, Not, Both, Either, Truths, NoMore, Also, Primitive, Skip, Assign, Store}
use Rattle.types.specs.Code.{Print, Raise, Code, Do, If, While, Split, Parts, Begun, Call, Async, Finish, Rescue, Procedure}
use Rattle.types.specs.Code.{Program}
use Rattle.types.specs.Indexed.{indexed, indexed_links, indexed_truth, indexed_truths}
use Rattle.types.specs.Sound.{NumberFollows, LinksFollow, TruthFollows, TruthsFollow, StoresWell, PrimitiveFollows, FollowsOf}
use Rattle.effects.specs.Accesses.{Access, reads, own_primitive, own_accesses}
use Rattle.effects.specs.Sound.{Allowed}
use Rattle.effects.proofs.Members.{in_parts, from_map}

module _ (g : Procedure) (scope : List ℕ) where
  mutual
    number_indexed : (e : Number) → NumberFollows g scope e → (s : ℕ) → Member s (indexed e) → Member s scope
    number_indexed (Literal v) k s m = elim m [ ]
    number_indexed (Scalar x) k s m = elim m [ ]
    number_indexed (Element t i) k s first = k.0
    number_indexed (Element t i) k s (next m) = number_indexed i k.1 s m
    number_indexed (Length t) k s m = elim m [ ]
    number_indexed (Negative e) k s m = number_indexed e k s m
    number_indexed (Chain e rest) k s m = elim (in_parts (indexed e) m) [
      | inl h ↦ number_indexed e k.0 s h
      | inr h ↦ links_indexed rest k.1 s h
    ]

    links_indexed : (rest : Links) → LinksFollow g scope rest → (s : ℕ) → Member s (indexed_links rest) → Member s scope
    links_indexed Done k s m = elim m [ ]
    links_indexed (Link o e rest) k s m = elim (in_parts (indexed e) m) [
      | inl h ↦ number_indexed e k.0 s h
      | inr h ↦ links_indexed rest k.1 s h
    ]

  mutual
    truth_indexed : (t : Truth) → TruthFollows g scope t → (s : ℕ) → Member s (indexed_truth t) → Member s scope
    truth_indexed (Constant b) k s m = elim m [ ]
    truth_indexed (Compare r a b) k s m = elim (in_parts (indexed a) m) [
      | inl h ↦ number_indexed a k.0 s h
      | inr h ↦ number_indexed b k.1 s h
    ]
    truth_indexed (Not t) k s m = truth_indexed t k s m
    truth_indexed (Both ts) k s m = truths_indexed ts k s m
    truth_indexed (Either ts) k s m = truths_indexed ts k s m

    truths_indexed : (ts : Truths) → TruthsFollow g scope ts → (s : ℕ) → Member s (indexed_truths ts) → Member s scope
    truths_indexed NoMore k s m = elim m [ ]
    truths_indexed (Also t rest) k s m = elim (in_parts (indexed_truth t) m) [
      | inl h ↦ truth_indexed t k.0 s h
      | inr h ↦ truths_indexed rest k.1 s h
    ]

  numbers_indexed : (es : List Number) → AllByRecursion (NumberFollows g scope) es → (s : ℕ)
      → Member s (flat_map indexed es) → Member s scope
  numbers_indexed [] k s m = elim m [ ]
  numbers_indexed (e ∷ es) k s m = elim (in_parts (indexed e) m) [
    | inl h ↦ number_indexed e k.0 s h
    | inr h ↦ numbers_indexed es k.1 s h
  ]

  -- reads of sections in scope
  reads_allowed : (l : ℕ) (ss : List ℕ) → ((s : ℕ) → Member s ss → Member s scope) → (x : Access)
      → Member x (reads l ss) → Allowed g scope x
  reads_allowed l ss there x m =
      let r = from_map (λ s. record { label = l; section = s; write = false }) ss m in
      record {
        in_scope = subst (λ (y : Access). Member y.section scope) (sym r.2) (there r.0 r.1);
        writable = λ w. false_true (sym (ap (λ (y : Access). y.write) r.2) ∙ w);
      }

  store_allowed : (l s : ℕ) (i e : Number) → StoresWell g scope s i e → (x : Access)
      → Member x (own_primitive l (Store s i e)) → Allowed g scope x
  store_allowed l s i e k x first = record { in_scope = k.in_scope; writable = λ w. k.writable }
  store_allowed l s i e k x (next m) = reads_allowed l (indexed i ++ indexed e)
      (λ t n. elim (in_parts (indexed i) n) [ inl h ↦ number_indexed i k.at t h | inr h ↦ number_indexed e k.stored t h ]) x m

  primitive_allowed : (l : ℕ) (s : Primitive) → PrimitiveFollows g scope s → (x : Access)
      → Member x (own_primitive l s) → Allowed g scope x
  primitive_allowed l Skip k x m = elim m [ ]
  primitive_allowed l (Assign y e) k x m = reads_allowed l (indexed e) (number_indexed e k.1) x m
  primitive_allowed l (Store s i e) k x m = store_allowed l s i e k x m
  primitive_allowed l (Print es) k x m = reads_allowed l (flat_map indexed es) (numbers_indexed es k) x m
  primitive_allowed l (Raise e) k x m = reads_allowed l (indexed e) (number_indexed e k) x m

module _ (p : Program) (g : Procedure) where
  -- the own accesses of a statement
  pub own_allowed : (scope : List ℕ) (l : ℕ) (s : Code) → FollowsOf p g scope s → (x : Access)
      → Member x (own_accesses l s) → Allowed g scope x
  own_allowed scope l (Do s) k x m = primitive_allowed g scope l s k x m
  own_allowed scope l (If t b c) k x m = reads_allowed g scope l (indexed_truth t) (truth_indexed g scope t k.0) x m
  own_allowed scope l (While t b) k x m = reads_allowed g scope l (indexed_truth t) (truth_indexed g scope t k.0) x m
  own_allowed scope l (Split s e y z b) k x m = reads_allowed g scope l (indexed e) (number_indexed g scope e k.1) x m
  own_allowed scope l (Parts s e q i b) k x m = reads_allowed g scope l (indexed e) (number_indexed g scope e k.1) x m
  own_allowed scope l (Begun s n j q i b) k x m = elim m [ ]
  own_allowed scope l (Call f es ss) k x m = reads_allowed g scope l (flat_map indexed es) (numbers_indexed g scope es k.values) x m
  own_allowed scope l (Async b) k x m = elim m [ ]
  own_allowed scope l (Finish b) k x m = elim m [ ]
  own_allowed scope l (Rescue b n c) k x m = elim m [ ]

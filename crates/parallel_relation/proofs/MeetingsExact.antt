-- The listed pairs are those that may run together.
use Rattle.std.proofs.Common.{◌≡◌, inl, inr, ℕ, List, [], ◌∷◌, ◌++◌, map, refl, sym, subst}
use Rattle.std.specs.Prelude.{◌↔◌, Bool, true, false, if◌then◌else◌}
use Rattle.sections.specs.Member.{Member, first, next}
use Rattle.types.specs.Code.{Code, Do, If, While, Split, Parts, Begun, Call, Async, Finish, Rescue, Codes, End, Then, Program}
use Rattle.effects.specs.Effects.{Subject, AllOf}
use Rattle.effects.specs.Tables.{Table, all_of, all_in, left_by, left_in, IsDerived, IsDerivedPending, IsStable}
use Rattle.effects.specs.Tables.{IsStablePending}
use Rattle.effects.proofs.Members.{in_left, in_right, in_map, from_map}
use Rattle.effects.proofs.StableTables.{parts, listed_of, listed, derived_of, derived, left_of, left, pending_of, pending}
use Rattle.parallel_relation.specs.Together.{Block, Together, AddedAt}
use Rattle.parallel_relation.specs.Meetings.{crossed, met_by_turn, met_by_turns, turned, added, added_inside, added_in, met_in}

in_crossed : {A : Type 0} {x y : A} {xs ys : List A} → Member x xs → Member y ys → Member (x, y) (crossed xs ys)
in_crossed {x = x} {ys = ys} (first {xs = xs}) k = in_left (crossed xs ys) (in_map (λ y. (x, y)) k)
in_crossed {ys = ys} (next {y = z} h) k = in_right (map (λ y. (z, y)) ys) (in_crossed h k)

-- a pair of the two lists
record Crossed {A : Type 0} (xs ys : List A) (m : A × A) : Type 0 where
  one : Member m.0 xs
  other : Member m.1 ys

from_crossed : {A : Type 0} (m : A × A) (xs ys : List A) → Member m (crossed xs ys) → Crossed xs ys m
from_crossed {A} m [] ys h = elim h [ ]
from_crossed {A} m (x ∷ xs) ys h = parts (map (λ y. (x, y)) ys)
    (λ k. let r = from_map (λ y. (x, y)) ys k in record {
      one = subst (λ (m : A × A). Member m.0 (x ∷ xs)) (sym r.2) first;
      other = subst (λ (m : A × A). Member m.1 ys) (sym r.2) r.1;
    })
    (λ k. let r = from_crossed m xs ys k in record { one = next r.one; other = r.other }) h

-- the pairs of two turns
module _ (subject : Subject) (q : ℕ) where
  in_turn : {x y : subject.Item} {ys : List subject.Item} → Member y ys → subject.apart q x y ≡ false
      → Member (x, y) (met_by_turn subject q x ys)
  in_turn {x} {y} (first {xs = ys}) e =
      in_left (met_by_turn subject q x ys)
      (subst (λ b. Member {A = subject.Item × subject.Item} (x, y) (if b then [] else (x, y) ∷ [])) (sym e) first)
  in_turn {x} (next {y = z} h) e = in_right (if subject.apart q x z then [] else (x, z) ∷ []) (in_turn h e)

  in_turns : {x y : subject.Item} {xs ys : List subject.Item} → Member x xs → Member y ys → subject.apart q x y ≡ false
      → Member (x, y) (met_by_turns subject q xs ys)
  in_turns {ys = ys} (first {xs = xs}) k e = in_left (met_by_turns subject q xs ys) (in_turn k e)
  in_turns {ys = ys} (next {y = z} h) k e = in_right (met_by_turn subject q z ys) (in_turns h k e)

  record Turned (xs ys : List subject.Item) (m : subject.Item × subject.Item) : Type 0 where
    one : Member m.0 xs
    other : Member m.1 ys
    meet : subject.apart q m.0 m.1 ≡ false

  from_turn : (m : subject.Item × subject.Item) (x : subject.Item) (ys : List subject.Item)
      → Member m (met_by_turn subject q x ys) → Turned (x ∷ []) ys m
  from_turn m x [] h = elim h [ ]
  from_turn m x (y ∷ ys) h = parts (if subject.apart q x y then [] else (x, y) ∷ [])
      (λ k. here (subject.apart q x y) refl k)
      (λ k. let r = from_turn m x ys k in record { one = r.one; other = next r.other; meet = r.meet }) h
    where
      it : (n : subject.Item × subject.Item) → Member n ((x, y) ∷ []) → subject.apart q x y ≡ false → Turned (x ∷ []) (y ∷ ys) n
      it n first e = record { one = first; other = first; meet = e }
      it n (next k) e = elim k [ ]

      here : (b : Bool) → subject.apart q x y ≡ b → Member m (if b then [] else (x, y) ∷ []) → Turned (x ∷ []) (y ∷ ys) m
      here true e k = elim k [ ]
      here false e k = it m k e

  from_turns : (m : subject.Item × subject.Item) (xs ys : List subject.Item) → Member m (met_by_turns subject q xs ys)
      → Turned xs ys m
  from_turns m [] ys h = elim h [ ]
  from_turns m (x ∷ xs) ys h = parts (met_by_turn subject q x ys)
      (λ k. let r = from_turn m x ys k in record { one = in_left xs r.one; other = r.other; meet = r.meet })
      (λ k. let r = from_turns m xs ys k in record { one = next r.one; other = r.other; meet = r.meet }) h

module _ (p : Program) (subject : Subject) where
  -- a pair is added at a label
  pub record Added (b : Codes) (x y : subject.Item) : Type 0 where
    pub label : ℕ
    pub pair : AddedAt p subject label b x y

  -- pairs that may run together are those that are added at some label
  pub together_added : {b : Codes} {x y : subject.Item} → Together p subject b x y → Added b x y
  together_added (Together.follows {l = l} f h) = record { label = l; pair = AddedAt.follows f h }
  together_added (Together.turns {l = l} f h) = record { label = l; pair = AddedAt.turns f h }
  together_added (Together.pieces {l = l} h) = record { label = l; pair = AddedAt.pieces h }
  together_added (Together.inside i h) = let r = together_added h in record { label = r.label; pair = AddedAt.inside i r.pair }
  together_added (Together.later h) = let r = together_added h in record { label = r.label; pair = AddedAt.later r.pair }

  pub added_together : {l : ℕ} {b : Codes} {x y : subject.Item} → AddedAt p subject l b x y → Together p subject b x y
  added_together (AddedAt.follows f h) = Together.follows f h
  added_together (AddedAt.turns f h) = Together.turns f h
  added_together (AddedAt.pieces h) = Together.pieces h
  added_together (AddedAt.inside i h) = Together.inside i (added_together h)
  added_together (AddedAt.later h) = Together.later (added_together h)

  -- a pair is added at a requested label
  pub record AddedWhere (asked : ℕ → Bool) (b : Codes) (m : subject.Item × subject.Item) : Type 0 where
    pub label : ℕ
    pub is : asked label ≡ true
    pub pair : AddedAt p subject label b m.0 m.1

  deeper : (asked : ℕ → Bool) {s : Code} {b : Codes} (l : ℕ) (rest : Codes) (m : subject.Item × subject.Item) → Block s b
      → AddedWhere asked b m → AddedWhere asked (Then l s rest) m
  deeper asked l rest m i r = record { label = r.label; is = r.is; pair = AddedAt.inside i r.pair }

  behind : (asked : ℕ → Bool) (l : ℕ) (s : Code) (rest : Codes) (m : subject.Item × subject.Item)
      → AddedWhere asked rest m → AddedWhere asked (Then l s rest) m
  behind asked l s rest m r = record { label = r.label; is = r.is; pair = AddedAt.later r.pair }

module _ (p : Program) (subject : Subject) (alls pendings : Table subject) where
  module _ (alls_derived : IsDerived p subject alls) (pendings_derived : IsDerivedPending p subject pendings) where
    statement : (s : Code) (l : ℕ) (x : subject.Item) → Member x (all_of subject alls l s) → AllOf p subject l s x
    statement s l x h = parts (subject.own l s) (λ k. AllOf.own_access k) (λ k. listed_of p subject alls alls_derived s l x k) h

    turns : (s : Code) (l : ℕ) (rest : Codes) (m : subject.Item × subject.Item) → Member m (turned subject alls pendings l s)
        → AddedAt p subject l (Then l s rest) m.0 m.1
    turns (While t b) l rest m h =
        let r = from_crossed m (left_by subject alls pendings (While t b)) (all_of subject alls l (While t b)) h in
        AddedAt.turns (left_of p subject alls pendings alls_derived pendings_derived (While t b) m.0 r.one)
        (statement (While t b) l m.1 r.other)
    turns (Do s) l rest m h = elim h [ ]
    turns (If t b c) l rest m h = elim h [ ]
    turns (Split s e x y b) l rest m h = elim h [ ]
    turns (Parts s e q i b) l rest m h =
        let r = from_turns subject q m (left_in subject alls pendings b) (subject.turn l ++ all_in subject alls b) h in
        AddedAt.pieces (record {
          pending = left p subject alls pendings alls_derived pendings_derived b m.0 r.one;
          later = parts (subject.turn l) (λ k. inl k) (λ k. inr (listed p subject alls alls_derived b m.1 k)) r.other;
          meet = r.meet;
        })
    turns (Begun s n k q i b) l rest m h = elim h [ ]
    turns (Call f es ss) l rest m h = elim h [ ]
    turns (Async b) l rest m h = elim h [ ]
    turns (Finish b) l rest m h = elim h [ ]
    turns (Rescue b n c) l rest m h = elim h [ ]

    -- what a statement adds is added at its label
    adds : (s : Code) (l : ℕ) (rest : Codes) (m : subject.Item × subject.Item) → Member m (added subject alls pendings l s rest)
        → AddedAt p subject l (Then l s rest) m.0 m.1
    adds s l rest m h =
        parts (crossed (left_by subject alls pendings s) (all_in subject alls rest))
        (λ k. let r = from_crossed m (left_by subject alls pendings s) (all_in subject alls rest) k in
        AddedAt.follows (left_of p subject alls pendings alls_derived pendings_derived s m.0 r.one)
        (listed p subject alls alls_derived rest m.1 r.other))
        (λ k. turns s l rest m k) h

    module _ (asked : ℕ → Bool) where
      here_adds : (l : ℕ) (s : Code) (rest : Codes) (m : subject.Item × subject.Item) (b : Bool) → asked l ≡ b
          → Member m (if b then added subject alls pendings l s rest else []) → AddedWhere p subject asked (Then l s rest) m
      here_adds l s rest m true e h = record { label = l; is = e; pair = adds s l rest m h }
      here_adds l s rest m false e h = elim h [ ]

      mutual
        inside_adds : (s : Code) (l : ℕ) (rest : Codes) (m : subject.Item × subject.Item)
            → Member m (added_inside subject alls pendings asked s) → AddedWhere p subject asked (Then l s rest) m
        inside_adds (Do s) l rest m h = elim h [ ]
        inside_adds (If t b c) l rest m h = parts (added_in subject alls pendings asked b)
            (λ k. deeper p subject asked l rest m Block.if_body (list_adds b m k))
            (λ k. deeper p subject asked l rest m Block.if_other (list_adds c m k)) h
        inside_adds (While t b) l rest m h = deeper p subject asked l rest m Block.while (list_adds b m h)
        inside_adds (Split s e x y b) l rest m h = deeper p subject asked l rest m Block.split (list_adds b m h)
        inside_adds (Parts s e q i b) l rest m h = deeper p subject asked l rest m Block.parts (list_adds b m h)
        inside_adds (Begun s n k q i b) l rest m h = elim h [ ]
        inside_adds (Call f es ss) l rest m h = elim h [ ]
        inside_adds (Async b) l rest m h = deeper p subject asked l rest m Block.async (list_adds b m h)
        inside_adds (Finish b) l rest m h = deeper p subject asked l rest m Block.finish (list_adds b m h)
        inside_adds (Rescue b n c) l rest m h = parts (added_in subject alls pendings asked b)
            (λ k. deeper p subject asked l rest m Block.rescued (list_adds b m k))
            (λ k. deeper p subject asked l rest m Block.handler (list_adds c m k)) h

        -- what is listed is added at a requested label
        pub list_adds : (b : Codes) (m : subject.Item × subject.Item) → Member m (added_in subject alls pendings asked b)
            → AddedWhere p subject asked b m
        list_adds End m h = elim h [ ]
        list_adds (Then l s rest) m h =
            parts (if asked l then added subject alls pendings l s rest else [])
            (λ k. here_adds l s rest m (asked l) refl k)
            (parts (added_inside subject alls pendings asked s) (λ k. inside_adds s l rest m k)
            (λ k. behind p subject asked l s rest m (list_adds rest m k))) h

  module _ (alls_derived : IsDerived p subject alls) (alls_stable : IsStable p subject alls)
      (pendings_stable : IsStablePending p subject alls pendings) (asked : ℕ → Bool) where
    block_adds : {s : Code} {b : Codes} → Block s b → (m : subject.Item × subject.Item)
        → Member m (added_in subject alls pendings asked b) → Member m (added_inside subject alls pendings asked s)
    block_adds (Block.if_body {c = c}) m h = in_left (added_in subject alls pendings asked c) h
    block_adds (Block.if_other {b = b}) m h = in_right (added_in subject alls pendings asked b) h
    block_adds Block.while m h = h
    block_adds Block.split m h = h
    block_adds Block.parts m h = h
    block_adds Block.async m h = h
    block_adds Block.finish m h = h
    block_adds (Block.rescued {c = c}) m h = in_left (added_in subject alls pendings asked c) h
    block_adds (Block.handler {b = b}) m h = in_right (added_in subject alls pendings asked b) h

    here_listed : (l : ℕ) (s : Code) (rest : Codes) (m : subject.Item × subject.Item) → asked l ≡ true
        → Member m (added subject alls pendings l s rest) → Member m (added_in subject alls pendings asked (Then l s rest))
    here_listed l s rest m e h =
        in_left (added_inside subject alls pendings asked s ++ added_in subject alls pendings asked rest)
        (subst (λ (b : Bool). Member m (if b then added subject alls pendings l s rest else [])) (sym e) h)

    -- what is added at a requested label is listed
    pub added_listed : {l : ℕ} {b : Codes} {x y : subject.Item} → asked l ≡ true → AddedAt p subject l b x y
        → Member (x, y) (added_in subject alls pendings asked b)
    added_listed e (AddedAt.follows {l = l} {s = s} {rest = rest} {x = x} {y = y} f h) =
        here_listed l s rest (x, y) e (in_left (turned subject alls pendings l s)
        (in_crossed (pending_of p subject alls pendings alls_derived alls_stable pendings_stable f) (derived p subject alls alls_stable h)))
    added_listed e (AddedAt.turns {l = l} {t = t} {b = b} {rest = rest} {x = x} {y = y} f h) =
        here_listed l (While t b) rest (x, y) e (in_right (crossed (left_by subject alls pendings (While t b)) (all_in subject alls rest))
        (in_crossed (pending_of p subject alls pendings alls_derived alls_stable pendings_stable f)
        (derived_of p subject alls alls_stable h)))
    added_listed e (AddedAt.pieces {l = l} {s = s} {q = q} {i = i} {e = size} {b = b} {rest = rest} {x = x} {y = y} h) =
        here_listed l (Parts s size q i b) rest (x, y) e
        (in_right (crossed (left_by subject alls pendings (Parts s size q i b)) (all_in subject alls rest))
        (in_turns subject q (pending p subject alls pendings alls_derived alls_stable pendings_stable h.pending)
        (elim h.later [
          | inl k ↦ in_left (all_in subject alls b) k
          | inr k ↦ in_right (subject.turn l) (derived p subject alls alls_stable k)
        ]) h.meet))
    added_listed e (AddedAt.inside {l = l} {s = s} {rest = rest} {x = x} {y = y} i h) =
        in_right (if asked l then added subject alls pendings l s rest else [])
        (in_left (added_in subject alls pendings asked rest) (block_adds i (x, y) (added_listed e h)))
    added_listed e (AddedAt.later {l = l} {s = s} {rest = rest} {x = x} {y = y} h) =
        in_right (if asked l then added subject alls pendings l s rest else [])
        (in_right (added_inside subject alls pendings asked s) (added_listed e h))

  module _ (alls_derived : IsDerived p subject alls) (alls_stable : IsStable p subject alls)
      (pendings_derived : IsDerivedPending p subject pendings) (pendings_stable : IsStablePending p subject alls pendings) where
    pub meetings_exact : (b : Codes) (x y : subject.Item) → Member (x, y) (met_in subject alls pendings b) ↔ Together p subject b x y
    meetings_exact b x y = (
      λ h. let r = list_adds alls_derived pendings_derived (λ l. true) b (x, y) h in added_together p subject r.pair,
      λ h. let r = together_added p subject h in added_listed alls_derived alls_stable pendings_stable (λ l. true) refl r.pair,
    )

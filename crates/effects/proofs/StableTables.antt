-- A table that lists what is derived, and to which one more round adds nothing, is the least solution.
use Rattle.std.proofs.Common.{inl, inr, ℕ, zero, suc, List, ◌++◌, map, sym, subst}
use Rattle.std.specs.Prelude.{◌↔◌}
use Rattle.sections.specs.Member.{Member}
use Rattle.types.specs.Code.{Code, Do, If, While, Split, Parts, Begun, Call, Async, Finish, Rescue, Codes, End, Then, Program}
use Rattle.types.specs.Run.{procedure_of}
use Rattle.types.specs.Sound.{passed_for}
use Rattle.effects.specs.Effects.{past_parts, past_split, Inner, Subject, AllOf, All, PendingOf, Pending}
use Rattle.effects.specs.Tables.{Table, all_inside, all_in, left_by, left_in, alls_after, pendings_after, IsDerived}
use Rattle.effects.specs.Tables.{IsDerivedPending, IsStable, IsStablePending}
use Rattle.effects.proofs.Members.{in_left, in_right, in_map, in_parts, from_map}

-- in the first part, or in the second
pub parts : {A P : Type 0} {x : A} (xs : List A) {ys : List A} → (Member x xs → P) → (Member x ys → P) → Member x (xs ++ ys) → P
parts xs f g h = elim (in_parts xs h) [ inl k ↦ f k | inr k ↦ g k ]

-- the names of an `if` or a loop are those around it
pub kept : (subject : Subject) (xs : List subject.Item) (x : subject.Item) → Member x xs → Member (subject.renamed (λ s. s) x) xs
kept subject xs x h = subst (λ y. Member y xs) (sym (subject.kept x)) h

module _ (p : Program) (subject : Subject) (table : Table subject) where
  module _ (derived : IsDerived p subject table) where
    renames : (s : Code) (l : ℕ) (b : Codes) (out : ℕ → ℕ) → Inner p s b out → (xs : List subject.Item)
        → ((x : subject.Item) → Member x xs → All p subject b x)
        → (y : subject.Item) → Member y (map (subject.renamed out) xs) → AllOf p subject l s y
    renames s l b out i xs deeper y h = let r = from_map (subject.renamed out) xs h in AllOf.inner i (deeper r.0 r.1) r.2

    mutual
      pub listed_of : (s : Code) (l : ℕ) (x : subject.Item) → Member x (all_inside subject table s) → AllOf p subject l s x
      listed_of (Do s) l x h = elim h [ ]
      listed_of (If t b c) l x h =
          parts (all_in subject table b) (λ k. AllOf.inner Inner.if_body (listed b x k) (sym (subject.kept x)))
          (λ k. AllOf.inner Inner.if_other (listed c x k) (sym (subject.kept x))) h
      listed_of (While t b) l x h = AllOf.inner Inner.while (listed b x h) (sym (subject.kept x))
      listed_of (Split s e y z b) l x h =
          renames (Split s e y z b) l b (past_split s y z) Inner.split (all_in subject table b) (listed b) x h
      listed_of (Parts s e q i b) l x h =
          renames (Parts s e q i b) l b (past_parts s q) Inner.parts (all_in subject table b) (listed b) x h
      listed_of (Begun s n k q i b) l x h = elim h [ ]
      listed_of (Call f es ss) l x h = renames (Call f es ss) l (procedure_of p f).body (passed_for ss) Inner.call (table f) (derived f) x h
      listed_of (Async b) l x h = AllOf.async (listed b x h)
      listed_of (Finish b) l x h = AllOf.finish (listed b x h)
      listed_of (Rescue b n c) l x h =
          parts (all_in subject table b) (λ k. AllOf.rescued (listed b x k))
          (λ k. AllOf.inner Inner.handler (listed c x k) (sym (subject.kept x))) h

      -- what is listed is derived
      pub listed : (b : Codes) (x : subject.Item) → Member x (all_in subject table b) → All p subject b x
      listed End x h = elim h [ ]
      listed (Then l s rest) x h = parts (subject.own l s) (λ k. All.here (AllOf.own_access k))
          (parts (all_inside subject table s) (λ k. All.here (listed_of s l x k)) (λ k. All.later (listed rest x k))) h

  module _ (stable : IsStable p subject table) where
    inner_listed : {s : Code} {b : Codes} {out : ℕ → ℕ} → Inner p s b out → (x : subject.Item) → Member x (all_in subject table b)
        → Member (subject.renamed out x) (all_inside subject table s)
    inner_listed (Inner.if_body {b = b} {c = c}) x h =
        kept subject (all_in subject table b ++ all_in subject table c) x (in_left (all_in subject table c) h)
    inner_listed (Inner.if_other {b = b} {c = c}) x h =
        kept subject (all_in subject table b ++ all_in subject table c) x (in_right (all_in subject table b) h)
    inner_listed (Inner.while {b = b}) x h = kept subject (all_in subject table b) x h
    inner_listed (Inner.split {s = s} {l = l} {r = r}) x h = in_map (subject.renamed (past_split s l r)) h
    inner_listed (Inner.parts {s = s} {q = q}) x h = in_map (subject.renamed (past_parts s q)) h
    inner_listed (Inner.call {f = f} {ss = ss}) x h = in_map (subject.renamed (passed_for ss)) (stable f x h)
    inner_listed (Inner.handler {b = b} {c = c}) x h =
        kept subject (all_in subject table b ++ all_in subject table c) x (in_right (all_in subject table b) h)

    mutual
      pub derived_of : {l : ℕ} {s : Code} {x : subject.Item} → AllOf p subject l s x
          → Member x (subject.own l s ++ all_inside subject table s)
      derived_of (AllOf.own_access {s = s} h) = in_left (all_inside subject table s) h
      derived_of (AllOf.inner {l = l} {s = s} {x = x} i h e) =
          subst (λ y. Member y (subject.own l s ++ all_inside subject table s)) (sym e)
          (in_right (subject.own l s) (inner_listed i x (derived h)))
      derived_of (AllOf.async {l = l} {b = b} h) = in_right (subject.own l (Async b)) (derived h)
      derived_of (AllOf.finish {l = l} {b = b} h) = in_right (subject.own l (Finish b)) (derived h)
      derived_of (AllOf.rescued {l = l} {n = n} {b = b} {c = c} h) =
          in_right (subject.own l (Rescue b n c)) (in_left (all_in subject table c) (derived h))

      -- what is derived is listed
      pub derived : {b : Codes} {x : subject.Item} → All p subject b x → Member x (all_in subject table b)
      derived (All.here {l = l} {s = s} {rest = rest} h) =
          parts (subject.own l s) (λ k. in_left (all_inside subject table s ++ all_in subject table rest) k)
          (λ k. in_right (subject.own l s) (in_left (all_in subject table rest) k)) (derived_of h)
      derived (All.later {l = l} {s = s} h) = in_right (subject.own l s) (in_right (all_inside subject table s) (derived h))

module _ (p : Program) (subject : Subject) (alls pendings : Table subject) (derived_alls : IsDerived p subject alls) where
  module _ (derived_pendings : IsDerivedPending p subject pendings) where
    renames_left : (s : Code) (b : Codes) (out : ℕ → ℕ) → Inner p s b out → (xs : List subject.Item)
        → ((x : subject.Item) → Member x xs → Pending p subject b x)
        → (y : subject.Item) → Member y (map (subject.renamed out) xs) → PendingOf p subject s y
    renames_left s b out i xs deeper y h = let r = from_map (subject.renamed out) xs h in PendingOf.inner i (deeper r.0 r.1) r.2

    mutual
      pub left_of : (s : Code) (x : subject.Item) → Member x (left_by subject alls pendings s) → PendingOf p subject s x
      left_of (Do s) x h = elim h [ ]
      left_of (If t b c) x h =
          parts (left_in subject alls pendings b) (λ k. PendingOf.inner Inner.if_body (left b x k) (sym (subject.kept x)))
          (λ k. PendingOf.inner Inner.if_other (left c x k) (sym (subject.kept x))) h
      left_of (While t b) x h = PendingOf.inner Inner.while (left b x h) (sym (subject.kept x))
      left_of (Split s e y z b) x h =
          renames_left (Split s e y z b) b (past_split s y z) Inner.split (left_in subject alls pendings b) (left b) x h
      left_of (Parts s e q i b) x h =
          renames_left (Parts s e q i b) b (past_parts s q) Inner.parts (left_in subject alls pendings b) (left b) x h
      left_of (Begun s n k q i b) x h = elim h [ ]
      left_of (Call f es ss) x h =
          renames_left (Call f es ss) (procedure_of p f).body (passed_for ss) Inner.call (pendings f) (derived_pendings f) x h
      left_of (Async b) x h = PendingOf.async (listed p subject alls derived_alls b x h)
      left_of (Finish b) x h = elim h [ ]
      left_of (Rescue b n c) x h = PendingOf.inner Inner.handler (left c x h) (sym (subject.kept x))

      -- what is listed as pending is derived
      pub left : (b : Codes) (x : subject.Item) → Member x (left_in subject alls pendings b) → Pending p subject b x
      left End x h = elim h [ ]
      left (Then l s rest) x h =
          parts (left_by subject alls pendings s) (λ k. Pending.here (left_of s x k)) (λ k. Pending.later (left rest x k)) h

  module _ (stable_alls : IsStable p subject alls) (stable : IsStablePending p subject alls pendings) where
    inner_left : {s : Code} {b : Codes} {out : ℕ → ℕ} → Inner p s b out → (x : subject.Item) → Member x (left_in subject alls pendings b)
        → Member (subject.renamed out x) (left_by subject alls pendings s)
    inner_left (Inner.if_body {b = b} {c = c}) x h =
        kept subject (left_in subject alls pendings b ++ left_in subject alls pendings c) x (in_left (left_in subject alls pendings c) h)
    inner_left (Inner.if_other {b = b} {c = c}) x h =
        kept subject (left_in subject alls pendings b ++ left_in subject alls pendings c) x (in_right (left_in subject alls pendings b) h)
    inner_left (Inner.while {b = b}) x h = kept subject (left_in subject alls pendings b) x h
    inner_left (Inner.split {s = s} {l = l} {r = r}) x h = in_map (subject.renamed (past_split s l r)) h
    inner_left (Inner.parts {s = s} {q = q}) x h = in_map (subject.renamed (past_parts s q)) h
    inner_left (Inner.call {f = f} {ss = ss}) x h = in_map (subject.renamed (passed_for ss)) (stable f x h)
    inner_left (Inner.handler {c = c}) x h = kept subject (left_in subject alls pendings c) x h

    mutual
      pub pending_of : {s : Code} {x : subject.Item} → PendingOf p subject s x → Member x (left_by subject alls pendings s)
      pending_of (PendingOf.inner {s = s} {x = x} i h e) =
          subst (λ y. Member y (left_by subject alls pendings s)) (sym e) (inner_left i x (pending h))
      pending_of (PendingOf.async h) = derived p subject alls stable_alls h

      -- what is derived as pending is listed
      pub pending : {b : Codes} {x : subject.Item} → Pending p subject b x → Member x (left_in subject alls pendings b)
      pending (Pending.here {rest = rest} h) = in_left (left_in subject alls pendings rest) (pending_of h)
      pending (Pending.later {s = s} h) = in_right (left_by subject alls pendings s) (pending h)

module _ (p : Program) (subject : Subject) where
  -- rounds that start from the empty table list only what is derived
  pub alls_derived : (k : ℕ) → IsDerived p subject (alls_after p subject k)
  alls_derived zero f x h = elim h [ ]
  alls_derived (suc k) f x h = listed p subject (alls_after p subject k) (alls_derived k) (procedure_of p f).body x h

  pub pendings_derived : (alls : Table subject) → IsDerived p subject alls → (k : ℕ)
      → IsDerivedPending p subject (pendings_after p subject alls k)
  pendings_derived alls d zero f x h = elim h [ ]
  pendings_derived alls d (suc k) f x h =
      left p subject alls (pendings_after p subject alls k) d (pendings_derived alls d k) (procedure_of p f).body x h

  -- tables that list only what is derived and are stable are the least solution
  pub alls_exact : (table : Table subject) → IsDerived p subject table → IsStable p subject table → (b : Codes) (x : subject.Item)
      → Member x (all_in subject table b) ↔ All p subject b x
  alls_exact table d s b x = (listed p subject table d b x, derived p subject table s)

  pub pendings_exact : (alls pendings : Table subject) → IsDerived p subject alls → IsStable p subject alls
      → IsDerivedPending p subject pendings → IsStablePending p subject alls pendings
      → (b : Codes) (x : subject.Item) → Member x (left_in subject alls pendings b) ↔ Pending p subject b x
  pendings_exact alls pendings d s e t b x = (left p subject alls pendings d e b x, pending p subject alls pendings d s t)

-- All and Pending are the least solution of the table's rows.
use Rattle.std.proofs.Common.{◌≡◌, ◌⊎◌, inl, inr, ℕ, refl, sym, subst}
use Rattle.std.specs.Prelude.{◌↔◌, Bool, true}
use Rattle.sections.specs.Member.{Member}
use Rattle.types.specs.Code.{Code, Do, If, While, Split, Parts, Begun, Call, Async, Finish, Rescue, Codes, End, Then, Program}
use Rattle.effects.specs.Effects.{Inner, Subject, AllOf, All, PendingOf, Pending}
use Rattle.effects.specs.Rows.{Inside, AllInside, LeftBy, SolvesAll, SolvesPending}

module _ (p : Program) (subject : Subject) where
  -- the names of an `if` or a loop are those around it
  as_kept : (xs : subject.Item → Type 0) (x : subject.Item) → xs x → xs (subject.renamed (λ s. s) x)
  as_kept xs x h = subst xs (sym (subject.kept x)) h

  -- an item of a block, in the names around the statement
  inside : (has : Codes → subject.Item → Type 0) {s : Code} {b : Codes} {out : ℕ → ℕ} → Inner p s b out
      → (x : subject.Item) → has b x → Inside p subject has s (subject.renamed out x)
  inside has (Inner.if_body {b = b} {c = c}) x h = inl (as_kept (has b) x h)
  inside has (Inner.if_other {b = b} {c = c}) x h = inr (as_kept (has c) x h)
  inside has (Inner.while {b = b}) x h = as_kept (has b) x h
  inside has Inner.split x h = record { item = x; among = h; same = refl }
  inside has Inner.parts x h = record { item = x; among = h; same = refl }
  inside has Inner.call x h = record { item = x; among = h; same = refl }
  inside has (Inner.handler {c = c}) x h = inr (as_kept (has c) x h)

  from_all_of : {l : ℕ} {s : Code} {x : subject.Item} → AllOf p subject l s x → Member x (subject.own l s) ⊎ AllInside p subject s x
  from_all_of (AllOf.own_access h) = inl h
  from_all_of (AllOf.inner {s = s} {x = x} i h e) = inr (subst (AllInside p subject s) (sym e) (inside (All p subject) i x h))
  from_all_of (AllOf.async h) = inr h
  from_all_of (AllOf.finish h) = inr h
  from_all_of (AllOf.rescued h) = inr (inl h)

  to_all_of : (l : ℕ) (s : Code) (x : subject.Item) → AllInside p subject s x → AllOf p subject l s x
  to_all_of l (Do s) x h = absurd h
  to_all_of l (If t b c) x (inl h) = AllOf.inner Inner.if_body h (sym (subject.kept x))
  to_all_of l (If t b c) x (inr h) = AllOf.inner Inner.if_other h (sym (subject.kept x))
  to_all_of l (While t b) x h = AllOf.inner Inner.while h (sym (subject.kept x))
  to_all_of l (Split s e y z b) x h = AllOf.inner Inner.split h.among h.same
  to_all_of l (Parts s e q i b) x h = AllOf.inner Inner.parts h.among h.same
  to_all_of l (Begun s n k q i b) x h = absurd h
  to_all_of l (Call f es ss) x h = AllOf.inner Inner.call h.among h.same
  to_all_of l (Async b) x h = AllOf.async h
  to_all_of l (Finish b) x h = AllOf.finish h
  to_all_of l (Rescue b n c) x (inl h) = AllOf.rescued h
  to_all_of l (Rescue b n c) x (inr h) = AllOf.inner Inner.handler h (sym (subject.kept x))

  pub all_rows : (l : ℕ) (s : Code) (x : subject.Item) → AllOf p subject l s x ↔ (Member x (subject.own l s) ⊎ AllInside p subject s x)
  all_rows l s x = (from_all_of, λ h. elim h [ inl k ↦ AllOf.own_access k | inr k ↦ to_all_of l s x k ])

  -- what a block leaves pending, in the names around the statement
  left_inside : {s : Code} {b : Codes} {out : ℕ → ℕ} → Inner p s b out → (x : subject.Item) → Pending p subject b x
      → LeftBy p subject s (subject.renamed out x)
  left_inside (Inner.if_body {b = b} {c = c}) x h = inl (as_kept (Pending p subject b) x h)
  left_inside (Inner.if_other {b = b} {c = c}) x h = inr (as_kept (Pending p subject c) x h)
  left_inside (Inner.while {b = b}) x h = as_kept (Pending p subject b) x h
  left_inside Inner.split x h = record { item = x; among = h; same = refl }
  left_inside Inner.parts x h = record { item = x; among = h; same = refl }
  left_inside Inner.call x h = record { item = x; among = h; same = refl }
  left_inside (Inner.handler {c = c}) x h = as_kept (Pending p subject c) x h

  from_pending_of : {s : Code} {x : subject.Item} → PendingOf p subject s x → LeftBy p subject s x
  from_pending_of (PendingOf.inner {s = s} {x = x} i h e) =
      subst (LeftBy p subject s) (sym e) (left_inside i x h)
  from_pending_of (PendingOf.async h) = h

  to_pending_of : (s : Code) (x : subject.Item) → LeftBy p subject s x → PendingOf p subject s x
  to_pending_of (Do s) x h = absurd h
  to_pending_of (If t b c) x (inl h) = PendingOf.inner Inner.if_body h (sym (subject.kept x))
  to_pending_of (If t b c) x (inr h) = PendingOf.inner Inner.if_other h (sym (subject.kept x))
  to_pending_of (While t b) x h = PendingOf.inner Inner.while h (sym (subject.kept x))
  to_pending_of (Split s e y z b) x h = PendingOf.inner Inner.split h.among h.same
  to_pending_of (Parts s e q i b) x h = PendingOf.inner Inner.parts h.among h.same
  to_pending_of (Begun s n k q i b) x h = absurd h
  to_pending_of (Call f es ss) x h = PendingOf.inner Inner.call h.among h.same
  to_pending_of (Async b) x h = PendingOf.async h
  to_pending_of (Finish b) x h = absurd h
  to_pending_of (Rescue b n c) x h = PendingOf.inner Inner.handler h (sym (subject.kept x))

  pub pending_rows : (s : Code) (x : subject.Item) → PendingOf p subject s x ↔ LeftBy p subject s x
  pending_rows s x = (from_pending_of, to_pending_of s x)

  from_all : {l : ℕ} {s : Code} {rest : Codes} {x : subject.Item} → All p subject (Then l s rest) x
      → AllOf p subject l s x ⊎ All p subject rest x
  from_all (All.here h) = inl h
  from_all (All.later h) = inr h

  pub all_lists : (l : ℕ) (s : Code) (rest : Codes) (x : subject.Item)
      → All p subject (Then l s rest) x ↔ (AllOf p subject l s x ⊎ All p subject rest x)
  all_lists l s rest x = (from_all, λ h. elim h [ inl k ↦ All.here k | inr k ↦ All.later k ])

  from_pending : {l : ℕ} {s : Code} {rest : Codes} {x : subject.Item} → Pending p subject (Then l s rest) x
      → PendingOf p subject s x ⊎ Pending p subject rest x
  from_pending (Pending.here h) = inl h
  from_pending (Pending.later h) = inr h

  pub pending_lists : (l : ℕ) (s : Code) (rest : Codes) (x : subject.Item)
      → Pending p subject (Then l s rest) x ↔ (PendingOf p subject s x ⊎ Pending p subject rest x)
  pending_lists l s rest x = (from_pending, λ h. elim h [ inl k ↦ Pending.here k | inr k ↦ Pending.later k ])

  pub all_none : (x : subject.Item) → All p subject End x → ⊥
  all_none x h = elim h [ ]

  module _ (has : Codes → subject.Item → Bool) (solves : SolvesAll p subject has) where
    mutual
      least_of : {l : ℕ} {s : Code} {x : subject.Item} → AllOf p subject l s x → (rest : Codes) → has (Then l s rest) x ≡ true
      least_of (AllOf.own_access {l = l} {s = s} {x = x} h) rest = solves.own l s rest x h
      least_of (AllOf.inner {l = l} {s = s} {b = b} {out = out} {x = x} i h e) rest =
          subst (λ y. has (Then l s rest) y ≡ true) (sym e) (solves.inner l s b rest out x i (least h))
      least_of (AllOf.async {l = l} {b = b} {x = x} h) rest = solves.async l b rest x (least h)
      least_of (AllOf.finish {l = l} {b = b} {x = x} h) rest = solves.finish l b rest x (least h)
      least_of (AllOf.rescued {l = l} {n = n} {b = b} {c = c} {x = x} h) rest = solves.rescued l n b c rest x (least h)

      -- every solution contains all of All
      pub least : {b : Codes} {x : subject.Item} → All p subject b x → has b x ≡ true
      least (All.here {rest = rest} h) = least_of h rest
      least (All.later {l = l} {s = s} {rest = rest} {x = x} h) = solves.later l s rest x (least h)

  module _ (has : Codes → subject.Item → Bool) (solves : SolvesPending p subject has) where
    mutual
      least_pending_of : {s : Code} {x : subject.Item} → PendingOf p subject s x → (l : ℕ) (rest : Codes) → has (Then l s rest) x ≡ true
      least_pending_of (PendingOf.inner {s = s} {b = b} {out = out} {x = x} i h e) l rest =
          subst (λ y. has (Then l s rest) y ≡ true) (sym e) (solves.inner l s b rest out x i (least_pending h))
      least_pending_of (PendingOf.async {b = b} {x = x} h) l rest = solves.async l b rest x h

      -- and of Pending
      pub least_pending : {b : Codes} {x : subject.Item} → Pending p subject b x → has b x ≡ true
      least_pending (Pending.here {l = l} {rest = rest} h) = least_pending_of h l rest
      least_pending (Pending.later {l = l} {s = s} {rest = rest} {x = x} h) = solves.later l s rest x (least_pending h)

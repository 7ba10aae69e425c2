-- What is derived is listed after some number of rounds. So a derivation can be recovered.
use Rattle.std.proofs.Common.{◌≡◌, ℕ, zero, suc, List, [], ◌++◌, sym, subst}
use Rattle.std.proofs.Math.Logic.{∥∥₁_map}
use Rattle.std.specs.List.{list_any}
use Rattle.std.specs.Prelude.{Bool, true}
use Rattle.sections.specs.Member.{Member}
use Rattle.sections.proofs.Members.{any_member, member_any}
use Rattle.types.specs.Code.{Code, Async, Finish, Rescue, Codes, Program}
use Rattle.types.specs.Run.{procedure_of}
use Rattle.types.specs.Sound.{passed_for}
use Rattle.effects.specs.Effects.{past_parts, past_split, Inner, Subject, AllOf, All, PendingOf, Pending}
use Rattle.effects.specs.Tables.{Table, all_inside, all_in, left_by, left_in, alls_after, IsDerivedPending}
use Rattle.parallel_relation.proofs.LeastNumbers.{Passing, some_passes}
use Rattle.effects.proofs.Members.{in_left, in_right, in_map}
use Rattle.effects.proofs.StableTables.{parts, kept, listed, left, alls_derived}

module _ (p : Program) (subject : Subject) where
  abbrev alls : ℕ → Table subject
  alls = alls_after p subject

  -- what is left pending, where All comes from the same number of rounds
  abbrev pendings : ℕ → Table subject
  pendings zero f = []
  pendings (suc k) f = left_in subject (alls k) (pendings k) (procedure_of p f).body

  -- ---- All
  abbrev AllReached : Codes → subject.Item → Type 0
  AllReached b x = (k : ℕ) × Member x (all_in subject (alls k) b)

  inner_reached : {s : Code} {b : Codes} {out : ℕ → ℕ} → Inner p s b out → (x : subject.Item) (k : ℕ) → Member x (all_in subject (alls k) b)
      → (n : ℕ) × Member (subject.renamed out x) (all_inside subject (alls n) s)
  inner_reached (Inner.if_body {b = b} {c = c}) x k h =
      (k, kept subject (all_in subject (alls k) b ++ all_in subject (alls k) c) x (in_left (all_in subject (alls k) c) h))
  inner_reached (Inner.if_other {b = b} {c = c}) x k h =
      (k, kept subject (all_in subject (alls k) b ++ all_in subject (alls k) c) x (in_right (all_in subject (alls k) b) h))
  inner_reached (Inner.while {b = b}) x k h = (k, kept subject (all_in subject (alls k) b) x h)
  inner_reached (Inner.split {s = s} {l = l} {r = r}) x k h = (k, in_map (subject.renamed (past_split s l r)) h)
  inner_reached (Inner.parts {s = s} {q = q}) x k h = (k, in_map (subject.renamed (past_parts s q)) h)
  inner_reached (Inner.call {f = f} {ss = ss}) x k h = (suc k, in_map (subject.renamed (passed_for ss)) h)
  inner_reached (Inner.handler {b = b} {c = c}) x k h =
      (k, kept subject (all_in subject (alls k) b ++ all_in subject (alls k) c) x (in_right (all_in subject (alls k) b) h))

  mutual
    of_reached : {l : ℕ} {s : Code} {x : subject.Item} → AllOf p subject l s x
        → (k : ℕ) × Member x (subject.own l s ++ all_inside subject (alls k) s)
    of_reached (AllOf.own_access {s = s} h) = (zero, in_left (all_inside subject (alls zero) s) h)
    of_reached (AllOf.inner {l = l} {s = s} {x = x} i h e) =
        let deep = all_reached h in
        let up = inner_reached i x deep.0 deep.1 in
        (up.0, subst (λ y. Member y (subject.own l s ++ all_inside subject (alls up.0) s)) (sym e) (in_right (subject.own l s) up.1))
    of_reached (AllOf.async {l = l} {b = b} h) = let deep = all_reached h in (deep.0, in_right (subject.own l (Async b)) deep.1)
    of_reached (AllOf.finish {l = l} {b = b} h) = let deep = all_reached h in (deep.0, in_right (subject.own l (Finish b)) deep.1)
    of_reached (AllOf.rescued {l = l} {n = n} {b = b} {c = c} h) =
        let deep = all_reached h in (deep.0, in_right (subject.own l (Rescue b n c)) (in_left (all_in subject (alls deep.0) c) deep.1))

    all_reached : {b : Codes} {x : subject.Item} → All p subject b x → AllReached b x
    all_reached (All.here {l = l} {s = s} {rest = rest} h) =
        let deep = of_reached h in
        let below = all_in subject (alls deep.0) rest in
        let inside = all_inside subject (alls deep.0) s in
        (deep.0, parts (subject.own l s) (λ k. in_left (inside ++ below) k) (λ k. in_right (subject.own l s) (in_left below k)) deep.1)
    all_reached (All.later {l = l} {s = s} h) =
        let deep = all_reached h in (deep.0, in_right (subject.own l s) (in_right (all_inside subject (alls deep.0) s) deep.1))

  -- ---- Pending
  abbrev PendingReached : Codes → subject.Item → Type 0
  PendingReached b x = (k : ℕ) × Member x (left_in subject (alls k) (pendings k) b)

  inner_left : {s : Code} {b : Codes} {out : ℕ → ℕ} → Inner p s b out → (x : subject.Item) (k : ℕ)
      → Member x (left_in subject (alls k) (pendings k) b)
      → (n : ℕ) × Member (subject.renamed out x) (left_by subject (alls n) (pendings n) s)
  inner_left (Inner.if_body {b = b} {c = c}) x k h =
      let other = left_in subject (alls k) (pendings k) c in
      (k, kept subject (left_in subject (alls k) (pendings k) b ++ other) x (in_left other h))
  inner_left (Inner.if_other {b = b} {c = c}) x k h =
      let one = left_in subject (alls k) (pendings k) b in
      (k, kept subject (one ++ left_in subject (alls k) (pendings k) c) x (in_right one h))
  inner_left (Inner.while {b = b}) x k h = (k, kept subject (left_in subject (alls k) (pendings k) b) x h)
  inner_left (Inner.split {s = s} {l = l} {r = r}) x k h = (k, in_map (subject.renamed (past_split s l r)) h)
  inner_left (Inner.parts {s = s} {q = q}) x k h = (k, in_map (subject.renamed (past_parts s q)) h)
  inner_left (Inner.call {f = f} {ss = ss}) x k h = (suc k, in_map (subject.renamed (passed_for ss)) h)
  inner_left (Inner.handler {c = c}) x k h = (k, kept subject (left_in subject (alls k) (pendings k) c) x h)

  mutual
    by_reached : {s : Code} {x : subject.Item} → PendingOf p subject s x → (k : ℕ) × Member x (left_by subject (alls k) (pendings k) s)
    by_reached (PendingOf.inner {s = s} {x = x} i h e) =
        let deep = pending_reached h in
        let up = inner_left i x deep.0 deep.1 in
        (up.0, subst (λ y. Member y (left_by subject (alls up.0) (pendings up.0) s)) (sym e) up.1)
    by_reached (PendingOf.async h) = all_reached h

    pending_reached : {b : Codes} {x : subject.Item} → Pending p subject b x → PendingReached b x
    pending_reached (Pending.here {rest = rest} h) =
        let deep = by_reached h in (deep.0, in_left (left_in subject (alls deep.0) (pendings deep.0) rest) deep.1)
    pending_reached (Pending.later {s = s} h) =
        let deep = pending_reached h in (deep.0, in_right (left_by subject (alls deep.0) (pendings deep.0) s) deep.1)

  pendings_derived : (k : ℕ) → IsDerivedPending p subject (pendings k)
  pendings_derived zero f x h = elim h [ ]
  pendings_derived (suc k) f x h =
      left p subject (alls k) (pendings k) (alls_derived p subject k) (pendings_derived k) (procedure_of p f).body x h

  -- ---- if items can be compared, a derivation is found
  module _ (same : subject.Item → subject.Item → Bool) (itself : (x : subject.Item) → same x x ≡ true)
      (are_same : (x y : subject.Item) → same x y ≡ true → x ≡ y) where
    found : (x : subject.Item) (xs : List subject.Item) → list_any (same x) xs ≡ true → Member x xs
    found x xs e =
        let one = any_member (same x) xs e in
        subst (λ y. Member y xs) (sym (are_same x one.item one.passes)) one.member

    pub all_found : (b : Codes) (x : subject.Item) → ∥ All p subject b x ∥₁ → All p subject b x
    all_found b x there =
        let test : ℕ → Bool = λ k. list_any (same x) (all_in subject (alls k) b) in
        let some = some_passes test (∥∥₁_map there (λ (h : All p subject b x).
        let k : AllReached b x = all_reached h in
        let passing : Passing test = (k.0, member_any (same x) (all_in subject (alls k.0) b) k.1 (itself x)) in passing)) in
        listed p subject (alls some.0) (alls_derived p subject some.0) b x (found x (all_in subject (alls some.0) b) some.1)

    pub pending_found : (b : Codes) (x : subject.Item) → ∥ Pending p subject b x ∥₁ → Pending p subject b x
    pending_found b x there =
        let test : ℕ → Bool = λ k. list_any (same x) (left_in subject (alls k) (pendings k) b) in
        let some = some_passes test (∥∥₁_map there (λ (h : Pending p subject b x).
        let k : PendingReached b x = pending_reached h in
        let passing : Passing test =
        (k.0, member_any (same x) (left_in subject (alls k.0) (pendings k.0) b) k.1 (itself x)) in passing)) in
        left p subject (alls some.0) (pendings some.0) (alls_derived p subject some.0) (pendings_derived some.0) b x
        (found x (left_in subject (alls some.0) (pendings some.0) b) some.1)

-- Meetings in their order, and which pairs they are.
use Rattle.std.proofs.Common.{◌≡◌, inl, inr, ℕ, zero, suc, ◌+◌, ◌<◌, List, [], ◌∷◌, ◌++◌, length, map, refl, sym, ap, subst, ◌∙◌, arith, true≢false, Ordering, Less, Equal, Greater}
use Rattle.std.proofs.lemmas.Bool.{cases_lt, eq-eqb, eqb-true, ltb-true}
use Rattle.std.proofs.lemmas.List.Elements.{All-contains}
use Rattle.std.proofs.lemmas.Map.Keys.{sorted_tail}
use Rattle.std.proofs.lemmas.Map.Views.{All-after_first}
use Rattle.std.specs.Cmp.Lexicographic.{slice_cmp}
use Rattle.std.specs.List.Sorted.{IsStrictlySortedBy}
use Rattle.std.specs.Ordering.{nat_cmp, ordering_then, on}
use Rattle.std.specs.Prelude.{◌↔◌, Bool, true, false, nat_eq, nat_lt, cond, if◌then◌else◌, Contains, slice_index_or, Option, None, Some}
use Rattle.sections.specs.Member.{Member, first, next}
use Rattle.sections.specs.declared.id.SectionId.{SectionId}
use Rattle.types.specs.Code.{Codes, End, Program}
use Rattle.types.specs.Run.{procedure_of}
use Rattle.effects.specs.Accesses.{Access}
use Rattle.effects.specs.Effects.{accesses}
use Rattle.effects.specs.Summarized.{body_of}
use Rattle.effects.specs.declared.access.Access.{Access as rAccess}
use Rattle.effects.proofs.Members.{in_left, in_right, in_map, in_parts, from_map}
use Rattle.parallel_relation.specs.Listing.{alls_of, pendings_of, is_asked, AreListsOf}
use Rattle.parallel_relation.specs.Meetings.{added_in}
use Rattle.parallel_relation.specs.Order.{kind_number, is_less, Meeting, meeting_of, meeting_key, Ascends, IsMeeting, AreMeetings}
use Rattle.parallel_relation.specs.Together.{Together, AddedAt, AccessesAddedAt}
use Rattle.parallel_relation.specs.Translation.{meeting, key_in}
use Rattle.parallel_relation.specs.declared.listing.ListedAccesses.{ListedAccesses}
use Rattle.parallel_relation.specs.declared.meeting.Meeting.{Meeting as rMeeting}
use Rattle.parallel_relation.proofs.ListingLemmas.{lists_derived, lists_derived_pending, lists_stable, lists_stable_pending}
use Rattle.parallel_relation.proofs.SpreadLemmas.{no_body}
use Rattle.parallel_relation.proofs.MeetingsExact.{list_adds, added_listed, added_together, together_added}

-- Order

first_decides : (b c : Bool) (rest : Ordering) (r : Bool) → (b ≡ true → c ≡ true → ⊥) → (rest ≡ Less → r ≡ true)
    → ordering_then (cond b Less (cond c Equal Greater)) rest ≡ Less → (if c then r else b) ≡ true
first_decides true true rest r h f e = absurd (h refl refl)
first_decides true false rest r h f e = refl
first_decides false true rest r h f e = f e
first_decides false false rest r h f e = cc

-- ascending rows of numbers
less_keys : (xs ys : List ℕ) → slice_cmp nat_cmp xs ys ≡ Less → is_less xs ys ≡ true
less_keys [] [] e = cc
less_keys [] (y ∷ ys) e = refl
less_keys (x ∷ xs) [] e = cc
less_keys (x ∷ xs) (y ∷ ys) e =
    first_decides (nat_lt x y) (nat_eq x y) (slice_cmp nat_cmp xs ys) (is_less xs ys)
    (λ less same. let h : x < y = ltb-true x y less in let e : x ≡ y = eqb-true x y same in absurd (omega arith))
    (less_keys xs ys) e

pub member_contained : {A : Type 0} {x : A} {xs : List A} → Member x xs → Contains xs x
member_contained first = (0, omega arith, refl)
member_contained (next h) = let r = member_contained h in let k : r.0 < _ = r.1 in (suc r.0, omega arith, r.2)

-- each comes before the later ones
pub ascends : (ms : List rMeeting) → IsStrictlySortedBy (on key_in (slice_cmp nat_cmp)) ms → Ascends (map meeting ms)
ascends [] h = tt
ascends (m ∷ ms) h = (
  λ n k.
      let r = from_map meeting ms k in
      subst (λ (n : Meeting). is_less (key_in m) (meeting_key n) ≡ true) (sym r.2)
      (less_keys (key_in m) (key_in r.0)
      (All-contains (λ (q : rMeeting). on key_in (slice_cmp nat_cmp) m q ≡ Less) ms r.0
      (All-after_first (on key_in (slice_cmp nat_cmp)) m ms h) (member_contained r.1))),
  ascends ms (sorted_tail (on key_in (slice_cmp nat_cmp)) m ms h),
)

same_kind : (w v : Bool) → kind_number w ≡ kind_number v → w ≡ v
same_kind true true e = refl
same_kind true false e = let h : 1 ≡ 0 = e in absurd (omega (arith, h))
same_kind false true e = let h : 0 ≡ 1 = e in absurd (omega (arith, h))
same_kind false false e = refl

same_section : (s t : SectionId) → s.number ≡ t.number → s ≡ t
same_section s t e = let with_number : ℕ → SectionId = λ n. record { number = n } in ap with_number e

same_access : (x y : rAccess) → x.label ≡ y.label → x.section.number ≡ y.section.number → kind_number x.write ≡ kind_number y.write
    → x ≡ y
same_access x y e f g =
    let with_label : ℕ → rAccess = λ l. record { label = l; section = x.section; write = x.write } in
    let with_section : SectionId → rAccess = λ s. record { label = y.label; section = s; write = x.write } in
    let with_kind : Bool → rAccess = λ w. record { label = y.label; section = y.section; write = w } in
    ap with_label e ∙ ap with_section (same_section x.section y.section f) ∙ ap with_kind (same_kind x.write y.write g)

-- a meeting is determined by the numbers by which it is ordered
pub same_meeting : (x y : rMeeting) → key_in x ≡ key_in y → x ≡ y
same_meeting x y e =
    let at : (k : ℕ) → slice_index_or (key_in x) k 0 ≡ slice_index_or (key_in y) k 0 = λ k. ap (λ (ns : List ℕ). slice_index_or ns k 0) e in
    let with_first : rAccess → rMeeting = λ a. record { first = a; second = x.second } in
    let with_second : rAccess → rMeeting = λ a. record { first = y.first; second = a } in
    ap with_first (same_access x.first y.first (at 0) (at 2) (at 3))
    ∙ ap with_second (same_access x.second y.second (at 1) (at 4) (at 5))

-- what is in either of two lists is in both, as plain values too
pub through_members : (xs ys : List rMeeting) → ((m : rMeeting) → Member m xs → Member m ys) → ((m : rMeeting) → Member m ys → Member m xs)
    → (m : Meeting) → Member m (map meeting xs) ↔ Member m (map meeting ys)
through_members xs ys to from m = (
  λ h. let r = from_map meeting xs h in subst (λ (n : Meeting). Member n (map meeting ys)) (sym r.2) (in_map meeting (to r.0 r.1)),
  λ h. let r = from_map meeting ys h in subst (λ (n : Meeting). Member n (map meeting xs)) (sym r.2) (in_map meeting (from r.0 r.1)),
)

-- Pairs

-- the meetings of a list of pairs
told : (pairs : (x y : Access) → Type 0) (qs : List (Access × Access)) → ((q : Access × Access) → Member q qs → pairs q.0 q.1)
    → (m : Meeting) → Member m (map meeting_of qs) → IsMeeting pairs m
told pairs qs are m h =
    let r = from_map meeting_of qs h in record { one = r.0.0; other = r.0.1; pair = are r.0 r.1; told = r.2 }

listed : (pairs : (x y : Access) → Type 0) (qs : List (Access × Access)) (m : Meeting) (r : IsMeeting pairs m)
    → Member (r.one, r.other) qs → Member m (map meeting_of qs)
listed pairs qs m r h = subst (λ (n : Meeting). Member n (map meeting_of qs)) (sym r.told) (in_map meeting_of h)

module _ (lists : List ListedAccesses) where
  -- the pairs that statements with a label add, or all
  abbrev pub those : Option ℕ → Codes → List Meeting
  those l b = map meeting_of (added_in accesses (alls_of lists) (pendings_of lists) (is_asked l) b)

  -- those of a label in the first n procedures, where `main` comes after the others
  abbrev pub those_below : Program → (label n : ℕ) → List Meeting
  those_below p l zero = []
  those_below p l (suc n) = those_below p l n ++ those (Some l) (body_of p n)

  pub those_next : (p : Program) (l n : ℕ) (b : Codes) (before after : List Meeting) → b ≡ body_of p n → before ≡ those_below p l n
      → after ≡ before ++ those (Some l) b → after ≡ those_below p l (n + 1)
  those_next p l n b before after body is e =
      e ∙ ap (λ ms. ms ++ those (Some l) b) is ∙ ap (λ c. those_below p l n ++ those (Some l) c) body
      ∙ ap (those_below p l) (let next : suc n ≡ n + 1 = omega arith in next)

-- `main` comes after the procedures
pub main_body : (p : Program) (n : ℕ) → n ≡ length p.procedures → body_of p n ≡ p.main.body
main_body p n e = by (nat_eq n (length p.procedures)) (eq-eqb n (length p.procedures) e)
  where
    by : (b : Bool) → b ≡ true → (if b then p.main.body else (procedure_of p n).body) ≡ p.main.body
    by true h = refl
    by false h = absurd (true≢false (sym h))

module _ (p : Program) (lists : List ListedAccesses) (are : AreListsOf p lists) where
  -- all pairs of a body
  pub are_meetings : (b : Codes) (found ms : List Meeting) → found ≡ those lists None b → Ascends ms
      → ((m : Meeting) → Member m ms ↔ Member m found) → AreMeetings (Together p accesses b) ms
  are_meetings b found ms is ascend same = record {
    only = λ m h. told (Together p accesses b) (added_in accesses (alls_of lists) (pendings_of lists) (is_asked None) b)
        (λ q k. let r = list_adds p accesses (alls_of lists) (pendings_of lists) (lists_derived p lists are)
        (lists_derived_pending p lists are) (is_asked None) b q k in added_together p accesses r.pair)
        m (subst (Member m) is ((same m).0 h));
    every = λ m r. (same m).1 (subst (Member m) (sym is)
        (listed (Together p accesses b) (added_in accesses (alls_of lists) (pendings_of lists) (is_asked None) b) m r
        (let a = together_added p accesses r.pair in
        added_listed p accesses (alls_of lists) (pendings_of lists) (lists_derived p lists are) (lists_stable p lists are)
        (lists_stable_pending p lists are) (is_asked None) refl a.pair)));
    ascending = ascend;
  }

  -- one of these
  record Below (l n : ℕ) (m : Meeting) : Type 0 where
    procedure : ℕ
    stands : Member m (those lists (Some l) (body_of p procedure))

  from_below : (l n : ℕ) (m : Meeting) → Member m (those_below lists p l n) → Below l n m
  from_below l zero m h = elim h [ ]
  from_below l (suc n) m h = elim (in_parts (those_below lists p l n) h) [
    | inl k ↦ let r = from_below l n m k in record { procedure = r.procedure; stands = r.stands }
    | inr k ↦ record { procedure = n; stands = k }
  ]

  to_below : (l n f : ℕ) (m : Meeting) → f < n → Member m (those lists (Some l) (body_of p f)) → Member m (those_below lists p l n)
  to_below l zero f m within h = absurd (omega (arith, within))
  to_below l (suc n) f m within h = elim (cases_lt f n) [
    | inl less ↦ in_left (those lists (Some l) (body_of p n)) (to_below l n f m less h)
    | inr past ↦ let same : f ≡ n = omega (arith, within, past) in
        in_right (those_below lists p l n) (subst (λ k. Member m (those lists (Some l) (body_of p k))) same h)
  ]

  at_label : (l k : ℕ) → is_asked (Some l) k ≡ true → k ≡ l
  at_label l k e = sym (eqb-true l k e)

  asked : (l : ℕ) → is_asked (Some l) l ≡ true
  asked l = eq-eqb l l refl

  -- there is nothing after `main`
  nothing_behind : (f : ℕ) → length p.procedures < f → body_of p f ≡ End
  nothing_behind f h =
      by (nat_eq f (length p.procedures)) refl ∙ no_body p f (omega (arith, h))
    where
      by : (b : Bool) → nat_eq f (length p.procedures) ≡ b → (if b then p.main.body else (procedure_of p f).body) ≡ (procedure_of p f).body
      by true e = let k : f ≡ length p.procedures = eqb-true f (length p.procedures) e in absurd (omega (arith, h, k))
      by false e = refl

  -- all that a label adds in the program
  pub are_meetings_at : (l n : ℕ) (found ms : List Meeting) → length p.procedures < n → found ≡ those_below lists p l n → Ascends ms
      → ((m : Meeting) → Member m ms ↔ Member m found) → AreMeetings (AccessesAddedAt p l) ms
  are_meetings_at l n found ms end is ascend same = record {
    only = λ m h.
        let r = from_below l n m (subst (Member m) is ((same m).0 h)) in
        told (AccessesAddedAt p l) (added_in accesses (alls_of lists) (pendings_of lists) (is_asked (Some l)) (body_of p r.procedure))
        (λ q k. let a = list_adds p accesses (alls_of lists) (pendings_of lists) (lists_derived p lists are)
        (lists_derived_pending p lists are) (is_asked (Some l)) (body_of p r.procedure) q k in
        record {
          procedure = r.procedure;
          pair = subst (λ k. AddedAt p accesses k (body_of p r.procedure) q.0 q.1) (at_label l a.label a.is) a.pair;
        }) m r.stands;
    every = λ m r. (same m).1 (subst (Member m) (sym is) (to_below l n r.pair.procedure m (within r.pair.procedure r.pair.pair)
        (listed (AccessesAddedAt p l)
        (added_in accesses (alls_of lists) (pendings_of lists) (is_asked (Some l)) (body_of p r.pair.procedure)) m r
        (added_listed p accesses (alls_of lists) (pendings_of lists) (lists_derived p lists are) (lists_stable p lists are)
        (lists_stable_pending p lists are) (is_asked (Some l)) (asked l) r.pair.pair))));
    ascending = ascend;
  }
    where
      within : {x y : Access} (f : ℕ) → AddedAt p accesses l (body_of p f) x y → f < n
      within {x} {y} f h = elim (cases_lt f n) [
        | inl less ↦ less
        | inr past ↦ elim (subst (λ (b : Codes). AddedAt p accesses l b x y) (nothing_behind f (omega (arith, past, end))) h) [ ]
      ]

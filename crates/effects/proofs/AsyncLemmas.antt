-- What is kept of asyncs, after one more is kept.
use Rattle.std.proofs.Common.{◌≡◌, ◌⊎◌, inl, inr, ℕ, zero, suc, ◌+◌, ◌<◌, ◌≤◌, List, [], ◌∷◌, ◌++◌, length, map, take, get_or, refl, sym, ap, ◌∙◌, subst, arith, add-one}
use Rattle.std.proofs.Math.Seq.{take-suc}
use Rattle.std.proofs.lemmas.Bool.{cases_lt}
use Rattle.std.proofs.lemmas.List.{map-append}
use Rattle.std.proofs.lemmas.Map.Lookups.{exact_unsigned}
use Rattle.std.specs.BTreeMap.{BTreeMap, Updates}
use Rattle.std.specs.Cmp.{Equal-is}
use Rattle.std.specs.Ordering.{nat_cmp, is_eq}
use Rattle.std.specs.Prelude.{Bool, true, false, Option, None, Some, IsSome, option_map, slice_index_or}
use Rattle.shared_lemmas.proofs.Truths.{false_true}
use Rattle.sections.specs.Member.{Member, first, next}
use Rattle.types.specs.Code.{Code, Async, Codes, End, Procedure, Program}
use Rattle.types.specs.Run.{procedure_of, no_procedure}
use Rattle.types.specs.Translation.{codes, procedure}
use Rattle.types.specs.declared.code.Procedure.{Procedure as rProcedure}
use Rattle.effects.specs.Accesses.{Access}
use Rattle.effects.specs.AsyncNeeds.{needs_at, IsNeedAt, IsOfAsync, Keeps}
use Rattle.effects.specs.Effects.{accesses, All}
use Rattle.effects.specs.Firsts.{AreFirsts}
use Rattle.effects.specs.Needs.{Needs, needs_by}
use Rattle.effects.specs.Rounds.{needs_of, summaries}
use Rattle.effects.specs.Sound.{IsSound}
use Rattle.effects.specs.Statements.{Stands, HasStatement}
use Rattle.effects.specs.Translation.{needs}
use Rattle.effects.specs.Visits.{Visit, visit}
use Rattle.effects.specs.declared.needs.Needs.{Needs as rNeeds}
use Rattle.effects.specs.declared.visits.Visit.{Visit as rVisit}
use Rattle.effects.proofs.Members.{in_parts}
use Rattle.effects.proofs.NeedsOfAsyncs.{needs_of_firsts}
use Rattle.effects.proofs.StableRounds.{summaries_derived, summaries_stable}
use Rattle.effects.proofs.StatementLemmas.{IsVisited, of_one, one_statement}

body_of_async : Codes → Code → Codes
body_of_async d (Async b) = b
body_of_async d _ = d

same_body : (b c : Codes) → Async b ≡ Async c → b ≡ c
unfolding body_of_async
same_body b c e = ap (body_of_async End) e

module _ (p : Program) where
  pub keeps_none : (those : ℕ → Codes → Type 0) (m : ℕ → Option Needs) → ((l : ℕ) (b : Codes) → those l b → ⊥) → Keeps p those m m
  keeps_none those m never = record { stay = λ l h. h; has = λ l b h. absurd (never l b h); only = λ l n e. inl e }

  pub keeps_then : (these those all : ℕ → Codes → Type 0) (m n o : ℕ → Option Needs) → Keeps p these m n → Keeps p those n o
      → ((l : ℕ) (b : Codes) → all l b → these l b ⊎ those l b) → Keeps p all m o
  keeps_then these those all m n o h g parts = record {
    stay = λ l k. g.stay l (h.stay l k);
    has = λ l b k. elim (parts l b k) [ inl a ↦ g.stay l (h.has l b a) | inr a ↦ g.has l b a ];
    only = λ l x e. elim (g.only l x e) [ inl a ↦ h.only l x a | inr a ↦ inr a ];
  }

  pub keeps_same : (these those : ℕ → Codes → Type 0) (m n : ℕ → Option Needs) → Keeps p these m n
      → ((l : ℕ) (b : Codes) → those l b → these l b) → Keeps p those m n
  keeps_same these those m n h back = record { stay = h.stay; has = λ l b k. h.has l b (back l b k); only = h.only }

  -- one more async
  module _ (old new : BTreeMap ℕ rNeeds) (label : ℕ) (v : rNeeds) (u : Updates nat_cmp old new label (Some v)) where
    at_another : (q : ℕ) → is_eq (nat_cmp label q) ≡ false → needs_at new q ≡ needs_at old q
    at_another q e = ap (option_map needs) (u.2 q e)

    at_label : (q : ℕ) → is_eq (nat_cmp label q) ≡ true → label ≡ q
    at_label q e = exact_unsigned label q ((Equal-is (nat_cmp label q)).0 e)

    there : (q : ℕ) → label ≡ q → needs_at new q ≡ Some (needs v)
    there q e = subst (λ k. needs_at new k ≡ Some (needs v)) e (ap (option_map needs) u.1)

    pub keeps_one : (b : Codes) → HasStatement p label (Async b) → needs v ≡ needs_of p b
        → Keeps p (λ l c. label ≡ l) (needs_at old) (needs_at new)
    keeps_one b h same = record { stay = stays; has = λ l c e. subst IsSome (sym (there l e)) refl; only = comes }
      where
        stays : (l : ℕ) → IsSome (needs_at old l) → IsSome (needs_at new l)
        stays l k = by (is_eq (nat_cmp label l)) refl
          where
            by : (t : Bool) → is_eq (nat_cmp label l) ≡ t → IsSome (needs_at new l)
            by true e = subst IsSome (sym (there l (at_label l e))) refl
            by false e = subst IsSome (sym (at_another l e)) k

        comes : (l : ℕ) (n : Needs) → needs_at new l ≡ Some n → (needs_at old l ≡ Some n) ⊎ IsOfAsync p l n
        comes l n k = by (is_eq (nat_cmp label l)) refl
          where
            by : (t : Bool) → is_eq (nat_cmp label l) ≡ t → (needs_at old l ≡ Some n) ⊎ IsOfAsync p l n
            by true e =
                let is : label ≡ l = at_label l e in
                let value : needs v ≡ n = let whole : Some (needs v) ≡ Some n = sym (there l is) ∙ k in cc in
                inr (record { body = b; stands = subst (λ m. HasStatement p m (Async b)) is h; same = sym value ∙ same })
            by false e = inl (sym (at_another l e) ∙ k)

  -- all asyncs
  pub needs_kept : IsSound p → (m found : ℕ → Option Needs) → ((l : ℕ) → m l ≡ None) → Keeps p (λ l b. HasStatement p l (Async b)) m found
      → (l : ℕ) → IsNeedAt p l (found l)
  needs_kept sound m found none h l = record { of_async = of_async; of_another = of_another }
    where
      of_kept : (n : Needs) → found l ≡ Some n → IsOfAsync p l n
      of_kept n e = elim (h.only l n e) [
        | inl k ↦ let clash : None ≡ Some n = sym (none l) ∙ k in absurd (cc)
        | inr a ↦ a
      ]

      of_async : (b : Codes) → HasStatement p l (Async b) → found l ≡ Some (needs_of p b)
      of_async b st = by (found l) refl (h.has l b st)
        where
          by : (o : Option Needs) → found l ≡ o → IsSome o → o ≡ Some (needs_of p b)
          by None e k = false_true k
          by (Some n) e k =
              let a = of_kept n e in
              ap Some (a.same ∙ ap (needs_of p) (same_body a.body b (one_statement p sound l (Async a.body) (Async b) a.stands st)))

      of_another : ((b : Codes) → HasStatement p l (Async b) → ⊥) → found l ≡ None
      of_another never = by (found l) refl
        where
          by : (o : Option Needs) → found l ≡ o → o ≡ None
          by None e = refl
          by (Some n) e = let a = of_kept n e in absurd (never a.body a.stands)

-- ---- visits, one after the other
pub record IsSeen (vs : List Visit) (l : ℕ) (b : Codes) : Type 0 where
  pub seen : Visit
  pub among : Member seen vs
  pub label : seen.label ≡ l
  pub async : seen.code ≡ Async b

pub seen_more : (xs : List rVisit) (i : ℕ) (d : rVisit) → i < length xs → (l : ℕ) (b : Codes)
    → IsSeen (map visit (take (i + 1) xs)) l b
    → IsSeen (map visit (take i xs)) l b ⊎ (((visit (get_or xs i d)).label ≡ l) × ((visit (get_or xs i d)).code ≡ Async b))
seen_more xs i d h l b s =
    let parts : map visit (take (i + 1) xs) ≡ map visit (take i xs) ++ visit (get_or xs i d) ∷ [] =
    ap (λ n. map visit (take n xs)) (add-one i) ∙ ap (map visit) (take-suc xs i d h) ∙ map-append visit (take i xs) (get_or xs i d ∷ []) in
    elim (in_parts (map visit (take i xs)) (subst (Member s.seen) parts s.among)) [
      | inl k ↦ inl (record { seen = s.seen; among = k; label = s.label; async = s.async })
      | inr k ↦ let e = of_one k in inr (ap (λ (v : Visit). v.label) (sym e) ∙ s.label, ap (λ (v : Visit). v.code) (sym e) ∙ s.async)
    ]

pub none_seen : (l : ℕ) (b : Codes) → IsSeen [] l b → ⊥
none_seen l b s = none s.among
  where
    none : {v : Visit} → Member v [] → ⊥
    none m = elim m [ ]

-- ---- procedures, one after the other
index_behind : {A : Type 0} (xs : List A) (k : ℕ) (d : A) → length xs ≤ k → slice_index_or xs k d ≡ d
index_behind [] k d h = refl
index_behind (x ∷ xs) zero d h = absurd (omega arith)
index_behind (x ∷ xs) (suc k) d h = index_behind xs k d (omega arith)

pub record InProcedureBelow (p : Program) (n l : ℕ) (b : Codes) : Type 0 where
  pub procedure : ℕ
  pub below : procedure < n
  pub stands : Stands (procedure_of p procedure).body l (Async b)

pub in_no_procedure : (p : Program) (l : ℕ) (b : Codes) → InProcedureBelow p 0 l b → ⊥
in_no_procedure p l b h = let k : h.procedure < 0 = h.below in omega arith

pub in_more_procedures : (p : Program) (n l : ℕ) (b : Codes) → InProcedureBelow p (n + 1) l b
    → InProcedureBelow p n l b ⊎ Stands (procedure_of p n).body l (Async b)
in_more_procedures p n l b h = elim (cases_lt h.procedure n) [
  | inl k ↦ inl (record { procedure = h.procedure; below = k; stands = h.stands })
  | inr k ↦
      let lt : h.procedure < n + 1 = h.below in
      let e : h.procedure ≡ n = omega arith in
      inr (subst (λ f. Stands (procedure_of p f).body l (Async b)) e h.stands)
]

pub in_some_procedure : (p : Program) (l : ℕ) (b : Codes) → HasStatement p l (Async b)
    → InProcedureBelow p (length p.procedures) l b ⊎ Stands p.main.body l (Async b)
in_some_procedure p l b (HasStatement.in_main h) = inr h
in_some_procedure p l b (HasStatement.in_procedure f h) = elim (cases_lt f (length p.procedures)) [
  | inl k ↦ inl (record { procedure = f; below = k; stands = h })
  | inr k ↦ absurd (nothing (subst (λ (g : Procedure). Stands g.body l (Async b)) (index_behind p.procedures f no_procedure k) h))
]
  where
    nothing : Stands End l (Async b) → ⊥
    nothing h = elim h [ ]

-- ---- in the code
pub visit_at : (xs : List rVisit) (i : ℕ) (x : rVisit) → i < length xs → x ≡ get_or xs i x → Member (visit x) (map visit xs)
visit_at xs i x h is = subst (λ (y : rVisit). Member (visit y) (map visit xs)) (sym is) (there xs i x h)
  where
    there : (xs : List rVisit) (i : ℕ) (d : rVisit) → i < length xs → Member (visit (get_or xs i d)) (map visit xs)
    there [] i d h = absurd (omega arith)
    there (y ∷ ys) zero d h = first
    there (y ∷ ys) (suc i) d h = next (there ys i d (omega arith))

pub body_at : (fs gs : List rProcedure) (i : ℕ) (x : rProcedure) → fs ≡ gs → i < length fs → x ≡ get_or fs i x
    → codes x.body.items ≡ (slice_index_or (map procedure gs) i no_procedure).body
body_at fs gs i x same h is =
    ap (λ (y : rProcedure). codes y.body.items) is ∙ there fs i x h
    ∙ ap (λ (hs : List rProcedure). (slice_index_or (map procedure hs) i no_procedure).body) same
  where
    there : (fs : List rProcedure) (i : ℕ) (d : rProcedure) → i < length fs
        → codes (get_or fs i d).body.items ≡ (slice_index_or (map procedure fs) i no_procedure).body
    there [] i d h = absurd (omega arith)
    there (y ∷ ys) zero d h = refl
    there (y ∷ ys) (suc i) d h = there ys i d (omega arith)

pub is_seen : (xs ys : List Visit) (l : ℕ) (b : Codes) → ys ≡ xs → IsVisited ys l (Async b) → IsSeen xs l b
is_seen xs ys l b e v = record { seen = v.visit; among = subst (Member v.visit) e v.among; label = v.label; async = v.code }

-- the firsts of what a block may do determine what it needs
pub needs_found : (p : Program) → IsSound p → (b : Codes) (xs : List Access) → AreFirsts (All p accesses b) xs → needs_by xs ≡ needs_of p b
needs_found p sound = needs_of_firsts p (summaries p) (summaries_derived p) (summaries_stable p sound)

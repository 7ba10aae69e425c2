-- Accesses of summaries as lists.
use Rattle.std.proofs.Common.{◌≡◌, ◌⊎◌, inl, inr, ℕ, zero, suc, ◌+◌, ◌<◌, List, [], ◌∷◌, ◌++◌, length, refl, sym, ap, subst, ◌∙◌, arith}
use Rattle.std.proofs.lemmas.Bool.{cases_lt}
use Rattle.std.proofs.lemmas.Option.{slice_get_past}
use Rattle.std.specs.Prelude.{◌↔◌, Bool, Option, Some, None, slice_get}
use Rattle.sections.specs.Member.{Member, first, next}
use Rattle.types.specs.Code.{Codes, Program}
use Rattle.types.specs.Run.{procedure_of}
use Rattle.effects.specs.Accesses.{Access}
use Rattle.effects.specs.AccessSets.{HasAccess, IsUseOf}
use Rattle.effects.specs.Effects.{accesses, All, Pending}
use Rattle.effects.specs.LabelSets.{HasLabel}
use Rattle.effects.specs.Summarized.{IsSummary, body_of}
use Rattle.effects.specs.Tables.{IsDerived, IsDerivedPending, IsStable, IsStablePending}
use Rattle.effects.specs.Translation.{access}
use Rattle.effects.specs.declared.access.Access.{Access as rAccess}
use Rattle.effects.specs.declared.label_set.LabelSet.{LabelSet}
use Rattle.effects.specs.declared.summary.Summary.{Summary}
use Rattle.effects.proofs.StableTables.{listed, left}
use Rattle.parallel_relation.specs.Around.{Gains}
use Rattle.parallel_relation.specs.Listing.{InList, IsUse, all_listed, pending_listed, alls_of, pendings_of, IsListedAt, AreListsOf}
use Rattle.parallel_relation.specs.declared.listing.ListedAccesses.{ListedAccesses}
use Rattle.effects.proofs.ComesSound.{body_of-other}
use Rattle.parallel_relation.proofs.SpreadLemmas.{below_next, no_body}
use Rattle.shared_lemmas.proofs.Lists.{get-append_last}

-- one more access at the end of a list
pushed_only : (xs : List rAccess) (y : rAccess) (x : Access) → InList (xs ++ y ∷ []) x → InList xs x ⊎ (x ≡ access y)
pushed_only [] y x first = inr refl
pushed_only [] y x (next h) = elim h [ ]
pushed_only (z ∷ zs) y x first = inl first
pushed_only (z ∷ zs) y x (next h) = elim (pushed_only zs y x h) [ inl a ↦ inl (next a) | inr e ↦ inr e ]

pushed_keeps : (xs : List rAccess) (y : rAccess) (x : Access) → InList xs x → InList (xs ++ y ∷ []) x
pushed_keeps [] y x h = elim h [ ]
pushed_keeps (z ∷ zs) y x first = first
pushed_keeps (z ∷ zs) y x (next h) = next (pushed_keeps zs y x h)

pushed_has : (xs : List rAccess) (y : rAccess) → InList (xs ++ y ∷ []) (access y)
pushed_has [] y = first
pushed_has (z ∷ zs) y = next (pushed_has zs y)

-- an access of a section and kind is known by its label
same_use : (s : ℕ) (w : Bool) (x : Access) → IsUseOf s w x → record { label = x.label; section = s; write = w } ≡ x
same_use s w x h =
    let with_section : ℕ → Access = λ t. record { label = x.label; section = t; write = w } in
    let with_kind : Bool → Access = λ v. record { label = x.label; section = x.section; write = v } in
    ap with_section (sym h.0) ∙ ap with_kind (sym h.1)

module _ (labels : LabelSet) (s : ℕ) (w : Bool) where
  -- the access of a label
  pub use_pushed : (xs ys : List rAccess) (y : rAccess) (l : ℕ) → ys ≡ xs ++ y ∷ []
      → access y ≡ record { label = l; section = s; write = w } → HasLabel labels l
      → Gains (InList xs) (λ x. (x.label ≡ l) × IsUse labels s w x) (InList ys)
  use_pushed xs ys y l is e h = subst (λ (zs : List rAccess). Gains (InList xs) (λ x. (x.label ≡ l) × IsUse labels s w x) (InList zs)) (sym is)
      (record {
        keeps = λ x k. pushed_keeps xs y x k;
        has = λ x k.
            let same : x ≡ access y =
            sym (same_use s w x k.1.0) ∙ ap with_label k.0 ∙ sym e in
            subst (InList (xs ++ y ∷ [])) (sym same) (pushed_has xs y);
        only = λ x k. elim (pushed_only xs y x k) [
          | inl a ↦ inl a
          | inr b ↦ inr (is_use x (b ∙ e))
        ];
      })
    where
      with_label : ℕ → Access
      with_label k = record { label = k; section = s; write = w }

      is_use : (x : Access) → x ≡ with_label l → (x.label ≡ l) × IsUse labels s w x
      is_use x e = subst (λ (z : Access). (z.label ≡ l) × IsUse labels s w z) (sym e) (refl, ((refl, refl), h))

-- one more element of a list
get_pushed : {A : Type 0} (xs : List A) (y : A) (f : ℕ) → f < length xs → slice_get (xs ++ y ∷ []) f ≡ slice_get xs f
get_pushed [] y f h = absurd (omega (arith, h))
get_pushed (x ∷ xs) y zero h = refl
get_pushed (x ∷ xs) y (suc f) h = get_pushed xs y f (omega (arith, h))

both_ways : {A B C : Type 0} → A ↔ B → B ↔ C → A ↔ C
both_ways f g = (λ a. g.0 (f.0 a), λ c. f.1 (g.1 c))

module _ (p : Program) where
  at_same : (these those : List ListedAccesses) (f : ℕ) → slice_get those f ≡ slice_get these f → IsListedAt p these f → IsListedAt p those f
  at_same these those f e h = record {
    all = subst (λ (o : Option ListedAccesses). (x : Access) → Member x (all_listed o) ↔ All p accesses (procedure_of p f).body x) (sym e) h.all;
    pending =
        subst (λ (o : Option ListedAccesses). (x : Access) → Member x (pending_listed o) ↔ Pending p accesses (procedure_of p f).body x) (sym e)
        h.pending;
  }

  -- the accesses of one more procedure
  pub lists_next : (these those : List ListedAccesses) (y : ListedAccesses) (n : ℕ) (s : Summary) → those ≡ these ++ y ∷ [] → length these ≡ n
      → n < length p.procedures → IsSummary p (body_of p n) s → ((x : Access) → InList y.all.items x ↔ HasAccess s.all x)
      → ((x : Access) → InList y.pending.items x ↔ HasAccess s.pending x)
      → ((f : ℕ) → f < n → IsListedAt p these f) → (f : ℕ) → f < n + 1 → IsListedAt p those f
  lists_next these those y n s is number within summary all pending before f h = elim (below_next f n h) [
    | inl l ↦ at_same these those f
        (ap (λ (xs : List ListedAccesses). slice_get xs f) is ∙ get_pushed these y f (omega (arith, l, number))) (before f l)
    | inr e ↦ subst (IsListedAt p those) (sym e) last
  ]
    where
      exact : IsSummary p (procedure_of p n).body s
      exact = subst (λ (b : Codes). IsSummary p b s) (body_of-other p n within) summary

      got : slice_get those n ≡ Some y
      got = ap (λ (xs : List ListedAccesses). slice_get xs n) is
          ∙ subst (λ k. slice_get (these ++ y ∷ []) k ≡ Some y) number (get-append_last these y)

      last : IsListedAt p those n
      last = record {
        all = subst (λ (o : Option ListedAccesses). (x : Access) → Member x (all_listed o) ↔ All p accesses (procedure_of p n).body x) (sym got)
            (λ x. both_ways (all x) (exact.all x));
        pending =
            subst (λ (o : Option ListedAccesses). (x : Access) → Member x (pending_listed o) ↔ Pending p accesses (procedure_of p n).body x)
            (sym got) (λ x. both_ways (pending x) (exact.pending x));
      }

  -- the lists of all procedures; there is none after them
  pub lists_all : (lists : List ListedAccesses) (n : ℕ) → length lists ≡ n → n ≡ length p.procedures
      → ((f : ℕ) → f < n → IsListedAt p lists f) → AreListsOf p lists
  lists_all lists n number end below f = elim (cases_lt f n) [
    | inl l ↦ below f l
    | inr past ↦
        let none : slice_get lists f ≡ None = slice_get_past lists f (omega (arith, past, number)) in
        let body = no_body p f (omega (arith, past, end)) in
        record {
          all = λ x. (
            λ h. elim (subst (λ (o : Option ListedAccesses). Member x (all_listed o)) none h) [ ],
            λ h. elim (subst (λ (b : Codes). All p accesses b x) body h) [ ],
          );
          pending = λ x. (
            λ h. elim (subst (λ (o : Option ListedAccesses). Member x (pending_listed o)) none h) [ ],
            λ h. elim (subst (λ (b : Codes). Pending p accesses b x) body h) [ ],
          );
        }
  ]

  module _ (lists : List ListedAccesses) (are : AreListsOf p lists) where
    -- what is listed is the least solution
    pub lists_derived : IsDerived p accesses (alls_of lists)
    lists_derived f x h = ((are f).all x).0 h

    pub lists_derived_pending : IsDerivedPending p accesses (pendings_of lists)
    lists_derived_pending f x h = ((are f).pending x).0 h

    pub lists_stable : IsStable p accesses (alls_of lists)
    lists_stable f x h = ((are f).all x).1 (listed p accesses (alls_of lists) lists_derived (procedure_of p f).body x h)

    pub lists_stable_pending : IsStablePending p accesses (alls_of lists) (pendings_of lists)
    lists_stable_pending f x h = ((are f).pending x).1
        (left p accesses (alls_of lists) (pendings_of lists) lists_derived lists_derived_pending (procedure_of p f).body x h)

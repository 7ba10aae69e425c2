-- What arrives in the rows is derived.
use Rattle.std.proofs.Common.{◌≡◌, ◌⊎◌, inl, inr, ℕ, zero, suc, ◌+◌, ◌<◌, List, [], ◌∷◌, ◌++◌, length, refl, sym, ap, subst, ◌∙◌}
use Rattle.std.proofs.Common.{Option, None, Some, arith}
use Rattle.std.specs.Prelude.{Bool, true, false, if◌then◌else◌, nat_eq, nat_lt, slice_get, flat_map}
use Rattle.std.proofs.lemmas.Bool.{eq-eqb, ne_eqb, ltb-true}
use Rattle.std.proofs.lemmas.Option.{get_or_from_slice_get}
use Rattle.sections.specs.Member.{Member, first, next}
use Rattle.sections.specs.Overlap.{root_of}
use Rattle.sections.proofs.Lines.{root_of-root}
use Rattle.types.specs.Code.{Number, Code, Do, If, While, Split, Parts, Begun, Call, Async, Finish, Rescue, Codes, Procedure}
use Rattle.types.specs.Code.{Program}
use Rattle.types.specs.Run.{procedure_of, no_procedure}
use Rattle.types.specs.declared.ids.ProcedureId.{ProcedureId}
use Rattle.effects.specs.Accesses.{Access, own_accesses}
use Rattle.effects.specs.Coming.{Comes}
use Rattle.effects.proofs.Derived.{Derived}
use Rattle.types.specs.Sound.{passed_for}
use Rattle.effects.specs.Effects.{Inner, Subject, AllOf, All, PendingOf, Pending, past_split, renamed, accesses, labels}
use Rattle.effects.specs.Flows.{flows_of, flows_of_code, flows_of_labels, flows_of_sections, flows_of_use}
use Rattle.effects.specs.Outlines.{visits_of, starts_in, flows_in, flows_in_all, numbered, StartsIn}
use Rattle.effects.specs.Sound.{IsSoundIn, IsSound, parameters_of}
use Rattle.effects.specs.Starts.{starts_of, starts_of_label, starts_of_access}
use Rattle.effects.specs.Summarized.{body_of}
use Rattle.effects.specs.Visits.{Visit}
use Rattle.effects.specs.declared.flows.CallFlow.{CallFlow}
use Rattle.effects.specs.declared.starts.FirstLabel.{FirstLabel}
use Rattle.effects.specs.declared.summary.SummaryRow.{SummaryRow}
use Rattle.effects.specs.declared.visits.Standing.{Standing}
use Rattle.effects.specs.declared.visits.Standing.TheVariants.{Open, Begun, Awaited}
use Rattle.effects.proofs.AccessesInScope.{origin_from_get, allowed, pending_all}
use Rattle.effects.proofs.Dividing.{Divides, past_root}
use Rattle.effects.proofs.Members.{in_parts, numbers_from-below}
use Rattle.effects.proofs.VisitLemmas.{up, left_up, Leaves}
use Rattle.shared_lemmas.proofs.Truths.{if_false, if_true}

-- what is in such a list comes from an element
from_flat_map : {A B : Type 0} (f : A → List B) {y : B} (xs : List A) → Member y (flat_map f xs) → (x : A) × Member x xs × Member y (f x)
from_flat_map f [] m = elim m [ ]
from_flat_map f (x ∷ xs) m = elim (in_parts (f x) m) [
  | inl k ↦ (x, first, k)
  | inr k ↦ let r = from_flat_map f xs k in (r.0, next r.1, r.2)
]

-- what is in a list that exists only if a condition is true
from_when : {A : Type 0} (b : Bool) (xs : List A) {x : A} → Member x (if b then xs else []) → (b ≡ true) × Member x xs
from_when true xs m = (refl, m)
from_when false xs m = elim m [ ]

-- an element of a list with one more element at its end
one_of : {A : Type 0} (xs : List A) (x : A) (f : ℕ) (y : A) → slice_get (xs ++ x ∷ []) f ≡ Some y
    → ((f ≡ length xs) × (x ≡ y)) ⊎ ((f < length xs) × (slice_get xs f ≡ Some y))
one_of [] x zero y e = let same : x ≡ y = cc in inl (refl, same)
one_of [] x (suc f) y e = cc
one_of (z ∷ zs) x zero y e = inr (omega arith, e)
one_of (z ∷ zs) x (suc f) y e = elim (one_of zs x f y e) [
  | inl h ↦ inl (ap suc h.0, h.1)
  | inr h ↦ inr (let k : f < length zs = h.0 in omega (arith, k), h.1)
]

module _ (p : Program) where
  body_of-main : body_of p (length p.procedures) ≡ p.main.body
  body_of-main =
      let n = length p.procedures in if_true (nat_eq n n) p.main.body (procedure_of p n).body (eq-eqb n n refl)

  -- a procedure that can be called isn't `main`
  pub body_of-other : (f : ℕ) → f < length p.procedures → body_of p f ≡ (procedure_of p f).body
  body_of-other f h =
      let n = length p.procedures in
      if_false (nat_eq f n) p.main.body (procedure_of p f).body (ne_eqb f n (λ e. omega (arith, h, e)))

  -- the procedure with this number is sound, and its body is the body with this number
  numbered_body : IsSound p → (f : ℕ) (g : Procedure) → slice_get (numbered p) f ≡ Some g → IsSoundIn p g × (g.body ≡ body_of p f)
  numbered_body sound f g e = elim (one_of p.procedures p.main f g e) [
    | inl h ↦ (
      subst (IsSoundIn p) h.1 sound.main,
      sym (ap (λ (x : Procedure). x.body) h.1) ∙ sym body_of-main ∙ sym (ap (body_of p) h.0),
    )
    | inr h ↦
        let same : procedure_of p f ≡ g = get_or_from_slice_get p.procedures f g no_procedure h.1 in (
          subst (IsSoundIn p) same (sound.procedures f),
          sym (ap (λ (x : Procedure). x.body) same) ∙ sym (body_of-other f h.0),
        )
  ]

module _ (p : Program) (g : Procedure) (here : IsSoundIn p g) where
  past_accesses : (scope : List ℕ) (s l r : ℕ) → Divides g scope s l r → (x : Access)
      → renamed (root_of g.sections) (renamed (past_split s l r) x) ≡ renamed (root_of g.sections) x
  past_accesses scope s l r well x =
      ap (λ (n : ℕ). let y : Access = record { label = x.label; section = n; write = x.write } in y) (past_root p g here scope s l r well x.section)

  -- what the body does is done to parameters, which are their own roots
  top_all : IsSound p → (x : Access) → All p accesses g.body x → renamed (root_of g.sections) x ≡ x
  top_all sound x h =
      let a = allowed p sound h g (parameters_of g) here.numbered here.body in
      let n : x.section < length g.parameters = numbers_from-below (length g.parameters) x.section a.in_scope in
      ap (λ (n : ℕ). let y : Access = record { label = x.label; section = n; write = x.write } in y)
      (root_of-root g.sections x.section (origin_from_get g.sections x.section (here.first x.section n)))

-- what is kept at the root of a procedure
record AtRoot (p : Program) (subject : Subject) (g : Procedure) (root : ℕ → ℕ) : Type 0 where
  past : (scope : List ℕ) (s l r : ℕ) → Divides g scope s l r → (x : subject.Item)
      → subject.renamed root (subject.renamed (past_split s l r) x) ≡ subject.renamed root x
  top : (x : subject.Item) → All p subject g.body x → subject.renamed root x ≡ x
  top_pending : (x : subject.Item) → Pending p subject g.body x → subject.renamed root x ≡ x

accesses_at_root : (p : Program) → IsSound p → (g : Procedure) → IsSoundIn p g → AtRoot p accesses g (root_of g.sections)
accesses_at_root p sound g here = record {
  past = past_accesses p g here;
  top = top_all p g here sound;
  top_pending = λ x h. top_all p g here sound x (pending_all p h);
}

labels_at_root : (p : Program) (g : Procedure) → AtRoot p labels g (root_of g.sections)
labels_at_root p g = record {
  past = λ scope s l r well x. refl;
  top = λ x h. refl;
  top_pending = λ x h. refl;
}

module _ (p : Program) (subject : Subject) (g : Procedure) (root : ℕ → ℕ) (at : AtRoot p subject g root) (here : IsSoundIn p g) where
  -- the body may do at the root what a statement may do
  body_may : (v : Visit) → Member v (visits_of g) → (x : subject.Item) → AllOf p subject v.label v.code x
      → All p subject g.body (subject.renamed root x)
  body_may v m x a =
      let h = up p subject g root at.past Open g.body (parameters_of g) here.body v m x a in
      subst (All p subject g.body) (sym (at.top h.item h.among) ∙ h.same) h.among

  body_leaves : (v : Visit) → Member v (visits_of g) → (x : subject.Item) → Leaves p subject g root at.past v.standing v x
      → Pending p subject g.body (subject.renamed root x)
  body_leaves v m x a =
      let h = left_up p subject g root at.past g.body (parameters_of g) here.body v m x a in
      subst (Pending p subject g.body) (sym (at.top_pending h.item h.among) ∙ h.same) h.among

module _ (p : Program) (sound : IsSound p) (g : Procedure) (here : IsSoundIn p g) where
  abbrev visit_at : Standing → ℕ → Code → Visit
  visit_at w l c = record { standing = w; label = l; code = c }

  accesses_may : (v : Visit) → Member v (visits_of g) → (x : Access) → AllOf p accesses v.label v.code x
      → All p accesses g.body (renamed (root_of g.sections) x)
  accesses_may = body_may p accesses g (root_of g.sections) (accesses_at_root p sound g here) here

  accesses_left : (v : Visit) → Member v (visits_of g) → (x : Access)
      → Leaves p accesses g (root_of g.sections) (past_accesses p g here) v.standing v x
      → Pending p accesses g.body (renamed (root_of g.sections) x)
  accesses_left = body_leaves p accesses g (root_of g.sections) (accesses_at_root p sound g here) here

  labels_may : (v : Visit) → Member v (visits_of g) → (x : ℕ) → AllOf p labels v.label v.code x → All p labels g.body x
  labels_may = body_may p labels g (root_of g.sections) (labels_at_root p g) here

  labels_left : (v : Visit) → Member v (visits_of g) → (x : ℕ)
      → Leaves p labels g (root_of g.sections) (λ scope s l r well x. refl) v.standing v x → Pending p labels g.body x
  labels_left = body_leaves p labels g (root_of g.sections) (labels_at_root p g) here

  -- what a statement does without its call
  label_starts : (w : Standing) (l : ℕ) (c : Code) → Member (visit_at w l c) (visits_of g) → {y : FirstLabel}
      → Member y (starts_of_label w l) → Derived p g.body y.row y.label
  label_starts Open l c m first = labels_may (visit_at Open l c) m l (AllOf.own_access first)
  label_starts Open l c m (next h) = elim h [ ]
  label_starts Begun l c m first = labels_may (visit_at Begun l c) m l (AllOf.own_access first)
  label_starts Begun l c m (next first) = labels_left (visit_at Begun l c) m l (AllOf.own_access first)
  label_starts Begun l c m (next (next h)) = elim h [ ]
  label_starts Awaited l c m first = labels_may (visit_at Awaited l c) m l (AllOf.own_access first)
  label_starts Awaited l c m (next h) = elim h [ ]

  access_starts : (w : Standing) (l : ℕ) (c : Code) → Member (visit_at w l c) (visits_of g) → (x : Access) → Member x (own_accesses l c)
      → {y : FirstLabel} → Member y (starts_of_access (root_of g.sections) w x) → Derived p g.body y.row y.label
  access_starts Open l c m x o first = accesses_may (visit_at Open l c) m x (AllOf.own_access o)
  access_starts Open l c m x o (next h) = elim h [ ]
  access_starts Begun l c m x o first = accesses_may (visit_at Begun l c) m x (AllOf.own_access o)
  access_starts Begun l c m x o (next first) = accesses_left (visit_at Begun l c) m x (AllOf.own_access o)
  access_starts Begun l c m x o (next (next h)) = elim h [ ]
  access_starts Awaited l c m x o first = accesses_may (visit_at Awaited l c) m x (AllOf.own_access o)
  access_starts Awaited l c m x o (next h) = elim h [ ]

  starts_derived : {y : FirstLabel} → Member y (starts_in g) → Derived p g.body y.row y.label
  starts_derived {y} m =
      let v = from_flat_map (starts_of (root_of g.sections)) (visits_of g) m in
      elim (in_parts (starts_of_label v.0.standing v.0.label) v.2) [
        | inl k ↦ label_starts v.0.standing v.0.label v.0.code v.1 k
        | inr k ↦
            let x = from_flat_map (starts_of_access (root_of g.sections) v.0.standing) (own_accesses v.0.label v.0.code) k in
            access_starts v.0.standing v.0.label v.0.code v.1 x.0 x.1 x.2
      ]

  -- what a call brings from the rows of its procedure
  abbrev Brings : ProcedureId → (f : ℕ) → CallFlow → Type 0
  Brings caller f x =
      (x.caller ≡ caller) × (x.callee.number ≡ f) × ((l : ℕ) → Derived p (procedure_of p f).body x.from l → Derived p g.body x.to l)

  module _ (caller : ProcedureId) (k : ℕ) (f : ℕ) (es : List Number) (ss : List ℕ) where
    abbrev call_at : Standing → Visit
    call_at w = visit_at w k (Call f es ss)

    abbrev callee : ProcedureId
    callee = record { number = f }

    label_brings : (w : Standing) → Member (call_at w) (visits_of g) → {x : CallFlow} → Member x (flows_of_labels caller w callee) → Brings caller f x
    label_brings Open m first = (refl, refl, λ l h. labels_may (call_at Open) m l (AllOf.inner Inner.call h refl))
    label_brings Open m (next first) = (refl, refl, λ l h. labels_left (call_at Open) m l (PendingOf.inner Inner.call h refl))
    label_brings Open m (next (next h)) = elim h [ ]
    label_brings Begun m first = (refl, refl, λ l h. labels_may (call_at Begun) m l (AllOf.inner Inner.call h refl))
    label_brings Begun m (next first) = (refl, refl, λ l h. labels_left (call_at Begun) m l (AllOf.inner Inner.call h refl))
    label_brings Begun m (next (next h)) = elim h [ ]
    label_brings Awaited m first = (refl, refl, λ l h. labels_may (call_at Awaited) m l (AllOf.inner Inner.call h refl))
    label_brings Awaited m (next h) = elim h [ ]

    abbrev passed : (i l : ℕ) → Bool → Access
    passed i l b = renamed (passed_for ss) (record { label = l; section = i; write = b })

    use_brings : (w : Standing) → Member (call_at w) (visits_of g) → (i : ℕ) (b : Bool) → {x : CallFlow}
        → Member x (flows_of_use caller w callee (record { number = i }) (record { number = root_of g.sections (passed_for ss i) }) b)
        → Brings caller f x
    use_brings Open m i b first = (refl, refl, λ l h. accesses_may (call_at Open) m (passed i l b) (AllOf.inner Inner.call h refl))
    use_brings Open m i b (next first) =
        (refl, refl, λ l h. accesses_left (call_at Open) m (passed i l b) (PendingOf.inner Inner.call h refl))
    use_brings Open m i b (next (next h)) = elim h [ ]
    use_brings Begun m i b first = (refl, refl, λ l h. accesses_may (call_at Begun) m (passed i l b) (AllOf.inner Inner.call h refl))
    use_brings Begun m i b (next first) =
        (refl, refl, λ l h. accesses_left (call_at Begun) m (passed i l b) (AllOf.inner Inner.call h refl))
    use_brings Begun m i b (next (next h)) = elim h [ ]
    use_brings Awaited m i b first = (refl, refl, λ l h. accesses_may (call_at Awaited) m (passed i l b) (AllOf.inner Inner.call h refl))
    use_brings Awaited m i b (next h) = elim h [ ]

    -- the use of one of the sections that are passed
    abbrev UseOf : Standing → (k i s : ℕ) → Bool → CallFlow → Type 0
    UseOf w k i s b x = Member x (flows_of_use caller w callee (record { number = k + i }) (record { number = root_of g.sections s }) b)

    from_sections : (w : Standing) (k : ℕ) (ts : List ℕ) {x : CallFlow} → Member x (flows_of_sections caller (root_of g.sections) w callee k ts)
        → (i : ℕ) × (b : Bool) × UseOf w k i (passed_for ts i) b x
    from_sections w k [] m = elim m [ ]
    from_sections w k (t ∷ ts) {x} m =
        let uses : (n : ℕ) (b : Bool) → List CallFlow =
        λ n b. flows_of_use caller w callee (record { number = n }) (record { number = root_of g.sections t }) b in
        let e : k ≡ k + 0 = omega arith in
        elim (in_parts (uses k true) m) [
          | inl a ↦ (0, true, subst (λ (n : ℕ). Member x (uses n true)) e a)
          | inr a ↦ elim (in_parts (uses k false) a) [
            | inl b ↦ (0, false, subst (λ (n : ℕ). Member x (uses n false)) e b)
            | inr b ↦
                let r = from_sections w (k + 1) ts b in
                let shift : k + 1 + r.0 ≡ k + suc r.0 = omega arith in (
                  suc r.0,
                  r.1,
                  subst (λ (n : ℕ). Member x (flows_of_use caller w callee (record { number = n })
                      (record { number = root_of g.sections (passed_for ts r.0) }) r.1)) shift r.2,
                )
          ]
        ]

    section_brings : (w : Standing) → Member (call_at w) (visits_of g) → {x : CallFlow}
        → Member x (flows_of_sections caller (root_of g.sections) w callee 0 ss) → Brings caller f x
    section_brings w m {x} h =
        let r = from_sections w 0 ss h in
        let same : 0 + r.0 ≡ r.0 = omega arith in
        use_brings w m r.0 r.1
        (subst (λ (n : ℕ). Member x (flows_of_use caller w callee (record { number = n })
        (record { number = root_of g.sections (passed_for ss r.0) }) r.1)) same r.2)

    call_brings : (w : Standing) → Member (call_at w) (visits_of g) → {x : CallFlow}
        → Member x (flows_of_labels caller w callee ++ flows_of_sections caller (root_of g.sections) w callee 0 ss) → Brings caller f x
    call_brings w m h = elim (in_parts (flows_of_labels caller w callee) h) [
      | inl a ↦ label_brings w m a
      | inr a ↦ section_brings w m a
    ]

  -- this fact by number
  abbrev Carries : ProcedureId → CallFlow → Type 0
  Carries caller x =
      (x.caller ≡ caller) × ((l : ℕ) → Derived p (body_of p x.callee.number) x.from l → Derived p g.body x.to l)

  code_carries : (caller : ProcedureId) (w : Standing) (k : ℕ) (c : Code) → Member (visit_at w k c) (visits_of g) → {x : CallFlow}
      → Member x (flows_of_code caller (length p.procedures) (root_of g.sections) w c) → Carries caller x
  code_carries caller w k (Do s) m h = elim h [ ]
  code_carries caller w k (If t b c) m h = elim h [ ]
  code_carries caller w k (While t b) m h = elim h [ ]
  code_carries caller w k (Split s e l r b) m h = elim h [ ]
  code_carries caller w k (Parts s e q i b) m h = elim h [ ]
  code_carries caller w k (Begun s n j q i b) m h = elim h [ ]
  code_carries caller w k (Call f es ss) m {x} h =
      let there = from_when (nat_lt f (length p.procedures))
      (flows_of_labels caller w (record { number = f })
      ++ flows_of_sections caller (root_of g.sections) w (record { number = f }) 0 ss) h in
      let brings = call_brings caller k f es ss w m there.1 in
      let body : body_of p x.callee.number ≡ (procedure_of p f).body =
      ap (body_of p) brings.1 ∙ body_of-other p f (ltb-true f (length p.procedures) there.0) in
      (brings.0, λ l d. brings.2 l (subst (λ (b : Codes). Derived p b x.from l) body d))
  code_carries caller w k (Async b) m h = elim h [ ]
  code_carries caller w k (Finish b) m h = elim h [ ]
  code_carries caller w k (Rescue b n c) m h = elim h [ ]

  flows_carry : (caller : ProcedureId) {x : CallFlow} → Member x (flows_in (length p.procedures) caller g) → Carries caller x
  flows_carry caller m =
      let v = from_flat_map (flows_of caller (length p.procedures) (root_of g.sections)) (visits_of g) m in
      code_carries caller v.0.standing v.0.label v.0.code v.1 v.2

-- a flow is that of the procedure with this number
from_flows : (n k : ℕ) (gs : List Procedure) {x : CallFlow} → Member x (flows_in_all n k gs)
    → (j : ℕ) × (g : Procedure) × (slice_get gs j ≡ Some g) × Member x (flows_in n (record { number = k + j }) g)
from_flows n k [] m = elim m [ ]
from_flows n k (g ∷ gs) {x} m = elim (in_parts (flows_in n (record { number = k }) g) m) [
  | inl a ↦
      let e : k ≡ k + 0 = omega arith in
      (0, g, refl, subst (λ (i : ℕ). Member x (flows_in n (record { number = i }) g)) e a)
  | inr a ↦
      let r = from_flows n (k + 1) gs a in
      let e : k + 1 + r.0 ≡ k + suc r.0 = omega arith in
      (suc r.0, r.1, r.2, subst (λ (i : ℕ). Member x (flows_in n (record { number = i }) r.1)) e r.3)
]

-- the procedure that starts something exists
from_start : (o : Option Procedure) (r : SummaryRow) (l : ℕ) → StartsIn o r l
    → (g : Procedure) × (o ≡ Some g) × (let y : FirstLabel = record { row = r; label = l } in Member y (starts_in g))
from_start None r l h = elim h [ ]
from_start (Some g) r l h = (g, refl, h)

-- what arrives in a row of a procedure is derived
pub comes_sound : (p : Program) → IsSound p → {f : ℕ} {r : SummaryRow} {l : ℕ} → Comes p f r l → Derived p (body_of p f) r l
comes_sound p sound (Comes.start {f = f} {r = r} {l = l} h) =
    let s = from_start (slice_get (numbered p) f) r l h in
    let b = numbered_body p sound f s.0 s.1 in
    subst (λ (c : Codes). Derived p c r l) b.1 (starts_derived p sound s.0 b.0 s.2)
comes_sound p sound (Comes.flow {l = l} x m there h) =
    let s = from_flows (length p.procedures) 0 (numbered p) m in
    let b = numbered_body p sound s.0 s.1 s.2 in
    let carries = flows_carry p sound s.1 b.0 (record { number = 0 + s.0 }) s.3 in
    let zeros : 0 + s.0 ≡ s.0 = omega arith in
    let number : x.caller.number ≡ s.0 = ap (λ (i : ProcedureId). i.number) carries.0 ∙ zeros in
    subst (λ (c : Codes). Derived p c x.to l) (b.1 ∙ sym (ap (body_of p) number)) (carries.1 l (comes_sound p sound h))

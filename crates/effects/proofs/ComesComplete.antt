-- Everything that a sound program's bodies may do and leave pending arrives in the rows.
use Rattle.std.proofs.Common.{◌≡◌, ◌≢◌, ℕ, zero, suc, ◌+◌, ◌<◌, List, [], ◌∷◌, ◌++◌, length, refl, sym, ap}
use Rattle.std.proofs.Common.{subst, ◌∙◌, arith, Some, Option}
use Rattle.std.proofs.lemmas.Bool.{lt-ltb, eqb-true, eqb-false}
use Rattle.std.specs.Prelude.{Bool, true, false, nat_eq, if◌then◌else◌, slice_get, slice_index_or}
use Rattle.shared_lemmas.proofs.Truths.{false_true}
use Rattle.sections.specs.Member.{Member, first, next}
use Rattle.sections.specs.Overlap.{root_of}
use Rattle.sections.proofs.Lines.{root_of-root}
use Rattle.types.specs.Code.{Number, Code, Call, Async, Finish, Rescue, Codes, End, Then, Procedure, Program}
use Rattle.types.specs.Run.{procedure_of}
use Rattle.types.specs.declared.ids.ProcedureId.{ProcedureId}
use Rattle.effects.specs.Accesses.{Access}
use Rattle.effects.specs.Coming.{Comes}
use Rattle.effects.proofs.Derived.{Derived}
use Rattle.types.specs.Sound.{passed_for}
use Rattle.effects.specs.Effects.{Inner, Subject, AllOf, All, PendingOf, Pending, past_split, accesses, labels as by_label, renamed}
use Rattle.effects.specs.Flows.{flow, flows_of, flows_of_use, flows_of_labels, flows_of_sections}
use Rattle.effects.specs.Outlines.{visits_of, flows_in, flows_in_all, numbered, StartsIn}
use Rattle.effects.specs.Sound.{CallsWell, FollowsOf, Follows, IsSoundIn, IsSound, parameters_of}
use Rattle.effects.specs.Starts.{starts_of, starts_of_label, starts_of_access}
use Rattle.effects.specs.Summarized.{body_of}
use Rattle.effects.specs.Visits.{Visit, visits_in, visits_inside, in_async, in_finish}
use Rattle.effects.specs.declared.flows.CallFlow.{CallFlow}
use Rattle.effects.specs.declared.summary.SummaryRow.{SummaryRow}
use Rattle.effects.specs.declared.summary.SummaryRow.TheVariants.{All as AllRow, Pending as PendingRow, Labels, PendingLabels}
use Rattle.effects.specs.declared.visits.Standing.{Standing}
use Rattle.effects.specs.declared.visits.Standing.TheVariants.{Open, Begun, Awaited}
use Rattle.effects.proofs.AccessesInScope.{origin_from_get, allowed, pending_all}
use Rattle.effects.proofs.Dividing.{Divides, past_root}
use Rattle.effects.proofs.Members.{in_flat_map, in_left, in_right, numbers_from-below}
use Rattle.shared_lemmas.proofs.Lists.{get-append_last}

-- a statement of a procedure and its position
abbrev seen : Standing → ℕ → Code → Visit
seen w l s = record { standing = w; label = l; code = s }

-- the procedure with this number, where `main` is numbered after the others
record Stands (p : Program) (f : ℕ) (g : Procedure) : Type 0 where
  at : slice_get (numbered p) f ≡ Some g
  below : f < length (numbered p)
  sound : IsSoundIn p g

-- the row of each procedure, for all or for pending, has what its statements do and what its calls
-- bring
record Brings (p : Program) (subject : Subject) (to : (pending : Bool) → ℕ → subject.Item → Type 0) : Type 0 where
  own : (c : Bool) (f : ℕ) (g : Procedure) → Stands p f g → (w : Standing) → (c ≡ true → w ≡ Begun) → (l : ℕ) (s : Code)
      → Member (seen w l s) (visits_of g) → (x : subject.Item) → Member x (subject.own l s)
      → to c f (subject.renamed (root_of g.sections) x)
  called : (c : Bool) (f : ℕ) (g : Procedure) → Stands p f g → (w : Standing) → (c ≡ true → w ≡ Begun)
      → (l k : ℕ) (es : List Number) (ss : List ℕ) (scope : List ℕ) → CallsWell p g scope k es ss
      → Member (seen w l (Call k es ss)) (visits_of g) → (x : subject.Item) → All p subject (procedure_of p k).body x
      → to false k x → to c f (subject.renamed (root_of g.sections) (subject.renamed (passed_for ss) x))
  passed : (f : ℕ) (g : Procedure) → Stands p f g
      → (l k : ℕ) (es : List Number) (ss : List ℕ) (scope : List ℕ) → CallsWell p g scope k es ss
      → Member (seen Open l (Call k es ss)) (visits_of g) → (x : subject.Item) → Pending p subject (procedure_of p k).body x
      → to true k x → to true f (subject.renamed (root_of g.sections) (subject.renamed (passed_for ss) x))
  top : (g : Procedure) → IsSoundIn p g → (x : subject.Item) → All p subject g.body x
      → subject.renamed (root_of g.sections) x ≡ x
  top_pending : (g : Procedure) → IsSoundIn p g → (x : subject.Item) → Pending p subject g.body x
      → subject.renamed (root_of g.sections) x ≡ x
  past : (g : Procedure) → IsSoundIn p g → (scope : List ℕ) (s l r : ℕ) → Divides g scope s l r → (x : subject.Item)
      → subject.renamed (root_of g.sections) (subject.renamed (past_split s l r) x) ≡ subject.renamed (root_of g.sections) x

front : (gs : List Procedure) (g d : Procedure) (k : ℕ) → k < length gs → slice_get (gs ++ g ∷ []) k ≡ Some (slice_index_or gs k d)
front [] g d k h = absurd (omega (arith, h))
front (x ∷ xs) g d zero h = refl
front (x ∷ xs) g d (suc k) h = front xs g d k (omega (arith, h))

one_more : (gs : List Procedure) (g : Procedure) → length (gs ++ g ∷ []) ≡ length gs + 1
one_more [] g = refl
one_more (x ∷ xs) g = let e : length (xs ++ g ∷ []) ≡ length xs + 1 = one_more xs g in omega (arith, e)

module _ (p : Program) (sound : IsSound p) where
  callee : (k : ℕ) → k < length p.procedures → Stands p k (procedure_of p k)
  callee k h = record {
    at = front p.procedures p.main _ k h;
    below = (let e : length (numbered p) ≡ length p.procedures + 1 = one_more p.procedures p.main in omega (arith, e, h));
    sound = sound.procedures k;
  }

  last : Stands p (length p.procedures) p.main
  last = record {
    at = get-append_last p.procedures p.main;
    below = (let e : length (numbered p) ≡ length p.procedures + 1 = one_more p.procedures p.main in omega (arith, e));
    sound = sound.main;
  }

  module _ (subject : Subject) (to : Bool → ℕ → subject.Item → Type 0) (brings : Brings p subject to) where
    -- the statements of a part are among those of the procedure
    abbrev Part : Procedure → List Visit → Type 0
    Part g vs = (v : Visit) → Member v vs → Member v (visits_of g)

    -- what a block may do stays the same outside of a statement that renames nothing
    same_item : (c : Bool) (f : ℕ) (g : Procedure) {x y : subject.Item} → y ≡ subject.renamed (λ s. s) x
        → to c f (subject.renamed (root_of g.sections) x) → to c f (subject.renamed (root_of g.sections) y)
    same_item c f g {x} e h =
        subst (λ (z : subject.Item). to c f (subject.renamed (root_of g.sections) z)) (sym (e ∙ subject.kept x)) h

    -- what statements in this position may do; those of a spawned body leave it pending
    mutual
      down : (c : Bool) (f : ℕ) (g : Procedure) → Stands p f g → (w : Standing) → (c ≡ true → w ≡ Begun) → (b : Codes)
          → (scope : List ℕ) → Follows p g scope b → Part g (visits_in w b)
          → {x : subject.Item} → All p subject b x → to c f (subject.renamed (root_of g.sections) x)
      down c f g st w begun End scope h part a = elim a [ ]
      down c f g st w begun (Then l s rest) scope h part (All.here a) =
          down_of c f g st w begun l s scope h.0 (part _ first) (λ v m. part v (next (in_left (visits_in w rest) m))) a
      down c f g st w begun (Then l s rest) scope h part (All.later a) =
          down c f g st w begun rest scope h.1 (λ v m. part v (next (in_right (visits_inside w s) m))) a

      down_of : (c : Bool) (f : ℕ) (g : Procedure) → Stands p f g → (w : Standing) → (c ≡ true → w ≡ Begun) → (l : ℕ) (s : Code)
          → (scope : List ℕ) → FollowsOf p g scope s → Member (seen w l s) (visits_of g) → Part g (visits_inside w s)
          → {x : subject.Item} → AllOf p subject l s x → to c f (subject.renamed (root_of g.sections) x)
      down_of c f g st w begun l s scope h here part (AllOf.own_access {x = x} m) = brings.own c f g st w begun l s here x m
      down_of c f g st w begun l s scope h here part (AllOf.inner (Inner.if_body {b = b} {c = d}) a e) =
          same_item c f g e (down c f g st w begun b scope h.1 (λ v m. part v (in_left (visits_in w d) m)) a)
      down_of c f g st w begun l s scope h here part (AllOf.inner (Inner.if_other {b = b} {c = d}) a e) =
          same_item c f g e (down c f g st w begun d scope h.2 (λ v m. part v (in_right (visits_in w b) m)) a)
      down_of c f g st w begun l s scope h here part (AllOf.inner (Inner.while {b = b}) a e) =
          same_item c f g e (down c f g st w begun b scope h.1 part a)
      down_of c f g st w begun l s scope h here part (AllOf.inner {x = x} (Inner.split {s = t} {l = y} {r = z} {b = b}) a e) =
          subst (λ (i : subject.Item). to c f (subject.renamed (root_of g.sections) i)) (sym e)
          (subst (to c f) (sym (brings.past g st.sound scope t y z (Divides.split h.0) x))
          (down c f g st w begun b (y ∷ z ∷ scope) h.2 part a))
      down_of c f g st w begun l s scope h here part (AllOf.inner {x = x} (Inner.parts {s = t} {q = q} {b = b}) a e) =
          subst (λ (i : subject.Item). to c f (subject.renamed (root_of g.sections) i)) (sym e)
          (subst (to c f) (sym (brings.past g st.sound scope t q q (Divides.parts h.0) x))
          (down c f g st w begun b (q ∷ scope) h.2 part a))
      down_of c f g st w begun l s scope h here part (AllOf.inner {x = x} (Inner.call {f = k} {es = es} {ss = ss}) a e) =
          subst (λ (i : subject.Item). to c f (subject.renamed (root_of g.sections) i)) (sym e)
          (brings.called c f g st w begun l k es ss scope h here x a
          (subst (to false k) (brings.top (procedure_of p k) (sound.procedures k) x a)
          (down false k (procedure_of p k) (callee k h.there) Open (λ e. false_true e) (procedure_of p k).body
          (parameters_of (procedure_of p k)) (sound.procedures k).body (λ v m. m) a)))
      down_of c f g st w begun l s scope h here part (AllOf.inner (Inner.handler {b = b} {c = d}) a e) =
          same_item c f g e (down c f g st w begun d scope h.2 (λ v m. part v (in_right (visits_in (in_finish w) b) m)) a)
      down_of c f g st w begun l (Async b) scope h here part (AllOf.async a) =
          down c f g st (in_async w) (λ i. ap in_async (begun i)) b scope h part a
      down_of c f g st w begun l (Finish b) scope h here part (AllOf.finish a) =
          down c f g st (in_finish w) (λ i. ap in_finish (begun i)) b scope h part a
      down_of c f g st w begun l (Rescue b n d) scope h here part (AllOf.rescued a) =
          down c f g st (in_finish w) (λ i. ap in_finish (begun i)) b scope h.0 (λ v m. part v (in_left (visits_in w d) m)) a

    -- what statements of a procedure's own task leave pending
    mutual
      left_down : (f : ℕ) (g : Procedure) → Stands p f g → (b : Codes) → (scope : List ℕ) → Follows p g scope b
          → Part g (visits_in Open b) → {x : subject.Item} → Pending p subject b x
          → to true f (subject.renamed (root_of g.sections) x)
      left_down f g st End scope h part a = elim a [ ]
      left_down f g st (Then l s rest) scope h part (Pending.here a) =
          left_of f g st l s scope h.0 (part _ first) (λ v m. part v (next (in_left (visits_in Open rest) m))) a
      left_down f g st (Then l s rest) scope h part (Pending.later a) =
          left_down f g st rest scope h.1 (λ v m. part v (next (in_right (visits_inside Open s) m))) a

      left_of : (f : ℕ) (g : Procedure) → Stands p f g → (l : ℕ) (s : Code) → (scope : List ℕ) → FollowsOf p g scope s
          → Member (seen Open l s) (visits_of g) → Part g (visits_inside Open s) → {x : subject.Item} → PendingOf p subject s x
          → to true f (subject.renamed (root_of g.sections) x)
      left_of f g st l s scope h here part (PendingOf.inner (Inner.if_body {b = b} {c = d}) a e) =
          same_item true f g e (left_down f g st b scope h.1 (λ v m. part v (in_left (visits_in Open d) m)) a)
      left_of f g st l s scope h here part (PendingOf.inner (Inner.if_other {b = b} {c = d}) a e) =
          same_item true f g e (left_down f g st d scope h.2 (λ v m. part v (in_right (visits_in Open b) m)) a)
      left_of f g st l s scope h here part (PendingOf.inner (Inner.while {b = b}) a e) =
          same_item true f g e (left_down f g st b scope h.1 part a)
      left_of f g st l s scope h here part (PendingOf.inner {x = x} (Inner.split {s = t} {l = y} {r = z} {b = b}) a e) =
          subst (λ (i : subject.Item). to true f (subject.renamed (root_of g.sections) i)) (sym e)
          (subst (to true f) (sym (brings.past g st.sound scope t y z (Divides.split h.0) x))
          (left_down f g st b (y ∷ z ∷ scope) h.2 part a))
      left_of f g st l s scope h here part (PendingOf.inner {x = x} (Inner.parts {s = t} {q = q} {b = b}) a e) =
          subst (λ (i : subject.Item). to true f (subject.renamed (root_of g.sections) i)) (sym e)
          (subst (to true f) (sym (brings.past g st.sound scope t q q (Divides.parts h.0) x))
          (left_down f g st b (q ∷ scope) h.2 part a))
      left_of f g st l s scope h here part (PendingOf.inner {x = x} (Inner.call {f = k} {es = es} {ss = ss}) a e) =
          subst (λ (i : subject.Item). to true f (subject.renamed (root_of g.sections) i)) (sym e)
          (brings.passed f g st l k es ss scope h here x a
          (subst (to true k) (brings.top_pending (procedure_of p k) (sound.procedures k) x a)
          (left_down k (procedure_of p k) (callee k h.there) (procedure_of p k).body
          (parameters_of (procedure_of p k)) (sound.procedures k).body (λ v m. m) a)))
      left_of f g st l s scope h here part (PendingOf.inner (Inner.handler {b = b} {c = d}) a e) =
          same_item true f g e (left_down f g st d scope h.2 (λ v m. part v (in_right (visits_in Awaited b) m)) a)
      left_of f g st l (Async b) scope h here part (PendingOf.async a) =
          down true f g st Begun (λ e. refl) b scope h part a

    -- what the body of a procedure may do, or leaves pending
    all_down : (f : ℕ) (g : Procedure) → Stands p f g → (x : subject.Item) → All p subject g.body x → to false f x
    all_down f g st x a =
        subst (to false f) (brings.top g st.sound x a)
        (down false f g st Open (λ e. false_true e) g.body (parameters_of g) st.sound.body (λ v m. m) a)

    pending_down : (f : ℕ) (g : Procedure) → Stands p f g → (x : subject.Item) → Pending p subject g.body x → to true f x
    pending_down f g st x a =
        subst (to true f) (brings.top_pending g st.sound x a)
        (left_down f g st g.body (parameters_of g) st.sound.body (λ v m. m) a)

module _ (p : Program) where
  -- what a statement of a procedure puts in a row arrives there
  started : (f : ℕ) (g : Procedure) → Stands p f g → (r : SummaryRow) (l : ℕ) (v : Visit) → Member v (visits_of g)
      → Member (record { row = r; label = l }) (starts_of (root_of g.sections) v) → Comes p f r l
  started f g st r l v m h =
      Comes.start (subst (λ (o : Option Procedure). StartsIn o r l) (sym st.at)
      (in_flat_map (starts_of (root_of g.sections)) m h))

  -- what the procedure with this number brings is among what all bring
  flows_at : (n j i k : ℕ) (gs : List Procedure) (g : Procedure) (y : CallFlow) → slice_get gs i ≡ Some g → k ≡ j + i
      → Member y (flows_in n (record { number = k }) g) → Member y (flows_in_all n j gs)
  flows_at n j i k [] g y at e m = cc
  flows_at n j zero k (x ∷ xs) g y at e m =
      let same : g ≡ x = cc in
      let number : k ≡ j = omega (arith, e) in
      in_left (flows_in_all n (j + 1) xs)
      (subst (λ (z : Procedure). Member y (flows_in n (record { number = j }) z)) same
      (subst (λ (i : ℕ). Member y (flows_in n (record { number = i }) g)) number m))
  flows_at n j (suc i) k (x ∷ xs) g y at e m =
      in_right (flows_in n (record { number = j }) x) (flows_at n (j + 1) i k xs g y at (omega (arith, e)) m)

  -- what a call of a procedure brings into a row arrives there
  brought : (f : ℕ) (g : Procedure) → Stands p f g → (k : ℕ) → k < length p.procedures → (from into : SummaryRow) (l : ℕ)
      → (w : Standing) (label : ℕ) (es : List Number) (ss : List ℕ) → Member (seen w label (Call k es ss)) (visits_of g)
      → (let y : CallFlow = flow (record { number = f }) (record { number = k }) from into in
      Member y (flows_of_labels (record { number = f }) w (record { number = k })
      ++ flows_of_sections (record { number = f }) (root_of g.sections) w (record { number = k }) 0 ss))
      → Comes p k from l → Comes p f into l
  brought f g st k there from into l w label es ss m h comes =
      let y : CallFlow = flow (record { number = f }) (record { number = k }) from into in
      let n = length p.procedures in
      Comes.flow y
      (flows_at n 0 f f (numbered p) g y st.at (omega arith)
      (in_flat_map (flows_of (record { number = f }) n (root_of g.sections)) m
      (subst (λ (b : Bool). Member y (if b then flows_of_labels (record { number = f }) w (record { number = k })
      ++ flows_of_sections (record { number = f }) (root_of g.sections) w (record { number = k }) 0 ss else [])) (sym (lt-ltb k n there)) h)))
      st.below comes

-- the row of an access
abbrev row : (pending : Bool) → (section : ℕ) → (write : Bool) → SummaryRow
row false s w = AllRow (record { number = s }) w
row true s w = PendingRow (record { number = s }) w

-- a statement puts each of its accesses in their rows
access_starts : (root : ℕ → ℕ) (c : Bool) (w : Standing) → (c ≡ true → w ≡ Begun) → (x : Access)
    → Member (record { row = row c (root x.section) x.write; label = x.label }) (starts_of_access root w x)
access_starts root false Open h x = first
access_starts root false Begun h x = first
access_starts root false Awaited h x = first
access_starts root true w h x =
    subst (λ (u : Standing). Member (record { row = row true (root x.section) x.write; label = x.label }) (starts_of_access root u x))
    (sym (h refl)) (next first)

-- and a call brings what the callee does to a parameter
use_flows : (f k : ProcedureId) (a b : ℕ) (write c : Bool) (w : Standing) → (c ≡ true → w ≡ Begun)
    → Member (flow f k (row false a write) (row c b write)) (flows_of_use f w k (record { number = a }) (record { number = b }) write)
use_flows f k a b write false Open h = first
use_flows f k a b write false Begun h = first
use_flows f k a b write false Awaited h = first
use_flows f k a b write true w h =
    subst (λ (u : Standing). Member (flow f k (row false a write) (row true b write)) (flows_of_use f u k (record { number = a }) (record { number = b }) write))
    (sym (h refl)) (next first)

-- what is brought for a section argument is among what is brought for all of them
section_flows : (f k : ProcedureId) (root : ℕ → ℕ) (w : Standing) (write : Bool) (y : CallFlow) (j i a : ℕ) (ss : List ℕ) → i < length ss
    → a ≡ j + i
    → Member y (flows_of_use f w k (record { number = a }) (record { number = root (slice_index_or ss i 0) }) write)
    → Member y (flows_of_sections f root w k j ss)
section_flows f k root w write y j i a [] h e m = absurd (omega (arith, h))
section_flows f k root w true y j zero a (s ∷ ss) h e m =
    let number : a ≡ j = omega (arith, e) in
    in_left (flows_of_use f w k (record { number = j }) (record { number = root s }) false ++ flows_of_sections f root w k (j + 1) ss)
    (subst (λ (i : ℕ). Member y (flows_of_use f w k (record { number = i }) (record { number = root s }) true)) number m)
section_flows f k root w false y j zero a (s ∷ ss) h e m =
    let number : a ≡ j = omega (arith, e) in
    in_right (flows_of_use f w k (record { number = j }) (record { number = root s }) true)
    (in_left (flows_of_sections f root w k (j + 1) ss)
    (subst (λ (i : ℕ). Member y (flows_of_use f w k (record { number = i }) (record { number = root s }) false)) number m))
section_flows f k root w write y j (suc i) a (s ∷ ss) h e m =
    in_right (flows_of_use f w k (record { number = j }) (record { number = root s }) true)
    (in_right (flows_of_use f w k (record { number = j }) (record { number = root s }) false)
    (section_flows f k root w write y (j + 1) i a ss (omega (arith, h)) (omega (arith, e)) m))

-- the row of a statement's label
abbrev label_row : (pending : Bool) → SummaryRow
label_row false = Labels
label_row true = PendingLabels

label_starts : (c : Bool) (w : Standing) → (c ≡ true → w ≡ Begun) → (l : ℕ)
    → Member (record { row = label_row c; label = l }) (starts_of_label w l)
label_starts false Open h l = first
label_starts false Begun h l = first
label_starts false Awaited h l = first
label_starts true w h l =
    subst (λ (u : Standing). Member (record { row = PendingLabels; label = l }) (starts_of_label u l)) (sym (h refl)) (next first)

label_flows : (f k : ProcedureId) (c : Bool) (w : Standing) → (c ≡ true → w ≡ Begun)
    → Member (flow f k Labels (label_row c)) (flows_of_labels f w k)
label_flows f k false Open h = first
label_flows f k false Begun h = first
label_flows f k false Awaited h = first
label_flows f k true w h =
    subst (λ (u : Standing). Member (flow f k Labels PendingLabels) (flows_of_labels f u k)) (sym (h refl)) (next first)

module _ (p : Program) (sound : IsSound p) where
  -- a procedure's accesses are to its parameters
  below : (g : Procedure) → IsSoundIn p g → (x : Access) → All p accesses g.body x → x.section < length g.parameters
  below g well x a =
      numbers_from-below (length g.parameters) x.section (allowed p sound a g (parameters_of g) well.numbered well.body).in_scope

  at_top : (g : Procedure) → IsSoundIn p g → (x : Access) → All p accesses g.body x → renamed (root_of g.sections) x ≡ x
  at_top g well x a =
      ap (λ (s : ℕ). let y : Access = record x { section = s } in y)
      (root_of-root g.sections x.section (origin_from_get g.sections x.section (well.first x.section (below g well x a))))

  abbrev AccessTo : Bool → ℕ → Access → Type 0
  AccessTo c f x = Comes p f (row c x.section x.write) x.label

  bring_accesses : Brings p accesses AccessTo
  bring_accesses = record {
    own = λ c f g st w h l s m x among.
        started p f g st (row c (root_of g.sections x.section) x.write) x.label (seen w l s) m
        (in_right (starts_of_label w l) (in_flat_map (starts_of_access (root_of g.sections) w) among (access_starts (root_of g.sections) c w h x)));
    called = λ c f g st w h l k es ss scope well m x a so_far.
        brought p f g st k well.there (row false x.section x.write) (row c (root_of g.sections (passed_for ss x.section)) x.write) x.label
        w l es ss m
        (in_right (flows_of_labels (record { number = f }) w (record { number = k }))
        (section_flows (record { number = f }) (record { number = k }) (root_of g.sections) w x.write _ 0 x.section x.section ss
        (let there : x.section < length (procedure_of p k).parameters = below (procedure_of p k) (sound.procedures k) x a in
        omega (arith, there, well.passes.number)) (omega arith)
        (use_flows (record { number = f }) (record { number = k }) x.section (root_of g.sections (passed_for ss x.section)) x.write c w h)))
        so_far;
    passed = λ f g st l k es ss scope well m x a so_far.
        brought p f g st k well.there (row true x.section x.write) (row true (root_of g.sections (passed_for ss x.section)) x.write) x.label
        Open l es ss m
        (in_right (flows_of_labels (record { number = f }) Open (record { number = k }))
        (section_flows (record { number = f }) (record { number = k }) (root_of g.sections) Open x.write _ 0 x.section x.section ss
        (let there : x.section < length (procedure_of p k).parameters =
        below (procedure_of p k) (sound.procedures k) x (pending_all p a) in
        omega (arith, there, well.passes.number)) (omega arith)
        (next first)))
        so_far;
    top = at_top;
    top_pending = λ g well x a. at_top g well x (pending_all p a);
    past = λ g well scope s l r splits x.
        ap (λ (i : ℕ). let y : Access = record x { section = i } in y) (past_root p g well scope s l r splits x.section);
  }

  abbrev LabelTo : Bool → ℕ → ℕ → Type 0
  LabelTo c f l = Comes p f (label_row c) l

  own_label : (x l : ℕ) → Member x (l ∷ []) → l ≡ x
  own_label x l first = refl
  own_label x l (next m) = elim m [ ]

  bring_labels : Brings p by_label LabelTo
  bring_labels = record {
    own = λ c f g st w h l s m x among.
        subst (Comes p f (label_row c)) (own_label x l among)
        (started p f g st (label_row c) l (seen w l s) m
        (in_left _ (label_starts c w h l)));
    called = λ c f g st w h l k es ss scope well m x a so_far.
        brought p f g st k well.there Labels (label_row c) x w l es ss m
        (in_left _ (label_flows (record { number = f }) (record { number = k }) c w h)) so_far;
    passed = λ f g st l k es ss scope well m x a so_far.
        brought p f g st k well.there PendingLabels PendingLabels x Open l es ss m
        (next first) so_far;
    top = λ g well x a. refl;
    top_pending = λ g well x a. refl;
    past = λ g well scope s l r splits x. refl;
  }

  complete_at : (f : ℕ) (g : Procedure) → Stands p f g → (r : SummaryRow) (l : ℕ) → Derived p g.body r l → Comes p f r l
  complete_at f g st (AllRow s w) l h = all_down p sound accesses AccessTo bring_accesses f g st _ h
  complete_at f g st (PendingRow s w) l h = pending_down p sound accesses AccessTo bring_accesses f g st _ h
  complete_at f g st Labels l h = all_down p sound by_label LabelTo bring_labels f g st l h
  complete_at f g st PendingLabels l h = pending_down p sound by_label LabelTo bring_labels f g st l h

  -- everything that a body may do, and what it leaves pending, arrives in its rows
  pub comes_complete : (f : ℕ) (r : SummaryRow) (l : ℕ) → f < length p.procedures + 1 → Derived p (body_of p f) r l → Comes p f r l
  comes_complete f r l h = go (nat_eq f (length p.procedures)) refl
    where
      go : (b : Bool) → nat_eq f (length p.procedures) ≡ b
          → Derived p (if b then p.main.body else (procedure_of p f).body) r l → Comes p f r l
      go true e d =
          let same : f ≡ length p.procedures = eqb-true f (length p.procedures) e in
          subst (λ (k : ℕ). Comes p k r l) (sym same) (complete_at (length p.procedures) p.main (last p sound) r l d)
      go false e d =
          let other : f ≢ length p.procedures = eqb-false f (length p.procedures) e in
          complete_at f (procedure_of p f) (callee p sound f (omega (arith, h, other))) r l d

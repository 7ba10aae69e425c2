-- Summaries and procedures side by side.
use Rattle.std.proofs.Common.{◌≡◌, ◌⊎◌, inl, inr, ℕ, zero, suc, ◌+◌, ◌<◌, ◌≤◌, List, [], ◌∷◌, ◌++◌, map, length, take, take_all, drop, refl, sym, ap, subst, ◌∙◌, arith}
use Rattle.std.proofs.Common.{Some, Result, Ok, Err, add-one, append_assoc, append-nil}
use Rattle.std.specs.Prelude.{◌↔◌, slice_get, OnOk, flat_map}
use Rattle.std.proofs.lemmas.List.{length-map, drop_all}
use Rattle.sections.specs.Member.{Member, first, next}
use Rattle.types.specs.Code.{Procedure}
use Rattle.types.specs.Translation.{codes, procedure}
use Rattle.types.specs.declared.code.Procedure.{Procedure as rProcedure}
use Rattle.types.specs.declared.code.Stmt.{Stmt}
use Rattle.effects.specs.Closing.{HasIn}
use Rattle.effects.specs.Outlines.{starts_in, flows_in, flows_in_all, StartsAt}
use Rattle.effects.specs.SummaryRows.{HasRow}
use Rattle.effects.specs.Visits.{visits_in, visit}
use Rattle.effects.specs.declared.flows.CallFlow.{CallFlow}
use Rattle.effects.specs.declared.starts.FirstLabel.{FirstLabel}
use Rattle.effects.specs.declared.summary.SummaryRow.{SummaryRow}
use Rattle.effects.specs.declared.summary.Summary.{Summary}
use Rattle.effects.specs.declared.visits.Standing.TheVariants.{Open}
use Rattle.effects.specs.declared.visits.Visit.{Visit as rVisit}
use Rattle.effects.proofs.ClosingLemmas.{taken}

-- the visits of a body, from those that were added to none
pub visited : {now all before : List rVisit} {block body : List Stmt} → now ≡ all
    → map visit all ≡ map visit before ++ visits_in Open (codes block) → before ≡ [] → block ≡ body
    → map visit now ≡ visits_in Open (codes body)
visited {block = block} taken added none same =
    ap (map visit) taken ∙ added ∙ ap (λ (xs : List rVisit). map visit xs ++ visits_in Open (codes block))
    none
    ∙ ap (λ b. visits_in Open (codes b)) same

-- a fact that is true anyway is true if there is a value
pub ok_anyway : {T E P : Type 0} (r : Result T E) → P → OnOk r P
ok_anyway (Ok x) p = p
ok_anyway (Err e) p = tt

retaken : {X : Type 0} (xs : List X) (k : ℕ) (x y : X) → slice_get xs k ≡ Some x → Member y (take k xs) ⊎ (y ≡ x)
    → Member y (take (suc k) xs)
retaken [] k x y e m = cc
retaken (z ∷ zs) zero x y e (inl m) = elim m [ ]
retaken {X} (z ∷ zs) zero x y e (inr m) = let same : z ≡ y = cc in subst (λ (w : X). Member w (z ∷ [])) same first
retaken (z ∷ zs) (suc k) x y e (inl first) = first
retaken (z ∷ zs) (suc k) x y e (inl (next m)) = next (retaken zs k x y e (inl m))
retaken (z ∷ zs) (suc k) x y e (inr m) = next (retaken zs k x y e (inr m))

same_start : (x : FirstLabel) (r : SummaryRow) (l : ℕ) → r ≡ x.row → l ≡ x.label → let y : FirstLabel = record { row = r; label = l } in y ≡ x
same_start x r l e h = λ t. record { row = e t; label = h t }

-- one more label is in its row
pub collected_more : (starts : List FirstLabel) (k : ℕ) (x : FirstLabel) (old new : Summary) → slice_get starts k ≡ Some x
    → ((r : SummaryRow) (l : ℕ) → HasRow old r l ↔ Member (record { row = r; label = l }) (take k starts))
    → ((r : SummaryRow) (l : ℕ) → HasRow new r l ↔ (HasRow old r l ⊎ ((r ≡ x.row) × (l ≡ x.label)))) → (r : SummaryRow) (l : ℕ)
    → HasRow new r l ↔ Member (record { row = r; label = l }) (take (k + 1) starts)
collected_more starts k x old new at so_far both r l =
    let y : FirstLabel = record { row = r; label = l } in
    let more = λ (m : Member y (take (suc k) starts)). subst (λ (n : ℕ). Member y (take n starts)) (sym (add-one k)) m in (
      λ h. more (retaken starts k x y at (elim ((both r l).0 h) [
        | inl a ↦ inl ((so_far r l).0 a)
        | inr b ↦ inr (same_start x r l b.0 b.1)
      ])),
      λ m. (both r l).1 (elim (taken starts k x y at (subst (λ (n : ℕ). Member y (take n starts)) (add-one k) m)) [
        | inl a ↦ inl ((so_far r l).1 a)
        | inr e ↦ inr (ap (λ (z : FirstLabel). z.row) e, ap (λ (z : FirstLabel). z.label) e)
      ]),
    )

pub collected_all : (starts : List FirstLabel) (k : ℕ) (x : Summary) → length starts ≤ k
    → ((r : SummaryRow) (l : ℕ) → HasRow x r l ↔ Member (record { row = r; label = l }) (take k starts)) → (r : SummaryRow) (l : ℕ)
    → HasRow x r l ↔ Member (record { row = r; label = l }) starts
collected_all starts k x h so_far r l =
    subst (λ (xs : List FirstLabel). HasRow x r l ↔ Member (record { row = r; label = l }) xs) (take_all k starts h) (so_far r l)

-- one more summary for one more procedure
pub rows_pushed : (table : List Summary) (gs : List Procedure) (x : Summary) (g : Procedure) → length table ≡ length gs
    → ((f : ℕ) (r : SummaryRow) (l : ℕ) → HasIn table f r l ↔ StartsAt gs f r l)
    → ((r : SummaryRow) (l : ℕ) → HasRow x r l ↔ Member (record { row = r; label = l }) (starts_in g)) → (f : ℕ) (r : SummaryRow) (l : ℕ)
    → HasIn (table ++ x ∷ []) f r l ↔ StartsAt (gs ++ g ∷ []) f r l
rows_pushed [] [] x g n so_far here zero r l = here r l
rows_pushed [] [] x g n so_far here (suc f) r l = (λ h. h, λ h. h)
rows_pushed [] (h ∷ hs) x g n so_far here f r l = absurd (omega (arith, n))
rows_pushed (y ∷ ys) [] x g n so_far here f r l = absurd (omega (arith, n))
rows_pushed (y ∷ ys) (h ∷ hs) x g n so_far here zero r l = so_far zero r l
rows_pushed (y ∷ ys) (h ∷ hs) x g n so_far here (suc f) r l =
    rows_pushed ys hs x g (omega (arith, n)) (λ k. so_far (suc k)) here f r l

plain_taken : (xs : List rProcedure) (k : ℕ) (x : rProcedure) → slice_get xs k ≡ Some x
    → map procedure (take (suc k) xs) ≡ map procedure (take k xs) ++ procedure x ∷ []
plain_taken [] k x e = cc
plain_taken (y ∷ ys) zero x e = let same : y ≡ x = cc in ap (λ (z : rProcedure). procedure z ∷ []) same
plain_taken (y ∷ ys) (suc k) x e = ap (λ (gs : List Procedure). procedure y ∷ gs) (plain_taken ys k x e)

-- one more procedure is outlined
pub outlined_more : (xs : List rProcedure) (k : ℕ) (x : rProcedure) (table new : List Summary) (s : Summary) → slice_get xs k ≡ Some x
    → length table ≡ length (map procedure (take k xs)) → new ≡ table ++ s ∷ []
    → ((f : ℕ) (r : SummaryRow) (l : ℕ) → HasIn table f r l ↔ StartsAt (map procedure (take k xs)) f r l)
    → ((r : SummaryRow) (l : ℕ) → HasRow s r l ↔ Member (record { row = r; label = l }) (starts_in (procedure x))) → (f : ℕ) (r : SummaryRow) (l : ℕ)
    → HasIn new f r l ↔ StartsAt (map procedure (take (k + 1) xs)) f r l
outlined_more xs k x table new s at n e so_far here f r l =
    subst (λ (t : List Summary). HasIn t f r l ↔ StartsAt (map procedure (take (k + 1) xs)) f r l) (sym e)
    (subst (λ (gs : List Procedure). HasIn (table ++ s ∷ []) f r l ↔ StartsAt gs f r l)
    (sym (ap (λ (m : ℕ). map procedure (take m xs)) (add-one k) ∙ plain_taken xs k x at))
    (rows_pushed table (map procedure (take k xs)) s (procedure x) n so_far here f r l))

-- the flows of the remaining procedures start with those of the first
pub flows_from : (n i : ℕ) (xs : List rProcedure) (k : ℕ) (x : rProcedure) → slice_get xs k ≡ Some x
    → flows_in_all n i (map procedure (drop k xs))
    ≡ flows_in n (record { number = i }) (procedure x) ++ flows_in_all n (i + 1) (map procedure (drop (k + 1) xs))
flows_from n i [] k x e = cc
flows_from n i (y ∷ ys) zero x e =
    let same : y ≡ x = cc in
    ap (λ (z : rProcedure). flows_in n (record { number = i }) (procedure z) ++ flows_in_all n (i + 1) (map procedure ys)) same
flows_from n i (y ∷ ys) (suc k) x e =
    flows_from n i ys k x e
    ∙ ap (λ (zs : List rProcedure). flows_in n (record { number = i }) (procedure x) ++ flows_in_all n (i + 1) (map procedure zs)) (dropped y ys k)
  where
    dropped : (y : rProcedure) (ys : List rProcedure) (k : ℕ) → drop (k + 1) ys ≡ drop (suc k + 1) (y ∷ ys)
    dropped y ys k = let e : suc k + 1 ≡ suc (k + 1) = omega arith in sym (ap (λ (m : ℕ). drop m (y ∷ ys)) e)

-- flows of procedures, and of one more after them
pub flows_behind : (n k : ℕ) (gs : List Procedure) (g : Procedure)
    → flows_in_all n k (gs ++ g ∷ []) ≡ flows_in_all n k gs ++ (flows_in n (record { number = k + length gs }) g ++ [])
flows_behind n k [] g = let e : k ≡ k + 0 = omega arith in ap (λ (m : ℕ). flows_in n (record { number = m }) g ++ []) e
flows_behind n k (h ∷ hs) g =
    let e : k + 1 + length hs ≡ k + length (h ∷ hs) = omega arith in
    ap (λ (xs : List CallFlow). flows_in n (record { number = k }) h ++ xs)
    (flows_behind n (k + 1) hs g
    ∙ ap (λ (m : ℕ). flows_in_all n (k + 1) hs ++ (flows_in n (record { number = m }) g ++ [])) e)
    ∙ sym (append_assoc (flows_in n (record { number = k }) h) (flows_in_all n (k + 1) hs) _)

-- what a list of views gives from its k-th element on
from_drop : {X Y A : Type 0} (F : Y → List A) (g : X → Y) (xs : List X) (k : ℕ) (x : X) → slice_get xs k ≡ Some x
    → flat_map F (map g (drop k xs)) ≡ F (g x) ++ flat_map F (map g (drop (k + 1) xs))
from_drop F g [] k x e = cc
from_drop {X} F g (y ∷ ys) zero x e =
    let same : y ≡ x = cc in ap (λ (z : X). F (g z) ++ flat_map F (map g ys)) same
from_drop {X} F g (y ∷ ys) (suc k) x e =
    let shift : suc k + 1 ≡ suc (k + 1) = omega arith in
    from_drop F g ys k x e
    ∙ ap (λ (zs : List X). F (g x) ++ flat_map F (map g zs)) (sym (ap (λ (m : ℕ). drop m (y ∷ ys)) shift))

-- one more element's were added
pub added_more : {X Y A : Type 0} (F : Y → List A) (g : X → Y) (xs : List X) (k : ℕ) (x : X) (old new all : List A)
    → slice_get xs k ≡ Some x → new ≡ old ++ F (g x) → old ++ flat_map F (map g (drop k xs)) ≡ all
    → new ++ flat_map F (map g (drop (k + 1) xs)) ≡ all
added_more {A = A} F g xs k x old new all at e so_far =
    ap (λ (l : List A). l ++ flat_map F (map g (drop (k + 1) xs))) e
    ∙ append_assoc old (F (g x)) (flat_map F (map g (drop (k + 1) xs)))
    ∙ ap (λ (l : List A). old ++ l) (sym (from_drop F g xs k x at)) ∙ so_far

taken_length : (xs : List rProcedure) (k : ℕ) → k ≤ length xs → length (map procedure (take k xs)) ≡ k
taken_length xs zero h = refl
taken_length [] (suc k) h = absurd (omega (arith, h))
taken_length (x ∷ xs) (suc k) h = let e : length (map procedure (take k xs)) ≡ k = taken_length xs k (omega (arith, h)) in omega (arith, e)

pub outlined_next : (xs : List rProcedure) (k : ℕ) (x : rProcedure) (table new : List Summary) (s : Summary) → slice_get xs k ≡ Some x
    → k < length xs → length table ≡ k → new ≡ table ++ s ∷ []
    → ((f : ℕ) (r : SummaryRow) (l : ℕ) → HasIn table f r l ↔ StartsAt (map procedure (take k xs)) f r l)
    → ((r : SummaryRow) (l : ℕ) → HasRow s r l ↔ Member (record { row = r; label = l }) (starts_in (procedure x))) → (f : ℕ) (r : SummaryRow) (l : ℕ)
    → HasIn new f r l ↔ StartsAt (map procedure (take (k + 1) xs)) f r l
outlined_next xs k x table new s at h n = outlined_more xs k x table new s at (n ∙ sym (taken_length xs k (omega (arith, h))))

-- the flows of one more procedure were added
pub flows_more : (n m k : ℕ) (xs : List rProcedure) (x : rProcedure) (old new all : List CallFlow) → m ≡ n → slice_get xs k ≡ Some x
    → new ≡ old ++ flows_in m (record { number = k }) (procedure x)
    → old ++ flows_in_all n k (map procedure (drop k xs)) ≡ all
    → new ++ flows_in_all n (k + 1) (map procedure (drop (k + 1) xs)) ≡ all
flows_more n m k xs x old new all count at e so_far =
    let rest = flows_in_all n (k + 1) (map procedure (drop (k + 1) xs)) in
    let mine = flows_in n (record { number = k }) (procedure x) in
    ap (λ (l : List CallFlow). l ++ rest) (e ∙ ap (λ (c : ℕ). old ++ flows_in c (record { number = k }) (procedure x)) count)
    ∙ append_assoc old mine rest ∙ ap (λ (l : List CallFlow). old ++ l) (sym (flows_from n k xs k x at)) ∙ so_far

-- the last one is `main`
pub rows_all : (xs : List rProcedure) (k : ℕ) (main : rProcedure) (table new : List Summary) (s : Summary)
    → length table ≡ k → length xs ≡ k → new ≡ table ++ s ∷ []
    → ((f : ℕ) (r : SummaryRow) (l : ℕ) → HasIn table f r l ↔ StartsAt (map procedure (take k xs)) f r l)
    → ((r : SummaryRow) (l : ℕ) → HasRow s r l ↔ Member (record { row = r; label = l }) (starts_in (procedure main))) → (f : ℕ) (r : SummaryRow) (l : ℕ)
    → HasIn new f r l ↔ StartsAt (map procedure xs ++ procedure main ∷ []) f r l
rows_all xs k main table new s n end e so_far here f r l =
    subst (λ (t : List Summary). HasIn t f r l ↔ StartsAt (map procedure xs ++ procedure main ∷ []) f r l) (sym e)
    (rows_pushed table (map procedure xs) s (procedure main) (n ∙ sym end ∙ sym (length-map xs procedure))
    (subst (λ (gs : List Procedure). (f : ℕ) (r : SummaryRow) (l : ℕ) → HasIn table f r l ↔ StartsAt gs f r l)
    (ap (map procedure) (take_all k xs (omega (arith, end)))) so_far) here f r l)

pub flows_all : (n m k : ℕ) (xs : List rProcedure) (main : rProcedure) (old new all : List CallFlow) → m ≡ n → length xs ≡ k → m ≡ k
    → new ≡ old ++ flows_in m (record { number = m }) (procedure main)
    → old ++ flows_in_all n k (map procedure (drop k xs)) ≡ all ++ flows_in_all n 0 (map procedure xs)
    → new ≡ all ++ flows_in_all n 0 (map procedure xs ++ procedure main ∷ [])
flows_all n m k xs main old new all count end last e so_far =
    let gs = map procedure xs in
    let mine : (c i : ℕ) → List CallFlow = λ c i. flows_in c (record { number = i }) (procedure main) in
    let nothing : flows_in_all n k (map procedure (drop k xs)) ≡ [] =
    ap (λ (zs : List rProcedure). flows_in_all n k (map procedure zs)) (drop_all k xs (omega (arith, end))) in
    let olds : old ≡ all ++ flows_in_all n 0 gs =
    sym (append-nil old) ∙ ap (λ (l : List CallFlow). old ++ l) (sym nothing) ∙ so_far in
    let at : m ≡ 0 + length gs = omega (arith, length-map xs procedure, end, last) in
    e ∙ ap (λ (l : List CallFlow). l ++ mine m m) olds
    ∙ append_assoc all (flows_in_all n 0 gs) (mine m m)
    ∙ ap (λ (l : List CallFlow). all ++ l)
    (ap (λ (c : ℕ). flows_in_all n 0 gs ++ mine c m) count ∙ ap (λ (i : ℕ). flows_in_all n 0 gs ++ mine n i) at
    ∙ ap (λ (l : List CallFlow). flows_in_all n 0 gs ++ l) (sym (append-nil (mine n (0 + length gs))))
    ∙ sym (flows_behind n 0 gs (procedure main)))

-- What comes back from a task goes into its hole.
use Rattle.std.proofs.Common.{◌≡◌, ℕ, zero, suc, ◌+◌, ◌≤◌, ◌<◌, List, [], ◌∷◌, ◌++◌, Option, Some, None, refl, sym, ap, ◌∙◌, arith, subst, ◌⊎◌, inl, inr}
use Rattle.std.proofs.Math.Bool.{or_assoc, or-false, or-true}
use Rattle.std.proofs.lemmas.Bool.{eqb-true, or_parts, or_cases, true_from_ne_false}
use Rattle.std.proofs.lemmas.List.{map-append}
use Rattle.std.specs.Prelude.{ℤ, Bool, true, false, ◌||◌, is_some, length, nat_eq, map, option_map, if◌then◌else◌, Result, Ok, Err, IfErr, Vec}
use Rattle.std.specs.Global.{Global}
use Rattle.std.specs.Result.{IsErr, IsErrAnd}
use Rattle.sections.proofs.Covering.{in_window}
use Rattle.shared_lemmas.proofs.Truths.{false_true}
use Rattle.sections.specs.Covers.{has, is_in}
use Rattle.sections.specs.Place.{Place, Window}
use Rattle.sections.specs.Translation.{window}
use Rattle.sections.specs.declared.window.Window.{Window as rWindow}
use Rattle.types.specs.Contents.{Contents}
use Rattle.types.specs.Run.{Fault}
use Rattle.types.specs.declared.path.Path.{Path}
use Rattle.holdings.specs.Held.{Map, Held, Owned, Shared, first_of, over, as_owned, owned, owned_number, number_of, numbers, AreApart}
use Rattle.holdings.specs.Held.{IsJustAt, put_all, written_over}
use Rattle.holdings.specs.Holdings.{held}
use Rattle.holdings.specs.declared.holdings.Holdings.{Holdings}
use Rattle.task_run.specs.Places.{Places, has_one, meets, only, over as laid_over}
use Rattle.task_run.specs.Results.{Listed, Settled}
use Rattle.task_run.specs.Translation.{listed, settled, task_result, owned_by, contents_of}
use Rattle.task_run.specs.declared.result.Listed.{Listed as rListed}
use Rattle.task_run.specs.declared.result.Settled.{Settled as rSettled}
use Rattle.task_run.specs.declared.result.TaskResult.{TaskResult as rTaskResult}
use Rattle.task_run.proofs.CompleteResults.{not_met}
use Rattle.task_run.proofs.HeldPlaces.{has-append}
use Rattle.gather.specs.Parts.{Part, Waiting, opened, filled, given_back, comes_back_twice}
use Rattle.gather.specs.PartRefusal.{RefusesBack, RefusesHole, RefusesPaste}
use Rattle.gather.specs.Stages.{IsClear, part, waiting_for}
use Rattle.gather.specs.declared.error.GatherError.{GatherError}
use Rattle.gather.specs.declared.error.GatherError.TheVariants.{Lost, Double, Stranger, OutOfMemory}
use Rattle.gather.specs.declared.filling.Filling.{Filling}

-- ---- a single place
number_at : (w : Bool) (c p : Option Held) → is_some (owned_number c) ≡ w
    → option_map number_of (first_of (option_map Owned (owned_number c)) p)
    ≡ first_of (if w then option_map number_of c else None) (option_map number_of p)
number_at true None p e = absurd (false_true e)
number_at false None p e = refl
number_at true (Some (Owned v)) p e = refl
number_at false (Some (Owned v)) p e = absurd (false_true (sym e))
number_at true (Some (Shared v)) p e = absurd (false_true e)
number_at false (Some (Shared v)) p e = refl

owned_at : (w : Bool) (c p : Option Held) → is_some (owned_number c) ≡ w
    → is_some (owned_number (first_of (option_map Owned (owned_number c)) p)) ≡ (is_some (owned_number p) || w)
owned_at true None p e = absurd (false_true e)
owned_at false None p e = sym (or-false (is_some (owned_number p)))
owned_at true (Some (Owned v)) p e = sym (or-true (is_some (owned_number p)))
owned_at false (Some (Owned v)) p e = absurd (false_true (sym e))
owned_at true (Some (Shared v)) p e = absurd (false_true e)
owned_at false (Some (Shared v)) p e = sym (or-false (is_some (owned_number p)))

-- ---- holdings
module _ (before child after : Holdings) (ws : List Window)
    (back : (q : Place) → owned_by child q ≡ has ws q) where
  contents-pasted : held after ≡ over (as_owned (owned (held child))) (held before)
      → contents_of after ≡ laid_over (only (has ws) (contents_of child)) (contents_of before)
  contents-pasted e =
      ap (λ (m : Map Held). λ (q : Place). option_map number_of (m q)) e
      ∙ (λ t q. number_at (has ws q) (held child q) (held before q) (back q) t)

  owned-pasted : held after ≡ over (as_owned (owned (held child))) (held before)
      → owned_by after ≡ (λ q. owned_by before q || has ws q)
  owned-pasted e =
      ap (λ (m : Map Held). λ (q : Place). is_some (owned_number (m q))) e
      ∙ (λ t q. owned_at (has ws q) (held child q) (held before q) (back q) t)

  none_owned : (o : Option ℤ) → o ≡ None → is_some o ≡ false
  none_owned None e = refl
  none_owned (Some v) e = cc

  some_owned : (o : Option ℤ) → is_some o ≡ true → o ≡ None → ⊥
  some_owned None h e = false_true h
  some_owned (Some v) h e = cc

  pub apart_is_once : AreApart (owned (held child)) (owned (held before)) → meets (owned_by before) ws ≡ false
  apart_is_once apart =
      not_met (owned_by before) ws (λ q w.
      none_owned (owned (held before) q) (apart q (some_owned (owned (held child) q) (back q ∙ w))))

  one_free : (set : Places) (a at n : ℕ) → has_one set a at n ≡ false → (k : ℕ) → at ≤ k → k < at + n
      → set (record { array = a; index = k }) ≡ false
  one_free set a at zero h k le lt = absurd (omega (arith, le, lt))
  one_free set a at (suc n) h k le lt =
      let parts = or_parts (set (record { array = a; index = at })) (has_one set a (at + 1) n) h in
      elim (first_or_later at k le) [
        | inl e ↦ ap (λ i. set (record { array = a; index = i })) (sym e) ∙ parts.0
        | inr more ↦ one_free set a (at + 1) n parts.1 k more (omega (arith, lt))
      ]
    where
      first_or_later : (at k : ℕ) → at ≤ k → (at ≡ k) ⊎ (at + 1 ≤ k)
      first_or_later zero zero le = inl refl
      first_or_later zero (suc k) le = inr (omega arith)
      first_or_later (suc at) zero le = absurd (omega (arith, le))
      first_or_later (suc at) (suc k) le = elim (first_or_later at k (omega (arith, le))) [
        | inl e ↦ inl (ap suc e)
        | inr more ↦ inr (omega (arith, more))
      ]

  free_unless_met : (set : Places) (vs : List Window) → meets set vs ≡ false → (q : Place) → has vs q ≡ true → set q ≡ false
  free_unless_met set [] h q e = absurd (false_true e)
  free_unless_met set (v ∷ vs) h q e =
      let parts = or_parts (has_one set v.array v.at v.length) (meets set vs) h in
      elim (or_cases (is_in v q) (has vs q) e) [
        | inl c ↦ (let i = in_window v q c in
            ap (λ a. set (record { array = a; index = q.index })) i.array
            ∙ one_free set v.array v.at v.length parts.0 q.index i.low i.high)
        | inr w ↦ free_unless_met set vs parts.1 q w
      ]

  value_none : (o : Option ℤ) → is_some o ≡ false → o ≡ None
  value_none None e = refl
  value_none (Some v) e = absurd (false_true (sym e))

  value_some : (o : Option ℤ) → (o ≡ None → ⊥) → is_some o ≡ true
  value_some None h = absurd (h refl)
  value_some (Some v) h = refl

  pub once_is_apart : meets (owned_by before) ws ≡ false → AreApart (owned (held child)) (owned (held before))
  once_is_apart e q some =
      value_none (owned (held before) q) (free_unless_met (owned_by before) ws e q
      (sym (back q) ∙ value_some (owned (held child) q) some))

-- ---- the test for strays
pub none-from : {A : Type 0} (xs : List A) → nat_eq (length xs) 0 ≡ true → xs ≡ []
none-from [] e = refl
none-from (x ∷ xs) e = let none : suc (length xs) ≡ 0 = eqb-true _ _ e in absurd (omega (arith, none))

pub from-none : {A : Type 0} (xs : List A) → xs ≡ [] → nat_eq (length xs) 0 ≡ true
from-none xs e = ap (λ (l : List _). nat_eq (length l) 0) e

-- ---- the test for ownership
pub back-just : (child : Holdings) (xs ws : List rWindow) → xs ≡ ws → IsJustAt (has (map window xs)) (owned (held child))
    → (q : Place) → owned_by child q ≡ has (map window ws) q
back-just child xs ws same just q =
    just q ∙ ap (λ (l : List rWindow). has (map window l) q) same

pub just-back : (child : Holdings) (xs ws : List rWindow) → xs ≡ ws → ((q : Place) → owned_by child q ≡ has (map window ws) q)
    → IsJustAt (has (map window xs)) (owned (held child))
just-back child xs ws same back q =
    back q ∙ ap (λ (l : List rWindow). has (map window l) q) (sym same)

-- ---- a part to which places came back

-- a place that the holdings don't own isn't owned at all if there are no strays
pub owned-clear : (f : Filling) → IsClear f → (part f).owned ≡ owned_by f.so_far.holdings
owned-clear f clear =
    ap (λ (vs : List rWindow). λ (q : Place). has (map window vs) q || owned_by f.so_far.holdings q) clear

-- a part to which nothing has come back yet
abbrev opened_by : rTaskResult → List rWindow → List (List ℤ) → List Fault → List Listed → Part
opened_by task ss ls fs hs = record {
  owned = λ q. has (map window ss) q || owned_by task.holdings q;
  so_far = record { stopped = task.stopped; contents = contents_of task.holdings; lines = ls; faults = fs };
  holes = hs;
  lines = (task_result task).lines;
  faults = (task_result task).faults;
}

pub opened-is : (task : rTaskResult) {ss : List rWindow} {ls : List (List ℤ)} {fs : List Fault} {hs : List Listed}
    → ss ≡ [] → ls ≡ [] → fs ≡ [] → hs ≡ (task_result task).children → opened_by task ss ls fs hs ≡ opened (task_result task)
opened-is task {ss} {ls} {fs} {hs} clear no_line no_fault holes =
    ap (λ (ss : List rWindow). opened_by task ss ls fs hs) clear
    ∙ ap (λ (ls : List (List ℤ)). opened_by task [] ls fs hs) no_line
    ∙ ap (λ (fs : List Fault). opened_by task [] [] fs hs) no_fault
    ∙ ap (opened_by task [] [] []) holes

-- places that a child owned
pub given-pasted : (f : Filling) (ws : List Window) (child h : Holdings) → ((q : Place) → owned_by child q ≡ has ws q)
    → held h ≡ over (as_owned (owned (held child))) (held f.so_far.holdings)
    → part (record f { so_far = record f.so_far { holdings = h } }) ≡ given_back (part f) ws (contents_of child)
given-pasted f ws child h back pasted =
    let before = f.so_far.holdings in
    let ss = map window f.strays.items in
    let owned_is : (λ q. has ss q || owned_by h q) ≡ (λ q. (has ss q || owned_by before q) || has ws q) =
    ap (λ (o : Places). λ (q : Place). has ss q || o q) (owned-pasted before child h ws back pasted)
    ∙ (λ t q. sym (or_assoc (has ss q) (owned_by before q) (has ws q)) t) in
    ap (λ (o : Places). record (part (record f { so_far = record f.so_far { holdings = h } })) { owned = o }) owned_is
    ∙ ap (λ (c : Contents). record (given_back (part f) ws (contents_of child)) { so_far = record (settled f.so_far) { contents = c } })
    (contents-pasted before child h ws back pasted)

-- ---- places that a child owned or copied
number_written : (v : Option ℤ) (p : Option Held) → option_map number_of (written_over v p) ≡ first_of v (option_map number_of p)
number_written None p = refl
number_written (Some z) None = refl
number_written (Some z) (Some (Owned v)) = refl
number_written (Some z) (Some (Shared v)) = refl

owned_written : (v : Option ℤ) (p : Option Held) → is_some (owned_number (written_over v p)) ≡ is_some (owned_number p)
owned_written None p = refl
owned_written (Some z) None = refl
owned_written (Some z) (Some (Owned v)) = refl
owned_written (Some z) (Some (Shared v)) = refl

or_swapped : (a b c : Bool) → ((a || b) || c) ≡ ((a || c) || b)
or_swapped true b c = refl
or_swapped false true c = sym (or-true c)
or_swapped false false c = sym (or-false c)

module _ (before child after : Holdings) (ws : List Window)
    (put_in : held after ≡ put_all (only (has ws) (numbers (held child))) (held before)) where
  contents-put : contents_of after ≡ laid_over (only (has ws) (contents_of child)) (contents_of before)
  contents-put =
      ap (λ (m : Map Held). λ (q : Place). option_map number_of (m q)) put_in
      ∙ (λ t q. number_written (only (has ws) (numbers (held child)) q) (held before q) t)

  owned-put : owned_by after ≡ owned_by before
  owned-put =
      ap (λ (m : Map Held). λ (q : Place). is_some (owned_number (m q))) put_in
      ∙ (λ t q. owned_written (only (has ws) (numbers (held child)) q) (held before q) t)

pub given-strayed : (f : Filling) (ws : List rWindow) (child h : Holdings) (strays : Vec rWindow Global)
    → held h ≡ put_all (only (has (map window ws)) (numbers (held child))) (held f.so_far.holdings)
    → strays.items ≡ f.strays.items ++ ws
    → part (record f { so_far = record f.so_far { holdings = h }; strays = strays })
    ≡ given_back (part f) (map window ws) (contents_of child)
given-strayed f ws child h strays put_in more =
    let before = f.so_far.holdings in
    let vs = map window ws in
    let ss = map window f.strays.items in
    let stray : (q : Place) → has (map window strays.items) q ≡ (has ss q || has vs q) =
    λ q. ap (λ (xs : List rWindow). has (map window xs) q) more
    ∙ ap (λ (xs : List Window). has xs q) (map-append window f.strays.items ws)
    ∙ has-append ss vs q in
    let owned_is : (λ q. has (map window strays.items) q || owned_by h q) ≡ (λ q. (has ss q || owned_by before q) || has vs q) =
    ap (λ (o : Places). λ (q : Place). has (map window strays.items) q || o q) (owned-put before child h vs put_in)
    ∙ (λ t q. (ap (λ (b : Bool). b || owned_by before q) (stray q) ∙ or_swapped (has ss q) (has vs q) (owned_by before q)) t) in
    ap (λ (o : Places). record (part (record f { so_far = record f.so_far { holdings = h }; strays = strays })) { owned = o }) owned_is
    ∙ ap (λ (c : Contents). record (given_back (part f) vs (contents_of child)) { so_far = record (settled f.so_far) { contents = c } })
    (contents-put before child h vs put_in)

-- ---- a part whose next hole was filled
pub filled-is : (f given : Filling) (hole : rListed) (child two three : rSettled)
    → part given ≡ given_back (part f) (listed hole).windows (contents_of child.holdings)
    → settled two ≡ record (settled (record given.so_far { stopped = given.so_far.stopped || child.stopped })) {
      lines = (settled given.so_far).lines ++ (listed hole).lines;
      faults = (settled given.so_far).faults ++ (listed hole).faults;
    }
    → two.holdings ≡ given.so_far.holdings
    → settled three ≡ record (settled two) {
      lines = (settled two).lines ++ (settled child).lines;
      faults = (settled two).faults ++ (settled child).faults;
    }
    → three.holdings ≡ two.holdings
    → part (record given { so_far = three }) ≡ filled (waiting_for f hole) (settled child)
filled-is f given hole child two three taken told is_given told_more is_two =
    let tells : (s : Settled) → Settled = λ s. record s {
      stopped = s.stopped || child.stopped;
      lines = (s.lines ++ (listed hole).lines) ++ (settled child).lines;
      faults = (s.faults ++ (listed hole).faults) ++ (settled child).faults;
    } in
    let so_far_is : settled three ≡ tells (settled given.so_far) =
    told_more
    ∙ ap (λ (s : Settled). record s { lines = s.lines ++ (settled child).lines; faults = s.faults ++ (settled child).faults }) told in
    ap (λ (h : Holdings). record (part given) {
      owned = λ q. has (map window given.strays.items) q || owned_by h q;
      so_far = settled three;
    }) (is_two ∙ is_given)
    ∙ ap (λ (s : Settled). record (part given) { so_far = s }) so_far_is
    ∙ ap (λ (p : Part). record p { so_far = tells p.so_far }) taken

-- ---- errors
pub refuses_back : (e : GatherError) (path : Path) (met : Bool) (apart : Type 0) → (met ≡ false → apart)
    → RefusesPaste path apart e → RefusesBack path met e
refuses_back OutOfMemory path met apart back h = tt
refuses_back (Lost other) path met apart back h = h
refuses_back (Double other) path met apart back h = (h.0, true_from_ne_false met (λ e. h.1 (back e)))
refuses_back (Stranger other) path met apart back h = h

pub refuses_hole : (e : GatherError) (w : Waiting) (path : Path) → path.turns.items ≡ w.hole.path
    → RefusesBack path (comes_back_twice w) e → RefusesHole w e
refuses_hole OutOfMemory w path same h = tt
refuses_hole (Lost other) w path same h = h
refuses_hole (Double other) w path same h = (ap (λ (p : Path). p.turns.items) h.0 ∙ same, h.1)
refuses_hole (Stranger other) w path same h = h

-- an error is passed on unchanged
pub passed_on : {A E : Type 0} (r : Result A E) (e : E) (P : E → Type 0) → IsErr r × IsErrAnd r (λ x. x ≡ e) → P e → IfErr r P
passed_on (Ok x) e P h p = tt
passed_on (Err x) e P h p = subst P (sym h.1) p

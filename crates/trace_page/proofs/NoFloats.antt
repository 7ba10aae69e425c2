-- The data of a page has no float, therefore it has one compact text.
use Rattle.std.proofs.Common.{◌≡◌, ◌+◌, ℕ, List, length, [], ◌∷◌, ◌++◌, map, Option, None, Some, Bool, true, false, refl, ap, ◌∙◌}
use Rattle.std.specs.Prelude.{ℤ, pos, negsuc, if◌then◌else◌, codes}
use Rattle.std.specs.List.{AllByRecursion}
use Rattle.std.proofs.lemmas.Bool.{or_from}
use Rattle.serde_json.specs.Data.{Data, string, number}
use Rattle.serde_json.specs.Find.{of_integer}
use Rattle.serde_json.specs.View.{items_of}
use Rattle.serde_json.specs.Written.{has_float, items_have_float, members_have_float}
use Rattle.syntax.specs.declared.place.TextPlace.{TextPlace}
use Rattle.types.specs.Outcome.{Outcome, Ended, Stopped, outcome}
use Rattle.types.specs.Run.{Fault as TaskFault}
use Rattle.events.specs.Events.{event}
use Rattle.cost.specs.Accounts.{account_of, span_by_label}
use Rattle.trace_numbers.specs.declared.summary.TraceSummary.{TraceSummary}
use Rattle.trace_layout.specs.Rows.{rows_of}
use Rattle.trace_layout.specs.declared.finishes.Finish.{Finish}
use Rattle.trace_page.specs.Changes.{Changes, change_json, changes_json, weight_json}
use Rattle.trace_page.specs.Costs.{cost_json, if_ended, tables_json, unless_faulted}
use Rattle.trace_page.specs.Layouts.{finish_items, finish_json, spell_json, steal_json}
use Rattle.trace_page.specs.Births.{births}
use Rattle.trace_page.specs.Pages.{IsData, Traced, budget_of, described_members, layout_json, layout_members, parts, parts_json, tasks_of}
use Rattle.trace_page.specs.Pages.{program_json, trace_json, trace_members}
use Rattle.trace_page.specs.Pieces.{is_exact, list_by, list_of, members_by, natural, object_of, or_null, value_json}
use Rattle.trace_page.specs.Programs.{array_json, initial_json, is_blank, place_json, summary_json, summary_members}
use Rattle.trace_page.specs.Tasks.{number_of, task_of}
use Rattle.trace_page.specs.declared.changes.ValueChange.{ValueChange}
use Rattle.trace_page.specs.declared.changes.ValueChange.TheVariants.{Scalar, Section, Flows, Store, Line, Fault, Gathered, Given}
use Rattle.trace_page.specs.declared.changes.WeightChange.{WeightChange}
use Rattle.trace_page.specs.declared.changes.WeightChange.TheVariants.{Weight, ChildWeight, Book}

abbrev pub HasNoFloat : Data → Type 0
HasNoFloat d = has_float d ≡ false

-- ---- pieces

pub natural_has_none : (n : ℕ) → HasNoFloat (natural n)
natural_has_none n = refl

integer_has_none : (z : ℤ) → HasNoFloat (number (of_integer z))
integer_has_none (pos n) = refl
integer_has_none (negsuc n) = refl

either_has_none : (b : Bool) (d e : Data) → HasNoFloat d → HasNoFloat e → HasNoFloat (if b then d else e)
either_has_none true d e one other = one
either_has_none false d e one other = other

or_null_has_none : {X : Type 0} (f : X → Data) (o : Option X) → ((x : X) → HasNoFloat (f x)) → HasNoFloat (or_null f o)
or_null_has_none f None none = refl
or_null_has_none f (Some x) none = none x

few_have_none : (ds : List Data) → AllByRecursion HasNoFloat ds → HasNoFloat (list_of ds)
few_have_none [] all = refl
few_have_none (d ∷ ds) all = or_from (has_float d) (items_have_float (items_of ds)) all.0 (few_have_none ds all.1)

pub list_has_none : {X : Type 0} (f : X → Data) (xs : List X) → ((x : X) → HasNoFloat (f x)) → HasNoFloat (list_by f xs)
list_has_none f [] none = refl
list_has_none f (x ∷ xs) none =
    or_from (has_float (f x)) (items_have_float (items_of (map f xs))) (none x) (list_has_none f xs none)

object_has_none : (ms : List (List ℕ × Data)) → AllByRecursion (λ m. HasNoFloat m.1) ms → HasNoFloat (object_of ms)
object_has_none [] all = refl
object_has_none (m ∷ ms) all =
    or_from (has_float m.1) (members_have_float (members_by ms)) all.0 (object_has_none ms all.1)

value_has_none : (z : ℤ) → HasNoFloat (value_json z)
value_has_none z = either_has_none (is_exact z) _ _ (integer_has_none z) refl

numbers_have_none : (ns : List ℕ) → HasNoFloat (list_by natural ns)
numbers_have_none ns = list_has_none natural ns natural_has_none

values_have_none : (zs : List ℤ) → HasNoFloat (list_by value_json zs)
values_have_none zs = list_has_none value_json zs value_has_none

-- ---- members

finish_has_none : (f : Finish) → HasNoFloat (finish_json f)
finish_has_none f =
    few_have_none (finish_items f) (refl, (refl, (refl, (or_null_has_none natural f.parked natural_has_none, (refl, tt)))))

initial_has_none : (zs : List ℤ) → HasNoFloat (initial_json zs)
initial_has_none zs = either_has_none (is_blank zs) _ _ refl (values_have_none zs)

weight_has_none : (c : WeightChange) → HasNoFloat (weight_json c)
weight_has_none (Weight own) = refl
weight_has_none (ChildWeight weight) = refl
weight_has_none (Book issued returned) = refl

change_has_none : (c : ValueChange) → HasNoFloat (change_json c)
change_has_none (Scalar slot value) = few_have_none (string (codes "x") ∷ natural slot ∷ value_json value ∷ []) (refl, (refl, (value_has_none value, tt)))
change_has_none (Section section window) = refl
change_has_none (Flows flow) = refl
change_has_none (Store place value) = few_have_none (string (codes "e") ∷ natural place.array.number ∷ natural place.index ∷ value_json value ∷ [])
    (refl, (refl, (refl, (value_has_none value, tt))))
change_has_none (Line values) = few_have_none (string (codes "p") ∷ list_by value_json values.items ∷ []) (refl, (values_have_none values.items, tt))
change_has_none (Fault kind) = refl
change_has_none (Gathered faults) = refl
change_has_none (Given may_write window) = refl

-- a list with values for some items and then for others
both_have_none : {X Y : Type 0} (f : X → Data) (g : Y → Data) (xs : List X) (ys : List Y) → ((x : X) → HasNoFloat (f x))
    → ((y : Y) → HasNoFloat (g y)) → HasNoFloat (list_of (map f xs ++ map g ys))
both_have_none f g [] ys one other = list_has_none g ys other
both_have_none f g (x ∷ xs) ys one other =
    or_from (has_float (f x)) (items_have_float (items_of (map f xs ++ map g ys))) (one x) (both_have_none f g xs ys one other)

changes_have_none : (c : Changes) → HasNoFloat (changes_json c)
changes_have_none c = both_have_none weight_json change_json c.weights c.values weight_has_none change_has_none

tables_have_none : (span work : List ℕ) → HasNoFloat (tables_json span work)
tables_have_none span work = object_has_none ((codes "span", list_by natural span) ∷ (codes "work", list_by natural work) ∷ [])
    (numbers_have_none span, (numbers_have_none work, tt))

faulted_has_none : (fs : List TaskFault) (d : Data) → HasNoFloat d → HasNoFloat (unless_faulted fs d)
faulted_has_none [] d none = none
faulted_has_none (f ∷ fs) d none = refl

ended_has_none : (o : Outcome) (d : Data) → HasNoFloat d → HasNoFloat (if_ended o d)
ended_has_none (Ended e) d none = faulted_has_none e.faults d none
ended_has_none Stopped d none = refl

-- ---- the data

same_has_none : (d e : Data) → d ≡ e → HasNoFloat e → HasNoFloat d
same_has_none d e is none = ap has_float is ∙ none

layout_has_none : (run : Traced) (d : Data) (p : IsData run d) → HasNoFloat (layout_json p.layout p.finish_rows p.task_rows)
layout_has_none run d p =
    object_has_none (layout_members p.layout p.finish_rows p.task_rows) (
      refl,
      (
        same_has_none _ _ p.of_finishes.rows (numbers_have_none (rows_of p.of_finishes.stretches)),
        (
          list_has_none finish_json p.layout.finishes.all.items finish_has_none,
          (
            list_has_none spell_json p.layout.spells.all.items (λ s. refl),
            (
              list_has_none steal_json p.layout.moves.steals.items (λ s. refl),
              (same_has_none _ _ p.of_tasks.rows (numbers_have_none (rows_of p.of_tasks.stretches)), tt),
            ),
          ),
        ),
      ),
    )

program_has_none : (run : Traced) (places : List TextPlace) → HasNoFloat (program_json run places)
program_has_none run places =
    let account = account_of run.code (length places + 1) run.input (budget_of run) in
    object_has_none (described_members run (list_by array_json run.code.arrays)
    (cost_json run.code (length places + 1) run.input (budget_of run)) places) (
      list_has_none array_json run.code.arrays (λ a. refl),
      (
        ended_has_none (outcome run.code run.input (budget_of run)) (tables_json (span_by_label account) account.work)
            (tables_have_none (span_by_label account) account.work),
        (refl, (list_has_none place_json places (λ place. refl), (refl, tt))),
      ),
    )

summary_has_none : (s : TraceSummary) → HasNoFloat (summary_json s)
summary_has_none s =
    object_has_none (summary_members s)
    (refl, (refl, (refl, (refl, (refl, (refl, (numbers_have_none s.by_worker.items, (refl, tt))))))))

trace_has_none : (run : Traced) (d : Data) (p : IsData run d) → HasNoFloat (trace_json run p.summary (tasks_of run) p.changes)
trace_has_none run d p =
    object_has_none (trace_members run p.summary (tasks_of run) p.changes) (
      same_has_none _ _ p.replayed.are (list_has_none changes_json p.replayed.told changes_have_none),
      (
        refl,
        (
          list_has_none initial_json run.input initial_has_none,
          (
            refl,
            (
              numbers_have_none run.labels,
              (
                refl,
                (
                  summary_has_none p.summary,
                  (
                    list_has_none (λ e. natural (number_of (births run.events) (task_of (event e)))) run.events (λ e. refl),
                    tt,
                  ),
                ),
              ),
            ),
          ),
        ),
      ),
    )

pub data_has_none : (run : Traced) (d : Data) → IsData run d → HasNoFloat d
data_has_none run d p =
    let layout = layout_json p.layout p.finish_rows p.task_rows in
    let program = program_json run p.places in
    let trace = trace_json run p.summary (tasks_of run) p.changes in
    same_has_none d (parts_json layout program trace) p.are (object_has_none (parts layout program trace)
    (refl, (layout_has_none run d p, (program_has_none run p.places, (trace_has_none run d p, tt)))))

-- Worked programs: the needs of asyncs, tasks apart, and results settled in several orders.
use Rattle.std.proofs.Common.{◌≡◌, ℕ, List, [], ◌∷◌, ◌++◌, Option, Some, None, refl, ap, arith}
use Rattle.std.specs.Prelude.{ℤ, pos, false, replicate}
use Rattle.types.specs.Code.{Element, Store, Do, Call, End, Then, Program}
use Rattle.types.specs.Outcome.{Budget, Outcome, Ended, Stopped, outcome}
use Rattle.types.specs.declared.fault.FaultKind.TheVariants.{Raised}
use Rattle.types.proofs.Programs.{lit, two_arrays, doubling, two_readers, three_faults, nested_tasks}
use Rattle.effects.specs.Rounds.{needs_of}
use Rattle.race_checker.proofs.Examples.{first_child, racy}
use Rattle.task_run.specs.Apart.{apart_outcome}
use Rattle.task_run.specs.Results.{TaskResult, Settled, and_then}
use Rattle.task_run.specs.OwnRun.{result_of, run_by}
use Rattle.task_run.specs.Given.{own, given, root_of, told_of}
use Rattle.task_run.specs.InPlace.{result_in_place}
use Rattle.task_run.specs.Settling.{settle}

abbrev budget : (steps nest : ℕ) → Budget
budget steps nest = record { steps = steps; nest = nest }

abbrev zeros : ℕ → List ℤ
zeros n = replicate n (pos 0)

-- ---- needs of asyncs
two_arrays_needs : needs_of two_arrays first_child ≡ record { writes = 0 ∷ []; reads = [] }
two_arrays_needs = refl

reader_needs : needs_of two_readers (Then 3 (Do (Store 1 (lit 0) (Element 0 (lit 0)))) End)
    ≡ record { writes = 1 ∷ []; reads = 0 ∷ [] }
reader_needs = refl

doubling_needs : (n : ℕ) → needs_of (doubling n) (Then 6 (Call 0 [] (1 ∷ [])) End)
    ≡ record { writes = 1 ∷ []; reads = [] }
doubling_needs n = refl

-- ---- tasks apart
two_arrays_apart : apart_outcome two_arrays (needs_of two_arrays) (zeros 1 ∷ zeros 1 ∷ []) (budget 1000000 100)
    ≡ Ended (record { arrays = (pos 7 ∷ []) ∷ (pos 8 ∷ []) ∷ []; lines = (pos 7 ∷ pos 8 ∷ []) ∷ []; faults = [] })
two_arrays_apart = refl

doubling_apart : apart_outcome (doubling 4) (needs_of (doubling 4)) ((pos 1 ∷ pos 2 ∷ pos 3 ∷ pos 4 ∷ []) ∷ [])
    (budget 1000 100) ≡ Ended (record { arrays = (pos 2 ∷ pos 4 ∷ pos 6 ∷ pos 8 ∷ []) ∷ []; lines = []; faults = [] })
doubling_apart = refl

doubling_too_deep : apart_outcome (doubling 4) (needs_of (doubling 4)) ((pos 1 ∷ pos 2 ∷ pos 3 ∷ pos 4 ∷ []) ∷ [])
    (budget 1000 1) ≡ Stopped
doubling_too_deep = refl

-- ---- results handed over at the ends of the root's finishes
-- the result of a path, in a list
abbrev among_results : Option TaskResult → List TaskResult
among_results None = []
among_results (Some r) = r ∷ []

-- the results of these paths' own runs
abbrev results_of : Program → (input : List (List ℤ)) → (paths : List (List ℕ)) → List TaskResult
results_of p input [] = []
results_of p input (path ∷ paths) =
    among_results (and_then (given p (needs_of p) 100 (root_of p input 5) path) (λ s. Some (result_of (own p (needs_of p) 100 s))))
    ++ results_of p input paths

-- what a path's task makes in place, together with all tasks below it
abbrev in_place_of : Program → (input : List (List ℤ)) → (path : List ℕ) → List TaskResult
in_place_of p input path =
    among_results (and_then (given p (needs_of p) 100 (root_of p input 5) path) (λ s. Some (result_in_place p 100 s)))

-- the outcome if the root's only finish continues with these results; if it can't, the root waits
abbrev told_by : Program → (input : List (List ℤ)) → List TaskResult → Option Outcome
told_by p input rs =
    and_then (settle (result_of (run_by p (needs_of p) 100 (rs ∷ []) (root_of p input 5))) [])
    (λ s. Some (told_of p s))

-- with the results of the own runs of these paths
abbrev told_with : Program → (input : List (List ℤ)) → (paths : List (List ℕ)) → Option Outcome
told_with p input paths = told_by p input (results_of p input paths)

-- finish { async { a[0] = 7; } b[0] = 8; } print a[0], b[0];
two_arrays_settled : told_with two_arrays (zeros 1 ∷ zeros 1 ∷ []) ((1 ∷ []) ∷ [])
    ≡ Some (Ended (record { arrays = (pos 7 ∷ []) ∷ (pos 8 ∷ []) ∷ []; lines = (pos 7 ∷ pos 8 ∷ []) ∷ []; faults = [] }))
two_arrays_settled = refl

-- finish { async { fault 1; } async { fault 2; } fault 3; } print 9; and the faults of 0.1, 0.2 and 0
abbrev three : Outcome
three = Ended (record {
  arrays = [];
  lines = [];
  faults = record { path = 1 ∷ []; label = 3; kind = Raised (pos 1) } ∷
      record { path = 2 ∷ []; label = 5; kind = Raised (pos 2) } ∷
      record { path = []; label = 6; kind = Raised (pos 3) } ∷ [];
})

faults_in_order : told_with three_faults [] ((1 ∷ []) ∷ (2 ∷ []) ∷ []) ≡ Some three
faults_in_order = refl

faults_out_of_order : told_with three_faults [] ((2 ∷ []) ∷ (1 ∷ []) ∷ []) ≡ Some three
faults_out_of_order = refl

-- finish { async { async { print 1; } print 2; } } print 3; with the result of 0.1.1 before that of
-- 0.1
nested_in_order : told_with nested_tasks [] ((1 ∷ []) ∷ (1 ∷ 1 ∷ []) ∷ [])
    ≡ Some (Ended (record { arrays = []; lines = (pos 1 ∷ []) ∷ (pos 2 ∷ []) ∷ (pos 3 ∷ []) ∷ []; faults = [] }))
nested_in_order = refl

nested_child_first : told_with nested_tasks [] ((1 ∷ 1 ∷ []) ∷ (1 ∷ []) ∷ [])
    ≡ Some (Ended (record { arrays = []; lines = (pos 1 ∷ []) ∷ (pos 2 ∷ []) ∷ (pos 3 ∷ []) ∷ []; faults = [] }))
nested_child_first = refl

-- 0.1 runs whole, with 0.1.1 in place; then 0.1.1 has no result of its own
nested_whole : told_by nested_tasks [] (in_place_of nested_tasks [] (1 ∷ []))
    ≡ Some (Ended (record { arrays = []; lines = (pos 1 ∷ []) ∷ (pos 2 ∷ []) ∷ (pos 3 ∷ []) ∷ []; faults = [] }))
nested_whole = refl

nested_twice : told_by nested_tasks [] (in_place_of nested_tasks [] (1 ∷ []) ++ results_of nested_tasks [] ((1 ∷ 1 ∷ []) ∷ [])) ≡ None
nested_twice = refl

-- ---- unsettled: a missing result, a result twice, one of a stranger; two tasks are pending
abbrev pending_two : TaskResult
pending_two = record {
  path = [];
  stopped = false;
  contents = λ q. None;
  owned = λ q. false;
  lines = [];
  faults = [];
  children =
      record { path = 1 ∷ []; windows = []; lines = (pos 5 ∷ []) ∷ []; faults = [] } ∷
      record { path = 2 ∷ []; windows = []; lines = []; faults = [] } ∷ [];
}

abbrev leaf : ℕ → TaskResult
leaf k = record {
  path = k ∷ [];
  stopped = false;
  contents = λ q. None;
  owned = λ q. false;
  lines = (pos k ∷ []) ∷ [];
  faults = [];
  children = [];
}

abbrev lines_of : Option Settled → Option (List (List ℤ))
lines_of None = None
lines_of (Some s) = Some s.lines

both_come : lines_of (settle pending_two (leaf 2 ∷ leaf 1 ∷ [])) ≡ Some ((pos 5 ∷ []) ∷ (pos 1 ∷ []) ∷ (pos 2 ∷ []) ∷ [])
both_come = refl

one_is_lost : lines_of (settle pending_two (leaf 2 ∷ [])) ≡ None
one_is_lost = refl

one_comes_twice : lines_of (settle pending_two (leaf 2 ∷ leaf 1 ∷ leaf 2 ∷ [])) ≡ None
one_comes_twice = refl

one_is_a_stranger : lines_of (settle pending_two (leaf 2 ∷ leaf 1 ∷ leaf 3 ∷ [])) ≡ None
one_is_a_stranger = refl

-- ---- finish { async { a[0] = 7; } print a[0]; } has a race: its tasks apart print 0, and one
-- thread prints 7
abbrev first_number : List ℤ → ℕ
first_number (pos n ∷ vs) = n
first_number _ = 0

abbrev first_line : List (List ℤ) → ℕ
first_line [] = 0
first_line (vs ∷ lines) = first_number vs

abbrev first_told : Outcome → ℕ
first_told (Ended e) = first_line e.lines
first_told Stopped = 0

racy_differs : outcome racy (zeros 1 ∷ []) (budget 100 100) ≡ apart_outcome racy (needs_of racy) (zeros 1 ∷ []) (budget 100 100) → ⊥
racy_differs e = let h : 7 ≡ 0 = ap first_told e in omega (arith, h)

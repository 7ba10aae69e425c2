-- The costs of worked programs, computed.
use Rattle.std.proofs.Common.{◌≡◌, ℕ, List, [], ◌∷◌, refl}
use Rattle.std.specs.Prelude.{ℤ, pos, replicate}
use Rattle.types.specs.Code.{Async, Do, End, Finish, Program, Skip, Then}
use Rattle.types.specs.Outcome.{Budget}
use Rattle.types.proofs.Programs.{count_to, doubling, endless, late_async, main_of, nested_tasks, one_async, three_faults, two_arrays}
use Rattle.cost.specs.declared.cost.Cost.{Cost}
use Rattle.cost.specs.Accounts.{account_of, span_by_label}
use Rattle.cost.specs.Costs.{cost_of, tally_of}

abbrev usual : Budget
usual = record { steps = 1000000; nest = 100 }

abbrev zeros : ℕ → List ℤ
zeros n = replicate n (pos 0)

-- no task of these programs has 1,000 steps
abbrev costs : (work span tasks deepest_nest finishes copied : ℕ) → Cost
costs work span tasks deepest finishes copied = record {
  work = work;
  span = span;
  tasks = tasks;
  deepest_nest = deepest;
  finishes = finishes;
  copied = copied;
  small = tasks;
}

abbrev cost : Program → List (List ℤ) → Cost
cost p input = cost_of (tally_of p input usual)

-- the finish, the async and its store, the other store and the print; the two stores run in
-- parallel
two_arrays_cost : cost two_arrays (zeros 1 ∷ zeros 1 ∷ []) ≡ costs 5 4 2 1 2 0
two_arrays_cost = refl

-- tasks of three levels, as many as there are leaves; at each level half of the places move, and
-- move back
doubling_cost : cost (doubling 8) (zeros 8 ∷ []) ≡ costs 61 17 8 3 2 24
doubling_cost = refl

-- the finish of a parent and its child also waits for the child's child
nested_tasks_cost : cost nested_tasks [] ≡ costs 6 5 3 2 2 0
nested_tasks_cost = refl

-- the end of `main` waits for a task that `main` starts outside of a finish
one_async_cost : cost one_async [] ≡ costs 3 2 2 1 1 0
one_async_cost = refl

-- a task comes after what its parent did before, so nothing runs in parallel here
late_async_cost : cost late_async [] ≡ costs 6 6 2 1 1 0
late_async_cost = refl

-- all iterations of a loop come one after the other: each costs the test of its condition and its
-- body, and there is one more test at the end
count_cost : cost (count_to 3) [] ≡ costs 9 9 1 0 1 0
count_cost = refl

-- a fault ends its task's work up to the end of the finish, and costs a step like any statement
three_faults_cost : cost three_faults [] ≡ costs 6 4 3 1 2 0
three_faults_cost = refl

-- the cost of a stopped run is what was done until then: the finish, the async, and the ten steps
-- of its task
endless_cost : cost_of (tally_of endless [] (record { steps = 10; nest = 1 })) ≡ costs 12 12 2 1 2 0
endless_cost = refl

-- ---- by label: all steps, and those of the longest chain. The first number is that of 0, which no statement has

abbrev by_label : (rows : ℕ) → Program → List (List ℤ) → List ℕ × List ℕ
by_label rows p input = let a = account_of p rows input usual in (a.work, span_by_label a)

-- of the two stores in parallel, the store of the task that continues counts
two_arrays_by_label : by_label 6 two_arrays (zeros 1 ∷ zeros 1 ∷ [])
    ≡ (0 ∷ 1 ∷ 1 ∷ 1 ∷ 1 ∷ 1 ∷ [], 0 ∷ 1 ∷ 1 ∷ 0 ∷ 1 ∷ 1 ∷ [])
two_arrays_by_label = refl

-- two elements: the call of the left half, at 6, belongs to a task, and isn't on the longest chain
doubling_by_label : by_label 10 (doubling 2) (zeros 2 ∷ [])
    ≡ (0 ∷ 3 ∷ 2 ∷ 2 ∷ 1 ∷ 1 ∷ 1 ∷ 1 ∷ 1 ∷ 1 ∷ [], 0 ∷ 2 ∷ 1 ∷ 1 ∷ 1 ∷ 1 ∷ 0 ∷ 1 ∷ 1 ∷ 1 ∷ [])
doubling_by_label = refl

-- one after the other: four tests of the condition, and three iterations
count_by_label : by_label 5 (count_to 3) [] ≡ (0 ∷ 1 ∷ 4 ∷ 3 ∷ 1 ∷ [], 0 ∷ 1 ∷ 4 ∷ 3 ∷ 1 ∷ [])
count_by_label = refl

-- finish { async { skip; skip; } async { skip; } }: of two tasks whose chains are equally long, the
-- first counts
abbrev two_tasks : Program
two_tasks = main_of [] 0 []
    (Then 1 (Finish (Then 2 (Async (Then 3 (Do Skip) (Then 4 (Do Skip) End))) (Then 5 (Async (Then 6 (Do Skip) End)) End))) End)

two_tasks_by_label : by_label 7 two_tasks [] ≡ (0 ∷ 1 ∷ 1 ∷ 1 ∷ 1 ∷ 1 ∷ 1 ∷ [], 0 ∷ 1 ∷ 1 ∷ 1 ∷ 1 ∷ 0 ∷ 0 ∷ [])
two_tasks_by_label = refl

-- a label without a row is counted at 0
few_rows : by_label 2 (count_to 3) [] ≡ (8 ∷ 1 ∷ [], 8 ∷ 1 ∷ [])
few_rows = refl

-- without rows there are no numbers by label
no_rows : by_label 0 two_arrays (zeros 1 ∷ zeros 1 ∷ []) ≡ ([], [])
no_rows = refl

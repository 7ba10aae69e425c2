-- The settled result of a start, the start given to each path, and the outcome of a settled run.
use Rattle.std.specs.Prelude.{ℕ, zero, suc, ◌≡◌, List, [], ◌∷◌, flat_map, ℤ, Option, Some}
use Rattle.sections.specs.Covers.{has}
use Rattle.types.specs.Code.{Codes, Program}
use Rattle.types.specs.Contents.{held_by, shown}
use Rattle.types.specs.Run.{State, Block, entry}
use Rattle.types.specs.Outcome.{Outcome, outcome_by, whole_arrays}
use Rattle.effects.specs.Needs.{Needs}
use Rattle.task_run.specs.Apart.{nothing, stops_anywhere, merged, apart}
use Rattle.task_run.specs.Results.{TaskResult, Settled, none_yet, fill, complete, and_then}
use Rattle.task_run.specs.OwnRun.{Start, Child, Own, beginning, result_of, begun_by, kth, flow_after, own_run}

module _ (p : Program) (needs : Codes → Needs) (fresh : ℕ) where
  -- the settled result of a start
  abbrev pub comes_to : Start → Settled
  comes_to s =
      let out = apart p needs fresh s.nest (Block s.body) (beginning nothing fresh s) in
      record { stopped = stops_anywhere out; contents = merged out; lines = out.lines; faults = out.faults }

  -- holes filled with the settled result of each child
  abbrev pub filled : List Child → Settled → Settled
  filled [] so_far = so_far
  filled (c ∷ cs) so_far = filled cs (fill c.listed (comes_to c.start) so_far)

  -- the real settled result of a finish
  abbrev pub in_truth : State Own → Option Settled
  in_truth st = Some (complete (result_of st) (filled st.extra.pending none_yet))

  -- the own run of a task, in which each finish continues with its real settled result
  abbrev pub own : Start → State Own
  own = own_run p needs fresh in_truth

  -- the start given to a path, relative to a task with this start
  abbrev pub given : Start → List ℕ → Option Start
  given s [] = Some s
  given s (k ∷ path) = and_then (kth k (begun_by (own s).extra.actions)) (λ c. given c path)

  -- a result is that of a task: its path is given a start, and it is the result of the own run from
  -- this start
  pub record IsOfOwnRun (root : Start) (r : TaskResult) : Type 0 where
    pub start : Start
    pub of_path : given root r.path ≡ Some start
    pub is : r ≡ result_of (own start)

  -- if its path is given a start, a result is the result of the own run from this start
  abbrev pub IsOwn : Start → TaskResult → Type 0
  IsOwn root r = (s : Start) → given root r.path ≡ Some s → r ≡ result_of (own s)

  -- the results of all tasks below a task, nested at most `nest` levels deep
  abbrev pub below : (nest : ℕ) → Start → List TaskResult
  below zero s = []
  below (suc n) s = flat_map (λ c. result_of (own c.start) ∷ below n c.start) (own s).extra.pending

-- the root's start
abbrev pub root_of : Program → (input : List (List ℤ)) → (nest : ℕ) → Start
root_of p input nest = record {
  body = p.main.body;
  environment = entry [] (whole_arrays 0 p.arrays);
  contents = held_by input;
  owned = has (whole_arrays 0 p.arrays);
  nest = nest;
  path = [];
}

-- the outcome of a settled run
abbrev pub told_of : Program → Settled → Outcome
told_of p s =
    outcome_by (flow_after s)
    (record { arrays = shown p.arrays s.contents; lines = s.lines; faults = s.faults })

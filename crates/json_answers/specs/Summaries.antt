-- The object of the numbers of a trace.
use Rattle.std.specs.Prelude.{ℕ, List, [], ◌∷◌, codes, map}
use Rattle.serde_json.specs.Data.{Data, string}
use Rattle.types.specs.Names.{scope_text}
use Rattle.trace_numbers.specs.Faults.{Gathered}
use Rattle.trace_numbers.specs.Tables.{gathered}
use Rattle.trace_numbers.specs.declared.summary.TraceSummary.{TraceSummary}
use Rattle.json_answers.specs.Pieces.{list_by, natural, object_of}

-- a finish, and its number of faults
abbrev pub finish_members : Gathered → List (List ℕ × Data)
finish_members g =
    (codes "faults", natural g.faults) ∷ (codes "finish", string (scope_text g.owner g.number)) ∷ []

abbrev pub finish_json : Gathered → Data
finish_json g = object_of (finish_members g)

-- the numbers of a run on so many workers; the list has the steps of each of the 64 workers that a run can
-- have
abbrev pub summary_members : (workers : ℕ) → TraceSummary → List (List ℕ × Data)
summary_members workers s =
    (codes "deepest_nest", natural s.deepest_nest)
    ∷ (codes "faults", list_by finish_json (map gathered s.faults.items))
    ∷ (codes "most_live_tasks", natural s.most_tasks)
    ∷ (codes "replenishments", natural s.replenishings)
    ∷ (codes "span", natural s.span)
    ∷ (codes "status", natural 0)
    ∷ (codes "steals", natural s.steals)
    ∷ (codes "steps", natural s.steps)
    ∷ (codes "steps_by_worker", list_by natural s.by_worker.items)
    ∷ (codes "tasks", natural s.tasks)
    ∷ (codes "workers", natural workers) ∷ []

abbrev pub summary_json : (workers : ℕ) → TraceSummary → Data
summary_json workers s = object_of (summary_members workers s)

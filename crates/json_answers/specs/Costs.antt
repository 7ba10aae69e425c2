-- The object of the cost of a run.
use Rattle.std.specs.Prelude.{[], ◌∷◌, codes}
use Rattle.serde_json.specs.Data.{Data}
use Rattle.cost.specs.declared.cost.Cost.{Cost}
use Rattle.json_answers.specs.Pieces.{natural, object_of}

-- its numbers, and the exit status
abbrev pub cost_json : Cost → Data
cost_json c =
    object_of (
    (codes "copied_places", natural c.copied)
    ∷ (codes "deepest_nest", natural c.deepest_nest)
    ∷ (codes "finishes", natural c.finishes)
    ∷ (codes "small_tasks", natural c.small)
    ∷ (codes "span", natural c.span)
    ∷ (codes "status", natural 0)
    ∷ (codes "tasks", natural c.tasks)
    ∷ (codes "work", natural c.work) ∷ [])

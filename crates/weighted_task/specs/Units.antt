-- The amount of weight that is held.
use Rattle.std.specs.Prelude.{ℕ, ◌+◌, List, sum_by}
use Rattle.weighted_task.specs.declared.stake.Stake.{Stake}
use Rattle.weighted_task.specs.declared.task.Task.{Task}
use Rattle.weighted_task.specs.declared.turn.WeightedTurn.{WeightedTurn}
use Rattle.weighted_task.specs.declared.turn.WeightedTurn.TheVariants.{Going, Spawns, WantsWeight}
use Rattle.weighted_task.specs.declared.turn.WeightedTurn.TheVariants.{EntersFinish}
use Rattle.weighted_task.specs.declared.turn.WeightedTurn.TheVariants.{EndsFinish, Ended, Over}

-- in several scopes
abbrev pub held : List Stake → ℕ
held stakes = sum_by (λ s. s.share.weight) stakes

-- by a task
abbrev pub units_of : Task → ℕ
units_of t = t.share.weight + held t.body.value.outer.items

-- by all results of a turn
abbrev pub units_after : WeightedTurn → ℕ
units_after (Going t) = units_of t
units_after (Spawns t c) = units_of t + c.share.weight
units_after (WantsWeight w) = w.share.weight + held w.body.value.outer.items
units_after (EntersFinish e) = held e.body.value.outer.items
units_after (EndsFinish e) = e.share.weight + held e.parked.value.outer.items
units_after (Ended r) = r.share.weight
units_after (Over t) = units_of t

-- The results that aren't used yet, in order.
use Rattle.std.specs.Prelude.{List, reverse}
use Rattle.task_run.specs.declared.result.TaskResult.{TaskResult}
use Rattle.gather.specs.declared.table.Table.{Table}
use Rattle.gather.specs.declared.unused.Unused.{Unused}
use Rattle.gather.specs.Unused.{left_in}

-- the results that are left in a table, in order
abbrev pub left_of : Table → List TaskResult
left_of table = left_in (reverse table.places.items)

-- the results that aren't used yet, in order
abbrev pub left : Unused → List TaskResult
left (Unused.InTurn tasks) = tasks.items
left (Unused.Tabled table) = left_of table

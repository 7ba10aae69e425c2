-- What a task holds, as a memory of flat code. It has every place: a read is 0 where nothing is
-- held, and a write has no precondition. The set of owned places doesn't change.
use Rattle.std.specs.Prelude.{⊤}
use Rattle.serial_run.specs.Kind.{Kind}
use Rattle.task_run.specs.Places.{Places}
use Rattle.task_run.specs.Spans.{AreWhere}
use Rattle.task_run.specs.Translation.{contents_of, owned_by}
use Rattle.task_run.specs.declared.memory.TaskMemory.{TaskMemory}

abbrev pub task_kind : Kind TaskMemory
task_kind = record {
  contents = λ m. contents_of m.holdings;
  Fits = λ p m. ⊤;
  Lies = λ p w. ⊤;
  Finds = λ m ws ss. AreWhere m.holdings ws ss;
  Shape = Places;
  shape = λ m. owned_by m.holdings;
}

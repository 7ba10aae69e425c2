use Rattle.std.specs.HashMap.{get}
use Rattle.types.specs.Translation.{is_path}
use Rattle.trace_page.proofs.Numbered.{AreNumbered}
use Rattle.trace_page.proofs.tasks.TaskNumbers.of.Given as goal

abbrev pub invariant-loop-index : goal.invariant-loop-index
invariant-loop-index l = AreNumbered l.births l.index (get is_path l.by_path)

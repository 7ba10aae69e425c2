use Rattle.std.proofs.Common.{◌≡◌, length}
use Rattle.task_run.proofs.SpanLemmas.{SayWhere}
use Rattle.task_run.proofs.memory.TaskMemoryArrays.find.Given as goal

-- there is a span for each window so far
abbrev pub invariant-loop-window : goal.invariant-loop-window
invariant-loop-window l = (length l.spans.items ≡ l.window-index) × SayWhere l.self.holdings l.windows l.spans.items

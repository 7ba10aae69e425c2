-- What comes next after the step of a statement, as frames.
use Rattle.std.specs.Prelude.{List, [], ◌∷◌}
use Rattle.statement_steps.specs.declared.next.Next.{Next}
use Rattle.statement_steps.specs.declared.next.Next.TheVariants.{Nothing, Block, Iteration, Turns, Body}
use Rattle.task_run.specs.declared.frame.TaskFrame.{TaskFrame}
use Rattle.task_run.specs.declared.frame.TaskFrame.TheVariants.{Rest, Again, EndCall}
use Rattle.task_run.specs.declared.frame.TaskFrame.TheVariants.{Turns as TurnsFrame}

-- the frames above those of the rest of the block, the last one on top
abbrev pub frames_of : Next → List TaskFrame
frames_of Nothing = []
frames_of (Block b) = Rest b ∷ []
frames_of (Iteration l t b) = Again l t b ∷ Rest b ∷ []
frames_of (Turns t) = TurnsFrame t ∷ []
frames_of (Body b env) = EndCall env ∷ Rest b ∷ []

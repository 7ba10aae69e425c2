-- The turns of tasks: turns of their runs, with the weights moved accordingly.
use Rattle.std.specs.Prelude.{ℕ, ◌≡◌, ◌≢◌, ◌+◌, ◌/◌, ◌≤◌, [], ◌∷◌, ◌++◌, length, Some, None}
use Rattle.effects.specs.Rounds.{needs_of}
use Rattle.task_run.specs.MayRun.{MayStart}
use Rattle.task_run.specs.RunTurns.{DoneSpawns, GoesUpTo, IsEnding, IsStep, IsTurn, StepsUpTo}
use Rattle.task_run.specs.RunTurns.{turn_of}
use Rattle.task_run.specs.RunTurns.{IsAtEnd as IsRunAtEnd}
use Rattle.task_run.specs.Translation.{start}
use Rattle.task_run.specs.declared.result.TaskResult.{TaskResult as Made}
use Rattle.task_run.specs.declared.run.Run.{Run}
use Rattle.task_run.specs.declared.start.Start.{Start}
use Rattle.task_run.specs.declared.turn.Done.{Done}
use Rattle.task_run.specs.declared.turn.Step.{Step as RunStep}
use Rattle.task_run.specs.declared.turn.Turn.{Turn as RunTurn}
use Rattle.task_run.specs.declared.turn.Turn.TheVariants.{Going as RunGoing, Spawns as RunSpawns}
use Rattle.task_run.specs.declared.turn.Turn.TheVariants.{EntersFinish as RunEntersFinish}
use Rattle.task_run.specs.declared.turn.Turn.TheVariants.{EndsFinish as RunEndsFinish}
use Rattle.task_run.specs.declared.turn.Turn.TheVariants.{Ended as RunEnded, Over as RunOver}
use Rattle.task_run.specs.Jobs.{program_of, lists_of, budget_of, IsJob}
use Rattle.weighted_task.specs.Ends.{IsParked}
use Rattle.weighted_task.specs.Tasks.{GoesBy, IsAsyncOf, IsBody, IsTask, IsChild, IsOfAsync, IsResultOf}
use Rattle.weighted_task.specs.declared.finish.Ending.{Ending}
use Rattle.weighted_task.specs.declared.finish.Owner.{Owner}
use Rattle.weighted_task.specs.declared.finish.Owner.TheVariants.{Main, Finish}
use Rattle.weighted_task.specs.declared.stake.Stake.{Stake}
use Rattle.weighted_task.specs.declared.task.Body.{Body}
use Rattle.weighted_task.specs.declared.task.Child.{Child}
use Rattle.weighted_task.specs.declared.task.Task.{Task}
use Rattle.weighted_task.specs.declared.turn.WeightedResult.{WeightedResult}
use Rattle.weighted_task.specs.declared.turn.WeightedTurn.{WeightedTurn}
use Rattle.weighted_task.specs.declared.turn.WholeChild.{WholeChild}
use Rattle.weighted_task.specs.declared.turn.WholeChild.TheVariants.{Made as ChildMade, Cut, Again}
use Rattle.weighted_task.specs.declared.turn.WeightedTurn.TheVariants.{Going, Spawns, WantsWeight}
use Rattle.weighted_task.specs.declared.turn.WeightedTurn.TheVariants.{EntersFinish}
use Rattle.weighted_task.specs.declared.turn.WeightedTurn.TheVariants.{EndsFinish, Ended, Over}
use Rattle.weighted_task.specs.declared.turn.Wanting.{Wanting}

-- a task keeps its scopes and its weights there
pub record Keeps (b : Body) (units : ℕ) (r : Run) (t : Task) : Type 0 where
  pub body : t.body.value ≡ record b { run = Some r }
  pub weight : t.share.weight ≡ units

-- a task that holds this much spawns another: the child has half of it, rounded down, and belongs to the
-- same scope
pub record Divides (b : Body) (units : ℕ) (s : Start) (t : Task) (c : Child) : Type 0 where
  pub enough : 2 ≤ units
  pub body : t.body.value ≡ b
  pub half : c.share.weight ≡ units / 2
  pub rest : c.share.weight + t.share.weight ≡ units
  pub job : c.job ≡ b.job
  pub start : c.start.value ≡ s
  pub scope : c.scope ≡ b.scope

-- it holds 1, and has spawned a child
pub record Wants (b : Body) (units : ℕ) (s : Start) (w : Wanting) : Type 0 where
  pub one : units ≡ 1
  pub body : w.body.value ≡ b
  pub weight : w.share.weight ≡ 1
  pub start : w.start.value ≡ s

-- either of the two
abbrev pub Parts : Body → (units : ℕ) → Start → WeightedTurn → Type 0
Parts b units s (Spawns t c) = Divides b units s t c
Parts b units s (WantsWeight w) = Wants b units s w
Parts b units s _ = ⊥

-- it belongs to the scope of one more finish, and keeps its weights in the others
pub record Opens (b : Body) (units : ℕ) (r : Run) (new : Body) : Type 0 where
  pub run : new.run ≡ Some r
  pub job : new.job ≡ b.job
  pub opened : new.opened ≡ b.opened + 1
  pub number : new.scope.number ≡ b.opened + 1
  pub depth : new.scope.depth ≡ length r.thread.path.turns.items
  pub stake : Stake
  pub outer : new.outer.items ≡ b.outer.items ++ stake ∷ []
  pub scope : stake.scope ≡ b.scope
  pub weight : stake.share.weight ≡ units

-- it is at an end, with all its weights
pub record IsEndOf (b : Body) (units : ℕ) (o : Owner) (x : Made) (e : Ending) : Type 0 where
  pub job : e.parked.value.job ≡ b.job
  pub owner : e.parked.value.owner ≡ o
  pub made : e.parked.value.made ≡ x
  pub scope : e.scope ≡ b.scope
  pub outer : e.parked.value.outer ≡ b.outer
  pub opened : e.parked.value.opened ≡ b.opened
  pub weight : e.share.weight ≡ units

-- it has finished, and isn't the root
pub record EndsWith (b : Body) (units : ℕ) (x : Made) (r : WeightedResult) : Type 0 where
  pub below : x.path.turns.items ≢ []
  pub job : r.job ≡ b.job
  pub made : r.made ≡ x
  pub scope : r.scope ≡ b.scope
  pub weight : r.share.weight ≡ units

-- what a turn of its run makes of a task that holds this much in its innermost scope
abbrev pub Becomes : Body → (units : ℕ) → RunTurn → WeightedTurn → Type 0
Becomes b units (RunGoing r) (Going t) = Keeps b units r t
Becomes b units (RunOver r) (Over t) = Keeps b units r t
Becomes b units (RunSpawns r s) (Spawns t c) = Divides (record b { run = Some r }) units s t c
Becomes b units (RunSpawns r s) (WantsWeight w) = Wants (record b { run = Some r }) units s w
Becomes b units (RunEntersFinish r) (EntersFinish e) = Opens b units r e.body.value
Becomes b units (RunEndsFinish q made) (EndsFinish e) = IsEndOf b units (Finish q) made e
Becomes b units (RunEnded made) (EndsFinish e) =
    (made.path.turns.items ≡ []) × IsEndOf b units Main made e
Becomes b units (RunEnded made) (Ended r) = EndsWith b units made r
Becomes b units _ _ = ⊥

-- a task without its run
abbrev pub turning : Body → Body
turning b = record b { run = None }

-- the run of a task becomes another in place, and all else is unchanged
pub record InPlace (Takes : (old new : Run) → Type 0) (old new : Body) : Type 0 where
  pub run : Run
  pub has : old.run ≡ Some run
  pub after : Run
  pub takes : Takes run after
  pub is : new ≡ record old { run = Some after }

-- by turns that nobody else sees, and the first that is more
abbrev pub GoesInPlace : (old : Body) → RunStep → (new : Body) → Type 0
GoesInPlace old s new =
    InPlace (λ r after. StepsUpTo (needs_of (program_of old.job)) r s after) old new

-- by one turn
abbrev pub TurnsInPlace : (old : Body) → RunStep → (new : Body) → Type 0
TurnsInPlace old s new = InPlace (λ r after. IsStep (needs_of (program_of old.job)) r s after) old new

-- the run of a task did this
pub record HasDone (b : Body) (d : Done) : Type 0 where
  pub run : Run
  pub goes : GoesBy b.job b.outer.items b.opened run
  pub after : Run
  pub has : b.run ≡ Some after
  pub turn : IsTurn (needs_of (program_of b.job)) run (turn_of after d)
  pub label : DoneSpawns (IsAsyncOf b) d

-- it is at the end of a finish, or has finished
pub record RunsToEnd (b : Body) : Type 0 where
  pub run : Run
  pub has : b.run ≡ Some run
  pub goes : GoesBy b.job b.outer.items b.opened run
  pub end : IsRunAtEnd run

-- that end is its turn, and the task became this
pub record EndsBy (b : Body) (units : ℕ) (new : WeightedTurn) : Type 0 where
  pub run : Run
  pub has : b.run ≡ Some run
  pub turn : RunTurn
  pub is : IsTurn (needs_of (program_of b.job)) run turn
  pub ending : IsEnding turn
  pub becomes : Becomes (turning b) units turn new

-- the run of a task came to a turn in this way, and the task, whose run was taken out, became this
pub record TakesSo (Comes : Run → RunTurn → Type 0) (old : Task) (new : WeightedTurn) : Type 0 where
  pub run : Run
  pub has : old.body.value.run ≡ Some run
  pub turn : RunTurn
  pub goes : Comes run turn
  pub becomes : Becomes (record old.body.value { run = None }) old.share.weight turn new

-- it continued up to the turn
abbrev pub TakesTurn : (old : Task) → (new : WeightedTurn) → Type 0
TakesTurn old new = TakesSo (GoesUpTo (needs_of (program_of old.body.value.job))) old new

-- it took only that turn
abbrev pub TakesOneTurn : (old : Task) → (new : WeightedTurn) → Type 0
TakesOneTurn old new = TakesSo (IsTurn (needs_of (program_of old.body.value.job))) old new

-- a task needs weight for a child that it spawned, and that has this start
pub record IsWanting (b : Body) (s : Start) : Type 0 where
  pub body : IsBody b
  pub may : MayStart (program_of b.job) (lists_of b.job) (budget_of b.job) (start s)
  pub label : IsOfAsync (program_of b.job) s

-- the results of a turn are of the job's tasks
abbrev pub AreTasks : WeightedTurn → Type 0
AreTasks (Going t) = IsTask t
AreTasks (Spawns t c) = IsTask t × IsChild c
AreTasks (WantsWeight w) = IsWanting w.body.value w.start.value
AreTasks (EntersFinish e) = IsBody e.body.value
AreTasks (EndsFinish e) = IsParked e.parked.value
AreTasks (Ended r) = IsJob r.job × IsResultOf r.job r.made
AreTasks (Over t) = IsTask t

-- the result of a spawned task that ran whole, with all its weight
pub record HasMade (c : Child) (r : WeightedResult) : Type 0 where
  pub job : r.job ≡ c.job
  pub scope : r.scope ≡ c.scope
  pub weight : r.share.weight ≡ c.share.weight
  pub path : r.made.path.turns.items ≡ c.start.value.path.turns.items
  pub result : IsResultOf c.job r.made

-- it is as it was
pub record IsSameChild (c d : Child) : Type 0 where
  pub job : d.job ≡ c.job
  pub scope : d.scope ≡ c.scope
  pub weight : d.share.weight ≡ c.share.weight
  pub start : start d.start.value ≡ start c.start.value
  pub child : IsChild d

-- what a whole run of a spawned task comes to
abbrev pub EndsWhole : Child → WholeChild → Type 0
EndsWhole c (ChildMade r begun) = HasMade c r
EndsWhole c (Cut begun) = Unit {0}
EndsWhole c (Again d) = IsSameChild c d

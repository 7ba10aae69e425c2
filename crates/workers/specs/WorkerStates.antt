-- The seats and reports of workers.
use Rattle.std.specs.Prelude.{ℕ, ◌≡◌, ◌+◌, ◌≤◌, List, Option, None, Some, Ok, All, length, IfErr}
use Rattle.std.specs.Prelude.{IfOk, IfSome}
use Rattle.types.specs.Translation.{outcome as outcome_in}
use Rattle.task_run.specs.Jobs.{outcome_of}
use Rattle.task_run.specs.declared.job.Job.{Job}
use Rattle.finish_scope.specs.declared.run_error.RunError.{RunError}
use Rattle.finish_scope.specs.declared.run_error.RunError.TheVariants as In
use Rattle.tickets.specs.Seats.{IsSeatOf, drawn_by, drawn_of}
use Rattle.tickets.specs.Shares.{times}
use Rattle.tickets.specs.declared.word.Seat.{Seat}
use Rattle.tickets.specs.declared.word.Tickets.{Tickets}
use Rattle.finish_scope.specs.RunErrors.{IsCause, IsOfWorker}
use Rattle.workers.specs.Causes.{Happened, HasDrawn}
use Rattle.workers.specs.declared.worker.Report.{Report}
use Rattle.types.specs.declared.outcome.Outcome.{Outcome}

-- no number from `tasks` on was drawn
abbrev pub AreBelow : (tasks : ℕ) → List ℕ → Type 0
AreBelow tasks drawn = (x : ℕ) → tasks ≤ x → times x drawn ≡ 0

-- a seat of the run's tickets, on which only numbers below the maximum of tasks were drawn
pub record HasSeat (t : Tickets) (tasks : ℕ) (s : Seat) : Type 0 where
  pub of : IsSeatOf t s
  pub few : length (drawn_of s) ≤ tasks
  pub below : AreBelow tasks (drawn_of s)

-- a worker drew a ticket for each task that it put into its deque, and so many for others
abbrev pub DrawsForEach : {T : Type 0} → (others : ℕ) → (old new : Seat) → (before after : List T) → Type 0
DrawsForEach others old new before after =
    length (drawn_of new) + length before ≡ length (drawn_of old) + length after + others

-- the only worker ran the program on one thread, and drew a ticket for the root and for each async; or
-- it gave that up, and drew none
abbrev pub DrawsAlone : (old new : Seat) → Option (Outcome × ℕ) → Type 0
DrawsAlone old new None = length (drawn_of new) ≡ length (drawn_of old)
DrawsAlone old new (Some ran) = length (drawn_of new) ≡ length (drawn_of old) + 1 + ran.1

-- the error of a worker with this seat; E2 has a ticket that was drawn there
pub record Fails (o : Option Job) (t : Tickets) (tasks : ℕ) (s : Seat) (e : RunError) : Type 0 where
  pub of : IsSeatOf t s
  pub own : IsOfWorker e
  pub cause : IsCause tasks e
  pub drawn : HasDrawn t (drawn_of s) e
  pub happened : Happened o e

-- what a worker reports: the one-thread outcome, or nothing, and then all of its tickets are below the
-- maximum; or an error
pub record Tells (o : Option Job) (t : Tickets) (j : Job) (tasks : ℕ) (r : Report) : Type 0 where
  pub of : IsSeatOf t r.seat
  pub below : IfOk r.told (λ _. AreBelow tasks (drawn_of r.seat))
  pub told : IfOk r.told (λ v. IfSome v (λ x. outcome_in x ≡ outcome_of j))
  pub failed : IfErr r.told (Fails o t tasks r.seat)

-- an error of a run, some of whose seats are these
pub record EndsRun (o : Option Job) (t : Tickets) (tasks : ℕ) (seats : List Seat) (e : RunError) : Type 0 where
  pub own : IsOfWorker e
  pub cause : IsCause tasks e
  pub drawn : HasDrawn t (drawn_by seats) e
  pub happened : Happened o e

-- what reports say together: their outcome, their error, and the seats of their workers
pub record TellTogether (o : Option Job) (t : Tickets) (j : Job) (tasks : ℕ)
    (told : Option Outcome) (error : Option RunError) (seats : List Seat) : Type 0 where
  pub of : All (IsSeatOf t) seats
  pub outcome : IfSome told (λ x. outcome_in x ≡ outcome_of j)
  pub failed : IfSome error (EndsRun o t tasks seats)
  pub below : error ≡ None → AreBelow tasks (drawn_by seats)

-- a worker reports nothing
abbrev pub IsSilent : Report → Type 0
IsSilent r = r.told ≡ Ok None

-- a run ends because nobody reported anything only if this is so
abbrev pub IsSilentIf : (so : Type 0) → RunError → Type 0
IsSilentIf so In.OutOfMemory = Unit {0}
IsSilentIf so (In.RefusedPush c) = Unit {0}
IsSilentIf so (In.RefusedThread c) = Unit {0}
IsSilentIf so (In.IssuedTooOften c) = Unit {0}
IsSilentIf so (In.TooManyTasks ticket) = Unit {0}
IsSilentIf so (In.Gather u) = Unit {0}
IsSilentIf so (In.NotDue c) = Unit {0}
IsSilentIf so (In.NoOwner c) = Unit {0}
IsSilentIf so (In.NoScope c) = Unit {0}
IsSilentIf so (In.NoReport c) = so
IsSilentIf so In.Unlogged = Unit {0}

-- The cost of a run on one thread: a tally of steps, which the run keeps as its book. A step comes
-- after the earlier steps of its task and after the async that started its task. After a finish, it
-- also comes after all that was done in the finish.
use Rattle.std.specs.Prelude.{ℕ, ◌+◌, ◌-◌, max, nat_lt, if◌then◌else◌, List, ℤ}
use Rattle.types.specs.Code.{Program}
use Rattle.types.specs.Contents.{held_by}
use Rattle.types.specs.Outcome.{Budget, start}
use Rattle.types.specs.Run.{State, Work, Block}
use Rattle.cost.specs.Books.{Book, booked}
use Rattle.cost.specs.declared.cost.Cost.{Cost}
use Rattle.cost.specs.declared.tally.Tally.{Tally}

-- nothing was done: there is only the root, in the finish around `main`
abbrev pub nothing_done : Tally
nothing_done = record {
  work = 0;
  here = 0;
  ended = 0;
  tasks = 1;
  deepest = 0;
  finishes = 1;
  copied = 0;
  along = 0;
  small = 0;
}

-- the running task takes a step
abbrev pub one_more : Tally → Tally
one_more t = record t { work = t.work + 1; here = t.here + 1; along = t.along + 1 }

-- an async takes its step, and then its task starts, inside this number of asyncs, and copies this
-- number of places
abbrev pub begins_task : (depth copied : ℕ) → Tally → Tally
begins_task depth copied t =
    record (one_more t) {
      tasks = t.tasks + 1;
      deepest = max t.deepest depth;
      copied = t.copied + copied;
    }

-- 1 for a task with fewer than 1,000 steps, and 0 for any other
abbrev pub as_small : (steps : ℕ) → ℕ
as_small n = if nat_lt n 1000 then 1 else 0

-- the task has ended; its parent continues from its position before, in the same finish, and the
-- steps along the way to it are those of before
abbrev pub ends_task : (here along : ℕ) → Tally → Tally
ends_task here along t = record t {
  here = here;
  ended = max t.ended t.here;
  along = along;
  small = t.small + as_small (t.along - along);
}

-- a finish takes its step, and no task has ended in it
abbrev pub enters_finish : Tally → Tally
enters_finish t = record (one_more t) { ended = 0; finishes = t.finishes + 1 }

-- what comes after a finish comes after its statements and after all tasks that ended in it; other
-- tasks had ended before in the surrounding finish
abbrev pub leaves_finish : (ended : ℕ) → Tally → Tally
leaves_finish ended t = record t { here = max t.here t.ended; ended = ended }

-- a tally as a book
abbrev pub tallying : Book Tally
tallying = record {
  steps = λ l. one_more;
  begins = λ l. begins_task;
  ends = λ before. ends_task before.here before.along;
  enters = λ l. enters_finish;
  leaves = λ before. leaves_finish before.ended;
}

-- the one-thread meaning, with a tally
abbrev pub tallied : Program → (fresh nest : ℕ) → Work → State Tally → State Tally
tallied p = booked tallying p

-- the tally of a whole run, up to its end or to where it was stopped
abbrev pub tally_of : Program → (input : List (List ℤ)) → Budget → Tally
tally_of p input b =
    let st = start nothing_done p b.steps (held_by input) in
    (tallied p b.steps b.nest (Block p.main.body) st).extra

-- the cost; `main` is in a finish, and the span is the length of the longest chain to the end of
-- that finish
abbrev pub cost_of : Tally → Cost
cost_of t = record {
  work = t.work;
  span = (leaves_finish 0 t).here;
  tasks = t.tasks;
  deepest_nest = t.deepest;
  finishes = t.finishes;
  copied = t.copied;
  small = t.small + as_small t.along;
}

-- Statements after which their task doesn't continue, and blocks that start no task.
use Rattle.std.specs.Prelude.{Bool, true, false, not, ◌&&◌, ◌||◌, if◌then◌else◌}
use Rattle.types.specs.Code.{Truth, Constant, Compare, Not, Both, Either, Primitive, Skip, Assign, Store}
use Rattle.types.specs.Code.{Print, Raise}
use Rattle.types.specs.Code.{Code, Do, If, While, Split, Parts, Begun, Call, Async, Finish, Rescue, Codes, End, Then}

-- a guard is the constant `true`, or `false`
abbrev pub is_always : Truth → Bool
is_always (Constant b) = b
is_always (Compare r a b) = false
is_always (Not t) = false
is_always (Both ts) = false
is_always (Either ts) = false

abbrev pub is_never : Truth → Bool
is_never (Constant b) = not b
is_never (Compare r a b) = false
is_never (Not t) = false
is_never (Both ts) = false
is_never (Either ts) = false

abbrev pub is_fault : Primitive → Bool
is_fault (Raise e) = true
is_fault Skip = false
is_fault (Assign x e) = false
is_fault (Store s i e) = false
is_fault (Print es) = false

abbrev mutual
  -- whatever its numbers are, the task doesn't continue after it: it faults, or a loop has no end
  pub stops : Code → Bool
  stops (Do p) = is_fault p
  stops (If t b c) = (is_never t || block_stops b) && (is_always t || block_stops c)
  stops (While t b) = is_always t
  stops (Split s e x y b) = block_stops b
  stops (Parts s e q i b) = false
  stops (Begun s n k q i b) = false
  stops (Call f es ss) = false
  stops (Async b) = false
  stops (Finish b) = block_stops b
  stops (Rescue b x c) = block_stops b && block_stops c

  pub block_stops : Codes → Bool
  block_stops End = false
  block_stops (Then l s rest) = stops s || block_stops rest

abbrev mutual
  -- a finish around it may wait for a task: it has an async outside of the bodies of inner finishes, or a call
  pub may_leave : Code → Bool
  may_leave (Do p) = false
  may_leave (If t b c) = block_may_leave b || block_may_leave c
  may_leave (While t b) = block_may_leave b
  may_leave (Split s e x y b) = block_may_leave b
  may_leave (Parts s e q i b) = block_may_leave b
  may_leave (Begun s n k q i b) = block_may_leave b
  may_leave (Call f es ss) = true
  may_leave (Async b) = true
  may_leave (Finish b) = false
  may_leave (Rescue b x c) = block_may_leave c

  pub block_may_leave : Codes → Bool
  block_may_leave End = false
  block_may_leave (Then l s rest) = may_leave s || block_may_leave rest

-- the last statement of a block is an async, and no statement before it may leave a task: a finish around the
-- block waits for that task at once
abbrev pub is_async : Code → Bool
is_async (Async b) = true
is_async _ = false

abbrev pub is_end : Codes → Bool
is_end End = true
is_end (Then l s rest) = false

abbrev pub is_lone_task : Codes → Bool
is_lone_task End = false
is_lone_task (Then l s rest) = if is_async s then is_end rest else (not (may_leave s) && is_lone_task rest)

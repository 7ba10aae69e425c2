-- The conditions under which a task is stopped.
use Rattle.std.specs.Prelude.{ℕ, zero, suc, List, Bool, true, false, ◌&&◌, ◌||◌}
use Rattle.std.specs.List.{list_any}
use Rattle.sections.specs.Place.{has_piece}
use Rattle.types.specs.Code.{Code, Do, If, While, Split, Parts, Begun, Call, Async, Finish, Rescue, End, Then}
use Rattle.types.specs.Run.{Flow, On, Faulted, Stopped, State, window_at}
use Rattle.task_run.specs.Results.{TaskResult}
use Rattle.task_run.specs.OwnRun.{Own}
use Rattle.task_run.specs.Frames.{Frame, Rest, Again, Further, AtEnd, OnFault, Back}

-- whether a statement is an async
abbrev pub is_async : Code → Bool
is_async (Async b) = true
is_async (Do s) = false
is_async (If t b c) = false
is_async (While t b) = false
is_async (Split s e x y b) = false
is_async (Parts s e q i b) = false
is_async (Begun s n k q i b) = false
is_async (Call f es ss) = false
is_async (Finish b) = false
is_async (Rescue b x c) = false

-- whether a number is 0
abbrev pub is_none : ℕ → Bool
is_none zero = true
is_none (suc n) = false

-- whether a statement is over the budget: no step is left, or it is an async and no nesting level
-- is left
abbrev pub is_over : (nest steps : ℕ) → Code → Bool
is_over nest steps s = is_none steps || (is_async s && is_none nest)

-- whether the next statement is over the budget, if the flow is on
abbrev pub is_next_over : (nest : ℕ) → Flow → (steps : ℕ) → Code → Bool
is_next_over nest On steps s = is_over nest steps s
is_next_over nest Faulted steps s = false
is_next_over nest Stopped steps s = false

-- whether the next statement of a frame is over the budget
abbrev pub stops : (nest : ℕ) → Frame Own → State Own → Bool
stops nest (Rest End) st = false
stops nest (Rest (Then l s rest)) st = is_next_over nest st.flow st.steps s
stops nest (Again l t b) st = is_next_over nest st.flow st.steps (While t b)
stops nest (Further l s n k q i b) st =
    has_piece (window_at st s) n k && is_next_over nest st.flow st.steps (Begun s n k q i b)
stops nest (AtEnd before) st = false
stops nest (OnFault before x c) st = false
stops nest (Back env) st = false

-- whether one of these results is of a stopped task
abbrev pub some_stopped : List TaskResult → Bool
some_stopped rs = list_any (λ r. r.stopped) rs

-- What follows an answer or a failure on the standard error.
use Rattle.std.specs.Prelude.{ℕ, Bool, false, if◌then◌else◌, nat_eq}
use Rattle.command_line.specs.Requests.{is_explained}
use Rattle.command_line.specs.declared.request.Action.{Action}
use Rattle.command_line.specs.declared.request.Action.TheVariants.{Answer}
use Rattle.command_line.specs.declared.request.Command.TheVariants.{Check}
use Rattle.command_line.specs.declared.request.Explain.{Explain}
use Rattle.command_line.specs.declared.request.Telling.{Telling}
use Rattle.driver.specs.declared.more.More.{More}

-- nothing
abbrev pub nothing_more : More
nothing_more = record { explains = false; warns = false }

-- warnings follow the answer of `check`, on request and by default if the standard error is a terminal
abbrev pub is_warned : Action → Explain → (at_terminal : Bool) → Bool
is_warned (Answer Check) warn at_terminal = is_explained warn at_terminal
is_warned _ warn at_terminal = false

-- after an action there are explanations, and warnings
abbrev pub more_of : Action → Telling → (at_terminal : Bool) → More
more_of x t at_terminal = record {
  explains = is_explained t.explain at_terminal;
  warns = is_warned x t.warn at_terminal;
}

-- something may follow an answer with this status: warnings about an accepted program, or the explanation of
-- faults or of a stop
abbrev pub may_follow : More → (answered : ℕ) → Bool
may_follow m answered =
    if nat_eq answered 0 then m.warns else (if nat_eq answered 1 then false else m.explains)

use Rattle.std.proofs.Common.{◌≡◌, ◌-◌, ◌≤◌, length}
use Rattle.types.specs.Translation.{program}
use Rattle.statement_steps.specs.Lists.{contents_of}
use Rattle.step_trees.specs.Exploring.{IsHeld}
use Rattle.step_trees.specs.Places.{whole}
use Rattle.step_trees.specs.Standing.{standing_from}
use Rattle.step_trees.proofs.standing.stands_behind.Given as goal

-- the result of the remaining choices is the result of all
abbrev pub invariant-choices : goal.invariant-choices
invariant-choices l =
    let p = program l.plan.program.now in
    record {
      held : IsHeld l.plan l.course;
      short : length l.left ≤ length l.fn.choices;
      same : standing_from p (length l.fn.choices - length l.left) l.left (whole l.course.place) (contents_of l.course.store)
          ≡ standing_from p 0 l.fn.choices (whole l.fn.course.place) (contents_of l.fn.course.store);
    }

abbrev pub decreases-choices : goal.decreases-choices
decreases-choices l = length l.left

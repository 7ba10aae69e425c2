use Rattle.std.proofs.Common.{◌≡◌, ◌++◌}
use Rattle.types.specs.Translation.{program}
use Rattle.statement_steps.specs.Lists.{contents_of}
use Rattle.step_trees.specs.Drawing.{drawn}
use Rattle.step_trees.specs.Exploring.{IsHeld}
use Rattle.step_trees.specs.Places.{whole}
use Rattle.step_trees.proofs.standing.draw_from.Given as goal

-- the choices so far, and those that are still drawn, are all of them
abbrev pub invariant-choices : goal.invariant-choices
invariant-choices l =
    let p = program l.plan.program.now in
    record {
      held : IsHeld l.plan l.course;
      same : l.choices.items ++ drawn p l.left l.number (whole l.course.place) (contents_of l.course.store)
          ≡ drawn p 1000000 l.fn.seed (whole l.fn.course.place) (contents_of l.fn.course.store);
    }

abbrev pub decreases-choices : goal.decreases-choices
decreases-choices l = l.left

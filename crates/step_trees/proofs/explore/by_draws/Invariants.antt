use Rattle.std.proofs.Common.{◌≡◌, ◌-◌, ◌≤◌}
use Rattle.types.specs.Translation.{program}
use Rattle.types.specs.TreeRuns.{explored_from}
use Rattle.statement_steps.specs.Lists.{contents_of}
use Rattle.step_trees.specs.Drawing.{drawn}
use Rattle.step_trees.specs.Exploring.{IsHeld}
use Rattle.step_trees.specs.Places.{whole}
use Rattle.step_trees.proofs.explore.by_draws.Given as goal

-- the result of the choices that are still drawn is the result of all
abbrev pub invariant-choices : goal.invariant-choices
invariant-choices l =
    let p = program l.plan.program.now in
    let t = whole l.course.place in let a = contents_of l.course.store in
    let first = whole l.fn.course.place in let begins = contents_of l.fn.course.store in
    record {
      held : IsHeld l.plan l.course;
      few : l.left ≤ 1000000;
      same : explored_from p (1000000 - l.left) (drawn p l.left l.number t a) t a
          ≡ explored_from p 0 (drawn p 1000000 l.fn.seed first begins) first begins;
    }

abbrev pub decreases-choices : goal.decreases-choices
decreases-choices l = l.left

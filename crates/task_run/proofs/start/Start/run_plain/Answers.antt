use Rattle.std.proofs.Common.{subst, inr}
use Rattle.types.specs.Translation.{program}
use Rattle.serial_run.specs.Limits.{IfDone}
use Rattle.task_run.specs.WholeRuns.{EndsBody}
use Rattle.task_run.proofs.WholeRuns.{ends_in_place, made_so, plain_body}
use Rattle.task_run.proofs.start.Start.run_plain.Goals as goal

pub returns-in-Done : goal.returns-in-Done
returns-in-Done g c =
    let s = c.args.self in let p = program c.args.plan.program.now in let fresh = c.args.plan.budget.steps in
    let code = c.args.code.now in let body = c.args.body in let is = c.requires in
    let t = c.in-Done.thread in
    let ends = subst (IfDone (EndsBody p fresh code body s)) c.in-Done.is c.in_ok-ran.ensures in
    let state = ends_in_place p fresh code s body is.code is.body is.fits t ends in (
      made_so p fresh code s body t _ state ends.owned c.made-result.ensures,
      inr (plain_body p fresh code s body is.code is.body is.fits is.plain),
    )

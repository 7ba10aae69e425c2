use Rattle.std.proofs.Common.{◌≡◌, ◌∙◌, List, ap, subst, sym}
use Rattle.std.specs.Prelude.{IfSome}
use Rattle.types.specs.Code.{Program}
use Rattle.types.specs.Contents.{FitsArrays}
use Rattle.types.specs.Outcome.{outcome}
use Rattle.types.specs.Sound.{IsSound}
use Rattle.types.specs.Translation.{budget, input, outcome as outcome_in, program}
use Rattle.types.specs.declared.budget.Budget.{Budget as rBudget}
use Rattle.serial_run.specs.Machines.{AreCodes}
use Rattle.serial_run.specs.declared.code.Flat.{Flat}
use Rattle.task_run.specs.Jobs.{program_of}
use Rattle.workers.proofs.main_loop.Shared.on_one_thread.Goals as goal

pub serial_within-requires : goal.serial_within-requires
serial_within-requires g c =
    let shared = c.args.self.now in
    let same = sym c.plan.ensures.program in
    record {
      sound = subst IsSound same c.requires.sound;
      fits = subst (λ (p : Program). FitsArrays p.arrays (input shared.job.input.now)) same c.requires.fits;
      codes =
          subst (λ (p : Program). AreCodes p c.deref.result.now) same
          (subst (λ (fs : List Flat). AreCodes (program_of shared.job) fs) (sym c.deref.ensures.value)
          (c.lend.ensures shared.job shared.of).codes);
    }

pub returns-in_default : goal.returns-in_default
returns-in_default g c =
    let job = c.args.self.now.job in let plan = c.plan.result in let lists = input job.input.now in
    let told = subst (λ r. IfSome r (λ t. outcome_in t.0 ≡ outcome (program plan.program.now) lists (budget plan.budget)))
    c.in-Some.is c.in_ok-ran.ensures in
    told
    ∙ ap (λ (p : Program). outcome p lists (budget plan.budget)) c.plan.ensures.program
    ∙ ap (λ (b : rBudget). outcome (program_of job) lists (budget b)) c.plan.ensures.budget

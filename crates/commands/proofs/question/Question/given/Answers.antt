use Rattle.std.proofs.Common.{inl, inr}
use Rattle.types.proofs.InputLemmas.{FitsArrays-from_IsInput}
use Rattle.types.specs.Typed.{code_of}
use Rattle.command_line.specs.Requests.{settings}
use Rattle.commands.proofs.Answering.{err_passed}
use Rattle.commands.specs.Answers.{TellsNotGiven}
use Rattle.commands.proofs.question.Question.given.Goals as goal

pub returns-in_err-typed-clause-why : goal.returns-in_err-typed-clause-why
returns-in_err-typed-clause-why g c =
    err_passed _ _
    (TellsNotGiven (settings c.args.self.settings) (g.F.FileSource.held c.args.files.now) c.args.self.text.now)
    c.from_residual.ensures.1 (inl c.in_err-typed.ensures.why)

pub returns-in_err-input-clause-why : goal.returns-in_err-input-clause-why
returns-in_err-input-clause-why g c =
    let s = settings c.args.self.settings in let held = g.F.FileSource.held c.args.files.now in
    err_passed c.from_residual-in_err-input.result _ (TellsNotGiven s held c.args.self.text.now)
    c.from_residual-in_err-input.ensures.1
    (inr (record {
      code = code_of c.in_ok-typed.typed;
      is_code = c.in_ok-typed.ensures.code;
      is_run = tt;
      why = c.in_err-input.ensures.why;
    }))

pub returns-clause-given : goal.returns-clause-given
returns-clause-given g c = record { is_code = c.in_ok-typed.ensures.code; begins = c.in_ok-input.ensures.begins }

pub returns-clause-fits : goal.returns-clause-fits
returns-clause-fits g c = FitsArrays-from_IsInput _ _ c.in_ok-input.ensures.fits

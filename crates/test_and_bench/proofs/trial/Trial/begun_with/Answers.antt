use Rattle.std.proofs.Common.{inl, inr, subst, sym}
use Rattle.std.specs.Str.{chars}
use Rattle.syntax.specs.Lexical.{AreTokensOf}
use Rattle.syntax.specs.Spelling.{spelling}
use Rattle.types.proofs.InputLemmas.{FitsArrays-from_IsInput}
use Rattle.types.specs.Contents.{FitsArrays}
use Rattle.types.specs.Translation.{input as lists_of}
use Rattle.types.specs.Typed.{code_of, program_of}
use Rattle.types.specs.declared.typed.Typed.{Typed}
use Rattle.test_and_bench.specs.Trials.{settings_of, trial}
use Rattle.files.specs.Held.{BeginsWith}
use Rattle.commands.specs.Answers.{TellsNotBegun}
use Rattle.commands.proofs.Answering.{code_of_text, err_passed}
use Rattle.test_and_bench.proofs.trial.Trial.begun_with.Goals as goal

pub returns-in_err-accepted-clause-why : goal.returns-in_err-accepted-clause-why
returns-in_err-accepted-clause-why g c =
    let s = settings_of (trial c.args.self.now) in let held = g.F.FileSource.held c.args.files.now in
    err_passed c.from_residual.result _ (TellsNotBegun s held c.args.text.now) c.from_residual.ensures.1
    (inl c.in_err-accepted.ensures.why)

pub returns-in_err-input-clause-why : goal.returns-in_err-input-clause-why
returns-in_err-input-clause-why g c =
    let s = settings_of (trial c.args.self.now) in let held = g.F.FileSource.held c.args.files.now in
    let text = c.args.text.now in
    let typed = c.typed.result.now in
    err_passed c.from_residual-in_err-input.result _ (TellsNotBegun s held text) c.from_residual-in_err-input.ensures.1
    (inr (record {
      code = code_of typed;
      is_code = code_of_text text typed (subst (λ (t : Typed). AreTokensOf (chars text) (spelling (program_of t)))
          (sym c.typed.ensures.field) c.in_ok-accepted.ensures.spelled);
      is_run = c.typed.ensures.no_clash;
      why = c.in_err-input.ensures.why;
    }))

pub returns-clause-given : goal.returns-clause-given
returns-clause-given g c =
    let s = settings_of (trial c.args.self.now) in let held = g.F.FileSource.held c.args.files.now in
    record {
      is_code = code_of_text c.args.text.now c.in_ok-accepted.accepted.typed c.in_ok-accepted.ensures.spelled;
      begins = subst (λ (t : Typed). BeginsWith s.input held (code_of t).arrays (lists_of c.in_ok-input.input))
          c.typed.ensures.field c.in_ok-input.ensures.begins;
    }

pub returns-clause-fits : goal.returns-clause-fits
returns-clause-fits g c =
    subst (λ (t : Typed). FitsArrays (code_of t).arrays (lists_of c.in_ok-input.input)) c.typed.ensures.field
    (FitsArrays-from_IsInput _ _ c.in_ok-input.ensures.fits)

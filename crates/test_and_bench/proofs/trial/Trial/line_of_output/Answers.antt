use Rattle.std.proofs.Common.{ℕ, List, Option, Vec, Global, subst}
use Rattle.std.specs.Prelude.{option_map}
use Rattle.test_and_bench.specs.Trials.{IsCompared, otherwise, trial, uncompared}
use Rattle.test_and_bench.proofs.trial.Trial.line_of_output.Goals as goal

pub returns-in_ok-failed-in-Err-clause-line : goal.returns-in_ok-failed-in-Err-clause-line
returns-in_ok-failed-in-Err-clause-line g c =
    uncompared c.in-Err.failure c.in-Err.ensures.why c.in_ok-failed-in-Err.ensures.line

pub returns-in_ok-otherwise-in-Ok-Some-clause-line : goal.returns-in_ok-otherwise-in-Ok-Some-clause-line
returns-in_ok-otherwise-in-Ok-Some-clause-line g c =
    let held = g.F.FileSource.held c.args.files.now in
    let bytes : Option (Vec ℕ Global) → Option (List ℕ) = option_map (λ v. v.items) in
    otherwise c.in-Ok-Some.how.items
    (subst (λ (d : Option (Vec ℕ Global)). IsCompared held (trial c.args.self.now) (bytes d)) c.in-Ok-Some.field-0-is
    c.in-Ok-Some.ensures.compared)
    c.in_ok-otherwise-in-Ok-Some.ensures.line

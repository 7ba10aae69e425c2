use Rattle.std.proofs.Common.{ap, ◌∙◌, length, List, subst, take}
use Rattle.std.specs.Prelude.{ℤ}
use Rattle.types.specs.Outcome.{Outcome}
use Rattle.types.proofs.InputLemmas.{FitsArrays-from_IsInput}
use Rattle.run_explanations.specs.Seen.{OnlyIfStopped, faults_of}
use Rattle.run_explanations.proofs.run.seen_again.Goals as goal

pub kept-requires : goal.kept-requires
kept-requires c = FitsArrays-from_IsInput _ _ (c.fits.ensures.0 c.if-not-fits.false)

pub returns : goal.returns
returns c input =
    let same = c.in_ok-thread.ensures.outcome in
    record {
      faults = c.seen_at_end.ensures.faults ∙ ap (λ (o : Outcome). take 4 (faults_of o)) same;
      many = c.seen_at_end.ensures.many ∙ ap (λ (o : Outcome). length (faults_of o)) same;
      overrun =
          subst (λ (o : Outcome). OnlyIfStopped o c.seen_at_end.result.overrun) same c.seen_at_end.ensures.overrun;
      lines = c.seen_at_end.ensures.lines ∙ ap (λ (ls : List (List ℤ)). take 10 ls) c.in_ok-thread.ensures.lines;
      printed = c.seen_at_end.ensures.printed ∙ ap (λ (ls : List (List ℤ)). length ls) c.in_ok-thread.ensures.lines;
    }

use Rattle.effects.specs.Rounds.{summaries}
use Rattle.effects.proofs.NeedsOfAsyncs.{provides}
use Rattle.effects.proofs.StableRounds.{is_possible, summaries_derived, summaries_stable, pending_summaries_derived}
use Rattle.effects.proofs.StableRounds.{pending_summaries_stable}
use Rattle.effects.proofs.laws.sound_programs_have_summaries.Goals as goal

pub returns : goal.returns
returns c = record {
  possible = is_possible;
  derived = summaries_derived;
  stable = summaries_stable;
  pending_derived = pending_summaries_derived;
  pending_stable = pending_summaries_stable;
  provides = λ p sound. provides p (summaries p) (summaries_derived p) (summaries_stable p sound);
}

use Rattle.types.proofs.InputLemmas.{FitsArrays-from_IsInput}
use Rattle.run_explanations.proofs.run.steps_again.Goals as goal

pub kept-requires : goal.kept-requires
kept-requires c = FitsArrays-from_IsInput _ _ (c.fits.ensures.0 c.if-not-fits.false)

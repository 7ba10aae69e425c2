use Rattle.std.proofs.Common.{subst, sym}
use Rattle.types.specs.Code.{Program}
use Rattle.types.specs.Contents.{FitsArrays}
use Rattle.types.specs.Translation.{input}
use Rattle.types.proofs.InputLemmas.{FitsArrays-from_IsInput}
use Rattle.run_explanations.proofs.run.surplus_task.Goals as goal

pub at_start-requires : goal.at_start-requires
at_start-requires c =
    subst (λ (p : Program). FitsArrays p.arrays (input c.args.input.now)) (sym c.code.ensures.code)
    (FitsArrays-from_IsInput _ _ (c.fits.ensures.0 c.if-not-fits.false))

use Rattle.types.specs.Code.{Program}
use Rattle.effects.specs.Effects.{Subject, accesses, labels}
use Rattle.effects.specs.Tables.{StableIsLeast}
use Rattle.effects.proofs.StableTables.{alls_exact, pendings_exact, alls_derived, pendings_derived}
use Rattle.effects.proofs.laws.stable_tables_are_least.Goals as goal

stable : (p : Program) (subject : Subject) → StableIsLeast p subject
stable p subject = record {
  alls = alls_exact p subject;
  pendings = pendings_exact p subject;
  rounds = alls_derived p subject;
  pending_rounds = pendings_derived p subject;
}

pub returns : goal.returns
returns c = record { accesses = λ p. stable p accesses; labels = λ p. stable p labels }

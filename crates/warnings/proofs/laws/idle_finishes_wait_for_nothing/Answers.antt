use Rattle.effects.specs.Effects.{accesses, labels}
use Rattle.warnings.proofs.Idle.{nothing}
use Rattle.warnings.proofs.laws.idle_finishes_wait_for_nothing.Goals as goal

pub returns : goal.returns
returns c = record { labels = λ p. nothing p labels; accesses = λ p. nothing p accesses }

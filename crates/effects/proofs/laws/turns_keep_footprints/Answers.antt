use Rattle.effects.proofs.Footprints.{turn-reads, turn-writes, turn-pending_reads, turn-pending_writes}
use Rattle.effects.proofs.laws.turns_keep_footprints.Goals as goal

pub returns : goal.returns
returns c = record {
  touched = λ p env label s x i e b n k w cut q. turn-reads p env s e x i b n k w cut label q;
  written = λ p env label s x i e b n k w cut q. turn-writes p env s e x i b n k w cut label q;
  still_touched = λ p env s x i e b n k w cut q. turn-pending_reads p env s e x i b n k w cut 0 q;
  still_written = λ p env s x i e b n k w cut q. turn-pending_writes p env s e x i b n k w cut 0 q;
}

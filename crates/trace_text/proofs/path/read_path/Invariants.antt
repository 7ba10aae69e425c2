use Rattle.std.specs.Prelude.{option_map}
use Rattle.trace_text.proofs.PathReading.{ReadSoFar, left_length}
use Rattle.trace_text.proofs.path.read_path.Given as goal

-- the turns so far were parsed from the path that the text spells, if it spells one
abbrev pub invariant-turns : goal.invariant-turns
invariant-turns l = ReadSoFar l.turns.items (option_map (λ (b : _). b.now) l.rest) l.fn.text

abbrev pub decreases-turns : goal.decreases-turns
decreases-turns l = left_length (option_map (λ (b : _). b.now) l.rest)

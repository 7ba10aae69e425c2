use Rattle.std.specs.Str.Iter.{chars_rest}
use Rattle.printing.proofs.Escaping.{ToldBefore}
use Rattle.printing.proofs.reasons.emit_escaped.Given as goal

abbrev pub invariant-loop-character : goal.invariant-loop-character
invariant-loop-character g l =
    ToldBefore l.fn.name (chars_rest l.character-iterator) (g.W.Write.contents l.fn.err) (g.W.Write.contents l.err)

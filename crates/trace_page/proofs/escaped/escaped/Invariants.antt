use Rattle.std.specs.Str.Iter.{chars_rest}
use Rattle.std.specs.String.{string_bytes}
use Rattle.trace_page.proofs.Escaping.{EscapedBefore}
use Rattle.trace_page.proofs.escaped.escaped.Given as goal

abbrev pub invariant-loop-character : goal.invariant-loop-character
invariant-loop-character l = EscapedBefore l.fn.text (chars_rest l.character-iterator) (string_bytes l.told)

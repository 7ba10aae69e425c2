use Rattle.std.specs.Str.Iter.{chars_rest}
use Rattle.trace_page.proofs.Escaping.{escaped_all, escaped_more}
use Rattle.trace_page.proofs.escaped.escaped.Goals as goal

pub loop-character-preserved : goal.loop-character-preserved
loop-character-preserved c =
    escaped_more c.args.text.now (chars_rest c.loop-character.character-iterator) (chars_rest c.next.new.self) c.in-Some.character
    _ _ c.in-Some.ensures.steps.0 c.loop-character.invariant c.in_ok-push_escaped.ensures

pub returns : goal.returns
returns c =
    escaped_all c.args.text.now (chars_rest c.loop-character.character-iterator) _ c.in-None.ensures.steps.0.0 c.loop-character.invariant

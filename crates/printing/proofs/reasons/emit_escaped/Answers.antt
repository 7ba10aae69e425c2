use Rattle.std.specs.Str.Iter.{chars_rest}
use Rattle.printing.proofs.Appending.{fails}
use Rattle.printing.proofs.Escaping.{told_all, told_begun, told_more}
use Rattle.printing.proofs.reasons.emit_escaped.Goals as goal

pub loop-character-preserved : goal.loop-character-preserved
loop-character-preserved g c =
    told_more _ (chars_rest c.loop-character.character-iterator) (chars_rest c.next.new.self) c.in-Some.character _ _ _
    c.in-Some.ensures.steps.0 c.loop-character.invariant c.in_ok-emit_character.ensures

pub returns-in_err-emit_character : goal.returns-in_err-emit_character
returns-in_err-emit_character g c =
    fails _ c.from_residual.ensures.0
    (told_begun _ (chars_rest c.loop-character.character-iterator) (chars_rest c.next.new.self) c.in-Some.character _ _ _
    c.in-Some.ensures.steps.0 c.loop-character.invariant c.in_err-emit_character.ensures)

pub returns : goal.returns
returns g c =
    told_all _ (chars_rest c.loop-character.character-iterator) _ _ c.in-None.ensures.steps.0.0 c.loop-character.invariant

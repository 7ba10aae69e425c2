use Rattle.command_words.proofs.Parts.{one_read}
use Rattle.command_words.proofs.plain.parts_in.Goals as goal

pub returns-then-eq-2 : goal.returns-then-eq-2
returns-then-eq-2 c =
    one_read c.args.words.now c.one-item.result _ _ _ _ _ _ _ c.in-len1.len_at_least c.in-len1.len_below c.one-item.is
    c.as_str.ensures.value c.eq.ensures c.if-eq.false c.as_str-else-eq.ensures.value c.eq-else-eq.ensures c.if-eq-2.true

pub returns-else-eq-2 : goal.returns-else-eq-2
returns-else-eq-2 c =
    one_read c.args.words.now c.one-item.result _ _ _ _ _ _ _ c.in-len1.len_at_least c.in-len1.len_below c.one-item.is
    c.as_str.ensures.value c.eq.ensures c.if-eq.false c.as_str-else-eq.ensures.value c.eq-else-eq.ensures c.if-eq-2.false

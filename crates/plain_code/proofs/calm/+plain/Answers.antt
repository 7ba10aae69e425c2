use Rattle.std.proofs.Common.{refl, ap, sym, ◌∙◌}
use Rattle.types.specs.Translation.{codes}
use Rattle.effects.proofs.Statements.{is_If, is_Parts, is_Split, is_While}
use Rattle.plain_code.specs.Calm.{are_plain_by, is_plain_by}
use Rattle.plain_code.proofs.Calming.{fails_first, holds_first}
use Rattle.plain_code.proofs.calm.+plain.Goals as goal

pub is_plain-returns-then-are_plain : goal.is_plain-returns-then-are_plain
is_plain-returns-then-are_plain t c =
    let calm = c.args.calm.now in
    let is =
    is_If _ c.in-If.guard c.in-If.body c.in-If.other c.deref.result.now c.deref-then-are_plain.result.now c.in-If.is
    c.deref.ensures.value c.deref-then-are_plain.ensures.value in
    c.are_plain-then-are_plain.ensures
    ∙ holds_first (are_plain_by calm (codes c.deref.result.now)) (are_plain_by calm (codes c.deref-then-are_plain.result.now))
    (sym c.are_plain.ensures ∙ c.if-are_plain.true)
    ∙ sym (ap (is_plain_by calm) is)

pub is_plain-returns-else-are_plain : goal.is_plain-returns-else-are_plain
is_plain-returns-else-are_plain t c =
    let calm = c.args.calm.now in
    let is =
    is_If _ c.in-If.guard c.in-If.body c.in-If.other c.deref.result.now c.in-If.other.items c.in-If.is c.deref.ensures.value refl in
    c.are_plain.ensures
    ∙ fails_first (are_plain_by calm (codes c.deref.result.now)) (are_plain_by calm (codes c.in-If.other.items))
    (sym c.are_plain.ensures ∙ c.if-are_plain.false)
    ∙ sym (ap (is_plain_by calm) is)

pub is_plain-returns-in-While : goal.is_plain-returns-in-While
is_plain-returns-in-While t c =
    c.are_plain-in-While.ensures
    ∙ sym (ap (is_plain_by c.args.calm.now)
    (is_While _ c.in-While.guard c.in-While.body c.deref-in-While.result.now c.in-While.is c.deref-in-While.ensures.value))

pub is_plain-returns-in-Split : goal.is_plain-returns-in-Split
is_plain-returns-in-Split t c =
    c.are_plain-in-Split.ensures
    ∙ sym (ap (is_plain_by c.args.calm.now)
    (is_Split _ c.in-Split.sides c.in-Split.body c.deref-in-Split.result.now c.in-Split.is
    c.deref-in-Split.ensures.value))

pub is_plain-returns-in-Parts : goal.is_plain-returns-in-Parts
is_plain-returns-in-Parts t c =
    c.are_plain-in-Parts.ensures
    ∙ sym (ap (is_plain_by c.args.calm.now)
    (is_Parts _ c.in-Parts.pieces c.in-Parts.body c.deref-in-Parts.result.now c.in-Parts.is
    c.deref-in-Parts.ensures.value))

use Rattle.std.proofs.Common.{◌+◌, take, ap, sym, ◌∙◌, arith}
use Rattle.std.proofs.lemmas.List.{take_all, get_or_read}
use Rattle.syntax.proofs.Places.{is_place, line_at_feed, column_at_feed, line_at_other, column_at_other}
use Rattle.syntax.proofs.place.TextPlace.of.Goals as goal
use Rattle.syntax.proofs.place.TextPlace.of.Goals.{then-character-eq10, else-character-eq10}

pub returns-after-loop-i : goal.returns-after-loop-i
returns-after-loop-i c =
    let text = c.args.text.now in
    let whole = take_all c.loop-i.i text (omega arith) ∙ sym (take_all c.args.at text (omega arith)) in
    is_place text c.loop-i.i c.args.at _ _ c.loop-i.invariant.line_is c.loop-i.invariant.column_is whole

pub returns-then-i-at : goal.returns-then-i-at
returns-then-i-at c =
    is_place c.args.text.now c.loop-i.i c.args.at _ _ c.loop-i.invariant.line_is c.loop-i.invariant.column_is
    (ap (λ n. take n c.args.text.now) c.if-i-at.true)

pub loop-i-preserved : goal.loop-i-preserved
loop-i-preserved c =
    let text = c.args.text.now in
    let i = c.loop-i.i in
    let before = c.loop-i.invariant in
    let there = sym (get_or_read text _ _ c.loop-i-test.true c.index-text-i.is 0) in
    elim c.if-character-eq10.branch [
      | then-character-eq10 w ↦ record {
        before = omega arith;
        line_is = w.line-is ∙ ap (λ n. n + 1) before.line_is
            ∙ sym (line_at_feed text i _ c.loop-i-test.true there w.if-character-eq10.true);
        column_is = w.column-is ∙ sym (column_at_feed text i _ c.loop-i-test.true there w.if-character-eq10.true);
        line = omega arith;
        column = omega arith;
      }
      | else-character-eq10 w ↦ record {
        before = omega arith;
        line_is = w.line-is ∙ before.line_is ∙ sym (line_at_other text i _ c.loop-i-test.true there w.if-character-eq10.false);
        column_is = w.column-is ∙ ap (λ n. n + 1) before.column_is
            ∙ sym (column_at_other text i _ c.loop-i-test.true there w.if-character-eq10.false);
        line = omega arith;
        column = omega arith;
      }
    ]

use Rattle.std.proofs.Common.{◌∙◌, rules}
use Rattle.witness.proofs.Entries.{lists_none, lists_more}
use Rattle.witness.proofs.settling.entries_of.Goals as goal

pub loop-number-init : goal.loop-number-init
loop-number-init c = lists_none c.args.code.now _ _ (search rules)

pub loop-number-preserved : goal.loop-number-preserved
loop-number-preserved c =
    lists_more c.args.code.now c.loop-number.number _ c.index.result.now _ _ c.loop-number-test.true (search rules) c.index.ensures
    (c.len.ensures ∙ c.index.result.now.parameters.ok.0)
    c.loop-number.invariant c.in_ok-add_entries.ensures

pub loop-again-init : goal.loop-again-init
loop-again-init c = λ m f k from below. c.loop-number.invariant m f k (search rules) below

pub loop-again-preserved : goal.loop-again-preserved
loop-again-preserved c = λ m f k from below. c.in_ok-add_entries-2.ensures.kept _ (c.loop-again.invariant m f k from below)

use Rattle.std.proofs.Common.{rules}
use Rattle.std.specs.String.{string_bytes}
use Rattle.syntax.proofs.ExpressionText.{then_adds, adds_next, adds_last, more_text, more_text_more, more_text_none}
use Rattle.syntax.proofs.expression_text.more.Goals as goal

pub loop-e-preserved : goal.loop-e-preserved
loop-e-preserved c =
    let old = string_bytes c.loop-e.out in
    let added = then_adds old _ _ c.in_ok-push_str.ensures.bytes c.in_ok-expr.ensures in
    adds_next more_text more_text c.args.exprs.now c.loop-e.e-index old _ c.e-item.is (search rules) c.loop-e.invariant added
    (more_text_more _ _)

pub returns : goal.returns
returns c =
    adds_last more_text c.args.exprs.now c.loop-e.e-index (string_bytes c.loop-e.out) (search rules) c.loop-e.invariant
    more_text_none

use Rattle.std.specs.String.{string_bytes}
use Rattle.syntax_tree.specs.Tree.{expr, exprs}
use Rattle.syntax.proofs.ExpressionText.{then_ok, ok_adds_equal}
use Rattle.syntax.proofs.LineText.{print_text}
use Rattle.syntax.proofs.canonical.print.Goals as goal

pub returns : goal.returns
returns c =
    let old = string_bytes c.args.out.now in
    ok_adds_equal _ old _ (then_ok _ old _ _ _ c.in_ok-push_str.ensures.bytes (then_ok _ (string_bytes c.push_str.new.self) _ _ _
    c.in_ok-expr.ensures c.more.ensures)) (print_text (expr c.args.first.now) (exprs c.args.rest.now))

use Rattle.std.proofs.Common.{◌++◌, ap, ◌∙◌}
use Rattle.std.specs.String.{string_bytes}
use Rattle.syntax_tree.specs.Tree.{expr}
use Rattle.syntax.proofs.ExpressionText.{then_ok, ok_adds_equal}
use Rattle.syntax.proofs.LineText.{assignment_text}
use Rattle.syntax.proofs.canonical.assignment.Goals as goal

pub returns : goal.returns
returns c =
    let old = string_bytes c.args.out.now in
    let name = c.in_ok-push_str.ensures.bytes ∙ ap (λ l. old ++ l) c.as_str.ensures.value in
    ok_adds_equal _ old _ (then_ok _ old _ _ _ name (then_ok _ (string_bytes c.push_str.new.self) _ _ _ c.in_ok-push_str-2.ensures.bytes
    c.expr.ensures)) (assignment_text (string_bytes c.args.name.now) (expr c.args.value.now))

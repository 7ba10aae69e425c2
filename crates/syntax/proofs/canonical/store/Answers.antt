use Rattle.std.proofs.Common.{◌++◌, ap, ◌∙◌}
use Rattle.std.specs.String.{string_bytes}
use Rattle.syntax_tree.specs.Tree.{expr}
use Rattle.syntax.proofs.ExpressionText.{then_ok, ok_adds_equal}
use Rattle.syntax.proofs.LineText.{store_text}
use Rattle.syntax.proofs.canonical.store.Goals as goal

pub returns : goal.returns
unfolding lib.Utf8.encode
returns c =
    let old = string_bytes c.args.out.now in
    let name = c.in_ok-push_str.ensures.bytes ∙ ap (λ l. old ++ l) c.as_str.ensures.value in
    let value = then_ok _ (string_bytes c.expr.new.out) _ _ _ c.in_ok-push_str-2.ensures.bytes c.expr-2.ensures in
    let index = then_ok _ (string_bytes c.push.new.self) _ _ _ c.in_ok-expr.ensures value in
    ok_adds_equal _ old _ (then_ok _ old _ _ _ name (then_ok _ (string_bytes c.push_str.new.self) _ _ _ c.in_ok-push.ensures.bytes index))
    (store_text (string_bytes c.args.section.now) (expr c.args.index.now) (expr c.args.value.now))

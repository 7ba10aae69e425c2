use Rattle.std.proofs.Common.{◌++◌, ap, sym, ◌∙◌}
use Rattle.std.specs.String.{string_bytes}
use Rattle.syntax_tree.specs.Tree.{expr}
use Rattle.syntax.proofs.ExpressionText.{pushed, then_ok, ok_adds_equal}
use Rattle.syntax.proofs.LineText.{split_text}
use Rattle.syntax.proofs.canonical.split.Goals as goal

pub returns : goal.returns
returns c =
    let old = string_bytes c.args.out.now in
    let split = string_bytes c.push_str.new.self in
    let section = string_bytes c.push_str-2.new.self in
    let at = string_bytes c.push_str-3.new.self in
    let place = string_bytes c.expr.new.out in
    let «as» = string_bytes c.push_str-4.new.self in
    let left = string_bytes c.push_str-5.new.self in
    let comma = string_bytes c.push_str-6.new.self in
    let section_name = c.in_ok-push_str-2.ensures.bytes ∙ ap (λ l. split ++ l) c.as_str.ensures.value in
    let left_name = c.in_ok-push_str-5.ensures.bytes ∙ ap (λ l. «as» ++ l) c.as_str-2.ensures.value in
    let right_name = ok_adds_equal _ comma _ (pushed _ _ _ _ c.push_str-7.ensures.bytes) (sym c.as_str-3.ensures.value) in
    let sides = then_ok _ place _ _ _ c.in_ok-push_str-4.ensures.bytes (then_ok _ «as» _ _ _ left_name (then_ok _ left _ _ _
    c.in_ok-push_str-6.ensures.bytes right_name)) in
    let header = then_ok _ old _ _ _ c.in_ok-push_str.ensures.bytes (then_ok _ split _ _ _ section_name (then_ok _ section _ _ _
    c.in_ok-push_str-3.ensures.bytes (then_ok _ at _ _ _ c.in_ok-expr.ensures sides))) in
    ok_adds_equal _ old _ header (split_text (string_bytes c.args.section.now) (expr c.args.at.now) (string_bytes c.args.left.now)
    (string_bytes c.args.right.now))

use Rattle.std.proofs.Common.{◌++◌, ap, sym, ◌∙◌}
use Rattle.std.specs.String.{string_bytes}
use Rattle.syntax_tree.specs.Tree.{expr}
use Rattle.syntax.proofs.ExpressionText.{pushed, then_ok, ok_adds_equal}
use Rattle.syntax.proofs.LineText.{parts_text}
use Rattle.syntax.proofs.canonical.parts.Goals as goal

pub returns : goal.returns
returns c =
    let old = string_bytes c.args.out.now in
    let parts = string_bytes c.push_str.new.self in
    let section = string_bytes c.push_str-2.new.self in
    let by = string_bytes c.push_str-3.new.self in
    let size = string_bytes c.expr.new.out in
    let «as» = string_bytes c.push_str-4.new.self in
    let piece = string_bytes c.push_str-5.new.self in
    let comma = string_bytes c.push_str-6.new.self in
    let section_name = c.in_ok-push_str-2.ensures.bytes ∙ ap (λ l. parts ++ l) c.as_str.ensures.value in
    let piece_name = c.in_ok-push_str-5.ensures.bytes ∙ ap (λ l. «as» ++ l) c.as_str-2.ensures.value in
    let turn_name = ok_adds_equal _ comma _ (pushed _ _ _ _ c.push_str-7.ensures.bytes) (sym c.as_str-3.ensures.value) in
    let names = then_ok _ size _ _ _ c.in_ok-push_str-4.ensures.bytes (then_ok _ «as» _ _ _ piece_name (then_ok _ piece _ _ _
    c.in_ok-push_str-6.ensures.bytes turn_name)) in
    let header = then_ok _ old _ _ _ c.in_ok-push_str.ensures.bytes (then_ok _ parts _ _ _ section_name (then_ok _ section _ _ _
    c.in_ok-push_str-3.ensures.bytes (then_ok _ by _ _ _ c.in_ok-expr.ensures names))) in
    ok_adds_equal _ old _ header (parts_text (string_bytes c.args.section.now) (expr c.args.size.now) (string_bytes c.args.piece.now)
    (string_bytes c.args.turn.now))

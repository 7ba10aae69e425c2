use Rattle.std.proofs.Common.{◌++◌, [], ap, sym, ◌∙◌}
use Rattle.std.specs.String.{string_bytes}
use Rattle.syntax.specs.Canonical.{in_line}
use Rattle.syntax.specs.Spelling.{parameter_then}
use Rattle.syntax_tree.specs.Tree.{parameter}
use Rattle.syntax.proofs.ExpressionText.{pushed, then_ok, ok_adds_equal}
use Rattle.syntax.proofs.LineText.{parameter_text_Written, parameter_text_Read, parameter_text_Scalar}
use Rattle.syntax.proofs.canonical.parameter.Goals as goal

pub returns-in_ok-push_str-in-Written-3 : goal.returns-in_ok-push_str-in-Written-3
returns-in_ok-push_str-in-Written-3 c =
    let old = string_bytes c.args.out.now in
    let word = string_bytes c.push_str.new.self in
    let named = string_bytes c.push_str-in-Written.new.self in
    let name = c.in_ok-push_str-in-Written-2.ensures.bytes ∙ ap (λ l. word ++ l) c.as_str.ensures.value in
    let element = ok_adds_equal _ (string_bytes c.push_str-in-Written-2.new.self) _ (pushed _ _ _ _ c.push_str-in-Written-3.ensures.bytes) (sym
    c.element_type.ensures) in
    let is = ap (λ p. in_line (parameter_then (parameter p) [])) c.in-Written.is
    ∙ parameter_text_Written (string_bytes c.in-Written.name) c.in-Written.element in
    ok_adds_equal _ old _ (then_ok _ old _ _ _ c.in_ok-push_str-in-Written.ensures.bytes (then_ok _ word _ _ _ name (then_ok _ named _ _ _
    c.in_ok-push_str-in-Written-3.ensures.bytes element))) is

pub returns-in_ok-push_str-in-Read-3 : goal.returns-in_ok-push_str-in-Read-3
returns-in_ok-push_str-in-Read-3 c =
    let old = string_bytes c.args.out.now in
    let word = string_bytes c.push_str-in-Read.new.self in
    let named = string_bytes c.push_str-in-Read-2.new.self in
    let name = c.in_ok-push_str-in-Read-2.ensures.bytes ∙ ap (λ l. word ++ l) c.as_str-in-Read.ensures.value in
    let element = ok_adds_equal _ (string_bytes c.push_str-in-Read-3.new.self) _ (pushed _ _ _ _ c.push_str-in-Read-4.ensures.bytes) (sym
    c.element_type-in-Read.ensures) in
    let is = ap (λ p. in_line (parameter_then (parameter p) [])) c.in-Read.is
    ∙ parameter_text_Read (string_bytes c.in-Read.name) c.in-Read.element in
    ok_adds_equal _ old _ (then_ok _ old _ _ _ c.in_ok-push_str-in-Read.ensures.bytes (then_ok _ word _ _ _ name (then_ok _ named _ _ _
    c.in_ok-push_str-in-Read-3.ensures.bytes element))) is

pub returns-in_ok-push_str-in-Scalar : goal.returns-in_ok-push_str-in-Scalar
returns-in_ok-push_str-in-Scalar c =
    let old = string_bytes c.args.out.now in
    let name = c.in_ok-push_str-in-Scalar.ensures.bytes ∙ ap (λ l. old ++ l) c.as_str-in-Scalar.ensures.value in
    let is = ap (λ p. in_line (parameter_then (parameter p) [])) c.in-Scalar.is ∙ parameter_text_Scalar (string_bytes c.in-Scalar.name) in
    ok_adds_equal _ old _ (then_ok _ old _ _ _ name (pushed _ _ _ _ c.push_str-in-Scalar-2.ensures.bytes)) is

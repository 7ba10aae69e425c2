use Rattle.std.proofs.Common.{◌++◌, ◌∷◌, [], codes, map, ap, sym, ◌∙◌}
use Rattle.std.specs.String.{string_bytes}
use Rattle.shared_lemmas.proofs.Results.{ok_then}
use Rattle.syntax.specs.Canonical.{in_line}
use Rattle.syntax.specs.declared.token.Left.TheVariants.{Margin, Ended, Other}
use Rattle.syntax.specs.declared.token.Mark.TheVariants.{LeftBrace}
use Rattle.syntax.specs.Token.{MarkToken}
use Rattle.syntax.specs.Spelling.{block_then, parameters_then, procedures_then, main_tokens}
use Rattle.syntax_tree.specs.Tree.{block, parameter}
use Rattle.syntax.specs.Writing.{with_rest}
use Rattle.syntax.proofs.ExpressionText.{then_adds}
use Rattle.syntax.proofs.LineText.{wrote, wrote_adds, laid_procedure, procedures_are_lines}
use Rattle.syntax.proofs.canonical.Lines.procedure.Goals as goal

pub returns-clause-written : goal.returns-clause-written
unfolding procedures_then lib.Utf8.encode
returns-clause-written c =
    let old = c.args.self.now in
    let begun = c.begin.new.self in
    let p = c.args.procedure.now in
    let behind = c.block.new.lines in
    let name = c.in_ok-push_str-2.ensures.bytes ∙ ap (λ l. string_bytes c.push_str.new.self ++ l) c.as_str.ensures.value in
    let inside = c.in_ok-parameters.ensures
    ∙ ap (λ ps. string_bytes c.push.new.self ++ in_line (parameters_then (map parameter ps) [])) c.deref.ensures.value in
    let header = then_adds (string_bytes begun.text) _ _ c.in_ok-push_str.ensures.bytes (then_adds (string_bytes
    c.push_str.new.self) _ _ name
    (then_adds (string_bytes c.push_str-2.new.self) _ _ c.in_ok-push.ensures.bytes (then_adds (string_bytes c.push.new.self) _ _ inside
    c.in_ok-push-2.ensures.bytes))) in
    let text = then_adds (string_bytes old.text) _ _ c.in_ok-begin.ensures.text header in
    ok_then c.end.result c.end.ensures (λ ends rest m.
    let others = procedures_then rest (main_tokens m) in
    wrote old (record begun { text = c.push-2.new.self }) Margin Other _ _ _ old.depth old.label text c.in_ok-begin.ensures.depth
    c.in_ok-begin.ensures.label (laid_procedure old.depth old.label (string_bytes p.name) (map parameter p.parameters.items)
    (block_then (block p.body.items) others))
    ∙ ap (λ l. with_rest (record begun { text = c.push-2.new.self }) Other (MarkToken LeftBrace ∷ block_then (block l) others)) (sym
    c.deref-2.ensures.value)
    ∙ c.in_ok-block.ensures.written others
    ∙ wrote_adds behind c.end.new.self Ended Margin _ _ (codes "\n") ends (procedures_are_lines rest m behind.depth behind.label))

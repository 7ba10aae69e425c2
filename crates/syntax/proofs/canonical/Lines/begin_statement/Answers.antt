use Rattle.std.proofs.Common.{◌≡◌, ◌+◌, ◌++◌, [], ◌∷◌, ap, sym, ◌∙◌, append-nil}
use Rattle.std.specs.Fmt.{styled_decimal}
use Rattle.std.specs.String.{string_bytes}
use Rattle.shared_lemmas.proofs.Results.{ok_then}
use Rattle.syntax.specs.Canonical.{statement_margin, indent}
use Rattle.syntax.proofs.ExpressionText.{then_adds}
use Rattle.syntax.proofs.LineText.{label_padded}
use Rattle.syntax.proofs.canonical.Lines.begin_statement.Goals as goal
use Rattle.syntax.proofs.canonical.Lines.begin_statement.Goals.{in-Some+in_ok-write, in_default}

pub returns-clause-text : goal.returns-clause-text
returns-clause-text c =
    let old = c.args.self.now in
    let margin : string_bytes c.match-self.self.text ≡ string_bytes old.text ++ statement_margin old.label =
    elim c.match-self.branch [
      | in-Some+in_ok-write w ↦ ap (λ l. string_bytes l.text) w.self-is ∙ w.in_ok-write.ensures.bytes
          ∙ ap (λ l. string_bytes old.text ++ l) (ap (λ f. styled_decimal f (w.in-Some.label + 1) ++ (32 ∷ [])) w.laid_out.ensures
          ∙ label_padded (w.in-Some.label + 1)) ∙ ap (λ n. string_bytes old.text ++ statement_margin n) (sym w.in-Some.is)
      | in_default w ↦ ap (λ l. string_bytes l.text) w.self-is ∙ sym (append-nil (string_bytes old.text))
          ∙ ap (λ n. string_bytes old.text ++ statement_margin n) (sym w.in_default.is)
    ] in
    let same : c.match-self.self.depth ≡ old.depth =
    elim c.match-self.branch [ in-Some+in_ok-write w ↦ ap (λ l. l.depth) w.self-is | in_default w ↦ ap (λ l. l.depth) w.self-is ] in
    ok_then c.indent.result c.indent.ensures (λ adds. then_adds (string_bytes old.text) _ _ margin adds.text
    ∙ ap (λ d. string_bytes old.text ++ (statement_margin old.label ++ indent d)) same)

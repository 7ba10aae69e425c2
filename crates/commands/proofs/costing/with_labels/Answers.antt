use Rattle.std.proofs.Common.{◌++◌, ◌∙◌, List, ℕ, ap}
use Rattle.std.proofs.lemmas.Result.{IfOk-weaker}
use Rattle.types.specs.Typed.{program_of}
use Rattle.std.specs.Str.Lines.{lines}
use Rattle.cost.specs.Text.{cost_text, labels_text}
use Rattle.commands.specs.Statements.{lines_around}
use Rattle.commands.proofs.Named.{statements_found}
use Rattle.commands.proofs.costing.with_labels.Goals as goal

pub returns : goal.returns
returns c spelled =
    let s = c.in_ok-statements.statements in
    let cost = c.args.cost.now in
    let shares =
    c.as_str.ensures.value ∙ c.in_ok-lines.ensures
    ∙ ap (λ (work : List ℕ). labels_text work c.deref-2.result.now) c.deref.ensures.value
    ∙ ap (labels_text cost.work.items) c.deref-2.ensures.value in
    IfOk-weaker c.after.result _ _
    (λ told is. record {
      statements = s;
      are = statements_found c.args.text.now (program_of c.args.typed.now) _ s c.program.ensures.program spelled
          c.in_ok-statements.ensures;
      told_is = is
          ∙ ap (λ (before : List ℕ). before ++ lines_around s 0 (lines c.as_str.result.now)) c.in_ok-told.ensures
          ∙ ap (λ (l : List ℕ). cost_text cost.costed.cost ++ lines_around s 0 (lines l)) shares;
    }) c.after.ensures

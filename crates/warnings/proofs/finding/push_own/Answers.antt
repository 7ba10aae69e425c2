use Rattle.std.proofs.Common.{◌++◌, ap, sym, ◌∙◌}
use Rattle.std.proofs.lemmas.Result.{on_ok_weaker}
use Rattle.types.specs.Translation.{codes, code as plain_code, procedure}
use Rattle.types.proofs.Blocks.{code_Finish}
use Rattle.warnings.specs.Warnings.{finish_warnings, own_warnings}
use Rattle.warnings.proofs.finding.push_own.Goals as goal

pub returns-in-Finish : goal.returns-in-Finish
returns-in-Finish c =
    let f = procedure c.args.scope.procedure.now in
    let l = c.args.label in
    let before = c.args.found.now.items in
    on_ok_weaker c.push_finish.result (λ added. added
    ∙ ap (λ b. before ++ finish_warnings l (codes b)) c.deref.ensures.value
    ∙ ap (λ k. before ++ own_warnings f l k) (sym (ap plain_code c.in-Finish.is ∙ code_Finish c.in-Finish.body)))
    c.push_finish.ensures

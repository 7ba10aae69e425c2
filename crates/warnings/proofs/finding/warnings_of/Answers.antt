use Rattle.std.proofs.Common.{ap, map, List, ◌∙◌, ◌++◌}
use Rattle.std.specs.Prelude.{false}
use Rattle.types.specs.Translation.{procedure}
use Rattle.types.specs.Typed.{code_of, program_of}
use Rattle.types.specs.declared.code.Procedure.{Procedure as rProcedure}
use Rattle.types.specs.declared.code.Program.{Program as rProgram}
use Rattle.warnings.specs.Warnings.{block_warnings, warnings_from}
use Rattle.warnings.proofs.finding.warnings_of.Goals as goal

pub returns : goal.returns
returns c =
    let typed = c.args.typed.now in
    let t = program_of typed in let p = code_of typed in
    let main = λ (q : rProgram). block_warnings (procedure q.main) false (procedure q.main).body in
    c.in_ok-push_body.ensures
    ∙ ap (λ ws. ws ++ main c.code-2.result.now) c.in_ok-push_procedures.ensures
    ∙ ap (λ ws. (ws ++ warnings_from t p 0 (map procedure c.deref.result.now)) ++ main c.code-2.result.now) c.new-found.ensures.items
    ∙ ap (λ (gs : List rProcedure). warnings_from t p 0 (map procedure gs) ++ main c.code-2.result.now)
    (c.deref.ensures.value ∙ ap (λ (q : rProgram). q.procedures.items) c.code.ensures.field)
    ∙ ap (λ (q : rProgram). warnings_from t p 0 p.procedures ++ main q) c.code-2.ensures.field

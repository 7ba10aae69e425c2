use Rattle.std.proofs.Common.{◌≡◌, ◌<◌, ◌+◌, ◌++◌, ◌∷◌, [], length, map, drop, ap, sym, ◌∙◌, rules}
use Rattle.std.proofs.Common.{append_assoc}
use Rattle.std.proofs.lemmas.List.{map-append}
use Rattle.syntax_tree.specs.Tree as tree
use Rattle.types.specs.Resolution as resolution
use Rattle.types.specs.Resolving.{procedures_of}
use Rattle.types.specs.Rules.{procedures_errors}
use Rattle.types.specs.Scope.{in_procedure}
use Rattle.types.specs.Translation as plain
use Rattle.types.proofs.Telling.{at_front, exit_left}
use Rattle.types.proofs.check.program.resolve_procedures.Goals as goal

pub loop-procedure-preserved : goal.loop-procedure-preserved
loop-procedure-preserved c =
    let fs = procedures_of c.args.statements.now.procedures in
    let xs = c.args.declared.now in
    let i = c.loop-procedure.procedure-index in
    let x = tree.procedure c.procedure-item.result in
    let rest = map tree.procedure (drop (i + 1) xs) in
    let now = c.loop-procedure.label in
    let next = c.resolve_procedure.new.label in
    let made = c.in_ok-procedure.ensures in
    let within : i < length xs = search rules in
    let front : map tree.procedure (drop i xs) ≡ x ∷ rest =
    at_front (map tree.procedure) xs i c.procedure-item.result within c.procedure-item.is in
    let here = resolution.resolved fs x.name (in_procedure now x.parameters) x.body in
    record {
      within = c.resolve_procedure.ensures.within;
      label = ap (λ l. resolution.label_behind_all l rest) made.label
          ∙ ap (resolution.label_behind_all now) (sym front) ∙ c.loop-procedure.invariant.label;
      right = ap (λ l. procedures_errors fs l rest) made.label
          ∙ ap (λ l. l ++ procedures_errors fs (resolution.label_behind now x) rest) (sym made.right)
          ∙ ap (procedures_errors fs now) (sym front) ∙ c.loop-procedure.invariant.right;
      code = ap (λ ps. map plain.procedure ps ++ resolution.procedures fs next rest) c.in_ok-push.ensures.items
          ∙ ap (λ ps. ps ++ resolution.procedures fs next rest) (map-append plain.procedure c.loop-procedure.procedures.items (c.in_ok-procedure.procedure ∷ []))
          ∙ append_assoc (map plain.procedure c.loop-procedure.procedures.items) (plain.procedure c.in_ok-procedure.procedure ∷ []) (resolution.procedures fs next rest)
          ∙ ap (λ p. map plain.procedure c.loop-procedure.procedures.items ++ (p ∷ resolution.procedures fs next rest)) (sym made.code)
          ∙ ap (λ l. map plain.procedure c.loop-procedure.procedures.items ++ (here ∷ resolution.procedures fs l rest)) made.label
          ∙ ap (λ l. map plain.procedure c.loop-procedure.procedures.items ++ resolution.procedures fs now l) (sym front)
          ∙ c.loop-procedure.invariant.code;
    }

pub returns-in_err-procedure-clause-error : goal.returns-in_err-procedure-clause-error
returns-in_err-procedure-clause-error c =
    let fs = procedures_of c.args.statements.now.procedures in
    let within : c.loop-procedure.procedure-index < length c.args.declared.now = search rules in
    let front =
    at_front (map tree.procedure) _ c.loop-procedure.procedure-index _ within c.procedure-item.is in
    exit_left c.from_residual.result c.in_err-procedure.field-0.0 c.from_residual.ensures.1 _ _
    (sym c.loop-procedure.invariant.right ∙ ap (procedures_errors fs c.loop-procedure.label) front)
    c.in_err-procedure.ensures.error

use Rattle.std.proofs.Common.{◌≡◌, [], length, map, sym, ◌∙◌, subst, rules}
use Rattle.std.proofs.lemmas.List.{length-map}
use Rattle.syntax_tree.specs.Tree as tree
use Rattle.types.specs.Rules.{limit, name_errors, procedures_errors, errors_of}
use Rattle.types.specs.Told.{Told}
use Rattle.types.proofs.Telling.{at_exit, told_left, told_right}
use Rattle.types.proofs.check.resolve.Goals as goal

pub returns-in_err-limit-clause-error : goal.returns-in_err-limit-clause-error
returns-in_err-limit-clause-error c =
    let fs = c.args.program.now.procedures.items in
    let e = c.in_err-limit.field-0.0 in
    let same : length c.as_slice-declared.result.now ≡ length fs = search rules in
    at_exit (Told (errors_of (tree.program c.args.program.now))) c.from_residual.result e c.from_residual.ensures.1
    (told_left (limit 256 (length (map tree.procedure fs))) _ e
    (subst (λ n. Told (limit 256 n) e) (same ∙ sym (length-map fs tree.procedure)) c.in_err-limit.ensures.error))

pub returns-in_err-procedures-clause-error : goal.returns-in_err-procedures-clause-error
returns-in_err-procedures-clause-error c =
    let fs = c.args.program.now.procedures.items in
    let e = c.in_err-procedures.field-0.0 in
    let same : c.as_slice-declared.result.now ≡ fs = search rules in
    at_exit (Told (errors_of (tree.program c.args.program.now))) c.from_residual-in_err-procedures.result e
    c.from_residual-in_err-procedures.ensures.1
    (told_right (limit 256 (length (map tree.procedure fs))) _ e
    (told_left (name_errors [] (map tree.procedure fs)) _ e
    (subst (λ l. Told (name_errors [] (map tree.procedure l)) e) same c.in_err-procedures.ensures.error)))

pub returns-in_err-procedures-2-clause-error : goal.returns-in_err-procedures-2-clause-error
returns-in_err-procedures-2-clause-error c =
    let fs = c.args.program.now.procedures.items in
    let all = map tree.procedure fs in
    let given = c.as_slice-declared.result.now in
    let e = c.in_err-procedures-2.field-0.0 in
    let same : given ≡ fs = search rules in
    at_exit (Told (errors_of (tree.program c.args.program.now))) c.from_residual-in_err-procedures-2.result e
    c.from_residual-in_err-procedures-2.ensures.1
    (told_right (limit 256 (length all)) _ e
    (told_right (name_errors [] all) _ e
    (told_left (procedures_errors all 1 all) _ e
    (subst (λ l. Told (procedures_errors (map tree.procedure l) 1 (map tree.procedure l)) e) same
    (subst (λ l. Told (procedures_errors l 1 (map tree.procedure given)) e) c.in_ok-procedures.ensures.procedures
    c.in_err-procedures-2.ensures.error)))))

use Rattle.std.proofs.Common.{◌≤◌, sym, subst, arith}
use Rattle.syntax_tree.specs.Tree.{block}
use Rattle.types.specs.Resolving.{scope_of, procedures_of}
use Rattle.types.specs.Scope.{Scope}
use Rattle.types.proofs.LabelLimit.{label_after}
use Rattle.types.proofs.check.program.resolved.Goals as goal

pub returns-clause-within : goal.returns-clause-within
returns-clause-within c =
    let fs = procedures_of c.args.statements.now.procedures in
    let P : Scope → Type 0 = λ s. s.label ≤ 65536 in
    subst P (sym c.in_ok-body.ensures.place)
    (label_after fs (block c.args.body.now) (scope_of c.args.scope) (omega (arith, c.requires.same, c.requires.label)) c.in_ok-body.ensures.right)

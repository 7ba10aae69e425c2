use Rattle.std.proofs.Common.{◌≡◌, ◌≤◌, ◌++◌, drop, map}
use Rattle.syntax_tree.specs.Tree as tree
use Rattle.types.specs.Resolution as resolution
use Rattle.types.specs.Resolving.{procedures_of}
use Rattle.types.specs.Rules.{procedures_errors}
use Rattle.types.specs.Translation as plain
use Rattle.types.proofs.check.program.resolve_procedures.Given as goal

-- the procedures so far, and the others from the label that has been reached
abbrev pub invariant-loop-procedure : goal.invariant-loop-procedure
invariant-loop-procedure l =
    let fs = procedures_of l.statements.procedures in
    let left = map tree.procedure (drop l.procedure-index l.declared) in
    let all = map tree.procedure l.declared in
    record {
      within : l.label ≤ 65536;
      label : resolution.label_behind_all l.label left ≡ resolution.label_behind_all l.fn.label all;
      right : procedures_errors fs l.label left ≡ procedures_errors fs l.fn.label all;
      code : map plain.procedure l.procedures.items ++ resolution.procedures fs l.label left ≡ resolution.procedures fs l.fn.label all;
    }

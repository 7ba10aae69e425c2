use Rattle.std.proofs.Common.{◌≡◌, ◌++◌, [], drop, map}
use Rattle.std.specs.String.{string_bytes}
use Rattle.syntax_tree.specs.Tree as tree
use Rattle.types.specs.Rules.{name_errors}
use Rattle.types.proofs.check.procedures.Procedures.new.Given as goal

-- the names so far, and those of the other procedures
abbrev pub invariant-loop-procedure : goal.invariant-loop-procedure
invariant-loop-procedure l =
    let left = drop l.procedure-index l.declared in
    record {
      named : map string_bytes l.names.keys ++ map (λ f. string_bytes f.name) left ≡ map (λ f. string_bytes f.name) l.declared;
      right : name_errors (map string_bytes l.names.keys) (map tree.procedure left) ≡ name_errors [] (map tree.procedure l.declared);
    }

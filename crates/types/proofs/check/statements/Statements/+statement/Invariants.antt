use Rattle.std.proofs.Common.{◌≡◌, ◌≤◌, ◌+◌, ◌*◌, drop}
use Rattle.syntax_tree.specs.Tree.{block, stmt}
use Rattle.types.specs.Resolution as resolution
use Rattle.types.specs.Resolving.{scope_of, procedures_of, IsWellScoped}
use Rattle.types.specs.Rules.{errors}
use Rattle.types.specs.Scope.{after}
use Rattle.types.proofs.Blocks.{joined}
use Rattle.types.proofs.Sizes.{size, size_in}
use Rattle.types.proofs.check.statements.Statements.+statement.Given as goal

-- the statements so far, and the others from the position that has been reached; what holds for the
-- others holds for the block
abbrev pub invariant-block-loop-stmt : goal.invariant-block-loop-stmt
invariant-block-loop-stmt l =
    let left = block (drop l.stmt-index l.block) in
    let fs = procedures_of l.self.procedures in
    let from = scope_of l.fn.scope in
    let at = scope_of l.scope in
    record {
      small : size left ≤ size (block l.block);
      scoped : IsWellScoped at;
      place : after left at ≡ after (block l.block) from;
      right : errors fs at left ≡ errors fs from (block l.block);
      code : joined l.resolved.items (resolution.codes fs at left) ≡ resolution.codes fs from (block l.block);
    }

abbrev pub decreases-block : goal.decreases-block
decreases-block l = 8 * size (block l.block.now)

abbrev pub decreases-inside : goal.decreases-inside
decreases-inside l = 8 * size (block l.block.now) + 1

abbrev pub decreases-statement : goal.decreases-statement
decreases-statement l = 8 * size_in (stmt l.stmt.now) + 1

abbrev pub decreases-kind : goal.decreases-kind
decreases-kind l = 8 * size_in (stmt l.stmt.now)

abbrev pub decreases-if_alone : goal.decreases-if_alone
decreases-if_alone l = 8 * size (block l.body.now) + 2

abbrev pub decreases-if_else : goal.decreases-if_else
decreases-if_else l = 8 * (size (block l.body.now) + size (block l.other.now)) + 2

abbrev pub decreases-while_loop : goal.decreases-while_loop
decreases-while_loop l = 8 * size (block l.body.now) + 2

abbrev pub decreases-split : goal.decreases-split
decreases-split l = 8 * size (block l.body.now) + 2

abbrev pub decreases-parts : goal.decreases-parts
decreases-parts l = 8 * size (block l.body.now) + 2

abbrev pub decreases-async_body : goal.decreases-async_body
decreases-async_body l = 8 * size (block l.body.now) + 2

abbrev pub decreases-finish : goal.decreases-finish
decreases-finish l = 8 * size (block l.body.now) + 2

abbrev pub decreases-rescue : goal.decreases-rescue
decreases-rescue l = 8 * (size (block l.body.now) + size (block l.handler.now)) + 2

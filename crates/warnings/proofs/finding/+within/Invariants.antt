use Rattle.std.proofs.Common.{◌≡◌, ◌+◌, ◌*◌, ◌++◌, drop}
use Rattle.types.specs.Translation.{code, codes, procedure}
use Rattle.effects.proofs.Statements.{size, size_in}
use Rattle.warnings.specs.Warnings.{block_warnings}
use Rattle.warnings.proofs.finding.+within.Given as goal

-- with those of the remaining statements, all are found
abbrev pub invariant-push_block-loop-stmt : goal.invariant-push_block-loop-stmt
invariant-push_block-loop-stmt l =
    let f = procedure l.scope.procedure.now in
    l.found.items ++ block_warnings f l.unreached (codes (drop l.stmt-index l.block))
    ≡ l.initial.found.items ++ block_warnings f l.dead (codes l.block)

abbrev pub decreases-push_block : goal.decreases-push_block
decreases-push_block l = 2 * size (codes l.block.now)

abbrev pub decreases-push_inner : goal.decreases-push_inner
decreases-push_inner l = 2 * size_in (code l.kind.now) + 1

use Rattle.std.proofs.Common.{◌+◌, ◌*◌, drop}
use Rattle.types.specs.Translation.{program, code, codes}
use Rattle.effects.specs.Effects.{accesses, All}
use Rattle.effects.specs.Firsts.{AddsFirsts, kept_in}
use Rattle.effects.proofs.Statements.{size, size_in}
use Rattle.effects.proofs.doings.+doings.Given as goal

-- what the later statements may do is added
abbrev pub invariant-add_block-loop-place : goal.invariant-add_block-loop-place
invariant-add_block-loop-place l =
    AddsFirsts (All (program l.code) accesses (codes (drop l.place l.block))) (kept_in l.initial.into) (kept_in l.into)

abbrev pub decreases-add_block : goal.decreases-add_block
decreases-add_block l = 2 * size (codes l.block.now)

abbrev pub decreases-add_inside : goal.decreases-add_inside
decreases-add_inside l = 2 * size_in (code l.statement.now.kind) + 1

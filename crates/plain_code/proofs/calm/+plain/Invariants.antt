use Rattle.std.proofs.Common.{◌≡◌, drop}
use Rattle.types.specs.Translation.{codes}
use Rattle.plain_code.specs.Calm.{are_plain_by}
use Rattle.plain_code.proofs.calm.+plain.Given as goal

-- if the remaining statements are plain, all are
abbrev pub invariant-are_plain-loop-stmt : goal.invariant-are_plain-loop-stmt
invariant-are_plain-loop-stmt l = are_plain_by l.calm (codes (drop l.stmt-index l.block)) ≡ are_plain_by l.calm (codes l.block)

use Rattle.std.proofs.Common.{length}
use Rattle.command_words.proofs.files.+is_among.Given as goal

-- the files that are left
abbrev pub decreases-is_among : goal.decreases-is_among
decreases-is_among l = length l.others.now

use Rattle.std.proofs.Common.{length}
use Rattle.command_words.proofs.files.+plain_name.Given as goal

-- the bytes that are left
abbrev pub decreases-plain_name : goal.decreases-plain_name
decreases-plain_name l = length l.name.now

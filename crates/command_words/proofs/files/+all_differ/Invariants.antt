use Rattle.std.proofs.Common.{length}
use Rattle.command_words.proofs.files.+all_differ.Given as goal

-- the files that are left
abbrev pub decreases-all_differ : goal.decreases-all_differ
decreases-all_differ l = length l.names.now

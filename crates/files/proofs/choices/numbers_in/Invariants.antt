use Rattle.std.proofs.Common.{◌≡◌, length}
use Rattle.files.specs.Choices.{nothing_read, read_from, reading_of}
use Rattle.files.proofs.choices.numbers_in.Given as goal

-- what was read and what is left give what the whole text gives
abbrev pub invariant-bytes : goal.invariant-bytes
invariant-bytes l = read_from (reading_of l.reading) l.left ≡ read_from nothing_read l.fn.text

-- the bytes that are left
abbrev pub decreases-bytes : goal.decreases-bytes
decreases-bytes l = length l.left

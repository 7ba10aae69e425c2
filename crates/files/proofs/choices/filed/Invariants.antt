use Rattle.std.proofs.Common.{◌≡◌, length}
use Rattle.files.specs.Choices.{nothing_read, read_of_file, reading_of}
use Rattle.files.proofs.choices.filed.Given as goal

-- what was read and what is left give what all bytes give
abbrev pub invariant-bytes : goal.invariant-bytes
invariant-bytes l = read_of_file (reading_of l.reading) l.left ≡ read_of_file nothing_read l.fn.bytes

-- the bytes that are left
abbrev pub decreases-bytes : goal.decreases-bytes
decreases-bytes l = length l.left

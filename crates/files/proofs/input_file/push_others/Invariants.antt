use Rattle.std.proofs.Common.{◌≡◌, ◌++◌, drop}
use Rattle.std.specs.List.{flat_map}
use Rattle.std.specs.String.{string_bytes}
use Rattle.files.specs.Held.{after_comma}
use Rattle.files.proofs.input_file.push_others.Given as goal

-- what was added, and what is left
abbrev pub invariant-loop-byte : goal.invariant-loop-byte
invariant-loop-byte l =
    string_bytes l.text ++ flat_map after_comma (drop l.byte-index l.bytes)
    ≡ string_bytes l.fn.text ++ flat_map after_comma l.bytes

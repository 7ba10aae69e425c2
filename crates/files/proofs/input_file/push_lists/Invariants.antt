use Rattle.std.proofs.Common.{◌≡◌, ◌++◌, [], map}
use Rattle.std.specs.String.{string_bytes}
use Rattle.command_line.specs.Lists.{lists_in}
use Rattle.files.specs.Held.{members}
use Rattle.files.proofs.Members.{left}
use Rattle.files.proofs.input_file.push_lists.Given as goal
use denote.Shadow.{shadow}
use denote.Text.{Utf8}

-- what was added, and what is left
abbrev pub invariant-loop-word : goal.invariant-loop-word
invariant-loop-word l =
    shadow (Utf8 l.before)
    × (string_bytes l.text ++ left l.words l.word-index l.awaited l.before
    ≡ string_bytes l.fn.text ++ members [] (lists_in (map string_bytes l.words)))

use Rattle.std.proofs.Common.{◌≡◌, ◌++◌, drop}
use Rattle.std.specs.List.{flat_map}
use Rattle.std.specs.String.{string_bytes}
use Rattle.pages.specs.Pages.{indented}
use Rattle.pages.proofs.page.push_lines.Given as goal

-- the text so far, and the lines that are left
abbrev pub invariant-loop-line : goal.invariant-loop-line
invariant-loop-line l =
    string_bytes l.text ++ flat_map indented (drop l.line-index l.lines)
    ≡ string_bytes l.fn.text ++ flat_map indented l.lines

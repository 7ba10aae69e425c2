use Rattle.std.proofs.Common.{◌≡◌, ◌++◌, drop}
use Rattle.std.specs.List.{flat_map}
use Rattle.std.specs.String.{string_bytes}
use Rattle.pages.specs.Pages.{head_text}
use Rattle.pages.proofs.find.push_heads.Given as goal

-- the text so far, and the pages that are left
abbrev pub invariant-loop-page : goal.invariant-loop-page
invariant-loop-page l =
    string_bytes l.text ++ flat_map head_text (drop l.page-index l.table)
    ≡ string_bytes l.fn.text ++ flat_map head_text l.table

use Rattle.std.proofs.Common.{◌≡◌, ◌++◌, drop}
use Rattle.std.specs.List.{flat_map}
use Rattle.std.specs.String.{string_bytes}
use Rattle.pages.specs.Pages.{spaced_name}
use Rattle.pages.proofs.find.push_names_of.Given as goal

-- the text so far, and the pages that are left
abbrev pub invariant-loop-page : goal.invariant-loop-page
invariant-loop-page l =
    string_bytes l.text ++ flat_map spaced_name (drop l.page-index l.table)
    ≡ string_bytes l.fn.text ++ flat_map spaced_name l.table

use Rattle.std.proofs.Common.{◌≡◌, ◌++◌, drop}
use Rattle.std.specs.List.{flat_map}
use Rattle.std.specs.String.{string_bytes}
use Rattle.pages.specs.Pages.{spaced_name}
use Rattle.pages.proofs.find.push_names.Given as goal

-- the text so far, and the pages that are left
abbrev pub invariant-loop-table : goal.invariant-loop-table
invariant-loop-table l =
    string_bytes l.text ++ flat_map (λ table. flat_map spaced_name table.now) (drop l.table-index l.tables)
    ≡ string_bytes l.fn.text ++ flat_map (λ table. flat_map spaced_name table.now) l.tables

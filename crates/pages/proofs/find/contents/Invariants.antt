use Rattle.std.proofs.Common.{◌≡◌, ◌++◌, drop}
use Rattle.std.specs.List.{flat_map}
use Rattle.std.specs.String.{string_bytes}
use Rattle.pages.specs.Pages.{head_text}
use Rattle.pages.proofs.find.contents.Given as goal

-- the text so far, and the pages that are left
abbrev pub invariant-loop-table : goal.invariant-loop-table
invariant-loop-table l =
    string_bytes l.text ++ flat_map (λ table. flat_map head_text table.now) (drop l.table-index l.tables)
    ≡ flat_map (λ table. flat_map head_text table.now) l.tables

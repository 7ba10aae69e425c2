use Rattle.std.proofs.Common.{◌≡◌, ◌++◌, drop, map}
use Rattle.std.specs.Str.Lines.{lines}
use Rattle.std.specs.String.{string_bytes}
use Rattle.statement_places.specs.Lines.{placed_lines}
use Rattle.statement_places.proofs.listing.placed_listing.Given as goal

-- what was written, and what the remaining lines will give
abbrev pub invariant-loop-line : goal.invariant-loop-line
invariant-loop-line l =
    string_bytes l.text ++ placed_lines l.left (drop l.line-index (map (λ (s : _). s.now) l.line-items))
    ≡ placed_lines l.fn.places (lines l.fn.listing)

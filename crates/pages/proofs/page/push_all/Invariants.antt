use Rattle.std.proofs.Common.{◌≡◌, ◌++◌, drop}
use Rattle.std.specs.List.{flat_map}
use Rattle.std.specs.String.{string_bytes}
use Rattle.pages.proofs.page.push_all.Given as goal

-- the text so far, and the pieces that are left
abbrev pub invariant-loop-piece : goal.invariant-loop-piece
invariant-loop-piece l =
    string_bytes l.text ++ flat_map (λ piece. piece.now) (drop l.piece-index l.pieces)
    ≡ string_bytes l.fn.text ++ flat_map (λ piece. piece.now) l.pieces

-- What the writer of a layout has written, and what comes next.
use Rattle.std.specs.Prelude.{◌≡◌, ◌≤◌, ℕ, List, [], ◌++◌, length}
use Rattle.std.specs.List.{flat_map}
use Rattle.syntax.specs.Lexical.{AreCut, Piece, token_of}
use Rattle.syntax.specs.Token.{Token}
use Rattle.layout.specs.declared.writer.LayoutWriter.{LayoutWriter}
use Rattle.layout.specs.Laid.{laid_from}
use Rattle.layout.specs.Spot.{Spot, spot}

-- each open block has written something, so the number of open blocks fits
abbrev pub IsCounted : LayoutWriter → Type 0
IsCounted w = w.spot.depth ≤ length w.out.items

-- text was added, and this is the current spot of the layout
pub record Adds (old new : LayoutWriter) (added : List ℕ) (at : Spot) : Type 0 where
  pub text : new.out.items ≡ old.out.items ++ added
  pub there : spot new.spot ≡ at

-- what is written, and what will be written for the remaining pieces
abbrev pub with_rest : LayoutWriter → List Piece → List ℕ
with_rest w ps = w.out.items ++ laid_from (spot w.spot) ps

-- a writer of this layout is at the start of the rest of a text, and these tokens remain
pub record GoesOn (whole : List ℕ) (ts : List Token) (w : LayoutWriter) (rest : List ℕ) : Type 0 where
  pub pieces : List Piece
  pub cut : AreCut rest pieces []
  pub tokens : flat_map token_of pieces ≡ ts
  pub laid : with_rest w pieces ≡ whole

-- a writer that was at the start of a text is now at the start of its rest, for all pieces into
-- which the text is cut; all tokens of the text remain
abbrev pub Passes : LayoutWriter → List ℕ → LayoutWriter → List ℕ → Type 0
Passes old text new rest =
    (ps : List Piece) → AreCut text ps [] → GoesOn (with_rest old ps) (flat_map token_of ps) new rest

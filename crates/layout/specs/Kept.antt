-- What a layout keeps of a text.
use Rattle.std.specs.Prelude.{◌≡◌, ℕ, List, [], ◌∷◌}
use Rattle.std.specs.List.{flat_map}
use Rattle.syntax.specs.Lexical.{Piece, BlankPiece, CommentPiece, NamePiece, NumberPiece, WordPiece}
use Rattle.syntax.specs.Lexical.{MarkPiece, AreCut, AreTokensOf}
use Rattle.syntax.specs.Token.{Token}
use Rattle.layout.specs.Laid.{laid_pieces, trimmed}

-- the layout of a text that is cut into pieces
abbrev pub IsLaidOut : List ℕ → List ℕ → Type 0
IsLaidOut text laid = (ps : List Piece) → AreCut text ps [] → laid ≡ laid_pieces ps

-- tokens as they are spelled, and comments without the whitespace at their end
abbrev pub kept_of : Piece → List Piece
kept_of (BlankPiece c) = []
kept_of (CommentPiece cs) = CommentPiece (trimmed cs) ∷ []
kept_of (NamePiece cs) = NamePiece cs ∷ []
kept_of (NumberPiece cs) = NumberPiece cs ∷ []
kept_of (WordPiece w) = WordPiece w ∷ []
kept_of (MarkPiece m) = MarkPiece m ∷ []

abbrev pub kept : List Piece → List Piece
kept = flat_map kept_of

-- two texts have the same tokens, spelled alike, and between the same tokens the same comments
pub record KeepsAll (old new : List ℕ) : Type 0 where
  pub before : List Piece
  pub after : List Piece
  pub old_cut : AreCut old before []
  pub new_cut : AreCut new after []
  pub same : kept before ≡ kept after

-- the tokens of a text are those of another
abbrev pub HaveSameTokens : List ℕ → List ℕ → Type 0
HaveSameTokens old new = (ts : List Token) → AreTokensOf old ts → AreTokensOf new ts

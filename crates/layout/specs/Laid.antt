-- The layout of a text, piece by piece.
use Rattle.std.specs.Prelude.{ℕ, if◌then◌else◌, List, [], ◌∷◌, ◌++◌, codes}
use Rattle.std.specs.List.{list_all}
use Rattle.syntax.specs.Lexical.{Piece, BlankPiece, CommentPiece, NamePiece, NumberPiece, WordPiece}
use Rattle.syntax.specs.Lexical.{MarkPiece, is_blank, mark_text, number_of, word_text}
use Rattle.syntax.specs.Token.{Token, NameToken, NumberToken, WordToken, MarkToken}
use Rattle.layout.specs.declared.spot.Last.{Last}
use Rattle.layout.specs.declared.spot.Last.TheVariants.{Nothing, Brace, Comment, Code}
use Rattle.layout.specs.Gap.{comment_gap, gap_text, token_gap}
use Rattle.layout.specs.Spot.{Spot, behind_blank, behind_comment, behind_token, first}

-- characters without the whitespace at their end
abbrev pub trimmed : List ℕ → List ℕ
trimmed [] = []
trimmed (c ∷ cs) = if list_all is_blank (c ∷ cs) then [] else c ∷ trimmed cs

-- a token after its gap
abbrev pub token_written : Spot → Token → List ℕ → List ℕ
token_written at t letters = gap_text (token_gap at t) ++ letters

-- a comment after its gap
abbrev pub comment_written : Spot → List ℕ → List ℕ
comment_written at cs = gap_text (comment_gap at) ++ 47 ∷ 47 ∷ trimmed cs

-- the output for a piece: nothing for whitespace, else the gap and the piece's letters
abbrev pub written : Spot → Piece → List ℕ
written at (BlankPiece c) = []
written at (CommentPiece cs) = comment_written at cs
written at (NamePiece cs) = token_written at (NameToken cs) cs
written at (NumberPiece cs) = token_written at (NumberToken (number_of cs)) cs
written at (WordPiece w) = token_written at (WordToken w) (word_text w)
written at (MarkPiece m) = token_written at (MarkToken m) (mark_text m)

-- the spot after a piece
abbrev pub behind : Spot → Piece → Spot
behind at (BlankPiece c) = behind_blank at c
behind at (CommentPiece cs) = behind_comment at
behind at (NamePiece cs) = behind_token at (NameToken cs)
behind at (NumberPiece cs) = behind_token at (NumberToken (number_of cs))
behind at (WordPiece w) = behind_token at (WordToken w)
behind at (MarkPiece m) = behind_token at (MarkToken m)

-- the newline after the last line
abbrev pub end_text : Last → List ℕ
end_text Nothing = []
end_text Brace = codes "\n"
end_text Comment = codes "\n"
end_text Code = codes "\n"

-- the layout of pieces from a spot on
unfoldable pub laid_from : Spot → List Piece → List ℕ
laid_from at [] = end_text at.last
laid_from at (p ∷ ps) = written at p ++ laid_from (behind at p) ps

-- the layout of the pieces of a text
abbrev pub laid_pieces : List Piece → List ℕ
laid_pieces ps = laid_from first ps

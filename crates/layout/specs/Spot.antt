-- The current spot of a layout in a text.
use Rattle.std.specs.Prelude.{ℕ, ◌==◌, if◌then◌else◌}
use Rattle.syntax.specs.declared.token.Mark.{Mark}
use Rattle.syntax.specs.declared.token.Mark.TheVariants.{LeftBrace}
use Rattle.syntax.specs.Canonical.{depth_by, left_by}
use Rattle.syntax.specs.declared.token.Left.{Left}
use Rattle.syntax.specs.declared.token.Left.TheVariants.{Margin}
use Rattle.syntax.specs.Token.{Token, MarkToken}
use Rattle.layout.specs.declared.spot.Last.{Last}
use Rattle.layout.specs.declared.spot.Last.TheVariants.{Nothing, Brace, Comment, Code}
use Rattle.layout.specs.declared.spot.Feeds.{Feeds}
use Rattle.layout.specs.declared.spot.Feeds.TheVariants.{Same, Next, Apart}
use Rattle.layout.specs.declared.spot.Spot.{Spot as rSpot}

-- the number of open blocks, what is to the left apart from comments, as in a canonical text, the
-- last item, and the number of lines started since then
pub record Spot : Type 0 where
  pub depth : ℕ
  pub left : Left
  pub last : Last
  pub feeds : Feeds

abbrev pub spot : rSpot → Spot
spot s = record { depth = s.depth; left = s.left; last = s.last; feeds = s.feeds }

-- the start of a text
abbrev pub first : Spot
first = record { depth = 0; left = Margin; last = Nothing; feeds = Same }

-- one more newline
abbrev pub one_more : Feeds → Feeds
one_more Same = Next
one_more Next = Apart
one_more Apart = Apart

-- the spot after whitespace
abbrev pub behind_blank : Spot → ℕ → Spot
behind_blank at c = record at { feeds = (if c == 10 then one_more at.feeds else at.feeds) }

-- the spot after a comment
abbrev pub behind_comment : Spot → Spot
behind_comment at = record { depth = at.depth; left = at.left; last = Comment; feeds = Same }

abbrev pub last_by_mark : Mark → Last
last_by_mark LeftBrace = Brace
last_by_mark _ = Code

abbrev pub last_by : Token → Last
last_by (MarkToken m) = last_by_mark m
last_by _ = Code

-- the spot after a token
abbrev pub behind_token : Spot → Token → Spot
behind_token at t = record {
  depth = depth_by at.depth t;
  left = left_by at.left t;
  last = last_by t;
  feeds = Same;
}

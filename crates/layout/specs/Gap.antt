-- The gap before an item of a layout: before a comment or a token.
use Rattle.std.specs.Prelude.{ℕ, ◌+◌, ◌-◌, Bool, true, false, not, ◌||◌, ◌&&◌, if◌then◌else◌, List, []}
use Rattle.std.specs.Prelude.{◌++◌, codes}
use Rattle.syntax.specs.declared.token.Mark.TheVariants.{LeftBrace, RightBrace}
use Rattle.syntax.specs.declared.token.Left.{Left}
use Rattle.syntax.specs.declared.token.Left.TheVariants.{Margin, Opening, Called, Operand, Ended, Other}
use Rattle.syntax.specs.Canonical.{begins_line, indent, is_closing, is_opening}
use Rattle.syntax.specs.Token.{Token, MarkToken}
use Rattle.layout.specs.declared.gap.Gap.{Gap}
use Rattle.layout.specs.declared.gap.Gap.TheVariants.{Joined, Space, Line}
use Rattle.layout.specs.declared.spot.Last.{Last}
use Rattle.layout.specs.declared.spot.Last.TheVariants.{Nothing, Brace, Comment, Code}
use Rattle.layout.specs.declared.spot.Feeds.{Feeds}
use Rattle.layout.specs.declared.spot.Feeds.TheVariants.{Same, Next, Apart}
use Rattle.layout.specs.Spot.{Spot}

-- the characters of a gap
abbrev pub gap_text : Gap → List ℕ
gap_text Joined = []
gap_text Space = codes " "
gap_text (Line empty levels) = (if empty then codes "\n\n" else codes "\n") ++ indent levels

abbrev pub line_gap : Bool → ℕ → Gap
line_gap empty levels = Line empty levels

abbrev pub is_apart : Feeds → Bool
is_apart Apart = true
is_apart _ = false

-- an empty line is kept, except after a `{`
abbrev pub keeps_empty_by : Last → Feeds → Bool
keeps_empty_by Brace feeds = false
keeps_empty_by Nothing feeds = is_apart feeds
keeps_empty_by Comment feeds = is_apart feeds
keeps_empty_by Code feeds = is_apart feeds

abbrev pub keeps_empty : Spot → Bool
keeps_empty at = keeps_empty_by at.last at.feeds

-- a line that starts inside a statement is indented by two more levels
abbrev pub levels_by : Left → ℕ → ℕ
levels_by Margin depth = depth
levels_by Ended depth = depth
levels_by Opening depth = depth + 2
levels_by Called depth = depth + 2
levels_by Operand depth = depth + 2
levels_by Other depth = depth + 2

abbrev pub inner_levels : Spot → ℕ
inner_levels at = levels_by at.left at.depth

-- a brace that starts a line is indented like its block's header
abbrev pub token_levels : Spot → Token → ℕ
token_levels at (MarkToken LeftBrace) = at.depth
token_levels at (MarkToken RightBrace) = at.depth - 1
token_levels at _ = inner_levels at

abbrev pub is_right_brace : Token → Bool
is_right_brace (MarkToken RightBrace) = true
is_right_brace _ = false

-- after code, a comment continues its line or starts a new one
abbrev pub comment_gap_by : Feeds → Gap → Gap
comment_gap_by Same line = Space
comment_gap_by Next line = line
comment_gap_by Apart line = line

-- the gap before a comment, given the last item
abbrev pub comment_gap_behind : Last → Feeds → Gap → Gap
comment_gap_behind Nothing feeds line = Joined
comment_gap_behind Comment feeds line = line
comment_gap_behind Brace feeds line = comment_gap_by feeds line
comment_gap_behind Code feeds line = comment_gap_by feeds line

abbrev pub comment_gap : Spot → Gap
comment_gap at = comment_gap_behind at.last at.feeds (line_gap (keeps_empty at) (inner_levels at))

abbrev pub space_unless : Bool → Gap
space_unless joined = if joined then Joined else Space

-- the gap between two tokens of a line, as in a canonical text
abbrev pub space_gap : Left → Token → Gap
space_gap Opening t = Joined
space_gap Called t = space_unless (is_closing t || is_opening t)
space_gap Margin t = space_unless (is_closing t)
space_gap Operand t = space_unless (is_closing t)
space_gap Ended t = space_unless (is_closing t)
space_gap Other t = space_unless (is_closing t)

-- the gap before a token, given the last item: the token starts a line after a comment, and
-- wherever the canonical text starts one
abbrev pub token_gap_behind : Last → Bool → Gap → Gap → Gap
token_gap_behind Nothing begins line inside = Joined
token_gap_behind Comment begins line inside = line
token_gap_behind Brace begins line inside = if begins then line else inside
token_gap_behind Code begins line inside = if begins then line else inside

abbrev pub token_gap : Spot → Token → Gap
token_gap at t =
    token_gap_behind at.last (begins_line at.left t)
    (line_gap (keeps_empty at && not (is_right_brace t)) (token_levels at t)) (space_gap at.left t)

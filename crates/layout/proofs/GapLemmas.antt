-- What comes after a piece of a layout doesn't continue the piece.
use Rattle.std.proofs.Common.{◌≡◌, ◌<◌, ℕ, zero, suc, Bool, true, false, not, ◌&&◌, ◌||◌, ◌==◌, if◌then◌else◌}
use Rattle.std.proofs.Common.{List, [], ◌∷◌, ◌++◌, length, get_or, refl, ap, sym, ◌∙◌, arith}
use Rattle.std.specs.Char.{is_ascii_digit}
use Rattle.std.specs.List.{list_all}
use Rattle.std.proofs.lemmas.Bool.{and_parts, not-true}
use Rattle.syntax.specs.declared.token.Word.{Word}
use Rattle.syntax.specs.declared.token.Word.TheVariants.{Len as WordLen}
use Rattle.syntax.specs.declared.token.Mark.{Mark}
use Rattle.syntax.specs.declared.token.Mark.TheVariants.{LeftParen, RightParen, LeftBracket, RightBracket, Comma}
use Rattle.syntax.specs.declared.token.Mark.TheVariants.{Semicolon, Colon, Minus}
use Rattle.syntax.specs.Canonical.{begins_line, depth_by}
use Rattle.syntax.specs.declared.token.Left.{Left}
use Rattle.syntax.specs.declared.token.Left.TheVariants.{Margin, Opening, Called, Operand, Ended, Other}
use Rattle.syntax.specs.Canonical.{is_closing, is_opening, left_by, left_by_mark}
use Rattle.syntax.specs.Lexical.{is_in_line, is_in_name, mark_text, number_of, starts, word_text, IsMark}
use Rattle.syntax.specs.Lexical.{Piece, BlankPiece, CommentPiece, NamePiece, NumberPiece, WordPiece, MarkPiece}
use Rattle.syntax.specs.Token.{Token, NameToken, NumberToken, WordToken, MarkToken}
use Rattle.syntax.proofs.MarkLemmas.{bracket_stands, minus_stands, paren_stands, quiet_mark}
use Rattle.layout.specs.declared.gap.Gap.{Gap}
use Rattle.layout.specs.declared.gap.Gap.TheVariants.{Joined, Space, Line}
use Rattle.layout.specs.declared.spot.Last.{Last}
use Rattle.layout.specs.declared.spot.Last.TheVariants.{Nothing, Brace, Comment, Code}
use Rattle.layout.specs.declared.spot.Feeds.{Feeds}
use Rattle.layout.specs.declared.spot.Feeds.TheVariants.{Same, Next, Apart}
use Rattle.layout.specs.Gap.{comment_gap_behind, gap_text, is_right_brace, keeps_empty_by, levels_by, space_gap}
use Rattle.layout.specs.Gap.{space_unless, token_gap_behind, token_levels}
use Rattle.layout.specs.Laid.{end_text, laid_from, token_written, trimmed}
use Rattle.layout.specs.Spot.{Spot, behind_token, last_by_mark, one_more}

-- a test that no gap passes, and no mark that is close to what is before it
pub record IsQuiet (q : ℕ → Bool) : Type 0 where
  pub feed : q 10 ≡ false
  pub space : q 32 ≡ false
  pub left_paren : q 40 ≡ false
  pub right_paren : q 41 ≡ false
  pub comma : q 44 ≡ false
  pub colon : q 58 ≡ false
  pub semicolon : q 59 ≡ false
  pub left_bracket : q 91 ≡ false
  pub right_bracket : q 93 ≡ false

-- the bytes at the start of gaps and close marks
abbrev close : List ℕ
close = 10 ∷ 32 ∷ 40 ∷ 41 ∷ 44 ∷ 58 ∷ 59 ∷ 91 ∷ 93 ∷ []

none_passes : (q : ℕ → Bool) (cs : List ℕ) → list_all (λ c. not (q c)) cs ≡ true → (i : ℕ) → i < length cs
    → q (get_or cs i 0) ≡ false
none_passes q [] h i within = absurd (omega arith)
none_passes q (c ∷ cs) h zero within =
    not-true (q c) (and_parts (not (q c)) (list_all (λ d. not (q d)) cs) h).0
none_passes q (c ∷ cs) h (suc i) within =
    none_passes q cs (and_parts (not (q c)) (list_all (λ d. not (q d)) cs) h).1 i (omega arith)

quiet : (q : ℕ → Bool) → list_all (λ c. not (q c)) close ≡ true → IsQuiet q
quiet q none =
    let at : (i : ℕ) → i < 9 → q (get_or close i 0) ≡ false = none_passes q close none in
    record {
      feed = at 0 (omega arith);
      space = at 1 (omega arith);
      left_paren = at 2 (omega arith);
      right_paren = at 3 (omega arith);
      comma = at 4 (omega arith);
      colon = at 5 (omega arith);
      semicolon = at 6 (omega arith);
      left_bracket = at 7 (omega arith);
      right_bracket = at 8 (omega arith);
    }

pub in_name_quiet : IsQuiet is_in_name
in_name_quiet = quiet is_in_name refl

pub digit_quiet : IsQuiet is_ascii_digit
digit_quiet = quiet is_ascii_digit refl

equal_quiet : IsQuiet (λ c. c == 61)
equal_quiet = quiet (λ c. c == 61) refl

slash_quiet : IsQuiet (λ c. c == 47)
slash_quiet = quiet (λ c. c == 47) refl

-- the text has started
abbrev pub IsSomething : Last → Type 0
IsSomething Nothing = ⊥
IsSomething _ = Unit {0}

-- what is to the left is no opening
abbrev pub IsNoOpening : Left → Type 0
IsNoOpening Opening = ⊥
IsNoOpening _ = Unit {0}

line_start : (q : ℕ → Bool) → q 10 ≡ false → (empty : Bool) (levels : ℕ) (text rest : List ℕ)
    → starts q ((gap_text (Line empty levels) ++ text) ++ rest) ≡ false
line_start q e true levels text rest = e
line_start q e false levels text rest = e

-- if there is no space, what is written starts the text
inside_start : (q : ℕ → Bool) → IsQuiet q → (inside : Gap) (text rest : List ℕ)
    → (inside ≡ Joined → starts q (text ++ rest) ≡ false) → starts q ((gap_text inside ++ text) ++ rest) ≡ false
inside_start q h Joined text rest near = near refl
inside_start q h Space text rest near = h.space
inside_start q h (Line empty levels) text rest near = line_start q h.feed empty levels text rest

gap_start : (q : ℕ → Bool) → IsQuiet q → (last : Last) (begins empty : Bool) (levels : ℕ) (inside : Gap) (text rest : List ℕ)
    → IsSomething last → (inside ≡ Joined → starts q (text ++ rest) ≡ false)
    → starts q ((gap_text (token_gap_behind last begins (Line empty levels) inside) ++ text) ++ rest) ≡ false
gap_start q h Nothing begins empty levels inside text rest s near = absurd s
gap_start q h Comment begins empty levels inside text rest s near = line_start q h.feed empty levels text rest
gap_start q h Brace true empty levels inside text rest s near = line_start q h.feed empty levels text rest
gap_start q h Brace false empty levels inside text rest s near = inside_start q h inside text rest near
gap_start q h Code true empty levels inside text rest s near = line_start q h.feed empty levels text rest
gap_start q h Code false empty levels inside text rest s near = inside_start q h inside text rest near

token_start : (q : ℕ → Bool) → IsQuiet q → (d : ℕ) (left : Left) (last : Last) (feeds : Feeds) (t : Token) (text rest : List ℕ)
    → IsSomething last → (space_gap left t ≡ Joined → starts q (text ++ rest) ≡ false)
    → starts q (token_written (record { depth = d; left = left; last = last; feeds = feeds }) t text ++ rest) ≡ false
token_start q h d left last feeds t text rest s near =
    let at : Spot = record { depth = d; left = left; last = last; feeds = feeds } in
    gap_start q h last (begins_line left t) (keeps_empty_by last feeds && not (is_right_brace t)) (token_levels at t) (space_gap left t)
    text rest s near

comment_start : (q : ℕ → Bool) → IsQuiet q → (last : Last) (feeds : Feeds) (empty : Bool) (levels : ℕ) (text rest : List ℕ)
    → IsSomething last → starts q ((gap_text (comment_gap_behind last feeds (Line empty levels)) ++ text) ++ rest) ≡ false
comment_start q h Nothing feeds empty levels text rest s = absurd s
comment_start q h Comment feeds empty levels text rest s = line_start q h.feed empty levels text rest
comment_start q h Brace Same empty levels text rest s = h.space
comment_start q h Brace Next empty levels text rest s = line_start q h.feed empty levels text rest
comment_start q h Brace Apart empty levels text rest s = line_start q h.feed empty levels text rest
comment_start q h Code Same empty levels text rest s = h.space
comment_start q h Code Next empty levels text rest s = line_start q h.feed empty levels text rest
comment_start q h Code Apart empty levels text rest s = line_start q h.feed empty levels text rest

spaced : (left : Left) (t : Token) → IsNoOpening left → is_closing t ≡ false → is_opening t ≡ false → space_gap left t ≡ Space
spaced Opening t a c o = absurd a
spaced Called t a c o = ap (λ b. space_unless (b || is_opening t)) c ∙ ap space_unless o
spaced Margin t a c o = ap space_unless c
spaced Operand t a c o = ap space_unless c
spaced Ended t a c o = ap space_unless c
spaced Other t a c o = ap space_unless c

never_joined : (left : Left) (t : Token) → IsNoOpening left → is_closing t ≡ false → is_opening t ≡ false → space_gap left t ≡ Joined → ⊥
never_joined left t a c o e = let same : Space ≡ Joined = sym (spaced left t a c o) ∙ e in cc

mark_near : (q : ℕ → Bool) → IsQuiet q → (left : Left) (m : Mark) (rest : List ℕ) → IsNoOpening left
    → space_gap left (MarkToken m) ≡ Joined → starts q (mark_text m ++ rest) ≡ false
mark_near q h left LeftParen rest a e = h.left_paren
mark_near q h left RightParen rest a e = h.right_paren
mark_near q h left Comma rest a e = h.comma
mark_near q h left Colon rest a e = h.colon
mark_near q h left Semicolon rest a e = h.semicolon
mark_near q h left LeftBracket rest a e = h.left_bracket
mark_near q h left RightBracket rest a e = h.right_bracket
mark_near q h left m rest a e = absurd (never_joined left (MarkToken m) a refl refl e)

end_start : (q : ℕ → Bool) → IsQuiet q → (last : Last) → IsSomething last → starts q (end_text last) ≡ false
end_start q h Nothing s = absurd s
end_start q h Brace s = h.feed
end_start q h Comment s = h.feed
end_start q h Code s = h.feed

-- what comes after a token that is no opening passes no quiet test
pub starts_quiet : (q : ℕ → Bool) → IsQuiet q → (ps : List Piece) (d : ℕ) (left : Left) (last : Last) (feeds : Feeds)
    → IsNoOpening left → IsSomething last
    → starts q (laid_from (record { depth = d; left = left; last = last; feeds = feeds }) ps) ≡ false
unfolding laid_from
starts_quiet q h [] d left last feeds a s = end_start q h last s
starts_quiet q h (BlankPiece c ∷ ps) d left last feeds a s =
    starts_quiet q h ps d left last (if c == 10 then one_more feeds else feeds) a s
starts_quiet q h (CommentPiece cs ∷ ps) d left last feeds a s =
    comment_start q h last feeds (keeps_empty_by last feeds) (levels_by left d) (47 ∷ 47 ∷ trimmed cs) _ s
starts_quiet q h (NamePiece cs ∷ ps) d left last feeds a s =
    token_start q h d left last feeds (NameToken cs) cs _ s (λ e. absurd (never_joined left (NameToken cs) a refl refl e))
starts_quiet q h (NumberPiece cs ∷ ps) d left last feeds a s =
    let t : Token = NumberToken (number_of cs) in
    token_start q h d left last feeds t cs _ s (λ e. absurd (never_joined left t a refl refl e))
starts_quiet q h (WordPiece w ∷ ps) d left last feeds a s =
    token_start q h d left last feeds (WordToken w) (word_text w) _ s (λ e. absurd (never_joined left (WordToken w) a refl refl e))
starts_quiet q h (MarkPiece m ∷ ps) d left last feeds a s =
    token_start q h d left last feeds (MarkToken m) (mark_text m) _ s (mark_near q h left m _ a)

-- a new line comes after a comment
pub line_ends : (ps : List Piece) (d : ℕ) (left : Left) (feeds : Feeds)
    → starts is_in_line (laid_from (record { depth = d; left = left; last = Comment; feeds = feeds }) ps) ≡ false
unfolding laid_from
line_ends [] d left feeds = refl
line_ends (BlankPiece c ∷ ps) d left feeds = line_ends ps d left (if c == 10 then one_more feeds else feeds)
line_ends (CommentPiece cs ∷ ps) d left feeds = line_start is_in_line refl (keeps_empty_by Comment feeds) (levels_by left d) _ _
line_ends (NamePiece cs ∷ ps) d left feeds = line_start is_in_line refl (keeps_empty_by Comment feeds && true) (levels_by left d) cs _
line_ends (NumberPiece cs ∷ ps) d left feeds = line_start is_in_line refl (keeps_empty_by Comment feeds && true) (levels_by left d) cs _
line_ends (WordPiece w ∷ ps) d left feeds =
    line_start is_in_line refl (keeps_empty_by Comment feeds && true) (levels_by left d) (word_text w) _
line_ends (MarkPiece m ∷ ps) d left feeds =
    let at : Spot = record { depth = d; left = left; last = Comment; feeds = feeds } in
    line_start is_in_line refl (keeps_empty_by Comment feeds && not (is_right_brace (MarkToken m))) (token_levels at (MarkToken m))
    (mark_text m) _

-- ---- marks

-- what comes after a mark neither makes it longer nor makes it a comment
pub mark_stands : (at : Spot) (m : Mark) (ps : List Piece) → IsMark m (laid_from (behind_token at (MarkToken m)) ps)
mark_stands at LeftParen ps = paren_stands _
mark_stands at LeftBracket ps = bracket_stands _
mark_stands at Minus ps = minus_stands _
mark_stands at m ps =
    let d = depth_by at.depth (MarkToken m) in
    quiet_mark m (laid_from (behind_token at (MarkToken m)) ps) (
      starts_quiet (λ c. c == 61) equal_quiet ps d (left_by_mark at.left m) (last_by_mark m) Same tt tt,
      starts_quiet (λ c. c == 47) slash_quiet ps d (left_by_mark at.left m) (last_by_mark m) Same tt tt,
    )

pub word_is_no_opening : (left : Left) (w : Word) → IsNoOpening (left_by left (WordToken w))
word_is_no_opening left WordLen = tt
word_is_no_opening left _ = tt

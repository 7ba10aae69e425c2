-- A layout is cut into the pieces of the text, with other whitespace between them. Formatted again,
-- it is unchanged.
use Rattle.std.proofs.Common.{◌≡◌, ◌*◌, ℕ, zero, suc, Bool, true, false, not, ◌&&◌, ◌==◌, if◌then◌else◌, List, [], ◌∷◌, ◌++◌}
use Rattle.std.proofs.Common.{replicate, refl, ap, sym, ◌∙◌, subst, append_assoc}
use Rattle.std.specs.Char.{is_ascii_digit}
use Rattle.std.specs.List.{flat_map, list_all}
use Rattle.std.proofs.lemmas.Bool.{and_parts}
use Rattle.syntax.proofs.LayoutLemmas.{blanks as blanks_are_blank}
use Rattle.syntax.specs.Canonical.{begins_line, left_by}
use Rattle.syntax.specs.declared.token.Left.{Left}
use Rattle.syntax.specs.declared.token.Left.TheVariants.{Called, Operand}
use Rattle.syntax.specs.Lexical.{is_blank, is_in_line, is_in_name, letters, mark_text, number_of, token_of, word_text}
use Rattle.syntax.specs.Lexical.{starts, AreCut, IsName, IsNumber, MayStand}
use Rattle.syntax.specs.Lexical.{Piece, BlankPiece, CommentPiece, NamePiece, NumberPiece, WordPiece, MarkPiece}
use Rattle.syntax.specs.Token.{Token, NameToken, NumberToken, WordToken, MarkToken}
use Rattle.syntax.proofs.Pieces.{one_piece, piece_is_some}
use Rattle.layout.specs.declared.gap.Gap.{Gap}
use Rattle.layout.specs.declared.gap.Gap.TheVariants.{Joined, Space, Line}
use Rattle.layout.specs.declared.spot.Last.{Last}
use Rattle.layout.specs.declared.spot.Last.TheVariants.{Nothing, Brace, Comment, Code}
use Rattle.layout.specs.declared.spot.Feeds.{Feeds}
use Rattle.layout.specs.declared.spot.Feeds.TheVariants.{Same, Next, Apart}
use Rattle.layout.specs.Gap.{comment_gap, comment_gap_behind, comment_gap_by, gap_text, is_apart, is_right_brace}
use Rattle.layout.specs.Gap.{keeps_empty_by, levels_by, space_gap, token_gap, token_gap_behind, token_levels}
use Rattle.layout.specs.Kept.{HaveSameTokens, IsLaidOut, KeepsAll, kept}
use Rattle.layout.specs.Laid.{comment_written, end_text, laid_from, laid_pieces, token_written, trimmed}
use Rattle.layout.specs.Spot.{Spot, behind_blank, behind_comment, behind_token, first, one_more}
use Rattle.layout.proofs.GapLemmas.{digit_quiet, in_name_quiet, line_ends, mark_stands, starts_quiet, word_is_no_opening}
use Rattle.layout.proofs.TrimmedLemmas.{list_all-trimmed, trimmed-trimmed}

-- whitespace before pieces
abbrev pub blanks : List ℕ → List Piece → List Piece
blanks [] ps = ps
blanks (c ∷ cs) ps = BlankPiece c ∷ blanks cs ps

-- the pieces of a layout
abbrev pub relaid : Spot → List Piece → List Piece
relaid at [] = blanks (end_text at.last) []
relaid at (BlankPiece c ∷ ps) = relaid (behind_blank at c) ps
relaid at (CommentPiece cs ∷ ps) =
    blanks (gap_text (comment_gap at)) (CommentPiece (trimmed cs) ∷ relaid (behind_comment at) ps)
relaid at (NamePiece cs ∷ ps) =
    blanks (gap_text (token_gap at (NameToken cs))) (NamePiece cs ∷ relaid (behind_token at (NameToken cs)) ps)
relaid at (NumberPiece cs ∷ ps) =
    blanks (gap_text (token_gap at (NumberToken (number_of cs))))
    (NumberPiece cs ∷ relaid (behind_token at (NumberToken (number_of cs))) ps)
relaid at (WordPiece w ∷ ps) =
    blanks (gap_text (token_gap at (WordToken w))) (WordPiece w ∷ relaid (behind_token at (WordToken w)) ps)
relaid at (MarkPiece m ∷ ps) =
    blanks (gap_text (token_gap at (MarkToken m))) (MarkPiece m ∷ relaid (behind_token at (MarkToken m)) ps)

-- ---- a layout is cut into these

gap_blank : (g : Gap) → list_all is_blank (gap_text g) ≡ true
gap_blank Joined = refl
gap_blank Space = refl
gap_blank (Line true levels) = blanks_are_blank (2 * levels)
gap_blank (Line false levels) = blanks_are_blank (2 * levels)

with_blanks : (bs text : List ℕ) (ps : List Piece) → list_all is_blank bs ≡ true → AreCut text ps []
    → AreCut (bs ++ text) (blanks bs ps) []
with_blanks [] text ps e cut = cut
with_blanks (b ∷ bs) text ps e cut =
    let all = and_parts (is_blank b) (list_all is_blank bs) e in
    (bs ++ text, record { spelled = refl; fits = all.0 }, with_blanks bs text ps all.1 cut)

with_item : (g : Gap) (p : Piece) (rest : List ℕ) (ps : List Piece) → MayStand p rest → AreCut rest ps []
    → AreCut ((gap_text g ++ letters p) ++ rest) (blanks (gap_text g) (p ∷ ps)) []
with_item g p rest ps fits cut =
    subst (λ l. AreCut l (blanks (gap_text g) (p ∷ ps)) []) (sym (append_assoc (gap_text g) (letters p) rest))
    (with_blanks (gap_text g) (letters p ++ rest) (p ∷ ps) (gap_blank g) (rest, record { spelled = refl; fits = fits }, cut))

end_cut : (last : Last) → AreCut (end_text last) (blanks (end_text last) []) []
end_cut Nothing = refl
end_cut Brace = ([], record { spelled = refl; fits = refl }, refl)
end_cut Comment = ([], record { spelled = refl; fits = refl }, refl)
end_cut Code = ([], record { spelled = refl; fits = refl }, refl)

-- a name and a number can be before everything that doesn't continue them
name_stands : {cs old new : List ℕ} → IsName cs old → starts is_in_name new ≡ false → IsName cs new
name_stands name ends = record { begins = name.begins; in_name = name.in_name; ends = ends; no_word = name.no_word }

number_stands : {cs old new : List ℕ} → IsNumber cs old → starts is_ascii_digit new ≡ false → IsNumber cs new
number_stands number ends = record { begins = number.begins; digits = number.digits; ends = ends; fits = number.fits }

pub relaid_cut : (ps : List Piece) (at : Spot) (text : List ℕ) → AreCut text ps [] → AreCut (laid_from at ps) (relaid at ps) []
unfolding laid_from
relaid_cut [] at text cut = end_cut at.last
relaid_cut (BlankPiece c ∷ ps) at text cut = relaid_cut ps (behind_blank at c) cut.0 cut.2
relaid_cut (CommentPiece cs ∷ ps) at text cut =
    let after : Spot = behind_comment at in
    with_item (comment_gap at) (CommentPiece (trimmed cs)) (laid_from after ps) (relaid after ps)
    (list_all-trimmed is_in_line cs cut.1.fits.0, line_ends ps at.depth at.left Same) (relaid_cut ps after cut.0 cut.2)
relaid_cut (NamePiece cs ∷ ps) at text cut =
    let t : Token = NameToken cs in
    let after : Spot = behind_token at t in
    with_item (token_gap at t) (NamePiece cs) (laid_from after ps) (relaid after ps)
    (name_stands cut.1.fits (starts_quiet is_in_name in_name_quiet ps at.depth Called Code Same tt tt))
    (relaid_cut ps after cut.0 cut.2)
relaid_cut (NumberPiece cs ∷ ps) at text cut =
    let t : Token = NumberToken (number_of cs) in
    let after : Spot = behind_token at t in
    with_item (token_gap at t) (NumberPiece cs) (laid_from after ps) (relaid after ps)
    (number_stands cut.1.fits (starts_quiet is_ascii_digit digit_quiet ps at.depth Operand Code Same tt tt))
    (relaid_cut ps after cut.0 cut.2)
relaid_cut (WordPiece w ∷ ps) at text cut =
    let t : Token = WordToken w in
    let after : Spot = behind_token at t in
    with_item (token_gap at t) (WordPiece w) (laid_from after ps) (relaid after ps)
    (starts_quiet is_in_name in_name_quiet ps at.depth (left_by at.left t) Code Same (word_is_no_opening at.left w) tt)
    (relaid_cut ps after cut.0 cut.2)
relaid_cut (MarkPiece m ∷ ps) at text cut =
    let t : Token = MarkToken m in
    let after : Spot = behind_token at t in
    with_item (token_gap at t) (MarkPiece m) (laid_from after ps) (relaid after ps) (mark_stands at m ps) (relaid_cut ps after cut.0 cut.2)

-- ---- these pieces keep what the text has

kept-blanks : (bs : List ℕ) (ps : List Piece) → kept (blanks bs ps) ≡ kept ps
kept-blanks [] ps = refl
kept-blanks (b ∷ bs) ps = kept-blanks bs ps

pub kept-relaid : (ps : List Piece) (at : Spot) → kept (relaid at ps) ≡ kept ps
kept-relaid [] at = kept-blanks (end_text at.last) []
kept-relaid (BlankPiece c ∷ ps) at = kept-relaid ps (behind_blank at c)
kept-relaid (CommentPiece cs ∷ ps) at =
    let more = relaid (behind_comment at) ps in
    kept-blanks (gap_text (comment_gap at)) (CommentPiece (trimmed cs) ∷ more)
    ∙ ap (λ l. CommentPiece l ∷ kept more) (trimmed-trimmed cs)
    ∙ ap (λ l. CommentPiece (trimmed cs) ∷ l) (kept-relaid ps (behind_comment at))
kept-relaid (NamePiece cs ∷ ps) at =
    let t : Token = NameToken cs in
    kept-blanks (gap_text (token_gap at t)) (NamePiece cs ∷ relaid (behind_token at t) ps)
    ∙ ap (λ l. NamePiece cs ∷ l) (kept-relaid ps (behind_token at t))
kept-relaid (NumberPiece cs ∷ ps) at =
    let t : Token = NumberToken (number_of cs) in
    kept-blanks (gap_text (token_gap at t)) (NumberPiece cs ∷ relaid (behind_token at t) ps)
    ∙ ap (λ l. NumberPiece cs ∷ l) (kept-relaid ps (behind_token at t))
kept-relaid (WordPiece w ∷ ps) at =
    let t : Token = WordToken w in
    kept-blanks (gap_text (token_gap at t)) (WordPiece w ∷ relaid (behind_token at t) ps)
    ∙ ap (λ l. WordPiece w ∷ l) (kept-relaid ps (behind_token at t))
kept-relaid (MarkPiece m ∷ ps) at =
    let t : Token = MarkToken m in
    kept-blanks (gap_text (token_gap at t)) (MarkPiece m ∷ relaid (behind_token at t) ps)
    ∙ ap (λ l. MarkPiece m ∷ l) (kept-relaid ps (behind_token at t))

tokens-kept : (ps : List Piece) → flat_map token_of (kept ps) ≡ flat_map token_of ps
tokens-kept [] = refl
tokens-kept (BlankPiece c ∷ ps) = tokens-kept ps
tokens-kept (CommentPiece cs ∷ ps) = tokens-kept ps
tokens-kept (NamePiece cs ∷ ps) = ap (λ l. NameToken cs ∷ l) (tokens-kept ps)
tokens-kept (NumberPiece cs ∷ ps) = ap (λ l. NumberToken (number_of cs) ∷ l) (tokens-kept ps)
tokens-kept (WordPiece w ∷ ps) = ap (λ l. WordToken w ∷ l) (tokens-kept ps)
tokens-kept (MarkPiece m ∷ ps) = ap (λ l. MarkToken m ∷ l) (tokens-kept ps)

-- a layout keeps the tokens and the comments of the text
pub keeps_all : (text laid : List ℕ) (ps : List Piece) → AreCut text ps [] → IsLaidOut text laid → KeepsAll text laid
keeps_all text laid ps cut is = record {
  before = ps;
  after = relaid first ps;
  old_cut = cut;
  new_cut = subst (λ l. AreCut l (relaid first ps) []) (sym (is ps cut)) (relaid_cut ps first text cut);
  same = sym (kept-relaid ps first);
}

-- so its tokens are those of the text
pub same_tokens : (text laid : List ℕ) → IsLaidOut text laid → HaveSameTokens text laid
same_tokens text laid is ts has =
    let ps = has.pieces in
    record {
      pieces = relaid first ps;
      cut = subst (λ l. AreCut l (relaid first ps) []) (sym (is ps has.cut)) (relaid_cut ps first text has.cut);
      tokens = sym (tokens-kept (relaid first ps)) ∙ ap (flat_map token_of) (kept-relaid ps first) ∙ tokens-kept ps ∙ has.tokens;
    }

-- ---- these pieces, formatted again, are the same text

-- the newlines among some characters
abbrev fed : Feeds → List ℕ → Feeds
fed f [] = f
fed f (c ∷ cs) = fed (if c == 10 then one_more f else f) cs

fed-spaces : (k : ℕ) (f : Feeds) → fed f (replicate k 32) ≡ f
fed-spaces zero f = refl
fed-spaces (suc k) f = fed-spaces k f

fed-line : (empty : Bool) (levels : ℕ) → fed Same (gap_text (Line empty levels)) ≡ (if empty then Apart else Next)
fed-line true levels = fed-spaces (2 * levels) Apart
fed-line false levels = fed-spaces (2 * levels) Next

through_blanks : (bs : List ℕ) (ps : List Piece) (d : ℕ) (left : Left) (last : Last) (f : Feeds)
    → laid_from (record { depth = d; left = left; last = last; feeds = f }) (blanks bs ps)
    ≡ laid_from (record { depth = d; left = left; last = last; feeds = fed f bs }) ps
unfolding laid_from
through_blanks [] ps d left last f = refl
through_blanks (b ∷ bs) ps d left last f = through_blanks bs ps d left last (if b == 10 then one_more f else f)

is_apart-fed : (empty : Bool) → is_apart (if empty then Apart else Next) ≡ empty
is_apart-fed true = refl
is_apart-fed false = refl

and-again : (a b : Bool) → ((a && b) && b) ≡ (a && b)
and-again true true = refl
and-again true false = refl
and-again false b = refl

kept_apart : (feeds : Feeds) (keep : Bool) (levels : ℕ)
    → (is_apart (fed Same (gap_text (Line (is_apart feeds && keep) levels))) && keep) ≡ (is_apart feeds && keep)
kept_apart feeds keep levels =
    ap (λ f. is_apart f && keep) (fed-line (is_apart feeds && keep) levels)
    ∙ ap (λ b. b && keep) (is_apart-fed (is_apart feeds && keep)) ∙ and-again (is_apart feeds) keep

token_gap_stays : (last : Last) (feeds : Feeds) (begins keep : Bool) (levels : ℕ) (inside : Gap)
    → token_gap_behind last begins
    (Line (keeps_empty_by last
    (fed Same (gap_text (token_gap_behind last begins (Line (keeps_empty_by last feeds && keep) levels) inside))) && keep) levels) inside
    ≡ token_gap_behind last begins (Line (keeps_empty_by last feeds && keep) levels) inside
token_gap_stays Nothing feeds begins keep levels inside = refl
token_gap_stays Comment feeds begins keep levels inside = ap (λ e. Line e levels) (kept_apart feeds keep levels)
token_gap_stays Brace feeds true keep levels inside = refl
token_gap_stays Brace feeds false keep levels inside = refl
token_gap_stays Code feeds true keep levels inside = ap (λ e. Line e levels) (kept_apart feeds keep levels)
token_gap_stays Code feeds false keep levels inside = refl

-- the spot after some characters
abbrev fed_spot : Spot → List ℕ → Spot
fed_spot at cs = record { depth = at.depth; left = at.left; last = at.last; feeds = fed Same cs }

token_gap-fed : (at : Spot) (t : Token) → token_gap (fed_spot at (gap_text (token_gap at t))) t ≡ token_gap at t
token_gap-fed at t =
    token_gap_stays at.last at.feeds (begins_line at.left t) (not (is_right_brace t)) (token_levels at t) (space_gap at.left t)

comment_gap_stays : (last : Last) (feeds : Feeds) (levels : ℕ)
    → (let f : Feeds = fed Same (gap_text (comment_gap_behind last feeds (Line (keeps_empty_by last feeds) levels))) in
    comment_gap_behind last f (Line (keeps_empty_by last f) levels))
    ≡ comment_gap_behind last feeds (Line (keeps_empty_by last feeds) levels)
comment_gap_stays Nothing feeds levels = refl
comment_gap_stays Comment feeds levels =
    ap (λ e. Line e levels) (ap is_apart (fed-line (is_apart feeds) levels) ∙ is_apart-fed (is_apart feeds))
comment_gap_stays Brace Same levels = refl
comment_gap_stays Brace Next levels = ap (λ f. comment_gap_by f (Line false levels)) (fed-line false levels)
comment_gap_stays Brace Apart levels = ap (λ f. comment_gap_by f (Line false levels)) (fed-line false levels)
comment_gap_stays Code Same levels = refl
comment_gap_stays Code Next levels = ap (λ f. comment_gap_by f (Line (is_apart f) levels)) (fed-line false levels)
comment_gap_stays Code Apart levels = ap (λ f. comment_gap_by f (Line (is_apart f) levels)) (fed-line true levels)

comment_gap-fed : (at : Spot) → comment_gap (fed_spot at (gap_text (comment_gap at))) ≡ comment_gap at
comment_gap-fed at = comment_gap_stays at.last at.feeds (levels_by at.left at.depth)

-- the same spot with no line started since
abbrev still : Spot → Spot
still at = record { depth = at.depth; left = at.left; last = at.last; feeds = Same }

end_stays : (d : ℕ) (left : Left) (last : Last)
    → laid_from (record { depth = d; left = left; last = last; feeds = Same }) (blanks (end_text last) []) ≡ end_text last
unfolding laid_from
end_stays d left Nothing = refl
end_stays d left Brace = refl
end_stays d left Comment = refl
end_stays d left Code = refl

token_stays : (at : Spot) (t : Token) (text rest after : List ℕ) → rest ≡ after
    → token_written (fed_spot at (gap_text (token_gap at t))) t text ++ rest ≡ token_written at t text ++ after
token_stays at t text rest after e =
    ap (λ g. (gap_text g ++ text) ++ rest) (token_gap-fed at t) ∙ ap (λ l. token_written at t text ++ l) e

comment_stays : (at : Spot) (cs rest after : List ℕ) → rest ≡ after
    → comment_written (fed_spot at (gap_text (comment_gap at))) (trimmed cs) ++ rest ≡ comment_written at cs ++ after
comment_stays at cs rest after e =
    ap (λ g. (gap_text g ++ 47 ∷ 47 ∷ trimmed (trimmed cs)) ++ rest) (comment_gap-fed at)
    ∙ ap (λ l. (gap_text (comment_gap at) ++ 47 ∷ 47 ∷ l) ++ rest) (trimmed-trimmed cs)
    ∙ ap (λ l. comment_written at cs ++ l) e

pub laid-relaid : (ps : List Piece) (at : Spot) → laid_from (still at) (relaid at ps) ≡ laid_from at ps
unfolding laid_from
laid-relaid [] at = end_stays at.depth at.left at.last
laid-relaid (BlankPiece c ∷ ps) at = laid-relaid ps (behind_blank at c)
laid-relaid (CommentPiece cs ∷ ps) at =
    let more = relaid (behind_comment at) ps in
    through_blanks (gap_text (comment_gap at)) (CommentPiece (trimmed cs) ∷ more) at.depth at.left at.last Same
    ∙ comment_stays at cs (laid_from (behind_comment at) more) (laid_from (behind_comment at) ps) (laid-relaid ps (behind_comment at))
laid-relaid (NamePiece cs ∷ ps) at =
    let t : Token = NameToken cs in
    let more = relaid (behind_token at t) ps in
    through_blanks (gap_text (token_gap at t)) (NamePiece cs ∷ more) at.depth at.left at.last Same
    ∙ token_stays at t cs _ _ (laid-relaid ps (behind_token at t))
laid-relaid (NumberPiece cs ∷ ps) at =
    let t : Token = NumberToken (number_of cs) in
    let more = relaid (behind_token at t) ps in
    through_blanks (gap_text (token_gap at t)) (NumberPiece cs ∷ more) at.depth at.left at.last Same
    ∙ token_stays at t cs _ _ (laid-relaid ps (behind_token at t))
laid-relaid (WordPiece w ∷ ps) at =
    let t : Token = WordToken w in
    let more = relaid (behind_token at t) ps in
    through_blanks (gap_text (token_gap at t)) (WordPiece w ∷ more) at.depth at.left at.last Same
    ∙ token_stays at t (word_text w) _ _ (laid-relaid ps (behind_token at t))
laid-relaid (MarkPiece m ∷ ps) at =
    let t : Token = MarkToken m in
    let more = relaid (behind_token at t) ps in
    through_blanks (gap_text (token_gap at t)) (MarkPiece m ∷ more) at.depth at.left at.last Same
    ∙ token_stays at t (mark_text m) _ _ (laid-relaid ps (behind_token at t))

-- a text is cut in one way
one_cut : (text : List ℕ) (ps qs : List Piece) → AreCut text ps [] → AreCut text qs [] → ps ≡ qs
one_cut text [] [] c d = refl
one_cut text [] (q ∷ qs) c d = absurd (piece_is_some q d.0 d.1.fits (sym d.1.spelled ∙ c))
one_cut text (p ∷ ps) [] c d = absurd (piece_is_some p c.0 c.1.fits (sym c.1.spelled ∙ d))
one_cut text (p ∷ ps) (q ∷ qs) c d =
    let same = one_piece text p q c.0 d.0 c.1 d.1 in
    ap (λ x. x ∷ ps) same.0 ∙ ap (λ l. q ∷ l) (one_cut c.0 ps qs c.2 (subst (λ t. AreCut t qs []) (sym same.1) d.2))

-- a layout, formatted again, is unchanged
pub laid_stays : (text laid : List ℕ) (ps : List Piece) → AreCut text ps [] → IsLaidOut text laid → IsLaidOut laid laid
laid_stays text laid ps cut is qs again =
    let whole = is ps cut in
    let pieces = one_cut laid qs (relaid first ps) again
    (subst (λ l. AreCut l (relaid first ps) []) (sym whole) (relaid_cut ps first text cut))
    in
    whole ∙ sym (laid-relaid ps first) ∙ sym (ap laid_pieces pieces)

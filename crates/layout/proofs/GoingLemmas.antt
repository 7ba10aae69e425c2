-- A writer that continues, piece by piece.
use Rattle.std.proofs.Common.{◌≡◌, ◌<◌, ◌≤◌, ◌+◌, ◌*◌, ℕ, zero, suc, Bool, true, false, ◌==◌, List, [], ◌∷◌, ◌++◌, length}
use Rattle.std.proofs.Common.{take, drop, get_or, replicate, refl, ap, sym, ◌∙◌, subst, append_assoc, length-append, arith, lit<}
use Rattle.std.specs.List.{flat_map, prefix_len}
use Rattle.std.proofs.lemmas.Bool.{and_parts, eqb-true, false≢true}
use Rattle.std.proofs.lemmas.List.{drop_more}
use Rattle.std.specs.Str.{IsUtf8, chars}
use Rattle.std.proofs.Math.Utf8.{encodes}
use Rattle.std.proofs.lemmas.Str.{chars_from_encodes}
use Rattle.std.proofs.Math.Seq.{take-append_seam, drop-append_seam}
use Rattle.syntax.specs.declared.token.Spanned.{Spanned}
use Rattle.syntax.specs.declared.token.Mark.{Mark}
use Rattle.syntax.specs.declared.token.Mark.TheVariants.{Comma}
use Rattle.syntax.specs.declared.lexer.Unread.{Unread}
use Rattle.syntax.specs.declared.lexer.Unread.TheVariants.{NotACharacter, NumberTooLarge, OutOfMemory}
use Rattle.syntax.specs.Canonical.{indent}
use Rattle.syntax.specs.Refusals.{TellsUnread}
use Rattle.syntax.specs.Lexical.{begins_comment, begins_name, is_blank, is_in_line, letters, mark_text, number_of, starts, token_of}
use Rattle.syntax.specs.Lexical.{AreCut, AreTokensOf, MayStand}
use Rattle.syntax.specs.Lexical.{Begins, Piece, BlankPiece, CommentPiece, NamePiece, NumberPiece, WordPiece, MarkPiece}
use Rattle.std.specs.Char.{is_ascii_digit}
use Rattle.syntax.specs.Token.{Token, NameToken, NumberToken, WordToken, MarkToken, plain, token}
use Rattle.syntax.proofs.LexicalLemmas.{cut_at, passes_at, stops_at}
use Rattle.syntax.proofs.Pieces.{no_reading, one_piece, one_reading, piece_is_some}
use Rattle.layout.specs.declared.writer.LayoutWriter.{LayoutWriter}
use Rattle.layout.specs.Laid.{behind, end_text, laid_from, laid_pieces, token_written, written}
use Rattle.layout.specs.Kept.{IsLaidOut}
use Rattle.layout.specs.Spot.{Spot, behind_token, first, spot}
use Rattle.layout.specs.Writing.{Adds, GoesOn, Passes, with_rest}

-- for all pieces into which a text is cut, it starts with this piece, and the layout continues
-- after it
pub record BeginsWith (q : Piece) (ps : List Piece) (rest : List ℕ) : Type 0 where
  pub more : List Piece
  pub parts : ps ≡ q ∷ more
  pub cut : AreCut rest more []

pub begins_with : (q : Piece) (text rest : List ℕ) → Begins text q rest → (ps : List Piece) → AreCut text ps [] → BeginsWith q ps rest
begins_with q text rest begins [] cut = absurd (piece_is_some q rest begins.fits (sym begins.spelled ∙ cut))
begins_with q text rest begins (p ∷ ps) cut =
    let same = one_piece text p q cut.0 rest cut.1 begins in
    record { more = ps; parts = ap (λ x. x ∷ ps) same.0; cut = subst (λ t. AreCut t ps []) same.1 cut.2 }

laid_piece : (q : Piece) (more : List Piece) (out out' : List ℕ) (at at' : Spot) → out' ≡ out ++ written at q → at' ≡ behind at q
    → out' ++ laid_from at' more ≡ out ++ laid_from at (q ∷ more)
unfolding laid_from
laid_piece q more out out' at at' text there =
    ap (λ l. l ++ laid_from at' more) text ∙ ap (λ s. (out ++ written at q) ++ laid_from s more) there
    ∙ append_assoc out (written at q) (laid_from (behind at q) more)

-- a piece that has no token was passed
pub passes : (q : Piece) (text rest : List ℕ) (old new : LayoutWriter) → Begins text q rest → token_of q ≡ []
    → Adds old new (written (spot old.spot) q) (behind (spot old.spot) q) → Passes old text new rest
passes q text rest old new begins none added ps cut =
    let first = begins_with q text rest begins ps cut in
    record {
      pieces = first.more;
      cut = first.cut;
      tokens = sym (ap (flat_map token_of) first.parts ∙ ap (λ l. l ++ flat_map token_of first.more) none);
      laid = laid_piece q first.more old.out.items new.out.items (spot old.spot) (spot new.spot) added.text added.there
          ∙ ap (with_rest old) (sym first.parts);
    }

-- a writer of a layout stays one if it passes text without tokens
pub goes_on : (whole : List ℕ) (ts : List Token) (old new : LayoutWriter) (text rest : List ℕ) → GoesOn whole ts old text
    → Passes old text new rest → GoesOn whole ts new rest
goes_on whole ts old new text rest going passed =
    subst (λ l. GoesOn l ts new rest) going.laid
    (subst (λ us. GoesOn (with_rest old going.pieces) us new rest) going.tokens (passed going.pieces going.cut))

-- what was passed, and what is passed after that
pub passes_more : (old mid new : LayoutWriter) (text between rest : List ℕ) → Passes old text mid between → Passes mid between new rest
    → Passes old text new rest
passes_more old mid new text between rest one two ps cut =
    goes_on (with_rest old ps) (flat_map token_of ps) mid new between rest (one ps cut) two

-- ---- tokens

-- the first token of a text belongs to its first piece, if that is no whitespace and no comment
pub record FirstToken (text : List ℕ) (t : Token) (ts : List Token) (ps : List Piece) : Type 0 where
  pub piece : Piece
  pub rest : List ℕ
  pub more : List Piece
  pub begins : Begins text piece rest
  pub token : token_of piece ≡ t ∷ []
  pub parts : ps ≡ piece ∷ more
  pub cut : AreCut rest more []
  pub tokens : flat_map token_of more ≡ ts

tail_same : (s t : Token) (ss ts : List Token) → s ∷ ss ≡ t ∷ ts → (s ≡ t) × (ss ≡ ts)
tail_same s t ss ts e = (cc, cc)

comment_begins : (cs rest : List ℕ) → begins_comment (letters (CommentPiece cs) ++ rest) ≡ true
comment_begins cs rest = refl

first_is : (text : List ℕ) (t s : Token) (ts : List Token) (p : Piece) (ps : List Piece) (b : List ℕ) → Begins text p b
    → token_of p ≡ s ∷ [] → AreCut b ps [] → s ∷ flat_map token_of ps ≡ t ∷ ts → FirstToken text t ts (p ∷ ps)
first_is text t s ts p ps b begins is cut e =
    let same = tail_same s t (flat_map token_of ps) ts e in
    record {
      piece = p;
      rest = b;
      more = ps;
      begins = begins;
      token = is ∙ ap (λ x. x ∷ []) same.0;
      parts = refl;
      cut = cut;
      tokens = same.1;
    }

pub first_token : (text : List ℕ) (t : Token) (ts : List Token) (ps : List Piece) → starts is_blank text ≡ false
    → begins_comment text ≡ false → AreCut text ps [] → flat_map token_of ps ≡ t ∷ ts → FirstToken text t ts ps
first_token text t ts [] no_blank no_comment cut e = cc
first_token text t ts (BlankPiece c ∷ ps) no_blank no_comment cut e =
    absurd (false≢true (sym no_blank ∙ ap (starts is_blank) cut.1.spelled ∙ cut.1.fits))
first_token text t ts (CommentPiece cs ∷ ps) no_blank no_comment cut e =
    absurd (false≢true (sym no_comment ∙ ap begins_comment cut.1.spelled ∙ comment_begins cs cut.0))
first_token text t ts (NamePiece cs ∷ ps) no_blank no_comment cut e = first_is text t _ ts _ ps cut.0 cut.1 refl cut.2 e
first_token text t ts (NumberPiece cs ∷ ps) no_blank no_comment cut e = first_is text t _ ts _ ps cut.0 cut.1 refl cut.2 e
first_token text t ts (WordPiece w ∷ ps) no_blank no_comment cut e = first_is text t _ ts _ ps cut.0 cut.1 refl cut.2 e
first_token text t ts (MarkPiece m ∷ ps) no_blank no_comment cut e = first_is text t _ ts _ ps cut.0 cut.1 refl cut.2 e

-- the output for a piece that has a token
pub written_token : (at : Spot) (p : Piece) (t : Token) → token_of p ≡ t ∷ [] → written at p ≡ token_written at t (letters p)
written_token at (BlankPiece c) t e = cc
written_token at (CommentPiece cs) t e = cc
written_token at (NamePiece cs) t e = let same : NameToken cs ≡ t = cc in ap (λ s. token_written at s cs) same
written_token at (NumberPiece cs) t e = let same : NumberToken (number_of cs) ≡ t = cc in ap (λ s. token_written at s cs) same
written_token at (WordPiece w) t e = let same : WordToken w ≡ t = cc in ap (λ s. token_written at s (letters (WordPiece w))) same
written_token at (MarkPiece m) t e = let same : MarkToken m ≡ t = cc in ap (λ s. token_written at s (letters (MarkPiece m))) same

-- the spot of the layout after the piece
pub behind_piece : (at : Spot) (p : Piece) (t : Token) → token_of p ≡ t ∷ [] → behind at p ≡ behind_token at t
behind_piece at (BlankPiece c) t e = cc
behind_piece at (CommentPiece cs) t e = cc
behind_piece at (NamePiece cs) t e = let same : NameToken cs ≡ t = cc in ap (behind_token at) same
behind_piece at (NumberPiece cs) t e = let same : NumberToken (number_of cs) ≡ t = cc in ap (behind_token at) same
behind_piece at (WordPiece w) t e = let same : WordToken w ≡ t = cc in ap (behind_token at) same
behind_piece at (MarkPiece m) t e = let same : MarkToken m ≡ t = cc in ap (behind_token at) same

-- a token was written
pub token_passed : (whole text : List ℕ) (t : Token) (ts : List Token) (old new : LayoutWriter) (going : GoesOn whole (t ∷ ts) old text)
    (first : FirstToken text t ts going.pieces)
    → Adds old new (token_written (spot old.spot) t (letters first.piece)) (behind_token (spot old.spot) t)
    → GoesOn whole ts new first.rest
token_passed whole text t ts old new going first added = record {
  pieces = first.more;
  cut = first.cut;
  tokens = first.tokens;
  laid = laid_piece first.piece first.more old.out.items new.out.items (spot old.spot) (spot new.spot)
      (added.text ∙ ap (λ l. old.out.items ++ l) (sym (written_token (spot old.spot) first.piece t first.token)))
      (added.there ∙ sym (behind_piece (spot old.spot) first.piece t first.token))
      ∙ ap (with_rest old) (sym first.parts) ∙ going.laid;
}

-- the letters of a token are removed from the text
module _ (text : List ℕ) (t : Token) (ts : List Token) (ps : List Piece) (first_of : FirstToken text t ts ps) (n : ℕ)
    (long : n ≡ length (letters first_of.piece)) where
  pub within_text : n ≤ length text
  within_text = omega (arith, long, ap length first_of.begins.spelled, length-append (letters first_of.piece) first_of.rest)

  pub letters_taken : take n text ≡ letters first_of.piece
  letters_taken =
      ap (λ k. take k text) long ∙ ap (λ l. take (length (letters first_of.piece)) l) first_of.begins.spelled
      ∙ take-append_seam (letters first_of.piece) first_of.rest

  pub rest_left : drop n text ≡ first_of.rest
  rest_left =
      ap (λ k. drop k text) long ∙ ap (λ l. drop (length (letters first_of.piece)) l) first_of.begins.spelled
      ∙ drop-append_seam (letters first_of.piece) first_of.rest

-- a token has letters
some_start : (q : ℕ → Bool) (cs : List ℕ) → starts q cs ≡ true → 0 < length cs
some_start q [] e = absurd (false≢true e)
some_start q (c ∷ cs) e = omega arith

some_mark : (m : Mark) → 0 < length (mark_text m)
some_mark Comma = lit< tt
some_mark _ = lit< tt

not_nothing : (cs : List ℕ) → (cs ++ [] ≡ [] → ⊥) → 0 < length cs
not_nothing [] h = absurd (h refl)
not_nothing (c ∷ cs) h = omega arith

pub some_letters : (p : Piece) (rest : List ℕ) (t : Token) → MayStand p rest → token_of p ≡ t ∷ [] → 0 < length (letters p)
some_letters (BlankPiece c) rest t fits e = cc
some_letters (CommentPiece cs) rest t fits e = cc
some_letters (NamePiece cs) rest t fits e = some_start begins_name cs fits.begins
some_letters (NumberPiece cs) rest t fits e = some_start is_ascii_digit cs fits.begins
some_letters (WordPiece w) rest t fits e = not_nothing (letters (WordPiece w)) (piece_is_some (WordPiece w) [] refl)
some_letters (MarkPiece m) rest t fits e = some_mark m

-- ---- comments

comment_text : (text : List ℕ) → begins_comment text ≡ true → text ≡ 47 ∷ 47 ∷ drop 2 text
comment_text [] e = absurd (false≢true e)
comment_text (c ∷ []) e = absurd (false≢true e)
comment_text (c ∷ d ∷ cs) e =
    let both = and_parts (c == 47) (d == 47) e in
    ap (λ x. x ∷ d ∷ cs) (eqb-true c 47 both.0) ∙ ap (λ x. 47 ∷ x ∷ cs) (eqb-true d 47 both.1)

pub comment_first : (text after line left : List ℕ) (n : ℕ) → begins_comment text ≡ true → after ≡ drop 2 text
    → n ≡ prefix_len is_in_line after → line ≡ take n after → left ≡ drop n after → Begins text (CommentPiece line) left
comment_first text after line left n begins after_is n_is line_is left_is = record {
  spelled = comment_text text begins
      ∙ ap (λ l. 47 ∷ 47 ∷ l) (sym after_is ∙ cut_at n after line left line_is left_is);
  fits = (passes_at is_in_line n after line n_is line_is, stops_at is_in_line n after left n_is left_is);
}

-- ---- all tokens

-- at the start the whole text remains
pub goes_from_first : (text : List ℕ) (ts : List Token) (w : LayoutWriter) → AreTokensOf text ts → w.out.items ≡ [] → spot w.spot ≡ first
    → (ps : List Piece) → AreCut text ps [] → GoesOn (laid_pieces ps) ts w text
goes_from_first text ts w read nothing there ps cut = record {
  pieces = ps;
  cut = cut;
  tokens = one_reading text (flat_map token_of ps) ts (record { pieces = ps; cut = cut; tokens = refl }) read;
  laid = ap (λ l. l ++ laid_from (spot w.spot) ps) nothing ∙ ap (λ s. laid_from s ps) there;
}

-- what remains starts with the next token
pub next_left : (tokens : List Spanned) (i : ℕ) (s : Spanned) → i < length tokens → s ≡ get_or tokens i s
    → plain (drop i tokens) ≡ token s.token ∷ plain (drop (i + 1) tokens)
next_left tokens i s within there = ap plain (drop_more tokens i s within ∙ ap (λ (x : Spanned). x ∷ drop (i + 1) tokens) (sym there))

no_more : (text : List ℕ) (ps : List Piece) → starts is_blank text ≡ false → begins_comment text ≡ false → AreCut text ps []
    → flat_map token_of ps ≡ [] → ps ≡ []
no_more text [] no_blank no_comment cut e = refl
no_more text (BlankPiece c ∷ ps) no_blank no_comment cut e =
    absurd (false≢true (sym no_blank ∙ ap (starts is_blank) cut.1.spelled ∙ cut.1.fits))
no_more text (CommentPiece cs ∷ ps) no_blank no_comment cut e =
    absurd (false≢true (sym no_comment ∙ ap begins_comment cut.1.spelled ∙ comment_begins cs cut.0))
no_more text (NamePiece cs ∷ ps) no_blank no_comment cut e = cc
no_more text (NumberPiece cs ∷ ps) no_blank no_comment cut e = cc
no_more text (WordPiece w ∷ ps) no_blank no_comment cut e = cc
no_more text (MarkPiece m ∷ ps) no_blank no_comment cut e = cc

-- after the last token the line is ended
pub all_laid : (whole rest out : List ℕ) (ts : List Token) (w : LayoutWriter) → ts ≡ [] → GoesOn whole ts w rest
    → starts is_blank rest ≡ false → begins_comment rest ≡ false → out ≡ w.out.items ++ end_text w.spot.last → out ≡ whole
unfolding laid_from
all_laid whole rest out ts w none going no_blank no_comment ended =
    let nothing = no_more rest going.pieces no_blank no_comment going.cut (going.tokens ∙ none) in
    ended ∙ sym (ap (with_rest w) nothing) ∙ going.laid

-- a text that has tokens can be read
pub only_memory : (text : List ℕ) (ts : List Token) (unread : Unread) → AreTokensOf text ts → TellsUnread text unread
    → unread ≡ OutOfMemory
only_memory text ts (NotACharacter left) read told = absurd (no_reading text _ ts told.stops read)
only_memory text ts (NumberTooLarge left) read told = absurd (no_reading text _ ts told.stops read)
only_memory text ts OutOfMemory read told = refl

-- ---- indentation

abbrev spaces : ℕ → List ℕ
spaces n = replicate n 32

abbrev pub two_spaces : List ℕ
two_spaces = 32 ∷ 32 ∷ []

spaces-more : (n : ℕ) → spaces n ++ two_spaces ≡ spaces (n + 2)
spaces-more zero = refl
spaces-more (suc n) =
    let next : suc (n + 2) ≡ suc n + 2 = omega arith in
    ap (λ l. 32 ∷ l) (spaces-more n) ∙ ap spaces next

-- one level more
pub indent-more : (out : List ℕ) (k : ℕ) → (out ++ indent k) ++ two_spaces ≡ out ++ indent (k + 1)
indent-more out k =
    let next : 2 * k + 2 ≡ 2 * (k + 1) = omega arith in
    append_assoc out (indent k) two_spaces ∙ ap (λ l. out ++ l) (spaces-more (2 * k) ∙ ap spaces next)

-- ---- texts

-- the text of characters that are formatted
pub laid_chars : (text characters laid bytes : List ℕ) → characters ≡ text → IsLaidOut characters laid → IsUtf8 bytes
    → bytes ≡ encodes laid → IsLaidOut text (chars bytes)
laid_chars text characters laid bytes same is utf8 written ps cut =
    sym (chars_from_encodes laid bytes utf8 (sym written)) ∙ is ps (subst (λ t. AreCut t ps []) (sym same) cut)

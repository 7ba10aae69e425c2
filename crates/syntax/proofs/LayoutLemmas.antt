-- The tokens of the formatted text of some tokens are these tokens.
use Rattle.std.proofs.Common.{◌≡◌, ◌≢◌, ◌≤◌, ◌<◌, ◌+◌, ◌-◌, ◌*◌, ℕ, zero, suc, Bool, true, false, if◌then◌else◌, ◌&&◌}
use Rattle.std.proofs.Common.{◌||◌, List, [], ◌∷◌, ◌++◌, codes, replicate, length, fold, Option, Some, None}
use Rattle.std.proofs.Common.{refl, ap, subst, ◌∙◌, arith}
use Rattle.std.specs.Char.{is_ascii_digit, digit_value}
use Rattle.std.specs.Fmt.{decimal}
use Rattle.std.specs.List.{list_all, flat_map}
use Rattle.std.specs.Option.{option_map}
use Rattle.std.specs.Str.Parse.{AllDigits, digits_value_after}
use Rattle.std.proofs.lemmas.Bool.{and_parts, or_parts}
use Rattle.std.proofs.lemmas.Bool.Decides.{nat_tests}
use Rattle.std.proofs.lemmas.List.Folds.{list_all-append}
use Rattle.std.proofs.lemmas.Fmt.{decimal_is_IsNumeral}
use Rattle.std.proofs.lemmas.Str.Parse.{digit_from_value}
use Rattle.syntax.specs.declared.token.Word.{Word}
use Rattle.syntax.specs.declared.token.Word.TheVariants.{Else as WordElse, Len as WordLen, Rescue as WordRescue}
use Rattle.syntax.specs.declared.token.Mark.{Mark}
use Rattle.syntax.specs.declared.token.Mark.TheVariants.{LeftParen, RightParen, LeftBrace, RightBrace, LeftBracket}
use Rattle.syntax.specs.declared.token.Mark.TheVariants.{RightBracket, Comma, Semicolon, Minus}
use Rattle.syntax.specs.Canonical.{Place, laid, next, before}
use Rattle.syntax.specs.declared.token.Left.{Left}
use Rattle.syntax.specs.declared.token.Left.TheVariants.{Margin, Opening, Called, Operand, Ended, Other}
use Rattle.syntax.specs.Canonical.{space, left_by, left_by_mark, token_text, begins_line}
use Rattle.syntax.specs.Canonical.{begins_statement, indentation, is_closing, is_opening, line_end, line_start}
use Rattle.syntax.specs.Canonical.{canonical, statement_margin, plain_margin}
use Rattle.syntax.specs.Lexical.{word_text, is_blank, begins_name, is_in_name, starts}
use Rattle.syntax.specs.Lexical.{number_of, Piece, BlankPiece, CommentPiece, NamePiece, NumberPiece, WordPiece}
use Rattle.syntax.specs.Lexical.{MarkPiece, letters, token_of, IsNumber, IsMark, MayStand, AreCut, AreTokensOf}
use Rattle.syntax.specs.Token.{Token, NameToken, NumberToken, WordToken, MarkToken}
use Rattle.syntax.specs.Spelling.{spelling}
use Rattle.syntax_tree.specs.Tree.{Program}
use Rattle.syntax.proofs.MarkLemmas.{IsNeither, bracket_stands, minus_stands, paren_stands, quiet_mark}

-- white space

pub blanks : (k : ℕ) → list_all is_blank (replicate k 32) ≡ true
blanks zero = refl
blanks (suc k) = blanks k

both_blank : (xs ys : List ℕ) → list_all is_blank xs ≡ true → list_all is_blank ys ≡ true → list_all is_blank (xs ++ ys) ≡ true
both_blank xs ys e f = list_all-append is_blank xs ys ∙ ap (λ b. b && list_all is_blank ys) e ∙ f

either_blank : (b : Bool) (xs ys : List ℕ) → list_all is_blank xs ≡ true → list_all is_blank ys ≡ true
    → list_all is_blank (if b then xs else ys) ≡ true
either_blank true xs ys e f = e
either_blank false xs ys e f = f

indentation_blank : (d : ℕ) (t : Token) → list_all is_blank (indentation d t) ≡ true
indentation_blank d (MarkToken RightBrace) = blanks (2 * (d - 1))
indentation_blank d _ = blanks (2 * d)

margin_blank : (n : Option ℕ) → n ≡ None → (b : Bool) → list_all is_blank (if b then statement_margin n else plain_margin n) ≡ true
margin_blank None e true = refl
margin_blank None e false = refl
margin_blank (Some n) e b = cc

pub line_end_blank : (left : Left) → list_all is_blank (line_end left) ≡ true
line_end_blank Ended = refl
line_end_blank _ = refl

space_blank : (left : Left) (t : Token) → list_all is_blank (space left t) ≡ true
space_blank Margin t = either_blank (is_closing t) [] (codes " ") refl refl
space_blank Opening t = refl
space_blank Called t = either_blank (is_closing t || is_opening t) [] (codes " ") refl refl
space_blank Operand t = either_blank (is_closing t) [] (codes " ") refl refl
space_blank Ended t = either_blank (is_closing t) [] (codes " ") refl refl
space_blank Other t = either_blank (is_closing t) [] (codes " ") refl refl

pub before_blank : (at : Place) (t : Token) → at.label ≡ None → list_all is_blank (before at t) ≡ true
before_blank at t none =
    let margin = if begins_statement t then statement_margin at.label else plain_margin at.label in
    let start = both_blank margin (indentation at.depth t) (margin_blank at.label none (begins_statement t))
    (indentation_blank at.depth t) in
    either_blank (begins_line at.left t) _ _ (both_blank (line_end at.left) (line_start at t) (line_end_blank at.left) start)
    (space_blank at.left t)

pub label_none : (n : Option ℕ) → n ≡ None → (b : Bool) → (if b then option_map (λ k. k + 1) n else n) ≡ None
label_none n e true = ap (option_map (λ k. k + 1)) e
label_none n e false = e

-- what is separated

-- what is to the left is no opening, and ended no line
abbrev IsApart : Left → Type 0
IsApart Called = Unit {0}
IsApart Operand = Unit {0}
IsApart Other = Unit {0}
IsApart _ = ⊥

word_apart : (left : Left) (w : Word) → IsApart (left_by left (WordToken w))
word_apart left WordLen = tt
word_apart left _ = tt

mark_no_letter : (d : ℕ) (n : Option ℕ) (left : Left) (m : Mark) (ts : List Token) → IsApart left
    → starts is_in_name (laid (record { depth = d; label = n; left = left }) (MarkToken m ∷ ts)) ≡ false
unfolding laid
mark_no_letter d n Called Comma ts a = refl
mark_no_letter d n Called _ ts a = refl
mark_no_letter d n Operand Comma ts a = refl
mark_no_letter d n Operand _ ts a = refl
mark_no_letter d n Other Comma ts a = refl
mark_no_letter d n Other _ ts a = refl
mark_no_letter d n Margin m ts a = absurd a
mark_no_letter d n Opening m ts a = absurd a
mark_no_letter d n Ended m ts a = absurd a

no_letter : (d : ℕ) (n : Option ℕ) (left : Left) (ts : List Token) → IsApart left
    → starts is_in_name (laid (record { depth = d; label = n; left = left }) ts) ≡ false
unfolding laid
no_letter d n Called [] a = refl
no_letter d n Called (NameToken x ∷ ts) a = refl
no_letter d n Called (NumberToken k ∷ ts) a = refl
no_letter d n Called (WordToken w ∷ ts) a = refl
no_letter d n Called (MarkToken m ∷ ts) a = mark_no_letter d n Called m ts a
no_letter d n Operand [] a = refl
no_letter d n Operand (NameToken x ∷ ts) a = refl
no_letter d n Operand (NumberToken k ∷ ts) a = refl
no_letter d n Operand (WordToken w ∷ ts) a = refl
no_letter d n Operand (MarkToken m ∷ ts) a = mark_no_letter d n Operand m ts a
no_letter d n Other [] a = refl
no_letter d n Other (NameToken x ∷ ts) a = refl
no_letter d n Other (NumberToken k ∷ ts) a = refl
no_letter d n Other (WordToken w ∷ ts) a = refl
no_letter d n Other (MarkToken m ∷ ts) a = mark_no_letter d n Other m ts a
no_letter d n Margin ts a = absurd a
no_letter d n Opening ts a = absurd a
no_letter d n Ended ts a = absurd a

-- what follows a mark that is no opening starts with no `=` and no `/`

abbrev IsQuiet : Left → Type 0
IsQuiet Operand = Unit {0}
IsQuiet Ended = Unit {0}
IsQuiet Other = Unit {0}
IsQuiet _ = ⊥

mark_laid_is_neither : (d : ℕ) (n : Option ℕ) (left : Left) (m : Mark) (ts : List Token) → IsQuiet left
    → IsNeither (laid (record { depth = d; label = n; left = left }) (MarkToken m ∷ ts))
unfolding laid
mark_laid_is_neither d n Operand Comma ts a = (refl, refl)
mark_laid_is_neither d n Operand _ ts a = (refl, refl)
mark_laid_is_neither d n Other Comma ts a = (refl, refl)
mark_laid_is_neither d n Other _ ts a = (refl, refl)
mark_laid_is_neither d n Ended m ts a = (refl, refl)
mark_laid_is_neither d n Margin m ts a = absurd a
mark_laid_is_neither d n Opening m ts a = absurd a
mark_laid_is_neither d n Called m ts a = absurd a

word_laid_is_neither : (d : ℕ) (n : Option ℕ) (w : Word) (ts : List Token)
    → IsNeither (laid (record { depth = d; label = n; left = Ended }) (WordToken w ∷ ts))
unfolding laid
word_laid_is_neither d n WordElse ts = (refl, refl)
word_laid_is_neither d n WordRescue ts = (refl, refl)
word_laid_is_neither d n _ ts = (refl, refl)

laid_is_neither : (d : ℕ) (n : Option ℕ) (left : Left) (ts : List Token) → IsQuiet left
    → IsNeither (laid (record { depth = d; label = n; left = left }) ts)
unfolding laid
laid_is_neither d n Operand [] a = (refl, refl)
laid_is_neither d n Operand (NameToken x ∷ ts) a = (refl, refl)
laid_is_neither d n Operand (NumberToken k ∷ ts) a = (refl, refl)
laid_is_neither d n Operand (WordToken w ∷ ts) a = (refl, refl)
laid_is_neither d n Operand (MarkToken m ∷ ts) a = mark_laid_is_neither d n Operand m ts a
laid_is_neither d n Other [] a = (refl, refl)
laid_is_neither d n Other (NameToken x ∷ ts) a = (refl, refl)
laid_is_neither d n Other (NumberToken k ∷ ts) a = (refl, refl)
laid_is_neither d n Other (WordToken w ∷ ts) a = (refl, refl)
laid_is_neither d n Other (MarkToken m ∷ ts) a = mark_laid_is_neither d n Other m ts a
laid_is_neither d n Ended [] a = (refl, refl)
laid_is_neither d n Ended (NameToken x ∷ ts) a = (refl, refl)
laid_is_neither d n Ended (NumberToken k ∷ ts) a = (refl, refl)
laid_is_neither d n Ended (WordToken w ∷ ts) a = word_laid_is_neither d n w ts
laid_is_neither d n Ended (MarkToken m ∷ ts) a = mark_laid_is_neither d n Ended m ts a
laid_is_neither d n Margin ts a = absurd a
laid_is_neither d n Opening ts a = absurd a
laid_is_neither d n Called ts a = absurd a

-- marks

mark_stands : (d : ℕ) (n : Option ℕ) (left : Left) (m : Mark) (ts : List Token)
    → IsMark m (laid (record { depth = d; label = n; left = left_by_mark left m }) ts)
mark_stands d n left LeftParen ts = paren_stands _
mark_stands d n left LeftBracket ts = bracket_stands _
mark_stands d n left RightParen ts = quiet_mark RightParen _ (laid_is_neither d n Operand ts tt)
mark_stands d n left RightBracket ts = quiet_mark RightBracket _ (laid_is_neither d n Operand ts tt)
mark_stands d n left Semicolon ts = quiet_mark Semicolon _ (laid_is_neither d n Ended ts tt)
mark_stands d n left LeftBrace ts = quiet_mark LeftBrace _ (laid_is_neither d n Ended ts tt)
mark_stands d n left RightBrace ts = quiet_mark RightBrace _ (laid_is_neither d n Ended ts tt)
mark_stands d n Called Minus ts = quiet_mark Minus _ (laid_is_neither d n Other ts tt)
mark_stands d n Operand Minus ts = quiet_mark Minus _ (laid_is_neither d n Other ts tt)
mark_stands d n Margin Minus ts = minus_stands _
mark_stands d n Opening Minus ts = minus_stands _
mark_stands d n Ended Minus ts = minus_stands _
mark_stands d n Other Minus ts = minus_stands _
mark_stands d n left m ts = quiet_mark m _ (laid_is_neither d n Other ts tt)

-- numbers

in_digits : (c : ℕ) → digit_value c < 10 → is_ascii_digit c ≡ true
in_digits c h = let r = digit_from_value c h in grind (arith, nat_tests)

all_digits : (ds : List ℕ) → AllDigits 10 ds → list_all is_ascii_digit ds ≡ true
all_digits [] h = refl
all_digits (c ∷ cs) h = ap (λ b. b && list_all is_ascii_digit cs) (in_digits c h.0) ∙ all_digits cs h.1

first_digit : (ds : List ℕ) → 0 < length ds → AllDigits 10 ds → starts is_ascii_digit ds ≡ true
first_digit [] some h = absurd (omega arith)
first_digit (c ∷ cs) some h = in_digits c h.0

number_is : (ds : List ℕ) (k : ℕ) → fold (λ n c. n * 10 + digit_value c) k ds ≡ digits_value_after 10 k ds
number_is [] k = refl
number_is (c ∷ cs) k = number_is cs (k * 10 + digit_value c)

no_digit : (cs : List ℕ) → starts is_in_name cs ≡ false → starts is_ascii_digit cs ≡ false
no_digit [] e = refl
no_digit (c ∷ cs) e = (or_parts (begins_name c) (is_ascii_digit c) e).1

-- the tokens that a text can have

-- letters that are a name: they start and continue like a name, and are no reserved word
pub record AreName (cs : List ℕ) : Type 0 where
  pub begins : starts begins_name cs ≡ true
  pub in_name : list_all is_in_name cs ≡ true
  pub no_word : (word : Word) → word_text word ≢ cs

-- names are names, and numbers are not too large
abbrev pub IsWritable : Token → Type 0
IsWritable (NameToken x) = AreName x
IsWritable (NumberToken n) = n ≤ 9223372036854775807
IsWritable (WordToken w) = Unit {0}
IsWritable (MarkToken m) = Unit {0}

abbrev pub AreWritable : List Token → Type 0
AreWritable [] = Unit {0}
AreWritable (t ∷ ts) = IsWritable t × AreWritable ts

cut_writable : (ps : List Piece) (text rest : List ℕ) → AreCut text ps rest → AreWritable (flat_map token_of ps)
cut_writable [] text rest cut = tt
cut_writable (BlankPiece c ∷ ps) text rest cut = cut_writable ps cut.0 rest cut.2
cut_writable (CommentPiece cs ∷ ps) text rest cut = cut_writable ps cut.0 rest cut.2
cut_writable (NamePiece cs ∷ ps) text rest cut =
    let fits = cut.1.fits in
    (record { begins = fits.begins; in_name = fits.in_name; no_word = fits.no_word }, cut_writable ps cut.0 rest cut.2)
cut_writable (NumberPiece cs ∷ ps) text rest cut = (cut.1.fits.fits, cut_writable ps cut.0 rest cut.2)
cut_writable (WordPiece w ∷ ps) text rest cut = (tt, cut_writable ps cut.0 rest cut.2)
cut_writable (MarkPiece m ∷ ps) text rest cut = (tt, cut_writable ps cut.0 rest cut.2)

-- the tokens of a text are writable
pub tokens_writable : (text : List ℕ) (ts : List Token) → AreTokensOf text ts → AreWritable ts
tokens_writable text ts has = subst AreWritable has.tokens (cut_writable has.pieces text [] has.cut)

-- texts, piece by piece

with_blanks : (bs text : List ℕ) (ts : List Token) → list_all is_blank bs ≡ true → AreTokensOf text ts → AreTokensOf (bs ++ text) ts
with_blanks [] text ts e has = has
with_blanks (b ∷ bs) text ts e has =
    let all = and_parts (is_blank b) (list_all is_blank bs) e in
    let behind = with_blanks bs text ts all.1 has in
    record {
      pieces = BlankPiece b ∷ behind.pieces;
      cut = (bs ++ text, record { spelled = refl; fits = all.0 }, behind.cut);
      tokens = behind.tokens;
    }

with_piece : (p : Piece) (t : Token) (text : List ℕ) (ts : List Token) → token_of p ≡ t ∷ [] → MayStand p text → AreTokensOf text ts
    → AreTokensOf (letters p ++ text) (t ∷ ts)
with_piece p t text ts e fits has = record {
  pieces = p ∷ has.pieces;
  cut = (text, record { spelled = refl; fits = fits }, has.cut);
  tokens = ap (λ l. l ++ flat_map token_of has.pieces) e ∙ ap (λ l. t ∷ l) has.tokens;
}

nothing_read : AreTokensOf [] []
nothing_read = record { pieces = []; cut = refl; tokens = refl }

with_token : (d : ℕ) (n : Option ℕ) (left : Left) (t : Token) (ts : List Token) → IsWritable t
    → AreTokensOf (laid (record { depth = d; label = n; left = left_by left t }) ts) ts
    → AreTokensOf (token_text t ++ laid (record { depth = d; label = n; left = left_by left t }) ts) (t ∷ ts)
with_token d n left (NameToken x) ts name has =
    with_piece (NamePiece x) (NameToken x) _ ts refl
    (record { begins = name.begins; in_name = name.in_name; ends = no_letter d n Called ts tt; no_word = name.no_word }) has
with_token d n left (NumberToken k) ts small has =
    let numeral = decimal_is_IsNumeral k (omega (arith, small)) in
    let value : number_of (decimal k) ≡ k = number_is (decimal k) 0 ∙ numeral.1 in
    let fits : IsNumber (decimal k) (laid (record { depth = d; label = n; left = Operand }) ts) = record {
      begins = first_digit (decimal k) numeral.0.0 numeral.0.1;
      digits = all_digits (decimal k) numeral.0.1;
      ends = no_digit (laid (record { depth = d; label = n; left = Operand }) ts) (no_letter d n Operand ts tt);
      fits = omega (arith, value, small);
    } in
    with_piece (NumberPiece (decimal k)) (NumberToken k) _ ts (ap (λ v. NumberToken v ∷ []) value) fits has
with_token d n left (WordToken w) ts fits has = with_piece (WordPiece w) (WordToken w) _ ts refl
    (no_letter d n (left_by left (WordToken w)) ts (word_apart left w)) has
with_token d n left (MarkToken m) ts fits has = with_piece (MarkPiece m) (MarkToken m) _ ts refl (mark_stands d n left m ts) has

end_read : (left : Left) → AreTokensOf (line_end left) []
end_read Ended = with_blanks (10 ∷ []) [] [] refl nothing_read
end_read _ = nothing_read

pub laid_tokens : (ts : List Token) (d : ℕ) (n : Option ℕ) (left : Left) → n ≡ None → AreWritable ts
    → AreTokensOf (laid (record { depth = d; label = n; left = left }) ts) ts
unfolding laid
laid_tokens [] d n left none fit = end_read left
laid_tokens (t ∷ ts) d n left none fit =
    let at : Place = record { depth = d; label = n; left = left } in
    let behind : Place = next at t in
    let rest = laid_tokens ts behind.depth behind.label behind.left (label_none n none (begins_line left t && begins_statement t)) fit.1 in
    with_blanks (before at t) _ (t ∷ ts) (before_blank at t none) (with_token behind.depth behind.label left t ts fit.0 rest)

-- the canonical text of what some text spells has the tokens of that text
pub canonical_tokens : (text : List ℕ) (p : Program) → AreTokensOf text (spelling p) → AreTokensOf (canonical p) (spelling p)
canonical_tokens text p has = laid_tokens (spelling p) 0 None Margin refl (tokens_writable text (spelling p) has)

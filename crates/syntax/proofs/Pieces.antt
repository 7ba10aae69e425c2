-- A text starts with at most one piece, so it is cut into pieces in one way.
use Rattle.std.proofs.Common.{◌≡◌, ℕ, ◌+◌, ◌*◌, ◌<◌, ◌≤◌, ◌⊎◌, inl, inr, map, ⊎_elim, Bool, true, false, cond, ◌&&◌, ◌||◌, ◌==◌, List, []}
use Rattle.std.proofs.Common.{◌∷◌, ◌++◌, length, take, drop, fold, refl, ap, sym, ◌∙◌, subst, arith}
use Rattle.std.specs.List.{prefix_len, list_all, flat_map}
use Rattle.std.specs.Char.{is_ascii_alphabetic, is_ascii_digit}
use Rattle.std.specs.Int.{is_in_range}
use Rattle.std.proofs.lemmas.List.{append_cancel_left, length-drop}
use Rattle.std.proofs.lemmas.List.Sums.{take_while-cons}
use Rattle.std.proofs.lemmas.Bool.{and_parts, or_cases, or_from, ne_eqb, eqb-true, leb-true, lt-leb, and_left}
use Rattle.std.proofs.lemmas.Bool.{and_right, false≢true, false_from_ne_true}
use Rattle.syntax.specs.declared.token.Word.{Word}
use Rattle.syntax.specs.declared.token.Word.TheVariants.{And, Array, As, Async, At, By, Byte, Else, False, Fault}
use Rattle.syntax.specs.declared.token.Word.TheVariants.{Finish, If, Int, Len, Main, Mut, Not, Or, Parts, Print, Proc}
use Rattle.syntax.specs.declared.token.Word.TheVariants.{Read, Rescue, Skip, Split, True, Var, While}
use Rattle.syntax.specs.declared.token.Mark.{Mark}
use Rattle.syntax.specs.declared.token.Mark.TheVariants.{LeftParen, RightParen, LeftBrace, RightBrace, LeftBracket}
use Rattle.syntax.specs.declared.token.Mark.TheVariants.{RightBracket, Comma, Semicolon, Colon, Becomes, Plus, Minus}
use Rattle.syntax.specs.declared.token.Mark.TheVariants.{Star, Slash, Percent, Less, AtMost, Greater, AtLeast, Equal}
use Rattle.syntax.specs.declared.token.Mark.TheVariants.{Differs}
use Rattle.syntax.specs.Token.{Token}
use Rattle.syntax.specs.Lexical.{word_text, mark_text, is_blank, begins_name, is_in_name, is_in_line, starts}
use Rattle.syntax.specs.Lexical.{begins_comment, number_of, Piece, BlankPiece, CommentPiece, NamePiece, NumberPiece}
use Rattle.syntax.specs.Lexical.{WordPiece, MarkPiece, letters, token_of, IsMark, MayStand, Begins, AreCut, AreTokensOf}
use Rattle.syntax.specs.Lexical.{BeginsNoPiece, BeginsLargeNumber, StopsAt}
use Rattle.syntax.proofs.MarkLemmas.{begins_none}

-- Words and marks are distinguished by their characters.

code : List ℕ → ℕ
code = fold (λ n c. n * 128 + c) 0

-- a word or a mark
abbrev fixed_text : Word ⊎ Mark → List ℕ
fixed_text (inl w) = word_text w
fixed_text (inr m) = mark_text m

abbrev fixed_with : ℕ → List (Word ⊎ Mark) → Word ⊎ Mark
fixed_with n [] = inl And
fixed_with n (f ∷ more) = cond (code (fixed_text f) == n) f (fixed_with n more)

abbrev more_words : List Word
more_words = Parts ∷ Print ∷ Proc ∷ Read ∷ Rescue ∷ Skip ∷ Split ∷ True ∷ Var ∷ While ∷ []

abbrev words : List Word
words = Array ∷ As ∷ Async ∷ At ∷ By ∷ Byte ∷ Else ∷ False ∷ Fault ∷ Finish ∷ If ∷ Int ∷ Len ∷ Main ∷ Mut ∷ Not ∷ Or ∷ more_words

abbrev more_marks : List Mark
more_marks = Plus ∷ Minus ∷ Star ∷ Slash ∷ Percent ∷ Less ∷ AtMost ∷ Greater ∷ AtLeast ∷ Equal ∷ Differs ∷ []

abbrev marks : List Mark
marks =
    LeftParen ∷ RightParen ∷ LeftBrace ∷ RightBrace ∷ LeftBracket ∷ RightBracket ∷ Comma ∷ Semicolon ∷ Colon ∷ Becomes ∷ more_marks

abbrev fixed_of : List ℕ → Word ⊎ Mark
fixed_of cs = fixed_with (code cs) (map inl words ++ map inr marks)

fixed_of-fixed_text : (f : Word ⊎ Mark) → fixed_of (fixed_text f) ≡ f
unfolding code
fixed_of-fixed_text (inl And) = refl
fixed_of-fixed_text (inl _) = refl
fixed_of-fixed_text (inr LeftParen) = refl
fixed_of-fixed_text (inr _) = refl

fixed_text-injective : (f g : Word ⊎ Mark) → fixed_text f ≡ fixed_text g → f ≡ g
fixed_text-injective f g same = sym (fixed_of-fixed_text f) ∙ ap fixed_of same ∙ fixed_of-fixed_text g

word_text-injective : (v w : Word) → word_text v ≡ word_text w → v ≡ w
word_text-injective v w same = cc (fixed_text-injective (inl v) (inl w) same)

mark_text-injective : (m n : Mark) → mark_text m ≡ mark_text n → m ≡ n
mark_text-injective m n same = cc (fixed_text-injective (inr m) (inr n) same)

-- a reserved word has the letters of a name
word_begins : (w : Word) → starts begins_name (word_text w) ≡ true
word_begins And = refl
word_begins _ = refl

pub word_in_name : (w : Word) → list_all is_in_name (word_text w) ≡ true
word_in_name And = refl
word_in_name _ = refl

-- What comes first, and its characters, determined by the text alone.

data Kind : Type 0 where
  IsBlank : Kind
  IsComment : Kind
  IsWord : Kind
  IsNumber : Kind
  IsOther : Kind

abbrev kind : Piece → Kind
kind (BlankPiece c) = IsBlank
kind (CommentPiece cs) = IsComment
kind (NumberPiece cs) = IsNumber
kind (MarkPiece m) = IsOther
kind _ = IsWord

record Look : Type 0 where
  kind : Kind
  front : List ℕ

abbrev looked : Kind → List ℕ → Look
looked k cs = record { kind = k; front = cs }

-- which of five cases, by what a text starts with
module _ {A : Type 0} (blank comment word number other : A) where
  abbrev by_first : Bool → Bool → Bool → Bool → A
  by_first true c n d = blank
  by_first false true n d = comment
  by_first false false true d = word
  by_first false false false true = number
  by_first false false false false = other

  by_first-blank : (b c n d : Bool) → b ≡ true → by_first b c n d ≡ blank
  by_first-blank b c n d e = ap (λ b. by_first b c n d) e

  by_first-word : (b c n d : Bool) → b ≡ false → c ≡ false → n ≡ true → by_first b c n d ≡ word
  by_first-word b c n d e f g = ap (λ b. by_first b c n d) e ∙ ap (λ c. by_first false c n d) f ∙ ap (λ n. by_first false false n d) g

  by_first-number : (b c n d : Bool) → b ≡ false → c ≡ false → n ≡ false → d ≡ true → by_first b c n d ≡ number
  by_first-number b c n d e f g h =
      ap (λ b. by_first b c n d) e ∙ ap (λ c. by_first false c n d) f ∙ ap (λ n. by_first false false n d) g
      ∙ ap (λ d. by_first false false false d) h

  by_first-other : (b c n d : Bool) → b ≡ false → c ≡ false → n ≡ false → d ≡ false → by_first b c n d ≡ other
  by_first-other b c n d e f g h =
      ap (λ b. by_first b c n d) e ∙ ap (λ c. by_first false c n d) f ∙ ap (λ n. by_first false false n d) g
      ∙ ap (λ d. by_first false false false d) h

abbrev front_of : (ℕ → Bool) → List ℕ → List ℕ
front_of p xs = take (prefix_len p xs) xs

abbrev one_first : List ℕ → List ℕ
one_first [] = []
one_first (c ∷ cs) = c ∷ []

abbrev behind_two : List ℕ → List ℕ
behind_two [] = []
behind_two (c ∷ []) = []
behind_two (c ∷ d ∷ cs) = cs

-- a mark that `=` makes longer
abbrev may_grow : ℕ → Bool
may_grow c = c == 60 || (c == 62 || (c == 61 || c == 33))

abbrev mark_first : List ℕ → List ℕ
mark_first [] = []
mark_first (c ∷ []) = c ∷ []
mark_first (c ∷ d ∷ cs) = cond (may_grow c && d == 61) (c ∷ d ∷ []) (c ∷ [])

look : List ℕ → Look
look text =
    by_first
    (looked IsBlank (one_first text))
    (looked IsComment (47 ∷ 47 ∷ front_of is_in_line (behind_two text)))
    (looked IsWord (front_of is_in_name text))
    (looked IsNumber (front_of is_ascii_digit text))
    (looked IsOther (mark_first text))
    (starts is_blank text)
    (begins_comment text)
    (starts begins_name text)
    (starts is_ascii_digit text)

-- characters that pass, followed by none that does, are the longest prefix that passes
front_is : (p : ℕ → Bool) (cs rest : List ℕ) → list_all p cs ≡ true → starts p rest ≡ false → front_of p (cs ++ rest) ≡ cs
front_is p [] [] all ends = refl
front_is p [] (c ∷ rest) all ends = take_while-cons p c rest ∙ ap (λ b. cond b (c ∷ front_of p rest) []) ends
front_is p (c ∷ cs) rest all ends =
    let parts = and_parts (p c) (list_all p cs) all in
    take_while-cons p c (cs ++ rest) ∙ ap (λ b. cond b (c ∷ front_of p (cs ++ rest)) []) parts.0
    ∙ ap (λ l. c ∷ l) (front_is p cs rest parts.1 ends)

pub starts-append : (q : ℕ → Bool) (cs rest : List ℕ) → starts q cs ≡ true → starts q (cs ++ rest) ≡ true
starts-append q [] rest begins = absurd (false≢true begins)
starts-append q (c ∷ cs) rest begins = begins

-- if one test passes what comes first, another test doesn't
starts-not : (q r : ℕ → Bool) (cs rest : List ℕ) → ((c : ℕ) → q c ≡ true → r c ≡ false) → starts q cs ≡ true → starts r (cs ++ rest) ≡ false
starts-not q r [] rest apart begins = absurd (false≢true begins)
starts-not q r (c ∷ cs) rest apart begins = apart c begins

begins_no_comment : (q : ℕ → Bool) (cs rest : List ℕ) → ((c : ℕ) → q c ≡ true → (c == 47) ≡ false) → starts q cs ≡ true
    → begins_comment (cs ++ rest) ≡ false
begins_no_comment q [] rest apart begins = absurd (false≢true begins)
begins_no_comment q (c ∷ cs) rest apart begins = begins_none c (cs ++ rest) (apart c begins)

in_range : (low high c : ℕ) → is_in_range low high c ≡ true → (low ≤ c) × (c ≤ high)
in_range low high c e =
    let parts = and_parts _ _ e in
    (leb-true low c parts.0, leb-true c high parts.1)

before_range : (low high c : ℕ) → c < low → is_in_range low high c ≡ false
before_range low high c less = and_left _ _ (lt-leb low c less)

above_is_no_blank : (c : ℕ) → 47 < c → is_blank c ≡ false
above_is_no_blank c more =
    or_from _ _ (ne_eqb c 32 (λ e. omega arith))
    (or_from _ _ (ne_eqb c 9 (λ e. omega arith))
    (or_from _ _ (ne_eqb c 13 (λ e. omega arith)) (ne_eqb c 10 (λ e. omega arith))))

letter_is_above : (c : ℕ) → begins_name c ≡ true → 64 < c
letter_is_above c e =
    ⊎_elim
    (λ letter. ⊎_elim (λ upper. omega (arith, in_range 65 90 c upper)) (λ lower. omega (arith, in_range 97 122 c lower))
    (or_cases (is_in_range 65 90 c) (is_in_range 97 122 c) letter))
    (λ underscore. omega (arith, eqb-true c 95 underscore))
    (or_cases (is_ascii_alphabetic c) (c == 95) e)

digit_is_above : (c : ℕ) → is_ascii_digit c ≡ true → 47 < c
digit_is_above c e = omega (arith, in_range 48 57 c e)

digit_begins_no_name : (c : ℕ) → is_ascii_digit c ≡ true → begins_name c ≡ false
digit_begins_no_name c e =
    let bounds = in_range 48 57 c e in
    or_from _ _ (or_from _ _ (before_range 65 90 c (omega arith)) (before_range 97 122 c (omega arith))) (ne_eqb c 95 (λ e. omega arith))

-- a word or a name that comes first is what the text determines
look-word : (cs rest : List ℕ) → starts begins_name cs ≡ true → list_all is_in_name cs ≡ true
    → starts is_in_name rest ≡ false → look (cs ++ rest) ≡ looked IsWord cs
unfolding look
look-word cs rest begins all ends =
    let no_blank = starts-not begins_name is_blank cs rest (λ c e. above_is_no_blank c (omega (arith, letter_is_above c e))) begins in
    let no_line = begins_no_comment begins_name cs rest (λ c e. ne_eqb c 47 (λ f. omega (arith, letter_is_above c e))) begins in
    by_first-word _ _ _ _ _ _ _ _ _ no_blank no_line (starts-append begins_name cs rest begins) ∙
    ap (looked IsWord) (front_is is_in_name cs rest all ends)

-- and so are digits
look-digits : (cs rest : List ℕ) → starts is_ascii_digit cs ≡ true → list_all is_ascii_digit cs ≡ true
    → starts is_ascii_digit rest ≡ false → look (cs ++ rest) ≡ looked IsNumber cs
unfolding look
look-digits cs rest begins all ends =
    let no_blank = starts-not is_ascii_digit is_blank cs rest (λ c e. above_is_no_blank c (digit_is_above c e)) begins in
    let no_line = begins_no_comment is_ascii_digit cs rest (λ c e. ne_eqb c 47 (λ f. omega (arith, digit_is_above c e))) begins in
    let no_name = starts-not is_ascii_digit begins_name cs rest digit_begins_no_name begins in
    by_first-number _ _ _ _ _ _ _ _ _ no_blank no_line no_name (starts-append is_ascii_digit cs rest begins) ∙
    ap (looked IsNumber) (front_is is_ascii_digit cs rest all ends)

record IsOtherFirst (text : List ℕ) : Type 0 where
  some : starts (λ c. true) text ≡ true
  blank : starts is_blank text ≡ false
  name : starts begins_name text ≡ false
  digit : starts is_ascii_digit text ≡ false

mark_is_other : (m : Mark) (rest : List ℕ) → IsOtherFirst (mark_text m ++ rest)
mark_is_other LeftParen rest = record { some = refl; blank = refl; name = refl; digit = refl }
mark_is_other _ rest = record { some = refl; blank = refl; name = refl; digit = refl }

lone_mark : (c : ℕ) (rest : List ℕ) → may_grow c ≡ false → mark_first (c ∷ rest) ≡ c ∷ []
lone_mark c [] e = refl
lone_mark c (d ∷ rest) e = ap (λ b. cond (b && d == 61) (c ∷ d ∷ []) (c ∷ [])) e

short_mark : (c : ℕ) (rest : List ℕ) → starts (λ d. d == 61) rest ≡ false → mark_first (c ∷ rest) ≡ c ∷ []
short_mark c [] e = refl
short_mark c (d ∷ rest) e = ap (λ b. cond b (c ∷ d ∷ []) (c ∷ [])) (and_right (may_grow c) (d == 61) e)

mark_is_first : (m : Mark) (rest : List ℕ) → IsMark m rest → mark_first (mark_text m ++ rest) ≡ mark_text m
mark_is_first Becomes rest fits = short_mark 61 rest (false_from_ne_true _ (λ e. fits.longest e Equal refl))
mark_is_first Less rest fits = short_mark 60 rest (false_from_ne_true _ (λ e. fits.longest e AtMost refl))
mark_is_first Greater rest fits = short_mark 62 rest (false_from_ne_true _ (λ e. fits.longest e AtLeast refl))
mark_is_first AtMost rest fits = refl
mark_is_first AtLeast rest fits = refl
mark_is_first Equal rest fits = refl
mark_is_first Differs rest fits = refl
mark_is_first _ rest fits = lone_mark _ rest refl

look-mark : (m : Mark) (rest : List ℕ) → IsMark m rest → look (mark_text m ++ rest) ≡ looked IsOther (mark_text m)
unfolding look
look-mark m rest fits =
    let other = mark_is_other m rest in
    by_first-other _ _ _ _ _ _ _ _ _ other.blank fits.no_comment other.name other.digit ∙ ap (looked IsOther) (mark_is_first m rest fits)

-- a piece that comes first is what the text determines
look-piece : (p : Piece) (rest : List ℕ) → MayStand p rest → look (letters p ++ rest) ≡ looked (kind p) (letters p)
unfolding look
look-piece (BlankPiece c) rest fits = by_first-blank _ _ _ _ _ _ _ _ _ fits
look-piece (CommentPiece cs) rest fits = ap (λ l. looked IsComment (47 ∷ 47 ∷ l)) (front_is is_in_line cs rest fits.0 fits.1)
look-piece (NamePiece cs) rest fits = look-word cs rest fits.begins fits.in_name fits.ends
look-piece (NumberPiece cs) rest fits = look-digits cs rest fits.begins fits.digits fits.ends
look-piece (WordPiece w) rest fits = look-word (word_text w) rest (word_begins w) (word_in_name w) fits
look-piece (MarkPiece m) rest fits = look-mark m rest fits

look-begins : (text : List ℕ) (p : Piece) (rest : List ℕ) → Begins text p rest → look text ≡ looked (kind p) (letters p)
look-begins text p rest begins = ap look begins.spelled ∙ look-piece p rest begins.fits

-- two pieces of one kind with the same characters are equal
same_piece : (p q : Piece) (r s : List ℕ) → MayStand p r → MayStand q s → kind p ≡ kind q → letters p ≡ letters q → p ≡ q
same_piece (BlankPiece c) (BlankPiece d) r s f g k l = cc
same_piece (CommentPiece cs) (CommentPiece ds) r s f g k l = cc
same_piece (NamePiece cs) (NamePiece ds) r s f g k l = ap NamePiece l
same_piece (NamePiece cs) (WordPiece w) r s f g k l = absurd (f.no_word w (sym l))
same_piece (WordPiece w) (NamePiece cs) r s f g k l = absurd (g.no_word w l)
same_piece (WordPiece v) (WordPiece w) r s f g k l = ap WordPiece (word_text-injective v w l)
same_piece (NumberPiece cs) (NumberPiece ds) r s f g k l = ap NumberPiece l
same_piece (MarkPiece m) (MarkPiece n) r s f g k l = ap MarkPiece (mark_text-injective m n l)
same_piece p q r s f g k l = cc

-- a text starts with at most one piece
pub one_piece : (text : List ℕ) (p q : Piece) (r s : List ℕ) → Begins text p r → Begins text q s → (p ≡ q) × (r ≡ s)
one_piece text p q r s b c =
    let looks = sym (look-begins text p r b) ∙ look-begins text q s c in
    let front : letters p ≡ letters q = ap (λ l. l.front) looks in
    let rest = sym b.spelled ∙ c.spelled ∙ ap (λ l. l ++ s) (sym front) in
    (same_piece p q r s b.fits c.fits (ap (λ l. l.kind) looks) front, append_cancel_left (letters p) r s rest)

some_stand : (q : ℕ → Bool) (cs rest : List ℕ) → starts q cs ≡ true → cs ++ rest ≡ [] → ⊥
some_stand q [] rest begins e = false≢true begins
some_stand q (c ∷ cs) rest begins e = cc

pub piece_is_some : (p : Piece) (rest : List ℕ) → MayStand p rest → letters p ++ rest ≡ [] → ⊥
piece_is_some (BlankPiece c) rest fits e = cc
piece_is_some (CommentPiece cs) rest fits e = cc
piece_is_some (NamePiece cs) rest fits e = some_stand begins_name cs rest fits.begins e
piece_is_some (NumberPiece cs) rest fits e = some_stand is_ascii_digit cs rest fits.begins e
piece_is_some (WordPiece w) rest fits e = some_stand begins_name (word_text w) rest (word_begins w) e
piece_is_some (MarkPiece m) rest fits e =
    false≢true (ap (starts (λ c. true)) (sym e) ∙ (mark_is_other m rest).some)

pub nothing_begins_no_piece : BeginsNoPiece []
nothing_begins_no_piece p rest begins = piece_is_some p rest begins.fits (sym begins.spelled)

-- a text is cut in one way, as far as it can be
one_cut : (text : List ℕ) (ps qs : List Piece) (r s : List ℕ) → AreCut text ps r → AreCut text qs s → BeginsNoPiece r
    → BeginsNoPiece s → (ps ≡ qs) × (r ≡ s)
one_cut text [] [] r s c d n m = (refl, sym c ∙ d)
one_cut text [] (q ∷ qs) r s c d n m = absurd (n q d.0 (subst (λ t. Begins t q d.0) c d.1))
one_cut text (p ∷ ps) [] r s c d n m = absurd (m p c.0 (subst (λ t. Begins t p c.0) d c.1))
one_cut text (p ∷ ps) (q ∷ qs) r s c d n m =
    let same = one_piece text p q c.0 d.0 c.1 d.1 in
    let more = one_cut c.0 ps qs r s c.2 (subst (λ t. AreCut t qs s) (sym same.1) d.2) n m in
    (ap (λ x. x ∷ ps) same.0 ∙ ap (λ l. q ∷ l) more.0, more.1)

pub one_reading : (text : List ℕ) (ts us : List Token) → AreTokensOf text ts → AreTokensOf text us → ts ≡ us
one_reading text ts us h k =
    let cuts = one_cut text h.pieces k.pieces [] [] h.cut k.cut nothing_begins_no_piece nothing_begins_no_piece in
    sym h.tokens ∙ ap (flat_map token_of) cuts.0 ∙ k.tokens

pub no_reading : (text : List ℕ) (at : ℕ) (ts : List Token) → StopsAt text at → AreTokensOf text ts → ⊥
no_reading text at ts stops h =
    let cuts = one_cut text stops.read.pieces h.pieces (drop at text) [] stops.read.cut h.cut stops.stuck nothing_begins_no_piece in
    let bound = stops.within in
    let left = ap length cuts.1 in
    absurd (omega (arith, bound, left, length-drop at text))

pub one_place : (text : List ℕ) (at other : ℕ) → StopsAt text at → StopsAt text other → at ≡ other
one_place text at other here there =
    let cuts = one_cut text here.read.pieces there.read.pieces (drop at text)
    (drop other text) here.read.cut there.read.cut here.stuck there.stuck in
    let bound = here.within in
    let bound_there = there.within in
    let left = ap length cuts.1 in
    omega (arith, bound, bound_there, left, length-drop at text, length-drop other text)

-- What starts with no piece.

fits_in_number : (p : Piece) (rest digits : List ℕ) → MayStand p rest → kind p ≡ IsNumber → letters p ≡ digits
    → number_of digits ≤ 9223372036854775807
fits_in_number (NumberPiece cs) rest digits fits k l = subst (λ ds. number_of ds ≤ 9223372036854775807) l fits.fits
fits_in_number p rest digits fits k l = cc

pub large_begins_no_piece : (text : List ℕ) → BeginsLargeNumber text → BeginsNoPiece text
large_begins_no_piece text large p rest begins =
    let there = ap look large.spelled ∙ look-digits large.digits large.behind large.begins large.all_digits large.ends in
    let looks = sym (look-begins text p rest begins) ∙ there in
    let small = fits_in_number p rest large.digits begins.fits (ap (λ l. l.kind) looks) (ap (λ l. l.front) looks) in
    let over = large.over in
    absurd (omega (arith, small, over))

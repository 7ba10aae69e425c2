-- The canonical text is ASCII: its bytes are its characters.
use Rattle.std.proofs.Common.{◌≡◌, ◌<◌, ◌&&◌, ◌||◌, ◌==◌, ℕ, zero, suc, ⊎_elim, lit<, true, List, [], ◌∷◌, Option, None}
use Rattle.std.proofs.Common.{refl, sym, subst, arith}
use Rattle.std.specs.List.{list_all}
use Rattle.std.specs.Str.{IsAscii, chars}
use Rattle.std.proofs.lemmas.Bool.{eqb-true, and_parts, or_cases}
use Rattle.std.proofs.lemmas.Fmt.{IsAscii-decimal}
use Rattle.std.proofs.lemmas.Str.{IsAscii-append, chars-IsAscii}
use Rattle.syntax.specs.declared.token.Mark.{Mark}
use Rattle.syntax.specs.declared.token.Mark.TheVariants.{LeftParen, RightParen, LeftBrace, RightBrace, LeftBracket}
use Rattle.syntax.specs.declared.token.Mark.TheVariants.{RightBracket, Comma, Semicolon, Colon, Becomes, Plus, Minus}
use Rattle.syntax.specs.declared.token.Mark.TheVariants.{Star, Slash, Percent, Less, AtMost, Greater, AtLeast, Equal}
use Rattle.syntax.specs.declared.token.Mark.TheVariants.{Differs}
use Rattle.syntax.specs.Canonical.{Place, canonical, laid, next, before, begins_line, begins_statement, line_end, token_text}
use Rattle.syntax.specs.declared.token.Left.{Left}
use Rattle.syntax.specs.declared.token.Left.TheVariants.{Margin}
use Rattle.syntax.specs.Lexical.{AreTokensOf, is_blank, mark_text, word_text}
use Rattle.syntax.specs.Spelling.{spelling}
use Rattle.syntax.specs.Token.{Token, NameToken, NumberToken, WordToken, MarkToken}
use Rattle.syntax_tree.specs.Tree.{Program}
use Rattle.syntax.proofs.LayoutLemmas.{IsWritable, AreWritable, before_blank, canonical_tokens, label_none}
use Rattle.syntax.proofs.LayoutLemmas.{line_end_blank, tokens_writable}
use Rattle.syntax.proofs.LexicalLemmas.{letters_are_ascii}
use Rattle.syntax.proofs.Pieces.{word_in_name}

equal_is_small : (c k : ℕ) → k < 128 → (c == k) ≡ true → c < 128
equal_is_small c k below same = subst (λ n. n < 128) (sym (eqb-true c k same)) below

blank_is_ascii : (c : ℕ) → is_blank c ≡ true → c < 128
blank_is_ascii c blank =
    ⊎_elim (equal_is_small c 32 (lit< tt))
    (λ others. ⊎_elim (equal_is_small c 9 (lit< tt))
    (λ ends. ⊎_elim (equal_is_small c 13 (lit< tt)) (equal_is_small c 10 (lit< tt)) (or_cases (c == 13) (c == 10) ends))
    (or_cases (c == 9) (c == 13 || c == 10) others))
    (or_cases (c == 32) (c == 9 || (c == 13 || c == 10)) blank)

blanks_are_ascii : (cs : List ℕ) → list_all is_blank cs ≡ true → IsAscii cs
blanks_are_ascii [] all i = lit< tt
blanks_are_ascii (c ∷ cs) all zero = blank_is_ascii c (and_parts (is_blank c) (list_all is_blank cs) all).0
blanks_are_ascii (c ∷ cs) all (suc i) = blanks_are_ascii cs (and_parts (is_blank c) (list_all is_blank cs) all).1 i

one_is_ascii : (c : ℕ) → c < 128 → IsAscii (c ∷ [])
one_is_ascii c below zero = below
one_is_ascii c below (suc i) = lit< tt

two_are_ascii : (c d : ℕ) → c < 128 → d < 128 → IsAscii (c ∷ d ∷ [])
two_are_ascii c d first second zero = first
two_are_ascii c d first second (suc i) = one_is_ascii d second i

mark_is_ascii : (m : Mark) → IsAscii (mark_text m)
mark_is_ascii LeftParen = one_is_ascii 40 (lit< tt)
mark_is_ascii RightParen = one_is_ascii 41 (lit< tt)
mark_is_ascii LeftBrace = one_is_ascii 123 (lit< tt)
mark_is_ascii RightBrace = one_is_ascii 125 (lit< tt)
mark_is_ascii LeftBracket = one_is_ascii 91 (lit< tt)
mark_is_ascii RightBracket = one_is_ascii 93 (lit< tt)
mark_is_ascii Comma = one_is_ascii 44 (lit< tt)
mark_is_ascii Semicolon = one_is_ascii 59 (lit< tt)
mark_is_ascii Colon = one_is_ascii 58 (lit< tt)
mark_is_ascii Becomes = one_is_ascii 61 (lit< tt)
mark_is_ascii Plus = one_is_ascii 43 (lit< tt)
mark_is_ascii Minus = one_is_ascii 45 (lit< tt)
mark_is_ascii Star = one_is_ascii 42 (lit< tt)
mark_is_ascii Slash = one_is_ascii 47 (lit< tt)
mark_is_ascii Percent = one_is_ascii 37 (lit< tt)
mark_is_ascii Less = one_is_ascii 60 (lit< tt)
mark_is_ascii AtMost = two_are_ascii 60 61 (lit< tt) (lit< tt)
mark_is_ascii Greater = one_is_ascii 62 (lit< tt)
mark_is_ascii AtLeast = two_are_ascii 62 61 (lit< tt) (lit< tt)
mark_is_ascii Equal = two_are_ascii 61 61 (lit< tt) (lit< tt)
mark_is_ascii Differs = two_are_ascii 33 61 (lit< tt) (lit< tt)

token_is_ascii : (t : Token) → IsWritable t → IsAscii (token_text t)
token_is_ascii (NameToken x) name = letters_are_ascii x name.in_name
token_is_ascii (NumberToken n) fits = IsAscii-decimal n (omega (arith, fits))
token_is_ascii (WordToken w) fits = letters_are_ascii (word_text w) (word_in_name w)
token_is_ascii (MarkToken m) fits = mark_is_ascii m

laid_is_ascii : (ts : List Token) (d : ℕ) (n : Option ℕ) (left : Left) → n ≡ None → AreWritable ts
    → IsAscii (laid (record { depth = d; label = n; left = left }) ts)
unfolding laid
laid_is_ascii [] d n left none fit = blanks_are_ascii (line_end left) (line_end_blank left)
laid_is_ascii (t ∷ ts) d n left none fit =
    let at : Place = record { depth = d; label = n; left = left } in
    let behind : Place = next at t in
    let rest = laid_is_ascii ts behind.depth behind.label behind.left
    (label_none n none (begins_line left t && begins_statement t)) fit.1 in
    IsAscii-append (before at t) _ (blanks_are_ascii (before at t) (before_blank at t none))
    (IsAscii-append (token_text t) _ (token_is_ascii t fit.0) rest)

-- the characters of the canonical text have the tokens of the program
pub canonical_is_read : (text : List ℕ) (p : Program) → AreTokensOf text (spelling p) → AreTokensOf (chars (canonical p)) (spelling p)
canonical_is_read text p has =
    subst (λ t. AreTokensOf t (spelling p))
    (sym (chars-IsAscii (canonical p) (laid_is_ascii (spelling p) 0 None Margin refl (tokens_writable text (spelling p) has))))
    (canonical_tokens text p has)

-- The texts that a mark can come before, so the mark is cut from them as it is.
use Rattle.std.proofs.Common.{◌≡◌, ◌≢◌, ◌+◌, ◌*◌, ℕ, false, ◌==◌, ◌&&◌, List, [], ◌∷◌, ◌++◌}
use Rattle.std.proofs.Common.{fold, refl, ap, sym, ◌∙◌, arith}
use Rattle.std.proofs.lemmas.Bool.{false≢true}
use Rattle.syntax.specs.declared.token.Mark.{Mark}
use Rattle.syntax.specs.declared.token.Mark.TheVariants.{LeftParen, LeftBracket, Comma, Minus, Slash}
use Rattle.syntax.specs.Lexical.{begins_comment, mark_text, starts, IsMark}

-- a text starts with neither `=` nor `/`
abbrev pub IsNeither : List ℕ → Type 0
IsNeither cs = (starts (λ c. c == 61) cs ≡ false) × (starts (λ c. c == 47) cs ≡ false)

-- a text as one number, to distinguish texts
abbrev key : List ℕ → ℕ
key cs = fold (λ k c. k * 1000 + c) 0 cs

paren_no_longer : (longer : Mark) → mark_text longer ≢ 40 ∷ 61 ∷ []
paren_no_longer Comma e = absurd (omega (arith, ap key e))
paren_no_longer _ e = absurd (omega (arith, ap key e))

bracket_no_longer : (longer : Mark) → mark_text longer ≢ 91 ∷ 61 ∷ []
bracket_no_longer Comma e = absurd (omega (arith, ap key e))
bracket_no_longer _ e = absurd (omega (arith, ap key e))

minus_no_longer : (longer : Mark) → mark_text longer ≢ 45 ∷ 61 ∷ []
minus_no_longer Comma e = absurd (omega (arith, ap key e))
minus_no_longer _ e = absurd (omega (arith, ap key e))

no_comment : (m : Mark) (rest : List ℕ) → starts (λ c. c == 47) rest ≡ false
    → begins_comment (mark_text m ++ rest) ≡ false
no_comment Slash [] e = refl
no_comment Slash (c ∷ cs) e = e
no_comment _ [] e = refl
no_comment _ (c ∷ cs) e = refl

-- any mark before such a text
pub quiet_mark : (m : Mark) (rest : List ℕ) → IsNeither rest → IsMark m rest
quiet_mark m rest q = record {
  longest = λ e longer same. false≢true (sym q.0 ∙ e);
  no_comment = no_comment m rest q.1;
}

-- ---- marks that can come before any text: none is longer, and no comment starts like this
pub begins_none : (c : ℕ) (rest : List ℕ) → (c == 47) ≡ false → begins_comment (c ∷ rest) ≡ false
begins_none c [] other = refl
begins_none c (d ∷ rest) other = ap (λ b. b && (d == 47)) other

pub paren_stands : (rest : List ℕ) → IsMark LeftParen rest
paren_stands rest = record { longest = λ e. paren_no_longer; no_comment = begins_none 40 rest refl }

pub bracket_stands : (rest : List ℕ) → IsMark LeftBracket rest
bracket_stands rest = record { longest = λ e. bracket_no_longer; no_comment = begins_none 91 rest refl }

pub minus_stands : (rest : List ℕ) → IsMark Minus rest
minus_stands rest = record { longest = λ e. minus_no_longer; no_comment = begins_none 45 rest refl }

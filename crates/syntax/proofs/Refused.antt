-- A text is rejected for one reason, and for none if it spells a program.
use Rattle.std.proofs.Common.{◌≡◌, ◌≢◌, ℕ, Result, Ok, Err, IfOk, IfErr, MatchResult, List, drop, refl, ap, sym, ◌∙◌, subst}
use Rattle.std.specs.Char.{is_ascii_digit}
use Rattle.std.proofs.lemmas.Bool.{both_ways}
use Rattle.syntax.specs.declared.error.SyntaxError.{SyntaxError}
use Rattle.syntax.specs.declared.error.SyntaxError.TheVariants.{NotACharacter, UnexpectedToken, NumberTooLarge, TooDeep}
use Rattle.syntax.specs.declared.error.SyntaxError.TheVariants.{TooLong, OutOfMemory}
use Rattle.syntax.specs.Brackets.{AreShallow}
use Rattle.syntax.specs.Lexical.{starts, AreTokensOf, StopsAt}
use Rattle.syntax.specs.Token.{Token}
use Rattle.syntax_tree.specs.declared.tree.Program.{Program as rProgram}
use Rattle.syntax.specs.Spelling.{spelling}
use Rattle.syntax_tree.specs.Tree.{Program, program}
use Rattle.syntax.specs.Refusals.{IsNoCharacter, IsLargeNumber, SpellsNoProgram, IsTooDeep, TellsOf, error_code}
use Rattle.syntax.proofs.Pieces.{starts-append, one_reading, no_reading, one_place}
use Rattle.syntax.proofs.SpellingLemmas.{one_spelling}

digit_or_none : (text : List ℕ) (at other : ℕ) → IsNoCharacter text at → IsLargeNumber text other → ⊥
digit_or_none text at other none large =
    let same = one_place text at other none.stops large.stops in
    let digits = large.large in
    let digit = ap (starts is_ascii_digit) digits.spelled ∙ starts-append is_ascii_digit digits.digits digits.behind digits.begins in
    both_ways (starts is_ascii_digit (drop other text)) (ap (λ n. starts is_ascii_digit (drop n text)) (sym same) ∙ none.no_digit) digit

deep_or_shallow : (text : List ℕ) (at other : ℕ) → SpellsNoProgram text at → IsTooDeep text other → ⊥
deep_or_shallow text at other shallow deep =
    deep.all_deep (subst (AreShallow 0) (one_reading text shallow.tokens deep.tokens shallow.read deep.read) shallow.shallow)

-- a text that stops somewhere has no tokens
stops_or_read : {text : List ℕ} {at : ℕ} {tokens : List Token} {A : Type 0} → StopsAt text at → AreTokensOf text tokens → A
stops_or_read stops read = absurd (no_reading _ _ _ stops read)

pub one_error : (text : List ℕ) (e f : SyntaxError) → TellsOf text e → TellsOf text f → e ≢ OutOfMemory
    → f ≢ OutOfMemory → error_code e ≡ error_code f
one_error text (NotACharacter _) (NotACharacter _) told too m n = refl
one_error text (UnexpectedToken _) (UnexpectedToken _) told too m n = refl
one_error text (NumberTooLarge _) (NumberTooLarge _) told too m n = refl
one_error text (TooDeep _) (TooDeep _) told too m n = refl
one_error text (NotACharacter _) (NumberTooLarge _) told too m n = absurd (digit_or_none text told.at too.at told.fact too.fact)
one_error text (NumberTooLarge _) (NotACharacter _) told too m n = absurd (digit_or_none text too.at told.at too.fact told.fact)
one_error text (NotACharacter _) (UnexpectedToken _) told too m n = stops_or_read told.fact.stops too.fact.read
one_error text (UnexpectedToken _) (NotACharacter _) told too m n = stops_or_read too.fact.stops told.fact.read
one_error text (NotACharacter _) (TooDeep _) told too m n = stops_or_read told.fact.stops too.fact.read
one_error text (TooDeep _) (NotACharacter _) told too m n = stops_or_read too.fact.stops told.fact.read
one_error text (NumberTooLarge _) (UnexpectedToken _) told too m n = stops_or_read told.fact.stops too.fact.read
one_error text (UnexpectedToken _) (NumberTooLarge _) told too m n = stops_or_read too.fact.stops told.fact.read
one_error text (NumberTooLarge _) (TooDeep _) told too m n = stops_or_read told.fact.stops too.fact.read
one_error text (TooDeep _) (NumberTooLarge _) told too m n = stops_or_read too.fact.stops told.fact.read
one_error text (UnexpectedToken _) (TooDeep _) told too m n = absurd (deep_or_shallow text told.at too.at told.fact too.fact)
one_error text (TooDeep _) (UnexpectedToken _) told too m n = absurd (deep_or_shallow text too.at told.at too.fact told.fact)
one_error text TooLong f told too m n = absurd told
one_error text OutOfMemory f told too m n = absurd (m refl)
one_error text e TooLong told too m n = absurd too
one_error text e OutOfMemory told too m n = absurd (n refl)

-- A text whose tokens spell a program p.
module _ (text : List ℕ) (p : Program) (has : AreTokensOf text (spelling p)) (shallow : AreShallow 0 (spelling p)) where
  only_memory : (e : SyntaxError) → TellsOf text e → e ≡ OutOfMemory
  only_memory (NotACharacter _) told = stops_or_read told.fact.stops has
  only_memory (UnexpectedToken _) told = absurd (told.fact.no_program p (one_reading text told.fact.tokens (spelling p) told.fact.read has))
  only_memory (NumberTooLarge _) told = stops_or_read told.fact.stops has
  only_memory (TooDeep _) told =
      absurd (told.fact.all_deep (subst (AreShallow 0) (one_reading text (spelling p) told.fact.tokens has told.fact.read) shallow))
  only_memory TooLong told = absurd told
  only_memory OutOfMemory told = refl

  pub it_is_read : (r : Result rProgram SyntaxError) → IfOk r (λ q. AreTokensOf text (spelling (program q)))
      → IfErr r (TellsOf text) → MatchResult r (λ q. program q ≡ p) (λ e. e ≡ OutOfMemory)
  it_is_read (Ok q) read told = one_spelling (program q) p (one_reading text (spelling (program q)) (spelling p) read has)
  it_is_read (Err e) read told = only_memory e told

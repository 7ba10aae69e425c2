-- What it means that places are the starts of statements.
use Rattle.std.specs.Prelude.{ℕ, ◌≡◌, ◌+◌, ◌==◌, if◌then◌else◌, List, [], ◌∷◌, ◌++◌}
use Rattle.syntax.specs.declared.place.TextPlace.{TextPlace}
use Rattle.syntax.specs.Lexical.{AreTokensOf}
use Rattle.syntax.specs.Place.{place_at}
use Rattle.syntax.specs.Refusals.{StandsAt}
use Rattle.syntax.specs.Token.{Token}

-- these are the last tokens of a text, and the first of them is at this place in it
pub record BeginsAt (text : List ℕ) (ts : List Token) (place : TextPlace) : Type 0 where
  pub before : List Token
  pub first : Token
  pub behind : List Token
  pub parts : ts ≡ first ∷ behind
  pub tokens : AreTokensOf text (before ++ ts)
  pub at : ℕ
  pub stands : StandsAt text before first at
  pub there : place ≡ place_at text at

-- a place for each of these ends of a text, in order
abbrev pub AreBegun : List ℕ → List (List Token) → List TextPlace → Type 0
AreBegun text [] [] = Unit {0}
AreBegun text [] (p ∷ ps) = ⊥
AreBegun text (ts ∷ more) [] = ⊥
AreBegun text (ts ∷ more) (p ∷ ps) = BeginsAt text ts p × AreBegun text more ps

-- the place after a character, given the character's place
abbrev pub place_behind : TextPlace → ℕ → TextPlace
place_behind p c =
    if c == 10
    then (record { line = p.line + 1; column = 1 })
    else (record { line = p.line; column = p.column + 1 })

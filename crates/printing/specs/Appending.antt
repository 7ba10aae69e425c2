-- What a call that writes a text does to the contents of a writer, if they are known.
use Rattle.std.specs.Prelude.{ℕ, ◌≡◌, List, ◌++◌, Option, Result, MatchResult}
use Rattle.std.specs.Io.KnownBytes.{Appends}

-- known contents grew by a prefix of the text
pub record AppendsBeginning (old new : Option (List ℕ)) (text : List ℕ) : Type 0 where
  pub begun : List ℕ
  pub rest : List ℕ
  pub parts : text ≡ begun ++ rest
  pub appended : Appends old new begun

-- after an Ok, known contents grew by the text; after an Err, by a prefix of it
abbrev pub Writes : {T E : Type 0} → (old new : Option (List ℕ)) → Result T E → (text : List ℕ)
    → Type 0
Writes old new r text =
    MatchResult r (λ _. Appends old new text) (λ _. AppendsBeginning old new text)

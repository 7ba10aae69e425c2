-- The object of arrays is an input that gives them.
use Rattle.std.specs.Prelude.{ℕ, ℤ, ◌≡◌, List, true, Ok, Some}
use Rattle.std.specs.List.{list_all}
use Rattle.serde_json.specs.Read.{read}
use Rattle.types.specs.Code.{Array}
use Rattle.types.specs.Inputs.{IsInput, text_says}
use Rattle.types.specs.Value.{fits_64_bits}
use Rattle.json_answers.specs.Outcomes.{arrays_json}

-- each number fits in 64 bits with sign
abbrev pub AreOf64Bits : List (List ℤ) → Type 0
AreOf64Bits rows = list_all (list_all fits_64_bits) rows ≡ true

-- for arrays with these names: if a text is parsed as their object, then as an input it specifies their
-- contents
abbrev pub AreGivenBack : List Array → Type 0
AreGivenBack arrays =
    (rows : List (List ℤ)) → IsInput arrays rows → AreOf64Bits rows
    → (text : List ℕ) → read text ≡ Some (arrays_json arrays rows) → text_says arrays text ≡ Ok rows

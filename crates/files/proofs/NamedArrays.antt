-- Names of arrays, declared and in the code, and inputs with bytes for one of them.
use Rattle.std.proofs.Common.{◌≡◌, ℕ, ℤ, List, [], ◌∷◌, map, Some, true, false, refl, sym, ap, ◌∙◌}
use Rattle.std.specs.Prelude.{◌||◌, if◌then◌else◌}
use Rattle.std.specs.Str.{bytes_eq}
use Rattle.std.specs.String.{string_bytes}
use Rattle.types.specs.Code.{Array}
use Rattle.types.specs.InputNames.{is_array}
use Rattle.types.specs.Inputs.{Stranger, is_named, wrong_input}
use Rattle.types.specs.Translation.{array}
use Rattle.types.specs.declared.code.Array.{Array as rArray}
use Rattle.files.specs.Held.{with_bytes, wrong_bytes}

pub named-array : (xs : List rArray) (name : List ℕ) → is_named (map array xs) name ≡ is_array xs name
named-array [] name = refl
named-array (x ∷ xs) name = ap (λ b. bytes_eq (string_bytes x.name) name || b) (named-array xs name)

-- the mistake, if no array has the name
pub wrong-stranger : (name bytes : List ℕ) (arrays : List Array) → is_named arrays name ≡ false
    → wrong_bytes name bytes arrays ≡ Some (Stranger name)
wrong-stranger name bytes arrays e =
    ap (λ b. if b then wrong_input arrays (with_bytes name bytes arrays) else Some (Stranger name)) e

-- the mistake, if an array has the name
pub wrong-lists : (name bytes : List ℕ) (arrays : List Array) (lists : List (List ℤ)) → is_named arrays name ≡ true
    → lists ≡ with_bytes name bytes arrays → wrong_input arrays lists ≡ wrong_bytes name bytes arrays
wrong-lists name bytes arrays lists e is =
    ap (wrong_input arrays) is
    ∙ sym (ap (λ b. if b then wrong_input arrays (with_bytes name bytes arrays) else Some (Stranger name)) e)

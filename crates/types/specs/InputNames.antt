-- The names of declared arrays, as the code stores them.
use Rattle.std.specs.Prelude.{ℕ, List, Bool}
use Rattle.std.specs.List.{list_any}
use Rattle.std.specs.Str.{bytes_eq}
use Rattle.std.specs.String.{string_bytes}
use Rattle.types.specs.declared.code.Array.{Array}

-- whether an array has this name
abbrev pub is_array : List Array → (name : List ℕ) → Bool
is_array arrays name = list_any (λ x. bytes_eq (string_bytes x.name) name) arrays

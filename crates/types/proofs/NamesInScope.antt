-- The names in scope as the entries of a map, the latest first. Each name occurs once.
use Rattle.std.proofs.Common.{◌≡◌, ℕ, ◌-◌, Bool, true, false, cond, List, [], ◌∷◌, ◌++◌, length, map, drop, take, reverse}
use Rattle.std.proofs.Common.{Option, Some, None, is_some, inl, String, refl, sym, ap, ◌∙◌, arith, if◌then◌else◌}
use Rattle.std.specs.Prelude.{nat_eq}
use Rattle.std.specs.Cmp.Lexicographic.{pointwise}
use Rattle.std.specs.List.{AllByRecursion, IsDistinct}
use Rattle.std.specs.Map.{lookup, keys_of}
use Rattle.std.specs.Option.{option_map}
use Rattle.std.specs.String.{string_bytes, string_eq}
use Rattle.std.proofs.lemmas.List.{reverse-append, map-append, length-reverse, take-append-drop, length-map, length-drop}
use Rattle.std.proofs.lemmas.Slice.Eq.{bytes_eq-Decides}
use Rattle.types.specs.NameErrors.{declaring}
use Rattle.types.specs.Told.{Told}
use Rattle.types.specs.declared.error.TypeError.TheVariants.{DeclaredTwice}
use Rattle.types.specs.Scope.{Meant, Names, meant}
use Rattle.types.specs.Resolving.{meant_by, entry}
use Rattle.types.specs.declared.check.names.Meaning.{Meaning}
use Rattle.std.proofs.lemmas.List.{drop_at}

-- the meaning of a name among some names, or otherwise among others
abbrev or_else : Option Meant → Option Meant → Option Meant
or_else None n = n
or_else (Some m) n = Some m

meant_by_test : (b : Bool) (m : Meant) (o n : Option Meant)
    → (if b then Some m else or_else o n) ≡ or_else (if b then Some m else o) n
meant_by_test true m o n = refl
meant_by_test false m o n = refl

meant-append : (x : List ℕ) (ns ms : Names) → meant x (ns ++ ms) ≡ or_else (meant x ns) (meant x ms)
meant-append x [] ms = refl
meant-append x (n ∷ ns) ms =
    ap (λ o. if pointwise nat_eq x n.0 then Some n.1 else o) (meant-append x ns ms)
    ∙ meant_by_test (pointwise nat_eq x n.0) n.1 (meant x ns) (meant x ms)

found_by : (b : Bool) (m : Meaning) (o : Option Meaning) → (b ≡ true → o ≡ None)
    → or_else (option_map meant_by o) (if b then Some (meant_by m) else None) ≡ option_map meant_by (cond b (Some m) o)
found_by true m o none = ap (λ o. or_else (option_map meant_by o) (Some (meant_by m))) (none refl)
found_by false m None none = refl
found_by false m (Some n) none = refl

module _ {Z : Type 0} where
  abbrev pub names_in : List (String Z × Meaning) → Names
  names_in es = reverse (map entry es)

  -- one entry more, at the end
  pub names_in-push : (es : List (String Z × Meaning)) (e : String Z × Meaning) → names_in (es ++ e ∷ []) ≡ entry e ∷ names_in es
  names_in-push es e = ap reverse (map-append entry es (e ∷ [])) ∙ reverse-append (map entry es) (entry e ∷ [])

  names_in-cons : (e : String Z × Meaning) (es : List (String Z × Meaning)) → names_in (e ∷ es) ≡ names_in es ++ entry e ∷ []
  names_in-cons e es = reverse-append (entry e ∷ []) (map entry es)

  -- a name that differs from all keys isn't found
  absent : (x k : String Z) (es : List (String Z × Meaning)) → string_bytes x ≡ string_bytes k
      → AllByRecursion (λ y. string_eq k y ≡ false) (keys_of es) → lookup (string_eq x) es ≡ None
  absent x k [] same apart = refl
  absent x k (e ∷ es) same apart =
      let other : string_eq x e.0 ≡ false = ap (λ b. pointwise nat_eq b (string_bytes e.0)) same ∙ apart.0 in
      ap (λ b. cond b (Some e.1) (lookup (string_eq x) es)) other ∙ absent x k es same apart.1

  -- what the map finds is what the name means
  pub meant_is_lookup : (x : String Z) (es : List (String Z × Meaning)) → IsDistinct string_eq (keys_of es)
      → meant (string_bytes x) (names_in es) ≡ option_map meant_by (lookup (string_eq x) es)
  unfolding IsDistinct
  meant_is_lookup x [] apart = refl
  meant_is_lookup x (e ∷ es) apart =
      ap (meant (string_bytes x)) (names_in-cons e es)
      ∙ meant-append (string_bytes x) (names_in es) (entry e ∷ [])
      ∙ ap (λ o. or_else o (if string_eq x e.0 then Some (meant_by e.1) else None)) (meant_is_lookup x es apart.1)
      ∙ found_by (string_eq x e.0) e.1 (lookup (string_eq x) es) (λ h. absent x e.0 es ((bytes_eq-Decides (string_bytes x) (string_bytes e.0)).0 h) apart.0)

  -- the first entries are the earliest names
  pub names_in-take : (n : ℕ) (es : List (String Z × Meaning))
      → names_in (take n es) ≡ drop (length (names_in es) - n) (names_in es)
  names_in-take n es =
      let later = names_in (drop n es) in
      let all : names_in es ≡ later ++ names_in (take n es) =
      ap (λ l. reverse (map entry l)) (sym (take-append-drop n es)) ∙ ap reverse (map-append entry (take n es) (drop n es))
      ∙ reverse-append (map entry (take n es)) (map entry (drop n es)) in
      let whole : length (names_in es) ≡ length es = length-reverse (map entry es) ∙ length-map es entry in
      let part : length later ≡ length es - n = length-reverse (map entry (drop n es)) ∙ length-map (drop n es) entry ∙ length-drop n es in
      let count : length later ≡ length (names_in es) - n = omega (arith, whole, part) in
      sym (ap (λ k. drop k (names_in es)) (sym count) ∙ ap (drop (length later)) all ∙ drop_at later (names_in (take n es)) (length later) refl)

-- ---- a declaration, by whether the name exists
is_some_found : (o : Option Meaning) (m : Option Meant) → m ≡ option_map meant_by o → is_some m ≡ is_some o
is_some_found None m e = ap is_some e
is_some_found (Some x) m e = ap is_some e

pub declared_twice : (label : Option ℕ) (m : Option Meant) → is_some m ≡ true → Told (declaring label m) (DeclaredTwice label)
declared_twice label None h = cc
declared_twice label (Some m) h = inl refl

pub declared_once : (label : Option ℕ) (m : Option Meant) → is_some m ≡ false → declaring label m ≡ []
declared_once label None h = refl
declared_once label (Some m) h = cc

module _ {Z : Type 0} (x : String Z) (es : List (String Z × Meaning)) (apart : IsDistinct string_eq (keys_of es)) where
  pub found_there : (b : Bool) → is_some (lookup (string_eq x) es) ≡ b → is_some (meant (string_bytes x) (names_in es)) ≡ b
  found_there b h = is_some_found (lookup (string_eq x) es) (meant (string_bytes x) (names_in es)) (meant_is_lookup x es apart) ∙ h

  pub absent_key : (k : String Z) → string_bytes k ≡ string_bytes x → is_some (lookup (string_eq x) es) ≡ false → lookup (string_eq k) es ≡ None
  absent_key k same none =
      ap (λ b. lookup (λ y. pointwise nat_eq b (string_bytes y)) es) same ∙ no_some (lookup (string_eq x) es) none
    where
      no_some : {A : Type 0} (o : Option A) → is_some o ≡ false → o ≡ None
      no_some None h = refl
      no_some (Some a) h = cc

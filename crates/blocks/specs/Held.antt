-- What is held of the arrays: numbers at some places, owned or as copies.
use Rattle.std.specs.Prelude.{◌≡◌, Bool, true, ℤ, Option, Some, None, is_some, option_map, if◌then◌else◌}
use Rattle.sections.specs.Place.{Place, same_place}

-- a number that is held
pub data Held : Type 0 where
  -- its place is the holder's own: the holder may write it and carve it out
  Owned : ℤ → Held
  -- it is a copy: the holder can only read it
  Shared : ℤ → Held

-- a partial map from places
abbrev pub Map : Type 0 → Type 0
Map A = Place → Option A

-- the first value if there is one, else the second
abbrev pub first_of : {A : Type 0} → Option A → Option A → Option A
first_of (Some x) other = Some x
first_of None other = other

-- a map restricted to the places of a set
abbrev pub only : {A : Type 0} → (Place → Bool) → Map A → Map A
only set m q = if set q then m q else None

-- a map restricted to the places outside a set
abbrev pub without : {A : Type 0} → (Place → Bool) → Map A → Map A
without set m q = if set q then None else m q

-- one map where it has something, and another elsewhere
abbrev pub over : {A : Type 0} → Map A → Map A → Map A
over top below q = first_of (top q) (below q)

-- a map with x at the place p
abbrev pub put : {A : Type 0} → Place → A → Map A → Map A
put p x m q = if same_place p q then Some x else m q

-- there is something at each place of a set
abbrev pub IsThere : {A : Type 0} → (Place → Bool) → Map A → Type 0
IsThere set m = (q : Place) → set q ≡ true → m q ≡ None → ⊥

-- all that a map has is at places of a set
abbrev pub IsOnlyAt : {A : Type 0} → (Place → Bool) → Map A → Type 0
IsOnlyAt set m = (q : Place) → (m q ≡ None → ⊥) → set q ≡ true

-- a map has something at each place of a set, and nothing elsewhere
abbrev pub IsJustAt : {A : Type 0} → (Place → Bool) → Map A → Type 0
IsJustAt set m = (q : Place) → is_some (m q) ≡ set q

-- no place has something in both maps
abbrev pub AreApart : {A : Type 0} → Map A → Map A → Type 0
AreApart m n = (q : Place) → (m q ≡ None → ⊥) → n q ≡ None

-- the number, owned or not
abbrev pub number_of : Held → ℤ
number_of (Owned v) = v
number_of (Shared v) = v

-- the number of each held place
abbrev pub numbers : Map Held → Map ℤ
numbers m q = option_map number_of (m q)

-- the number, if it is owned
abbrev pub owned_number : Option Held → Option ℤ
owned_number None = None
owned_number (Some (Owned v)) = Some v
owned_number (Some (Shared v)) = None

-- a number written over what is held: it is owned if the old number is, else it is a copy
abbrev pub in_place_of : Option Held → ℤ → Held
in_place_of None v = Shared v
in_place_of (Some (Owned w)) v = Owned v
in_place_of (Some (Shared w)) v = Shared v

-- the number of a map, if it has one, written over what is held
abbrev pub written_over : Option ℤ → Option Held → Option Held
written_over None h = h
written_over (Some v) h = Some (in_place_of h v)

-- the numbers of a map written over what is held
abbrev pub put_all : Map ℤ → Map Held → Map Held
put_all n m q = written_over (n q) (m q)

-- only the owned places
abbrev pub owned : Map Held → Map ℤ
owned m q = owned_number (m q)

-- numbers as owned numbers
abbrev pub as_owned : Map ℤ → Map Held
as_owned m q = option_map Owned (m q)

-- numbers as copies
abbrev pub as_shared : Map ℤ → Map Held
as_shared m q = option_map Shared (m q)

-- The known ways from the bodies of procedures to one access.
use Rattle.std.specs.Prelude.{ℕ, ◌≡◌, ◌<◌, Bool, true, false, ◌&&◌, nat_eq, List, length}
use Rattle.std.specs.Prelude.{◌⊎◌, Option, IfSome, option_map, Some, Vec}
use Rattle.std.specs.Global.{Global}
use Rattle.std.specs.HashMap.{get}
use Rattle.types.specs.Code.{Program}
use Rattle.types.specs.Run.{procedure_of}
use Rattle.effects.specs.Accesses.{Access}
use Rattle.witness.specs.Least.{AtMost, IsLeast}
use Rattle.witness.specs.Ways.{Way}
use Rattle.witness.specs.declared.known.Entry.{Entry}
use Rattle.witness.specs.declared.known.Known.{Known}
use Rattle.witness.specs.declared.step.WayStep.{WayStep}

-- the steps of an optional way
abbrev pub steps : Option (Vec WayStep Global) → Option (List WayStep)
steps = option_map (λ way. way.items)

-- whether two keys of a table are the same: the numbers of a procedure and of its parameter
abbrev pub is_key : ℕ × ℕ → ℕ × ℕ → Bool
is_key a b = nat_eq a.0 b.0 && nat_eq a.1 b.1

-- the known way to what a procedure does, or leaves pending
abbrev pub way_known : Known → (pending : Bool) → (procedure parameter : ℕ) → Option (List WayStep)
way_known known true f k = steps (get is_key known.pending (f, k))
way_known known false f k = steps (get is_key known.done (f, k))

-- the entry of a procedure for a parameter
abbrev pub entry : (pending : Bool) → (procedure parameter : ℕ) → Entry
entry m f k =
    record { procedure = record { number = f }; parameter = record { number = k }; pending = m }

-- the way at an entry
abbrev pub way_at : Known → Entry → Option (List WayStep)
way_at known e = way_known known e.pending e.procedure.number e.parameter.number

-- a way from the body of a procedure, to an access to one of its parameters
pub record IsFrom (p : Program) (pending : Bool) (f : ℕ) (x : Access) (way : List WayStep)
    : Type 0 where
  pub parameter : x.section < length (procedure_of p f).parameters
  pub leads : Way p pending (procedure_of p f).body way x

module _ (p : Program) (x : Access) (known : Known) where
  -- what is known are ways to the access
  abbrev pub AreWays : Type 0
  AreWays =
      (m : Bool) (f k : ℕ)
      → IfSome (way_known known m f k) (IsFrom p m f (record x { section = k }))

  -- no way of less than n steps is shorter than the known one
  abbrev pub AreShortest : (n : ℕ) → Type 0
  AreShortest n =
      (m : Bool) (f k : ℕ) (way : List WayStep) → IsFrom p m f (record x { section = k }) way
      → length way < n → AtMost length (way_known known m f k) (length way)

  -- a way that was found is one of those, and none is shorter, as far as the known ways are
  -- shortest
  abbrev pub IsFound : (those : List WayStep → Type 0) → Option (Vec WayStep Global) → Type 0
  IsFound those found = IsLeast length AreShortest those (steps found)

-- no way in the new table is longer than in the old one
abbrev pub AreNoLonger : (old new : Known) → Type 0
AreNoLonger old new =
    (m : Bool) (f k n : ℕ) → AtMost length (way_known old m f k) n
    → AtMost length (way_known new m f k) n

-- the new table has a way at an entry, and elsewhere what the old one has
pub record IsPut (e : Entry) (way : List WayStep) (old new : Known) : Type 0 where
  pub here : way_at new e ≡ Some way
  pub others : (m : Bool) (f k : ℕ) → (way_known new m f k ≡ way_known old m f k)
      ⊎ (e ≡ entry m f k)

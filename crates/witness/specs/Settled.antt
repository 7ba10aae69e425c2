-- The result of rounds over the procedures, repeated until no shorter way is found.
use Rattle.std.specs.Prelude.{ℕ, ◌≡◌, ◌<◌, ◌≤◌, ◌+◌, ◌^◌, min, Bool, true, false, List, [], ◌∷◌, length}
use Rattle.std.specs.Prelude.{Option, None, Some, slice_get}
use Rattle.types.specs.Code.{Program}
use Rattle.types.specs.Run.{procedure_of}
use Rattle.effects.specs.Accesses.{Access}
use Rattle.effects.specs.Translation.{access}
use Rattle.witness.specs.Known.{AreNoLonger, AreShortest, AreWays, IsFrom, IsPut, way_at, entry}
use Rattle.witness.specs.Least.{AtMost}
use Rattle.witness.specs.declared.aim.Aim.{Aim}
use Rattle.witness.specs.declared.known.Entry.{Entry}
use Rattle.witness.specs.declared.known.Known.{Known}
use Rattle.witness.specs.declared.step.WayStep.{WayStep}

-- a list has this entry
pub record Lists (entries : List Entry) (e : Entry) : Type 0 where
  pub place : ℕ
  pub there : slice_get entries place ≡ Some e

-- a list has all entries of the procedures from the first one on
abbrev pub ListsAll : Program → (first : ℕ) → List Entry → Type 0
ListsAll p first entries =
    (m : Bool) (f k : ℕ) → first ≤ f → k < length (procedure_of p f).parameters
    → Lists entries (entry m f k)

-- the new list has the entries of a procedure's first parameters, and all entries of the old list
pub record AreAdded (f parameters : ℕ) (old new : List Entry) : Type 0 where
  pub kept : (e : Entry) → Lists old e → Lists new e
  pub added : (m : Bool) (k : ℕ) → k < parameters → Lists new (entry m f k)

-- a way is stored at an entry if no way as short was known
pub record HasPut (e : Entry) (way : List WayStep) (better : Bool) (old new : Known) : Type 0 where
  pub known : AtMost length (way_at new e) (length way)
  pub same : better ≡ false → new ≡ old
  pub put : better ≡ true → IsPut e way old new
  pub fits : better ≡ true → length way < 2 ^ 64
  pub shorter : better ≡ true → (n : ℕ) → AtMost length (way_at old e) n → length way < n

-- how far a way can still be shortened; no list in memory is longer
abbrev pub weight : Option (List WayStep) → ℕ
weight None = 2 ^ 64
weight (Some way) = min (length way) (2 ^ 64)

-- the sum over all ways
abbrev pub total : List Entry → Known → ℕ
total [] known = 0
total (e ∷ es) known = weight (way_at known e) + total es known

module _ (p : Program) (x : Access) where
  -- no way of less than n steps from an entry is shorter than what is known
  abbrev pub IsShortestAt : Known → Entry → (n : ℕ) → Type 0
  IsShortestAt known e n =
      (way : List WayStep)
      → IsFrom p e.pending e.procedure.number (record x { section = e.parameter.number }) way
      → length way < n → AtMost length (way_at known e) (length way)

  -- a shorter way was looked for at an entry
  pub record Improves (e : Entry) (better : Bool) (old new : Known) : Type 0 where
    pub ways : AreWays p x new
    pub no_longer : AreNoLonger old new
    pub shortest : (n : ℕ) → AreShortest p x old n → IsShortestAt new e (n + 1)
    pub same : better ≡ false → new ≡ old
    pub less : better ≡ true → weight (way_at new e) < weight (way_at old e)

  -- a shorter way was looked for at the first entries of a list
  pub record Rounded (entries : List Entry) (count : ℕ) (better : Bool) (old new : Known)
      : Type 0 where
    pub ways : AreWays p x new
    pub no_longer : AreNoLonger old new
    pub shortest : (i : ℕ) → i < count → (e : Entry) → slice_get entries i ≡ Some e → (n : ℕ)
        → AreShortest p x old n → IsShortestAt new e (n + 1)
    pub same : better ≡ false → new ≡ old
    pub less : better ≡ true → total entries new < total entries old

-- the known ways are shortest ways to the access
pub record IsAim (p : Program) (aim : Aim) : Type 0 where
  pub ways : AreWays p (access aim.access) aim.known
  pub shortest : (n : ℕ) → AreShortest p (access aim.access) aim.known n

-- The footprint of statements: the places that they may touch, and those that they may write.
use Rattle.std.specs.Prelude.{ℕ, ◌≡◌, ◌≤◌, ◌⊎◌, true}
use Rattle.sections.specs.Place.{Place, In, has_piece, piece_at}
use Rattle.types.specs.Code.{Code, Begun, Codes, End, Then, Program}
use Rattle.types.specs.Run.{with_piece}
use Rattle.types.specs.Value.{Environment}
use Rattle.effects.specs.Accesses.{Access}
use Rattle.effects.specs.Effects.{accesses, AllOf, All, PendingOf, Pending}

-- one of these accesses may read or write the place in this environment
pub record Touches (env : Environment) (those : Access → Type 0) (q : Place) : Type 0 where
  pub access : Access
  pub among : those access
  pub place : In (env.windows access.section) q

-- one of these accesses may write the place in this environment
pub record Overwrites (env : Environment) (those : Access → Type 0) (q : Place) : Type 0 where
  pub access : Access
  pub among : those access
  pub place : In (env.windows access.section) q
  pub writes : access.write ≡ true

module _ (p : Program) (env : Environment) where
  -- the places that a list of statements may touch
  abbrev pub MayTouch : Codes → Place → Type 0
  MayTouch b = Touches env (All p accesses b)

  -- the places that a list of statements may write
  abbrev pub MayWrite : Codes → Place → Type 0
  MayWrite b = Overwrites env (All p accesses b)

  -- the places that one statement may touch
  abbrev pub MayTouchOf : (label : ℕ) → Code → Place → Type 0
  MayTouchOf l s = Touches env (AllOf p accesses l s)

  -- the places that one statement may write
  abbrev pub MayWriteOf : (label : ℕ) → Code → Place → Type 0
  MayWriteOf l s = Overwrites env (AllOf p accesses l s)

  -- the places that may still be touched after a list of statements has finished
  abbrev pub MayStillTouch : Codes → Place → Type 0
  MayStillTouch b = Touches env (Pending p accesses b)

  -- the places that may still be written after a list of statements has finished
  abbrev pub MayStillWrite : Codes → Place → Type 0
  MayStillWrite b = Overwrites env (Pending p accesses b)

  -- the places that may still be touched after one statement has finished
  abbrev pub MayStillTouchOf : Code → Place → Type 0
  MayStillTouchOf s = Touches env (PendingOf p accesses s)

  -- the places that may still be written after one statement has finished
  abbrev pub MayStillWriteOf : Code → Place → Type 0
  MayStillWriteOf s = Overwrites env (PendingOf p accesses s)

-- A `parts` that has begun does in each turn to come what its block does at the piece of that turn.

-- in a turn with the number `next` or a later one, this holds in the environment of the turn
pub record InTurnToCome (env : Environment) (s size next piece turn : ℕ) (holds : Environment → Type 0)
    : Type 0 where
  pub number : ℕ
  pub later : next ≤ number
  pub left : has_piece (env.windows s) size number ≡ true
  pub there : holds (with_piece piece turn (piece_at size number (env.windows s)) number env)

module _ (env : Environment) (at : Environment → Codes → Type 0) where
  -- this holds in a turn to come of a begun `parts` of a list
  abbrev pub InTurnsOf : Codes → Type 0
  InTurnsOf End = ⊥
  InTurnsOf (Then l (Begun s n k q i b) rest) =
      InTurnToCome env s n k q i (λ e. at e b) ⊎ InTurnsOf rest
  InTurnsOf (Then l _ rest) = InTurnsOf rest

module _ (p : Program) (env : Environment) where
  -- the places that the begun `parts` of a list may touch, write, and leave to be touched or written
  abbrev pub TurnsTouch : Codes → Place → Type 0
  TurnsTouch b q = InTurnsOf env (λ e b. MayTouch p e b q) b

  abbrev pub TurnsWrite : Codes → Place → Type 0
  TurnsWrite b q = InTurnsOf env (λ e b. MayWrite p e b q) b

  abbrev pub TurnsStillTouch : Codes → Place → Type 0
  TurnsStillTouch b q = InTurnsOf env (λ e b. MayStillTouch p e b q) b

  abbrev pub TurnsStillWrite : Codes → Place → Type 0
  TurnsStillWrite b q = InTurnsOf env (λ e b. MayStillWrite p e b q) b

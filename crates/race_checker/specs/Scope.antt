-- Sections in scope, the environments that fit them, and programs that name only what is in scope.
use Rattle.std.specs.Prelude.{ℕ, ◌≡◌, ◌≢◌, ◌<◌, ◌⊎◌, ℤ, List, ◌∷◌, map, length, slice_index_or}
use Rattle.std.specs.Prelude.{Some, Bool, true, false}
use Rattle.sections.specs.Place.{sides_of, piece_of}
use Rattle.sections.specs.Member.{Member}
use Rattle.sections.specs.Placed.{Apart}
use Rattle.types.specs.Code.{Code, Do, If, While, Split, Parts, Begun, Call, Async, Finish, Rescue, Codes}
use Rattle.types.specs.Code.{End, Then, Procedure, Program}
use Rattle.types.specs.Value.{Environment}
use Rattle.types.specs.Run.{procedure_of}
use Rattle.effects.specs.Accesses.{Access, own_accesses}
use Rattle.types.specs.Sound.{IsText, passed_for}
use Rattle.effects.specs.Sound.{CutsWell, SplitsWell, parameters_of}

-- the sections in scope: those at the start of the procedure, written or not, sides of splits, and
-- pieces
pub data Scope : Type 0 where
  Top : (may_write : List Bool) → Scope
  Inside : (section left right : ℕ) → (around : Scope) → Scope
  AtPiece : (section piece : ℕ) → (around : Scope) → Scope

-- a section is in scope
abbrev pub InScope : Scope → ℕ → Type 0
InScope (Top ms) s = s < length ms
InScope (Inside t l r around) s = (s ≡ l) ⊎ (s ≡ r) ⊎ InScope around s
InScope (AtPiece t q around) s = (s ≡ q) ⊎ InScope around s

-- a section that may be written shares no place with another
abbrev pub FitsTop : (may_write : List Bool) → Environment → Type 0
FitsTop ms env =
    (j k : ℕ) → slice_index_or ms j false ≡ true → k < length ms → j ≢ k
    → Apart (env.windows j) (env.windows k)

-- an environment fits: in addition, the two sides of a split are those of its section, and a piece is
-- one of its section
abbrev pub FitsScope : Scope → Environment → Type 0
FitsScope (Top ms) env = FitsTop ms env
FitsScope (Inside s l r around) env =
    FitsScope around env × InScope around s
    × ((at : ℤ) × (sides_of (env.windows s) at ≡ Some (env.windows l, env.windows r)))
FitsScope (AtPiece s q around) env =
    FitsScope around env × InScope around s
    × ((size : ℕ) × (turn : ℕ) × (piece_of (env.windows s) size turn ≡ Some (env.windows q)))

-- which of a procedure's section parameters may be written
abbrev pub may_writes : Procedure → List Bool
may_writes g = map (λ x. x.may_write) g.parameters

-- all of `main`'s arrays may be written
abbrev pub arrays_of : Program → List Bool
arrays_of p = map (λ x. true) p.arrays

-- a scope has the names of this list, and its splits are as the procedure's origins say
pub data Lists (g : Procedure) : Scope → List ℕ → Type 0 where
  top : Lists g (Top (may_writes g)) (parameters_of g)
  inside : {sc : Scope} {scope : List ℕ} {s l r : ℕ} → SplitsWell g scope s l r → Lists g sc scope
      → Lists g (Inside s l r sc) (l ∷ r ∷ scope)
  at_piece : {sc : Scope} {scope : List ℕ} {s q i : ℕ} → CutsWell g scope s q i → Lists g sc scope
      → Lists g (AtPiece s q sc) (q ∷ scope)

module _ (p : Program) where
  abbrev mutual
    -- a split or a `parts` is of a section in scope, into new ones; a call passes sections in scope
    pub ScopedOf : Scope → Code → Type 0
    ScopedOf sc (Do s) = Unit {0}
    ScopedOf sc (If t b c) = Scoped sc b × Scoped sc c
    ScopedOf sc (While t b) = Scoped sc b
    ScopedOf sc (Split s e x y b) =
        InScope sc s × (InScope sc x → ⊥) × (InScope sc y → ⊥) × (x ≢ y)
        × Scoped (Inside s x y sc) b
    ScopedOf sc (Parts s e q i b) = InScope sc s × (InScope sc q → ⊥) × Scoped (AtPiece s q sc) b
    ScopedOf sc (Begun s n k q i b) = InScope sc s × (InScope sc q → ⊥) × Scoped (AtPiece s q sc) b
    ScopedOf sc (Call f es ss) =
        (k : ℕ) → k < length (procedure_of p f).parameters → InScope sc (passed_for ss k)
    ScopedOf sc (Async b) = Scoped sc b
    ScopedOf sc (Finish b) = Scoped sc b
    ScopedOf sc (Rescue b n c) = Scoped sc b × Scoped sc c

    -- and each statement of a list accesses only sections in scope
    pub Scoped : Scope → Codes → Type 0
    Scoped sc End = Unit {0}
    Scoped sc (Then l s rest) =
        ((x : Access) → Member x (own_accesses l s) → InScope sc x.section)
        × ScopedOf sc s × Scoped sc rest

  -- names are in scope in `main` and in each procedure, and no `parts` has begun there
  pub record IsScoped : Type 0 where
    pub main : Scoped (Top (arrays_of p)) p.main.body
    pub procedures : (f : ℕ) → Scoped (Top (may_writes (procedure_of p f))) (procedure_of p f).body
    pub main_text : IsText p.main.body
    pub procedure_texts : (f : ℕ) → IsText (procedure_of p f).body

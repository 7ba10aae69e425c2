-- Runs leave the windows in scope unchanged.
use Rattle.std.specs.Prelude.{ℕ, ◌≡◌, List, ◌∷◌}
use Rattle.sections.specs.Member.{Member}
use Rattle.types.specs.Code.{Codes, Procedure, Program}
use Rattle.types.specs.Value.{Environment}
use Rattle.types.specs.Run.{State, Rules, Work, Block, Turn, Pieces}
use Rattle.effects.specs.Sound.{CutsWell, Follows}

-- two environments have the same windows for the sections of the scope
abbrev pub SameWindows : (scope : List ℕ) → (env other : Environment) → Type 0
SameWindows scope env other = (s : ℕ) → Member s scope → env.windows s ≡ other.windows s

-- the rules leave all windows unchanged
pub record KeepsWindows {X : Type 0} (r : Rules X) : Type 0 where
  pub begin : (l : ℕ) (b : Codes) (st : State X)
      → (r.begin l b st).environment.windows ≡ st.environment.windows
  pub enter : (l : ℕ) (st : State X)
      → (r.enter l st).environment.windows ≡ st.environment.windows
  pub leave : (before out : State X)
      → (r.leave before out).environment.windows ≡ out.environment.windows

-- the names in some work follow the rules
abbrev pub WorkFollows : Program → Procedure → (scope : List ℕ) → Work → Type 0
WorkFollows p g scope (Block b) = Follows p g scope b
WorkFollows p g scope (Turn l t b) = Follows p g scope b
WorkFollows p g scope (Pieces l s n k q i b) = CutsWell g scope s q i × Follows p g (q ∷ scope) b

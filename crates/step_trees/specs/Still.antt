-- What the leaves of a tree may still do to places.
use Rattle.std.specs.Prelude.{◌⊎◌, List, [], ◌∷◌}
use Rattle.sections.specs.Place.{Place}
use Rattle.types.specs.Code.{Codes, Program}
use Rattle.types.specs.Value.{Environment}
use Rattle.types.specs.Trees.{Caller, Leaf, Handler, NoHandler, HandledBy, Tree, Single, AndThen, Beside}
use Rattle.effects.specs.Accesses.{Access}
use Rattle.effects.specs.Effects.{All, accesses}
use Rattle.effects.specs.Footprint.{Touches, Overwrites, TurnsTouch, TurnsWrite}

-- the places that something may touch, and those that it may write
pub record Footprint : Type 1 where
  pub touches : Place → Type 0
  pub writes : Place → Type 0

-- no place
abbrev pub nothing : Footprint
nothing = record { touches = λ q. ⊥; writes = λ q. ⊥ }

-- the places of two footprints together
abbrev pub both : Footprint → Footprint → Footprint
both f g = record {
  touches = λ q. f.touches q ⊎ g.touches q;
  writes = λ q. f.writes q ⊎ g.writes q;
}

-- the places that accesses name in an environment
abbrev pub foot : Environment → (Access → Type 0) → Footprint
foot env xs = record { touches = Touches env xs; writes = Overwrites env xs }

-- no place that one of the two may write is a place that the other may touch
pub record Separate (f g : Footprint) : Type 0 where
  pub writes_first : (q : Place) → f.writes q → g.touches q → ⊥
  pub writes_second : (q : Place) → f.touches q → g.writes q → ⊥

module _ (p : Program) where
  -- the footprint of the turns to come of the begun `parts` of a list
  abbrev pub turns : Environment → Codes → Footprint
  turns env b = record { touches = TurnsTouch p env b; writes = TurnsWrite p env b }

  -- the footprint of a list of statements
  abbrev pub all : Environment → Codes → Footprint
  all env b = both (foot env (All p accesses b)) (turns env b)

  -- the footprint of what waits for calls to return
  abbrev pub waiting : List Caller → Footprint
  waiting [] = nothing
  waiting (f ∷ fs) = both (all f.environment f.rest) (waiting fs)

  -- the footprint of all that a leaf has left to do
  abbrev pub left_of : Leaf → Footprint
  left_of k = both (all k.environment k.rest) (waiting k.callers)

  -- the footprint of the handler of a finish that was entered in this environment
  abbrev pub in_handler : Environment → Handler → Footprint
  in_handler env NoHandler = nothing
  in_handler env (HandledBy x c) = all env c

  -- the footprint of all that a tree has left to do, with each `<k>` after a `then` and its handler
  abbrev pub still : Tree → Footprint
  still (Single k) = left_of k
  still (AndThen t h k) = both (still t) (both (in_handler k.environment h) (left_of k))
  still (Beside t u) = both (still t) (still u)

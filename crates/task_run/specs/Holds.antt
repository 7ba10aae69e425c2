-- A task has all that it touches up to the end of its innermost finish, and owns all that it may
-- write.
use Rattle.std.specs.Prelude.{ℕ, ◌≡◌, ◌⊎◌, List, [], ◌∷◌, map, true}
use Rattle.sections.specs.Covers.{has}
use Rattle.sections.specs.Place.{Window, Place, In}
use Rattle.sections.specs.Member.{Member}
use Rattle.types.specs.Code.{Code, While, Begun, Codes, End, Then, Program}
use Rattle.types.specs.Contents.{Contents, IsThere}
use Rattle.types.specs.Sound.{IsText}
use Rattle.types.specs.Value.{Environment}
use Rattle.types.specs.Run.{State}
use Rattle.effects.specs.Accesses.{Access, own_accesses}
use Rattle.effects.specs.Effects.{Pending, accesses}
use Rattle.effects.specs.Footprint.{Overwrites, TurnsStillWrite}
use Rattle.effects.specs.Needs.{Needs}
use Rattle.race_checker.specs.Scope.{Scope, InScope}
use Rattle.task_run.specs.Places.{Places, empty, written, touched}
use Rattle.task_run.specs.Ready.{Around, Ready}
use Rattle.task_run.specs.OwnRun.{Start, Child, Own, back_from}
use Rattle.task_run.specs.Frames.{Frame, Rest, Again, Further, AtEnd, OnFault, Back, Standing}
use Rattle.task_run.specs.Lists.{Each}
use Rattle.task_run.specs.Settling.{Parted}

-- the surroundings of a block, for a task that has these contents and owns these places
abbrev pub having : Scope → Environment → Contents → Places → Around
having sc env c o =
    record {
      scope = sc;
      env = env;
      base = empty;
      wrote = λ q. o q ≡ true;
      held = λ q. IsThere (c q);
    }

-- the block of a frame is as in a text: no `parts` has begun in it
abbrev pub HasText : Frame Own → Type 0
HasText (Rest b) = IsText b
HasText (Again l t b) = IsText b
HasText (Further l s n k q i b) = IsText b
HasText (AtEnd before) = Unit {0}
HasText (OnFault before x c) = IsText c
HasText (Back env) = Unit {0}

-- what was there or owned when a finish began is still so, or comes back from a child
pub record Comes (st before : State Own) : Type 0 where
  pub there : (q : Place) → IsThere (before.store q)
      → IsThere (st.store q) ⊎ (back_from st.extra.pending q ≡ true)
  pub owned : (q : Place) → before.extra.owned q ≡ true
      → (st.extra.owned q ≡ true) ⊎ (back_from st.extra.pending q ≡ true)
  -- nothing else is owned or comes back
  pub no_more : (q : Place) → (st.extra.owned q ≡ true) ⊎ (back_from st.extra.pending q ≡ true)
      → before.extra.owned q ≡ true

module _ (p : Program) (needs : Codes → Needs) where
  -- what is locked once a block has ended
  abbrev pub locked_after : Environment → (locked : Place → Type 0) → Codes → Place → Type 0
  locked_after env locked b q =
      locked q ⊎ Overwrites env (Pending p accesses b) q ⊎ TurnsStillWrite p env b q

  -- a block that is left: its scope is within `limit`, with the windows of `env`, and it touches
  -- nothing that is locked
  pub record Remains (windows : ℕ → Window) (limit : ℕ → Type 0) (c : Contents) (o : Places)
      (locked : Place → Type 0) (b : Codes) (sc : Scope)
      (env : Environment) : Type 0 where
    pub inside : (s : ℕ) → InScope sc s → limit s
    pub known : (s : ℕ) → InScope sc s → windows s ≡ env.windows s
    pub ready : Ready p needs (having sc env c o) locked (locked_after env locked b) b

  -- each block of a stack of frames remains in this way, after the blocks above it
  abbrev pub Stack : (ℕ → Window) → (limit : ℕ → Type 0) → Contents → Places
      → (locked : Place → Type 0) → List (Frame Own) → Type 0
  Stack f limit c o locked [] = Unit {0}
  Stack f limit c o locked (Rest b ∷ fs) =
      (sc : Scope) × (env : Environment)
      × Remains f limit c o locked b sc env
      × Stack f (InScope sc) c o (locked_after env locked b) fs
  Stack f limit c o locked (Again l t b ∷ fs) =
      (sc : Scope) × (env : Environment)
      × Remains f limit c o locked (Then l (While t b) End) sc env
      × Stack f (InScope sc) c o (locked_after env locked (Then l (While t b) End)) fs
  Stack f limit c o locked (Further l s n k q i b ∷ fs) =
      (sc : Scope) × (env : Environment)
      × Remains f limit c o locked (Then l (Begun s n k q i b) End) sc env
      × Stack f (InScope sc) c o (locked_after env locked (Then l (Begun s n k q i b) End)) fs
  Stack f limit c o locked (AtEnd before ∷ fs) =
      Stack f limit before.store before.extra.owned (λ q. ⊥) fs
  Stack f limit c o locked (OnFault before x b ∷ fs) =
      (sc : Scope) × (env : Environment)
      × Remains f limit c o locked b sc env
      × Stack f (InScope sc) c o (locked_after env locked b) fs
  Stack f limit c o locked (Back env ∷ fs) = Stack env.windows (λ s. Unit {0}) c o locked fs

  -- a task can start
  pub record MayBegin (s : Start) : Type 0 where
    pub stack : Stack s.environment.windows (λ s. Unit {0}) s.contents s.owned (λ q. ⊥)
        (Rest s.body ∷ [])
    pub text : IsText s.body

  -- a child has all places that come back from it, and can start
  pub record Carries (c : Child) : Type 0 where
    pub there : (q : Place) → has c.listed.windows q ≡ true → IsThere (c.start.contents q)
    pub begins : MayBegin c.start

  -- the finishes around get back their places, and their children can start
  abbrev pub Returns : State Own → List (Frame Own) → Type 0
  Returns st [] = Unit {0}
  Returns st (Rest b ∷ fs) = Returns st fs
  Returns st (Again l t b ∷ fs) = Returns st fs
  Returns st (Further l s n k q i b ∷ fs) = Returns st fs
  Returns st (AtEnd before ∷ fs) =
      Comes st before × Each Carries before.extra.pending
      × Parted before.extra.owned (map (λ c. c.listed) before.extra.pending)
      × Returns before fs
  Returns st (OnFault before x b ∷ fs) = Returns st fs
  Returns st (Back env ∷ fs) = Returns st fs

  -- a task has all that it touches
  pub record Holds (t : Standing Own) : Type 0 where
    pub stack : Stack t.state.environment.windows (λ s. Unit {0}) t.state.store t.state.extra.owned
        (λ q. ⊥) t.frames
    pub texts : Each HasText t.frames
    pub carried : Each Carries t.state.extra.pending
    pub parted : Parted t.state.extra.owned (map (λ c. c.listed) t.state.extra.pending)
    pub returns : Returns t.state t.frames

-- a statement's own accesses are to places that are there, and its writes are to places that are
-- owned
abbrev pub HasOwn : State Own → (label : ℕ) → Code → Type 0
HasOwn st l s =
    (y : Access) → Member y (own_accesses l s) → (q : Place)
    → In (st.environment.windows y.section) q
    → IsThere (st.store q) × (y.write ≡ true → st.extra.owned q ≡ true)

-- the places that an async's body needs are there, and those that it may write are owned
pub record HasNeeds (st : State Own) (n : Needs) : Type 0 where
  pub there : (q : Place) → touched st.environment n q ≡ true → IsThere (st.store q)
  pub owned : (q : Place) → written st.environment n q ≡ true → st.extra.owned q ≡ true

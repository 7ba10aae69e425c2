-- Properties of runs and of values, for any program.
use Rattle.std.specs.Prelude.{ℕ, ℤ, ◌≡◌, ◌≤◌, List, Contains}
use Rattle.types.specs.Code.{Codes, Program}
use Rattle.sections.specs.Place.{Place, In}
use Rattle.types.specs.Contents.{Extends}
use Rattle.types.specs.Value.{Environment}
use Rattle.types.specs.Run.{State, Rules, Work, work}
use Rattle.types.specs.Meaning.{hushed, joined}

module _ {X : Type 0} where
  -- no rule gives a step back
  pub record IsThrifty (r : Rules X) : Type 0 where
    pub begin : (l : ℕ) (b : Codes) (st : State X) → (r.begin l b st).steps ≤ st.steps
    pub enter : (l : ℕ) (st : State X) → (r.enter l st).steps ≤ st.steps
    pub leave : (before out : State X) → (r.leave before out).steps ≤ out.steps

  -- f satisfies its equations, with f itself inside calls and further iterations
  abbrev pub Solves : Program → Rules X → (Work → State X → State X) → Type 0
  Solves p r f = (w : Work) (st : State X) → f w st ≡ work p r f w st

  -- no other function does
  abbrev pub IsOnly : Program → Rules X → (Work → State X → State X) → Type 0
  IsOnly p r f =
      (g : Work → State X → State X) → Solves p r g → (w : Work) (st : State X) → g w st ≡ f w st

  -- a function only adds to the existing lines and faults, and doesn't depend on them
  abbrev pub OnlyAdds : (State X → State X) → Type 0
  OnlyAdds go = (st : State X) → go st ≡ joined st (go (hushed st))

module _ {X : Type 0} where
  -- a relation between a state and a later one that contains three kinds of change: each operation
  -- of the rules; each change that keeps the names of a task and its children, and `extra`, and
  -- loses no place; and two such changes in sequence
  pub record IsKept (r : Rules X) (R : State X → State X → Type 0) : Type 0 where
    pub idle : (st to : State X) → to.path ≡ st.path → to.spawned ≡ st.spawned → to.extra ≡ st.extra
        → Extends st.store to.store → R st to
    pub further : (a b c : State X) → R a b → R b c → R a c
    pub stepped : (l : ℕ) (st : State X) → R st (record st { extra = r.stepped l st.extra })
    pub begin : (l : ℕ) (b : Codes) (st : State X) → R st (r.begin l b st)
    pub finish : (l : ℕ) (st out : State X) → R (r.enter l st) out → R st (r.leave st out)

  -- the state at the end is related to the state at the start
  abbrev pub Keeps : (State X → State X → Type 0) → (State X → State X) → Type 0
  Keeps R go = (st : State X) → R st (go st)

-- two functions from places to numbers agree at each place of the sections
abbrev pub SameOn : Environment → List ℕ → (read other : Place → ℤ) → Type 0
SameOn env ss read other =
    (s : ℕ) → Contains ss s → (q : Place) → In (env.windows s) q → read q ≡ other q

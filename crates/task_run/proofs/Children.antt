-- A turn that spawned a task lists it.
use Rattle.std.proofs.Common.{◌≡◌, ℕ, zero, suc, List, [], ◌∷◌}
use Rattle.std.specs.Prelude.{Bool, true, false, Option, if◌then◌else◌}
use Rattle.sections.specs.Member.{Member, first}
use Rattle.sections.specs.Place.{has_piece}
use Rattle.types.specs.Code.{Code, Codes, Do, If, While, Split, Parts, Begun, Call, Async, Finish, Rescue, End, Then}
use Rattle.types.specs.Code.{Program}
use Rattle.types.specs.Run.{Flow, On, Faulted, Stopped, State, counted, window_at}
use Rattle.effects.specs.Needs.{Needs}
use Rattle.effects.proofs.Members.{in_right}
use Rattle.task_run.specs.Frames.{Frame, Rest, Again, Further, AtEnd, OnFault, Back, Standing, acted, by_flow}
use Rattle.task_run.specs.Frames.{done_at, done_by, done_in, paid, turn}
use Rattle.task_run.specs.OwnRun.{Action, Child, Own, Spawn, Start, own_rules}
use Rattle.task_run.specs.Results.{Settled}

-- a task with this start is listed
pub record Lists (st : State Own) (s : Start) : Type 0 where
  pub child : Child
  pub member : Member child st.extra.pending
  pub start : child.start ≡ s

none_spawned : {s : Start} → [] ≡ Spawn s ∷ [] → ⊥
none_spawned e = absurd (let bad : ⊥ = cc in bad)

module _ (p : Program) (needs : Codes → Needs) (close : State Own → Option Settled) (s : Start) where
  abbrev Began : List Action → Type 0
  Began actions = actions ≡ Spawn s ∷ []

  by_code : (n m l : ℕ) (c : Code) (fs : List (Frame Own)) (st : State Own) → Began (done_by needs n (suc m) c st)
      → Lists (acted p (own_rules needs n close) l c fs (counted (own_rules needs n close) l c (record st { steps = m }))).state s
  by_code zero m l (Async b) fs st e = absurd (none_spawned e)
  by_code (suc n) m l (Async b) fs st e = record {
    child = _;
    member = in_right st.extra.pending first;
    start = cc;
  }
  by_code zero m l (Do x) fs st e = absurd (let bad : ⊥ = cc in bad)
  by_code zero m l (If t b c) fs st e = absurd (let bad : ⊥ = cc in bad)
  by_code zero m l (While t b) fs st e = absurd (let bad : ⊥ = cc in bad)
  by_code zero m l (Split x i y z b) fs st e = absurd (let bad : ⊥ = cc in bad)
  by_code zero m l (Parts x i y z b) fs st e = absurd (let bad : ⊥ = cc in bad)
  by_code zero m l (Begun x j k y z b) fs st e = absurd (let bad : ⊥ = cc in bad)
  by_code zero m l (Call f es ss) fs st e = absurd (let bad : ⊥ = cc in bad)
  by_code zero m l (Finish b) fs st e = absurd (let bad : ⊥ = cc in bad)
  by_code zero m l (Rescue b x c) fs st e = absurd (let bad : ⊥ = cc in bad)
  by_code (suc n) m l (Do x) fs st e = absurd (let bad : ⊥ = cc in bad)
  by_code (suc n) m l (If t b c) fs st e = absurd (let bad : ⊥ = cc in bad)
  by_code (suc n) m l (While t b) fs st e = absurd (let bad : ⊥ = cc in bad)
  by_code (suc n) m l (Split x i y z b) fs st e = absurd (let bad : ⊥ = cc in bad)
  by_code (suc n) m l (Parts x i y z b) fs st e = absurd (let bad : ⊥ = cc in bad)
  by_code (suc n) m l (Begun x j k y z b) fs st e = absurd (let bad : ⊥ = cc in bad)
  by_code (suc n) m l (Call f es ss) fs st e = absurd (let bad : ⊥ = cc in bad)
  by_code (suc n) m l (Finish b) fs st e = absurd (let bad : ⊥ = cc in bad)
  by_code (suc n) m l (Rescue b x c) fs st e = absurd (let bad : ⊥ = cc in bad)

  by_steps : (n m l : ℕ) (c : Code) (fs : List (Frame Own)) (st : State Own) → Began (done_by needs n m c st)
      → Lists (paid p (own_rules needs n close) m l c fs st).state s
  by_steps n zero l c fs st e = absurd (none_spawned e)
  by_steps n (suc m) l c fs st e = by_code n m l c fs st e

  on_flow : (n : ℕ) (g : Flow) (l : ℕ) (c : Code) (fs below : List (Frame Own)) (st : State Own) → Began (done_at needs n g c st)
      → Lists (by_flow p (own_rules needs n close) g l c fs below st).state s
  on_flow n On l c fs below st e = by_steps n st.steps l c fs st e
  on_flow n Faulted l c fs below st e = absurd (none_spawned e)
  on_flow n Stopped l c fs below st e = absurd (none_spawned e)

  pub turn_lists : (n : ℕ) (f : Frame Own) (fs : List (Frame Own)) (st : State Own) → Began (done_in needs n f st)
      → Lists (turn p (own_rules needs n close) f fs st).state s
  turn_lists n (Rest End) fs st e = absurd (none_spawned e)
  turn_lists n (Rest (Then l c rest)) fs st e = on_flow n st.flow l c (Rest rest ∷ fs) fs st e
  turn_lists n (Again l t b) fs st e = on_flow n st.flow l (While t b) fs fs st e
  turn_lists n (Further l x j k y z b) fs st e = by (has_piece (window_at st x) j k) e
    where
      c : Code
      c = Begun x j k y z b

      by : (left : Bool) → Began (if left then done_at needs n st.flow c st else [])
          → Lists (if◌then◌else◌ {A = Standing Own} left (by_flow p (own_rules needs n close) st.flow l c fs fs st)
          (record { frames = fs; state = st })).state s
      by true e = on_flow n st.flow l c fs fs st e
      by false e = absurd (none_spawned e)
  turn_lists n (AtEnd before) fs st e = absurd (none_spawned e)
  turn_lists n (OnFault before x c) fs st e = absurd (none_spawned e)
  turn_lists n (Back env) fs st e = absurd (none_spawned e)

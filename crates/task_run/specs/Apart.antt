-- Tasks apart: an async's body runs on what it needs, and what it made is set aside until the end
-- of the finish.
use Rattle.std.specs.Prelude.{ℕ, zero, suc, ◌+◌, List, ℤ, Bool, true, false, ◌||◌, if◌then◌else◌}
use Rattle.types.specs.Code.{Codes, Program}
use Rattle.types.specs.Contents.{Contents, held_by}
use Rattle.types.specs.Run.{Flow, On, Faulted, Stopped, State, Rules, Work, Block, stopped, run}
use Rattle.types.specs.Meaning.{hushed, joined, child, after_finish}
use Rattle.types.specs.Outcome.{Budget, Outcome, start, outcome_of}
use Rattle.effects.specs.Needs.{Needs}
use Rattle.task_run.specs.Places.{written, touched, empty, only, without, over}

-- what the tasks begun in the innermost open finish have made
pub record Aside : Type 0 where
  pub contents : Contents
  -- whether one of them was stopped
  pub stopped : Bool

-- nothing is set aside
abbrev pub nothing : Aside
nothing = record { contents = empty; stopped = false }

-- whether the flow is stopped
abbrev pub is_stopped : Flow → Bool
is_stopped Stopped = true
is_stopped On = false
is_stopped Faulted = false

-- whether this task or one of its tasks was stopped
abbrev pub stops_anywhere : State Aside → Bool
stops_anywhere st = is_stopped st.flow || st.extra.stopped

-- what a task has, together with what its tasks have made
abbrev pub merged : State Aside → Contents
merged st = over st.extra.contents st.store

-- the next child, with what it needs
abbrev pub child_apart : (fresh : ℕ) → Needs → State Aside → State Aside
child_apart fresh n st =
    record (child fresh st) { store = only (touched st.environment n) st.store; extra = nothing }

-- the parent continues without what the child may write; what the child made is set aside
abbrev pub set_aside : Needs → (before out : State Aside) → State Aside
set_aside n before out =
    let places = written before.environment n in
    joined before (record before {
      flow = On;
      store = without places before.store;
      lines = out.lines;
      faults = out.faults;
      spawned = before.spawned + 1;
      extra = record {
        contents = over (only places (merged out)) before.extra.contents;
        stopped = before.extra.stopped || stops_anywhere out;
      };
    })

-- at the end of a finish everything is merged
abbrev pub gather : (before out : State Aside) → State Aside
gather before out =
    joined before (record out {
      flow = if stops_anywhere out then Stopped else after_finish out.flow out.faults;
      store = merged out;
      extra = before.extra;
    })

-- the rules of tasks apart, where `begin` runs an async's body
abbrev pub apart_rules_by : (Codes → State Aside → State Aside) → Rules Aside
apart_rules_by begin = record {
  stepped = λ l x. x;
  begin = λ l. begin;
  enter = λ l st. record (hushed st) { extra = nothing };
  leave = gather;
}

module _ (p : Program) (needs : Codes → Needs) where
  -- an async, if asyncs may be nested `nest` levels deep; a child starts with `fresh` steps
  abbrev pub begin_apart : (fresh nest : ℕ) → Codes → State Aside → State Aside
  begin_apart fresh zero b st = stopped st
  begin_apart fresh (suc n) b st =
      set_aside (needs b) st
      (run p (apart_rules_by (begin_apart fresh n)) (Block b) (child_apart fresh (needs b) st))

  -- the rules of tasks apart
  abbrev pub apart_rules : (fresh nest : ℕ) → Rules Aside
  apart_rules fresh nest = apart_rules_by (begin_apart fresh nest)

  -- the settled meaning
  abbrev pub apart : (fresh nest : ℕ) → Work → State Aside → State Aside
  apart fresh nest = run p (apart_rules fresh nest)

  -- the settled outcome; `main` is inside an outer finish
  abbrev pub apart_outcome : (input : List (List ℤ)) → Budget → Outcome
  apart_outcome input b =
      let st = start nothing p b.steps (held_by input) in
      outcome_of p (gather st (apart b.steps b.nest (Block p.main.body) st))

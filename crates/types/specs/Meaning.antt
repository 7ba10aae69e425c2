-- The one-thread meaning. The body of an async runs where it appears, on the same store.
use Rattle.std.specs.Prelude.{ℕ, zero, suc, ◌+◌, List, [], ◌∷◌, ◌++◌}
use Rattle.types.specs.Code.{Codes, Program}
use Rattle.types.specs.Run.{Flow, On, Faulted, Stopped, Fault, State, Rules, Work, Block, stopped, run}

module _ {X : Type 0} where
  -- the state, with no output yet
  abbrev pub hushed : State X → State X
  hushed st = record st { lines = []; faults = [] }

  -- the output before, followed by the output since then
  abbrev pub joined : (before out : State X) → State X
  joined before out = record out {
    lines = before.lines ++ out.lines;
    faults = before.faults ++ out.faults;
  }

  -- the next child at its start, with fresh steps, and with its parent's environment and contents
  abbrev pub child : (fresh : ℕ) → State X → State X
  child fresh st = record (hushed st) {
    flow = On;
    steps = fresh;
    path = st.path ++ (st.spawned + 1) ∷ [];
    spawned = 0;
  }

-- a stopped body stops everything at once
abbrev pub after_async : Flow → Flow
after_async Stopped = Stopped
after_async On = On
after_async Faulted = On

-- the parent continues with its old state, except for what the body wrote and its output
abbrev pub after_body : {X : Type 0} → (before out : State X) → State X
after_body before out =
    joined before (record before {
      flow = after_async out.flow;
      store = out.store;
      lines = out.lines;
      faults = out.faults;
      spawned = before.spawned + 1;
    })

-- a finish with faults ends abruptly
abbrev pub after_finish : Flow → List Fault → Flow
after_finish Stopped faults = Stopped
after_finish On [] = On
after_finish On (f ∷ faults) = Faulted
after_finish Faulted [] = On
after_finish Faulted (f ∷ faults) = Faulted

-- the rules of one thread, where `begin` runs the body of an async, for any label
abbrev pub one_rules_by : (Codes → State (Unit {0}) → State (Unit {0})) → Rules (Unit {0})
one_rules_by begin = record {
  stepped = λ l x. x;
  begin = λ l. begin;
  enter = λ l. hushed;
  leave = λ before out. joined before (record out { flow = after_finish out.flow out.faults });
}

module _ (p : Program) where
  -- an async if `nest` more can be nested; a child starts with `fresh` steps
  abbrev pub begin_one : (fresh nest : ℕ) → Codes → State (Unit {0}) → State (Unit {0})
  begin_one fresh zero b st = stopped st
  begin_one fresh (suc n) b st =
      after_body st (run p (one_rules_by (begin_one fresh n)) (Block b) (child fresh st))

  -- the rules of one thread
  abbrev pub one_rules : (fresh nest : ℕ) → Rules (Unit {0})
  one_rules fresh nest = one_rules_by (begin_one fresh nest)

  -- the one-thread meaning
  abbrev pub one : (fresh nest : ℕ) → Work → State (Unit {0}) → State (Unit {0})
  one fresh nest = run p (one_rules fresh nest)

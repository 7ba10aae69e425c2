-- The meaning of the frames of a run: a function from the current position to the final one.
use Rattle.std.specs.Prelude.{ℕ, List, [], ◌∷◌, ◌++◌, map, ℤ, Option, Some, None}
use Rattle.types.specs.Code.{Code, Finish, Rescue, Codes, Program}
use Rattle.types.specs.Meaning.{after_async, after_finish}
use Rattle.types.specs.Run.{Fault, State, Work, Block, Turn, Pieces, go_on, act, keeping, rescued}
use Rattle.types.specs.Translation.{codes, truth, environment, fault}
use Rattle.statement_steps.specs.declared.store.Store.{Store}
use Rattle.statement_steps.specs.declared.thread.Thread.{Thread}
use Rattle.statement_steps.specs.Leading.{Next, Nothing, Inside, Iteration, Body}
use Rattle.statement_steps.specs.Leading.{Turns as TurnsNext}
use Rattle.statement_steps.specs.Standing.{state_of}
use Rattle.statement_steps.specs.Turns.{pieces}
use Rattle.cost.specs.declared.frame.CostFrame.{CostFrame}
use Rattle.cost.specs.declared.frame.CostFrame.TheVariants.{Rest, Again, Turns, EndFinish, EndRescue}
use Rattle.cost.specs.declared.frame.CostFrame.TheVariants.{EndAsync, EndCall}
use Rattle.cost.specs.declared.frame.Handler.{Handler}
use Rattle.cost.specs.declared.frame.OuterCosts.{OuterCosts}
use Rattle.cost.specs.declared.frame.OwnerCosts.{OwnerCosts}
use Rattle.cost.specs.declared.frame.OutputSoFar.{OutputSoFar}
use Rattle.cost.specs.declared.account.Account.{Account as rAccount}
use Rattle.cost.specs.Accounts.{Account, accounted, accounted_rules, ends_behind, leaves_behind}
use Rattle.cost.specs.Translation.{account}

-- a state, and the number of asyncs that may still be nested
pub record Standing : Type 0 where
  pub state : State Account
  pub nest : ℕ

-- the position of a thread with this account
abbrev pub placed : Account → Thread Store → Standing
placed y t = record { state = keeping y (state_of t); nest = t.nest }

abbrev pub standing : rAccount → Thread Store → Standing
standing a t = placed (account a) t

-- the output, as plain values
abbrev pub lines_in : OutputSoFar → List (List ℤ)
lines_in o = map (λ v. v.items) o.lines.items

abbrev pub faults_in : OutputSoFar → List Fault
faults_in o = map fault o.faults.items

-- a finish with a handler, or without
abbrev pub finish_of : Option Handler → Codes → Code
finish_of None b = Finish b
finish_of (Some h) b = Rescue b h.faults.number (codes h.block.now)

-- the frame at its end
abbrev pub end_of : OuterCosts → Option Handler → CostFrame
end_of o None = EndFinish o
end_of o (Some h) = EndRescue o h

-- a finish at its end, with the output before it
abbrev pub end_finish : OuterCosts → State Account → State Account
end_finish o out = record out {
  flow = after_finish out.flow out.faults;
  lines = lines_in o.told ++ out.lines;
  faults = faults_in o.told ++ out.faults;
  extra = leaves_behind o.ended o.ended_by_label.items out.extra;
}

-- after the body of an async, its owner continues as it was
abbrev pub end_async : OwnerCosts → State Account → State Account
end_async o out = record {
  flow = after_async out.flow;
  environment = environment o.environment;
  store = out.store;
  lines = lines_in o.told ++ out.lines;
  faults = faults_in o.told ++ out.faults;
  steps = o.steps;
  path = o.path.turns.items;
  spawned = o.spawned;
  extra = ends_behind o.here o.along o.here_by_label.items out.extra;
}

module _ (p : Program) (fresh : ℕ) where
  -- does work, if the flow is on
  abbrev pub doing : Work → Standing → Standing
  doing w s = record s { state = go_on (accounted p fresh s.nest w) s.state }

  -- does a statement whose step was taken and counted
  abbrev pub acted : (label : ℕ) → Code → Standing → Standing
  acted l c s =
      record s {
        state = act p (accounted_rules p fresh s.nest) (accounted p fresh s.nest) l c s.state;
      }

  -- what comes next after a statement
  abbrev pub going : Next → Standing → Standing
  going Nothing s = s
  going (Inside b) s = doing (Block b) s
  going (Iteration l t b) s = doing (Turn l t b) (doing (Block b) s)
  going (TurnsNext l sec n k x i b) s = doing (Pieces l sec n k x i b) s
  going (Body b env) s =
      let out = doing (Block b) s in record out { state = record out.state { environment = env } }

  -- what a frame does once those above it are done
  abbrev pub frame : CostFrame → Standing → Standing
  frame (Rest b) s = doing (Block (codes b.now)) s
  frame (Again l t b) s = doing (Turn l (truth t.now) (codes b.now)) s
  frame (Turns t) s = doing (pieces t) s
  frame (EndFinish o) s = record s { state = end_finish o s.state }
  frame (EndRescue o h) s = record s {
    state = rescued h.faults.number (accounted p fresh s.nest (Block (codes h.block.now)))
        (faults_in o.told) (end_finish o s.state);
  }
  frame (EndAsync owner) s =
      record { state = end_async owner.value s.state; nest = owner.value.nest }
  frame (EndCall env) s = record s { state = record s.state { environment = environment env } }

  -- what all frames do, the last first
  abbrev pub resume : List CostFrame → Standing → Standing
  resume [] s = s
  resume (f ∷ fs) s = frame f (resume fs s)

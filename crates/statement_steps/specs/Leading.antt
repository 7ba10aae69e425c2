-- What a statement leads to: the state after its step, and what comes before the rest of its block.
use Rattle.std.specs.Prelude.{ℕ, ◌+◌, ◌≡◌, List, map, ℤ, Ok, Err, if◌then◌else◌}
use Rattle.sections.specs.Place.{Window}
use Rattle.types.specs.declared.fault.FaultKind.{FaultKind}
use Rattle.types.specs.Code.{Truth, Code, Do, If, While, Split, Parts, Begun, Call, Async, Finish, Rescue}
use Rattle.types.specs.Code.{Codes, Program}
use Rattle.types.specs.Contents.{Contents}
use Rattle.types.specs.Run.{State, fault, number_at, numbers_at, truth_at, window_at, entry}
use Rattle.types.specs.Run.{with_sides, procedure_of}
use Rattle.types.specs.Translation.{codes, environment, truth}
use Rattle.types.specs.TreeSteps.{size_by}
use Rattle.types.specs.Value.{Environment, Valued}
use Rattle.statement_steps.specs.declared.next.Next.{Next as rNext}
use Rattle.statement_steps.specs.declared.next.Next.TheVariants.{Nothing as rNothing, Block as rBlock}
use Rattle.statement_steps.specs.declared.next.Next.TheVariants.{Iteration as rIteration, Turns as rTurns}
use Rattle.statement_steps.specs.declared.next.Next.TheVariants.{Body as rBody}
use Rattle.statement_steps.specs.declared.thread.Thread.{Thread}
use Rattle.statement_steps.specs.Primitive.{halves}
use Rattle.statement_steps.specs.Standing.{state_by}

-- what comes before the rest of the block
pub data Next : Type 0 where
  Nothing : Next
  -- a block
  Inside : Codes → Next
  -- the body of a loop, and then the loop again
  Iteration : (label : ℕ) → (guard : Truth) → (body : Codes) → Next
  -- the turns of a `parts` from the one with the number `next` on
  Turns : (label section size next piece turn : ℕ) → (body : Codes) → Next
  -- the body of a procedure, and then the caller's environment again
  Body : (body : Codes) → (caller : Environment) → Next

-- the state after the step, and what comes next
pub record Led (X : Type 0) : Type 0 where
  pub next : Next
  pub state : State X

module _ {X : Type 0} where
  abbrev pub leads_to : Next → State X → Led X
  leads_to n st = record { next = n; state = st }

  -- a statement that faults leads to nothing
  abbrev pub faulted : (label : ℕ) → FaultKind → State X → Led X
  faulted l f st = leads_to Nothing (fault l f st)

  -- a value leads on, or faults
  abbrev pub by_value : {A : Type 0} → (label : ℕ) → Valued A → (A → Led X) → State X → Led X
  by_value l (Ok v) go st = go v
  by_value l (Err f) go st = faulted l f st

module _ (p : Program) {X : Type 0} where
  -- a condition, a loop, a `split`, a `parts` before its turns, or a call, whose step was taken; any other
  -- statement leads to nothing else
  abbrev pub led : (label : ℕ) → Code → State X → Led X
  led l (Do s) st = leads_to Nothing st
  led l (If t b c) st =
      by_value l (truth_at st t) (λ v. leads_to (if v then Inside b else Inside c) st) st
  led l (While t b) st =
      by_value l (truth_at st t) (λ v. leads_to (if v then Iteration l t b else Nothing) st) st
  led l (Split s e x y b) st =
      by_value l (halves st s e) (λ ws.
      leads_to (Inside b) (record st { environment = with_sides x y ws st.environment })) st
  led l (Parts s e x i b) st =
      by_value l (size_by (number_at st e)) (λ n. leads_to (Turns l s n 0 x i b) st) st
  led l (Begun s n k x i b) st = leads_to Nothing st
  led l (Call f es ss) st =
      by_value l (numbers_at st es) (λ vs.
      leads_to (Body (procedure_of p f).body st.environment)
      (record st { environment = entry vs (map (window_at st) ss) })) st
  led l (Async b) st = leads_to Nothing st
  led l (Finish b) st = leads_to Nothing st
  led l (Rescue b x c) st = leads_to Nothing st

-- what the code returns
abbrev pub next_of : rNext → Next
next_of rNothing = Nothing
next_of (rBlock b) = Inside (codes b.now)
next_of (rIteration l t b) = Iteration l (truth t.now) (codes b.now)
next_of (rTurns t) = Turns t.label t.section.number t.size t.next t.piece.number t.turn.number (codes t.body.now)
next_of (rBody b env) = Body (codes b.now) (environment env)

-- the step leads a thread there; the task keeps its budget and its children, and its memory keeps what
-- writes leave unchanged
pub record Leads {S A : Type 0} (contents : S → Contents) (shape : S → A) (l : Led (Unit {0})) (n : rNext)
    (old new : Thread S) : Type 0 where
  pub next : next_of n ≡ l.next
  pub state : state_by contents new ≡ l.state
  pub steps : new.steps ≡ old.steps
  pub nest : new.nest ≡ old.nest
  pub spawned : new.spawned ≡ old.spawned
  pub memory : shape new.store ≡ shape old.store

-- What comes next after a statement, as frames: it is what the statement means.
use Rattle.std.proofs.Common.{map, Vec, Global, ◌≡◌, ℕ, ◌+◌, ◌*◌, ◌<◌, List, [], ◌∷◌, ◌++◌, Ok, Err, refl, sym, ap, ◌∙◌, subst, arith, Bor}
use Rattle.std.specs.Prelude.{Bool, true, false, if◌then◌else◌}
use Rattle.sections.specs.Translation.{section}
use Rattle.sections.specs.declared.id.SectionId.{SectionId as rSection}
use Rattle.types.specs.declared.code.Number.{Number as rNumber}
use Rattle.types.specs.declared.code.Stmt.{Stmt}
use Rattle.types.specs.declared.value.Environment.{Environment as rEnvironment}
use Rattle.types.specs.Code.{Code, Codes, End, Truth, Program, Do, If, While, Split, Parts, Begun, Call, Async, Finish, Rescue}
use Rattle.types.specs.Run.{On, State, Block, Turn, Pieces, go_on, keeping, number_at, numbers_at, truth_at}
use Rattle.types.specs.Translation.{codes, number, program}
use Rattle.types.specs.TreeSteps.{size_by}
use Rattle.types.specs.Value.{Valued}
use Rattle.statement_steps.specs.declared.next.Next.{Next as rNext}
use Rattle.statement_steps.specs.declared.next.Next.TheVariants.{Nothing as rNothing, Block as rBlock, Iteration as rIteration}
use Rattle.statement_steps.specs.declared.next.Next.TheVariants.{Turns as rTurns, Body as rBody}
use Rattle.statement_steps.specs.declared.store.Store.{Store}
use Rattle.statement_steps.specs.declared.thread.Thread.{Thread}
use Rattle.statement_steps.specs.declared.turns.TurnsToCome.{TurnsToCome}
use Rattle.statement_steps.specs.Turns.{pieces}
use Rattle.statement_steps.specs.Bounds.{IsInBounds, LiesInArrays}
use Rattle.statement_steps.specs.Leading.{Next, Nothing, Inside, Iteration, Turns, Body, Led, Leads, by_value, led, leads_to, next_of}
use Rattle.statement_steps.specs.Lists.{contents_of, lengths_of, lists_of}
use Rattle.statement_steps.specs.Primitive.{halves}
use Rattle.statement_steps.specs.Standing.{flow, state_of}
use Rattle.statement_steps.proofs.Ends.{fits_too}
use Rattle.statement_steps.specs.declared.control.Called.{Called}
use Rattle.statement_steps.proofs.Leading.{IsControl, called_leads, spare_leads, goes_on, led_acts, led_kept, led_lies}
use Rattle.cost.specs.Accounts.{Account, accounted, accounted_rules}
use Rattle.cost.specs.Frames.{cost, rate, turns_left}
use Rattle.cost.specs.Machines.{Does, Enters, EntersBlock, HasStep, IsSound, IsSoundFrame, LeavesLess, LiesBelow, comes_to, goes, nothing, stack, stands, statement, step_rate}
use Rattle.cost.specs.Resume.{Standing, acted, doing, frame, going, resume, standing}
use Rattle.cost.specs.Translation.{account}
use Rattle.cost.specs.declared.account.Account.{Account as rAccount}
use Rattle.cost.specs.declared.frame.CostFrame.{CostFrame}
use Rattle.cost.specs.declared.frame.CostFrame.TheVariants.{Rest, Turns as FurtherTurns}
use Rattle.cost.specs.declared.machine.CostMachine.{CostMachine}
use Rattle.cost.proofs.Frames.{flow_on, meant, nothing_left, resume-push}
use Rattle.cost.proofs.Turns.{five-rate}
use Rattle.cost.proofs.MachineLemmas.{all_pushed}
use Rattle.cost.proofs.Waiting.{costs-block, costs-frame_block, resume-block, resume-frame_block}

module _ (p : Program) (fresh : ℕ) where
  -- the flow is on wherever there is something next
  abbrev Flows : Next → State Account → Type 0
  Flows Nothing st = Unit {0}
  Flows (Inside b) st = st.flow ≡ On
  Flows (Iteration l t b) st = st.flow ≡ On
  Flows (Turns l s n k x i b) st = st.flow ≡ On
  Flows (Body b env) st = st.flow ≡ On

  abbrev FlowsOn : Led Account → Type 0
  FlowsOn a = Flows a.next a.state

  flows_value : {A : Type 0} (l : ℕ) (v : Valued A) (go : A → Led Account) (st : State Account)
      → ((a : A) → FlowsOn (go a)) → FlowsOn (by_value l v go st)
  flows_value l (Ok a) go st there = there a
  flows_value l (Err k) go st there = tt

  flows_choice : (b c : Codes) (st : State Account) (v : Bool) → st.flow ≡ On
      → FlowsOn (leads_to (if v then Inside b else Inside c) st)
  flows_choice b c st true on = on
  flows_choice b c st false on = on

  flows_iteration : (l : ℕ) (t : Truth) (b : Codes) (st : State Account) (v : Bool) → st.flow ≡ On
      → FlowsOn (leads_to (if v then Iteration l t b else Nothing) st)
  flows_iteration l t b st true on = on
  flows_iteration l t b st false on = tt

  led_flows : (l : ℕ) (c : Code) (st : State Account) → st.flow ≡ On → FlowsOn (led p l c st)
  led_flows l (Do s) st on = tt
  led_flows l (If t b c) st on = flows_value l (truth_at st t) _ st (λ v. flows_choice b c st v on)
  led_flows l (While t b) st on = flows_value l (truth_at st t) _ st (λ v. flows_iteration l t b st v on)
  led_flows l (Split s e x y b) st on = flows_value l (halves st s e) _ st (λ ws. on)
  led_flows l (Parts s e x i b) st on = flows_value l (size_by (number_at st e)) _ st (λ n. on)
  led_flows l (Call f es ss) st on = flows_value l (numbers_at st es) _ st (λ vs. on)
  led_flows l (Begun s n k x i b) st on = tt
  led_flows l (Async b) st on = tt
  led_flows l (Finish b) st on = tt
  led_flows l (Rescue b x c) st on = tt

  module _ (s : Standing) where
    abbrev at : State Account → Standing
    at st = record s { state = st }

    block_is : (b : Codes) (st : State Account) → st.flow ≡ On
        → go_on (accounted p fresh s.nest (Block b)) st
        ≡ goes_on p (accounted_rules p fresh s.nest) (accounted p fresh s.nest) (Inside b) st
    block_is b st on = flow_on st.flow st (accounted p fresh s.nest (Block b)) on ∙ meant p fresh s.nest (Block b) st

    going_is : (n : Next) (st : State Account) → Flows n st
        → going p fresh n (at st) ≡ at (goes_on p (accounted_rules p fresh s.nest) (accounted p fresh s.nest) n st)
    going_is Nothing st on = refl
    going_is (Inside b) st on = ap at (block_is b st on)
    going_is (Iteration l t b) st on = ap (λ out. at (go_on (accounted p fresh s.nest (Turn l t b)) out)) (block_is b st on)
    going_is (Turns l sec n k x i b) st on = ap at (flow_on st.flow st (accounted p fresh s.nest (Pieces l sec n k x i b)) on)
    going_is (Body b env) st on =
        ap (λ (out : State Account). at (record out { environment = env })) (flow_on st.flow st (accounted p fresh s.nest (Block b)) on)

    -- what comes next after a statement is what the statement means
    pub going_led : (l : ℕ) (c : Code) → IsControl c → s.state.flow ≡ On
        → (let a = led p l c s.state in going p fresh a.next (at a.state)) ≡ acted p fresh l c s
    going_led l c is on =
        going_is (led p l c s.state).next (led p l c s.state).state (led_flows l c s.state on)
        ∙ ap at (led_acts p (accounted_rules p fresh s.nest) (accounted p fresh s.nest) l c is s.state)

  -- where a thread was led
  pub led_comes : (fs : List CostFrame) (y : rAccount) (old new : Thread Store) (l : ℕ) (c : Code) (n : rNext) → IsControl c
      → (state_of old).flow ≡ On → Leads contents_of lengths_of (led p l c (state_of old)) n old new
      → resume p fresh fs (going p fresh (next_of n) (standing y new)) ≡ resume p fresh fs (acted p fresh l c (standing y old))
  led_comes fs y old new l c n is on leads =
      let x = account y in
      let a = led p l c (state_of old) in
      let from : Next → State (Unit {0}) → ℕ → Standing = λ m st k.
      going p fresh m (record { state = keeping x st; nest = k }) in
      let by_led : Led Account → Standing = λ b. going p fresh b.next (record { state = b.state; nest = old.nest }) in
      ap (resume p fresh fs)
      (ap (λ m. from m (state_of new) new.nest) leads.next
      ∙ ap (λ st. from a.next st new.nest) leads.state
      ∙ ap (λ k. from a.next a.state k) leads.nest
      ∙ ap by_led (sym (led_kept x p l c (state_of old)))
      ∙ going_led (standing y old) l c is on)

-- ---- soundness

-- a thread that was led stays in bounds
pub led_in_bounds : (p : Program) (old new : Thread Store) (l : ℕ) (c : Code) (n : rNext)
    → Leads contents_of lengths_of (led p l c (state_of old)) n old new
    → IsInBounds p old → IsInBounds p new
led_in_bounds p old new l c n leads bounds = record {
  store = fits_too p.arrays (lists_of old.store) (lists_of new.store) bounds.store leads.memory;
  windows = subst (λ (st : State (Unit {0})). LiesInArrays p st.environment) (sym leads.state)
      (led_lies p l c (state_of old) bounds.windows);
}

-- so does the environment that comes back
module _ (p : Program) where
  abbrev LiesNext : Next → Type 0
  LiesNext Nothing = Unit {0}
  LiesNext (Inside b) = Unit {0}
  LiesNext (Iteration l t b) = Unit {0}
  LiesNext (Turns l s n k x i b) = Unit {0}
  LiesNext (Body b env) = LiesInArrays p env

  lies_value : {A : Type 0} (l : ℕ) (v : Valued A) (go : A → Led (Unit {0})) (st : State (Unit {0}))
      → ((a : A) → LiesNext (go a).next) → LiesNext (by_value l v go st).next
  lies_value l (Ok a) go st there = there a
  lies_value l (Err k) go st there = tt

  lies_choice : (b c : Codes) (v : Bool) → LiesNext (if v then Inside b else Inside c)
  lies_choice b c true = tt
  lies_choice b c false = tt

  lies_iteration : (l : ℕ) (t : Truth) (b : Codes) (v : Bool) → LiesNext (if v then Iteration l t b else Nothing)
  lies_iteration l t b true = tt
  lies_iteration l t b false = tt

  led_lies_next : (l : ℕ) (c : Code) (st : State (Unit {0})) → LiesInArrays p st.environment
      → LiesNext (led p l c st).next
  led_lies_next l (Do s) st lies = tt
  led_lies_next l (If t b c) st lies = lies_value l (truth_at st t) _ st (λ v. lies_choice b c v)
  led_lies_next l (While t b) st lies = lies_value l (truth_at st t) _ st (λ v. lies_iteration l t b v)
  led_lies_next l (Split s e x y b) st lies = lies_value l (halves st s e) _ st (λ ws. tt)
  led_lies_next l (Parts s e x i b) st lies = lies_value l (size_by (number_at st e)) _ st (λ n. tt)
  led_lies_next l (Call f es ss) st lies = lies_value l (numbers_at st es) _ st (λ vs. lies)
  led_lies_next l (Begun s n k x i b) st lies = tt
  led_lies_next l (Async b) st lies = tt
  led_lies_next l (Finish b) st lies = tt
  led_lies_next l (Rescue b x c) st lies = tt

  below : (n : rNext) → LiesNext (next_of n) → LiesBelow p n
  below rNothing lies = tt
  below (rBlock b) lies = tt
  below (rIteration l t b) lies = tt
  below (rTurns t) lies = tt
  below (rBody b env) lies = lies

  pub led_below : (old new : Thread Store) (l : ℕ) (c : Code) (n : rNext)
      → Leads contents_of lengths_of (led p l c (state_of old)) n old new → IsInBounds p old → LiesBelow p n
  led_below old new l c n leads bounds =
      below n (subst LiesNext (sym leads.next) (led_lies_next l c (state_of old) bounds.windows))

-- a machine whose thread was led
pub led_sound : (m : CostMachine) (t : Thread Store) (l : ℕ) (c : Code) (n : rNext)
    → Leads contents_of lengths_of (led (program m.plan.program.now) l c (state_of m.thread)) n m.thread t
    → IsSound m → IsSound (record m { thread = t })
led_sound m t l c n leads sound = record {
  thread = led_in_bounds (program m.plan.program.now) m.thread t l c n leads sound.thread;
  spawned = omega (arith, sound.spawned, leads.steps, leads.spawned);
  frames = sound.frames;
}

-- ---- what comes next as frames

-- a block is entered
pub does_block : (b : Bor (List Stmt)) (old new : CostMachine) → IsSound old → EntersBlock b old new
    → Does (goes (rBlock b)) old new
does_block b old new sound e =
    let p = program old.plan.program.now in let fresh = old.plan.budget.steps in
    record {
      plan = ap (λ (m : CostMachine). m.plan) e.rest;
      sound = subst (λ (m : CostMachine). IsSound m) (sym e.rest) (record {
        thread = sound.thread;
        spawned = sound.spawned;
        frames = e.waits.sound p fresh sound.frames;
      });
      comes =
          ap (λ (m : CostMachine). comes_to m nothing) e.rest
          ∙ resume-block old.block old.frames.items p fresh new.frames.items e.waits b (stands old)
          ∙ resume-push p fresh (stack old) (Rest b) (stands old);
    }

-- the same next step, under another name
pub taken_as : (old new : CostMachine) (n m : rNext) → n ≡ m → Does (goes m) old new → Does (goes n) old new
taken_as old new n m is does = subst (λ k. Does (goes k) old new) (sym is) does

-- no more than four transitions more are left
pub less_block : (b : Bor (List Stmt)) (old new : CostMachine) → EntersBlock b old new → LeavesLess 4 old new
less_block b old new e =
    let fresh = old.plan.budget.steps in
    let same = ap (λ (m : CostMachine). turns_left fresh m.thread (stack m)) e.rest in
    omega (arith, same, costs-block old.block old.frames.items fresh new.frames.items e.waits b)

-- a block is entered above a frame
pub does_frame : (f : CostFrame) (b : Bor (List Stmt)) (old new : CostMachine) → IsSound old
    → IsSoundFrame (program old.plan.program.now) old.plan.budget.steps f → Enters f b old new
    → Does (λ p fresh s. frame p fresh f (doing p fresh (Block (codes b.now)) s)) old new
does_frame f b old new sound fine e =
    let p = program old.plan.program.now in let fresh = old.plan.budget.steps in
    record {
      plan = ap (λ (m : CostMachine). m.plan) e.rest;
      sound = subst (λ (m : CostMachine). IsSound m) (sym e.rest) (record {
        thread = sound.thread;
        spawned = sound.spawned;
        frames = all_pushed (IsSoundFrame p fresh) e.below new.frames.items f e.frames fine (e.waits.sound p fresh sound.frames);
      });
      comes =
          ap (λ (m : CostMachine). comes_to m nothing) e.rest
          ∙ resume-frame_block old.block old.frames.items p fresh e.below e.waits new.frames.items f b (stands old) e.frames
          ∙ resume-push p fresh (stack old ++ f ∷ []) (Rest b) (stands old)
          ∙ resume-push p fresh (stack old) f (frame p fresh (Rest b) (stands old));
    }

pub less_frame : (f : CostFrame) (b : Bor (List Stmt)) (old new : CostMachine) → cost old.plan.budget.steps f ≡ 1
    → Enters f b old new → LeavesLess 4 old new
less_frame f b old new one e =
    let fresh = old.plan.budget.steps in
    let same = ap (λ (m : CostMachine). turns_left fresh m.thread (stack m)) e.rest in
    omega (
      arith,
      same,
      one,
      costs-frame_block old.block old.frames.items fresh e.below e.waits new.frames.items f b e.frames,
    )

-- the turns of a `parts` are a frame below an empty block
pub does_turns : (t : TurnsToCome) (none : Bor (List Stmt)) (old new : CostMachine) → none.now ≡ [] → IsSound old
    → Enters (FurtherTurns t) none old new → Does (goes (rTurns t)) old new
does_turns t none old new empty sound e =
    let p = program old.plan.program.now in let fresh = old.plan.budget.steps in
    let d = does_frame (FurtherTurns t) none old new sound tt e in
    record {
      plan = d.plan;
      sound = d.sound;
      comes =
          d.comes
          ∙ ap (λ (b : List Stmt). resume p fresh (stack old) (doing p fresh (pieces t) (doing p fresh (Block (codes b)) (stands old)))) empty
          ∙ sym (resume-push p fresh (stack old) (FurtherTurns t) (doing p fresh (Block End) (stands old)))
          ∙ sym (nothing_left p fresh (stack old ++ FurtherTurns t ∷ []) (stands old))
          ∙ resume-push p fresh (stack old) (FurtherTurns t) (stands old);
    }

-- ---- a statement and what comes next

-- what comes next, once a statement has led there, is the statement
pub does_led : (m : CostMachine) (t : Thread Store) (new : CostMachine) (l : ℕ) (c : Code) (n : rNext) → IsControl c → HasStep m
    → Leads contents_of lengths_of (led (program m.plan.program.now) l c (state_of m.thread)) n m.thread t
    → Does (goes n) (record m { thread = t }) new → Does (statement l c) m new
does_led m t new l c n is step leads does = record {
  plan = does.plan;
  sound = does.sound;
  comes =
      does.comes
      ∙ led_comes (program m.plan.program.now) m.plan.budget.steps (stack m) m.account m.thread t l c n is (ap flow step.on) leads;
}

-- and takes as many transitions
pub less_led : (m : CostMachine) (t : Thread Store) (new : CostMachine) (l : ℕ) (c : Code) (n : rNext)
    → Leads contents_of lengths_of (led (program m.plan.program.now) l c (state_of m.thread)) n m.thread t
    → LeavesLess 4 (record m { thread = t }) new → LeavesLess 4 m new
less_led m t new l c n leads less =
    let fresh = m.plan.budget.steps in
    let steps = ap (λ k. k * rate fresh t.nest) leads.steps in
    let nest = ap (λ k. m.thread.steps * rate fresh k) leads.nest in
    let plan_less : turns_left fresh new.thread (stack new) < turns_left fresh t (stack m) + 4 = less in
    omega (arith, plan_less, steps, nest)

pub less_step : (m new : CostMachine) → LeavesLess 4 m new → LeavesLess (step_rate m) m new
less_step m new less = omega (arith, less, five-rate m.plan.budget.steps m.thread.nest)

-- a call led a thread with other room for calls
pub led_call : (m : CostMachine) (t : Thread Store) (l f : ℕ) (called : Called) (values : Bor (List rNumber)) (sections : Bor (List rSection))
    (n : rNext) (spare : Vec rEnvironment Global) → called.values ≡ values → called.sections ≡ sections
    → Leads contents_of lengths_of (led (program m.plan.program.now) l (Call f (map number called.values.now) (map section called.sections.now))
    (state_of m.thread)) n (record m.thread { spare = spare }) t
    → Leads contents_of lengths_of (led (program m.plan.program.now) l (Call f (map number values.now) (map section sections.now))
    (state_of m.thread)) n m.thread t
led_call m t l f called values sections n spare same_values same_sections leads =
    let p = program m.plan.program.now in
    called_leads contents_of lengths_of p l n t m.thread f (map number called.values.now) (map number values.now) (map section called.sections.now)
    (map section sections.now) (ap (λ (v : Bor (List rNumber)). map number v.now) same_values)
    (ap (λ (v : Bor (List rSection)). map section v.now) same_sections)
    (spare_leads contents_of lengths_of p l n t m.thread spare (Call f (map number called.values.now) (map section called.sections.now)) leads)

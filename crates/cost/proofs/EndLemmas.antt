-- The run from its start to its end.
use Rattle.std.proofs.Common.{◌≡◌, ℕ, List, [], ◌∷◌, ◌++◌, refl, sym, ap, ◌∙◌, subst, Bor}
use Rattle.std.specs.Prelude.{ℤ}
use Rattle.types.specs.declared.code.Stmt.{Stmt}
use Rattle.types.specs.Code.{Codes, Program}
use Rattle.types.specs.Contents.{held_by}
use Rattle.types.specs.Meaning.{one}
use Rattle.types.specs.Outcome.{start, outcome, outcome_by}
use Rattle.types.specs.Run.{State, Block, keeping}
use Rattle.types.specs.Translation.{codes, program, budget}
use Rattle.statement_steps.specs.declared.store.Store.{Store}
use Rattle.statement_steps.specs.declared.thread.Plan.{Plan}
use Rattle.statement_steps.specs.declared.thread.Thread.{Thread}
use Rattle.statement_steps.specs.Bounds.{IsInBounds}
use Rattle.statement_steps.specs.Lists.{lists_of}
use Rattle.statement_steps.specs.Standing.{state_of}
use Rattle.statement_steps.proofs.Ends.{outcome_at}
use Rattle.cost.specs.declared.frame.CostFrame.{CostFrame}
use Rattle.cost.specs.declared.frame.CostFrame.TheVariants.{Rest}
use Rattle.cost.specs.declared.account.Account.{Account as rAccount}
use Rattle.cost.specs.Accounts.{Account, nothing_noted}
use Rattle.cost.specs.Costs.{nothing_done}
use Rattle.cost.specs.Kept.{printed}
use Rattle.cost.specs.Laws.{totals, untallied}
use Rattle.cost.specs.Resume.{Standing, doing, placed, resume, standing}
use Rattle.cost.specs.Translation.{account}
use Rattle.cost.specs.declared.machine.CostMachine.{CostMachine}
use Rattle.cost.specs.Machines.{HasEnded, IsAtStart, IsSound, comes_to, end_of, nothing, stack, stands}
use Rattle.cost.proofs.Frames.{resume-pushed}
use Rattle.cost.proofs.Untabled.{totals-accounted}
use Rattle.cost.proofs.Untallied.{untallied-tallied}
use Rattle.cost.proofs.Waiting.{block_done}

-- the body of `main` on top of the start is the whole run
pub main_on_top : (p : Program) (steps nest rows : ℕ) (input : List (List ℤ)) (gs : List CostFrame) (b : Bor (List Stmt))
    (t : Thread Store) (y : Account) → gs ≡ [] ++ Rest b ∷ [] → codes b.now ≡ p.main.body
    → state_of t ≡ start tt p steps (held_by input) → y ≡ nothing_noted rows → t.nest ≡ nest
    → resume p steps gs (placed y t) ≡ end_of p steps nest rows input
main_on_top p steps nest rows input gs b t y g body state none same =
    let at : State (Unit {0}) → Account → ℕ → Standing = λ st y n. record { state = keeping y st; nest = n } in
    resume-pushed p steps [] gs (Rest b) (placed y t) g
    ∙ ap (λ (c : Codes). doing p steps (Block c) (placed y t)) body
    ∙ ap (λ (st : State (Unit {0})). doing p steps (Block p.main.body) (at st y t.nest)) state
    ∙ ap (λ (y : Account). doing p steps (Block p.main.body) (at (start tt p steps (held_by input)) y t.nest)) none
    ∙ ap (λ (n : ℕ). doing p steps (Block p.main.body) (at (start tt p steps (held_by input)) (nothing_noted rows) n)) same

-- a thread at its end is in the state that the one-thread meaning leads to
is_one : (plan : Plan) (t : Thread Store) (y : rAccount) (rows : ℕ) (input : List (List ℤ))
    → standing y t ≡ end_of (program plan.program.now) plan.budget.steps plan.budget.nest rows input
    → let p = program plan.program.now in let b = plan.budget in
    state_of t ≡ one p b.steps b.nest (Block p.main.body) (start tt p b.steps (held_by input))
is_one plan t y rows input comes =
    let p = program plan.program.now in
    let begun : State Account = start (nothing_noted rows) p plan.budget.steps (held_by input) in
    ap (λ (s : Standing). untallied (totals s.state)) comes
    ∙ ap untallied (totals-accounted p plan.budget.steps plan.budget.nest (Block p.main.body) begun)
    ∙ untallied-tallied p plan.budget.steps plan.budget.nest (Block p.main.body)
    (start nothing_done p plan.budget.steps (held_by input))

-- with what it has printed
pub told_lines : (plan : Plan) (t : Thread Store) (y : rAccount) (rows : ℕ) (input : List (List ℤ))
    → standing y t ≡ end_of (program plan.program.now) plan.budget.steps plan.budget.nest rows input
    → (state_of t).lines ≡ printed (program plan.program.now) input (budget plan.budget)
told_lines plan t y rows input comes =
    ap (λ (st : State (Unit {0})). st.lines) (is_one plan t y rows input comes)

-- a thread at its end gives the outcome
pub told : (plan : Plan) (t : Thread Store) (y : rAccount) (rows : ℕ) (input : List (List ℤ)) → IsInBounds (program plan.program.now) t
    → standing y t ≡ end_of (program plan.program.now) plan.budget.steps plan.budget.nest rows input
    → outcome_by (state_of t).flow (record {
      arrays = lists_of t.store;
      lines = (state_of t).lines;
      faults = (state_of t).faults;
    }) ≡ outcome (program plan.program.now) input (budget plan.budget)
told plan t y rows input bounds comes =
    outcome_at (program plan.program.now) input (lists_of t.store) (budget plan.budget) (state_of t)
    bounds.store refl (is_one plan t y rows input comes)

-- if nothing is left to do, the machine has the position that it reaches
pub ended : (old new : CostMachine) → HasEnded old new → stands new ≡ comes_to old nothing
ended old new e =
    let p = program old.plan.program.now in let fresh = old.plan.budget.steps in
    ap (standing new.account) e.thread
    ∙ ap (λ (y : rAccount). standing y old.thread) e.account
    ∙ sym (block_done p fresh [] old.block (stands old) e.block)
    ∙ ap (λ (fs : List CostFrame). resume p fresh (fs ++ Rest old.block ∷ []) (stands old)) (sym e.frames)

module _ (job : Plan) (rows : ℕ) (input : List (List ℤ)) (first m end : CostMachine) where
  abbrev p : Program
  p = program job.program.now

  -- a machine that started at `main`, and has nothing left to do
  pub record HasRun : Type 0 where
    pub begins : IsAtStart job rows input first
    pub same : m.plan ≡ first.plan
    pub comes : comes_to m nothing ≡ comes_to first nothing
    pub sound : IsSound m
    pub ended : HasEnded m end

  -- its position is the one that the whole run reaches
  pub stands_at_end : HasRun → stands end ≡ end_of p job.budget.steps job.budget.nest rows input
  stands_at_end r =
      ended m end r.ended
      ∙ r.comes
      ∙ ap (λ (q : Plan). resume (program q.program.now) q.budget.steps (stack first) (stands first)) r.begins.plan
      ∙ main_on_top p job.budget.steps job.budget.nest rows input (stack first) first.block first.thread (account first.account)
      (ap (λ (fs : List CostFrame). fs ++ Rest first.block ∷ []) r.begins.frames) r.begins.block r.begins.state r.begins.account r.begins.nest

  -- with all places there
  pub bounds_at_end : HasRun → IsInBounds p end.thread
  bounds_at_end r =
      subst (λ (t : Thread Store). IsInBounds p t) (sym r.ended.thread)
      (subst (λ (q : Plan). IsInBounds (program q.program.now) m.thread) (r.same ∙ r.begins.plan) r.sound.thread)

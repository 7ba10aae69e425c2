-- The loop in the last frame.
use Rattle.std.proofs.Common.{ℕ, ◌≡◌, ◌-◌, List, [], ◌∷◌, ◌++◌, Vec, Global, length, refl, sym, ap, ◌∙◌, arith}
use Rattle.std.specs.Prelude.{Bool, true, false, Ok, Err, if◌then◌else◌, take}
use Rattle.std.proofs.lemmas.List.{length-append}
use Rattle.std.proofs.lemmas.List.Elements.{All-same, All-take}
use Rattle.types.specs.Code.{Codes, Program, Truth, While}
use Rattle.types.specs.Run.{State, Turn, truth_at}
use Rattle.types.specs.Translation.{program}
use Rattle.types.specs.Value.{Valued}
use Rattle.statement_steps.specs.declared.store.Store.{Store}
use Rattle.statement_steps.specs.declared.thread.Thread.{Thread}
use Rattle.statement_steps.specs.Leading.{Next, Nothing, Iteration, by_value, led, leads_to}
use Rattle.statement_steps.specs.Standing.{TakesStep, flow}
use Rattle.cost.specs.Accounts.{Account, steps_at}
use Rattle.cost.specs.declared.account.Account.{Account as rAccount}
use Rattle.cost.specs.declared.frame.CostFrame.{CostFrame}
use Rattle.cost.specs.declared.machine.CostMachine.{CostMachine}
use Rattle.cost.specs.Machines.{IsSound, IsSoundFrame, comes_to, iterates, nothing, stands}
use Rattle.cost.specs.Resume.{Standing, acted, doing, frame, placed, resume, standing}
use Rattle.cost.specs.Translation.{account}
use Rattle.cost.proofs.Frames.{again_on_top, resume-pushed}
use Rattle.cost.proofs.MachineLemmas.{machine_of}
use Rattle.cost.proofs.Waiting.{block_done}

-- the frames without the last one
front : (xs ys : List CostFrame) → take (length xs) (xs ++ ys) ≡ xs
front [] ys = refl
front (x ∷ xs) ys = ap (λ l. x ∷ l) (front xs ys)

pub before_last : (before fs : List CostFrame) (f : CostFrame) → fs ≡ before ++ f ∷ [] → take (length fs - 1) fs ≡ before
before_last before fs f e =
    let less : length (before ++ f ∷ []) - 1 ≡ length before = omega (arith, length-append before (f ∷ [])) in
    ap (λ (l : List CostFrame). take (length l - 1) l) e
    ∙ ap (λ n. take n (before ++ f ∷ [])) less
    ∙ front before (f ∷ [])

-- what a machine comes to whose block is done, by its last frame
pub comes_by_last : (m : CostMachine) (f : CostFrame) (before : List CostFrame) → m.frames.items ≡ before ++ f ∷ [] → m.block.now ≡ []
    → (let p = program m.plan.program.now in let fresh = m.plan.budget.steps in
    comes_to m nothing ≡ resume p fresh before (frame p fresh f (stands m)))
comes_by_last m f before last done =
    let p = program m.plan.program.now in let fresh = m.plan.budget.steps in
    block_done p fresh m.frames.items m.block (stands m) done ∙ resume-pushed p fresh before m.frames.items f (stands m) last

-- the machine without its last frame, or without any other
pub sound_without : (m : CostMachine) (n : ℕ) (fs : Vec CostFrame Global) → fs.items ≡ take n m.frames.items → IsSound m
    → IsSound (machine_of m.plan m.account m.thread m.block fs)
sound_without m n fs is sound =
    let P = IsSoundFrame (program m.plan.program.now) m.plan.budget.steps in
    record {
      thread = sound.thread;
      spawned = sound.spawned;
      frames = All-same P fs.items (take n m.frames.items) is (All-take P n m.frames.items sound.frames);
    }

-- a loop whose step was taken and counted
pub iteration : (m : CostMachine) (t : Thread Store) (y : rAccount) (before : List CostFrame) (l : ℕ) (guard : Truth) (body : Codes)
    → TakesStep m.thread t → account y ≡ steps_at l (account m.account)
    → (let p = program m.plan.program.now in let fresh = m.plan.budget.steps in
    resume p fresh before (acted p fresh l (While guard body) (standing y t))
    ≡ resume p fresh before (doing p fresh (Turn l guard body) (stands m)))
iteration m t y before l guard body step counted =
    let p = program m.plan.program.now in let fresh = m.plan.budget.steps in
    let at : Account → Thread Store → Standing = λ y t. resume p fresh before (acted p fresh l (While guard body) (placed y t)) in
    ap (at (account y)) step.same
    ∙ ap (λ y. at y (record m.thread { steps = t.steps })) counted
    ∙ again_on_top p fresh before l guard body t.steps (stands m) (ap flow step.on) step.less

-- if the body of a loop comes next, it is this loop's
module _ (p : Program) (l : ℕ) (t : Truth) (b : Codes) (st : State (Unit {0})) where
  by_truth : (v : Valued Bool) → iterates (by_value l v (λ v. leads_to (if v then Iteration l t b else Nothing) st) st).next ≡ true
      → (by_value l v (λ v. leads_to (if v then Iteration l t b else Nothing) st) st).next ≡ Iteration l t b
  by_truth (Ok true) on = refl
  by_truth (Ok false) on = absurd (let bad : ⊥ = cc in bad)
  by_truth (Err f) on = absurd (let bad : ⊥ = cc in bad)

  pub this_loop : (n : Next) → n ≡ (led p l (While t b) st).next → iterates n ≡ true → n ≡ Iteration l t b
  this_loop n is on = is ∙ by_truth (truth_at st t) (ap iterates (sym is) ∙ on)

use Rattle.std.proofs.Common.{◌≡◌, ◌-◌, ◌*◌, List, Vec, Global, arith, ap, ◌∙◌, length, refl, sym, take}
use Rattle.std.proofs.lemmas.Result.{on_ok_weaker}
use Rattle.types.specs.Code.{While}
use Rattle.types.specs.Translation.{program, truth, codes}
use Rattle.statement_steps.specs.declared.store.Store.{Store}
use Rattle.statement_steps.specs.declared.thread.Thread.{Thread}
use Rattle.statement_steps.specs.Leading.{next_of}
use Rattle.statement_steps.specs.Standing.{TakesStep, flow, state_of}
use Rattle.cost.specs.declared.account.Account.{Account as rAccount}
use Rattle.cost.specs.declared.frame.CostFrame.{CostFrame}
use Rattle.cost.specs.declared.frame.CostFrame.TheVariants.{Again, Rest}
use Rattle.cost.specs.declared.machine.CostMachine.{CostMachine}
use Rattle.cost.specs.Frames.{costs, rate}
use Rattle.cost.specs.Machines.{EndsWith, HasStep, IsSound, nothing, statement}
use Rattle.cost.specs.Resume.{acted, frame, going, resume, standing}
use Rattle.cost.specs.Translation.{account}
use Rattle.cost.proofs.Beside.{beside, beside-stopped}
use Rattle.cost.proofs.Frames.{resume-push, resume-pushed, turn_not_done}
use Rattle.cost.proofs.Going.{does_led, led_below, led_comes, led_sound, less_led}
use Rattle.cost.proofs.Looping.{before_last, comes_by_last, iteration, sound_without, this_loop}
use Rattle.cost.proofs.MachineLemmas.{does_by, machine_of, step_sound, step_counted, sound_with}
use Rattle.cost.proofs.Turns.{costs-push, costs-pushed, taken, missed, missed_on, turns-step, five-rate}
use Rattle.cost.proofs.Waiting.{block_done, open_is_one}
use Rattle.cost.proofs.machine.CostMachine.again.Goals as goal

-- the machine with these frames, once the step was taken and counted
has_step : (m : CostMachine) (t : Thread Store) (y : rAccount) (fs : Vec CostFrame Global) → TakesStep m.thread t
    → IsSound (machine_of m.plan m.account m.thread m.block fs) → HasStep (machine_of m.plan y t m.block fs)
has_step m t y fs step sound =
    step_counted (machine_of m.plan m.account t m.block fs) y (step_sound m.plan m.account m.thread t m.block m.block fs step sound)

-- the frames without the last one
left : (fs gs : Vec CostFrame Global) (f : CostFrame) (last : EndsWith f fs.items) → gs.items ≡ take (length fs.items - 1) fs.items
    → gs.items ≡ last.before
left fs gs f last is = is ∙ before_last last.before fs.items f last.is

pub take-requires-clause-sound : goal.take-requires-clause-sound
take-requires-clause-sound g c =
    let m = c.args.self.now in let t = c.takes_step.new.self in let fs = c.drop_last.new.frames in
    let step = taken c.takes_step.result m.thread t c.if-takes_step.true c.takes_step.ensures.taken in
    led_sound (machine_of m.plan c.step.new.self t m.block fs) c.turn_loop.new.self c.args.label
    (While (truth c.args.guard.now) (codes c.args.body.now)) c.in_ok-next.next c.in_ok-next.ensures
    (has_step m t c.step.new.self fs step (sound_without m (length m.frames.items - 1) fs c.drop_last.ensures c.requires.sound)).sound

pub take-requires-clause-below : goal.take-requires-clause-below
take-requires-clause-below g c =
    let m = c.args.self.now in let t = c.takes_step.new.self in
    let step = taken c.takes_step.result m.thread t c.if-takes_step.true c.takes_step.ensures.taken in
    led_below (program m.plan.program.now) t c.turn_loop.new.self c.args.label
    (While (truth c.args.guard.now) (codes c.args.body.now)) c.in_ok-next.next c.in_ok-next.ensures
    (has_step m t c.step.new.self m.frames step c.requires.sound).sound.thread

pub returns-then-is_iteration-clause-does : goal.returns-then-is_iteration-clause-does
returns-then-is_iteration-clause-does g c =
    let m = c.args.self.now in let p = program m.plan.program.now in let fresh = m.plan.budget.steps in
    let t = c.takes_step.new.self in let u = c.turn_loop.new.self in let y = c.step.new.self in
    let step = taken c.takes_step.result m.thread t c.if-takes_step.true c.takes_step.ensures.taken in
    let l = c.args.label in let guard = truth c.args.guard.now in let body = codes c.args.body.now in
    let last = c.requires.last in let f = Again l c.args.guard c.args.body in
    let next = next_of c.in_ok-next.next in let leads = c.in_ok-next.ensures in
    let stood = has_step m t y m.frames step c.requires.sound in
    let sound = led_sound (machine_of m.plan y t m.block m.frames) u l (While guard body) c.in_ok-next.next leads stood.sound in
    record {
      plan = refl;
      sound = record { thread = sound.thread; spawned = sound.spawned; frames = sound.frames };
      comes =
          resume-push p fresh m.frames.items (Rest c.args.body) (standing y u)
          ∙ resume-pushed p fresh last.before m.frames.items f (frame p fresh (Rest c.args.body) (standing y u)) last.is
          ∙ ap (λ n. resume p fresh last.before (going p fresh n (standing y u)))
          (sym (this_loop p l guard body (state_of t) next leads.next (sym c.is_iteration.ensures ∙ c.if-is_iteration.true)))
          ∙ led_comes p fresh last.before y t u l (While guard body) c.in_ok-next.next tt (ap flow stood.on) leads
          ∙ iteration m t y last.before l guard body step c.in_ok-step.ensures
          ∙ sym (comes_by_last m f last.before last.is c.requires.done);
    }

pub returns-then-is_iteration-clause-ends : goal.returns-then-is_iteration-clause-ends
returns-then-is_iteration-clause-ends g c =
    let m = c.args.self.now in let fresh = m.plan.budget.steps in
    let t = c.takes_step.new.self in let u = c.turn_loop.new.self in
    let step = taken c.takes_step.result m.thread t c.if-takes_step.true c.takes_step.ensures.taken in
    let leads = c.in_ok-next.ensures in
    omega (
      arith,
      costs-push fresh m.frames.items (Rest c.args.body),
      costs-push fresh m.frames.items (Rest m.block),
      open_is_one c.args.body.now,
      five-rate fresh t.nest,
      turns-step fresh m.thread t step.less (ap (λ (t : Thread Store). t.nest) step.same),
      ap (λ k. k * rate fresh u.nest) leads.steps,
      ap (λ k. t.steps * rate fresh k) leads.nest,
    )

pub returns-else-is_iteration-clause-does : goal.returns-else-is_iteration-clause-does
returns-else-is_iteration-clause-does g c =
    let m = c.args.self.now in let p = program m.plan.program.now in let fresh = m.plan.budget.steps in
    let t = c.takes_step.new.self in let y = c.step.new.self in let fs = c.drop_last.new.frames in
    let step = taken c.takes_step.result m.thread t c.if-takes_step.true c.takes_step.ensures.taken in
    let l = c.args.label in let guard = truth c.args.guard.now in let body = codes c.args.body.now in
    let last = c.requires.last in let f = Again l c.args.guard c.args.body in
    let stood = has_step m t y fs step (sound_without m (length m.frames.items - 1) fs c.drop_last.ensures c.requires.sound) in
    let begun = machine_of m.plan y t m.block fs in
    let done = acted p fresh l (While guard body) (standing y t) in
    on_ok_weaker c.take.result
    (λ does. does_by nothing (statement l (While guard body)) m begun c.take.new.self refl
    (block_done p fresh fs.items m.block done c.requires.done
    ∙ ap (λ (l : List CostFrame). resume p fresh l done) (left m.frames fs f last c.drop_last.ensures)
    ∙ iteration m t y last.before l guard body step c.in_ok-step.ensures
    ∙ sym (comes_by_last m f last.before last.is c.requires.done))
    (does_led begun c.turn_loop.new.self c.take.new.self l (While guard body) c.in_ok-next.next tt stood c.in_ok-next.ensures does))
    c.take.ensures.does

pub returns-else-is_iteration-clause-ends : goal.returns-else-is_iteration-clause-ends
returns-else-is_iteration-clause-ends g c =
    let m = c.args.self.now in let fresh = m.plan.budget.steps in
    let t = c.takes_step.new.self in let y = c.step.new.self in let fs = c.drop_last.new.frames in
    let step = taken c.takes_step.result m.thread t c.if-takes_step.true c.takes_step.ensures.taken in
    let last = c.requires.last in let f = Again c.args.label c.args.guard c.args.body in
    on_ok_weaker c.take.result
    (λ less. omega (
      arith,
      less_led (machine_of m.plan y t m.block fs) c.turn_loop.new.self c.take.new.self c.args.label
          (While (truth c.args.guard.now) (codes c.args.body.now)) c.in_ok-next.next c.in_ok-next.ensures less,
      five-rate fresh t.nest,
      turns-step fresh m.thread t step.less (ap (λ (t : Thread Store). t.nest) step.same),
      costs-push fresh fs.items (Rest m.block),
      costs-push fresh m.frames.items (Rest m.block),
      costs-pushed fresh last.before m.frames.items f last.is,
      ap (costs fresh) (left m.frames fs f last c.drop_last.ensures),
    ))
    c.take.ensures.ends

pub returns-in_ok-report_stop-clause-does : goal.returns-in_ok-report_stop-clause-does
returns-in_ok-report_stop-clause-does g c =
    let m = c.args.self.now in let p = program m.plan.program.now in let fresh = m.plan.budget.steps in
    let t = c.takes_step.new.self in let fs = c.drop_last-else-takes_step.new.frames in
    let none = missed c.takes_step.result m.thread t c.if-takes_step.false c.takes_step.ensures.not_taken in
    let steps = ap (λ (t : Thread Store). t.steps) none.same in
    let spawned = ap (λ (t : Thread Store). t.spawned) none.same in
    let last = c.requires.last in let f = Again c.args.label c.args.guard c.args.body in
    record {
      plan = refl;
      sound =
          sound_with m.plan m.account m.thread t m.block m.block fs (ap (λ (t : Thread Store). t.store) none.same)
          (ap (λ (t : Thread Store). t.environment) none.same) (omega (arith, steps, spawned))
          (sound_without m (length m.frames.items - 1) fs c.drop_last-else-takes_step.ensures c.requires.sound);
      comes =
          block_done p fresh fs.items m.block (standing m.account t) c.requires.done
          ∙ ap (λ (l : List CostFrame). resume p fresh l (standing m.account t)) (left m.frames fs f last c.drop_last-else-takes_step.ensures)
          ∙ turn_not_done p fresh last.before c.args.label (truth c.args.guard.now) (codes c.args.body.now)
          (standing m.account m.thread) (standing m.account t) (missed_on m.thread t none)
          (ap (beside (account m.account)) none.flow ∙ beside-stopped (account m.account) (flow m.thread.flow) (state_of m.thread))
          (ap (λ (t : Thread Store). t.nest) none.same)
          ∙ sym (comes_by_last m f last.before last.is c.requires.done);
    }

pub returns-in_ok-report_stop-clause-ends : goal.returns-in_ok-report_stop-clause-ends
returns-in_ok-report_stop-clause-ends g c =
    let m = c.args.self.now in let fresh = m.plan.budget.steps in
    let t = c.takes_step.new.self in let fs = c.drop_last-else-takes_step.new.frames in
    let none = missed c.takes_step.result m.thread t c.if-takes_step.false c.takes_step.ensures.not_taken in
    let last = c.requires.last in let f = Again c.args.label c.args.guard c.args.body in
    omega (
      arith,
      ap (λ (t : Thread Store). t.steps * rate fresh t.nest) none.same,
      costs-push fresh fs.items (Rest m.block),
      costs-push fresh m.frames.items (Rest m.block),
      costs-pushed fresh last.before m.frames.items f last.is,
      ap (costs fresh) (left m.frames fs f last c.drop_last-else-takes_step.ensures),
    )

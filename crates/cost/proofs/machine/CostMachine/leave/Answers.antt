use Rattle.std.proofs.Common.{◌≡◌, arith, ap, ◌∙◌, refl, sym, subst, ◌++◌, ◌+◌, ◌*◌, ◌≤◌}
use Rattle.std.proofs.lemmas.Result.{on_ok_weaker}
use Rattle.types.specs.declared.value.Environment.{Environment}
use Rattle.types.specs.Translation.{program, environment}
use Rattle.cost.specs.declared.frame.CostFrame.{CostFrame}
use Rattle.cost.specs.declared.frame.OwnerCosts.{OwnerCosts}
use Rattle.cost.specs.declared.frame.CostFrame.TheVariants.{Again, Rest}
use Rattle.cost.specs.Frames.{cost, rate}
use Rattle.cost.specs.Machines.{Does, IsSoundFrame, stack, turn_of}
use Rattle.types.specs.Contents.{FitsArrays}
use Rattle.statement_steps.specs.Bounds.{LiesInArrays}
use Rattle.statement_steps.specs.Lists.{lists_of}
use Rattle.types.specs.Run.{Flow, State}
use Rattle.cost.specs.Resume.{Standing, faults_in, frame, lines_in, resume, standing}
use Rattle.cost.specs.Accounts.{Account, ends_behind}
use Rattle.statement_steps.specs.Standing.{flow, state_of}
use Rattle.statement_steps.specs.declared.store.Store.{Store}
use Rattle.statement_steps.specs.declared.thread.Thread.{Thread}
use Rattle.cost.specs.Translation.{account}
use Rattle.cost.proofs.Frames.{resume-push}
use Rattle.cost.proofs.Looping.{comes_by_last}
use Rattle.cost.proofs.MachineLemmas.{machine_of, sound_pushed, told_before}
use Rattle.cost.proofs.Owners.{after_owner}
use Rattle.cost.proofs.Turns.{costs-push, costs-pushed}
use Rattle.cost.proofs.Waiting.{block_done}
use Rattle.cost.proofs.machine.CostMachine.leave.Goals as goal

pub returns-in-Rest-clause-does : goal.returns-in-Rest-clause-does
returns-in-Rest-clause-does g c =
    let m = c.args.self.now in let p = program m.plan.program.now in let fresh = m.plan.budget.steps in
    let b = c.in-Rest.block in
    subst (λ (f : CostFrame). Does (turn_of f) m (machine_of m.plan m.account m.thread b m.frames)) (sym c.in-Rest.is)
    (record {
      plan = refl;
      sound = record {
        thread = c.requires.sound.thread;
        spawned = c.requires.sound.spawned;
        frames = c.requires.sound.frames;
      };
      comes =
          resume-push p fresh m.frames.items (Rest b) (standing m.account m.thread)
          ∙ sym (block_done p fresh m.frames.items m.block (frame p fresh (Rest b) (standing m.account m.thread)) c.requires.done);
    })

pub returns-in-Rest-clause-ends : goal.returns-in-Rest-clause-ends
returns-in-Rest-clause-ends g c =
    let m = c.args.self.now in let fresh = m.plan.budget.steps in
    omega (
      arith,
      costs-push fresh m.frames.items (Rest c.in-Rest.block),
      costs-push fresh m.frames.items (Rest m.block),
      ap (cost fresh) c.in-Rest.is,
    )

pub again-requires-clause-sound : goal.again-requires-clause-sound
again-requires-clause-sound g c =
    let m = c.args.self.now in let a = c.in-Again in
    sound_pushed m.plan m.account m.thread m.block m.block m.frames c.push.new.self (Again a.label a.guard a.body) c.in_ok-push-in-Again.ensures.items tt
    c.requires.sound

pub again-requires-clause-last : goal.again-requires-clause-last
again-requires-clause-last g c = record { before = c.args.self.now.frames.items; is = c.in_ok-push-in-Again.ensures.items }

pub returns-in_ok-push-in-Again-clause-does : goal.returns-in_ok-push-in-Again-clause-does
returns-in_ok-push-in-Again-clause-does g c =
    let m = c.args.self.now in let p = program m.plan.program.now in let fresh = m.plan.budget.steps in
    let f = Again c.in-Again.label c.in-Again.guard c.in-Again.body in let s = standing m.account m.thread in
    on_ok_weaker c.again.result
    (λ does. subst (λ (f : CostFrame). Does (turn_of f) m c.again.new.self) (sym c.in-Again.is)
    (record {
      plan = does.plan;
      sound = does.sound;
      comes =
          does.comes
          ∙ comes_by_last (machine_of m.plan m.account m.thread m.block c.push.new.self) f m.frames.items c.in_ok-push-in-Again.ensures.items c.requires.done
          ∙ sym (block_done p fresh m.frames.items m.block (frame p fresh f s) c.requires.done);
    }))
    c.again.ensures.does

pub returns-in_ok-push-in-Again-clause-ends : goal.returns-in_ok-push-in-Again-clause-ends
returns-in_ok-push-in-Again-clause-ends g c =
    let m = c.args.self.now in let fresh = m.plan.budget.steps in
    let f = Again c.in-Again.label c.in-Again.guard c.in-Again.body in
    on_ok_weaker c.again.result
    (λ less. omega (
      arith,
      less,
      costs-pushed fresh m.frames.items c.push.new.self.items f c.in_ok-push-in-Again.ensures.items,
      costs-push fresh c.push.new.self.items (Rest m.block),
      costs-push fresh m.frames.items (Rest m.block),
      ap (cost fresh) c.in-Again.is,
    ))
    c.again.ensures.ends

pub returns-in_ok-push-in-EndCall-clause-does : goal.returns-in_ok-push-in-EndCall-clause-does
returns-in_ok-push-in-EndCall-clause-does g c =
    let m = c.args.self.now in let p = program m.plan.program.now in let fresh = m.plan.budget.steps in
    let caller = c.in-EndCall.environment in let inside = c.replace-callee.new.dest in
    let is : inside ≡ caller = c.replace-callee.ensures.after in
    let fine : LiesInArrays p (environment caller) = subst (IsSoundFrame p fresh) c.in-EndCall.is c.requires.frame in
    let new = record m { thread = record m.thread { environment = inside; spare = c.push-in-EndCall.new.self } } in
    subst (λ (f : CostFrame). Does (turn_of f) m new) (sym c.in-EndCall.is)
    (record {
      plan = refl;
      sound = record {
        thread = record {
          store = c.requires.sound.thread.store;
          windows = subst (λ (e : Environment). LiesInArrays p (environment e)) (sym is) fine;
        };
        spawned = c.requires.sound.spawned;
        frames = c.requires.sound.frames;
      };
      comes =
          ap (λ (e : Environment). resume p fresh (stack m) (standing m.account (record m.thread { environment = e }))) is;
    })

pub returns-in_ok-end_task-in-EndAsync-clause-does : goal.returns-in_ok-end_task-in-EndAsync-clause-does
returns-in_ok-end_task-in-EndAsync-clause-does g c =
    let m = c.args.self.now in let p = program m.plan.program.now in let fresh = m.plan.budget.steps in
    let box = c.in-EndAsync.owner in let q = c.into_inner-owner.result in
    let unboxed = c.into_inner-owner.ensures in
    let told = c.in_ok-tell_before-in-EndAsync.ensures in
    let old = record m.thread { flow = c.behind_async-self.result } in
    let thread = c.tell_before.new.thread in let kept = c.end_task.new.self in
    let goes : Thread Store = record thread {
      path = q.path;
      environment = q.environment;
      steps = q.steps;
      nest = q.nest;
      spawned = q.spawned;
    } in
    let new = record m { thread = goes; account = kept } in
    let s = standing m.account m.thread in
    let at : State (Unit {0}) → Flow → Account → Standing = λ st f y. record {
      state = record {
        flow = f;
        environment = environment q.environment;
        store = st.store;
        lines = st.lines;
        faults = st.faults;
        steps = q.steps;
        path = q.path.turns.items;
        spawned = q.spawned;
        extra = y;
      };
      nest = q.nest;
    } in
    let st = record (state_of old) {
      lines = lines_in q.told ++ (state_of old).lines;
      faults = faults_in q.told ++ (state_of old).faults;
    } in
    let fine = subst (λ (o : OwnerCosts). LiesInArrays p (environment o.environment) × (o.spawned + o.steps ≤ fresh)) (sym unboxed)
    (subst (IsSoundFrame p fresh) c.in-EndAsync.is c.requires.frame) in
    subst (λ (f : CostFrame). Does (turn_of f) m new) (sym c.in-EndAsync.is)
    (record {
      plan = refl;
      sound = record {
        thread = record {
          store =
              subst (λ (s : Store). FitsArrays p.arrays (lists_of s)) (sym (ap (λ (t : Thread Store). t.store) told.rest))
              c.requires.sound.thread.store;
          windows = fine.0;
        };
        spawned = fine.1;
        frames = c.requires.sound.frames;
      };
      comes =
          ap (λ (s : State (Unit {0})). resume p fresh (stack m) (at s s.flow (account kept))) (told_before q.told old thread told)
          ∙ ap (λ (y : Account). resume p fresh (stack m) (at st (flow c.behind_async-self.result) y)) c.in_ok-end_task-in-EndAsync.ensures
          ∙ ap (λ (f : Flow). resume p fresh (stack m) (at st f (ends_behind q.here q.along q.here_by_label.items (account m.account)))) c.behind_async-self.ensures
          ∙ ap (λ (o : OwnerCosts). resume p fresh (stack m) (after_owner o s.state)) unboxed;
    })

pub returns-in_ok-end_task-in-EndAsync-clause-ends : goal.returns-in_ok-end_task-in-EndAsync-clause-ends
returns-in_ok-end_task-in-EndAsync-clause-ends g c =
    let m = c.args.self.now in let fresh = m.plan.budget.steps in
    omega (
      arith,
      ap (λ (o : OwnerCosts). o.steps * rate fresh o.nest) c.into_inner-owner.ensures,
      ap (cost fresh) c.in-EndAsync.is,
    )

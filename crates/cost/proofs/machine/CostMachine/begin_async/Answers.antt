use Rattle.std.proofs.Common.{arith, ap, ◌∙◌, refl, sym, subst, ◌+◌, ◌-◌, ◌*◌, ◌≤◌, ◌≡◌, List, ℕ, Vec, Global, length, map, [], ◌∷◌, ◌++◌}
use Rattle.std.specs.Prelude.{ℤ}
use Rattle.types.specs.declared.fault.Fault.{Fault}
use Rattle.types.specs.declared.path.Path.{Path}
use Rattle.types.specs.declared.value.Environment.{Environment as rEnvironment}
use Rattle.types.specs.Contents.{FitsArrays}
use Rattle.types.specs.Meaning.{child, hushed}
use Rattle.types.specs.Run.{Flow, State, keeping}
use Rattle.types.specs.Translation.{program, codes, environment, fault}
use Rattle.statement_steps.specs.declared.store.Store.{Store}
use Rattle.statement_steps.specs.declared.thread.Thread.{Thread}
use Rattle.statement_steps.specs.Bounds.{LiesInArrays}
use Rattle.statement_steps.specs.Lists.{lists_of}
use Rattle.statement_steps.specs.Standing.{state_of, flow}
use Rattle.cost.specs.declared.frame.CostFrame.TheVariants.{Rest, EndAsync}
use Rattle.cost.specs.declared.frame.OwnerCosts.{OwnerCosts}
use Rattle.cost.specs.Copied.{copied_at}
use Rattle.cost.specs.Books.{beginning_booked}
use Rattle.cost.specs.Accounts.{Account, begins_at, accounting}
use Rattle.cost.specs.Frames.{cost, costs, rate}
use Rattle.cost.specs.Machines.{IsSoundFrame, stack}
use Rattle.cost.specs.Resume.{standing}
use Rattle.cost.specs.Translation.{account}
use Rattle.cost.proofs.Frames.{async_on_top}
use Rattle.cost.proofs.MachineLemmas.{all_pushed}
use Rattle.cost.proofs.Owners.{Waiting}
use Rattle.cost.proofs.Turns.{async_within_step}
use Rattle.cost.proofs.Waiting.{resume-frame_block, costs-frame_block}
use Rattle.cost.proofs.machine.CostMachine.begin_async.Goals as goal

pub returns-clause-does : goal.returns-clause-does
returns-clause-does g c =
    let m = c.args.self.now in let p = program m.plan.program.now in let fresh = m.plan.budget.steps in
    let st = keeping (account m.account) (state_of m.thread) in
    let told = c.take_told.ensures in
    let taken = c.take_told.new.thread in
    let kept = c.begin_task.new.self in
    let caller = c.in_ok-environment.environment in
    let begun = record taken { steps = fresh; nest = taken.nest - 1; spawned = 0 } in
    let box = c.in_ok-owner.owner in
    let is_box = c.in_ok-owner.ensures.ok in
    let end = EndAsync box in
    let below = c.wait.new.frames in let waits = c.in_ok-wait.ensures in
    let frames = c.push.new.self in let on_top = c.in_ok-push.ensures.items in
    let sound = c.requires.step.sound in
    let owner_sound = subst (LiesInArrays p) (sym c.in_ok-environment.ensures) sound.thread.windows in
    let copied = copied_at p c.args.label (environment m.thread.environment) in
    let deeper : account kept ≡ begins_at c.args.label (length m.thread.path.turns.items + 1) copied (account m.account)
    = c.in_ok-begin_task.ensures
    ∙ ap (λ (n : ℕ). begins_at c.args.label (n + 1) c.in_ok-copied.copied (account m.account)) (c.len.ensures ∙ m.thread.path.turns.ok.0)
    ∙ ap (λ (n : ℕ). begins_at c.args.label (length m.thread.path.turns.items + 1) n (account m.account)) c.in_ok-copied.ensures in
    let is_path = ap (λ (q : Path). q.turns.items) c.replace-path.ensures.after ∙ c.in_ok-child.ensures
    ∙ ap (λ (n : ℕ). m.thread.path.turns.items ++ n ∷ []) c.after-number.ensures in
    let at : Flow → List ℕ → Account → State Account = λ f q y.
    keeping y (record (hushed (state_of m.thread)) { flow = f; path = q; steps = fresh; spawned = 0 }) in
    let is : (standing kept begun).state ≡ child fresh (beginning_booked accounting p c.args.label st)
    = ap (λ (s : State (Unit {0})). keeping (account kept) (record s { steps = fresh; spawned = 0 })) told.nothing
    ∙ ap (at (flow m.thread.flow) c.replace-path.new.dest.turns.items) deeper
    ∙ ap (λ q. at (flow m.thread.flow) q (beginning_booked accounting p c.args.label st).extra) is_path
    ∙ ap (λ f. at f (child fresh (beginning_booked accounting p c.args.label st)).path (beginning_booked accounting p c.args.label st).extra) (ap flow c.requires.step.on) in
    record {
      plan = refl;
      sound = record {
        thread = record {
          store = subst (λ (s : Store). FitsArrays p.arrays (lists_of s)) (sym (ap (λ (t : Thread Store). t.store) told.rest)) sound.thread.store;
          windows =
              subst (λ (e : rEnvironment). LiesInArrays p (environment e)) (sym (ap (λ (t : Thread Store). t.environment) told.rest))
              sound.thread.windows;
        };
        spawned = omega arith;
        frames =
            all_pushed (IsSoundFrame p fresh) below.items frames.items end on_top
            (subst (λ (o : OwnerCosts). LiesInArrays p (environment o.environment) × (o.spawned + o.steps ≤ fresh)) (sym is_box)
            (owner_sound, omega (arith, c.requires.step.taken))) (waits.sound p fresh sound.frames);
      };
      comes =
          resume-frame_block m.block m.frames.items p fresh below.items waits frames.items end c.args.body (standing kept begun) on_top
          ∙ async_on_top p fresh (stack m) (stack m ++ end ∷ []) ((stack m ++ end ∷ []) ++ Rest c.args.body ∷ []) c.args.body
          (codes c.args.body.now) c.args.label m.thread.nest box st (standing kept begun) c.if-self-eq0.false
          (subst (λ (o : OwnerCosts). Waiting p o c.args.label st m.thread.nest) (sym is_box) (record {
            path = ap (λ (q : Path). q.turns.items) c.replace-path.ensures.value;
            environment = c.in_ok-environment.ensures;
            steps = refl;
            spawned = refl;
            lines = ap (λ (v : Vec (Vec ℤ Global) Global). map (λ (w : Vec ℤ Global). w.items) v.items) told.lines;
            faults = ap (λ (v : Vec Fault Global). map fault v.items) told.faults;
            here = ap (λ (y : Account). y.tally.here) deeper;
            along = ap (λ (y : Account). y.tally.along) deeper;
            by_label = c.in_ok-here_by_label.ensures ∙ ap (λ (y : Account). y.here) deeper;
            nest = refl;
          }))
          is (ap (λ (t : Thread Store). t.nest - 1) told.rest) refl refl refl;
    }

pub returns-clause-ends : goal.returns-clause-ends
returns-clause-ends g c =
    let m = c.args.self.now in let fresh = m.plan.budget.steps in
    let end = EndAsync c.in_ok-owner.owner in
    let same = ap (λ (t : Thread Store). fresh * rate fresh (t.nest - 1)) c.take_told.ensures.rest in
    omega (
      arith,
      same,
      async_within_step fresh m.thread.steps m.thread.nest (costs fresh (stack m))
          (costs fresh (c.push.new.self.items ++ Rest c.args.body ∷ [])) (cost fresh end) c.if-self-eq0.false
          (ap (λ (o : OwnerCosts). 1 + o.steps * rate fresh o.nest) c.in_ok-owner.ensures.ok)
          (costs-frame_block m.block m.frames.items fresh c.wait.new.frames.items c.in_ok-wait.ensures
          c.push.new.self.items end c.args.body c.in_ok-push.ensures.items),
    )

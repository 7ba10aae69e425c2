use Rattle.std.proofs.Common.{◌≡◌, refl, sym, subst}
use Rattle.types.specs.Translation.{program}
use Rattle.statement_steps.specs.declared.thread.Plan.{Plan}
use Rattle.serial_run.specs.Machines.{AreCodes}
use Rattle.task_run.specs.RunTurns.{IsMore, IsStep, StepSpawns, turn_of}
use Rattle.task_run.specs.declared.run.Run.{Run}
use Rattle.task_run.specs.declared.turn.Done.{Done}
use Rattle.task_run.specs.declared.turn.Done.TheVariants.{Gone, Spawned, Entered, Exceeded}
use Rattle.task_run.proofs.GoingOn.{at_once_leaves_fewer, did, goes_at_once, goes_did, goes_exceeded, goes_more, goes_nowhere, goes_plan}
use Rattle.task_run.proofs.TurnsLeft.{leaves_fewer}
use Rattle.task_run.proofs.run.Run.go.Goals as goal

-- a turn that is neither just a step nor the end of the budget is visible
others_are_more : (r : Run) (d : Done) → (d ≡ Gone → ⊥) → (d ≡ Exceeded → ⊥) → IsMore (turn_of r d)
others_are_more r Gone gone over = absurd (gone refl)
others_are_more r (Spawned s) gone over = tt
others_are_more r Entered gone over = tt
others_are_more r Exceeded gone over = absurd (over refl)

pub turns-init : goal.turns-init
turns-init g c = goes_nowhere (g.N.Needed.needs c.args.needed.now) c.args.self.now

-- ---- a plain statement at once
pub do_at_once-requires : goal.do_at_once-requires
do_at_once-requires g c =
    let needs = g.N.Needed.needs c.args.needed.now in
    let m = c.args.self.now in
    let first = c.requires.can m (goes_nowhere needs m) in
    let can = c.requires.can c.turns.self c.turns.invariant in
    let plan = goes_plan needs m c.turns.self first.frames first.own first.shows c.turns.invariant in
    record {
      few = can.shows.few;
      piece = c.in-Some.ensures;
      codes = subst (λ (q : Plan). AreCodes (program q.program.now) c.args.code.now.codes.items) (sym plan) c.requires.code.codes;
    }

pub turns-smaller-in-Continue-1 : goal.turns-smaller-in-Continue-1
turns-smaller-in-Continue-1 g c =
    let needs = g.N.Needed.needs c.args.needed.now in
    let m = c.args.self.now in
    let first = c.requires.can m (goes_nowhere needs m) in
    let can = c.requires.can c.turns.self c.turns.invariant in
    let plan = goes_plan needs m c.turns.self first.frames first.own first.shows c.turns.invariant in
    at_once_leaves_fewer needs c.args.code.now c.in-Some.number c.in-Some.rest m c.turns.self c.do_at_once.new.self plan
    c.in-Some.ensures c.in_ok-do_at_once-in-Some.ensures c.requires.code (c.requires.next c.turns.self c.turns.invariant)
    can.frames can.own can.shows

pub turns-preserved-in-Continue-1 : goal.turns-preserved-in-Continue-1
turns-preserved-in-Continue-1 g c =
    let needs = g.N.Needed.needs c.args.needed.now in
    let m = c.args.self.now in
    let first = c.requires.can m (goes_nowhere needs m) in
    let plan = goes_plan needs m c.turns.self first.frames first.own first.shows c.turns.invariant in
    goes_more needs m c.turns.self c.do_at_once.new.self c.turns.invariant
    (goes_at_once needs c.args.code.now c.in-Some.number c.in-Some.rest m c.turns.self c.do_at_once.new.self plan
    c.in-Some.ensures c.in_ok-do_at_once-in-Some.ensures c.requires.code (c.requires.next c.turns.self c.turns.invariant))

-- ---- a turn
pub turns-smaller-in-Gone : goal.turns-smaller-in-Gone
turns-smaller-in-Gone g c =
    let needs = g.N.Needed.needs c.args.needed.now in
    let can = c.requires.can c.turns.self c.turns.invariant in
    leaves_fewer needs c.turns.self _ can.frames can.own can.shows
    (did needs c.turns.self c.step.new.self _ _ _ c.in_ok-done-in-None.ensures.step c.in-Did.is c.in-Gone.is)

pub turns-preserved-in-Gone : goal.turns-preserved-in-Gone
turns-preserved-in-Gone g c =
    goes_did (g.N.Needed.needs c.args.needed.now) c.args.self.now c.turns.self c.step.new.self _ _ c.turns.invariant
    c.in_ok-done-in-None.ensures.step c.in-Did.is c.in-Gone.is

pub turns-smaller : goal.turns-smaller
turns-smaller g c =
    let needs = g.N.Needed.needs c.args.needed.now in
    let can = c.requires.can c.turns.self c.turns.invariant in
    leaves_fewer needs c.turns.self _ can.frames can.own can.shows
    (did needs c.turns.self c.step.new.self _ _ _ c.in_ok-done-in-None.ensures.step c.in-Did.is c.in-Exceeded.is)

pub turns-preserved : goal.turns-preserved
turns-preserved g c =
    goes_exceeded (g.N.Needed.needs c.args.needed.now) c.args.self.now c.turns.self c.step.new.self _ _ c.turns.invariant
    c.in_ok-done-in-None.ensures.step c.in-Did.is c.in-Exceeded.is

pub returns-in_default : goal.returns-in_default
returns-in_default g c =
    let needs = g.N.Needed.needs c.args.needed.now in
    record {
      step = record {
        last = c.turns.self;
        reached = c.turns.invariant;
        step = subst (λ s. IsStep needs c.turns.self s c.step.new.self) c.in-Did.is c.in_ok-done-in-None.ensures.step;
        more = others_are_more c.step.new.self _ c.in_default.not-Gone c.in_default.not-Exceeded;
      };
      label = subst (StepSpawns (g.N.Needed.IsAsync c.args.needed.now)) c.in-Did.is c.in_ok-done-in-None.ensures.label;
      refused = tt;
    }

pub returns-in-AtEnd-clause-step : goal.returns-in-AtEnd-clause-step
returns-in-AtEnd-clause-step g c =
    let needs = g.N.Needed.needs c.args.needed.now in
    record {
      last = c.turns.self;
      reached = c.turns.invariant;
      step = subst (λ s. IsStep needs c.turns.self s c.step.new.self) c.in-AtEnd.is c.in_ok-done-in-None.ensures.step;
      more = tt;
    }

-- A task whose run continues in place.
use Rattle.std.proofs.Common.{◌≡◌, ℕ, ◌+◌, Option, Some, refl, sym, ap, subst, ◌∙◌}
use Rattle.std.proofs.lemmas.Option.{same_Some}
use Rattle.types.specs.Code.{Codes}
use Rattle.effects.specs.Needs.{Needs}
use Rattle.effects.specs.Rounds.{needs_of}
use Rattle.task_run.specs.MayRun.{MayStart}
use Rattle.task_run.specs.RunTurns.{GoesUpTo, IsAtEnd, IsEnding, IsMore, IsStep, IsTurn, StepSpawns, StepsUpTo}
use Rattle.task_run.specs.RunTurns.{turn_of}
use Rattle.task_run.specs.Translation.{start}
use Rattle.task_run.specs.declared.run.Run.{Run}
use Rattle.task_run.specs.declared.start.Start.{Start}
use Rattle.task_run.specs.declared.turn.Done.{Done}
use Rattle.task_run.specs.declared.turn.Done.TheVariants.{Gone, Exceeded}
use Rattle.task_run.specs.declared.turn.Step.{Step as RunStep}
use Rattle.task_run.specs.declared.turn.Step.TheVariants.{Did, AtEnd}
use Rattle.task_run.specs.declared.turn.Turn.{Turn as RunTurn}
use Rattle.task_run.specs.declared.turn.Turn.TheVariants.{Going as RunGoing, Spawns as RunSpawns}
use Rattle.task_run.specs.declared.turn.Turn.TheVariants.{EntersFinish as RunEntersFinish}
use Rattle.task_run.specs.declared.turn.Turn.TheVariants.{EndsFinish as RunEndsFinish}
use Rattle.task_run.specs.declared.turn.Turn.TheVariants.{Ended as RunEnded, Over as RunOver}
use Rattle.task_run.specs.Jobs.{program_of, lists_of, budget_of}
use Rattle.weighted_task.specs.Tasks.{GoesBy, IsAsyncOf, IsBody}
use Rattle.weighted_task.specs.Turns.{Becomes, EndsBy, GoesInPlace, HasDone, InPlace, Keeps, Parts, RunsToEnd}
use Rattle.weighted_task.specs.Turns.{TakesOneTurn, TakesSo, TakesTurn, TurnsInPlace, turning}
use Rattle.weighted_task.specs.Units.{held}
use Rattle.weighted_task.specs.declared.task.Body.{Body}
use Rattle.weighted_task.specs.declared.task.Task.{Task}
use Rattle.weighted_task.specs.declared.turn.WeightedTurn.{WeightedTurn}
use Rattle.weighted_task.specs.declared.turn.WeightedTurn.TheVariants.{Going, Spawns, WantsWeight, EntersFinish}
use Rattle.weighted_task.specs.declared.turn.WeightedTurn.TheVariants.{EndsFinish, Ended, Over}
use Rattle.weighted_task.proofs.Staying.{child_starts, goes_far, going, over, spawning}

-- ---- what was done
module _ (b : Body) (d : Done) (h : HasDone b d) where
  pub done_turn : (e : Done) → d ≡ e → IsTurn (needs_of (program_of b.job)) h.run (turn_of h.after e)
  done_turn e to = subst (λ (d : Done). IsTurn (needs_of (program_of b.job)) h.run (turn_of h.after d)) to h.turn

  is_body : GoesBy b.job b.outer.items b.opened h.after → IsBody b
  is_body g = record { run = h.after; has = h.has; goes = g }

  pub gone_body : d ≡ Gone → IsBody b
  gone_body to = is_body (going b.job b.outer.items b.opened h.run h.goes h.after (done_turn Gone to))

  pub over_body : d ≡ Exceeded → IsBody b
  over_body to = is_body (over b.job b.outer.items b.opened h.run h.goes h.after (done_turn Exceeded to))

  module _ (s : Start) (is : IsTurn (needs_of (program_of b.job)) h.run (RunSpawns h.after s)) where
    pub spawned_body : IsBody b
    spawned_body = is_body (spawning b.job b.outer.items b.opened h.run h.goes h.after s is)

    pub spawned_may : MayStart (program_of b.job) (lists_of b.job) (budget_of b.job) (start s)
    spawned_may = child_starts b.job b.outer.items b.opened h.run h.goes h.after s is

-- ---- what the task becomes
pub by_done : (b : Body) (u : ℕ) (r : Run) (d e : Done) (t : WeightedTurn) → d ≡ e
    → Becomes (turning b) u (turn_of r e) t → Becomes (turning b) u (turn_of r d) t
by_done b u r d e t to h = subst (λ (d : Done). Becomes (turning b) u (turn_of r d) t) (sym to) h

-- the run is where it was
with_run : (b : Body) (r : Run) → b.run ≡ Some r → b ≡ record b { run = Some r }
with_run b r has = ap (λ (o : Option Run). record b { run = o }) has

pub keeps : (b : Body) (u : ℕ) (r : Run) (t : Task) → t.body.value ≡ b → t.share.weight ≡ u → b.run ≡ Some r
    → Keeps (turning b) u r t
keeps b u r t body weight has = record { body = body ∙ with_run b r has; weight = weight }

parted : (b : Body) (u : ℕ) (s : Start) (r : Run) (t : WeightedTurn) → Parts (record b { run = Some r }) u s t
    → Becomes (turning b) u (RunSpawns r s) t
parted b u s r (Spawns t c) h = h
parted b u s r (WantsWeight w) h = h
parted b u s r (Going t) h = h
parted b u s r (EntersFinish e) h = h
parted b u s r (EndsFinish e) h = h
parted b u s r (Ended e) h = h
parted b u s r (Over t) h = h

pub parts_become : (b : Body) (u : ℕ) (s : Start) (r : Run) (t : WeightedTurn) → b.run ≡ Some r → Parts b u s t
    → Becomes (turning b) u (RunSpawns r s) t
parts_become b u s r t has h = parted b u s r t (subst (λ (x : Body). Parts x u s t) (with_run b r has) h)

-- ---- if the run continued
units_stay : (Takes : Run → Run → Type 0) (b new : Body) (u : ℕ) → InPlace Takes b new
    → u + held new.outer.items ≡ u + held b.outer.items
units_stay Takes b new u went = ap (λ (x : Body). u + held x.outer.items) went.is

own_run : (Takes : Run → Run → Type 0) (b new : Body) (went : InPlace Takes b new) → IsBody b
    → GoesBy b.job b.outer.items b.opened went.run
own_run Takes b new went is =
    subst (GoesBy b.job b.outer.items b.opened) (same_Some _ _ (sym is.has ∙ went.has)) is.goes

-- its run has reached an end
runs_to_end : (b new : Body) (last after : Run) → new ≡ record b { run = Some after } → GoesBy b.job b.outer.items b.opened last
    → after ≡ last → IsAtEnd last → RunsToEnd new
runs_to_end b new last after is goes same end = subst RunsToEnd (sym is) (record {
  run = after;
  has = refl;
  goes = subst (GoesBy b.job b.outer.items b.opened) (sym same) goes;
  end = subst IsAtEnd (sym same) end;
})

-- its run became another
pub in_place : {Takes : Run → Run → Type 0} (b : Body) (run after : Run) → b.run ≡ Some run → Takes run after
    → InPlace Takes b (record b { run = Some after })
in_place b run after has takes = record { run = run; has = has; after = after; takes = takes; is = refl }

-- a turn that ends a finish or the task is more than a step
is_more : (t : RunTurn) → IsEnding t → IsMore t
is_more (RunGoing r) e = e
is_more (RunSpawns r s) e = tt
is_more (RunEntersFinish r) e = tt
is_more (RunEndsFinish q x) e = tt
is_more (RunEnded x) e = tt
is_more (RunOver r) e = e

module _ (b new : Body) (s : RunStep) (went : GoesInPlace b s new) where
  abbrev Far : RunStep → Type 0
  Far s = StepsUpTo (needs_of (program_of b.job)) went.run s went.after

  goes_to : (is : IsBody b) (e : RunStep) (far : Far e) → GoesBy b.job b.outer.items b.opened far.last
  goes_to is e far =
      goes_far b.job b.outer.items b.opened went.run far.last
      (own_run (λ r after. StepsUpTo (needs_of (program_of b.job)) r s after) b new went is) far.reached

  pub went_units : (u : ℕ) → u + held new.outer.items ≡ u + held b.outer.items
  went_units u = units_stay (λ r after. StepsUpTo (needs_of (program_of b.job)) r s after) b new u went

  pub went_done : (d : Done) → s ≡ Did d → IsBody b → StepSpawns (IsAsyncOf b) s → HasDone new d
  went_done d to is label =
      let far = subst Far to went.takes in
      subst (λ (x : Body). HasDone x d) (sym went.is) (record {
        run = far.last;
        goes = goes_to is (Did d) far;
        after = went.after;
        has = refl;
        turn = far.step;
        label = subst (StepSpawns (IsAsyncOf b)) to label;
      })

  pub went_to_end : s ≡ AtEnd → IsBody b → RunsToEnd new
  went_to_end to is =
      let far = subst Far to went.takes in
      runs_to_end b new far.last went.after went.is (goes_to is AtEnd far) far.step.0 far.step.1

module _ (b new : Body) (s : RunStep) (went : TurnsInPlace b s new) where
  abbrev One : RunStep → Type 0
  One s = IsStep (needs_of (program_of b.job)) went.run s went.after

  goes_by : (is : IsBody b) → GoesBy b.job b.outer.items b.opened went.run
  goes_by is = own_run (λ r after. IsStep (needs_of (program_of b.job)) r s after) b new went is

  pub turned_units : (u : ℕ) → u + held new.outer.items ≡ u + held b.outer.items
  turned_units u = units_stay (λ r after. IsStep (needs_of (program_of b.job)) r s after) b new u went

  pub turned_done : (d : Done) → s ≡ Did d → IsBody b → StepSpawns (IsAsyncOf b) s → HasDone new d
  turned_done d to is label =
      subst (λ (x : Body). HasDone x d) (sym went.is) (record {
        run = went.run;
        goes = goes_by is;
        after = went.after;
        has = refl;
        turn = subst One to went.takes;
        label = subst (StepSpawns (IsAsyncOf b)) to label;
      })

  pub turned_to_end : s ≡ AtEnd → IsBody b → RunsToEnd new
  turned_to_end to is =
      let stays = subst One to went.takes in
      runs_to_end b new went.run went.after went.is (goes_by is) stays.0 stays.1

-- ---- if the run has reached an end
module _ (b : Body) (h : RunsToEnd b) (run : Run) (same : run ≡ h.run) (turn : RunTurn)
    (is : (needs : Codes → Needs) → IsTurn needs run turn) where
  pub its_turn : (t : RunTurn) → turn ≡ t → IsTurn (needs_of (program_of b.job)) h.run t
  its_turn t to =
      subst (IsTurn (needs_of (program_of b.job)) h.run) to
      (subst (λ (r : Run). IsTurn (needs_of (program_of b.job)) r turn) same (is (needs_of (program_of b.job))))

  pub ends_by : IsEnding turn → (u : ℕ) (t : RunTurn) (new : WeightedTurn) → turn ≡ t → Becomes (turning b) u t new
      → EndsBy b u new
  ends_by ending u t new to becomes = record {
    run = h.run;
    has = h.has;
    turn = turn;
    is = its_turn turn refl;
    ending = ending;
    becomes = subst (λ (x : RunTurn). Becomes (turning b) u x new) (sym to) becomes;
  }

-- ---- the turn of the task
module _ (old : Task) (new : Body) (s : RunStep) (t : WeightedTurn) where
  abbrev Done_as : Done → Type 0
  Done_as d = (r : Run) → new.run ≡ Some r → Becomes (turning new) old.share.weight (turn_of r d) t

  becomes_so : (Takes : Run → Run → Type 0) (went : InPlace Takes old.body.value new) (d : Done)
      → Done_as d → Becomes (turning old.body.value) old.share.weight (turn_of went.after d) t
  becomes_so Takes went d becomes =
      subst (λ (x : Body). Becomes (turning x) old.share.weight (turn_of went.after d) t) went.is
      (becomes went.after (ap (λ (x : Body). x.run) went.is))

  -- a turn at an end is that of the task
  ends_so : (Comes : Run → RunTurn → Type 0) (Takes : Run → Run → Type 0) (went : InPlace Takes old.body.value new)
      → EndsBy new old.share.weight t
      → ((turn : RunTurn) → IsEnding turn → IsTurn (needs_of (program_of old.body.value.job)) went.after turn → Comes went.run turn)
      → TakesSo Comes old t
  ends_so Comes Takes went ends comes =
      let e = subst (λ (x : Body). EndsBy x old.share.weight t) went.is ends in
      let is = subst (λ (r : Run). IsTurn (needs_of (program_of old.body.value.job)) r e.turn) (sym (same_Some _ _ e.has)) e.is in
      record { run = went.run; has = went.has; turn = e.turn; goes = comes e.turn e.ending is; becomes = e.becomes }

  pub did_turn : GoesInPlace old.body.value s new → (d : Done) → s ≡ Did d → Done_as d → TakesTurn old t
  did_turn went d to becomes =
      let needs = needs_of (program_of old.body.value.job) in
      let far = subst (λ (s : RunStep). StepsUpTo needs went.run s went.after) to went.takes in
      record {
        run = went.run;
        has = went.has;
        turn = turn_of went.after d;
        goes = record { last = far.last; reached = far.reached; turn = far.step; more = far.more };
        becomes = becomes_so (λ r after. StepsUpTo needs r s after) went d becomes;
      }

  pub end_turn : GoesInPlace old.body.value s new → s ≡ AtEnd → EndsBy new old.share.weight t → TakesTurn old t
  end_turn went to ends =
      let needs = needs_of (program_of old.body.value.job) in
      let far = subst (λ (s : RunStep). StepsUpTo needs went.run s went.after) to went.takes in
      ends_so (GoesUpTo needs) (λ r after. StepsUpTo needs r s after) went ends (λ turn ending is. record {
        last = far.last;
        reached = far.reached;
        turn = subst (λ (r : Run). IsTurn needs r turn) far.step.0 is;
        more = is_more turn ending;
      })

  pub did_one_turn : TurnsInPlace old.body.value s new → (d : Done) → s ≡ Did d → Done_as d → TakesOneTurn old t
  did_one_turn went d to becomes =
      let needs = needs_of (program_of old.body.value.job) in
      record {
        run = went.run;
        has = went.has;
        turn = turn_of went.after d;
        goes = subst (λ (s : RunStep). IsStep needs went.run s went.after) to went.takes;
        becomes = becomes_so (λ r after. IsStep needs r s after) went d becomes;
      }

  pub end_one_turn : TurnsInPlace old.body.value s new → s ≡ AtEnd → EndsBy new old.share.weight t
      → TakesOneTurn old t
  end_one_turn went to ends =
      let needs = needs_of (program_of old.body.value.job) in
      let stays = subst (λ (s : RunStep). IsStep needs went.run s went.after) to went.takes in
      ends_so (IsTurn needs) (λ r after. IsStep needs r s after) went ends
      (λ turn ending is. subst (λ (r : Run). IsTurn needs r turn) stays.0 is)

-- One thread that runs a task and all tasks below it in place makes the whole of the task.
use Rattle.std.proofs.Common.{◌≡◌, ℕ, zero, suc, ◌+◌, List, [], Some, refl, sym, ap, ◌∙◌, inl, inr}
use Rattle.std.proofs.lemmas.Bool.{or_from}
use Rattle.std.specs.Prelude.{ℤ, Bool, false}
use Rattle.shared_lemmas.proofs.Truths.{false_true}
use Rattle.sections.specs.Place.{Place}
use Rattle.types.specs.Code.{Codes, Program}
use Rattle.types.specs.Contents.{Contents, FitsArrays}
use Rattle.types.specs.Meaning.{begin_one}
use Rattle.types.specs.Outcome.{Budget}
use Rattle.types.specs.Run.{Fault, State, Block}
use Rattle.effects.specs.Effects.{Pending, accesses}
use Rattle.effects.specs.Footprint.{Overwrites}
use Rattle.effects.specs.Needs.{Needs, Provides}
use Rattle.effects.specs.Rounds.{needs_of}
use Rattle.effects.specs.Sound.{IsSound}
use Rattle.plain_code.specs.Means.{IsAsOnOne, beside, times}
use Rattle.plain_code.specs.Plain.{IsPlainWork}
use Rattle.plain_code.proofs.PlainMeaning.{plain_means}
use Rattle.race_checker.specs.Calm.{IsCalm}
use Rattle.race_checker.specs.Clash.{IsAccepted}
use Rattle.race_checker.specs.Scope.{IsScoped}
use Rattle.race_checker.proofs.Calming.{is_calm}
use Rattle.race_checker.proofs.Scoping.{is_scoped}
use Rattle.task_run.specs.Apart.{nothing, is_stopped, stops_anywhere, merged, apart, begin_apart}
use Rattle.task_run.specs.Given.{in_truth, comes_to, own}
use Rattle.task_run.specs.Holds.{MayBegin}
use Rattle.task_run.specs.InPlace.{in_place, result_in_place, IsKeptWhole, whole, made_of, made_below}
use Rattle.task_run.specs.Lists.{Shuffled}
use Rattle.task_run.specs.OwnRun.{Start, Step, Own, at_first, beginning, notes, own_rules, result_of}
use Rattle.task_run.specs.Ready.{Around, Ready}
use Rattle.task_run.specs.Reached.{has_ended, ran_whole}
use Rattle.task_run.specs.Results.{TaskResult}
use Rattle.task_run.specs.MayRun.{MayStart}
use Rattle.task_run.specs.Runs.{root, IsMadeByTask}
use Rattle.task_run.specs.Settling.{settle}
use Rattle.task_run.proofs.AcceptedPrograms.{provides_needs, may_begin, ends_anywhere}
use Rattle.task_run.proofs.OnePath.{own_path}
use Rattle.task_run.proofs.ReachedTasks.{goes, may_start}
use Rattle.task_run.proofs.SideBySide.{S, A, Same, Agree, same, both_stop}
use Rattle.task_run.proofs.Simulation.{nowhere, unlocked_ready, begins, within_sim}
use Rattle.task_run.proofs.SomeWhole.{some_whole_settle}
use Rattle.task_run.proofs.StaysStopped.{begin_marks}

-- a result that lists no child
abbrev alone : Start → (stopped : Bool) → Contents → List (List ℤ) → List Fault → TaskResult
alone s stopped c ls fs = record {
  path = s.path;
  stopped = stopped;
  contents = c;
  owned = s.owned;
  lines = ls;
  faults = fs;
  children = [];
}

-- ---- a task that has all that it touches
module _ (p : Program) (needs : Codes → Needs) (scoped : IsScoped p) (calm : IsCalm p) (provided : Provides p needs) (fresh : ℕ)
    (s : Start) (may : MayBegin p needs s) where
  -- its surroundings, if it has all places and may write all of them
  abbrev around : Around
  around = record {
    scope = may.stack.0;
    env = may.stack.1;
    base = s.contents;
    wrote = λ q. Unit {0};
    held = λ q. Unit {0};
  }

  -- what its body leaves pending
  abbrev left : Place → Type 0
  left = Overwrites may.stack.1 (Pending p accesses s.body)

  ready : Ready p needs around nowhere left s.body
  ready =
      let r = may.stack.2.ready in
      unlocked_ready p needs around left s.body may.text r.fits r.scoped r.calm r.provided (λ q t. tt) (λ q t. tt) (λ q t. t)

  both_begin : Same around nowhere (beginning tt fresh s) (beginning nothing fresh s)
  both_begin = record {
    flow = refl;
    environment = refl;
    windows = λ z i. may.stack.2.known z i;
    store = λ q h. refl;
    stays = λ q n. refl;
    lines = refl;
    faults = refl;
    steps = refl;
    path = refl;
    spawned = refl;
    alive = refl;
    out = λ q n. refl;
  }

  -- the task, with all tasks below it apart
  abbrev tasks : A
  tasks = apart p needs fresh s.nest (Block s.body) (beginning nothing fresh s)

  both_end : Agree around left (in_place p fresh s) tasks
  both_end =
      within_sim p needs scoped calm provided (begin_one p fresh s.nest) (begin_apart p needs fresh s.nest) (begin_marks p needs fresh s.nest)
      (begins p needs scoped calm provided fresh s.nest) (fresh + 1) (Block s.body) may.text around nowhere left ready
      (beginning tt fresh s) (beginning nothing fresh s) both_begin

  -- what it makes in place is all that its start comes to, unless it was stopped
  pub is_whole : is_stopped (in_place p fresh s).flow ≡ false → result_in_place p fresh s ≡ whole p needs fresh s
  is_whole running = by_end both_end
    where
      out : S
      out = in_place p fresh s

      by_end : Agree around left out tasks → result_in_place p fresh s ≡ whole p needs fresh s
      by_end (both_stop e y) = false_true (sym running ∙ ap is_stopped e)
      by_end (same h) =
          let stop : is_stopped out.flow ≡ stops_anywhere tasks =
          running ∙ sym (or_from (is_stopped tasks.flow) tasks.extra.stopped (ap is_stopped (sym h.flow) ∙ running) h.alive) in
          let contents : out.store ≡ merged tasks = λ t q. (h.store q tt) t in
          ap (λ b. alone s b out.store out.lines out.faults) stop
          ∙ ap (λ c. alone s (stops_anywhere tasks) c out.lines out.faults) contents
          ∙ ap (λ ls. alone s (stops_anywhere tasks) (merged tasks) ls out.faults) h.lines
          ∙ ap (λ fs. alone s (stops_anywhere tasks) (merged tasks) tasks.lines fs) h.faults

-- ---- a task with a plain body
module _ (p : Program) (needs : Codes → Needs) (fresh : ℕ) (s : Start) (plain : IsPlainWork p (Block s.body)) where
  abbrev begun : State Own
  begun = beginning (at_first s.owned) fresh s

  means : IsAsOnOne (notes Step) begun (own p needs fresh s) (in_place p fresh s)
  means =
      plain_means p (own_rules needs s.nest (in_truth p needs fresh)) (notes Step) (λ l x. refl) fresh s.nest (Block s.body) plain begun

  -- steps leave what it owns, and list no child
  steps_taken : (n : ℕ) (x : Own) (u : S)
      → result_of (beside (times n (notes Step) x) u) ≡ result_of (beside x u)
  steps_taken zero x u = refl
  steps_taken (suc n) x u = steps_taken n (notes Step x) u

  -- what it makes in place is the result of its own run, stopped or not
  pub is_own : result_in_place p fresh s ≡ result_of (own p needs fresh s)
  is_own =
      let out = in_place p fresh s in
      let path : s.path ≡ out.path = sym (own_path p needs fresh s) ∙ ap (λ (st : State Own). st.path) means.is in
      ap (λ (q : List ℕ). record {
        path = q;
        stopped = is_stopped out.flow;
        contents = out.store;
        owned = s.owned;
        lines = out.lines;
        faults = out.faults;
        children = [];
      }) path
      ∙ sym (steps_taken means.taken (at_first s.owned) out)
      ∙ ap result_of (sym means.is)

-- ---- sound and accepted programs
module _ (p : Program) (sound : IsSound p) (accepted : IsAccepted p) (input : List (List ℤ)) (b : Budget)
    (fits : FitsArrays p.arrays input) (s : Start) (may : MayStart p input b s) where
  begins_so : MayBegin p (needs_of p) s
  begins_so =
      may_start p (needs_of p) (is_scoped p sound) (is_calm p sound accepted) (provides_needs p sound) b.steps (root p input b) refl
      (may_begin p sound accepted input b fits) s may

  pub whole_in_place : is_stopped (in_place p b.steps s).flow ≡ false
      → result_in_place p b.steps s ≡ whole p (needs_of p) b.steps s
  whole_in_place =
      is_whole p (needs_of p) (is_scoped p sound) (is_calm p sound accepted) (provides_needs p sound) b.steps s begins_so

  -- whichever tasks run whole, its result and those below it settle
  pub settles_with_some : (runs_whole : Start → Bool) (rs : List TaskResult)
      → Shuffled (made_below p (needs_of p) b.steps runs_whole s.nest s) rs
      → settle (made_of p (needs_of p) b.steps runs_whole s) rs ≡ Some (comes_to p (needs_of p) b.steps s)
  settles_with_some runs_whole rs order =
      let task = (goes p (needs_of p) (is_scoped p sound) (is_calm p sound accepted) (provides_needs p sound) b.steps (root p input b) refl
      (may_begin p sound accepted input b fits) may).task in
      some_whole_settle p (needs_of p) (is_scoped p sound) (is_calm p sound accepted) (provides_needs p sound) b.steps (root p input b)
      runs_whole s task.comes begins_so rs order

  -- what it makes in place is the result of a task
  pub made_in_place : IsKeptWhole p b.steps s → IsMadeByTask p input b (result_in_place p b.steps s)
  made_in_place (inl running) = ran_whole may (whole_in_place running)
  made_in_place (inr plain) =
      let end = ends_anywhere p sound accepted input b fits s _ may in
      let task = (goes p (needs_of p) (is_scoped p sound) (is_calm p sound accepted) (provides_needs p sound) b.steps (root p input b) refl
      (may_begin p sound accepted input b fits) end.ended).task in
      has_ended (record {
        start = s;
        state = end.state;
        ended = end.ended;
        is = is_own p (needs_of p) b.steps s plain ∙ ap result_of (sym task.runs);
      })

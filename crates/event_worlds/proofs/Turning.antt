-- What a turn shows about a task that was to run.
use Rattle.std.proofs.Common.{◌≡◌, ℕ, ◌+◌, ◌<◌, ◌≤◌, List, [], ◌∷◌, ◌++◌, length, Some, refl, sym, ap, ◌∙◌, subst}
use Rattle.std.proofs.Common.{inl, inr, arith}
use Rattle.std.specs.Prelude.{false, ◌⊎◌}
use Rattle.std.proofs.lemmas.List.{length-append}
use Rattle.std.proofs.lemmas.Option.{same_Some}
use Rattle.types.specs.Code.{Program}
use Rattle.types.specs.Run.{State}
use Rattle.types.specs.Translation.{program}
use Rattle.effects.specs.Rounds.{needs_of}
use Rattle.task_run.specs.Copies.{IsCopy}
use Rattle.task_run.specs.Frames.{Frame, Rest, Again, Further, AtEnd, OnFault, Back, Standing, done_in, turn, IsTask}
use Rattle.task_run.specs.Frames.{Follows}
use Rattle.task_run.specs.Given.{in_truth}
use Rattle.task_run.specs.Left.{left_after, left_of}
use Rattle.task_run.specs.MayRun.{MayRun, Stays}
use Rattle.task_run.specs.OwnRun.{Own, Start, Action, Step, Spawn, EnterFinish, EndFinish, begun_by, own_rules, last_action}
use Rattle.task_run.specs.OwnRun.{next_action}
use Rattle.task_run.specs.Reached.{begun, turns}
use Rattle.task_run.specs.Runs.{root, MayStand}
use Rattle.task_run.specs.RunTurns.{CanTurn, GoesAs, GoesTo, IsAtEnd, IsTurn, TurnOf}
use Rattle.task_run.specs.Standings.{IsAt, state_of, with_own}
use Rattle.task_run.specs.Stops.{stops}
use Rattle.task_run.specs.Translation.{start}
use Rattle.task_run.specs.declared.frame.TaskFrame.TheVariants.{EndFinish as rEndFinish}
use Rattle.task_run.specs.declared.run.Run.{Run}
use Rattle.task_run.specs.declared.start.Start.{Start as rStart}
use Rattle.task_run.specs.declared.turn.Turn.{Turn}
use Rattle.task_run.specs.declared.turn.Turn.TheVariants.{Going, Spawns, EntersFinish, EndsFinish, Ended, Over}
use Rattle.task_run.proofs.AcceptedPrograms.{provides_needs}
use Rattle.task_run.proofs.BelongingTasks.{IsAsync, can_turn}
use Rattle.task_run.proofs.Begun.{begun_by-append}
use Rattle.task_run.proofs.HoldingTurns.{root_begins}
use Rattle.task_run.proofs.NextAction.{next_is_done, next_is_end, next_is_last}
use Rattle.task_run.proofs.ReachedTasks.{goes}
use Rattle.task_run.proofs.RunTops.{none_stacked, on_top}
use Rattle.task_run.proofs.RunsGoOn.{stays}
use Rattle.task_run.proofs.TaskRuns.{begins_follow, turns_follow}
use Rattle.task_run.proofs.TurnActions.{turn_does}
use Rattle.task_run.proofs.TurnsLeft.{leaves_fewer}
use Rattle.race_checker.proofs.Calming.{is_calm}
use Rattle.race_checker.proofs.Scoping.{is_scoped}
use Rattle.task_run.specs.Jobs.{IsJob, program_of, lists_of, budget_of}
use Rattle.task_run.specs.declared.job.Job.{Job}
use Rattle.event_worlds.specs.Courses.{Course, further, with_child, with_finish, IsNext, HasCome}
use Rattle.event_worlds.specs.Courses.{IsDoing, IsFresh, IsRunOf}
use Rattle.event_worlds.specs.World.{child_path}
use Rattle.event_worlds.specs.declared.doing.TaskProgress.TheVariants.{Steps, Spawns as rSpawns, Opens}
use Rattle.event_worlds.specs.declared.doing.TaskProgress.TheVariants.{AtFinish, AtEnd as rAtEnd}
use Rattle.event_worlds.proofs.Histories.{nil_cons}
use Rattle.event_worlds.proofs.Paying.{turn_pays, turn_idle, turn_names, Named}
use Rattle.task_run.proofs.ListedTurns.{over_does_nothing}

-- what a turn shows about a task that was to run, and had `before` steps left
abbrev pub IsShown : Job → Course → (before : ℕ) → Turn → Type 0
IsShown j c n (Going r) =
    (r.thread.steps + 1 ≤ n → IsDoing j c (Steps r)) × (n ≤ r.thread.steps → IsRunOf j c r)
IsShown j c n (Over r) = IsRunOf j c r
IsShown j c n (Spawns r s) = IsDoing j c (rSpawns r s)
IsShown j c n (EntersFinish r) = IsDoing j c (Opens r)
IsShown j c n (EndsFinish q made) = IsDoing j c (AtFinish q made)
IsShown j c n (Ended made) = IsDoing j c (rAtEnd made)

module _ (j : Job) (ok : IsJob j) where
  abbrev pub p : Program
  p = program_of j

  abbrev pub At : List (Frame Own) → State Own → Standing Own
  At fs st = record { frames = fs; state = st }

  -- in each configuration, a task is its own run
  pub its_task : (s : Start) (u : Standing Own) → MayStand p (lists_of j) (budget_of j) s u
      → IsTask p (needs_of p) (budget_of j).steps (root p (lists_of j) (budget_of j)) s u
  its_task s u h =
      (goes p (needs_of p) (is_scoped p ok.sound) (is_calm p ok.sound ok.accepted) (provides_needs p ok.sound) (budget_of j).steps
      (root p (lists_of j) (budget_of j)) refl
      (root_begins p (needs_of p) (is_scoped p ok.sound) (is_calm p ok.sound ok.accepted) (provides_needs p ok.sound) (lists_of j)
      (budget_of j).nest ok.fits) h).task

  -- the configuration after a turn
  abbrev pub next_of : Start → Frame Own → List (Frame Own) → State Own → Standing Own
  next_of s f fs st = turn p (own_rules (needs_of p) s.nest (in_truth p (needs_of p) (budget_of j).steps)) f fs st

  abbrev root_start : Start
  root_start = root p (lists_of j) (budget_of j)

  -- its next action is the action of its turn
  pub next_is : (c : Course) (f : Frame Own) (fs : List (Frame Own)) (st : State Own) (a : Action)
      → HasCome j c (At (f ∷ fs) st) → done_in (needs_of p) c.start.nest f st ≡ a ∷ [] → IsNext j c a
  next_is c f fs st a h e =
      let task = its_task c.start (At (f ∷ fs) st) h.stands in
      ap (λ n. next_action p (needs_of p) (budget_of j).steps c.receipts n c.start) (sym h.after)
      ∙ next_is_done p (needs_of p) (budget_of j).steps root_start c.start c.receipts f fs st a task.fine task.below h.follows e

  -- at the end of a finish
  pub ends_finish : (c : Course) (before : State Own) (fs : List (Frame Own)) (st : State Own)
      → HasCome j c (At (AtEnd before ∷ fs) st) → IsNext j c EndFinish
  ends_finish c before fs st h =
      let task = its_task c.start (At (AtEnd before ∷ fs) st) h.stands in
      ap (λ n. next_action p (needs_of p) (budget_of j).steps c.receipts n c.start) (sym h.after)
      ∙ next_is_end p (needs_of p) (budget_of j).steps root_start c.start c.receipts before fs st task.awake h.follows

  -- at its own end
  pub ends_last : (c : Course) (st : State Own) → HasCome j c (At [] st) → IsNext j c (last_action c.start.path)
  ends_last c st h =
      let task = its_task c.start (At [] st) h.stands in
      ap (λ n. next_action p (needs_of p) (budget_of j).steps c.receipts n c.start) (sym h.after)
      ∙ next_is_last p (needs_of p) (budget_of j).steps root_start c.start c.receipts st task.awake h.follows
      ∙ ap (λ q. Some (last_action q)) task.path

  -- a turn with these actions
  pub come_on : (c : Course) (done spawned opened : ℕ) (f : Frame Own) (fs : List (Frame Own)) (st : State Own) (xs : List Action)
      → HasCome j c (At (f ∷ fs) st) → done_in (needs_of p) c.start.nest f st ≡ xs
      → done ≡ c.done + length xs → spawned ≡ c.spawned + length (begun_by xs)
      → opened + (next_of c.start f fs st).state.steps ≤ c.opened + st.steps
      → HasCome j (record c { done = done; spawned = spawned; opened = opened }) (next_of c.start f fs st)
  come_on c done spawned opened f fs st xs h e is_done is_spawned is_opened =
      let task = its_task c.start (At (f ∷ fs) st) h.stands in
      let to = next_of c.start f fs st in
      let close = in_truth p (needs_of p) (budget_of j).steps in
      let does : to.state.extra.actions ≡ st.extra.actions ++ xs
      = turn_does p (needs_of p) c.start.nest close f fs st ∙ ap (λ l. st.extra.actions ++ l) e in
      let reached = turns h.stands in
      let now = its_task c.start to reached in
      let count = ap length does ∙ length-append st.extra.actions xs in
      let was = h.after in
      let kids = sym now.fine.counted ∙ ap (λ l. length (begun_by l)) does
      ∙ ap length (begun_by-append st.extra.actions xs) ∙ length-append (begun_by st.extra.actions) (begun_by xs) in
      let old = task.fine.counted in
      let had = h.children in
      let least = h.few in
      record {
        stands = reached;
        follows = turns_follow p (needs_of p) (budget_of j).steps root_start c.start c.receipts f fs st task.fine task.below h.follows;
        after = omega (arith, count, was, is_done);
        children = omega (arith, kids, old, had, is_spawned);
        few = omega (arith, least, is_opened);
      }

  -- it takes a step
  pays_one : (c : Course) (f : Frame Own) (fs : List (Frame Own)) (st : State Own) (a : Action)
      → done_in (needs_of p) c.start.nest f st ≡ a ∷ [] → (next_of c.start f fs st).state.steps + 1 ≤ st.steps
  pays_one c f fs st a e = by_pay (turn_pays p (needs_of p) c.start.nest (in_truth p (needs_of p) (budget_of j).steps) f fs st).1
    where
      by_pay : (done_in (needs_of p) c.start.nest f st ≡ []) ⊎ ((next_of c.start f fs st).state.steps + 1 ≤ st.steps)
          → (next_of c.start f fs st).state.steps + 1 ≤ st.steps
      by_pay (inl none) = absurd (nil_cons (sym none ∙ e))
      by_pay (inr pays) = pays

  pub pays_none : (c : Course) (f : Frame Own) (fs : List (Frame Own)) (st : State Own)
      → (next_of c.start f fs st).state.steps ≤ st.steps
  pays_none c f fs st = (turn_pays p (needs_of p) c.start.nest (in_truth p (needs_of p) (budget_of j).steps) f fs st).0

  module _ (r : Run) (c : Course) (f : Frame Own) (fs : List (Frame Own)) (st : State Own)
      (is : program r.plan.program.now ≡ p) (nest : r.thread.nest ≡ c.start.nest) (steps : st.steps ≡ r.thread.steps)
      (come : HasCome j c (At (f ∷ fs) st)) where
    abbrev reached_by : Standing Own
    reached_by =
        turn (program r.plan.program.now) (own_rules (needs_of p) r.thread.nest (in_truth p (needs_of p) (budget_of j).steps)) f fs st

    same_turn : next_of c.start f fs st ≡ reached_by
    same_turn =
        ap (λ (n : ℕ). turn p (own_rules (needs_of p) n (in_truth p (needs_of p) (budget_of j).steps)) f fs st) (sym nest)
        ∙ ap (λ (x : Program). turn x (own_rules (needs_of p) r.thread.nest (in_truth p (needs_of p) (budget_of j).steps)) f fs st) (sym is)

    does_so : (xs : List Action) → done_in (needs_of p) r.thread.nest f st ≡ xs → done_in (needs_of p) c.start.nest f st ≡ xs
    does_so xs e = ap (λ (n : ℕ). done_in (needs_of p) n f st) (sym nest) ∙ e

    -- the run after it is in this configuration
    runs_on : (d : Course) (q : Run) → d.start ≡ c.start → GoesTo r reached_by q → HasCome j d (next_of c.start f fs st) → IsRunOf j d q
    runs_on d q starts goes there = record {
      program = ap (λ plan. program plan.program.now) goes.plan ∙ is;
      nest = goes.nest ∙ nest ∙ ap (λ (x : Start). x.nest) (sym starts);
      frames = reached_by.frames;
      own = goes.stands.own;
      shows = goes.stands.shows;
      come = subst (λ (out : State Own). HasCome j d (record { frames = reached_by.frames; state = out })) (sym goes.stands.is)
          (subst (HasCome j d) same_turn there);
    }

    left : (q : Run) → GoesTo r reached_by q → (next_of c.start f fs st).state.steps ≡ q.thread.steps
    left q goes = ap (λ (u : Standing Own). u.state.steps) same_turn ∙ ap (λ (out : State Own). out.steps) (sym goes.stands.is)

    silent : (q : Run) → GoesTo r reached_by q → done_in (needs_of p) r.thread.nest f st ≡ [] → IsRunOf j c q
    silent q goes e =
        let le = pays_none c f fs st in
        let k = come_on c c.done c.spawned c.opened f fs st [] come (does_so [] e) (omega arith) (omega arith) (omega (arith, le)) in
        runs_on c q refl goes (record { stands = k.stands; follows = k.follows; after = k.after; children = k.children; few = k.few })

    stepped : (q : Run) → GoesTo r reached_by q → done_in (needs_of p) r.thread.nest f st ≡ Step ∷ [] → IsRunOf j (further c) q
    stepped q goes e =
        let le = pays_none c f fs st in
        runs_on (further c) q refl goes
        (come_on c (c.done + 1) c.spawned c.opened f fs st (Step ∷ []) come (does_so (Step ∷ []) e) refl (omega arith) (omega (arith, le)))

    spawned_one : (q : Run) (x : Start) → GoesTo r reached_by q → done_in (needs_of p) r.thread.nest f st ≡ Spawn x ∷ []
        → IsRunOf j (with_child c) q
    spawned_one q x goes e =
        let le = pays_none c f fs st in
        runs_on (with_child c) q refl goes
        (come_on c (c.done + 1) (c.spawned + 1) c.opened f fs st (Spawn x ∷ []) come (does_so (Spawn x ∷ []) e) refl refl (omega (arith, le)))

    opened_one : (q : Run) → GoesTo r reached_by q → done_in (needs_of p) r.thread.nest f st ≡ EnterFinish ∷ []
        → IsRunOf j (with_finish c) q
    opened_one q goes e =
        let le = pays_one c f fs st EnterFinish (does_so (EnterFinish ∷ []) e) in
        runs_on (with_finish c) q refl goes
        (come_on c (c.done + 1) c.spawned (c.opened + 1) f fs st (EnterFinish ∷ []) come (does_so (EnterFinish ∷ []) e) refl (omega arith)
        (omega (arith, le)))

    -- a turn that continues took a step, or had no action
    going : (q : Run) → GoesTo r reached_by q → stops r.thread.nest f st ≡ false
        → (done_in (needs_of p) r.thread.nest f st ≡ []) ⊎ (done_in (needs_of p) r.thread.nest f st ≡ Step ∷ [])
        → IsShown j c r.thread.steps (Going q)
    going q goes within (inl none) =
        let le = turn_idle p (needs_of p) c.start.nest (in_truth p (needs_of p) (budget_of j).steps) f fs st (does_so [] none)
        (ap (λ (n : ℕ). stops n f st) (sym nest) ∙ within) in
        let at = left q goes in
        (λ less. absurd (omega (arith, le, at, steps, less)), λ more. silent q goes none)
    going q goes within (inr one) =
        let lt = pays_one c f fs st Step (does_so (Step ∷ []) one) in
        let at = left q goes in
        (λ less. (next_is c f fs st Step come (does_so (Step ∷ []) one), stepped q goes one), λ more. absurd (omega (arith, lt, at, steps, more)))

    named : (x : Start) → done_in (needs_of p) r.thread.nest f st ≡ Spawn x ∷ [] → x.path ≡ child_path c.start.path (c.spawned + 1)
    named x e =
        let close = in_truth p (needs_of p) (budget_of j).steps in
        subst (Named p (needs_of p) c.start.nest close (st.path ++ (st.spawned + 1) ∷ [])) (does_so (Spawn x ∷ []) e)
        (turn_names p (needs_of p) c.start.nest close f st)
        ∙ ap (λ l. l ++ (st.spawned + 1) ∷ []) (its_task c.start (At (f ∷ fs) st) come.stands).path
        ∙ ap (λ n. c.start.path ++ (n + 1) ∷ []) come.children

    by_turn : (t : Turn) → Stays p (lists_of j) (budget_of j) c.start t
        → GoesAs r reached_by (done_in (needs_of p) r.thread.nest f st) (stops r.thread.nest f st) t → IsShown j c r.thread.steps t
    by_turn (Going q) stay h = going q h.0 h.1.0 h.1.1
    by_turn (Spawns q x) stay h = (
      next_is c f fs st (Spawn (start x)) come (does_so (Spawn (start x) ∷ []) h.1.1),
      spawned_one q (start x) h.0 h.1.1,
      stay.1,
      named (start x) h.1.1,
    )
    by_turn (EntersFinish q) stay h =
        (next_is c f fs st EnterFinish come (does_so (EnterFinish ∷ []) h.1.1), opened_one q h.0 h.1.1)
    by_turn (Over q) stay h = silent q h.0 (over_does_nothing (needs_of p) r.thread.nest f st h.1)
    by_turn (EndsFinish w x) stay h = absurd h
    by_turn (Ended x) stay h = absurd h

  module _ (r : Run) (c : Course) (is : program r.plan.program.now ≡ p) (nest : r.thread.nest ≡ c.start.nest) where
    by_frames : (t : Turn) (fs : List (Frame Own)) (st : State Own) → st.steps ≡ r.thread.steps → HasCome j c (At fs st)
        → Stays p (lists_of j) (budget_of j) c.start t
        → TurnOf (needs_of p) (in_truth p (needs_of p) (budget_of j).steps) r fs st t → IsShown j c r.thread.steps t
    by_frames t (Rest b ∷ fs) st steps come stay h = by_turn r c (Rest b) fs st is nest steps come t stay h
    by_frames t (Again l g b ∷ fs) st steps come stay h = by_turn r c (Again l g b) fs st is nest steps come t stay h
    by_frames t (Further l s n k q i b ∷ fs) st steps come stay h =
        by_turn r c (Further l s n k q i b) fs st is nest steps come t stay h
    by_frames t (OnFault before x b ∷ fs) st steps come stay h =
        by_turn r c (OnFault before x b) fs st is nest steps come t stay h
    by_frames t (Back env ∷ fs) st steps come stay h = by_turn r c (Back env) fs st is nest steps come t stay h
    by_frames (EndsFinish w x) (AtEnd before ∷ fs) st steps come stay h = (
      ends_finish c before fs st come,
      record {
        program = ap (λ plan. program plan.program.now) h.1 ∙ is;
        nest = h.2 ∙ nest;
        frames = fs;
        before = before;
        state = st;
        waits = h.0;
        come = come;
        made = h.3;
      },
    )
    by_frames t (AtEnd before ∷ fs) st steps come stay h = absurd h
    by_frames (Ended x) [] st steps come stay h = (ends_last c st come, record { state = st; come = come; is = h })
    by_frames t [] st steps come stay h = absurd h

  -- a run of the program on this input
  pub may_run : (c : Course) (r : Run) → IsRunOf j c r → MayRun p (lists_of j) (budget_of j) r
  may_run c r m = record {
    program = m.program;
    start = c.start;
    nest = m.nest;
    frames = m.frames;
    own = m.own;
    shows = m.shows;
    stands = m.come.stands;
  }

  -- each turn of a run shows the next action of its task
  pub shown : (c : Course) (r : Run) (t : Turn) → IsRunOf j c r → IsTurn (needs_of p) r t → IsShown j c r.thread.steps t
  unfolding may_run
  shown c r t m turns_so =
      by_frames r c m.program m.nest t m.frames (with_own m.own (state_of r.thread)) refl m.come
      (stays p (lists_of j) (budget_of j) r t (may_run c r m) turns_so)
      (turns_so (in_truth p (needs_of p) (budget_of j).steps) m.frames m.own m.shows)

  -- ---- a next action that isn't a step
  one_next : (c : Course) (a b : Action) → IsNext j c a → IsNext j c b → a ≡ b
  one_next c a b is other = same_Some _ _ (sym is ∙ other)

  spawns_no_step : (x : Start) → Spawn x ≡ Step → ⊥
  spawns_no_step x e = let bad : ⊥ = cc in bad

  enters_no_step : EnterFinish ≡ Step → ⊥
  enters_no_step e = let bad : ⊥ = cc in bad

  ends_no_step : EndFinish ≡ Step → ⊥
  ends_no_step e = let bad : ⊥ = cc in bad

  last_no_step : (q : List ℕ) → last_action q ≡ Step → ⊥
  last_no_step [] e = let bad : ⊥ = cc in bad
  last_no_step (i ∷ q) e = let bad : ⊥ = cc in bad

  -- a run that spawned a task or started a finish, or is at an end, wasn't about to take a step
  pub spawns_not : (c : Course) (n : ℕ) (q : Run) (x : rStart) → IsShown j c n (Spawns q x) → IsNext j c Step → ⊥
  spawns_not c n q x h is = spawns_no_step (start x) (one_next c (Spawn (start x)) Step h.0 is)

  pub enters_not : (c : Course) (n : ℕ) (q : Run) → IsShown j c n (EntersFinish q) → IsNext j c Step → ⊥
  enters_not c n q h is = enters_no_step (one_next c EnterFinish Step h.0 is)

  pub ends_not : (c : Course) (r : Run) → IsRunOf j c r → IsAtEnd r → IsNext j c Step → ⊥
  ends_not c r m at is = by_place at
    where
      st : State Own
      st = with_own m.own (state_of r.thread)

      by_place : IsAtEnd r → ⊥
      by_place (inl none) =
          let come = subst (λ (fs : List (Frame Own)). HasCome j c (At fs st)) (none_stacked r.frames.items m.frames none m.shows.frames) m.come in
          last_no_step c.start.path (one_next c (last_action c.start.path) Step (ends_last c st come) is)
      by_place (inr (below, o, e)) =
          on_top r.frames.items below (rEndFinish o) m.frames e m.shows.frames (λ fs. HasCome j c (At fs st) → ⊥)
          (λ f fs shown stacked come.
          let at_end = subst (λ (f : Frame Own). HasCome j c (At (f ∷ fs) st)) shown.1 come in
          ends_no_step (one_next c EndFinish Step (ends_finish c shown.0 fs st at_end) is))
          m.come

  -- a task at its start
  pub begins_here : (c : Course) (s : rStart) → IsFresh j c s → HasCome j c (begun (budget_of j).steps (start s))
  begins_here c s fresh = subst (λ (x : Start). HasCome j c (begun (budget_of j).steps x)) (sym fresh.is) here
    where
      here : HasCome j c (begun (budget_of j).steps c.start)
      here = record {
        stands = fresh.may;
        follows = subst (λ rs. Follows p (needs_of p) (budget_of j).steps root_start c.start rs (begun (budget_of j).steps c.start))
            (sym fresh.receipts) (begins_follow p (needs_of p) (budget_of j).steps root_start c.start);
        after = sym fresh.done;
        children = sym fresh.spawned;
        few = let none = fresh.opened in omega (arith, none);
      }

  -- a task that has started is at its start
  pub begins : (c : Course) (s : rStart) (r : Run) → IsFresh j c s → program r.plan.program.now ≡ p → r.thread.nest ≡ s.nest
      → IsAt r (begun (budget_of j).steps (start s)) → IsRunOf j c r
  begins c s r fresh is nest at = record {
    program = is;
    nest = nest ∙ ap (λ (x : Start). x.nest) fresh.is;
    frames = (begun (budget_of j).steps (start s)).frames;
    own = at.own;
    shows = at.shows;
    come = subst (λ (out : State Own). HasCome j c (record { frames = (begun (budget_of j).steps (start s)).frames; state = out }))
        (sym at.is) (begins_here c s fresh);
  }

  -- a copy represents the same task
  pub fresh_copy : (c : Course) (s q : rStart) → start q ≡ start s → IsFresh j c s → IsFresh j c q
  fresh_copy c s q e h = record {
    is = e ∙ h.is;
    may = h.may;
    receipts = h.receipts;
    done = h.done;
    spawned = h.spawned;
    opened = h.opened;
  }

  pub run_copy : (c : Course) (r q : Run) → IsCopy r q → IsRunOf j c r → IsRunOf j c q
  run_copy c r q e h = record {
    program = ap (λ plan. program plan.program.now) e.plan ∙ h.program;
    nest = e.nest ∙ h.nest;
    frames = h.frames;
    own = h.own;
    shows = e.shows h.frames h.own h.shows;
    come = subst (λ st. HasCome j c (record { frames = h.frames; state = with_own h.own st })) (sym e.state) h.come;
  }

-- ---- turn after turn, up to the next action
module _ (j first_job : Job) where
  -- the run has the progress of its task, and has had no action since
  pub record HasGone (first now : Run) : Type 0 where
    pub job : IsJob j
    pub there : (c : Course) × IsRunOf j c now
    pub same : (c : Course) → IsRunOf first_job c first → IsRunOf j c now

module _ {j first_job : Job} {first now : Run} (i : HasGone j first_job first now) where
  pub can_go : CanTurn (needs_of (program_of j)) (IsAsync (program_of j)) now
  can_go =
      can_turn (program_of j) i.job.sound i.job.accepted (lists_of j) (budget_of j) i.job.fits now
      (may_run j i.job i.there.0 now i.there.1)

  pub goes_fewer : (t : Turn) → IsTurn (needs_of (program_of j)) now t → left_after now.plan.budget.steps t < left_of now
  goes_fewer t = leaves_fewer (needs_of (program_of j)) now t i.there.1.frames i.there.1.own i.there.1.shows

  pub shows_so : (t : Turn) → IsTurn (needs_of (program_of j)) now t → (c : Course) → IsRunOf first_job c first
      → IsShown j c now.thread.steps t
  shows_so t is c m = shown j i.job c now t (i.same c m) is

  -- the same fact for an equal turn
  pub shows_as : {x y : Turn} → x ≡ y → IsTurn (needs_of (program_of j)) now x → (c : Course) → IsRunOf first_job c first
      → IsShown j c now.thread.steps y
  shows_as {y = y} e is = shows_so y (subst (IsTurn (needs_of (program_of j)) now) e is)

  pub goes_again : (next : Run) → IsTurn (needs_of (program_of j)) now (Going next) → now.thread.steps ≤ next.thread.steps
      → HasGone j first_job first next
  goes_again next is more = record {
    job = i.job;
    there = (i.there.0, (shown j i.job i.there.0 now (Going next) i.there.1 is).1 more);
    same = λ c m. (shows_so (Going next) is c m).1 more;
  }

  pub goes_over : (next : Run) → IsTurn (needs_of (program_of j)) now (Over next) → HasGone j first_job first next
  goes_over next is = record {
    job = i.job;
    there = (i.there.0, shown j i.job i.there.0 now (Over next) i.there.1 is);
    same = λ c m. shows_so (Over next) is c m;
  }

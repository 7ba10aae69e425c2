-- A turn of a run of a program leaves a run of the program.
use Rattle.std.proofs.Common.{◌≡◌, ℕ, List, [], ◌∷◌, Some, refl, sym, ap, ◌∙◌, subst}
use Rattle.std.specs.Prelude.{ℤ, Bool}
use Rattle.types.specs.Code.{Program}
use Rattle.types.specs.Contents.{FitsArrays}
use Rattle.types.specs.Outcome.{Budget}
use Rattle.types.specs.Run.{State}
use Rattle.types.specs.Translation.{program}
use Rattle.effects.specs.Rounds.{needs_of}
use Rattle.effects.specs.Sound.{IsSound}
use Rattle.race_checker.specs.Clash.{IsAccepted}
use Rattle.task_run.specs.Frames.{Frame, Rest, Again, Further, AtEnd, OnFault, Back, Standing, done_in, handed, turn}
use Rattle.task_run.specs.Given.{in_truth, root_of}
use Rattle.task_run.specs.InPlace.{IsMade}
use Rattle.task_run.specs.MayRun.{MayRun, MayStart, MayWait, IsRunOf, Stays}
use Rattle.task_run.specs.OwnRun.{Own, Spawn, Start, own_rules, result_of}
use Rattle.task_run.specs.Quiet.{Quietly, here, further}
use Rattle.task_run.specs.Reached.{begun, child_begins, turns, leaves}
use Rattle.task_run.specs.Runs.{IsMadeByTask, MayStand}
use Rattle.task_run.specs.RunTurns.{GoesAs, GoesOn, GoesTo, IsTurn, TurnOf}
use Rattle.task_run.specs.Results.{TaskResult, Settled}
use Rattle.task_run.specs.Settling.{settle}
use Rattle.task_run.specs.Lists.{Each}
use Rattle.task_run.specs.Standings.{IsAt, state_of, with_own}
use Rattle.task_run.specs.Translation.{start, task_result}
use Rattle.task_run.specs.declared.result.TaskResult.{TaskResult as rTaskResult}
use Rattle.task_run.specs.declared.run.Run.{Run}
use Rattle.task_run.specs.declared.start.Start.{Start as rStart}
use Rattle.task_run.specs.declared.turn.Paused.{Paused}
use Rattle.task_run.specs.declared.turn.Turn.{Turn}
use Rattle.task_run.specs.declared.turn.Turn.TheVariants.{Going, Spawns, EntersFinish, EndsFinish, Ended, Over}
use Rattle.task_run.proofs.AcceptedPrograms.{made}
use Rattle.task_run.proofs.Children.{turn_lists}
use Rattle.task_run.proofs.Lists.{each_more}

module _ (p : Program) (input : List (List ℤ)) (b : Budget) (r : Run) where
  goes_next : (q : Run) (s : Start) (f : Frame Own) (fs : List (Frame Own)) (st : State Own) → program r.plan.program.now ≡ p
      → r.thread.nest ≡ s.nest → MayStand p input b s (record { frames = f ∷ fs; state = st })
      → GoesTo r (turn (program r.plan.program.now)
      (own_rules (needs_of p) r.thread.nest (in_truth p (needs_of p) b.steps)) f fs st) q → IsRunOf p input b s q
  goes_next q s f fs st is nest stands goes =
      let close = in_truth p (needs_of p) b.steps in
      let next : Program → ℕ → Standing Own = λ p n. turn p (own_rules (needs_of p) n close) f fs st in
      let to : Standing Own = turn (program r.plan.program.now) (own_rules (needs_of p) r.thread.nest close) f fs st in
      let there : Standing Own = turn p (own_rules (needs_of p) s.nest close) f fs st in
      let same : there ≡ to
      = ap (λ (n : ℕ). turn p (own_rules (needs_of p) n close) f fs st) (sym nest)
      ∙ ap (λ (x : Program). turn x (own_rules (needs_of p) r.thread.nest close) f fs st) (sym is) in
      let reached : MayStand p input b s to = subst (MayStand p input b s) same (turns stands) in (
        record {
          program = ap (λ plan. program plan.program.now) goes.plan ∙ is;
          start = s;
          nest = goes.nest ∙ nest;
          frames = to.frames;
          own = goes.stands.own;
          shows = goes.stands.shows;
          stands =
              subst (λ (out : State Own). MayStand p input b s (record { frames = to.frames; state = out })) (sym goes.stands.is) reached;
        },
        refl,
      )

  -- a spawned task may be in its first configuration
  child_starts : (c : rStart) (s : Start) (f : Frame Own) (fs : List (Frame Own)) (st : State Own) → r.thread.nest ≡ s.nest
      → MayStand p input b s (record { frames = f ∷ fs; state = st })
      → done_in (needs_of p) r.thread.nest f st ≡ Spawn (start c) ∷ [] → MayStart p input b (start c)
  child_starts c s f fs st nest stands e =
      let lists = turn_lists p (needs_of p) (in_truth p (needs_of p) b.steps) (start c) s.nest f fs st
      (ap (λ (n : ℕ). done_in (needs_of p) n f st) (sym nest) ∙ e) in
      subst (λ (x : Start). MayStand p input b x (begun b.steps x)) lists.start (child_begins (turns stands) lists.member)

  goes_on : (t : Turn) (over : Bool) (s : Start) (f : Frame Own) (fs : List (Frame Own)) (st : State Own)
      → program r.plan.program.now ≡ p → r.thread.nest ≡ s.nest
      → MayStand p input b s (record { frames = f ∷ fs; state = st })
      → GoesAs r (turn (program r.plan.program.now)
      (own_rules (needs_of p) r.thread.nest (in_truth p (needs_of p) b.steps)) f fs st)
      (done_in (needs_of p) r.thread.nest f st) over t → Stays p input b s t
  goes_on (Going q) over s f fs st is nest stands h = goes_next q s f fs st is nest stands h.0
  goes_on (Spawns q c) over s f fs st is nest stands h =
      (goes_next q s f fs st is nest stands h.0, child_starts c s f fs st nest stands h.1.1)
  goes_on (EntersFinish q) over s f fs st is nest stands h = goes_next q s f fs st is nest stands h.0
  goes_on (Over q) over s f fs st is nest stands h = goes_next q s f fs st is nest stands h.0
  goes_on (EndsFinish w x) over s f fs st is nest stands h = absurd h
  goes_on (Ended x) over s f fs st is nest stands h = absurd h

  by_frames : (t : Turn) (s : Start) (fs : List (Frame Own)) (st : State Own) → program r.plan.program.now ≡ p → r.thread.nest ≡ s.nest
      → MayStand p input b s (record { frames = fs; state = st })
      → TurnOf (needs_of p) (in_truth p (needs_of p) b.steps) r fs st t → Stays p input b s t
  by_frames t s (Rest c ∷ fs) st is nest stands h = goes_on t _ s (Rest c) fs st is nest stands h
  by_frames t s (Again l g c ∷ fs) st is nest stands h = goes_on t _ s (Again l g c) fs st is nest stands h
  by_frames t s (Further l z n k q i c ∷ fs) st is nest stands h = goes_on t _ s (Further l z n k q i c) fs st is nest stands h
  by_frames t s (OnFault before x c ∷ fs) st is nest stands h = goes_on t _ s (OnFault before x c) fs st is nest stands h
  by_frames t s (Back env ∷ fs) st is nest stands h = goes_on t _ s (Back env) fs st is nest stands h
  by_frames (EndsFinish w x) s (AtEnd before ∷ fs) st is nest stands h = (
    record {
      program = ap (λ plan. program plan.program.now) h.1 ∙ is;
      start = s;
      nest = h.2 ∙ nest;
      frames = fs;
      before = before;
      state = st;
      waits = h.0;
      stands = stands;
      made = h.3;
    },
    refl,
  )
  by_frames t s (AtEnd before ∷ fs) st is nest stands h = absurd h
  by_frames (Ended x) s [] st is nest stands h = (st, stands, h)
  by_frames t s [] st is nest stands h = absurd h

  -- after any turn, the run stays one of the program
  pub stays : (t : Turn) (m : MayRun p input b r) → IsTurn (needs_of p) r t → Stays p input b m.start t
  stays t m is =
      by_frames t m.start m.frames (with_own m.own (state_of r.thread)) m.program m.nest m.stands
      (is (in_truth p (needs_of p) b.steps) m.frames m.own m.shows)

  -- quiet turns lead to configurations that the task can reach
  quiet_stands : (s : Start) {a t : Standing Own} → Quietly p (needs_of p) s.nest (in_truth p (needs_of p) b.steps) a t
      → MayStand p input b s a → MayStand p input b s t
  quiet_stands s here h = h
  quiet_stands s (further little k) h = quiet_stands s k (turns h)

  -- a run that continues stays one of the program
  pub stays_on : (q : Run) (m : MayRun p input b r) → GoesOn (needs_of p) r q → IsRunOf p input b m.start q
  stays_on q m far =
      let close = in_truth p (needs_of p) b.steps in
      let start : Standing Own = record { frames = m.frames; state = with_own m.own (state_of r.thread) } in
      let on = far close m.frames m.own m.shows in
      let to = on.2 in
      let quiet : Quietly p (needs_of p) m.start.nest close start on.0
      = subst (λ (n : ℕ). Quietly p (needs_of p) n close start on.0) m.nest
      (subst (λ (x : Program). Quietly x (needs_of p) r.thread.nest close start on.0) m.program on.1) in (
        record {
          program = ap (λ plan. program plan.program.now) to.plan ∙ m.program;
          start = m.start;
          nest = to.nest ∙ m.nest;
          frames = on.0.frames;
          own = to.stands.own;
          shows = to.stands.shows;
          stands =
              subst (λ (out : State Own). MayStand p input b m.start (record { frames = on.0.frames; state = out })) (sym to.stands.is)
              (quiet_stands m.start quiet m.stands);
        },
        refl,
      )

-- the run of a task at its start
module _ (p : Program) (input : List (List ℤ)) (b : Budget) where
  pub begins : (k : Run) (s : Start) → MayStart p input b s → program k.plan.program.now ≡ p → k.thread.nest ≡ s.nest
      → IsAt k (begun b.steps s) → IsRunOf p input b s k
  begins k s starts is nest at = (
    record {
      program = is;
      start = s;
      nest = nest;
      frames = (begun b.steps s).frames;
      own = at.own;
      shows = at.shows;
      stands =
          subst (λ (out : State Own). MayStand p input b s (record { frames = (begun b.steps s).frames; state = out }))
          (sym at.is) starts;
    },
    refl,
  )

-- after the end of a finish, with what the results of tasks settled to
module _ (p : Program) (sound : IsSound p) (accepted : IsAccepted p) (input : List (List ℤ)) (b : Budget)
    (fits : FitsArrays p.arrays input) where
  behind_finish : (s : Start) (before : State Own) (fs : List (Frame Own)) (st : State Own)
      → MayStand p input b s (record { frames = AtEnd before ∷ fs; state = st })
      → (rs : List TaskResult) → Each (IsMadeByTask p input b) rs → (x : Settled) → settle (result_of st) rs ≡ Some x
      → MayStand p input b s (record { frames = fs; state = handed before x st })
  behind_finish s before fs st stands rs all x e =
      leaves rs stands
      (each_more (IsMadeByTask p input b) (IsMade p (needs_of p) b.steps (root_of p input b.nest)) rs
      (made p sound accepted input b fits) all)
      e

  pub goes_behind : (q : Paused) (so_far : rTaskResult) (w : MayWait p input b q so_far) (rs : List TaskResult)
      → Each (IsMadeByTask p input b) rs → (x : Settled) → settle (task_result so_far) rs ≡ Some x
      → (r : Run) → r.plan ≡ q.plan → r.thread.nest ≡ q.nest
      → IsAt r (record { frames = w.frames; state = handed w.before x w.state }) → IsRunOf p input b w.start r
  goes_behind q so_far w rs all x e r plan nest at =
      let reached = behind_finish w.start w.before w.frames w.state w.stands rs all x (ap (λ (y : TaskResult). settle y rs) (sym w.made) ∙ e)
      in (
        record {
          program = ap (λ plan. program plan.program.now) plan ∙ w.program;
          start = w.start;
          nest = nest ∙ w.nest;
          frames = w.frames;
          own = at.own;
          shows = at.shows;
          stands = subst (λ (out : State Own). MayStand p input b w.start (record { frames = w.frames; state = out })) (sym at.is)
              reached;
        },
        refl,
      )

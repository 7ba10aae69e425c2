-- All theorems with only sound and accepted as premises.
use Rattle.std.proofs.Common.{◌≡◌, List, [], Some, refl, sym, ap, ◌∙◌}
use Rattle.std.specs.Prelude.{ℤ}
use Rattle.types.specs.Code.{Program}
use Rattle.types.specs.Contents.{FitsArrays}
use Rattle.types.specs.Outcome.{Budget, outcome}
use Rattle.types.specs.Run.{State}
use Rattle.effects.specs.Sound.{IsSound}
use Rattle.effects.specs.Needs.{Provides}
use Rattle.effects.specs.Rounds.{summaries, needs_of}
use Rattle.effects.proofs.NeedsOfAsyncs.{provides}
use Rattle.effects.proofs.StableRounds.{summaries_derived, summaries_stable}
use Rattle.race_checker.specs.Clash.{IsAccepted}
use Rattle.race_checker.proofs.Scoping.{is_scoped}
use Rattle.race_checker.proofs.Calming.{is_calm}
use Rattle.task_run.specs.Apart.{apart_outcome}
use Rattle.task_run.specs.Results.{TaskResult, Settled}
use Rattle.task_run.specs.OwnRun.{Start, Own, result_of}
use Rattle.task_run.specs.Given.{own, comes_to, below, IsOfOwnRun, root_of, told_of}
use Rattle.task_run.specs.InPlace.{IsMade}
use Rattle.task_run.specs.Frames.{Standing}
use Rattle.task_run.specs.Holds.{MayBegin}
use Rattle.task_run.specs.Reached.{Reached, IsResult, IsWholeOrEnded, HasNext, CanSettle, CanEnd}
use Rattle.task_run.specs.Settling.{settle, IsParted}
use Rattle.task_run.specs.Lists.{Each, Shuffled}
use Rattle.task_run.proofs.Lists.{each_more}
use Rattle.task_run.proofs.ApartOutcome.{settles}
use Rattle.task_run.proofs.SettledResults.{told_apart, settled_outcome}
use Rattle.task_run.proofs.HoldingTurns.{root_begins}
use Rattle.task_run.proofs.TasksEnd.{all_settle}
use Rattle.task_run.proofs.NeverStuck.{can_leave, can_end}
use Rattle.task_run.proofs.ReachedTasks.{has_next, is_parted, ends_of_own_run, results_made, root_ends}

pub provides_needs : (p : Program) → IsSound p → Provides p (needs_of p)
provides_needs p sound = provides p (summaries p) (summaries_derived p) (summaries_stable p sound)

module _ (p : Program) (sound : IsSound p) (accepted : IsAccepted p) (input : List (List ℤ)) (b : Budget) where
  pub settled : (rs : List TaskResult) (s : Settled) → Each (IsMade p (needs_of p) b.steps (root_of p input b.nest)) rs
      → settle (result_of (own p (needs_of p) b.steps (root_of p input b.nest))) rs ≡ Some s → told_of p s ≡ outcome p input b
  settled rs s all is =
      settled_outcome p (needs_of p) (is_scoped p sound) (is_calm p sound accepted) (provides_needs p sound) input b rs s all is

  pub apart : outcome p input b ≡ apart_outcome p (needs_of p) input b
  apart = settles p (needs_of p) (is_scoped p sound) (is_calm p sound accepted) (provides_needs p sound) input b

  module _ (fits : FitsArrays p.arrays input) where
    pub may_begin : MayBegin p (needs_of p) (root_of p input b.nest)
    may_begin = root_begins p (needs_of p) (is_scoped p sound) (is_calm p sound accepted) (provides_needs p sound) input b.nest fits

    pub next_has : (s : Start) (t : Standing Own) → Reached p (needs_of p) b.steps (root_of p input b.nest) s t
        → HasNext (needs_of p) t.state t.frames
    next_has =
        has_next p (needs_of p) (is_scoped p sound) (is_calm p sound accepted) (provides_needs p sound) b.steps
        (root_of p input b.nest) refl may_begin

    pub parted : (s : Start) (t : Standing Own) → Reached p (needs_of p) b.steps (root_of p input b.nest) s t → IsParted (result_of t.state)
    parted = is_parted p (needs_of p) (is_scoped p sound) (is_calm p sound accepted) (provides_needs p sound) b.steps
        (root_of p input b.nest) refl may_begin

    pub results_of_own_runs : (r : TaskResult) → IsResult p (needs_of p) b.steps (root_of p input b.nest) r
        → IsOfOwnRun p (needs_of p) b.steps (root_of p input b.nest) r
    results_of_own_runs =
        ends_of_own_run p (needs_of p) (is_scoped p sound) (is_calm p sound accepted) (provides_needs p sound) b.steps
        (root_of p input b.nest) refl may_begin

    pub made : (r : TaskResult) → IsWholeOrEnded p (needs_of p) b.steps (root_of p input b.nest) r
        → IsMade p (needs_of p) b.steps (root_of p input b.nest) r
    made =
        results_made p (needs_of p) (is_scoped p sound) (is_calm p sound accepted) (provides_needs p sound) b.steps
        (root_of p input b.nest) refl may_begin

    pub told : (st : State Own) → Reached p (needs_of p) b.steps (root_of p input b.nest) (root_of p input b.nest)
        (record { frames = []; state = st })
        → (rs : List TaskResult) (s : Settled) → Each (IsWholeOrEnded p (needs_of p) b.steps (root_of p input b.nest)) rs
        → settle (result_of st) rs ≡ Some s → told_of p s ≡ outcome p input b
    told st r rs s all is =
        settled rs s
        (each_more (IsWholeOrEnded p (needs_of p) b.steps (root_of p input b.nest))
        (IsMade p (needs_of p) b.steps (root_of p input b.nest)) rs made all)
        (ap (λ r. settle r rs)
        (sym (root_ends p (needs_of p) (is_scoped p sound) (is_calm p sound accepted) (provides_needs p sound) b.steps
        (root_of p input b.nest) refl may_begin st r)) ∙ is)

    pub complete : (rs : List TaskResult) → Shuffled (below p (needs_of p) b.steps b.nest (root_of p input b.nest)) rs
        → settle (result_of (own p (needs_of p) b.steps (root_of p input b.nest))) rs
        ≡ Some (comes_to p (needs_of p) b.steps (root_of p input b.nest))
    complete rs all =
        all_settle p (needs_of p) (is_scoped p sound) (is_calm p sound accepted) (provides_needs p sound) b.steps (root_of p input b.nest)
        (root_of p input b.nest) refl may_begin rs all

    pub settles_anywhere : (s : Start) (t : Standing Own) → Reached p (needs_of p) b.steps (root_of p input b.nest) s t
        → CanSettle p (needs_of p) b.steps (root_of p input b.nest) t.state
    settles_anywhere =
        can_leave p (needs_of p) (is_scoped p sound) (is_calm p sound accepted) (provides_needs p sound) b.steps
        (root_of p input b.nest) refl may_begin

    pub ends_anywhere : (s : Start) (t : Standing Own) → Reached p (needs_of p) b.steps (root_of p input b.nest) s t
        → CanEnd p (needs_of p) b.steps (root_of p input b.nest) s
    ends_anywhere s t r =
        can_end p (needs_of p) (is_scoped p sound) (is_calm p sound accepted) (provides_needs p sound) b.steps
        (root_of p input b.nest) refl may_begin s t r

  pub root_told : told_of p (comes_to p (needs_of p) b.steps (root_of p input b.nest)) ≡ outcome p input b
  root_told = told_apart p (needs_of p) b.steps input b refl ∙ sym apart

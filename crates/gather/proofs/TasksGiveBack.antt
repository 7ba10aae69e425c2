-- What tasks give back at their ends is what is listed for them.
use Rattle.std.proofs.Common.{◌≡◌, List, [], refl, sym, ◌∙◌, subst}
use Rattle.std.specs.Prelude.{ℤ, ◌||◌}
use Rattle.sections.specs.Place.{Place}
use Rattle.types.specs.Code.{Program}
use Rattle.types.specs.Contents.{FitsArrays}
use Rattle.types.specs.Outcome.{Budget}
use Rattle.types.specs.Run.{State}
use Rattle.effects.specs.Sound.{IsSound}
use Rattle.race_checker.specs.Clash.{IsAccepted}
use Rattle.task_run.specs.Frames.{Standing}
use Rattle.task_run.specs.Lists.{Each}
use Rattle.task_run.specs.OwnRun.{Start, Child, Own, back_from, result_of}
use Rattle.task_run.specs.Results.{TaskResult}
use Rattle.task_run.specs.Reached.{has_ended, ran_whole}
use Rattle.task_run.specs.Runs.{IsMadeByTask, MayStand}
use Rattle.task_run.specs.RunTurns.{ComesBack}
use Rattle.task_run.specs.Translation.{owned_by}
use Rattle.task_run.specs.declared.result.Settled.{Settled}
use Rattle.task_run.proofs.BelongingTasks.{IsGivenBack, children_give_back}
use Rattle.task_run.proofs.Lists.{each_map, each_more}
use Rattle.gather.specs.GivesBack.{all_owned, GivesBack, AreGivenBack, GiveBack}

-- ---- the places that come back from the children that a task lists
all_back : (st : State Own) (q : Place) → all_owned (result_of st) q ≡ (st.extra.owned q || back_from st.extra.pending q)
all_back st q = refl

pub comes_back : (st : State Own) (s : Settled) → ((q : Place) → owned_by s.holdings q ≡ all_owned (result_of st) q) → ComesBack s st
comes_back st s h = λ t q. (h q ∙ all_back st q) t

module _ (p : Program) (sound : IsSound p) (accepted : IsAccepted p) (input : List (List ℤ)) (b : Budget)
    (fits : FitsArrays p.arrays input) where
  listed_given : (s : Start) (t : Standing Own) → MayStand p input b s t → (rs : List TaskResult) → Each (IsMadeByTask p input b) rs
      → AreGivenBack rs (result_of t.state).children
  listed_given s t stands rs all =
      each_map (λ (c : Child). c.listed) (λ l. Each (GivesBack l) rs) t.state.extra.pending
      (each_more (IsGivenBack p input b) (λ (c : Child). Each (GivesBack c.listed) rs) t.state.extra.pending
      (λ c back. each_more (IsMadeByTask p input b) (GivesBack c.listed) rs back all)
      (children_give_back p sound accepted input b fits s t stands))

  -- the children that a result lists; a task that ran whole lists none
  result_given : (rs : List TaskResult) → Each (IsMadeByTask p input b) rs → (x : TaskResult) → IsMadeByTask p input b x
      → AreGivenBack rs x.children
  result_given rs all x (has_ended k) =
      subst (λ (y : TaskResult). AreGivenBack rs y.children) (sym k.is)
      (listed_given k.start (record { frames = []; state = k.state }) k.ended rs all)
  result_given rs all x (ran_whole starts is) = subst (λ (y : TaskResult). AreGivenBack rs y.children) (sym is) tt

  pub give_back : (s : Start) (t : Standing Own) → MayStand p input b s t → (rs : List TaskResult) → Each (IsMadeByTask p input b) rs
      → GiveBack (result_of t.state) rs
  give_back s t stands rs all = (
    listed_given s t stands rs all,
    each_more (IsMadeByTask p input b) (λ x. AreGivenBack rs x.children) rs (result_given rs all) all,
  )

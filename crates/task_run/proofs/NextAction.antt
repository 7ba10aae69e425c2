-- The next action of a task is the action of its next turn, or the end that it is at.
use Rattle.std.proofs.Common.{◌≡◌, ℕ, List, [], ◌∷◌, ◌++◌, length, Some, refl, sym, ap, ◌∙◌, append_assoc}
use Rattle.std.proofs.lemmas.List.{append-nil}
use Rattle.std.proofs.lemmas.Bool.{and_right}
use Rattle.std.specs.Prelude.{Bool, true, false, slice_get, if◌then◌else◌}
use Rattle.types.specs.Code.{Codes, Program}
use Rattle.types.specs.Run.{State}
use Rattle.effects.specs.Needs.{Needs}
use Rattle.task_run.specs.Apart.{is_stopped}
use Rattle.task_run.specs.Results.{TaskResult}
use Rattle.task_run.specs.OwnRun.{Start, Action, Own, EndFinish, is_waiting, own_rules, from_receipts, run_by}
use Rattle.task_run.specs.OwnRun.{actions_of, last_action, next_action}
use Rattle.task_run.specs.Given.{in_truth}
use Rattle.task_run.specs.Frames.{Frame, AtEnd, Standing, resume, turn, done_in, HasBegun, HasBegunBelow, Follows}
use Rattle.task_run.proofs.TaskTurns.{resume_grows}
use Rattle.task_run.proofs.TaskRuns.{turns_follow}
use Rattle.task_run.proofs.TurnActions.{turn_does, follower_waits}

at_length : {A : Type 0} (xs : List A) (x : A) (ys : List A) → slice_get (xs ++ x ∷ ys) (length xs) ≡ Some x
at_length [] x ys = refl
at_length (z ∷ xs) x ys = at_length xs x ys

-- an action keeps its position if other actions are appended
stands : (b : Bool) (acts : List Action) (a e : Action) (more : List Action)
    → slice_get (if b then acts ++ a ∷ more else (acts ++ a ∷ more) ++ e ∷ []) (length acts) ≡ Some a
stands true acts a e more = at_length acts a more
stands false acts a e more = ap (λ l. slice_get l (length acts)) (append_assoc acts (a ∷ more) (e ∷ [])) ∙ at_length acts a (more ++ e ∷ [])

module _ (p : Program) (needs : Codes → Needs) (fresh : ℕ) (root s : Start) (taken : List (List TaskResult)) where
  by_now : (t : Standing Own) → Follows p needs fresh root s taken t
      → run_by p needs fresh taken s ≡ resume p (own_rules needs s.nest (from_receipts taken)) t.frames t.state
  by_now t h =
      ap (λ l. run_by p needs fresh l s) (sym (append-nil taken)) ∙ h.follows []
      ∙ ap (λ l. resume p (own_rules needs s.nest (from_receipts l)) t.frames t.state) (append-nil taken)

  -- before a turn that has an action
  pub next_is_done : (f : Frame Own) (fs : List (Frame Own)) (st : State Own) (a : Action) → HasBegun s.nest st
      → HasBegunBelow s.nest st (f ∷ fs)
      → Follows p needs fresh root s taken (record { frames = f ∷ fs; state = st }) → done_in needs s.nest f st ≡ a ∷ []
      → next_action p needs fresh taken (length st.extra.actions) s ≡ Some a
  next_is_done f fs st a fine below h e =
      let to = turn p (own_rules needs s.nest (in_truth p needs fresh)) f fs st in
      let out = run_by p needs fresh taken s in
      let k = turns_follow p needs fresh root s taken f fs st fine below h in
      let g = resume_grows p needs s.nest (from_receipts taken) to.frames to.state in
      let all : out.extra.actions ≡ st.extra.actions ++ a ∷ g.done =
      ap (λ (st : State Own). st.extra.actions) (by_now to k) ∙ g.more
      ∙ ap (λ acts. acts ++ g.done) (turn_does p needs s.nest (in_truth p needs fresh) f fs st ∙ ap (λ acts. st.extra.actions ++ acts) e)
      ∙ append_assoc st.extra.actions (a ∷ []) g.done in
      ap (λ acts. slice_get (if is_waiting out then acts else acts ++ last_action out.path ∷ []) (length st.extra.actions)) all
      ∙ stands (is_waiting out) st.extra.actions a (last_action out.path) g.done

  -- at the end of a finish
  pub next_is_end : (before : State Own) (fs : List (Frame Own)) (st : State Own) → st.extra.waits ≡ false
      → Follows p needs fresh root s taken (record { frames = AtEnd before ∷ fs; state = st })
      → next_action p needs fresh taken (length st.extra.actions) s ≡ Some EndFinish
  next_is_end before fs st w h =
      let out = run_by p needs fresh taken s in
      let k = follower_waits p needs fresh root s taken before fs st w h in
      ap (λ acts. slice_get (if is_waiting out then acts else acts ++ last_action out.path ∷ []) (length st.extra.actions)) k.1
      ∙ stands (is_waiting out) st.extra.actions EndFinish (last_action out.path) []

  -- at its own end
  pub next_is_last : (st : State Own) → st.extra.waits ≡ false → Follows p needs fresh root s taken (record { frames = []; state = st })
      → next_action p needs fresh taken (length st.extra.actions) s ≡ Some (last_action st.path)
  next_is_last st w h =
      ap (λ (out : State Own). slice_get (actions_of out) (length st.extra.actions)) (by_now (record { frames = []; state = st }) h)
      ∙ ap (λ b. slice_get (if b then st.extra.actions else st.extra.actions ++ last_action st.path ∷ []) (length st.extra.actions))
      (and_right (is_stopped st.flow) st.extra.waits w)
      ∙ at_length st.extra.actions (last_action st.path) []

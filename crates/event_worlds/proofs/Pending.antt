-- The children that a task has pending at each open finish are the tasks that it spawned there.
use Rattle.std.proofs.Common.{◌≡◌, ℕ, List, [], ◌∷◌, ◌++◌, refl, sym, ap, ◌∙◌}
use Rattle.std.proofs.lemmas.List.{map-append}
use Rattle.std.specs.Prelude.{map}
use Rattle.types.specs.Code.{Codes, Program}
use Rattle.types.specs.Run.{State, Rules}
use Rattle.effects.specs.Needs.{Needs}
use Rattle.task_run.specs.OwnRun.{Start, Action, Step, Spawn, EnterFinish, EndFinish, EndTask, Own, own_rules}
use Rattle.task_run.specs.Given.{in_truth}
use Rattle.task_run.specs.Frames.{Frame, Standing, done_in, turn}
use Rattle.task_run.specs.Reached.{Reached, root_begins, child_begins, turns, leaves}
use Rattle.task_run.specs.Worth.{Lists, ListsAs, lists, around as lists_around}
use Rattle.task_run.proofs.ListedTurns.{turn_lists}
use Rattle.task_run.proofs.TurnActions.{turn_does}
use Rattle.event_worlds.proofs.Direct.{start_of}

-- the tasks spawned in each open scope, the innermost first, after these before
abbrev pub spawned : List (List Start) → List Action → List (List Start)
spawned css [] = css
spawned css (Step ∷ xs) = spawned css xs
spawned [] (Spawn c ∷ xs) = spawned [] xs
spawned (cs ∷ css) (Spawn c ∷ xs) = spawned ((cs ++ c ∷ []) ∷ css) xs
spawned css (EnterFinish ∷ xs) = spawned ([] ∷ css) xs
spawned [] (EndFinish ∷ xs) = spawned [] xs
spawned (cs ∷ css) (EndFinish ∷ xs) = spawned css xs
spawned css (EndTask ∷ xs) = spawned css xs

pub spawned-append : (css : List (List Start)) (xs ys : List Action) → spawned css (xs ++ ys) ≡ spawned (spawned css xs) ys
spawned-append css [] ys = refl
spawned-append css (Step ∷ xs) ys = spawned-append css xs ys
spawned-append [] (Spawn c ∷ xs) ys = spawned-append [] xs ys
spawned-append (cs ∷ css) (Spawn c ∷ xs) ys = spawned-append ((cs ++ c ∷ []) ∷ css) xs ys
spawned-append css (EnterFinish ∷ xs) ys = spawned-append ([] ∷ css) xs ys
spawned-append [] (EndFinish ∷ xs) ys = spawned-append [] xs ys
spawned-append (cs ∷ css) (EndFinish ∷ xs) ys = spawned-append css xs ys
spawned-append css (EndTask ∷ xs) ys = spawned-append css xs ys

-- what is pending at the finishes around
abbrev pub around : List (Frame Own) → List (List Start)
around fs = map (map start_of) (lists_around fs)

abbrev pub pendings : List (Frame Own) → State Own → List (List Start)
pendings fs st = map start_of st.extra.pending ∷ around fs

-- the starts of the listed children
abbrev starts_of : Lists → List (List Start)
starts_of ls = map start_of ls.inner ∷ map (map start_of) ls.outer

-- a turn changes the lists according to what it spawns
lists_spawned : (xs : List Action) (old new : Lists) → ListsAs xs old new → starts_of new ≡ spawned (starts_of old) xs
lists_spawned [] old new e = ap starts_of e
lists_spawned (Step ∷ []) old new e = ap starts_of e
lists_spawned (Spawn s ∷ []) old new h =
    ap starts_of h.lists
    ∙ ap (λ cs. cs ∷ map (map start_of) old.outer)
    (map-append start_of old.inner (h.child ∷ []) ∙ ap (λ x. map start_of old.inner ++ x ∷ []) h.start)
lists_spawned (EnterFinish ∷ []) old new e = ap starts_of e
lists_spawned xs old new h = absurd h

module _ (p : Program) (needs : Codes → Needs) (fresh : ℕ) where
  abbrev r : ℕ → Rules Own
  r nest = own_rules needs nest (in_truth p needs fresh)

  abbrev of : Standing Own → List (List Start)
  of t = starts_of (lists t)

  -- a turn appends its actions
  pub turn_pending : (nest : ℕ) (f : Frame Own) (fs : List (Frame Own)) (st : State Own)
      → of (turn p (r nest) f fs st) ≡ spawned (pendings (f ∷ fs) st) (done_in needs nest f st)
  turn_pending nest f fs st =
      lists_spawned (done_in needs nest f st) (lists (record { frames = f ∷ fs; state = st })) (lists (turn p (r nest) f fs st))
      (turn_lists p needs (in_truth p needs fresh) nest f fs st)

  -- the pending children are those that were spawned
  pub pending_spawned : (root : Start) {s : Start} {t : Standing Own} → Reached p needs fresh root s t
      → pendings t.frames t.state ≡ spawned ([] ∷ []) t.state.extra.actions
  pending_spawned root root_begins = refl
  pending_spawned root (child_begins r m) = refl
  pending_spawned root (turns {s = s} {f = f} {fs = fs} {st = st} h) =
      turn_pending s.nest f fs st
      ∙ ap (λ css. spawned css (done_in needs s.nest f st)) (pending_spawned root h)
      ∙ sym (spawned-append ([] ∷ []) st.extra.actions (done_in needs s.nest f st))
      ∙ ap (spawned ([] ∷ [])) (sym (turn_does p needs s.nest (in_truth p needs fresh) f fs st))
  pending_spawned root (leaves {before = before} {fs = fs} {st = st} rs h all e) =
      ap (λ css. spawned css (EndFinish ∷ [])) (pending_spawned root h)
      ∙ sym (spawned-append ([] ∷ []) st.extra.actions (EndFinish ∷ []))

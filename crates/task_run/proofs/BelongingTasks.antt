-- For a sound and accepted program: the work of a task belongs to the program, and its places come
-- back to it.
use Rattle.std.proofs.lemmas.Option.{same_Some}
use Rattle.std.proofs.Common.{◌≡◌, ℕ, List, [], ◌∷◌, refl, sym, ap, ◌∙◌}
use Rattle.std.proofs.Math.Bool.{or-false}
use Rattle.std.specs.Prelude.{ℤ, ◌||◌, true, nat_eq}
use Rattle.std.specs.Cmp.Lexicographic.{pointwise}
use Rattle.sections.specs.Covers.{has}
use Rattle.sections.specs.Place.{Place}
use Rattle.types.specs.Code.{Code, Do, If, While, Split, Parts, Begun, Call, Async, Finish, Rescue, Codes, End, Then}
use Rattle.types.specs.Code.{Program}
use Rattle.types.specs.Contents.{FitsArrays}
use Rattle.types.specs.Outcome.{Budget}
use Rattle.effects.specs.Needs.{Needs, Provides}
use Rattle.effects.specs.Rounds.{needs_of}
use Rattle.effects.specs.Sound.{IsSound}
use Rattle.types.specs.Sound.{IsTextOf}
use Rattle.effects.specs.Statements.{HasStatement, Stands, IsPartOf}
use Rattle.effects.proofs.StatementLemmas.{statement_text}
use Rattle.race_checker.specs.Calm.{IsCalm}
use Rattle.race_checker.specs.Clash.{IsAccepted}
use Rattle.race_checker.specs.Scope.{IsScoped}
use Rattle.race_checker.proofs.Calming.{is_calm}
use Rattle.race_checker.proofs.Scoping.{is_scoped}
use Rattle.task_run.specs.OwnRun.{Start, Child, Own}
use Rattle.task_run.specs.Given.{given, in_truth, root_of}
use Rattle.task_run.specs.Frames.{Frame, Rest, Again, Further, AtEnd, OnFault, Back, Standing, IsGivenChild}
use Rattle.task_run.specs.Holds.{MayBegin}
use Rattle.task_run.specs.Lists.{Each}
use Rattle.task_run.specs.Reached.{Reached, root_begins, child_begins, turns, leaves, IsWholeOrEnded, has_ended, ran_whole}
use Rattle.task_run.specs.Results.{TaskResult, returned}
use Rattle.task_run.specs.Runs.{MayStand, IsMadeByTask}
use Rattle.task_run.specs.MayRun.{MayRun}
use Rattle.task_run.specs.RunTurns.{CanTurn, FirstIsOf, KnowsFirst, NextIsOf}
use Rattle.task_run.specs.Standings.{state_of, with_own}
use Rattle.task_run.specs.declared.run.Run.{Run}
use Rattle.task_run.proofs.AcceptedPrograms.{next_has, provides_needs}
use Rattle.task_run.proofs.HoldingTurns.{root_begins as may_root}
use Rattle.task_run.proofs.Lists.{each_both}
use Rattle.task_run.proofs.ReachedTasks.{each_member, goes, has_next}
use Rattle.task_run.proofs.SettledResults.{paths_same}
use Rattle.task_run.proofs.TaskRuns.{lists_given}
use Rattle.task_run.proofs.TurnsBelong.{Belongs, AllBelong, IsOf, turn_kept, handed_kept, begun_kept, ended_places}

-- the async that is first in a block of the program is one of its asyncs
module _ (p : Program) where
  abbrev pub IsAsync : ℕ → Codes → Type 0
  IsAsync l b = HasStatement p l (Async b)

  pub knows_first : (fs : List (Frame Own)) → AllBelong p fs → KnowsFirst IsAsync fs
  knows_first [] k = tt
  knows_first (Rest End ∷ fs) k = tt
  knows_first (Rest (Then l (Async b) rest) ∷ fs) k = k.0 l (Async b) Stands.here
  knows_first (Rest (Then l (Do s) rest) ∷ fs) k = tt
  knows_first (Rest (Then l (If t b c) rest) ∷ fs) k = tt
  knows_first (Rest (Then l (While t b) rest) ∷ fs) k = tt
  knows_first (Rest (Then l (Split s e x y b) rest) ∷ fs) k = tt
  knows_first (Rest (Then l (Parts s e q i b) rest) ∷ fs) k = tt
  knows_first (Rest (Then l (Begun s n j q i b) rest) ∷ fs) k = tt
  knows_first (Rest (Then l (Call f es ss) rest) ∷ fs) k = tt
  knows_first (Rest (Then l (Finish b) rest) ∷ fs) k = tt
  knows_first (Rest (Then l (Rescue b x c) rest) ∷ fs) k = tt
  knows_first (Again l t b ∷ fs) k = tt
  knows_first (Further l s n j q i b ∷ fs) k = tt
  knows_first (AtEnd before ∷ fs) k = tt
  knows_first (OnFault before x c ∷ fs) k = tt
  knows_first (Back env ∷ fs) k = tt

module _ (p : Program) (needs : Codes → Needs) (scoped : IsScoped p) (calm : IsCalm p) (provided : Provides p needs) (fresh : ℕ)
    (root : Start) (named : root.path ≡ []) (may_begin : MayBegin p needs root) (body : IsPartOf p root.body)
    (texts : (l : ℕ) (c : Code) → HasStatement p l c → IsTextOf c) where
  abbrev IsOfStart : Start → Standing Own → Type 0
  IsOfStart s t = IsOf p s.owned t.frames t.state.extra.owned t.state.extra.pending

  pub belongs : {s : Start} {t : Standing Own} → Reached p needs fresh root s t → IsOfStart s t
  belongs root_begins = begun_kept p root.owned root.body body
  belongs (child_begins {s = s} {t = t} {c = c} r m) =
      let of = each_member (Belongs p) c t.state.extra.pending (belongs r).children m in
      begun_kept p c.start.owned c.start.body of.body
  belongs (turns {s = s} {f = f} {fs = fs} {st = st} r) =
      turn_kept p texts needs s.nest (in_truth p needs fresh) s.owned f fs st
      (has_next p needs scoped calm provided fresh root named may_begin s (record { frames = f ∷ fs; state = st }) r) (belongs r)
  belongs (leaves {s = s} {before = before} {fs = fs} {st = st} {x = x} rs r all e) =
      handed_kept p s.owned before x fs st (belongs r)

  -- each path has one start: what the task of a listed path owns at its start is what is listed
  owns_listed : {u : Start} {t : Standing Own} → Reached p needs fresh root u t → (c : Child) → Belongs p c
      → IsGivenChild p needs fresh root c → u.path ≡ c.listed.path → (q : Place) → u.owned q ≡ has c.listed.windows q
  owns_listed {u} r c of is path q =
      let task = (goes p needs scoped calm provided fresh root named may_begin r).task in
      let same : u ≡ c.start = same_Some _ _ (sym task.comes ∙ ap (given p needs fresh root) (path ∙ is.listed) ∙ is.is) in
      ap (λ (v : Start). v.owned q) same ∙ of.places q

  -- so is what its result owns, with what comes back to it
  pub given_back : (r : TaskResult) → IsWholeOrEnded p needs fresh root r → (c : Child)
      → Belongs p c → IsGivenChild p needs fresh root c → pointwise nat_eq r.path c.listed.path ≡ true → (q : Place)
      → (r.owned q || returned r.children q) ≡ has c.listed.windows q
  given_back r (has_ended k) c of is e q =
      let task = (goes p needs scoped calm provided fresh root named may_begin k.ended).task in
      let path : k.start.path ≡ c.listed.path =
      sym task.path ∙ ap (λ (x : TaskResult). x.path) (sym k.is) ∙ paths_same r.path c.listed.path e in
      ap (λ (x : TaskResult). x.owned q || returned x.children q) k.is
      ∙ ended_places p k.start.owned k.state.extra.owned k.state.extra.pending (belongs k.ended) q
      ∙ owns_listed k.ended c of is path q
  given_back r (ran_whole {s = s} starts made) c of is e q =
      let path : s.path ≡ c.listed.path = ap (λ (x : TaskResult). x.path) (sym made) ∙ paths_same r.path c.listed.path e in
      ap (λ (x : TaskResult). x.owned q || returned x.children q) made ∙ or-false (s.owned q) ∙ owns_listed starts c of is path q

  -- each listed task is given its start
  pub children_given : {s : Start} {t : Standing Own} → Reached p needs fresh root s t
      → Each (IsGivenChild p needs fresh root) t.state.extra.pending
  children_given {s} {t} r =
      lists_given p needs fresh root s t.frames t.state (goes p needs scoped calm provided fresh root named may_begin r).task

-- ---- sound and accepted programs
-- what the result of a child's path owns, with what comes back to it, is what is listed for the
-- child
abbrev pub IsGivenBack : Program → List (List ℤ) → Budget → Child → Type 0
IsGivenBack p input b c =
    (r : TaskResult) → IsMadeByTask p input b r → pointwise nat_eq r.path c.listed.path ≡ true → (q : Place)
    → (r.owned q || returned r.children q) ≡ has c.listed.windows q

module _ (p : Program) (sound : IsSound p) (accepted : IsAccepted p) (input : List (List ℤ)) (b : Budget)
    (fits : FitsArrays p.arrays input) where
  begins_root : MayBegin p (needs_of p) (root_of p input b.nest)
  begins_root = may_root p (needs_of p) (is_scoped p sound) (is_calm p sound accepted) (provides_needs p sound) input b.nest fits

  main_part : IsPartOf p p.main.body
  main_part l s h = HasStatement.in_main h

  -- a run of the program has all that its next statement needs, and knows an async that is next
  pub can_turn : (r : Run) → MayRun p input b r → CanTurn (needs_of p) (IsAsync p) r
  can_turn r m = record {
    frames = m.frames;
    own = m.own;
    shows = m.shows;
    next = next_has p sound accepted input b fits m.start (record { frames = m.frames; state = with_own m.own (state_of r.thread) }) m.stands;
    known = knows_first p m.frames
        (belongs p (needs_of p) (is_scoped p sound) (is_calm p sound accepted) (provides_needs p sound) b.steps (root_of p input b.nest)
        refl begins_root main_part (statement_text p sound) m.stands).frames;
  }

  -- its next statement belongs to the program
  first_is_of : (fs : List (Frame Own)) → AllBelong p fs → FirstIsOf p fs
  first_is_of [] k = tt
  first_is_of (Rest End ∷ fs) k = tt
  first_is_of (Rest (Then l c rest) ∷ fs) k = k.0 l c Stands.here
  first_is_of (Again l t b ∷ fs) k = tt
  first_is_of (Further l s n j q i b ∷ fs) k = tt
  first_is_of (AtEnd before ∷ fs) k = tt
  first_is_of (OnFault before x c ∷ fs) k = tt
  first_is_of (Back env ∷ fs) k = tt

  pub next_is_of : (r : Run) → MayRun p input b r → NextIsOf p r
  next_is_of r m = record {
    frames = m.frames;
    own = m.own;
    shows = m.shows;
    next = first_is_of m.frames
        (belongs p (needs_of p) (is_scoped p sound) (is_calm p sound accepted) (provides_needs p sound) b.steps (root_of p input b.nest)
        refl begins_root main_part (statement_text p sound) m.stands).frames;
  }

  pub children_give_back : (s : Start) (t : Standing Own) → MayStand p input b s t → Each (IsGivenBack p input b) t.state.extra.pending
  children_give_back s t stands =
      each_both (Belongs p) (IsGivenChild p (needs_of p) b.steps (root_of p input b.nest)) (IsGivenBack p input b)
      t.state.extra.pending
      (λ c of is r k e q. given_back p (needs_of p) (is_scoped p sound) (is_calm p sound accepted) (provides_needs p sound) b.steps
      (root_of p input b.nest) refl begins_root main_part (statement_text p sound) r k c of is e q)
      (belongs p (needs_of p) (is_scoped p sound) (is_calm p sound accepted) (provides_needs p sound) b.steps
      (root_of p input b.nest) refl begins_root main_part (statement_text p sound) stands).children
      (children_given p (needs_of p) (is_scoped p sound) (is_calm p sound accepted) (provides_needs p sound) b.steps
      (root_of p input b.nest) refl begins_root main_part (statement_text p sound) stands)

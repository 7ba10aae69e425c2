-- In a sound and accepted program each reachable task is its own run, and has all that it touches.
use Rattle.std.proofs.lemmas.Option.{same_Some}
use Rattle.std.proofs.Common.{◌≡◌, ℕ, List, [], ◌∷◌, Some, sym, ap, ◌∙◌, subst}
use Rattle.sections.specs.Member.{Member, first, next}
use Rattle.types.specs.Code.{Code, Do, If, While, Split, Parts, Begun, Call, Async, Finish, Rescue, Codes, End, Then}
use Rattle.types.specs.Code.{Program}
use Rattle.types.specs.Run.{State}
use Rattle.effects.specs.Needs.{Needs, Provides}
use Rattle.race_checker.specs.Scope.{IsScoped}
use Rattle.race_checker.specs.Calm.{IsCalm}
use Rattle.task_run.specs.Results.{TaskResult}
use Rattle.task_run.specs.OwnRun.{Start, Own, result_of}
use Rattle.task_run.specs.Given.{own, given, in_truth, IsOfOwnRun, IsOwn}
use Rattle.task_run.specs.InPlace.{whole, whole_run, IsMade}
use Rattle.task_run.specs.Frames.{Frame, Rest, Again, Further, AtEnd, OnFault, Back, Standing, IsTask, IsGivenChild}
use Rattle.task_run.specs.Holds.{MayBegin, Carries, Holds}
use Rattle.task_run.specs.Reached.{Reached, root_begins, child_begins, turns, leaves, begun, IsResult, HasNeedsOf, HasNext}
use Rattle.task_run.specs.Reached.{IsWholeOrEnded, has_ended, ran_whole}
use Rattle.task_run.specs.Lists.{Each}
use Rattle.task_run.specs.Settling.{IsParted}
use Rattle.task_run.proofs.SettledResults.{own_made}
use Rattle.task_run.proofs.TaskRuns.{begins_task, turns_task, lists_given, leaves_task, ends_task, of_own_run}
use Rattle.task_run.proofs.HoldingTurns.{turn_holds, handed_holds, first_has, again_has, async_has, begin_holds}

pub each_member : {A : Type 0} (P : A → Type 0) (x : A) (xs : List A) → Each P xs → Member x xs → P x
each_member P x (y ∷ xs) all first = all.0
each_member P x (y ∷ xs) all (next m) = each_member P x xs all.1 m
each_member P x [] all m = elim m [ ]

module _ (p : Program) (needs : Codes → Needs) (scoped : IsScoped p) (calm : IsCalm p) (provided : Provides p needs) (fresh : ℕ) where
  module _ (root : Start) (named : root.path ≡ []) (may_begin : MayBegin p needs root) where
    -- it is its own run, and has all that it touches
    pub record Goes (s : Start) (t : Standing Own) : Type 0 where
      pub task : IsTask p needs fresh root s t
      pub holds : Holds p needs t

    root_given : given p needs fresh root root.path ≡ Some root
    root_given = ap (given p needs fresh root) named

    pub goes : {s : Start} {t : Standing Own} → Reached p needs fresh root s t → Goes s t
    goes root_begins =
        record {
          task = begins_task p needs fresh root root root_given;
          holds =
              begin_holds p needs scoped calm provided fresh root may_begin;
        }
    goes (child_begins {s = s} {t = t} {c = c} r m) =
        let k = goes r in
        let is = each_member (IsGivenChild p needs fresh root) c t.state.extra.pending
        (lists_given p needs fresh root s t.frames t.state k.task) m in
        let begins = each_member (Carries p needs) c t.state.extra.pending k.holds.carried m in
        record {
          task = begins_task p needs fresh root c.start is.is;
          holds =
              begin_holds p needs scoped calm provided fresh c.start begins.begins;
        }
    goes (turns {s = s} {f = f} {fs = fs} {st = st} r) =
        let k = goes r in
        record {
          task = turns_task p needs fresh root s f fs st k.task;
          holds = turn_holds p needs scoped calm provided s.nest (in_truth p needs fresh) f fs st k.holds;
        }
    goes (leaves {s = s} {before = before} {fs = fs} {st = st} {x = x} rs r all e) =
        let k = goes r in
        record {
          task = leaves_task p needs fresh root s rs all before fs st k.task x e;
          holds = handed_holds p needs scoped calm provided fresh root s rs all before fs st k.task k.holds x e;
        }

    needs_of_next : (s : Start) (c : Code) (l : ℕ) (rest : Codes) (fs : List (Frame Own)) (st : State Own)
        → Holds p needs (record { frames = Rest (Then l c rest) ∷ fs; state = st }) → HasNeedsOf needs st c
    needs_of_next s (Do c) l rest fs st h = tt
    needs_of_next s (If t b c) l rest fs st h = tt
    needs_of_next s (While t b) l rest fs st h = tt
    needs_of_next s (Split z e x y b) l rest fs st h = tt
    needs_of_next s (Parts z e q i b) l rest fs st h = tt
    needs_of_next s (Begun z n k q i b) l rest fs st h = tt
    needs_of_next s (Call f es ss) l rest fs st h = tt
    needs_of_next s (Async b) l rest fs st h = async_has p needs scoped calm provided s.nest (in_truth p needs fresh) l b rest fs st h
    needs_of_next s (Finish b) l rest fs st h = tt
    needs_of_next s (Rescue b x c) l rest fs st h = tt

    next_has : (s : Start) (fs : List (Frame Own)) (st : State Own) → Holds p needs (record { frames = fs; state = st })
        → HasNext needs st fs
    next_has s [] st h = tt
    next_has s (Rest End ∷ fs) st h = tt
    next_has s (Rest (Then l c rest) ∷ fs) st h =
        (first_has p needs scoped calm provided s.nest (in_truth p needs fresh) l c rest fs st h, needs_of_next s c l rest fs st h)
    next_has s (Again l t b ∷ fs) st h = again_has p needs scoped calm provided s.nest (in_truth p needs fresh) l t b fs st h
    next_has s (Further l z n k q i b ∷ fs) st h = tt
    next_has s (AtEnd before ∷ fs) st h = tt
    next_has s (OnFault before x c ∷ fs) st h = tt
    next_has s (Back env ∷ fs) st h = tt

    pub has_next : (s : Start) (t : Standing Own) → Reached p needs fresh root s t → HasNext needs t.state t.frames
    has_next s t r = next_has s t.frames t.state (goes r).holds

    pub is_parted : (s : Start) (t : Standing Own) → Reached p needs fresh root s t → IsParted (result_of t.state)
    is_parted s t r = (goes r).holds.parted

    pub ends_of_own_run : (r : TaskResult) → IsResult p needs fresh root r → IsOfOwnRun p needs fresh root r
    ends_of_own_run r k =
        subst (IsOfOwnRun p needs fresh root) (sym k.is) (of_own_run p needs fresh root k.start k.state (goes k.ended).task)

    pub ends_own : (r : TaskResult) → IsResult p needs fresh root r → IsOwn p needs fresh root r
    ends_own r k = subst (IsOwn p needs fresh root) (sym k.is) (ends_task p needs fresh root k.start k.state (goes k.ended).task)

    -- a task that can start has all that its body touches
    pub may_start : (s : Start) → Reached p needs fresh root s (begun fresh s) → MayBegin p needs s
    may_start s r = let k = (goes r).holds in record { stack = k.stack; text = k.texts.0 }

    pub results_made : (r : TaskResult) → IsWholeOrEnded p needs fresh root r → IsMade p needs fresh root r
    results_made r (has_ended k) = own_made p needs fresh root r (ends_own r k)
    results_made r (ran_whole {s = s} starts is) = λ t e.
        let given_s : given p needs fresh root r.path ≡ Some s =
        ap (λ (x : TaskResult). given p needs fresh root x.path) is ∙ (goes starts).task.comes in
        whole_run (is ∙ ap (whole p needs fresh) (same_Some _ _ (sym given_s ∙ e)))

    -- at its end the root has what its own run has
    pub root_ends : (st : State Own) → Reached p needs fresh root root (record { frames = []; state = st })
        → result_of st ≡ result_of (own p needs fresh root)
    root_ends st r =
        let task = (goes r).task in
        ends_task p needs fresh root root st task root (ap (given p needs fresh root) task.path ∙ root_given)

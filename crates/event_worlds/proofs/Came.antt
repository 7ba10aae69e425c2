-- The results that scopes keep are those of tasks that have ended.
use Rattle.std.proofs.Common.{◌≡◌, ℕ, ◌+◌, ◌≤◌, List, [], ◌∷◌, ◌++◌, Option, Some, None, refl, sym, ap, ◌∙◌, subst, inl}
use Rattle.std.proofs.Common.{inr}
use Rattle.std.proofs.lemmas.List.{append-nil}
use Rattle.std.proofs.lemmas.Option.{none-some, same_Some}
use Rattle.std.specs.Prelude.{ℤ, true, false, ◌⊎◌, if◌then◌else◌}
use Rattle.types.specs.Code.{Codes, Program}
use Rattle.types.specs.Contents.{FitsArrays}
use Rattle.types.specs.Outcome.{Budget}
use Rattle.types.specs.Run.{State}
use Rattle.effects.specs.Needs.{Needs, Provides}
use Rattle.effects.specs.Rounds.{needs_of}
use Rattle.effects.specs.Sound.{IsSound as IsSoundProgram}
use Rattle.race_checker.specs.Scope.{IsScoped}
use Rattle.race_checker.specs.Calm.{IsCalm}
use Rattle.race_checker.specs.Clash.{IsAccepted}
use Rattle.race_checker.proofs.Scoping.{is_scoped}
use Rattle.race_checker.proofs.Calming.{is_calm}
use Rattle.task_run.specs.Frames.{Follows}
use Rattle.task_run.specs.Given.{root_of}
use Rattle.task_run.specs.Holds.{MayBegin}
use Rattle.task_run.specs.Lists.{Each}
use Rattle.task_run.specs.OwnRun.{Start, Own, Action, result_of, run_by}
use Rattle.task_run.specs.Reached.{IsResult}
use Rattle.task_run.specs.Results.{TaskResult, and_then}
use Rattle.task_run.specs.Runs.{IsTaskResult}
use Rattle.task_run.proofs.AcceptedPrograms.{provides_needs}
use Rattle.task_run.proofs.HoldingTurns.{root_begins}
use Rattle.task_run.proofs.Lists.{each_last, each_append}
use Rattle.task_run.proofs.SettledResults.{gives}
use Rattle.event_worlds.specs.World.{ScopeId, Live, Scope, World, root_scope, same_scope, scope, put_scope}
use Rattle.event_worlds.specs.Events.{Event, Take, Steal, Steps, Replenish, Spawns, Opens, Parks, Ends, Pass, Resume}
use Rattle.event_worlds.specs.Events.{issue, give_back, new_scope, next, first_world, after}
use Rattle.event_worlds.specs.Replay.{does, hands_on}
use Rattle.event_worlds.specs.Worlds.{LeadsTo}
use Rattle.event_worlds.proofs.Lookups.{by_test}
use Rattle.event_worlds.proofs.Changes.{IsOpen, IsEnd, Becomes, becomes}
use Rattle.event_worlds.proofs.Events.{rebooked}
use Rattle.event_worlds.proofs.OwnTasks.{nexts, hands}
use Rattle.event_worlds.proofs.Outcomes.{IsSound, first_sound, list_sound, replays_are_worlds}
use Rattle.event_worlds.proofs.NeverStuck.{Goes, first_goes, list_goes}
use Rattle.event_worlds.proofs.Parting.{AllPlaced, awake_stands}
use Rattle.event_worlds.proofs.Standing.{poise, closed}

-- a task at its end hands on what it has made
pub ends_with : (p : Program) (needs : Codes → Needs) (fresh : ℕ) (root s : Start) (receipts : List (List TaskResult)) (st : State Own)
    → Follows p needs fresh root s receipts (record { frames = []; state = st })
    → result_of (run_by p needs fresh receipts s) ≡ result_of st
ends_with p needs fresh root s receipts st f =
    ap (λ l. result_of (run_by p needs fresh l s)) (sym (append-nil receipts)) ∙ ap result_of (f.follows [])

module _ (p : Program) (needs : Codes → Needs) (scoped : IsScoped p) (calm : IsCalm p) (provided : Provides p needs) (fresh w0 : ℕ)
    (least : 1 ≤ w0) (root : Start) (nameless : root.path ≡ []) (may_begin : MayBegin p needs root) where
  abbrev Came : List Scope → Type 0
  Came ss = (id : ScopeId) (s : Scope) → scope id ss ≡ Some s → Each (IsResult p needs fresh root) s.results

  came_put : (x : ScopeId) (book to : Scope) (ss : List Scope) → scope x ss ≡ Some book → to.id ≡ x → Came ss
      → Each (IsResult p needs fresh root) to.results → Came (put_scope to ss)
  came_put x book to ss e f h k id s g = by_place (rebooked x book to ss id s e f g)
    where
      by_place : ((x ≡ id) × (to ≡ s)) ⊎ ((same_scope x id ≡ false) × (scope id ss ≡ Some s)) → Each (IsResult p needs fresh root) s.results
      by_place (inl (i, j)) = subst (λ (r : Scope). Each (IsResult p needs fresh root) r.results) j k
      by_place (inr (i, j)) = h id s j

  module _ (a b : World) (placed : AllPlaced p needs scoped calm provided fresh w0 root nameless may_begin a.live) (h : Came a.scopes) where
    ended_came : (path : List ℕ)
        → IsEnd (λ t. nexts p needs fresh w0 root nameless t) (λ t. hands p needs fresh w0 root nameless t) path a b → Came b.scopes
    ended_came path c =
        subst (λ (w : World). Came w.scopes) c.now
        (came_put c.at.inner.scope c.of.book (give_back c.at.inner.weight (hands p needs fresh w0 root nameless c.at.was ∷ []) c.of.book)
        a.scopes c.of.found c.of.id h
        (each_last (IsResult p needs fresh root) c.of.book.results (hands p needs fresh w0 root nameless c.at.was)
        (h c.at.inner.scope c.of.book c.of.found) came))
      where
        came : IsResult p needs fresh root (hands p needs fresh w0 root nameless c.at.was)
        came =
            let t = c.at.was in
            let s = awake_stands p needs scoped calm provided fresh w0 root nameless may_begin t c.at.awake (placed path t c.at.found) in
            let k = closed p needs scoped calm provided fresh root nameless may_begin t.start t.receipts t.done
            (poise p needs scoped calm provided fresh root nameless may_begin t.start t.receipts t.done s.0 s.1) c.next in
            record {
              start = t.start;
              state = k.0;
              ended = k.1.reached;
              is = ends_with p needs fresh root t.start t.receipts k.0 k.1.follows;
            }

    opened_came : (does_next : Live → Option Action) (path : List ℕ) → IsOpen does_next w0 path a b → Came b.scopes
    opened_came does_next path c = subst (λ (w : World). Came w.scopes) c.now new
      where
        new : Came (new_scope (record { owner = c.was.path; number = c.was.opened + 1 }) w0 ∷ a.scopes)
        new id s f =
            by_test (λ x. (if x then Some (new_scope (record { owner = c.was.path; number = c.was.opened + 1 }) w0) else scope id a.scopes) ≡ Some s
            → Each (IsResult p needs fresh root) s.results)
            (same_scope (record { owner = c.was.path; number = c.was.opened + 1 }) id)
            (λ g f. subst (λ (r : Scope). Each (IsResult p needs fresh root) r.results) (same_Some _ _ f) tt)
            (λ g f. h id s f) f

    event_came : (e : Event) → Becomes (λ t. nexts p needs fresh w0 root nameless t) (λ t. hands p needs fresh w0 root nameless t) w0 e a b
        → Came b.scopes
    event_came (Take w q) c = subst (λ (x : World). Came x.scopes) c.now h
    event_came (Steal w f q) c = subst (λ (x : World). Came x.scopes) c.now h
    event_came (Steps q) c = subst (λ (x : World). Came x.scopes) c.now h
    event_came (Replenish q) c =
        subst (λ (x : World). Came x.scopes) c.now
        (came_put c.at.inner.scope c.of.book (issue w0 c.of.book) a.scopes c.of.found c.of.id h (h c.at.inner.scope c.of.book c.of.found))
    event_came (Spawns q) c = subst (λ (x : World). Came x.scopes) c.now h
    event_came (Opens q) c = opened_came _ q c
    event_came (Parks q) c =
        subst (λ (x : World). Came x.scopes) c.now
        (came_put c.at.inner.scope c.of.book (give_back c.at.inner.weight [] c.of.book) a.scopes c.of.found c.of.id h
        (each_append (IsResult p needs fresh root) c.of.book.results [] (h c.at.inner.scope c.of.book c.of.found) tt))
    event_came (Ends q) c = ended_came q c
    event_came (Pass id) c =
        subst (λ (x : World). Came x.scopes) c.now
        (came_put id c.book (record c.book { passed = true }) a.scopes c.found c.same h (h id c.book c.found))
    event_came (Resume w q z) c = subst (λ (x : World). Came x.scopes) c.now h

  list_came : (before es : List Event) (a b : World) → IsSound p needs fresh w0 least root nameless before a
      → Goes p needs scoped calm provided fresh w0 least root nameless may_begin a → Came a.scopes
      → after w0 (does p needs fresh w0) (hands_on p needs fresh w0) es a ≡ Some b → Came b.scopes
  list_came before [] a b h k r e = subst (λ (w : World). Came w.scopes) (same_Some _ _ e) r
  list_came before (x ∷ es) a b h k r e =
      let g = gives (next w0 (does p needs fresh w0) (hands_on p needs fresh w0) x a) _ b e in
      let c = becomes w0 (does p needs fresh w0) (hands_on p needs fresh w0) x a g.one g.first in
      let only = ap (λ o. and_then o (λ w. Some w)) g.first in
      let s = list_sound p needs fresh w0 least root nameless before (x ∷ []) a g.one h only in
      let goes = list_goes p needs scoped calm provided fresh w0 least root nameless may_begin before (x ∷ []) a g.one h k only in
      list_came (before ++ x ∷ []) es g.one b s goes (event_came a g.one k.placed r x c) g.next

  first_came : Came (first_world w0 root).scopes
  first_came id s f =
      by_test (λ x. (if x then Some (new_scope root_scope w0) else None) ≡ Some s → Each (IsResult p needs fresh root) s.results)
      (same_scope root_scope id)
      (λ g f. subst (λ (r : Scope). Each (IsResult p needs fresh root) r.results) (same_Some _ _ f) tt)
      (λ g f. absurd (none-some _ f)) f

pub results_came : (p : Program) → IsSoundProgram p → IsAccepted p → (w0 : ℕ) → 1 ≤ w0 → (input : List (List ℤ)) (b : Budget)
    → FitsArrays p.arrays input → (es : List Event) (w : World) → LeadsTo p w0 input b es w
    → (id : ScopeId) (s : Scope) → scope id w.scopes ≡ Some s → Each (IsTaskResult p input b) s.results
results_came p sound accepted w0 least input b fits es w leads =
    let may = root_begins p (needs_of p) (is_scoped p sound) (is_calm p sound accepted) (provides_needs p sound) input b.nest fits in
    list_came p (needs_of p) (is_scoped p sound) (is_calm p sound accepted) (provides_needs p sound) b.steps w0 least
    (root_of p input b.nest) refl may [] es (first_world w0 (root_of p input b.nest)) w
    (first_sound p (needs_of p) b.steps w0 least (root_of p input b.nest) refl)
    (first_goes p (needs_of p) (is_scoped p sound) (is_calm p sound accepted) (provides_needs p sound) b.steps w0 least
    (root_of p input b.nest) refl may)
    (first_came p (needs_of p) (is_scoped p sound) (is_calm p sound accepted) (provides_needs p sound) b.steps w0 least
    (root_of p input b.nest) refl may)
    (replays_are_worlds p (needs_of p) w0 input b es w leads)

-- No world of a sound and accepted program is stuck, and at the end it has an outcome.
use Rattle.std.proofs.Common.{◌≡◌, ℕ, ◌≤◌, List, [], ◌∷◌, ◌++◌, Option, Some, None, refl, sym, ap, ◌∙◌, subst, inl}
use Rattle.std.proofs.Common.{inr, arith}
use Rattle.std.proofs.lemmas.Option.{none-some, same_Some}
use Rattle.std.specs.Prelude.{Bool, Contains, ℤ, map, true, false, ◌⊎◌}
use Rattle.types.specs.Code.{Codes, Program}
use Rattle.types.specs.Contents.{FitsArrays}
use Rattle.types.specs.Outcome.{Budget, outcome}
use Rattle.effects.specs.Needs.{Needs, Provides}
use Rattle.effects.specs.Rounds.{needs_of}
use Rattle.effects.specs.Sound.{IsSound as IsSoundProgram}
use Rattle.race_checker.specs.Scope.{IsScoped}
use Rattle.race_checker.specs.Calm.{IsCalm}
use Rattle.race_checker.specs.Clash.{IsAccepted}
use Rattle.race_checker.proofs.Scoping.{is_scoped}
use Rattle.race_checker.proofs.Calming.{is_calm}
use Rattle.task_run.specs.Results.{and_then}
use Rattle.task_run.specs.OwnRun.{Start, Action}
use Rattle.task_run.specs.Given.{root_of}
use Rattle.task_run.specs.Lists.{Each}
use Rattle.task_run.specs.Holds.{MayBegin}
use Rattle.task_run.specs.Reached.{root_begins as root_stands, begun}
use Rattle.task_run.proofs.AcceptedPrograms.{provides_needs, complete, root_told}
use Rattle.task_run.proofs.HoldingTurns.{root_begins}
use Rattle.task_run.proofs.SettledResults.{gives}
use Rattle.task_run.proofs.TaskRuns.{begins_follow}
use Rattle.event_worlds.specs.Candidates.{candidates}
use Rattle.event_worlds.specs.World.{ScopeId, Stake, Live, Scope, World, Hand, root_scope, task, put_task, scope, is_parked, is_passed, has_passed}
use Rattle.event_worlds.specs.Events.{Event, next_action, next, first_world, after}
use Rattle.event_worlds.specs.Replay.{does, hands_on}
use Rattle.event_worlds.specs.Worlds.{IsFree, IsSpent, LeadsTo, Settles, event_of, next_of, outcome_of}
use Rattle.event_worlds.proofs.ReplayLaws.{IsFree as IsFreeBy, IsUnsettled}
use Rattle.event_worlds.proofs.Changes.{IsResume, becomes, is_live}
use Rattle.event_worlds.proofs.Lookups.{scope_id}
use Rattle.event_worlds.proofs.Outcomes.{IsSound, first_sound, list_sound, replays_are_worlds, sound as is_sound}
use Rattle.event_worlds.proofs.Rooted.{root_last, its_stakes}
use Rattle.event_worlds.proofs.Stakes.{scope_of, own as own_scope}
use Rattle.event_worlds.proofs.Present.{IsThere}
use Rattle.event_worlds.proofs.Histories.{contains_nil, contains_cons}
use Rattle.event_worlds.proofs.GoingOn.{goes_on}
use Rattle.event_worlds.proofs.Measured.{worth, worth_lists}
use Rattle.event_worlds.proofs.There.{root_has_all, told_once_settled}
use Rattle.event_worlds.proofs.Standing.{poise, has_next_action}
use Rattle.event_worlds.proofs.Owed.{first_even}
use Rattle.event_worlds.proofs.Parting.{AllPlaced, AllEvenBy, awake_stands, event_placed, event_even, HasPlace, comes, waited}

module _ (p : Program) (needs : Codes → Needs) (scoped : IsScoped p) (calm : IsCalm p) (provided : Provides p needs) (fresh w0 : ℕ)
    (least : 1 ≤ w0) (root : Start) (nameless : root.path ≡ []) (may_begin : MayBegin p needs root) where
  abbrev go : List Event → World → Option World
  go = after w0 (does p needs fresh w0) (hands_on p needs fresh w0)

  -- each task is at a point of its own run, and each scope holds what it should
  pub record Goes (w : World) : Type 0 where
    pub placed : AllPlaced p needs scoped calm provided fresh w0 root nameless may_begin w.live
    pub even : AllEvenBy p needs scoped calm provided fresh w0 root nameless may_begin w.live w.scopes

  pub first_goes : Goes (first_world w0 root)
  first_goes = record {
    placed = placed;
    even = λ f. first_even p needs fresh w0 root nameless (worth p needs fresh f) f (worth_lists p needs fresh f);
  }
    where
      placed : AllPlaced p needs scoped calm provided fresh w0 root nameless may_begin (first_world w0 root).live
      placed [] t e =
          subst (λ (t : Live). HasPlace p needs scoped calm provided fresh w0 root nameless may_begin t.place t.stakes t)
          (same_Some _ _ e)
          (begun fresh root, record { reached = root_stands; follows = begins_follow p needs fresh root root; after = refl })
      placed (j ∷ q) t e = absurd (none-some _ e)

  pub list_goes : (before es : List Event) (a b : World) → IsSound p needs fresh w0 least root nameless before a → Goes a → go es a ≡ Some b → Goes b
  list_goes before [] a b h k e = subst Goes (same_Some _ _ e) k
  list_goes before (x ∷ es) a b h k e =
      let g = gives (next w0 (does p needs fresh w0) (hands_on p needs fresh w0) x a) _ b e in
      let c = becomes w0 (does p needs fresh w0) (hands_on p needs fresh w0) x a g.one g.first in
      let s = list_sound p needs fresh w0 least root nameless before (x ∷ []) a g.one h (ap (λ o. and_then o (λ w. Some w)) g.first) in
      list_goes (before ++ x ∷ []) es g.one b s
      (record {
        placed = event_placed p needs scoped calm provided fresh w0 root nameless may_begin before a h.kept h.own k.placed k.even x g.one c;
        even = event_even p needs scoped calm provided fresh w0 root nameless may_begin before a h.kept h.own k.placed k.even x g.one c;
      }) g.next

  -- each live task that isn't parked has a next action
  has_next : (es : List Event) (w : World) → go es (first_world w0 root) ≡ Some w → (path : List ℕ) (t : Live) → task path w.live ≡ Some t
      → is_parked t.place ≡ false → (a : Action) × (next_action w0 (does p needs fresh w0) (hands_on p needs fresh w0) t ≡ Some a)
  has_next es w e path t lives awake =
      let g = list_goes [] es (first_world w0 root) w (first_sound p needs fresh w0 least root nameless) first_goes e in
      let s = awake_stands p needs scoped calm provided fresh w0 root nameless may_begin t awake (g.placed path t lives) in
      has_next_action p needs scoped calm provided fresh root nameless may_begin t.start t.receipts t.done
      (poise p needs scoped calm provided fresh root nameless may_begin t.start t.receipts t.done s.0 s.1)

-- a property of each element is true of the elements of a sublist
pub each_has : {A : Type 0} (P : A → Type 0) (xs : List A) (x : A) → Each P xs → Contains xs x → P x
each_has P [] x h c = absurd (contains_nil x c)
each_has P (y ∷ xs) x h c = by_place (contains_cons y xs x c) (each_has P xs x h.1)
  where
    by_place : (y ≡ x) ⊎ Contains xs x → (Contains xs x → P x) → P x
    by_place (inl e) rest = subst P e h.0
    by_place (inr d) rest = rest d

scope_there : (ss : List Stake) (scopes : List Scope) (id : ScopeId) → Each (IsThere scopes) ss → Contains (map scope_of ss) id
    → (s : Scope) × (scope id scopes ≡ Some s)
scope_there [] scopes id h c = absurd (contains_nil id c)
scope_there (k ∷ ss) scopes id h c = by_place (contains_cons (scope_of k) (map scope_of ss) id c) (scope_there ss scopes id h.1)
  where
    by_place : (scope_of k ≡ id) ⊎ Contains (map scope_of ss) id → (Contains (map scope_of ss) id → (s : Scope) × (scope id scopes ≡ Some s))
        → (s : Scope) × (scope id scopes ≡ Some s)
    by_place (inl e) rest = subst (λ i. (s : Scope) × (scope i scopes ≡ Some s)) e h.0
    by_place (inr d) rest = rest d

module _ (p : Program) (sound : IsSoundProgram p) (accepted : IsAccepted p) (w0 : ℕ) (least : 1 ≤ w0) (input : List (List ℤ)) (b : Budget)
    (fits : FitsArrays p.arrays input) (es : List Event) (w : World) (leads : LeadsTo p w0 input b es w) where
  pub next_there : (path : List ℕ) (t : Live) → task path w.live ≡ Some t → is_parked t.place ≡ false
      → (a : Action) × (next_of p w0 b t ≡ Some a)
  next_there =
      has_next p (needs_of p) (is_scoped p sound) (is_calm p sound accepted) (provides_needs p sound) b.steps w0 least (root_of p input b.nest) refl
      (root_begins p (needs_of p) (is_scoped p sound) (is_calm p sound accepted) (provides_needs p sound) input b.nest fits) es w
      (replays_are_worlds p (needs_of p) w0 input b es w leads)

  -- what a passed scope holds settles what its owner has made in it
  pub settles_there : (path : List ℕ) (t : Live) → task path w.live ≡ Some t → is_parked t.place ≡ true
      → (inner around : Stake) (outer : List Stake) → t.stakes ≡ inner ∷ around ∷ outer
      → (s : Scope) → scope inner.scope w.scopes ≡ Some s → s.passed ≡ true → Settles p input b t s.results
  settles_there path t lives parked inner around outer stakes s there passed =
      let scoped = is_scoped p sound in
      let calm = is_calm p sound accepted in
      let provided = provides_needs p sound in
      let first = root_of p input b.nest in
      let may = root_begins p (needs_of p) scoped calm provided input b.nest fits in
      let h = is_sound p (needs_of p) w0 least input b es w leads in
      let g = list_goes p (needs_of p) scoped calm provided b.steps w0 least first refl may [] es (first_world w0 first) w
      (first_sound p (needs_of p) b.steps w0 least first refl) (first_goes p (needs_of p) scoped calm provided b.steps w0 least first refl may)
      (replays_are_worlds p (needs_of p) w0 input b es w leads) in
      let to : World = record w {
        live = put_task (record t { receipts = t.receipts ++ s.results ∷ []; stakes = around ∷ outer; place = Hand 0 }) w.live;
      } in
      let c : IsResume path w to = record {
        its = is_live path w t lives;
        parked = parked;
        worker = 0;
        inner = inner;
        next = around;
        outer = outer;
        stakes = stakes;
        of = record { book = s; found = there; id = scope_id inner.scope w.scopes s there };
        passed = passed;
        now = refl;
      } in
      let at = waited p (needs_of p) scoped calm provided b.steps w0 first refl may es w h.kept h.own g.placed g.even path to c in
      let x = comes p (needs_of p) scoped calm provided b.steps w0 first refl may es w h.kept h.own g.placed g.even path to c in
      let after = at.stands.after in
      let count = at.count in
      record {
        before = at.before;
        frames = at.frames;
        state = at.state;
        stands = at.stands.reached;
        follows = at.stands.follows;
        done = omega (arith, after, count);
        settled = x.0;
        settles = x.1;
      }

  never : IsUnsettled p (needs_of p) b.steps w0 w → ⊥
  never u = let a = next_there u.path u.its u.lives u.awake in none-some _ (sym u.nothing ∙ a.1)

  pub goes : (s : Scope) → scope root_scope w.scopes ≡ Some s → s.passed ≡ false → IsFree p w0 b w ⊎ IsSpent p w0 b w
  goes s there open_yet = by_case (goes_on p (needs_of p) w0 least input b es w leads s there open_yet)
    where
      by_case : IsFreeBy p (needs_of p) b.steps w0 w ⊎ IsSpent p w0 b w
          ⊎ IsUnsettled p (needs_of p) b.steps w0 w → IsFree p w0 b w ⊎ IsSpent p w0 b w
      by_case (inl x) = inl (record { first = x.first; to = x.to; legal = x.legal })
      by_case (inr (inl x)) = inr x
      by_case (inr (inr x)) = absurd (never x)

  -- the root's scope exists, because the root is in it
  root_there : (s : Scope) × (scope root_scope w.scopes ≡ Some s)
  root_there =
      let h = is_sound p (needs_of p) w0 least input b es w leads in
      scope_there h.rooted.its.stakes w.scopes root_scope (h.there [] h.rooted.its h.rooted.lives)
      (subst (λ l. Contains l root_scope) (sym (its_stakes es w h.kept h.rooted ∙ ap (map (own_scope [])) h.rooted.inside))
      (root_last h.rooted.above))

  -- if no candidate of a live task is legal
  pub stuck : ((q : List ℕ) (t : Live) → task q w.live ≡ Some t
      → Each (λ e. event_of p w0 b e w ≡ None) (candidates 0 q t.place t.stakes))
      → (has_passed root_scope w ≡ true) ⊎ IsSpent p w0 b w
  stuck none = by_passed root_there.0.passed refl
    where
      by_case : IsFreeBy p (needs_of p) b.steps w0 w ⊎ IsSpent p w0 b w
          ⊎ IsUnsettled p (needs_of p) b.steps w0 w → (has_passed root_scope w ≡ true) ⊎ IsSpent p w0 b w
      by_case (inl x) =
          absurd (none-some _ (sym (each_has (λ e. event_of p w0 b e w ≡ None) (candidates 0 x.path x.its.place x.its.stakes)
          x.first (none x.path x.its x.lives) x.among) ∙ x.legal))
      by_case (inr (inl x)) = inr x
      by_case (inr (inr x)) = absurd (never x)

      by_passed : (passed : Bool) → root_there.0.passed ≡ passed → (has_passed root_scope w ≡ true) ⊎ IsSpent p w0 b w
      by_passed true e = inl (ap is_passed root_there.1 ∙ e)
      by_passed false e = by_case (goes_on p (needs_of p) w0 least input b es w leads root_there.0 root_there.1 e)

  pub outcome_told : (s : Scope) → scope root_scope w.scopes ≡ Some s → s.passed ≡ true → outcome_of p w0 b w ≡ Some (outcome p input b)
  outcome_told s there passed =
      told_once_settled p (needs_of p) w0 least input b es w leads s there passed
      (complete p sound accepted input b fits s.results (root_has_all p (needs_of p) w0 least input b es w leads s there passed))
      ∙ ap Some (root_told p sound accepted input b)

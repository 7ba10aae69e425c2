-- Facts that every replay keeps, and the outcome of a replay.
use Rattle.std.proofs.Common.{inl, ◌≡◌, ℕ, suc, ◌+◌, ◌≤◌, List, [], ◌∷◌, ◌++◌, length, Option, Some, None, refl, sym}
use Rattle.std.proofs.Common.{ap, ◌∙◌, subst, arith, append_assoc}
use Rattle.std.proofs.lemmas.List.{append-nil}
use Rattle.std.specs.Prelude.{take, ◌⊎◌, ℤ, Bool, true, false, map, Contains, if◌then◌else◌}
use Rattle.std.proofs.lemmas.Option.{none-some, same_Some}
use Rattle.types.specs.Code.{Codes, Program}
use Rattle.types.specs.Outcome.{Budget}
use Rattle.effects.specs.Needs.{Needs}
use Rattle.task_run.specs.Results.{TaskResult, and_then}
use Rattle.task_run.specs.Settling.{NoTwice}
use Rattle.task_run.specs.Lists.{Each}
use Rattle.task_run.specs.OwnRun.{Start, result_of, run_by}
use Rattle.task_run.specs.Given.{own, given, IsOfOwnRun, root_of}
use Rattle.task_run.proofs.Lists.{each_more}
use Rattle.task_run.proofs.SettledResults.{gives}
use Rattle.event_worlds.specs.World.{ScopeId, Stake, Live, Scope, World, Whereabouts, Queue, Hand, Parked, same_scope}
use Rattle.event_worlds.specs.World.{root_scope, task, scope, weight_in, held}
use Rattle.event_worlds.specs.Events.{Event, new_task, new_scope, next, first_world, after, only_if, Ends}
use Rattle.event_worlds.specs.Replay.{does, hands_on, event, tells, Replayed, Legal, IllegalAt, go_or, replay_from, start_of}
use Rattle.event_worlds.specs.Replay.{replay}
use Rattle.event_worlds.specs.History.{BegunIn}
use Rattle.event_worlds.specs.Worlds.{IsFirstRefused}
use Rattle.event_worlds.proofs.ReplayLaws.{ReplaysAreWorlds, PassedHasEnded, StartsAreGiven, ResultsAreOwn}
use Rattle.event_worlds.proofs.ReplayLaws.{ResultsComeOnce, ResultsAreHanded, RefusesTheFirst}
use Rattle.event_worlds.proofs.Lookups.{by_test, held_least, task_path}
use Rattle.event_worlds.proofs.Handed.{Last, Handed, event_handed, begun_in_one}
use Rattle.event_worlds.proofs.Histories.{contains_nil, contains_here}
use Rattle.event_worlds.proofs.Stakes.{scope_of, own as own_scope, Weighty, weighs_below, positive_in}
use Rattle.event_worlds.proofs.Changes.{becomes}
use Rattle.event_worlds.proofs.Kept.{Kept}
use Rattle.event_worlds.proofs.Reached.{first_kept, event_kept, passed_is_ended}
use Rattle.event_worlds.proofs.OwnTasks.{IsOwnTask, AllOwn, IsAtLevel, truly, hands_path, event_own}
use Rattle.event_worlds.proofs.Levels.{depth}
use Rattle.event_worlds.proofs.Once.{OfGone, AllOnce, event_once}
use Rattle.event_worlds.proofs.Present.{IsThere, AllThere, event_there}
use Rattle.event_worlds.proofs.Rooted.{IsRooted, root_last, its_stakes, event_rooted}

module _ (p : Program) (needs : Codes → Needs) (fresh w0 : ℕ) (least : 1 ≤ w0) (root : Start) (nameless : root.path ≡ []) where
  abbrev go : List Event → World → Option World
  go = after w0 (does p needs fresh w0) (hands_on p needs fresh w0)

  -- facts about every world
  pub record IsSound (es : List Event) (w : World) : Type 0 where
    pub kept : Kept es w
    pub own : AllOwn p needs fresh w0 root nameless w
    pub rooted : IsRooted es w
    pub there : AllThere w.live w.scopes
    pub once : AllOnce es w.live w.scopes
    pub handed : Handed es w

  pub first_sound : IsSound [] (first_world w0 root)
  first_sound = record {
    kept = first_kept w0 least root;
    own = record { tasks = tasks; results = results };
    rooted = record { its = new_task [] root (record { scope = root_scope; weight = w0 }) 0; lives = refl; above = []; inside = refl };
    there = there;
    once = once;
    handed = record { live = root_live; results = no_results; ended = λ q c. absurd (contains_nil (Ends q) c) };
  }
    where
      root_live : (q : List ℕ) (t : Live) (id : ScopeId) → task q (new_task [] root (record { scope = root_scope; weight = w0 }) 0 ∷ []) ≡ Some t → Last t.stakes id → (id.owner ≡ q) ⊎ BegunIn [] id q
      root_live [] t id f l = inl (ap (λ (i : ScopeId). i.owner) (sym (subst (λ (t : Live). Last t.stakes id) (sym (same_Some _ _ f)) l)))
      root_live (j ∷ q) t id f l = absurd (none-some _ f)

      no_results : (id : ScopeId) (s : Scope) → scope id (new_scope root_scope w0 ∷ []) ≡ Some s → Each (λ (r : TaskResult). BegunIn [] id r.path) s.results
      no_results id s f =
          by_test (λ x. (if x then Some (new_scope root_scope w0) else None) ≡ Some s → Each (λ (r : TaskResult). BegunIn [] id r.path) s.results) (same_scope root_scope id)
          (λ g f. subst (λ (s : Scope). Each (λ (r : TaskResult). BegunIn [] id r.path) s.results) (same_Some _ _ f) tt)
          (λ g f. absurd (none-some _ f)) f

      once : AllOnce [] (new_task [] root (record { scope = root_scope; weight = w0 }) 0 ∷ []) (new_scope root_scope w0 ∷ [])
      once id s f =
          by_test (λ x. (if x then Some (new_scope root_scope w0) else None) ≡ Some s → NoTwice s.results × Each (OfGone [] (new_task [] root (record { scope = root_scope; weight = w0 }) 0 ∷ [])) s.results) (same_scope root_scope id)
          (λ g f. subst (λ (r : Scope). NoTwice r.results × Each (OfGone [] (new_task [] root (record { scope = root_scope; weight = w0 }) 0 ∷ [])) r.results) (same_Some _ _ f) (tt, tt))
          (λ g f. absurd (none-some _ f)) f

      there : AllThere (new_task [] root (record { scope = root_scope; weight = w0 }) 0 ∷ []) (new_scope root_scope w0 ∷ [])
      there [] t f = subst (λ (t : Live). Each (IsThere (new_scope root_scope w0 ∷ [])) t.stakes) (same_Some _ _ f) ((new_scope root_scope w0, refl), tt)
      there (j ∷ q) t f = absurd (none-some _ f)

      at_root : IsOwnTask p needs fresh w0 root nameless (new_task [] root (record { scope = root_scope; weight = w0 }) 0)
      at_root = record { comes = refl; receipts = tt; counted = refl; level = refl }

      tasks : (q : List ℕ) (t : Live) → task q (new_task [] root (record { scope = root_scope; weight = w0 }) 0 ∷ []) ≡ Some t → IsOwnTask p needs fresh w0 root nameless t
      tasks [] t f = subst (IsOwnTask p needs fresh w0 root nameless) (same_Some _ _ f) at_root
      tasks (j ∷ q) t f = absurd (none-some _ f)

      results : (id : ScopeId) (s : Scope) → scope id (new_scope root_scope w0 ∷ []) ≡ Some s → Each (IsOfOwnRun p needs fresh root) s.results
      results id s f =
          by_test (λ x. (if x then Some (new_scope root_scope w0) else None) ≡ Some s → Each (IsOfOwnRun p needs fresh root) s.results) (same_scope root_scope id)
          (λ g f. subst (λ (r : Scope). Each (IsOfOwnRun p needs fresh root) r.results) (same_Some _ _ f) tt)
          (λ g f. absurd (none-some _ f)) f

  pub list_sound : (before es : List Event) (a b : World) → IsSound before a → go es a ≡ Some b → IsSound (before ++ es) b
  list_sound before [] a b h f = subst (IsSound (before ++ [])) (same_Some _ _ f) (subst (λ l. IsSound l a) (sym (append-nil before)) h)
  list_sound before (e ∷ es) a b h f =
      let g = gives (next w0 (does p needs fresh w0) (hands_on p needs fresh w0) e a) _ b f in
      let c = becomes w0 (does p needs fresh w0) (hands_on p needs fresh w0) e a g.one g.first in
      let s : IsSound (before ++ e ∷ []) g.one = record {
        kept = event_kept w0 least _ _ before e a g.one h.kept c;
        own = event_own p needs fresh w0 root nameless e a g.one h.kept.unique h.own c;
        rooted = event_rooted before a h.kept h.rooted _ _ w0 e g.one c;
        there = event_there a h.there _ _ w0 h.kept.unique e g.one c;
        once = event_once _ (λ t. hands_on p needs fresh w0 t.start t.receipts) w0 before e a g.one h.kept h.once
            (λ q t f. hands_path p needs fresh w0 root nameless t (h.own.tasks q t f) ∙ task_path q a.live t f) c;
        handed = event_handed _ (λ t. hands_on p needs fresh w0 t.start t.receipts) w0 before e a g.one h.kept h.handed
            (λ q t f. hands_path p needs fresh w0 root nameless t (h.own.tasks q t f) ∙ task_path q a.live t f) c;
      } in
      subst (λ l. IsSound l b) (append_assoc before (e ∷ []) es) (list_sound (before ++ e ∷ []) es g.one b s g.next)

  pub reached_sound : (es : List Event) (w : World) → go es (first_world w0 root) ≡ Some w → IsSound es w
  reached_sound es w f = list_sound [] es (first_world w0 root) w first_sound f

  module _ (es : List Event) (w : World) (h : IsSound es w) (s : Scope) (there : scope root_scope w.scopes ≡ Some s) (passed : s.passed ≡ true) where
    pub none_held : held root_scope w.live ≡ 0
    none_held =
        let x = (h.kept.scopes root_scope s there).books in
        let y = (h.kept.scopes root_scope s there).passed passed in
        omega (arith, x, y)

    its_weight : weight_in root_scope h.rooted.its.stakes ≡ 0
    its_weight = let x = none_held in let y = held_least root_scope [] h.rooted.its w.live h.rooted.lives in omega (arith, x, y)

    scopes_are : map scope_of h.rooted.its.stakes ≡ map (own_scope []) (h.rooted.above ++ 0 ∷ [])
    scopes_are = its_stakes es w h.kept h.rooted ∙ ap (map (own_scope [])) h.rooted.inside

    -- then the root waits at the end of `main`, and has done its own run
    abbrev pub IsDone : Type 0
    IsDone = (run_by p needs fresh h.rooted.its.receipts h.rooted.its.start ≡ own p needs fresh h.rooted.its.start)
        × (depth 0 (take h.rooted.its.done (truly p needs fresh w0 root nameless h.rooted.its.start)) ≡ None)

    pub root_is_done : IsDone
    root_is_done = by_stakes h.rooted.its.place h.rooted.its.stakes h.rooted.above scopes_are its_weight (h.kept.tasks [] h.rooted.its h.rooted.lives).weighty (h.own.tasks [] h.rooted.its h.rooted.lives).level
      where
        heavy : (ss : List Stake) → 1 ≤ weight_in root_scope ss → weight_in root_scope ss ≡ 0 → ⊥
        heavy ss a b = omega (arith, a, b)

        by_stakes : (w : Whereabouts) (ss : List Stake) (above : List ℕ) → map scope_of ss ≡ map (own_scope []) (above ++ 0 ∷ []) → weight_in root_scope ss ≡ 0 → Weighty w [] ss
            → IsAtLevel p needs fresh w0 root nameless w ss h.rooted.its → IsDone
        by_stakes w ss (n ∷ above) e z x l =
            absurd (heavy ss (weighs_below w [] ss (own_scope [] n) root_scope (map (own_scope []) (above ++ 0 ∷ [])) x e (root_last above)) z)
        by_stakes (Queue v) ss [] e z x l = absurd (heavy ss (positive_in root_scope ss x (subst (λ l. Contains l root_scope) (sym e) (contains_here root_scope []))) z)
        by_stakes (Hand v) ss [] e z x l = absurd (heavy ss (positive_in root_scope ss x (subst (λ l. Contains l root_scope) (sym e) (contains_here root_scope []))) z)
        by_stakes Parked [] [] e z x l = absurd x
        by_stakes Parked (s ∷ []) [] e z x l = l
        by_stakes Parked (s ∷ r ∷ more) [] e z x l = absurd (two_one (map scope_of more) e)
          where
            two_one : (xs : List ScopeId) → s.scope ∷ r.scope ∷ xs ≡ root_scope ∷ [] → ⊥
            two_one xs e = let n : suc (suc (length xs)) ≡ 1 = ap length e in omega (arith, n)

    -- the root started with the start that is given to it
    pub root_start : h.rooted.its.start ≡ root
    root_start =
        let path = task_path [] w.live h.rooted.its h.rooted.lives in
        sym (same_Some _ _ (ap (given p needs fresh root) (sym path) ∙ (h.own.tasks [] h.rooted.its h.rooted.lives).comes))

    pub root_hands_on : hands_on p needs fresh w0 h.rooted.its.start h.rooted.its.receipts ≡ result_of (own p needs fresh root)
    root_hands_on = ap result_of root_is_done.0 ∙ ap (λ s. result_of (own p needs fresh s)) root_start

-- a replay leads to one world, or to one number
pub legal_same : (a b : World) → Legal a ≡ Legal b → a ≡ b
legal_same a b e = cc e

illegal_same : (m n : ℕ) → IllegalAt m ≡ IllegalAt n → m ≡ n
illegal_same m n e = cc e

-- what is there if a test is true is there
only_told : {A : Type 0} (b : Bool) (o : Option A) (x : A) → only_if b o ≡ Some x → o ≡ Some x
only_told true o x e = e
only_told false o x e = absurd (none-some _ e)

module _ (p : Program) (needs : Codes → Needs) (w0 : ℕ) where
  illegal_not : {n : ℕ} {w : World} → IllegalAt n ≡ Legal w → ⊥
  illegal_not e = subst IsIllegal e tt
    where
      IsIllegal : Replayed → Type 0
      IsIllegal (Legal w) = ⊥
      IsIllegal (IllegalAt n) = Unit {0}

  replays : (fresh n : ℕ) (es : List Event) (a w : World) → replay_from p needs fresh w0 n es a ≡ Legal w → after w0 (does p needs fresh w0) (hands_on p needs fresh w0) es a ≡ Some w
  replays fresh n [] a w e = ap Some (legal_same a w e)
  replays fresh n (x ∷ es) a w e = by_event (event p needs fresh w0 x a) refl e (λ b. replays fresh (n + 1) es b w)
    where
      by_event : (o : Option World) → event p needs fresh w0 x a ≡ o → go_or n (replay_from p needs fresh w0 (n + 1) es) o ≡ Legal w
          → ((b : World) → replay_from p needs fresh w0 (n + 1) es b ≡ Legal w → after w0 (does p needs fresh w0) (hands_on p needs fresh w0) es b ≡ Some w)
          → after w0 (does p needs fresh w0) (hands_on p needs fresh w0) (x ∷ es) a ≡ Some w
      by_event None is e rec = absurd (illegal_not e)
      by_event (Some b) is e rec =
          ap (λ o. and_then o (after w0 (does p needs fresh w0) (hands_on p needs fresh w0) es))
          (only_told (tells p needs fresh w0 x a) (next w0 (does p needs fresh w0) (hands_on p needs fresh w0) x a) b is)
          ∙ rec b e

  pub replays_are_worlds : ReplaysAreWorlds p needs w0
  replays_are_worlds input b es w e = replays b.steps 0 es (start_of p w0 input b) w e

  pub passed_has_ended : PassedHasEnded p needs w0
  passed_has_ended least input b es w e =
      passed_is_ended w0 (does p needs b.steps w0) (hands_on p needs b.steps w0) least (root_of p input b.nest) es w (replays_are_worlds input b es w e)

  pub sound : (least : 1 ≤ w0) (input : List (List ℤ)) (b : Budget) (es : List Event) (w : World) → replay p needs w0 input b es ≡ Legal w
      → IsSound p needs b.steps w0 least (root_of p input b.nest) refl es w
  sound least input b es w e = reached_sound p needs b.steps w0 least (root_of p input b.nest) refl es w (replays_are_worlds input b es w e)

  pub starts_are_given : StartsAreGiven p needs w0
  starts_are_given least input b es w e q t f =
      ap (given p needs b.steps (root_of p input b.nest)) (sym (task_path q w.live t f)) ∙ ((sound least input b es w e).own.tasks q t f).comes

  pub results_are_own : ResultsAreOwn p needs w0
  results_are_own least input b es w e id s f = (sound least input b es w e).own.results id s f

  pub results_come_once : ResultsComeOnce p needs w0
  results_come_once least input b es w e id s f =
      let o = (sound least input b es w e).once id s f in
      (o.0, each_more _ _ s.results (λ r g. (g.none, g.ended)) o.1)

  pub results_are_handed : ResultsAreHanded p needs w0
  results_are_handed least input b es w e id s f = (
    (sound least input b es w e).handed.results id s f,
    λ q g c. (let k = (sound least input b es w e).handed.ended q c in
        let same = begun_in_one es k.id id q k.begun g in
        let its : k.its ≡ s = same_Some _ _ (sym k.there ∙ ap (λ i. scope i w.scopes) same ∙ f) in
        (k.result, subst (λ (s : Scope). Contains s.results k.result) its k.among, k.path)),
  )

  lead : (fresh n : ℕ) (es : List Event) (x : Event) (a w to : World) → replay_from p needs fresh w0 n es a ≡ Legal w
      → event p needs fresh w0 x w ≡ Some to → replay_from p needs fresh w0 n (es ++ x ∷ []) a ≡ Legal to
  lead fresh n [] x a w to e is =
      ap (go_or n (replay_from p needs fresh w0 (n + 1) [])) (ap (event p needs fresh w0 x) (legal_same a w e) ∙ is)
  lead fresh n (y ∷ es) x a w to e is =
      by_event (event p needs fresh w0 y a) e (λ b g. lead fresh (n + 1) es x b w to g is)
    where
      by_event : (o : Option World) → go_or n (replay_from p needs fresh w0 (n + 1) es) o ≡ Legal w
          → ((b : World) → replay_from p needs fresh w0 (n + 1) es b ≡ Legal w
          → replay_from p needs fresh w0 (n + 1) (es ++ x ∷ []) b ≡ Legal to)
          → go_or n (replay_from p needs fresh w0 (n + 1) (es ++ x ∷ [])) o ≡ Legal to
      by_event None e rec = absurd (illegal_not e)
      by_event (Some b) e rec = rec b e

  -- one legal event more leads on
  pub replay_more : (input : List (List ℤ)) (b : Budget) (es : List Event) (x : Event) (w to : World)
      → replay p needs w0 input b es ≡ Legal w → event p needs b.steps w0 x w ≡ Some to
      → replay p needs w0 input b (es ++ x ∷ []) ≡ Legal to
  replay_more input b es x w to e is = lead b.steps 0 es x (start_of p w0 input b) w to e is

  -- ---- the first event that isn't legal
  abbrev IsIllegalFrom : (fresh m : ℕ) → List Event → (a : World) → ℕ → Type 0
  IsIllegalFrom fresh m es a =
      IsFirstRefused (λ before to. replay_from p needs fresh w0 m before a ≡ Legal to) (event p needs fresh w0) es

  refuses : (fresh m : ℕ) (es : List Event) (a : World) (n : ℕ) → replay_from p needs fresh w0 m es a ≡ IllegalAt n → (k : ℕ) × (n ≡ m + k) × IsIllegalFrom fresh m es a k
  refuses fresh m [] a n e = absurd (illegal_not (sym e))
  refuses fresh m (x ∷ es) a n e = by_event (event p needs fresh w0 x a) refl e (λ b. refuses fresh (m + 1) es b n)
    where
      by_event : (o : Option World) → event p needs fresh w0 x a ≡ o → go_or m (replay_from p needs fresh w0 (m + 1) es) o ≡ IllegalAt n
          → ((b : World) → replay_from p needs fresh w0 (m + 1) es b ≡ IllegalAt n → (k : ℕ) × (n ≡ m + 1 + k) × IsIllegalFrom fresh (m + 1) es b k)
          → (k : ℕ) × (n ≡ m + k) × IsIllegalFrom fresh m (x ∷ es) a k
      by_event None f e rec =
          let same : n ≡ m + 0 = (let i = illegal_same m n e in omega (arith, i)) in
          (0, same, record { before = []; first = x; later = es; are = refl; count = refl; to = a; legal = refl; illegal = f })
      by_event (Some b) f e rec =
          let r = rec b e in
          let i = r.2 in
          let same : n ≡ m + suc r.0 = (let j = r.1 in omega (arith, j)) in (
            suc r.0,
            same,
            record {
              before = x ∷ i.before;
              first = i.first;
              later = i.later;
              are = ap (λ l. x ∷ l) i.are;
              count = ap suc i.count;
              to = i.to;
              legal = ap (go_or m (replay_from p needs fresh w0 (m + 1) i.before)) f ∙ i.legal;
              illegal = i.illegal;
            },
          )

  refused : (fresh m : ℕ) (before : List Event) (x : Event) (later : List Event) (a b : World)
      → replay_from p needs fresh w0 m before a ≡ Legal b → event p needs fresh w0 x b ≡ None
      → replay_from p needs fresh w0 m (before ++ x ∷ later) a ≡ IllegalAt (m + length before)
  refused fresh m [] x later a b e f =
      let same : m ≡ m + 0 = omega arith in
      ap (λ c. go_or m (replay_from p needs fresh w0 (m + 1) later) (event p needs fresh w0 x c)) (legal_same a b e)
      ∙ ap (go_or m (replay_from p needs fresh w0 (m + 1) later)) f ∙ ap IllegalAt same
  refused fresh m (y ∷ before) x later a b e f =
      let same : m + 1 + length before ≡ m + suc (length before) = omega arith in
      by_event (event p needs fresh w0 y a) e (λ c g. refused fresh (m + 1) before x later c b g f ∙ ap IllegalAt same)
    where
      by_event : (o : Option World) → go_or m (replay_from p needs fresh w0 (m + 1) before) o ≡ Legal b
          → ((c : World) → replay_from p needs fresh w0 (m + 1) before c ≡ Legal b
          → replay_from p needs fresh w0 (m + 1) (before ++ x ∷ later) c ≡ IllegalAt (m + suc (length before)))
          → go_or m (replay_from p needs fresh w0 (m + 1) (before ++ x ∷ later)) o ≡ IllegalAt (m + suc (length before))
      by_event None e rec = absurd (illegal_not e)
      by_event (Some c) e rec = rec c e

  pub refuses_the_first : RefusesTheFirst p needs w0
  refuses_the_first input b es n = (
    λ e. (let r = refuses b.steps 0 es (start_of p w0 input b) n e in
        let same : r.0 ≡ n = (let d = r.1 in omega (arith, d)) in
        subst (IsIllegalFrom b.steps 0 es (start_of p w0 input b)) same r.2),
    λ i. (let count : 0 + length i.before ≡ n = (let c = i.count in omega (arith, c)) in
        ap (λ l. replay p needs w0 input b l) i.are
        ∙ refused b.steps 0 i.before i.first i.later (start_of p w0 input b) i.to i.legal i.illegal
        ∙ ap IllegalAt count),
  )

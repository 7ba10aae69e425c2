-- The theorems about all worlds.
use Rattle.std.proofs.Common.{◌≡◌, ℕ, ◌≤◌, List, [], ◌∷◌, ◌++◌, Option, Some, None, refl, sym, subst, inl, inr, arith}
use Rattle.std.proofs.Common.{append_assoc}
use Rattle.std.proofs.lemmas.List.{append-nil}
use Rattle.std.specs.Prelude.{Bool, true, false, map, drop, Contains, if◌then◌else◌}
use Rattle.std.proofs.lemmas.Option.{none-some, same_Some}
use Rattle.shared_lemmas.proofs.Truths.{false_true}
use Rattle.task_run.specs.Results.{TaskResult}
use Rattle.task_run.specs.Lists.{Each}
use Rattle.task_run.specs.OwnRun.{Start, Action}
use Rattle.task_run.proofs.SettledResults.{gives}
use Rattle.event_worlds.specs.World.{ScopeId, Stake, Live, Scope, World, Whereabouts, Queue, Hand, Parked, same_scope}
use Rattle.event_worlds.specs.World.{root_scope, task, scope, weight_in, is_parked}
use Rattle.event_worlds.specs.Events.{Event, Take, Steal, Steps, Replenish, Spawns, Opens, Parks, Ends, Pass, Resume}
use Rattle.event_worlds.specs.Events.{new_scope, new_task, next_action, next, first_world, after}
use Rattle.event_worlds.specs.History.{told}
use Rattle.event_worlds.specs.Weights.{standing, Weighs}
use Rattle.event_worlds.proofs.WorldLaws.{WeightsAddUp, TasksWeigh, NobodyIsLeft, PassedIsEnded}
use Rattle.event_worlds.proofs.Lookups.{scopes_same, held_least}
use Rattle.event_worlds.proofs.Histories.{map_contains, nil_snoc, told_last}
use Rattle.event_worlds.proofs.Stakes.{scope_of, IsPositive, Weighty, positive_in}
use Rattle.event_worlds.proofs.Changes.{Becomes, becomes}
use Rattle.event_worlds.proofs.Kept.{IsTold, ScopeOk, Kept, passed_ended}
use Rattle.event_worlds.proofs.Events.{quiet_kept, replenish_kept, park_kept, pass_kept}
use Rattle.event_worlds.proofs.Scopes.{no_spawn, end_kept, open_kept, resume_kept}
use Rattle.event_worlds.proofs.Spawning.{begun_spawned, spawn_kept}

module _ (w0 : ℕ) (least : 1 ≤ w0) where
  pub first_kept : (root : Start) → Kept [] (first_world w0 root)
  first_kept root = record {
    line = λ q. [];
    no_line = refl;
    unique = (refl, tt);
    tasks = λ q t f. tasks q t f;
    hangs = λ q t f. inl (is_root q t f);
    named = λ q t f. inl (is_root q t f);
    known = (((let x : 0 ≤ (told [] []).opened = omega arith in x), tt), tt);
    scopes = scopes;
    quiet = λ q. inr refl;
    spawned = λ before o q h. absurd (nil_snoc before (Spawns o) h.later h.here);
    begun = λ id q h. let s = begun_spawned [] id q h in absurd (nil_snoc s.before (Spawns s.parent) s.at.later s.at.here);
  }
    where
      at_root : Live
      at_root = new_task [] root (record { scope = root_scope; weight = w0 }) 0

      is_root : (q : List ℕ) (t : Live) → task q (new_task [] root (record { scope = root_scope; weight = w0 }) 0 ∷ []) ≡ Some t → q ≡ []
      is_root [] t f = refl
      is_root (j ∷ q) t f = absurd (none-some _ f)

      tasks : (q : List ℕ) (t : Live) → task q (new_task [] root (record { scope = root_scope; weight = w0 }) 0 ∷ []) ≡ Some t → IsTold (told [] q) [] q t
      tasks [] t f = subst (λ s. IsTold (told [] []) [] [] s) (same_Some _ _ f) (record { spawned = refl; opened = refl; stakes = refl; weighty = (least, tt) })
      tasks (j ∷ q) t f = absurd (none-some _ f)

      books : (id : ScopeId) (s : Scope) (x : Bool) → same_scope root_scope id ≡ x → (if x then Some (new_scope root_scope w0) else None) ≡ Some s → ScopeOk [] (new_task [] root (record { scope = root_scope; weight = w0 }) 0 ∷ []) id s
      books id s true e f =
          subst (λ r. ScopeOk [] (new_task [] root (record { scope = root_scope; weight = w0 }) 0 ∷ []) id r) (same_Some _ _ f)
          (subst (λ i. ScopeOk [] (new_task [] root (record { scope = root_scope; weight = w0 }) 0 ∷ []) i (new_scope root_scope w0)) (scopes_same root_scope id e)
          (record { books = omega arith; passed = λ p. absurd (false_true p); known = omega arith }))
      books id s false e f = absurd (none-some _ f)

      scopes : (id : ScopeId) (s : Scope) → scope id (new_scope root_scope w0 ∷ []) ≡ Some s → ScopeOk [] (new_task [] root (record { scope = root_scope; weight = w0 }) 0 ∷ []) id s
      scopes id s f = books id s (same_scope root_scope id) refl f

  pub event_kept : (does : Live → Option Action) (gives : Live → TaskResult) (es : List Event) (e : Event) (a b : World) → Kept es a → Becomes does gives w0 e a b → Kept (es ++ e ∷ []) b
  event_kept does gives es (Take w p) a b k h = quiet_kept es (Take w p) a k (told_last es (Take w p)) (no_spawn (Take w p) tt) p b h
  event_kept does gives es (Steal w f p) a b k h = quiet_kept es (Steal w f p) a k (told_last es (Steal w f p)) (no_spawn (Steal w f p) tt) p b h
  event_kept does gives es (Steps p) a b k h = quiet_kept es (Steps p) a k (told_last es (Steps p)) (no_spawn (Steps p) tt) p b h
  event_kept does gives es (Replenish p) a b k h = replenish_kept es (Replenish p) a k (told_last es (Replenish p)) (no_spawn (Replenish p) tt) w0 p b h
  event_kept does gives es (Spawns p) a b k h = spawn_kept es a k p b h
  event_kept does gives es (Opens p) a b k h = open_kept es a k w0 least p b h
  event_kept does gives es (Parks p) a b k h = park_kept es (Parks p) a k (told_last es (Parks p)) (no_spawn (Parks p) tt) p b h
  event_kept does gives es (Ends p) a b k h = end_kept es a k p b h
  event_kept does gives es (Pass id) a b k h = pass_kept es (Pass id) a k (told_last es (Pass id)) (no_spawn (Pass id) tt) id b h
  event_kept does gives es (Resume w p z) a b k h = resume_kept es a k w p z b h

  module _ (actions : Start → List (List TaskResult) → List Action) (result : Start → List (List TaskResult) → TaskResult) where
    pub list_kept : (before es : List Event) (a b : World) → Kept before a → after w0 actions result es a ≡ Some b → Kept (before ++ es) b
    list_kept before [] a b k f = subst (Kept (before ++ [])) (same_Some _ _ f) (subst (λ l. Kept l a) (sym (append-nil before)) k)
    list_kept before (e ∷ es) a b k f =
        let g = gives (next w0 actions result e a) _ b f in
        let c = event_kept (λ t. next_action w0 actions result t) (λ t. result t.start t.receipts) before e a g.one k (becomes w0 actions result e a g.one g.first) in
        subst (λ l. Kept l b) (append_assoc before (e ∷ []) es) (list_kept (before ++ e ∷ []) es g.one b c g.next)

    pub reached_kept : (root : Start) (es : List Event) (w : World) → after w0 actions result es (first_world w0 root) ≡ Some w → Kept es w
    reached_kept root es w f = list_kept [] es (first_world w0 root) w (first_kept root) f

standing_weighs : (t : Live) (q : List ℕ) → Weighty t.place q t.stakes → Weighs t
standing_weighs t q h = by_place t.place t.stakes h
  where
    by_place : (w : Whereabouts) (ss : List Stake) → Weighty w q ss → Each IsPositive (if is_parked w then drop 1 ss else ss)
    by_place (Queue w) ss h = h
    by_place (Hand w) ss h = h
    by_place Parked [] h = absurd h
    by_place Parked (s ∷ ss) h = h.2

standing_least : (t : Live) (id : ScopeId) → weight_in id (standing t) ≤ weight_in id t.stakes
standing_least t id = by_place (is_parked t.place) t.stakes
  where
    by_place : (x : Bool) (ss : List Stake) → weight_in id (if x then drop 1 ss else ss) ≤ weight_in id ss
    by_place false ss = omega arith
    by_place true [] = omega arith
    by_place true (s ∷ ss) = omega arith

module _ (w0 : ℕ) (actions : Start → List (List TaskResult) → List Action) (result : Start → List (List TaskResult) → TaskResult) where
  pub weights_add_up : WeightsAddUp w0 actions result
  weights_add_up least root es w f id s g = ((reached_kept w0 least actions result root es w f).scopes id s g).books

  pub tasks_weigh : TasksWeigh w0 actions result
  tasks_weigh least root es w f path t g = standing_weighs t path ((reached_kept w0 least actions result root es w f).tasks path t g).weighty

  pub nobody_is_left : NobodyIsLeft w0 actions result
  nobody_is_left least root es w f id s g even h =
      let books = weights_add_up least root es w f id s g in
      let weighs = positive_in id (standing h.its) (tasks_weigh least root es w f h.path h.its h.lives)
      (subst (Contains (map scope_of (standing h.its))) h.there (map_contains scope_of (standing h.its) h.stake h.among)) in
      let some = standing_least h.its id in
      let held = held_least id h.path h.its w.live h.lives in
      omega (arith, books, even, weighs, some, held)

  pub passed_is_ended : PassedIsEnded w0 actions result
  passed_is_ended least root es w f id s path g p b =
      record { begun = b; ends = passed_ended es w (reached_kept w0 least actions result root es w f) id s path g p b (begun_spawned es id path b) }

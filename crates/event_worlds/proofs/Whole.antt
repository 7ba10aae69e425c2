-- Once it has passed, the root's scope holds all worth, and nothing is still to come.
use Rattle.std.proofs.Common.{◌≡◌, ℕ, ◌+◌, ◌≤◌, List, [], ◌∷◌, ◌++◌, Option, Some, refl, sym, ap, ◌∙◌, subst, arith}
use Rattle.std.specs.Prelude.{true, map, sum_by, if◌then◌else◌}
use Rattle.std.proofs.lemmas.Option.{same_Some}
use Rattle.shared_lemmas.proofs.Truths.{false_true}
use Rattle.types.specs.Code.{Codes, Program}
use Rattle.effects.specs.Needs.{Needs}
use Rattle.task_run.specs.Results.{TaskResult, and_then}
use Rattle.task_run.specs.OwnRun.{Start, result_of}
use Rattle.task_run.specs.Given.{own}
use Rattle.task_run.proofs.SettledResults.{gives, paths_same}
use Rattle.event_worlds.specs.World.{same_path, ScopeId, Stake, Live, Scope, World, root_scope, task, scope}
use Rattle.event_worlds.specs.Events.{Event, next, first_world, after}
use Rattle.event_worlds.specs.Replay.{does, hands_on}
use Rattle.event_worlds.proofs.Lookups.{by_test, other_path, scopes_same, task_path, held_least}
use Rattle.event_worlds.proofs.Stakes.{scope_of, weighs_last}
use Rattle.event_worlds.proofs.Changes.{becomes}
use Rattle.event_worlds.proofs.OwnTasks.{truly}
use Rattle.event_worlds.proofs.Outcomes.{IsSound, first_sound, list_sound, none_held, root_is_done}
use Rattle.event_worlds.proofs.GoingOn.{each_of}
use Rattle.event_worlds.proofs.Worth.{sum_by-each_zero, coming, left, based, reward, share, Balanced, event_balanced}
use Rattle.event_worlds.proofs.Worth.{first_balanced, none_left}

module _ (p : Program) (needs : Codes → Needs) (fresh w0 : ℕ) (least : 1 ≤ w0) (root : Start) (nameless : root.path ≡ []) (worth : Start → ℕ) (f : TaskResult → ℕ)
    (all_of : (c : Start) → worth c ≡ f (result_of (own p needs fresh c)) + coming p needs fresh w0 root nameless worth (Some 0) (truly p needs fresh w0 root nameless c)) where
  abbrev go : List Event → World → Option World
  go = after w0 (does p needs fresh w0) (hands_on p needs fresh w0)

  abbrev IsBalanced : World → Type 0
  IsBalanced w = Balanced p needs fresh w0 root nameless worth f all_of w.live w.scopes

  list_balanced : (before es : List Event) (a b : World) → IsSound p needs fresh w0 least root nameless before a → IsBalanced a → go es a ≡ Some b → IsBalanced b
  list_balanced before [] a b h k e = subst IsBalanced (same_Some _ _ e) k
  list_balanced before (x ∷ es) a b h k e =
      let g = gives (next w0 (does p needs fresh w0) (hands_on p needs fresh w0) x a) _ b e in
      let c = becomes w0 (does p needs fresh w0) (hands_on p needs fresh w0) x a g.one g.first in
      let s = list_sound p needs fresh w0 least root nameless before (x ∷ []) a g.one h (ap (λ o. and_then o (λ w. Some w)) g.first) in
      list_balanced (before ++ x ∷ []) es g.one b s (event_balanced p needs fresh w0 root nameless worth f all_of before a h.kept h.own k x g.one c) g.next

  -- whose last scope is the root's
  based_last : (ss : List Stake) → based p needs fresh w0 root nameless worth f all_of ss ≡ true → (xs : List ScopeId) × (map scope_of ss ≡ xs ++ root_scope ∷ [])
  based_last [] e = absurd (false_true e)
  based_last (s ∷ []) e = ([], ap (λ i. i ∷ []) (scopes_same s.scope root_scope e))
  based_last (s ∷ r ∷ more) e = let h = based_last (r ∷ more) e in (s.scope ∷ h.0, ap (λ l. s.scope ∷ l) h.1)

  -- what the root's scope holds is the worth of the tasks that the root spawns for it
  pub root_scope_is_whole : (es : List Event) (w : World) → go es (first_world w0 root) ≡ Some w → (s : Scope) → scope root_scope w.scopes ≡ Some s → s.passed ≡ true
      → sum_by f s.results ≡ coming p needs fresh w0 root nameless worth (Some 0) (truly p needs fresh w0 root nameless root)
  root_scope_is_whole es w e s there passed =
      let balance = list_balanced [] es (first_world w0 root) w (first_sound p needs fresh w0 least root nameless) (first_balanced p needs fresh w0 root nameless worth f all_of least) e s there in
      let none = sum_by-each_zero its_share w.live (each_of (λ t. its_share t ≡ 0) w.live h.kept.unique nothing) in
      omega (arith, balance, none)
    where
      its_share : Live → ℕ
      its_share = share p needs fresh w0 root nameless worth f all_of

      h : IsSound p needs fresh w0 least root nameless es w
      h = list_sound p needs fresh w0 least root nameless [] es (first_world w0 root) w (first_sound p needs fresh w0 least root nameless) e

      nothing : (q : List ℕ) (t : Live) → task q w.live ≡ Some t → share p needs fresh w0 root nameless worth f all_of t ≡ 0
      nothing q t i =
          by_test (λ x. based p needs fresh w0 root nameless worth f all_of t.stakes ≡ x → share p needs fresh w0 root nameless worth f all_of t ≡ 0) (based p needs fresh w0 root nameless worth f all_of t.stakes)
          (λ g j. by_test (λ x. same_path q [] ≡ x → share p needs fresh w0 root nameless worth f all_of t ≡ 0) (same_path q []) (λ r r'. of_root g (paths_same q [] r)) (λ r r'. of_other g (other_path r)) refl)
          (λ g j. ap (λ x. if x then reward p needs fresh w0 root nameless worth f all_of t + left p needs fresh w0 root nameless worth t else 0) g) refl
        where
          of_other : based p needs fresh w0 root nameless worth f all_of t.stakes ≡ true → (q ≡ [] → ⊥) → share p needs fresh w0 root nameless worth f all_of t ≡ 0
          of_other g n =
              let l = based_last t.stakes g in
              let a = weighs_last t.place q t.stakes root_scope l.0 (h.kept.tasks q t i).weighty l.1 (λ r. n (sym r)) in
              let b = held_least root_scope q t w.live i in
              let c = none_held p needs fresh w0 least root nameless es w h s there passed in
              absurd (omega (arith, a, b, c))

          of_root : based p needs fresh w0 root nameless worth f all_of t.stakes ≡ true → q ≡ [] → share p needs fresh w0 root nameless worth f all_of t ≡ 0
          of_root g r =
              let same : h.rooted.its ≡ t = same_Some _ _ (sym h.rooted.lives ∙ ap (λ q. task q w.live) (sym r) ∙ i) in
              let d = root_is_done p needs fresh w0 least root nameless es w h s there passed in
              let zero_left : left p needs fresh w0 root nameless worth t ≡ 0 = ap (left p needs fresh w0 root nameless worth) (sym same) ∙ none_left p needs fresh w0 root nameless worth h.rooted.its d.1 in
              let path : t.path ≡ [] = task_path q w.live t i ∙ r in
              let no_reward : reward p needs fresh w0 root nameless worth f all_of t ≡ 0 = ap (λ q. if same_path q [] then 0 else f (result_of (own p needs fresh t.start))) path in
              ap (λ x. if x then reward p needs fresh w0 root nameless worth f all_of t + left p needs fresh w0 root nameless worth t else 0) g ∙ both no_reward zero_left
            where
              both : reward p needs fresh w0 root nameless worth f all_of t ≡ 0 → left p needs fresh w0 root nameless worth t ≡ 0 → reward p needs fresh w0 root nameless worth f all_of t + left p needs fresh w0 root nameless worth t ≡ 0
              both a b = omega (arith, a, b)

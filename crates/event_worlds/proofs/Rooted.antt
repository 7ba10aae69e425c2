-- The root stays alive, in its outer finish.
use Rattle.std.proofs.Common.{◌≡◌, ℕ, ◌+◌, ◌-◌, ◌/◌, List, [], ◌∷◌, ◌++◌, Option, Some, refl, sym, ap, ◌∙◌, subst}
use Rattle.std.proofs.lemmas.List.{append-nil}
use Rattle.std.specs.Prelude.{map, drop, Contains, if◌then◌else◌}
use Rattle.std.proofs.lemmas.Option.{same_Some}
use Rattle.shared_lemmas.proofs.Truths.{not_both}
use Rattle.shared_lemmas.proofs.Lists.{same_head, same_rest}
use Rattle.task_run.specs.Results.{TaskResult}
use Rattle.task_run.specs.OwnRun.{Action}
use Rattle.task_run.proofs.SettledResults.{paths_same}
use Rattle.event_worlds.specs.World.{same_path, ScopeId, Live, World, Hand, Parked, child_path, task, put_task, root_scope}
use Rattle.event_worlds.specs.Events.{Event, Take, Steal, Steps, Replenish, Spawns, Opens, Parks, Ends, Pass, Resume}
use Rattle.event_worlds.specs.Events.{did, new_task}
use Rattle.event_worlds.specs.History.{Told, spawned_more, opened_more, left_one, tell, told}
use Rattle.event_worlds.proofs.Lookups.{by_test, path_is, task-without_task}
use Rattle.event_worlds.proofs.Histories.{contains_here, contains_later, told_last, nil_cons}
use Rattle.event_worlds.proofs.Stakes.{scope_of, own}
use Rattle.event_worlds.proofs.Changes.{Becomes}
use Rattle.event_worlds.proofs.Kept.{base, Kept}
use Rattle.event_worlds.proofs.Steps.{put_lives}

pub record IsRooted (es : List Event) (w : World) : Type 0 where
  pub its : Live
  pub lives : task [] w.live ≡ Some its
  pub above : List ℕ
  pub inside : (told es []).inside ≡ above ++ 0 ∷ []

-- the outermost of its scopes is the root's
pub root_last : (above : List ℕ) → Contains (map (own []) (above ++ 0 ∷ [])) root_scope
root_last [] = contains_here root_scope []
root_last (n ∷ above) = contains_later (own [] n) (map (own []) (above ++ 0 ∷ [])) root_scope (root_last above)

module _ (es : List Event) (a : World) (k : Kept es a) (r : IsRooted es a) where
  -- the root's stakes are all its own
  pub its_stakes : map scope_of r.its.stakes ≡ map (own []) (told es []).inside
  its_stakes = (k.tasks [] r.its r.lives).stakes ∙ ap (λ l. map (own []) (told es []).inside ++ base l) k.no_line ∙ append-nil _

  -- an event that changes nothing of scopes
  still : (e : Event) (b : World) → (told (es ++ e ∷ []) []).inside ≡ (told es []).inside → (s : Live) × (task [] b.live ≡ Some s) → IsRooted (es ++ e ∷ []) b
  still e b same s = record { its = s.0; lives = s.1; above = r.above; inside = same ∙ r.inside }

  put_still : (to was : Live) (path : List ℕ) → task path a.live ≡ Some was → to.path ≡ path → (s : Live) × (task [] (put_task to a.live) ≡ Some s)
  put_still to was path e f = put_lives to was r.its [] a.live (ap (λ q. task q a.live) f ∙ e) r.lives

  told_inside : (e : Event) → (tell [] e (told es [])).inside ≡ (told es []).inside → (told (es ++ e ∷ []) []).inside ≡ (told es []).inside
  told_inside e f = ap (λ (t : Told). t.inside) (told_last es e []) ∙ f

  pub event_rooted : (does : Live → Option Action) (gives : Live → TaskResult) (w0 : ℕ) (e : Event) (b : World) → Becomes does gives w0 e a b → IsRooted (es ++ e ∷ []) b
  event_rooted does gives w0 (Take w p) b h = still (Take w p) b (told_inside (Take w p) refl) (subst (λ (w : World). (s : Live) × (task [] w.live ≡ Some s)) h.now (put_still h.to h.was p h.found (h.renamed ∙ h.named)))
  event_rooted does gives w0 (Steal w f p) b h = still (Steal w f p) b (told_inside (Steal w f p) refl) (subst (λ (w : World). (s : Live) × (task [] w.live ≡ Some s)) h.now (put_still h.to h.was p h.found (h.renamed ∙ h.named)))
  event_rooted does gives w0 (Steps p) b h = still (Steps p) b (told_inside (Steps p) refl) (subst (λ (w : World). (s : Live) × (task [] w.live ≡ Some s)) h.now (put_still h.to h.was p h.found (h.renamed ∙ h.named)))
  event_rooted does gives w0 (Replenish p) b h =
      still (Replenish p) b (told_inside (Replenish p) refl) (subst (λ (w : World). (s : Live) × (task [] w.live ≡ Some s)) h.now (put_still (record h.at.was { stakes = record h.at.inner { weight = 1 + w0 } ∷ h.at.outer }) h.at.was p h.at.found h.at.named))
  event_rooted does gives w0 (Spawns p) b h =
      still (Spawns p) b (told_inside (Spawns p) (by_test (λ x. (if x then spawned_more (told es []) else told es []).inside ≡ (told es []).inside) (same_path p []) (λ f. refl) (λ f. refl)))
      (subst (λ (w : World). (s : Live) × (task [] w.live ≡ Some s)) h.now (behind (put_task (record (did h.at.was (record h.at.inner { weight = h.at.inner.weight - h.at.inner.weight / 2 } ∷ h.at.outer)) { spawned = h.at.was.spawned + 1 }) a.live) h.at.was.path
      (put_still (record (did h.at.was (record h.at.inner { weight = h.at.inner.weight - h.at.inner.weight / 2 } ∷ h.at.outer)) { spawned = h.at.was.spawned + 1 }) h.at.was p h.at.found h.at.named)))
    where
      behind : (ts : List Live) (q : List ℕ) → (s : Live) × (task [] ts ≡ Some s)
          → (s : Live) × (task [] (new_task (child_path q (h.at.was.spawned + 1)) h.child (record h.at.inner { weight = h.at.inner.weight / 2 }) h.at.worker ∷ ts) ≡ Some s)
      behind ts [] s = s
      behind ts (j ∷ q) s = s
  event_rooted does gives w0 (Opens p) b h = record {
    its = s.0;
    lives = s.1;
    above = up.0;
    inside = ap (λ (t : Told). t.inside) (told_last es (Opens p) []) ∙ up.1;
  }
    where
      to : Live
      to = record (did h.was (record { scope = record { owner = h.was.path; number = h.was.opened + 1 }; weight = w0 } ∷ h.was.stakes)) { opened = h.was.opened + 1 }

      s : (s : Live) × (task [] b.live ≡ Some s)
      s = subst (λ (w : World). (s : Live) × (task [] w.live ≡ Some s)) h.now
          (put_still (record (did h.was (record { scope = record { owner = h.was.path; number = h.was.opened + 1 }; weight = w0 } ∷ h.was.stakes)) { opened = h.was.opened + 1 }) h.was p h.found h.named)

      up : (above : List ℕ) × ((if same_path p [] then opened_more (told es []) else told es []).inside ≡ above ++ 0 ∷ [])
      up =
          by_test (λ x. (above : List ℕ) × ((if x then opened_more (told es []) else told es []).inside ≡ above ++ 0 ∷ [])) (same_path p [])
          (λ f. (((told es []).opened + 1) ∷ r.above, ap (λ l. ((told es []).opened + 1) ∷ l) r.inside))
          (λ f. (r.above, r.inside))
  event_rooted does gives w0 (Parks p) b h =
      still (Parks p) b (told_inside (Parks p) refl) (subst (λ (w : World). (s : Live) × (task [] w.live ≡ Some s)) h.now
      (put_still (record (did h.at.was (record h.at.inner { weight = 0 } ∷ h.at.outer)) { place = Parked }) h.at.was p h.at.found h.at.named))
  event_rooted does gives w0 (Ends p) b h =
      still (Ends p) b (told_inside (Ends p) refl) (subst (λ (w : World). (s : Live) × (task [] w.live ≡ Some s)) h.now
      (r.its, task-without_task h.at.was.path [] a.live not_root ∙ r.lives))
    where
      not_root : h.at.was.path ≡ [] → ⊥
      not_root f =
          let same : h.at.was ≡ r.its = same_Some _ _ (sym h.at.found ∙ ap (λ q. task q a.live) (sym h.at.named ∙ f) ∙ r.lives) in
          let heads = ap (map scope_of) (sym h.at.stakes) ∙ ap (λ (t : Live). map scope_of t.stakes) same ∙ its_stakes in
          owned (told es []).inside heads
        where
          owned : (ns : List ℕ) → map scope_of (h.at.inner ∷ h.at.outer) ≡ map (own []) ns → ⊥
          owned [] e = nil_cons (sym e)
          owned (n ∷ ns) e = not_both (path_is (f ∙ ap (λ (i : ScopeId). i.owner) (sym (same_head e)))) h.own
  event_rooted does gives w0 (Pass id) b h =
      still (Pass id) b (told_inside (Pass id) refl) (subst (λ (w : World). (s : Live) × (task [] w.live ≡ Some s)) h.now (r.its, r.lives))
  event_rooted does gives w0 (Resume w p z) b h = record {
    its = s.0;
    lives = s.1;
    above = up.0;
    inside = ap (λ (t : Told). t.inside) (told_last es (Resume w p z) []) ∙ up.1;
  }
    where
      s : (s : Live) × (task [] b.live ≡ Some s)
      s = subst (λ (w : World). (s : Live) × (task [] w.live ≡ Some s)) h.now
          (put_still (record h.was { receipts = h.was.receipts ++ h.of.book.results ∷ []; stakes = h.next ∷ h.outer; place = Hand h.worker }) h.was p h.found h.named)

      lower : (above : List ℕ) → (told es []).inside ≡ above ++ 0 ∷ [] → p ≡ [] → (up : List ℕ) × (drop 1 (told es []).inside ≡ up ++ 0 ∷ [])
      lower [] e f =
          let same : h.was ≡ r.its = same_Some _ _ (sym h.found ∙ ap (λ q. task q a.live) f ∙ r.lives) in
          let two = ap (map scope_of) (sym h.stakes) ∙ ap (λ (t : Live). map scope_of t.stakes) same ∙ its_stakes ∙ ap (map (own [])) e in
          absurd (nil_cons (sym (same_rest two)))
      lower (n ∷ above) e f = (above, ap (drop 1) e)

      up : (above : List ℕ) × ((if same_path p [] then left_one (told es []) else told es []).inside ≡ above ++ 0 ∷ [])
      up =
          by_test (λ x. (above : List ℕ) × ((if x then left_one (told es []) else told es []).inside ≡ above ++ 0 ∷ [])) (same_path p [])
          (λ f. lower r.above r.inside (paths_same p [] f))
          (λ f. (r.above, r.inside))

-- At most one live task is in a worker's hand.
use Rattle.std.proofs.Common.{◌≡◌, ℕ, ◌+◌, ◌-◌, ◌/◌, ◌≤◌, List, [], ◌∷◌, ◌++◌, Option, Some, refl, sym, ap, ◌∙◌, subst, arith}
use Rattle.std.proofs.lemmas.Bool.{ne_eqb, eqb-true, and_parts}
use Rattle.std.proofs.lemmas.Option.{none-some, same_Some}
use Rattle.std.proofs.lemmas.List.Sums.{sum_by-cons}
use Rattle.std.specs.Prelude.{ℤ, Bool, true, false, ◌&&◌, ◌||◌, not, nat_eq, sum_by, if◌then◌else◌}
use Rattle.shared_lemmas.proofs.Truths.{false_true}
use Rattle.types.specs.Code.{Program}
use Rattle.types.specs.Outcome.{Budget}
use Rattle.effects.specs.Rounds.{needs_of}
use Rattle.task_run.specs.Results.{TaskResult}
use Rattle.task_run.specs.OwnRun.{Start, Action, Step, Spawn, EnterFinish, EndFinish, EndTask}
use Rattle.task_run.specs.Given.{root_of}
use Rattle.task_run.proofs.SettledResults.{Gives, gives}
use Rattle.event_worlds.specs.World.{Stake, Live, World, Whereabouts, Queue, Hand, Parked, task, put_task}
use Rattle.event_worlds.specs.World.{without_task, child_path, scope, is_parked, in_queue, in_hand, hand_of, hand_is_free}
use Rattle.event_worlds.specs.Events.{Event, Take, Steal, Steps, Replenish, Spawns, Opens, Parks, Ends, Pass, Resume}
use Rattle.event_worlds.specs.Events.{did, new_task, first_world, by_step, by_resume, next, after}
use Rattle.event_worlds.specs.Replay.{does, hands_on, start_of}
use Rattle.event_worlds.specs.Worlds.{LeadsTo}
use Rattle.event_worlds.proofs.Lookups.{holds, task_path}
use Rattle.event_worlds.proofs.Changes.{InHand, in_hand as hand_event, IsAt, IsReplenish, IsSpawn, IsOpen, IsPark, IsEnd}
use Rattle.event_worlds.proofs.Changes.{IsPass, becomes}
use Rattle.event_worlds.proofs.Outcomes.{replays_are_worlds}
use Rattle.event_worlds.proofs.Worth.{sum_by-put_task, sum_by-without_task}

-- 1 if a task is in this worker's hand
abbrev in_one : ℕ → Live → ℕ
in_one v t = if in_hand t.place v then 1 else 0

abbrev pub AreApart : List Live → Type 0
AreApart ts = (v : ℕ) → sum_by (in_one v) ts ≤ 1

free_is : (v : ℕ) (ts : List Live) → hand_is_free v ts ≡ nat_eq (sum_by (in_one v) ts) 0
free_is v [] = refl
free_is v (t ∷ ts) =
    by_hand (in_hand t.place v) (free_is v ts) ∙ ap (λ n. nat_eq n 0) (sym (sum_by-cons (in_one v) t ts))
  where
    by_hand : (b : Bool) → hand_is_free v ts ≡ nat_eq (sum_by (in_one v) ts) 0
        → (not b && hand_is_free v ts) ≡ nat_eq ((if b then 1 else 0) + sum_by (in_one v) ts) 0
    by_hand true rec = sym (ne_eqb (1 + sum_by (in_one v) ts) 0 (λ e. omega (arith, e)))
    by_hand false rec =
        let same : sum_by (in_one v) ts ≡ 0 + sum_by (in_one v) ts = omega arith in
        rec ∙ ap (λ n. nat_eq n 0) same

free_none : (v : ℕ) (ts : List Live) → hand_is_free v ts ≡ true → sum_by (in_one v) ts ≡ 0
free_none v ts e = eqb-true (sum_by (in_one v) ts) 0 (sym (free_is v ts) ∙ e)

-- a task that is in a queue is in no hand
pub queue_out : (q : Whereabouts) (w v : ℕ) → in_queue q w ≡ true → in_hand q v ≡ false
queue_out (Queue u) w v e = refl
queue_out (Hand u) w v e = false_true e
queue_out Parked w v e = refl

parked_out : (q : Whereabouts) (v : ℕ) → is_parked q ≡ true → in_hand q v ≡ false
parked_out (Queue u) v e = refl
parked_out (Hand u) v e = false_true e
parked_out Parked v e = refl

-- ---- the changes
-- a task is replaced, and is in no new hand
put_apart : (to was : Live) (ts : List Live) → task to.path ts ≡ Some was → ((v : ℕ) → in_one v to ≤ in_one v was) → AreApart ts
    → AreApart (put_task to ts)
put_apart to was ts found less apart v =
    let sums = sum_by-put_task (in_one v) to was ts found in
    let le = less v in
    let few = apart v in
    omega (arith, sums, le, few)

-- a task that was in no hand moves into a hand that was free
taken_apart : (to was : Live) (ts : List Live) (w : ℕ) → task to.path ts ≡ Some was → ((v : ℕ) → in_hand was.place v ≡ false)
    → to.place ≡ Hand w → hand_is_free w ts ≡ true → AreApart ts → AreApart (put_task to ts)
taken_apart to was ts w found out put free apart v =
    let sums = sum_by-put_task (in_one v) to was ts found in
    let none = ap {B = ℕ} (λ (b : Bool). if b then 1 else 0) (out v) in
    let here = ap {B = ℕ} (λ q. if in_hand q v then 1 else 0) put in
    by_hand (nat_eq w v) refl sums none here
  where
    by_hand : (b : Bool) → nat_eq w v ≡ b
        → sum_by (in_one v) (put_task to ts) + in_one v was ≡ sum_by (in_one v) ts + in_one v to
        → in_one v was ≡ 0 → in_one v to ≡ (if nat_eq w v then 1 else 0) → sum_by (in_one v) (put_task to ts) ≤ 1
    by_hand true e sums none here =
        let one = here ∙ ap {B = ℕ} (λ (b : Bool). if b then 1 else 0) e in
        let empty = free_none v ts (ap (λ u. hand_is_free u ts) (sym (eqb-true w v e)) ∙ free) in
        omega (arith, sums, none, one, empty)
    by_hand false e sums none here =
        let zero_here = here ∙ ap {B = ℕ} (λ (b : Bool). if b then 1 else 0) e in
        let few = apart v in
        omega (arith, sums, none, zero_here, few)

none_less : (v : ℕ) (t : Live) → 0 ≤ in_one v t
none_less v t = omega arith

gone_apart : (q : List ℕ) (t : Live) (ts : List Live) → task q ts ≡ Some t → AreApart ts → AreApart (without_task q ts)
gone_apart q t ts found apart v =
    let sums = sum_by-without_task (in_one v) q t ts found in
    let few = apart v in
    omega (arith, sums, few)

module _ (w0 : ℕ) (actions : Start → List (List TaskResult) → List Action) (result : Start → List (List TaskResult) → TaskResult) where
  abbrev nx : Event → World → Option World
  nx = next w0 actions result

  module _ (a b : World) (apart : AreApart a.live) where
    took : (w : ℕ) (path : List ℕ) → nx (Take w path) a ≡ Some b → AreApart b.live
    took w path e =
        let g = gives (task path a.live) _ b e in
        let h = holds _ _ b g.next in
        let test = and_parts _ _ h.test in
        let named = task_path path a.live g.one g.first in
        subst (λ (x : World). AreApart x.live) (same_Some _ _ h.gives)
        (taken_apart (record g.one { place = Hand w }) g.one a.live w (ap (λ q. task q a.live) named ∙ g.first)
        (λ v. queue_out g.one.place w v test.0) refl test.1 apart)

    stole : (w f : ℕ) (path : List ℕ) → nx (Steal w f path) a ≡ Some b → AreApart b.live
    stole w f path e =
        let g = gives (task path a.live) _ b e in
        let h = holds _ _ b g.next in
        let named = task_path path a.live g.one g.first in
        subst (λ (x : World). AreApart x.live) (same_Some _ _ h.gives)
        (put_apart (record g.one { place = Queue w }) g.one a.live (ap (λ q. task q a.live) named ∙ g.first) (λ v. none_less v g.one) apart)

    stepped : (path : List ℕ) → nx (Steps path) a ≡ Some b → AreApart b.live
    stepped path e = by_action h.action h.goes
      where
        h : InHand w0 actions result path a b (λ t. by_step w0 actions result t a)
        h = hand_event w0 actions result path a b (λ t. by_step w0 actions result t a) e

        named : h.was.path ≡ path
        named = task_path path a.live h.was h.found

        by_action : (c : Action) → by_step w0 actions result h.was a c ≡ Some b → AreApart b.live
        by_action Step g =
            subst (λ (x : World). AreApart x.live) (same_Some _ _ g)
            (put_apart (did h.was h.was.stakes) h.was a.live (ap (λ q. task q a.live) named ∙ h.found) (λ v. omega arith) apart)
        by_action (Spawn c) g = absurd (none-some _ g)
        by_action EnterFinish g = absurd (none-some _ g)
        by_action EndFinish g = absurd (none-some _ g)
        by_action EndTask g = absurd (none-some _ g)

    at_found : (path : List ℕ) (at : IsAt path a) → task at.was.path a.live ≡ Some at.was
    at_found path at = ap (λ q. task q a.live) at.named ∙ at.found

    replenished : (path : List ℕ) → IsReplenish w0 path a b → AreApart b.live
    replenished path c =
        subst (λ (x : World). AreApart x.live) c.now
        (put_apart (record c.at.was { stakes = record c.at.inner { weight = 1 + w0 } ∷ c.at.outer }) c.at.was a.live (at_found path c.at)
        (λ v. omega arith) apart)

    opened : (does : Live → Option Action) (path : List ℕ) → IsOpen does w0 path a b → AreApart b.live
    opened does path c =
        subst (λ (x : World). AreApart x.live) c.now
        (put_apart
        (record (did c.was (record { scope = record { owner = c.was.path; number = c.was.opened + 1 }; weight = w0 } ∷ c.was.stakes)) {
          opened = c.was.opened + 1;
        }) c.was a.live (ap (λ q. task q a.live) c.named ∙ c.found) (λ v. omega arith) apart)

    spawned : (does : Live → Option Action) (path : List ℕ) → IsSpawn does path a b → AreApart b.live
    spawned does path c = subst (λ (x : World). AreApart x.live) c.now (λ v. more v)
      where
        to : Live
        to =
            record (did c.at.was (record c.at.inner {
              weight = c.at.inner.weight - c.at.inner.weight / 2;
            } ∷ c.at.outer)) { spawned = c.at.was.spawned + 1 }

        kid : Live
        kid =
            new_task (child_path c.at.was.path (c.at.was.spawned + 1)) c.child
            (record c.at.inner { weight = c.at.inner.weight / 2 }) c.at.worker

        more : (v : ℕ) → sum_by (in_one v) (kid ∷ put_task to a.live) ≤ 1
        more v =
            let sums = sum_by-cons (in_one v) kid (put_task to a.live) in
            let few = put_apart to c.at.was a.live (at_found path c.at) (λ v. omega arith) apart v in
            omega (arith, sums, few)

    parked : (does : Live → Option Action) (path : List ℕ) → IsPark does path a b → AreApart b.live
    parked does path c =
        subst (λ (x : World). AreApart x.live) c.now
        (put_apart (record (did c.at.was (record c.at.inner { weight = 0 } ∷ c.at.outer)) { place = Parked }) c.at.was a.live
        (at_found path c.at) (λ v. omega arith) apart)

    ended : (does : Live → Option Action) (hands : Live → TaskResult) (path : List ℕ) → IsEnd does hands path a b → AreApart b.live
    ended does hands path c =
        subst (λ (x : World). AreApart x.live) c.now (gone_apart c.at.was.path c.at.was a.live (at_found path c.at) apart)

    resumed : (w : ℕ) (path : List ℕ) (z : Option ℕ) → nx (Resume w path z) a ≡ Some b → AreApart b.live
    resumed w path z e = by_stakes g.one.stakes g.next
      where
        g : Gives (task path a.live) (λ t. by_resume w0 actions result w t a t.stakes) b
        g = gives (task path a.live) _ b e

        named : g.one.path ≡ path
        named = task_path path a.live g.one g.first

        by_stakes : (ss : List Stake) → by_resume w0 actions result w g.one a ss ≡ Some b → AreApart b.live
        by_stakes [] h = absurd (none-some _ h)
        by_stakes (x ∷ []) h = absurd (none-some _ h)
        by_stakes (x ∷ y ∷ more) h =
            let r = gives (scope x.scope a.scopes) _ b h in
            let t = holds _ _ b r.next in
            let k = and_parts _ _ t.test in
            subst (λ (x : World). AreApart x.live) (same_Some _ _ t.gives)
            (taken_apart (record g.one { receipts = g.one.receipts ++ r.one.results ∷ []; stakes = y ∷ more; place = Hand w })
            g.one a.live w (ap (λ q. task q a.live) named ∙ g.first) (λ v. parked_out g.one.place v k.0) refl (and_parts _ _ k.1).1 apart)

  event_apart : (e : Event) (a b : World) → AreApart a.live → nx e a ≡ Some b → AreApart b.live
  event_apart (Take w q) a b apart e = took a b apart w q e
  event_apart (Steal w f q) a b apart e = stole a b apart w f q e
  event_apart (Steps q) a b apart e = stepped a b apart q e
  event_apart (Replenish q) a b apart e = replenished a b apart q (becomes w0 actions result (Replenish q) a b e)
  event_apart (Spawns q) a b apart e = spawned a b apart _ q (becomes w0 actions result (Spawns q) a b e)
  event_apart (Opens q) a b apart e = opened a b apart _ q (becomes w0 actions result (Opens q) a b e)
  event_apart (Parks q) a b apart e = parked a b apart _ q (becomes w0 actions result (Parks q) a b e)
  event_apart (Ends q) a b apart e = ended a b apart _ _ q (becomes w0 actions result (Ends q) a b e)
  event_apart (Pass id) a b apart e = passed (becomes w0 actions result (Pass id) a b e)
    where
      passed : IsPass id a b → AreApart b.live
      passed c = subst (λ (x : World). AreApart x.live) c.now apart
  event_apart (Resume w q z) a b apart e = resumed a b apart w q z e

  list_apart : (es : List Event) (a b : World) → AreApart a.live → after w0 actions result es a ≡ Some b → AreApart b.live
  list_apart [] a b apart e = subst (λ (x : World). AreApart x.live) (same_Some _ _ e) apart
  list_apart (x ∷ es) a b apart e =
      let g = gives (nx x a) _ b e in
      list_apart es g.one b (event_apart x a g.one apart g.first) g.next

  first_apart : (root : Start) → AreApart (first_world w0 root).live
  first_apart root v = omega arith

-- this is true in every world that events lead to
pub hands_are_apart : (p : Program) (w0 : ℕ) (input : List (List ℤ)) (b : Budget) (es : List Event) (w : World)
    → LeadsTo p w0 input b es w → AreApart w.live
hands_are_apart p w0 input b es w leads =
    list_apart w0 (does p (needs_of p) b.steps w0) (hands_on p (needs_of p) b.steps w0) es (start_of p w0 input b) w
    (first_apart w0 (does p (needs_of p) b.steps w0) (hands_on p (needs_of p) b.steps w0)
    (root_of p input b.nest)) (replays_are_worlds p (needs_of p) w0 input b es w leads)

-- ---- a hand is free again
hand_is : (q : Whereabouts) (w v : ℕ) → hand_of q ≡ Some w → in_hand q v ≡ nat_eq w v
hand_is (Queue u) w v e = absurd (none-some _ e)
hand_is (Hand u) w v e = ap (λ x. nat_eq x v) (same_Some _ _ e)
hand_is Parked w v e = absurd (none-some _ e)

freed : (b : Bool) (n m : ℕ) → n + (if b then 1 else 0) ≡ m → m ≤ 1 → nat_eq n 0 ≡ (b || nat_eq m 0)
freed true n m e le =
    let none : n ≡ 0 = omega (arith, e, le) in
    ap (λ x. nat_eq x 0) none
freed false n m e le =
    let same : n ≡ m = omega (arith, e) in
    ap (λ x. nat_eq x 0) same

module _ (t : Live) (ts : List Live) (apart : AreApart ts) (w v : ℕ) (hand : hand_of t.place ≡ Some w) where
  one_is : in_one v t ≡ (if nat_eq w v then 1 else 0)
  one_is = ap {B = ℕ} (λ (b : Bool). if b then 1 else 0) (hand_is t.place w v hand)

  -- once the task that was in it is gone
  pub free_without : (path : List ℕ) → task path ts ≡ Some t → hand_is_free v (without_task path ts) ≡ (nat_eq w v || hand_is_free v ts)
  free_without path found =
      let sums = sum_by-without_task (in_one v) path t ts found in
      let one = one_is in
      free_is v (without_task path ts)
      ∙ freed (nat_eq w v) (sum_by (in_one v) (without_task path ts)) (sum_by (in_one v) ts) (omega (arith, sums, one)) (apart v)
      ∙ ap (λ b. nat_eq w v || b) (sym (free_is v ts))

  -- or is parked
  pub free_parked : (to : Live) → to.place ≡ Parked → task to.path ts ≡ Some t
      → hand_is_free v (put_task to ts) ≡ (nat_eq w v || hand_is_free v ts)
  free_parked to place found =
      let sums = sum_by-put_task (in_one v) to t ts found in
      let one = one_is in
      let none = ap {B = ℕ} (λ q. if in_hand q v then 1 else 0) place in
      free_is v (put_task to ts)
      ∙ freed (nat_eq w v) (sum_by (in_one v) (put_task to ts)) (sum_by (in_one v) ts) (omega (arith, sums, one, none)) (apart v)
      ∙ ap (λ b. nat_eq w v || b) (sym (free_is v ts))

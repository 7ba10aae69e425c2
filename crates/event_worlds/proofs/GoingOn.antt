-- Until the root's scope has passed, some event is legal.
use Rattle.std.proofs.Common.{◌≡◌, ℕ, zero, suc, ◌+◌, ◌*◌, ◌^◌, ◌≤◌, List, [], ◌∷◌, ◌++◌, length, Option, Some, None}
use Rattle.std.proofs.Common.{refl, sym, ap, ◌∙◌, subst, inl, inr, arith, le_refl}
use Rattle.std.proofs.lemmas.Bool.{ltb-false, leb-true, leb-false, eq-eqb, and_from}
use Rattle.std.proofs.lemmas.List.Elements.{Contains-append_cases}
use Rattle.std.specs.Prelude.{Bool, true, false, ◌⊎◌, ◌&&◌, not, nat_eq, nat_le, map, take, slice_get, Contains}
use Rattle.std.specs.Prelude.{if◌then◌else◌, is_some}
use Rattle.std.proofs.lemmas.Option.{none-some, same_Some}
use Rattle.shared_lemmas.proofs.Truths.{false_true}
use Rattle.shared_lemmas.proofs.Lists.{same_head, same_rest}
use Rattle.types.specs.Code.{Codes, Program}
use Rattle.effects.specs.Needs.{Needs}
use Rattle.task_run.specs.Results.{and_then}
use Rattle.task_run.specs.Lists.{Each}
use Rattle.task_run.specs.OwnRun.{is_waiting, run_by, actions_of, Start, Action, Step, Spawn, EnterFinish, EndFinish}
use Rattle.task_run.specs.OwnRun.{EndTask, last_action}
use Rattle.task_run.specs.Given.{in_truth, own, root_of}
use Rattle.task_run.proofs.CompleteResults.{path_same}
use Rattle.task_run.proofs.OnePath.{own_path}
use Rattle.task_run.proofs.SettledResults.{paths_same}
use Rattle.event_worlds.specs.Candidates.{candidates, in_hand as hand_events, when_parked}
use Rattle.event_worlds.specs.World.{same_path, ScopeId, Stake, Live, Scope, World, Whereabouts, Queue, Hand, Parked}
use Rattle.event_worlds.specs.World.{same_scope, root_scope, task, scope, in_queue, in_hand, is_parked, hand_of}
use Rattle.event_worlds.specs.World.{hand_is_free, weight_in, held}
use Rattle.event_worlds.specs.Events.{only_if, Event, Take, Steps, Replenish, Spawns, Opens, Parks, Ends, Pass, Resume}
use Rattle.event_worlds.specs.Events.{may_issue, next_action, with_next, in_innermost, by_step, by_replenish, by_spawn}
use Rattle.event_worlds.specs.Events.{by_open, by_park, by_end, by_resume}
use Rattle.event_worlds.specs.History.{told}
use Rattle.event_worlds.specs.Replay.{does, hands_on, event}
use Rattle.event_worlds.proofs.ReplayLaws.{IsFree, IsSpent, IsUnsettled, GoesOn, EndsAreOwn}
use Rattle.event_worlds.proofs.Lookups.{by_test, path_is, path_not, other_path, scopes_same, task_path}
use Rattle.event_worlds.proofs.Lookups.{Unique, each_task}
use Rattle.event_worlds.proofs.Histories.{contains_nil, contains_here, contains_later, contains_cons, contains_map}
use Rattle.event_worlds.proofs.Histories.{nil_cons, nil_snoc}
use Rattle.event_worlds.proofs.Stakes.{scope_of, own as own_scope, IsPositive, Weighty, weighty_awake}
use Rattle.event_worlds.proofs.Changes.{hand_awake}
use Rattle.event_worlds.proofs.Kept.{base, Hangs, IsTold}
use Rattle.event_worlds.proofs.Truth.{Rel}
use Rattle.event_worlds.proofs.Levels.{depth, depth-append, depth-last_action, take-append, depth_next}
use Rattle.event_worlds.proofs.Direct.{bracketed}
use Rattle.event_worlds.proofs.Numbered.{get_last}
use Rattle.event_worlds.proofs.OwnTasks.{IsOwnTask, truly, truly_is, own_is_awake, awake_level, next_in_truth}
use Rattle.event_worlds.proofs.OwnTasks.{in_truth_or_behind, start_path, IsAtLevel, no_level}
use Rattle.event_worlds.proofs.Present.{IsThere, Falls, told_falls}
use Rattle.event_worlds.proofs.Outcomes.{IsSound, sound}

-- ---- a search through the live tasks
later_found : (u t : Live) (q : List ℕ) (ts : List Live) → Unique (u ∷ ts) → task q ts ≡ Some t → task q (u ∷ ts) ≡ Some t
later_found u t q ts h e =
    by_test (λ b. (if b then Some u else task q ts) ≡ Some t) (same_path u.path q)
    (λ f. absurd (none-some _ (sym h.0 ∙ ap (λ r. task r ts) (paths_same u.path q f) ∙ e)))
    (λ f. e)

here_found : (u : Live) (ts : List Live) → task u.path (u ∷ ts) ≡ Some u
here_found u ts = ap (λ (b : Bool). if b then Some u else task u.path ts) (path_same u.path)

record Found (P : Live → Bool) (ts : List Live) : Type 0 where
  path : List ℕ
  its : Live
  lives : task path ts ≡ Some its
  fits : P its ≡ true

search_all : (P : Live → Bool) (ts : List Live) → Unique ts → Found P ts ⊎ Each (λ t. P t ≡ false) ts
search_all P [] h = inr tt
search_all P (u ∷ ts) h =
    by_test (λ b. P u ≡ b → Found P (u ∷ ts) ⊎ Each (λ t. P t ≡ false) (u ∷ ts)) (P u)
    (λ f g. inl (record { path = u.path; its = u; lives = here_found u ts; fits = f }))
    (λ f g. further f (search_all P ts h.1)) refl
  where
    further : P u ≡ false → Found P ts ⊎ Each (λ t. P t ≡ false) ts → Found P (u ∷ ts) ⊎ Each (λ t. P t ≡ false) (u ∷ ts)
    further f (inl g) = inl (record { path = g.path; its = g.its; lives = later_found u g.its g.path ts h g.lives; fits = g.fits })
    further f (inr g) = inr (f, g)

-- a property of each task that is found is true of all
pub each_of : (P : Live → Type 0) (ts : List Live) → Unique ts → ((q : List ℕ) (t : Live) → task q ts ≡ Some t → P t) → Each P ts
each_of P [] h f = tt
each_of P (u ∷ ts) h f = (f u.path u (here_found u ts), each_of P ts h.1 (λ q t e. f q t (later_found u t q ts h e)))

-- one with the longest path
record Longest (ts : List Live) : Type 0 where
  its : Live
  lives : task its.path ts ≡ Some its
  all : Each (λ (t : Live). length t.path ≤ length its.path) ts

longest : (u : Live) (ts : List Live) → Unique (u ∷ ts) → Longest (u ∷ ts)
longest u [] h = record { its = u; lives = here_found u []; all = (le_refl (length u.path), tt) }
longest u (v ∷ ts) h = compare_with (longest v ts h.1)
  where
    all_less : (n m : ℕ) (ts : List Live) → n ≤ m → Each (λ (t : Live). length t.path ≤ n) ts → Each (λ (t : Live). length t.path ≤ m) ts
    all_less n m [] le k = tt
    all_less n m (t ∷ ts) le k = ((let x = k.0 in omega (arith, x, le)), all_less n m ts le k.1)

    compare_with : Longest (v ∷ ts) → Longest (u ∷ v ∷ ts)
    compare_with l =
        by_test (λ b. nat_le (length l.its.path) (length u.path) ≡ b → Longest (u ∷ v ∷ ts)) (nat_le (length l.its.path) (length u.path))
        (λ f g. record { its = u; lives = here_found u (v ∷ ts); all = (le_refl (length u.path), all_less (length l.its.path) (length u.path) (v ∷ ts) (leb-true _ _ f) l.all) })
        (λ f g. record { its = l.its; lives = later_found u l.its l.its.path (v ∷ ts) h l.lives; all = ((let x = leb-false (length l.its.path) (length u.path) f in omega (arith, x)), l.all) }) refl

-- ---- locations
is_hand : Live → Bool
is_hand t = is_some (hand_of t.place)

is_queued : Live → Bool
is_queued t = by_place t.place
  where
    by_place : Whereabouts → Bool
    by_place (Queue w) = true
    by_place (Hand w) = false
    by_place Parked = false

hand_is : (t : Live) → is_hand t ≡ true → (w : ℕ) × (hand_of t.place ≡ Some w)
unfolding is_hand
hand_is t e = by_place t.place refl
  where
    by_place : (q : Whereabouts) → t.place ≡ q → (w : ℕ) × (hand_of t.place ≡ Some w)
    by_place (Hand w) f = (w, ap hand_of f)
    by_place (Queue w) f = absurd (false_true (sym (ap (λ q. is_hand (record t { place = q })) f) ∙ e))
    by_place Parked f = absurd (false_true (sym (ap (λ q. is_hand (record t { place = q })) f) ∙ e))

queue_is : (t : Live) → is_queued t ≡ true → (w : ℕ) × (t.place ≡ Queue w)
unfolding is_queued
queue_is t e = by_place t.place refl
  where
    by_place : (q : Whereabouts) → t.place ≡ q → (w : ℕ) × (t.place ≡ Queue w)
    by_place (Queue w) f = (w, f)
    by_place (Hand w) f = absurd (false_true (sym (ap (λ q. is_queued (record t { place = q })) f) ∙ e))
    by_place Parked f = absurd (false_true (sym (ap (λ q. is_queued (record t { place = q })) f) ∙ e))

parked_is : (t : Live) → is_hand t ≡ false → is_queued t ≡ false → t.place ≡ Parked
unfolding is_hand is_queued
parked_is t e f = by_place t.place refl
  where
    by_place : (q : Whereabouts) → t.place ≡ q → t.place ≡ Parked
    by_place Parked g = g
    by_place (Hand w) g = absurd (false_true (sym e ∙ ap (λ q. is_hand (record t { place = q })) g))
    by_place (Queue w) g = absurd (false_true (sym f ∙ ap (λ q. is_queued (record t { place = q })) g))

not_in_hand : (t : Live) (w : ℕ) → is_hand t ≡ false → in_hand t.place w ≡ false
unfolding is_hand
not_in_hand t w e = by_place t.place refl
  where
    by_place : (q : Whereabouts) → t.place ≡ q → in_hand q w ≡ false
    by_place Parked g = refl
    by_place (Queue v) g = refl
    by_place (Hand v) g = absurd (false_true (sym e ∙ ap (λ q. is_hand (record t { place = q })) g))

free_hand : (w : ℕ) (ts : List Live) → Each (λ t. is_hand t ≡ false) ts → hand_is_free w ts ≡ true
free_hand w [] h = refl
free_hand w (t ∷ ts) h = ap (λ b. not b && hand_is_free w ts) (not_in_hand t w h.0) ∙ free_hand w ts h.1

-- ---- weights
weight_absent : (id : ScopeId) (ss : List Stake) → (Contains (map scope_of ss) id → ⊥) → weight_in id ss ≡ 0
weight_absent id [] h = refl
weight_absent id (s ∷ ss) h = both (same_scope s.scope id) refl (weight_absent id ss (λ c. h (contains_later s.scope (map scope_of ss) id c)))
  where
    both : (b : Bool) → same_scope s.scope id ≡ b → weight_in id ss ≡ 0 → (if b then s.weight else 0) + weight_in id ss ≡ 0
    both true e f = absurd (h (subst (Contains (s.scope ∷ map scope_of ss)) (scopes_same s.scope id e) (contains_here s.scope (map scope_of ss))))
    both false e f = omega (arith, f)

held_none : (id : ScopeId) (ts : List Live) → Each (λ (t : Live). weight_in id t.stakes ≡ 0) ts → held id ts ≡ 0
held_none id [] h = refl
held_none id (t ∷ ts) h = let a = h.0 in let b = held_none id ts h.1 in omega (arith, a, b)

falls_absent : (b n : ℕ) (ns : List ℕ) → Falls b ns → b ≤ n → Contains ns n → ⊥
falls_absent b n [] h le c = contains_nil n c
falls_absent b n (m ∷ ns) h le c = by_place (contains_cons m ns n c) (falls_absent m n ns h.1 (let x = h.0 in omega (arith, x, le)))
  where
    by_place : (m ≡ n) ⊎ Contains ns n → (Contains ns n → ⊥) → ⊥
    by_place (inl e) rec = let x = h.0 in omega (arith, x, le, e)
    by_place (inr d) rec = rec d

pub take_all : {A : Type 0} (xs ys : List A) → take (length xs) (xs ++ ys) ≡ xs
take_all [] ys = refl
take_all (x ∷ xs) ys = ap (λ l. x ∷ l) (take_all xs ys)

take_past : {A : Type 0} (xs : List A) (k : ℕ) → slice_get xs k ≡ None → take k xs ≡ xs
take_past [] zero e = refl
take_past [] (suc k) e = refl
take_past (x ∷ xs) zero e = absurd (none-some _ (sym e))
take_past (x ∷ xs) (suc k) e = ap (λ l. x ∷ l) (take_past xs k e)

no_more : (ss : List Stake) → 0 ≡ length ss → ss ≡ []
no_more [] e = refl
no_more (s ∷ ss) e = absurd (omega (arith, e))

hand_place : (x : Whereabouts) (v : ℕ) → hand_of x ≡ Some v → x ≡ Hand v
hand_place (Hand u) v e = ap Hand (same_Some _ _ e)
hand_place (Queue u) v e = absurd (none-some _ e)
hand_place Parked v e = absurd (none-some _ e)

found_goes : {A : Type 0} (o : Option A) (r : A) (go : A → Option World) → o ≡ Some r → and_then o go ≡ go r
found_goes o r go e = ap (λ o. and_then o go) e

only_true : (b : Bool) (o : Option World) → b ≡ true → only_if b o ≡ o
only_true b o e = ap (λ b. only_if b o) e

module _ (p : Program) (needs : Codes → Needs) (fresh w0 : ℕ) (least : 1 ≤ w0) (root : Start) (nameless : root.path ≡ []) (es : List Event) (w : World) (h : IsSound p needs fresh w0 least root nameless es w) where
  abbrev does_next : Live → Option Action
  does_next t = next_action w0 (does p needs fresh w0) (hands_on p needs fresh w0) t

  abbrev Goes : Type 0
  Goes = IsFree p needs fresh w0 w ⊎ IsSpent p needs fresh w0 w ⊎ IsUnsettled p needs fresh w0 w

  free : (q : List ℕ) (t : Live) → task q w.live ≡ Some t → (e : Event) → Contains (candidates 0 q t.place t.stakes) e
      → (b : World) → event p needs fresh w0 e w ≡ Some b → Goes
  free q t lives e c b f = inl (record { first = e; to = b; legal = f; path = q; its = t; lives = lives; among = c })

  -- ---- a task in a hand
  module _ (q : List ℕ) (t : Live) (lives : task q w.live ≡ Some t) (v : ℕ) (hand : hand_of t.place ≡ Some v) where
    awake : is_parked t.place ≡ false
    awake = hand_awake t.place v hand

    -- an event of a task in a hand
    free_at : (e : Event) → Contains (hand_events q) e → (b : World) → event p needs fresh w0 e w ≡ Some b → Goes
    free_at e c = free q t lives e (subst (λ x. Contains (candidates 0 q x t.stakes) e) (sym (hand_place t.place v hand)) c)

    its : IsOwnTask p needs fresh w0 root nameless t
    its = h.own.tasks q t lives

    tells : IsTold (told es q) (h.kept.line q) q t
    tells = h.kept.tasks q t lives

    named : t.path ≡ q
    named = task_path q w.live t lives

    next_is : (a : Action) (go : Live → Action → Option World) → does_next t ≡ Some a → with_next w0 (does p needs fresh w0) (hands_on p needs fresh w0) q w go ≡ go t a
    next_is a go e =
        ap (λ o. and_then o (λ t. and_then (hand_of t.place) (λ v. and_then (does_next t) (go t)))) lives
        ∙ ap (λ o. and_then o (λ v. and_then (does_next t) (go t))) hand ∙ ap (λ o. and_then o (go t)) e

    module _ (s : Stake) (outer : List Stake) (are : t.stakes ≡ s ∷ outer) where
      scopes_are : map scope_of (s ∷ outer) ≡ map (own_scope q) (told es q).inside ++ base (h.kept.line q)
      scopes_are = ap (map scope_of) (sym are) ∙ tells.stakes

      level : depth 0 (take t.done (truly p needs fresh w0 root nameless t.start)) ≡ Some (length outer)
      level = awake_level p needs fresh w0 root nameless t.place s outer t awake (subst (λ ss. IsAtLevel p needs fresh w0 root nameless t.place ss t) are its.level)

      inner_is : (go : Stake → List Stake → Option World) → in_innermost w0 (does p needs fresh w0) (hands_on p needs fresh w0) t.stakes go ≡ go s outer
      inner_is go = ap (λ ss. in_innermost w0 (does p needs fresh w0) (hands_on p needs fresh w0) ss go) are

      its_scope : IsThere w.scopes s
      its_scope = (subst (Each (IsThere w.scopes)) are (h.there q t lives)).0

      -- an event that needs its innermost scope
      goes_inside : (a : Action) (go : Live → Stake → List Stake → World → Action → Option World) → does_next t ≡ Some a
          → with_next w0 (does p needs fresh w0) (hands_on p needs fresh w0) q w (λ t a. in_innermost w0 (does p needs fresh w0) (hands_on p needs fresh w0) t.stakes (λ s outer. go t s outer w a)) ≡ go t s outer w a
      goes_inside a go e =
          next_is a (λ t a. in_innermost w0 (does p needs fresh w0) (hands_on p needs fresh w0) t.stakes (λ s outer. go t s outer w a)) e
          ∙ inner_is (λ s outer. go t s outer w a)

      abbrev raw : List Action
      raw = (own p needs fresh t.start).extra.actions

      -- an action without an open finish is the last one
      last_only : (a : Action) → does_next t ≡ Some a → depth (length outer) (a ∷ []) ≡ None → (t.done ≡ length raw) × (last_action t.path ≡ a)
      last_only a e none = by_place (get_last (own p needs fresh t.start).extra.actions (last_action (own p needs fresh t.start).path) a t.done (ap (λ l. slice_get l t.done) (sym (truly_is p needs fresh w0 root nameless t.start)) ∙ next_in_truth p needs fresh w0 root nameless t its a e))
        where
          by_place : (slice_get (own p needs fresh t.start).extra.actions t.done ≡ Some a) ⊎ ((t.done ≡ length (own p needs fresh t.start).extra.actions) × (last_action (own p needs fresh t.start).path ≡ a))
              → (t.done ≡ length (own p needs fresh t.start).extra.actions) × (last_action t.path ≡ a)
          by_place (inl f) =
              let first = ap (take t.done) (truly_is p needs fresh w0 root nameless t.start) ∙ take-append (own p needs fresh t.start).extra.actions _ t.done a f in
              let bb = bracketed p needs fresh (in_truth p needs fresh) t.start in
              let g = depth_next 0 (own p needs fresh t.start).extra.actions t.done a bb.rise (length outer) bb.level f (ap (depth 0) (sym first) ∙ level) in
              absurd (none-some _ (sym none ∙ g.1))
          by_place (inr f) =
              (f.0, ap last_action (sym (own_path p needs fresh t.start ∙ start_path p needs fresh w0 root nameless t its)) ∙ f.1)

      -- if it ends a finish, this finish is its own
      pub park_owned : does_next t ≡ Some EndFinish → same_path t.path s.scope.owner ≡ true
      park_owned e = by_inside (told es q).inside (h.kept.line q) refl scopes_are
        where
          own_last : (q : List ℕ) → last_action q ≡ EndFinish → q ≡ []
          own_last [] e = refl
          own_last (j ∷ q) e = absurd (subst IsEnd e tt)
            where
              IsEnd : Action → Type 0
              IsEnd EndTask = Unit {0}
              IsEnd x = ⊥

          by_inside : (ns : List ℕ) (l : List ScopeId) → h.kept.line q ≡ l → map scope_of (s ∷ outer) ≡ map (own_scope q) ns ++ base l → same_path t.path s.scope.owner ≡ true
          by_inside (n ∷ ns) l f g = path_is (named ∙ ap (λ (i : ScopeId). i.owner) (sym (same_head g)))
          by_inside [] [] f g = absurd (nil_cons (sym g))
          by_inside [] (b ∷ l) f g =
              let none : depth (length outer) (EndFinish ∷ []) ≡ None = ap (λ ss. depth (length ss) (EndFinish ∷ [])) (alone outer (same_rest g)) in
              let k = last_only EndFinish e none in
              let r : q ≡ [] = sym named ∙ own_last t.path k.1 in
              absurd (nil_cons (sym h.kept.no_line ∙ ap h.kept.line (sym r) ∙ f))
            where
              alone : (ss : List Stake) → map scope_of ss ≡ [] → ss ≡ []
              alone [] e = refl
              alone (s ∷ ss) e = absurd (nil_cons (sym e))

      -- if it ends, it is in none of its own scopes
      pub end_alone : does_next t ≡ Some EndTask → same_path t.path s.scope.owner ≡ false
      end_alone e = by_kind (h.kept.hangs q t lives)
        where
          k : (t.done ≡ length raw) × (last_action t.path ≡ EndTask)
          k = last_only EndTask e refl

          IsFin : Action → Type 0
          IsFin EndFinish = Unit {0}
          IsFin x = ⊥

          not_root : q ≡ [] → ⊥
          not_root f = subst IsFin (ap last_action (sym (named ∙ f)) ∙ k.1) tt

          by_kind : (q ≡ []) ⊎ Hangs es w.live h.kept.line q → same_path t.path s.scope.owner ≡ false
          by_kind (inl f) = absurd (not_root f)
          by_kind (inr g) = by_inside (told es q).inside (scopes_are ∙ ap (λ l. map (own_scope q) (told es q).inside ++ base l) g.lined)
            where
              none_below : outer ≡ []
              none_below =
                  let b = bracketed p needs fresh (in_truth p needs fresh) t.start in
                  let whole = ap (λ n. take n (truly p needs fresh w0 root nameless t.start)) k.0 ∙ ap (take (length raw)) (truly_is p needs fresh w0 root nameless t.start) ∙ take_all raw _ in
                  let same : b.rise ≡ length outer = same_Some _ _ (sym b.level ∙ ap (depth 0) (sym whole) ∙ level) in
                  let flat = b.flat (own_is_awake p needs fresh w0 root nameless t.start) in
                  no_more outer (omega (arith, same, flat))

              other : g.owner ≡ q → ⊥
              other f = let a = g.shorter in let b : length g.owner ≡ length q = ap length f in omega (arith, a, b)

              by_inside : (ns : List ℕ) → map scope_of (s ∷ outer) ≡ map (own_scope q) ns ++ own_scope g.owner g.number ∷ [] → same_path t.path s.scope.owner ≡ false
              by_inside [] f = path_not t.path s.scope.owner (λ i. other (ap (λ (j : ScopeId). j.owner) (sym (same_head f)) ∙ sym i ∙ named))
              by_inside (n ∷ ns) f = absurd (nil_snoc (map (own_scope q) ns) (own_scope g.owner g.number) [] (sym (ap (map scope_of) none_below) ∙ same_rest f))

    -- its own run waits if nothing is left to do
    still_waits : (s : Stake) (outer : List Stake) → t.stakes ≡ s ∷ outer → does_next t ≡ None → is_waiting (run_by p needs fresh t.receipts t.start) ≡ true
    still_waits s outer are e = by_rel (in_truth_or_behind p needs fresh w0 root nameless t its)
      where
        in_truth' : run_by p needs fresh t.receipts t.start ≡ own p needs fresh t.start → ⊥
        in_truth' f =
            let b = bracketed p needs fresh (in_truth p needs fresh) t.start in
            let all : take t.done (truly p needs fresh w0 root nameless t.start) ≡ truly p needs fresh w0 root nameless t.start = take_past (truly p needs fresh w0 root nameless t.start) t.done (ap (λ st. slice_get (actions_of st) t.done) (sym f) ∙ e) in
            let zero_rise = b.flat (own_is_awake p needs fresh w0 root nameless t.start) in
            let end = ap (depth 0) (truly_is p needs fresh w0 root nameless t.start)
            ∙ depth-append 0 (own p needs fresh t.start).extra.actions (last_action (own p needs fresh t.start).path ∷ []) b.rise b.level
            ∙ ap (λ n. depth n (last_action (own p needs fresh t.start).path ∷ [])) zero_rise ∙ depth-last_action (own p needs fresh t.start).path in
            none-some _ (sym end ∙ ap (depth 0) (sym all) ∙ level s outer are)

        by_rel : Rel (run_by p needs fresh t.receipts t.start) (own p needs fresh t.start) → is_waiting (run_by p needs fresh t.receipts t.start) ≡ true
        by_rel (inl f) = absurd (in_truth' f)
        by_rel (inr f) = f.waits

    replenishes : (s : Stake) (outer : List Stake) → t.stakes ≡ s ∷ outer → (c : Start) → does_next t ≡ Some (Spawn c) → (r : Scope) → scope s.scope w.scopes ≡ Some r → s.weight ≡ 1 → may_issue w0 r ≡ true → Goes
    replenishes s outer are c e r found one may =
        free_at (Replenish q) (3, omega arith, refl) _
        (goes_inside s outer are (Spawn c) (by_replenish w0 (does p needs fresh w0) (hands_on p needs fresh w0)) e ∙ found_goes _ r _ found
        ∙ only_true _ _ (and_from (nat_eq s.weight 1) (may_issue w0 r) (eq-eqb s.weight 1 one) may))

    -- ---- the next action is legal
    by_action : (s : Stake) (outer : List Stake) → t.stakes ≡ s ∷ outer → (o : Option Action) → does_next t ≡ o → Goes
    by_action s outer are None e = inr (inr (record { path = q; its = t; lives = lives; awake = awake; nothing = e; waits = still_waits s outer are e }))
    by_action s outer are (Some Step) e = free_at (Steps q) (5, omega arith, refl) _ (next_is Step (λ t. by_step w0 (does p needs fresh w0) (hands_on p needs fresh w0) t w) e)
    by_action s outer are (Some EnterFinish) e = free_at (Opens q) (2, omega arith, refl) _ (next_is EnterFinish (λ t. by_open w0 (does p needs fresh w0) (hands_on p needs fresh w0) t w) e)
    by_action s outer are (Some EndFinish) e =
        let r = its_scope s outer are in
        free_at (Parks q) (1, omega arith, refl) _
        (goes_inside s outer are EndFinish (by_park w0 (does p needs fresh w0) (hands_on p needs fresh w0)) e ∙ found_goes _ r.0 _ r.1
        ∙ only_true _ _ (park_owned s outer are e))
    by_action s outer are (Some EndTask) e =
        let r = its_scope s outer are in
        free_at (Ends q) (0, omega arith, refl) _
        (goes_inside s outer are EndTask (by_end w0 (does p needs fresh w0) (hands_on p needs fresh w0)) e ∙ found_goes _ r.0 _ r.1
        ∙ only_true _ _ (ap not (end_alone s outer are e)))
    by_action s outer are (Some (Spawn c)) e =
        by_test (λ b. nat_le 2 s.weight ≡ b → Goes) (nat_le 2 s.weight)
        (λ f g. free_at (Spawns q) (4, omega arith, refl) _
        (goes_inside s outer are (Spawn c) (by_spawn w0 (does p needs fresh w0) (hands_on p needs fresh w0)) e ∙ found_goes _ v _ hand
        ∙ only_true _ _ f))
        (λ f g. wants f) refl
      where
        r : IsThere w.scopes s
        r = its_scope s outer are

        positive : 1 ≤ s.weight
        positive = (subst (Each IsPositive) are (weighty_awake t.place q t.stakes awake tells.weighty)).0

        weighs_one : nat_le 2 s.weight ≡ false → s.weight ≡ 1
        weighs_one f = let less = leb-false 2 s.weight f in let a = positive in omega (arith, less, a)

        wants : nat_le 2 s.weight ≡ false → Goes
        wants f =
            by_test (λ b. may_issue w0 r.0 ≡ b → Goes) (may_issue w0 r.0)
            (λ g i. replenishes s outer are c e r.0 r.1 (weighs_one f) g)
            (λ g i. inr (inl (record {
              path = q;
              its = t;
              lives = lives;
              child = c;
              wants = e;
              inner = s;
              outer = outer;
              stakes = are;
              one = weighs_one f;
              book = r.0;
              found = r.1;
              spent = ltb-false r.0.issued (2 ^ 31 * w0) g;
            }))) refl

  in_hand_goes : (q : List ℕ) (t : Live) → task q w.live ≡ Some t → (v : ℕ) → hand_of t.place ≡ Some v → Goes
  in_hand_goes q t lives v hand = by_stakes t.stakes refl ((h.own.tasks q t lives).level)
    where
      by_stakes : (ss : List Stake) → t.stakes ≡ ss → IsAtLevel p needs fresh w0 root nameless t.place t.stakes t → Goes
      by_stakes [] e l = absurd (no_level p needs fresh w0 root nameless t.place t (subst (λ ss. IsAtLevel p needs fresh w0 root nameless t.place ss t) e l))
      by_stakes (s ∷ outer) e l = by_action q t lives v hand s outer e (does_next t) refl

  -- ---- a task in a queue, if all hands are free
  in_queue_goes : (q : List ℕ) (t : Live) → task q w.live ≡ Some t → (v : ℕ) → t.place ≡ Queue v → hand_is_free v w.live ≡ true → Goes
  in_queue_goes q t lives v at open_hand =
      free q t lives (Take v q) (subst (λ x. Contains (candidates 0 q x t.stakes) (Take v q)) (sym at) (contains_here (Take v q) [])) _
      (found_goes _ t _ lives ∙ only_true _ _ (and_from (in_queue t.place v) (hand_is_free v w.live) (ap (λ x. in_queue x v) at ∙ eq-eqb v v refl) open_hand))

  -- ---- all tasks are parked: the one with the longest path continues
  module _ (parked : (q : List ℕ) (t : Live) → task q w.live ≡ Some t → t.place ≡ Parked) (hands_free : (v : ℕ) → hand_is_free v w.live ≡ true)
      (top : Scope) (top_is : scope root_scope w.scopes ≡ Some top) (not_passed : top.passed ≡ false) (l : Longest w.live) where
    abbrev t : Live
    t = l.its

    abbrev q : List ℕ
    q = l.its.path

    longest_told : IsTold (told es q) (h.kept.line q) q t
    longest_told = h.kept.tasks q t l.lives

    module _ (s : Stake) (outer : List Stake) (are : t.stakes ≡ s ∷ outer) (weightless : s.weight ≡ 0) (own_owner : s.scope.owner ≡ q) where
      longest_scopes : map scope_of (s ∷ outer) ≡ map (own_scope q) (told es q).inside ++ base (h.kept.line q)
      longest_scopes = ap (map scope_of) (sym are) ∙ longest_told.stakes

      record IsInner : Type 0 where
        number : ℕ
        low : List ℕ
        inside : (told es q).inside ≡ number ∷ low
        same : s.scope ≡ own_scope q number
        others : map scope_of outer ≡ map (own_scope q) low ++ base (h.kept.line q)

      not_base : (b : ScopeId) (rest : List ScopeId) → h.kept.line q ≡ b ∷ rest → b.owner ≡ q → ⊥
      not_base b rest e f = by_kind (h.kept.hangs q t l.lives)
        where
          by_kind : (q ≡ []) ⊎ Hangs es w.live h.kept.line q → ⊥
          by_kind (inl g) = nil_cons (sym h.kept.no_line ∙ ap h.kept.line (sym g) ∙ e)
          by_kind (inr g) =
              let same : g.owner ≡ q = ap (λ (i : ScopeId). i.owner) (same_head (sym g.lined ∙ e)) ∙ f in
              let a = g.shorter in let n : length g.owner ≡ length q = ap length same in omega (arith, a, n)

      inner : IsInner
      inner = by_inside (told es q).inside (h.kept.line q) refl refl longest_scopes
        where
          by_inside : (ns : List ℕ) (line : List ScopeId) → (told es q).inside ≡ ns → h.kept.line q ≡ line → map scope_of (s ∷ outer) ≡ map (own_scope q) ns ++ base line → IsInner
          by_inside (n ∷ ns) line e f g = record { number = n; low = ns; inside = e; same = same_head g; others = same_rest g ∙ ap (λ x. map (own_scope q) ns ++ base x) (sym f) }
          by_inside [] [] e f g = absurd (nil_cons (sym g))
          by_inside [] (b ∷ rest) e f g = absurd (not_base b rest f (ap (λ (i : ScopeId). i.owner) (sym (same_head g)) ∙ own_owner))

      -- the scope in which a task was spawned is none of this task's own
      base_other : (r : List ℕ) (u : Live) → task r w.live ≡ Some u → Contains (base (h.kept.line r)) s.scope → ⊥
      base_other r u e c = by_kind (h.kept.hangs r u e)
        where
          short : length r ≤ length q
          short = let a = each_task (λ (t : Live). length t.path ≤ length q) r w.live u l.all e in let b : length u.path ≡ length r = ap length (task_path r w.live u e) in omega (arith, a, b)

          by_kind : (r ≡ []) ⊎ Hangs es w.live h.kept.line r → ⊥
          by_kind (inl g) = contains_nil s.scope (subst (λ x. Contains (base x) s.scope) (ap h.kept.line g ∙ h.kept.no_line) c)
          by_kind (inr g) = by_place (contains_cons (own_scope g.owner g.number) [] s.scope (subst (λ x. Contains (base x) s.scope) g.lined c))
            where
              by_place : (own_scope g.owner g.number ≡ s.scope) ⊎ Contains [] s.scope → ⊥
              by_place (inl f) =
                  let same : g.owner ≡ q = ap (λ (i : ScopeId). i.owner) f ∙ own_owner in
                  let a = g.shorter in let b : length g.owner ≡ length q = ap length same in let c = short in omega (arith, a, b, c)
              by_place (inr f) = contains_nil s.scope f

      -- no task has weight in its innermost scope
      absent : (r : List ℕ) (u : Live) → task r w.live ≡ Some u → weight_in s.scope u.stakes ≡ 0
      absent r u e =
          by_test (λ b. same_path q r ≡ b → weight_in s.scope u.stakes ≡ 0) (same_path q r)
          (λ f g. itself (paths_same q r f))
          (λ f g. weight_absent s.scope u.stakes (others (other_path f))) refl
        where
          low_absent : Contains (map scope_of outer) s.scope → ⊥
          low_absent c = by_part (Contains-append_cases (map (own_scope q) inner.low) (base (h.kept.line q)) s.scope (subst (λ x. Contains x s.scope) inner.others c))
            where
              by_part : Contains (map (own_scope q) inner.low) s.scope ⊎ Contains (base (h.kept.line q)) s.scope → ⊥
              by_part (inl f) =
                  let g = contains_map (own_scope q) inner.low s.scope f in
                  let n : g.0 ≡ inner.number = ap (λ (i : ScopeId). i.number) (g.2 ∙ inner.same) in
                  let falls = subst (Falls ((told es q).opened + 1)) inner.inside (told_falls es q) in
                  falls_absent inner.number inner.number inner.low falls.1 (le_refl inner.number) (subst (Contains inner.low) n g.1)
              by_part (inr f) = base_other q t l.lives f

          itself : q ≡ r → weight_in s.scope u.stakes ≡ 0
          itself f =
              let same : u ≡ t = same_Some _ _ (sym e ∙ ap (λ x. task x w.live) (sym f) ∙ l.lives) in
              let a : weight_in s.scope u.stakes ≡ weight_in s.scope (s ∷ outer) = ap (λ (u : Live). weight_in s.scope u.stakes) same ∙ ap (weight_in s.scope) are in
              let b = weight_absent s.scope outer low_absent in
              let c : (if same_scope s.scope s.scope then s.weight else 0) ≡ 0 = ap (λ n. if same_scope s.scope s.scope then n else 0) weightless ∙ zero_if (same_scope s.scope s.scope) in
              omega (arith, a, b, c)
            where
              zero_if : (b : Bool) → ◌≡◌ {A = ℕ} (if b then 0 else 0) 0
              zero_if true = refl
              zero_if false = refl

          others : (q ≡ r → ⊥) → Contains (map scope_of u.stakes) s.scope → ⊥
          others n c = by_part (Contains-append_cases (map (own_scope r) (told es r).inside) (base (h.kept.line r)) s.scope (subst (λ x. Contains x s.scope) (h.kept.tasks r u e).stakes c))
            where
              by_part : Contains (map (own_scope r) (told es r).inside) s.scope ⊎ Contains (base (h.kept.line r)) s.scope → ⊥
              by_part (inl f) = let g = contains_map (own_scope r) (told es r).inside s.scope f in n (sym (ap (λ (i : ScopeId). i.owner) g.2 ∙ own_owner))
              by_part (inr f) = base_other r u e f

      all_back : (r : Scope) → scope s.scope w.scopes ≡ Some r → r.issued ≡ r.returned
      all_back r f =
          let a = (h.kept.scopes s.scope r f).books in
          let b = held_none s.scope w.live (each_of (λ (t : Live). weight_in s.scope t.stakes ≡ 0) w.live h.kept.unique absent) in
          omega (arith, a, b)

      -- if it is only in its own scopes, it is the root, in its outer finish
      only_root : outer ≡ [] → s.scope ≡ root_scope
      only_root f = by_kind (h.kept.hangs q t l.lives)
        where
          none_there : map (own_scope q) inner.low ++ base (h.kept.line q) ≡ []
          none_there = sym inner.others ∙ ap (map scope_of) f

          by_kind : (q ≡ []) ⊎ Hangs es w.live h.kept.line q → s.scope ≡ root_scope
          by_kind (inr g) = absurd (nil_snoc (map (own_scope q) inner.low) (own_scope g.owner g.number) [] (sym none_there ∙ ap (λ x. map (own_scope q) inner.low ++ base x) g.lined))
          by_kind (inl g) = by_above h.rooted.above (sym inner.inside ∙ ap (λ r. (told es r).inside) g ∙ h.rooted.inside)
            where
              low_none : (ns : List ℕ) → map (own_scope q) ns ++ base (h.kept.line q) ≡ [] → ns ≡ []
              low_none [] e = refl
              low_none (n ∷ ns) e = absurd (nil_cons (sym e))

              by_above : (above : List ℕ) → inner.number ∷ inner.low ≡ above ++ 0 ∷ [] → s.scope ≡ root_scope
              by_above [] e = inner.same ∙ ap (λ n. own_scope q n) (same_head e) ∙ ap (λ r. own_scope r 0) g
              by_above (n ∷ above) e = absurd (nil_snoc above 0 [] (sym (low_none inner.low none_there) ∙ same_rest e))

      parked_among : (e : Event) → Contains (when_parked 0 q (s ∷ outer)) e → Contains (candidates 0 q t.place t.stakes) e
      parked_among e c =
          subst (λ x. Contains (candidates 0 q x t.stakes) e) (sym (parked q t l.lives))
          (subst (λ ss. Contains (when_parked 0 q ss) e) (sym are) c)

      passes_now : (r : Scope) → scope s.scope w.scopes ≡ Some r → r.passed ≡ false → Goes
      passes_now r f g =
          free q t l.lives (Pass s.scope) (parked_among (Pass s.scope) (0, omega arith, refl)) _
          (found_goes _ r _ f ∙ only_true _ _ (and_from (not r.passed) (nat_eq r.issued r.returned) (ap not g) (eq-eqb r.issued r.returned (all_back r f))))

      resumes_now : (o : Stake) (more : List Stake) → outer ≡ o ∷ more → (r : Scope) → scope s.scope w.scopes ≡ Some r → r.passed ≡ true → Goes
      resumes_now o more e r f g =
          free q t l.lives (Resume 0 q None) (parked_among (Resume 0 q None) (1, omega arith, refl)) _
          (found_goes _ t _ l.lives
          ∙ ap (λ ss. by_resume w0 (does p needs fresh w0) (hands_on p needs fresh w0) 0 t w ss) (are ∙ ap (λ ss. s ∷ ss) e)
          ∙ found_goes _ r _ f
          ∙ only_true _ _ (and_from (is_parked t.place) (r.passed && hand_is_free 0 w.live) (ap is_parked (parked q t l.lives)) (and_from r.passed (hand_is_free 0 w.live) g (hands_free 0))))

      by_passed : (outer' : List Stake) → outer ≡ outer' → (r : Scope) → scope s.scope w.scopes ≡ Some r → (b : Bool) → r.passed ≡ b → Goes
      by_passed ss e r f false g = passes_now r f g
      by_passed (o ∷ more) e r f true g = resumes_now o more e r f g
      by_passed [] e r f true g =
          let same : r ≡ top = same_Some _ _ (sym f ∙ ap (λ i. scope i w.scopes) (only_root e) ∙ top_is) in
          absurd (false_true (sym not_passed ∙ ap (λ (r : Scope). r.passed) (sym same) ∙ g))

      parked_goes : Goes
      parked_goes = let r = (subst (Each (IsThere w.scopes)) are (h.there q t l.lives)).0 in by_passed outer refl r.0 r.1 r.0.passed refl

    longest_goes : Goes
    longest_goes = by_stakes t.stakes refl (subst (λ x. Weighty x q t.stakes) (parked q t l.lives) longest_told.weighty)
      where
        by_stakes : (ss : List Stake) → t.stakes ≡ ss → Weighty Parked q t.stakes → Goes
        by_stakes [] e x = absurd (subst (Weighty Parked q) e x)
        by_stakes (s ∷ outer) e x = let y = subst (Weighty Parked q) e x in parked_goes s outer e y.0 y.1

  pub goes : (top : Scope) → scope root_scope w.scopes ≡ Some top → top.passed ≡ false → Goes
  goes top f g = by_hand (search_all is_hand w.live h.kept.unique)
    where
      all_parked : Each (λ t. is_hand t ≡ false) w.live → Each (λ t. is_queued t ≡ false) w.live → Goes
      all_parked a b = by_list w.live refl
        where
          by_list : (ts : List Live) → w.live ≡ ts → Goes
          by_list [] e = absurd (none-some _ (ap (task []) (sym e) ∙ h.rooted.lives))
          by_list (u ∷ ts) e =
              longest_goes (λ q t lives. parked_is t (each_task (λ t. is_hand t ≡ false) q w.live t a lives) (each_task (λ t. is_queued t ≡ false) q w.live t b lives))
              (λ v. free_hand v w.live a) top f g
              (subst Longest (sym e) (longest u ts (subst Unique e h.kept.unique)))

      by_queue : Each (λ t. is_hand t ≡ false) w.live → Found is_queued w.live ⊎ Each (λ t. is_queued t ≡ false) w.live → Goes
      by_queue a (inl b) = let v = queue_is b.its b.fits in in_queue_goes b.path b.its b.lives v.0 v.1 (free_hand v.0 w.live a)
      by_queue a (inr b) = all_parked a b

      by_hand : Found is_hand w.live ⊎ Each (λ t. is_hand t ≡ false) w.live → Goes
      by_hand (inl a) = let v = hand_is a.its a.fits in in_hand_goes a.path a.its a.lives v.0 v.1
      by_hand (inr a) = by_queue a (search_all is_queued w.live h.kept.unique)

pub goes_on : (p : Program) (needs : Codes → Needs) (w0 : ℕ) → GoesOn p needs w0
goes_on p needs w0 least input b es w e s f g = goes p needs b.steps w0 least (root_of p input b.nest) refl es w (sound p needs w0 least input b es w e) s f g

pub ends_are_own : (p : Program) (needs : Codes → Needs) (w0 : ℕ) → EndsAreOwn p needs w0
ends_are_own p needs w0 least input b es w e q t v s outer lives hand are =
    let h = sound p needs w0 least input b es w e in (
      park_owned p needs b.steps w0 least (root_of p input b.nest) refl es w h q t lives v hand s outer are,
      end_alone p needs b.steps w0 least (root_of p input b.nest) refl es w h q t lives v hand s outer are,
    )

-- A task ends, opens a finish, or continues after it.
use Rattle.std.proofs.Common.{◌≡◌, ℕ, ◌+◌, ◌<◌, ◌≤◌, List, [], ◌∷◌, ◌++◌, Option, Some, refl, sym, ap, ◌∙◌, subst}
use Rattle.std.proofs.Common.{inl, inr, arith}
use Rattle.std.specs.Prelude.{Bool, true, false, ◌⊎◌, map, drop, if◌then◌else◌}
use Rattle.std.proofs.lemmas.Option.{none-some, same_Some}
use Rattle.shared_lemmas.proofs.Truths.{false_true, not_both}
use Rattle.shared_lemmas.proofs.Lists.{same_head, same_rest}
use Rattle.task_run.specs.Results.{TaskResult}
use Rattle.task_run.specs.Lists.{Each}
use Rattle.task_run.specs.OwnRun.{Action}
use Rattle.task_run.proofs.CompleteResults.{path_same}
use Rattle.task_run.proofs.SettledResults.{paths_same}
use Rattle.event_worlds.specs.World.{same_path, ScopeId, Stake, Live, Scope, World, Whereabouts, Queue, Hand, Parked}
use Rattle.event_worlds.specs.World.{same_scope, task, put_task, without_task, scope, put_scope, weight_in, held}
use Rattle.event_worlds.specs.World.{is_parked}
use Rattle.event_worlds.specs.Events.{Event, Spawns, Opens, Ends, Resume, give_back, did, new_scope}
use Rattle.event_worlds.specs.History.{Told, opened_more, left_one, told}
use Rattle.event_worlds.proofs.Lookups.{by_test, path_is, path_not, other_path, scopes_same}
use Rattle.event_worlds.proofs.Lookups.{task-without_task, unique-without_task, gone-without_task, each-without_task}
use Rattle.event_worlds.proofs.Lookups.{held-put_task, held-without_task}
use Rattle.event_worlds.proofs.Histories.{nil_cons, nil_snoc, told_last}
use Rattle.event_worlds.proofs.Stakes.{scope_of, own, IsPositive, Weighty, weighty_awake, awake_weighty}
use Rattle.event_worlds.proofs.Changes.{IsOpen, IsEnd, IsResume}
use Rattle.event_worlds.proofs.Kept.{base, IsTold, IsKnown, ScopeOk, Kept}
use Rattle.event_worlds.proofs.Steps.{StillOpen, kept_by, put_change, known_more, all_known_more, scope_still}
use Rattle.event_worlds.proofs.Events.{in_scope, in_scope_same, in_scope_other, rebooked, none_held, task_known}
use Rattle.event_worlds.proofs.Events.{opened_still}

-- ---- constructors
abbrev IsNoSpawn : Event → Type 0
IsNoSpawn (Spawns o) = ⊥
IsNoSpawn e = Unit {0}

pub no_spawn : (e : Event) → IsNoSpawn e → (o : List ℕ) → e ≡ Spawns o → ⊥
no_spawn e h o f = subst IsNoSpawn f h

pub spawns_same : {p o : List ℕ} → Spawns p ≡ Spawns o → p ≡ o
spawns_same {p} e = ap path_of e
  where
    path_of : Event → List ℕ
    path_of (Spawns q) = q
    path_of x = p

-- ---- a task and its own scopes
pub record Lone (inside : List ℕ) (outer : List Stake) : Type 0 where
  pub no_inside : inside ≡ []
  pub no_outer : outer ≡ []

-- a task whose innermost scope isn't its own is in no other
pub lone : (q : List ℕ) (s : Stake) (outer : List Stake) (inside : List ℕ) (line : List ScopeId) → map scope_of (s ∷ outer) ≡ map (own q) inside ++ base line → same_path q s.scope.owner ≡ false → Lone inside outer
lone q s outer (n ∷ inside) line e f = absurd (not_both (path_is (ap (λ (i : ScopeId). i.owner) (sym (same_head e)))) f)
lone q s outer [] [] e f = absurd (nil_cons (sym e))
lone q s [] [] (b ∷ line) e f = record { no_inside = refl; no_outer = refl }
lone q s (r ∷ outer) [] (b ∷ line) e f = absurd (nil_cons (sym (same_rest e)))

-- the first scope in a line
pub base_is : (x : ScopeId) (xs ys l : List ScopeId) → x ∷ xs ≡ ys ++ base l → base (ys ++ l) ≡ x ∷ []
base_is x xs [] [] e = absurd (nil_cons (sym e))
base_is x xs [] (b ∷ l) e = ap (λ i. i ∷ []) (sym (same_head e))
base_is x xs (y ∷ ys) l e = ap (λ i. i ∷ []) (sym (same_head e))

-- a parked task leaves its innermost scope, which is its own
pub record Left (q : List ℕ) (s : Stake) (rest : List Stake) (inside : List ℕ) (line : List ScopeId) : Type 0 where
  pub number : ℕ
  pub low : List ℕ
  pub are : inside ≡ number ∷ low
  pub scope : s.scope ≡ own q number
  pub others : map scope_of rest ≡ map (own q) low ++ base line

pub left : (q : List ℕ) (s r : Stake) (rest : List Stake) (inside : List ℕ) (line : List ScopeId) → map scope_of (s ∷ r ∷ rest) ≡ map (own q) inside ++ base line → Left q s (r ∷ rest) inside line
left q s r rest (n ∷ inside) line e = record { number = n; low = inside; are = refl; scope = same_head e; others = same_rest e }
left q s r rest [] [] e = absurd (nil_cons (sym e))
left q s r rest [] (b ∷ line) e = absurd (nil_cons (sym (same_rest e)))

weighty_parked : (w : Whereabouts) (q : List ℕ) (s : Stake) (ss : List Stake) → is_parked w ≡ true → Weighty w q (s ∷ ss) → (s.weight ≡ 0) × Each IsPositive ss
weighty_parked (Queue w) q s ss e h = absurd (false_true e)
weighty_parked (Hand w) q s ss e h = absurd (false_true e)
weighty_parked Parked q s ss e h = (h.0, h.2)

-- ---- a task ends
module _ (es : List Event) (a : World) (k : Kept es a) where
  module _ {does : Live → Option Action} {gives : Live → TaskResult} (path : List ℕ) (b : World) (h : IsEnd does gives path a b) where
    abbrev p : List ℕ
    p = h.at.was.path

    abbrev e : Event
    e = Ends p

    abbrev after_end : List Event
    after_end = es ++ e ∷ []

    end_same : (q : List ℕ) → told after_end q ≡ told es q
    end_same q = told_last es e q

    end_found : task p a.live ≡ Some h.at.was
    end_found = ap (λ r. task r a.live) h.at.named ∙ h.at.found

    end_lone : Lone (told es p).inside h.at.outer
    end_lone = lone p h.at.inner h.at.outer (told es p).inside (k.line p) (ap (map scope_of) (sym h.at.stakes) ∙ (k.tasks p h.at.was end_found).stakes) h.own

    end_weighs : (id : ScopeId) → held id (without_task p a.live) + in_scope id h.at.inner h.at.inner.weight ≡ held id a.live
    end_weighs id =
        let x = held-without_task id p h.at.was a.live end_found in
        let y : weight_in id h.at.was.stakes ≡ weight_in id (h.at.inner ∷ h.at.outer) = ap (weight_in id) h.at.stakes in
        let z : weight_in id (h.at.inner ∷ h.at.outer) ≡ weight_in id (h.at.inner ∷ []) = ap (λ ss. weight_in id (h.at.inner ∷ ss)) end_lone.no_outer in
        omega (arith, x, y, z)

    end_from : (q : List ℕ) (t : Live) → task q (without_task p a.live) ≡ Some t → (p ≡ q → ⊥) × (task q a.live ≡ Some t)
    end_from q t f =
        by_test (λ x. (p ≡ q → ⊥) × (task q a.live ≡ Some t)) (same_path p q)
        (λ g. absurd (none-some _ (sym (gone-without_task p a.live k.unique) ∙ ap (λ r. task r (without_task p a.live)) (paths_same p q g) ∙ f)))
        (λ g. (other_path g, sym (task-without_task p q a.live (other_path g)) ∙ f))

    end_open : (u : List ℕ) (m : ℕ) (top low : List ℕ) (t : Live) → task u a.live ≡ Some t → (told es u).inside ≡ top ++ m ∷ low → 1 ≤ held (own u m) a.live → StillOpen after_end (without_task p a.live) u m low
    end_open u m top low t f g w =
        by_test (λ x. StillOpen after_end (without_task p a.live) u m low) (same_path p u)
        (λ i. absurd (nil_snoc top m low (sym end_lone.no_inside ∙ ap (λ r. (told es r).inside) (paths_same p u i) ∙ g)))
        (λ i. record { its = t; lives = task-without_task p u a.live (other_path i) ∙ f; top = top; inside = ap (λ (x : Told). x.inside) (end_same u) ∙ g })

    end_scopes : (j : ScopeId) (s : Scope) → ((h.at.inner.scope ≡ j) × (give_back h.at.inner.weight (gives h.at.was ∷ []) h.of.book ≡ s)) ⊎ ((same_scope h.at.inner.scope j ≡ false) × (scope j a.scopes ≡ Some s)) → ScopeOk after_end (without_task p a.live) j s
    end_scopes j s (inl (f, g)) =
        subst (λ r. ScopeOk after_end (without_task p a.live) j r) g (subst (λ i. ScopeOk after_end (without_task p a.live) i (give_back h.at.inner.weight (gives h.at.was ∷ []) h.of.book)) f (record {
          books = (let x = o.books in let y = end_weighs h.at.inner.scope in let z = in_scope_same h.at.inner h.at.inner.weight in omega (arith, x, y, z));
          passed = λ q. (let x = o.books in let y = end_weighs h.at.inner.scope in let z = in_scope_same h.at.inner h.at.inner.weight in let v = o.passed q in omega (arith, x, y, z, v));
          known = opened_still es e a k h.at.inner.scope o.known;
        }))
      where
        o : ScopeOk es a.live h.at.inner.scope h.of.book
        o = k.scopes h.at.inner.scope h.of.book h.of.found
    end_scopes j s (inr (f, g)) =
        scope_still es e a.live (without_task p a.live) j s (let x = end_weighs j in let y = in_scope_other j h.at.inner h.at.inner.weight f in omega (arith, x, y)) (k.scopes j s g)

    end_gone : (q : List ℕ) (t : Live) → task q a.live ≡ Some t → ((s : Live) × (task q (without_task p a.live) ≡ Some s)) ⊎ (e ≡ Ends q)
    end_gone q t f =
        by_test (λ x. ((s : Live) × (task q (without_task p a.live) ≡ Some s)) ⊎ (e ≡ Ends q)) (same_path p q)
        (λ g. inr (ap Ends (paths_same p q g)))
        (λ g. inl (t, task-without_task p q a.live (other_path g) ∙ f))

    end_kept_own : Kept after_end b
    end_kept_own =
        subst (Kept after_end) h.now (kept_by es e a k (no_spawn e tt) (record { live = without_task p a.live; scopes = put_scope (give_back h.at.inner.weight (gives h.at.was ∷ []) h.of.book) a.scopes }) (record {
          unique = unique-without_task p a.live k.unique;
          from = λ q t f. (t, (end_from q t f).1);
          tasks = λ q t f. subst (λ x. IsTold x (k.line q) q t) (sym (end_same q)) (k.tasks q t (end_from q t f).1);
          open' = end_open;
          known = each-without_task (λ (t : Live). Each (IsKnown after_end) t.stakes) p a.live (all_known_more es e a.live k.known);
          scopes = λ j s f. end_scopes j s (rebooked h.at.inner.scope h.of.book (give_back h.at.inner.weight (gives h.at.was ∷ []) h.of.book) a.scopes j s h.of.found h.of.id f);
          quiet = λ q. inr (end_same q);
          ended = end_gone;
        }))

    pub end_kept : Kept (es ++ Ends path ∷ []) b
    end_kept = subst (λ r. Kept (es ++ Ends r ∷ []) b) h.at.named end_kept_own

  -- ---- a task opens a finish
  module _ (w0 : ℕ) (least : 1 ≤ w0) {does : Live → Option Action} (path : List ℕ) (b : World) (h : IsOpen does w0 path a b) where
    abbrev o : List ℕ
    o = h.was.path

    abbrev after_open : List Event
    after_open = es ++ Opens o ∷ []

    abbrev its_id : ScopeId
    its_id = own o (h.was.opened + 1)

    abbrev opener : Live
    opener = record (did h.was (record { scope = its_id; weight = w0 } ∷ h.was.stakes)) { opened = h.was.opened + 1 }

    open_found : task o a.live ≡ Some h.was
    open_found = ap (λ r. task r a.live) h.named ∙ h.found

    open_here : told after_open o ≡ opened_more (told es o)
    open_here = told_last es (Opens o) o ∙ ap (λ (x : Bool). if x then opened_more (told es o) else told es o) (path_same o)

    open_others : (q : List ℕ) → (o ≡ q → ⊥) → told after_open q ≡ told es q
    open_others q n = told_last es (Opens o) q ∙ ap (λ (x : Bool). if x then opened_more (told es q) else told es q) (path_not o q n)

    open_told : IsTold (told es o) (k.line o) o h.was
    open_told = k.tasks o h.was open_found

    new_is_new : (told es o).opened < h.was.opened + 1
    new_is_new = let x = open_told.opened in omega (arith, x)

    open_tells : IsTold (told after_open o) (k.line o) o opener
    open_tells =
        let x = open_told in
        subst (λ y. IsTold y (k.line o) o opener) (sym open_here) (record {
          spawned = x.spawned;
          opened = ap (λ n. n + 1) x.opened;
          stakes = ap (λ n. own o (n + 1) ∷ map scope_of h.was.stakes) x.opened ∙ ap (λ l. own o ((told es o).opened + 1) ∷ l) x.stakes;
          weighty = awake_weighty h.was.place o opener.stakes h.awake (least, weighty_awake h.was.place o h.was.stakes h.awake x.weighty);
        })

    open_weighs : (id : ScopeId) → held id (put_task opener a.live) ≡ held id a.live + in_scope id (record { scope = its_id; weight = w0 }) w0
    open_weighs id = let x = held-put_task id opener h.was a.live open_found in omega (arith, x)

    open_known : its_id.number ≤ (told after_open o).opened
    open_known = let x = open_told.opened in let y : (told after_open o).opened ≡ (told es o).opened + 1 = ap (λ (t : Told). t.opened) open_here in omega (arith, x, y)

    open_scopes : (id : ScopeId) (s : Scope) → scope id (new_scope its_id w0 ∷ a.scopes) ≡ Some s → ScopeOk after_open (put_task opener a.live) id s
    open_scopes id s f =
        by_test (λ x. (if x then Some (new_scope its_id w0) else scope id a.scopes) ≡ Some s → ScopeOk after_open (put_task opener a.live) id s) (same_scope its_id id)
        (λ g f. subst (λ r. ScopeOk after_open (put_task opener a.live) id r) (same_Some _ _ f) (subst (λ i. ScopeOk after_open (put_task opener a.live) i (new_scope its_id w0)) (scopes_same its_id id g) fresh))
        (λ g f. scope_still es (Opens o) a.live (put_task opener a.live) id s
        (let x = open_weighs id in let y = in_scope_other id (record { scope = its_id; weight = w0 }) w0 g in omega (arith, x, y)) (k.scopes id s f)) f
      where
        fresh : ScopeOk after_open (put_task opener a.live) its_id (new_scope its_id w0)
        fresh = record {
          books =
              (let x = open_weighs its_id in
              let y = in_scope_same (record { scope = its_id; weight = w0 }) w0 in
              let z = none_held es its_id a.live k.known new_is_new in omega (arith, x, y, z));
          passed = λ q. absurd (false_true q);
          known = open_known;
        }

    open_kept_own : Kept after_open b
    open_kept_own =
        subst (Kept after_open) h.now (kept_by es (Opens o) a k (no_spawn (Opens o) tt) (record { live = put_task opener a.live; scopes = new_scope its_id w0 ∷ a.scopes })
        (put_change es (Opens o) a k opener (new_scope its_id w0 ∷ a.scopes) (record {
          was = h.was;
          found = open_found;
          others = open_others;
          tells = open_tells;
          inside = λ m top low f g. (((told es o).opened + 1) ∷ top, ap (λ (t : Told). t.inside) open_here ∙ ap (λ l. ((told es o).opened + 1) ∷ l) f);
          known = (open_known, known_more es (Opens o) h.was.stakes (task_known es (Opens o) a k o h.was open_found));
          scopes = open_scopes;
        })))

    pub open_kept : Kept (es ++ Opens path ∷ []) b
    open_kept = subst (λ r. Kept (es ++ Opens r ∷ []) b) h.named open_kept_own

  -- ---- a task continues after its finish
  module _ (w : ℕ) (path : List ℕ) (z : Option ℕ) (b : World) (h : IsResume path a b) where
    abbrev r : List ℕ
    r = h.was.path

    abbrev after_resume : List Event
    after_resume = es ++ Resume w r z ∷ []

    abbrev resumer : Live
    resumer = record h.was { receipts = h.was.receipts ++ h.of.book.results ∷ []; stakes = h.next ∷ h.outer; place = Hand h.worker }

    resume_found : task r a.live ≡ Some h.was
    resume_found = ap (λ q. task q a.live) h.named ∙ h.found

    resume_here : told after_resume r ≡ left_one (told es r)
    resume_here = told_last es (Resume w r z) r ∙ ap (λ (x : Bool). if x then left_one (told es r) else told es r) (path_same r)

    resume_others : (q : List ℕ) → (r ≡ q → ⊥) → told after_resume q ≡ told es q
    resume_others q n = told_last es (Resume w r z) q ∙ ap (λ (x : Bool). if x then left_one (told es q) else told es q) (path_not r q n)

    resume_told : IsTold (told es r) (k.line r) r h.was
    resume_told = k.tasks r h.was resume_found

    its_left : Left r h.inner (h.next ∷ h.outer) (told es r).inside (k.line r)
    its_left = left r h.inner h.next h.outer (told es r).inside (k.line r) (ap (map scope_of) (sym h.stakes) ∙ resume_told.stakes)

    its_weights : (h.inner.weight ≡ 0) × Each IsPositive (h.next ∷ h.outer)
    its_weights = weighty_parked h.was.place r h.inner (h.next ∷ h.outer) h.parked (subst (Weighty h.was.place r) h.stakes resume_told.weighty)

    drop_one : (told after_resume r).inside ≡ its_left.low
    drop_one = ap (λ (t : Told). t.inside) resume_here ∙ ap (drop 1) its_left.are

    resume_tells : IsTold (told after_resume r) (k.line r) r resumer
    resume_tells =
        let x = resume_told in
        record {
          spawned = x.spawned ∙ ap (λ (t : Told). t.spawned) (sym resume_here);
          opened = x.opened ∙ ap (λ (t : Told). t.opened) (sym resume_here);
          stakes = its_left.others ∙ ap (λ l. map (own r) l ++ base (k.line r)) (sym drop_one);
          weighty = its_weights.1;
        }

    resume_weighs : (id : ScopeId) → held id (put_task resumer a.live) ≡ held id a.live
    resume_weighs id =
        let x = held-put_task id resumer h.was a.live resume_found in
        let y : weight_in id h.was.stakes ≡ weight_in id (h.inner ∷ h.next ∷ h.outer) = ap (weight_in id) h.stakes in
        let z : in_scope id h.inner h.inner.weight ≡ in_scope id h.inner 0 = ap (in_scope id h.inner) its_weights.0 in
        let v : in_scope id h.inner 0 ≡ 0 = zero_in (same_scope h.inner.scope id) in
        omega (arith, x, y, z, v)
      where
        zero_in : (x : Bool) → ◌≡◌ {A = ℕ} (if x then 0 else 0) 0
        zero_in true = refl
        zero_in false = refl

    none_there : held h.inner.scope a.live ≡ 0
    none_there =
        let x = (k.scopes h.inner.scope h.of.book h.of.found).books in
        let y = (k.scopes h.inner.scope h.of.book h.of.found).passed h.passed in
        omega (arith, x, y)

    resume_inside : (m : ℕ) (top low : List ℕ) → (told es r).inside ≡ top ++ m ∷ low → 1 ≤ held (own r m) a.live → (up : List ℕ) × ((told after_resume r).inside ≡ up ++ m ∷ low)
    resume_inside m [] low f g =
        let x : held (own r m) a.live ≡ held h.inner.scope a.live = ap (λ n. held (own r n) a.live) (sym (same_head (sym its_left.are ∙ f))) ∙ ap (λ i. held i a.live) (sym its_left.scope) in
        let y = none_there in
        absurd (omega (arith, x, y, g))
    resume_inside m (n ∷ top) low f g = (top, drop_one ∙ same_rest (sym its_left.are ∙ f))

    resume_kept_own : Kept after_resume b
    resume_kept_own =
        subst (Kept after_resume) h.now (kept_by es (Resume w r z) a k (no_spawn (Resume w r z) tt) (record { live = put_task resumer a.live; scopes = a.scopes })
        (put_change es (Resume w r z) a k resumer a.scopes (record {
          was = h.was;
          found = resume_found;
          others = resume_others;
          tells = resume_tells;
          inside = resume_inside;
          known = (subst (Each (IsKnown after_resume)) h.stakes (known_more es (Resume w r z) h.was.stakes (task_known es (Resume w r z) a k r h.was resume_found))).1;
          scopes = λ id s f. scope_still es (Resume w r z) a.live (put_task resumer a.live) id s (resume_weighs id) (k.scopes id s f);
        })))

    pub resume_kept : Kept (es ++ Resume w path z ∷ []) b
    resume_kept = subst (λ q. Kept (es ++ Resume w q z ∷ []) b) h.named resume_kept_own

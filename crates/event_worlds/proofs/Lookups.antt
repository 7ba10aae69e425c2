-- Tasks and scopes by their names, and what changes when one is changed.
use Rattle.std.proofs.Common.{◌≡◌, ℕ, ◌+◌, ◌≤◌, List, [], ◌∷◌, Option, Some, None, refl, sym, ap, ◌∙◌, subst, arith}
use Rattle.std.proofs.lemmas.Bool.{eqb-true, eq-eqb, and_parts}
use Rattle.std.specs.Prelude.{Bool, true, false, ◌&&◌, nat_eq, if◌then◌else◌}
use Rattle.std.proofs.lemmas.Option.{none-some, same_Some}
use Rattle.shared_lemmas.proofs.Truths.{not_both}
use Rattle.task_run.specs.Lists.{Each}
use Rattle.task_run.proofs.CompleteResults.{path_same}
use Rattle.task_run.proofs.SettledResults.{paths_same}
use Rattle.event_worlds.specs.World.{same_path, ScopeId, Live, Scope, same_scope, task, put_task, without_task, scope}
use Rattle.event_worlds.specs.World.{put_scope, weight_in, held, is_passed, root_scope}
use Rattle.event_worlds.specs.Events.{new_scope, only_if}

-- ---- tests
pub path_is : {p q : List ℕ} → p ≡ q → same_path p q ≡ true
path_is {p} e = subst (λ r. same_path p r ≡ true) e (path_same p)

pub other_path : {p q : List ℕ} → same_path p q ≡ false → p ≡ q → ⊥
other_path f e = not_both (path_is e) f

pub path_not : (p q : List ℕ) → (p ≡ q → ⊥) → same_path p q ≡ false
path_not p q ne = by_test (same_path p q) refl
  where
    by_test : (b : Bool) → same_path p q ≡ b → b ≡ false
    by_test true e = absurd (ne (paths_same p q e))
    by_test false e = refl

pub scope_is : {a b : ScopeId} → a ≡ b → same_scope a b ≡ true
scope_is {a} e =
    subst (λ c. same_scope a c ≡ true) e (ap (λ x. x && nat_eq a.number a.number) (path_same a.owner) ∙ eq-eqb a.number a.number refl)

pub scopes_same : (a b : ScopeId) → same_scope a b ≡ true → a ≡ b
scopes_same a b e =
    let h = and_parts (same_path a.owner b.owner) (nat_eq a.number b.number) e in
    let owners = paths_same a.owner b.owner h.0 in
    let numbers : a.number ≡ b.number = eqb-true a.number b.number h.1 in
    ap (λ o. let i : ScopeId = record { owner = o; number = a.number } in i) owners
    ∙ ap (λ n. let i : ScopeId = record { owner = b.owner; number = n } in i) numbers

pub other_scope : {a b : ScopeId} → same_scope a b ≡ false → a ≡ b → ⊥
other_scope f e = not_both (scope_is e) f

pub record Holds {A : Type 0} (b : Bool) (o : Option A) (y : A) : Type 0 where
  pub test : b ≡ true
  pub gives : o ≡ Some y

pub holds : {A : Type 0} (b : Bool) (o : Option A) (y : A) → only_if b o ≡ Some y → Holds b o y
holds true o y e = record { test = refl; gives = e }
holds false o y e = absurd (none-some _ e)

-- a case split on a test
pub by_test : (P : Bool → Type 0) (b : Bool) → (b ≡ true → P true) → (b ≡ false → P false) → P b
by_test P true h k = h refl
by_test P false h k = k refl

-- ---- the element with a name, in a list
module _ {A K : Type 0} (same : K → K → Bool) (are : (i j : K) → same i j ≡ true → i ≡ j) (name : A → K) where
  -- `task` and `scope`, for lists of any kind
  abbrev named : K → List A → Option A
  named i [] = None
  named i (x ∷ xs) = if same (name x) i then Some x else named i xs

  -- `put_task` and `put_scope`, for lists of any kind
  abbrev put : A → List A → List A
  put to [] = []
  put to (x ∷ xs) = if same (name x) (name to) then to ∷ xs else x ∷ put to xs

  named_so : (i : K) (xs : List A) (x : A) → named i xs ≡ Some x → name x ≡ i
  named_so i [] x e = absurd (none-some _ e)
  named_so i (y ∷ ys) x e =
      by_test (λ b. (if b then Some y else named i ys) ≡ Some x → name x ≡ i) (same (name y) i)
      (λ f e. ap name (sym (same_Some _ _ e)) ∙ are (name y) i f)
      (λ f e. named_so i ys x e) e

  -- one element replaces another
  named-put : (to x : A) (i : K) (xs : List A) → named (name to) xs ≡ Some x
      → named i (put to xs) ≡ (if same (name to) i then Some to else named i xs)
  named-put to x i [] e = absurd (none-some _ e)
  named-put to x i (y ∷ ys) e =
      by_test (λ b. (if b then Some y else named (name to) ys) ≡ Some x
      → named i (if b then to ∷ ys else y ∷ put to ys) ≡ (if same (name to) i then Some to else named i (y ∷ ys)))
      (same (name y) (name to))
      (λ f e. here (are (name y) (name to) f) (same (name to) i) refl)
      (λ f e. later (same (name y) i) (same (name to) i) refl refl f (named-put to x i ys e)) e
    where
      here : name y ≡ name to → (b : Bool) → same (name to) i ≡ b → named i (to ∷ ys) ≡ (if b then Some to else named i (y ∷ ys))
      here is true f = ap (λ (b : Bool). if b then Some to else named i ys) f
      here is false f = ap (λ (b : Bool). if b then Some to else named i ys) f ∙ ap (λ (b : Bool). if b then Some y else named i ys) (sym (ap (λ k. same k i) is ∙ f))

      later : (b c : Bool) → same (name y) i ≡ b → same (name to) i ≡ c → same (name y) (name to) ≡ false → named i (put to ys) ≡ (if c then Some to else named i ys)
          → (if b then Some y else named i (put to ys)) ≡ (if c then Some to else (if b then Some y else named i ys))
      later true true f g ne h = absurd (not_both (ap (λ k. same (name y) k) (are (name to) i g) ∙ f) ne)
      later true false f g ne h = refl
      later false c f g ne h = h

-- ---- tasks
pub task_path : (q : List ℕ) (ts : List Live) (t : Live) → task q ts ≡ Some t → t.path ≡ q
task_path = named_so same_path paths_same (λ (t : Live). t.path)

-- one task replaces another
pub task-put_task : (to t : Live) (j : List ℕ) (ts : List Live) → task to.path ts ≡ Some t → task j (put_task to ts) ≡ (if same_path to.path j then Some to else task j ts)
task-put_task = named-put same_path paths_same (λ (t : Live). t.path)

pub task-without_task : (q j : List ℕ) (ts : List Live) → (q ≡ j → ⊥) → task j (without_task q ts) ≡ task j ts
task-without_task q j [] ne = refl
task-without_task q j (u ∷ ts) ne =
    by_test (λ b. task j (if b then ts else u ∷ without_task q ts) ≡ task j (u ∷ ts)) (same_path u.path q)
    (λ f. ap (λ (b : Bool). if b then Some u else task j ts) (sym (path_not u.path j (λ e. ne (sym (paths_same u.path q f) ∙ e)))))
    (λ f. ap (λ o. if same_path u.path j then Some u else o) (task-without_task q j ts ne))

-- no two tasks with the same path
abbrev pub Unique : List Live → Type 0
Unique [] = Unit {0}
Unique (t ∷ ts) = (task t.path ts ≡ None) × Unique ts

pub unique-put_task : (to t : Live) (ts : List Live) → task to.path ts ≡ Some t → Unique ts → Unique (put_task to ts)
unique-put_task to t [] e h = tt
unique-put_task to t (u ∷ ts) e h =
    by_test (λ b. (if b then Some u else task to.path ts) ≡ Some t → Unique (if b then to ∷ ts else u ∷ put_task to ts)) (same_path u.path to.path)
    (λ f e. (ap (λ p. task p ts) (sym (paths_same u.path to.path f)) ∙ h.0, h.1))
    (λ f e. (
      task-put_task to t u.path ts e ∙ ap (λ (b : Bool). if b then Some to else task u.path ts) (path_not to.path u.path (λ g. other_path f (sym g))) ∙ h.0,
      unique-put_task to t ts e h.1,
    )) e

some_none : {A : Type 0} {x : A} → Some x ≡ None → ⊥
some_none e = none-some _ (sym e)

skipped : (j : List ℕ) (ts : List Live) → task j ts ≡ None → task j (without_task j ts) ≡ None
skipped j [] e = refl
skipped j (u ∷ ts) e =
    by_test (λ b. (if b then Some u else task j ts) ≡ None → task j (if b then ts else u ∷ without_task j ts) ≡ None) (same_path u.path j)
    (λ f e. absurd (some_none e))
    (λ f e. ap (λ (b : Bool). if b then Some u else task j (without_task j ts)) f ∙ skipped j ts e) e

pub none-without_task : (q j : List ℕ) (ts : List Live) → task j ts ≡ None → task j (without_task q ts) ≡ None
none-without_task q j ts e =
    by_test (λ b. task j (without_task q ts) ≡ None) (same_path q j)
    (λ f. ap (λ i. task j (without_task i ts)) (paths_same q j f) ∙ skipped j ts e)
    (λ f. task-without_task q j ts (other_path f) ∙ e)

pub unique-without_task : (q : List ℕ) (ts : List Live) → Unique ts → Unique (without_task q ts)
unique-without_task q [] h = tt
unique-without_task q (u ∷ ts) h =
    by_test (λ b. Unique (if b then ts else u ∷ without_task q ts)) (same_path u.path q)
    (λ f. h.1)
    (λ f. (none-without_task q u.path ts h.0, unique-without_task q ts h.1))

-- once it is taken out, it isn't there
pub gone-without_task : (q : List ℕ) (ts : List Live) → Unique ts → task q (without_task q ts) ≡ None
gone-without_task q [] h = refl
gone-without_task q (u ∷ ts) h =
    by_test (λ b. task q (if b then ts else u ∷ without_task q ts) ≡ None) (same_path u.path q)
    (λ f. ap (λ p. task p ts) (sym (paths_same u.path q f)) ∙ h.0)
    (λ f. ap (λ (b : Bool). if b then Some u else task q (without_task q ts)) f ∙ gone-without_task q ts h.1)

-- ---- properties of each element
pub each-put_task : (P : Live → Type 0) (to : Live) (ts : List Live) → Each P ts → P to → Each P (put_task to ts)
each-put_task P to [] h k = tt
each-put_task P to (u ∷ ts) h k =
    by_test (λ b. Each P (if b then to ∷ ts else u ∷ put_task to ts)) (same_path u.path to.path)
    (λ f. (k, h.1)) (λ f. (h.0, each-put_task P to ts h.1 k))

pub each-without_task : (P : Live → Type 0) (q : List ℕ) (ts : List Live) → Each P ts → Each P (without_task q ts)
each-without_task P q [] h = tt
each-without_task P q (u ∷ ts) h =
    by_test (λ b. Each P (if b then ts else u ∷ without_task q ts)) (same_path u.path q)
    (λ f. h.1) (λ f. (h.0, each-without_task P q ts h.1))

pub each_task : (P : Live → Type 0) (q : List ℕ) (ts : List Live) (t : Live) → Each P ts → task q ts ≡ Some t → P t
each_task P q [] t h e = absurd (none-some _ e)
each_task P q (u ∷ ts) t h e =
    by_test (λ b. (if b then Some u else task q ts) ≡ Some t → P t) (same_path u.path q)
    (λ f e. subst P (same_Some _ _ e) h.0) (λ f e. each_task P q ts t h.1 e) e

-- ---- weights held
pub held-put_task : (id : ScopeId) (to t : Live) (ts : List Live) → task to.path ts ≡ Some t
    → held id (put_task to ts) + weight_in id t.stakes ≡ held id ts + weight_in id to.stakes
held-put_task id to t [] e = absurd (none-some _ e)
held-put_task id to t (u ∷ ts) e =
    by_test (λ b. (if b then Some u else task to.path ts) ≡ Some t
    → held id (if b then to ∷ ts else u ∷ put_task to ts) + weight_in id t.stakes ≡ (weight_in id u.stakes + held id ts) + weight_in id to.stakes)
    (same_path u.path to.path)
    (λ f e. here (same_Some _ _ e))
    (λ f e. let h = held-put_task id to t ts e in more h) e
  where
    here : u ≡ t → (weight_in id to.stakes + held id ts) + weight_in id t.stakes ≡ (weight_in id u.stakes + held id ts) + weight_in id to.stakes
    here same = let e : weight_in id u.stakes ≡ weight_in id t.stakes = ap (λ (t : Live). weight_in id t.stakes) same in omega (arith, e)

    more : held id (put_task to ts) + weight_in id t.stakes ≡ held id ts + weight_in id to.stakes
        → (weight_in id u.stakes + held id (put_task to ts)) + weight_in id t.stakes ≡ (weight_in id u.stakes + held id ts) + weight_in id to.stakes
    more h = omega (arith, h)

pub held-without_task : (id : ScopeId) (q : List ℕ) (t : Live) (ts : List Live) → task q ts ≡ Some t
    → held id (without_task q ts) + weight_in id t.stakes ≡ held id ts
held-without_task id q t [] e = absurd (none-some _ e)
held-without_task id q t (u ∷ ts) e =
    by_test (λ b. (if b then Some u else task q ts) ≡ Some t
    → held id (if b then ts else u ∷ without_task q ts) + weight_in id t.stakes ≡ weight_in id u.stakes + held id ts)
    (same_path u.path q)
    (λ f e. here (same_Some _ _ e))
    (λ f e. more (held-without_task id q t ts e)) e
  where
    here : u ≡ t → held id ts + weight_in id t.stakes ≡ weight_in id u.stakes + held id ts
    here same = let e : weight_in id u.stakes ≡ weight_in id t.stakes = ap (λ (t : Live). weight_in id t.stakes) same in omega (arith, e)

    more : held id (without_task q ts) + weight_in id t.stakes ≡ held id ts
        → (weight_in id u.stakes + held id (without_task q ts)) + weight_in id t.stakes ≡ weight_in id u.stakes + held id ts
    more h = omega (arith, h)

pub held_least : (id : ScopeId) (q : List ℕ) (t : Live) (ts : List Live) → task q ts ≡ Some t → weight_in id t.stakes ≤ held id ts
held_least id q t ts e = let h = held-without_task id q t ts e in omega (arith, h)

-- ---- scopes
pub scope_id : (i : ScopeId) (ss : List Scope) (s : Scope) → scope i ss ≡ Some s → s.id ≡ i
scope_id = named_so same_scope scopes_same (λ (s : Scope). s.id)

pub scope-put_scope : (to s : Scope) (j : ScopeId) (ss : List Scope) → scope to.id ss ≡ Some s → scope j (put_scope to ss) ≡ (if same_scope to.id j then Some to else scope j ss)
scope-put_scope = named-put same_scope scopes_same (λ (s : Scope). s.id)

-- ---- whether scopes have passed
-- a replacement of the same scope, which has passed exactly if the scope has
pub passed-put_scope : (to was : Scope) (j : ScopeId) (ss : List Scope) → scope to.id ss ≡ Some was → to.passed ≡ was.passed
    → is_passed (scope j (put_scope to ss)) ≡ is_passed (scope j ss)
passed-put_scope to was j ss found same =
    ap is_passed (scope-put_scope to was j ss found)
    ∙ by_test (λ b. is_passed (if b then Some to else scope j ss) ≡ is_passed (scope j ss)) (same_scope to.id j)
    (λ e. same ∙ ap is_passed (sym found) ∙ ap (λ i. is_passed (scope i ss)) (scopes_same to.id j e))
    (λ e. refl)

-- a replacement of another scope
pub passed_beside : (to was : Scope) (j : ScopeId) (ss : List Scope) → scope to.id ss ≡ Some was → (to.id ≡ j → ⊥)
    → is_passed (scope j (put_scope to ss)) ≡ is_passed (scope j ss)
passed_beside to was j ss found other =
    ap is_passed (scope-put_scope to was j ss found)
    ∙ by_test (λ b. is_passed (if b then Some to else scope j ss) ≡ is_passed (scope j ss)) (same_scope to.id j)
    (λ e. absurd (other (scopes_same to.id j e)))
    (λ e. refl)

-- the scope of a finish that starts isn't the root's
pub passed_opened : (name : ScopeId) (w0 n : ℕ) (ss : List Scope) → name.number ≡ n + 1
    → is_passed (scope root_scope (new_scope name w0 ∷ ss)) ≡ is_passed (scope root_scope ss)
passed_opened name w0 n ss numbered =
    by_test (λ b. is_passed (if b then Some (new_scope name w0) else scope root_scope ss) ≡ is_passed (scope root_scope ss))
    (same_scope name root_scope)
    (λ e. let none : name.number ≡ 0 = ap (λ (i : ScopeId). i.number) (scopes_same name root_scope e) in absurd (omega (arith, numbered, none)))
    (λ e. refl)

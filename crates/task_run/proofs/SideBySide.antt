-- The relation between a run on one thread and a run of tasks apart, and what single operations
-- keep of it.
use Rattle.std.proofs.Common.{◌≡◌, ℕ, zero, suc, List, [], ◌∷◌, ◌++◌, Option, Some, None, Ok, Err, refl, sym, ap, ◌∙◌}
use Rattle.std.proofs.Common.{subst, arith, unwrap_or}
use Rattle.std.proofs.lemmas.Bool.{or_right}
use Rattle.std.proofs.lemmas.List.Elements.{Contains-append_left, Contains-append_right}
use Rattle.std.specs.Prelude.{ℤ, ◌-◌, pos, length, Bool, true, false, ◌||◌, Contains, flat_map, if◌then◌else◌}
use Rattle.sections.proofs.Windows.{places_same}
use Rattle.sections.specs.Place.{Place, In, same_place}
use Rattle.types.specs.declared.fault.FaultKind.{FaultKind}
use Rattle.types.specs.Code.{Number, Truth}
use Rattle.types.specs.Contents.{Contents, read, write}
use Rattle.types.specs.Value.{Environment, Valued, then_try, number, truth}
use Rattle.types.specs.Indexed.{indexed, indexed_truth}
use Rattle.types.specs.Laws.{SameOn}
use Rattle.types.specs.Run.{Fault, Flow, On, Faulted, Stopped, State, fault, at_flow, go_on, spend, with_step}
use Rattle.types.specs.Run.{with_value, caught, rescued, rescued_by}
use Rattle.types.specs.Run.{assign, bind, print, put, choose, number_at, numbers_at, truth_at}
use Rattle.types.proofs.Readings.{number_same, truth_same}
use Rattle.race_checker.specs.Scope.{InScope, Scope}
use Rattle.task_run.specs.Places.{first_of}
use Rattle.task_run.specs.Ready.{Around}
use Rattle.task_run.specs.Apart.{Aside, is_stopped, stops_anywhere, merged}

abbrev pub S : Type 0
S = State (Unit {0})

abbrev pub A : Type 0
A = State Aside

abbrev pub Set : Type 1
Set = Place → Type 0

-- both are at the same point; outside of `locked` nothing is set aside
pub record Same (x : Around) (locked : Place → Type 0) (o : S) (a : A) : Type 0 where
  pub flow : o.flow ≡ a.flow
  pub environment : o.environment ≡ a.environment
  pub windows : (s : ℕ) → InScope x.scope s → o.environment.windows s ≡ x.env.windows s
  pub store : (q : Place) → x.held q → o.store q ≡ merged a q
  pub stays : (q : Place) → (x.wrote q → ⊥) → o.store q ≡ x.base q
  pub lines : o.lines ≡ a.lines
  pub faults : o.faults ≡ a.faults
  pub steps : o.steps ≡ a.steps
  pub path : o.path ≡ a.path
  pub spawned : o.spawned ≡ a.spawned
  pub alive : a.extra.stopped ≡ false
  pub out : (q : Place) → (locked q → ⊥) → a.extra.contents q ≡ None

-- or both were stopped
pub data Agree (x : Around) (locked : Place → Type 0) (o : S) (a : A) : Type 0 where
  same : Same x locked o a → Agree x locked o a
  both_stop : o.flow ≡ Stopped → stops_anywhere a ≡ true → Agree x locked o a

-- once a task was stopped, it stays stopped
abbrev pub Dies : (A → A) → Type 0
Dies go = (a : A) → a.extra.stopped ≡ true → (go a).extra.stopped ≡ true

-- after the same change in both they are at the same point: the path and the number of children
-- stay
changed : {f g : Flow} {e h : Environment} {b c : Contents} {ls ms : List (List ℤ)} {fs gs : List Fault} {j k : ℕ} (x y : Around)
    (locked final : Set) (o : S) (a : A) → f ≡ g → e ≡ h → ((z : ℕ) → InScope y.scope z → e.windows z ≡ y.env.windows z)
    → ((q : Place) → y.held q → b q ≡ first_of (a.extra.contents q) (c q)) → ((q : Place) → (y.wrote q → ⊥) → b q ≡ y.base q)
    → ls ≡ ms → fs ≡ gs → j ≡ k → a.extra.stopped ≡ false → ((q : Place) → (final q → ⊥) → a.extra.contents q ≡ None) → Same x locked o a
    → Same y final (record o { flow = f; environment = e; store = b; lines = ls; faults = fs; steps = j })
    (record a { flow = g; environment = h; store = c; lines = ms; faults = gs; steps = k })
changed x y locked final o a flow environment windows store stays lines faults steps alive out s = record {
  flow = flow;
  environment = environment;
  windows = windows;
  store = store;
  stays = stays;
  lines = lines;
  faults = faults;
  steps = steps;
  path = s.path;
  spawned = s.spawned;
  alive = alive;
  out = out;
}

module _ (x : Around) where
  pub widen : (locked final : Set) (o : S) (a : A) → ((q : Place) → locked q → final q) → Same x locked o a → Same x final o a
  widen locked final o a f s =
      changed x x locked final o a s.flow s.environment s.windows s.store s.stays s.lines s.faults s.steps s.alive (λ q n. s.out q (λ l. n (f q l))) s

  -- ---- changes in both
  -- the flows, the lines and faults, and the steps
  pub told : {f g : Flow} {ls ms : List (List ℤ)} {fs gs : List Fault} {j k : ℕ} (locked : Set) (o : S) (a : A)
      → f ≡ g → ls ≡ ms → fs ≡ gs → j ≡ k → Same x locked o a
      → Same x locked (record o { flow = f; lines = ls; faults = fs; steps = j })
      (record a { flow = g; lines = ms; faults = gs; steps = k })
  told locked o a flow lines faults steps s =
      changed x x locked locked o a flow s.environment s.windows s.store s.stays lines faults steps s.alive s.out s

  -- the positions of both, and the names in scope
  pub stand : {e f : Environment} (sc : Scope) (env : Environment) (locked : Set) (o : S) (a : A)
      → e ≡ f → ((z : ℕ) → InScope sc z → e.windows z ≡ env.windows z) → Same x locked o a
      → Same (record x { scope = sc; env = env }) locked (record o { environment = e }) (record a { environment = f })
  stand sc env locked o a environment windows s =
      changed x (record x { scope = sc; env = env }) locked locked o a s.flow environment windows s.store s.stays s.lines s.faults s.steps s.alive s.out s

  -- ---- both continue
  stops_on : (f : Flow) (a : A) (to : A → A) → f ≡ a.flow → Dies to → stops_anywhere a ≡ true → stops_anywhere (at_flow f a to) ≡ true
  stops_on On a to e d y =
      or_right (is_stopped (to a).flow) (to a).extra.stopped (d a (subst (λ f. (is_stopped f || a.extra.stopped) ≡ true) (sym e) y))
  stops_on Faulted a to e d y = y
  stops_on Stopped a to e d y = y

  flow_same : (final : Set) (o : S) (a : A) (go : S → S) (to : A → A) (f : Flow) → Same x final o a → Agree x final (go o) (to a)
      → Agree x final (at_flow f o go) (at_flow f a to)
  flow_same final o a go to On s h = h
  flow_same final o a go to Faulted s h = same s
  flow_same final o a go to Stopped s h = same s

  pub then_same : (mid final : Set) (o : S) (a : A) (go : S → S) (to : A → A) → Dies to → ((q : Place) → mid q → final q)
      → Agree x mid o a → (Same x mid o a → Agree x final (go o) (to a)) → Agree x final (go_on go o) (go_on to a)
  then_same mid final o a go to d f (same s) h =
      subst (λ f. Agree x final (at_flow f o go) (go_on to a)) (sym s.flow)
      (flow_same final o a go to a.flow (widen mid final o a f s) (h s))
  then_same mid final o a go to d f (both_stop e y) h =
      subst (λ f. Agree x final (at_flow f o go) (go_on to a)) (sym e) (both_stop e (stops_on a.flow a to refl d y))

  spend_same : (locked final : Set) (o : S) (a : A) (go : S → S) (to : A → A) (j k : ℕ) → j ≡ k → Same x locked o a
      → ((u : S) (v : A) → Same x locked u v → Agree x final (go u) (to v)) → Agree x final (spend j o go) (spend k a to)
  spend_same locked final o a go to zero zero e s h = both_stop refl refl
  spend_same locked final o a go to zero (suc k) e s h = absurd (omega (arith, e))
  spend_same locked final o a go to (suc j) zero e s h = absurd (omega (arith, e))
  spend_same locked final o a go to (suc j) (suc k) e s h =
      let fewer : j ≡ k = omega (arith, e) in
      h (record o { steps = j }) (record a { steps = k }) (told locked o a s.flow s.lines s.faults fewer s)

  pub step_same : (locked final : Set) (o : S) (a : A) (go : S → S) (to : A → A) → Same x locked o a
      → ((u : S) (v : A) → Same x locked u v → Agree x final (go u) (to v)) → Agree x final (with_step go o) (with_step to a)
  step_same locked final o a go to s h = spend_same locked final o a go to o.steps a.steps s.steps s h

  -- ---- values
  pub fault_same : (locked : Set) (o : S) (a : A) (l : ℕ) (k : FaultKind) → Same x locked o a → Same x locked (fault l k o) (fault l k a)
  fault_same locked o a l k s =
      told locked o a refl s.lines
      (ap (λ fs. fs ++ record { path = o.path; label = l; kind = k } ∷ []) s.faults
      ∙ ap (λ path. a.faults ++ record { path = path; label = l; kind = k } ∷ []) s.path) s.steps s

  pub value_same : {B : Type 0} (final : Set) (o : S) (a : A) (l : ℕ) (u v : Valued B) (go : B → S → S) (to : B → A → A) → u ≡ v
      → Same x final o a → ((y : B) → u ≡ Ok y → Agree x final (go y o) (to y a))
      → Agree x final (with_value l u go o) (with_value l v to a)
  value_same {B} final o a l u v go to e s h = subst (λ v. Agree x final (with_value l u go o) (with_value l v to a)) e (by_value u refl)
    where
      by_value : (w : Valued B) → u ≡ w → Agree x final (with_value l w go o) (with_value l w to a)
      by_value (Ok y) k = h y k
      by_value (Err f) k = same (fault_same final o a l f s)

  pub choose_same : (final : Set) (o : S) (a : A) (b : Bool) (go go' : S → S) (to to' : A → A) → Agree x final (go o) (to a)
      → Agree x final (go' o) (to' a) → Agree x final (choose go go' b o) (choose to to' b a)
  choose_same final o a true go go' to to' h k = h
  choose_same final o a false go go' to to' h k = k

  -- both read the same value
  pub reads_same : (locked : Set) (o : S) (a : A) → Same x locked o a → (q : Place) → x.held q → (locked q → ⊥) → o.store q ≡ a.store q
  reads_same locked o a s q h n = s.store q h ∙ ap (λ v. first_of v (a.store q)) (s.out q n)

  -- sections whose places are the same for both
  abbrev pub Readable : Set → List ℕ → Type 0
  Readable locked ss = (s : ℕ) → Contains ss s → InScope x.scope s × ((q : Place) → In (x.env.windows s) q → x.held q × (locked q → ⊥))

  pub left_readable : (locked : Set) (ss ts : List ℕ) → Readable locked (ss ++ ts) → Readable locked ss
  left_readable locked ss ts h s c = h s (Contains-append_left ss ts s c)

  pub right_readable : (locked : Set) (ss ts : List ℕ) → Readable locked (ss ++ ts) → Readable locked ts
  right_readable locked ss ts h s c = h s (Contains-append_right ss ts s c)

  module _ (locked : Set) (o : S) (a : A) (s : Same x locked o a) where
    alike : (ss : List ℕ) → Readable locked ss → SameOn o.environment ss (read o.store) (read a.store)
    alike ss h t c q i =
        let k = h t c in
        let m = k.1 q (subst (λ w. In w q) (s.windows t k.0) i) in
        ap (λ v. unwrap_or v (pos 0)) (reads_same locked o a s q m.0 m.1)

    pub number_alike : (e : Number) → Readable locked (indexed e) → number_at o e ≡ number_at a e
    number_alike e h =
        number_same o.environment (read o.store) (read a.store) e (alike (indexed e) h)
        ∙ ap (λ env. number env (read a.store) e) s.environment

    pub truth_alike : (t : Truth) → Readable locked (indexed_truth t) → truth_at o t ≡ truth_at a t
    truth_alike t h =
        truth_same o.environment (read o.store) (read a.store) t (alike (indexed_truth t) h)
        ∙ ap (λ env. truth env (read a.store) t) s.environment

    pub numbers_alike : (es : List Number) → Readable locked (flat_map indexed es) → numbers_at o es ≡ numbers_at a es
    numbers_alike [] h = refl
    numbers_alike (e ∷ es) h =
        ap (λ u. then_try u (λ v. then_try (numbers_at o es) (λ vs. Ok (v ∷ vs))))
        (number_alike e (left_readable locked (indexed e) (flat_map indexed es) h))
        ∙ ap (λ u. then_try (number_at a e) (λ v. then_try u (λ vs. Ok (v ∷ vs))))
        (numbers_alike es (right_readable locked (indexed e) (flat_map indexed es) h))

    -- ---- what a step changes
    pub assign_same : (n : ℕ) (v : ℤ) → Same x locked (assign n v o) (assign n v a)
    assign_same n v =
        stand x.scope x.env locked o a (ap {A = Environment} (λ env. record env { scalars = bind n v env.scalars }) s.environment)
        s.windows s

    pub print_same : (vs : List ℤ) → Same x locked (print vs o) (print vs a)
    print_same vs = told locked o a s.flow (ap (λ ls. ls ++ vs ∷ []) s.lines) s.faults s.steps s

    write_at : (b : Bool) (n u v w : Option ℤ) → (b ≡ true → u ≡ None) → v ≡ first_of u w
        → (if b then n else v) ≡ first_of u (if b then n else w)
    write_at true n u v w f e = ap (λ y. first_of y n) (sym (f refl))
    write_at false n u v w f e = e

    stays_at : (b : Bool) (n v w : Option ℤ) → (b ≡ true → ⊥) → v ≡ w → (if b then n else v) ≡ w
    stays_at true n v w f e = absurd (f refl)
    stays_at false n v w f e = e

    write_same : (q : Place) (v : ℤ) → (locked q → ⊥) → x.wrote q
        → Same x locked (record o { store = write q v o.store }) (record a { store = write q v a.store })
    write_same q v n w =
        changed x x locked locked o a s.flow s.environment s.windows
        (λ r h. write_at (same_place q r) (Some v) (a.extra.contents r) (o.store r) (a.store r)
        (λ e. s.out r (λ l. n (subst locked (sym (places_same q r e)) l))) (s.store r h))
        (λ r m. stays_at (same_place q r) (Some v) (o.store r) (x.base r) (λ e. m (subst x.wrote (places_same q r e) w)) (s.stays r m))
        s.lines s.faults s.steps s.alive s.out s

    pub put_same : (l : ℕ) (fits : Bool) (q : Place) (v : ℤ) → (locked q → ⊥) → x.wrote q
        → Same x locked (put l fits q v o) (put l fits q v a)
    put_same l true q v n w = write_same q v n w
    put_same l false q v n w = fault_same locked o a l _ s

  -- ---- the handler of a finish
  -- both start it
  caught_same : (locked : Set) (n : ℕ) (o : S) (a : A) (before fs : List Fault) → Same x locked o a → before ≡ fs
      → Same x locked (caught n before o) (caught n fs a)
  caught_same locked n o a before fs s e =
      let number = length o.faults - length before in
      let same_number : number ≡ length a.faults - length fs = omega (arith, ap length s.faults, ap length e) in
      let at = assign_same locked o a s n (pos number) in
      subst (λ k. Same x locked (caught n before o) (record (assign n (pos k) a) { flow = On; faults = fs })) same_number
      (told locked (assign n (pos number) o) (assign n (pos number) a) refl at.lines e at.steps at)

  stops_rescued : (f : Flow) (n : ℕ) (fs : List Fault) (a : A) (to : A → A) → f ≡ a.flow → Dies to → stops_anywhere a ≡ true
      → stops_anywhere (rescued_by f n to fs a) ≡ true
  stops_rescued On n fs a to e d y = y
  stops_rescued Faulted n fs a to e d y =
      let c = caught n fs a in
      or_right (is_stopped (to c).flow) (to c).extra.stopped (d c (subst (λ f. (is_stopped f || a.extra.stopped) ≡ true) (sym e) y))
  stops_rescued Stopped n fs a to e d y = y

  -- both continue with it if the finish ended with faults
  pub rescue_same : (locked final : Set) (n : ℕ) (before fs : List Fault) (o : S) (a : A) (go : S → S) (to : A → A) → Dies to
      → ((q : Place) → locked q → final q) → before ≡ fs → Agree x locked o a
      → ((u : S) (v : A) → Same x locked u v → Agree x final (go u) (to v))
      → Agree x final (rescued n go before o) (rescued n to fs a)
  rescue_same locked final n before fs o a go to d f e (same s) h =
      subst (λ g. Agree x final (rescued_by g n go before o) (rescued n to fs a)) (sym s.flow) (by_flow a.flow)
    where
      by_flow : (g : Flow) → Agree x final (rescued_by g n go before o) (rescued_by g n to fs a)
      by_flow On = same (widen locked final o a f s)
      by_flow Faulted = h (caught n before o) (caught n fs a) (caught_same locked n o a before fs s e)
      by_flow Stopped = same (widen locked final o a f s)
  rescue_same locked final n before fs o a go to d f e (both_stop y z) h =
      subst (λ g. Agree x final (rescued_by g n go before o) (rescued n to fs a)) (sym y)
      (both_stop y (stops_rescued a.flow n fs a to refl d z))

-- Plain work does under all rules what it does on one thread, and applies `stepped` for each step.
use Rattle.std.proofs.Common.{◌≡◌, ℕ, zero, suc, ◌+◌, Ok, Err, refl, sym, ap, ◌∙◌, subst, arith}
use Rattle.std.specs.Prelude.{ℤ, Bool, true, false, map, ok_or}
use Rattle.sections.specs.Place.{Place, has_piece, sides_of}
use Rattle.types.specs.declared.fault.FaultKind.TheVariants.{SplitPoint, PieceSize, Raised}
use Rattle.types.specs.Code.{Primitive, Skip, Assign, Store, Print, Raise, Code, Do, If, While, Split, Parts, Begun, Call}
use Rattle.types.specs.Code.{Async, Finish, Rescue, Codes, End, Then, Program}
use Rattle.types.specs.Meaning.{one_rules}
use Rattle.types.specs.Value.{Environment, Valued, element_of, holds_number}
use Rattle.types.specs.Run.{Flow, On, Faulted, Stopped, State, Rules, Work, Block, Turn, Pieces, at_flow, go_on, spend, with_step}
use Rattle.types.specs.Run.{stopped, fault, with_value, number_at, numbers_at, truth_at, window_at, assign, print, put, choose}
use Rattle.types.specs.Run.{entry, with_sides, in_turn, piece_size, array_of, procedure_of, primitive, counted, act, block, work}
use Rattle.types.specs.Run.{within, run}
use Rattle.plain_code.specs.Means.{IsAsOnOne, bare, beside, times}
use Rattle.plain_code.specs.Plain.{ArePlain, IsPlainWork}
use Rattle.plain_code.proofs.Reaching.{Inside, inside, plain_behind}

abbrev U : Type 0
U = State (Unit {0})

module _ {X : Type 0} where
  -- extra data that is added is removed again
  pub bare_beside : (x : X) (u : U) → bare (beside x u) ≡ u
  bare_beside x u = refl

  times_more : (f : X → X) (a b : ℕ) (x : X) → times b f (times a f x) ≡ times (a + b) f x
  times_more f zero b x =
      let e : b ≡ zero + b = omega arith in
      ap (λ n. times n f x) e
  times_more f (suc a) b x =
      let e : suc (a + b) ≡ suc a + b = omega arith in
      times_more f a b (f x) ∙ ap (λ n. times n f x) e

module _ (p : Program) {X : Type 0} (r : Rules X) (once : X → X) (same : (l : ℕ) (x : X) → r.stepped l x ≡ once x)
    (fresh nest : ℕ) where
  abbrev q : Rules (Unit {0})
  q = one_rules p fresh nest

  abbrev At : (st out : State X) → U → Type 0
  At = IsAsOnOne once

  abbrev Alike : (State X → State X) → (U → U) → Type 0
  Alike go to = (st : State X) → At st (go st) (to (bare st))

  -- no step was taken
  still : (st : State X) (u : U) → u.steps ≡ st.steps → At st (beside st.extra u) u
  still st u e = record { taken = zero; steps = omega (arith, e); is = refl }

  -- ---- what is done next
  flow_alike : (f : Flow) (go : State X → State X) (to : U → U) → Alike go to → (st : State X) (u : U) (n : ℕ)
      → u.steps + n ≡ st.steps
      → At st (at_flow f (beside (times n once st.extra) u) go) (at_flow f u to)
  flow_alike On go to h st u n e =
      let x = times n once st.extra in
      let k : At (beside x u) (go (beside x u)) (to u)
      = subst (λ v. At (beside x u) (go (beside x u)) (to v)) (bare_beside x u) (h (beside x u)) in
      record {
        taken = n + k.taken;
        steps = let i = k.steps in omega (arith, e, i);
        is = k.is ∙ ap (λ y. beside y (to u)) (times_more once n k.taken st.extra);
      }
  flow_alike Faulted go to h st u n e = record { taken = n; steps = e; is = refl }
  flow_alike Stopped go to h st u n e = record { taken = n; steps = e; is = refl }

  then_alike : (st out : State X) (u : U) (go : State X → State X) (to : U → U) → At st out u → Alike go to
      → At st (go_on go out) (go_on to u)
  then_alike st out u go to k h =
      subst (λ o. At st (go_on go o) (go_on to u)) (sym k.is) (flow_alike u.flow go to h st u k.taken k.steps)

  -- ---- operations
  value_alike : {A : Type 0} (l : ℕ) (v : Valued A) (go : A → State X → State X) (to : A → U → U) (st : State X)
      → ((a : A) → At st (go a st) (to a (bare st))) → At st (with_value l v go st) (with_value l v to (bare st))
  value_alike l (Ok a) go to st h = h a
  value_alike l (Err k) go to st h = still st (fault l k (bare st)) refl

  choose_alike : (b : Bool) (f g : State X → State X) (h k : U → U) (st : State X) → At st (f st) (h (bare st))
      → At st (g st) (k (bare st)) → At st (choose f g b st) (choose h k b (bare st))
  choose_alike true f g h k st i j = i
  choose_alike false f g h k st i j = j

  put_alike : (l : ℕ) (fits : Bool) (place : Place) (n : ℤ) → Alike (put l fits place n) (put l fits place n)
  put_alike l true place n st = still st (put l true place n (bare st)) refl
  put_alike l false place n st = still st (put l false place n (bare st)) refl

  primitive_alike : (l : ℕ) (c : Primitive) → Alike (primitive p l c) (primitive p l c)
  primitive_alike l Skip st = still st (bare st) refl
  primitive_alike l (Assign x e) st =
      value_alike l (number_at st e) (assign x) (assign x) st (λ n. still st (assign x n (bare st)) refl)
  primitive_alike l (Store s i e) st =
      value_alike l (number_at st i) _ _ st (λ at. value_alike l (number_at st e) _ _ st (λ n.
      value_alike l (element_of (window_at st s) at) _ _ st (λ place.
      put_alike l (holds_number (array_of p place.array).element n) place n st)))
  primitive_alike l (Print es) st =
      value_alike l (numbers_at st es) print print st (λ vs. still st (print vs (bare st)) refl)
  primitive_alike l (Raise e) st =
      value_alike l (number_at st e) _ _ st (λ n. still st (fault l (Raised n) (bare st)) refl)

  -- a run that started in another environment
  moved : (env : Environment) (st out : State X) (u : U) → At (record st { environment = env }) out u → At st out u
  moved env st out u k = record { taken = k.taken; steps = k.steps; is = k.is }

  -- and returns to the first environment
  back_alike : (env : Environment) (st out : State X) (u : U) → At (record st { environment = env }) out u
      → At st (record out { environment = st.environment }) (record u { environment = st.environment })
  back_alike env st out u k = record {
    taken = k.taken;
    steps = k.steps;
    is = ap (λ (o : State X). record o { environment = st.environment }) k.is;
  }

  -- ---- a step
  told_once : (l : ℕ) (c : Code) → Inside p c → (st : State X) → counted r l c st ≡ record st { extra = once st.extra }
  told_once l (Do s) i st = ap (λ x. record st { extra = x }) (same l st.extra)
  told_once l (If t b c) i st = ap (λ x. record st { extra = x }) (same l st.extra)
  told_once l (While t b) i st = ap (λ x. record st { extra = x }) (same l st.extra)
  told_once l (Split s e x y b) i st = ap (λ x. record st { extra = x }) (same l st.extra)
  told_once l (Parts s e x j b) i st = ap (λ x. record st { extra = x }) (same l st.extra)
  told_once l (Begun s n k x j b) i st = ap (λ x. record st { extra = x }) (same l st.extra)
  told_once l (Call f es ss) i st = ap (λ x. record st { extra = x }) (same l st.extra)
  told_once l (Async b) i st = absurd i
  told_once l (Finish b) i st = absurd i
  told_once l (Rescue b x c) i st = absurd i

  untold : (l : ℕ) (c : Code) (u : U) → counted q l c u ≡ u
  untold l (Do s) u = refl
  untold l (If t b c) u = refl
  untold l (While t b) u = refl
  untold l (Split s e x y b) u = refl
  untold l (Parts s e x j b) u = refl
  untold l (Begun s n k x j b) u = refl
  untold l (Call f es ss) u = refl
  untold l (Async b) u = refl
  untold l (Finish b) u = refl
  untold l (Rescue b x c) u = refl

  step_alike : (d : Work → State X → State X) (e : Work → U → U) (l : ℕ) (c : Code) → Inside p c
      → Alike (act p r d l c) (act p q e l c)
      → Alike (with_step (λ st. act p r d l c (counted r l c st))) (with_step (λ u. act p q e l c (counted q l c u)))
  step_alike d e l c i h st = by_steps st.steps refl
    where
      by_steps : (n : ℕ) → n ≡ st.steps
          → At st (spend n st (λ st. act p r d l c (counted r l c st))) (spend n (bare st) (λ u. act p q e l c (counted q l c u)))
      by_steps zero is = still st (stopped (bare st)) refl
      by_steps (suc n) is =
          let mid : State X = record st { steps = n; extra = once st.extra } in
          let k = h mid in
          let told : At st (act p r d l c mid) (act p q e l c (bare mid))
          = record { taken = suc k.taken; steps = let j = k.steps in omega (arith, j, is); is = k.is } in
          subst (λ (u : U). At st (act p r d l c (counted r l c (record st { steps = n }))) (act p q e l c u))
          (sym (untold l c (record (bare st) { steps = n })))
          (subst (λ (s : State X). At st (act p r d l c s) (act p q e l c (bare mid)))
          (sym (told_once l c i (record st { steps = n }))) told)

  -- ---- statements and blocks
  module _ (d : Work → State X → State X) (e : Work → U → U) (deeper : (w : Work) → IsPlainWork p w → Alike (d w) (e w)) where
    mutual
      act_alike : (c : Code) (l : ℕ) → Inside p c → Alike (act p r d l c) (act p q e l c)
      act_alike (Do c) l i st = primitive_alike l c st
      act_alike (If t b c) l i st =
          value_alike l (truth_at st t) _ _ st (λ v.
          choose_alike v (block p r d b) (block p r d c) (block p q e b) (block p q e c) st (block_alike b i.0 st)
          (block_alike c i.1 st))
      act_alike (While t b) l i st =
          value_alike l (truth_at st t) _ _ st (λ v.
          choose_alike v (λ s. go_on (d (Turn l t b)) (block p r d b s)) (λ s. s) (λ u. go_on (e (Turn l t b)) (block p q e b u))
          (λ u. u) st
          (then_alike st (block p r d b st) (block p q e b (bare st)) (d (Turn l t b)) (e (Turn l t b)) (block_alike b i st)
          (deeper (Turn l t b) i))
          (still st (bare st) refl))
      act_alike (Split s n x y b) l i st =
          value_alike l (number_at st n) _ _ st (λ v.
          value_alike l (ok_or (sides_of (window_at st s) v) SplitPoint) _ _ st (λ ws.
          let env = with_sides x y ws st.environment in
          moved env st _ _ (block_alike b i (record st { environment = env }))))
      act_alike (Parts s n x j b) l i st =
          value_alike l (number_at st n) _ _ st (λ v.
          value_alike l (ok_or (piece_size v) PieceSize) _ _ st (λ m. deeper (Pieces l s m 0 x j b) i st))
      act_alike (Begun s n k x j b) l i st =
          let env = (in_turn s n k x j st).environment in
          let next : Work = Pieces l s n (k + 1) x j b in
          then_alike st (block p r d b (in_turn s n k x j st)) (block p q e b (in_turn s n k x j (bare st))) (d next) (e next)
          (moved env st _ _ (block_alike b i (record st { environment = env })))
          (deeper next i)
      act_alike (Call f es ss) l i st =
          value_alike l (numbers_at st es) _ _ st (λ vs.
          let env = entry vs (map (window_at st) ss) in
          back_alike env st _ _ (deeper (Block (procedure_of p f).body) i (record st { environment = env })))
      act_alike (Async b) l i st = absurd i
      act_alike (Finish b) l i st = absurd i
      act_alike (Rescue b x c) l i st = absurd i

      block_alike : (b : Codes) → ArePlain p b → Alike (block p r d b) (block p q e b)
      block_alike End plain st = still st (bare st) refl
      block_alike (Then l c rest) plain st =
          let i = inside p l c rest plain in
          then_alike st _ _ (block p r d rest) (block p q e rest) (step_alike d e l c i (act_alike c l i) st)
          (block_alike rest (plain_behind p l c rest plain))

    work_alike : (w : Work) → IsPlainWork p w → Alike (work p r d w) (work p q e w)
    work_alike (Block b) plain st = block_alike b plain st
    work_alike (Turn l t b) plain st = step_alike d e l (While t b) plain (act_alike (While t b) l plain) st
    work_alike (Pieces l s n k x j b) plain st =
        let c : Code = Begun s n k x j b in
        choose_alike (has_piece (window_at st s) n k) (with_step (λ st. act p r d l c (counted r l c st))) (λ st. st)
        (with_step (λ u. act p q e l c (counted q l c u))) (λ u. u) st
        (step_alike d e l c plain (act_alike c l plain) st)
        (still st (bare st) refl)

  within_alike : (k : ℕ) (w : Work) → IsPlainWork p w → Alike (within p r k w) (within p q k w)
  within_alike zero w plain st = still st (stopped (bare st)) refl
  within_alike (suc k) w plain st = work_alike (within p r k) (within p q k) (within_alike k) w plain st

  -- plain work means the same under all rules
  pub plain_means : (w : Work) → IsPlainWork p w → (st : State X) → At st (run p r w st) (run p q w (bare st))
  plain_means w plain st = within_alike (st.steps + 1) w plain st

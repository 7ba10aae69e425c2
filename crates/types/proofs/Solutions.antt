-- A run solves its equation, and no other function does.
use Rattle.std.proofs.Common.{◌≡◌, ℕ, zero, suc, ◌+◌, ◌<◌, ◌≤◌, List, Ok, Err, refl, sym, ap, ◌∙◌, arith, le_refl}
use Rattle.std.specs.Prelude.{ℤ, Bool, true, false, map, ok_or}
use Rattle.types.specs.declared.fault.FaultKind.TheVariants.{SplitPoint, PieceSize}
use Rattle.types.specs.Code.{Primitive, Skip, Assign, Store, Print, Raise, Code, Do, If, While, Split, Parts, Begun}
use Rattle.types.specs.Code.{Call, Async, Finish, Rescue, Codes, End, Then, Program}
use Rattle.sections.specs.Place.{Place, sides_of, has_piece}
use Rattle.types.specs.Value.{Valued, element_of, holds_number, then_try}
use Rattle.types.specs.Run.{Flow, On, Faulted, Stopped, Fault, State, Work, Block, Turn, Pieces, at_flow, go_on, spend}
use Rattle.types.specs.Run.{with_step, in_turn, piece_size}
use Rattle.types.specs.Run.{with_value, number_at, numbers_at, truth_at, window_at, assign, print, put, choose, entry}
use Rattle.types.specs.Run.{with_sides, array_of, procedure_of, Rules, primitive, counted, act, block, work, within}
use Rattle.types.specs.Run.{run, caught, rescued, rescued_by}
use Rattle.types.specs.Laws.{IsThrifty, Solves, IsOnly}
use Rattle.types.proofs.Counted.{counted_steps}

module _ {X : Type 0} where
  -- a rule gives no step back
  abbrev pub Less : (State X → State X) → Type 0
  Less go = (st : State X) → (go st).steps ≤ st.steps

  flow_less : (f : Flow) (st : State X) (go : State X → State X) → Less go → (at_flow f st go).steps ≤ st.steps
  flow_less On st go h = h st
  flow_less Faulted st go h = le_refl st.steps
  flow_less Stopped st go h = le_refl st.steps

  spend_less : (n : ℕ) (st : State X) (go : State X → State X) → n ≡ st.steps → Less go → (spend n st go).steps ≤ st.steps
  spend_less zero st go e h = le_refl st.steps
  spend_less (suc n) st go e h = let k = h (record st { steps = n }) in omega (arith, e, k)

  pub value_less : {A : Type 0} (l : ℕ) (v : Valued A) (go : A → State X → State X) (st : State X)
      → ((x : A) → (go x st).steps ≤ st.steps) → (with_value l v go st).steps ≤ st.steps
  value_less l (Ok x) go st h = h x
  value_less l (Err f) go st h = le_refl st.steps

  pub put_less : (l : ℕ) (fits : Bool) (q : Place) (v : ℤ) → Less (put l fits q v)
  put_less l true q v st = le_refl st.steps
  put_less l false q v st = le_refl st.steps

  again_less : (body again : State X → State X) → Less body → Less again → Less (λ s. go_on again (body s))
  again_less body again h k st = let i = h st in let j = flow_less (body st).flow (body st) again k in omega (arith, i, j)

  choose_less : (b : Bool) (body other : State X → State X) → Less body → Less other → Less (choose body other b)
  choose_less true body other h k = h
  choose_less false body other h k = k

  rescue_less : (f : Flow) (x : ℕ) (go : State X → State X) (before : List Fault) (out : State X) → Less go
      → (rescued_by f x go before out).steps ≤ out.steps
  rescue_less On x go before out h = le_refl out.steps
  rescue_less Faulted x go before out h = h (caught x before out)
  rescue_less Stopped x go before out h = le_refl out.steps

  rescue_agree : (f : Flow) (x : ℕ) (go to : State X → State X) (before : List Fault) (out : State X)
      → go (caught x before out) ≡ to (caught x before out) → rescued_by f x go before out ≡ rescued_by f x to before out
  rescue_agree On x go to before out h = refl
  rescue_agree Faulted x go to before out h = h
  rescue_agree Stopped x go to before out h = refl

  pub flow_agree : (f : Flow) (st : State X) (go to : State X → State X) → go st ≡ to st → at_flow f st go ≡ at_flow f st to
  flow_agree On st go to h = h
  flow_agree Faulted st go to h = refl
  flow_agree Stopped st go to h = refl

  then_agree : (a b : State X) (go to : State X → State X) → a ≡ b → go a ≡ to a → go_on go a ≡ go_on to b
  then_agree a b go to e h = flow_agree a.flow a go to h ∙ ap (go_on to) e

  value_agree : {A : Type 0} (l : ℕ) (v : Valued A) (go to : A → State X → State X) (st : State X) → ((x : A) → go x st ≡ to x st)
      → with_value l v go st ≡ with_value l v to st
  value_agree l (Ok x) go to st h = h x
  value_agree l (Err f) go to st h = refl

  -- one value, then another that depends on it
  pub value_twice : {A B : Type 0} (l : ℕ) (v : Valued A) (f : A → Valued B) (go : B → State X → State X) (st : State X)
      → with_value l (then_try v f) go st ≡ with_value l v (λ x. with_value l (f x) go) st
  value_twice l (Ok x) f go st = refl
  value_twice l (Err e) f go st = refl

  choose_agree : (b : Bool) (f g other : State X → State X) (st : State X) (h : State X → State X) → f st ≡ g st → other st ≡ h st
      → choose f other b st ≡ choose g h b st
  choose_agree true f g other st h e d = e
  choose_agree false f g other st h e d = d

  spend_agree : (m n : ℕ) (st : State X) (go to : State X → State X) → n ≡ st.steps → st.steps ≤ m
      → ((s : State X) → s.steps < m → go s ≡ to s) → spend n st go ≡ spend n st to
  spend_agree m zero st go to e le h = refl
  spend_agree m (suc n) st go to e le h = h (record st { steps = n }) (omega (arith, e, le))

module _ (p : Program) {X : Type 0} where
  pub primitive_less : (l : ℕ) (s : Primitive) → Less {X = X} (primitive p l s)
  primitive_less l Skip st = le_refl st.steps
  primitive_less l (Assign x e) st = value_less l (number_at st e) (assign x) st (λ v. le_refl st.steps)
  primitive_less l (Store s i e) st =
      value_less l (number_at st i) _ st (λ at. value_less l (number_at st e) _ st (λ v.
      value_less l (element_of (window_at st s) at) _ st (λ q. put_less l (holds_number (array_of p q.array).element v) q v st)))
  primitive_less l (Print es) st = value_less l (numbers_at st es) print st (λ vs. le_refl st.steps)
  primitive_less l (Raise e) st = value_less l (number_at st e) _ st (λ v. le_refl st.steps)

module _ (p : Program) {X : Type 0} (r : Rules X) where
  counted_act_less : (d : Work → State X → State X) (l : ℕ) (s : Code) → Less (act p r d l s) → Less (λ st. act p r d l s (counted r l s st))
  counted_act_less d l s h st = let i = h (counted r l s st) in let j = counted_steps r l st s in omega (arith, i, j)

  step_agree : (m : ℕ) (d e : Work → State X → State X) (l : ℕ) (s : Code)
      → ((st : State X) → st.steps < m → act p r d l s st ≡ act p r e l s st) → (st : State X) → st.steps ≤ m
      → with_step (λ st. act p r d l s (counted r l s st)) st ≡ with_step (λ st. act p r e l s (counted r l s st)) st
  step_agree m d e l s h st le =
      spend_agree m st.steps st (λ st. act p r d l s (counted r l s st)) (λ st. act p r e l s (counted r l s st)) refl le
      (λ x lt. h (counted r l s x) (let j = counted_steps r l x s in omega (arith, j, lt)))

module _ (p : Program) {X : Type 0} (r : Rules X) (thrifty : IsThrifty r) where
  abbrev Deeper : Type 0
  Deeper = Work → State X → State X

  abbrev LessIn : Deeper → Type 0
  LessIn d = (w : Work) → Less (d w)

  module _ (d : Deeper) (h : LessIn d) where
    mutual
      act_less : (s : Code) (l : ℕ) → Less (act p r d l s)
      act_less (Do s) l st = primitive_less p l s st
      act_less (If t b c) l st =
          value_less l (truth_at st t) _ st (λ v. choose_less v (block p r d b) (block p r d c) (block_less b) (block_less c) st)
      act_less (While t b) l st =
          value_less l (truth_at st t) _ st (λ v.
          choose_less v (λ s. go_on (d (Turn l t b)) (block p r d b s)) (λ s. s)
          (again_less (block p r d b) (d (Turn l t b)) (block_less b) (h (Turn l t b))) (λ s. le_refl s.steps) st)
      act_less (Split s e x y b) l st =
          value_less l (number_at st e) _ st (λ v. value_less l (ok_or (sides_of (window_at st s) v) SplitPoint) _ st (λ ws.
          block_less b (record st { environment = with_sides x y ws st.environment })))
      act_less (Parts s e x i b) l st =
          value_less l (number_at st e) _ st (λ v. value_less l (ok_or (piece_size v) PieceSize) _ st (λ n. h (Pieces l s n 0 x i b) st))
      act_less (Begun s n k x i b) l st =
          again_less (block p r d b) (d (Pieces l s n (k + 1) x i b)) (block_less b) (h (Pieces l s n (k + 1) x i b)) (in_turn s n k x i st)
      act_less (Call f es ss) l st =
          value_less l (numbers_at st es) _ st
          (λ vs. h (Block (procedure_of p f).body) (record st { environment = entry vs (map (window_at st) ss) }))
      act_less (Async b) l st = thrifty.begin l b st
      act_less (Finish b) l st =
          let i = thrifty.enter l st in
          let j = block_less b (r.enter l st) in
          let k = thrifty.leave st (block p r d b (r.enter l st)) in omega (arith, i, j, k)
      act_less (Rescue b x c) l st =
          let out = r.leave st (block p r d b (r.enter l st)) in
          let i = thrifty.enter l st in
          let j = block_less b (r.enter l st) in
          let k = thrifty.leave st (block p r d b (r.enter l st)) in
          let m = rescue_less out.flow x (block p r d c) st.faults out (block_less c) in omega (arith, i, j, k, m)

      block_less : (b : Codes) → Less (block p r d b)
      block_less End st = le_refl st.steps
      block_less (Then l s rest) st =
          let after = with_step (λ st. act p r d l s (counted r l s st)) st in
          let i = spend_less st.steps st (λ st. act p r d l s (counted r l s st)) refl (counted_act_less p r d l s (act_less s l)) in
          let j = flow_less after.flow after (block p r d rest) (block_less rest) in omega (arith, i, j)

    work_less : LessIn (work p r d)
    work_less (Block b) st = block_less b st
    work_less (Turn l t b) st =
        spend_less st.steps st (λ st. act p r d l (While t b) (counted r l (While t b) st)) refl
        (counted_act_less p r d l (While t b) (act_less (While t b) l))
    work_less (Pieces l s n k x i b) st =
        let c = Begun s n k x i b in
        choose_less (has_piece (window_at st s) n k) (with_step (λ st. act p r d l c (counted r l c st))) (λ st. st)
        (λ st. spend_less st.steps st (λ st. act p r d l c (counted r l c st)) refl (counted_act_less p r d l c (act_less c l)))
        (λ st. le_refl st.steps) st

  within_less : (k : ℕ) → LessIn (within p r k)
  within_less zero w st = le_refl st.steps
  within_less (suc k) w st = work_less (within p r k) (within_less k) w st

  -- a run gives no step back
  pub run_less : LessIn (run p r)
  run_less w st = within_less (st.steps + 1) w st

  -- two functions for calls and iterations that agree if fewer than m steps are left
  abbrev Agree : ℕ → Deeper → Deeper → Type 0
  Agree m d e = (w : Work) (st : State X) → st.steps < m → d w st ≡ e w st

  module _ (m : ℕ) (d e : Deeper) (less : LessIn d) (agree : Agree m d e) where
    mutual
      act_agree : (s : Code) (l : ℕ) (st : State X) → st.steps < m → act p r d l s st ≡ act p r e l s st
      act_agree (Do s) l st lt = refl
      act_agree (If t b c) l st lt =
          value_agree l (truth_at st t) _ _ st
          (λ v. choose_agree v (block p r d b) (block p r e b) (block p r d c) st (block p r e c)
          (block_agree b st (omega (arith, lt))) (block_agree c st (omega (arith, lt))))
      act_agree (While t b) l st lt =
          let out = block p r d b st in
          let i = block_less d less b st in
          value_agree l (truth_at st t) _ _ st (λ v.
          choose_agree v (λ s. go_on (d (Turn l t b)) (block p r d b s)) (λ s. go_on (e (Turn l t b)) (block p r e b s))
          (λ s. s) st (λ s. s)
          (then_agree out (block p r e b st) (d (Turn l t b)) (e (Turn l t b)) (block_agree b st (omega (arith, lt)))
          (agree (Turn l t b) out (omega (arith, i, lt)))) refl)
      act_agree (Split s x left right b) l st lt =
          value_agree l (number_at st x) _ _ st (λ v. value_agree l (ok_or (sides_of (window_at st s) v) SplitPoint) _ _ st (λ ws.
          block_agree b (record st { environment = with_sides left right ws st.environment }) (omega (arith, lt))))
      act_agree (Parts s y x i b) l st lt =
          value_agree l (number_at st y) _ _ st (λ v. value_agree l (ok_or (piece_size v) PieceSize) _ _ st (λ n.
          agree (Pieces l s n 0 x i b) st lt))
      act_agree (Begun s n k x i b) l st lt =
          let inner = in_turn s n k x i st in
          let out = block p r d b inner in
          let fewer : out.steps ≤ st.steps = block_less d less b inner in
          then_agree out (block p r e b inner) (d (Pieces l s n (k + 1) x i b)) (e (Pieces l s n (k + 1) x i b))
          (block_agree b inner (omega (arith, lt))) (agree (Pieces l s n (k + 1) x i b) out (omega (arith, fewer, lt)))
      act_agree (Call f es ss) l st lt =
          value_agree l (numbers_at st es) _ _ st (λ vs.
          ap {A = State X} (λ out. record out { environment = st.environment })
          (agree (Block (procedure_of p f).body) (record st { environment = entry vs (map (window_at st) ss) }) lt))
      act_agree (Async b) l st lt = refl
      act_agree (Finish b) l st lt =
          let i = thrifty.enter l st in ap (r.leave st) (block_agree b (r.enter l st) (omega (arith, i, lt)))
      act_agree (Rescue b x c) l st lt =
          let body = block p r d b (r.enter l st) in
          let out = r.leave st body in
          let i = thrifty.enter l st in
          let j = block_less d less b (r.enter l st) in
          let k = thrifty.leave st body in
          rescue_agree out.flow x (block p r d c) (block p r e c) st.faults out
          (block_agree c (caught x st.faults out) (omega (arith, i, j, k, lt)))
          ∙ ap (λ s. rescued x (block p r e c) st.faults (r.leave st s)) (block_agree b (r.enter l st) (omega (arith, i, lt)))

      block_agree : (b : Codes) (st : State X) → st.steps ≤ m → block p r d b st ≡ block p r e b st
      block_agree End st le = refl
      block_agree (Then l s rest) st le =
          let after = with_step (λ st. act p r d l s (counted r l s st)) st in
          let i = spend_less st.steps st (λ st. act p r d l s (counted r l s st)) refl (counted_act_less p r d l s (act_less d less s l)) in
          then_agree after (with_step (λ st. act p r e l s (counted r l s st)) st) (block p r d rest) (block p r e rest)
          (step_agree p r m d e l s (act_agree s l) st le) (block_agree rest after (omega (arith, i, le)))

    work_agree : (w : Work) (st : State X) → st.steps ≤ m → work p r d w st ≡ work p r e w st
    work_agree (Block b) st le = block_agree b st le
    work_agree (Turn l t b) st le = step_agree p r m d e l (While t b) (act_agree (While t b) l) st le
    work_agree (Pieces l s n k x i b) st le =
        let c = Begun s n k x i b in
        choose_agree (has_piece (window_at st s) n k) (with_step (λ st. act p r d l c (counted r l c st)))
        (with_step (λ st. act p r e l c (counted r l c st))) (λ st. st) st (λ st. st)
        (step_agree p r m d e l c (act_agree c l) st le) refl

  enough : (j k : ℕ) (w : Work) (st : State X) → st.steps < j → st.steps < k → within p r j w st ≡ within p r k w st
  enough zero k w st a b = absurd (omega (arith, a))
  enough (suc j) zero w st a b = absurd (omega (arith, b))
  enough (suc j) (suc k) w st a b =
      work_agree st.steps (within p r j) (within p r k) (within_less j)
      (λ v s lt. enough j k v s (omega (arith, a, lt)) (omega (arith, b, lt))) w st (le_refl st.steps)

  -- a run satisfies its equation, with runs inside calls and further iterations
  pub solves : Solves p r (run p r)
  solves w st =
      let e : st.steps + 1 ≡ suc st.steps = omega arith in
      ap (λ k. within p r k w st) e
      ∙ work_agree st.steps (within p r st.steps) (run p r) (within_less st.steps)
      (λ v s lt. enough st.steps (s.steps + 1) v s lt (omega arith)) w st (le_refl st.steps)

  only_below : (g : Deeper) → Solves p r g → (k : ℕ) (w : Work) (st : State X) → st.steps < k → run p r w st ≡ g w st
  only_below g h zero w st lt = absurd (omega (arith, lt))
  only_below g h (suc k) w st lt =
      solves w st
      ∙ work_agree st.steps (run p r) g run_less (λ v s less. only_below g h k v s (omega (arith, less, lt))) w st (le_refl st.steps)
      ∙ sym (h w st)

  -- and no other function does
  pub is_only : IsOnly p r (run p r)
  is_only g h w st = sym (only_below g h (st.steps + 1) w st (omega arith))

-- Turn by turn, frames get past a plain statement, or to its fault or stop, as its meaning
-- specifies. Each turn does at most a step.
use Rattle.std.proofs.Common.{◌≡◌, ℕ, zero, suc, ◌<◌, ◌≤◌, List, [], ◌∷◌, Option, Ok, Err, refl, sym, ap, ◌∙◌, subst, inl, inr, arith}
use Rattle.std.specs.Prelude.{◌+◌, Bool, true, false, map, ok_or, if◌then◌else◌}
use Rattle.sections.specs.Place.{has_piece, sides_of}
use Rattle.types.specs.declared.fault.FaultKind.TheVariants.{SplitPoint, PieceSize}
use Rattle.types.specs.Code.{Code, Do, If, While, Split, Parts, Begun, Call, Async, Finish, Rescue, Codes, End, Then}
use Rattle.types.specs.Code.{Program}
use Rattle.types.specs.Value.{Valued}
use Rattle.types.specs.Run.{Flow, On, Faulted, Stopped, State, Rules, Work, Block, Turn, Pieces, at_flow, go_on, spend, with_step}
use Rattle.types.specs.Run.{with_value, choose, number_at, numbers_at, truth_at, window_at, entry, with_sides, procedure_of}
use Rattle.types.specs.Run.{in_turn, piece_size, counted, act, block, run}
use Rattle.types.proofs.Solutions.{run_less, solves}
use Rattle.effects.specs.Needs.{Needs}
use Rattle.plain_code.specs.Plain.{ArePlain, IsPlain, IsPlainWork}
use Rattle.plain_code.proofs.Reaching.{Inside, inside, plain_behind}
use Rattle.task_run.specs.Results.{Settled}
use Rattle.task_run.specs.OwnRun.{Own, own_rules}
use Rattle.task_run.specs.Frames.{Frame, Rest, Again, Further, Back, Standing, acted, by_flow, by_value, chosen, done_at, done_by, paid, turn}
use Rattle.task_run.specs.Quiet.{IsLittle, Quietly, here, further}
use Rattle.types.proofs.Counted.{counted_flow, counted_steps}
use Rattle.task_run.proofs.TaskTurns.{own_thrifty}

-- the frame of work
abbrev pub frame_of : Work → Frame Own
frame_of (Block b) = Rest b
frame_of (Turn l t b) = Again l t b
frame_of (Pieces l s n k q i b) = Further l s n k q i b

module _ (p : Program) (needs : Codes → Needs) (nest : ℕ) (close : State Own → Option Settled) where
  abbrev r : Rules Own
  r = own_rules needs nest close

  abbrev m : Work → State Own → State Own
  m = run p r

  abbrev at : List (Frame Own) → State Own → Standing Own
  at fs st = record { frames = fs; state = st }

  abbrev Q : Standing Own → Standing Own → Type 0
  Q = Quietly p needs nest close

  pub quietly_more : {a b c : Standing Own} → Q a b → Q b c → Q a c
  quietly_more here k = k
  quietly_more (further little h) k = further little (quietly_more h k)

  -- ---- the effect of one turn
  little_by : (n k : ℕ) (c : Code) → Inside p c → (st : State Own) → IsLittle (done_by needs n k c st)
  little_by n zero c i st = inl refl
  little_by zero (suc k) (Do s) i st = inr refl
  little_by (suc n) (suc k) (Do s) i st = inr refl
  little_by zero (suc k) (If t b c) i st = inr refl
  little_by (suc n) (suc k) (If t b c) i st = inr refl
  little_by zero (suc k) (While t b) i st = inr refl
  little_by (suc n) (suc k) (While t b) i st = inr refl
  little_by zero (suc k) (Split s e x y b) i st = inr refl
  little_by (suc n) (suc k) (Split s e x y b) i st = inr refl
  little_by zero (suc k) (Parts s e q j b) i st = inr refl
  little_by (suc n) (suc k) (Parts s e q j b) i st = inr refl
  little_by zero (suc k) (Begun s m z q j b) i st = inr refl
  little_by (suc n) (suc k) (Begun s m z q j b) i st = inr refl
  little_by zero (suc k) (Call f es ss) i st = inr refl
  little_by (suc n) (suc k) (Call f es ss) i st = inr refl
  little_by n (suc k) (Async b) i st = absurd i
  little_by n (suc k) (Finish b) i st = absurd i
  little_by n (suc k) (Rescue b x c) i st = absurd i

  little_at : (f : Flow) (c : Code) → Inside p c → (st : State Own) → IsLittle (done_at needs nest f c st)
  little_at On c i st = little_by nest st.steps c i st
  little_at Faulted c i st = inl refl
  little_at Stopped c i st = inl refl

  -- ---- the parts of the meaning of blocks
  flow_block : (f : Flow) (b : Codes) (st : State Own) → at_flow f st (m (Block b)) ≡ at_flow f st (block p r m b)
  flow_block On b st = solves p r (own_thrifty p needs nest close) (Block b) st
  flow_block Faulted b st = refl
  flow_block Stopped b st = refl

  go_on_block : (b : Codes) (st : State Own) → go_on (m (Block b)) st ≡ go_on (block p r m b) st
  go_on_block b st = flow_block st.flow b st

  on_block : (b : Codes) (st : State Own) → st.flow ≡ On → go_on (m (Block b)) st ≡ block p r m b st
  on_block b st on = go_on_block b st ∙ ap (λ f. at_flow f st (block p r m b)) on

  ended : (f : Flow) (st : State Own) → at_flow f st (block p r m End) ≡ st
  ended On st = refl
  ended Faulted st = refl
  ended Stopped st = refl

  abbrev stepped : (l : ℕ) → Code → State Own → State Own
  stepped l c st = with_step (λ s. act p r m l c (counted r l c s)) st

  -- a single statement is its step, followed by what it does
  pub alone : (l : ℕ) (c : Code) (st : State Own) → m (Block (Then l c End)) st ≡ stepped l c st
  alone l c st =
      solves p r (own_thrifty p needs nest close) (Block (Then l c End)) st ∙ ended (stepped l c st).flow (stepped l c st)

  block_less : (b : Codes) (st : State Own) → (block p r m b st).steps ≤ st.steps
  block_less b st =
      subst (λ (o : State Own). o.steps ≤ st.steps) (solves p r (own_thrifty p needs nest close) (Block b) st)
      (run_less p r (own_thrifty p needs nest close) (Block b) st)

  step_less : (l : ℕ) (c : Code) (st : State Own) → (stepped l c st).steps ≤ st.steps
  step_less l c st =
      subst (λ (o : State Own). o.steps ≤ st.steps) (alone l c st)
      (run_less p r (own_thrifty p needs nest close) (Block (Then l c End)) st)

  -- ---- the effect of frames, if the work inside follows its meaning
  value_passes : {A : Type 0} (l : ℕ) (v : Valued A) (go : A → Standing Own) (to : A → State Own → State Own)
      (gs : List (Frame Own)) (st : State Own) → ((a : A) → Q (go a) (at gs (to a st)))
      → Q (by_value l v go gs st) (at gs (with_value l v to st))
  value_passes l (Ok a) go to gs st h = h a
  value_passes l (Err f) go to gs st h = here

  choose_passes : (v : Bool) (fs hs gs : List (Frame Own)) (f g : State Own → State Own) (st : State Own)
      → Q (at fs st) (at gs (f st)) → Q (at hs st) (at gs (g st)) → Q (chosen v fs hs st) (at gs (choose f g v st))
  choose_passes true fs hs gs f g st h k = h
  choose_passes false fs hs gs f g st h k = k

  -- a block on top, if the flow is on
  on_passes : (b : Codes) (gs : List (Frame Own)) (st : State Own) → st.flow ≡ On
      → Q (at (Rest b ∷ gs) st) (at gs (go_on (m (Block b)) st)) → Q (at (Rest b ∷ gs) st) (at gs (block p r m b st))
  on_passes b gs st on h = subst (λ (o : State Own). Q (at (Rest b ∷ gs) st) (at gs o)) (on_block b st on) h

  flow_passes : (f : Flow) (l : ℕ) (c : Code) (fs below : List (Frame Own)) (st : State Own) (go : State Own → State Own)
      → st.flow ≡ f
      → (st.flow ≡ On → Q (paid p r st.steps l c fs st) (at below (go st)))
      → Q (by_flow p r f l c fs below st) (at below (at_flow f st go))
  flow_passes On l c fs below st go e h = h e
  flow_passes Faulted l c fs below st go e h = here
  flow_passes Stopped l c fs below st go e h = here

  paid_passes : (n l : ℕ) (c : Code) (gs : List (Frame Own)) (st : State Own)
      → ((s : State Own) → s.flow ≡ On → s.steps < n → Q (acted p r l c gs s) (at gs (act p r m l c s))) → st.flow ≡ On
      → Q (paid p r n l c gs st) (at gs (spend n st (λ s. act p r m l c (counted r l c s))))
  paid_passes zero l c gs st h on = here
  paid_passes (suc n) l c gs st h on =
      let to = record st { steps = n } in
      let less = counted_steps r l to c in
      h (counted r l c to) (counted_flow r l to c ∙ on) (omega (arith, less))

  -- plain work on top of frames is done, if fewer than k steps are left
  abbrev Passes : ℕ → Type 0
  Passes k =
      (w : Work) → IsPlainWork p w → (fs : List (Frame Own)) (st : State Own) → st.steps < k
      → Q (at (frame_of w ∷ fs) st) (at fs (go_on (m w) st))

  module _ (k : ℕ) (deeper : Passes k) where
    mutual
      acted_passes : (c : Code) (l : ℕ) → Inside p c → (gs : List (Frame Own)) (st : State Own) → st.flow ≡ On → st.steps < k
          → Q (acted p r l c gs st) (at gs (act p r m l c st))
      acted_passes (Do s) l i gs st on lt = here
      acted_passes (If t b c) l i gs st on lt =
          value_passes l (truth_at st t) _ (choose (block p r m b) (block p r m c)) gs st (λ v.
          choose_passes v (Rest b ∷ gs) (Rest c ∷ gs) gs (block p r m b) (block p r m c) st
          (on_passes b gs st on (block_passes b i.0 gs st (omega (arith, lt))))
          (on_passes c gs st on (block_passes c i.1 gs st (omega (arith, lt)))))
      acted_passes (While t b) l i gs st on lt =
          value_passes l (truth_at st t) _ (choose (λ s. go_on (m (Turn l t b)) (block p r m b s)) (λ s. s)) gs st (λ v.
          choose_passes v (Rest b ∷ Again l t b ∷ gs) gs gs (λ s. go_on (m (Turn l t b)) (block p r m b s)) (λ s. s) st
          (quietly_more (on_passes b (Again l t b ∷ gs) st on (block_passes b i (Again l t b ∷ gs) st (omega (arith, lt))))
          (deeper (Turn l t b) i gs (block p r m b st) (let less = block_less b st in omega (arith, less, lt))))
          here)
      acted_passes (Split s e x y b) l i gs st on lt =
          value_passes l (number_at st e) _ _ gs st (λ v.
          value_passes l (ok_or (sides_of (window_at st s) v) SplitPoint) _ _ gs st (λ ws.
          let to = record st { environment = with_sides x y ws st.environment } in
          on_passes b gs to on (block_passes b i gs to (omega (arith, lt)))))
      acted_passes (Parts s e q j b) l i gs st on lt =
          value_passes l (number_at st e) _ _ gs st (λ v.
          value_passes l (ok_or (piece_size v) PieceSize) _ _ gs st (λ n.
          let w : Work = Pieces l s n 0 q j b in
          subst (λ (o : State Own). Q (at (frame_of w ∷ gs) st) (at gs o)) (ap (λ (f : Flow). at_flow f st (m w)) on) (deeper w i gs st lt)))
      acted_passes (Begun s n z q j b) l i gs st on lt =
          let to = in_turn s n z q j st in
          let w : Work = Pieces l s n (z + 1) q j b in
          quietly_more (on_passes b (frame_of w ∷ gs) to on (block_passes b i (frame_of w ∷ gs) to (omega (arith, lt))))
          (deeper w i gs (block p r m b to) (let less = block_less b to in omega (arith, less, lt)))
      acted_passes (Call f es ss) l i gs st on lt =
          value_passes l (numbers_at st es) _ _ gs st (λ vs.
          let body = (procedure_of p f).body in
          let to = record st { environment = entry vs (map (window_at st) ss) } in
          let start = at (Rest body ∷ Back st.environment ∷ gs) to in
          subst (λ (o : State Own). Q start (at gs (record o { environment = st.environment })))
          (ap (λ (f : Flow). at_flow f to (m (Block body))) on)
          (quietly_more (deeper (Block body) i (Back st.environment ∷ gs) to lt) (further (inl refl) here)))
      acted_passes (Async b) l i gs st on lt = absurd i
      acted_passes (Finish b) l i gs st on lt = absurd i
      acted_passes (Rescue b x c) l i gs st on lt = absurd i

      block_passes : (b : Codes) → ArePlain p b → (fs : List (Frame Own)) (st : State Own) → st.steps ≤ k
          → Q (at (Rest b ∷ fs) st) (at fs (go_on (m (Block b)) st))
      block_passes End plain fs st le =
          subst (λ (o : State Own). Q (at (Rest End ∷ fs) st) (at fs o)) (sym (go_on_block End st ∙ ended st.flow st))
          (further (inl refl) here)
      block_passes (Then l c rest) plain fs st le =
          let i = inside p l c rest plain in
          let out = stepped l c st in
          further (little_at st.flow c i st)
          (flow_passes st.flow l c (Rest rest ∷ fs) fs st (m (Block (Then l c rest))) refl (λ on.
          subst (λ (o : State Own). Q (paid p r st.steps l c (Rest rest ∷ fs) st) (at fs o))
          (go_on_block rest out ∙ sym (solves p r (own_thrifty p needs nest close) (Block (Then l c rest)) st))
          (quietly_more
          (paid_passes st.steps l c (Rest rest ∷ fs) st
          (λ s flow lt. acted_passes c l i (Rest rest ∷ fs) s flow (omega (arith, lt, le))) on)
          (block_passes rest (plain_behind p l c rest plain) fs out (let less = step_less l c st in omega (arith, less, le))))))

    -- the turns to come of a `parts`
    pieces_pass : (l s n z q j : ℕ) (b : Codes) → IsPlainWork p (Pieces l s n z q j b) → (fs : List (Frame Own)) (st : State Own)
        → st.steps ≤ k → Q (at (Further l s n z q j b ∷ fs) st) (at fs (go_on (m (Pieces l s n z q j b)) st))
    pieces_pass l s n z q j b plain fs st le =
        further (little (has_piece (window_at st s) n z)) (by (has_piece (window_at st s) n z) refl)
      where
        c : Code
        c = Begun s n z q j b

        w : Work
        w = Pieces l s n z q j b

        little : (left : Bool) → IsLittle (if left then done_at needs nest st.flow c st else [])
        little true = little_at st.flow c plain st
        little false = inl refl

        by_piece : (left : Bool) → has_piece (window_at st s) n z ≡ left → m w st ≡ choose (stepped l c) (λ s. s) left st
        by_piece left e = solves p r (own_thrifty p needs nest close) w st ∙ ap (λ b. choose (stepped l c) (λ s. s) b st) e

        nothing : has_piece (window_at st s) n z ≡ false → (f : Flow) → at_flow f st (m w) ≡ st
        nothing e On = by_piece false e
        nothing e Faulted = refl
        nothing e Stopped = refl

        by : (left : Bool) → has_piece (window_at st s) n z ≡ left
            → Q (if◌then◌else◌ {A = Standing Own} left (by_flow p r st.flow l c fs fs st) (at fs st)) (at fs (go_on (m w) st))
        by true e =
            flow_passes st.flow l c fs fs st (m w) refl (λ on.
            subst (λ (o : State Own). Q (paid p r st.steps l c fs st) (at fs o)) (sym (by_piece true e))
            (paid_passes st.steps l c fs st
            (λ s flow less. acted_passes c l plain fs s flow (omega (arith, less, le))) on))
        by false e = subst (λ (o : State Own). Q (at fs st) (at fs o)) (sym (nothing e st.flow)) here

  passes_below : (k : ℕ) → Passes k
  passes_below zero w plain fs st lt = absurd (omega (arith, lt))
  passes_below (suc k) (Block b) plain fs st lt = block_passes k (passes_below k) b plain fs st (omega (arith, lt))
  passes_below (suc k) (Turn l t b) plain fs st lt =
      further (little_at st.flow (While t b) plain st)
      (flow_passes st.flow l (While t b) fs fs st (m (Turn l t b)) refl (λ on.
      subst (λ (o : State Own). Q (paid p r st.steps l (While t b) fs st) (at fs o))
      (sym (solves p r (own_thrifty p needs nest close) (Turn l t b) st))
      (paid_passes st.steps l (While t b) fs st
      (λ s flow less. acted_passes k (passes_below k) (While t b) l plain fs s flow (omega (arith, less, lt))) on)))
  passes_below (suc k) (Pieces l s n z q j b) plain fs st lt =
      pieces_pass k (passes_below k) l s n z q j b plain fs st (omega (arith, lt))

  -- a plain statement that is next, if the flow is on: after its first turn
  pub statement_after : (l : ℕ) (c : Code) (rest : Codes) → IsPlain p l c → (fs : List (Frame Own)) (st : State Own)
      → st.flow ≡ On → Q (turn p r (Rest (Then l c rest)) fs st) (at (Rest rest ∷ fs) (m (Block (Then l c End)) st))
  statement_after l c rest plain fs st on =
      let i = inside p l c End plain in
      let gs = Rest rest ∷ fs in
      subst (λ (f : Flow). Q (by_flow p r f l c gs fs st) (at gs (m (Block (Then l c End)) st))) (sym on)
      (subst (λ (o : State Own). Q (paid p r st.steps l c gs st) (at gs o)) (sym (alone l c st))
      (paid_passes st.steps l c gs st
      (λ s flow lt. acted_passes st.steps (passes_below st.steps) c l i gs s flow lt) on))

  -- and together with its first turn
  pub statement_passes : (l : ℕ) (c : Code) (rest : Codes) → IsPlain p l c → (fs : List (Frame Own)) (st : State Own)
      → st.flow ≡ On → Q (at (Rest (Then l c rest) ∷ fs) st) (at (Rest rest ∷ fs) (m (Block (Then l c End)) st))
  statement_passes l c rest plain fs st on =
      further (little_at st.flow c (inside p l c End plain) st) (statement_after l c rest plain fs st on)

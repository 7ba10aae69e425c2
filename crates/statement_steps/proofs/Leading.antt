-- What a statement leads to, and what it does: the same, whatever a run keeps in addition.
use Rattle.std.proofs.Common.{◌≡◌, ℕ, List, Ok, Err, Vec, Global, refl, subst}
use Rattle.std.specs.Prelude.{ℤ, Bool, true, false, map, ok_or, if◌then◌else◌}
use Rattle.sections.specs.Place.{Window, piece_at, piece_of, sides_of, has_piece}
use Rattle.types.specs.declared.fault.FaultKind.{FaultKind}
use Rattle.types.specs.declared.fault.FaultKind.TheVariants.{SplitPoint, PieceSize}
use Rattle.types.specs.Code.{Code, Codes, Number, Truth, Program, Do, If, While, Split, Parts, Begun, Call, Async, Finish, Rescue}
use Rattle.types.specs.Contents.{Contents}
use Rattle.types.specs.Run.{State, Rules, Work, Block, Turn, Pieces, act, block, choose, entry, fault, go_on, in_turn, keeping, number_at, numbers_at}
use Rattle.types.specs.Run.{piece_size, procedure_of, truth_at, window_at, with_piece, with_sides, with_value}
use Rattle.types.specs.TreeSteps.{size_by}
use Rattle.types.specs.Value.{Environment, Valued, then_try}
use Rattle.types.specs.declared.value.Environment.{Environment as Environments}
use Rattle.statement_steps.specs.declared.next.Next.{Next as rNext}
use Rattle.statement_steps.specs.declared.thread.Thread.{Thread}
use Rattle.statement_steps.specs.Bounds.{LiesInArrays}
use Rattle.statement_steps.specs.Leading.{Next, Nothing, Inside, Iteration, Turns, Body, Led, Leads, by_value, led, leads_to}
use Rattle.statement_steps.specs.Primitive.{halves}
use Rattle.statement_steps.specs.Standing.{state_by}
use Rattle.statement_steps.proofs.BoundsLemmas.{entry_lies, halves_lie, with_piece_lies, with_sides_lies}

-- a condition, a loop, a `split`, a `parts` before its turns, or a call
abbrev pub IsControl : Code → Type 0
IsControl (Do s) = ⊥
IsControl (If t b c) = Unit {0}
IsControl (While t b) = Unit {0}
IsControl (Split s e x y b) = Unit {0}
IsControl (Parts s e x i b) = Unit {0}
IsControl (Begun s n k x i b) = ⊥
IsControl (Call f es ss) = Unit {0}
IsControl (Async b) = ⊥
IsControl (Finish b) = ⊥
IsControl (Rescue b x c) = ⊥

-- ---- what a run keeps in addition

module _ {X : Type 0} (y : X) where
  abbrev pub kept : Led (Unit {0}) → Led X
  kept a = record { next = a.next; state = keeping y a.state }

  kept_value : {A : Type 0} (l : ℕ) (v : Valued A) (go : A → Led (Unit {0})) (to : A → Led X) (st : State (Unit {0}))
      → ((a : A) → to a ≡ kept (go a)) → by_value l v to (keeping y st) ≡ kept (by_value l v go st)
  kept_value l (Ok a) go to st same = same a
  kept_value l (Err k) go to st same = refl

  -- has no influence on where a statement leads
  pub led_kept : (p : Program) (l : ℕ) (c : Code) (st : State (Unit {0})) → led p l c (keeping y st) ≡ kept (led p l c st)
  led_kept p l (Do s) st = refl
  led_kept p l (If t b c) st = kept_value l (truth_at st t) _ _ st (λ v. refl)
  led_kept p l (While t b) st = kept_value l (truth_at st t) _ _ st (λ v. refl)
  led_kept p l (Split s e x z b) st = kept_value l (halves st s e) _ _ st (λ ws. refl)
  led_kept p l (Parts s e x i b) st = kept_value l (size_by (number_at st e)) _ _ st (λ n. refl)
  led_kept p l (Call f es ss) st = kept_value l (numbers_at st es) _ _ st (λ vs. refl)
  led_kept p l (Begun s n k x i b) st = refl
  led_kept p l (Async b) st = refl
  led_kept p l (Finish b) st = refl
  led_kept p l (Rescue b x c) st = refl

-- ---- what a statement does

module _ (p : Program) {X : Type 0} (r : Rules X) (deeper : Work → State X → State X) where
  -- what comes next
  abbrev pub goes_on : Next → State X → State X
  goes_on Nothing st = st
  goes_on (Inside b) st = block p r deeper b st
  goes_on (Iteration l t b) st = go_on (deeper (Turn l t b)) (block p r deeper b st)
  goes_on (Turns l s n k x i b) st = deeper (Pieces l s n k x i b) st
  goes_on (Body b env) st = let out = deeper (Block b) st in record out { environment = env }

  -- the statement, and then what it leads to
  abbrev pub whole : Led X → State X
  whole a = goes_on a.next a.state

  acts_value : {A : Type 0} (l : ℕ) (v : Valued A) (go : A → Led X) (to : A → State X → State X) (st : State X)
      → ((a : A) → whole (go a) ≡ to a st) → whole (by_value l v go st) ≡ with_value l v to st
  acts_value l (Ok a) go to st same = same a
  acts_value l (Err k) go to st same = refl

  acts_twice : {A B : Type 0} (l : ℕ) (v : Valued A) (f : A → Valued B) (go : B → Led X) (to : B → State X → State X) (st : State X)
      → ((b : B) → whole (go b) ≡ to b st)
      → whole (by_value l (then_try v f) go st) ≡ with_value l v (λ a. with_value l (f a) to) st
  acts_twice l (Ok a) f go to st same = acts_value l (f a) go to st same
  acts_twice l (Err k) f go to st same = refl

  choice : (b c : Codes) (st : State X) (v : Bool)
      → whole (leads_to (if v then Inside b else Inside c) st) ≡ choose (block p r deeper b) (block p r deeper c) v st
  choice b c st true = refl
  choice b c st false = refl

  iteration : (l : ℕ) (t : Truth) (b : Codes) (st : State X) (v : Bool)
      → whole (leads_to (if v then Iteration l t b else Nothing) st)
      ≡ choose (λ s. go_on (deeper (Turn l t b)) (block p r deeper b s)) (λ s. s) v st
  iteration l t b st true = refl
  iteration l t b st false = refl

  -- leads to what the statement means
  pub led_acts : (l : ℕ) (c : Code) → IsControl c → (st : State X) → whole (led p l c st) ≡ act p r deeper l c st
  led_acts l (Do s) is st = elim is [ ]
  led_acts l (If t b c) is st = acts_value l (truth_at st t) _ _ st (choice b c st)
  led_acts l (While t b) is st = acts_value l (truth_at st t) _ _ st (iteration l t b st)
  led_acts l (Split s e x y b) is st =
      acts_twice l (number_at st e) (λ v. ok_or (sides_of (window_at st s) v) SplitPoint) _ _ st (λ ws. refl)
  led_acts l (Parts s e x i b) is st = acts_twice l (number_at st e) (λ v. ok_or (piece_size v) PieceSize) _ _ st (λ n. refl)
  led_acts l (Call f es ss) is st = acts_value l (numbers_at st es) _ _ st (λ vs. refl)
  led_acts l (Begun s n k x i b) is st = elim is [ ]
  led_acts l (Async b) is st = elim is [ ]
  led_acts l (Finish b) is st = elim is [ ]
  led_acts l (Rescue b x c) is st = elim is [ ]

-- ---- where windows lie

module _ (p : Program) where
  -- the windows in this state lie in the arrays
  abbrev Lies : Led (Unit {0}) → Type 0
  Lies a = LiesInArrays p a.state.environment

  lies_value : {A : Type 0} (l : ℕ) (v : Valued A) (go : A → Led (Unit {0})) (st : State (Unit {0})) → LiesInArrays p st.environment
      → ((a : A) → Ok a ≡ v → Lies (go a)) → Lies (by_value l v go st)
  lies_value l (Ok a) go st lies there = there a refl
  lies_value l (Err k) go st lies there = lies

  -- windows lie in the arrays wherever a statement leads
  pub led_lies : (l : ℕ) (c : Code) (st : State (Unit {0})) → LiesInArrays p st.environment
      → LiesInArrays p (led p l c st).state.environment
  led_lies l (Do s) st lies = lies
  led_lies l (If t b c) st lies = lies_value l (truth_at st t) _ st lies (λ v e. lies)
  led_lies l (While t b) st lies = lies_value l (truth_at st t) _ st lies (λ v e. lies)
  led_lies l (Split s e x y b) st lies =
      lies_value l (halves st s e) _ st lies (λ ws h. with_sides_lies p x y ws st.environment (halves_lie p st s e ws lies h) lies)
  led_lies l (Parts s e x i b) st lies = lies_value l (size_by (number_at st e)) _ st lies (λ n h. lies)
  led_lies l (Call f es ss) st lies =
      lies_value l (numbers_at st es) _ st lies (λ vs h. entry_lies p vs st.environment ss lies)
  led_lies l (Begun s n k x i b) st lies = lies
  led_lies l (Async b) st lies = lies
  led_lies l (Finish b) st lies = lies
  led_lies l (Rescue b x c) st lies = lies

-- ---- the same step, told otherwise

module _ {S A : Type 0} (contents : S → Contents) (shape : S → A) (p : Program) (l : ℕ) (n : rNext) (new : Thread S) where
  -- with equal arguments of a call
  pub called_leads : (old : Thread S) (f : ℕ) (es ds : List Number) (ss ts : List ℕ) → es ≡ ds → ss ≡ ts
      → Leads contents shape (led p l (Call f es ss) (state_by contents old)) n old new
      → Leads contents shape (led p l (Call f ds ts) (state_by contents old)) n old new
  called_leads old f es ds ss ts same_values same_sections leads =
      subst (λ vs. Leads contents shape (led p l (Call f vs ts) (state_by contents old)) n old new) same_values
      (subst (λ ws. Leads contents shape (led p l (Call f es ws) (state_by contents old)) n old new) same_sections leads)

  -- from a thread with other room for calls
  pub spare_leads : (old : Thread S) (spare : Vec Environments Global) (c : Code)
      → Leads contents shape (led p l c (state_by contents old)) n (record old { spare = spare }) new
      → Leads contents shape (led p l c (state_by contents old)) n old new
  spare_leads old spare c leads = record {
    next = leads.next;
    state = leads.state;
    steps = leads.steps;
    nest = leads.nest;
    spawned = leads.spawned;
    memory = leads.memory;
  }

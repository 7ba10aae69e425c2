-- No task continues after a statement that stops.
use Rattle.std.proofs.Common.{◌≡◌, ◌≢◌, ℕ, zero, suc, ◌+◌, List, [], ◌∷◌, ◌++◌, Ok, Err, map, refl, sym, ap, ◌∙◌, true≢false}
use Rattle.std.specs.Prelude.{Bool, true, false, ◌&&◌, ◌||◌, ℤ, ok_or}
use Rattle.sections.specs.Place.{Place, sides_of, has_piece}
use Rattle.types.specs.declared.fault.FaultKind.{FaultKind}
use Rattle.types.specs.declared.fault.FaultKind.TheVariants.{SplitPoint, PieceSize, Raised}
use Rattle.types.specs.Code.{Truth, Constant, Compare, Not, Both, Either, Primitive, Skip, Assign, Store, Print, Raise}
use Rattle.types.specs.Code.{Code, Do, If, While, Split, Parts, Begun, Call, Async, Finish, Rescue, Codes, End, Then}
use Rattle.types.specs.Code.{Program}
use Rattle.types.specs.Value.{Valued, element_of, holds_number}
use Rattle.types.specs.Run.{Flow, On, Faulted, Stopped, Fault, State, Work, Rules, Block, Turn, Pieces, at_flow, go_on}
use Rattle.types.specs.Run.{spend, in_turn, piece_size, with_step, fault, with_value, assign, print, put, choose, number_at}
use Rattle.types.specs.Run.{numbers_at, truth_at, window_at, entry, with_sides, array_of, procedure_of, primitive, counted}
use Rattle.types.specs.Run.{act, block, caught, rescued_by, work, within}
use Rattle.types.specs.Meaning.{after_async, after_finish, begin_one, hushed, one, one_rules_by}
use Rattle.warnings.specs.Ends.{block_stops, is_always, is_fault, is_never, stops}

abbrev S : Type 0
S = State (Unit {0})

-- ---- flows

on_faulted : (let f : Flow = On in f) ≡ Faulted → ⊥
on_faulted e = cc

stopped_faulted : (let f : Flow = Stopped in f) ≡ Faulted → ⊥
stopped_faulted e = cc

faulted_on : (let f : Flow = Faulted in f) ≡ On → ⊥
faulted_on e = cc

stopped_on : (let f : Flow = Stopped in f) ≡ On → ⊥
stopped_on e = cc

-- ---- booleans

pub both_first : (a b : Bool) → (a && b) ≡ true → a ≡ true
both_first true b both = refl
both_first false b both = both

pub both_second : (a b : Bool) → (a && b) ≡ true → b ≡ true
both_second true b both = both
both_second false b both = absurd (true≢false (sym both))

-- ---- a fault is listed

snoc_some : (fs : List Fault) (f : Fault) → fs ++ f ∷ [] ≢ []
snoc_some [] f e = cc
snoc_some (g ∷ gs) f e = cc

behind_some : (fs gs : List Fault) → gs ≢ [] → fs ++ gs ≢ []
behind_some [] gs some e = some e
behind_some (f ∷ fs) gs some e = cc

-- if the flow is faulted, there is a fault
abbrev Tells : S → Type 0
Tells st = st.flow ≡ Faulted → st.faults ≢ []

on_tells : (st : S) → st.flow ≡ On → Tells st
on_tells st on is = absurd (on_faulted (sym on ∙ is))

fault_tells : (l : ℕ) (f : FaultKind) (st : S) → Tells (fault l f st)
fault_tells l f st is = snoc_some st.faults (record { path = st.path; label = l; kind = f })

value_tells : {A : Type 0} (l : ℕ) (v : Valued A) (go : A → S → S) (st : S) → ((a : A) → Tells (go a st))
    → Tells (with_value l v go st)
value_tells l (Ok a) go st h = h a
value_tells l (Err f) go st h = fault_tells l f st

flow_tells : (f : Flow) (st : S) (go : S → S) → st.flow ≡ f → Tells st → (st.flow ≡ On → Tells (go st))
    → Tells (at_flow f st go)
flow_tells On st go is here next = next is
flow_tells Faulted st go is here next = here
flow_tells Stopped st go is here next = here

spend_tells : (n : ℕ) (st : S) (go : S → S) → ((m : ℕ) → Tells (go (record st { steps = m }))) → Tells (spend n st go)
spend_tells zero st go h is = absurd (stopped_faulted is)
spend_tells (suc n) st go h is = h n is

choose_tells : (b : Bool) (go to : S → S) (st : S) → Tells (go st) → Tells (to st) → Tells (choose go to b st)
choose_tells true go to st h k = h
choose_tells false go to st h k = k

put_tells : (l : ℕ) (fits : Bool) (q : Place) (v : ℤ) (st : S) → st.flow ≡ On → Tells (put l fits q v st)
put_tells l true q v st on = on_tells (put l true q v st) on
put_tells l false q v st on = fault_tells l _ st

-- a finish ends with a fault only if there is one
finish_tells : (f : Flow) (before faults : List Fault) → after_finish f faults ≡ Faulted → before ++ faults ≢ []
finish_tells On before [] is = absurd (on_faulted is)
finish_tells On before (g ∷ gs) is = behind_some before (g ∷ gs) (λ e. cc)
finish_tells Faulted before [] is = absurd (on_faulted is)
finish_tells Faulted before (g ∷ gs) is = behind_some before (g ∷ gs) (λ e. cc)
finish_tells Stopped before faults is = absurd (stopped_faulted is)

-- nor does a finish whose handler doesn't
rescue_tells : (f : Flow) (x : ℕ) (go : S → S) (before : List Fault) (out : S) → out.flow ≡ f
    → Tells (go (caught x before out)) → Tells (rescued_by f x go before out)
rescue_tells On x go before out is handled = on_tells out is
rescue_tells Faulted x go before out is handled = handled
rescue_tells Stopped x go before out is handled = λ over. absurd (stopped_faulted (sym is ∙ over))

-- and an async never does
async_tells : (f : Flow) → after_async f ≡ Faulted → ⊥
async_tells On is = on_faulted is
async_tells Faulted is = on_faulted is
async_tells Stopped is = stopped_faulted is

begin_tells : (p : Program) (fresh nest : ℕ) (b : Codes) (st : S) → Tells (begin_one p fresh nest b st)
begin_tells p fresh zero b st is = absurd (stopped_faulted is)
begin_tells p fresh (suc n) b st is = absurd (async_tells _ is)

-- ---- a flow that isn't on

abbrev IsOver : S → Type 0
IsOver st = st.flow ≢ On

value_over : {A : Type 0} (l : ℕ) (v : Valued A) (go : A → S → S) (st : S) → ((a : A) → v ≡ Ok a → IsOver (go a st))
    → IsOver (with_value l v go st)
value_over l (Ok a) go st h = h a refl
value_over l (Err f) go st h = faulted_on

flow_over : (f : Flow) (st : S) (go : S → S) → st.flow ≡ f → (st.flow ≡ On → IsOver (go st)) → IsOver (at_flow f st go)
flow_over On st go is next e = next is e
flow_over Faulted st go is next e = faulted_on (sym is ∙ e)
flow_over Stopped st go is next e = stopped_on (sym is ∙ e)

spend_over : (n : ℕ) (st : S) (go : S → S) → ((m : ℕ) → IsOver (go (record st { steps = m }))) → IsOver (spend n st go)
spend_over zero st go h = stopped_on
spend_over (suc n) st go h = h n

finish_over : (f : Flow) (faults : List Fault) → f ≢ On → (f ≡ Faulted → faults ≢ []) → after_finish f faults ≢ On
finish_over On faults over tells = absurd (over refl)
finish_over Faulted [] over tells = absurd (tells refl refl)
finish_over Faulted (g ∷ gs) over tells = faulted_on
finish_over Stopped faults over tells = stopped_on

rescue_over : (f : Flow) (x : ℕ) (go : S → S) (before : List Fault) (out : S) → out.flow ≡ f → IsOver out
    → IsOver (go (caught x before out)) → IsOver (rescued_by f x go before out)
rescue_over On x go before out is over handled = absurd (over is)
rescue_over Faulted x go before out is over handled = handled
rescue_over Stopped x go before out is over handled = λ e. stopped_on (sym is ∙ e)

module _ (p : Program) (begin : Codes → S → S) (begun : (b : Codes) (st : S) → Tells (begin b st)) where
  abbrev r : Rules (Unit {0})
  r = one_rules_by begin

  primitive_tells : (l : ℕ) (s : Primitive) (st : S) → st.flow ≡ On → Tells (primitive p l s st)
  primitive_tells l Skip st on = on_tells st on
  primitive_tells l (Assign x e) st on = value_tells l (number_at st e) (assign x) st (λ v. on_tells (assign x v st) on)
  primitive_tells l (Store s i e) st on =
      value_tells l (number_at st i) _ st (λ at. value_tells l (number_at st e) _ st (λ v.
      value_tells l (element_of (window_at st s) at) _ st (λ q.
      put_tells l (holds_number (array_of p q.array).element v) q v st on)))
  primitive_tells l (Print es) st on = value_tells l (numbers_at st es) print st (λ vs. on_tells (print vs st) on)
  primitive_tells l (Raise e) st on = value_tells l (number_at st e) _ st (λ v. fault_tells l (Raised v) st)

  primitive_over : (l : ℕ) (s : Primitive) (st : S) → is_fault s ≡ true → IsOver (primitive p l s st)
  primitive_over l Skip st is = absurd (true≢false (sym is))
  primitive_over l (Assign x e) st is = absurd (true≢false (sym is))
  primitive_over l (Store s i e) st is = absurd (true≢false (sym is))
  primitive_over l (Print es) st is = absurd (true≢false (sym is))
  primitive_over l (Raise e) st is = value_over l (number_at st e) _ st (λ v _. faulted_on)

  counted_on : (l : ℕ) (s : Code) (st : S) → st.flow ≡ On → (counted r l s st).flow ≡ On
  counted_on l (Do s) st on = on
  counted_on l (If t b c) st on = on
  counted_on l (While t b) st on = on
  counted_on l (Split s e x y b) st on = on
  counted_on l (Parts s e x i b) st on = on
  counted_on l (Begun s n k x i b) st on = on
  counted_on l (Call f es ss) st on = on
  counted_on l (Async b) st on = on
  counted_on l (Finish b) st on = on
  counted_on l (Rescue b x c) st on = on

  module _ (d : Work → S → S) (h : (w : Work) (st : S) → st.flow ≡ On → Tells (d w st)) where
    mutual
      act_tells : (s : Code) (l : ℕ) (st : S) → st.flow ≡ On → Tells (act p r d l s st)
      act_tells (Do s) l st on = primitive_tells l s st on
      act_tells (If t b c) l st on =
          value_tells l (truth_at st t) _ st (λ v. choose_tells v (block p r d b) (block p r d c) st
          (block_tells b st on) (block_tells c st on))
      act_tells (While t b) l st on =
          value_tells l (truth_at st t) _ st (λ v.
          choose_tells v (λ s. go_on (d (Turn l t b)) (block p r d b s)) (λ s. s) st
          (flow_tells _ (block p r d b st) (d (Turn l t b)) refl (block_tells b st on) (λ more. h (Turn l t b) _ more))
          (on_tells st on))
      act_tells (Split s e x y b) l st on =
          value_tells l (number_at st e) _ st (λ v. value_tells l (ok_or (sides_of (window_at st s) v) SplitPoint) _ st (λ ws.
          block_tells b (record st { environment = with_sides x y ws st.environment }) on))
      act_tells (Parts s e x i b) l st on =
          value_tells l (number_at st e) _ st (λ v. value_tells l (ok_or (piece_size v) PieceSize) _ st (λ n.
          h (Pieces l s n 0 x i b) st on))
      act_tells (Begun s n k x i b) l st on =
          flow_tells _ (block p r d b (in_turn s n k x i st)) (d (Pieces l s n (k + 1) x i b)) refl
          (block_tells b (in_turn s n k x i st) on) (λ more. h (Pieces l s n (k + 1) x i b) _ more)
      act_tells (Call f es ss) l st on =
          value_tells l (numbers_at st es) _ st (λ vs.
          h (Block (procedure_of p f).body) (record st { environment = entry vs (map (window_at st) ss) }) on)
      act_tells (Async b) l st on = begun b st
      act_tells (Finish b) l st on = finish_tells _ st.faults (block p r d b (hushed st)).faults
      act_tells (Rescue b x c) l st on =
          let out = r.leave st (block p r d b (hushed st)) in
          rescue_tells out.flow x (block p r d c) st.faults out refl (block_tells c (caught x st.faults out) refl)

      block_tells : (b : Codes) (st : S) → st.flow ≡ On → Tells (block p r d b st)
      block_tells End st on = on_tells st on
      block_tells (Then l s rest) st on =
          flow_tells _ (with_step (λ st. act p r d l s (counted r l s st)) st) (block p r d rest) refl
          (spend_tells st.steps st (λ st. act p r d l s (counted r l s st)) (λ m.
          act_tells s l (counted r l s (record st { steps = m })) (counted_on l s (record st { steps = m }) on)))
          (λ more. block_tells rest _ more)

    step_tells : (l : ℕ) (s : Code) (st : S) → st.flow ≡ On
        → Tells (with_step (λ st. act p r d l s (counted r l s st)) st)
    step_tells l s st on =
        spend_tells st.steps st (λ st. act p r d l s (counted r l s st)) (λ m.
        act_tells s l (counted r l s (record st { steps = m })) (counted_on l s (record st { steps = m }) on))

    work_tells : (w : Work) (st : S) → st.flow ≡ On → Tells (work p r d w st)
    work_tells (Block b) st on = block_tells b st on
    work_tells (Turn l t b) st on = step_tells l (While t b) st on
    work_tells (Pieces l s n k x i b) st on =
        choose_tells (has_piece (window_at st s) n k)
        (with_step (λ st. act p r d l (Begun s n k x i b) (counted r l (Begun s n k x i b) st))) (λ st. st) st
        (step_tells l (Begun s n k x i b) st on) (on_tells st on)

    module _ (ends : (l : ℕ) (b : Codes) (st : S) → st.flow ≡ On → IsOver (d (Turn l (Constant true) b) st)) where
      never_true : (t : Truth) (st : S) → is_never t ≡ true → truth_at st t ≡ Ok true → ⊥
      never_true (Constant true) st never is = true≢false (sym never)
      never_true (Constant false) st never is = cc
      never_true (Compare o a b) st never is = true≢false (sym never)
      never_true (Not t) st never is = true≢false (sym never)
      never_true (Both ts) st never is = true≢false (sym never)
      never_true (Either ts) st never is = true≢false (sym never)

      always_false : (t : Truth) (st : S) → is_always t ≡ true → truth_at st t ≡ Ok false → ⊥
      always_false (Constant true) st always is = cc
      always_false (Constant false) st always is = true≢false (sym always)
      always_false (Compare o a b) st always is = true≢false (sym always)
      always_false (Not t) st always is = true≢false (sym always)
      always_false (Both ts) st always is = true≢false (sym always)
      always_false (Either ts) st always is = true≢false (sym always)

      -- a branch that is taken stops
      taken : (b ends : Bool) → (b || ends) ≡ true → (b ≡ true → ⊥) → ends ≡ true
      taken true ends either never = absurd (never refl)
      taken false ends either never = either

      -- whether the first statement stops or a later one
      by_first : (l : ℕ) (s : Code) (rest : Codes) (st : S) (b : Bool) → stops s ≡ b → (b || block_stops rest) ≡ true
          → (stops s ≡ true → IsOver (with_step (λ st. act p r d l s (counted r l s st)) st))
          → (block_stops rest ≡ true → (let after = with_step (λ st. act p r d l s (counted r l s st)) st in
          after.flow ≡ On → IsOver (block p r d rest after)))
          → IsOver (block p r d (Then l s rest) st)
      by_first l s rest st true first is here later =
          flow_over _ (with_step (λ st. act p r d l s (counted r l s st)) st) (block p r d rest) refl
          (λ more. absurd (here first more))
      by_first l s rest st false first is here later =
          flow_over _ (with_step (λ st. act p r d l s (counted r l s st)) st) (block p r d rest) refl (later is)

      -- the branch for a value of the condition
      branch : (t : Truth) (b c : Codes) (st : S) → (is_never t || block_stops b) ≡ true → (is_always t || block_stops c) ≡ true
          → (block_stops b ≡ true → IsOver (block p r d b st)) → (block_stops c ≡ true → IsOver (block p r d c st))
          → (v : Bool) → truth_at st t ≡ Ok v → IsOver (choose (block p r d b) (block p r d c) v st)
      branch t b c st first second of_first of_second true value =
          of_first (taken (is_never t) (block_stops b) first (λ never. never_true t st never value))
      branch t b c st first second of_first of_second false value =
          of_second (taken (is_always t) (block_stops c) second (λ always. always_false t st always value))

      mutual
        act_over : (s : Code) (l : ℕ) (st : S) → stops s ≡ true → st.flow ≡ On → IsOver (act p r d l s st)
        act_over (Do s) l st is on = primitive_over l s st is
        act_over (If t b c) l st is on =
            let first = both_first (is_never t || block_stops b) (is_always t || block_stops c) is in
            let second = both_second (is_never t || block_stops b) (is_always t || block_stops c) is in
            value_over l (truth_at st t) _ st
            (branch t b c st first second (λ is. block_over b st is on) (λ is. block_over c st is on))
        act_over (While (Constant true) b) l st is on =
            flow_over _ (block p r d b st) (d (Turn l (Constant true) b)) refl (λ more. ends l b _ more)
        act_over (While (Constant false) b) l st is on = absurd (true≢false (sym is))
        act_over (While (Compare o x y) b) l st is on = absurd (true≢false (sym is))
        act_over (While (Not t) b) l st is on = absurd (true≢false (sym is))
        act_over (While (Both ts) b) l st is on = absurd (true≢false (sym is))
        act_over (While (Either ts) b) l st is on = absurd (true≢false (sym is))
        act_over (Split s e x y b) l st is on =
            value_over l (number_at st e) _ st (λ v _. value_over l (ok_or (sides_of (window_at st s) v) SplitPoint) _ st (λ ws _.
            block_over b (record st { environment = with_sides x y ws st.environment }) is on))
        act_over (Parts s e x i b) l st is on = absurd (true≢false (sym is))
        act_over (Begun s n k x i b) l st is on = absurd (true≢false (sym is))
        act_over (Call f es ss) l st is on = absurd (true≢false (sym is))
        act_over (Async b) l st is on = absurd (true≢false (sym is))
        act_over (Finish b) l st is on =
            finish_over _ (block p r d b (hushed st)).faults (block_over b (hushed st) is on) (block_tells b (hushed st) on)
        act_over (Rescue b x c) l st is on =
            let first = both_first (block_stops b) (block_stops c) is in
            let second = both_second (block_stops b) (block_stops c) is in
            let inside = block p r d b (hushed st) in
            let out = r.leave st inside in
            rescue_over out.flow x (block p r d c) st.faults out refl
            (finish_over inside.flow inside.faults (block_over b (hushed st) first on) (block_tells b (hushed st) on))
            (block_over c (caught x st.faults out) second refl)

        block_over : (b : Codes) (st : S) → block_stops b ≡ true → st.flow ≡ On → IsOver (block p r d b st)
        block_over End st is on = absurd (true≢false (sym is))
        block_over (Then l s rest) st is on =
            by_first l s rest st (stops s) refl is
            (λ first. spend_over st.steps st (λ st. act p r d l s (counted r l s st)) (λ m.
            act_over s l (counted r l s (record st { steps = m })) first (counted_on l s (record st { steps = m }) on)))
            (λ later more. block_over rest _ later more)

      step_over : (l : ℕ) (s : Code) (st : S) → stops s ≡ true → st.flow ≡ On
          → IsOver (with_step (λ st. act p r d l s (counted r l s st)) st)
      step_over l s st is on =
          spend_over st.steps st (λ st. act p r d l s (counted r l s st)) (λ m.
          act_over s l (counted r l s (record st { steps = m })) is (counted_on l s (record st { steps = m }) on))

  within_tells : (k : ℕ) (w : Work) (st : S) → st.flow ≡ On → Tells (within p r k w st)
  within_tells zero w st on = λ is. absurd (stopped_faulted is)
  within_tells (suc k) w st on = work_tells (within p r k) (within_tells k) w st on

  -- a loop without end doesn't come to its end
  turn_over : (k : ℕ) (l : ℕ) (b : Codes) (st : S) → st.flow ≡ On → IsOver (within p r k (Turn l (Constant true) b) st)
  turn_over zero l b st on = stopped_on
  turn_over (suc k) l b st on =
      step_over (within p r k) (within_tells k) (turn_over k) l (While (Constant true) b) st refl on

  block_within : (k : ℕ) (b : Codes) (st : S) → block_stops b ≡ true → st.flow ≡ On → IsOver (within p r k (Block b) st)
  block_within zero b st is on = stopped_on
  block_within (suc k) b st is on = block_over (within p r k) (within_tells k) (turn_over k) b st is on

pub stopped_after : (p : Program) (fresh nest : ℕ) (c : Code) (label : ℕ) (st : S) → stops c ≡ true → st.flow ≡ On
    → (one p fresh nest (Block (Then label c End)) st).flow ≢ On
stopped_after p fresh nest c label st is on =
    block_within p (begin_one p fresh nest) (begin_tells p fresh nest) (st.steps + 1) (Then label c End) st
    (ap (λ (b : Bool). b || false) is) on

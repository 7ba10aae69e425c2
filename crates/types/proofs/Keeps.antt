-- A run keeps what each of its operations keeps.
use Rattle.std.proofs.Common.{ℕ, zero, suc, ◌+◌, List, Option, Some, Ok, Err, refl}
use Rattle.std.specs.Prelude.{ℤ, Bool, true, false, map, ok_or, if◌then◌else◌}
use Rattle.sections.specs.Place.{Place, sides_of, same_place, has_piece}
use Rattle.types.specs.declared.fault.FaultKind.{FaultKind}
use Rattle.types.specs.declared.fault.FaultKind.TheVariants.{SplitPoint, PieceSize, Raised}
use Rattle.types.specs.Code.{Primitive, Skip, Assign, Store, Print, Raise, Code, Do, If, While, Split, Parts, Begun}
use Rattle.types.specs.Code.{Call, Async, Finish, Rescue, Codes, End, Then, Program}
use Rattle.types.specs.Contents.{IsThere}
use Rattle.types.specs.Value.{Valued, element_of, holds_number}
use Rattle.types.specs.Run.{Flow, On, Faulted, Stopped, Fault, State, Work, Block, Turn, Pieces, Rules, stopped, at_flow, go_on}
use Rattle.types.specs.Run.{spend, in_turn, piece_size, with_step, fault, with_value, assign, print, put, choose, number_at, numbers_at, truth_at}
use Rattle.types.specs.Run.{window_at, entry, with_sides, array_of, procedure_of, primitive, counted, act, block, work}
use Rattle.types.specs.Run.{within, run, caught, rescued, rescued_by}
use Rattle.types.specs.Laws.{IsKept, Keeps}

-- there is a number after a choice between two numbers
pub still_there : (b : Bool) (v w : Option ℤ) → IsThere v → IsThere w → IsThere (if b then v else w)
still_there true v w h k = h
still_there false v w h k = k

module _ (p : Program) {X : Type 0} (r : Rules X) (R : State X → State X → Type 0) (kept : IsKept r R) where
  abbrev Kept : (State X → State X) → Type 0
  Kept = Keeps R

  stays : (st : State X) → R st st
  stays st = kept.idle st st refl refl refl (λ q h. h)

  fault_keeps : (l : ℕ) (f : FaultKind) → Kept (fault l f)
  fault_keeps l f st = kept.idle st (fault l f st) refl refl refl (λ q h. h)

  flow_keeps : (f : Flow) (st : State X) (go : State X → State X) → Kept go → R st (at_flow f st go)
  flow_keeps On st go h = h st
  flow_keeps Faulted st go h = stays st
  flow_keeps Stopped st go h = stays st

  then_keeps : (go to : State X → State X) (st : State X) → R st (go st) → Kept to → R st (go_on to (go st))
  then_keeps go to st h k = kept.further st (go st) (go_on to (go st)) h (flow_keeps (go st).flow (go st) to k)

  spend_keeps : (n : ℕ) (st : State X) (go : State X → State X) → Kept go → R st (spend n st go)
  spend_keeps zero st go h = kept.idle st (stopped st) refl refl refl (λ q h. h)
  spend_keeps (suc n) st go h =
      let paid = record st { steps = n } in kept.further st paid (go paid) (kept.idle st paid refl refl refl (λ q h. h)) (h paid)

  value_keeps : {A : Type 0} (l : ℕ) (v : Valued A) (go : A → State X → State X) (st : State X) → ((a : A) → R st (go a st))
      → R st (with_value l v go st)
  value_keeps l (Ok a) go st h = h a
  value_keeps l (Err f) go st h = fault_keeps l f st

  choose_keeps : (b : Bool) (go to : State X → State X) (st : State X) → R st (go st) → R st (to st) → R st (choose go to b st)
  choose_keeps true go to st h k = h
  choose_keeps false go to st h k = k

  rescue_keeps : (f : Flow) (x : ℕ) (go : State X → State X) (before : List Fault) (out : State X) → Kept go
      → R out (rescued_by f x go before out)
  rescue_keeps On x go before out h = stays out
  rescue_keeps Faulted x go before out h =
      let from = caught x before out in kept.further out from (go from) (kept.idle out from refl refl refl (λ q k. k)) (h from)
  rescue_keeps Stopped x go before out h = stays out

  put_keeps : (l : ℕ) (fits : Bool) (q : Place) (v : ℤ) → Kept (put l fits q v)
  put_keeps l true q v st = kept.idle st (put l true q v st) refl refl refl (λ r h. still_there (same_place q r) (Some v) (st.store r) tt h)
  put_keeps l false q v st = fault_keeps l _ st

  pub primitive_keeps : (l : ℕ) (s : Primitive) → Kept (primitive p l s)
  primitive_keeps l Skip st = stays st
  primitive_keeps l (Assign x e) st = value_keeps l (number_at st e) (assign x) st (λ v. kept.idle st (assign x v st) refl refl refl (λ q h. h))
  primitive_keeps l (Store s i e) st =
      value_keeps l (number_at st i) _ st (λ at. value_keeps l (number_at st e) _ st (λ v.
      value_keeps l (element_of (window_at st s) at) _ st (λ q. put_keeps l (holds_number (array_of p q.array).element v) q v st)))
  primitive_keeps l (Print es) st = value_keeps l (numbers_at st es) print st (λ vs. kept.idle st (print vs st) refl refl refl (λ q h. h))
  primitive_keeps l (Raise e) st = value_keeps l (number_at st e) _ st (λ v. fault_keeps l (Raised v) st)

  pub counted_keeps : (l : ℕ) (s : Code) → Kept (counted r l s)
  counted_keeps l (Do s) st = kept.stepped l st
  counted_keeps l (If t b c) st = kept.stepped l st
  counted_keeps l (While t b) st = kept.stepped l st
  counted_keeps l (Split s e x y b) st = kept.stepped l st
  counted_keeps l (Parts s e x i b) st = kept.stepped l st
  counted_keeps l (Begun s n k x i b) st = kept.stepped l st
  counted_keeps l (Call f es ss) st = kept.stepped l st
  counted_keeps l (Async b) st = stays st
  counted_keeps l (Finish b) st = stays st
  counted_keeps l (Rescue b x c) st = stays st

  module _ (d : Work → State X → State X) (h : (w : Work) → Kept (d w)) where
    -- a step, then the statement that follows it
    step_keeps : (l : ℕ) (s : Code) → Kept (act p r d l s) → Kept (with_step (λ st. act p r d l s (counted r l s st)))
    step_keeps l s k st =
        spend_keeps st.steps st (λ st. act p r d l s (counted r l s st)) (λ st.
        kept.further st (counted r l s st) (act p r d l s (counted r l s st)) (counted_keeps l s st) (k (counted r l s st)))

    mutual
      act_keeps : (s : Code) (l : ℕ) → Kept (act p r d l s)
      act_keeps (Do s) l st = primitive_keeps l s st
      act_keeps (If t b c) l st =
          value_keeps l (truth_at st t) _ st (λ v. choose_keeps v (block p r d b) (block p r d c) st (block_keeps b st) (block_keeps c st))
      act_keeps (While t b) l st =
          value_keeps l (truth_at st t) _ st (λ v. choose_keeps v (λ s. go_on (d (Turn l t b)) (block p r d b s)) (λ s. s) st
          (then_keeps (block p r d b) (d (Turn l t b)) st (block_keeps b st) (h (Turn l t b))) (stays st))
      act_keeps (Split s e x y b) l st =
          value_keeps l (number_at st e) _ st (λ v. value_keeps l (ok_or (sides_of (window_at st s) v) SplitPoint) _ st (λ ws.
          let inner = record st { environment = with_sides x y ws st.environment } in
          kept.further st inner (block p r d b inner) (kept.idle st inner refl refl refl (λ q h. h)) (block_keeps b inner)))
      act_keeps (Parts s e x i b) l st =
          value_keeps l (number_at st e) _ st (λ v. value_keeps l (ok_or (piece_size v) PieceSize) _ st (λ n.
          h (Pieces l s n 0 x i b) st))
      act_keeps (Begun s n k x i b) l st =
          let inner = in_turn s n k x i st in
          kept.further st inner (go_on (d (Pieces l s n (k + 1) x i b)) (block p r d b inner))
          (kept.idle st inner refl refl refl (λ q h. h))
          (then_keeps (block p r d b) (d (Pieces l s n (k + 1) x i b)) inner (block_keeps b inner) (h (Pieces l s n (k + 1) x i b)))
      act_keeps (Call f es ss) l st =
          value_keeps l (numbers_at st es) _ st (λ vs.
          let inner = record st { environment = entry vs (map (window_at st) ss) } in
          let out = d (Block (procedure_of p f).body) inner in
          kept.further st inner (record out { environment = st.environment }) (kept.idle st inner refl refl refl (λ q h. h))
          (kept.further inner out (record out { environment = st.environment }) (h (Block (procedure_of p f).body) inner)
          (kept.idle out (record out { environment = st.environment }) refl refl refl (λ q h. h))))
      act_keeps (Async b) l st = kept.begin l b st
      act_keeps (Finish b) l st = kept.finish l st (block p r d b (r.enter l st)) (block_keeps b (r.enter l st))
      act_keeps (Rescue b x c) l st =
          let out = r.leave st (block p r d b (r.enter l st)) in
          kept.further st out (rescued x (block p r d c) st.faults out)
          (kept.finish l st (block p r d b (r.enter l st)) (block_keeps b (r.enter l st)))
          (rescue_keeps out.flow x (block p r d c) st.faults out (block_keeps c))

      block_keeps : (b : Codes) → Kept (block p r d b)
      block_keeps End st = stays st
      block_keeps (Then l s rest) st =
          then_keeps (with_step (λ st. act p r d l s (counted r l s st))) (block p r d rest) st (step_keeps l s (act_keeps s l) st) (block_keeps rest)

    work_keeps : (w : Work) → Kept (work p r d w)
    work_keeps (Block b) st = block_keeps b st
    work_keeps (Turn l t b) st = step_keeps l (While t b) (act_keeps (While t b) l) st
    work_keeps (Pieces l s n k x i b) st =
        let c = Begun s n k x i b in
        choose_keeps (has_piece (window_at st s) n k) (with_step (λ st. act p r d l c (counted r l c st))) (λ st. st) st
        (step_keeps l c (act_keeps c l) st) (stays st)

  within_keeps : (k : ℕ) (w : Work) → Kept (within p r k w)
  within_keeps zero w st = kept.idle st (stopped st) refl refl refl (λ q h. h)
  within_keeps (suc k) w st = work_keeps (within p r k) (within_keeps k) w st

  pub run_keeps : (w : Work) → Kept (run p r w)
  run_keeps w st = within_keeps (st.steps + 1) w st

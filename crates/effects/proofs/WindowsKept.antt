-- A run of code whose names follow the rules leaves the windows in scope unchanged.
use Rattle.std.proofs.Common.{◌≡◌, ℕ, zero, suc, ◌+◌, List, ◌∷◌, Ok, Err, ℤ, refl, sym, ap, ◌∙◌, map}
use Rattle.std.specs.Prelude.{Bool, true, false, ok_or}
use Rattle.sections.specs.Place.{Place, sides_of, has_piece, piece_at}
use Rattle.sections.specs.Member.{next}
use Rattle.types.specs.declared.fault.FaultKind.TheVariants.{SplitPoint, PieceSize}
use Rattle.types.specs.Code.{Truth, Primitive, Skip, Assign, Store, Print, Raise, Code, Do, If, While, Split, Parts, Begun, Call}
use Rattle.types.specs.Code.{Async, Finish, Rescue, Codes, End, Then, Procedure, Program}
use Rattle.types.specs.Value.{Valued, element_of, holds_number}
use Rattle.types.specs.Run.{Flow, On, Faulted, Stopped, Fault, State, Rules, Work, Block, Turn, Pieces, at_flow, go_on, spend}
use Rattle.types.specs.Run.{with_step, with_value, number_at, numbers_at, truth_at, window_at, assign, print, put}
use Rattle.types.specs.Run.{fault, choose, in_environment, primitive, counted, act, block, work, within, run}
use Rattle.types.specs.Run.{with_sides, array_of, entry, procedure_of, in_turn, piece_size, caught, rescued, rescued_by}
use Rattle.types.specs.Meaning.{begin_one, one_rules}
use Rattle.effects.specs.Sound.{CutsWell, Follows, FollowsOf}
use Rattle.effects.specs.Fits.{Fits}
use Rattle.effects.specs.Kept.{SameWindows, KeepsWindows, WorkFollows}
use Rattle.effects.proofs.EnvironmentsFit.{at_other, at_piece, fits_same}

-- work of a statement: further iterations, or turns
abbrev IsFurther : Work → Type 0
IsFurther (Block b) = ⊥
IsFurther (Turn l t b) = Unit {0}
IsFurther (Pieces l s n k q i b) = Unit {0}

module _ {X : Type 0} where
  abbrev Keep : List ℕ → (st out : State X) → Type 0
  Keep scope st out = SameWindows scope st.environment out.environment

  -- steps of a run that keep the windows in scope
  abbrev Keeps : List ℕ → (State X → State X) → Type 0
  Keeps scope go = (st : State X) → Keep scope st (go st)

  then_keep : (scope : List ℕ) (st mid out : State X) → Keep scope st mid → Keep scope mid out → Keep scope st out
  then_keep scope st mid out f g s m = f s m ∙ g s m

  at_flow_keeps : (scope : List ℕ) (f : Flow) (st : State X) (go : State X → State X) → Keeps scope go → Keep scope st (at_flow f st go)
  at_flow_keeps scope On st go k = k st
  at_flow_keeps scope Faulted st go k = λ s m. refl
  at_flow_keeps scope Stopped st go k = λ s m. refl

  rescue_keeps : (scope : List ℕ) (f : Flow) (x : ℕ) (go : State X → State X) (before : List Fault) (out : State X) → Keeps scope go
      → Keep scope out (rescued_by f x go before out)
  rescue_keeps scope On x go before out k = λ s m. refl
  rescue_keeps scope Faulted x go before out k = k (caught x before out)
  rescue_keeps scope Stopped x go before out k = λ s m. refl

  spend_keeps : (scope : List ℕ) (n : ℕ) (st : State X) (go : State X → State X) → Keeps scope go → Keep scope st (spend n st go)
  spend_keeps scope zero st go k = λ s m. refl
  spend_keeps scope (suc n) st go k = k (record st { steps = n })

  value_keeps : (scope : List ℕ) {A : Type 0} (l : ℕ) (v : Valued A) (go : A → State X → State X) (st : State X)
      → ((a : A) → Keep scope st (go a st)) → Keep scope st (with_value l v go st)
  value_keeps scope l (Ok v) go st k = k v
  value_keeps scope l (Err f) go st k = λ s m. refl

  choose_keeps : (scope : List ℕ) (body other : State X → State X) (b : Bool) (st : State X) → Keeps scope body → Keeps scope other
      → Keep scope st (choose body other b st)
  choose_keeps scope body other true st f g = f st
  choose_keeps scope body other false st f g = g st

  put_keeps : (scope : List ℕ) (l : ℕ) (b : Bool) (q : Place) (v : ℤ) (st : State X) → Keep scope st (put l b q v st)
  put_keeps scope l true q v st = λ s m. refl
  put_keeps scope l false q v st = λ s m. refl

module _ (p : Program) {X : Type 0} where
  primitive_keeps : (scope : List ℕ) (l : ℕ) (s : Primitive) (st : State X) → Keep scope st (primitive p l s st)
  primitive_keeps scope l Skip st = λ s m. refl
  primitive_keeps scope l (Assign x e) st = value_keeps scope l (number_at st e) (assign x) st (λ v s m. refl)
  primitive_keeps scope l (Store s i e) st =
      value_keeps scope l (number_at st i)
      (λ at. with_value l (number_at st e)
      (λ v. with_value l (element_of (window_at st s) at) (λ q. put l (holds_number (array_of p q.array).element v) q v))) st (λ at.
      value_keeps scope l (number_at st e)
      (λ v. with_value l (element_of (window_at st s) at) (λ q. put l (holds_number (array_of p q.array).element v) q v)) st (λ v.
      value_keeps scope l (element_of (window_at st s) at) (λ q. put l (holds_number (array_of p q.array).element v) q v) st (λ q.
      put_keeps scope l (holds_number (array_of p q.array).element v) q v st)))
  primitive_keeps scope l (Print es) st = value_keeps scope l (numbers_at st es) print st (λ vs s m. refl)
  primitive_keeps scope l (Raise e) st = value_keeps scope l (number_at st e) (λ v. fault l _) st (λ v s m. refl)

  module _ (r : Rules X) (keeps : KeepsWindows r) (g : Procedure) where
    counted_keeps : (scope : List ℕ) (l : ℕ) (s : Code) (st : State X) → Keep scope st (counted r l s st)
    counted_keeps scope l (Async b) st = λ s m. refl
    counted_keeps scope l (Finish b) st = λ s m. refl
    counted_keeps scope l (Rescue b x c) st = λ s m. refl
    counted_keeps scope l (Do s) st = λ s m. refl
    counted_keeps scope l (If t b c) st = λ s m. refl
    counted_keeps scope l (While t b) st = λ s m. refl
    counted_keeps scope l (Split s e x y b) st = λ s m. refl
    counted_keeps scope l (Parts s e q i b) st = λ s m. refl
    counted_keeps scope l (Begun s n k q i b) st = λ s m. refl
    counted_keeps scope l (Call f es ss) st = λ s m. refl

    module _ (deeper : Work → State X → State X)
        (deeper_keeps : (w : Work) (scope : List ℕ) → IsFurther w → WorkFollows p g scope w → Keeps scope (deeper w)) where
      -- an iteration of a loop, if its block does and further iterations do
      while_keeps : (t : Truth) (b : Codes) (l : ℕ) (scope : List ℕ) → Keeps scope (block p r deeper b) → Keeps scope (deeper (Turn l t b))
          → Keeps scope (act p r deeper l (While t b))
      while_keeps t b l scope inner further st =
          value_keeps scope l (truth_at st t) (choose (λ s. go_on (deeper (Turn l t b)) (block p r deeper b s)) (λ s. s)) st (λ v.
          choose_keeps scope (λ s. go_on (deeper (Turn l t b)) (block p r deeper b s)) (λ s. s) v st
          (λ st. then_keep scope st (block p r deeper b st) (go_on (deeper (Turn l t b)) (block p r deeper b st))
          (inner st)
          (at_flow_keeps scope (block p r deeper b st).flow (block p r deeper b st) (deeper (Turn l t b)) further))
          (λ st s m. refl))

      -- a turn of a `parts`, if its block does and the later turns do
      turn_keeps : (s n k q i : ℕ) (b : Codes) (l : ℕ) (scope : List ℕ) → CutsWell g scope s q i
          → Keeps (q ∷ scope) (block p r deeper b) → Keeps scope (deeper (Pieces l s n (k + 1) q i b))
          → Keeps scope (act p r deeper l (Begun s n k q i b))
      turn_keeps s n k q i b l scope well inner further st =
          let begun = in_turn s n k q i st in
          let out = block p r deeper b begun in
          then_keep scope st out (go_on (deeper (Pieces l s n (k + 1) q i b)) out)
          (λ z m. at_piece p g scope st.environment s q i well (piece_at n k (window_at st s)) k z m ∙ inner begun z (next m))
          (at_flow_keeps scope out.flow out (deeper (Pieces l s n (k + 1) q i b)) further)

      mutual
        pub act_keeps : (s : Code) (l : ℕ) (scope : List ℕ) → FollowsOf p g scope s → Keeps scope (act p r deeper l s)
        act_keeps (Do s) l scope k st = primitive_keeps scope l s st
        act_keeps (If t b c) l scope k st =
            value_keeps scope l (truth_at st t) (choose (block p r deeper b) (block p r deeper c)) st (λ v.
            choose_keeps scope (block p r deeper b) (block p r deeper c) v st (block_keeps b scope k.1) (block_keeps c scope k.2))
        act_keeps (While t b) l scope k st = while_keeps t b l scope (block_keeps b scope k.1) (deeper_keeps (Turn l t b) scope tt k.1) st
        act_keeps (Split s e x y b) l scope k st =
            value_keeps scope l (number_at st e)
            (λ v. with_value l (ok_or (sides_of (window_at st s) v) SplitPoint)
            (λ ws st. block p r deeper b (record st { environment = with_sides x y ws st.environment }))) st (λ v.
            value_keeps scope l (ok_or (sides_of (window_at st s) v) SplitPoint)
            (λ ws st. block p r deeper b (record st { environment = with_sides x y ws st.environment })) st (λ ws.
            λ z m. at_other p g scope st.environment s x y k.0 ws z m
            ∙ block_keeps b (x ∷ y ∷ scope) k.2 (record st { environment = with_sides x y ws st.environment }) z (next (next m))))
        act_keeps (Parts s e q i b) l scope k st =
            value_keeps scope l (number_at st e)
            (λ v. with_value l (ok_or (piece_size v) PieceSize) (λ n. deeper (Pieces l s n 0 q i b))) st (λ v.
            value_keeps scope l (ok_or (piece_size v) PieceSize) (λ n. deeper (Pieces l s n 0 q i b)) st (λ n.
            deeper_keeps (Pieces l s n 0 q i b) scope tt (k.0, k.2) st))
        act_keeps (Begun s n j q i b) l scope k st =
            turn_keeps s n j q i b l scope k.0 (block_keeps b (q ∷ scope) k.1)
            (deeper_keeps (Pieces l s n (j + 1) q i b) scope tt k) st
        act_keeps (Call f es ss) l scope k st =
            value_keeps scope l (numbers_at st es)
            (λ vs. in_environment (entry vs (map (window_at st) ss)) (deeper (Block (procedure_of p f).body))) st (λ vs s m. refl)
        act_keeps (Async b) l scope k st = λ s m. ap (λ w. w s) (sym (keeps.begin l b st))
        act_keeps (Finish b) l scope k st = λ s m.
            ap (λ w. w s) (sym (keeps.enter l st)) ∙ block_keeps b scope k (r.enter l st) s m
            ∙ ap (λ w. w s) (sym (keeps.leave st (block p r deeper b (r.enter l st))))
        act_keeps (Rescue b x c) l scope k st =
            let out = r.leave st (block p r deeper b (r.enter l st)) in
            then_keep scope st out (rescued x (block p r deeper c) st.faults out)
            (λ s m. ap (λ w. w s) (sym (keeps.enter l st)) ∙ block_keeps b scope k.0 (r.enter l st) s m
            ∙ ap (λ w. w s) (sym (keeps.leave st (block p r deeper b (r.enter l st)))))
            (rescue_keeps scope out.flow x (block p r deeper c) st.faults out (block_keeps c scope k.2))

        pub block_keeps : (b : Codes) (scope : List ℕ) → Follows p g scope b → Keeps scope (block p r deeper b)
        block_keeps End scope k st = λ s m. refl
        block_keeps (Then l s rest) scope k st =
            then_keep scope st (with_step (λ st. act p r deeper l s (counted r l s st)) st)
            (go_on (block p r deeper rest) (with_step (λ st. act p r deeper l s (counted r l s st)) st))
            (spend_keeps scope st.steps st (λ st. act p r deeper l s (counted r l s st))
            (λ st. then_keep scope st (counted r l s st) (act p r deeper l s (counted r l s st)) (counted_keeps scope l s st)
            (act_keeps s l scope k.0 (counted r l s st))))
            (at_flow_keeps scope (with_step (λ st. act p r deeper l s (counted r l s st)) st).flow
            (with_step (λ st. act p r deeper l s (counted r l s st)) st) (block p r deeper rest) (block_keeps rest scope k.1))

      work_keeps : (w : Work) (scope : List ℕ) → WorkFollows p g scope w → Keeps scope (work p r deeper w)
      work_keeps (Block b) scope k st = block_keeps b scope k st
      work_keeps (Turn l t b) scope k st = spend_keeps scope st.steps st (λ st. act p r deeper l (While t b) (counted r l (While t b) st))
          (λ st. while_keeps t b l scope (block_keeps b scope k) (deeper_keeps (Turn l t b) scope tt k) (counted r l (While t b) st))
      work_keeps (Pieces l s n k q i b) scope f st =
          choose_keeps scope (with_step (λ st. act p r deeper l (Begun s n k q i b) (counted r l (Begun s n k q i b) st))) (λ st. st)
          (has_piece (window_at st s) n k) st
          (λ st. spend_keeps scope st.steps st (λ st. act p r deeper l (Begun s n k q i b) (counted r l (Begun s n k q i b) st))
          (λ st. turn_keeps s n k q i b l scope f.0 (block_keeps b (q ∷ scope) f.1)
          (deeper_keeps (Pieces l s n (k + 1) q i b) scope tt f) (counted r l (Begun s n k q i b) st)))
          (λ st s m. refl)

    within_keeps : (n : ℕ) (w : Work) (scope : List ℕ) → WorkFollows p g scope w → Keeps scope (within p r n w)
    within_keeps zero w scope k st = λ s m. refl
    within_keeps (suc n) w scope k st = work_keeps (within p r n) (λ w scope i f. within_keeps n w scope f) w scope k st

    pub run_keeps : (w : Work) (scope : List ℕ) → WorkFollows p g scope w → (st : State X)
        → SameWindows scope st.environment (run p r w st).environment
    run_keeps w scope k st = within_keeps (st.steps + 1) w scope k st

-- so an environment that fits continues to fit
pub run_fits : (p : Program) {X : Type 0} (r : Rules X) → KeepsWindows r → (g : Procedure) (w : Work) (scope : List ℕ)
    → WorkFollows p g scope w
    → (st : State X) → Fits p g scope st.environment → Fits p g scope (run p r w st).environment
run_fits p r keeps g w scope follows st fits =
    fits_same p g scope st.environment (run p r w st).environment fits (run_keeps p r keeps g w scope follows st)

-- the one-thread rules do
begin_one_keeps : (p : Program) (fresh nest : ℕ) (b : Codes) (st : State (Unit {0}))
    → (begin_one p fresh nest b st).environment.windows ≡ st.environment.windows
begin_one_keeps p fresh zero b st = refl
begin_one_keeps p fresh (suc n) b st = refl

pub one_rules_keep : (p : Program) (fresh nest : ℕ) → KeepsWindows (one_rules p fresh nest)
one_rules_keep p fresh nest = record {
  begin = λ l. begin_one_keeps p fresh nest;
  enter = λ l st. refl;
  leave = λ before out. refl;
}

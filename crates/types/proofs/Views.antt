-- Two runs in parallel: if each state of the second is a view of a state of the first, the second
-- follows the first.
use Rattle.std.proofs.Common.{◌≡◌, ℕ, zero, suc, ◌+◌, ◌-◌, List, [], ◌∷◌, ◌++◌, length, Ok, Err, refl, sym, ap, ◌∙◌, subst, inl, inr}
use Rattle.std.proofs.Common.{append_assoc, arith}
use Rattle.std.proofs.lemmas.List.{length-append}
use Rattle.std.specs.Prelude.{ℤ, pos, ◌⊎◌, Bool, true, false, map, ok_or}
use Rattle.types.specs.declared.fault.FaultKind.{FaultKind}
use Rattle.types.specs.declared.fault.FaultKind.TheVariants.{SplitPoint, PieceSize, Raised}
use Rattle.types.specs.Code.{Primitive, Skip, Assign, Store, Print, Raise, Code, Do, If, While, Split, Parts, Begun}
use Rattle.types.specs.Code.{Call, Async, Finish, Rescue, Codes, End, Then, Program}
use Rattle.sections.specs.Place.{Place, sides_of, has_piece}
use Rattle.types.specs.Value.{Environment, Valued, element_of, holds_number}
use Rattle.types.specs.Run.{Flow, On, Faulted, Stopped, Fault, State, Work, Block, Turn, Pieces, stopped, at_flow, go_on}
use Rattle.types.specs.Run.{spend, with_step, in_turn, piece_size, fault, with_value, number_at, numbers_at, truth_at, window_at, assign, print, put, choose}
use Rattle.types.specs.Run.{in_environment, entry, with_sides, array_of, procedure_of, Rules, primitive, counted}
use Rattle.types.specs.Run.{act, block, work, within, caught, rescued, rescued_by}

-- the parts of a state that a view changes: it adds earlier lines and faults, and replaces the
-- steps left and `extra`; the flow, environment, store and task stay the same
pub record View (I X Y : Type 0) : Type 0 where
  pub lines : I → X → List (List ℤ)
  pub faults : I → X → List Fault
  pub steps : I → ℕ → ℕ
  pub extra : I → X → Y

abbrev pub viewed : {I X Y : Type 0} → View I X Y → I → State X → State Y
viewed v i st = record {
  flow = st.flow;
  environment = st.environment;
  store = st.store;
  lines = v.lines i st.extra ++ st.lines;
  faults = v.faults i st.extra ++ st.faults;
  steps = v.steps i st.steps;
  path = st.path;
  spawned = st.spawned;
  extra = v.extra i st.extra;
}

-- a state is determined by its output and its other parts
pub same_told : {X : Type 0} (st : State X) (l m : List (List ℤ)) (f g : List Fault) → l ≡ m → f ≡ g
    → record st { lines = l; faults = f } ≡ record st { lines = m; faults = g }
same_told st l m f g e h = ap (λ x. record st { lines = x; faults = f }) e ∙ ap (λ x. record st { lines = m; faults = x }) h

-- if nothing is ever lost
abbrev pub Never : {X : Type 0} → State X → Type 0
Never st = ⊥

pub surely : {A : Type 0} {a b : A} → ⊥ ⊎ (a ≡ b) → a ≡ b
surely (inl never) = absurd never
surely (inr e) = e

-- one of two cases, if the equation can start elsewhere
pub begin_at : {L A : Type 0} {a b c : A} → a ≡ b → L ⊎ (b ≡ c) → L ⊎ (a ≡ c)
begin_at e (inl l) = inl l
begin_at e (inr h) = inr (e ∙ h)

module _ {I X Y : Type 0} (v : View I X Y) (Lost : State X → Type 0) where
  -- `to` does on the view what `go` does, unless what `go` does is lost
  abbrev pub FollowsAt : I → State X → (State X → State X) → (State Y → State Y) → Type 0
  FollowsAt i st go to = Lost (go st) ⊎ (to (viewed v i st) ≡ viewed v i (go st))

  abbrev pub Follows : (State X → State X) → (State Y → State Y) → Type 0
  Follows go to = (i : I) (st : State X) → FollowsAt i st go to

  -- how steps and rules affect a view
  pub record IsView (r : Rules X) (s : Rules Y) : Type 0 where
    pub out_of_steps : (i : I) (st : State X) → Lost (stopped st) ⊎ (v.steps i 0 ≡ 0)
    pub one_less : (i : I) (n : ℕ) → v.steps i (suc n) ≡ suc (v.steps i n)
    pub stepped : (i : I) (l : ℕ) (st : State X)
        → record (viewed v i st) { extra = s.stepped l (v.extra i st.extra) } ≡ viewed v i (record st { extra = r.stepped l st.extra })
    pub begin : (l : ℕ) (b : Codes) → Follows (r.begin l b) (s.begin l b)
    pub finish : (l : ℕ) (go : State X → State X) (to : State Y → State Y) → Follows go to
        → Follows (λ st. r.leave st (go (r.enter l st))) (λ st. s.leave st (to (s.enter l st)))
    -- a finish restores the earlier faults
    pub earlier : (i : I) (l : ℕ) (go : State X → State X) (st : State X) → let out = r.leave st (go (r.enter l st)) in
        Lost out ⊎ (v.faults i out.extra ≡ v.faults i st.extra)
    -- what is lost is stopped, and stays lost
    pub stops : (st : State X) → Lost st → st.flow ≡ Stopped
    pub lost_moved : (st : State X) (env : Environment) → Lost st → Lost (record st { environment = env })

-- a view that loses nothing, with the same steps left
pub whole_view : {I X Y : Type 0} (v : View I X Y) (r : Rules X) (s : Rules Y) → ((i : I) (n : ℕ) → v.steps i n ≡ n)
    → ((i : I) (l : ℕ) (st : State X)
    → record (viewed v i st) { extra = s.stepped l (v.extra i st.extra) } ≡ viewed v i (record st { extra = r.stepped l st.extra }))
    → ((l : ℕ) (b : Codes) → Follows v Never (r.begin l b) (s.begin l b))
    → ((l : ℕ) (go : State X → State X) (to : State Y → State Y) → Follows v Never go to
    → Follows v Never (λ st. r.leave st (go (r.enter l st))) (λ st. s.leave st (to (s.enter l st))))
    → ((i : I) (x y : X) → v.faults i x ≡ v.faults i y) → IsView v Never r s
whole_view v r s same stepped begin finish earlier = record {
  out_of_steps = λ i st. inr (same i 0);
  one_less = λ i n. same i (suc n) ∙ ap suc (sym (same i n));
  stepped = stepped;
  begin = begin;
  finish = finish;
  earlier = λ i l go st. inr (earlier i _ _);
  stops = λ st never. absurd never;
  lost_moved = λ st env never. never;
}

module _ (p : Program) {I X Y : Type 0} (r : Rules X) (s : Rules Y) (v : View I X Y)
    (Lost : State X → Type 0) (view : IsView v Lost r s) where
  lost_on : (st : State X) (go : State X → State X) → Lost st → Lost (go_on go st)
  lost_on st go lost = subst (λ f. Lost (at_flow f st go)) (sym (view.stops st lost)) lost

  lost_rescued : (x : ℕ) (go : State X → State X) (before : List Fault) (st : State X) → Lost st → Lost (rescued x go before st)
  lost_rescued x go before st lost = subst (λ f. Lost (rescued_by f x go before st)) (sym (view.stops st lost)) lost

  print_follows : (vs : List ℤ) → Follows v Lost (print vs) (print vs)
  print_follows vs i st = inr (same_told (viewed v i st) _ _ _ _ (append_assoc (v.lines i st.extra) st.lines (vs ∷ [])) refl)

  fault_follows : (l : ℕ) (k : FaultKind) → Follows v Lost (fault l k) (fault l k)
  fault_follows l k i st =
      inr (same_told (record (viewed v i st) { flow = Faulted }) _ _ _ _ refl (append_assoc (v.faults i st.extra) st.faults _))

  value_follows : {A : Type 0} (i : I) (l : ℕ) (x : Valued A) (go : A → State X → State X) (to : A → State Y → State Y) (st : State X)
      → ((a : A) → FollowsAt v Lost i st (go a) (to a)) → FollowsAt v Lost i st (with_value l x go) (with_value l x to)
  value_follows i l (Ok a) go to st h = h a
  value_follows i l (Err f) go to st h = fault_follows l f i st

  then_follows : (go : State X → State X) (to : State Y → State Y) → Follows v Lost go to → Follows v Lost (go_on go) (go_on to)
  then_follows go to h i st = by_flow st.flow
    where
      by_flow : (f : Flow) → Lost (at_flow f st go) ⊎ (at_flow f (viewed v i st) to ≡ viewed v i (at_flow f st go))
      by_flow On = h i st
      by_flow Faulted = inr refl
      by_flow Stopped = inr refl

  -- one after the other
  after_follows : (i : I) (a b : State X → State X) (c d : State Y → State Y) (st : State X) → FollowsAt v Lost i st a c
      → Follows v Lost b d → FollowsAt v Lost i st (λ s. go_on b (a s)) (λ s. go_on d (c s))
  after_follows i a b c d st (inl lost) h = inl (lost_on (a st) b lost)
  after_follows i a b c d st (inr e) h = begin_at (ap (go_on d) e) (then_follows b d h i (a st))

  -- the handler of a finish, which starts at the end `out` of its body
  caught_follows : (i : I) (x : ℕ) (st out : State X) → v.faults i out.extra ≡ v.faults i st.extra
      → caught x (viewed v i st).faults (viewed v i out) ≡ viewed v i (caught x st.faults out)
  caught_follows i x st out same =
      let more = v.faults i out.extra in
      let before = v.faults i st.extra in
      let caught_as : ℕ → List Fault → State Y = λ n fs. record (assign x (pos n) (viewed v i out)) { flow = On; faults = fs } in
      let number : length (more ++ out.faults) - length (before ++ st.faults) ≡ length out.faults - length st.faults =
      omega (arith, length-append more out.faults, length-append before st.faults, ap length same) in
      ap (λ n. caught_as n (before ++ st.faults)) number
      ∙ ap (λ fs. caught_as (length out.faults - length st.faults) (fs ++ st.faults)) (sym same)

  handler_follows : (i : I) (x : ℕ) (go : State X → State X) (to : State Y → State Y) (st out : State X)
      → v.faults i out.extra ≡ v.faults i st.extra → Follows v Lost go to → Lost (rescued x go st.faults out)
      ⊎ (rescued x to (viewed v i st).faults (viewed v i out) ≡ viewed v i (rescued x go st.faults out))
  handler_follows i x go to st out same h = by_flow out.flow
    where
      by_flow : (f : Flow) → Lost (rescued_by f x go st.faults out)
          ⊎ (rescued_by f x to (viewed v i st).faults (viewed v i out) ≡ viewed v i (rescued_by f x go st.faults out))
      by_flow On = inr refl
      by_flow Faulted = begin_at (ap to (caught_follows i x st out same)) (h i (caught x st.faults out))
      by_flow Stopped = inr refl

  -- a finish, and then its handler
  rescue_follows : (i : I) (x : ℕ) (go : State X → State X) (to : State Y → State Y) (st out : State X) (other : State Y)
      → Lost out ⊎ (other ≡ viewed v i out) → Lost out ⊎ (v.faults i out.extra ≡ v.faults i st.extra) → Follows v Lost go to
      → Lost (rescued x go st.faults out) ⊎ (rescued x to (viewed v i st).faults other ≡ viewed v i (rescued x go st.faults out))
  rescue_follows i x go to st out other (inl lost) same h = inl (lost_rescued x go st.faults out lost)
  rescue_follows i x go to st out other (inr e) (inl lost) h = inl (lost_rescued x go st.faults out lost)
  rescue_follows i x go to st out other (inr e) (inr same) h =
      begin_at (ap (rescued x to (viewed v i st).faults) e) (handler_follows i x go to st out same h)

  put_follows : (l : ℕ) (fits : Bool) (q : Place) (n : ℤ) → Follows v Lost (put l fits q n) (put l fits q n)
  put_follows l true q n i st = inr refl
  put_follows l false q n i st = fault_follows l _ i st

  choose_follows : (i : I) (b : Bool) (f g : State X → State X) (h k : State Y → State Y) (st : State X)
      → FollowsAt v Lost i st f h → FollowsAt v Lost i st g k → FollowsAt v Lost i st (choose f g b) (choose h k b)
  choose_follows i true f g h k st a b = a
  choose_follows i false f g h k st a b = b

  primitive_follows : (l : ℕ) (c : Primitive) → Follows v Lost (primitive p l c) (primitive p l c)
  primitive_follows l Skip i st = inr refl
  primitive_follows l (Assign x e) i st = value_follows i l (number_at st e) (assign x) (assign x) st (λ n. inr refl)
  primitive_follows l (Store sec at e) i st =
      value_follows i l (number_at st at) _ _ st (λ n_at.
      value_follows i l (number_at st e) _ _ st (λ n.
      value_follows i l (element_of (window_at st sec) n_at) _ _ st (λ q.
      put_follows l (holds_number (array_of p q.array).element n) q n i st)))
  primitive_follows l (Print es) i st = value_follows i l (numbers_at st es) print print st (λ vs. print_follows vs i st)
  primitive_follows l (Raise e) i st = value_follows i l (number_at st e) _ _ st (λ n. fault_follows l (Raised n) i st)

  counted_is : (i : I) (l : ℕ) (c : Code) (st : State X) → counted s l c (viewed v i st) ≡ viewed v i (counted r l c st)
  counted_is i l (Async b) st = refl
  counted_is i l (Finish b) st = refl
  counted_is i l (Rescue b x c) st = refl
  counted_is i l c st = view.stepped i l st

  environment_follows : (env : Environment) (go : State X → State X) (to : State Y → State Y) → Follows v Lost go to
      → Follows v Lost (in_environment env go) (in_environment env to)
  environment_follows env go to h i st =
      elim (h i (record st { environment = env })) [
        | inl lost ↦ inl (view.lost_moved (go (record st { environment = env })) st.environment lost)
        | inr e ↦ inr (ap (λ (b : State Y). record b { environment = st.environment }) e)
      ]

  -- with a step taken before
  spent_follows : (go : State X → State X) (to : State Y → State Y) → Follows v Lost go to
      → Follows v Lost (with_step go) (with_step to)
  spent_follows go to h i st = by_steps st.steps
    where
      by_steps : (n : ℕ) → Lost (spend n st go) ⊎ (spend (v.steps i n) (viewed v i st) to ≡ viewed v i (spend n st go))
      by_steps zero =
          elim (view.out_of_steps i st) [
            | inl lost ↦ inl lost
            | inr e ↦ inr (ap (λ k. spend k (viewed v i st) to) e)
          ]
      by_steps (suc n) = begin_at (ap (λ k. spend k (viewed v i st) to) (view.one_less i n)) (h i (record st { steps = n }))

  step_follows : (d : Work → State X → State X) (e : Work → State Y → State Y) (l : ℕ) (c : Code)
      → Follows v Lost (act p r d l c) (act p s e l c)
      → Follows v Lost (with_step (λ st. act p r d l c (counted r l c st))) (with_step (λ st. act p s e l c (counted s l c st)))
  step_follows d e l c h =
      spent_follows (λ st. act p r d l c (counted r l c st)) (λ st. act p s e l c (counted s l c st))
      (λ i st. begin_at (ap (act p s e l c) (counted_is i l c st)) (h i (counted r l c st)))

  module _ (d : Work → State X → State X) (e : Work → State Y → State Y) (deeper : (w : Work) → Follows v Lost (d w) (e w)) where
    mutual
      act_follows : (c : Code) (l : ℕ) → Follows v Lost (act p r d l c) (act p s e l c)
      act_follows (Do c) l i st = primitive_follows l c i st
      act_follows (If t b c) l i st =
          value_follows i l (truth_at st t) _ _ st (λ x.
          choose_follows i x (block p r d b) (block p r d c) (block p s e b) (block p s e c) st (block_follows b i st)
          (block_follows c i st))
      act_follows (While t b) l i st =
          value_follows i l (truth_at st t) _ _ st (λ x.
          choose_follows i x (λ st. go_on (d (Turn l t b)) (block p r d b st)) (λ st. st)
          (λ st. go_on (e (Turn l t b)) (block p s e b st)) (λ st. st) st
          (after_follows i (block p r d b) (d (Turn l t b)) (block p s e b) (e (Turn l t b)) st (block_follows b i st)
          (deeper (Turn l t b)))
          (inr refl))
      act_follows (Split sec n x y b) l i st =
          value_follows i l (number_at st n) _ _ st (λ k.
          value_follows i l (ok_or (sides_of (window_at st sec) k) SplitPoint) _ _ st (λ ws.
          block_follows b i (record st { environment = with_sides x y ws st.environment })))
      act_follows (Parts sec n x y b) l i st =
          value_follows i l (number_at st n) _ _ st (λ k.
          value_follows i l (ok_or (piece_size k) PieceSize) _ _ st (λ m. deeper (Pieces l sec m 0 x y b) i st))
      act_follows (Begun sec n k x y b) l i st =
          let inner = in_turn sec n k x y st in
          after_follows i (block p r d b) (d (Pieces l sec n (k + 1) x y b)) (block p s e b) (e (Pieces l sec n (k + 1) x y b))
          inner (block_follows b i inner) (deeper (Pieces l sec n (k + 1) x y b))
      act_follows (Call f es ss) l i st =
          value_follows i l (numbers_at st es) _ _ st (λ vs.
          environment_follows (entry vs (map (window_at st) ss)) (d (Block (procedure_of p f).body))
          (e (Block (procedure_of p f).body)) (deeper (Block (procedure_of p f).body)) i st)
      act_follows (Async b) l i st = view.begin l b i st
      act_follows (Finish b) l i st = view.finish l (block p r d b) (block p s e b) (block_follows b) i st
      act_follows (Rescue b x c) l i st =
          rescue_follows i x (block p r d c) (block p s e c) st (r.leave st (block p r d b (r.enter l st)))
          (s.leave (viewed v i st) (block p s e b (s.enter l (viewed v i st))))
          (view.finish l (block p r d b) (block p s e b) (block_follows b) i st) (view.earlier i l (block p r d b) st)
          (block_follows c)

      block_follows : (b : Codes) → Follows v Lost (block p r d b) (block p s e b)
      block_follows End i st = inr refl
      block_follows (Then l c rest) i st =
          after_follows i (with_step (λ st. act p r d l c (counted r l c st))) (block p r d rest)
          (with_step (λ st. act p s e l c (counted s l c st))) (block p s e rest) st
          (step_follows d e l c (act_follows c l) i st) (block_follows rest)

    -- if what is deeper follows, the whole does, too
    pub work_follows : (w : Work) → Follows v Lost (work p r d w) (work p s e w)
    work_follows (Block b) i st = block_follows b i st
    work_follows (Turn l t b) i st = step_follows d e l (While t b) (act_follows (While t b) l) i st
    work_follows (Pieces l sec n k x y b) i st =
        let c = Begun sec n k x y b in
        choose_follows i (has_piece (window_at st sec) n k) (with_step (λ st. act p r d l c (counted r l c st))) (λ st. st)
        (with_step (λ st. act p s e l c (counted s l c st))) (λ st. st) st (step_follows d e l c (act_follows c l) i st) (inr refl)

  pub within_follows : (k : ℕ) (w : Work) → Follows v Lost (within p r k w) (within p s k w)
  within_follows zero w i st = inr refl
  within_follows (suc k) w i st = work_follows (within p r k) (within p s k) (within_follows k) w i st

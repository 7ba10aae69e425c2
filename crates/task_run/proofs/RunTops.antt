-- The top frame of a run, and what its statement may touch.
use Rattle.std.proofs.Common.{◌≡◌, ℕ, zero, suc, ◌+◌, ◌<◌, List, [], ◌∷◌, ◌++◌, length, Ok, refl, sym, ap, ◌∙◌, subst, arith}
use Rattle.std.proofs.Common.{Global, Vec, take}
use Rattle.std.proofs.Math.Nat.{ℕ_set}
use Rattle.std.proofs.lemmas.List.{length-append, set-get_or}
use Rattle.std.proofs.lemmas.Option.{same_Some, slice_get-get_or}
use Rattle.std.specs.Prelude.{ℤ, Bool, slice_index_or, slice_set}
use Rattle.std.specs.Vec.{with_item}
use Rattle.types.proofs.Bindings.{element_in}
use Rattle.sections.specs.Member.{first}
use Rattle.sections.specs.Place.{Place, In}
use Rattle.types.specs.Code.{Code, Codes, Then, Number, Program, Primitive, Skip, Assign, Store, Print, Raise, Do, If, While, Split, Parts, Begun, Call, Async, Finish, Rescue}
use Rattle.types.specs.Run.{State}
use Rattle.types.specs.Translation.{program}
use Rattle.effects.specs.Needs.{Needs}
use Rattle.statement_steps.specs.Primitive.{target}
use Rattle.statement_steps.proofs.BoundsLemmas.{target_of}
use Rattle.task_run.specs.Frames.{Frame, Rest}
use Rattle.task_run.specs.Holds.{HasOwn}
use Rattle.task_run.specs.OwnRun.{Own}
use Rattle.task_run.specs.Reached.{HasNext}
use Rattle.task_run.specs.RunTurns.{CanAct, KnowsFirst}
use Rattle.task_run.specs.Standings.{ShowsFrame, Stacked, state_of, with_own}
use Rattle.task_run.specs.Translation.{owned_by}
use Rattle.task_run.specs.declared.frame.TaskFrame.{TaskFrame as rFrame}
use Rattle.task_run.specs.declared.run.Run.{Run}
use Rattle.task_run.proofs.Lists.{same_end}

-- ---- the top frame

-- a fact about all frames that a run may have, if the top one was taken off
pub on_top : (gs hs : List rFrame) (g : rFrame) (fs : List (Frame Own)) → gs ≡ hs ++ g ∷ [] → Stacked gs fs
    → (P : List (Frame Own) → Type 0) → ((f : Frame Own) (below : List (Frame Own)) → ShowsFrame g f → Stacked hs below → P (f ∷ below))
    → P fs
on_top gs hs g [] e stacked P h =
    let long : 0 ≡ length (hs ++ g ∷ []) = ap length (sym stacked ∙ e) in
    absurd (omega (arith, long, length-append hs (g ∷ [])))
on_top gs hs g (f ∷ fs) e stacked P h =
    let same = same_end stacked.0 hs stacked.1 g (sym stacked.2 ∙ e) in
    h f fs (subst (λ (t : rFrame). ShowsFrame t f) same.last stacked.3) (subst (λ (l : List rFrame). Stacked l fs) same.front stacked.4)

-- no frame is left
pub none_stacked : (gs : List rFrame) (fs : List (Frame Own)) → gs ≡ [] → Stacked gs fs → fs ≡ []
none_stacked gs [] e stacked = refl
none_stacked gs (f ∷ fs) e stacked =
    let long : length (stacked.0 ++ stacked.1 ∷ []) ≡ 0 = ap length (sym stacked.2 ∙ e) in
    absurd (omega (arith, long, length-append stacked.0 (stacked.1 ∷ [])))

-- ---- a list by its last element

-- it ends in its last element
pub ends_in_last : {A : Type 0} (xs : List A) (x : A) (n : ℕ) → n + 1 ≡ length xs → x ≡ slice_index_or xs n x → xs ≡ take n xs ++ x ∷ []
ends_in_last [] x n count is = absurd (omega (arith, count))
ends_in_last (y ∷ []) x zero count is = ap (λ z. z ∷ []) (sym is)
ends_in_last (y ∷ z ∷ ys) x zero count is = absurd (omega (arith, count))
ends_in_last (y ∷ ys) x (suc n) count is = ap (λ l. y ∷ l) (ends_in_last ys x n (omega (arith, count)) is)

-- another element is last
pub ends_in_set : {A : Type 0} (xs : List A) (x : A) (n : ℕ) → n + 1 ≡ length xs → slice_set xs n x ≡ take n xs ++ x ∷ []
ends_in_set [] x n count = absurd (omega (arith, count))
ends_in_set (y ∷ []) x zero count = refl
ends_in_set (y ∷ z ∷ ys) x zero count = absurd (omega (arith, count))
ends_in_set (y ∷ ys) x (suc n) count = ap (λ l. y ∷ l) (ends_in_set ys x n (omega (arith, count)))

-- a vector is determined by its elements
vec_of_items : {A : Type 0} (v : Vec A Global) (xs : List A) → v.items ≡ xs → (ok : v.len ≡ length xs)
    → (record { ptr = v.ptr; len = v.len; cap = v.cap; alloc = v.alloc; items = xs; ok = (ok, v.ok.1); small = v.small }) ≡ v
vec_of_items {A} v xs e =
    subst (λ (xs : List A). (ok : v.len ≡ length xs)
    → (record { ptr = v.ptr; len = v.len; cap = v.cap; alloc = v.alloc; items = xs; ok = (ok, v.ok.1); small = v.small }) ≡ v)
    e
    (λ ok t. record {
      ptr = v.ptr;
      len = v.len;
      cap = v.cap;
      alloc = v.alloc;
      items = v.items;
      ok = (ℕ_set v.len (length v.items) ok v.ok.0 t, v.ok.1);
      small = v.small;
    })

-- replacing an element by itself changes nothing
pub with_own_item : {A : Type 0} (v : Vec A Global) (n : ℕ) (x : A) → x ≡ slice_index_or v.items n x → with_item v n x ≡ v
with_own_item v n x is = vec_of_items v (slice_set v.items n x) (sym (ap (slice_set v.items n) is ∙ set-get_or v.items n x)) _

-- ---- what a statement may touch

module _ (p : Program) where
  -- a store writes in the window of its section
  target_in : (st : State (Unit {0})) (s : ℕ) (i e : Number) (q : Place) (v : ℤ) → Ok (q, v) ≡ target p st s i e
      → In (st.environment.windows s) q
  target_in st s i e q v is =
      let element = target_of p st s i e q v is in element_in (st.environment.windows s) element.0 q (sym element.1)

module _ (needs : Codes → Needs) (IsAsync : ℕ → Codes → Type 0) (r : Run) (x : Own) (l : ℕ) (rest : Codes) (fs : List (Frame Own))
    (owned : x.owned ≡ owned_by r.thread.store.holdings) (hs : Vec rFrame Global) where
  abbrev st : State Own
  st = with_own x (state_of r.thread)

  can_store : (s : Primitive) → HasOwn st l (Do s) → CanAct needs IsAsync l (Do s) (record r { frames = hs })
  can_store Skip h = tt
  can_store (Assign y e) h = tt
  can_store (Store s i e) h = λ q v is.
      ap (λ (o : Place → Bool). o q) (sym owned)
      ∙ (h _ first q (target_in (program r.plan.program.now) (state_of r.thread) s i e q v is)).1 refl
  can_store (Print es) h = tt
  can_store (Raise e) h = tt

  -- the first statement of a block has all that it touches
  pub can_first : (c : Code) → HasNext needs st (Rest (Then l c rest) ∷ fs) → KnowsFirst IsAsync (Rest (Then l c rest) ∷ fs)
      → CanAct needs IsAsync l c (record r { frames = hs })
  can_first (Do s) h known = can_store s h.0
  can_first (If t b c) h known = tt
  can_first (While t b) h known = tt
  can_first (Split s e x y b) h known = tt
  can_first (Parts s e q i b) h known = tt
  can_first (Begun s n k q i b) h known = tt
  can_first (Call f es ss) h known = tt
  can_first (Async b) h known = (
    record {
      there = h.1.there;
      owned = λ q w. ap (λ (o : Place → Bool). o q) (sym owned) ∙ h.1.owned q w;
    },
    known,
  )
  can_first (Finish b) h known = tt
  can_first (Rescue b x c) h known = tt

-- if the top frame represents a given one
pub on_frame : (gs hs : List rFrame) (g t : rFrame) (fs : List (Frame Own)) → gs ≡ hs ++ g ∷ [] → g ≡ t → Stacked gs fs
    → (P : List (Frame Own) → Type 0) → ((f : Frame Own) (below : List (Frame Own)) → ShowsFrame t f → Stacked hs below → P (f ∷ below))
    → P fs
on_frame gs hs g t fs e is stacked P h =
    on_top gs hs g fs e stacked P (λ f below shows rest. h f below (subst (λ (u : rFrame). ShowsFrame u f) is shows) rest)

-- if it is this one
pub on_this : (gs hs : List rFrame) (g t : rFrame) (to : Frame Own) (fs : List (Frame Own)) → gs ≡ hs ++ g ∷ [] → g ≡ t
    → ((f : Frame Own) → ShowsFrame t f → f ≡ to) → Stacked gs fs
    → (P : List (Frame Own) → Type 0) → ((below : List (Frame Own)) → Stacked hs below → P (to ∷ below)) → P fs
on_this gs hs g t to fs e is only stacked P h =
    on_frame gs hs g t fs e is stacked P
    (λ f below shows rest. subst (λ (f : Frame Own). P (f ∷ below)) (sym (only f shows)) (h below rest))

-- a list has one element at each position
pub one_there : {A : Type 0} (xs : List A) (k : ℕ) (x y : A) → k < length xs → x ≡ slice_index_or xs k x → slice_index_or xs k y ≡ y
    → x ≡ y
one_there xs k x y lt is at = is ∙ same_Some _ _ (sym (slice_get-get_or xs k x lt) ∙ slice_get-get_or xs k y lt) ∙ at

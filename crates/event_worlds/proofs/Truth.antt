-- With receipts of own runs, a task does what its own run does, as far as the receipts go.
use Rattle.std.proofs.Common.{◌≡◌, ℕ, zero, suc, ◌+◌, List, [], ◌∷◌, ◌++◌, Option, Some, None, Ok, Err, refl, sym, ap}
use Rattle.std.proofs.Common.{◌∙◌, subst, inl, inr, append_assoc}
use Rattle.std.proofs.lemmas.List.{append-nil}
use Rattle.std.specs.Prelude.{◌⊎◌, Bool, true, false, map, ok_or, slice_get, if◌then◌else◌}
use Rattle.std.proofs.lemmas.Option.{none-some, same_Some}
use Rattle.std.proofs.lemmas.Bool.{and_parts}
use Rattle.shared_lemmas.proofs.Truths.{false_true}
use Rattle.sections.specs.Place.{has_piece, sides_of}
use Rattle.types.specs.declared.fault.FaultKind.TheVariants.{SplitPoint, PieceSize}
use Rattle.types.specs.Code.{Code, Do, If, While, Split, Parts, Begun, Call, Async, Finish, Rescue, Codes, End, Then}
use Rattle.types.specs.Code.{Program}
use Rattle.types.specs.Value.{Environment, Valued}
use Rattle.types.specs.Run.{Flow, On, Faulted, Stopped, Fault, State, Work, Block, Turn, Pieces, Rules, stopped}
use Rattle.types.specs.Run.{at_flow, go_on, spend, with_step, fault, with_value, choose, caught, rescued, rescued_by}
use Rattle.types.specs.Run.{number_at, numbers_at, truth_at, window_at, entry, with_sides, in_turn, piece_size}
use Rattle.types.specs.Run.{procedure_of, primitive, counted, act, block, work, within}
use Rattle.types.proofs.Keeps.{primitive_keeps, counted_keeps}
use Rattle.effects.specs.Needs.{Needs}
use Rattle.task_run.specs.Apart.{is_stopped}
use Rattle.task_run.specs.Results.{TaskResult, Settled}
use Rattle.task_run.specs.Settling.{settle}
use Rattle.task_run.specs.Lists.{Each}
use Rattle.task_run.specs.OwnRun.{Start, Action, EndFinish, Own, at_first, notes, is_waiting, result_of, leave_with}
use Rattle.task_run.specs.OwnRun.{own_rules, begun_by, beginning, from_receipts, run_by}
use Rattle.task_run.specs.Given.{in_truth, own, IsOwn}
use Rattle.task_run.specs.Frames.{IsBegun, HasBegun, IsGivenChild}
use Rattle.task_run.proofs.Begun.{begun_by-append, Tells, tells, begin_tells, enter_tells}
use Rattle.task_run.proofs.Begun.{at_first_fine, idle_tells}
use Rattle.task_run.proofs.Lists.{each_more}
use Rattle.task_run.proofs.SettledResults.{gives, IsGiven, begun_is_true, each_made, part_sound}
use Rattle.shared_lemmas.proofs.Lists.{get-append_left}

pub record Prefix {A : Type 0} (xs zs : List A) : Type 0 where
  pub rest : List A
  pub is : zs ≡ xs ++ rest

pub each_get : {A : Type 0} (P : A → Type 0) (xs : List A) (k : ℕ) (x : A) → Each P xs → slice_get xs k ≡ Some x → P x
each_get P [] k x h e = absurd (none-some _ e)
each_get P (y ∷ xs) zero x h e = subst P (same_Some _ _ e) h.0
each_get P (y ∷ xs) (suc k) x h e = each_get P xs k x h.1 e

-- one run waits, and the other has done at least as much
pub record Behind (a b : State Own) : Type 0 where
  pub waits : is_waiting a ≡ true
  pub prefix : Prefix a.extra.actions b.extra.actions

abbrev pub Rel : State Own → State Own → Type 0
Rel a b = (a ≡ b) ⊎ Behind a b

module _ (p : Program) (needs : Codes → Needs) (fresh : ℕ) (root s : Start) (is : IsGiven p needs fresh root s) (receipts : List (List TaskResult)) (all : Each (Each (IsOwn p needs fresh root)) receipts) where
  abbrev Z : List Action
  Z = (own p needs fresh s).extra.actions

  abbrev r1 : Rules Own
  r1 = own_rules needs s.nest (from_receipts receipts)

  abbrev r2 : Rules Own
  r2 = own_rules needs s.nest (in_truth p needs fresh)

  abbrev T : State Own → State Own → Type 0
  T = Tells s.nest

  record Good (st : State Own) : Type 0 where
    fine : HasBegun s.nest st
    path : st.path ≡ s.path

  record Moves (st a b : State Own) : Type 0 where
    tells : T st b
    rel : Good st → Prefix b.extra.actions Z → Rel a b

  abbrev Follow : (State Own → State Own) → (State Own → State Own) → Type 0
  Follow f g = (st : State Own) → Moves st (f st) (g st)

  good : (st to : State Own) → T st to → Good st → Good to
  good st to t g = record { fine = t.fine g.fine; path = t.path ∙ g.path }

  shorter : (st to : State Own) → T st to → Prefix to.extra.actions Z → Prefix st.extra.actions Z
  shorter st to t h = record { rest = t.done ++ h.rest; is = h.is ∙ ap (λ l. l ++ h.rest) t.more ∙ append_assoc st.extra.actions t.done h.rest }

  -- the run that is ahead continues
  goes_on : (a b to : State Own) → Behind a b → T b to → Behind a to
  goes_on a b to h t = record {
    waits = h.waits;
    prefix = record { rest = h.prefix.rest ++ t.done; is = t.more ∙ ap (λ l. l ++ t.done) h.prefix.is ∙ append_assoc a.extra.actions h.prefix.rest t.done };
  }

  both : (st to : State Own) → T st to → Moves st to to
  both st to t = record { tells = t; rel = λ g h. inl refl }

  idle : (st to : State Own) → to.path ≡ st.path → to.spawned ≡ st.spawned → to.extra ≡ st.extra → Moves st to to
  idle st to a b c = both st to (idle_tells s.nest st to a b c)

  first : (st mid a b : State Own) → T st mid → Moves mid a b → Moves st a b
  first st mid a b t h = record { tells = (tells s.nest needs (in_truth p needs fresh)).further st mid b t h.tells; rel = λ g k. h.rel (good st mid t g) k }

  flow_moves : (w : Flow) (st : State Own) (f g : State Own → State Own) → Follow f g → Moves st (at_flow w st f) (at_flow w st g)
  flow_moves On st f g h = h st
  flow_moves Faulted st f g h = idle st st refl refl refl
  flow_moves Stopped st f g h = idle st st refl refl refl

  -- a waiting run does nothing more
  stays : (a : State Own) (f : State Own → State Own) → is_waiting a ≡ true → go_on f a ≡ a
  stays a f h = by_flow a.flow (and_parts (is_stopped a.flow) a.extra.waits h).0
    where
      by_flow : (w : Flow) → is_stopped w ≡ true → at_flow w a f ≡ a
      by_flow On e = absurd (false_true e)
      by_flow Faulted e = refl
      by_flow Stopped e = refl

  then_moves : (st a b : State Own) (f g : State Own → State Own) → Moves st a b → Follow f g → Moves st (go_on f a) (go_on g b)
  then_moves st a b f g h k =
      let n = flow_moves b.flow b f g k in
      record {
        tells = (tells s.nest needs (in_truth p needs fresh)).further st b (go_on g b) h.tells n.tells;
        rel = λ d e. by_rel n d e (h.rel d (shorter b (go_on g b) n.tells e));
      }
    where
      by_rel : Moves b (go_on f b) (go_on g b) → Good st → Prefix (go_on g b).extra.actions Z → Rel a b → Rel (go_on f a) (go_on g b)
      by_rel n d e (inl i) = subst (λ x. Rel (go_on f x) (go_on g b)) (sym i) (n.rel (good st b h.tells d) e)
      by_rel n d e (inr i) = inr (subst (λ x. Behind x (go_on g b)) (sym (stays a f i.waits)) (goes_on a b (go_on g b) i n.tells))

  spend_moves : (n : ℕ) (st : State Own) (f g : State Own → State Own) → Follow f g → Moves st (spend n st f) (spend n st g)
  spend_moves zero st f g h = idle st (stopped st) refl refl refl
  spend_moves (suc n) st f g h =
      let paid = record st { steps = n } in first st paid (f paid) (g paid) (idle_tells s.nest st paid refl refl refl) (h paid)

  value_moves : {A : Type 0} (l : ℕ) (v : Valued A) (f g : A → State Own → State Own) (st : State Own) → ((x : A) → Moves st (f x st) (g x st)) → Moves st (with_value l v f st) (with_value l v g st)
  value_moves l (Ok x) f g st h = h x
  value_moves l (Err k) f g st h = idle st (fault l k st) refl refl refl

  choose_moves : (x : Bool) (f f' g g' : State Own → State Own) (st : State Own) → Moves st (f st) (g st) → Moves st (f' st) (g' st) → Moves st (choose f f' x st) (choose g g' x st)
  choose_moves true f f' g g' st h k = h
  choose_moves false f f' g g' st h k = k

  -- back in its caller's environment
  back : (env : Environment) (st a b : State Own) → Moves st a b → Moves st (record a { environment = env }) (record b { environment = env })
  back env st a b h =
      let t = idle_tells s.nest b (record b { environment = env }) refl refl refl in
      record {
        tells = (tells s.nest needs (in_truth p needs fresh)).further st b (record b { environment = env }) h.tells t;
        rel = λ d e. by_rel (h.rel d e);
      }
    where
      by_rel : Rel a b → Rel (record a { environment = env }) (record b { environment = env })
      by_rel (inl i) = inl (ap {B = State Own} (λ x. record x { environment = env }) i)
      by_rel (inr i) = inr (record { waits = i.waits; prefix = i.prefix })

  -- ---- the end of a finish
  leave_grows : (st b : State Own) → Prefix b.extra.actions (r2.leave st b).extra.actions
  leave_grows st b = by_waiting (is_waiting b)
    where
      by_waiting : (x : Bool) → Prefix b.extra.actions (if x then b else leave_with st (record b { extra = notes EndFinish b.extra }) (in_truth p needs fresh b)).extra.actions
      by_waiting true = record { rest = []; is = sym (append-nil b.extra.actions) }
      by_waiting false = record { rest = EndFinish ∷ []; is = refl }

  closes : (b : State Own) (x : Settled) → Good b → Prefix b.extra.actions Z → from_receipts receipts b ≡ Some x → in_truth p needs fresh b ≡ Some x
  closes b x g h e =
      let k = gives (slice_get receipts b.extra.ended) (settle (result_of b)) x e in
      let rs = each_get (Each (IsOwn p needs fresh root)) receipts b.extra.ended k.one all k.first in
      let true_ones = each_more (IsBegun s.nest b) (IsGivenChild p needs fresh root) b.extra.pending (λ c i. begun_is_true p needs fresh root s is b c g.path more i) g.fine.begun in
      ap Some (sym (part_sound p needs fresh root b.extra.pending true_ones (result_of b) refl k.one (each_made p needs fresh root k.one rs) x k.next))
    where
      more : (n : ℕ) (t : Start) → slice_get (begun_by b.extra.actions) n ≡ Some t → slice_get (begun_by Z) n ≡ Some t
      more n t f =
          ap (λ l. slice_get (begun_by l) n) h.is ∙ ap (λ l. slice_get l n) (begun_by-append b.extra.actions h.rest)
          ∙ get-append_left (begun_by b.extra.actions) (begun_by h.rest) n t f

  finish_moves : (l : ℕ) (st a b : State Own) → Moves (r1.enter l st) a b → Moves st (r1.leave st a) (r2.leave st b)
  finish_moves l st a b h = record {
    tells = (tells s.nest needs (in_truth p needs fresh)).finish l st b h.tells;
    rel = λ d e. by_rel (good st (r1.enter l st) (enter_tells s.nest needs (in_truth p needs fresh) l st) d) (before e) (h.rel (good st (r1.enter l st) (enter_tells s.nest needs (in_truth p needs fresh) l st) d) (before e));
  }
    where
      before : Prefix (r2.leave st b).extra.actions Z → Prefix b.extra.actions Z
      before e = let g = leave_grows st b in record { rest = g.rest ++ e.rest; is = e.is ∙ ap (λ l. l ++ e.rest) g.is ∙ append_assoc b.extra.actions g.rest e.rest }

      by_close : Good b → Prefix b.extra.actions Z → (o : Option Settled) → from_receipts receipts b ≡ o
          → Rel (leave_with st (record b { extra = notes EndFinish b.extra }) o) (leave_with st (record b { extra = notes EndFinish b.extra }) (in_truth p needs fresh b))
      by_close g e None f = inr (record { waits = refl; prefix = record { rest = []; is = sym (append-nil _) } })
      by_close g e (Some x) f = inl (ap (leave_with st (record b { extra = notes EndFinish b.extra })) (sym (closes b x g e f)))

      by_waiting : Good b → Prefix b.extra.actions Z → (x : Bool)
          → Rel (if x then b else leave_with st (record b { extra = notes EndFinish b.extra }) (from_receipts receipts b)) (if x then b else leave_with st (record b { extra = notes EndFinish b.extra }) (in_truth p needs fresh b))
      by_waiting g e true = inl refl
      by_waiting g e false = by_close g e (from_receipts receipts b) refl

      by_rel : Good (r1.enter l st) → Prefix b.extra.actions Z → Rel a b → Rel (r1.leave st a) (r2.leave st b)
      by_rel g e (inl i) = subst (λ x. Rel (r1.leave st x) (r2.leave st b)) (sym i) (by_waiting (good (r1.enter l st) b h.tells g) e (is_waiting b))
      by_rel g e (inr i) =
          let still : r1.leave st a ≡ a = ap (λ (x : Bool). if x then a else leave_with st (record a { extra = notes EndFinish a.extra }) (from_receipts receipts a)) i.waits in
          let g = leave_grows st b in
          inr (subst (λ x. Behind x (r2.leave st b)) (sym still) (record {
            waits = i.waits;
            prefix = record { rest = i.prefix.rest ++ g.rest; is = g.is ∙ ap (λ l. l ++ g.rest) i.prefix.is ∙ append_assoc a.extra.actions i.prefix.rest g.rest };
          }))

  -- ---- the handler of a finish
  flow_rescues : (w : Flow) (x : ℕ) (fs : List Fault) (st : State Own) (f g : State Own → State Own) → Follow f g
      → Moves st (rescued_by w x f fs st) (rescued_by w x g fs st)
  flow_rescues On x fs st f g h = idle st st refl refl refl
  flow_rescues Faulted x fs st f g h =
      let to = caught x fs st in first st to (f to) (g to) (idle_tells s.nest st to refl refl refl) (h to)
  flow_rescues Stopped x fs st f g h = idle st st refl refl refl

  -- a waiting run handles nothing
  stays_off : (a : State Own) (x : ℕ) (fs : List Fault) (f : State Own → State Own) → is_waiting a ≡ true → rescued x f fs a ≡ a
  stays_off a x fs f h = by_flow a.flow (and_parts (is_stopped a.flow) a.extra.waits h).0
    where
      by_flow : (w : Flow) → is_stopped w ≡ true → rescued_by w x f fs a ≡ a
      by_flow On e = absurd (false_true e)
      by_flow Faulted e = absurd (false_true e)
      by_flow Stopped e = refl

  rescue_moves : (x : ℕ) (fs : List Fault) (st a b : State Own) (f g : State Own → State Own) → Moves st a b → Follow f g
      → Moves st (rescued x f fs a) (rescued x g fs b)
  rescue_moves x fs st a b f g h k =
      let n = flow_rescues b.flow x fs b f g k in
      record {
        tells = (tells s.nest needs (in_truth p needs fresh)).further st b (rescued x g fs b) h.tells n.tells;
        rel = λ d e. by_rel n d e (h.rel d (shorter b (rescued x g fs b) n.tells e));
      }
    where
      by_rel : Moves b (rescued x f fs b) (rescued x g fs b) → Good st → Prefix (rescued x g fs b).extra.actions Z → Rel a b
          → Rel (rescued x f fs a) (rescued x g fs b)
      by_rel n d e (inl i) = subst (λ v. Rel (rescued x f fs v) (rescued x g fs b)) (sym i) (n.rel (good st b h.tells d) e)
      by_rel n d e (inr i) =
          inr (subst (λ v. Behind v (rescued x g fs b)) (sym (stays_off a x fs f i.waits)) (goes_on a b (rescued x g fs b) i n.tells))

  -- ---- statements
  counted_same : (l : ℕ) (c : Code) (st : State Own) → counted r1 l c st ≡ counted r2 l c st
  counted_same l (Do x) st = refl
  counted_same l c st = refl

  module _ (d1 d2 : Work → State Own → State Own) (h : (w : Work) → Follow (d1 w) (d2 w)) where
    step_moves : (l : ℕ) (c : Code) → Follow (act p r1 d1 l c) (act p r2 d2 l c) → Follow (with_step (λ st. act p r1 d1 l c (counted r1 l c st))) (with_step (λ st. act p r2 d2 l c (counted r2 l c st)))
    step_moves l c k st =
        spend_moves st.steps st (λ st. act p r1 d1 l c (counted r1 l c st)) (λ st. act p r2 d2 l c (counted r2 l c st)) (λ st.
        subst (λ x. Moves st (act p r1 d1 l c x) (act p r2 d2 l c (counted r2 l c st))) (sym (counted_same l c st))
        (first st (counted r2 l c st) (act p r1 d1 l c (counted r2 l c st)) (act p r2 d2 l c (counted r2 l c st)) (counted_keeps p r2 T (tells s.nest needs (in_truth p needs fresh)) l c st) (k (counted r2 l c st))))

    mutual
      act_moves : (c : Code) (l : ℕ) → Follow (act p r1 d1 l c) (act p r2 d2 l c)
      act_moves (Do x) l st = both st (primitive p l x st) (primitive_keeps p r2 T (tells s.nest needs (in_truth p needs fresh)) l x st)
      act_moves (If t b c) l st =
          value_moves l (truth_at st t) _ _ st (λ v. choose_moves v (block p r1 d1 b) (block p r1 d1 c) (block p r2 d2 b) (block p r2 d2 c) st (block_moves b st) (block_moves c st))
      act_moves (While t b) l st =
          value_moves l (truth_at st t) _ _ st (λ v. choose_moves v (λ s. go_on (d1 (Turn l t b)) (block p r1 d1 b s)) (λ s. s) (λ s. go_on (d2 (Turn l t b)) (block p r2 d2 b s)) (λ s. s) st
          (then_moves st (block p r1 d1 b st) (block p r2 d2 b st) (d1 (Turn l t b)) (d2 (Turn l t b)) (block_moves b st) (h (Turn l t b))) (idle st st refl refl refl))
      act_moves (Split x e y z b) l st =
          value_moves l (number_at st e) _ _ st (λ v. value_moves l (ok_or (sides_of (window_at st x) v) SplitPoint) _ _ st (λ ws.
          let inner = record st { environment = with_sides y z ws st.environment } in
          first st inner (block p r1 d1 b inner) (block p r2 d2 b inner) (idle_tells s.nest st inner refl refl refl) (block_moves b inner)))
      act_moves (Parts x e q i b) l st =
          value_moves l (number_at st e) _ _ st (λ v. value_moves l (ok_or (piece_size v) PieceSize) _ _ st (λ n.
          h (Pieces l x n 0 q i b) st))
      act_moves (Begun x n k q i b) l st =
          let inner = in_turn x n k q i st in
          let w : Work = Pieces l x n (k + 1) q i b in
          first st inner (go_on (d1 w) (block p r1 d1 b inner)) (go_on (d2 w) (block p r2 d2 b inner)) (idle_tells s.nest st inner refl refl refl)
          (then_moves inner (block p r1 d1 b inner) (block p r2 d2 b inner) (d1 w) (d2 w) (block_moves b inner) (h w))
      act_moves (Call f es ss) l st =
          value_moves l (numbers_at st es) _ _ st (λ vs.
          let inner = record st { environment = entry vs (map (window_at st) ss) } in
          let w = Block (procedure_of p f).body in
          back st.environment st (d1 w inner) (d2 w inner) (first st inner (d1 w inner) (d2 w inner) (idle_tells s.nest st inner refl refl refl) (h w inner)))
      act_moves (Async b) l st = both st (r2.begin l b st) (begin_tells s.nest needs (in_truth p needs fresh) s.nest refl b st)
      act_moves (Finish b) l st = finish_moves l st (block p r1 d1 b (r1.enter l st)) (block p r2 d2 b (r2.enter l st)) (block_moves b (r1.enter l st))
      act_moves (Rescue b x c) l st =
          rescue_moves x st.faults st (r1.leave st (block p r1 d1 b (r1.enter l st))) (r2.leave st (block p r2 d2 b (r2.enter l st)))
          (block p r1 d1 c) (block p r2 d2 c)
          (finish_moves l st (block p r1 d1 b (r1.enter l st)) (block p r2 d2 b (r2.enter l st)) (block_moves b (r1.enter l st)))
          (block_moves c)

      block_moves : (b : Codes) → Follow (block p r1 d1 b) (block p r2 d2 b)
      block_moves End st = idle st st refl refl refl
      block_moves (Then l c rest) st =
          then_moves st _ _ (block p r1 d1 rest) (block p r2 d2 rest) (step_moves l c (act_moves c l) st) (block_moves rest)

    work_moves : (w : Work) → Follow (work p r1 d1 w) (work p r2 d2 w)
    work_moves (Block b) st = block_moves b st
    work_moves (Turn l t b) st = step_moves l (While t b) (act_moves (While t b) l) st
    work_moves (Pieces l x n k q i b) st =
        let c : Code = Begun x n k q i b in
        choose_moves (has_piece (window_at st x) n k) (with_step (λ st. act p r1 d1 l c (counted r1 l c st))) (λ s. s)
        (with_step (λ st. act p r2 d2 l c (counted r2 l c st))) (λ s. s) st
        (step_moves l c (act_moves c l) st)
        (idle st st refl refl refl)

  within_moves : (k : ℕ) (w : Work) → Follow (within p r1 k w) (within p r2 k w)
  within_moves zero w st = idle st (stopped st) refl refl refl
  within_moves (suc k) w st = work_moves (within p r1 k) (within p r2 k) (within_moves k) w st

  -- the run by receipts is the own run, or it waits and has done a part of it
  pub run_in_truth : Rel (run_by p needs fresh receipts s) (own p needs fresh s)
  run_in_truth =
      (within_moves (fresh + 1) (Block s.body) (beginning (at_first s.owned) fresh s)).rel
      (record { fine = at_first_fine s.nest needs (in_truth p needs fresh) fresh s; path = refl })
      (record { rest = []; is = sym (append-nil Z) })

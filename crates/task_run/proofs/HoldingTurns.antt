-- From its start to its end a task has all that it touches.
use Rattle.std.proofs.Common.{◌≡◌, ℕ, zero, suc, ◌+◌, ◌<◌, List, [], ◌∷◌, ◌++◌, length, Option, Some, refl, sym, ap}
use Rattle.std.proofs.Common.{◌∙◌, subst, inl, inr, arith}
use Rattle.std.proofs.lemmas.Bool.{or_left, or_right, false_from_ne_true, or_cases}
use Rattle.std.specs.Prelude.{ℤ, ◌⊎◌, Bool, true, false, ◌||◌, slice_get, slice_index_or, if◌then◌else◌}
use Rattle.sections.proofs.Covering.{is_in-from}
use Rattle.shared_lemmas.proofs.Truths.{false_true}
use Rattle.sections.specs.Covers.{has, is_in}
use Rattle.sections.specs.Place.{Window, Place, In, has_piece, nowhere}
use Rattle.types.specs.Code.{Truth, Code, While, Begun, Async, Codes, End, Then, Array, Program}
use Rattle.types.specs.Contents.{FitsArrays, also, IsThere}
use Rattle.types.specs.Value.{Environment}
use Rattle.types.specs.Run.{Flow, On, Faulted, Stopped, State, Rules, stopped, counted, caught, entry, window_at}
use Rattle.types.specs.Sound.{IsText, IsTextOf}
use Rattle.types.specs.Outcome.{whole_arrays}
use Rattle.effects.specs.Accesses.{Access}
use Rattle.effects.specs.Effects.{AllOf, All, Pending, accesses}
use Rattle.effects.specs.Needs.{Needs, Provides}
use Rattle.effects.proofs.Members.{in_parts}
use Rattle.race_checker.specs.Scope.{Scope, Top, InScope, arrays_of, IsScoped}
use Rattle.race_checker.specs.Calm.{IsCalm}
use Rattle.task_run.specs.Results.{TaskResult, Settled, none_yet, complete}
use Rattle.task_run.specs.OwnRun.{Action, Start, Own, Step, at_first, result_of, back_from, own_rules}
use Rattle.task_run.specs.OwnRun.{beginning}
use Rattle.task_run.specs.Given.{filled, root_of}
use Rattle.task_run.specs.InPlace.{IsMade}
use Rattle.task_run.specs.Frames.{Frame, Rest, Again, Further, AtEnd, OnFault, Back, Standing, handled, paid, by_flow}
use Rattle.task_run.specs.Frames.{turn}
use Rattle.task_run.specs.Frames.{handed, IsTask}
use Rattle.task_run.specs.Holds.{having, locked_after, HasText, Remains, Stack, MayBegin, Carries, Returns, Holds, HasOwn, HasNeeds}
use Rattle.task_run.specs.Settling.{settle, Parted}
use Rattle.task_run.specs.Lists.{Each}
use Rattle.types.proofs.Counted.{counted_is}
use Rattle.task_run.proofs.Lists.{each_more}
use Rattle.task_run.proofs.Windows.{named_some, not_nowhere}
use Rattle.task_run.proofs.AccessNames.{named_all, overwrites_more}
use Rattle.task_run.proofs.ApartOutcome.{arrays_fit, array_here}
use Rattle.task_run.proofs.Simulation.{behind, first_ready, rest_ready}
use Rattle.task_run.proofs.Stacks.{anywhere, anchor, unlock, unlock_ready}
use Rattle.task_run.proofs.ComesBack.{back_there, there_left, there_right}
use Rattle.task_run.proofs.KeepingHold.{none, lists, parted_less, returns_move, Before, plain, relimit, acted_holds}
use Rattle.task_run.proofs.KeepingHold.{begun_holds, written_overwrites}
use Rattle.task_run.proofs.SettledResults.{part_sound}
use Rattle.task_run.proofs.TaskRuns.{lists_given}
use Rattle.task_run.proofs.TurnsToCome.{touching, writing, still_writing, turns_here, text_turns}

module _ (p : Program) (needs : Codes → Needs) (is_scoped : IsScoped p) (is_calm : IsCalm p) (provides : Provides p needs) where
  module _ (nest : ℕ) (close : State Own → Option Settled) where
    abbrev r : Rules Own
    r = own_rules needs nest close

    abbrev B : Scope → Environment → ℕ → Code → List (Frame Own) → State Own → Type 0
    B = Before p needs is_scoped is_calm provides nest close

    -- recorded actions and steps change nothing that is held
    with_actions : (sc : Scope) (env : Environment) (l : ℕ) (s : Code) (gs : List (Frame Own))
        (st : State Own) (k : ℕ) (acts : List Action) → B sc env l s gs st
        → B sc env l s gs (record st { steps = k; extra = record st.extra { actions = acts } })
    with_actions sc env l s gs st k acts h = record {
      known = h.known;
      ready = h.ready;
      lower = h.lower;
      texts = h.texts;
      carried = h.carried;
      parted = h.parted;
      returns = returns_move p needs st _ (record { there = λ q. inl; owned = λ q. inl; back = λ q. inr; no_more = λ q i. i }) gs h.returns;
    }

    counted_before : (s : Code) (sc : Scope) (env : Environment) (l : ℕ) (gs : List (Frame Own)) (st : State Own) (k : ℕ)
        → B sc env l s gs st
        → B sc env l s gs (counted r l s (record st { steps = k }))
    counted_before s sc env l gs st k h =
        counted_is r l (record st { steps = k }) (λ (to : State Own). B sc env l s gs to)
        (with_actions sc env l s gs st k st.extra.actions h)
        (with_actions sc env l s gs st k (st.extra.actions ++ Step ∷ []) h) s

    paid_holds : (k : ℕ) (s : Code) → IsTextOf s → (sc : Scope) (env : Environment) (l : ℕ) (gs : List (Frame Own)) (st : State Own)
        → B sc env l s gs st → Holds p needs (paid p r k l s gs st)
    paid_holds zero s text sc env l gs st h =
        plain p needs is_scoped is_calm provides nest close sc env l s gs st h (stopped st)
        (record { windows = λ s. refl; stores = λ q i. i; owned = refl; pending = refl })
    paid_holds (suc k) s text sc env l gs st h =
        acted_holds p needs is_scoped is_calm provides nest close s text sc env l gs (counted r l s (record st { steps = k }))
        (counted_before s sc env l gs st k h)

    paid_turn_holds : (k : ℕ) (sc : Scope) (env : Environment) (l s n j q i : ℕ) (b : Codes) (gs : List (Frame Own)) (st : State Own)
        → IsText b → B sc env l (Begun s n j q i b) gs st → has_piece (st.environment.windows s) n j ≡ true
        → Holds p needs (paid p r k l (Begun s n j q i b) gs st)
    paid_turn_holds zero sc env l s n j q i b gs st text h left =
        plain p needs is_scoped is_calm provides nest close sc env l (Begun s n j q i b) gs st h (stopped st)
        (record { windows = λ s. refl; stores = λ q i. i; owned = refl; pending = refl })
    paid_turn_holds (suc k) sc env l s n j q i b gs st text h left =
        begun_holds p needs is_scoped is_calm provides nest close sc env l s n j q i b gs
        (counted r l (Begun s n j q i b) (record st { steps = k })) text (counted_before (Begun s n j q i b) sc env l gs st k h) left

    -- the frames below
    below_holds : (f : ℕ → Window) (sc : Scope) (locked : Place → Type 0) (fs : List (Frame Own)) (st : State Own)
        → Stack p needs st.environment.windows (InScope sc) st.store st.extra.owned locked fs → Each HasText fs
        → Each (Carries p needs) st.extra.pending → Parted st.extra.owned (lists st.extra.pending) → Returns p needs st fs
        → Holds p needs (record { frames = fs; state = st })
    below_holds f sc locked fs st k t c d h = record {
      stack = relimit p needs is_scoped is_calm provides nest close st.environment.windows (InScope sc) st.store st.extra.owned none fs
          (unlock p needs st.environment.windows (InScope sc) st.store st.extra.owned locked none fs (λ q n. absurd n) k);
      texts = t;
      carried = c;
      parted = d;
      returns = h;
    }

    -- what the first statement of a block leaves locked the block leaves locked
    behind_final : (l : ℕ) (s : Code) (rest : Codes) (sc : Scope) (env : Environment) (st : State Own) (q : Place)
        → behind p needs (having sc env st.store st.extra.owned) none s q → locked_after p needs env none (Then l s rest) q
    behind_final l s rest sc env st q (inl n) = absurd n
    behind_final l s rest sc env st q (inr (inl i)) = inr (inl (overwrites_more env _ _ q (λ y k. Pending.here k) i))
    behind_final l s rest sc env st q (inr (inr i)) = inr (inr (turns_here env (still_writing p q) l s rest i))

    -- the first statement of a block is about to run
    before_first : (l : ℕ) (s : Code) (rest : Codes) (fs : List (Frame Own)) (st : State Own)
        (h : Holds p needs (record { frames = Rest (Then l s rest) ∷ fs; state = st }))
        → B h.stack.0 h.stack.1 l s (Rest rest ∷ fs) st
    before_first l s rest fs st h =
        let sc = h.stack.0 in
        let env = h.stack.1 in
        let left = h.stack.2 in
        let x = having sc env st.store st.extra.owned in
        let final = locked_after p needs env none (Then l s rest) in
        let mid = behind p needs x none s in
        let text : IsText (Then l s rest) = h.texts.0 in
        record {
          known = left.known;
          ready = first_ready p needs x none final l s rest left.ready;
          lower = (
            sc,
            env,
            record {
              inside = λ z i. i;
              known = left.known;
              ready = unlock_ready p needs st.store st.extra.owned sc env mid mid final rest (λ q j. j)
                  (rest_ready p needs x none final l s rest text left.ready);
            },
            unlock p needs st.environment.windows (InScope sc) st.store st.extra.owned final (locked_after p needs env mid rest) fs
                (λ q m. elim m as (λ _. final q) [
                  | inl j ↦ behind_final l s rest sc env st q j
                  | inr j ↦ elim j as (λ _. final q) [
                    | inl i ↦ inr (inl (overwrites_more env _ _ q (λ y k. Pending.later k) i))
                    | inr i ↦ absurd (text_turns env (still_writing p q) rest text.1 i)
                  ]
                ])
                h.stack.3,
          );
          texts = (text.1, h.texts.1);
          carried = h.carried;
          parted = h.parted;
          returns = h.returns;
        }

    -- a statement on its own is about to run: a condition is about to be evaluated again, or a turn begins
    before_single : (l : ℕ) (s : Code) (fs : List (Frame Own)) (st : State Own) (sc : Scope) (env : Environment)
        → Remains p needs st.environment.windows anywhere st.store st.extra.owned none (Then l s End) sc env
        → Stack p needs st.environment.windows (InScope sc) st.store st.extra.owned (locked_after p needs env none (Then l s End)) fs
        → Each HasText fs → Each (Carries p needs) st.extra.pending → Parted st.extra.owned (lists st.extra.pending)
        → Returns p needs st fs → B sc env l s fs st
    before_single l s fs st sc env left below texts carried parted returns =
        let x = having sc env st.store st.extra.owned in
        let final = locked_after p needs env none (Then l s End) in
        record {
          known = left.known;
          ready = first_ready p needs x none final l s End left.ready;
          lower = unlock p needs st.environment.windows (InScope sc) st.store st.extra.owned final (behind p needs x none s) fs
              (behind_final l s End sc env st) below;
          texts = texts;
          carried = carried;
          parted = parted;
          returns = returns;
        }

    before_again : (l : ℕ) (t : Truth) (b : Codes) (fs : List (Frame Own)) (st : State Own)
        (h : Holds p needs (record { frames = Again l t b ∷ fs; state = st }))
        → B h.stack.0 h.stack.1 l (While t b) fs st
    before_again l t b fs st h =
        before_single l (While t b) fs st h.stack.0 h.stack.1 h.stack.2 h.stack.3 h.texts.1 h.carried h.parted h.returns

    before_further : (l s n j q i : ℕ) (b : Codes) (fs : List (Frame Own)) (st : State Own)
        (h : Holds p needs (record { frames = Further l s n j q i b ∷ fs; state = st }))
        → B h.stack.0 h.stack.1 l (Begun s n j q i b) fs st
    before_further l s n j q i b fs st h =
        before_single l (Begun s n j q i b) fs st h.stack.0 h.stack.1 h.stack.2 h.stack.3 h.texts.1 h.carried h.parted h.returns

    flow_holds : (g : Flow) (s : Code) (l : ℕ) (gs fs : List (Frame Own)) (st : State Own) → Holds p needs (paid p r st.steps l s gs st)
        → Holds p needs (record { frames = fs; state = st }) → Holds p needs (by_flow p r g l s gs fs st)
    flow_holds On s l gs fs st h k = h
    flow_holds Faulted s l gs fs st h k = k
    flow_holds Stopped s l gs fs st h k = k

    -- after a turn a task still has all that it touches
    pub turn_holds : (f : Frame Own) (fs : List (Frame Own)) (st : State Own) → Holds p needs (record { frames = f ∷ fs; state = st })
        → Holds p needs (turn p r f fs st)
    turn_holds (Rest End) fs st h = below_holds st.environment.windows h.stack.0 _ fs st h.stack.3 h.texts.1 h.carried h.parted h.returns
    turn_holds (Rest (Then l s rest)) fs st h =
        flow_holds st.flow s l (Rest rest ∷ fs) fs st
        (paid_holds st.steps s h.texts.0.0 h.stack.0 h.stack.1 l (Rest rest ∷ fs) st (before_first l s rest fs st h))
        (below_holds st.environment.windows h.stack.0 _ fs st h.stack.3 h.texts.1 h.carried h.parted h.returns)
    turn_holds (Again l t b) fs st h =
        flow_holds st.flow (While t b) l fs fs st
        (paid_holds st.steps (While t b) h.texts.0 h.stack.0 h.stack.1 l fs st (before_again l t b fs st h))
        (below_holds st.environment.windows h.stack.0 _ fs st h.stack.3 h.texts.1 h.carried h.parted h.returns)
    turn_holds (Further l s n j q i b) fs st h = by (has_piece (window_at st s) n j) refl
      where
        c : Code
        c = Begun s n j q i b

        below : Holds p needs (record { frames = fs; state = st })
        below = below_holds st.environment.windows h.stack.0 _ fs st h.stack.3 h.texts.1 h.carried h.parted h.returns

        by : (left : Bool) → has_piece (window_at st s) n j ≡ left
            → Holds p needs (if◌then◌else◌ {A = Standing Own} left (by_flow p r st.flow l c fs fs st) (record { frames = fs; state = st }))
        by true left =
            flow_holds st.flow c l fs fs st
            (paid_turn_holds st.steps h.stack.0 h.stack.1 l s n j q i b fs st h.texts.0 (before_further l s n j q i b fs st h) left) below
        by false left = below
    turn_holds (AtEnd before) fs st h = h
    turn_holds (OnFault before x c) fs st h = by st.flow
      where
        below : Holds p needs (record { frames = fs; state = st })
        below = below_holds st.environment.windows h.stack.0 _ fs st h.stack.3 h.texts.1 h.carried h.parted h.returns

        by : (f : Flow) → Holds p needs (handled f before x c fs st)
        by On = below
        by Faulted = record {
          stack = h.stack;
          texts = h.texts;
          carried = h.carried;
          parted = h.parted;
          returns = returns_move p needs st (caught x before st)
              (record { there = λ q. inl; owned = λ q. inl; back = λ q. inr; no_more = λ q i. i }) fs h.returns;
        }
        by Stopped = below
    turn_holds (Back env) fs st h = record {
      stack = h.stack;
      texts = h.texts.1;
      carried = h.carried;
      parted = h.parted;
      returns = returns_move p needs st _ (record { there = λ q. inl; owned = λ q. inl; back = λ q. inr; no_more = λ q i. i }) fs h.returns;
    }

    -- ---- what a statement has before it runs
    has_own : (sc : Scope) (env : Environment) (l : ℕ) (s : Code) (gs : List (Frame Own)) (st : State Own) → B sc env l s gs st
        → HasOwn st l s
    has_own sc env l s gs st h y m q i =
        let place : In (env.windows y.section) q = subst (λ w. In w q) (h.known y.section (h.ready.names y m)) i in (
          h.ready.held q (record { access = y; among = AllOf.own_access m; place = place }),
          λ w. h.ready.wrote q (record { access = y; among = AllOf.own_access m; place = place; writes = w }),
        )

    pub first_has : (l : ℕ) (s : Code) (rest : Codes) (fs : List (Frame Own)) (st : State Own)
        → Holds p needs (record { frames = Rest (Then l s rest) ∷ fs; state = st }) → HasOwn st l s
    first_has l s rest fs st h = has_own h.stack.0 h.stack.1 l s (Rest rest ∷ fs) st (before_first l s rest fs st h)

    pub again_has : (l : ℕ) (t : Truth) (b : Codes) (fs : List (Frame Own)) (st : State Own)
        → Holds p needs (record { frames = Again l t b ∷ fs; state = st }) → HasOwn st l (While t b)
    again_has l t b fs st h = has_own h.stack.0 h.stack.1 l (While t b) fs st (before_again l t b fs st h)

    needs_held : (sc : Scope) (env : Environment) (l : ℕ) (b : Codes) (gs : List (Frame Own)) (st : State Own) → B sc env l (Async b) gs st
        → HasNeeds st (needs b)
    needs_held sc env l b gs st h =
        let a = h.ready.provided.0 in
        record {
          there = λ q t.
              let i = named_some st.environment ((needs b).writes ++ (needs b).reads) q t in
              elim (in_parts (needs b).writes i.listed) as (λ _. IsThere (st.store q)) [
                | inl c ↦ let m = a.are_written i.section c in by_access m.access m.among i.section m.names q i.place
                | inr c ↦ let m = a.are_read i.section c in by_access m.access m.among i.section m.names q i.place
              ];
          owned = λ q w. h.ready.wrote q
              (overwrites_more env _ _ q (λ y i. AllOf.async i)
              (written_overwrites p needs is_scoped is_calm provides nest close sc env l (Async b) gs st h b a h.ready.scoped q w));
        }
      where
        by_access : (y : Access) → All p accesses b y → (s : ℕ) → y.section ≡ s → (q : Place) → In (st.environment.windows s) q
            → IsThere (st.store q)
        by_access y m s e q i =
            h.ready.held q (record {
              access = y;
              among = AllOf.async m;
              place = subst (λ w. In w q)
                  (ap st.environment.windows (sym e) ∙ h.known y.section (named_all p is_scoped.procedures sc b y h.ready.scoped m)) i;
            })

    pub async_has : (l : ℕ) (b rest : Codes) (fs : List (Frame Own)) (st : State Own)
        → Holds p needs (record { frames = Rest (Then l (Async b) rest) ∷ fs; state = st }) → HasNeeds st (needs b)
    async_has l b rest fs st h = needs_held h.stack.0 h.stack.1 l b (Rest rest ∷ fs) st (before_first l (Async b) rest fs st h)

  -- ---- the end of a finish
  module _ (fresh : ℕ) where
    pub handed_true : (before : State Own) (fs : List (Frame Own)) (st : State Own)
        → Holds p needs (record { frames = AtEnd before ∷ fs; state = st }) → (x : Settled)
        → x ≡ complete (result_of st) (filled p needs fresh st.extra.pending none_yet)
        → Holds p needs (record { frames = fs; state = handed before x st })
    handed_true before fs st h x e = record {
      stack = anchor p needs before.store x.contents before.extra.owned to.extra.owned st.environment.windows anywhere none none fs
          (record { there = λ q n. there q; owned = λ q n. owned q; fewer_locks = λ q n. n }) h.stack;
      texts = h.texts.1;
      carried = h.returns.1;
      parted = parted_less before.extra.owned to.extra.owned before.extra.pending
          (λ q e. false_from_ne_true (to.extra.owned q) (λ k. false_true (sym e ∙ mine q k))) h.returns.2;
      returns = returns_move p needs before to (record {
        there = λ q i. inl (there q i);
        owned = λ q i. inl (owned q i);
        back = λ q. inr;
        no_more =
            λ q i. elim i as
            (λ _. (before.extra.owned q ≡ true) ⊎ (back_from before.extra.pending q ≡ true)) [ inl k ↦ inl (mine q k) | inr k ↦ inr k ];
      }) fs h.returns.3;
    }
      where
        to : State Own
        to = handed before x st

        mine : (q : Place) → to.extra.owned q ≡ true → before.extra.owned q ≡ true
        mine q k = h.returns.0.no_more q (or_cases (st.extra.owned q) (back_from st.extra.pending q) k)

        there : (q : Place) → IsThere (before.store q) → IsThere (x.contents q)
        there q i =
            subst (λ (x : Settled). IsThere (x.contents q)) (sym e)
            (elim (h.returns.0.there q i) as
            (λ _. IsThere ((complete (result_of st) (filled p needs fresh st.extra.pending none_yet)).contents q)) [
              | inl k ↦ there_right ((filled p needs fresh st.extra.pending none_yet).contents q) (st.store q) k
              | inr k ↦ there_left ((filled p needs fresh st.extra.pending none_yet).contents q) (st.store q)
                  (back_there p needs fresh st.extra.pending none_yet q
                  (each_more (Carries p needs) _ st.extra.pending (λ c h. h.there) h.carried) k)
            ])

        owned : (q : Place) → before.extra.owned q ≡ true → (st.extra.owned q || back_from st.extra.pending q) ≡ true
        owned q i = elim (h.returns.0.owned q i) as (λ _. (st.extra.owned q || back_from st.extra.pending q) ≡ true) [
          | inl k ↦ or_left (st.extra.owned q) (back_from st.extra.pending q) k
          | inr k ↦ or_right (st.extra.owned q) (back_from st.extra.pending q) k
        ]

    -- with results of tasks
    pub handed_holds : (root s : Start) (rs : List TaskResult) → Each (IsMade p needs fresh root) rs
        → (before : State Own) (fs : List (Frame Own)) (st : State Own)
        → IsTask p needs fresh root s (record { frames = AtEnd before ∷ fs; state = st })
        → Holds p needs (record { frames = AtEnd before ∷ fs; state = st })
        → (x : Settled) → settle (result_of st) rs ≡ Some x → Holds p needs (record { frames = fs; state = handed before x st })
    handed_holds root s rs all before fs st task h x e =
        handed_true before fs st h x
        (part_sound p needs fresh root st.extra.pending (lists_given p needs fresh root s (AtEnd before ∷ fs) st task)
        (result_of st) refl rs all x e)

    -- ---- starts
    pub begin_holds : (s : Start) → MayBegin p needs s
        → Holds p needs (record { frames = Rest s.body ∷ []; state = beginning (at_first s.owned) fresh s })
    begin_holds s h = record { stack = h.stack; texts = (h.text, tt); carried = tt; parted = tt; returns = tt }

  get_there : (xs : List ℤ) (i : ℕ) → i < length xs → IsThere (slice_get xs i)
  get_there [] i lt = omega (arith, lt)
  get_there (x ∷ xs) zero lt = tt
  get_there (x ∷ xs) (suc i) lt = get_there xs i (omega (arith, lt))

  array_there : (xs : List Array) (lists : List (List ℤ)) → FitsArrays xs lists → (k a : ℕ) (q : Place)
      → In (slice_index_or (whole_arrays a xs) k nowhere) q
      → IsThere (slice_get (slice_index_or lists k []) q.index)
  array_there [] lists f k a q i = absurd (not_nowhere q i)
  array_there (x ∷ xs) [] f k a q i = elim f [ ]
  array_there (x ∷ xs) (row ∷ rows) (also e f) zero a q i = get_there row q.index (let h = i.high in omega (arith, h, e))
  array_there (x ∷ xs) (row ∷ rows) (also e f) (suc k) a q i = array_there xs rows f k (a + 1) q i

  window_within : (ws : List Window) (k : ℕ) (q : Place) → In (slice_index_or ws k nowhere) q → has ws q ≡ true
  window_within [] k q i = absurd (not_nowhere q i)
  window_within (w ∷ ws) zero q i = or_left (is_in w q) (has ws q) (is_in-from w q i)
  window_within (w ∷ ws) (suc k) q i = or_right (is_in w q) (has ws q) (window_within ws k q i)

  -- the root can start on an input that fits
  pub root_begins : (input : List (List ℤ)) (nest : ℕ) → FitsArrays p.arrays input → MayBegin p needs (root_of p input nest)
  root_begins input nest f =
      let env = entry [] (whole_arrays 0 p.arrays) in record {
        text = is_scoped.main_text;
        stack = (
          Top (arrays_of p),
          env,
          record {
            inside = λ z i. tt;
            known = λ z i. refl;
            ready = record {
              fits = arrays_fit p;
              scoped = is_scoped.main;
              calm = is_calm.main;
              provided = provides.main;
              free = λ q t n. n;
              held = λ q t.
                  let at = array_here p.arrays t.access.section 0 q t.place in
                  subst (λ k. IsThere (slice_get (slice_index_or input k []) q.index))
                  (let e : 0 + t.access.section ≡ t.access.section = omega arith in sym (at ∙ e))
                  (array_there p.arrays input f t.access.section 0 q t.place);
              wrote = λ q t. window_within (whole_arrays 0 p.arrays) t.access.section q t.place;
              kept = λ q. inl;
              added = λ q t. inr (inl t);
              turns_free = λ q t n. n;
              turns_held = λ q t. absurd (text_turns env (touching p q) p.main.body is_scoped.main_text t);
              turns_wrote = λ q t. absurd (text_turns env (writing p q) p.main.body is_scoped.main_text t);
              turns_added = λ q t. inr (inr t);
            };
          },
          tt,
        );
      }

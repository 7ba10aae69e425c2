-- A calm program that is run apart and gathered does what it does on one thread.
use Rattle.std.proofs.lemmas.Option.{none-some}
use Rattle.std.proofs.Common.{◌≡◌, ℕ, zero, suc, ◌+◌, ◌<◌, ◌≤◌, List, [], ◌∷◌, ◌++◌, Option, Some, None, refl, sym, ap}
use Rattle.std.proofs.Common.{◌∙◌, subst, inl, inr, arith, le_refl}
use Rattle.std.proofs.lemmas.Bool.{or_left, or_right, or_from}
use Rattle.std.proofs.lemmas.List.Elements.{Contains-append_left, Contains-append_right}
use Rattle.std.specs.Prelude.{ℤ, ◌⊎◌, Bool, true, false, Contains, flat_map, map, ok_or, if◌then◌else◌}
use Rattle.shared_lemmas.proofs.Truths.{false_true}
use Rattle.types.proofs.Bindings.{element_in}
use Rattle.sections.specs.Place.{Window, Place, In, has_piece, piece_at, sides_of}
use Rattle.sections.specs.Member.{Member, first, next}
use Rattle.types.specs.declared.fault.FaultKind.TheVariants.{PieceSize, SplitPoint, Raised}
use Rattle.types.specs.Code.{Number, Truth, Primitive, Skip, Assign, Store, Print, Raise, Code, Do, If, While, Split}
use Rattle.types.specs.Code.{Parts, Begun, Call, Async, Finish, Rescue, Codes, End, Then, Program}
use Rattle.types.specs.Contents.{Contents}
use Rattle.types.specs.Value.{Environment, element_of, holds_number}
use Rattle.types.specs.Indexed.{indexed, indexed_truth}
use Rattle.types.specs.Run.{Flow, On, Faulted, Stopped, Work, Block, Turn, Pieces, Rules, window_at, entry, with_sides}
use Rattle.types.specs.Run.{with_step, array_of, choose, procedure_of, counted, in_turn, piece_size, with_piece, act, block, work, within}
use Rattle.types.specs.Meaning.{hushed, joined, child, after_async, after_body, after_finish, one_rules_by, begin_one}
use Rattle.effects.specs.Accesses.{Access, own_accesses}
use Rattle.types.specs.Sound.{IsText, IsTextOf, passed_for}
use Rattle.effects.specs.Effects.{past_split, if_body, if_other, while, handler, split, call, AllOf, All}
use Rattle.effects.specs.Effects.{PendingOf, Pending, accesses}
use Rattle.effects.specs.Footprint.{InTurnToCome, Touches, Overwrites, TurnsTouch, TurnsWrite, TurnsStillWrite}
use Rattle.effects.specs.Needs.{Needs, ProvidesIn, ProvidesOf, Provides}
use Rattle.race_checker.specs.Scope.{Top, Inside, AtPiece, InScope, FitsScope, may_writes, Scoped, ScopedOf, IsScoped}
use Rattle.race_checker.specs.Calm.{Calm, CalmOf, IsCalm}
use Rattle.race_checker.proofs.Scoping.{length_may_writes}
use Rattle.effects.proofs.Footprints.{overwrites_touch, turn-reads, turn-writes, turn-pending_writes}
use Rattle.task_run.specs.Places.{written, touched, first_of}
use Rattle.task_run.specs.Apart.{Aside, nothing, is_stopped, stops_anywhere, merged, child_apart, set_aside, gather}
use Rattle.task_run.specs.Apart.{apart_rules_by, begin_apart}
use Rattle.task_run.specs.Ready.{Around, Ready}
use Rattle.task_run.proofs.Windows.{named_some, some_named, sides_some, sides_in, split_in, call_in}
use Rattle.task_run.proofs.Windows.{passed_same, fits_split, around_split, split_agree}
use Rattle.task_run.proofs.Windows.{piece_cut, around_turn, fits_turn, turn_agree}
use Rattle.task_run.proofs.AccessNames.{all_alone, pending_alone, named_all, touches_more, overwrites_more}
use Rattle.task_run.proofs.AccessNames.{overwrites_renamed, read_listed, touches_renamed}
use Rattle.task_run.proofs.SideBySide.{S, A, Set, Same, Agree, same, both_stop, widen, then_same, step_same}
use Rattle.task_run.proofs.SideBySide.{fault_same, value_same, choose_same, reads_same, stand, Readable, number_alike}
use Rattle.task_run.proofs.SideBySide.{truth_alike, numbers_alike, assign_same, print_same, put_same, rescue_same}
use Rattle.task_run.proofs.StaysStopped.{Marks, dies, within_marks, block_marks, begin_marks}
use Rattle.task_run.proofs.TurnsToCome.{single, touching, writing, still_writing, turn_earlier, turns_here}
use Rattle.task_run.proofs.TurnsToCome.{text_turns, code_turns}

abbrev pub nowhere : Set
nowhere q = ⊥

module _ (p : Program) (needs : Codes → Needs) where
  -- it may run next: it stays within the surroundings, and touches nothing that is locked; `final`
  -- is locked afterwards
  pub record ReadyOf (x : Around) (locked final : Place → Type 0) (l : ℕ) (s : Code) : Type 0 where
    pub fits : FitsScope x.scope x.env
    pub names : (y : Access) → Member y (own_accesses l s) → InScope x.scope y.section
    pub scoped : ScopedOf p x.scope s
    pub calm : CalmOf p x.scope l s
    pub provided : ProvidesOf p needs s
    pub free : (q : Place) → Touches x.env (AllOf p accesses l s) q → locked q → ⊥
    pub held : (q : Place) → Touches x.env (AllOf p accesses l s) q → x.held q
    pub wrote : (q : Place) → Overwrites x.env (AllOf p accesses l s) q → x.wrote q
    pub kept : (q : Place) → locked q → final q
    pub added : (q : Place) → Overwrites x.env (PendingOf p accesses s) q → final q
    -- the same for the turns to come of a begun `parts`
    pub turns_free : (q : Place) → TurnsTouch p x.env (single s) q → locked q → ⊥
    pub turns_held : (q : Place) → TurnsTouch p x.env (single s) q → x.held q
    pub turns_wrote : (q : Place) → TurnsWrite p x.env (single s) q → x.wrote q
    pub turns_added : (q : Place) → TurnsStillWrite p x.env (single s) q → final q

module _ (p : Program) (needs : Codes → Needs) where
  -- a text has no turns to come
  none_touch : {A : Type 0} (b : Codes) → IsText b → (env : Environment) (q : Place) → TurnsTouch p env b q → A
  none_touch b text env q t = absurd (text_turns env (touching p q) b text t)

  none_write : {A : Type 0} (b : Codes) → IsText b → (env : Environment) (q : Place) → TurnsWrite p env b q → A
  none_write b text env q t = absurd (text_turns env (writing p q) b text t)

  pub none_left : {A : Type 0} (b : Codes) → IsText b → (env : Environment) (q : Place) → TurnsStillWrite p env b q → A
  none_left b text env q t = absurd (text_turns env (still_writing p q) b text t)

  -- what a statement leaves locked
  abbrev pub behind : Around → Set → Code → Set
  behind x locked s q =
      locked q ⊎ Overwrites x.env (PendingOf p accesses s) q ⊎ TurnsStillWrite p x.env (single s) q

  module _ (x : Around) (locked final : Set) (l : ℕ) (s : Code) where
    -- after itself it leaves locked what it leaves pending
    relock : ReadyOf p needs x locked final l s → ReadyOf p needs x locked (behind x locked s) l s
    relock r = record {
      fits = r.fits;
      names = r.names;
      scoped = r.scoped;
      calm = r.calm;
      provided = r.provided;
      free = r.free;
      held = r.held;
      wrote = r.wrote;
      kept = λ q. inl;
      added = λ q t. inr (inl t);
      turns_free = r.turns_free;
      turns_held = r.turns_held;
      turns_wrote = r.turns_wrote;
      turns_added = λ q t. inr (inr t);
    }

    pub here_ready : (rest : Codes) → Ready p needs x locked final (Then l s rest) → ReadyOf p needs x locked final l s
    here_ready rest r = record {
      fits = r.fits;
      names = r.scoped.0;
      scoped = r.scoped.1;
      calm = r.calm.0;
      provided = r.provided.0;
      free = λ q t. r.free q (touches_more x.env _ _ q (λ y h. All.here h) t);
      held = λ q t. r.held q (touches_more x.env _ _ q (λ y h. All.here h) t);
      wrote = λ q t. r.wrote q (overwrites_more x.env _ _ q (λ y h. All.here h) t);
      kept = r.kept;
      added = λ q t. r.added q (overwrites_more x.env _ _ q (λ y h. Pending.here h) t);
      turns_free = λ q t. r.turns_free q (turns_here x.env (touching p q) l s rest t);
      turns_held = λ q t. r.turns_held q (turns_here x.env (touching p q) l s rest t);
      turns_wrote = λ q t. r.turns_wrote q (turns_here x.env (writing p q) l s rest t);
      turns_added = λ q t. r.turns_added q (turns_here x.env (still_writing p q) l s rest t);
    }

    pub first_ready : (rest : Codes) → Ready p needs x locked final (Then l s rest) → ReadyOf p needs x locked (behind x locked s) l s
    first_ready rest r = relock (here_ready rest r)

    pub rest_ready : (rest : Codes) → IsText (Then l s rest) → Ready p needs x locked final (Then l s rest)
        → Ready p needs x (behind x locked s) final rest
    rest_ready rest text r = record {
      fits = r.fits;
      scoped = r.scoped.2;
      calm = r.calm.1;
      provided = r.provided.1;
      free = λ q t n. elim n as (λ _. ⊥) [
        | inl m ↦ r.free q (touches_more x.env _ _ q (λ y h. All.later h) t) m
        | inr m ↦ elim m as (λ _. ⊥) [
          | inl k ↦ (r.calm.2 x.env r.fits).writes_first q k t
          | inr k ↦ code_turns x.env (still_writing p q) s text.0 k
        ]
      ];
      held = λ q t. r.held q (touches_more x.env _ _ q (λ y h. All.later h) t);
      wrote = λ q t. r.wrote q (overwrites_more x.env _ _ q (λ y h. All.later h) t);
      kept = λ q n. elim n as (λ _. final q) [
        | inl m ↦ r.kept q m
        | inr m ↦ elim m as (λ _. final q) [
          | inl k ↦ r.added q (overwrites_more x.env _ _ q (λ y h. Pending.here h) k)
          | inr k ↦ absurd (code_turns x.env (still_writing p q) s text.0 k)
        ]
      ];
      added = λ q t. r.added q (overwrites_more x.env _ _ q (λ y h. Pending.later h) t);
      turns_free = λ q. none_touch rest text.1 x.env q;
      turns_held = λ q. none_touch rest text.1 x.env q;
      turns_wrote = λ q. none_write rest text.1 x.env q;
      turns_added = λ q. none_left rest text.1 x.env q;
    }

    -- a block of a statement, in the same scope
    pub part_ready : (b : Codes) → IsText b → ((y : Access) → All p accesses b y → AllOf p accesses l s y)
        → ((y : Access) → Pending p accesses b y → PendingOf p accesses s y)
        → Scoped p x.scope b → Calm p x.scope b → ProvidesIn p needs b → ReadyOf p needs x locked final l s → Ready p needs x locked final b
    part_ready b text all pending scoped calm provided r = record {
      fits = r.fits;
      scoped = scoped;
      calm = calm;
      provided = provided;
      free = λ q t. r.free q (touches_more x.env _ _ q all t);
      held = λ q t. r.held q (touches_more x.env _ _ q all t);
      wrote = λ q t. r.wrote q (overwrites_more x.env _ _ q all t);
      kept = r.kept;
      added = λ q t. r.added q (overwrites_more x.env _ _ q pending t);
      turns_free = λ q. none_touch b text x.env q;
      turns_held = λ q. none_touch b text x.env q;
      turns_wrote = λ q. none_write b text x.env q;
      turns_added = λ q. none_left b text x.env q;
    }

    -- the sections that a statement's own expressions index
    readable : (ss : List ℕ) → ReadyOf p needs x locked final l s
        → ((t : ℕ) → Contains ss t → Member (record { label = l; section = t; write = false }) (own_accesses l s))
        → Readable x locked ss
    readable ss r h t c =
        let m = h t c in (
          r.names _ m,
          λ q i.
              let at : Touches x.env (AllOf p accesses l s) q =
              record { access = record { label = l; section = t; write = false }; among = AllOf.own_access m; place = i } in
              (r.held q at, r.free q at),
        )

  -- the next iteration of a loop, once its body has run
  pub again_ready : (x : Around) (locked final : Set) (l : ℕ) (t : Truth) (b : Codes) → ReadyOf p needs x locked final l (While t b)
      → Ready p needs x (behind x locked (While t b)) final (Then l (While t b) End)
  again_ready x locked final l t b r = record {
    fits = r.fits;
    scoped = (r.names, r.scoped, tt);
    calm = (r.calm, tt, λ env f. record { writes_first = λ q o t. elim t.among [ ]; writes_second = λ q t o. elim o.among [ ] });
    provided = (r.provided, tt);
    free = λ q t n. let at = touches_more x.env _ _ q (all_alone p l _) t in elim n as (λ _. ⊥) [
      | inl m ↦ r.free q at m
      | inr m ↦ elim m as (λ _. ⊥) [ inl k ↦ (r.calm.1 x.env r.fits).writes_first q k at | inr k ↦ k ]
    ];
    held = λ q t. r.held q (touches_more x.env _ _ q (all_alone p l _) t);
    wrote = λ q t. r.wrote q (overwrites_more x.env _ _ q (all_alone p l _) t);
    kept = λ q n. elim n as (λ _. final q) [
      | inl m ↦ r.kept q m
      | inr m ↦ elim m as (λ _. final q) [ inl k ↦ r.added q k | inr k ↦ r.turns_added q k ]
    ];
    added = λ q t. r.added q (overwrites_more x.env _ _ q (pending_alone p l _) t);
    turns_free = λ q t. absurd t;
    turns_held = λ q t. absurd t;
    turns_wrote = λ q t. absurd t;
    turns_added = λ q t. absurd t;
  }

  -- ---- a split
  module _ (x : Around) (locked final : Set) (l : ℕ) (s : ℕ) (e : Number) (u v : ℕ) (b : Codes)
      (r : ReadyOf p needs x locked final l (Split s e u v b))
      (at : ℤ) (ws : Window × Window) (cut : sides_of (x.env.windows s) at ≡ Some ws) where
    abbrev pub within_split : Around
    within_split = record x { scope = Inside s u v x.scope; env = with_sides u v ws x.env }

    outward : (q : Place) (z : ℕ) → In (within_split.env.windows z) q → In (x.env.windows (past_split s u v z)) q
    outward q z i = let k = sides_in (x.env.windows s) at ws.0 ws.1 cut q in split_in s u v ws.0 ws.1 x.env.windows q k.0 k.1 z i

    touches_outward : (q : Place) → Touches within_split.env (All p accesses b) q → Touches x.env (AllOf p accesses l (Split s e u v b)) q
    touches_outward q = touches_renamed x.env within_split.env (past_split s u v) _ _ q (outward q) (λ y i. AllOf.inner split i refl)

    pub split_ready : IsText b → Ready p needs within_split locked final b
    split_ready text = record {
      fits = fits_split x.scope s u v at ws x.env r.scoped.0 r.scoped.1 r.scoped.2 r.scoped.3 cut r.fits;
      scoped = r.scoped.4;
      calm = r.calm;
      provided = r.provided;
      free = λ q t. r.free q (touches_outward q t);
      held = λ q t. r.held q (touches_outward q t);
      wrote = λ q t. r.wrote q
          (overwrites_renamed x.env within_split.env (past_split s u v) _ _ q (outward q) (λ y i. AllOf.inner split i refl) t);
      kept = r.kept;
      added = λ q t. r.added q
          (overwrites_renamed x.env within_split.env (past_split s u v) _ _ q (outward q) (λ y i. PendingOf.inner split i refl) t);
      turns_free = λ q. none_touch b text within_split.env q;
      turns_held = λ q. none_touch b text within_split.env q;
      turns_wrote = λ q. none_write b text within_split.env q;
      turns_added = λ q. none_left b text within_split.env q;
    }

    enter_split : (o : S) (a : A) → Same x locked o a
        → Same within_split locked (record o { environment = with_sides u v ws o.environment })
        (record a { environment = with_sides u v ws a.environment })
    enter_split o a k =
        stand x within_split.scope within_split.env locked o a (ap (with_sides u v ws) k.environment)
        (λ z i. split_agree u v ws o.environment.windows x.env.windows z (in_scope z i)) k
      where
        in_scope : (z : ℕ) → InScope (Inside s u v x.scope) z → (z ≡ u) ⊎ (z ≡ v) ⊎ (o.environment.windows z ≡ x.env.windows z)
        in_scope z (inl e) = inl e
        in_scope z (inr (inl e)) = inr (inl e)
        in_scope z (inr (inr i)) = inr (inr (k.windows z i))

    leave_split : (o : S) (a : A) → Same within_split final o a → Same x final o a
    leave_split o a k =
        stand within_split x.scope x.env final o a k.environment
        (λ z i. k.windows z (inr (inr i)) ∙ around_split x.scope u v ws x.env r.scoped.1 r.scoped.2 z i) k

    leave_split_agree : (o : S) (a : A) → Agree within_split final o a → Agree x final o a
    leave_split_agree o a (same k) = same (leave_split o a k)
    leave_split_agree o a (both_stop e y) = both_stop e y

  -- ---- a `parts`, and a turn of it
  begun_does_nothing : (l s n j q i : ℕ) (b : Codes) (y : Access) → All p accesses (Then l (Begun s n j q i b) End) y → ⊥
  begun_does_nothing l s n j q i b y (All.here (AllOf.own_access m)) = elim m [ ]
  begun_does_nothing l s n j q i b y (All.here (AllOf.inner m h e)) = elim m [ ]
  begun_does_nothing l s n j q i b y (All.later h) = elim h [ ]

  begun_leaves_nothing : (l s n j q i : ℕ) (b : Codes) (y : Access) → Pending p accesses (Then l (Begun s n j q i b) End) y → ⊥
  begun_leaves_nothing l s n j q i b y (Pending.here (PendingOf.inner m h e)) = elim m [ ]
  begun_leaves_nothing l s n j q i b y (Pending.later h) = elim h [ ]

  -- a turn to come does what the `parts` does
  module _ (env : Environment) (l s : ℕ) (e : Number) (n q i : ℕ) (b : Codes) (at : Place) where
    turns_do : TurnsTouch p env (Then l (Begun s n 0 q i b) End) at → Touches env (AllOf p accesses l (Parts s e q i b)) at
    turns_do (inl t) =
        turn-reads p env s e q i b n t.number (piece_at n t.number (env.windows s))
        (piece_cut (env.windows s) n t.number t.left) l at t.there
    turns_do (inr t) = absurd t

    turns_write : TurnsWrite p env (Then l (Begun s n 0 q i b) End) at → Overwrites env (AllOf p accesses l (Parts s e q i b)) at
    turns_write (inl t) =
        turn-writes p env s e q i b n t.number (piece_at n t.number (env.windows s))
        (piece_cut (env.windows s) n t.number t.left) l at t.there
    turns_write (inr t) = absurd t

    turns_leave : TurnsStillWrite p env (Then l (Begun s n 0 q i b) End) at → Overwrites env (PendingOf p accesses (Parts s e q i b)) at
    turns_leave (inl t) =
        turn-pending_writes p env s e q i b n t.number (piece_at n t.number (env.windows s))
        (piece_cut (env.windows s) n t.number t.left) l at t.there
    turns_leave (inr t) = absurd t

  pub parts_ready : (x : Around) (locked final : Set) (l s : ℕ) (e : Number) (q i : ℕ) (b : Codes)
      → ReadyOf p needs x locked final l (Parts s e q i b) → (n : ℕ)
      → Ready p needs x locked final (Then l (Begun s n 0 q i b) End)
  parts_ready x locked final l s e q i b r n = record {
    fits = r.fits;
    scoped = ((λ y m. elim m [ ]), r.scoped, tt);
    calm = (r.calm, tt, λ env f. record { writes_first = λ at o t. elim t.among [ ]; writes_second = λ at t o. elim o.among [ ] });
    provided = (r.provided, tt);
    free = λ at t. absurd (begun_does_nothing l s n 0 q i b t.access t.among);
    held = λ at t. absurd (begun_does_nothing l s n 0 q i b t.access t.among);
    wrote = λ at t. absurd (begun_does_nothing l s n 0 q i b t.access t.among);
    kept = r.kept;
    added = λ at t. absurd (begun_leaves_nothing l s n 0 q i b t.access t.among);
    turns_free = λ at t. r.free at (turns_do x.env l s e n q i b at t);
    turns_held = λ at t. r.held at (turns_do x.env l s e n q i b at t);
    turns_wrote = λ at t. r.wrote at (turns_write x.env l s e n q i b at t);
    turns_added = λ at t. r.added at (turns_leave x.env l s e n q i b at t);
  }

  module _ (x : Around) (locked final : Set) (l s n j q i : ℕ) (b : Codes)
      (r : ReadyOf p needs x locked final l (Begun s n j q i b)) (left : has_piece (x.env.windows s) n j ≡ true) where
    abbrev pub within_turn : Around
    within_turn = record x {
      scope = AtPiece s q x.scope;
      env = with_piece q i (piece_at n j (x.env.windows s)) j x.env;
    }

    -- what is locked after the turn
    abbrev pub after_turn : Set
    after_turn at = locked at ⊎ Overwrites within_turn.env (Pending p accesses b) at

    this_turn : {holds : Environment → Type 0} → holds within_turn.env → InTurnToCome x.env s n j q i holds
    this_turn h = record { number = j; later = le_refl j; left = left; there = h }

    pub turn_ready : IsText b → Ready p needs within_turn locked after_turn b
    turn_ready text = record {
      fits = fits_turn x.scope s q i n j x.env r.scoped.0 r.scoped.1 left r.fits;
      scoped = r.scoped.2;
      calm = r.calm.0;
      provided = r.provided;
      free = λ at t. r.turns_free at (inl (this_turn t));
      held = λ at t. r.turns_held at (inl (this_turn t));
      wrote = λ at t. r.turns_wrote at (inl (this_turn t));
      kept = λ at. inl;
      added = λ at. inr;
      turns_free = λ at. none_touch b text within_turn.env at;
      turns_held = λ at. none_touch b text within_turn.env at;
      turns_wrote = λ at. none_write b text within_turn.env at;
      turns_added = λ at. none_left b text within_turn.env at;
    }

    later_free : (at : Place) → TurnsTouch p x.env (Then l (Begun s n (j + 1) q i b) End) at → after_turn at → ⊥
    later_free at (inl t) (inl m) = r.turns_free at (inl (turn_earlier t)) m
    later_free at (inl t) (inr m) =
        r.calm.1.writes_first x.env i n j t.number r.fits (let h : j + 1 ≤ t.number = t.later in omega (arith, h)) left t.left at m t.there
    later_free at (inr t) m = absurd t

    pub next_ready : Ready p needs x after_turn final (Then l (Begun s n (j + 1) q i b) End)
    next_ready = record {
      fits = r.fits;
      scoped = ((λ y m. elim m [ ]), r.scoped, tt);
      calm = (r.calm, tt, λ env f. record { writes_first = λ at o t. elim t.among [ ]; writes_second = λ at t o. elim o.among [ ] });
      provided = (r.provided, tt);
      free = λ at t. absurd (begun_does_nothing l s n (j + 1) q i b t.access t.among);
      held = λ at t. absurd (begun_does_nothing l s n (j + 1) q i b t.access t.among);
      wrote = λ at t. absurd (begun_does_nothing l s n (j + 1) q i b t.access t.among);
      kept = λ at m. elim m as (λ _. final at) [ inl k ↦ r.kept at k | inr k ↦ r.turns_added at (inl (this_turn k)) ];
      added = λ at t. absurd (begun_leaves_nothing l s n (j + 1) q i b t.access t.among);
      turns_free = later_free;
      turns_held = λ at t. elim t as (λ _. x.held at) [ inl k ↦ r.turns_held at (inl (turn_earlier k)) | inr k ↦ absurd k ];
      turns_wrote = λ at t. elim t as (λ _. x.wrote at) [ inl k ↦ r.turns_wrote at (inl (turn_earlier k)) | inr k ↦ absurd k ];
      turns_added = λ at t. elim t as (λ _. final at) [ inl k ↦ r.turns_added at (inl (turn_earlier k)) | inr k ↦ absurd k ];
    }

    enter_turn : (o : S) (a : A) → Same x locked o a → Same within_turn locked (in_turn s n j q i o) (in_turn s n j q i a)
    enter_turn o a k =
        stand x within_turn.scope within_turn.env locked o a
        (ap (λ env. with_piece q i (piece_at n j (env.windows s)) j env) k.environment)
        (λ z h. turn_agree q (piece_at n j (window_at o s)) (piece_at n j (x.env.windows s)) o.environment.windows x.env.windows z
        (ap (piece_at n j) (k.windows s r.scoped.0)) (in_scope z h)) k
      where
        in_scope : (z : ℕ) → InScope (AtPiece s q x.scope) z → (z ≡ q) ⊎ (o.environment.windows z ≡ x.env.windows z)
        in_scope z (inl e) = inl e
        in_scope z (inr h) = inr (k.windows z h)

    leave_turn : (o : S) (a : A) → Same within_turn after_turn o a → Same x after_turn o a
    leave_turn o a k =
        stand within_turn x.scope x.env after_turn o a k.environment
        (λ z h. k.windows z (inr h) ∙ around_turn x.scope q i (piece_at n j (x.env.windows s)) j x.env r.scoped.1 z h) k

    leave_turn_agree : (o : S) (a : A) → Agree within_turn after_turn o a → Agree x after_turn o a
    leave_turn_agree o a (same k) = same (leave_turn o a k)
    leave_turn_agree o a (both_stop e y) = both_stop e y

  -- ---- a call
  module _ (x : Around) (locked final : Set) (l f : ℕ) (es : List Number) (ss : List ℕ)
      (r : ReadyOf p needs x locked final l (Call f es ss)) where
    abbrev pub within_call : Around
    within_call = record x { scope = Top (may_writes (procedure_of p f)); env = entry [] (map x.env.windows ss) }

    pub call_ready : IsText (procedure_of p f).body → Scoped p (Top (may_writes (procedure_of p f))) (procedure_of p f).body
        → Calm p (Top (may_writes (procedure_of p f))) (procedure_of p f).body
        → ProvidesIn p needs (procedure_of p f).body → Ready p needs within_call locked final (procedure_of p f).body
    call_ready text scoped calm provided = record {
      fits = r.calm x.env r.fits;
      scoped = scoped;
      calm = calm;
      provided = provided;
      free = λ q t. r.free q (around q t);
      held = λ q t. r.held q (around q t);
      wrote = λ q t. r.wrote q
          (overwrites_renamed x.env within_call.env (passed_for ss) _ _ q (call_in x.env.windows q ss) (λ y i. AllOf.inner call i refl) t);
      kept = r.kept;
      added = λ q t. r.added q
          (overwrites_renamed x.env within_call.env (passed_for ss) _ _ q (call_in x.env.windows q ss) (λ y i. PendingOf.inner call i refl) t);
      turns_free = λ q. none_touch (procedure_of p f).body text within_call.env q;
      turns_held = λ q. none_touch (procedure_of p f).body text within_call.env q;
      turns_wrote = λ q. none_write (procedure_of p f).body text within_call.env q;
      turns_added = λ q. none_left (procedure_of p f).body text within_call.env q;
    }
      where
        around : (q : Place) → Touches within_call.env (All p accesses (procedure_of p f).body) q
            → Touches x.env (AllOf p accesses l (Call f es ss)) q
        around q = touches_renamed x.env within_call.env (passed_for ss) _ _ q (call_in x.env.windows q ss) (λ y i. AllOf.inner call i refl)

    enter_call : (vs : List ℤ) (o : S) (a : A) → Same x locked o a
        → Same within_call locked (record o { environment = entry vs (map (window_at o) ss) })
        (record a { environment = entry vs (map (window_at a) ss) })
    enter_call vs o a k =
        stand x within_call.scope within_call.env locked o a (ap (λ env. entry vs (map env.windows ss)) k.environment)
        (λ z i. passed_same o.environment.windows x.env.windows ss z
        (k.windows (passed_for ss z) (r.scoped z (subst (λ n. z < n) (length_may_writes (procedure_of p f)) i)))) k

    leave_call : (o oo : S) (a aa : A) → Same x locked o a → Agree within_call final oo aa
        → Agree x final (record oo { environment = o.environment }) (record aa { environment = a.environment })
    leave_call o oo a aa k (same h) = same (stand within_call x.scope x.env final oo aa k.environment k.windows h)
    leave_call o oo a aa k (both_stop e y) = both_stop e y

  -- ---- a block on its own: the body of an async, or of a finish
  abbrev alone : Around → Contents → Set → Codes → Around
  alone x base held b = record x { base = base; wrote = Overwrites x.env (All p accesses b); held = held }

  -- it is ready if nothing is locked
  pub unlocked_ready : (x : Around) (final : Set) (b : Codes) → IsText b → FitsScope x.scope x.env → Scoped p x.scope b → Calm p x.scope b
      → ProvidesIn p needs b → ((q : Place) → Touches x.env (All p accesses b) q → x.held q)
      → ((q : Place) → Overwrites x.env (All p accesses b) q → x.wrote q)
      → ((q : Place) → Overwrites x.env (Pending p accesses b) q → final q) → Ready p needs x nowhere final b
  unlocked_ready x final b text fits scoped calm provided held wrote added = record {
    fits = fits;
    scoped = scoped;
    calm = calm;
    provided = provided;
    free = λ q t n. n;
    held = held;
    wrote = wrote;
    kept = λ q n. absurd n;
    added = added;
    turns_free = λ q. none_touch b text x.env q;
    turns_held = λ q. none_touch b text x.env q;
    turns_wrote = λ q. none_write b text x.env q;
    turns_added = λ q. none_left b text x.env q;
  }

  pub lone_ready : (x : Around) (base : Contents) (held : Set) (b : Codes) → IsText b → FitsScope x.scope x.env → Scoped p x.scope b → Calm p x.scope b
      → ProvidesIn p needs b → ((q : Place) → Touches x.env (All p accesses b) q → held q)
      → Ready p needs (alone x base held b) nowhere (Overwrites x.env (Pending p accesses b)) b
  lone_ready x base held b text fits scoped calm provided h =
      unlocked_ready (alone x base held b) (Overwrites x.env (Pending p accesses b)) b text fits scoped calm provided h (λ q t. t) (λ q t. t)

  not_stopped : (f g : Flow) → f ≡ g → is_stopped f ≡ false → is_stopped g ≡ false
  not_stopped f g e h = ap is_stopped (sym e) ∙ h

  -- ---- an async
  module _ (procedures : (f : ℕ) → Scoped p (Top (may_writes (procedure_of p f))) (procedure_of p f).body)
      (fresh : ℕ) (x : Around) (locked final : Set) (l : ℕ) (b : Codes)
      (r : ReadyOf p needs x locked final l (Async b)) (o : S) (a : A) (k : Same x locked o a) where
    abbrev n : Needs
    n = needs b

    abbrev within_async : Around
    within_async = alone x o.store (Touches x.env (All p accesses b)) b

    -- the places that the body's needs name are the places that it accesses
    written_overwrites : (q : Place) → written a.environment n q ≡ true → Overwrites x.env (All p accesses b) q
    written_overwrites q h =
        let i = named_some a.environment n.writes q h in
        let m = r.provided.0.are_written i.section i.listed in
        record {
          access = m.access;
          among = m.among;
          writes = m.writes;
          place = subst (λ w. In w q)
              (ap a.environment.windows (sym m.names) ∙ ap (λ env. env.windows m.access.section) (sym k.environment)
              ∙ k.windows m.access.section (named_all p procedures x.scope b m.access r.scoped m.among)) i.place;
        }

    window_of : (y : Access) → All p accesses b y → x.env.windows y.section ≡ a.environment.windows y.section
    window_of y m =
        sym (k.windows y.section (named_all p procedures x.scope b y r.scoped m)) ∙ ap (λ env. env.windows y.section) k.environment

    overwrites_written : (q : Place) → Overwrites x.env (All p accesses b) q → written a.environment n q ≡ true
    overwrites_written q t =
        some_named a.environment n.writes t.access.section q
        (r.provided.0.has_writes t.access.section (record { access = t.access; among = t.among; names = refl; writes = t.writes }))
        (subst (λ w. In w q) (window_of t.access t.among) t.place)

    touches_touched : (q : Place) → Touches x.env (All p accesses b) q → touched a.environment n q ≡ true
    touches_touched q t =
        some_named a.environment (n.writes ++ n.reads) t.access.section q
        (r.provided.0.has_reads t.access.section (record { access = t.access; among = t.among; names = refl }))
        (subst (λ w. In w q) (window_of t.access t.among) t.place)

    of_async : (q : Place) → Touches x.env (All p accesses b) q → Touches x.env (AllOf p accesses l (Async b)) q
    of_async q t = touches_more x.env _ _ q (λ y h. AllOf.async h) t

    only_at : (t : Bool) (v w : Option ℤ) → t ≡ true → v ≡ w → v ≡ (if t then w else None)
    only_at true v w e h = h
    only_at false v w e h = absurd (false_true e)

    child_same : Same within_async nowhere (child fresh o) (child_apart fresh n a)
    child_same = record {
      flow = refl;
      environment = k.environment;
      windows = k.windows;
      store = λ q t. only_at (touched a.environment n q) (o.store q) (a.store q) (touches_touched q t)
          (reads_same x locked o a k q (r.held q (of_async q t)) (r.free q (of_async q t)));
      stays = λ q m. refl;
      lines = refl;
      faults = refl;
      steps = refl;
      path = ap (λ i. i ++ (o.spawned + 1) ∷ []) k.path ∙ ap (λ j. a.path ++ (j + 1) ∷ []) k.spawned;
      spawned = refl;
      alive = refl;
      out = λ q m. refl;
    }

    async_ready : IsText b → Ready p needs within_async nowhere (Overwrites x.env (Pending p accesses b)) b
    async_ready text = lone_ready x o.store (Touches x.env (All p accesses b)) b text r.fits r.scoped r.calm r.provided.1 (λ q t. t)

    -- what the body wrote is set aside, and everything else stays
    aside_at : (w : Bool) (new old c mine : Option ℤ) → (w ≡ true → new ≡ c) → (w ≡ true → old ≡ None)
        → (w ≡ false → new ≡ first_of old mine)
        → new ≡ first_of (first_of (if w then c else None) old) (if w then None else mine)
    aside_at true new old c mine f g h =
        f refl ∙ sym (else_none c) ∙ ap (λ v. first_of v None) (sym (else_none c) ∙ ap (first_of c) (sym (g refl)))
      where
        else_none : (v : Option ℤ) → first_of v None ≡ v
        else_none None = refl
        else_none (Some v) = refl
    aside_at false new old c mine f g h = h refl

    none_at : (w : Bool) (c old : Option ℤ) → (w ≡ true → ⊥) → old ≡ None → first_of (if w then c else None) old ≡ None
    none_at true c old m e = absurd (m refl)
    none_at false c old m e = e

    module _ (oo : S) (aa : A) where
      async_ends : Same within_async (Overwrites x.env (Pending p accesses b)) oo aa → is_stopped aa.flow ≡ false → after_async oo.flow ≡ On
          → Same x final (after_body o oo) (set_aside n a aa)
      async_ends h q e = record {
        flow = e;
        environment = k.environment;
        windows = k.windows;
        store = λ q t. aside_at (written a.environment n q) (oo.store q) (a.extra.contents q) (merged aa q) (a.store q)
            (λ w. h.store q (overwrites_touch x.env _ q (written_overwrites q w)))
            (λ w. k.out q (r.free q (of_async q (overwrites_touch x.env _ q (written_overwrites q w)))))
            (λ w. h.stays q (λ t. false_true (sym w ∙ overwrites_written q t)) ∙ k.store q t);
        stays = λ q m. h.stays q (λ t. m (r.wrote q (overwrites_more x.env _ _ q (λ y h. AllOf.async h) t))) ∙ k.stays q m;
        lines = ap (λ ls. ls ++ oo.lines) k.lines ∙ ap (λ ls. a.lines ++ ls) h.lines;
        faults = ap (λ fs. fs ++ oo.faults) k.faults ∙ ap (λ fs. a.faults ++ fs) h.faults;
        steps = k.steps;
        path = k.path;
        spawned = ap (λ j. j + 1) k.spawned;
        alive = or_from a.extra.stopped (stops_anywhere aa) k.alive (or_from (is_stopped aa.flow) aa.extra.stopped q h.alive);
        out = λ q m. none_at (written a.environment n q) (merged aa q) (a.extra.contents q)
            (λ w. m (r.added q (overwrites_more x.env _ _ q (λ y h. PendingOf.async h) (written_overwrites q w))))
            (k.out q (λ j. m (r.kept q j)));
      }

      async_same : (f : Flow) → oo.flow ≡ f → Same within_async (Overwrites x.env (Pending p accesses b)) oo aa
          → Agree x final (after_body o oo) (set_aside n a aa)
      async_same On e h = same (async_ends h (not_stopped oo.flow aa.flow h.flow (ap is_stopped e)) (ap after_async e))
      async_same Faulted e h = same (async_ends h (not_stopped oo.flow aa.flow h.flow (ap is_stopped e)) (ap after_async e))
      async_same Stopped e h =
          both_stop (ap after_async e)
          (or_right a.extra.stopped (stops_anywhere aa) (or_left (is_stopped aa.flow) aa.extra.stopped (ap is_stopped (sym h.flow ∙ e))))

      async_agrees : Agree within_async (Overwrites x.env (Pending p accesses b)) oo aa → Agree x final (after_body o oo) (set_aside n a aa)
      async_agrees (same h) = async_same oo.flow refl h
      async_agrees (both_stop e y) = both_stop (ap after_async e) (or_right a.extra.stopped (stops_anywhere aa) y)

  -- ---- a finish
  module _ (x : Around) (locked final : Set) (l : ℕ) (b : Codes) (r : ReadyOf p needs x locked final l (Finish b)) (o : S) (a : A)
      (k : Same x locked o a) where
    -- what no earlier pending task has made
    abbrev vacant : Set
    vacant q = (a.extra.contents q ≡ None) × x.held q

    abbrev within_finish : Around
    within_finish = alone x o.store vacant b

    of_finish : (q : Place) → Touches x.env (All p accesses b) q → Touches x.env (AllOf p accesses l (Finish b)) q
    of_finish q t = touches_more x.env _ _ q (λ y h. AllOf.finish h) t

    pub finish_ready : IsText b → Ready p needs within_finish nowhere (Overwrites x.env (Pending p accesses b)) b
    finish_ready text =
        lone_ready x o.store vacant b text r.fits r.scoped r.calm r.provided
        (λ q t. (k.out q (r.free q (of_finish q t)), r.held q (of_finish q t)))

    pub enter_same : Same within_finish nowhere (hushed o) (record (hushed a) { extra = nothing })
    enter_same = record {
      flow = k.flow;
      environment = k.environment;
      windows = k.windows;
      store = λ q v. k.store q v.1 ∙ ap (λ m. first_of m (a.store q)) v.0;
      stays = λ q m. refl;
      lines = refl;
      faults = refl;
      steps = k.steps;
      path = k.path;
      spawned = k.spawned;
      alive = refl;
      out = λ q m. refl;
    }

    module _ (oo : S) (aa : A) where
      abbrev left : S
      left = joined o (record oo { flow = after_finish oo.flow oo.faults })

      leave_store : Same within_finish (Overwrites x.env (Pending p accesses b)) oo aa → (q : Place) → x.held q
          → oo.store q ≡ first_of (a.extra.contents q) (merged aa q)
      leave_store h q t = by_aside (a.extra.contents q) refl
        where
          by_aside : (v : Option ℤ) → a.extra.contents q ≡ v → oo.store q ≡ first_of v (merged aa q)
          by_aside None e = h.store q (e, t)
          by_aside (Some v) e =
              h.stays q (λ w. none-some _ (sym (k.out q (r.free q (of_finish q (overwrites_touch x.env _ q w)))) ∙ e))
              ∙ k.store q t ∙ ap (λ u. first_of u (a.store q)) e

      flow_alive : (b : Bool) (f g : Flow) → b ≡ false → f ≡ g → f ≡ (if b then Stopped else g)
      flow_alive true f g q e = absurd (false_true (sym q))
      flow_alive false f g q e = e

      finish_ends : Same within_finish (Overwrites x.env (Pending p accesses b)) oo aa → is_stopped aa.flow ≡ false
          → Same x final left (gather a aa)
      finish_ends h q = record {
        flow = flow_alive (stops_anywhere aa) (after_finish oo.flow oo.faults) (after_finish aa.flow aa.faults)
            (or_from (is_stopped aa.flow) aa.extra.stopped q h.alive)
            (ap (λ f. after_finish f oo.faults) h.flow ∙ ap (after_finish aa.flow) h.faults);
        environment = h.environment;
        windows = h.windows;
        store = leave_store h;
        stays = λ q m. h.stays q (λ t. m (r.wrote q (overwrites_more x.env _ _ q (λ y i. AllOf.finish i) t))) ∙ k.stays q m;
        lines = ap (λ ls. ls ++ oo.lines) k.lines ∙ ap (λ ls. a.lines ++ ls) h.lines;
        faults = ap (λ fs. fs ++ oo.faults) k.faults ∙ ap (λ fs. a.faults ++ fs) h.faults;
        steps = h.steps;
        path = h.path;
        spawned = h.spawned;
        alive = k.alive;
        out = λ q m. k.out q (λ j. m (r.kept q j));
      }

      stopped_flow : (b : Bool) (f : Flow) → b ≡ true → is_stopped (if b then Stopped else f) ≡ true
      stopped_flow true f e = refl
      stopped_flow false f e = absurd (false_true e)

      finish_stops : oo.flow ≡ Stopped → stops_anywhere aa ≡ true → Agree x final left (gather a aa)
      finish_stops e y =
          both_stop (ap (λ f. after_finish f oo.faults) e)
          (or_left (is_stopped (gather a aa).flow) a.extra.stopped (stopped_flow (stops_anywhere aa) (after_finish aa.flow aa.faults) y))

      finish_same : (f : Flow) → oo.flow ≡ f → Same within_finish (Overwrites x.env (Pending p accesses b)) oo aa
          → Agree x final left (gather a aa)
      finish_same On e h = same (finish_ends h (not_stopped oo.flow aa.flow h.flow (ap is_stopped e)))
      finish_same Faulted e h = same (finish_ends h (not_stopped oo.flow aa.flow h.flow (ap is_stopped e)))
      finish_same Stopped e h = finish_stops e (or_left (is_stopped aa.flow) aa.extra.stopped (ap is_stopped (sym h.flow ∙ e)))

      pub finish_agrees : Agree within_finish (Overwrites x.env (Pending p accesses b)) oo aa → Agree x final left (gather a aa)
      finish_agrees (same h) = finish_same oo.flow refl h
      finish_agrees (both_stop e y) = finish_stops e y

  -- ---- a finish with a handler
  module _ (x : Around) (locked final : Set) (l : ℕ) (b : Codes) (n : ℕ) (c : Codes)
      (r : ReadyOf p needs x locked final l (Rescue b n c)) where
    rescued_all : {y : Access} → AllOf p accesses l (Finish b) y → AllOf p accesses l (Rescue b n c) y
    rescued_all (AllOf.own_access m) = elim m [ ]
    rescued_all (AllOf.inner i h e) = elim i [ ]
    rescued_all (AllOf.finish h) = AllOf.rescued h

    none_pending : {y : Access} → PendingOf p accesses (Finish b) y → ⊥
    none_pending (PendingOf.inner i h e) = elim i [ ]

    -- up to its handler it is a finish, which leaves nothing else locked
    pub body_ready : ReadyOf p needs x locked locked l (Finish b)
    body_ready = record {
      fits = r.fits;
      names = λ y m. elim m [ ];
      scoped = r.scoped.0;
      calm = r.calm.0;
      provided = r.provided.0;
      free = λ q t. r.free q (touches_more x.env _ _ q (λ y h. rescued_all h) t);
      held = λ q t. r.held q (touches_more x.env _ _ q (λ y h. rescued_all h) t);
      wrote = λ q t. r.wrote q (overwrites_more x.env _ _ q (λ y h. rescued_all h) t);
      kept = λ q m. m;
      added = λ q t. absurd (none_pending t.among);
      turns_free = λ q t. absurd t;
      turns_held = λ q t. absurd t;
      turns_wrote = λ q t. absurd t;
      turns_added = λ q t. absurd t;
    }

    pub handler_ready : IsText c → Ready p needs x locked final c
    handler_ready text =
        part_ready x locked final l (Rescue b n c) c text (λ y h. AllOf.inner handler h refl)
        (λ y h. PendingOf.inner handler h refl) r.scoped.1 r.calm.1 r.provided.1 r

  -- ---- the two runs, next to each other
  abbrev work_code : Work → Codes
  work_code (Block b) = b
  work_code (Turn l t b) = Then l (While t b) End
  work_code (Pieces l s n k q i b) = Then l (Begun s n k q i b) End

  -- its block is as in a text
  abbrev WorkText : Work → Type 0
  WorkText (Block b) = IsText b
  WorkText (Turn l t b) = IsText b
  WorkText (Pieces l s n k q i b) = IsText b

  turns_choice : (x : Around) (final : Set) (o : S) (a : A) (u v : Bool) → u ≡ v → (go rest : S → S) (to last : A → A)
      → (u ≡ true → Agree x final (go o) (to a)) → Agree x final (rest o) (last a)
      → Agree x final (choose go rest u o) (choose to last v a)
  turns_choice x final o a true true e go rest to last h k = h refl
  turns_choice x final o a false false e go rest to last h k = k
  turns_choice x final o a true false e go rest to last h k = absurd (false_true (sym e))
  turns_choice x final o a false true e go rest to last h k = absurd (false_true e)

  module _ (is_scoped : IsScoped p) (is_calm : IsCalm p) (provides : Provides p needs) (begin : Codes → S → S) (start : Codes → A → A)
      (marks : (b : Codes) → Marks (start b))
      (begin_sim : (b : Codes) → IsText b → (l : ℕ) (x : Around) (locked final : Set) → ReadyOf p needs x locked final l (Async b)
      → (o : S) (a : A)
      → Same x locked o a
      → Agree x final (begin b o) (start b a)) where
    abbrev r1 : Rules (Unit {0})
    r1 = one_rules_by begin

    abbrev r2 : Rules Aside
    r2 = apart_rules_by start

    abbrev Sim : (Work → S → S) → (Work → A → A) → Type 1
    Sim d e = (w : Work) → WorkText w → (x : Around) (locked final : Set) → Ready p needs x locked final (work_code w) → (o : S) (a : A) → Same x locked o a
        → Agree x final (d w o) (e w a)

    module _ (d : Work → S → S) (e : Work → A → A) (e_marks : (w : Work) → Marks (e w)) (sim : Sim d e) where
      abbrev ActSim : ℕ → Code → Type 1
      ActSim l s = (x : Around) (locked final : Set) → ReadyOf p needs x locked final l s → (o : S) (a : A) → Same x locked o a
          → Agree x final (act p r1 d l s (counted r1 l s o)) (act p r2 e l s (counted r2 l s a))

      store_sim : (l s : ℕ) (i v : Number) → ActSim l (Do (Store s i v))
      store_sim l s i v x locked final r o a k =
          let wide = widen x locked final o a r.kept k in
          let reads_i =
          readable x locked final l (Do (Store s i v)) (indexed i) r
          (λ t c. next (read_listed l t _ (Contains-append_left (indexed i) (indexed v) t c))) in
          let reads_v =
          readable x locked final l (Do (Store s i v)) (indexed v) r
          (λ t c. next (read_listed l t _ (Contains-append_right (indexed i) (indexed v) t c))) in
          let y : Access = record { label = l; section = s; write = true } in
          let here : Member y (own_accesses l (Do (Store s i v))) = first in
          value_same x final o a l _ _ _ _ (number_alike x locked o a k i reads_i) wide (λ at _.
          value_same x final o a l _ _ _ _ (number_alike x locked o a k v reads_v) wide (λ n _.
          value_same x final o a l _ _ _ _ (ap (λ env. element_of (env.windows s) at) k.environment) wide (λ q is.
          let place : In (x.env.windows s) q = subst (λ w. In w q) (k.windows s (r.names y here)) (element_in (window_at o s) at q is) in
          let touch : Touches x.env (AllOf p accesses l (Do (Store s i v))) q =
          record { access = y; among = AllOf.own_access here; place = place } in
          let over : Overwrites x.env (AllOf p accesses l (Do (Store s i v))) q =
          record { access = y; among = AllOf.own_access here; place = place; writes = refl } in
          same (widen x locked final _ _ r.kept
          (put_same x locked o a k l (holds_number (array_of p q.array).element n) q n (r.free q touch) (r.wrote q over))))))

      primitive_sim : (l : ℕ) (s : Primitive) → ActSim l (Do s)
      primitive_sim l Skip x locked final r o a k = same (widen x locked final o a r.kept k)
      primitive_sim l (Assign n v) x locked final r o a k =
          value_same x final o a l _ _ _ _
          (number_alike x locked o a k v (readable x locked final l _ (indexed v) r (λ t c. read_listed l t _ c)))
          (widen x locked final o a r.kept k) (λ y _. same (widen x locked final _ _ r.kept (assign_same x locked o a k n y)))
      primitive_sim l (Store s i v) x locked final r o a k = store_sim l s i v x locked final r o a k
      primitive_sim l (Print es) x locked final r o a k =
          value_same x final o a l _ _ _ _
          (numbers_alike x locked o a k es (readable x locked final l _ (flat_map indexed es) r (λ t c. read_listed l t _ c)))
          (widen x locked final o a r.kept k) (λ vs _. same (widen x locked final _ _ r.kept (print_same x locked o a k vs)))
      primitive_sim l (Raise v) x locked final r o a k =
          value_same x final o a l _ _ _ _
          (number_alike x locked o a k v (readable x locked final l _ (indexed v) r (λ t c. read_listed l t _ c)))
          (widen x locked final o a r.kept k) (λ y _. same (widen x locked final _ _ r.kept (fault_same x locked o a l (Raised y) k)))

      mutual
        act_sim : (s : Code) (l : ℕ) → IsTextOf s → ActSim l s
        act_sim (Do s) l text x locked final r o a k = primitive_sim l s x locked final r o a k
        act_sim (If t b c) l text x locked final r o a k =
            value_same x final o a l _ _ _ _
            (truth_alike x locked o a k t (readable x locked final l _ (indexed_truth t) r (λ u m. read_listed l u _ m)))
            (widen x locked final o a r.kept k) (λ v _.
            choose_same x final o a v _ _ _ _
            (block_sim b text.0 x locked final
            (part_ready x locked final l _ b text.0 (λ y h. AllOf.inner if_body h refl)
            (λ y h. PendingOf.inner if_body h refl) r.scoped.0 r.calm.0 r.provided.0 r) o a k)
            (block_sim c text.1 x locked final
            (part_ready x locked final l _ c text.1 (λ y h. AllOf.inner if_other h refl)
            (λ y h. PendingOf.inner if_other h refl) r.scoped.1 r.calm.1 r.provided.1 r) o a k))
        act_sim (While t b) l text x locked final r o a k =
            let mid = behind x locked (While t b) in
            value_same x final o a l _ _ _ _
            (truth_alike x locked o a k t (readable x locked final l _ (indexed_truth t) r (λ u m. read_listed l u _ m)))
            (widen x locked final o a r.kept k) (λ v _.
            choose_same x final o a v _ _ _ _
            (then_same x mid final (block p r1 d b o) (block p r2 e b a) (d (Turn l t b)) (e (Turn l t b))
            (dies (e (Turn l t b)) (e_marks (Turn l t b)))
            (again_ready x locked final l t b r).kept
            (block_sim b text x locked mid
            (part_ready x locked mid l _ b text (λ y h. AllOf.inner while h refl)
            (λ y h. PendingOf.inner while h refl) r.scoped r.calm.0 r.provided (relock x locked final l _ r)) o a k)
            (λ h. sim (Turn l t b) text x mid final (again_ready x locked final l t b r) (block p r1 d b o) (block p r2 e b a) h))
            (same (widen x locked final o a r.kept k)))
        act_sim (Split s n u v b) l text x locked final r o a k =
            value_same x final o a l _ _ _ _
            (number_alike x locked o a k n (readable x locked final l _ (indexed n) r (λ t c. read_listed l t _ c)))
            (widen x locked final o a r.kept k) (λ at _.
            value_same x final o a l _ _ _ _ (ap (λ env. ok_or (sides_of (env.windows s) at) SplitPoint) k.environment)
            (widen x locked final o a r.kept k) (λ ws is.
            let cut = ap (λ w. sides_of w at) (sym (k.windows s r.scoped.0)) ∙ sides_some (sides_of (window_at o s) at) ws is in
            leave_split_agree x locked final l s n u v b r at ws cut _ _
            (block_sim b text (within_split x locked final l s n u v b r at ws cut) locked final
            (split_ready x locked final l s n u v b r at ws cut text) _ _
            (enter_split x locked final l s n u v b r at ws cut o a k))))
        act_sim (Parts s m q i b) l text x locked final r o a k =
            value_same x final o a l _ _ _ _
            (number_alike x locked o a k m (readable x locked final l _ (indexed m) r (λ t c. read_listed l t _ c)))
            (widen x locked final o a r.kept k) (λ v _.
            value_same x final o a l (ok_or (piece_size v) PieceSize) (ok_or (piece_size v) PieceSize) (λ n. d (Pieces l s n 0 q i b))
            (λ n. e (Pieces l s n 0 q i b)) refl (widen x locked final o a r.kept k) (λ n _.
            sim (Pieces l s n 0 q i b) text x locked final (parts_ready x locked final l s m q i b r n) o a k))
        act_sim (Begun s n j q i b) l text x locked final r o a k = absurd text
        act_sim (Call f es ss) l text x locked final r o a k =
            value_same x final o a l _ _ _ _
            (numbers_alike x locked o a k es (readable x locked final l _ (flat_map indexed es) r (λ t c. read_listed l t _ c)))
            (widen x locked final o a r.kept k) (λ vs _.
            leave_call x locked final l f es ss r o _ a _ k
            (sim (Block (procedure_of p f).body) (is_scoped.procedure_texts f) (within_call x locked final l f es ss r) locked final
            (call_ready x locked final l f es ss r (is_scoped.procedure_texts f) (is_scoped.procedures f) (is_calm.procedures f) (provides.procedures f)) _ _
            (enter_call x locked final l f es ss r vs o a k)))
        act_sim (Async b) l text x locked final r o a k = begin_sim b text l x locked final r o a k
        act_sim (Finish b) l text x locked final r o a k =
            finish_agrees x locked final l b r o a k _ _
            (block_sim b text (within_finish x locked final l b r o a k) nowhere (Overwrites x.env (Pending p accesses b))
            (finish_ready x locked final l b r o a k text) _ _
            (enter_same x locked final l b r o a k))
        act_sim (Rescue b n c) l text x locked final r o a k =
            let ready = body_ready x locked final l b n c r in
            rescue_same x locked final n o.faults a.faults _ _ (block p r1 d c) (block p r2 e c)
            (dies _ (block_marks start marks p e e_marks c)) r.kept k.faults
            (finish_agrees x locked locked l b ready o a k _ _
            (block_sim b text.0 (within_finish x locked locked l b ready o a k) nowhere (Overwrites x.env (Pending p accesses b))
            (finish_ready x locked locked l b ready o a k text.0) _ _
            (enter_same x locked locked l b ready o a k)))
            (λ u v h. block_sim c text.1 x locked final (handler_ready x locked final l b n c r text.1) u v h)

        block_sim : (b : Codes) → IsText b → (x : Around) (locked final : Set) → Ready p needs x locked final b → (o : S) (a : A) → Same x locked o a
            → Agree x final (block p r1 d b o) (block p r2 e b a)
        block_sim End text x locked final r o a k = same (widen x locked final o a r.kept k)
        block_sim (Then l s rest) text x locked final r o a k =
            let mid = behind x locked s in
            then_same x mid final _ _ (block p r1 d rest) (block p r2 e rest) (dies _ (block_marks start marks p e e_marks rest))
            (rest_ready x locked final l s rest text r).kept
            (step_same x locked mid o a _ _ k (λ u v h. act_sim s l text.0 x locked mid (first_ready x locked final l s rest r) u v h))
            (λ h. block_sim rest text.1 x mid final (rest_ready x locked final l s rest text r) _ _ h)

      -- a turn of a `parts`, and then the later turns
      turn_sim : (l s n j q i : ℕ) (b : Codes) → IsText b → (x : Around) (locked final : Set)
          → ReadyOf p needs x locked final l (Begun s n j q i b) → has_piece (x.env.windows s) n j ≡ true → (o : S) (a : A)
          → Same x locked o a
          → Agree x final (act p r1 d l (Begun s n j q i b) o) (act p r2 e l (Begun s n j q i b) a)
      turn_sim l s n j q i b text x locked final r left o a k =
          let mid = after_turn x locked final l s n j q i b r left in
          let later = next_ready x locked final l s n j q i b r left in
          let w = Pieces l s n (j + 1) q i b in
          let from = block p r1 d b (in_turn s n j q i o) in
          let to = block p r2 e b (in_turn s n j q i a) in
          then_same x mid final from to (d w) (e w) (dies (e w) (e_marks w)) later.kept
          (leave_turn_agree x locked final l s n j q i b r left from to
          (block_sim b text (within_turn x locked final l s n j q i b r left) locked mid
          (turn_ready x locked final l s n j q i b r left text) (in_turn s n j q i o) (in_turn s n j q i a)
          (enter_turn x locked final l s n j q i b r left o a k)))
          (λ h. sim w text x mid final later from to h)

      work_sim : Sim (work p r1 d) (work p r2 e)
      work_sim (Block b) text x locked final r o a k = block_sim b text x locked final r o a k
      work_sim (Turn l t b) text x locked final r o a k =
          step_same x locked final o a _ _ k
          (λ u v h. act_sim (While t b) l text x locked final (here_ready x locked final l (While t b) End r) u v h)
      work_sim (Pieces l s n j q i b) text x locked final r o a k =
          let c = Begun s n j q i b in
          let here = here_ready x locked final l c End r in
          let one : S → S = λ u. act p r1 d l c (counted r1 l c u) in
          let apart : A → A = λ v. act p r2 e l c (counted r2 l c v) in
          turns_choice x final o a (has_piece (window_at o s) n j) (has_piece (window_at a s) n j)
          (ap (λ env. has_piece (env.windows s) n j) k.environment) (with_step one) (λ u. u) (with_step apart) (λ v. v)
          (λ left. step_same x locked final o a one apart k
          (λ u v h. turn_sim l s n j q i b text x locked final here
          (ap (λ w. has_piece w n j) (sym (k.windows s here.scoped.0)) ∙ left) u v h))
          (same (widen x locked final o a r.kept k))

    pub within_sim : (k : ℕ) → Sim (within p r1 k) (within p r2 k)
    within_sim zero w text x locked final r o a k = both_stop refl refl
    within_sim (suc n) w text x locked final r o a k =
        work_sim (within p r1 n) (within p r2 n) (within_marks start marks p n) (within_sim n) w text x locked final r o a k

  module _ (is_scoped : IsScoped p) (is_calm : IsCalm p) (provides : Provides p needs) (fresh : ℕ) where
    pub begins : (nest : ℕ) (b : Codes) → IsText b → (l : ℕ) (x : Around) (locked final : Set) → ReadyOf p needs x locked final l (Async b)
        → (o : S) (a : A) → Same x locked o a
        → Agree x final (begin_one p fresh nest b o) (begin_apart p needs fresh nest b a)
    begins zero b text l x locked final r o a k = both_stop refl refl
    begins (suc n) b text l x locked final r o a k =
        async_agrees is_scoped.procedures fresh x locked final l b r o a k _ _
        (within_sim is_scoped is_calm provides (begin_one p fresh n) (begin_apart p needs fresh n) (begin_marks p needs fresh n) (begins n)
        (fresh + 1) (Block b) text
        (within_async is_scoped.procedures fresh x locked final l b r o a k) nowhere (Overwrites x.env (Pending p accesses b))
        (async_ready is_scoped.procedures fresh x locked final l b r o a k text) _ _
        (child_same is_scoped.procedures fresh x locked final l b r o a k))

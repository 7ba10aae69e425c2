-- After each turn a task still has all that it touches, and so it has after the end of a finish.
use Rattle.std.proofs.Common.{◌≡◌, ℕ, zero, suc, ◌+◌, ◌<◌, List, [], ◌∷◌, ◌++◌, Option, Some, None, Ok, Err, refl, sym, ap}
use Rattle.std.proofs.Common.{◌∙◌, subst, inl, inr}
use Rattle.std.proofs.lemmas.Bool.{or_left, or_right, or_from, or_parts, false_from_ne_true, and_parts, or_cases}
use Rattle.std.specs.Prelude.{ℤ, ◌⊎◌, Bool, true, false, not, ◌&&◌, ◌||◌, map, ok_or, if◌then◌else◌}
use Rattle.shared_lemmas.proofs.Truths.{false_true}
use Rattle.sections.specs.Covers.{has}
use Rattle.sections.specs.Place.{Window, Place, In, has_piece, piece_at, sides_of, same_place}
use Rattle.types.specs.declared.fault.FaultKind.{FaultKind}
use Rattle.types.specs.declared.fault.FaultKind.TheVariants.{PieceSize, SplitPoint, Raised}
use Rattle.types.specs.Code.{Number, Truth, Primitive, Skip, Assign, Store, Print, Raise, Code, Do, If, While, Split}
use Rattle.types.specs.Code.{Parts, Begun, Call, Async, Finish, Rescue, Codes, End, Then, Program}
use Rattle.types.specs.Contents.{Contents, IsThere, Extends}
use Rattle.types.specs.Value.{Environment, Valued, element_of, holds_number}
use Rattle.types.specs.Run.{State, Rules, stopped, fault, with_value, assign, print, put, number_at, numbers_at}
use Rattle.types.specs.Run.{truth_at, window_at, entry, with_sides, with_piece, piece_size, in_turn, array_of, procedure_of}
use Rattle.types.specs.Run.{primitive}
use Rattle.types.proofs.Keeps.{still_there}
use Rattle.effects.specs.Accesses.{Access}
use Rattle.types.specs.Sound.{IsText, IsTextOf, passed_for}
use Rattle.effects.specs.Effects.{if_body, if_other, while, handler, AllOf, All, PendingOf, Pending, accesses}
use Rattle.effects.specs.Footprint.{Touches, Overwrites, TurnsStillWrite}
use Rattle.effects.specs.Needs.{Needs, AreNeeds, Provides, ProvidesIn}
use Rattle.race_checker.specs.Scope.{Scope, Top, Inside, AtPiece, InScope, FitsScope, may_writes, Scoped, IsScoped}
use Rattle.race_checker.specs.Calm.{Calm, IsCalm}
use Rattle.race_checker.proofs.Scoping.{length_may_writes}
use Rattle.task_run.specs.Places.{Places, written, touched}
use Rattle.task_run.specs.Ready.{Around, Ready}
use Rattle.task_run.specs.Results.{Listed, Settled}
use Rattle.task_run.specs.OwnRun.{Child, Own, child_of, list_child, begin_own, back_from, own_rules}
use Rattle.task_run.specs.Frames.{Frame, Rest, Again, Further, AtEnd, OnFault, Back, Standing, by_value, chosen}
use Rattle.task_run.specs.Frames.{acted}
use Rattle.task_run.specs.Holds.{having, locked_after, HasText, Remains, Stack, Carries, Comes, Returns, Holds}
use Rattle.task_run.specs.Lists.{Each}
use Rattle.task_run.specs.Settling.{Parted}
use Rattle.task_run.proofs.Lists.{each_last}
use Rattle.task_run.proofs.Windows.{named_some, some_named, passed_same, sides_some, around_split, split_agree}
use Rattle.task_run.proofs.Windows.{around_turn, turn_agree}
use Rattle.task_run.proofs.AccessNames.{named_all, touches_more, overwrites_more}
use Rattle.task_run.proofs.Simulation.{behind, part_ready, again_ready, split_ready, parts_ready, turn_ready, next_ready}
use Rattle.task_run.proofs.Simulation.{after_turn, call_ready, unlocked_ready, none_left, ReadyOf}
use Rattle.task_run.proofs.Stacks.{anywhere, restack, anchor, unlock, unlock_ready}
use Rattle.task_run.proofs.ComesBack.{written_touched, only_there}

abbrev pub none : Place → Type 0
none q = ⊥

back_left : (cs : List Child) (c : Child) (q : Place) → back_from cs q ≡ true → back_from (cs ++ c ∷ []) q ≡ true
back_left [] c q e = absurd (false_true e)
back_left (d ∷ cs) c q e =
    elim (or_cases (has d.listed.windows q) (back_from cs q) e) as (λ _. back_from ((d ∷ cs) ++ c ∷ []) q ≡ true) [
      | inl w ↦ or_left (has d.listed.windows q) (back_from (cs ++ c ∷ []) q) w
      | inr w ↦ or_right (has d.listed.windows q) (back_from (cs ++ c ∷ []) q) (back_left cs c q w)
    ]

back_last : (cs : List Child) (c : Child) (q : Place) → has c.listed.windows q ≡ true → back_from (cs ++ c ∷ []) q ≡ true
back_last [] c q e = or_left (has c.listed.windows q) false e
back_last (d ∷ cs) c q e = or_right (has d.listed.windows q) (back_from (cs ++ c ∷ []) q) (back_last cs c q e)

back_split : (cs : List Child) (c : Child) (q : Place) → back_from (cs ++ c ∷ []) q ≡ true
    → (back_from cs q ≡ true) ⊎ (has c.listed.windows q ≡ true)
back_split [] c q e =
    elim (or_cases (has c.listed.windows q) false e) as
    (λ _. (false ≡ true) ⊎ (has c.listed.windows q ≡ true)) [ inl w ↦ inr w | inr w ↦ inl w ]
back_split (d ∷ cs) c q e =
    elim (or_cases (has d.listed.windows q) (back_from (cs ++ c ∷ []) q) e) as
    (λ _. (back_from (d ∷ cs) q ≡ true) ⊎ (has c.listed.windows q ≡ true)) [
      | inl w ↦ inl (or_left (has d.listed.windows q) (back_from cs q) w)
      | inr w ↦ elim (back_split cs c q w) as (λ _. (back_from (d ∷ cs) q ≡ true) ⊎ (has c.listed.windows q ≡ true)) [
        | inl k ↦ inl (or_right (has d.listed.windows q) (back_from cs q) k)
        | inr k ↦ inr k
      ]
    ]

-- ---- a place that comes back is not owned
abbrev pub lists : List Child → List Listed
lists = map (λ c. c.listed)

pub parted_less : (o n : Places) (cs : List Child) → ((q : Place) → o q ≡ false → n q ≡ false) → Parted o (lists cs) → Parted n (lists cs)
parted_less o n [] h k = tt
parted_less o n (c ∷ cs) h k = (
  (λ q w. h q (k.0 q w)),
  parted_less (λ q. o q || has c.listed.windows q) (λ q. n q || has c.listed.windows q) cs
      (λ q e. let t = or_parts (o q) (has c.listed.windows q) e in or_from (n q) (has c.listed.windows q) (h q t.0) t.1) k.1,
)

parted_last : (o : Places) (cs : List Child) (c : Child)
    → ((q : Place) → has c.listed.windows q ≡ true → (o q ≡ false) × (back_from cs q ≡ false)) → Parted o (lists cs)
    → Parted o (lists (cs ++ c ∷ []))
parted_last o [] c h k = ((λ q w. (h q w).0), tt)
parted_last o (d ∷ cs) c h k = (
  k.0,
  parted_last (λ q. o q || has d.listed.windows q) cs c
      (λ q w. let i = h q w in let t =
      or_parts (has d.listed.windows q) (back_from cs q) i.1 in (or_from (o q) (has d.listed.windows q) i.0 t.0, t.1)) k.1,
)

owned_apart : (o : Places) (cs : List Child) → Parted o (lists cs) → (q : Place) → o q ≡ true → back_from cs q ≡ false
owned_apart o [] k q e = refl
owned_apart o (c ∷ cs) k q e =
    or_from (has c.listed.windows q) (back_from cs q)
    (false_from_ne_true (has c.listed.windows q) (λ w. false_true (sym (k.0 q w) ∙ e)))
    (owned_apart (λ q. o q || has c.listed.windows q) cs k.1 q (or_left (o q) (has c.listed.windows q) e))

-- what is there or owned stays so, or comes back
pub record Moves (st to : State Own) : Type 0 where
  pub there : (q : Place) → IsThere (st.store q) → IsThere (to.store q) ⊎ (back_from to.extra.pending q ≡ true)
  pub owned : (q : Place) → st.extra.owned q ≡ true → (to.extra.owned q ≡ true) ⊎ (back_from to.extra.pending q ≡ true)
  pub no_more : (q : Place) → (to.extra.owned q ≡ true) ⊎ (back_from to.extra.pending q ≡ true)
      → (st.extra.owned q ≡ true) ⊎ (back_from st.extra.pending q ≡ true)
  pub back : (q : Place) → back_from st.extra.pending q ≡ true
      → IsThere (to.store q) × (to.extra.owned q ≡ true) ⊎ (back_from to.extra.pending q ≡ true)

comes_move : (st to before : State Own) → Moves st to → Comes st before → Comes to before
comes_move st to before m h = record {
  no_more = λ q i. h.no_more q (m.no_more q i);
  there = λ q i. elim (h.there q i) as (λ _. IsThere (to.store q) ⊎ (back_from to.extra.pending q ≡ true)) [
    | inl k ↦ m.there q k
    | inr k ↦ elim (m.back q k) as (λ _. IsThere (to.store q) ⊎ (back_from to.extra.pending q ≡ true)) [ inl b ↦ inl b.0 | inr b ↦ inr b ]
  ];
  owned = λ q i. elim (h.owned q i) as (λ _. (to.extra.owned q ≡ true) ⊎ (back_from to.extra.pending q ≡ true)) [
    | inl k ↦ m.owned q k
    | inr k ↦ elim (m.back q k) as
        (λ _. (to.extra.owned q ≡ true) ⊎ (back_from to.extra.pending q ≡ true)) [ inl b ↦ inl b.1 | inr b ↦ inr b ]
  ];
}

module _ (p : Program) (needs : Codes → Needs) where
  pub returns_move : (st to : State Own) → Moves st to → (gs : List (Frame Own)) → Returns p needs st gs → Returns p needs to gs
  returns_move st to m [] h = tt
  returns_move st to m (Rest b ∷ gs) h = returns_move st to m gs h
  returns_move st to m (Again l t b ∷ gs) h = returns_move st to m gs h
  returns_move st to m (Further l s n j q i b ∷ gs) h = returns_move st to m gs h
  returns_move st to m (AtEnd before ∷ gs) h = (comes_move st to before m h.0, h.1, h.2, h.3)
  returns_move st to m (OnFault before x b ∷ gs) h = returns_move st to m gs h
  returns_move st to m (Back env ∷ gs) h = returns_move st to m gs h

  -- what comes back doesn't depend on the names of sections
  returns_in : (st : State Own) (env : Environment) (gs : List (Frame Own)) → Returns p needs st gs
      → Returns p needs (record st { environment = env }) gs
  returns_in st env =
      returns_move st (record st { environment = env }) (record { there = λ q. inl; owned = λ q. inl; back = λ q. inr; no_more = λ q i. i })

  -- a block has all that it touches if nothing is locked
  remains_alone : (f : ℕ → Window) (c : Contents) (o : Places) (b : Codes) → IsText b → (sc : Scope) (env : Environment)
      → ((s : ℕ) → InScope sc s → f s ≡ env.windows s) → FitsScope sc env → Scoped p sc b → Calm p sc b → ProvidesIn p needs b
      → ((q : Place) → Touches env (All p accesses b) q → IsThere (c q))
      → ((q : Place) → Overwrites env (All p accesses b) q → o q ≡ true)
      → Remains p needs f anywhere c o none b sc env
  remains_alone f c o b text sc env known fits scoped calm provided held wrote = record {
    inside = λ z i. tt;
    known = known;
    ready = unlocked_ready p needs (having sc env c o) (locked_after p needs env none b) b text fits scoped calm provided held wrote
        (λ q t. inr (inl t));
  }

  -- ---- a state in which only written places differ
  pub record Alike (st to : State Own) : Type 0 where
    pub windows : (s : ℕ) → to.environment.windows s ≡ st.environment.windows s
    pub stores : Extends st.store to.store
    pub owned : to.extra.owned ≡ st.extra.owned
    pub pending : to.extra.pending ≡ st.extra.pending

  alike_moves : (st to : State Own) → Alike st to → Moves st to
  alike_moves st to a = record {
    there = λ q h. inl (a.stores q h);
    owned = λ q h. inl (ap (λ (o : Places). o q) a.owned ∙ h);
    back = λ q h. inr (ap (λ cs. back_from cs q) a.pending ∙ h);
    no_more = λ q i. elim i as (λ _. (st.extra.owned q ≡ true) ⊎ (back_from st.extra.pending q ≡ true)) [
      | inl k ↦ inl (ap (λ (o : Places). o q) (sym a.owned) ∙ k)
      | inr k ↦ inr (ap (λ cs. back_from cs q) (sym a.pending) ∙ k)
    ];
  }

  same_alike : (st : State Own) → Alike st st
  same_alike st = record { windows = λ s. refl; stores = λ q h. h; owned = refl; pending = refl }

  fault_alike : (l : ℕ) (k : FaultKind) (st : State Own) → Alike st (fault l k st)
  fault_alike l k st = record { windows = λ s. refl; stores = λ q h. h; owned = refl; pending = refl }

  value_alike : {B : Type 0} (l : ℕ) (v : Valued B) (go : B → State Own → State Own) (st : State Own) → ((y : B) → Alike st (go y st))
      → Alike st (with_value l v go st)
  value_alike l (Ok y) go st h = h y
  value_alike l (Err k) go st h = fault_alike l k st

  put_alike : (l : ℕ) (fits : Bool) (q : Place) (v : ℤ) (st : State Own) → Alike st (put l fits q v st)
  put_alike l true q v st =
      record { windows = λ s. refl; stores = λ r h. still_there (same_place q r) (Some v) (st.store r) tt h; owned = refl; pending = refl }
  put_alike l false q v st = fault_alike l _ st

  primitive_alike : (l : ℕ) (s : Primitive) (st : State Own) → Alike st (primitive p l s st)
  primitive_alike l Skip st = same_alike st
  primitive_alike l (Assign n e) st =
      value_alike l (number_at st e) (assign n) st (λ v. record { windows = λ s. refl; stores = λ q h. h; owned = refl; pending = refl })
  primitive_alike l (Store s i e) st =
      value_alike l (number_at st i) _ st (λ at. value_alike l (number_at st e) _ st (λ v.
      value_alike l (element_of (window_at st s) at) _ st (λ q. put_alike l (holds_number (array_of p q.array).element v) q v st)))
  primitive_alike l (Print es) st =
      value_alike l (numbers_at st es) print st (λ vs. record { windows = λ s. refl; stores = λ q h. h; owned = refl; pending = refl })
  primitive_alike l (Raise e) st = value_alike l (number_at st e) _ st (λ v. fault_alike l (Raised v) st)

  module _ (is_scoped : IsScoped p) (is_calm : IsCalm p) (provides : Provides p needs) (nest : ℕ) (close : State Own → Option Settled) where
    abbrev r : Rules Own
    r = own_rules needs nest close

    -- a statement about to run, above frames
    pub record Before (sc : Scope) (env : Environment) (l : ℕ) (s : Code) (gs : List (Frame Own)) (st : State Own) : Type 0 where
      pub known : (z : ℕ) → InScope sc z → st.environment.windows z ≡ env.windows z
      pub ready : ReadyOf p needs (having sc env st.store st.extra.owned) none
          (behind p needs (having sc env st.store st.extra.owned) none s) l s
      pub lower : Stack p needs st.environment.windows (InScope sc) st.store st.extra.owned
          (behind p needs (having sc env st.store st.extra.owned) none s) gs
      pub texts : Each HasText gs
      pub carried : Each (Carries p needs) st.extra.pending
      pub parted : Parted st.extra.owned (lists st.extra.pending)
      pub returns : Returns p needs st gs

    module _ (sc : Scope) (env : Environment) (l : ℕ) (s : Code) (gs : List (Frame Own)) (st : State Own)
        (h : Before sc env l s gs st) where
      abbrev x : Around
      x = having sc env st.store st.extra.owned

      abbrev mid : Place → Type 0
      mid = behind p needs x none s

      -- it did nothing except write
      pub plain : (to : State Own) → Alike st to → Holds p needs (record { frames = gs; state = to })
      plain to a = record {
        stack = restack p needs st.environment.windows to.environment.windows (InScope sc) anywhere to.store to.extra.owned none gs
            (λ s i. tt) (λ s i. a.windows s)
            (anchor p needs st.store to.store st.extra.owned to.extra.owned st.environment.windows (InScope sc) mid none gs
            (record {
              there = λ q n. a.stores q;
              owned = λ q n e. ap (λ (o : Places). o q) a.owned ∙ e;
              fewer_locks =
                  λ q n. absurd n;
            }) h.lower);
        texts = h.texts;
        carried = subst (Each (Carries p needs)) (sym a.pending) h.carried;
        parted = subst (λ o. Parted o (lists to.extra.pending)) (sym a.owned)
            (subst (λ cs. Parted st.extra.owned (lists cs)) (sym a.pending) h.parted);
        returns = returns_move st to (alike_moves st to a) gs h.returns;
      }

      -- a block locks at most what the statement locks
      abbrev after : Environment → Codes → Place → Type 0
      after env b = locked_after p needs env none b

      fewer : (e : Environment) (b : Codes) → ((q : Place) → Overwrites e (Pending p accesses b) q → mid q)
          → ((q : Place) → TurnsStillWrite p e b q → mid q) → (q : Place) → after e b q → mid q
      fewer e b f g q m = elim m as (λ _. mid q) [
        | inl n ↦ absurd n
        | inr k ↦ elim k as (λ _. mid q) [ inl i ↦ f q i | inr i ↦ g q i ]
      ]

      lower_for : (e : Environment) (b : Codes) → ((q : Place) → Overwrites e (Pending p accesses b) q → mid q)
          → ((q : Place) → TurnsStillWrite p e b q → mid q)
          → Stack p needs st.environment.windows (InScope sc) st.store st.extra.owned (after e b) gs
      lower_for e b f g =
          unlock p needs st.environment.windows (InScope sc) st.store st.extra.owned mid (after e b) gs (fewer e b f g) h.lower

      left_of : (limit : ℕ → Type 0) (b : Codes) → ((z : ℕ) → InScope sc z → limit z) → Ready p needs x none mid b
          → Remains p needs st.environment.windows limit st.store st.extra.owned none b sc env
      left_of limit b i k = record {
        inside = i;
        known = h.known;
        ready = unlock_ready p needs st.store st.extra.owned sc env none none mid b (λ q j. j) k;
      }

      -- a block of it, in the same scope
      block_holds : (b : Codes) → IsText b → Ready p needs x none mid b → Holds p needs (record { frames = Rest b ∷ gs; state = st })
      block_holds b text k =
          record {
            stack = (sc, env, left_of anywhere b (λ z i. tt) k, lower_for env b k.added k.turns_added);
            texts = (text, h.texts);
            carried = h.carried;
            parted =
                h.parted;
            returns = h.returns;
          }

      value_holds : {B : Type 0} (v : Valued B) (go : B → Standing Own) → ((y : B) → v ≡ Ok y → Holds p needs (go y))
          → Holds p needs (by_value l v go gs st)
      value_holds {B} v go k = by_case v refl
        where
          by_case : (w : Valued B) → v ≡ w → Holds p needs (by_value l w go gs st)
          by_case (Ok y) e = k y e
          by_case (Err f) e = plain (fault l f st) (fault_alike l f st)

      -- what an async's body needs, by the windows of the statement's scope
      module _ (b : Codes) (a : AreNeeds p b (needs b)) (scoped : Scoped p sc b) where
        window_of : (y : Access) → All p accesses b y → env.windows y.section ≡ st.environment.windows y.section
        window_of y m = sym (h.known y.section (named_all p is_scoped.procedures sc b y scoped m))

        pub written_overwrites : (q : Place) → written st.environment (needs b) q ≡ true → Overwrites env (All p accesses b) q
        written_overwrites q w =
            let i = named_some st.environment (needs b).writes q w in
            let m = a.are_written i.section i.listed in
            record {
              access = m.access;
              among = m.among;
              writes = m.writes;
              place = subst (λ w. In w q) (ap st.environment.windows (sym m.names) ∙ sym (window_of m.access m.among)) i.place;
            }

        overwrites_written : (q : Place) → Overwrites env (All p accesses b) q → written st.environment (needs b) q ≡ true
        overwrites_written q t =
            some_named st.environment (needs b).writes t.access.section q
            (a.has_writes t.access.section (record { access = t.access; among = t.among; names = refl; writes = t.writes }))
            (subst (λ w. In w q) (window_of t.access t.among) t.place)

        touches_touched : (q : Place) → Touches env (All p accesses b) q → touched st.environment (needs b) q ≡ true
        touches_touched q t =
            some_named st.environment ((needs b).writes ++ (needs b).reads) t.access.section q
            (a.has_reads t.access.section (record { access = t.access; among = t.among; names = refl }))
            (subst (λ w. In w q) (window_of t.access t.among) t.place)

    pub relimit : (f : ℕ → Window) (limit : ℕ → Type 0) (c : Contents) (o : Places) (locked : Place → Type 0) (gs : List (Frame Own))
        → Stack p needs f limit c o locked gs → Stack p needs f anywhere c o locked gs
    relimit f limit c o locked gs k = restack p needs f f limit anywhere c o locked gs (λ s i. tt) (λ s i. refl) k

    chosen_holds : (v : Bool) (fs gs : List (Frame Own)) (st : State Own) → Holds p needs (record { frames = fs; state = st })
        → Holds p needs (record { frames = gs; state = st })
        → Holds p needs (chosen v fs gs st)
    chosen_holds true fs gs st h k = h
    chosen_holds false fs gs st h k = k

    -- an iteration of a loop
    loop_holds : (sc : Scope) (env : Environment) (l : ℕ) (t : Truth) (b : Codes) (gs : List (Frame Own)) (st : State Own) → IsText b
        → Before sc env l (While t b) gs st
        → Holds p needs (record { frames = Rest b ∷ Again l t b ∷ gs; state = st })
    loop_holds sc env l t b gs st text h =
        let s = While t b in
        let here = x sc env l s gs st h in
        let m = mid sc env l s gs st h in
        let body =
        part_ready p needs here none m l s b text (λ y i. AllOf.inner while i refl)
        (λ y i. PendingOf.inner while i refl) h.ready.scoped h.ready.calm.0 h.ready.provided h.ready in
        let again = again_ready p needs here none m l t b h.ready in
        let turn : Codes = Then l s End in
        let lock = after sc env l s gs st h env b in
        let down : (q : Place) → lock q → m q = fewer sc env l s gs st h env b body.added body.turns_added in
        record {
          stack = (
            sc,
            env,
            left_of sc env l s gs st h anywhere b (λ z i. tt) body,
            (
              sc,
              env,
              record {
                inside = λ z i. i;
                known = h.known;
                ready = unlock_ready p needs st.store st.extra.owned sc env m lock m turn down again;
              },
              unlock p needs st.environment.windows (InScope sc) st.store st.extra.owned m (locked_after p needs env lock turn) gs
                  (λ q k. elim k as (λ _. m q) [
                    | inl j ↦ down q j
                    | inr j ↦ elim j as (λ _. m q) [ inl z ↦ again.added q z | inr z ↦ again.turns_added q z ]
                  ]) h.lower,
            ),
          );
          texts = (text, (text, h.texts));
          carried = h.carried;
          parted = h.parted;
          returns = h.returns;
        }

    -- the body of a split
    split_holds : (sc : Scope) (env : Environment) (l : ℕ) (s : ℕ) (e : Number) (u v : ℕ) (b : Codes) (gs : List (Frame Own))
        (st : State Own) → IsText b → Before sc env l (Split s e u v b) gs st
        → (at : ℤ) (ws : Window × Window) → sides_of (st.environment.windows s) at ≡ Some ws
        → Holds p needs (record { frames = Rest b ∷ gs; state = record st { environment = with_sides u v ws st.environment } })
    split_holds sc env l s e u v b gs st text h at ws is =
        let c = Split s e u v b in
        let here = x sc env l c gs st h in
        let m = mid sc env l c gs st h in
        let cut = ap (λ w. sides_of w at) (sym (h.known s h.ready.scoped.0)) ∙ is in
        let body = split_ready p needs here none m l s e u v b h.ready at ws cut text in
        let new = with_sides u v ws env in
        let to = with_sides u v ws st.environment in
        record {
          stack = (
            Inside s u v sc,
            new,
            record {
              inside = λ z i. tt;
              known = λ z i. split_agree u v ws st.environment.windows env.windows z (in_scope z i);
              ready = unlock_ready p needs st.store st.extra.owned (Inside s u v sc) new none none m b (λ q j. j) body;
            },
            restack p needs st.environment.windows to.windows (InScope sc) (InScope (Inside s u v sc)) st.store st.extra.owned
                (after sc env l c gs st h new b) gs
                (λ z i. inr (inr i)) (λ z i. around_split sc u v ws st.environment h.ready.scoped.1 h.ready.scoped.2 z i)
                (lower_for sc env l c gs st h new b body.added body.turns_added),
          );
          texts = (text, h.texts);
          carried = h.carried;
          parted = h.parted;
          returns = returns_in st to gs h.returns;
        }
      where
        in_scope : (z : ℕ) → InScope (Inside s u v sc) z → (z ≡ u) ⊎ (z ≡ v) ⊎ (st.environment.windows z ≡ env.windows z)
        in_scope z (inl i) = inl i
        in_scope z (inr (inl i)) = inr (inl i)
        in_scope z (inr (inr i)) = inr (inr (h.known z i))

    -- the turns of a `parts`
    parts_holds : (sc : Scope) (env : Environment) (l s : ℕ) (e : Number) (q i : ℕ) (b : Codes) (gs : List (Frame Own)) (st : State Own)
        → IsText b → Before sc env l (Parts s e q i b) gs st → (n : ℕ)
        → Holds p needs (record { frames = Further l s n 0 q i b ∷ gs; state = st })
    parts_holds sc env l s e q i b gs st text h n =
        let c = Parts s e q i b in
        let here = x sc env l c gs st h in
        let m = mid sc env l c gs st h in
        let turns : Codes = Then l (Begun s n 0 q i b) End in
        let ready = parts_ready p needs here none m l s e q i b h.ready n in
        record {
          stack = (
            sc,
            env,
            left_of sc env l c gs st h anywhere turns (λ z i. tt) ready,
            lower_for sc env l c gs st h env turns ready.added ready.turns_added,
          );
          texts = (text, h.texts);
          carried = h.carried;
          parted = h.parted;
          returns = h.returns;
        }

    -- the block of a turn
    pub begun_holds : (sc : Scope) (env : Environment) (l s n j q i : ℕ) (b : Codes) (gs : List (Frame Own)) (st : State Own)
        → IsText b → Before sc env l (Begun s n j q i b) gs st → has_piece (st.environment.windows s) n j ≡ true
        → Holds p needs (record { frames = Rest b ∷ Further l s n (j + 1) q i b ∷ gs; state = in_turn s n j q i st })
    begun_holds sc env l s n j q i b gs st text h left =
        let c = Begun s n j q i b in
        let here = x sc env l c gs st h in
        let m = mid sc env l c gs st h in
        let is : has_piece (env.windows s) n j ≡ true = ap (λ w. has_piece w n j) (sym (h.known s h.ready.scoped.0)) ∙ left in
        let body = turn_ready p needs here none m l s n j q i b h.ready is text in
        let next = next_ready p needs here none m l s n j q i b h.ready is in
        let between : Place → Type 0 = after_turn p needs here none m l s n j q i b h.ready is in
        let new = with_piece q i (piece_at n j (env.windows s)) j env in
        let to = with_piece q i (piece_at n j (st.environment.windows s)) j st.environment in
        let turns : Codes = Then l (Begun s n (j + 1) q i b) End in
        let lock = after sc env l c gs st h new b in
        let down : (z : Place) → lock z → between z = λ z k. elim k as (λ _. between z) [
          | inl n ↦ inl n
          | inr o ↦ elim o as (λ _. between z) [ inl o ↦ inr o | inr o ↦ none_left p needs b text new z o ]
        ] in
        record {
          stack = (
            AtPiece s q sc,
            new,
            record {
              inside = λ z i. tt;
              known = λ z i. turn_agree q (piece_at n j (st.environment.windows s)) (piece_at n j (env.windows s)) st.environment.windows
                  env.windows z (ap (piece_at n j) (h.known s h.ready.scoped.0)) (in_scope z i);
              ready = unlock_ready p needs st.store st.extra.owned (AtPiece s q sc) new none none between b (λ q j. j) body;
            },
            (
              sc,
              env,
              record {
                inside = λ z i. inr i;
                known = λ z k. around_turn sc q i (piece_at n j (st.environment.windows s)) j st.environment h.ready.scoped.1 z k
                    ∙ h.known z k;
                ready = unlock_ready p needs st.store st.extra.owned sc env between lock m turns down next;
              },
              restack p needs st.environment.windows to.windows (InScope sc) (InScope sc) st.store st.extra.owned
                  (locked_after p needs env lock turns) gs (λ z i. i)
                  (around_turn sc q i (piece_at n j (st.environment.windows s)) j st.environment h.ready.scoped.1)
                  (unlock p needs st.environment.windows (InScope sc) st.store st.extra.owned m (locked_after p needs env lock turns) gs
                  (λ z k. elim k as (λ _. m z) [
                    | inl o ↦ next.kept z (down z o)
                    | inr o ↦ elim o as (λ _. m z) [ inl o ↦ next.added z o | inr o ↦ next.turns_added z o ]
                  ]) h.lower),
            ),
          );
          texts = (text, (text, h.texts));
          carried = h.carried;
          parted = h.parted;
          returns = returns_in st to gs h.returns;
        }
      where
        in_scope : (z : ℕ) → InScope (AtPiece s q sc) z → (z ≡ q) ⊎ (st.environment.windows z ≡ env.windows z)
        in_scope z (inl i) = inl i
        in_scope z (inr i) = inr (h.known z i)

    -- the body of a call
    call_holds : (sc : Scope) (env : Environment) (l f : ℕ) (es : List Number) (ss : List ℕ) (gs : List (Frame Own)) (st : State Own)
        → Before sc env l (Call f es ss) gs st
        → (vs : List ℤ) → Holds p needs
        (record {
          frames = Rest (procedure_of p f).body ∷ Back st.environment ∷ gs;
          state =
              record st { environment = entry vs (map (window_at st) ss) };
        })
    call_holds sc env l f es ss gs st h vs =
        let c = Call f es ss in
        let here = x sc env l c gs st h in
        let m = mid sc env l c gs st h in
        let b = (procedure_of p f).body in
        let top = Top (may_writes (procedure_of p f)) in
        let new = entry [] (map env.windows ss) in
        let to = entry vs (map (window_at st) ss) in
        let body =
        call_ready p needs here none m l f es ss h.ready (is_scoped.procedure_texts f) (is_scoped.procedures f) (is_calm.procedures f) (provides.procedures f) in
        record {
          stack = (
            top,
            new,
            record {
              inside = λ z i. tt;
              known = λ z i. passed_same st.environment.windows env.windows ss z
                  (h.known (passed_for ss z) (h.ready.scoped z (subst (λ n. z < n) (length_may_writes (procedure_of p f)) i)));
              ready = unlock_ready p needs st.store st.extra.owned top new none none m b (λ q j. j) body;
            },
            relimit st.environment.windows (InScope sc) st.store st.extra.owned (after sc env l c gs st h new b) gs
                (lower_for sc env l c gs st h new b body.added body.turns_added),
          );
          texts = (is_scoped.procedure_texts f, (tt, h.texts));
          carried = h.carried;
          parted = h.parted;
          returns = returns_in st to gs h.returns;
        }

    -- the body of a finish
    finish_holds : (sc : Scope) (env : Environment) (l : ℕ) (b : Codes) (gs : List (Frame Own)) (st : State Own) → IsText b
        → Before sc env l (Finish b) gs st
        → Holds p needs (record { frames = Rest b ∷ AtEnd st ∷ gs; state = r.enter l st })
    finish_holds sc env l b gs st text h =
        let c = Finish b in
        let m = mid sc env l c gs st h in
        record {
          stack = (
            sc,
            env,
            remains_alone _ _ _ b text sc env h.known h.ready.fits h.ready.scoped h.ready.calm h.ready.provided
                (λ q t. h.ready.held q (touches_more env _ _ q (λ y i. AllOf.finish i) t))
                (λ q t. h.ready.wrote q (overwrites_more env _ _ q (λ y i. AllOf.finish i) t)),
            unlock p needs st.environment.windows (InScope sc) st.store st.extra.owned m none gs (λ q n. absurd n) h.lower,
          );
          texts = (text, (tt, h.texts));
          carried = tt;
          parted = tt;
          returns = (
            record {
              there = λ q. inl;
              owned = λ q. inl;
              no_more =
                  λ q i. elim i as (λ _. st.extra.owned q ≡ true) [ inl k ↦ k | inr k ↦ absurd (false_true k) ];
            },
            h.carried,
            h.parted,
            h.returns,
          );
        }

    -- the body of a finish that has a handler
    rescue_holds : (sc : Scope) (env : Environment) (l : ℕ) (b : Codes) (n : ℕ) (c : Codes) (gs : List (Frame Own)) (st : State Own)
        → IsText b → IsText c → Before sc env l (Rescue b n c) gs st
        → Holds p needs (record { frames = Rest b ∷ AtEnd st ∷ OnFault st.faults n c ∷ gs; state = r.enter l st })
    rescue_holds sc env l b n c gs st text handler_text h =
        let s = Rescue b n c in
        let here = x sc env l s gs st h in
        let m = mid sc env l s gs st h in
        let ready =
        part_ready p needs here none m l s c handler_text (λ y i. AllOf.inner handler i refl)
        (λ y i. PendingOf.inner handler i refl) h.ready.scoped.1 h.ready.calm.1 h.ready.provided.1 h.ready in
        record {
          stack = (
            sc,
            env,
            remains_alone _ _ _ b text sc env h.known h.ready.fits h.ready.scoped.0 h.ready.calm.0 h.ready.provided.0
                (λ q t. h.ready.held q (touches_more env _ _ q (λ y i. AllOf.rescued i) t))
                (λ q t. h.ready.wrote q (overwrites_more env _ _ q (λ y i. AllOf.rescued i) t)),
            (
              sc,
              env,
              left_of sc env l s gs st h (InScope sc) c (λ z i. i) ready,
              lower_for sc env l s gs st h env c ready.added ready.turns_added,
            ),
          );
          texts = (text, (tt, (handler_text, h.texts)));
          carried = tt;
          parted = tt;
          returns = (
            record {
              there = λ q. inl;
              owned = λ q. inl;
              no_more =
                  λ q i. elim i as (λ _. st.extra.owned q ≡ true) [ inl k ↦ k | inr k ↦ absurd (false_true k) ];
            },
            h.carried,
            h.parted,
            h.returns,
          );
        }

    -- after an async
    async_holds : (n : ℕ) (sc : Scope) (env : Environment) (l : ℕ) (b : Codes) (gs : List (Frame Own)) (st : State Own) → IsText b
        → Before sc env l (Async b) gs st
        → Holds p needs (record { frames = gs; state = begin_own needs n b st })
    async_holds zero sc env l b gs st text h =
        plain sc env l (Async b) gs st h (stopped st) (record { windows = λ s. refl; stores = λ q k. k; owned = refl; pending = refl })
    async_holds (suc n) sc env l b gs st text h =
        let s = Async b in
        let a = h.ready.provided.0 in
        let m = mid sc env l s gs st h in
        let w = written st.environment (needs b) in
        let to = list_child (needs b) n b st in
        let c = child_of (needs b) n b st in
        let writes = written_overwrites sc env l s gs st h b a h.ready.scoped in
        let mine : (q : Place) → w q ≡ true
        → st.extra.owned q ≡ true = λ q k. h.ready.wrote q (overwrites_more env _ _ q (λ y i. AllOf.async i) (writes q k)) in
        let locks : (q : Place) → w q ≡ true → m q = λ q k. inr (inl (overwrites_more env _ _ q (λ y i. PendingOf.async i) (writes q k))) in
        record {
          stack = relimit st.environment.windows (InScope sc) to.store to.extra.owned none gs
              (anchor p needs st.store to.store st.extra.owned to.extra.owned st.environment.windows (InScope sc) m none gs
              (record {
                there = λ q free i. there_without (w q) (st.store q) (λ k. free (locks q k)) i;
                owned = λ q free e. owned_without (st.extra.owned q) (w q) (λ k. free (locks q k)) e;
                fewer_locks = λ q k. absurd k;
              }) h.lower);
          texts = h.texts;
          carried = each_last (Carries p needs) st.extra.pending c h.carried (record {
            there = λ q k. only_there (touched st.environment (needs b) q) (st.store q) (written_touched st.environment (needs b) q k)
                (h.ready.held q (touches_more env _ _ q (λ y i. AllOf.async i) (touch env q (writes q k))));
            begins = record {
              text = text;
              stack = (
                sc,
                env,
                remains_alone _ _ _ b text sc env h.known h.ready.fits h.ready.scoped h.ready.calm h.ready.provided.1
                    (λ q t. only_there (touched st.environment (needs b) q) (st.store q)
                    (touches_touched sc env l s gs st h b a h.ready.scoped q t)
                    (h.ready.held q (touches_more env _ _ q (λ y i. AllOf.async i) t)))
                    (λ q t. overwrites_written sc env l s gs st h b a h.ready.scoped q t),
                tt,
              );
            };
          });
          parted =
              parted_last to.extra.owned st.extra.pending c
              (λ q k. (owned_by (st.extra.owned q) (w q) k, owned_apart st.extra.owned st.extra.pending h.parted q (mine q k)))
              (parted_less st.extra.owned to.extra.owned st.extra.pending (λ q e. not_owned (st.extra.owned q) (w q) e) h.parted);
          returns = returns_move st to (record {
            no_more = λ q i. elim i as (λ _. (st.extra.owned q ≡ true) ⊎ (back_from st.extra.pending q ≡ true)) [
              | inl k ↦ inl (and_parts (st.extra.owned q) (not (w q)) k).0
              | inr k ↦ elim (back_split st.extra.pending c q k) as
                  (λ _. (st.extra.owned q ≡ true) ⊎ (back_from st.extra.pending q ≡ true)) [
                    | inl j ↦ inr j
                    | inr j ↦ inl (mine q j)
                  ]
            ];
            there = λ q i. there_or_back (w q) (st.store q) (back_from to.extra.pending q) (back_last st.extra.pending c q) i;
            owned = λ q e. owned_or_back (st.extra.owned q) (w q) (back_from to.extra.pending q) (back_last st.extra.pending c q) e;
            back = λ q e. inr (back_left st.extra.pending c q e);
          }) gs h.returns;
        }
      where
        touch : (env : Environment) (q : Place) → Overwrites env (All p accesses b) q → Touches env (All p accesses b) q
        touch env q t = record { access = t.access; among = t.among; place = t.place }

        owned_by : (o w : Bool) → w ≡ true → (o && not w) ≡ false
        owned_by true true e = refl
        owned_by false true e = refl
        owned_by o false e = absurd (false_true e)

        not_owned : (o w : Bool) → o ≡ false → (o && not w) ≡ false
        not_owned true w e = absurd (false_true (sym e))
        not_owned false w e = refl

        there_without : (w : Bool) (v : Option ℤ) → (w ≡ true → ⊥) → IsThere v → IsThere (if w then None else v)
        there_without true v f h = absurd (f refl)
        there_without false v f h = h

        owned_without : (o w : Bool) → (w ≡ true → ⊥) → o ≡ true → (o && not w) ≡ true
        owned_without o true f e = absurd (f refl)
        owned_without true false f e = refl
        owned_without false false f e = e

        there_or_back : (w : Bool) (v : Option ℤ) (b : Bool) → (w ≡ true → b ≡ true) → IsThere v
            → IsThere (if w then None else v) ⊎ (b ≡ true)
        there_or_back true v b f h = inr (f refl)
        there_or_back false v b f h = inl h

        owned_or_back : (o w b : Bool) → (w ≡ true → b ≡ true) → o ≡ true → ((o && not w) ≡ true) ⊎ (b ≡ true)
        owned_or_back o true b f e = inr (f refl)
        owned_or_back true false b f e = inl refl
        owned_or_back false false b f e = absurd (false_true e)

    pub acted_holds : (s : Code) → IsTextOf s → (sc : Scope) (env : Environment) (l : ℕ) (gs : List (Frame Own)) (st : State Own)
        → Before sc env l s gs st → Holds p needs (acted p r l s gs st)
    acted_holds (Do s) text sc env l gs st h = plain sc env l (Do s) gs st h (primitive p l s st) (primitive_alike l s st)
    acted_holds (If t b c) text sc env l gs st h =
        value_holds sc env l (If t b c) gs st h (truth_at st t) _ (λ v _. chosen_holds v (Rest b ∷ gs) (Rest c ∷ gs) st
        (block_holds sc env l (If t b c) gs st h b text.0
        (part_ready p needs _ none _ l _ b text.0 (λ y i. AllOf.inner if_body i refl)
        (λ y i. PendingOf.inner if_body i refl) h.ready.scoped.0 h.ready.calm.0 h.ready.provided.0 h.ready))
        (block_holds sc env l (If t b c) gs st h c text.1
        (part_ready p needs _ none _ l _ c text.1 (λ y i. AllOf.inner if_other i refl)
        (λ y i. PendingOf.inner if_other i refl) h.ready.scoped.1 h.ready.calm.1 h.ready.provided.1 h.ready)))
    acted_holds (While t b) text sc env l gs st h =
        value_holds sc env l (While t b) gs st h (truth_at st t) _ (λ v _. chosen_holds v (Rest b ∷ Again l t b ∷ gs) gs st
        (loop_holds sc env l t b gs st text h) (plain sc env l (While t b) gs st h st (same_alike st)))
    acted_holds (Split s e u v b) text sc env l gs st h =
        value_holds sc env l (Split s e u v b) gs st h (number_at st e) _ (λ at _.
        value_holds sc env l (Split s e u v b) gs st h (ok_or (sides_of (window_at st s) at) SplitPoint) _ (λ ws is.
        split_holds sc env l s e u v b gs st text h at ws (sides_some (sides_of (window_at st s) at) ws is)))
    acted_holds (Parts s e q i b) text sc env l gs st h =
        value_holds sc env l (Parts s e q i b) gs st h (number_at st e) _ (λ v _.
        value_holds sc env l (Parts s e q i b) gs st h (ok_or (piece_size v) PieceSize) _ (λ n _.
        parts_holds sc env l s e q i b gs st text h n))
    acted_holds (Begun s n j q i b) text sc env l gs st h = absurd text
    acted_holds (Call f es ss) text sc env l gs st h =
        value_holds sc env l (Call f es ss) gs st h (numbers_at st es) _ (λ vs _. call_holds sc env l f es ss gs st h vs)
    acted_holds (Async b) text sc env l gs st h = async_holds nest sc env l b gs st text h
    acted_holds (Finish b) text sc env l gs st h = finish_holds sc env l b gs st text h
    acted_holds (Rescue b n c) text sc env l gs st h = rescue_holds sc env l b n c gs st text.0 text.1 h

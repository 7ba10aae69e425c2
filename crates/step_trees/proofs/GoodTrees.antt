-- Facts about each reachable tree of an accepted program: environments fit, and sides are separate.
use Rattle.std.proofs.Common.{◌≡◌, inl, inr, ℕ, ◌+◌, List, [], ◌∷◌, ◌++◌, map, Option, Some, None, refl, sym, ap, ◌∙◌, subst, arith}
use Rattle.std.specs.Prelude.{ℤ, Bool, true, false, ok_or, Ok, Err, if◌then◌else◌}
use Rattle.sections.specs.Place.{Window, sides_of, has_piece, piece_at, piece_of}
use Rattle.sections.specs.Member.{next}
use Rattle.types.specs.declared.fault.FaultKind.{FaultKind}
use Rattle.types.specs.declared.fault.FaultKind.TheVariants.{SplitPoint}
use Rattle.types.specs.Code.{Number, Truth, Code, Do, If, While, Split, Parts, Begun, Call, Async, Finish, Rescue, Codes, End, Then, Procedure, Program}
use Rattle.types.specs.Contents.{Contents, read}
use Rattle.types.specs.Value.{Environment, Valued, then_try, number, numbers, truth}
use Rattle.types.specs.Run.{Flow, On, Faulted, Stopped, Fault, State, primitive, procedure_of, entry, with_sides, with_piece}
use Rattle.types.specs.Sound.{IsText}
use Rattle.types.specs.Outcome.{whole_arrays}
use Rattle.types.specs.Trees.{Caller, Leaf, Handler, NoHandler, HandledBy, Tree, Single, AndThen, Beside, append, single, done, failed, task_environment, owner_environment, outermost, returned_by, return_to, before_rest, all_done, faults_of, unless_faulted, handling, after_faults, closed, and_then, called, child, parent, inside, held_back}
use Rattle.types.specs.TreeSteps.{on_value, as_state, by_flow, size_by, before_turns, in_piece, tree_after, first_leaf, first_tree}
use Rattle.types.specs.TreeRuns.{Runs, here, next as go_next, Reachable}
use Rattle.effects.specs.Accesses.{Access}
use Rattle.effects.specs.Effects.{Inner, AllOf, Pending, PendingOf, accesses}
use Rattle.effects.specs.Footprint.{MayTouch, MayWrite, MayStillTouch, MayStillWrite, InTurnToCome}
use Rattle.effects.specs.Sound.{Follows, IsSound, parameters_of}
use Rattle.effects.specs.Kept.{SameWindows}
use Rattle.effects.proofs.EnvironmentsFit.{fits_at_start, fits_inside_split, fits_in_turn, fits_in_call, at_other, at_piece}
use Rattle.effects.proofs.Footprints.{call-reads, call-writes, call-pending_reads, call-pending_writes, split-reads, split-writes, split-pending_reads, split-pending_writes, turn-reads, turn-writes, turn-pending_reads, turn-pending_writes}
use Rattle.race_checker.specs.Clash.{IsAccepted}
use Rattle.race_checker.specs.Calm.{Calm, IsCalm}
use Rattle.race_checker.specs.Scope.{Top, Inside, AtPiece, Lists, may_writes}
use Rattle.race_checker.proofs.Calming.{is_calm}
use Rattle.race_checker.proofs.Scoping.{arrays_written}
use Rattle.step_trees.proofs.Deeds.{primitive_windows}
use Rattle.step_trees.proofs.ComingTurns.{Among}
use Rattle.step_trees.proofs.Scopes.{fits_scope}
use Rattle.step_trees.proofs.Statements.{from_either}
use Rattle.step_trees.specs.Still.{Footprint, both, Separate, all, waiting, left_of, in_handler, still}
use Rattle.step_trees.proofs.Steps.{Step, step_from, continuing}
use Rattle.step_trees.proofs.Footprints.{Within, within_itself, within_trans, first_within, second_within, both_within, beside_within, nothing_within, separate_within, separate_both, separate_nothing, separate_alone, pending, does, leaves, append_all, append_pending, statement_all, rest_all, statement_pending, rest_pending, cons_all, cons_pending, text_all, text_pending, text_does, text_leaves, among, separate_from}
use Rattle.step_trees.proofs.PlacedStatements.{text_written, IsPlaced, Focus, focus, keep_below, apart_end, end_within, end_placed, same_placed, same_all, same_pending, rest_placed, focused, rest_apart, FitsIn, fits_there, prefixed, alone}

module _ (p : Program) where
  -- a leaf's statements with those that wait for its calls; outside of all calls the windows of `keep` stay
  abbrev pub Stack : (keep scope : List ℕ) → Environment → Codes → List Caller → Type 0
  Stack keep scope env c [] = IsPlaced p keep scope env c
  Stack keep scope env c (f ∷ fs) =
      IsPlaced p [] scope env c × Separate (pending p env c) (waiting p (f ∷ fs)) × ((other : List ℕ) × Stack keep other f.environment f.rest fs)

  -- and with the handler of a finish before them
  abbrev pub HandlerStack : (keep scope : List ℕ) → Handler → Leaf → Type 0
  HandlerStack keep scope NoHandler k = Unit {0}
  HandlerStack keep scope (HandledBy n c) k = Stack keep scope k.environment (append c k.rest) k.callers

  pub data Good : (keep : List ℕ) → Tree → Type 0 where
    is_leaf : {keep : List ℕ} {k : Leaf} (scope : List ℕ) → Stack keep scope k.environment k.rest k.callers
        → Good keep (Single k)
    is_then : {keep : List ℕ} {t : Tree} {h : Handler} {k : Leaf} (scope : List ℕ)
        → Stack keep scope k.environment k.rest k.callers → HandlerStack keep scope h k → Good scope t
        → SameWindows scope k.environment (owner_environment t) → Good keep (AndThen t h k)
    is_beside : {keep other : List ℕ} {t u : Tree} → Good other t → Good keep u → Separate (still p t) (still p u)
        → Good keep (Beside t u)

  -- a tree in the place of a leaf with this environment and footprint
  pub record Kept (keep : List ℕ) (env : Environment) (f : Footprint) (u : Tree) : Type 0 where
    pub good : Good keep u
    pub within : Within (still p u) f
    pub same : SameWindows keep env (owner_environment u)

  pub kept_trans : {keep : List ℕ} {env other : Environment} {f g : Footprint} {u : Tree} → SameWindows keep env other
      → Within g f → Kept keep other g u → Kept keep env f u
  kept_trans same w k = record { good = k.good; within = within_trans k.within w; same = λ x m. same x m ∙ k.same x m }

  -- A leaf's statements change

  -- other statements in another environment in the place of these
  pub record Moved (keep scope : List ℕ) (env : Environment) (c : Codes) (to : Environment) (d : Codes) : Type 0 where
    pub placed : IsPlaced p keep scope to d
    pub all : Within (all p to d) (all p env c)
    pub pending : Within (pending p to d) (pending p env c)
    pub same : SameWindows keep env to

  pub record MovedStack (keep : List ℕ) (env : Environment) (c : Codes) (to : Environment) (d : Codes) (fs : List Caller) (P : List ℕ → Type 0) : Type 0 where
    pub scope : List ℕ
    pub stack : Stack keep scope to d fs
    pub within : Within (both (all p to d) (waiting p fs)) (both (all p env c) (waiting p fs))
    pub same : SameWindows keep (outermost fs env) (outermost fs to)
    pub more : P scope

  abbrev Moves : (scope : List ℕ) (env : Environment) (c : Codes) (to : Environment) (d : Codes) (P : List ℕ → Type 0)
      → Type 0
  Moves scope env c to d P = (keep : List ℕ) → IsPlaced p keep scope env c → (inner : List ℕ) × Moved keep inner env c to d × P inner

  stack_moved : (keep scope : List ℕ) {env to : Environment} {c d : Codes} (P : List ℕ → Type 0) (fs : List Caller)
      → Moves scope env c to d P → Stack keep scope env c fs → MovedStack keep env c to d fs P
  stack_moved keep scope P [] f s =
      let (inner, m, x) = f keep s in
      record { scope = inner; stack = m.placed; within = beside_within m.all (within_itself _); same = m.same; more = x }
  stack_moved keep scope P (g ∷ gs) f s =
      let (inner, m, x) = f [] s.0 in
      record {
        scope = inner;
        stack = (m.placed, separate_within m.pending (within_itself _) s.1, s.2);
        within = beside_within m.all (within_itself _);
        same = λ x m. refl;
        more = x;
      }

  -- two lists of statements in the place of one, in one scope
  pub record MovedTwice (keep : List ℕ) (env : Environment) (c d : Codes) (fs : List Caller) (P : List ℕ → Type 0) : Type 0 where
    pub scope : List ℕ
    pub first : Stack keep scope env c fs
    pub second : Stack keep scope env d fs
    pub more : P scope

  moved_twice : (keep scope : List ℕ) {env : Environment} {c d e : Codes} (P : List ℕ → Type 0) (fs : List Caller)
      → ((keep : List ℕ) → IsPlaced p keep scope env e
      → (inner : List ℕ) × Moved keep inner env e env c × Moved keep inner env e env d × P inner)
      → Stack keep scope env e fs → MovedTwice keep env c d fs P
  moved_twice keep scope P [] f s =
      let (inner, m, n, x) = f keep s in record { scope = inner; first = m.placed; second = n.placed; more = x }
  moved_twice keep scope P (g ∷ gs) f s =
      let (inner, m, n, x) = f [] s.0 in
      record {
        scope = inner;
        first = (m.placed, separate_within m.pending (within_itself _) s.1, s.2);
        second = (n.placed, separate_within n.pending (within_itself _) s.1, s.2);
        more = x;
      }

  -- Back from calls, and out of them

  back_with : (keep scope : List ℕ) (k : Leaf) (env : Environment) (c : Codes) (fs : List Caller)
      → ((j : Leaf) → (scope : List ℕ) → Stack keep scope j.environment End fs → Kept keep (outermost fs j.environment) (both (all p j.environment End) (waiting p fs)) (Single (return_to fs j)))
      → Stack keep scope env c fs
      → Kept keep (outermost fs env) (both (all p env c) (waiting p fs)) (Single (elim c [
        | End ↦ return_to fs (record k { environment = env })
        | Then l s rest ↦ record k { environment = env; rest = Then l s rest; callers = fs }
      ]))
  back_with keep scope k env End fs deeper s = deeper (record k { environment = env }) scope s
  back_with keep scope k env (Then l s rest) fs deeper st = record { good = Good.is_leaf scope st; within = within_itself _; same = λ x m. refl }

  back : (keep : List ℕ) (fs : List Caller) (k : Leaf) (scope : List ℕ) → Stack keep scope k.environment End fs
      → Kept keep (outermost fs k.environment) (both (all p k.environment End) (waiting p fs)) (Single (return_to fs k))
  back keep [] k scope s = record { good = Good.is_leaf scope s; within = within_itself _; same = λ x m. refl }
  back keep (f ∷ fs) k scope s = kept_trans (λ x m. refl) (second_within _ _) (back_with keep s.2.0 k f.environment f.rest fs (back keep fs) s.2.1)

  pub returned_kept : (keep scope : List ℕ) (c : Codes) (k : Leaf) → k.rest ≡ c
      → Stack keep scope k.environment c k.callers
      → Kept keep (task_environment k) (both (all p k.environment c) (waiting p k.callers)) (Single (returned_by c k))
  returned_kept keep scope End k e s = back keep k.callers k scope s
  returned_kept keep scope (Then l s rest) k e st = record {
    good = Good.is_leaf scope (subst (λ c. Stack keep scope k.environment c k.callers) (sym e) st);
    within = subst (λ c. Within (left_of p k) (both (all p k.environment c) (waiting p k.callers))) e (within_itself _);
    same = λ x m. refl;
  }

  pub one_kept : (keep scope : List ℕ) (k : Leaf) → Stack keep scope k.environment k.rest k.callers
      → Kept keep (task_environment k) (left_of p k) (single k)
  one_kept keep scope k s = returned_kept keep scope k.rest k refl s

  base_placed : (keep : List ℕ) (fs : List Caller) (scope : List ℕ) (env : Environment) (c : Codes)
      → Stack keep scope env c fs → (other : List ℕ) × IsPlaced p keep other (outermost fs env) End
  base_placed keep [] scope env c s = (scope, end_placed p s)
  base_placed keep (f ∷ fs) scope env c s = base_placed keep fs s.2.0 f.environment f.rest s.2.1

  pub done_kept : (keep scope : List ℕ) (c : Codes) (k : Leaf) (f : Footprint)
      → Stack keep scope k.environment c k.callers → Kept keep (task_environment k) f (Single (done k))
  done_kept keep scope c k f s = record {
    good = (let b = base_placed keep k.callers scope k.environment c s in Good.is_leaf b.0 b.1);
    within = both_within (end_within p _ f) (nothing_within f);
    same = λ x m. refl;
  }

  -- what waits for a call keeps apart from what the call leaves pending
  pub pending_waiting : (keep scope : List ℕ) (env : Environment) (c : Codes) (fs : List Caller)
      → Stack keep scope env c fs → Separate (pending p env c) (waiting p fs)
  pending_waiting keep scope env c [] s = separate_nothing _
  pending_waiting keep scope env c (f ∷ fs) s = s.1

  module _ (sound : IsSound p) where
    -- The end of a finish

    same_moves : {scope : List ℕ} {env to : Environment} {c : Codes} → SameWindows scope env to
        → Moves scope env c to c (λ x. Unit {0})
    same_moves {scope = scope} {env = env} {to = to} same keep k = (
      scope,
      record {
        placed = same_placed p sound {env = env} {other = to} same k;
        all = same_all p sound {env = env} {other = to} same k;
        pending = same_pending p sound {env = env} {other = to} same k;
        same = λ x m. same x (keep_below p k x m);
      },
      tt,
    )

    unless_kept : (keep scope : List ℕ) (fs : List Fault) (k : Leaf) → Stack keep scope k.environment k.rest k.callers
        → Kept keep (task_environment k) (left_of p k) (Single (unless_faulted fs k))
    unless_kept keep scope [] k s = one_kept keep scope k s
    unless_kept keep scope (f ∷ fs) k s = done_kept keep scope k.rest k (left_of p k) s

    ended_kept : (keep scope : List ℕ) (h : Handler) (fs : List Fault) (t : Tree) (k : Leaf)
        → Stack keep scope k.environment k.rest k.callers → HandlerStack keep scope h k
        → SameWindows scope k.environment (owner_environment t)
        → Kept keep (task_environment k) (both (in_handler p k.environment h) (left_of p k)) (Single (after_faults h fs (continuing t k)))
    ended_kept keep scope NoHandler fs t k s handler same =
        let m = stack_moved keep scope (λ x. Unit {0}) k.callers (same_moves same) s in
        kept_trans m.same (within_trans m.within (second_within _ _)) (unless_kept keep m.scope fs (continuing t k) m.stack)
    ended_kept keep scope (HandledBy n c) [] t k s handler same =
        let m = stack_moved keep scope (λ x. Unit {0}) k.callers (same_moves same) s in
        kept_trans m.same (within_trans m.within (second_within _ _)) (one_kept keep m.scope (continuing t k) m.stack)
    ended_kept keep scope (HandledBy n c) (f ∷ fs) t k s handler same =
        let j = handling n c (continuing t k) in
        let there : SameWindows scope k.environment j.environment = same in
        let m = stack_moved keep scope (λ x. Unit {0}) k.callers (same_moves there) handler in
        kept_trans m.same
        (within_trans m.within
        (both_within
        (within_trans (append_all p k.environment c k.rest)
        (beside_within (within_itself _) (first_within (all p k.environment k.rest) (waiting p k.callers))))
        (within_trans (second_within (all p k.environment k.rest) (waiting p k.callers)) (second_within _ _))))
        (one_kept keep m.scope j m.stack)

    closed_kept : (keep scope : List ℕ) (t : Tree) (h : Handler) (k : Leaf) → Stack keep scope k.environment k.rest k.callers
        → HandlerStack keep scope h k → SameWindows scope k.environment (owner_environment t)
        → Kept keep (task_environment k) (both (in_handler p k.environment h) (left_of p k)) (Single (closed t h k))
    closed_kept keep scope t h k s handler same = ended_kept keep scope h (faults_of t) t k s handler same

    then_by : (keep scope : List ℕ) (b : Bool) (t : Tree) (h : Handler) (k : Leaf)
        → Stack keep scope k.environment k.rest k.callers → HandlerStack keep scope h k
        → Good scope t → SameWindows scope k.environment (owner_environment t)
        → Kept keep (task_environment k) (both (still p t) (both (in_handler p k.environment h) (left_of p k)))
        (if b then Single (closed t h k) else AndThen t h k)
    then_by keep scope true t h k s handler g same =
        kept_trans (λ x m. refl) (second_within _ _) (closed_kept keep scope t h k s handler same)
    then_by keep scope false t h k s handler g same =
        record { good = Good.is_then scope s handler g same; within = within_itself _; same = λ x m. refl }

    pub then_kept : (keep scope : List ℕ) (t : Tree) (h : Handler) (k : Leaf)
        → Stack keep scope k.environment k.rest k.callers → HandlerStack keep scope h k
        → Good scope t → SameWindows scope k.environment (owner_environment t)
        → Kept keep (task_environment k) (both (still p t) (both (in_handler p k.environment h) (left_of p k))) (and_then t h k)
    then_kept keep scope t h k = then_by keep scope (all_done t) t h k

    -- One step of a leaf

    module _ (l : ℕ) (s : Code) where
      -- `k` has what follows the statement
      abbrev Before : (keep scope : List ℕ) → Leaf → Type 0
      Before keep scope k = Stack keep scope k.environment (Then l s k.rest) k.callers

      abbrev After : (keep : List ℕ) → Leaf → Tree → Type 0
      After keep k u = Kept keep (task_environment k) (both (all p k.environment (Then l s k.rest)) (waiting p k.callers)) u

      -- on to what follows
      past : {scope : List ℕ} {env to : Environment} {rest : Codes} → to.windows ≡ env.windows
          → Moves scope env (Then l s rest) to rest (λ x. Unit {0})
      past {env = env} {to = to} e keep k =
          let f = focus p k in
          let r = rest_placed p f in
          let same : SameWindows f.scope env to = λ x m. ap (λ w. w x) (sym e) in (
            f.scope,
            record {
              placed = same_placed p sound {env = env} {other = to} same r;
              all = within_trans (same_all p sound {env = env} {other = to} same r) (rest_all p env l s _);
              pending = within_trans (same_pending p sound {env = env} {other = to} same r) (rest_pending p env l s _);
              same = λ x m. same x (keep_below p r x m);
            },
            tt,
          )

      past_leaf : (keep scope : List ℕ) (k : Leaf) (to : Environment) → to.windows ≡ k.environment.windows
          → Before keep scope k
          → MovedStack keep k.environment (Then l s k.rest) to k.rest k.callers (λ x. Unit {0})
      past_leaf keep scope k to e st = stack_moved keep scope (λ x. Unit {0}) k.callers (past e) st

      -- into a block, in an environment with more sections
      record IsBlock (scope : List ℕ) (g : Procedure) (env to : Environment) (b : Codes) : Type 0 where
        inner : List ℕ
        larger : Among scope inner
        same : SameWindows scope env to
        fits : FitsIn p g to inner b
        all : Within (all p to b) (does p env l s)
        pending : Within (pending p to b) (leaves p env s)

      into : {scope : List ℕ} {env to : Environment} {rest : Codes} {b : Codes}
          → ((keep : List ℕ) (f : Focus p keep env l s rest) → IsBlock f.scope f.procedure env to b)
          → Moves scope env (Then l s rest) to (append b rest) (λ x. Unit {0})
      into {env = env} {to = to} {rest = rest} {b = b} block keep k =
          let f = focus p k in
          let i = block keep f in
          let r = same_placed p sound {env = env} {other = to} i.same (rest_placed p f) in (
            i.inner,
            record {
              placed = prefixed p r i.inner b i.larger i.fits
                  (separate_within i.pending (same_all p sound {env = env} {other = to} i.same (rest_placed p f)) (rest_apart p f));
              all = within_trans (append_all p to b rest)
                  (both_within (within_trans i.all (statement_all p env l s rest)) (within_trans (same_all p sound {env = env} {other = to} i.same (rest_placed p f)) (rest_all p env l s rest)));
              pending = within_trans (append_pending p to b rest)
                  (both_within (within_trans i.pending (statement_pending p env l s rest)) (within_trans (same_pending p sound {env = env} {other = to} i.same (rest_placed p f)) (rest_pending p env l s rest)));
              same = λ x m. i.same x (keep_below p (rest_placed p f) x m);
            },
            tt,
          )

      into_leaf : (keep scope : List ℕ) (k : Leaf) (to : Environment) (b : Codes)
          → ((keep : List ℕ) (f : Focus p keep k.environment l s k.rest) → IsBlock f.scope f.procedure k.environment to b)
          → Before keep scope k → After keep k (single (before_rest b (record k { environment = to })))
      into_leaf keep scope k to b block st =
          let m = stack_moved keep scope (λ x. Unit {0}) k.callers (into block) st in
          kept_trans m.same m.within (one_kept keep m.scope (before_rest b (record k { environment = to })) m.stack)

      on_leaf : (keep scope : List ℕ) (k : Leaf) → Before keep scope k → After keep k (single k)
      on_leaf keep scope k st = let m = past_leaf keep scope k k.environment refl st in kept_trans m.same m.within (one_kept keep m.scope k m.stack)

      fault_leaf : (keep scope : List ℕ) (k : Leaf) (x : FaultKind) → Before keep scope k
          → After keep k (Single (failed l x k))
      fault_leaf keep scope k x st = done_kept keep scope (Then l s k.rest) (record k { faults = k.faults ++ record { path = k.path; label = l; kind = x } ∷ [] }) _ st

      value_kept : (keep scope : List ℕ) {A : Type 0} (k : Leaf) (r : Valued A) (go : A → Tree) → Before keep scope k
          → ((v : A) → r ≡ Ok v → After keep k (go v))
          → After keep k (on_value l k r go)
      value_kept keep scope k (Ok v) go st h = h v refl
      value_kept keep scope k (Err x) go st h = fault_leaf keep scope k x st

    do_kept : (keep scope : List ℕ) (l : ℕ) (s : Code) (k : Leaf) (to : State (Unit {0}))
        → to.environment.windows ≡ k.environment.windows → (f : Flow)
        → Before l s keep scope k → After l s keep k (by_flow f (record k { environment = to.environment; lines = to.lines; faults = to.faults }))
    do_kept keep scope l s k to e f st = by f
      where
        j : Leaf
        j = record k { environment = to.environment; lines = to.lines; faults = to.faults }

        m : MovedStack keep k.environment (Then l s k.rest) to.environment k.rest k.callers (λ x. Unit {0})
        m = past_leaf l s keep scope k to.environment e st

        by : (f : Flow) → After l s keep k (by_flow f j)
        by On = kept_trans m.same m.within (one_kept keep m.scope j m.stack)
        by Faulted = kept_trans m.same m.within (done_kept keep m.scope j.rest j _ m.stack)
        by Stopped = kept_trans m.same m.within (done_kept keep m.scope j.rest j _ m.stack)

    -- after the statement, with the facts that its position gives
    past_with : {scope : List ℕ} {env : Environment} {l : ℕ} {s : Code} {rest : Codes} (P : List ℕ → Type 0)
        → ((keep : List ℕ) (f : Focus p keep env l s rest) → P f.scope) → Moves scope env (Then l s rest) env rest P
    past_with {env = env} {l = l} {s = s} {rest = rest} P h keep k =
        let f = focus p k in
        let r = rest_placed p f in
        (f.scope, record { placed = r; all = rest_all p env l s rest; pending = rest_pending p env l s rest; same = λ x m. refl }, h keep f)

    cut_from : (r : Valued ℤ) (w : Window) (ws : Window × Window)
        → then_try r (λ v. ok_or (sides_of w v) SplitPoint) ≡ Ok ws
        → (v : ℤ) × (sides_of w v ≡ Some ws)
    cut_from (Err x) w ws e = cc
    cut_from (Ok v) w ws e = (v, by (sides_of w v) e)
      where
        by : (o : Option (Window × Window)) → ok_or o SplitPoint ≡ Ok ws → o ≡ Some ws
        by None e = cc
        by (Some x) e = cc

    -- the loop again, after its body
    again : {scope : List ℕ} {env : Environment} {l : ℕ} {t : Truth} {b rest : Codes}
        → Moves scope env (Then l (While t b) rest) env (append b (Then l (While t b) rest)) (λ x. Unit {0})
    again {env = env} {l = l} {t = t} {b = b} {rest = rest} keep k =
        let f = focus p k in
        let whole = focused p f in
        let text : IsText b = f.stands.block.written.0 in
        let pend : Within (pending p env b) (leaves p env (While t b)) =
        text_leaves p env (While t b) b text (λ x h. PendingOf.inner Inner.while h refl) in (
          f.scope,
          record {
            placed = prefixed p whole f.scope b (λ x m. m) (fits_there p f f.stands.block.follows.0.1 f.stands.block.calm.0.0 (text_written b text))
                (separate_within pend (cons_all p env l (While t b) rest)
                (separate_both
                (separate_alone (separate_from (f.stands.block.calm.0.1 env (fits_scope p f.procedure f.is_sound f.stands.block.lists env f.stands.block.fits.placed))))
                (rest_apart p f)));
            all = within_trans (append_all p env b (Then l (While t b) rest))
                (both_within (within_trans (text_does p env l (While t b) b text (λ x h. AllOf.inner Inner.while h refl)) (statement_all p env l (While t b) rest)) (within_itself _));
            pending = within_trans (append_pending p env b (Then l (While t b) rest))
                (both_within (within_trans pend (statement_pending p env l (While t b) rest)) (within_itself _));
            same = λ x m. refl;
          },
          tt,
        )

    record Callee (l : ℕ) (s : Code) (g : Procedure) (env to : Environment) (rest : Codes) : Type 0 where
      placed : IsPlaced p [] (parameters_of g) to g.body
      done_inside : Within (all p to g.body) (does p env l s)
      left_inside : Within (pending p to g.body) (leaves p env s)
      apart : Separate (leaves p env s) (all p env rest)

    record Spawned (env : Environment) (b rest : Codes) (scope : List ℕ) : Type 0 where
      text : IsText b
      placed : IsPlaced p [] scope env b
      apart : Separate (leaves p env (Async b)) (all p env rest)

    -- The turns of a `parts`

    -- a begun `parts` has no accesses of its own
    begun_does : {A : Type 0} {l s n m x i : ℕ} {b : Codes} {y : Access} → AllOf p accesses l (Begun s n m x i b) y → A
    begun_does (AllOf.own_access h) = elim h [ ]
    begun_does (AllOf.inner j h e) = elim j [ ]

    begun_leaves : {A : Type 0} {s n m x i : ℕ} {b : Codes} {y : Access} → PendingOf p accesses (Begun s n m x i b) y → A
    begun_leaves (PendingOf.inner j h e) = elim j [ ]

    cut_at : (w : Window) (n k : ℕ) → has_piece w n k ≡ true → piece_of w n k ≡ Some (piece_at n k w)
    cut_at w n k left = ap (λ b. if◌then◌else◌ {A = Option Window} b (Some (piece_at n k w)) None) left

    -- all turns together do what the `parts` does
    turns_do : (env : Environment) (l s : ℕ) (e : Number) (x i : ℕ) (b : Codes) (n : ℕ)
        → Within (does p env l (Begun s n 0 x i b)) (does p env l (Parts s e x i b))
    turns_do env l s e x i b n = record {
      touches = λ q. from_either (λ t. begun_does t.among)
          (λ t. inl (turn-reads p env s e x i b n t.number (piece_at n t.number (env.windows s)) (cut_at (env.windows s) n t.number t.left) l q t.there));
      writes = λ q. from_either (λ t. begun_does t.among)
          (λ t. inl (turn-writes p env s e x i b n t.number (piece_at n t.number (env.windows s)) (cut_at (env.windows s) n t.number t.left) l q t.there));
    }

    turns_leave : (env : Environment) (l s : ℕ) (e : Number) (x i : ℕ) (b : Codes) (n : ℕ)
        → Within (leaves p env (Begun s n 0 x i b)) (leaves p env (Parts s e x i b))
    turns_leave env l s e x i b n = record {
      touches = λ q. from_either (λ t. begun_leaves t.among)
          (λ t. inl (turn-pending_reads p env s e x i b n t.number (piece_at n t.number (env.windows s)) (cut_at (env.windows s) n t.number t.left) l q t.there));
      writes = λ q. from_either (λ t. begun_leaves t.among)
          (λ t. inl (turn-pending_writes p env s e x i b n t.number (piece_at n t.number (env.windows s)) (cut_at (env.windows s) n t.number t.left) l q t.there));
    }

    end_pending : (env : Environment) (f : Footprint) → Within (pending p env End) f
    end_pending env f = record {
      touches = λ q. from_either (λ t. none_pending t.among) (λ t. absurd t);
      writes = λ q. from_either (λ t. none_pending t.among) (λ t. absurd t);
    }
      where
        none_pending : {A : Type 0} {y : Access} → Pending p accesses End y → A
        none_pending h = elim h [ ]

    later_turns : {env : Environment} {s n m x i : ℕ} (holds : Environment → Type 0)
        → InTurnToCome env s n (m + 1) x i holds → InTurnToCome env s n m x i holds
    later_turns holds t = record {
      number = t.number;
      later = (let h = t.later in omega (arith, h));
      left = t.left;
      there = t.there;
    }

    -- the turns after the next one are turns to come
    later_do : (env : Environment) (l s n m x i : ℕ) (b : Codes)
        → Within (does p env l (Begun s n (m + 1) x i b)) (does p env l (Begun s n m x i b))
    later_do env l s n m x i b = record {
      touches = λ q. from_either (λ t. begun_does t.among) (λ t. inr (later_turns (λ e. MayTouch p e b q) t));
      writes = λ q. from_either (λ t. begun_does t.among) (λ t. inr (later_turns (λ e. MayWrite p e b q) t));
    }

    later_leave : (env : Environment) (s n m x i : ℕ) (b : Codes)
        → Within (leaves p env (Begun s n (m + 1) x i b)) (leaves p env (Begun s n m x i b))
    later_leave env s n m x i b = record {
      touches = λ q. from_either (λ t. begun_leaves t.among) (λ t. inr (later_turns (λ e. MayStillTouch p e b q) t));
      writes = λ q. from_either (λ t. begun_leaves t.among) (λ t. inr (later_turns (λ e. MayStillWrite p e b q) t));
    }

    -- the next turn, at the position of its begun `parts`
    module _ (keep : List ℕ) (env : Environment) (l s n m x i : ℕ) (b rest : Codes) (f : Focus p keep env l (Begun s n m x i b) rest)
        (left : has_piece (env.windows s) n m ≡ true) where
      abbrev piece : Window
      piece = piece_at n m (env.windows s)

      abbrev turned : Environment
      turned = with_piece x i piece m env

      text_in : IsText b
      text_in = f.stands.block.written.0

      same_around : SameWindows f.scope env turned
      same_around = at_piece p f.procedure f.scope env s x i f.stands.block.follows.0.0 piece m

      turn_fits : FitsIn p f.procedure turned (x ∷ f.scope) b
      turn_fits = record {
        fits = fits_in_turn p f.procedure f.scope env s x i f.stands.block.follows.0.0 piece m n (cut_at (env.windows s) n m left) f.stands.block.fits;
        follows = f.stands.block.follows.0.1;
        names = AtPiece s x f.stands.block.names;
        lists = Lists.at_piece f.stands.block.follows.0.0 f.stands.block.lists;
        calm = f.stands.block.calm.0.0;
        written = text_written b text_in;
      }

      now : (holds : Environment → Type 0) → holds turned → InTurnToCome env s n m x i holds
      now holds t = record { number = m; later = omega arith; left = left; there = t }

      turn_does : Within (all p turned b) (does p env l (Begun s n m x i b))
      turn_does = within_trans (text_all p turned b text_in) (record {
        touches = λ q t. inr (now (λ e. MayTouch p e b q) t);
        writes = λ q t. inr (now (λ e. MayWrite p e b q) t);
      })

      turn_leaves : Within (pending p turned b) (leaves p env (Begun s n m x i b))
      turn_leaves = within_trans (text_pending p turned b text_in) (record {
        touches = λ q t. inr (now (λ e. MayStillTouch p e b q) t);
        writes = λ q t. inr (now (λ e. MayStillWrite p e b q) t);
      })

      -- what it leaves pending keeps apart from the later turns
      turn_apart : Separate (pending p turned b) (does p env l (Begun s n (m + 1) x i b))
      turn_apart =
          let fits = fits_scope p f.procedure f.is_sound f.stands.block.lists env f.stands.block.fits.placed in
          let apart = f.stands.block.calm.0.1 in
          separate_within (text_pending p turned b text_in) (within_itself _) (record {
            writes_first = λ q w. from_either (λ t. begun_does t.among)
                (λ t. apart.writes_first env i n m t.number fits (let h = t.later in omega (arith, h)) left t.left q w t.there);
            writes_second = λ q t. from_either (λ w. begun_does w.among)
                (λ w. apart.writes_second env i n m w.number fits (let h = w.later in omega (arith, h)) left w.left q t w.there);
          })

      turn_block : IsBlock l (Begun s n m x i b) f.scope f.procedure env turned b
      turn_block = record {
        inner = x ∷ f.scope;
        larger = λ z h. next h;
        same = same_around;
        fits = turn_fits;
        all = turn_does;
        pending = turn_leaves;
      }

      -- the later turns stand before what follows
      abbrev later_placed : IsPlaced p keep f.scope env (Then l (Begun s n (m + 1) x i b) rest)
      later_placed = prefixed p (rest_placed p f) f.scope (Then l (Begun s n (m + 1) x i b) End) (λ z h. h)
          (fits_there p f (f.stands.block.follows.0, tt) (f.stands.block.calm.0, tt, apart_end p f.stands.block.names _) (text_in, tt))
          (separate_within
          (within_trans (cons_pending p env l (Begun s n (m + 1) x i b) End)
          (both_within (later_leave env s n m x i b) (end_pending env _)))
          (within_itself _) (rest_apart p f))

    module _ (calm : IsCalm p) where
      if_kept : (keep scope : List ℕ) (l : ℕ) (t : Truth) (b c : Codes) (k : Leaf) → Before l (If t b c) keep scope k
          → (v : Bool)
          → After l (If t b c) keep k (single (before_rest (if v then b else c) k))
      if_kept keep scope l t b c k st v =
          into_leaf l (If t b c) keep scope k k.environment (if v then b else c) (λ keep f. record {
            inner = f.scope;
            larger = λ x m. m;
            same = λ x m. refl;
            fits =
                fits_there p f (of_branch (λ x. Follows p f.procedure f.scope x) v f.stands.block.follows.0.1 f.stands.block.follows.0.2)
                (of_branch (λ x. Calm p f.stands.block.names x) v f.stands.block.calm.0.0 f.stands.block.calm.0.1)
                (text_written (if v then b else c) (of_branch IsText v f.stands.block.written.0.0 f.stands.block.written.0.1));
            all = text_does p k.environment l (If t b c) (if v then b else c)
                (of_branch IsText v f.stands.block.written.0.0 f.stands.block.written.0.1) (λ x h. AllOf.inner (branch v) h refl);
            pending = text_leaves p k.environment (If t b c) (if v then b else c)
                (of_branch IsText v f.stands.block.written.0.0 f.stands.block.written.0.1) (λ x h. PendingOf.inner (branch v) h refl);
          }) st
        where
          of_branch : (P : Codes → Type 0) (v : Bool) → P b → P c → P (if v then b else c)
          of_branch P true first second = first
          of_branch P false first second = second

          branch : (v : Bool) → Inner p (If t b c) (if v then b else c) (λ x. x)
          branch true = Inner.if_body
          branch false = Inner.if_other

      while_kept : (keep scope : List ℕ) (l : ℕ) (t : Truth) (b : Codes) (k : Leaf)
          → Before l (While t b) keep scope k → (v : Bool)
          → After l (While t b) keep k (single (if v then before_rest b (before_rest (Then l (While t b) End) k) else k))
      while_kept keep scope l t b k st true =
          let m = stack_moved keep scope (λ x. Unit {0}) k.callers again st in
          kept_trans m.same m.within (one_kept keep m.scope (before_rest b (before_rest (Then l (While t b) End) k)) m.stack)
      while_kept keep scope l t b k st false = on_leaf l (While t b) keep scope k st

      split_kept : (keep scope : List ℕ) (l s : ℕ) (e : Number) (x y : ℕ) (b : Codes) (k : Leaf)
          → Before l (Split s e x y b) keep scope k
          → (v : ℤ) (ws : Window × Window) → sides_of (k.environment.windows s) v ≡ Some ws
          → After l (Split s e x y b) keep k (single (before_rest b (record k { environment = with_sides x y ws k.environment })))
      split_kept keep scope l s e x y b k st v ws cut =
          into_leaf l (Split s e x y b) keep scope k (with_sides x y ws k.environment) b (λ keep f. record {
            inner = x ∷ y ∷ f.scope;
            larger = λ z m. next (next m);
            same = at_other p f.procedure f.scope k.environment s x y f.stands.block.follows.0.0 ws;
            fits = record {
              fits = fits_inside_split p f.procedure f.scope k.environment s x y f.stands.block.follows.0.0 ws v cut f.stands.block.fits;
              follows = f.stands.block.follows.0.2;
              names = Inside s x y f.stands.block.names;
              lists = Lists.inside f.stands.block.follows.0.0 f.stands.block.lists;
              calm = f.stands.block.calm.0;
              written = text_written b f.stands.block.written.0;
            };
            all = within_trans (text_all p (with_sides x y ws k.environment) b f.stands.block.written.0) (within_trans (record {
              touches = split-reads p k.environment s e x y b v ws cut l;
              writes = split-writes p k.environment s e x y b v ws cut l;
            }) (first_within _ _));
            pending = within_trans (text_pending p (with_sides x y ws k.environment) b f.stands.block.written.0) (within_trans (record {
              touches = split-pending_reads p k.environment s e x y b v ws cut l;
              writes = split-pending_writes p k.environment s e x y b v ws cut l;
            }) (first_within _ _));
          }) st

      parts_kept : (keep scope : List ℕ) (l s : ℕ) (e : Number) (x i : ℕ) (b : Codes) (k : Leaf)
          → Before l (Parts s e x i b) keep scope k → (n : ℕ)
          → After l (Parts s e x i b) keep k (single (before_turns l s n 0 x i b k))
      parts_kept keep scope l s e x i b k st n = by (has_piece (k.environment.windows s) n 0)
        where
          by : (left : Bool)
              → After l (Parts s e x i b) keep k (single (if left then record k { rest = Then l (Begun s n 0 x i b) k.rest } else k))
          by true = into_leaf l (Parts s e x i b) keep scope k k.environment (Then l (Begun s n 0 x i b) End) (λ keep f. record {
            inner = f.scope;
            larger = λ z m. m;
            same = λ z m. refl;
            fits = fits_there p f ((f.stands.block.follows.0.0, f.stands.block.follows.0.2), tt)
                (f.stands.block.calm.0, tt, apart_end p f.stands.block.names _) (f.stands.block.written.0, tt);
            all = within_trans (cons_all p k.environment l (Begun s n 0 x i b) End)
                (both_within (turns_do k.environment l s e x i b n) (end_within p k.environment _));
            pending = within_trans (cons_pending p k.environment l (Begun s n 0 x i b) End)
                (both_within (turns_leave k.environment l s e x i b n) (end_pending k.environment _));
          }) st
          by false = on_leaf l (Parts s e x i b) keep scope k st

      -- a turn, and the turns after it
      turn_with_more : {scope : List ℕ} {env : Environment} {l s n m x i : ℕ} {b rest : Codes} → has_piece (env.windows s) n m ≡ true
          → Moves scope env (Then l (Begun s n m x i b) rest) (with_piece x i (piece_at n m (env.windows s)) m env)
          (append b (Then l (Begun s n (m + 1) x i b) rest)) (λ x. Unit {0})
      turn_with_more {env = env} {l = l} {s = s} {n = n} {m = m} {x = x} {i = i} {b = b} {rest = rest} left keep k =
          let f = focus p k in
          let to = with_piece x i (piece_at n m (env.windows s)) m env in
          let now = Begun s n m x i b in
          let more = Begun s n (m + 1) x i b in
          let same : SameWindows f.scope env to = same_around keep env l s n m x i b rest f left in
          let whole = later_placed keep env l s n m x i b rest f left in
          let there = same_placed p sound {env = env} {other = to} same whole in
          let all_same = within_trans (same_all p sound {env = env} {other = to} same whole) (cons_all p env l more rest) in
          let pending_same = within_trans (same_pending p sound {env = env} {other = to} same whole) (cons_pending p env l more rest) in (
            x ∷ f.scope,
            record {
              placed = prefixed p there (x ∷ f.scope) b (λ z h. next h) (turn_fits keep env l s n m x i b rest f left)
                  (separate_within (within_itself _) all_same
                  (separate_both (turn_apart keep env l s n m x i b rest f left)
                  (separate_within (turn_leaves keep env l s n m x i b rest f left) (within_itself _) (rest_apart p f))));
              all = within_trans (append_all p to b (Then l more rest))
                  (both_within (within_trans (turn_does keep env l s n m x i b rest f left) (statement_all p env l now rest))
                  (within_trans all_same
                  (both_within (within_trans (later_do env l s n m x i b) (statement_all p env l now rest)) (rest_all p env l now rest))));
              pending = within_trans (append_pending p to b (Then l more rest))
                  (both_within (within_trans (turn_leaves keep env l s n m x i b rest f left) (statement_pending p env l now rest))
                  (within_trans pending_same
                  (both_within (within_trans (later_leave env s n m x i b) (statement_pending p env l now rest)) (rest_pending p env l now rest))));
              same = λ z h. same z (keep_below p (rest_placed p f) z h);
            },
            tt,
          )

      begun_kept : (keep scope : List ℕ) (l s n m x i : ℕ) (b : Codes) (k : Leaf)
          → Before l (Begun s n m x i b) keep scope k
          → After l (Begun s n m x i b) keep k (single (if has_piece (k.environment.windows s) n m
          then before_rest b (in_piece s n m x i (before_turns l s n (m + 1) x i b k)) else k))
      begun_kept keep scope l s n m x i b k st = by (has_piece (k.environment.windows s) n m) refl
        where
          further : has_piece (k.environment.windows s) n m ≡ true → (more : Bool)
              → After l (Begun s n m x i b) keep k (single (before_rest b (in_piece s n m x i
              (if more then record k { rest = Then l (Begun s n (m + 1) x i b) k.rest } else k))))
          further left true =
              let c = stack_moved keep scope (λ x. Unit {0}) k.callers (turn_with_more {s = s} {n = n} {m = m} {x = x} {i = i} {b = b} left) st in
              kept_trans c.same c.within
              (one_kept keep c.scope (record k {
                environment = with_piece x i (piece_at n m (k.environment.windows s)) m k.environment;
                rest = append b (Then l (Begun s n (m + 1) x i b) k.rest);
              }) c.stack)
          further left false =
              into_leaf l (Begun s n m x i b) keep scope k (with_piece x i (piece_at n m (k.environment.windows s)) m k.environment) b
              (λ keep f. turn_block keep k.environment l s n m x i b k.rest f left) st

          by : (left : Bool) → has_piece (k.environment.windows s) n m ≡ left
              → After l (Begun s n m x i b) keep k (single (if left
              then before_rest b (in_piece s n m x i (before_turns l s n (m + 1) x i b k)) else k))
          by true left = further left (has_piece (k.environment.windows s) n (m + 1))
          by false left = on_leaf l (Begun s n m x i b) keep scope k st

      callee : (l f : ℕ) (es : List Number) (ss : List ℕ) (vs : List ℤ) (env : Environment) (rest : Codes) (keep : List ℕ)
          → Focus p keep env l (Call f es ss) rest → Callee l (Call f es ss) (procedure_of p f) env (entry vs (map env.windows ss)) rest
      callee l f es ss vs env rest keep at =
          let g = procedure_of p f in
          let is = sound.procedures f in
          let passes = at.stands.block.follows.0.passes in
          record {
            placed = alone p [] (parameters_of g) (entry vs (map env.windows ss)) g g.body is (λ x m. elim m [ ]) (record {
              fits = fits_in_call p at.procedure at.scope env at.is_sound.numbered at.stands.block.fits g is vs ss passes;
              follows = is.body;
              names = Top (may_writes g);
              lists = Lists.top;
              calm = calm.procedures f;
              written = text_written g.body is.text;
            });
            done_inside = within_trans (text_all p (entry vs (map env.windows ss)) g.body is.text) (within_trans (record {
              touches = λ q t. (call-reads p sound env l f es ss vs passes.number q).1 (inr t);
              writes = λ q t. (call-writes p sound env l f es ss vs passes.number q).1 t;
            }) (first_within _ _));
            left_inside = within_trans (text_pending p (entry vs (map env.windows ss)) g.body is.text) (within_trans (record {
              touches = λ q t. (call-pending_reads p sound env l f es ss vs passes.number q).1 t;
              writes = λ q t. (call-pending_writes p sound env l f es ss vs passes.number q).1 t;
            }) (first_within _ _));
            apart = rest_apart p at;
          }

      call_kept : (keep scope : List ℕ) (l f : ℕ) (es : List Number) (ss : List ℕ) (vs : List ℤ) (k : Leaf)
          → Before l (Call f es ss) keep scope k
          → After l (Call f es ss) keep k (single (called (procedure_of p f) (entry vs (map k.environment.windows ss)) k))
      call_kept keep scope l f es ss vs k st =
          let s = Call f es ss in
          let g = procedure_of p f in
          let env = k.environment in
          let m = stack_moved keep scope (λ x. Callee l s g env (entry vs (map env.windows ss)) k.rest) k.callers
          (past_with (λ x. Callee l s g env (entry vs (map env.windows ss)) k.rest) (callee l f es ss vs env k.rest)) st in
          let inner = m.more in
          kept_trans m.same
          (both_within (within_trans inner.done_inside (within_trans (statement_all p env l s k.rest) (first_within _ _)))
          (beside_within (rest_all p env l s k.rest) (within_itself _)))
          (one_kept keep (parameters_of g) (called g (entry vs (map env.windows ss)) k) (
            inner.placed,
            separate_both (separate_within inner.left_inside (within_itself _) inner.apart)
                (separate_within (within_trans inner.left_inside (statement_pending p env l s k.rest)) (within_itself _) (pending_waiting keep scope env (Then l s k.rest) k.callers st)),
            (m.scope, m.stack),
          ))

      async_kept : (keep scope : List ℕ) (l : ℕ) (b : Codes) (k : Leaf) → Before l (Async b) keep scope k
          → After l (Async b) keep k (Beside (single (child b k)) (single (parent k)))
      async_kept keep scope l b k st =
          let s = Async b in
          let env = k.environment in
          let m = stack_moved keep scope (Spawned env b k.rest) k.callers (past_with (Spawned env b k.rest) (λ keep f. record {
            text = f.stands.block.written.0;
            placed = alone p [] f.scope env f.procedure b f.is_sound (λ x m. elim m [ ])
                (fits_there p f f.stands.block.follows.0 f.stands.block.calm.0 (text_written b f.stands.block.written.0));
            apart = rest_apart p f;
          })) st in
          let pend : Within (all p env b) (leaves p env s) =
          within_trans (text_all p env b m.more.text) (within_trans (among env (λ x h. PendingOf.async h)) (first_within _ _)) in
          let left = one_kept [] m.scope (child b k) m.more.placed in
          let right = one_kept keep m.scope (parent k) m.stack in
          record {
            good = Good.is_beside left.good right.good (separate_within
                (within_trans left.within (both_within (within_itself _) (nothing_within _))) right.within
                (separate_both (separate_within pend (within_itself _) m.more.apart)
                (separate_within (within_trans pend (statement_pending p env l s k.rest)) (within_itself _) (pending_waiting keep scope env (Then l s k.rest) k.callers st))));
            within = both_within
                (within_trans left.within (both_within (within_trans (text_does p env l s b m.more.text (λ x h. AllOf.async h)) (within_trans (statement_all p env l s k.rest) (first_within _ _))) (nothing_within _)))
                (within_trans right.within m.within);
            same = λ x h. m.same x h ∙ right.same x h;
          }

      finish_kept : (keep scope : List ℕ) (l : ℕ) (b : Codes) (k : Leaf) → Before l (Finish b) keep scope k
          → After l (Finish b) keep k (and_then (single (inside b k)) NoHandler (held_back k))
      finish_kept keep scope l b k st =
          let s = Finish b in
          let env = k.environment in
          let m = stack_moved keep scope (λ i. IsText b × IsPlaced p i i env b) k.callers (past_with (λ i. IsText b × IsPlaced p i i env b) (λ keep f. (
            f.stands.block.written.0,
            alone p f.scope f.scope env f.procedure b f.is_sound (λ x m. m)
                (fits_there p f f.stands.block.follows.0 f.stands.block.calm.0 (text_written b f.stands.block.written.0)),
          ))) st in
          let body = one_kept m.scope m.scope (inside b k) m.more.1 in
          kept_trans m.same
          (both_within
          (within_trans body.within (both_within (within_trans (text_does p env l s b m.more.0 (λ x h. AllOf.finish h)) (within_trans (statement_all p env l s k.rest) (first_within _ _))) (nothing_within _)))
          (both_within (nothing_within _) m.within))
          (then_kept keep m.scope (single (inside b k)) NoHandler (held_back k) m.stack tt body.good body.same)

      -- a block of a statement before what follows it, in the scope of the statement
      in_front : {keep : List ℕ} {env : Environment} {l : ℕ} {s : Code} {rest : Codes} (f : Focus p keep env l s rest) (b : Codes)
          → FitsIn p f.procedure env f.scope b → Within (all p env b) (does p env l s)
          → Within (pending p env b) (leaves p env s) → Moved keep f.scope env (Then l s rest) env (append b rest)
      in_front {env = env} {l = l} {s = s} {rest = rest} f b fits done left = record {
        placed = prefixed p (rest_placed p f) f.scope b (λ x m. m) fits (separate_within left (within_itself _) (rest_apart p f));
        all = within_trans (append_all p env b rest)
            (both_within (within_trans done (statement_all p env l s rest)) (rest_all p env l s rest));
        pending = within_trans (append_pending p env b rest)
            (both_within (within_trans left (statement_pending p env l s rest)) (rest_pending p env l s rest));
        same = λ x m. refl;
      }

      -- what the statement leaves behind it: its body in a tree of its own, and its handler
      record Rescued (env : Environment) (b c : Codes) (scope : List ℕ) : Type 0 where
        text : IsText b
        handler_text : IsText c
        placed : IsPlaced p scope scope env b

      rescue_kept : (keep scope : List ℕ) (l : ℕ) (b : Codes) (n : ℕ) (c : Codes) (k : Leaf) → Before l (Rescue b n c) keep scope k
          → After l (Rescue b n c) keep k (and_then (single (inside b k)) (HandledBy n c) (held_back k))
      rescue_kept keep scope l b n c k st =
          let s = Rescue b n c in
          let env = k.environment in
          let m = moved_twice keep scope {env = env} {c = k.rest} {d = append c k.rest} {e = Then l s k.rest} (Rescued env b c) k.callers
          (λ keep q.
          let f = focus p q in
          let block = f.stands.block in (
            f.scope,
            record {
              placed = rest_placed p f;
              all = rest_all p env l s k.rest;
              pending = rest_pending p env l s k.rest;
              same = λ x m. refl;
            },
            in_front f c (fits_there p f block.follows.0.2 block.calm.0.1 (text_written c block.written.0.1))
                (text_does p env l s c block.written.0.1 (λ x h. AllOf.inner Inner.handler h refl))
                (text_leaves p env s c block.written.0.1 (λ x h. PendingOf.inner Inner.handler h refl)),
            record {
              text = block.written.0.0;
              handler_text = block.written.0.1;
              placed = alone p f.scope f.scope env f.procedure b f.is_sound (λ x m. m)
                  (fits_there p f block.follows.0.0 block.calm.0.0 (text_written b block.written.0.0));
            },
          )) st in
          let body = one_kept m.scope m.scope (inside b k) m.more.placed in
          let whole : Within (does p env l s) (both (all p env (Then l s k.rest)) (waiting p k.callers)) =
          within_trans (statement_all p env l s k.rest) (first_within _ _) in
          kept_trans (λ x h. refl)
          (both_within
          (within_trans body.within
          (both_within (within_trans (text_does p env l s b m.more.text (λ x h. AllOf.rescued h)) whole) (nothing_within _)))
          (both_within
          (within_trans (text_does p env l s c m.more.handler_text (λ x h. AllOf.inner Inner.handler h refl)) whole)
          (beside_within (rest_all p env l s k.rest) (within_itself _))))
          (then_kept keep m.scope (single (inside b k)) (HandledBy n c) (held_back k) m.first m.second body.good body.same)

      after_kept : (keep scope : List ℕ) (l : ℕ) (s : Code) (k : Leaf) (a : Contents) → Before l s keep scope k
          → After l s keep k (tree_after p l s k a)
      after_kept keep scope l (Do c) k a st =
          do_kept keep scope l (Do c) k (primitive p l c (as_state k a)) (primitive_windows p l c (as_state k a)) (primitive p l c (as_state k a)).flow st
      after_kept keep scope l (If t b c) k a st =
          value_kept l (If t b c) keep scope k (truth k.environment (read a) t) (λ v. single (before_rest (if v then b else c) k)) st (λ v e. if_kept keep scope l t b c k st v)
      after_kept keep scope l (While t b) k a st =
          value_kept l (While t b) keep scope k (truth k.environment (read a) t) (λ v. single (if v then before_rest b (before_rest (Then l (While t b) End) k) else k)) st
          (λ v e. while_kept keep scope l t b k st v)
      after_kept keep scope l (Split s e x y b) k a st =
          value_kept l (Split s e x y b) keep scope k (then_try (number k.environment (read a) e) (λ v. ok_or (sides_of (k.environment.windows s) v) SplitPoint))
          (λ ws. single (before_rest b (record k { environment = with_sides x y ws k.environment }))) st
          (λ ws h. let c = cut_from (number k.environment (read a) e) (k.environment.windows s) ws h in split_kept keep scope l s e x y b k st c.0 ws c.1)
      after_kept keep scope l (Parts s e x i b) k a st =
          value_kept l (Parts s e x i b) keep scope k (size_by (number k.environment (read a) e)) (λ n. single (before_turns l s n 0 x i b k)) st
          (λ n h. parts_kept keep scope l s e x i b k st n)
      after_kept keep scope l (Begun s n m x i b) k a st = begun_kept keep scope l s n m x i b k st
      after_kept keep scope l (Call f es ss) k a st =
          value_kept l (Call f es ss) keep scope k (numbers k.environment (read a) es) (λ vs. single (called (procedure_of p f) (entry vs (map k.environment.windows ss)) k)) st
          (λ vs h. call_kept keep scope l f es ss vs k st)
      after_kept keep scope l (Async b) k a st = async_kept keep scope l b k st
      after_kept keep scope l (Finish b) k a st = finish_kept keep scope l b k st
      after_kept keep scope l (Rescue b n c) k a st = rescue_kept keep scope l b n c k st

      pub step_kept : {n : ℕ} {k : Leaf} {t u : Tree} {a b : Contents} → Step p n k t a u b → (keep : List ℕ)
          → Good keep t → Kept keep (owner_environment t) (still p t) u
      step_kept (Step.here {k = k} {l = l} {s = s} {rest = rest} {a = a} r e f) keep (Good.is_leaf scope st) =
          subst (Kept keep (task_environment k) (left_of p k)) (sym e)
          (subst (λ c. Kept keep (task_environment k) (both (all p k.environment c) (waiting p k.callers)) (tree_after p l s (record k { rest = rest }) a)) (sym r)
          (after_kept keep scope l s (record k { rest = rest }) a (subst (λ c. Stack keep scope k.environment c k.callers) r st)))
      step_kept (Step.first {x = y} {j = j} {u = u} s e) keep (Good.is_then scope st handler g same) =
          let m = step_kept s scope g in
          subst (Kept keep (task_environment j) _) (sym e)
          (kept_trans (λ x h. refl) (beside_within m.within (within_itself _))
          (then_kept keep scope u y j st handler m.good (λ x h. same x h ∙ m.same x h)))
      step_kept (Step.left s) keep (Good.is_beside {other = other} g h apart) =
          let m = step_kept s other g in
          record { good = Good.is_beside m.good h (separate_within m.within (within_itself _) apart); within = beside_within m.within (within_itself _); same = λ x h. refl }
      step_kept (Step.right e s) keep (Good.is_beside g h apart) =
          let m = step_kept s keep h in
          record { good = Good.is_beside g m.good (separate_within (within_itself _) m.within apart); within = beside_within (within_itself _) m.within; same = m.same }

pub first_good : (p : Program) → IsSound p → IsCalm p → Good p [] (first_tree p)
first_good p sound calm = (one_kept p [] (parameters_of p.main) (first_leaf p)
    (alone p [] (parameters_of p.main) (entry [] (whole_arrays 0 p.arrays)) p.main p.main.body sound.main (λ x m. elim m [ ]) (record {
      fits = fits_at_start p sound.main sound.arrays;
      follows = sound.main.body;
      names = Top (may_writes p.main);
      lists = Lists.top;
      calm = subst (λ ms. Calm p (Top ms) p.main.body) (sym (arrays_written p sound.arrays)) calm.main;
      written = text_written p.main.body sound.main.text;
    }))).good

module _ (p : Program) (sound : IsSound p) (accepted : IsAccepted p) where
  pub run_good : {n : ℕ} {t u : Tree} {a b : Contents} → Runs p n t a u b → Good p [] t → Good p [] u
  run_good here g = g
  run_good (go_next {t = t} {u = u} {a = a} {b = b} n e r) g =
      run_good r (step_kept p sound (is_calm p sound accepted) (step_from p t n a u b e).1 [] g).good

  -- each reachable tree is good
  pub reachable_good : (input : Contents) (t : Tree) (a : Contents) → Reachable p input t a → Good p [] t
  reachable_good input t a r = run_good r.1 (first_good p sound (is_calm p sound accepted))

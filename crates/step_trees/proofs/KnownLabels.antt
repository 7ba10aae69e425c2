-- Labels that two leaves of one reachable tree are about to run may run together, if no `parts` of
-- the program's text has begun.
use Rattle.std.proofs.Common.{◌≡◌, ◌≢◌, ◌⊎◌, inl, inr, ℕ, ◌+◌, ◌<◌, List, [], ◌∷◌, ◌++◌, map, Some, refl, sym, ap, ◌∙◌, subst, arith}
use Rattle.std.specs.Prelude.{Bool, true, false, pos, ok_or, Ok, Err, if◌then◌else◌}
use Rattle.sections.specs.Place.{sides_of, has_piece, piece_at}
use Rattle.sections.specs.Member.{Member}
use Rattle.types.specs.declared.fault.FaultKind.TheVariants.{SplitPoint}
use Rattle.types.specs.Code.{Number, Literal, Truth, Code, Do, If, While, Split, Parts, Begun, Call, Async, Finish, Rescue, Codes, End, Then, Program}
use Rattle.types.specs.Contents.{Contents, read}
use Rattle.types.specs.Value.{Environment, Valued, then_try, number, numbers, truth}
use Rattle.types.specs.Run.{Flow, On, Faulted, Stopped, Fault, primitive, procedure_of, entry, with_sides, with_piece}
use Rattle.types.specs.Sound.{IsText, IsTextOf}
use Rattle.types.specs.Trees.{Caller, Leaf, Handler, NoHandler, HandledBy, Tree, Single, AndThen, Beside, append, single, done, returned_by, return_to, before_rest, all_done, faults_of, unless_faulted, handling, after_faults, closed, and_then, called, child, parent, inside, held_back}
use Rattle.types.specs.TreeSteps.{on_value, as_state, by_flow, size_by, before_turns, in_piece, tree_after, first_leaf, first_tree, leaf_at}
use Rattle.types.specs.TreeRuns.{Runs, here as no_step, next, Reachable}
use Rattle.types.specs.TreePlaces.{StandsBefore}
use Rattle.effects.specs.Effects.{Inner, labels, AllOf, All, PendingOf, Pending}
use Rattle.parallel_relation.specs.Together.{Block, Together, LabelsMeet}
use Rattle.parallel_relation.proofs.StatementParts.{none_at_end}
use Rattle.step_trees.specs.Laws.{AreTexts}
use Rattle.step_trees.proofs.Statements.{either_of, from_either, all_append, pending_append}
use Rattle.step_trees.proofs.Steps.{Step, step_from, step_below, step_at, continuing}

abbrev Labels : Type 1
Labels = ℕ → Type 0

-- A begun `parts` has the labels of the whole `parts`

abbrev mutual
  whole_of : Code → Code
  whole_of (Do s) = Do s
  whole_of (If t b c) = If t (whole b) (whole c)
  whole_of (While t b) = While t (whole b)
  whole_of (Split s e x y b) = Split s e x y (whole b)
  whole_of (Parts s e x i b) = Parts s e x i (whole b)
  whole_of (Begun s n m x i b) = Parts s (Literal (pos 0)) x i (whole b)
  whole_of (Call f es ss) = Call f es ss
  whole_of (Async b) = Async (whole b)
  whole_of (Finish b) = Finish (whole b)
  whole_of (Rescue b n c) = Rescue (whole b) n (whole c)

  whole : Codes → Codes
  whole End = End
  whole (Then l s rest) = Then l (whole_of s) (whole rest)

mutual
  text_of_is_whole : (s : Code) → IsTextOf s → whole_of s ≡ s
  text_of_is_whole (Do s) k = refl
  text_of_is_whole (If t b c) k = ap (λ b. If t b (whole c)) (text_is_whole b k.0) ∙ ap (If t b) (text_is_whole c k.1)
  text_of_is_whole (While t b) k = ap (While t) (text_is_whole b k)
  text_of_is_whole (Split s e x y b) k = ap (Split s e x y) (text_is_whole b k)
  text_of_is_whole (Parts s e x i b) k = ap (Parts s e x i) (text_is_whole b k)
  text_of_is_whole (Begun s n m x i b) k = absurd k
  text_of_is_whole (Call f es ss) k = refl
  text_of_is_whole (Async b) k = ap Async (text_is_whole b k)
  text_of_is_whole (Finish b) k = ap Finish (text_is_whole b k)
  text_of_is_whole (Rescue b n c) k = ap (λ b. Rescue b n (whole c)) (text_is_whole b k.0) ∙ ap (Rescue b n) (text_is_whole c k.1)

  text_is_whole : (b : Codes) → IsText b → whole b ≡ b
  text_is_whole End k = refl
  text_is_whole (Then l s b) k = ap (λ c. Then l c (whole b)) (text_of_is_whole s k.0) ∙ ap (Then l s) (text_is_whole b k.1)

whole-append : (b c : Codes) → whole (append b c) ≡ append (whole b) (whole c)
whole-append End c = refl
whole-append (Then l s b) c = ap (Then l (whole_of s)) (whole-append b c)

module _ (p : Program) where
  -- x is to the left of y, and may be pending there
  data Met (x y : ℕ) : Type 0 where
    in_procedure : (f : ℕ) → Together p labels (procedure_of p f).body x y → Met x y
    in_main : Together p labels p.main.body x y → Met x y

  -- all pairs that may run together in the statements are known
  abbrev Known : Codes → Type 0
  Known c = (x y : ℕ) → Together p labels (whole c) x y → Met x y

  abbrev Meet : Labels → Labels → Type 0
  Meet f g = (x y : ℕ) → f x → g y → Met x y

  abbrev Part : Labels → Labels → Type 0
  Part f g = (x : ℕ) → f x → g x

  abbrev waits : List Caller → Labels
  waits [] x = ⊥
  waits (f ∷ fs) x = All p labels (whole f.rest) x ⊎ waits fs x

  abbrev left_in : Codes → List Caller → Labels
  left_in c fs x = All p labels (whole c) x ⊎ waits fs x

  -- the labels of a handler
  abbrev in_handler : Handler → Labels
  in_handler NoHandler x = ⊥
  in_handler (HandledBy n c) x = All p labels (whole c) x

  -- the labels of what waits for a finish
  abbrev behind_in : Handler → Leaf → Labels
  behind_in h k x = in_handler h x ⊎ left_in k.rest k.callers x

  abbrev still_in : Tree → Labels
  still_in (Single k) x = left_in k.rest k.callers x
  still_in (AndThen t h k) x = still_in t x ⊎ behind_in h k x
  still_in (Beside t u) x = still_in t x ⊎ still_in u x

  abbrev KnownStack : Codes → List Caller → Type 0
  KnownStack c [] = Known c
  KnownStack c (f ∷ fs) = Known c × Meet (Pending p labels (whole c)) (waits (f ∷ fs)) × KnownStack f.rest fs

  -- with the handler of a finish before a leaf's statements
  abbrev KnownHandler : Handler → Leaf → Type 0
  KnownHandler NoHandler k = Unit {0}
  KnownHandler (HandledBy n c) k = KnownStack (append c k.rest) k.callers

  data KnownTree : Tree → Type 0 where
    is_leaf : {k : Leaf} → KnownStack k.rest k.callers → KnownTree (Single k)
    is_then : {t : Tree} {h : Handler} {k : Leaf} → KnownStack k.rest k.callers → KnownHandler h k → KnownTree t
        → KnownTree (AndThen t h k)
    is_beside : {t u : Tree} → KnownTree t → KnownTree u → Meet (still_in t) (still_in u) → KnownTree (Beside t u)

  record KeptKnown (f : Labels) (u : Tree) : Type 0 where
    known : KnownTree u
    part : Part (still_in u) f

  -- a pair of two lists one after the other
  together_append : {A : Type 0} (b c : Codes) (x y : ℕ) → Together p labels (append b c) x y
      → (Together p labels b x y → A) → (Pending p labels b x → All p labels c y → A) → (Together p labels c x y → A) → A
  together_append End c x y h f g k = k h
  together_append (Then l s b) c x y (Together.follows h i) f g k =
      from_either (λ i. f (Together.follows h i)) (λ i. g (Pending.here h) i) (all_append p labels b c y i)
  together_append (Then l (While t d) b) c x y (Together.turns h i) f g k = f (Together.turns h i)
  together_append (Then l (Parts s e q i d) b) c x y (Together.pieces h) f g k = f (Together.pieces h)
  together_append (Then l s b) c x y (Together.inside i h) f g k = f (Together.inside i h)
  together_append (Then l s b) c x y (Together.later h) f g k =
      together_append b c x y h (λ h. f (Together.later h)) (λ h i. g (Pending.later h) i) k

  known_append : (b c : Codes) → Known b → Meet (Pending p labels (whole b)) (All p labels (whole c)) → Known c
      → Known (append b c)
  known_append b c f g k x y h = together_append (whole b) (whole c) x y
      (subst (λ d. Together p labels d x y) (whole-append b c) h) (f x y) (g x y) (k x y)

  all_in : (b c : Codes) (x : ℕ) → All p labels (whole (append b c)) x → All p labels (whole b) x ⊎ All p labels (whole c) x
  all_in b c x h = all_append p labels (whole b) (whole c) x (subst (λ d. All p labels d x) (whole-append b c) h)

  pending_in : (b c : Codes) (x : ℕ) → Pending p labels (whole (append b c)) x
      → Pending p labels (whole b) x ⊎ Pending p labels (whole c) x
  pending_in b c x h = pending_append p labels (whole b) (whole c) x (subst (λ d. Pending p labels d x) (whole-append b c) h)

  -- A leaf

  pending_waits : (c : Codes) (fs : List Caller) → KnownStack c fs → Meet (Pending p labels (whole c)) (waits fs)
  pending_waits c [] s = λ x y h e. absurd e
  pending_waits c (f ∷ fs) s = s.1

  known_of : (c : Codes) (fs : List Caller) → KnownStack c fs → Known c
  known_of c [] s = s
  known_of c (f ∷ fs) s = s.0

  -- other statements in the place of these
  stack_to : (c d : Codes) (fs : List Caller) → (Known c → Known d) → Part (Pending p labels (whole d)) (Pending p labels (whole c))
      → KnownStack c fs → KnownStack d fs
  stack_to c d [] f g s = f s
  stack_to c d (h ∷ fs) f g s = (f s.0, λ x y i j. s.1 x y (g x i) j, s.2)

  to_waits : (c d : Codes) (fs : List Caller) → Part (All p labels (whole d)) (All p labels (whole c))
      → Part (left_in d fs) (left_in c fs)
  to_waits c d fs f x = either_of (f x) (λ h. h)

  back_with : (k : Leaf) (env : Environment) (c : Codes) (fs : List Caller)
      → ((j : Leaf) → KnownStack End fs → KeptKnown (left_in End fs) (Single (return_to fs j)))
      → KnownStack c fs
      → KeptKnown (left_in c fs) (Single (elim c [
        | End ↦ return_to fs (record k { environment = env })
        | Then l s rest ↦ record k { environment = env; rest = Then l s rest; callers = fs }
      ]))
  back_with k env End fs deeper s = deeper (record k { environment = env }) s
  back_with k env (Then l s rest) fs deeper st = record { known = KnownTree.is_leaf st; part = λ x h. h }

  back : (fs : List Caller) (k : Leaf) → KnownStack End fs → KeptKnown (left_in End fs) (Single (return_to fs k))
  back [] k s = record { known = KnownTree.is_leaf s; part = λ x h. h }
  back (f ∷ fs) k s = let m = back_with k f.environment f.rest fs (back fs) s.2 in record { known = m.known; part = λ x h. inr (m.part x h) }

  returned_known : (c : Codes) (k : Leaf) → k.rest ≡ c → KnownStack c k.callers
      → KeptKnown (left_in c k.callers) (Single (returned_by c k))
  returned_known End k e s = back k.callers k s
  returned_known (Then l s rest) k e st = record {
    known = KnownTree.is_leaf (subst (λ c. KnownStack c k.callers) (sym e) st);
    part = λ x. subst (λ c. left_in k.rest k.callers x → left_in c k.callers x) e (λ h. h);
  }

  one_known : (k : Leaf) → KnownStack k.rest k.callers → KeptKnown (left_in k.rest k.callers) (single k)
  one_known k s = returned_known k.rest k refl s

  end_known : Known End
  end_known x y h = elim h [ ]

  done_known : (k : Leaf) (f : Labels) → KeptKnown f (Single (done k))
  done_known k f = record { known = KnownTree.is_leaf end_known; part = λ x. from_either (none_at_end p) (λ h. absurd h) }

  kept_part : {f g : Labels} {u : Tree} → Part f g → KeptKnown f u → KeptKnown g u
  kept_part h k = record { known = k.known; part = λ x i. h x (k.part x i) }

  -- The end of a finish

  unless_known : (fs : List Fault) (k : Leaf) → KnownStack k.rest k.callers
      → KeptKnown (left_in k.rest k.callers) (Single (unless_faulted fs k))
  unless_known [] k s = one_known k s
  unless_known (f ∷ fs) k s = done_known k _

  after_faults_known : (h : Handler) (fs : List Fault) (k : Leaf) → KnownStack k.rest k.callers → KnownHandler h k
      → KeptKnown (behind_in h k) (Single (after_faults h fs k))
  after_faults_known NoHandler fs k s handler = kept_part (λ x i. inr i) (unless_known fs k s)
  after_faults_known (HandledBy n c) [] k s handler = kept_part (λ x i. inr i) (one_known k s)
  after_faults_known (HandledBy n c) (f ∷ fs) k s handler = kept_part
      (λ x. from_either (λ i. from_either (λ i. inl i) (λ i. inr (inl i)) (all_in c k.rest x i)) (λ i. inr (inr i)))
      (one_known (handling n c k) handler)

  closed_known : (t : Tree) (h : Handler) (k : Leaf) → KnownStack k.rest k.callers → KnownHandler h k
      → KeptKnown (behind_in h k) (Single (closed t h k))
  closed_known t NoHandler k s handler = after_faults_known NoHandler (faults_of t) (continuing t k) s tt
  closed_known t (HandledBy n c) k s handler = after_faults_known (HandledBy n c) (faults_of t) (continuing t k) s handler

  then_by : (b : Bool) (t : Tree) (h : Handler) (k : Leaf) → KnownStack k.rest k.callers → KnownHandler h k → KnownTree t
      → KeptKnown (λ x. still_in t x ⊎ behind_in h k x) (if b then Single (closed t h k) else AndThen t h k)
  then_by true t h k s handler g = kept_part (λ x i. inr i) (closed_known t h k s handler)
  then_by false t h k s handler g = record { known = KnownTree.is_then s handler g; part = λ x i. i }

  then_known : (t : Tree) (h : Handler) (k : Leaf) → KnownStack k.rest k.callers → KnownHandler h k → KnownTree t
      → KeptKnown (λ x. still_in t x ⊎ behind_in h k x) (and_then t h k)
  then_known t h k s handler g = then_by (all_done t) t h k s handler g

  -- One step of a leaf

  module _ (l : ℕ) (s : Code) (k : Leaf) (st : KnownStack (Then l s k.rest) k.callers) where
    abbrev After : Tree → Type 0
    After u = KeptKnown (left_in (Then l s k.rest) k.callers) u

    rest_stack : KnownStack k.rest k.callers
    rest_stack = stack_to (Then l s k.rest) k.rest k.callers (λ f x y h. f x y (Together.later h)) (λ x h. Pending.later h) st

    rest_in : Part (left_in k.rest k.callers) (left_in (Then l s k.rest) k.callers)
    rest_in = to_waits (Then l s k.rest) k.rest k.callers (λ x h. All.later h)

    on_leaf : (j : Leaf) → j.rest ≡ k.rest → j.callers ≡ k.callers → After (single j)
    on_leaf j e f = by j.rest j.callers (sym e) (sym f)
      where
        by : (c : Codes) (fs : List Caller) → k.rest ≡ c → k.callers ≡ fs → After (single j)
        by c fs e2 f2 = kept_part
            (λ x h. rest_in x (subst (λ fs. left_in k.rest fs x) f (subst (λ c. left_in c j.callers x) e h)))
            (one_known j (subst (λ c. KnownStack c j.callers) (sym e) (subst (λ fs. KnownStack k.rest fs) (sym f) rest_stack)))

    value_known : {A : Type 0} (r : Valued A) (go : A → Tree) → ((v : A) → After (go v)) → After (on_value l k r go)
    value_known (Ok v) go h = h v
    value_known (Err x) go h = done_known (record k { faults = k.faults ++ record { path = k.path; label = l; kind = x } ∷ [] }) _

    flow_known : (f : Flow) (j : Leaf) → j.rest ≡ k.rest → j.callers ≡ k.callers → After (by_flow f j)
    flow_known On j e f = on_leaf j e f
    flow_known Faulted j e f = done_known j _
    flow_known Stopped j e f = done_known j _

    -- into a block
    into : (b : Codes) {out : ℕ → ℕ} (env : Environment) → Inner p (whole_of s) (whole b) out → Block (whole_of s) (whole b)
        → After (single (before_rest b (record k { environment = env })))
    into b env i j = kept_part
        (λ x. either_of (λ h. from_either (λ h. All.here (AllOf.inner i h refl)) (λ h. All.later h) (all_in b k.rest x h)) (λ h. h))
        (one_known (before_rest b (record k { environment = env }))
        (stack_to (Then l s k.rest) (append b k.rest) k.callers
        (λ f. known_append b k.rest (λ x y h. f x y (Together.inside j h)) (λ x y h g. f x y (Together.follows (PendingOf.inner i h refl) g)) (λ x y h. f x y (Together.later h)))
        (λ x h. from_either (λ h. Pending.here (PendingOf.inner i h refl)) (λ h. Pending.later h) (pending_in b k.rest x h)) st))

  again : (l : ℕ) (t : Truth) (b : Codes) (k : Leaf) → KnownStack (Then l (While t b) k.rest) k.callers
      → KeptKnown (left_in (Then l (While t b) k.rest) k.callers) (single (before_rest b (before_rest (Then l (While t b) End) k)))
  again l t b k st = kept_part
      (λ x. either_of (λ h. from_either (λ h. All.here (AllOf.inner Inner.while h refl)) (λ h. h) (all_in b (Then l (While t b) k.rest) x h)) (λ h. h))
      (one_known (before_rest b (before_rest (Then l (While t b) End) k))
      (stack_to (Then l (While t b) k.rest) (append b (Then l (While t b) k.rest)) k.callers
      (λ f. known_append b (Then l (While t b) k.rest) (λ x y h. f x y (Together.inside Block.while h)) (loops f) f)
      (λ x h. from_either (λ h. Pending.here (PendingOf.inner Inner.while h refl)) (λ h. h) (pending_in b (Then l (While t b) k.rest) x h)) st))
    where
      loops : Known (Then l (While t b) k.rest) → (x y : ℕ) → Pending p labels (whole b) x
          → All p labels (whole (Then l (While t b) k.rest)) y → Met x y
      loops f x y h (All.here g) = f x y (Together.turns (PendingOf.inner Inner.while h refl) g)
      loops f x y h (All.later g) = f x y (Together.follows (PendingOf.inner Inner.while h refl) g)

  -- the labels don't depend on the size of the pieces
  pending_of_any : {s x i z : ℕ} {e f : Number} {b : Codes} → PendingOf p labels (Parts s e x i b) z
      → PendingOf p labels (Parts s f x i b) z
  pending_of_any (PendingOf.inner Inner.parts h q) = PendingOf.inner Inner.parts h q

  pending_any : {l s x i z : ℕ} {e f : Number} {b rest : Codes} → Pending p labels (Then l (Parts s e x i b) rest) z
      → Pending p labels (Then l (Parts s f x i b) rest) z
  pending_any (Pending.here h) = Pending.here (pending_of_any h)
  pending_any (Pending.later h) = Pending.later h

  all_of_any : {l s x i z : ℕ} {e f : Number} {b : Codes} → AllOf p labels l (Parts s e x i b) z
      → AllOf p labels l (Parts s f x i b) z
  all_of_any (AllOf.own_access m) = AllOf.own_access m
  all_of_any (AllOf.inner Inner.parts h q) = AllOf.inner Inner.parts h q

  all_any : {l s x i z : ℕ} {e f : Number} {b rest : Codes} → All p labels (Then l (Parts s e x i b) rest) z
      → All p labels (Then l (Parts s f x i b) rest) z
  all_any (All.here h) = All.here (all_of_any h)
  all_any (All.later h) = All.later h

  together_any : {l s x i y z : ℕ} {e f : Number} {b rest : Codes} → Together p labels (Then l (Parts s e x i b) rest) y z
      → Together p labels (Then l (Parts s f x i b) rest) y z
  together_any (Together.follows h g) = Together.follows (pending_of_any h) g
  together_any (Together.pieces h) = Together.pieces h
  together_any (Together.inside Block.parts h) = Together.inside Block.parts h
  together_any (Together.later h) = Together.later h

  parts_known : (l s : ℕ) (e : Number) (x i : ℕ) (b : Codes) (k : Leaf) → KnownStack (Then l (Parts s e x i b) k.rest) k.callers
      → (n : ℕ) → KeptKnown (left_in (Then l (Parts s e x i b) k.rest) k.callers) (single (before_turns l s n 0 x i b k))
  parts_known l s e x i b k st n = by (has_piece (k.environment.windows s) n 0)
    where
      by : (left : Bool) → KeptKnown (left_in (Then l (Parts s e x i b) k.rest) k.callers)
          (single (if left then record k { rest = Then l (Begun s n 0 x i b) k.rest } else k))
      by true = kept_part (to_waits (Then l (Parts s e x i b) k.rest) (Then l (Begun s n 0 x i b) k.rest) k.callers (λ z h. all_any h))
          (one_known (record k { rest = Then l (Begun s n 0 x i b) k.rest })
          (stack_to (Then l (Parts s e x i b) k.rest) (Then l (Begun s n 0 x i b) k.rest) k.callers
          (λ f y z h. f y z (together_any h)) (λ z h. pending_any h) st))
      by false = on_leaf l (Parts s e x i b) k st k refl refl

  -- a turn before the later turns
  turn_known : (l s n m x i : ℕ) (b : Codes) (env : Environment) (k : Leaf) → KnownStack (Then l (Begun s n m x i b) k.rest) k.callers
      → KeptKnown (left_in (Then l (Begun s n m x i b) k.rest) k.callers)
      (single (record k { environment = env; rest = append b (Then l (Begun s n (m + 1) x i b) k.rest) }))
  turn_known l s n m x i b env k st = kept_part
      (λ z. either_of (λ h. from_either (λ h. All.here (AllOf.inner Inner.parts h refl)) (λ h. h) (all_in b (Then l (Begun s n (m + 1) x i b) k.rest) z h)) (λ h. h))
      (one_known (record k { environment = env; rest = append b (Then l (Begun s n (m + 1) x i b) k.rest) })
      (stack_to (Then l (Begun s n m x i b) k.rest) (append b (Then l (Begun s n (m + 1) x i b) k.rest)) k.callers
      (λ f. known_append b (Then l (Begun s n (m + 1) x i b) k.rest) (λ y z h. f y z (Together.inside Block.parts h)) (turns f) f)
      (λ z h. from_either (λ h. Pending.here (PendingOf.inner Inner.parts h refl)) (λ h. h) (pending_in b (Then l (Begun s n (m + 1) x i b) k.rest) z h)) st))
    where
      turns : Known (Then l (Begun s n m x i b) k.rest) → (y z : ℕ) → Pending p labels (whole b) y
          → All p labels (whole (Then l (Begun s n m x i b) k.rest)) z → Met y z
      turns f y z h (All.here (AllOf.own_access g)) = f y z (Together.pieces (record { pending = h; later = inl g; meet = refl }))
      turns f y z h (All.here (AllOf.inner Inner.parts g q)) =
          f y z (Together.pieces (record { pending = h; later = inr (subst (All p labels (whole b)) (sym q) g); meet = refl }))
      turns f y z h (All.later g) = f y z (Together.follows (PendingOf.inner Inner.parts h refl) g)

  begun_known : (l s n m x i : ℕ) (b : Codes) (k : Leaf) → KnownStack (Then l (Begun s n m x i b) k.rest) k.callers
      → KeptKnown (left_in (Then l (Begun s n m x i b) k.rest) k.callers)
      (single (if has_piece (k.environment.windows s) n m then before_rest b (in_piece s n m x i (before_turns l s n (m + 1) x i b k)) else k))
  begun_known l s n m x i b k st = by (has_piece (k.environment.windows s) n m)
    where
      to : Environment
      to = with_piece x i (piece_at n m (k.environment.windows s)) m k.environment

      further : (more : Bool) → KeptKnown (left_in (Then l (Begun s n m x i b) k.rest) k.callers)
          (single (before_rest b (in_piece s n m x i (if more then record k { rest = Then l (Begun s n (m + 1) x i b) k.rest } else k))))
      further true = turn_known l s n m x i b to k st
      further false = into l (Begun s n m x i b) k st b to Inner.parts Block.parts

      by : (left : Bool) → KeptKnown (left_in (Then l (Begun s n m x i b) k.rest) k.callers)
          (single (if left then before_rest b (in_piece s n m x i (before_turns l s n (m + 1) x i b k)) else k))
      by true = further (has_piece (k.environment.windows s) n (m + 1))
      by false = on_leaf l (Begun s n m x i b) k st k refl refl

  async_known : (l : ℕ) (b : Codes) (k : Leaf) → KnownStack (Then l (Async b) k.rest) k.callers
      → KeptKnown (left_in (Then l (Async b) k.rest) k.callers) (Beside (single (child b k)) (single (parent k)))
  async_known l b k st =
      let known = known_of (Then l (Async b) k.rest) k.callers st in
      let left = one_known (child b k) (λ x y h. known x y (Together.inside Block.async h)) in
      let right = one_known (parent k) (rest_stack l (Async b) k st) in
      record {
        known = KnownTree.is_beside left.known right.known (λ x y h g. elim (left.part x h) [
          | inl h ↦ elim (right.part y g) [
            | inl g ↦ known x y (Together.follows (PendingOf.async h) g)
            | inr g ↦ pending_waits (Then l (Async b) k.rest) k.callers st x y (Pending.here (PendingOf.async h)) g
          ]
          | inr h ↦ absurd h
        ]);
        part = λ x. from_either
            (λ h. from_either (λ h. inl (All.here (AllOf.async h))) (λ h. absurd h) (left.part x h))
            (λ h. rest_in l (Async b) k st x (right.part x h));
      }

  finish_known : (l : ℕ) (b : Codes) (k : Leaf) → KnownStack (Then l (Finish b) k.rest) k.callers
      → KeptKnown (left_in (Then l (Finish b) k.rest) k.callers) (and_then (single (inside b k)) NoHandler (held_back k))
  finish_known l b k st =
      let body = one_known (inside b k) (λ x y h. known_of (Then l (Finish b) k.rest) k.callers st x y (Together.inside Block.finish h)) in
      kept_part
      (λ x. from_either
      (λ h. from_either (λ h. inl (All.here (AllOf.finish h))) (λ h. absurd h) (body.part x h))
      (from_either (λ h. absurd h) (rest_in l (Finish b) k st x)))
      (then_known (single (inside b k)) NoHandler (held_back k) (rest_stack l (Finish b) k st) tt body.known)

  rescue_known : (l : ℕ) (b : Codes) (n : ℕ) (c : Codes) (k : Leaf) → KnownStack (Then l (Rescue b n c) k.rest) k.callers
      → KeptKnown (left_in (Then l (Rescue b n c) k.rest) k.callers) (and_then (single (inside b k)) (HandledBy n c) (held_back k))
  rescue_known l b n c k st =
      let s = Rescue b n c in
      let body = one_known (inside b k) (λ x y h. known_of (Then l s k.rest) k.callers st x y (Together.inside Block.rescued h)) in
      let handler = stack_to (Then l s k.rest) (append c k.rest) k.callers
      (λ f. known_append c k.rest (λ x y h. f x y (Together.inside Block.handler h))
      (λ x y h g. f x y (Together.follows (PendingOf.inner Inner.handler h refl) g)) (λ x y h. f x y (Together.later h)))
      (λ x h. from_either (λ h. Pending.here (PendingOf.inner Inner.handler h refl)) (λ h. Pending.later h) (pending_in c k.rest x h)) st in
      kept_part
      (λ x. from_either
      (λ h. from_either (λ h. inl (All.here (AllOf.rescued h))) (λ h. absurd h) (body.part x h))
      (from_either (λ h. inl (All.here (AllOf.inner Inner.handler h refl))) (rest_in l s k st x)))
      (then_known (single (inside b k)) (HandledBy n c) (held_back k) (rest_stack l s k st) handler body.known)

  module _ (texts : (f : ℕ) → IsText (procedure_of p f).body) where
    body_is : (f : ℕ) → whole (procedure_of p f).body ≡ (procedure_of p f).body
    body_is f = text_is_whole (procedure_of p f).body (texts f)

    call_known : (l f : ℕ) (es : List Number) (ss : List ℕ) (env : Environment) (k : Leaf)
        → KnownStack (Then l (Call f es ss) k.rest) k.callers
        → KeptKnown (left_in (Then l (Call f es ss) k.rest) k.callers) (single (called (procedure_of p f) env k))
    call_known l f es ss env k st = kept_part
        (λ x. from_either (λ h. inl (All.here (AllOf.inner Inner.call (subst (λ c. All p labels c x) (body_is f) h) refl))) (either_of (λ h. All.later h) (λ h. h)))
        (one_known (called (procedure_of p f) env k) (
          (λ x y h. Met.in_procedure f (subst (λ c. Together p labels c x y) (body_is f) h)),
          (λ x y h. let left : PendingOf p labels (Call f es ss) x = PendingOf.inner Inner.call (subst (λ c. Pending p labels c x) (body_is f) h) refl in from_either
              (λ g. known_of (Then l (Call f es ss) k.rest) k.callers st x y (Together.follows left g))
              (λ g. pending_waits (Then l (Call f es ss) k.rest) k.callers st x y (Pending.here left) g)),
          rest_stack l (Call f es ss) k st,
        ))

    after_known : (l : ℕ) (s : Code) (k : Leaf) (a : Contents) → (st : KnownStack (Then l s k.rest) k.callers)
        → KeptKnown (left_in (Then l s k.rest) k.callers) (tree_after p l s k a)
    after_known l (Do c) k a st =
        flow_known l (Do c) k st (primitive p l c (as_state k a)).flow
        (let to = primitive p l c (as_state k a) in record k { environment = to.environment; lines = to.lines; faults = to.faults }) refl refl
    after_known l (If t b c) k a st = value_known l (If t b c) k st (truth k.environment (read a) t) (λ v. single (before_rest (if v then b else c) k)) (λ v. by v)
      where
        by : (v : Bool)
            → KeptKnown (left_in (Then l (If t b c) k.rest) k.callers) (single (before_rest (if v then b else c) k))
        by true = into l (If t b c) k st b k.environment Inner.if_body Block.if_body
        by false = into l (If t b c) k st c k.environment Inner.if_other Block.if_other
    after_known l (While t b) k a st =
        value_known l (While t b) k st (truth k.environment (read a) t) (λ v. single (if v then before_rest b (before_rest (Then l (While t b) End) k) else k)) (λ v. by v)
      where
        by : (v : Bool)
            → KeptKnown (left_in (Then l (While t b) k.rest) k.callers) (single (if v then before_rest b (before_rest (Then l (While t b) End) k) else k))
        by true = again l t b k st
        by false = on_leaf l (While t b) k st k refl refl
    after_known l (Split s e x y b) k a st =
        value_known l (Split s e x y b) k st (then_try (number k.environment (read a) e) (λ v. ok_or (sides_of (k.environment.windows s) v) SplitPoint))
        (λ ws. single (before_rest b (record k { environment = with_sides x y ws k.environment })))
        (λ ws. into l (Split s e x y b) k st b (with_sides x y ws k.environment) Inner.split Block.split)
    after_known l (Parts s e x i b) k a st =
        value_known l (Parts s e x i b) k st (size_by (number k.environment (read a) e)) (λ n. single (before_turns l s n 0 x i b k))
        (λ n. parts_known l s e x i b k st n)
    after_known l (Begun s n m x i b) k a st = begun_known l s n m x i b k st
    after_known l (Call f es ss) k a st =
        value_known l (Call f es ss) k st (numbers k.environment (read a) es) (λ vs. single (called (procedure_of p f) (entry vs (map k.environment.windows ss)) k))
        (λ vs. call_known l f es ss (entry vs (map k.environment.windows ss)) k st)
    after_known l (Async b) k a st = async_known l b k st
    after_known l (Finish b) k a st = finish_known l b k st
    after_known l (Rescue b n c) k a st = rescue_known l b n c k st

    step_known : {n : ℕ} {k : Leaf} {t u : Tree} {a b : Contents} → Step p n k t a u b → KnownTree t
        → KeptKnown (still_in t) u
    step_known (Step.here {k = k} {l = l} {s = s} {rest = rest} {a = a} r e f) (KnownTree.is_leaf st) =
        subst (KeptKnown (left_in k.rest k.callers)) (sym e)
        (subst (λ c. KeptKnown (left_in c k.callers) (tree_after p l s (record k { rest = rest }) a)) (sym r)
        (after_known l s (record k { rest = rest }) a (subst (λ c. KnownStack c k.callers) r st)))
    step_known (Step.first {x = y} {j = j} {u = u} s e) (KnownTree.is_then st handler g) =
        let m = step_known s g in
        subst (KeptKnown _) (sym e) (kept_part (λ x. either_of (m.part x) (λ h. h)) (then_known u y j st handler m.known))
    step_known (Step.left s) (KnownTree.is_beside g h meet) =
        let m = step_known s g in
        record { known = KnownTree.is_beside m.known h (λ x y i j. meet x y (m.part x i) j); part = λ x. either_of (m.part x) (λ h. h) }
    step_known (Step.right e s) (KnownTree.is_beside g h meet) =
        let m = step_known s h in
        record { known = KnownTree.is_beside g m.known (λ x y i j. meet x y i (m.part y j)); part = λ x. either_of (λ h. h) (m.part x) }

    run_known : {n : ℕ} {t u : Tree} {a b : Contents} → Runs p n t a u b → KnownTree t → KnownTree u
    run_known no_step g = g
    run_known (next {t = t} {u = u} {a = a} {b = b} n e r) g = run_known r (step_known (step_from p t n a u b e).1 g).known

    first_known : IsText p.main.body → KnownTree (first_tree p)
    first_known text =
        (one_known (first_leaf p) (λ x y h. Met.in_main (subst (λ c. Together p labels c x y) (text_is_whole p.main.body text) h))).known

  -- the label of a leaf's next statement is one of its tree
  label_in : {n : ℕ} {k : Leaf} {t u : Tree} {a b : Contents} (l : ℕ) (s : Code) (rest : Codes) → Step p n k t a u b
      → k.rest ≡ Then l s rest → still_in t l
  label_in l s rest (Step.here {k = k} r e f) q = inl (subst (λ c. All p labels (whole c) l) (sym q) (All.here (AllOf.own_access Member.first)))
  label_in l s rest (Step.first i e) q = inl (label_in l s rest i q)
  label_in l s rest (Step.left i) q = inl (label_in l s rest i q)
  label_in l s rest (Step.right e i) q = inr (label_in l s rest i q)

  labels_met : {m n : ℕ} {j k : Leaf} {t u v : Tree} {a b c : Contents} (x y : ℕ) (s s2 : Code) (rest rest2 : Codes)
      → Step p m j t a u b → Step p n k t a v c → m < n → j.rest ≡ Then x s rest → k.rest ≡ Then y s2 rest2 → KnownTree t → Met x y
  labels_met x y s s2 r r2 (Step.here _ _ _) (Step.here _ _ _) h e f g = absurd (omega arith)
  labels_met x y s s2 r r2 (Step.first i _) (Step.first i2 _) h e f (KnownTree.is_then st handler g) = labels_met x y s s2 r r2 i i2 h e f g
  labels_met x y s s2 r r2 (Step.left i) (Step.left i2) h e f (KnownTree.is_beside g g2 meet) = labels_met x y s s2 r r2 i i2 h e f g
  labels_met x y s s2 r r2 (Step.right q i) (Step.right q2 i2) h e f (KnownTree.is_beside g g2 meet) = labels_met x y s s2 r r2 i i2 (omega arith) e f g2
  labels_met x y s s2 r r2 (Step.right q i) (Step.left i2) h e f g = absurd (let z = step_below p i2 in omega arith)
  labels_met x y s s2 r r2 (Step.left i) (Step.right q i2) h e f (KnownTree.is_beside g g2 meet) =
      meet x y (label_in x s r i e) (label_in y s2 r2 i2 f)

  met_swapped : (x y : ℕ) → Met y x → LabelsMeet p x y
  met_swapped x y (Met.in_procedure f h) = LabelsMeet.in_procedure f (inr h)
  met_swapped x y (Met.in_main h) = LabelsMeet.in_main (inr h)

  met_together : (x y : ℕ) → Met x y → LabelsMeet p x y
  met_together x y (Met.in_procedure f h) = LabelsMeet.in_procedure f (inl h)
  met_together x y (Met.in_main h) = LabelsMeet.in_main (inl h)

  -- two leaves of one reachable tree are about to run labels that may run together
  pub labels_known : AreTexts p → (input : Contents) (t : Tree) (a : Contents) → Reachable p input t a → (m n : ℕ) → m ≢ n
      → (j k : Leaf) → leaf_at m t ≡ Some j → leaf_at n t ≡ Some k
      → (x y : ℕ) → StandsBefore j x → StandsBefore k y → LabelsMeet p x y
  labels_known texts input t a r m n ne j k e f x y g h =
      let s = step_at p t m j a e in
      let s2 = step_at p t n k a f in
      let known = run_known texts.procedures r.1 (first_known texts.procedures texts.main) in
      elim (sides m n ne) [
        | inl less ↦ met_together x y (labels_met x y g.code h.code g.rest h.rest s.step s2.step less g.stands h.stands known)
        | inr less ↦ met_swapped x y (labels_met y x h.code g.code h.rest g.rest s2.step s.step less h.stands g.stands known)
      ]
    where
      sides : (m n : ℕ) → m ≢ n → (m < n) ⊎ (n < m)
      sides m n ne = grind arith

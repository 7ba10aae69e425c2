-- The turns to come of begun `parts`: of one list before another, in a text, and in other environments.
use Rattle.std.proofs.Common.{◌≡◌, ◌⊎◌, inl, inr, ℕ, List, ◌∷◌, refl, sym, ap, ◌∙◌, subst}
use Rattle.std.specs.Prelude.{Bool, true, false, nat_eq, if◌then◌else◌}
use Rattle.sections.specs.Member.{Member, first, next}
use Rattle.sections.specs.Origins.{IsNumbered}
use Rattle.sections.specs.Place.{Window, has_piece, piece_at}
use Rattle.types.proofs.Bindings.{bind_here}
use Rattle.types.specs.Code.{Code, Do, If, While, Split, Parts, Begun, Call, Async, Finish, Rescue, Codes, End, Then, Procedure, Program}
use Rattle.types.specs.Run.{bind, with_piece}
use Rattle.types.specs.Sound.{IsText, IsTextOf}
use Rattle.types.specs.Trees.{append}
use Rattle.types.specs.Value.{Environment}
use Rattle.effects.specs.Accesses.{Access}
use Rattle.effects.specs.Effects.{All, accesses}
use Rattle.effects.specs.Footprint.{InTurnToCome, InTurnsOf}
use Rattle.effects.specs.Kept.{SameWindows}
use Rattle.effects.specs.Sound.{Follows, FollowsOf, IsSound}
use Rattle.effects.proofs.AccessesInScope.{allowed}
use Rattle.step_trees.proofs.Statements.{either_of, from_either}
use Rattle.step_trees.specs.Laws.{TurnIn, TurnsIn}

abbrev pub Among : List ℕ → List ℕ → Type 0
Among small large = (x : ℕ) → Member x small → Member x large

-- this holds in a turn to come of a statement
abbrev pub InTurnOf : Environment → (Environment → Codes → Type 0) → Code → Type 0
InTurnOf env at (Begun s n k q i b) = InTurnToCome env s n k q i (λ e. at e b)
InTurnOf env at _ = ⊥

module _ (env : Environment) (at : Environment → Codes → Type 0) where
  -- in a turn to come of a list: of its first statement or of the others
  pub which_turn : (l : ℕ) (s : Code) (rest : Codes) → InTurnsOf env at (Then l s rest)
      → InTurnOf env at s ⊎ InTurnsOf env at rest
  which_turn l (Do s) rest h = inr h
  which_turn l (If t b c) rest h = inr h
  which_turn l (While t b) rest h = inr h
  which_turn l (Split s e x y b) rest h = inr h
  which_turn l (Parts s e q i b) rest h = inr h
  which_turn l (Begun s n k q i b) rest h = h
  which_turn l (Call f es ss) rest h = inr h
  which_turn l (Async b) rest h = inr h
  which_turn l (Finish b) rest h = inr h
  which_turn l (Rescue b x c) rest h = inr h

  pub first_turn : (l : ℕ) (s : Code) (rest : Codes) → InTurnOf env at s → InTurnsOf env at (Then l s rest)
  first_turn l (Do s) rest h = absurd h
  first_turn l (If t b c) rest h = absurd h
  first_turn l (While t b) rest h = absurd h
  first_turn l (Split s e x y b) rest h = absurd h
  first_turn l (Parts s e q i b) rest h = absurd h
  first_turn l (Begun s n k q i b) rest h = inl h
  first_turn l (Call f es ss) rest h = absurd h
  first_turn l (Async b) rest h = absurd h
  first_turn l (Finish b) rest h = absurd h
  first_turn l (Rescue b x c) rest h = absurd h

  pub later_turn : (l : ℕ) (s : Code) (rest : Codes) → InTurnsOf env at rest → InTurnsOf env at (Then l s rest)
  later_turn l (Do s) rest h = h
  later_turn l (If t b c) rest h = h
  later_turn l (While t b) rest h = h
  later_turn l (Split s e x y b) rest h = h
  later_turn l (Parts s e q i b) rest h = h
  later_turn l (Begun s n k q i b) rest h = inr h
  later_turn l (Call f es ss) rest h = h
  later_turn l (Async b) rest h = h
  later_turn l (Finish b) rest h = h
  later_turn l (Rescue b x c) rest h = h

  -- a text has no turns to come
  text_has_none : (s : Code) → IsTextOf s → InTurnOf env at s → ⊥
  text_has_none (Do s) k h = h
  text_has_none (If t b c) k h = h
  text_has_none (While t b) k h = h
  text_has_none (Split s e x y b) k h = h
  text_has_none (Parts s e q i b) k h = h
  text_has_none (Begun s n m q i b) k h = k
  text_has_none (Call f es ss) k h = h
  text_has_none (Async b) k h = h
  text_has_none (Finish b) k h = h
  text_has_none (Rescue b x c) k h = h

  pub no_turns : (b : Codes) → IsText b → InTurnsOf env at b → ⊥
  no_turns End k h = h
  no_turns (Then l s b) k h = from_either (text_has_none s k.0) (no_turns b k.1) (which_turn l s b h)

  -- of one list before another
  pub turns_append : (b c : Codes) → InTurnsOf env at (append b c) → InTurnsOf env at b ⊎ InTurnsOf env at c
  turns_append End c h = inr h
  turns_append (Then l s b) c h = from_either
      (λ t. inl (first_turn l s b t))
      (λ h. either_of (later_turn l s b) (λ h. h) (turns_append b c h)) (which_turn l s (append b c) h)

-- In other environments

same_bound : {scope : List ℕ} (env other : Environment) (q : ℕ) (v : Window) → SameWindows scope env other → (y : ℕ)
    → Member y (q ∷ scope) → bind q v env.windows y ≡ bind q v other.windows y
same_bound env other q v same y first = bind_here q v env.windows ∙ sym (bind_here q v other.windows)
same_bound env other q v same y (next m) = by (nat_eq q y)
  where
    by : (b : Bool) → (if b then v else env.windows y) ≡ (if b then v else other.windows y)
    by true = refl
    by false = same y m

-- in a turn, if the sections in scope around it have the same windows
same_in_turn : {scope : List ℕ} (env other : Environment) (s q i n k : ℕ) → Member s scope → SameWindows scope env other
    → SameWindows (q ∷ scope) (with_piece q i (piece_at n k (env.windows s)) k env) (with_piece q i (piece_at n k (other.windows s)) k other)
same_in_turn env other s q i n k m same y h =
    same_bound env other q (piece_at n k (env.windows s)) same y h
    ∙ ap (λ w. bind q (piece_at n k w) other.windows y) (same s m)

member_more : {small large : List ℕ} (q : ℕ) → Among small large → Among (q ∷ small) (q ∷ large)
member_more q f x first = first
member_more q f x (next m) = next (f x m)

module _ (p : Program) where
  pub turns_in_append : (scope : List ℕ) (b c : Codes) → TurnsIn p scope b → TurnsIn p scope c → TurnsIn p scope (append b c)
  turns_in_append scope End c h k = k
  turns_in_append scope (Then l s b) c h k = (h.0, turns_in_append scope b c h.1 k)

  turn_in_more : {small large : List ℕ} → Among small large → (s : Code) → TurnIn p small s → TurnIn p large s
  turn_in_more f (Do s) h = tt
  turn_in_more f (If t b c) h = tt
  turn_in_more f (While t b) h = tt
  turn_in_more f (Split s e x y b) h = tt
  turn_in_more f (Parts s e q i b) h = tt
  turn_in_more f (Begun s n k q i b) h = (f s h.0, λ x m. member_more q f x.section (h.1 x m))
  turn_in_more f (Call g es ss) h = tt
  turn_in_more f (Async b) h = tt
  turn_in_more f (Finish b) h = tt
  turn_in_more f (Rescue b x c) h = tt

  pub turns_in_more : {small large : List ℕ} → Among small large → (b : Codes) → TurnsIn p small b → TurnsIn p large b
  turns_in_more f End h = tt
  turns_in_more f (Then l s b) h = (turn_in_more f s h.0, turns_in_more f b h.1)

  module _ (sound : IsSound p) (g : Procedure) (numbered : IsNumbered g.sections) where
    follows_turn_in : (scope : List ℕ) (s : Code) → FollowsOf p g scope s → TurnIn p scope s
    follows_turn_in scope (Do s) k = tt
    follows_turn_in scope (If t b c) k = tt
    follows_turn_in scope (While t b) k = tt
    follows_turn_in scope (Split s e x y b) k = tt
    follows_turn_in scope (Parts s e q i b) k = tt
    follows_turn_in scope (Begun s n m q i b) k =
        (k.0.in_scope, λ x h. (allowed p sound h g (q ∷ scope) numbered k.1).in_scope)
    follows_turn_in scope (Call f es ss) k = tt
    follows_turn_in scope (Async b) k = tt
    follows_turn_in scope (Finish b) k = tt
    follows_turn_in scope (Rescue b x c) k = tt

    pub follows_turns_in : (scope : List ℕ) (b : Codes) → Follows p g scope b → TurnsIn p scope b
    follows_turns_in scope End k = tt
    follows_turns_in scope (Then l s b) k = (follows_turn_in scope s k.0, follows_turns_in scope b k.1)

  -- what only depends on the windows of the sections that a block names
  abbrev pub IsLocal : (Environment → Codes → Type 0) → Type 0
  IsLocal at = (scope : List ℕ) (env other : Environment) (b : Codes) → ((x : Access) → All p accesses b x → Member x.section scope)
      → SameWindows scope env other → at other b → at env b

  module _ (at : Environment → Codes → Type 0) (is_local : IsLocal at) where
    shift_turn : (scope : List ℕ) (env other : Environment) (s : Code) → TurnIn p scope s → SameWindows scope env other
        → InTurnOf other at s → InTurnOf env at s
    shift_turn scope env other (Do s) h same t = t
    shift_turn scope env other (If c b d) h same t = t
    shift_turn scope env other (While c b) h same t = t
    shift_turn scope env other (Split s e x y b) h same t = t
    shift_turn scope env other (Parts s e q i b) h same t = t
    shift_turn scope env other (Begun s n k q i b) h same t = record {
      number = t.number;
      later = t.later;
      left = subst (λ w. has_piece w n t.number ≡ true) (sym (same s h.0)) t.left;
      there = is_local (q ∷ scope) (with_piece q i (piece_at n t.number (env.windows s)) t.number env)
          (with_piece q i (piece_at n t.number (other.windows s)) t.number other) b h.1
          (same_in_turn env other s q i n t.number h.0 same) t.there;
    }
    shift_turn scope env other (Call f es ss) h same t = t
    shift_turn scope env other (Async b) h same t = t
    shift_turn scope env other (Finish b) h same t = t
    shift_turn scope env other (Rescue b x c) h same t = t

    pub shift_turns : (scope : List ℕ) (env other : Environment) (b : Codes) → TurnsIn p scope b → SameWindows scope env other
        → InTurnsOf other at b → InTurnsOf env at b
    shift_turns scope env other End h same t = t
    shift_turns scope env other (Then l s b) h same t = from_either
        (λ t. first_turn env at l s b (shift_turn scope env other s h.0 same t))
        (λ t. later_turn env at l s b (shift_turns scope env other b h.1 same t))
        (which_turn other at l s b t)

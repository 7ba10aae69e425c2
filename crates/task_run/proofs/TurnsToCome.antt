-- The turns to come of a list of statements: only a `parts` that has begun has any.
use Rattle.std.proofs.Common.{ℕ, ◌+◌, ◌≤◌, inl, inr, arith}
use Rattle.types.specs.Code.{Code, Do, If, While, Split, Parts, Begun, Call, Async, Finish, Rescue, Codes, End, Then}
use Rattle.types.specs.Code.{Program}
use Rattle.types.specs.Sound.{IsText, IsTextOf}
use Rattle.types.specs.Value.{Environment}
use Rattle.sections.specs.Place.{Place}
use Rattle.effects.specs.Footprint.{InTurnToCome, InTurnsOf, MayTouch, MayWrite, MayStillWrite}

-- a statement on its own
abbrev pub single : Code → Codes
single s = Then 0 s End

-- what a turn may touch, write, and leave to be written at a place
abbrev pub touching : Program → Place → Environment → Codes → Type 0
touching p q e b = MayTouch p e b q

abbrev pub writing : Program → Place → Environment → Codes → Type 0
writing p q e b = MayWrite p e b q

abbrev pub still_writing : Program → Place → Environment → Codes → Type 0
still_writing p q e b = MayStillWrite p e b q

-- a later turn is one of those from an earlier number on
pub turn_earlier : {env : Environment} {s n k q i : ℕ} {holds : Environment → Type 0}
    → InTurnToCome env s n (k + 1) q i holds → InTurnToCome env s n k q i holds
turn_earlier {k = k} t = record {
  number = t.number;
  later = (let h : k + 1 ≤ t.number = t.later in omega (arith, h));
  left = t.left;
  there = t.there;
}

module _ (env : Environment) (at : Environment → Codes → Type 0) where
  -- those of the first statement
  pub turns_here : (l : ℕ) (s : Code) (rest : Codes) → InTurnsOf env at (single s) → InTurnsOf env at (Then l s rest)
  turns_here l (Begun s n k q i b) rest (inl t) = inl t
  turns_here l (Begun s n k q i b) rest (inr h) = absurd h
  turns_here l (Do s) rest h = absurd h
  turns_here l (If t b c) rest h = absurd h
  turns_here l (While t b) rest h = absurd h
  turns_here l (Split s e x y b) rest h = absurd h
  turns_here l (Parts s e q i b) rest h = absurd h
  turns_here l (Call f es ss) rest h = absurd h
  turns_here l (Async b) rest h = absurd h
  turns_here l (Finish b) rest h = absurd h
  turns_here l (Rescue b x c) rest h = absurd h

  -- a list as in a text has none
  pub text_turns : (b : Codes) → IsText b → InTurnsOf env at b → ⊥
  text_turns End text h = h
  text_turns (Then l (Begun s n k q i b) rest) text h = text.0
  text_turns (Then l (Do s) rest) text h = text_turns rest text.1 h
  text_turns (Then l (If t b c) rest) text h = text_turns rest text.1 h
  text_turns (Then l (While t b) rest) text h = text_turns rest text.1 h
  text_turns (Then l (Split s e x y b) rest) text h = text_turns rest text.1 h
  text_turns (Then l (Parts s e q i b) rest) text h = text_turns rest text.1 h
  text_turns (Then l (Call f es ss) rest) text h = text_turns rest text.1 h
  text_turns (Then l (Async b) rest) text h = text_turns rest text.1 h
  text_turns (Then l (Finish b) rest) text h = text_turns rest text.1 h
  text_turns (Then l (Rescue b x c) rest) text h = text_turns rest text.1 h

  pub code_turns : (s : Code) → IsTextOf s → InTurnsOf env at (single s) → ⊥
  code_turns s text h = text_turns (single s) (text, tt) h

-- The async with a given label.
use Rattle.std.specs.Prelude.{ℕ, List, [], ◌∷◌, Option, None, Some, nat_eq, if◌then◌else◌}
use Rattle.types.specs.Code.{Code, Do, If, While, Split, Parts, Begun, Call, Async, Finish, Rescue, Codes}
use Rattle.types.specs.Code.{End, Then}
use Rattle.types.specs.Code.{Procedure, Program}

-- the first value if there is one, else the second
abbrev pub first_of : (x y : Option Codes) → Option Codes
first_of (Some b) y = Some b
first_of None y = y

-- the body of a statement with its own label, if it is the async with this label
abbrev pub body_at : (label own : ℕ) → Code → Option Codes
body_at l m (Async b) = if nat_eq l m then Some b else None
body_at l m (Do s) = None
body_at l m (If t b c) = None
body_at l m (While t b) = None
body_at l m (Split s e x y b) = None
body_at l m (Parts s e q i b) = None
body_at l m (Begun s n k q i b) = None
body_at l m (Call f es ss) = None
body_at l m (Finish b) = None
body_at l m (Rescue b x c) = None

abbrev mutual
  -- the body of the async with a label inside a statement, and in a list
  pub body_inside : (label : ℕ) → Code → Option Codes
  body_inside l (Do s) = None
  body_inside l (If t b c) = first_of (body_in l b) (body_in l c)
  body_inside l (While t b) = body_in l b
  body_inside l (Split s e x y b) = body_in l b
  body_inside l (Parts s e q i b) = body_in l b
  body_inside l (Begun s n k q i b) = None
  body_inside l (Call f es ss) = None
  body_inside l (Async b) = body_in l b
  body_inside l (Finish b) = body_in l b
  body_inside l (Rescue b x c) = first_of (body_in l b) (body_in l c)

  pub body_in : (label : ℕ) → Codes → Option Codes
  body_in l End = None
  body_in l (Then m s rest) =
      first_of (body_at l m s) (first_of (body_inside l s) (body_in l rest))

-- the body of the async with a label in procedures
abbrev pub body_in_all : (label : ℕ) → List Procedure → Option Codes
body_in_all l [] = None
body_in_all l (f ∷ fs) = first_of (body_in l f.body) (body_in_all l fs)

-- the body of the async with a label, if a program has one
abbrev pub body_of_async : Program → (label : ℕ) → Option Codes
body_of_async p l = first_of (body_in_all l p.procedures) (body_in l p.main.body)

-- The warnings of a program, in the order of the text.
use Rattle.std.specs.Prelude.{ℕ, pos, negsuc, ◌+◌, Bool, true, false, not, ◌&&◌, ◌||◌, List, [], ◌∷◌, ◌++◌}
use Rattle.std.specs.Prelude.{Option, None, Some}
use Rattle.std.specs.Prelude.{if◌then◌else◌, int_lt, nat_eq, slice_get}
use Rattle.sections.specs.Overlap.{root_of}
use Rattle.syntax_tree.specs.Tree as tree
use Rattle.syntax_tree.specs.Tree.{Written, Read, Scalar as ScalarParameter}
use Rattle.syntax_tree.specs.declared.tree.ElementType.{ElementType}
use Rattle.types.specs.Code.{Number, Literal, Scalar, Element, Length, Negative, Chain}
use Rattle.types.specs.Code.{Primitive, Skip, Assign, Store, Print, Raise}
use Rattle.types.specs.Code.{Code, Do, If, While, Split, Parts, Begun, Call, Async, Finish, Rescue, Codes}
use Rattle.types.specs.Code.{End, Then}
use Rattle.types.specs.Code.{Parameter, Procedure, Program}
use Rattle.types.specs.Value.{holds_number}
use Rattle.warnings.specs.Ends.{block_may_leave, is_always, is_lone_task, is_never, stops}
use Rattle.warnings.specs.Uses.{codes_use}
use Rattle.warnings.specs.declared.uses.Thing.{Thing}
use Rattle.warnings.specs.declared.uses.Thing.TheVariants.{ScalarIn, SectionOf, ProcedureOf}
use Rattle.warnings.specs.declared.warning.Warning.{Warning}
use Rattle.warnings.specs.declared.warning.Warning.TheVariants.{UnusedProcedure, UnusedParameter}
use Rattle.warnings.specs.declared.warning.Warning.TheVariants.{UnreadVariable}
use Rattle.warnings.specs.declared.warning.Warning.TheVariants.{IdleFinish, LoneTask, NeverFits, Unreached}

-- a warning, if this holds
abbrev pub warn_if : Bool → Warning → List Warning
warn_if true w = w ∷ []
warn_if false w = []

-- a thing isn't used in a block
abbrev pub unused : Thing → Codes → Warning → List Warning
unused t b w = warn_if (not (codes_use t b)) w

-- ---- statements

-- a number that is written out and isn't 0
abbrev pub is_positive : Number → Bool
is_positive (Literal v) = int_lt (pos 0) v
is_positive (Scalar x) = false
is_positive (Element s i) = false
is_positive (Length s) = false
is_positive (Negative e) = false
is_positive (Chain e rest) = false

-- a constant that doesn't fit in an element of this type
abbrev pub cannot_hold : ElementType → Number → Bool
cannot_hold t (Literal v) = not (holds_number t v)
cannot_hold t (Negative e) = is_positive e && not (holds_number t (negsuc 0))
cannot_hold t (Scalar x) = false
cannot_hold t (Element s i) = false
cannot_hold t (Length s) = false
cannot_hold t (Chain e rest) = false

-- the same for the elements of an array, or of a parameter
abbrev pub root_cannot_hold : Option Parameter → Number → Bool
root_cannot_hold None e = false
root_cannot_hold (Some p) e = cannot_hold p.element e

-- and of a section of a procedure
abbrev pub section_cannot_hold : Procedure → (section : ℕ) → Number → Bool
section_cannot_hold f s e = root_cannot_hold (slice_get f.parameters (root_of f.sections s)) e

-- the warnings of a statement of one step: its variable is never read, or its constant doesn't fit
abbrev pub step_warnings : Procedure → (label : ℕ) → Primitive → List Warning
step_warnings f l (Assign x e) = unused (ScalarIn x) f.body (UnreadVariable l)
step_warnings f l (Store s i e) = warn_if (section_cannot_hold f s e) (NeverFits l)
step_warnings f l Skip = []
step_warnings f l (Print es) = []
step_warnings f l (Raise e) = []

-- those of a finish: it waits at once for its only task, or there is no task that it waits for
abbrev pub finish_warnings : (label : ℕ) → Codes → List Warning
finish_warnings l b =
    if is_lone_task b then LoneTask l ∷ [] else warn_if (not (block_may_leave b)) (IdleFinish l)

-- those of a statement, without those inside; a finish with a handler is there for faults, too
abbrev pub own_warnings : Procedure → (label : ℕ) → Code → List Warning
own_warnings f l (Do p) = step_warnings f l p
own_warnings f l (Finish b) = finish_warnings l b
own_warnings f l (If t b c) = []
own_warnings f l (While t b) = []
own_warnings f l (Split s e x y b) = []
own_warnings f l (Parts s e q i b) = []
own_warnings f l (Begun s n k q i b) = []
own_warnings f l (Call g es ss) = []
own_warnings f l (Async b) = []
own_warnings f l (Rescue b x c) = []

abbrev mutual
  -- those inside a statement
  pub inner_warnings : Procedure → Code → List Warning
  inner_warnings f (Do p) = []
  inner_warnings f (If t b c) = block_warnings f (is_never t) b ++ block_warnings f (is_always t) c
  inner_warnings f (While t b) = block_warnings f (is_never t) b
  inner_warnings f (Split s e x y b) = block_warnings f false b
  inner_warnings f (Parts s e q i b) = block_warnings f false b
  inner_warnings f (Begun s n k q i b) = block_warnings f false b
  inner_warnings f (Call g es ss) = []
  inner_warnings f (Async b) = block_warnings f false b
  inner_warnings f (Finish b) = block_warnings f false b
  inner_warnings f (Rescue b x c) = block_warnings f false b ++ block_warnings f false c

  -- those of a block, whose first statement isn't reached if it is dead: no run reaches the statement after
  -- one that stops its task
  pub block_warnings : Procedure → (dead : Bool) → Codes → List Warning
  block_warnings f dead End = []
  block_warnings f dead (Then l s rest) =
      warn_if dead (Unreached l)
      ++ (own_warnings f l s ++ (inner_warnings f s ++ block_warnings f (stops s) rest))

-- ---- procedures

-- a parameter as a thing, after so many scalars and sections
abbrev pub thing_of : tree.Parameter → (scalars sections : ℕ) → Thing
thing_of (ScalarParameter x) scalars sections = ScalarIn scalars
thing_of (Written x t) scalars sections = SectionOf sections
thing_of (Read x t) scalars sections = SectionOf sections

abbrev pub scalars_after : tree.Parameter → ℕ → ℕ
scalars_after (ScalarParameter x) n = n + 1
scalars_after (Written x t) n = n
scalars_after (Read x t) n = n

abbrev pub sections_after : tree.Parameter → ℕ → ℕ
sections_after (ScalarParameter x) n = n
sections_after (Written x t) n = n + 1
sections_after (Read x t) n = n + 1

-- the parameters of the procedure with number f from the n-th on, in its block
abbrev pub parameter_warnings : (f : ℕ) → Codes → (n scalars sections : ℕ) → List tree.Parameter
    → List Warning
parameter_warnings f b n scalars sections [] = []
parameter_warnings f b n scalars sections (x ∷ xs) =
    unused (thing_of x scalars sections) b (UnusedParameter f n)
    ++ parameter_warnings f b (n + 1) (scalars_after x scalars) (sections_after x sections) xs

-- another procedure than this calls it, of those from the m-th on
abbrev pub called_by : (f m : ℕ) → List Procedure → Bool
called_by f m [] = false
called_by f m (g ∷ gs) = (not (nat_eq f m) && codes_use (ProcedureOf f) g.body) || called_by f (m + 1) gs

-- another procedure or `main` calls it
abbrev pub is_called : Program → (f : ℕ) → Bool
is_called p f = codes_use (ProcedureOf f) p.main.body || called_by f 0 p.procedures

-- the parameters of the procedure with a number
abbrev pub parameters_in : Option tree.Procedure → List tree.Parameter
parameters_in None = []
parameters_in (Some g) = g.parameters

-- the warnings of the procedure with number f
abbrev pub procedure_warnings : tree.Program → Program → (f : ℕ) → Procedure → List Warning
procedure_warnings t p f g =
    warn_if (not (is_called p f)) (UnusedProcedure f)
    ++ (parameter_warnings f g.body 0 0 0 (parameters_in (slice_get t.procedures f))
    ++ block_warnings g false g.body)

-- those of the procedures from the n-th on
abbrev pub warnings_from : tree.Program → Program → (n : ℕ) → List Procedure → List Warning
warnings_from t p n [] = []
warnings_from t p n (g ∷ gs) = procedure_warnings t p n g ++ warnings_from t p (n + 1) gs

-- all warnings
abbrev pub program_warnings : tree.Program → Program → List Warning
program_warnings t p = warnings_from t p 0 p.procedures ++ block_warnings p.main false p.main.body

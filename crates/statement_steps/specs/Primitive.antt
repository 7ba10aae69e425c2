-- What a statement evaluates before it does anything.
use Rattle.std.specs.Prelude.{ℕ, ℤ, ◌≡◌, ⊤, List, Bool, true, false, Result, Ok, Err, Vec, ok_or}
use Rattle.std.specs.Global.{Global}
use Rattle.types.specs.declared.fault.FaultKind.{FaultKind}
use Rattle.types.specs.declared.fault.FaultKind.TheVariants.{OutOfElement, SplitPoint}
use Rattle.sections.specs.declared.window.Place.{Place as rPlace}
use Rattle.sections.specs.declared.window.Window.{Window as rWindow}
use Rattle.types.specs.Code.{Number, Primitive, Skip, Assign, Store, Print, Raise, Program}
use Rattle.sections.specs.Place.{Place, Window, sides_of}
use Rattle.sections.specs.Translation.{place, window}
use Rattle.types.specs.Run.{State, number_at, window_at, array_of}
use Rattle.types.specs.Value.{Valued, then_try, element_of, holds_number}
use Rattle.statement_steps.specs.declared.turns.TurnsToCome.{TurnsToCome}

-- a place and a number, if the number fits in the element type
abbrev pub fitting : (fits : Bool) → Place → ℤ → Valued (Place × ℤ)
fitting true q v = Ok (q, v)
fitting false q v = Err OutOfElement

-- where a store writes, and the value
abbrev pub target : Program → State (Unit {0}) → (section : ℕ) → (index value : Number)
    → Valued (Place × ℤ)
target p st s i e =
    then_try (number_at st i) (λ at.
    then_try (number_at st e) (λ v.
    then_try (element_of (st.environment.windows s) at) (λ q.
    fitting (holds_number (array_of p q.array).element v) q v)))

-- the plain value of the target that the code returns
abbrev pub found : Result (rPlace × ℤ) FaultKind → Valued (Place × ℤ)
found (Ok t) = Ok (place t.0, t.1)
found (Err f) = Err f

-- the numbers that the code returns
abbrev pub listed : Result (Vec ℤ Global) FaultKind → Valued (List ℤ)
listed (Ok vs) = Ok vs.items
listed (Err f) = Err f

-- `Writable` holds for the place that a statement writes
abbrev pub CanStore : Program → (Writable : Place → Type 0) → State (Unit {0}) → Primitive → Type 0
CanStore p Writable st (Store s i e) =
    (q : Place) (v : ℤ) → Ok (q, v) ≡ target p st s i e → Writable q
CanStore p Writable st Skip = ⊤
CanStore p Writable st (Assign x e) = ⊤
CanStore p Writable st (Print es) = ⊤
CanStore p Writable st (Raise e) = ⊤

-- both sides of a section, split at the value of an expression
abbrev pub halves : {X : Type 0} → State X → (section : ℕ) → Number → Valued (Window × Window)
halves st s e = then_try (number_at st e) (λ v. ok_or (sides_of (window_at st s) v) SplitPoint)

-- the size of the pieces of a `parts` that the code returns
abbrev pub turns_size : Result TurnsToCome FaultKind → Valued ℕ
turns_size (Ok t) = Ok t.size
turns_size (Err f) = Err f

-- the sides that the code returns
abbrev pub cut : Result (rWindow × rWindow) FaultKind → Valued (Window × Window)
cut (Ok ws) = Ok (window ws.0, window ws.1)
cut (Err f) = Err f

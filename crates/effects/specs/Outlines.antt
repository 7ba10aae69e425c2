-- What each procedure does without its calls, and what its calls bring.
use Rattle.std.specs.Prelude.{ℕ, ◌+◌, List, [], ◌∷◌, ◌++◌, flat_map, Option, None, Some, slice_get}
use Rattle.sections.specs.Member.{Member}
use Rattle.sections.specs.Overlap.{root_of}
use Rattle.types.specs.Code.{Procedure, Program}
use Rattle.types.specs.declared.ids.ProcedureId.{ProcedureId}
use Rattle.effects.specs.Flows.{flows_of}
use Rattle.effects.specs.Starts.{starts_of}
use Rattle.effects.specs.Visits.{Visit, visits_in}
use Rattle.effects.specs.declared.flows.CallFlow.{CallFlow}
use Rattle.effects.specs.declared.starts.FirstLabel.{FirstLabel}
use Rattle.effects.specs.declared.summary.SummaryRow.{SummaryRow}
use Rattle.effects.specs.declared.visits.Standing.TheVariants.{Open}

-- the statements of a procedure
abbrev pub visits_of : Procedure → List Visit
visits_of g = visits_in Open g.body

-- what a procedure does without its calls
abbrev pub starts_in : Procedure → List FirstLabel
starts_in g = flat_map (starts_of (root_of g.sections)) (visits_of g)

-- what a procedure's calls bring
abbrev pub flows_in : (procedures : ℕ) → (caller : ProcedureId) → Procedure → List CallFlow
flows_in n f g = flat_map (flows_of f n (root_of g.sections)) (visits_of g)

-- what the calls of procedures bring that are numbered from k on
abbrev pub flows_in_all : (procedures k : ℕ) → List Procedure → List CallFlow
flows_in_all n k [] = []
flows_in_all n k (g ∷ gs) = flows_in n (record { number = k }) g ++ flows_in_all n (k + 1) gs

-- the procedures of a program in the order of the text, and after them `main`
abbrev pub numbered : Program → List Procedure
numbered p = p.procedures ++ p.main ∷ []

-- the procedure exists, and without its calls it puts the label in the row
abbrev pub StartsIn : Option Procedure → SummaryRow → (label : ℕ) → Type 0
StartsIn None r l = ⊥
StartsIn (Some g) r l = Member (record { row = r; label = l }) (starts_in g)

-- the procedure with this number exists, and without its calls it puts the label in the row
abbrev pub StartsAt : List Procedure → ℕ → SummaryRow → (label : ℕ) → Type 0
StartsAt gs f r l = StartsIn (slice_get gs f) r l

-- What calls bring from the rows of the called procedures into those of the caller.
use Rattle.std.specs.Prelude.{ℕ, ◌+◌, List, [], ◌∷◌, ◌++◌, Bool, true, false, nat_lt, if◌then◌else◌}
use Rattle.sections.specs.declared.id.SectionId.{SectionId}
use Rattle.types.specs.Code.{Code, Do, If, While, Split, Parts, Begun, Call, Async, Finish, Rescue}
use Rattle.types.specs.declared.ids.ProcedureId.{ProcedureId}
use Rattle.effects.specs.Visits.{Visit}
use Rattle.effects.specs.declared.flows.CallFlow.{CallFlow}
use Rattle.effects.specs.declared.summary.SummaryRow.{SummaryRow}
use Rattle.effects.specs.declared.summary.SummaryRow.TheVariants.{All, Pending, Labels, PendingLabels}
use Rattle.effects.specs.declared.visits.Standing.{Standing}
use Rattle.effects.specs.declared.visits.Standing.TheVariants.{Open, Begun, Awaited}

module _ (caller : ProcedureId) where
  -- from a row of the callee to a row of the caller
  abbrev pub flow : (callee : ProcedureId) → (from to : SummaryRow) → CallFlow
  flow f from to = record { callee = f; from = from; caller = caller; to = to }

  -- all labels of the callee are among all labels of the caller; after an open call, what is
  -- pending after the callee is pending; after a call inside an async, all labels are pending
  abbrev pub flows_of_labels : Standing → (callee : ProcedureId) → List CallFlow
  flows_of_labels Open f =
      flow f Labels Labels ∷ flow f PendingLabels PendingLabels ∷ []
  flows_of_labels Begun f = flow f Labels Labels ∷ flow f Labels PendingLabels ∷ []
  flows_of_labels Awaited f = flow f Labels Labels ∷ []

  -- the flows of the accesses of one kind to a parameter, for which this section is passed
  abbrev pub flows_of_use : Standing → (callee : ProcedureId) → (parameter section : SectionId)
      → (write : Bool) → List CallFlow
  flows_of_use Open f k s w = flow f (All k w) (All s w) ∷ flow f (Pending k w) (Pending s w) ∷ []
  flows_of_use Begun f k s w = flow f (All k w) (All s w) ∷ flow f (All k w) (Pending s w) ∷ []
  flows_of_use Awaited f k s w = flow f (All k w) (All s w) ∷ []

  module _ (root : ℕ → ℕ) where
    -- the flows of the parameters from k on
    abbrev pub flows_of_sections : Standing → (callee : ProcedureId) → (k : ℕ) → List ℕ → List CallFlow
    flows_of_sections w f k [] = []
    flows_of_sections w f k (s ∷ ss) =
        flows_of_use w f (record { number = k }) (record { number = root s }) true
        ++ (flows_of_use w f (record { number = k }) (record { number = root s }) false
        ++ flows_of_sections w f (k + 1) ss)

  module _ (procedures : ℕ) (root : ℕ → ℕ) where
    -- what a call brings, if the procedure exists
    abbrev pub flows_of_call : Standing → (callee : ℕ) → List ℕ → List CallFlow
    flows_of_call w f ss =
        if nat_lt f procedures then flows_of_labels w (record { number = f })
        ++ flows_of_sections root w (record { number = f }) 0 ss else []

    -- what a statement in this position brings
    abbrev pub flows_of_code : Standing → Code → List CallFlow
    flows_of_code w (Do s) = []
    flows_of_code w (If t b c) = []
    flows_of_code w (While t b) = []
    flows_of_code w (Split s e l r b) = []
    flows_of_code w (Parts s e q i b) = []
    flows_of_code w (Begun s n k q i b) = []
    flows_of_code w (Call f es ss) = flows_of_call w f ss
    flows_of_code w (Async b) = []
    flows_of_code w (Finish b) = []
    flows_of_code w (Rescue b n c) = []

    abbrev pub flows_of : Visit → List CallFlow
    flows_of v = flows_of_code v.standing v.code

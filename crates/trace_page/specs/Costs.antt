-- The cost of each label.
use Rattle.std.specs.Prelude.{ℕ, ℤ, List, [], ◌∷◌, codes}
use Rattle.serde_json.specs.Data.{Data, null}
use Rattle.types.specs.Code.{Program}
use Rattle.types.specs.Outcome.{Budget, Ended, Outcome, Stopped, outcome}
use Rattle.types.specs.Run.{Fault}
use Rattle.cost.specs.Accounts.{account_of, span_by_label}
use Rattle.trace_page.specs.Pieces.{list_by, natural, object_of}

-- the steps at each label, and those of them on the longest chain; the first number is that of no label
abbrev pub tables_json : (span work : List ℕ) → Data
tables_json span work =
    object_of ((codes "span", list_by natural span) ∷ (codes "work", list_by natural work) ∷ [])

-- a run with faults has no cost
abbrev pub unless_faulted : List Fault → Data → Data
unless_faulted [] tables = tables
unless_faulted (f ∷ fs) tables = null

-- nor has a stopped run
abbrev pub if_ended : Outcome → Data → Data
if_ended (Ended e) tables = unless_faulted e.faults tables
if_ended Stopped tables = null

-- with tables of this many rows
abbrev pub cost_json : Program → (rows : ℕ) → List (List ℤ) → Budget → Data
cost_json p rows input b =
    let account = account_of p rows input b in
    if_ended (outcome p input b) (tables_json (span_by_label account) account.work)

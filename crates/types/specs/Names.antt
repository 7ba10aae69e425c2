-- The texts of the names of tasks and scopes, and of faults.
use Rattle.std.specs.Prelude.{ℕ, List, ◌++◌, codes}
use Rattle.std.specs.List.{flat_map}
use Rattle.std.specs.Fmt.{decimal, signed_decimal}
use Rattle.types.specs.declared.fault.FaultKind.{FaultKind}
use Rattle.types.specs.declared.fault.FaultKind.TheVariants.{Index, Overflow, ZeroDivisor, OutOfElement}
use Rattle.types.specs.declared.fault.FaultKind.TheVariants.{SplitPoint, PieceSize, Raised}
use Rattle.types.specs.Run.{Fault}

-- `0`, and the number of each child on the way to the task, each after a dot
abbrev pub path_text : (turns : List ℕ) → List ℕ
path_text turns = codes "0" ++ flat_map (λ n. codes "." ++ decimal n) turns

-- `0.1#2`: the owner's path and the scope's number
abbrev pub scope_text : (owner : List ℕ) → (number : ℕ) → List ℕ
scope_text owner number = path_text owner ++ codes "#" ++ decimal number

-- the code of a fault, with the number of a raised one
abbrev pub kind_text : FaultKind → List ℕ
kind_text Index = codes "F1"
kind_text Overflow = codes "F2"
kind_text ZeroDivisor = codes "F3"
kind_text OutOfElement = codes "F4"
kind_text SplitPoint = codes "F5"
kind_text (Raised n) = codes "F6 " ++ signed_decimal n
kind_text PieceSize = codes "F7"

-- `fault 0.1 at 3: F1`: the task, the statement and the code
abbrev pub fault_text : Fault → List ℕ
fault_text f =
    codes "fault " ++ path_text f.path ++ codes " at " ++ decimal f.label
    ++ codes ": " ++ kind_text f.kind

-- What the program prints for a broken rule.
use Rattle.std.specs.Prelude.{ℕ, List, ◌++◌, Option, None, Some, codes}
use Rattle.std.specs.Fmt.{decimal}
use Rattle.types.specs.declared.error.TypeError.{TypeError}
use Rattle.types.specs.declared.error.TypeError.TheVariants.{NotInScope, DeclaredTwice, WrongKind}
use Rattle.types.specs.declared.error.TypeError.TheVariants.{WrongArguments, AssignedOutsideAsync, ReadOnly}
use Rattle.types.specs.declared.error.TypeError.TheVariants.{Overlapping, NoMain, OverLimit, OutOfMemory}

-- its code
abbrev pub error_code : TypeError → List ℕ
error_code (NotInScope label) = codes "Y1"
error_code (DeclaredTwice label) = codes "Y2"
error_code (WrongKind label) = codes "Y3"
error_code (WrongArguments label) = codes "Y4"
error_code (AssignedOutsideAsync label) = codes "Y5"
error_code (ReadOnly label) = codes "Y6"
error_code (Overlapping label) = codes "Y7"
error_code NoMain = codes "Y8"
error_code OverLimit = codes "Y9"
error_code OutOfMemory = codes "Y10"

-- the label of a statement that breaks the rule, if a statement breaks it
abbrev pub label_of : TypeError → Option ℕ
label_of (NotInScope label) = Some label
label_of (DeclaredTwice label) = label
label_of (WrongKind label) = Some label
label_of (WrongArguments label) = Some label
label_of (AssignedOutsideAsync label) = Some label
label_of (ReadOnly label) = Some label
label_of (Overlapping label) = Some label
label_of NoMain = None
label_of OverLimit = None
label_of OutOfMemory = None

-- the text: `Y5 at label 3`, or `Y8` without a label
abbrev pub labelled : List ℕ → Option ℕ → List ℕ
labelled code None = code
labelled code (Some label) = code ++ (codes " at label " ++ decimal label)

abbrev pub error_text : TypeError → List ℕ
error_text e = labelled (error_code e) (label_of e)

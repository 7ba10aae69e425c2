-- The texts and the statuses of example outcomes, computed.
use Rattle.std.proofs.Common.{◌≡◌, List, [], ◌∷◌, ◌++◌, Some, refl, codes}
use Rattle.std.specs.Prelude.{ℕ, ℤ, pos, negsuc, true, false}
use Rattle.std.specs.Fmt.{digits}
use Rattle.std.specs.List.{flat_map}
use Rattle.syntax_tree.specs.declared.tree.ElementType.TheVariants.{Byte}
use Rattle.types.specs.declared.fault.FaultKind.{FaultKind}
use Rattle.types.specs.declared.fault.FaultKind.TheVariants.{OutOfElement, Raised}
use Rattle.types.specs.Code.{Array}
use Rattle.types.specs.Run.{Fault}
use Rattle.types.specs.Outcome.{Outcome, Ended, Stopped}
use Rattle.types.specs.TreeRuns.{Open, NoSuchChoice}
use Rattle.printing.specs.ExploredText.{explored_text, explored_status}
use Rattle.printing.specs.OutcomeText.{outcome_text, status_of}
use Rattle.printing.specs.Reasons.{escaped_character}

abbrev fault_at : List ℕ → ℕ → FaultKind → Fault
fault_at path label kind = record { path = path; label = label; kind = kind }

abbrev array_named : List ℕ → Array
array_named name = record { name = name; element = Byte; length = 1 }

-- a run that ended with these arrays, lines and faults
abbrev ended : (arrays lines : List (List ℤ)) → List Fault → Outcome
ended arrays lines faults = Ended (record { arrays = arrays; lines = lines; faults = faults })

-- two arrays with 7 and 8, and a line that prints them
abbrev seven_and_eight : Outcome
seven_and_eight = ended ((pos 7 ∷ []) ∷ (pos 8 ∷ []) ∷ []) ((pos 7 ∷ pos 8 ∷ []) ∷ []) []

seven_and_eight_text : outcome_text (array_named (codes "a") ∷ array_named (codes "b") ∷ []) false seven_and_eight ≡ codes "7 8\n"
unfolding digits
seven_and_eight_text = refl

seven_and_eight_status : status_of seven_and_eight ≡ 0
seven_and_eight_status = refl

-- two tasks and the root raise a fault each
abbrev three_faults : Outcome
three_faults =
    ended [] []
    (fault_at (1 ∷ []) 3 (Raised (pos 1)) ∷ fault_at (2 ∷ []) 5 (Raised (pos 2)) ∷ fault_at [] 6 (Raised (negsuc 2)) ∷ [])

three_faults_text : outcome_text [] false three_faults ≡ codes "fault 0.1 at 3: F6 1\nfault 0.2 at 5: F6 2\nfault 0 at 6: F6 -3\n"
unfolding digits
three_faults_text = refl

three_faults_status : status_of three_faults ≡ 2
three_faults_status = refl

-- 256 doesn't fit in a byte
abbrev full_byte : Outcome
full_byte = ended ((pos 255 ∷ []) ∷ []) [] (fault_at [] 2 OutOfElement ∷ [])

full_byte_text : outcome_text (array_named (codes "a") ∷ []) true full_byte ≡ codes "fault 0 at 2: F4\narray a 255\n"
unfolding digits
full_byte_text = refl

stopped_text : outcome_text [] true Stopped ≡ codes "stopped\n"
stopped_text = refl

stopped_status : status_of Stopped ≡ 3
stopped_status = refl

-- two leaves can take a step
two_open : explored_text [] false (Open 2) ≡ Some (codes "open 2\n")
unfolding digits
two_open = refl

two_open_status : explored_status (Open 2) ≡ 3
two_open_status = refl

no_leaf_status : explored_status (NoSuchChoice 2) ≡ 1
no_leaf_status = refl

-- control characters, below 128 and above, and a letter of two bytes
steering_name : flat_map escaped_character (98 ∷ 27 ∷ 155 ∷ 228 ∷ []) ≡ codes "b\\x1b\\x9b" ++ (195 ∷ 164 ∷ [])
unfolding lib.Utf8.encode
steering_name = refl

-- The printed text of an error.
use Rattle.std.specs.Prelude.{ℕ, List, codes, ◌++◌}
use Rattle.types.specs.Names.{path_text}
use Rattle.gather.specs.declared.error.GatherError.{GatherError}
use Rattle.gather.specs.declared.error.GatherError.TheVariants.{Lost, Double, Stranger, OutOfMemory}

-- the code of an error
abbrev pub error_code : GatherError → List ℕ
error_code (Lost path) = codes "G1"
error_code (Double path) = codes "G2"
error_code (Stranger path) = codes "G3"
error_code OutOfMemory = codes "G4"

-- `G1 0.1`: the code and the task
abbrev pub error_text : GatherError → List ℕ
error_text (Lost path) = codes "G1 " ++ path_text path.turns.items
error_text (Double path) = codes "G2 " ++ path_text path.turns.items
error_text (Stranger path) = codes "G3 " ++ path_text path.turns.items
error_text OutOfMemory = codes "G4"

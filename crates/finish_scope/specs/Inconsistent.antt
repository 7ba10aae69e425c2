-- Whether results can't be gathered because memory runs out.
use Rattle.std.specs.Prelude.{Bool, true, false}
use Rattle.gather.specs.declared.error.GatherError.{GatherError}
use Rattle.gather.specs.declared.error.GatherError.TheVariants.{Lost, Double, Stranger, OutOfMemory}

-- the error is that memory ran out; every other one means that the results are inconsistent
abbrev pub runs_out : GatherError → Bool
runs_out OutOfMemory = true
runs_out (Lost path) = false
runs_out (Double path) = false
runs_out (Stranger path) = false

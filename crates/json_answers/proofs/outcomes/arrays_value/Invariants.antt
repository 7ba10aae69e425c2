use Rattle.std.proofs.Common.{length}
use Rattle.std.specs.List.{zip}
use Rattle.serde_json.specs.View.{members_view}
use Rattle.types.specs.Translation.{array}
use Rattle.json_answers.proofs.Seen.{PutFirst}
use Rattle.json_answers.proofs.outcomes.arrays_value.Given as goal

-- the first arrays were put
abbrev pub invariant-loop-array : goal.invariant-loop-array
invariant-loop-array l =
    PutFirst (λ (a, v). (array a, v.items)) (zip l.fn.declared l.fn.contents) (length l.yielded)
    (members_view l.arrays.entries)

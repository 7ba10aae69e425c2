use Rattle.std.proofs.Common.{◌≡◌, drop, map}
use Rattle.serde_json.specs.Find.{get}
use Rattle.serde_json.specs.View.{view}
use Rattle.types.specs.Inputs.{members_say}
use Rattle.types.specs.Translation.{array as array_of}
use Rattle.types.proofs.InputLemmas.{after_lists}
use Rattle.types.proofs.input.lists_of.Given as goal

-- the lists so far, and what is given for the arrays that remain
abbrev pub invariant-loop-array : goal.invariant-loop-array
invariant-loop-array l =
    members_say (λ name. get name (view l.object)) (map array_of l.arrays)
    ≡ after_lists (map (λ v. v.items) l.lists.items)
    (members_say (λ name. get name (view l.object)) (map array_of (drop l.array-index l.arrays)))

use Rattle.std.proofs.Common.{map}
use Rattle.types.specs.Translation.{array}
use Rattle.json_answers.specs.AllEnds.{end_json, end_of}
use Rattle.json_answers.proofs.Seen.{SeenFirst}
use Rattle.json_answers.proofs.all_ends.list_value.Given as goal

-- the values so far represent the first ends
abbrev pub invariant-loop-end : goal.invariant-loop-end
invariant-loop-end l =
    SeenFirst (λ e. end_json (map array l.declared) l.places (end_of e)) l.ends l.end-index l.list.items

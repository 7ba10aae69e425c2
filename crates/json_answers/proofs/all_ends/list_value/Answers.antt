use Rattle.std.proofs.Common.{◌≤◌, ◌∙◌, sym, length, map, arith}
use Rattle.types.specs.Translation.{array}
use Rattle.json_answers.specs.AllEnds.{end_json, end_of}
use Rattle.json_answers.proofs.Seen.{list_by-map, seen_all}
use Rattle.json_answers.proofs.all_ends.list_value.Goals as goal

pub returns : goal.returns
returns c =
    let all : length c.args.ends.now ≤ c.loop-end.end-index = omega arith in
    seen_all _ c.args.ends.now c.loop-end.end-index c.loop-end.list all c.loop-end.invariant
    ∙ sym (list_by-map (end_json (map array c.args.declared.now) c.args.places.now) end_of c.args.ends.now)

use Rattle.std.proofs.Common.{◌≤◌, ◌∙◌, sym, length, arith}
use Rattle.trace_numbers.specs.Tables.{gathered}
use Rattle.json_answers.specs.Summaries.{finish_json}
use Rattle.json_answers.proofs.Seen.{list_by-map, seen_all}
use Rattle.json_answers.proofs.summaries.finishes_value.Goals as goal

pub returns : goal.returns
returns c =
    let all : length c.args.finishes.now ≤ c.loop-gathered.gathered-index = omega arith in
    seen_all _ c.args.finishes.now c.loop-gathered.gathered-index c.loop-gathered.list all c.loop-gathered.invariant
    ∙ sym (list_by-map finish_json gathered c.args.finishes.now)

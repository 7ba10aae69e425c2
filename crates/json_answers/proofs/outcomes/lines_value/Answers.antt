use Rattle.std.proofs.Common.{◌≤◌, ◌∙◌, sym, length, arith}
use Rattle.json_answers.specs.Outcomes.{numbers_json}
use Rattle.json_answers.proofs.Seen.{list_by-map, seen_all}
use Rattle.json_answers.proofs.outcomes.lines_value.Goals as goal

pub returns : goal.returns
returns c =
    let all : length c.args.lines.now ≤ c.loop-line.line-index = omega arith in
    seen_all _ c.args.lines.now c.loop-line.line-index c.loop-line.list all c.loop-line.invariant
    ∙ sym (list_by-map numbers_json (λ v. v.items) c.args.lines.now)

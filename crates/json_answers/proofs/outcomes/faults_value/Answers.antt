use Rattle.std.proofs.Common.{◌≤◌, ◌∙◌, sym, length, arith}
use Rattle.types.specs.Translation.{fault}
use Rattle.json_answers.specs.Faults.{fault_json}
use Rattle.json_answers.proofs.Seen.{list_by-map, seen_all}
use Rattle.json_answers.proofs.outcomes.faults_value.Goals as goal

pub returns : goal.returns
returns c =
    let all : length c.args.faults.now ≤ c.loop-fault.fault-index = omega arith in
    seen_all _ c.args.faults.now c.loop-fault.fault-index c.loop-fault.list all c.loop-fault.invariant
    ∙ sym (list_by-map (fault_json c.args.places.now) fault c.args.faults.now)

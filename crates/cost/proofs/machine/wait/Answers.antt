use Rattle.std.proofs.Common.{rules, ◌≡◌, length}
use Rattle.std.proofs.lemmas.List.{nil_from_length}
use Rattle.cost.proofs.Waiting.{waits_for_none}
use Rattle.cost.proofs.machine.wait.Goals as goal

pub returns-then-is_empty : goal.returns-then-is_empty
returns-then-is_empty c =
    let empty : length c.args.block.now ≡ 0 = search rules in
    waits_for_none c.args.block c.args.frames.now.items (nil_from_length c.args.block.now empty)

use Rattle.std.proofs.Common.{◌≡◌, ap, map, rules}
use Rattle.types.specs.Translation.{fault}
use Rattle.task_run.specs.Translation.{listed}
use Rattle.gather.proofs.Pasting.{opened-is}
use Rattle.gather.proofs.filling.Filling.of.Goals as goal

pub returns-clause-opened : goal.returns-clause-opened
returns-clause-opened c =
    let holes : c.from.result.items ≡ c.args.task.children.items = search rules in
    opened-is c.args.task c.new-strays.ensures.items (ap (map (λ v. v.items)) c.new.ensures.items) (ap (map fault) c.new-2.ensures.items)
    (ap (map listed) holes)

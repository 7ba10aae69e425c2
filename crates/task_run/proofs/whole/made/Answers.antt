use Rattle.std.proofs.Common.{ap, map, List, Vec, Global}
use Rattle.std.specs.Prelude.{ℤ}
use Rattle.types.specs.Translation.{fault}
use Rattle.task_run.specs.Translation.{contents_of, listed, owned_by}
use Rattle.task_run.proofs.whole.made.Goals as goal

pub returns : goal.returns
returns c =
    let t = c.args.thread in
    let numbers : Vec ℤ Global → List ℤ = λ v. v.items in
    λ i. record {
      path = t.path.turns.items;
      stopped = c.is_stopped-stopped.ensures i;
      contents = contents_of t.store.holdings;
      owned = owned_by t.store.holdings;
      lines = map numbers t.lines.items;
      faults = map fault t.faults.items;
      children = ap (map listed) c.new.ensures.items i;
    }

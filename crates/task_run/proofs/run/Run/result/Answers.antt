use Rattle.std.proofs.Common.{◌∙◌, ap, sym, map, List, Vec, Global}
use Rattle.std.specs.Prelude.{ℤ}
use Rattle.types.specs.Translation.{fault}
use Rattle.task_run.specs.Translation.{contents_of, listed, owned_by}
use Rattle.task_run.specs.declared.result.Listed.{Listed}
use Rattle.task_run.proofs.run.Run.result.Goals as goal

pub returns : goal.returns
returns c = λ fs x shows.
    let numbers : Vec ℤ Global → List ℤ = λ v. v.items in
    let owned = ap owned_by c.replace-holdings.ensures.value ∙ sym shows.owned in
    let children = ap (λ (v : Vec Listed Global). map listed v.items) c.replace-children.ensures.value ∙ sym shows.pending in
    λ t. record {
      path = (c.replace-path.ensures.value t).turns.items;
      stopped = c.is_stopped-stopped.ensures t;
      contents = contents_of (c.replace-holdings.ensures.value t);
      owned = owned t;
      lines = map numbers (c.replace-lines.ensures.value t).items;
      faults = map fault (c.replace-faults.ensures.value t).items;
      children = children t;
    }

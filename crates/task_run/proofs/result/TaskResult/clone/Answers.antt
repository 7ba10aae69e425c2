use Rattle.std.proofs.Common.{◌≡◌, ◌∙◌, ap, List, map, Vec, Global}
use Rattle.std.specs.Prelude.{ℤ, is_some}
use Rattle.types.specs.Translation.{fault}
use Rattle.types.specs.declared.fault.Fault.{Fault as rFault}
use Rattle.holdings.specs.Held.{Held, Map, numbers, owned}
use Rattle.task_run.specs.Places.{Places}
use Rattle.task_run.specs.Translation.{contents_of, listed, owned_by}
use Rattle.task_run.specs.declared.result.Listed.{Listed as rListed}
use Rattle.task_run.proofs.result.TaskResult.clone.Goals as goal

-- the places that are owned
abbrev owns : Map Held → Places
owns m q = is_some (owned m q)

pub returns : goal.returns
returns c =
    let old = c.args.self.now in
    let told : Vec ℤ Global → List ℤ = λ v. v.items in
    let contents : contents_of c.in_ok-clone.field-0 ≡ contents_of old.holdings = ap (λ (m : Map Held). numbers m) c.in_ok-clone.ensures.held in
    let own : owned_by c.in_ok-clone.field-0 ≡ owned_by old.holdings
    = ap owns c.in_ok-clone.ensures.held in
    let lines : map told c.in_ok-lines.field-0.items ≡ map told old.lines.items
    = c.in_ok-lines.ensures ∙ ap (λ (ls : List (Vec ℤ Global)). map told ls) c.deref.ensures.value in
    let faults : map fault c.in_ok-faults.field-0.items ≡ map fault old.faults.items
    = c.in_ok-faults.ensures ∙ ap (λ (fs : List rFault). map fault fs) c.deref-2.ensures.value in
    let children : map listed c.in_ok-children.field-0.items ≡ map listed old.children.items
    = c.in_ok-children.ensures ∙ ap (λ (cs : List rListed). map listed cs) c.deref-3.ensures.value in
    λ t. record {
      path = c.in_ok-copied.ensures t;
      stopped = old.stopped;
      contents = contents t;
      owned = own t;
      lines = lines t;
      faults = faults t;
      children = children t;
    }

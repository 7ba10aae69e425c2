use Rattle.std.proofs.Common.{◌≡◌, ◌∙◌, ap, List, map, Vec, Global}
use Rattle.std.specs.Prelude.{ℤ, is_some}
use Rattle.types.specs.Translation.{fault}
use Rattle.types.specs.declared.fault.Fault.{Fault as rFault}
use Rattle.holdings.specs.Held.{Held, Map, numbers, owned}
use Rattle.statement_steps.specs.Standing.{flow}
use Rattle.task_run.specs.Places.{Places}
use Rattle.task_run.specs.Translation.{contents_of}
use Rattle.task_run.proofs.copy.thread.Goals as goal

-- the places that are owned
abbrev owns : Map Held → Places
owns m q = is_some (owned m q)

pub returns-clause-state : goal.returns-clause-state
returns-clause-state c =
    let old = c.args.thread.now in
    let told : Vec ℤ Global → List ℤ = λ v. v.items in
    let contents : contents_of c.in_ok-holdings.holdings ≡ contents_of old.store.holdings
    = ap (λ (m : Map Held). numbers m) c.in_ok-holdings.ensures.held in
    let lines : map told c.in_ok-lines.field-0.items ≡ map told old.lines.items
    = c.in_ok-lines.ensures ∙ ap (λ (ls : List (Vec ℤ Global)). map told ls) c.deref.ensures.value in
    let faults : map fault c.in_ok-faults.field-0.items ≡ map fault old.faults.items
    = c.in_ok-faults.ensures ∙ ap (λ (fs : List rFault). map fault fs) c.deref-2.ensures.value in
    λ t. record {
      flow = flow old.flow;
      environment = c.in_ok-copied-2.ensures t;
      store = contents t;
      lines = lines t;
      faults = faults t;
      steps = old.steps;
      path = c.in_ok-copied.ensures t;
      spawned = old.spawned;
      extra = tt;
    }

pub returns-clause-owned : goal.returns-clause-owned
returns-clause-owned c = ap owns c.in_ok-holdings.ensures.held

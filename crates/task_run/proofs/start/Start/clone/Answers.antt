use Rattle.std.proofs.Common.{◌≡◌, ap}
use Rattle.std.specs.Prelude.{is_some}
use Rattle.types.specs.Translation.{codes}
use Rattle.holdings.specs.Held.{Held, Map, numbers, owned}
use Rattle.task_run.specs.Places.{Places}
use Rattle.task_run.specs.Translation.{contents_of, owned_by}
use Rattle.task_run.proofs.start.Start.clone.Goals as goal

-- the places that are owned
abbrev owns : Map Held → Places
owns m q = is_some (owned m q)

pub returns-clause-start : goal.returns-clause-start
returns-clause-start c =
    let old = c.args.self.now in
    let contents : contents_of c.in_ok-clone.field-0 ≡ contents_of old.holdings = ap (λ (m : Map Held). numbers m) c.in_ok-clone.ensures.held in
    let own : owned_by c.in_ok-clone.field-0 ≡ owned_by old.holdings
    = ap owns c.in_ok-clone.ensures.held in
    λ t. record {
      body = codes old.body.now;
      environment = c.in_ok-copied.ensures t;
      contents = contents t;
      owned = own t;
      nest = old.nest;
      path = c.in_ok-copied-2.ensures t;
    }

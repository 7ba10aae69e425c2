use Rattle.std.proofs.Common.{◌∙◌, ap, []}
use Rattle.types.specs.Code.{Program}
use Rattle.types.specs.Outcome.{whole_arrays}
use Rattle.types.specs.Run.{entry}
use Rattle.types.specs.Translation.{codes, input as lists_in}
use Rattle.types.specs.Typed.{code_of}
use Rattle.task_run.proofs.Roots.{root_holds, root_owns}
use Rattle.task_run.proofs.start.Start.root.Goals as goal

pub returns : goal.returns
returns c =
    let p = code_of c.args.typed.now in
    let lists = lists_in c.args.input.now in
    let h = c.in_ok-holdings.holdings in
    let same = c.requires.program in
    let body = ap codes c.deref.ensures.value ∙ ap (λ (q : Program). q.main.body) same in
    let environment = c.in_ok-environment.ensures ∙ ap (λ (q : Program). entry [] (whole_arrays 0 q.arrays)) same in
    let contents = root_holds h lists c.in_ok-holdings.ensures.held in
    let owns = root_owns h p.arrays lists c.requires.fits c.in_ok-holdings.ensures.held in
    λ t. record {
      body = body t;
      environment = environment t;
      contents = contents t;
      owned = owns t;
      nest = c.args.plan.budget.nest;
      path = c.root.ensures t;
    }

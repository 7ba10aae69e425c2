use Rattle.std.proofs.Common.{◌≡◌, ◌+◌, ◌∙◌, ◌∷◌, List, refl, ap, map}
use Rattle.shared_lemmas.proofs.Lists.{same_elements}
use Rattle.event_worlds.specs.Courses.{behind}
use Rattle.event_worlds.specs.Shown.{scope_id, stake}
use Rattle.event_worlds.specs.World.{ScopeId, Stake}
use Rattle.event_worlds.specs.declared.task.WorldTask.{WorldTask}
use Rattle.event_worlds.proofs.task.WorldTask.open.Goals as goal

pub returns-clause-opened : goal.returns-clause-opened
returns-clause-opened c =
    let rest : List Stake = map stake c.args.self.now.stakes.items in
    let w0 = c.args.job.w0 in
    let owner = same_elements c.in_ok-owner.owner.turns.items c.in_ok-scope.scope.owner.turns.items c.in_ok-scope.ensures.cases.0.0 in
    let number = c.in_ok-scope.ensures.cases.1 in
    let same : scope_id c.in_ok-scope.scope ≡ scope_id (record { owner = c.in_ok-owner.owner; number = c.args.self.now.opened + 1 })
    = λ t. record { owner = owner t; number = number t } in
    let on = c.goes_on.ensures.now in
    record {
      run = c.in-Opens.field-0;
      was = c.in-Opens.is;
      now = ap (λ (k : WorldTask). k.doing) on ∙ ap behind c.in-Opens.is;
      opened = ap (λ (k : WorldTask). k.opened) on;
      place = ap (λ (k : WorldTask). k.place) on;
      owner = same_elements c.args.path.now.turns.items c.in_ok-owner.owner.turns.items c.in_ok-owner.ensures.cases.0;
      number = refl;
      stakes = ap (map stake) (ap (λ (k : WorldTask). k.stakes.items) on ∙ c.in_ok-push_front.ensures.items)
          ∙ ap (λ (i : ScopeId). record { scope = i; weight = w0 } ∷ rest) same;
    }

use Rattle.std.proofs.Common.{None, ℕ, [], ◌∷◌, ◌∙◌, List, ap, map, sym}
use Rattle.shared_lemmas.proofs.Lists.{same_elements}
use Rattle.event_worlds.specs.Candidates.{when_parked}
use Rattle.event_worlds.specs.Events.{Pass, Resume}
use Rattle.event_worlds.specs.Replaying.{event}
use Rattle.event_worlds.specs.Shown.{scope_id, stake}
use Rattle.event_worlds.specs.declared.task.WorldStake.{WorldStake as rStake}
use Rattle.event_worlds.proofs.InHand.{first_is}
use Rattle.event_worlds.proofs.walk.when_parked.Goals as goal

pub returns : goal.returns
returns c =
    let v = c.in-Some.ensures in
    let s = c.in-Some.stake.now in
    let f = first_is c.args.stakes.now.items s v.item.3.0 v.item.1 in
    let path = same_elements c.args.path.now.turns.items c.in_ok-path.path.turns.items c.in_ok-path.ensures.cases.0 in
    let owner = same_elements s.scope.owner.turns.items c.in_ok-scope.scope.owner.turns.items c.in_ok-scope.ensures.cases.0.0 in
    ap (map event) c.in_ok-vec.ensures.items
    ∙ ap (λ (o : List ℕ). Pass (record { owner = o; number = c.in_ok-scope.scope.number }) ∷ Resume c.args.worker c.in_ok-path.path.turns.items None ∷ []) owner
    ∙ ap (λ (n : ℕ). Pass (record { owner = s.scope.owner.turns.items; number = n }) ∷ Resume c.args.worker c.in_ok-path.path.turns.items None ∷ []) c.in_ok-scope.ensures.cases.1
    ∙ ap (λ (q : List ℕ). Pass (scope_id s.scope) ∷ Resume c.args.worker q None ∷ []) path
    ∙ sym (ap (λ (ss : List rStake). when_parked c.args.worker c.args.path.now.turns.items (map stake ss)) f.1)

use Rattle.std.proofs.Common.{◌∙◌, ap, refl, ◌∷◌, None, Some}
use Rattle.std.specs.List.{list_any}
use Rattle.std.specs.Map.{lookup}
use Rattle.std.specs.Prelude.{map, nat_eq, if◌then◌else◌}
use Rattle.types.specs.Translation.{is_path}
use Rattle.event_worlds.specs.Shown.{is_scope, stake}
use Rattle.event_worlds.specs.World.{ScopeId, root_scope}
use Rattle.event_worlds.specs.declared.doing.TaskProgress.TheVariants.{Starts}
use Rattle.event_worlds.specs.declared.task.WorldTask.{WorldTask as rTask}
use Rattle.event_worlds.specs.declared.task.Whereabouts.TheVariants.{Queue as rQueue}
use Rattle.event_worlds.specs.declared.world.World.{World as rWorld}
use Rattle.event_worlds.proofs.Starting.{shows_start}
use Rattle.event_worlds.proofs.world.World.start.Goals as goal

pub returns-clause-shows : goal.returns-clause-shows
returns-clause-shows c =
    let w0 = c.args.job.w0 in
    let path = c.root-path.result in
    let id = c.root_scope.result in
    let r : rWorld = record { job = c.args.job; tasks = c.insert.new.self; scopes = c.insert-2.new.self; hands = c.new-2.result; told = None } in
    let root = c.in_ok-root.root in
    let k : rTask = record { doing = Starts root; opened = 0; stakes = c.push_front.new.self; place = rQueue c.first.result } in
    shows_start r root c.in_ok-root.ensures c.push_front.new.self c.new.result path id c.first.result c.first.ensures c.root-path.ensures c.root_scope.ensures
    (ap (map stake) c.in_ok-push_front.ensures.items
    ∙ ap (λ (i : ScopeId). record { scope = i; weight = w0 } ∷ map stake c.new-stakes.result.items) c.root_scope-scope.ensures
    ∙ ap (λ ss. record { scope = root_scope; weight = w0 } ∷ map stake ss) c.new-stakes.ensures.items)
    (λ q. c.in_ok-insert.ensures.updates.0 q
    ∙ ap (λ es. if is_path path q then Some k else lookup (is_path q) es) c.new-tasks.ensures.empty)
    (λ q. c.in_ok-insert-2.ensures.updates.0 q
    ∙ ap (λ es. if is_scope id q then Some c.new.result else lookup (is_scope q) es) c.new-scopes.ensures.empty)
    (λ v. ap (λ ks. list_any (nat_eq v) ks) c.new-2.ensures.empty) (c.new.ensures root_scope) refl

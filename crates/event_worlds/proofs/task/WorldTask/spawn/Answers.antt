use Rattle.std.proofs.Common.{◌≡◌, ◌∙◌, refl, sym, ap, map}
use Rattle.std.proofs.lemmas.Option.{same_Some}
use Rattle.task_run.specs.declared.start.Start.{Start}
use Rattle.event_worlds.specs.Courses.{begun_by, behind}
use Rattle.event_worlds.specs.Shown.{stake}
use Rattle.event_worlds.specs.declared.doing.TaskProgress.TheVariants.{Spawns}
use Rattle.event_worlds.specs.declared.task.WorldTask.{WorldTask}
use Rattle.event_worlds.proofs.task.WorldTask.spawn.Goals as goal

pub returns-clause-spawned : goal.returns-clause-spawned
returns-clause-spawned c =
    let s = c.in_ok-path.ensures.share in
    let start = c.in-Some.start in
    let same : s.spawns.start ≡ start = same_Some _ _ (ap begun_by (sym s.spawns.is) ∙ sym c.goes_on.ensures.child ∙ c.in-Some.is) in
    let now = c.goes_on.ensures.now in
    let others = c.halve.ensures.others in
    record {
      run = s.spawns.run;
      start = start;
      was = s.spawns.is ∙ ap (λ (x : Start). Spawns s.spawns.run x) same;
      now = ap (λ (k : WorldTask). k.doing) others ∙ ap (λ (k : WorldTask). k.doing) now ∙ ap behind s.spawns.is;
      opened = ap (λ (k : WorldTask). k.opened) others ∙ ap (λ (k : WorldTask). k.opened) now;
      place = ap (λ (k : WorldTask). k.place) others ∙ ap (λ (k : WorldTask). k.place) now;
      inner = stake s.inner;
      outer = map stake s.outer;
      stakes = ap (map stake) s.are;
      two = s.two;
      kept = ap (map stake) (c.halve.ensures.halved s.inner s.outer (ap (λ (k : WorldTask). k.stakes.items) now ∙ s.are));
      named = s.named ∙ ap (λ (x : Start). x.path.turns.items) same;
      begins = refl;
      opened_none = refl;
      given = s.given;
      queued = refl;
    }

-- A world in which a task's next action is known by now, and facts about it.
use Rattle.std.proofs.Common.{◌≡◌, ℕ, List, Some, None, refl, sym, ap, ◌∙◌, subst}
use Rattle.std.specs.Prelude.{true, nat_eq, if◌then◌else◌}
use Rattle.std.specs.Cmp.Lexicographic.{pointwise}
use Rattle.std.specs.HashMap.{get}
use Rattle.types.specs.declared.path.Path.{Path}
use Rattle.task_run.proofs.SettledResults.{paths_same}
use Rattle.task_run.specs.declared.job.Job.{Job}
use Rattle.event_worlds.specs.Courses.{Course, course_of, IsDoing}
use Rattle.event_worlds.specs.Events.{Event}
use Rattle.event_worlds.specs.Jobs.{IsWeightedJob}
use Rattle.event_worlds.specs.Shown.{Becomes, IsDoingThere, IsTaskOf, IsWorld, Refuses, TaskStays, WorldStays}
use Rattle.types.specs.Translation.{is_path}
use Rattle.event_worlds.specs.Shown.{next_world}
use Rattle.event_worlds.specs.Walks.{IsIllegal}
use Rattle.event_worlds.specs.World.{Live, Whereabouts, Queue, Hand, Parked}
use Rattle.event_worlds.specs.declared.error.EventError.{EventError}
use Rattle.event_worlds.specs.declared.error.EventError.TheVariants.{Illegal}
use Rattle.event_worlds.specs.declared.task.WorldTask.{WorldTask as rTask}
use Rattle.event_worlds.specs.declared.world.World.{World as rWorld}
use Rattle.event_worlds.proofs.InHand.{becomes_after}
use Rattle.event_worlds.proofs.Lookups.{by_test}
use Rattle.event_worlds.proofs.Staying.{stays_put, stays_shown}

-- the next action of a task, at any location
pub some_doing : (j : Job) (k : rTask) (t : Live) → IsTaskOf j k t → (c : Course) × IsDoing j c k.doing
some_doing j k t is = by_place t.place is.doing
  where
    by_place : (q : Whereabouts) → IsDoingThere j q (course_of t) k.doing → (c : Course) × IsDoing j c k.doing
    by_place (Queue v) h = (course_of t, h)
    by_place (Hand v) h = (course_of t, h)
    by_place Parked h = (h.before, h.at)

-- what was taken out is put back under its name
pub each_back : (path name : Path) (new : rTask) (old without last : rWorld) → is_path path name ≡ true
    → ((q : Path) → get is_path without.tasks q ≡ (if is_path path q then None else get is_path old.tasks q))
    → ((q : Path) → get is_path last.tasks q ≡ (if is_path name q then Some new else get is_path without.tasks q))
    → (q : Path) → get is_path last.tasks q ≡ (if is_path path q then Some new else get is_path old.tasks q)
each_back path name new old without last same out back q =
    back q
    ∙ ap (λ (xs : List ℕ). if pointwise nat_eq xs q.turns.items then Some new else get is_path without.tasks q)
    (sym (paths_same path.turns.items name.turns.items same))
    ∙ by_test (λ b. (if b then Some new else get is_path without.tasks q) ≡ (if b then Some new else get is_path old.tasks q)) (is_path path q)
    (λ e. refl) (λ e. out q ∙ ap (λ b. if b then None else get is_path old.tasks q) e)

-- with one task that was taken out and is put back
pub stays_back : (r : rWorld) (path name : Path) (k new : rTask) (without last : rWorld) → get is_path r.tasks path ≡ Some k
    → is_path path name ≡ true → TaskStays r.job.job k new
    → ((q : Path) → get is_path without.tasks q ≡ (if is_path path q then None else get is_path r.tasks q))
    → ((q : Path) → get is_path last.tasks q ≡ (if is_path name q then Some new else get is_path without.tasks q))
    → WorldStays r (record r { tasks = last.tasks })
stays_back r path name k new without last at same s out back =
    stays_put r path k new last.tasks r.scopes at s (each_back path name new r without last same out back) (λ q. refl)

-- ---- an event after the look
pub still_world : (old mid : rWorld) → IsWorld old → WorldStays old mid → IsWorld mid
still_world old mid is still = record {
  job = subst IsWeightedJob (sym still.job) is.job;
  world = is.world;
  shows = stays_shown old mid still is.world is.shows;
}

pub becomes_then : (old mid new : rWorld) (e : Event) → WorldStays old mid → Becomes e mid new → Becomes e old new
becomes_then old mid new e still b = becomes_after old mid new e still.job (stays_shown old mid still) b

-- an event that was called illegal was illegal
pub illegal_by : (old new : rWorld) (e : Event) (x : EventError) → Refuses e old new x → x ≡ Illegal → IsIllegal old e
illegal_by old new e x r is = (subst (Refuses e old new) is r).1

pub illegal_then : (old mid : rWorld) (e : Event) → WorldStays old mid → IsIllegal mid e → IsIllegal old e
illegal_then old mid e still none w h = subst (λ j. next_world j e w ≡ None) still.job (none w (stays_shown old mid still w h))

use Rattle.std.proofs.Common.{◌≡◌, map}
use Rattle.std.specs.Prelude.{◌⊎◌, Contains, is_some, true}
use Rattle.std.specs.HashMap.{get}
use Rattle.std.specs.Set.{is_member}
use Rattle.types.specs.declared.path.Path.{Path}
use Rattle.types.specs.Translation.{is_path}
use Rattle.event_worlds.specs.Shown.{turns_of}
use Rattle.event_worlds.proofs.walk.Walk.paths.Given as goal

-- each task of the table is among those so far, or is still to come
abbrev pub invariant-tasks : goal.invariant-tasks
invariant-tasks l =
    (q : Path) → is_some (get is_path l.self.world.tasks q) ≡ true
    → Contains (map turns_of l.paths.items) q.turns.items ⊎ (is_member is_path l.path-iterator q ≡ true)

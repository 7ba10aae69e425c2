use Rattle.std.proofs.Common.{◌≡◌, ◌++◌, map, take}
use Rattle.serde_json.specs.View.{view}
use Rattle.trace_page.proofs.told.push_all.Given as goal

-- the values so far: those before, and those of the first items
abbrev pub invariant-loop-item : goal.invariant-loop-item
invariant-loop-item g l =
    map view l.values.items ≡ map view l.initial.values.items ++ map g.T.Told.json (take l.item-index l.items)

use Rattle.std.proofs.Common.{◌≡◌, ◌++◌, ◌+◌, ◌-◌, map, drop, length}
use Rattle.sections.specs.Translation.{window}
use Rattle.sections.proofs.Cutting.{cut_by, minus}
use Rattle.sections.proofs.cover.cut.Given as goal

-- what was left so far, and what remains of the others
abbrev pub invariant-windows : goal.invariant-windows
invariant-windows l = map window l.left.items ++ minus (map window (drop l.window-index l.kept)) (map window (drop l.next l.gone))
    ≡ minus (map window l.kept) (map window l.gone)

abbrev pub invariant-cuts : goal.invariant-cuts
invariant-cuts l = map window l.left.items
    ++ cut_by (window l.rest) (minus (map window (drop (l.window-index + 1) l.kept))) (map window (drop l.next l.gone))
    ≡ minus (map window l.kept) (map window l.gone)

abbrev pub decreases-cuts : goal.decreases-cuts
decreases-cuts l = length l.gone - l.next

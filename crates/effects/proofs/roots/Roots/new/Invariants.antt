use Rattle.std.proofs.Common.{◌≡◌, ℕ, ◌<◌, length, map}
use Rattle.sections.specs.Overlap.{root_of}
use Rattle.sections.specs.Translation.{section}
use Rattle.sections.specs.Tree.{origins_of}
use Rattle.effects.specs.ListedRoots.{listed_root}
use Rattle.effects.proofs.roots.Roots.new.Given as goal

-- the roots so far
abbrev pub invariant-loop-number : goal.invariant-loop-number
invariant-loop-number l = record {
  length : length l.roots.items ≡ l.number;
  roots : (s : ℕ) → s < l.number → listed_root (map section l.roots.items) s ≡ root_of (origins_of l.tree) s;
}

-- The contents of a section tree: the origin of each section, by number.
use Rattle.std.specs.Prelude.{List, map}
use Rattle.sections.specs.Origins.{Origin}
use Rattle.sections.specs.Translation.{origin}
use Rattle.sections.specs.declared.tree.SectionTree.{SectionTree}

abbrev pub origins_of : SectionTree → List Origin
origins_of t = map origin t.origins.items

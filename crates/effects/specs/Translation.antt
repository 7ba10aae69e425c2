-- The Rust types as plain values.
use Rattle.std.specs.Prelude.{map}
use Rattle.sections.specs.Translation.{section}
use Rattle.effects.specs.Accesses.{Access}
use Rattle.effects.specs.Needs.{Needs}
use Rattle.effects.specs.declared.access.Access.{Access as rAccess}
use Rattle.effects.specs.declared.needs.Needs.{Needs as rNeeds}

-- an access
abbrev pub access : rAccess → Access
access x = record { label = x.label; section = section x.section; write = x.write }

-- what a body needs
abbrev pub needs : rNeeds → Needs
needs n = record { writes = map section n.writes.items; reads = map section n.reads.items }

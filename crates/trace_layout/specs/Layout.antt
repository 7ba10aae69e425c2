-- The layout of a list of events.
use Rattle.std.specs.Prelude.{◌≡◌, List, length}
use Rattle.events.specs.declared.event.Event.{Event}
use Rattle.trace_layout.specs.Busy.{AreInHands}
use Rattle.trace_layout.specs.Finishes.{AreFinishes}
use Rattle.trace_layout.specs.Moves.{steals_from}
use Rattle.trace_layout.specs.Spells.{AreSpells}
use Rattle.trace_layout.specs.declared.layout.Layout.{Layout}

pub record IsLayout (es : List Event) (l : Layout) : Type 0 where
  pub spells : AreSpells es l.spells
  pub steals : l.moves.steals.items ≡ steals_from 0 es
  pub finishes : AreFinishes es l.finishes
  pub chain : length l.chain.items ≡ length es
  pub in_hands : AreInHands l.spells.all.items (length es) l.in_hands.items

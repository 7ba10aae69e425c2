-- What holdings hold.
use Rattle.blocks.specs.Held.{Held, Map}
use Rattle.holdings.specs.Rows.{held_in}
use Rattle.holdings.specs.declared.holdings.Holdings.{Holdings}
pub use Rattle.holdings.specs.Lists.{listed}

-- a partial map from places to a number and its kind
abbrev pub held : Holdings → Map Held
held h = held_in h.rows

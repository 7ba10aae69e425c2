-- What a test requires of places.
use Rattle.std.specs.Prelude.{ℤ}
use Rattle.blocks.specs.Held.{Held, Map, numbers, owned}
use Rattle.holdings.specs.declared.presence.Presence.{Presence}
use Rattle.holdings.specs.declared.presence.Presence.TheVariants.{Owned as AsOwned, Held as AsHeld}

-- the numbers of the places that meet the requirement
abbrev pub wanted : Presence → Map Held → Map ℤ
wanted AsOwned m = owned m
wanted AsHeld m = numbers m

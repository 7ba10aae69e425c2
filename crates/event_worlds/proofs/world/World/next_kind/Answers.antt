use Rattle.std.proofs.Common.{◌∙◌, sym}
use Rattle.event_worlds.proofs.world.World.next_kind.Goals as goal

pub returns : goal.returns
returns c = record {
  task = c.in-Some.task.now;
  at = sym c.in-Some.ensures.value;
  worker = c.in-Some-hand._worker;
  hand = sym c.hand.ensures ∙ c.in-Some-hand.is;
  next = c.next_kind.ensures;
}

use Rattle.std.proofs.Common.{refl}
use Rattle.test_and_bench.proofs.timing.Job.timed.Goals as goal

pub returns-clause-five : goal.returns-clause-five
returns-clause-five g c = record {
  workers_are = refl;
  serial = c.in_ok-serial.ensures.five;
  on_one = c.in_ok-on_one.ensures.five;
  on_two = c.in_ok-on_two.ensures.made;
  on_all = c.in_ok-on_all.ensures.made;
}

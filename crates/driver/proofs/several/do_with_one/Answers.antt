use Rattle.driver.specs.Acts.{in_short}
use Rattle.driver.proofs.several.do_with_one.Goals as goal

pub returns : goal.returns
returns g c = record {
  result = in_short c.read_and_do-done.result;
  does = c.read_and_do-done.ensures.done;
  named = g.E.Write.contents c.name_failure.new.err;
  names = c.name_failure.ensures;
  reports = c.report.ensures;
}

use Rattle.std.proofs.Common.{sym}
use Rattle.gather.proofs.Taking.{not_taken, taken_by}
use Rattle.gather.proofs.unused.take_first.Goals as goal

pub returns-in-None-clause-none : goal.returns-in-None-clause-none
returns-in-None-clause-none c = not_taken c.args.path.now.turns.items c.args.tasks.now.items (sym c.in-None.ensures)

pub returns-in-Some-clause-found : goal.returns-in-Some-clause-found
returns-in-Some-clause-found c =
    taken_by c.remove.result c.args.path.now.turns.items c.args.tasks.now.items c.remove.new.self.items c.in-Some.index
    c.in-Some.ensures c.remove.ensures.value c.remove.ensures.items

use Rattle.std.proofs.Common.{List, ap, map, subst}
use Rattle.std.specs.List.{list_any}
use Rattle.types.specs.declared.path.Path.{Path}
use Rattle.task_run.specs.Translation.{listed}
use Rattle.gather.specs.Left.{left}
use Rattle.types.specs.Translation.{is_path}
use Rattle.gather.specs.PartRefusal.{TellsLeftOver}
use Rattle.gather.specs.Stages.{part}
use Rattle.gather.proofs.ReachedTurns.{left_case}
use Rattle.gather.proofs.settle.Stage.end.Goals as goal

pub returns-clause-own_case : goal.returns-clause-own_case
returns-clause-own_case c =
    let s = c.args.self in
    let path = c.in-Some.task.path in
    let told = subst (λ (paths : List Path). TellsLeftOver (list_any (λ p. is_path p path) paths) path c.left_over.result)
    c.deref.ensures.value c.left_over.ensures in
    left_case c.left_over.result s.results.used.items (left s.results.unused) c.in-Some.ensures.0 c.in-Some.task s.waiting.items
    (part s.filling) (ap (map listed) c.requires.1) c.requires.0 c.in-Some.ensures.1 told

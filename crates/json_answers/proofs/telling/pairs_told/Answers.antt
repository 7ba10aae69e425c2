use Rattle.types.specs.Typed.{code_of}
use Rattle.parallel_relation.specs.Pairs.{pairs_left}
use Rattle.json_answers.proofs.Written.{told_pairs}
use Rattle.json_answers.proofs.telling.pairs_told.Goals as goal

pub returns-in-Ok-clause-object : goal.returns-in-Ok-clause-object
returns-in-Ok-clause-object c s held =
    told_pairs c.args.text.now (code_of c.in_ok-typed.typed) c.in-Ok.pairs (pairs_left c.list.result)
    c.told_or_no_memory.result c.pairs_object.result c.in_ok-typed.ensures.code c.in-Ok.ensures c.list.ensures
    c.told_or_no_memory.ensures.line c.told_or_no_memory.ensures.status c.pairs_object.ensures.text

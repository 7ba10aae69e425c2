use Rattle.statement_places.proofs.BegunLemmas.{column_small}
use Rattle.statement_places.proofs.statements.Reached.on_to.Goals as goal

pub behind-place-requires-clause-column : goal.behind-place-requires-clause-column
behind-place-requires-clause-column c =
    column_small c.args.text.now c.loop-i.i c.loop-i.place c.loop-i.invariant.right c.requires.short

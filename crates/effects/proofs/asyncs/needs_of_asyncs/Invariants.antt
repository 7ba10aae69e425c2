use Rattle.types.specs.Translation.{program}
use Rattle.effects.specs.AsyncNeeds.{Keeps, needs_at}
use Rattle.effects.proofs.AsyncLemmas.{InProcedureBelow}
use Rattle.effects.proofs.asyncs.needs_of_asyncs.Given as goal

-- what the asyncs of the procedures so far need is kept
abbrev pub invariant-loop-procedure : goal.invariant-loop-procedure
invariant-loop-procedure l =
    Keeps (program l.code) (InProcedureBelow (program l.code) l.procedure-index) (needs_at l.initial.kept) (needs_at l.kept)

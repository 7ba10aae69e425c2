use Rattle.std.proofs.Common.{◌∙◌, List, map, ap}
use Rattle.effects.specs.Accesses.{Access}
use Rattle.effects.specs.Rounds.{lists}
use Rattle.effects.specs.Translation.{access}
use Rattle.types.specs.Translation.{code}
use Rattle.witness.proofs.OwnMakes.{lists_not_other}
use Rattle.witness.proofs.own.makes.Goals as goal

pub returns : goal.returns
returns c =
    c.has.ensures
    ∙ ap (λ (own : List Access). lists own (access c.args.access)) (ap (map access) c.deref.ensures.value ∙ c.in_ok-own.ensures)

pub returns-then-statement-access : goal.returns-then-statement-access
returns-then-statement-access c =
    lists_not_other c.args.statement.now.label (code c.args.statement.now.kind) (access c.args.access) c.if-statement-access.true

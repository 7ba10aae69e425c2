use Rattle.std.proofs.Common.{List, ◌++◌, length, ap, ◌∙◌, sym, subst}
use Rattle.std.specs.Prelude.{◌↔◌}
use Rattle.sections.specs.Member.{Member}
use Rattle.types.specs.Translation.{program}
use Rattle.effects.specs.Outlines.{flows_in_all, numbered}
use Rattle.effects.specs.declared.flows.CallFlow.{CallFlow}
use Rattle.effects.proofs.ComingLemmas.{comes_exactly}
use Rattle.effects.proofs.tables.table.Goals as goal

pub returns-clause-exact : goal.returns-clause-exact
returns-clause-exact c =
    let p = program c.args.code.now in
    let listed = flows_in_all (length p.procedures) 0 (numbered p) in
    let once = c.in_ok-table.ensures.flows ∙ ap (λ (xs : List CallFlow). xs ++ listed) c.new-flows.ensures.items in
    comes_exactly p c.deref.result.now c.in_ok-table.table.items c.in_ok-table.ensures.rows
    (subst (λ (xs : List CallFlow). (x : CallFlow) → Member x xs ↔ Member x listed) (sym c.deref.ensures.value)
    (subst (λ (xs : List CallFlow). (x : CallFlow) → Member x c.add_reversed.new.flows.items ↔ Member x xs) once c.in_ok-add_reversed.ensures))
    c.in_ok-table.ensures.number c.close.new.table.items c.in_ok-close.ensures.exact

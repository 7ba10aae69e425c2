use Rattle.std.proofs.Common.{◌≡◌, Some, slice_get, map, refl, sym, ap, ◌∙◌}
use Rattle.std.specs.Option.{option_map}
use Rattle.std.proofs.lemmas.Option.{slice_get_read}
use Rattle.syntax_tree.specs.Tree.{parameter}
use Rattle.types.proofs.Calls.{procedure_absent, procedure_found}
use Rattle.types.proofs.check.procedures.Procedures.find.Goals as goal

pub returns-in_err-number : goal.returns-in_err-number
returns-in_err-number c =
    let me = c.args.self.now in
    ap (option_map (λ f. (f.0.number, map parameter f.1.now))) c.from_residual.ensures
    ∙ sym (procedure_absent c.args.name.now me.names.keys me.declared.now me.named (sym c.get_index_of.ensures.index ∙ c.in_err-number.was))

pub returns : goal.returns
returns c =
    let me = c.args.self.now in
    let f = c.in_ok-procedure.procedure.now in
    let i = c.in_ok-number.number in
    let there : slice_get me.declared.now i ≡ Some f =
    slice_get_read me.declared.now _ i f refl c.in_ok-procedure.ensures.lookup.3.0 c.in_ok-procedure.ensures.lookup.1 in
    ap (λ ps. Some (i, map parameter ps)) c.as_slice.ensures.value
    ∙ sym (procedure_found c.args.name.now me.names.keys me.declared.now me.named i f (sym c.get_index_of.ensures.index ∙ c.in_ok-number.was) there)

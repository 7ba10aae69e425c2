use Rattle.std.proofs.Common.{◌≡◌, ◌<◌, List, length, subst, arith}
use Rattle.std.proofs.lemmas.List.{length-map}
use Rattle.std.proofs.lemmas.Result.{IfOk-weaker}
use Rattle.std.specs.Prelude.{slice_index_or}
use Rattle.types.specs.Code.{Procedure}
use Rattle.types.specs.Run.{procedure_of, no_procedure}
use Rattle.types.specs.Translation.{codes, parameter, procedure, program}
use Rattle.types.specs.declared.code.Procedure.{Procedure as rProcedure}
use Rattle.types.specs.declared.code.Stmt.{Stmt}
use Rattle.effects.specs.Translation.{access}
use Rattle.witness.specs.Known.{AreShortest, steps}
use Rattle.witness.specs.Least.{IsLeast}
use Rattle.witness.specs.Ways.{Way}
use Rattle.witness.proofs.Entries.{callee}
use Rattle.witness.proofs.Rounds.{improves_put}
use Rattle.witness.proofs.settling.improve.Goals as goal

pub returns-in-Some-2 : goal.returns-in-Some-2
returns-in-Some-2 c =
    let p = program c.args.code.now in
    let x = access c.args.access in
    let e = c.args.entry in
    let f = e.procedure.number in
    let d = c.in-Some.procedure.now in
    let lookup = c.in-Some.ensures.lookup in
    let C = AreShortest p x c.args.known.now in
    let below = subst (λ (ps : List rProcedure). f < length ps) c.deref.ensures.value lookup.3.0 in
    let at = subst (λ (ps : List rProcedure). d ≡ slice_index_or ps f d) c.deref.ensures.value lookup.1 in
    let same = callee c.args.code.now.procedures.items f d no_procedure below at in
    let few : e.parameter.number < length (procedure d).parameters =
    (let less = c.if-entry-len.false in let many = c.len.ensures in omega (arith, less, many, length-map d.parameters.items parameter)) in
    let found = subst (λ (b : List Stmt). IsLeast length C (λ way. Way p e.pending (codes b) way (record x { section = e.parameter.number })) (steps c.in_ok-way_in.field-0))
    c.deref-2.ensures.value c.in_ok-way_in.ensures in
    let there = subst (λ (g : Procedure). IsLeast length C (λ way. Way p e.pending g.body way (record x { section = e.parameter.number })) (steps c.in_ok-way_in.field-0)) same found in
    let some = subst (λ o. IsLeast length C (λ way. Way p e.pending (procedure_of p f).body way (record x { section = e.parameter.number })) (steps o)) c.in-Some-2.is there in
    IfOk-weaker c.put_if_shorter.result _ _
    (λ better put. improves_put p x e c.in-Some-2.way.items better c.args.known.now c.put_if_shorter.new.known put c.requires.ways
    (subst (λ (g : Procedure). e.parameter.number < length g.parameters) same few) some)
    c.put_if_shorter.ensures

use Rattle.std.proofs.Common.{◌≡◌, ◌<◌, ◌≤◌, List, length, map, ap, ◌∙◌, sym, subst, arith, rules}
use Rattle.std.proofs.lemmas.List.{length-map}
use Rattle.std.specs.Prelude.{slice_index_or}
use Rattle.types.specs.Code.{Procedure}
use Rattle.types.specs.Run.{procedure_of, no_procedure}
use Rattle.types.specs.Translation.{program, procedure, codes}
use Rattle.types.specs.declared.code.Procedure.{Procedure as rProcedure}
use Rattle.types.specs.declared.code.Stmt.{Stmt}
use Rattle.effects.specs.Effects.{labels}
use Rattle.effects.specs.LabelSets.{HasLabel}
use Rattle.parallel_relation.specs.Around.{Adds}
use Rattle.parallel_relation.specs.Found.{FoundMeets}
use Rattle.parallel_relation.specs.Together.{Together}
use Rattle.parallel_relation.proofs.PairsLemmas.{adds_within, adds_no_procedure, adds_procedure, all_arises, procedure_at}
use Rattle.parallel_relation.proofs.walk.walk_all.Goals as goal

pub loop-procedure-init : goal.loop-procedure-init
loop-procedure-init c = let p = program c.args.code.now in adds_no_procedure p (FoundMeets p c.new-found.result)

pub loop-procedure-preserved : goal.loop-procedure-preserved
loop-procedure-preserved c =
    let p = program c.args.code.now in
    let i = c.loop-procedure.procedure-index in
    let fs = c.deref-procedure-items.result.now in
    let within : i < length fs = search rules in
    let here = procedure_at fs i c.procedure-item.result within c.procedure-item.is in
    let is : (procedure_of p i).body ≡ codes c.deref.result.now =
    ap (λ (fs : List rProcedure). (slice_index_or (map procedure fs) i no_procedure).body) (sym c.deref-procedure-items.ensures.value)
    ∙ ap (λ (g : Procedure). g.body) here ∙ ap codes (sym c.deref.ensures.value) in
    adds_procedure p i (codes c.deref.result.now) is c.loop-procedure.invariant
    (adds_within p (HasLabel c.new-none.result) (codes c.deref.result.now) c.new-none.ensures c.in_ok-walk.ensures)

pub returns : goal.returns
returns c =
    let p = program c.args.code.now in
    let n = c.loop-procedure.procedure-index in
    let f = FoundMeets p c.new-found.result in
    let g = FoundMeets p c.loop-procedure.found in
    let h = FoundMeets p c.walk-2.new.found in
    let past : length p.procedures ≤ n =
    omega (arith, length-map c.args.code.now.procedures.items procedure, ap length c.deref-procedure-items.ensures.value, c.loop-procedure-test.false) in
    let main = adds_within p (HasLabel c.new-none.result) (codes c.deref-2.result.now) c.new-none.ensures c.in_ok-walk-2.ensures in
    all_arises p n f g h past (c.new-found.ensures p) c.loop-procedure.invariant
    (subst (λ (xs : List Stmt). Adds g (Together p labels (codes xs)) h) c.deref-2.ensures.value main)

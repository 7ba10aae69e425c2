use Rattle.std.proofs.Common.{◌≡◌, ◌<◌, ◌^◌, List, length, map, ap, ◌∙◌, arith, w64}
use Rattle.std.proofs.lemmas.Int.{to_z_pos}
use Rattle.std.proofs.lemmas.List.{length-map}
use Rattle.std.specs.Prelude.{ℤ, pos}
use Rattle.types.specs.declared.fault.Fault.{Fault as rFault}
use Rattle.types.specs.Code.{Codes}
use Rattle.types.specs.Run.{bind}
use Rattle.types.specs.Translation.{codes, fault}
use Rattle.types.specs.Trees.{Leaf, append, returned}
use Rattle.types.specs.Value.{Environment}
use Rattle.step_trees.specs.Translation.{blocks, leaf_of}
use Rattle.step_trees.proofs.tree.handled.Goals as goal

pub returns : goal.returns
returns c =
    let k = leaf_of c.args.leaf in
    let v = c.args.leaf.faults in
    let at : Environment → Codes → List rFault → Leaf = λ env rest fs.
    record k { environment = env; rest = rest; faults = map fault fs } in
    let bound : ℤ → Environment = λ z.
    record k.environment { scalars = bind c.args.handler.faults.number z k.environment.scalars } in
    let few : length v.items < 2 ^ 63 = omega (arith, v.ok.0, v.ok.1, v.small) in
    let number : c.len-number.result ≡ length k.faults
    = omega (arith, c.len-number.ensures, v.ok.0, length-map v.items fault) in
    let small : c.len-number.result < 2 ^ 63 = omega (arith, c.len-number.ensures, v.ok.0, few) in
    let start = bound (pos (length k.faults)) in
    c.returned.ensures
    ∙ ap (λ (env : Environment). returned (at env (blocks c.enter.new.rest.items) c.new-none.result.items))
    (c.in_ok-assign.ensures ∙ ap bound (to_z_pos w64 c.len-number.result small ∙ ap pos number))
    ∙ ap (λ (rest : Codes). returned (at start rest c.new-none.result.items)) c.in_ok-enter.ensures
    ∙ ap (λ (fs : List rFault). returned (at start (append (codes c.args.handler.block.now) k.rest) fs)) c.new-none.ensures.items

use Rattle.std.proofs.Common.{◌-◌, ◌<◌, length, ap, sym, ◌∙◌, arith}
use Rattle.std.proofs.lemmas.List.{length-map}
use Rattle.types.specs.Translation.{codes, procedure, program}
use Rattle.plain_code.specs.Calm.{are_plain_by}
use Rattle.plain_code.proofs.Marking.{body_at, calm_there, marked_one, round_ends}
use Rattle.plain_code.proofs.calm.round.Goals as goal

pub procedures-preserved-then-not-are_plain : goal.procedures-preserved-then-not-are_plain
procedures-preserved-then-not-are_plain c =
    let ps = c.args.program.now.procedures.items in
    let calm = c.procedures.calm in
    let k = c.procedures.left - 1 in
    let some = c.procedures-test.true in
    let so = c.procedures.invariant in
    let within = so.within in
    let lt : k < length ps = omega (arith, some, within, length-map ps procedure) in
    let body = ap codes c.deref.ensures.value ∙ body_at ps k c.index.result.now lt c.index.ensures in
    marked_one (program c.args.program.now) c.args.calm.now calm c.procedures.left k c.procedures.found (omega (arith, some)) so
    (calm_there calm k c.if-calm-left.true)
    (sym (ap (are_plain_by calm) body) ∙ sym c.are_plain.ensures ∙ c.if-not-are_plain.true)

pub returns-clause-none : goal.returns-clause-none
returns-clause-none c =
    let ps = c.args.program.now.procedures.items in
    round_ends (program c.args.program.now) c.args.calm.now c.procedures.calm c.procedures.left c.procedures.found
    (c.requires.count ∙ sym (length-map ps procedure)) (omega (arith, c.procedures-test.false)) c.procedures.invariant

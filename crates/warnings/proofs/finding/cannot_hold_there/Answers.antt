use Rattle.std.proofs.Common.{None, Some, ap, refl, sym, ◌∙◌}
use Rattle.std.proofs.lemmas.Option.{slice_get_past, slice_get_read}
use Rattle.std.specs.Prelude.{slice_get}
use Rattle.sections.specs.Overlap.{root_of}
use Rattle.sections.specs.Tree.{origins_of}
use Rattle.types.specs.Translation.{number}
use Rattle.warnings.proofs.Found.{root_found}
use Rattle.warnings.proofs.finding.cannot_hold_there.Goals as goal

pub returns-in-None : goal.returns-in-None
returns-in-None c =
    let f = c.args.scope.procedure.now in
    let s = c.args.section.number in let root = c.of.result.number in
    let xs = c.deref.result.now in
    sym (root_found f.parameters.items root (root_of (origins_of f.sections) s) None (number c.args.number.now)
    (ap (λ ps. slice_get ps root) (sym c.deref.ensures.value) ∙ slice_get_past xs root c.in-None.ensures.lookup.3)
    (c.of.ensures ∙ c.requires s))

pub returns-in-Some : goal.returns-in-Some
returns-in-Some c =
    let f = c.args.scope.procedure.now in
    let s = c.args.section.number in let root = c.of.result.number in
    let xs = c.deref.result.now in let x = c.in-Some.parameter.now in
    c.cannot_hold.ensures
    ∙ sym (root_found f.parameters.items root (root_of (origins_of f.sections) s) (Some x) (number c.args.number.now)
    (ap (λ ps. slice_get ps root) (sym c.deref.ensures.value)
    ∙ slice_get_read xs _ root x refl c.in-Some.ensures.lookup.3.0 c.in-Some.ensures.lookup.1)
    (c.of.ensures ∙ c.requires s))

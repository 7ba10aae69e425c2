use Rattle.std.proofs.Common.{◌≡◌, ◌∙◌, ap, sym, subst}
use Rattle.types.specs.Code.{Codes, Procedure}
use Rattle.types.specs.Translation.{codes, program}
use Rattle.effects.specs.Effects.{accesses}
use Rattle.parallel_relation.specs.Together.{Together}
use Rattle.race_checker.specs.Found.{Stands}
use Rattle.race_checker.specs.Races.{Clashes, LeastOf, numbered}
use Rattle.race_checker.specs.Translation.{found}
use Rattle.race_checker.proofs.Judging.{numbered_stands}
use Rattle.race_checker.proofs.check.least_race_in.Goals as goal

pub found_in-requires-clause-stands : goal.found_in-requires-clause-stands
found_in-requires-clause-stands g c κs within =
    let p = program c.args.code.now in
    let f = c.args.procedure.number in
    let body : codes c.deref.result.now ≡ (numbered p f).body =
    ap codes c.deref.ensures.value
    ∙ ap (λ (g : Procedure). g.body) c.procedure_of.ensures in
    subst (Stands p (numbered p f).sections) (sym body) (numbered_stands p f c.requires.sound)

pub returns : goal.returns
returns g c =
    let p = program c.args.code.now in
    let f = c.args.procedure.number in
    let body : codes c.deref.result.now ≡ (numbered p f).body =
    ap codes c.deref.ensures.value
    ∙ ap (λ (g : Procedure). g.body) c.procedure_of.ensures in
    subst (λ (b : Codes). LeastOf (Clashes (numbered p f).sections f (Together p accesses b)) (found c.in_ok-found.found.race)) body
    c.in_ok-found.ensures.least_race

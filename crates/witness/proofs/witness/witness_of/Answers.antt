use Rattle.std.proofs.Common.{◌∙◌, ap, refl, sym, subst}
use Rattle.types.specs.Code.{Procedure, Program}
use Rattle.types.specs.Translation.{codes}
use Rattle.types.specs.Typed.{code_of}
use Rattle.race_checker.specs.Races.{numbered}
use Rattle.race_checker.specs.Translation.{race}
use Rattle.witness.specs.Crossed.{MeetIn, directed, plain}
use Rattle.witness.specs.Least.{IsLeast, all_covered}
use Rattle.witness.specs.Witness.{PrefersThese, ShowIn}
use Rattle.witness.proofs.Answering.{race_found, found_fewest, prefers_first, size}
use Rattle.witness.proofs.witness.witness_of.Goals as goal

pub returns-in_default-2-clause-found : goal.returns-in_default-2-clause-found
returns-in_default-2-clause-found c = λ is_race.
    let p = code_of c.args.typed.now in
    let r = race c.args.race in
    let b = codes c.deref.result.now in
    let is = c.code-code.ensures.code in
    let found = subst (λ (q : Program). IsLeast size all_covered (ShowIn q b r) (directed c.in_ok-first_pends.field-0)) is c.in_ok-first_pends.ensures.least in
    let body = ap (λ (q : Program). (numbered q r.procedure).body) (sym is) ∙ ap (λ (g : Procedure). g.body) (sym c.in-Some.ensures.some)
    ∙ ap codes (sym c.deref.ensures.value) in
    absurd (race_found p r b (directed c.in_ok-first_pends.field-0) c.typed_programs_are_sound.ensures.typed body found (ap directed c.in_default-2.is) is_race)

pub returns-clause-shortest : goal.returns-clause-shortest
returns-clause-shortest c =
    let p = code_of c.args.typed.now in
    let r = race c.args.race in
    let b = codes c.deref.result.now in
    let is = c.code-code.ensures.code in
    let found = subst (λ (q : Program). IsLeast size all_covered (ShowIn q b r) (directed c.in_ok-first_pends.field-0)) is c.in_ok-first_pends.ensures.least in
    let some = subst (λ o. IsLeast size all_covered (ShowIn p b r) (directed o)) c.in-Some-2.is found in
    let body = ap (λ (q : Program). (numbered q r.procedure).body) (sym is) ∙ ap (λ (g : Procedure). g.body) (sym c.in-Some.ensures.some)
    ∙ ap codes (sym c.deref.ensures.value) in
    found_fewest p r b _ (c.in-Some-2.first_pends, plain c.in-Some-2.crossing) body refl some

pub returns-clause-first : goal.returns-clause-first
returns-clause-first c =
    let p = code_of c.args.typed.now in
    let r = race c.args.race in
    let b = codes c.deref.result.now in
    let is = c.code-code.ensures.code in
    let found = subst (λ (q : Program). PrefersThese (MeetIn q b r.first r.second) (directed c.in_ok-first_pends.field-0)) is c.in_ok-first_pends.ensures.first in
    let some = subst (λ o. PrefersThese (MeetIn p b r.first r.second) (directed o)) c.in-Some-2.is found in
    let body = ap (λ (q : Program). (numbered q r.procedure).body) (sym is) ∙ ap (λ (g : Procedure). g.body) (sym c.in-Some.ensures.some)
    ∙ ap codes (sym c.deref.ensures.value) in
    prefers_first p r b _ (c.in-Some-2.first_pends, plain c.in-Some-2.crossing) body refl refl some

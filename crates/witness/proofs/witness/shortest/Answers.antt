use Rattle.std.proofs.Common.{subst}
use Rattle.types.specs.Translation.{codes, program}
use Rattle.effects.specs.Translation.{access}
use Rattle.effects.specs.declared.access.Access.{Access as rAccess}
use Rattle.race_checker.specs.Translation.{race}
use Rattle.witness.specs.Crossed.{IsShortestOf, MeetIn, both, crossed}
use Rattle.witness.specs.declared.crossing.Pairing.{Pairing}
use Rattle.witness.specs.Least.{IsLeast, all_covered}
use Rattle.witness.proofs.Answering.{least_directed, prefers_forth}
use Rattle.witness.proofs.witness.shortest.Goals as goal

pub returns-clause-least : goal.returns-clause-least
returns-clause-least c =
    let p = program c.args.code.now in
    let b = codes c.args.body.now in
    let one = c.in_ok-first.ensures.access in
    let other = c.in_ok-second.ensures.access in
    let back = subst (λ (two : Pairing). IsShortestOf two (λ p. MeetIn p b) c.in_ok-back.back) c.swapped.ensures c.in_ok-back.ensures in
    least_directed p b (race c.args.race) c.in_ok-forth.forth c.in_ok-back.back _ c.shorter_direction.ensures
    (subst (λ (x : rAccess). IsLeast both all_covered (MeetIn p b (access x) (access c.args.race.second)) (crossed c.in_ok-forth.forth)) one
    (subst (λ (y : rAccess). IsLeast both all_covered (MeetIn p b (access c.in_ok-first.first.access) (access y)) (crossed c.in_ok-forth.forth)) other c.in_ok-forth.ensures))
    (subst (λ (x : rAccess). IsLeast both all_covered (MeetIn p b (access c.args.race.second) (access x)) (crossed c.in_ok-back.back)) one
    (subst (λ (y : rAccess). IsLeast both all_covered (MeetIn p b (access y) (access c.in_ok-first.first.access)) (crossed c.in_ok-back.back)) other back))

pub returns-clause-first : goal.returns-clause-first
returns-clause-first c =
    let p = program c.args.code.now in
    let b = codes c.args.body.now in
    let r = race c.args.race in
    let one = c.in_ok-first.ensures.access in
    let other = c.in_ok-second.ensures.access in
    prefers_forth (MeetIn p b r.first r.second) c.in_ok-forth.forth c.in_ok-back.back _ c.shorter_direction.ensures
    (subst (λ (x : rAccess). IsLeast both all_covered (MeetIn p b (access x) (access c.args.race.second)) (crossed c.in_ok-forth.forth)) one
    (subst (λ (y : rAccess). IsLeast both all_covered (MeetIn p b (access c.in_ok-first.first.access) (access y)) (crossed c.in_ok-forth.forth)) other c.in_ok-forth.ensures))

use Rattle.std.proofs.Common.{◌∙◌, arith, sym}
use Rattle.std.specs.Prelude.{◌≡◌, true}
use Rattle.sections.specs.Overlap.{overlap as overlap_of}
use Rattle.sections.specs.Tree.{origins_of}
use Rattle.witness.specs.Sharing.{Shares}
use Rattle.witness.proofs.Parts.{false_is_not, overlap_there}
use Rattle.witness.proofs.Splits.{apart_at_nearest}
use Rattle.witness.proofs.sharing.sharing_of.Goals as goal
use Rattle.witness.proofs.sharing.sharing_of.Goals.{then-first-end-via-then-first-end, then-first-end-via-else-first-end+then-second-end}

pub returns-then-first-second-clause-why : goal.returns-then-first-second-clause-why
returns-then-first-second-clause-why c = Shares.same c.if-first-second.true

pub returns-then-lies_in-clause-why : goal.returns-then-lies_in-clause-why
returns-then-lies_in-clause-why c = Shares.first_is_part c.if-first-second.false (c.lies_in.ensures.0 c.if-lies_in.true)

pub returns-then-lies_in-2-clause-why : goal.returns-then-lies_in-2-clause-why
returns-then-lies_in-2-clause-why c = Shares.second_is_part c.if-first-second.false (c.lies_in-2.ensures.0 c.if-lies_in-2.true)

pub returns-clause-why : goal.returns-clause-why
returns-clause-why c =
    let origins = origins_of c.args.sections.now in
    let overlap : overlap_of origins c.args.first.number c.args.second.number ≡ true = sym c.overlap.ensures ∙ c.if-not-overlap.false in
    apart_at_nearest origins c.args.sections.now.numbered c.args.first.number c.args.second.number c.nearest-section.result.number
    (λ h. false_is_not c.lies_in.result c.if-lies_in.false (c.lies_in.ensures.1 h))
    (λ h. false_is_not c.lies_in-2.result c.if-lies_in-2.false (c.lies_in-2.ensures.1 h)) overlap (c.nearest-section.ensures overlap)

pub returns-then-first-end-clause-some : goal.returns-then-first-end-clause-some
returns-then-first-end-clause-some c = λ h.
    let there = overlap_there (origins_of c.args.sections.now) c.args.sections.now.numbered c.args.first.number c.args.second.number c.if-first-second.false h in
    let end = c.len-end.ensures in
    elim c.then-first-end.branch [
      | then-first-end-via-then-first-end w ↦ absurd (let past = w.if-first-end.true in omega (arith, there.0, end, past))
      | then-first-end-via-else-first-end+then-second-end w ↦ absurd (let past = w.if-second-end.true in omega (arith, there.1, end, past))
    ]

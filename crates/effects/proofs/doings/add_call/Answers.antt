use Rattle.std.proofs.Common.{◌<◌, ◌∙◌, ◌++◌, length, get_or, map, subst, arith}
use Rattle.std.proofs.lemmas.List.{length-map}
use Rattle.std.proofs.lemmas.Option.{slice_get-get_or}
use Rattle.std.proofs.lemmas.Result.{on_ok_weaker}
use Rattle.sections.specs.Translation.{section}
use Rattle.types.specs.Code.{Codes}
use Rattle.types.specs.Run.{procedure_of}
use Rattle.types.specs.Translation.{program}
use Rattle.effects.specs.AccessSets.{HasAccess}
use Rattle.types.specs.Sound.{passed_for}
use Rattle.effects.specs.Effects.{accesses, All}
use Rattle.effects.specs.Firsts.{AreFirstsIn, kept_in}
use Rattle.effects.specs.Rows.{Renamed}
use Rattle.effects.specs.Summarized.{IsSummary}
use Rattle.effects.specs.Translation.{access}
use Rattle.effects.proofs.ComesSound.{body_of-other}
use Rattle.effects.proofs.DoingLemmas.{adds_firsts, all_in_callee, passed_renamed}
use Rattle.effects.proofs.doings.add_call.Goals as goal

pub returns : goal.returns
returns c =
    let p = program c.args.code.now in
    let f = c.args.callee.number in
    let ss = map section c.args.sections.now in
    let s = get_or c.args.table.now f c.index-table-callee.result in
    let callee = (procedure_of p f).body in
    let below : f < length p.procedures = c.requires.there in
    let exact : IsSummary p callee s =
    subst (λ (b : Codes). IsSummary p b s) (body_of-other p f below)
    (c.requires.summaries.each f s (slice_get-get_or c.args.table.now f c.index-table-callee.result
    (omega (arith, c.requires.summaries.number, c.requires.there)))) in
    let outside = c.in_ok-outside.outside in
    on_ok_weaker c.add_all.result
    (λ h. adds_firsts (Renamed p accesses (passed_for ss) (All p accesses callee)) (kept_in outside) (kept_in c.args.into.now)
    (kept_in c.add_all.new.self)
    (passed_renamed p ss (HasAccess s.all) (All p accesses callee) (λ x. (exact.all x).0) (λ x. (exact.all x).1)
    (all_in_callee p c.requires.sound f (length ss) (length-map c.args.sections.now section ∙ c.requires.number)) (kept_in outside)
    c.in_ok-outside.ensures)
    (subst (λ xs. AreFirstsIn (map access xs ++ kept_in c.args.into.now) (kept_in c.add_all.new.self)) c.items.ensures h))
    c.add_all.ensures

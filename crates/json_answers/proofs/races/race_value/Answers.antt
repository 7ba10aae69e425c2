use Rattle.std.proofs.Common.{ap, ◌∙◌}
use Rattle.std.proofs.lemmas.Result.{IfOk-weaker}
use Rattle.serde_json.specs.View.{view}
use Rattle.types.specs.Translation.{program}
use Rattle.race_checker.specs.Translation.{race}
use Rattle.failures.specs.Races.{race_text}
use Rattle.json_answers.specs.Pieces.{object_of}
use Rattle.json_answers.specs.Places.{place_at}
use Rattle.json_answers.specs.Races.{told_members}
use Rattle.json_answers.proofs.races.race_value.Goals as goal

pub returns : goal.returns
returns c =
    let file = c.args.file.now in
    let found = c.args.found in
    let reason = found.reason.now in
    let label = found.race.first.label in
    let place = place_at found.places.now label in
    let told = view c.in_ok-accesses.accesses in
    let said = race_text (program found.code.now) (race found.race) in
    IfOk-weaker c.told_value.result _ _ (λ v same. same
    ∙ ap (λ m. object_of (told_members file place label m told reason)) c.in_ok-message.ensures
    ∙ ap (λ a. object_of (told_members file place label said a reason)) c.in_ok-accesses.ensures)
    c.told_value.ensures

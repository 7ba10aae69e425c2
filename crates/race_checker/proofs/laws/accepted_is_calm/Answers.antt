use Rattle.types.specs.Typed.{program_of, code_of}
use Rattle.types.proofs.ProgramsSound.{resolved_texts_are_sound}
use Rattle.race_checker.proofs.Calming.{is_calm}
use Rattle.race_checker.proofs.laws.accepted_is_calm.Goals as goal

pub returns : goal.returns
returns c =
    let typed = c.args.accepted.now.typed in
    is_calm (code_of typed) (resolved_texts_are_sound (program_of typed) (code_of typed) typed.right typed.resolved)
    c.args.accepted.now.no_clash

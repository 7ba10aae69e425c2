use Rattle.types.proofs.ProgramsSound.{resolved_texts_are_sound}
use Rattle.types.specs.Typed.{program_of, code_of}
use Rattle.types.proofs.laws.typed_programs_are_sound.Goals as goal

pub returns-clause-typed : goal.returns-clause-typed
returns-clause-typed c = resolved_texts_are_sound (program_of c.args.typed.now) (code_of c.args.typed.now) c.args.typed.now.right c.args.typed.now.resolved

pub returns-clause-every : goal.returns-clause-every
returns-clause-every c = resolved_texts_are_sound

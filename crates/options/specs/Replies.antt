-- What is replied to words that are a mistake.
use Rattle.std.specs.Prelude.{◌≡◌, ◌≢◌, ◌⊎◌}
use Rattle.clap.specs.Values.{kind_of}
use Rattle.clap.specs.declared.error.kind.ErrorKind.TheVariants.{ArgumentConflict, OutOfMemory}
use Rattle.clap.specs.declared.error.kind.ErrorKind.TheVariants.{DisplayHelp, DisplayVersion}
use Rattle.options.specs.declared.reply.Reply.{Reply}
use Rattle.options.specs.declared.reply.Reply.TheVariants.{Said, Page, NoPage}

-- it is for the standard error: neither help nor the version nor a text that was asked for
abbrev pub IsMistake : Reply → Type 0
IsMistake (Said error) = (kind_of error ≢ DisplayHelp) × (kind_of error ≢ DisplayVersion)
IsMistake (Page text) = ⊥
IsMistake (NoPage line) = Unit {0}

-- it says that words don't go together, or that memory ran out
abbrev pub IsConflict : Reply → Type 0
IsConflict (Said error) = (kind_of error ≡ ArgumentConflict) ⊎ (kind_of error ≡ OutOfMemory)
IsConflict (Page text) = ⊥
IsConflict (NoPage line) = ⊥

-- The contents of a `Typed`.
use Rattle.syntax_tree.specs.Tree as tree
use Rattle.types.specs.Code.{Program}
use Rattle.types.specs.Translation.{program}
use Rattle.types.specs.declared.typed.Typed.{Typed}

-- the program as it was parsed
abbrev pub program_of : Typed → tree.Program
program_of t = tree.program t.program

-- the program with its names resolved
abbrev pub code_of : Typed → Program
code_of t = program t.code

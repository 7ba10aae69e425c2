use Rattle.std.proofs.Common.{◌≡◌, take}
use Rattle.syntax.specs.Lexical.{number_of}
use Rattle.syntax.proofs.lexer.value_of.Given as goal

abbrev pub invariant-loop-c : goal.invariant-loop-c
invariant-loop-c l = l.value ≡ number_of (take l.c-index l.digits)

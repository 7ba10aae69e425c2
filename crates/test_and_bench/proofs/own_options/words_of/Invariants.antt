use Rattle.std.proofs.Common.{◌≡◌, ◌∷◌, ◌++◌, drop, map, codes}
use Rattle.std.specs.Str.Lines.{lines}
use Rattle.std.specs.String.{string_bytes}
use Rattle.test_and_bench.proofs.Wording.{shown}
use Rattle.test_and_bench.proofs.own_options.words_of.Given as goal

-- the words so far, and the lines that are left
abbrev pub invariant-loop-line : goal.invariant-loop-line
invariant-loop-line l =
    map string_bytes l.words.items ++ map shown (drop l.line-index l.line-items) ≡ codes "-" ∷ lines l.fn.text

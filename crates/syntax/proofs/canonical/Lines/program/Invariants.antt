use Rattle.std.proofs.Common.{◌≡◌, [], drop, map}
use Rattle.std.specs.Option.{option_map}
use Rattle.syntax.specs.declared.token.Left.TheVariants.{Margin}
use Rattle.syntax.specs.Spelling.{spelling, procedures_then, main_tokens, arrays_then, block_then}
use Rattle.syntax_tree.specs.Tree.{program, procedure, main, array, block}
use Rattle.syntax.specs.Writing.{with_rest, IsCounted}
use Rattle.syntax.proofs.canonical.Lines.program.Given as goal

-- what is written, and the procedures that are left
abbrev pub invariant-loop-procedure : goal.invariant-loop-procedure
invariant-loop-procedure l = record {
  counted : IsCounted l.self;
  written : with_rest l.fn.self Margin (spelling (program l.fn.program))
      ≡ with_rest l.self Margin (procedures_then (map procedure (drop l.procedure-index l.procedure-items)) (main_tokens
      (option_map main l.fn.program.main)));
}

-- what is written, and the arrays that are left
abbrev pub invariant-loop-array : goal.invariant-loop-array
invariant-loop-array l = record {
  counted : IsCounted l.self;
  written : with_rest l.fn.self Margin (spelling (program l.fn.program))
      ≡ with_rest l.self Margin (arrays_then (map array (drop l.array-index l.array-items)) (block_then (block l.main.body.items) []));
}

use Rattle.std.proofs.Common.{refl}
use Rattle.std.specs.String.{string_bytes}
use Rattle.std.proofs.lemmas.Result.{IfOk-at_ok}
use Rattle.std.proofs.lemmas.Str.{IsUtf8-string_bytes}
use Rattle.syntax_tree.specs.Tree.{program as tree_of}
use Rattle.failures.specs.declared.failure.Failure.TheVariants.{NotLaidOut}
use Rattle.command_line.specs.declared.request.Command.TheVariants.{CheckFormat}
use Rattle.commands.proofs.Answering.{differ, needs_layout, other_failure, refuses}
use Rattle.commands.proofs.formatting.check_format.Goals as goal

pub returns : goal.returns
returns g c s held =
    let text = c.args.text.now in
    let laid = string_bytes c.in_ok-laid.laid in
    refuses CheckFormat s held text _ NotLaidOut (
      refl,
      needs_layout text laid (tree_of c.in_ok-_program._program) c.in_ok-_program.ensures.spelled c.utf8.text
          (IsUtf8-string_bytes c.in_ok-laid.laid)
          (differ c.eq.result c.as_str.result.now laid text c.as_str.ensures.value c.eq.ensures c.if-eq.false)
          (IfOk-at_ok _ c.in_ok-laid.ensures.value c.laid_out.ensures.laid),
    )
    (other_failure NotLaidOut tt)

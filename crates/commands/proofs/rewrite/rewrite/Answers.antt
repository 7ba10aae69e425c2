use Rattle.std.proofs.Common.{Err, refl}
use Rattle.std.specs.String.{string_bytes}
use Rattle.std.proofs.lemmas.Result.{IfOk-at_ok}
use Rattle.std.proofs.lemmas.Str.{IsUtf8-string_bytes}
use Rattle.syntax_tree.specs.Tree.{program as tree_of}
use Rattle.commands.proofs.Answering.{differ, is_layout, needs_layout}
use Rattle.commands.proofs.Rewriting.{leaves_anyway, rewrite_unwritten, rewrote}
use Rattle.commands.proofs.rewrite.rewrite.Goals as goal

pub returns-in_err-write_file-clause-done : goal.returns-in_err-write_file-clause-done
returns-in_err-write_file-clause-done g c =
    let text = c.args.text.now in
    let laid = string_bytes c.in_ok-laid.laid in
    rewrite_unwritten c.args.file.now text _ c.from_residual-in_err-write_file.result _
    c.from_residual-in_err-write_file.ensures.1
    (needs_layout text laid (tree_of c.in_ok-_program._program) c.in_ok-_program.ensures.spelled c.utf8.text
    (IsUtf8-string_bytes c.in_ok-laid.laid)
    (differ c.eq.result c.as_str.result.now laid text c.as_str.ensures.value c.eq.ensures c.if-eq.false)
    (IfOk-at_ok _ c.in_ok-laid.ensures.value c.laid_out.ensures.laid))
    c.in_err-write_file.ensures.why

pub returns-clause-leaves : goal.returns-clause-leaves
returns-clause-leaves g c =
    let text = c.args.text.now in
    let laid = string_bytes c.in_ok-laid.laid in
    let is = c.in_ok-laid.ensures.value in let out = c.laid_out.ensures in
    let program = tree_of c.in_ok-_program._program in let spelled = c.in_ok-_program.ensures.spelled in
    leaves_anyway c.args.file.now text (g.F.FileSource.held c.args.files.now) _ c.answer-2.result
    (rewrote c.args.file.now text laid _ (g.F.FileSource.held c.args.files.now) _ program c.as_bytes.ensures.value spelled
    (is_layout text laid program spelled (IsUtf8-string_bytes c.in_ok-laid.laid) (IfOk-at_ok _ is out.laid)
    (IfOk-at_ok _ is out.kept) (IfOk-at_ok _ is out.tokens))
    c.in_ok-write_file.ensures.written c.in_ok-write_file.ensures.others)
    c.answer-2.ensures.failure

pub returns-then-len-gt-MOST_BYTES-clause-done : goal.returns-then-len-gt-MOST_BYTES-clause-done
returns-then-len-gt-MOST_BYTES-clause-done g c =
    let text = c.args.text.now in
    let laid = string_bytes c.in_ok-laid.laid in
    let f = c.cannot_write.result in
    rewrite_unwritten c.args.file.now text _ (Err f) f refl
    (needs_layout text laid (tree_of c.in_ok-_program._program) c.in_ok-_program.ensures.spelled c.utf8.text
    (IsUtf8-string_bytes c.in_ok-laid.laid)
    (differ c.eq.result c.as_str.result.now laid text c.as_str.ensures.value c.eq.ensures c.if-eq.false)
    (IfOk-at_ok _ c.in_ok-laid.ensures.value c.laid_out.ensures.laid)) c.cannot_write.ensures

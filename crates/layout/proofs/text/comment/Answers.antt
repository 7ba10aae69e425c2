use Rattle.std.proofs.Common.{refl, arith}
use Rattle.std.proofs.lemmas.List.Sums.{prefix_len-le-length}
use Rattle.syntax.specs.Lexical.{is_in_line, CommentPiece}
use Rattle.layout.proofs.GoingLemmas.{comment_first, passes}
use Rattle.layout.proofs.text.comment.Goals as goal

pub split_at-requires-2 : goal.split_at-requires-2
split_at-requires-2 c = omega (arith, c.line_length.ensures, prefix_len-le-length is_in_line c.split_at.result.1.now)

pub returns-clause-passed : goal.returns-clause-passed
returns-clause-passed c =
    let text = c.args.text.now in
    let split = c.split_at-2.ensures in
    let line = c.split_at-2.result.0.now in
    let left = c.split_at-2.result.1.now in
    let begins = comment_first text c.split_at.result.1.now line left c.line_length.result c.requires.begins c.split_at.ensures.back
    c.line_length.ensures split.front split.back
    in
    passes (CommentPiece line) text left c.args.writer.now c.comment.new.self begins refl c.in_ok-comment.ensures.written

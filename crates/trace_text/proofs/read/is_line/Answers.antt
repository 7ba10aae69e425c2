use Rattle.std.proofs.Common.{Some, lit<}
use Rattle.std.proofs.lemmas.Str.Pattern.{strip_suffix_char}
use Rattle.trace_text.proofs.Found.{line_decided}
use Rattle.trace_text.proofs.read.is_line.Goals as goal

pub returns-in-Some : goal.returns-in-Some
returns-in-Some c =
    line_decided c.in-Some.front.now c.args.line.now c.args.text.now c.eq.result
    (strip_suffix_char 10 c.args.text.now (Some c.in-Some.front) c.in-Some.ensures.cases (lit< tt)) c.eq.ensures

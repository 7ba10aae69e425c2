use Rattle.std.proofs.Common.{codes}
use Rattle.shared_lemmas.proofs.Results.{if_ok_then}
use Rattle.types.specs.Names.{path_text}
use Rattle.trace_text.proofs.Marks.{path_then_quote}
use Rattle.trace_text.proofs.read.path_in.Goals as goal

pub returns-in_default-clause-spelled : goal.returns-in_default-clause-spelled
returns-in_default-clause-spelled c = λ p h same.
    absurd (c.in_default.ensures (path_text p) (codes "}") (path_then_quote p) same)

pub returns-clause-spelled : goal.returns-clause-spelled
returns-clause-spelled c =
    if_ok_then c.read_path.result c.read_path.ensures.spelled (λ o found p h same.
    found p h (c.in-Some.ensures (path_text p) (codes "}") (path_then_quote p) same).0)

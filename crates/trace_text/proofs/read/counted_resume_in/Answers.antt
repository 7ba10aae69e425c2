use Rattle.std.proofs.Common.{◌≡◌, ◌++◌, arith, codes, rules}
use Rattle.std.proofs.lemmas.Grind.{common_steps}
use Rattle.types.specs.Names.{path_text}
use Rattle.trace_text.specs.Fields.{worker_field}
use Rattle.trace_text.proofs.Marks.{number_then_comma}
use Rattle.trace_text.proofs.read.counted_resume_in.Goals as goal

pub returns-in_default-clause-told : goal.returns-in_default-clause-told
returns-in_default-clause-told c = λ w p n h small same.
    let behind = codes "\"path\":\"" ++ (path_text p ++ (codes "\"" ++ worker_field w)) in
    absurd (c.in_default.ensures n behind (omega (arith, small)) (number_then_comma n) same)

pub returns-then-faults-gt4294967295-clause-told : goal.returns-then-faults-gt4294967295-clause-told
returns-then-faults-gt4294967295-clause-told c = λ w p n h small same.
    let behind = codes "\"path\":\"" ++ (path_text p ++ (codes "\"" ++ worker_field w)) in
    let first = c.in-Some.ensures n behind (omega (arith, small)) (number_then_comma n) same in
    absurd (omega (arith, first.0, small))

pub returns-clause-told : goal.returns-clause-told
returns-clause-told c = λ w p n h small same.
    let behind = codes "\"path\":\"" ++ (path_text p ++ (codes "\"" ++ worker_field w)) in
    let first = c.in-Some.ensures n behind (omega (arith, small)) (number_then_comma n) same in
    let faults : c.in-Some.faults ≡ n = first.0 in
    let by = c.in_ok-by.ensures.told w p h first.1 in
    first_of (search rules, grind (arith, common_steps))

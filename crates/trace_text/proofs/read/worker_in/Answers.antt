use Rattle.std.proofs.Common.{◌<◌, [], arith}
use Rattle.trace_text.proofs.Marks.{number_then_brace}
use Rattle.trace_text.proofs.read.worker_in.Goals as goal

pub returns-in_err-number : goal.returns-in_err-number
returns-in_err-number c = λ w few same.
    absurd (c.in_err-number.ensures w [] (omega arith) (number_then_brace w) same)

pub returns : goal.returns
returns c = λ w few same.
    let cut = c.in_ok-number.ensures w [] (omega arith) (number_then_brace w) same in
    let small : c.in_ok-number.number < 64 = omega (arith, cut.0, few) in
    let found = c.worker_of.ensures small in
    cc

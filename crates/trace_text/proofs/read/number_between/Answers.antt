use Rattle.std.proofs.Common.{◌≡◌}
use Rattle.std.specs.Fmt.{decimal}
use Rattle.std.proofs.lemmas.Fmt.{parse-decimal}
use Rattle.trace_text.proofs.read.number_between.Goals as goal

pub returns-in-Err : goal.returns-in-Err
returns-in-Err c = λ n behind small lacks same.
    let cut = c.in_ok-digits.ensures (decimal n) behind lacks same in
    let parsed = parse-decimal 64 n _ c.parse.result small small cut.0 c.parse.ensures.value.0 in
    let failed = c.in-Err.is in
    cc

pub returns-in-Ok : goal.returns-in-Ok
returns-in-Ok c = λ n behind small lacks same.
    let cut = c.in_ok-digits.ensures (decimal n) behind lacks same in
    let parsed = parse-decimal 64 n _ c.parse.result small small cut.0 c.parse.ensures.value.0 in
    let read = c.in-Ok.is in
    let number : c.in-Ok.number ≡ n = cc in
    (number, cut.1)

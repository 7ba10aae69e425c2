use Rattle.std.proofs.Common.{◌≡◌, ◌++◌, Some, arith, codes, rules}
use Rattle.std.specs.Prelude.{option_map}
use Rattle.types.specs.Names.{path_text}
use Rattle.events.specs.Events.{turns_of}
use Rattle.trace_text.proofs.Marks.{number_then_comma, path_then_quote}
use Rattle.trace_text.proofs.read.pass_in.Goals as goal

pub returns-in_default-clause-told : goal.returns-in_default-clause-told
returns-in_default-clause-told c = λ id h same.
    let behind = codes "\"owner\":\"" ++ (path_text id.owner ++ codes "\"}") in
    absurd (c.in_default.ensures id.number behind (omega (arith, h.number)) (number_then_comma id.number) same)

pub returns-in_default-try_from-clause-told : goal.returns-in_default-try_from-clause-told
returns-in_default-try_from-clause-told c = λ id h same.
    let behind = codes "\"owner\":\"" ++ (path_text id.owner ++ codes "\"}") in
    let first = c.in-Some.ensures id.number behind (omega (arith, h.number)) (number_then_comma id.number) same in
    absurd (c.in_default-try_from.ensures (omega (arith, first.0, h.number)))

pub returns-in_default-between-clause-told : goal.returns-in_default-between-clause-told
returns-in_default-between-clause-told c = λ id h same.
    let behind = codes "\"owner\":\"" ++ (path_text id.owner ++ codes "\"}") in
    let first = c.in-Some.ensures id.number behind (omega (arith, h.number)) (number_then_comma id.number) same in
    absurd (c.in_default-between.ensures (path_text id.owner) (codes "}") (path_then_quote id.owner) first.1)

pub returns-clause-told : goal.returns-clause-told
returns-clause-told c = λ id h same.
    let behind = codes "\"owner\":\"" ++ (path_text id.owner ++ codes "\"}") in
    let first = c.in-Some.ensures id.number behind (omega (arith, h.number)) (number_then_comma id.number) same in
    let cut = c.in-Some-between.ensures (path_text id.owner) (codes "}") (path_then_quote id.owner) first.1 in
    let owner : option_map turns_of c.in_ok-read_path.field-0 ≡ Some id.owner =
    c.in_ok-read_path.ensures.spelled id.owner h.owner cut.0 in
    let read = c.in-Ok.ensures in
    let number : c.in-Ok.number ≡ id.number = omega (arith, first.0, read) in
    search rules

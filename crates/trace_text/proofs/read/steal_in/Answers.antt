use Rattle.std.proofs.Common.{◌≡◌, ◌<◌, ◌++◌, arith, codes, rules}
use Rattle.std.proofs.lemmas.Grind.{common_steps}
use Rattle.types.specs.Names.{path_text}
use Rattle.trace_text.specs.Fields.{worker_field}
use Rattle.trace_text.proofs.Marks.{number_then_comma}
use Rattle.trace_text.proofs.read.steal_in.Goals as goal

pub returns-in_default-clause-told : goal.returns-in_default-clause-told
returns-in_default-clause-told c = λ w f p h same.
    let behind = codes "\"path\":\"" ++ (path_text p ++ (codes "\"" ++ worker_field w)) in
    absurd (c.in_default.ensures f behind (omega (arith, h.from_fits)) (number_then_comma f) same)

pub returns-in_default-worker_of-clause-told : goal.returns-in_default-worker_of-clause-told
returns-in_default-worker_of-clause-told c = λ w f p h same.
    let behind = codes "\"path\":\"" ++ (path_text p ++ (codes "\"" ++ worker_field w)) in
    let first = c.in-Some.ensures f behind (omega (arith, h.from_fits)) (number_then_comma f) same in
    let few : c.in-Some.from < 64 = omega (arith, first.0, h.from_fits) in
    let found = c.worker_of.ensures few in
    let none = c.in_default-worker_of.is in
    cc

pub returns-clause-told : goal.returns-clause-told
returns-clause-told c = λ w f p h same.
    let behind = codes "\"path\":\"" ++ (path_text p ++ (codes "\"" ++ worker_field w)) in
    let first = c.in-Some.ensures f behind (omega (arith, h.from_fits)) (number_then_comma f) same in
    let few : c.in-Some.from < 64 = omega (arith, first.0, h.from_fits) in
    let from_found = c.worker_of.ensures few in
    let from_is = c.in-Some-worker_of.is in
    let from : c.in-Some-worker_of.from ≡ f = cc in
    let by = c.in_ok-by.ensures.told w p h.thief first.1 in
    first_of (search rules, grind (arith, common_steps))

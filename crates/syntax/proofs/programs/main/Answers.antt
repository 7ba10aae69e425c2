use Rattle.std.proofs.Common.{sym, ◌∙◌, arith}
use Rattle.syntax.specs.Spelling.{block_then}
use Rattle.syntax.proofs.RefusalLemmas.{passed_on, same_rest}
use Rattle.syntax.proofs.StmtSpellings.{block_binds}
use Rattle.syntax.proofs.programs.main.Goals as goal

pub returns-in_err-rest-clause-refused : goal.returns-in_err-rest-clause-refused
returns-in_err-rest-clause-refused c =
    passed_on _ _ c.from_residual.ensures.1 (λ room m r spelled.
    c.in_err-rest.ensures.refused _ spelled)

pub returns-in_err-rest-2-clause-refused : goal.returns-in_err-rest-2-clause-refused
returns-in_err-rest-2-clause-refused c =
    passed_on _ _ c.from_residual-in_err-rest-2.ensures.1 (λ room m r spelled.
    let brace = same_rest (sym c.in_ok-rest.ensures.found ∙ spelled) in
    c.in_err-rest-2.ensures.refused _ brace)

pub returns-in_err-arrays-clause-refused : goal.returns-in_err-arrays-clause-refused
returns-in_err-arrays-clause-refused c =
    passed_on _ _ c.from_residual-in_err-arrays.ensures.1 (λ room m r spelled.
    let brace = same_rest (sym c.in_ok-rest.ensures.found ∙ spelled) in
    let arrays = same_rest (sym c.in_ok-rest-2.ensures.found ∙ brace) in
    c.in_err-arrays.ensures.refused room m.arrays (block_then m.body r) (omega (arith, block_binds m.body r)) arrays)

pub returns-in_err-body-clause-refused : goal.returns-in_err-body-clause-refused
returns-in_err-body-clause-refused c =
    passed_on _ _ c.from_residual-in_err-body.ensures.1 (λ room m r spelled.
    let brace = same_rest (sym c.in_ok-rest.ensures.found ∙ spelled) in
    let arrays = same_rest (sym c.in_ok-rest-2.ensures.found ∙ brace) in
    let body = c.in_ok-arrays.ensures.read.whole m.arrays (block_then m.body r) (omega (arith, block_binds m.body r)) arrays in
    c.in_err-body.ensures.refused room m.body r body)

pub returns-clause-whole : goal.returns-clause-whole
returns-clause-whole c = λ m r spelled.
    let brace = same_rest (sym c.in_ok-rest.ensures.found ∙ spelled) in
    let arrays = same_rest (sym c.in_ok-rest-2.ensures.found ∙ brace) in
    let body = c.in_ok-arrays.ensures.read.whole m.arrays (block_then m.body r) (omega (arith, block_binds m.body r)) arrays in
    c.in_ok-body.ensures.read.whole m.body r body

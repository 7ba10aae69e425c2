use Rattle.std.proofs.Common.{◌≡◌, ◌++◌, List, ℕ, ap, sym, ◌∙◌}
use Rattle.std.specs.Prelude.{option_map}
use Rattle.trace_text.specs.Headers.{IsHeader, header_of}
use Rattle.trace_text.specs.Lines.{header_line, header_object}
use Rattle.trace_text.proofs.Found.{if_let_go, misspelled, not_told}
use Rattle.trace_text.proofs.read.read_header.Goals as goal

pub returns-in_default-clause-other : goal.returns-in_default-clause-other
returns-in_default-clause-other c =
    not_told IsHeader header_object c.args.line.now _ c.header_in.ensures
    (ap (option_map header_of) c.in_default.is)

pub returns-clause-other : goal.returns-clause-other
returns-clause-other c =
    let found = header_of c.in-Some.header in
    let again : c.as_str.result.now ≡ header_line found =
    c.as_str.ensures.value ∙ c.in_ok-push_header.ensures ∙ ap (λ (l : List ℕ). l ++ header_line found) c.new-again.ensures.bytes in
    if_let_go c.is_line-same.result c.in-Some.header c.then_some.result c.then_some.ensures
    (misspelled IsHeader header_object c.args.line.now _ c.header_in.ensures
    found c.is_line-same.result (ap (option_map header_of) c.in-Some.is)
    (λ same. c.is_line-same.ensures.1 (same ∙ sym again)))

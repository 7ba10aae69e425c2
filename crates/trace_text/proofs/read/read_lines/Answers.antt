use Rattle.std.proofs.Common.{◌++◌, List, ℕ, ap, sym, subst, ◌∙◌, inl, refl}
use Rattle.trace_text.specs.Headers.{header_of}
use Rattle.trace_text.specs.Lines.{header_object}
use Rattle.trace_text.specs.Reading.{IsRefusal}
use Rattle.trace_text.proofs.Found.{cut_line, no_header_first, no_line, refused_behind}
use Rattle.trace_text.proofs.read.read_lines.Goals as goal
use Rattle.shared_lemmas.proofs.Results.{if_err_then}

pub returns-in_default-clause-refused : goal.returns-in_default-clause-refused
returns-in_default-clause-refused c =
    inl (refl, λ b. no_line c.args.text.now b.behind (header_object b.header) b.parts c.in_default.ensures)

pub returns-in_default-2-clause-refused : goal.returns-in_default-2-clause-refused
returns-in_default-2-clause-refused c =
    let none = rw c.in_default-2.is at c.in_ok-header.ensures.other in
    inl (refl, no_header_first c.args.text.now c.in-Some.line.now c.in-Some.rest.now c.in-Some.ensures none)

pub returns-in_err-events-clause-refused : goal.returns-in_err-events-clause-refused
returns-in_err-events-clause-refused c =
    let text = c.args.text.now in
    let rest = c.in-Some.rest.now in
    let read = rw c.in-Some-2.is at c.in_ok-header.ensures.read in
    let parts = cut_line text c.in-Some.line.now rest c.in-Some.ensures ∙ ap (λ (l : List ℕ). l ++ rest) read.1 in
    if_err_then {Q = IsRefusal text} c.from_residual-in_err-events.result c.from_residual-in_err-events.ensures.1
    (λ e same. subst (IsRefusal text) (sym same)
    (refused_behind text rest (header_of c.in-Some-2.header) c.in_err-events.field-0.0 read.0 parts c.in_err-events.ensures.refused))

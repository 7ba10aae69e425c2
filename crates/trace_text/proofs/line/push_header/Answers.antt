use Rattle.std.proofs.Common.{ℕ, List, ◌++◌, ap, sym, ◌∙◌, codes}
use Rattle.std.specs.Fmt.{decimal}
use Rattle.std.specs.String.{string_bytes}
use Rattle.shared_lemmas.proofs.Results.{ok_then}
use Rattle.trace_text.specs.Headers.{header_of}
use Rattle.trace_text.proofs.Texts.{header_words, line_of_header}
use Rattle.trace_text.proofs.line.push_header.Goals as goal

pub returns : goal.returns
returns c =
    let old = string_bytes c.args.text.now in
    let h = header_of c.args.header.now in
    ok_then c.write.result c.write.ensures.bytes (λ bytes. bytes
    ∙ ap (λ (n : ℕ). old ++ header_words (decimal n) (decimal h.nest) (decimal h.steps) (decimal h.w0) (decimal h.workers) (codes "\n"))
    c.number-format.ensures
    ∙ ap (λ (l : List ℕ). old ++ l) (sym (line_of_header h)))

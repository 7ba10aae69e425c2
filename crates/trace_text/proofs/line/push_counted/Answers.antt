use Rattle.std.proofs.Common.{ℕ, List, ◌++◌, ap, sym, ◌∙◌}
use Rattle.std.specs.String.{string_bytes}
use Rattle.shared_lemmas.proofs.Results.{ok_then}
use Rattle.trace_text.proofs.Texts.{line_of_counted}
use Rattle.trace_text.proofs.line.push_counted.Goals as goal

pub returns : goal.returns
returns c =
    let old = string_bytes c.args.text.now in
    ok_then c.write.result c.write.ensures.bytes (λ bytes. bytes
    ∙ ap (λ (l : List ℕ). old ++ l) (sym (line_of_counted c.args.worker c.args.path.now.turns.items c.args.faults)))

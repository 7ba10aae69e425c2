use Rattle.std.proofs.Common.{ℕ, List, ◌++◌, ap, sym, ◌∙◌, codes}
use Rattle.std.specs.Fmt.{decimal}
use Rattle.std.specs.String.{string_bytes}
use Rattle.shared_lemmas.proofs.Results.{ok_then}
use Rattle.types.specs.Names.{path_text}
use Rattle.trace_text.proofs.Texts.{line_of_steal, steal_words}
use Rattle.trace_text.proofs.line.push_steal.Goals as goal

pub returns : goal.returns
returns c =
    let old = string_bytes c.args.text.now in
    let path = c.args.path.now.turns.items in
    let worker = c.number-worker.result in
    ok_then c.write.result c.write.ensures.bytes (λ bytes. bytes
    ∙ ap (λ (n : ℕ). old ++ steal_words (decimal n) (path_text path) (decimal worker) (codes "\n")) c.number-from.ensures.same
    ∙ ap (λ (n : ℕ). old ++ steal_words (decimal c.args.from) (path_text path) (decimal n) (codes "\n"))
    c.number-worker.ensures.same
    ∙ ap (λ (l : List ℕ). old ++ l) (sym (line_of_steal c.args.worker c.args.from path)))

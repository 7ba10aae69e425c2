use Rattle.std.proofs.Common.{ℕ, List, ◌++◌, ap, ◌∙◌}
use Rattle.std.specs.Fmt.{decimal, styled_decimal}
use Rattle.std.specs.String.{string_bytes}
use Rattle.shared_lemmas.proofs.Results.{ok_then}
use Rattle.types.specs.Names.{path_text}
use Rattle.trace_text.specs.Table.{right_in}
use Rattle.trace_text.proofs.TableText.{by_worker, right_in_two}
use Rattle.trace_text.proofs.table.push_by_worker.Goals as goal

pub returns : goal.returns
returns c =
    let n = c.number-worker.result in
    let shown = ap (λ f. styled_decimal f n) c.laid_out.ensures ∙ right_in_two n
    ∙ ap (λ (k : ℕ). right_in 2 (decimal k)) c.number-worker.ensures.same in
    ok_then c.write.result c.write.ensures.bytes (λ bytes. bytes
    ∙ ap (λ (l : List ℕ). string_bytes c.args.text.now ++ l)
    (by_worker c.args.worker (styled_decimal c.laid_out.result n) (path_text c.args.path.now.turns.items) shown))

use Rattle.std.proofs.Common.{ap, ◌∙◌}
use Rattle.std.specs.Fmt.{styled_decimal}
use Rattle.std.specs.String.{string_bytes}
use Rattle.shared_lemmas.proofs.Results.{ok_then}
use Rattle.events.specs.Events.{event}
use Rattle.trace_text.proofs.TableText.{right_in_eight, row_is}
use Rattle.trace_text.proofs.table.push_row.Goals as goal

pub returns : goal.returns
returns c =
    let n = c.args.number in
    let shown = ap (λ f. styled_decimal f n) c.laid_out.ensures ∙ right_in_eight n in
    ok_then c.push_deed.result c.push_deed.ensures (λ deed.
    row_is n (event c.args.event.now) c.of.result (string_bytes c.args.text.now) (styled_decimal c.laid_out.result n)
    c.in_column-kind.result.now (string_bytes c.write.new.self) (string_bytes c.push_deed.new.text) shown
    c.in_column-kind.ensures c.of.ensures c.in_ok-write.ensures.bytes deed)

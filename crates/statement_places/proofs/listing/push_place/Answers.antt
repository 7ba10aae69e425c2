use Rattle.std.proofs.Common.{◌++◌, ap, ◌∙◌}
use Rattle.std.specs.Fmt.{styled_decimal}
use Rattle.std.specs.String.{string_bytes}
use Rattle.shared_lemmas.proofs.Results.{ok_then}
use Rattle.statement_places.proofs.Margins.{left_padded, margin_padded, right_padded}
use Rattle.statement_places.proofs.listing.push_place.Goals as goal

pub returns : goal.returns
returns c =
    let p = c.args.place in
    let line = ap (λ f. styled_decimal f p.line) c.laid_out.ensures ∙ right_padded p.line in
    let column = ap (λ f. styled_decimal f p.column) c.laid_out-2.ensures ∙ left_padded p.column in
    ok_then c.write.result c.write.ensures.bytes
    (λ bytes. bytes ∙ ap (λ l. string_bytes c.args.text.now ++ l) (margin_padded p _ _ line column))

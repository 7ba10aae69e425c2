use Rattle.std.proofs.Common.{◌≡◌, ◌++◌, codes, ap, ◌∙◌}
use Rattle.std.specs.Fmt.{decimal}
use Rattle.std.specs.String.{string_bytes}
use Rattle.shared_lemmas.proofs.Results.{ok_then}
use Rattle.syntax.specs.declared.token.Left.TheVariants.{Margin, Ended}
use Rattle.syntax.specs.Spelling.{arrays_then, block_then}
use Rattle.syntax.proofs.ExpressionText.{then_adds}
use Rattle.syntax.proofs.LineText.{wrote, laid_array, arrays_are_lines}
use Rattle.syntax.proofs.canonical.Lines.array.Goals as goal

pub returns-clause-written : goal.returns-clause-written
unfolding arrays_then
returns-clause-written c =
    let old = c.args.self.now in
    let begun = c.begin.new.self in
    let a = c.args.array.now in
    let line : string_bytes c.write.new.self
    ≡ string_bytes begun.text ++ (codes "array " ++ (c.as_str-name.result.now ++ (codes ": " ++
    (c.element_type-element.result.now ++ (codes "[" ++ (decimal a.length ++ codes "];")))))) = c.in_ok-write.ensures.bytes in
    let named = ap (λ l. string_bytes begun.text ++ (codes "array " ++ (l ++ (codes ": " ++ (c.element_type-element.result.now ++
    (codes "[" ++ (decimal a.length ++ codes "];"))))))) c.as_str-name.ensures.value in
    let typed = ap (λ l. string_bytes begun.text ++ (codes "array " ++ (string_bytes a.name ++ (codes ": " ++ (l ++ (codes "[" ++
    (decimal a.length ++ codes "];"))))))) c.element_type-element.ensures in
    let text = then_adds (string_bytes old.text) _ _ c.in_ok-begin.ensures.text (line ∙ named ∙ typed) in
    ok_then c.end.result c.end.ensures (λ ends rest b r.
    wrote old (record begun { text = c.write.new.self }) Margin Ended _ _ _ old.depth old.label text c.in_ok-begin.ensures.depth
    c.in_ok-begin.ensures.label (laid_array old.depth old.label (string_bytes a.name) a.element a.length (arrays_then rest
    (block_then b r)))
    ∙ wrote (record begun { text = c.write.new.self }) c.end.new.self Ended Margin _ _ (codes "\n")
    begun.depth begun.label ends.text ends.depth ends.label (arrays_are_lines rest b r begun.depth begun.label))

use Rattle.syntax.proofs.LineText.{begins_text}
use Rattle.syntax.proofs.canonical.listing.Goals as goal

pub returns : goal.returns
returns c = begins_text c.new-lines.result _ _ c.new-lines.ensures.text c.new-lines.ensures.depth c.new-lines.ensures.label
    c.in_ok-program.ensures

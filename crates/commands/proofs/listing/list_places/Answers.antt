use Rattle.std.proofs.Common.{List, ap, ◌∙◌}
use Rattle.std.proofs.lemmas.Result.{IfOk-at_ok}
use Rattle.std.specs.Str.Lines.{lines}
use Rattle.syntax.specs.declared.place.TextPlace.{TextPlace}
use Rattle.syntax_tree.specs.Tree.{program as tree_of}
use Rattle.statement_places.specs.Lines.{placed_lines}
use Rattle.command_line.specs.declared.request.Command.TheVariants.{Places}
use Rattle.commands.proofs.Answering.{places_answer, shown}
use Rattle.commands.proofs.listing.list_places.Goals as goal

pub returns : goal.returns
returns g c s held =
    let text = c.args.text.now in
    let program = tree_of c.in_ok-program.program in
    let spelled = c.in_ok-program.ensures.spelled in
    shown Places s held text _ _ c.answer.result c.as_str-2.result.now 0
    (places_answer text c.as_str-2.result.now c.as_str.result.now program c.in_ok-places.places.items spelled
    (IfOk-at_ok _ c.in_ok-places.ensures.value (c.statement_places.ensures.begun program spelled))
    (c.as_str-2.ensures.value ∙ IfOk-at_ok _ c.in_ok-placed.ensures.value c.placed_listing.ensures
    ∙ ap (λ (l : List TextPlace). placed_lines l (lines c.as_str.result.now)) c.deref.ensures.value)
    (c.as_str.ensures.value ∙ IfOk-at_ok _ c.in_ok-listing.ensures.value c.listing.ensures))
    c.answer.ensures.text c.answer.ensures.status c.answer.ensures.failure

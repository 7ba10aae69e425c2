use Rattle.std.proofs.Common.{◌≡◌, drop}
use Rattle.serde_json.specs.View.{items_view}
use Rattle.types.specs.Inputs.{numbers_in}
use Rattle.types.proofs.InputLemmas.{behind}
use Rattle.types.proofs.input.numbers_of.Given as goal

-- the numbers so far, and what remains of the list
abbrev pub invariant-loop-element : goal.invariant-loop-element
invariant-loop-element l =
    numbers_in l.array.element (items_view l.elements)
    ≡ behind l.numbers.items (numbers_in l.array.element (items_view (drop l.element-index l.elements)))

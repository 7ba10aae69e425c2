use Rattle.std.proofs.Common.{◌≡◌, [], ◌∷◌, Some, sym, ap, ◌∙◌, rules}
use Rattle.std.specs.Prelude.{option_map}
use Rattle.std.proofs.lemmas.List.{nil_from_length}
use Rattle.files.specs.Choices.{read_of_file, reading_of}
use Rattle.files.proofs.ReadChoices.{file_read_on}
use Rattle.files.proofs.choices.filed.Goals as goal

pub bytes-preserved : goal.bytes-preserved
bytes-preserved c =
    let r = reading_of c.bytes.reading in
    let split : c.bytes.left.now ≡ c.in-Some.byte.now ∷ c.in-Some.behind.now = search rules in
    let step = sym (ap (option_map reading_of) c.in-Some-2.is) ∙ c.in_ok-next.ensures in
    sym (file_read_on r (reading_of c.in-Some-2.next) c.in-Some.byte.now c.in-Some.behind.now (sym step))
    ∙ ap (read_of_file r) (sym split) ∙ c.bytes.invariant

pub returns : goal.returns
returns c =
    let r = reading_of c.bytes.reading in
    let none : c.bytes.left.now ≡ [] = nil_from_length c.bytes.left.now c.in_default.ensures.cases in
    ap Some c.in_ok-numbers.ensures ∙ ap (read_of_file r) (sym none) ∙ c.bytes.invariant

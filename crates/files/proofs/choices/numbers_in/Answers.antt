use Rattle.std.proofs.Common.{◌≡◌, [], ◌∷◌, sym, ap, ◌∙◌, rules}
use Rattle.std.specs.Prelude.{option_map}
use Rattle.std.proofs.lemmas.Result.{IfOk-weaker}
use Rattle.std.proofs.lemmas.List.{nil_from_length}
use Rattle.files.specs.Choices.{read_from, reading_of}
use Rattle.files.proofs.ReadChoices.{read_on}
use Rattle.files.proofs.choices.numbers_in.Goals as goal

pub bytes-preserved : goal.bytes-preserved
bytes-preserved c =
    let r = reading_of c.bytes.reading in
    let split : c.bytes.left.now ≡ c.in-Some.byte.now ∷ c.in-Some.behind.now = search rules in
    let step = sym (ap (option_map reading_of) c.in-Some-2.is) ∙ c.in_ok-next.ensures in
    sym (read_on r (reading_of c.in-Some-2.next) c.in-Some.byte.now c.in-Some.behind.now (sym step))
    ∙ ap (read_from r) (sym split) ∙ c.bytes.invariant

pub returns : goal.returns
returns c =
    let r = reading_of c.bytes.reading in
    let none : c.bytes.left.now ≡ [] = nil_from_length c.bytes.left.now c.in_default.ensures.cases in
    IfOk-weaker c.numbers_read.result _ _ (λ x h. h ∙ ap (read_from r) (sym none) ∙ c.bytes.invariant) c.numbers_read.ensures

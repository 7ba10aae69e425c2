use Rattle.std.proofs.Common.{◌∷◌, [], ◌∙◌, ap}
use Rattle.syntax.specs.Token.{token}
use Rattle.layout.proofs.LengthLemmas.{name_takes, word_takes, number_takes, mark_takes}
use Rattle.layout.proofs.pieces.token_length.Goals as goal

pub returns-in-Name : goal.returns-in-Name
returns-in-Name c p behind begins e =
    c.name_length.ensures ∙ name_takes c.args.text.now behind _ p begins (e ∙ ap (λ t. token t ∷ []) c.in-Name.is)

pub returns-in-Word : goal.returns-in-Word
returns-in-Word c p behind begins e =
    c.name_length-in-Word.ensures ∙ word_takes c.args.text.now behind _ p begins (e ∙ ap (λ t. token t ∷ []) c.in-Word.is)

pub returns-in-Number : goal.returns-in-Number
returns-in-Number c p behind begins e =
    c.digits_length.ensures ∙ number_takes c.args.text.now behind _ p begins (e ∙ ap (λ t. token t ∷ []) c.in-Number.is)

pub returns-in-Mark : goal.returns-in-Mark
returns-in-Mark c p behind begins e =
    c.mark_length.ensures ∙ mark_takes c.args.text.now behind _ p begins (e ∙ ap (λ t. token t ∷ []) c.in-Mark.is)

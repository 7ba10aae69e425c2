use Rattle.std.proofs.Common.{List, ℕ, ◌∙◌, subst}
use Rattle.std.specs.Prelude.{IfErr, IfOk}
use Rattle.types.specs.Translation.{input as lists_of}
use Rattle.types.specs.Typed.{code_of}
use Rattle.files.specs.Held.{HasMistakeIn, SaysText}
use Rattle.files.proofs.input_file.lists_in.Goals as goal

pub returns-in-Ok-clause-says : goal.returns-in-Ok-clause-says
returns-in-Ok-clause-says c =
    subst (λ (t : List ℕ). IfOk c.read.result (λ i. SaysText t (code_of c.args.typed.now).arrays (lists_of i)))
    (c.as_str.ensures.value ∙ c.in-Ok.ensures) c.read.ensures.says

pub returns-in-Ok-clause-why : goal.returns-in-Ok-clause-why
returns-in-Ok-clause-why c =
    subst (λ (t : List ℕ). IfErr c.read.result (HasMistakeIn t (code_of c.args.typed.now).arrays))
    (c.as_str.ensures.value ∙ c.in-Ok.ensures) c.read.ensures.why

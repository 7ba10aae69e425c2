use Rattle.std.proofs.Common.{◌∷◌, [], ◌++◌, List, ap, ◌∙◌, map}
use Rattle.std.specs.Prelude.{ℕ}
use Rattle.types.specs.Translation.{input}
use Rattle.types.specs.Typed.{code_of}
use Rattle.json_answers.proofs.Ends.{first_search}
use Rattle.json_answers.proofs.all_ends.start.Goals as goal

pub returns : goal.returns
returns c =
    let s = c.args.searched in
    first_search (code_of s.typed.now) (input s.input.now) s.places.now _ _
    (ap (map (λ v. v.items)) (c.in_ok-push.ensures.items ∙ ap (λ vs. vs ++ c.new.result ∷ []) c.new-waiting.ensures.items)
    ∙ ap (λ (l : List ℕ). l ∷ []) c.new.ensures.items)
    c.new-2.ensures.items

use Rattle.std.proofs.Common.{ap, ◌∙◌, ◌++◌, codes, List, [], ℕ}
use Rattle.files.specs.Held.{member_of, object_text}
use Rattle.files.proofs.input_file.bytes_text.Goals as goal

pub returns : goal.returns
returns c =
    let name = c.args.name.now in let given = c.as_str.result.now in
    c.in_ok-push_str.ensures.bytes
    ∙ ap (λ (t : List ℕ). t ++ codes "}") (c.in_ok-push_member.ensures
    ∙ ap (λ (t : List ℕ). t ++ ([] ++ member_of name given)) c.in_ok-text.ensures.ok)
    ∙ ap (λ (e : List ℕ). object_text (member_of name e)) (c.as_str.ensures.value ∙ c.in_ok-elements.ensures)

use Rattle.std.proofs.Common.{ap, ◌∙◌, ◌++◌, List, ℕ}
use Rattle.shared_lemmas.proofs.Results.{ok_then}
use Rattle.std.specs.String.{string_bytes}
use Rattle.files.proofs.Members.{member_in_parts, member_without_equals}
use Rattle.files.proofs.input_file.push_list.Goals as goal

pub returns-in-Some : goal.returns-in-Some
returns-in-Some c =
    let old = string_bytes c.args.text.now in let before = c.args.before.now in
    ok_then c.push_member.result c.push_member.ensures (λ added. added
    ∙ ap (λ (m : List ℕ). old ++ (before ++ m)) (member_in_parts c.args.list.now c.in-Some.name c.in-Some.elements c.in-Some.ensures.cases))

pub returns-in-None : goal.returns-in-None
returns-in-None c =
    let old = string_bytes c.args.text.now in let before = c.args.before.now in
    ok_then c.push_member-in-None.result c.push_member-in-None.ensures (λ added. added
    ∙ ap (λ (m : List ℕ). old ++ (before ++ m)) (member_without_equals c.args.list.now c.in-None.ensures.cases))

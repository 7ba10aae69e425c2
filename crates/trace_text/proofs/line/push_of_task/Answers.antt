use Rattle.std.proofs.Common.{ℕ, List, ◌++◌, ap, sym, ◌∙◌, codes}
use Rattle.std.specs.String.{string_bytes}
use Rattle.shared_lemmas.proofs.Results.{ok_then}
use Rattle.types.specs.Names.{path_text}
use Rattle.trace_text.proofs.Texts.{line_of_task, task_words}
use Rattle.trace_text.proofs.line.push_of_task.Goals as goal

pub returns : goal.returns
returns c =
    let old = string_bytes c.args.text.now in
    let path = c.args.path.now.turns.items in
    ok_then c.write.result c.write.ensures.bytes (λ bytes. bytes
    ∙ ap (λ (l : List ℕ). old ++ task_words l (path_text path) (codes "\n")) c.name-name.ensures
    ∙ ap (λ (l : List ℕ). old ++ l) (sym (line_of_task c.args.kind path)))

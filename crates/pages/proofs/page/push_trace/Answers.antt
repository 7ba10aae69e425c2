use Rattle.std.proofs.Common.{◌≡◌, ◌++◌, ◌∙◌, ℕ, List, OnOk, ap, append_assoc, codes, subst}
use Rattle.std.specs.List.{flat_map}
use Rattle.std.specs.String.{string_bytes}
use Rattle.pages.specs.Pages.{indented}
use Rattle.pages.proofs.page.push_trace.Goals as goal

pub returns : goal.returns
returns c =
    let lines = flat_map indented c.args.lines.now in
    subst (λ (bytes : List ℕ). OnOk c.push_lines.result (string_bytes c.push_lines.new.text ≡ bytes))
    (ap (λ (bytes : List ℕ). bytes ++ lines) c.in_ok-push_str.ensures.bytes
    ∙ append_assoc (string_bytes c.args.text.now) (codes "\n  program.trace:\n") lines)
    c.push_lines.ensures

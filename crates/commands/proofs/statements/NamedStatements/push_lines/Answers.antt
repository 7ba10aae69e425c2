use Rattle.std.proofs.Common.{◌≡◌, ◌++◌, List, ℕ, OnOk, ap, ◌∙◌, map, string_bytes, subst}
use Rattle.commands.specs.Statements.{lines_around}
use Rattle.commands.proofs.Named.{shown}
use Rattle.commands.proofs.statements.NamedStatements.push_lines.Goals as goal

pub returns : goal.returns
returns c =
    subst
    (λ (l : List (List ℕ)). OnOk c.push_each.result
    (string_bytes c.push_each.new.told ≡ string_bytes c.args.told.now ++ lines_around c.args.self.now 0 l))
    (ap (map shown) c.deref.ensures.value ∙ c.in_ok-lines.ensures) c.push_each.ensures

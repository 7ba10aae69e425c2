use Rattle.std.proofs.Common.{◌∷◌, true, false, sym, ap, ◌∙◌}
use Rattle.std.specs.String.{string_eq}
use Rattle.indexmap.proofs.CallerLemmas.{insert_entry-new}
use Rattle.types.specs.Resolving.{meant_by}
use Rattle.types.proofs.NamesInScope.{names_in, names_in-push, found_there, absent_key, declared_twice, declared_once}
use Rattle.types.proofs.check.names.Names.declare.Goals as goal

pub returns-then-contains_key-clause-error : goal.returns-then-contains_key-clause-error
returns-then-contains_key-clause-error c =
    declared_twice c.args.label _
    (found_there c.args.name.now c.args.self.now.meanings.entries c.args.self.now.apart true
    (sym c.contains_key.ensures ∙ c.if-contains_key.true))

pub returns-clause-right : goal.returns-clause-right
returns-clause-right c =
    declared_once c.args.label _
    (found_there c.args.name.now c.args.self.now.meanings.entries c.args.self.now.apart false
    (sym c.contains_key.ensures ∙ c.if-contains_key.false))

pub returns-clause-names : goal.returns-clause-names
returns-clause-names c =
    let m = c.args.self.now.meanings in
    let key = c.in_ok-name.name in
    let none = absent_key c.args.name.now m.entries c.args.self.now.apart key c.in_ok-name.ensures.cases
    (sym c.contains_key.ensures ∙ c.if-contains_key.false) in
    ap names_in (c.in_ok-insert.ensures.entries ∙ insert_entry-new string_eq m key c.args.meaning none)
    ∙ names_in-push m.entries (key, c.args.meaning)
    ∙ ap (λ b. (b, meant_by c.args.meaning) ∷ names_in m.entries) c.in_ok-name.ensures.cases

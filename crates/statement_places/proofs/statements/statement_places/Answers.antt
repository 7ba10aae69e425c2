use Rattle.std.proofs.Common.{ℕ, List, ◌∙◌, subst, false}
use Rattle.std.specs.Str.{chars}
use Rattle.syntax.specs.declared.token.Spanned.{Spanned}
use Rattle.syntax.specs.Lexical.{AreTokensOf}
use Rattle.syntax.specs.Token.{plain}
use Rattle.statement_places.specs.Begun.{AreBegun}
use Rattle.statement_places.specs.Starts.{token_starts}
use Rattle.statement_places.proofs.BegunLemmas.{begun_starts}
use Rattle.statement_places.proofs.statements.statement_places.Goals as goal

pub returns-clause-begun : goal.returns-clause-begun
returns-clause-begun c p spelled =
    let found = c.in_ok-tokens.tokens.items in
    let places = c.in_ok-places.places.items in
    let value = c.in_ok-characters.ensures.value in
    begun_starts (chars c.args.text.now) (plain found) places p
    (subst (λ (l : List ℕ). AreTokensOf l (plain found)) (c.deref.ensures.value ∙ value) c.in_ok-tokens.ensures.read) spelled
    (subst (λ (l : List ℕ). AreBegun l (token_starts false (plain found)) places) (c.deref-2.ensures.value ∙ value)
    (subst (λ (l : List Spanned). AreBegun c.deref-2.result.now (token_starts false (plain l)) places) c.deref-3.ensures.value
    c.in_ok-places.ensures))

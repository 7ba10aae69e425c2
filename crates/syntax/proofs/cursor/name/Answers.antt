use Rattle.std.proofs.Common.{◌≡◌, ◌∷◌, Result, Ok, Err, IfErr, rules}
use Rattle.std.specs.String.{string_bytes}
use Rattle.syntax.specs.Token.{NameToken, plain}
use Rattle.syntax.proofs.cursor.name.Goals as goal

if_err : {T E : Type 0} (r : Result T E) (P : E → Type 0) → ((e : E) → P e) → IfErr r P
if_err (Ok v) P all = tt
if_err (Err e) P all = all e

pub returns-in_err-clone-in-Name-clause-memory : goal.returns-in_err-clone-in-Name-clause-memory
returns-in_err-clone-in-Name-clause-memory c =
    let found : plain c.args.tokens.now ≡ NameToken (string_bytes c.in-Name.name) ∷ plain c.in-Some.rest.now = search rules in
    if_err c.from_residual.result _ (λ e memory. (string_bytes c.in-Name.name, plain c.in-Some.rest.now, found))

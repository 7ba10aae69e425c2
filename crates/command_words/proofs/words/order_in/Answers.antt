use Rattle.std.proofs.Common.{ap, sym, subst, ◌∙◌}
use Rattle.command_words.specs.Orders.{AsText, Orders}
use Rattle.command_words.proofs.Orders.{no_words, none_asked}
use Rattle.command_words.proofs.words.order_in.Goals as goal

pub returns-in_err-asked_by_none-in-empty : goal.returns-in_err-asked_by_none-in-empty
returns-in_err-asked_by_none-in-empty c o orders =
    let asked = none_asked o (subst (λ ws. Orders ws o) (no_words c.args.words.now c.in-empty.len_below) orders) in
    absurd (c.in_err-asked_by_none-in-empty.ensures asked.a asked.asks)

pub returns-in_ok-asked_by_none-in-empty : goal.returns-in_ok-asked_by_none-in-empty
returns-in_ok-asked_by_none-in-empty c o orders =
    let asked = none_asked o (subst (λ ws. Orders ws o) (no_words c.args.words.now c.in-empty.len_below) orders) in
    ap AsText (c.in_ok-asked_by_none-in-empty.ensures asked.a asked.asks) ∙ sym asked.is

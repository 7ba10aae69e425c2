use Rattle.std.proofs.Common.{◌≡◌, ◌∙◌, ap, arith, is_some, subst}
use Rattle.blocks.specs.Held.{Held, Map, as_owned, over, owned}
use Rattle.holdings.specs.Copied.{CopiesSplit, as_count, paste_copies}
use Rattle.holdings.specs.Holdings.{held}
use Rattle.holdings.proofs.holdings.Holdings.paste.Goals as goal

pub returns-clause-pasted : goal.returns-clause-pasted
returns-clause-pasted c =
    c.paste_all-copied.ensures.pasted ∙ ap (over (as_owned (owned (held c.args.other)))) c.make_room_for.ensures.same

pub returns-clause-copied : goal.returns-clause-copied
returns-clause-copied c = λ lengths ws within of.
    let copied = subst (λ (m : Map Held). CopiesSplit m (λ q. is_some (owned (held c.args.other) q)) 0 c.paste_all-copied.result)
    c.make_room_for.ensures.same c.paste_all-copied.ensures.copied in
    omega (arith, copied lengths ws within of, c.saturating_add-self.ensures)

pub returns-clause-counted : goal.returns-clause-counted
returns-clause-counted c = λ n within.
    let counted = subst (λ (m : Map Held). as_count c.paste_all-copied.result ≡ as_count (paste_copies m (owned (held c.args.other)) n))
    c.make_room_for.ensures.same (c.paste_all-copied.ensures.counted n within) in
    omega (arith, counted, c.saturating_add-self.ensures)

use Rattle.std.proofs.Common.{◌∙◌, List, ap, map}
use Rattle.sections.specs.Covers.{has}
use Rattle.sections.specs.Translation.{window}
use Rattle.holdings.specs.Held.{numbers, only, put_all}
use Rattle.holdings.specs.Holdings.{held}
use Rattle.gather.proofs.Pasting.{given-strayed}
use Rattle.gather.proofs.filling.Filling.take_strays.Goals as goal

pub returns-clause-taken : goal.returns-clause-taken
returns-clause-taken c =
    let f = c.args.self.now in
    let child = c.args.child.now in
    given-strayed f c.args.windows.items child c.put_all.new.self c.append.new.self
    (c.in_ok-put_all.ensures.written
    ∙ ap (λ (ws : List _). put_all (only (has (map window ws)) (numbers (held child))) (held f.so_far.holdings)) c.deref-2.ensures.value)
    c.in_ok-append.ensures.items

use Rattle.std.proofs.Common.{◌≡◌, ◌∙◌, ap, map, None}
use Rattle.sections.specs.Covers.{has}
use Rattle.sections.specs.Translation.{window as window_of}
use Rattle.blocks.specs.Held.{as_shared, numbers}
use Rattle.holdings.specs.Holdings.{held}
use Rattle.holdings.specs.Pieces.{taking}
use Rattle.holdings.specs.Rows.{held_in}
use Rattle.holdings.proofs.MapLemmas.{shared-only, there-numbers}
use Rattle.holdings.proofs.holdings.Holdings.share.Goals as goal

pub share_all-requires : goal.share_all-requires
share_all-requires c = c.has_all.ensures.0 c.if-not-has_all.false

pub returns-clause-shared : goal.returns-clause-shared
returns-clause-shared c =
    let set = has (map window_of c.args.windows.now) in
    let none : held_in c.new-rows.result ≡ (λ q. None) = λ t q. c.new-rows.ensures.holds q t in
    c.in_ok-share_all.ensures
    ∙ ap (taking set (as_shared (numbers (held c.args.self.now)))) none
    ∙ shared-only set (numbers (held c.args.self.now))

pub returns-clause-held : goal.returns-clause-held
returns-clause-held c =
    there-numbers (has (map window_of c.args.windows.now)) (held c.args.self.now) (c.has_all.ensures.0 c.if-not-has_all.false)

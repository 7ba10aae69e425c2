use Rattle.std.proofs.Common.{map, List, subst, refl}
use Rattle.std.proofs.lemmas.List.{take_all}
use Rattle.sections.specs.Covers.{has}
use Rattle.sections.specs.Translation.{window as window_of}
use Rattle.blocks.specs.Held.{IsThere}
use Rattle.holdings.specs.Rows.{held_in}
use Rattle.holdings.specs.Wanted.{wanted}
use Rattle.holdings.proofs.WindowLemmas.{there-item, there-more}
use Rattle.holdings.proofs.rows.BlockRows.has_all.Goals as goal

pub returns-then-not-has_window : goal.returns-then-not-has_window
returns-then-not-has_window c = (
  λ t. absurd (cc),
  λ there. absurd (let has = c.has_window.ensures.1 (there-item c.args.windows.now c.loop-window.window-index c.window-item.result
      (wanted c.args.want (held_in c.args.self.now)) c.loop-window-test.true c.window-item.is there) in cc),
)

pub loop-window-preserved : goal.loop-window-preserved
loop-window-preserved c =
    there-more c.args.windows.now c.loop-window.window-index c.window-item.result (wanted c.args.want (held_in c.args.self.now))
    c.loop-window-test.true c.window-item.is c.loop-window.invariant (c.has_window.ensures.0 c.if-not-has_window.false)

pub returns : goal.returns
returns c =
    let all = take_all c.loop-window.window-index c.args.windows.now c.loop-window-test.false in (
      λ t. subst (λ (ws : List _). IsThere (has (map window_of ws)) (wanted c.args.want (held_in c.args.self.now))) all c.loop-window.invariant,
      λ there. refl,
    )

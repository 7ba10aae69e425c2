use Rattle.std.proofs.Common.{◌+◌, List, ap, ◌∙◌, map, take}
use Rattle.std.proofs.lemmas.List.{take_all}
use Rattle.sections.specs.Covers.{has, is_in}
use Rattle.sections.specs.Translation.{window as window_of}
use Rattle.blocks.specs.Held.{as_shared, numbers}
use Rattle.holdings.specs.Pieces.{taking}
use Rattle.holdings.specs.Rows.{held_in}
use Rattle.holdings.proofs.PieceLemmas.{taking-both}
use Rattle.holdings.proofs.WindowLemmas.{has-take_more, there-item}
use Rattle.holdings.proofs.rows.BlockRows.share_all.Goals as goal

pub share_window-requires : goal.share_window-requires
share_window-requires c =
    there-item c.args.windows.now c.loop-window.window-index c.window-item.result (numbers (held_in c.args.source.now))
    c.loop-window-test.true c.window-item.is c.requires

pub loop-window-preserved : goal.loop-window-preserved
loop-window-preserved c =
    let from = as_shared (numbers (held_in c.args.source.now)) in
    let ws = c.args.windows.now in
    let i = c.loop-window.window-index in
    let w = window_of c.window-item.result in
    c.in_ok-share_window.ensures
    ∙ ap (taking (is_in w) from) c.loop-window.invariant
    ∙ taking-both (has (map window_of (take i ws))) (is_in w) (has (map window_of (take (i + 1) ws))) from (held_in c.args.self.now)
    (λ q. has-take_more ws i c.window-item.result q c.loop-window-test.true c.window-item.is)

pub returns : goal.returns
returns c =
    let from = as_shared (numbers (held_in c.args.source.now)) in
    let all = take_all c.loop-window.window-index c.args.windows.now c.loop-window-test.false in
    c.loop-window.invariant
    ∙ ap (λ (ws : List _). taking (has (map window_of ws)) from (held_in c.args.self.now)) all

use Rattle.std.proofs.Common.{◌≡◌, ◌≤◌, ◌+◌, List, arith, subst, sym, ap, ◌∙◌, map}
use Rattle.std.proofs.lemmas.List.{take_all}
use Rattle.std.specs.Prelude.{◌||◌}
use Rattle.sections.specs.Covers.{is_in}
use Rattle.sections.specs.Translation.{window as window_of}
use Rattle.blocks.specs.Held.{Held, IsThere, Map, only, owned}
use Rattle.holdings.specs.Carvings.{copied_places}
use Rattle.holdings.specs.Copied.{LiesWithin, as_count, carve_copies, copied_from, split_in}
use Rattle.holdings.specs.Rows.{held_in}
use Rattle.holdings.proofs.CoverLemmas.{copies-split, counts-cover, counts-window, cover-clear, split-more}
use Rattle.holdings.proofs.WindowLemmas.{has-take_more, there-item}
use Rattle.holdings.proofs.rows.BlockRows.cut_all.Goals as goal

pub cut_window-requires-clause-owned : goal.cut_window-requires-clause-owned
cut_window-requires-clause-owned c =
    subst (λ (m : Map Held). IsThere (is_in (window_of c.window-item.result)) (owned m)) (sym c.loop-window.invariant.0)
    (there-item c.args.windows.now c.loop-window.window-index c.window-item.result (owned (held_in c.args.self.now))
    c.loop-window-test.true c.window-item.is c.requires.owned)

pub cut_window-requires-clause-clear : goal.cut_window-requires-clause-clear
cut_window-requires-clause-clear c = λ q e.
    cover-clear c.args.windows.now c.loop-window.window-index c.window-item.result c.requires.cover c.loop-window-test.true
    c.window-item.is q (c.loop-window.invariant.3 q ∙ e)

pub loop-window-preserved : goal.loop-window-preserved
loop-window-preserved c =
    let inv = c.loop-window.invariant in
    let e = c.in_ok-cut_window.ensures in
    let ws = c.args.windows.now in
    let i = c.loop-window.window-index in
    let w = c.window-item.result in
    let lt = c.loop-window-test.true in
    let first = held_in c.args.self.now in
    let is = c.window-item.is in (
      e.same ∙ inv.0,
      e.cut,
      e.taken ∙ ap (only (copied_places c.cut_window.new.carvings.list.items)) inv.0,
      λ q. has-take_more ws i w q lt is ∙ ap (λ b. b || is_in (window_of w) q) (inv.3 q) ∙ sym (e.places q),
      λ lengths within.
          let here = e.copied lengths (subst (LiesWithin lengths) (sym inv.0) within) in
          omega (arith, here, inv.4 lengths within, split-more lengths ws i w lt is),
      counts-window (copied_from first) ws i w c.loop-window.carvings.copied c.cut_window.new.carvings.copied lt is inv.5
          (e.counted ∙ ap (λ (m : Map Held). as_count (c.loop-window.carvings.copied + copied_from m (window_of w))) inv.0),
    )

pub returns-clause-copied : goal.returns-clause-copied
returns-clause-copied c =
    let ws = c.args.windows.now in
    let n = c.loop-window.carvings.copied in
    let all = take_all c.loop-window.window-index ws c.loop-window-test.false in
    copies-split (held_in c.args.self.now) ws n c.requires.cover
    (λ lengths within. subst (λ (l : List _). n ≤ split_in lengths (map window_of l)) all (c.loop-window.invariant.4 lengths within))

pub returns-clause-counted : goal.returns-clause-counted
returns-clause-counted c =
    let ws = c.args.windows.now in
    let first = held_in c.args.self.now in
    let n = c.loop-window.carvings.copied in
    let all = take_all c.loop-window.window-index ws c.loop-window-test.false in
    counts-cover first ws n c.requires.cover
    (subst (λ (l : List _). as_count n ≡ as_count (carve_copies first (map window_of l))) all c.loop-window.invariant.5)

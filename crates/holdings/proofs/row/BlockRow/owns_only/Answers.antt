use Rattle.std.proofs.Common.{refl, arith, map}
use Rattle.sections.specs.Covers.{has}
use Rattle.sections.specs.Translation.{window as window_of}
use Rattle.holdings.specs.Rows.{StandsIn}
use Rattle.holdings.proofs.JustLemmas.{owned_of, stands-none}
use Rattle.holdings.proofs.RoomLemmas.{each_block-begun, each_block-done, each_block-item, each_block-more}
use Rattle.holdings.proofs.WritingLemmas.{item_at, no_item_at}
use Rattle.holdings.proofs.row.BlockRow.owns_only.Goals as goal

pub loop-at-init : goal.loop-at-init
loop-at-init c =
    let set = has (map window_of c.args.windows.now) in
    each_block-begun (λ j o. StandsIn set c.args.array j (owned_of o)) (stands-none set c.args.array) c.args.self.now

pub owns_only-requires : goal.owns_only-requires
owns_only-requires c =
    let at = item_at c.deref-block-items.ensures.value c.loop-at-test.true c.block-item.is in
    let low = at.0 in
    let within = c.args.self.now.within in
    omega (arith, low, within)

pub returns-then-not-owns_only : goal.returns-then-not-owns_only
returns-then-not-owns_only c =
    let set = has (map window_of c.args.windows.now) in
    let at = item_at c.deref-block-items.ensures.value c.loop-at-test.true c.block-item.is in (
      λ t. absurd (cc),
      λ all. absurd (let e = c.owns_only.ensures.1 (each_block-item (λ j o. StandsIn set c.args.array j (owned_of o))
          (stands-none set c.args.array) c.args.self.now _ _ at.0 at.1 all) in cc),
    )

pub loop-at-preserved : goal.loop-at-preserved
loop-at-preserved c =
    let set = has (map window_of c.args.windows.now) in
    let at = item_at c.deref-block-items.ensures.value c.loop-at-test.true c.block-item.is in
    each_block-more (λ j o. StandsIn set c.args.array j (owned_of o)) (stands-none set c.args.array) c.args.self.now _ _ at.0 at.1
    c.loop-at.invariant (c.owns_only.ensures.0 c.if-not-owns_only.false)

pub returns : goal.returns
returns c =
    let set = has (map window_of c.args.windows.now) in
    let all = no_item_at c.deref-block-items.ensures.value c.loop-at-test.false in (
      λ t. each_block-done (λ j o. StandsIn set c.args.array j (owned_of o)) (stands-none set c.args.array) c.args.self.now c.loop-at.at all
          c.loop-at.invariant,
      λ h. refl,
    )

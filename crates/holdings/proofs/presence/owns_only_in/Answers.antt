use Rattle.std.proofs.Common.{refl, ◌∙◌, sym}
use Rattle.holdings.proofs.JustLemmas.{block_stands, offset_free, offset_had, offset_stands, stands_at}
use Rattle.holdings.proofs.RoomLemmas.{so_far-more}
use Rattle.holdings.proofs.presence.owns_only_in.Goals.{else-owns-via-then-owns+else-not-have, else-owns-via-else-owns}
use Rattle.holdings.proofs.presence.owns_only_in.Goals as goal

pub returns-then-have : goal.returns-then-have
returns-then-have c = (
  λ t. block_stands c.args.array c.args.number c.args.windows.now c.args.block.now c.start-low.result c.end-high.result c.start-low.ensures.before
      c.end-high.ensures.behind (sym c.have.ensures ∙ c.if-have.true),
  λ h. refl,
)

pub returns-then-not-have : goal.returns-then-not-have
returns-then-not-have c =
    let k = c.loop-offset.offset in (
      λ t. absurd (cc),
      λ stands. absurd (let had = offset_had c.args.array c.args.number c.args.windows.now c.args.block.now k stands
          (sym c.owns.ensures ∙ c.if-owns.true) in
          let none = sym c.have-then-owns.ensures ∙ c.if-not-have.true in cc),
    )

pub loop-offset-preserved : goal.loop-offset-preserved
loop-offset-preserved c =
    let a = c.args.array in
    let n = c.args.number in
    let ws = c.args.windows.now in
    let b = c.args.block.now in
    let k = c.loop-offset.offset in
    so_far-more (stands_at a n ws b) k c.loop-offset.invariant
    (elim c.else-owns.branch [
      | else-owns-via-then-owns+else-not-have w ↦ offset_stands a n ws b k (sym w.have-then-owns.ensures ∙ w.if-not-have.false)
      | else-owns-via-else-owns w ↦ offset_free a n ws b k (sym c.owns.ensures ∙ w.if-owns.false)
    ])

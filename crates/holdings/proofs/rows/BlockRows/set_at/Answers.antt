use Rattle.std.proofs.Common.{◌∙◌, Option, IsSome, Some, ap₂, subst, sym, w64, of_z, to_z}
use Rattle.std.proofs.lemmas.Bool.{OnFalse_at, OnFalse_from, OnTrue_at, OnTrue_from}
use Rattle.std.specs.Bool.{OnTrue}
use Rattle.std.specs.Prelude.{◌&&◌, nat_eq, if◌then◌else◌}
use Rattle.blocks.specs.Held.{Held, Owned, owned_number}
use Rattle.holdings.specs.Reach.{place_at}
use Rattle.holdings.specs.Rows.{block_in, held_of}
use Rattle.holdings.proofs.ReachLemmas.{lie-set, place-block, place-held, place-offset, within-list}
use Rattle.holdings.proofs.WritingLemmas.{rows-alike, rows-put}
use Rattle.holdings.proofs.rows.BlockRows.set_at.Goals as goal

pub returns-clause-written : goal.returns-clause-written
returns-clause-written c =
    let rs = c.args.self.now.list.items in let a = c.args.array in let r = c.index_mut-row.result.now in
    let lt = within-list rs a c.requires.row c.requires.there in
    let v = to_z w64 (of_z w64 c.args.value) in
    OnTrue_from c.set_at.result _ (λ yes.
    rows-put rs (place_at rs a c.args.at) r c.set_at.new.self c.args.value lt c.index_mut-row.ensures.value c.ranges.value
    (λ b k. OnTrue_at yes c.set_at.ensures.written b k
    ∙ ap₂ (λ m o. if nat_eq b m && nat_eq o k then Some (Owned v) else held_of (block_in r b) k)
    (sym (place-block rs a r lt c.index_mut-row.ensures.value c.args.at))
    (sym (place-offset rs a r lt c.index_mut-row.ensures.value c.args.at))))

pub returns-clause-owned : goal.returns-clause-owned
returns-clause-owned c =
    let rs = c.args.self.now.list.items in let a = c.args.array in let r = c.index_mut-row.result.now in
    let lt = within-list rs a c.requires.row c.requires.there in
    subst (λ (h : Option Held). OnTrue c.set_at.result (IsSome (owned_number h)))
    (sym (place-held rs a r lt c.index_mut-row.ensures.value c.args.at)) c.set_at.ensures.owned

pub returns-clause-same : goal.returns-clause-same
returns-clause-same c =
    let rs = c.args.self.now.list.items in let a = c.args.array in
    OnFalse_from c.set_at.result _ (λ no.
    rows-alike rs a c.index_mut-row.result.now c.set_at.new.self (within-list rs a c.requires.row c.requires.there)
    c.index_mut-row.ensures.value (OnFalse_at no c.set_at.ensures.same))

pub returns-clause-lie : goal.returns-clause-lie
returns-clause-lie c =
    let rs = c.args.self.now.list.items in let a = c.args.array in
    lie-set rs a c.index_mut-row.result.now (within-list rs a c.requires.row c.requires.there) c.index_mut-row.ensures.value
    c.set_at.new.self c.set_at.ensures.first c.set_at.ensures.length

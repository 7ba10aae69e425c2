use Rattle.std.proofs.Common.{w64}
use Rattle.std.proofs.lemmas.Int.{to_z-of_z}
use Rattle.statement_steps.proofs.Writes.{held_by-with_item, lengths-with_item, array_is_there, place_is_there}
use Rattle.statement_steps.proofs.store.Store.write.Goals as goal

pub returns-clause-written : goal.returns-clause-written
returns-clause-written c =
    let rows = c.args.self.now.arrays.items in
    let row = c.index_mut-contents.result.now in
    let there = array_is_there rows c.args.place.array.number c.args.place.index c.requires in
    let inside = place_is_there rows row c.args.place.array.number c.args.place.index c.requires c.index_mut-contents.ensures.value in
    held_by-with_item rows row c.args.place.array.number c.args.place.index c.args.value _ there
    c.index_mut-contents.ensures.value inside
    (to_z-of_z w64 c.args.value c.ranges.value)

pub returns-clause-shape : goal.returns-clause-shape
returns-clause-shape c =
    lengths-with_item c.args.self.now.arrays.items c.index_mut-contents.result.now c.args.place.array.number c.args.place.index
    _ c.index_mut-contents.ensures.value

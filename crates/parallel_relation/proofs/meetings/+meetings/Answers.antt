use Rattle.std.proofs.Common.{◌≡◌, ◌++◌, ◌<◌, OnOk, length, map, refl, ap, arith, rules}
use Rattle.std.proofs.lemmas.List.{map-append}
use Rattle.std.proofs.lemmas.Result.{on_ok_weaker}
use Rattle.types.specs.Translation.{codes}
use Rattle.effects.specs.Effects.{accesses}
use Rattle.effects.proofs.Appending.{in_two_steps}
use Rattle.effects.proofs.Statements.{size, size_in, size-drop, codes_at, is_If, is_Rescue}
use Rattle.parallel_relation.specs.Listing.{alls_of, pendings_of, is_asked}
use Rattle.parallel_relation.specs.Meetings.{added_in, added_inside}
use Rattle.parallel_relation.specs.Order.{meeting_of}
use Rattle.parallel_relation.specs.Translation.{meeting}
use Rattle.effects.proofs.OneList.{of_list, size_of_list}
use Rattle.parallel_relation.proofs.meetings.+meetings.Goals as goal

pub add_meetings-add_meetings_inside-requires : goal.add_meetings-add_meetings_inside-requires
add_meetings-add_meetings_inside-requires t c =
    let xs = c.args.block.now in
    let k = c.loop-place.place in
    let x = c.index-block-place.result in
    let within : k < length xs = search rules in
    let front = codes_at xs k x within c.index-block-place.is in
    omega (arith, ap size front, size-drop k xs)

pub add_meetings_inside-add_meetings-requires : goal.add_meetings_inside-add_meetings-requires
add_meetings_inside-add_meetings-requires t c =
    let is = is_If _ c.in-If.guard c.in-If.body c.in-If.other c.deref.result.now c.in-If.other.items c.in-If.is c.deref.ensures.value refl in
    omega (arith, ap size_in is)

pub add_meetings_inside-add_meetings-requires-in-If : goal.add_meetings_inside-add_meetings-requires-in-If
add_meetings_inside-add_meetings-requires-in-If t c =
    let is = is_If _ c.in-If.guard c.in-If.body c.in-If.other c.in-If.body.items c.deref-in-If.result.now c.in-If.is refl c.deref-in-If.ensures.value in
    omega (arith, ap size_in is)

pub add_meetings_inside-add_meetings-requires-in-Rescue : goal.add_meetings_inside-add_meetings-requires-in-Rescue
add_meetings_inside-add_meetings-requires-in-Rescue t c =
    let is = is_Rescue _ c.in-Rescue.body c.in-Rescue.faults c.in-Rescue.handler c.deref-in-Rescue.result.now c.in-Rescue.handler.items c.in-Rescue.is
    c.deref-in-Rescue.ensures.value refl in
    omega (arith, ap size_in is)

pub add_meetings_inside-add_meetings-requires-in-Rescue-2 : goal.add_meetings_inside-add_meetings-requires-in-Rescue-2
add_meetings_inside-add_meetings-requires-in-Rescue-2 t c =
    let is = is_Rescue _ c.in-Rescue.body c.in-Rescue.faults c.in-Rescue.handler c.in-Rescue.body.items c.deref-in-Rescue-2.result.now c.in-Rescue.is
    refl c.deref-in-Rescue-2.ensures.value in
    omega (arith, ap size_in is)

pub add_meetings_inside-returns-in_ok-add_meetings-in-Rescue : goal.add_meetings_inside-returns-in_ok-add_meetings-in-Rescue
add_meetings_inside-returns-in_ok-add_meetings-in-Rescue t c =
    let lists = c.args.lists.now in
    let added = added_in accesses (alls_of lists) (pendings_of lists) (is_asked c.args.label) in
    let is = is_Rescue _ c.in-Rescue.body c.in-Rescue.faults c.in-Rescue.handler c.deref-in-Rescue.result.now c.deref-in-Rescue-2.result.now c.in-Rescue.is
    c.deref-in-Rescue.ensures.value c.deref-in-Rescue-2.ensures.value in
    rw is (on_ok_weaker c.add_meetings-in-Rescue-2.result (λ second. in_two_steps _ _ _ _ _ _ c.in_ok-add_meetings-in-Rescue.ensures second
    (map-append meeting_of (added (codes c.deref-in-Rescue.result.now)) (added (codes c.deref-in-Rescue-2.result.now))))
    c.add_meetings-in-Rescue-2.ensures)

pub add_meetings_inside-add_meetings-requires-in-While : goal.add_meetings_inside-add_meetings-requires-in-While
add_meetings_inside-add_meetings-requires-in-While t c =
    let small = size_of_list c.args.kind.now c.in-While.body c.deref-in-While.result.now c.deref-in-While.ensures.value c.in-While.is in
    omega (arith, small)

pub add_meetings_inside-returns-in-While : goal.add_meetings_inside-returns-in-While
add_meetings_inside-returns-in-While t c =
    let lists = c.args.lists.now in
    let added = added_inside accesses (alls_of lists) (pendings_of lists) (is_asked c.args.label) in
    let out = c.add_meetings-in-While in
    of_list c.args.kind.now c.in-While.body
    (λ j. OnOk out.result (map meeting out.new.into.items ≡ map meeting c.args.into.now.items ++ map meeting_of (added j)))
    c.deref-in-While.result.now c.deref-in-While.ensures.value c.in-While.is (λ t. out.ensures) (λ s n l r. out.ensures) (λ s n q i. out.ensures) out.ensures out.ensures

pub add_meetings_inside-returns-in_ok-add_meetings-in-If : goal.add_meetings_inside-returns-in_ok-add_meetings-in-If
add_meetings_inside-returns-in_ok-add_meetings-in-If t c =
    let lists = c.args.lists.now in
    let added = added_in accesses (alls_of lists) (pendings_of lists) (is_asked c.args.label) in
    let is = is_If _ c.in-If.guard c.in-If.body c.in-If.other c.deref.result.now c.deref-in-If.result.now c.in-If.is c.deref.ensures.value c.deref-in-If.ensures.value in
    rw is (on_ok_weaker c.add_meetings-in-If.result (λ second. in_two_steps _ _ _ _ _ _ c.in_ok-add_meetings-in-If.ensures second
    (map-append meeting_of (added (codes c.deref.result.now)) (added (codes c.deref-in-If.result.now)))) c.add_meetings-in-If.ensures)

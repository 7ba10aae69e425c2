use Rattle.std.proofs.Common.{◌≡◌, ◌++◌, OnOk, map, refl, sym, ap}
use Rattle.std.proofs.lemmas.List.{append-nil}
use Rattle.std.proofs.lemmas.Option.{slice_get_past}
use Rattle.std.proofs.lemmas.Result.{on_ok_weaker}
use Rattle.types.specs.Translation.{code, codes}
use Rattle.effects.specs.Effects.{accesses}
use Rattle.effects.specs.Tables.{all_in, all_inside}
use Rattle.effects.specs.Translation.{access}
use Rattle.effects.proofs.Appending.{in_two_steps}
use Rattle.effects.proofs.ClosingLemmas.{got}
use Rattle.effects.proofs.OneList.{of_same}
use Rattle.effects.proofs.Statements.{is_If, is_Split, is_Parts, is_Rescue}
use Rattle.parallel_relation.specs.Listing.{alls_of}
use Rattle.parallel_relation.proofs.statements.+done.Goals as goal

pub add_inside-returns-in_ok-add_block-in-If : goal.add_inside-returns-in_ok-add_block-in-If
add_inside-returns-in_ok-add_block-in-If t c =
    rw (is_If _ c.in-If.guard c.in-If.body c.in-If.other c.deref.result.now c.deref-in-If.result.now c.in-If.is c.deref.ensures.value c.deref-in-If.ensures.value)
    (on_ok_weaker c.add_block-in-If.result (λ second. in_two_steps _ _ _ _ _ _ c.in_ok-add_block-in-If.ensures second refl) c.add_block-in-If.ensures)

pub add_inside-returns-in_ok-add_block-in-Rescue : goal.add_inside-returns-in_ok-add_block-in-Rescue
add_inside-returns-in_ok-add_block-in-Rescue t c =
    rw (is_Rescue _ c.in-Rescue.body c.in-Rescue.faults c.in-Rescue.handler c.deref-in-Rescue.result.now c.deref-in-Rescue-2.result.now c.in-Rescue.is
    c.deref-in-Rescue.ensures.value c.deref-in-Rescue-2.ensures.value)
    (on_ok_weaker c.add_block-in-Rescue-2.result (λ second. in_two_steps _ _ _ _ _ _ c.in_ok-add_block-in-Rescue.ensures second refl)
    c.add_block-in-Rescue-2.ensures)

pub add_inside-returns-in-While : goal.add_inside-returns-in-While
add_inside-returns-in-While t c =
    let out = c.add_block-in-While in
    of_same c.args.kind.now c.in-While.body
    (λ j. OnOk out.result (map access out.new.into.items ≡ map access c.args.into.now.items
    ++ all_inside accesses (alls_of c.args.lists.now) j))
    c.deref-in-While.result.now c.deref-in-While.ensures.value c.in-While.is (λ t. out.ensures) out.ensures out.ensures

pub add_inside-returns-in_ok-add_block-in-Split : goal.add_inside-returns-in_ok-add_block-in-Split
add_inside-returns-in_ok-add_block-in-Split t c =
    let s = c.in-Split in
    let inside : map access c.deref-in-Split-2.result.now ≡ all_in accesses (alls_of c.args.lists.now) (codes c.deref-in-Split.result.now) =
    rw (c.deref-in-Split-2.ensures.value, c.in_ok-add_block-in-Split.ensures, c.new-inside.ensures.items) refl in
    rw (is_Split _ s.sides s.body c.deref-in-Split.result.now s.is c.deref-in-Split.ensures.value, ← inside) c.add_around.ensures

pub add_inside-returns-in_ok-add_block-in-Parts : goal.add_inside-returns-in_ok-add_block-in-Parts
add_inside-returns-in_ok-add_block-in-Parts t c =
    let s = c.in-Parts in
    let inside : map access c.deref-in-Parts-2.result.now ≡ all_in accesses (alls_of c.args.lists.now) (codes c.deref-in-Parts.result.now) =
    rw (c.deref-in-Parts-2.ensures.value, c.in_ok-add_block-in-Parts.ensures, c.new-inside-in-Parts.ensures.items) refl in
    rw (is_Parts _ s.pieces s.body c.deref-in-Parts.result.now s.is c.deref-in-Parts.ensures.value, ← inside) c.add_around-in-Parts.ensures

pub add_inside-returns-in-Some : goal.add_inside-returns-in-Some
add_inside-returns-in-Some t c =
    let lists = c.args.lists.now in
    let found = c.in-Some.ensures.lookup in
    let there = got lists lists c.in-Call.procedure.number c.in-Some.callee.now refl found.3.0 found.1 in
    rw (ap code c.in-Call.is, there, ← c.deref-in-Some.ensures.value, ← c.deref-in-Some-2.ensures.value) c.add_passed.ensures

pub add_inside-returns-in-None : goal.add_inside-returns-in-None
add_inside-returns-in-None t c =
    let none = slice_get_past c.args.lists.now c.in-Call.procedure.number c.in-None.ensures.lookup.3 in
    rw (ap code c.in-Call.is, none) (sym (append-nil (map access c.args.into.now.items)))

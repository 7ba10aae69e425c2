use Rattle.std.proofs.Common.{◌≡◌, map, refl, sym, ap}
use Rattle.std.proofs.lemmas.List.{append-nil}
use Rattle.std.proofs.lemmas.Option.{slice_get_past}
use Rattle.std.proofs.lemmas.Result.{on_ok_weaker}
use Rattle.types.specs.Translation.{code, codes}
use Rattle.effects.specs.Effects.{accesses}
use Rattle.effects.specs.Tables.{left_in}
use Rattle.effects.specs.Translation.{access}
use Rattle.effects.proofs.Appending.{in_two_steps}
use Rattle.effects.proofs.ClosingLemmas.{got}
use Rattle.effects.proofs.Statements.{is_If, is_While, is_Split, is_Parts, is_Async, is_Rescue}
use Rattle.parallel_relation.specs.Listing.{alls_of, pendings_of}
use Rattle.parallel_relation.proofs.statements.+left.Goals as goal

pub add_left_by-returns-in_ok-add_left-in-If : goal.add_left_by-returns-in_ok-add_left-in-If
add_left_by-returns-in_ok-add_left-in-If t c =
    rw (is_If _ c.in-If.guard c.in-If.body c.in-If.other c.deref.result.now c.deref-in-If.result.now c.in-If.is c.deref.ensures.value c.deref-in-If.ensures.value)
    (on_ok_weaker c.add_left-in-If.result (λ second. in_two_steps _ _ _ _ _ _ c.in_ok-add_left-in-If.ensures second refl) c.add_left-in-If.ensures)

pub add_left_by-returns-in-While : goal.add_left_by-returns-in-While
add_left_by-returns-in-While t c =
    rw (is_While _ c.in-While.guard c.in-While.body c.deref-in-While.result.now c.in-While.is c.deref-in-While.ensures.value) c.add_left-in-While.ensures

pub add_left_by-returns-in-Rescue : goal.add_left_by-returns-in-Rescue
add_left_by-returns-in-Rescue t c =
    rw (is_Rescue _ c.in-Rescue.body c.in-Rescue.faults c.in-Rescue.handler c.in-Rescue.body.items c.deref-in-Rescue.result.now c.in-Rescue.is
    refl c.deref-in-Rescue.ensures.value) c.add_left-in-Rescue.ensures

pub add_left_by-returns-in-Async : goal.add_left_by-returns-in-Async
add_left_by-returns-in-Async t c =
    rw (is_Async _ c.in-Async.body c.deref-in-Async.result.now c.in-Async.is c.deref-in-Async.ensures.value) c.add_block.ensures

pub add_left_by-returns-in_ok-add_left-in-Split : goal.add_left_by-returns-in_ok-add_left-in-Split
add_left_by-returns-in_ok-add_left-in-Split t c =
    let s = c.in-Split in
    let inside : map access c.deref-in-Split-2.result.now ≡ left_in accesses (alls_of c.args.lists.now) (pendings_of c.args.lists.now) (codes c.deref-in-Split.result.now) =
    rw (c.deref-in-Split-2.ensures.value, c.in_ok-add_left-in-Split.ensures, c.new-inside.ensures.items) refl in
    rw (is_Split _ s.sides s.body c.deref-in-Split.result.now s.is c.deref-in-Split.ensures.value, ← inside) c.add_around.ensures

pub add_left_by-returns-in_ok-add_left-in-Parts : goal.add_left_by-returns-in_ok-add_left-in-Parts
add_left_by-returns-in_ok-add_left-in-Parts t c =
    let s = c.in-Parts in
    let inside : map access c.deref-in-Parts-2.result.now ≡ left_in accesses (alls_of c.args.lists.now) (pendings_of c.args.lists.now) (codes c.deref-in-Parts.result.now) =
    rw (c.deref-in-Parts-2.ensures.value, c.in_ok-add_left-in-Parts.ensures, c.new-inside-in-Parts.ensures.items) refl in
    rw (is_Parts _ s.pieces s.body c.deref-in-Parts.result.now s.is c.deref-in-Parts.ensures.value, ← inside) c.add_around-in-Parts.ensures

pub add_left_by-returns-in-Some : goal.add_left_by-returns-in-Some
add_left_by-returns-in-Some t c =
    let lists = c.args.lists.now in
    let found = c.in-Some.ensures.lookup in
    let there = got lists lists c.in-Call.procedure.number c.in-Some.callee.now refl found.3.0 found.1 in
    rw (ap code c.in-Call.is, there, ← c.deref-in-Some.ensures.value, ← c.deref-in-Some-2.ensures.value) c.add_passed.ensures

pub add_left_by-returns-in-None : goal.add_left_by-returns-in-None
add_left_by-returns-in-None t c =
    let none = slice_get_past c.args.lists.now c.in-Call.procedure.number c.in-None.ensures.lookup.3 in
    rw (ap code c.in-Call.is, none) (sym (append-nil (map access c.args.into.now.items)))

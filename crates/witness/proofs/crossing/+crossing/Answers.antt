use Rattle.std.proofs.Common.{◌-◌, List, drop, length, refl, sym, ap, subst, arith, rules}
use Rattle.std.proofs.lemmas.List.{drop_all}
use Rattle.std.proofs.lemmas.Result.{IfOk-weaker}
use Rattle.std.specs.Prelude.{false, None}
use Rattle.types.specs.Code.{Code, Codes}
use Rattle.types.specs.Translation.{code, codes, program}
use Rattle.types.specs.declared.code.Stmt.{Stmt}
use Rattle.effects.specs.Translation.{access}
use Rattle.effects.proofs.Statements.{size_in, size-drop, smaller, codes_before, is_If, is_While, is_Parts, is_Rescue}
use Rattle.effects.proofs.OneList.{of_block, size_of_block}
use Rattle.witness.specs.Crossed.{IsInTurn, IsInTurns, MeetAt, MeetIn, both, crossed}
use Rattle.witness.specs.Known.{steps}
use Rattle.witness.specs.Least.{IsLeast, all_covered}
use Rattle.witness.specs.Ways.{Way}
use Rattle.witness.proofs.Crossings.{crossing_end, crossing_front, at_if, at_while, at_parts, at_split, at_async, at_finish, at_rescue, at_statement}
use Rattle.witness.proofs.Found.{least_end, least_front}
use Rattle.witness.proofs.crossing.+crossing.Goals as goal

pub crossing_in-crossing_of-requires : goal.crossing_in-crossing_of-requires
crossing_in-crossing_of-requires t c =
    let xs = c.args.list.now in let k = c.loop-place.place in
    let fewer = smaller xs k _ c.loop-place-test.true c.loop-place.auto.place c.index-list-place.is in
    (omega (arith, fewer, size-drop (k - 1) xs), c.requires)

pub crossing_in-loop-place-init : goal.crossing_in-loop-place-init
crossing_in-loop-place-init t c =
    let p = program c.args.pairing.now.code.now in
    let x = access c.args.pairing.now.first.now.access in let y = access c.args.pairing.now.second.now.access in
    let xs = c.args.list.now in
    record {
      best = subst (λ (ys : List Stmt). IsLeast both all_covered (MeetIn p (codes ys) x y) None) (sym (drop_all _ xs (search rules))) (crossing_end p x y);
      behind = subst (λ (ys : List Stmt). IsLeast length all_covered (λ way. Way p false (codes ys) way y) None) (sym (drop_all _ xs (search rules)))
          (least_end p all_covered false y);
    }

pub crossing_in-loop-place-preserved : goal.crossing_in-loop-place-preserved
crossing_in-loop-place-preserved t c =
    let p = program c.args.pairing.now.code.now in
    let x = access c.args.pairing.now.first.now.access in let y = access c.args.pairing.now.second.now.access in
    let xs = c.args.list.now in
    let k = c.loop-place.place in
    let s = c.index-list-place.result in
    let at = codes_before xs k s c.loop-place-test.true c.loop-place.auto.place c.index-list-place.is in
    let inv = c.loop-place.invariant in
    record {
      best = subst (λ (b : Codes). IsLeast both all_covered (MeetIn p b x y) (crossed c.shorter_crossing-best.result)) (sym at)
          (crossing_front p x y s.label (code s.kind) (codes (drop k xs)) (steps c.loop-place.behind) _ _ _ _ _ c.shorter_crossing.ensures
          c.shorter_crossing-best.ensures inv.behind c.in_ok-follow.ensures c.in_ok-here.ensures inv.best);
      behind = subst (λ (b : Codes). IsLeast length all_covered (λ way. Way p false b way y) (steps c.shorter-behind.result)) (sym at)
          (least_front p all_covered false y s.label (code s.kind) (codes (drop k xs)) _ _ _ c.shorter-behind.ensures c.in_ok-way.ensures inv.behind);
    }

pub crossing_of-crossing_in-requires : goal.crossing_of-crossing_in-requires
crossing_of-crossing_in-requires t c =
    (omega (arith, ap size_in (is_If _ c.in-If.guard c.in-If.body c.in-If.other _ _ c.in-If.is c.deref.ensures.value refl)), c.requires)

pub crossing_of-crossing_in-requires-in-If : goal.crossing_of-crossing_in-requires-in-If
crossing_of-crossing_in-requires-in-If t c =
    (omega (arith, ap size_in (is_If _ c.in-If.guard c.in-If.body c.in-If.other _ _ c.in-If.is refl c.deref-in-If.ensures.value)), c.requires)

pub crossing_of-crossing_in-requires-in-While : goal.crossing_of-crossing_in-requires-in-While
crossing_of-crossing_in-requires-in-While t c =
    (omega (arith, ap size_in (is_While _ c.in-While.guard c.in-While.body _ c.in-While.is c.deref-in-While.ensures.value)), c.requires)

pub crossing_of-crossing_in-requires-in-Parts : goal.crossing_of-crossing_in-requires-in-Parts
crossing_of-crossing_in-requires-in-Parts t c =
    (omega (arith, ap size_in (is_Parts _ c.in-Parts.pieces c.in-Parts.body _ c.in-Parts.is c.deref-in-Parts-2.ensures.value)), c.requires)

pub crossing_of-crossing_in-requires-in-Split : goal.crossing_of-crossing_in-requires-in-Split
crossing_of-crossing_in-requires-in-Split t c =
    let small = size_of_block c.args.statement.now.kind c.in-Split.body c.deref-in-Split.result.now c.deref-in-Split.ensures.value c.in-Split.is in
    (omega (arith, small), c.requires)

pub crossing_of-crossing_in-requires-in-Rescue : goal.crossing_of-crossing_in-requires-in-Rescue
crossing_of-crossing_in-requires-in-Rescue t c =
    (omega (arith, ap size_in (is_Rescue _ c.in-Rescue.body c.in-Rescue.faults c.in-Rescue.handler _ _ c.in-Rescue.is c.deref-in-Rescue.ensures.value refl)), c.requires)

pub crossing_of-crossing_in-requires-in-Rescue-2 : goal.crossing_of-crossing_in-requires-in-Rescue-2
crossing_of-crossing_in-requires-in-Rescue-2 t c =
    (omega (arith, ap size_in (is_Rescue _ c.in-Rescue.body c.in-Rescue.faults c.in-Rescue.handler _ _ c.in-Rescue.is refl c.deref-in-Rescue-2.ensures.value)), c.requires)

pub crossing_of-returns-in_ok-next-in-If : goal.crossing_of-returns-in_ok-next-in-If
crossing_of-returns-in_ok-next-in-If t c =
    let is = is_If _ c.in-If.guard c.in-If.body c.in-If.other c.deref.result.now c.deref-in-If.result.now c.in-If.is c.deref.ensures.value c.deref-in-If.ensures.value in
    at_statement _ _ _ _ _ _ _ is
    (at_if _ _ _ _ _ _ _ _ _ _ c.shorter_crossing.ensures c.in_ok-one-in-If.ensures c.in_ok-next-in-If.ensures)

pub crossing_of-returns-in_ok-inside-in-While : goal.crossing_of-returns-in_ok-inside-in-While
crossing_of-returns-in_ok-inside-in-While t c =
    let p = program c.args.pairing.now.code.now in
    let x = access c.args.pairing.now.first.now.access in let y = access c.args.pairing.now.second.now.access in
    let l = c.args.statement.now.label in
    let is = is_While _ c.in-While.guard c.in-While.body c.deref-in-While.result.now c.in-While.is c.deref-in-While.ensures.value in
    at_statement p x y l _ _ _ is
    (at_while p x y l _ _ _ _ _ c.shorter_crossing-in-While.ensures
    (subst (λ (k : Code). IsLeast both all_covered (IsInTurn p l k x y) (crossed c.in_ok-turn-in-While.turn)) is c.in_ok-turn-in-While.ensures) c.in_ok-inside-in-While.ensures)

pub crossing_of-returns-in_ok-inside-in-Parts : goal.crossing_of-returns-in_ok-inside-in-Parts
crossing_of-returns-in_ok-inside-in-Parts t c =
    let p = program c.args.pairing.now.code.now in
    let x = access c.args.pairing.now.first.now.access in let y = access c.args.pairing.now.second.now.access in
    let l = c.args.statement.now.label in
    let b = c.in-Parts in
    let s = b.pieces.section.number in
    let q = b.pieces.piece.number in
    let is = is_Parts _ b.pieces b.body b.body.items b.is refl in
    at_statement p x y l _ _ _ is
    (at_parts p x y l s _ q _ (codes b.body.items) _ _ _ c.shorter_crossing-in-Parts.ensures
    (subst (λ (ys : List Stmt). IsLeast both all_covered (IsInTurns p l s q (codes ys) x y) (crossed c.in_ok-turns-in-Parts.turns))
    c.deref-in-Parts.ensures.value c.in_ok-turns-in-Parts.ensures)
    (subst (λ (ys : List Stmt). IsLeast both all_covered (MeetIn p (codes ys) x y) (crossed c.in_ok-inside-in-Parts.inside))
    c.deref-in-Parts-2.ensures.value c.in_ok-inside-in-Parts.ensures))

pub crossing_of-returns-in-Split : goal.crossing_of-returns-in-Split
crossing_of-returns-in-Split t c =
    let p = program c.args.pairing.now.code.now in
    let x = access c.args.pairing.now.first.now.access in let y = access c.args.pairing.now.second.now.access in
    let l = c.args.statement.now.label in
    IfOk-weaker c.crossing_in-in-Split.result _ _
    (λ found h. of_block c.args.statement.now.kind c.in-Split.body (λ k. IsLeast both all_covered (MeetAt p l k x y) (crossed found))
    c.deref-in-Split.result.now c.deref-in-Split.ensures.value c.in-Split.is (λ s n i r. at_split p x y l s n i r _ _ h) (at_async p x y l _ _ h)
    (at_finish p x y l _ _ h)) c.crossing_in-in-Split.ensures

pub crossing_of-returns-in_ok-next-in-Rescue : goal.crossing_of-returns-in_ok-next-in-Rescue
crossing_of-returns-in_ok-next-in-Rescue t c =
    let is = is_Rescue _ c.in-Rescue.body c.in-Rescue.faults c.in-Rescue.handler c.deref-in-Rescue.result.now c.deref-in-Rescue-2.result.now c.in-Rescue.is
    c.deref-in-Rescue.ensures.value c.deref-in-Rescue-2.ensures.value in
    at_statement _ _ _ _ _ _ _ is
    (at_rescue _ _ _ _ _ _ _ _ _ _ c.shorter_crossing-in-Rescue.ensures c.in_ok-one-in-Rescue.ensures c.in_ok-next-in-Rescue.ensures)

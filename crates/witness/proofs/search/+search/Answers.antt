use Rattle.std.proofs.Common.{◌-◌, drop, length, map, refl, sym, ap, subst, arith, rules, true≢false, ◌∙◌}
use Rattle.std.proofs.lemmas.List.{drop_all}
use Rattle.std.proofs.lemmas.Result.{IfOk-weaker}
use Rattle.std.specs.Prelude.{◌≡◌, List, Option, IfSome, MatchOption, None}
use Rattle.sections.specs.Translation.{section}
use Rattle.types.specs.Code.{Codes}
use Rattle.types.specs.Translation.{code, codes, number, program}
use Rattle.types.specs.declared.code.Stmt.{Stmt}
use Rattle.effects.specs.Translation.{access}
use Rattle.effects.proofs.Statements.{size_in, size-drop, smaller, codes_before, is_If, is_While, is_Split, is_Parts, is_Async, is_Finish, is_Rescue}
use Rattle.witness.specs.Known.{AreShortest, AreWays, IsFound, steps}
use Rattle.witness.specs.Least.{IsLeast, all_covered}
use Rattle.witness.specs.Searched.{GoesIn, IsLed}
use Rattle.witness.specs.Ways.{Way}
use Rattle.witness.specs.declared.step.Rule.TheVariants.{Side, Piece}
use Rattle.witness.specs.declared.search.Sought.{Sought}
use Rattle.witness.specs.declared.step.WayStep.{WayStep}
use Rattle.witness.proofs.Found.{covered_less, least_end, least_front, least_own, least_on, least_if, least_finish, least_rescue}
use Rattle.witness.proofs.Found.{least_while, least_async, least_split, least_parts, least_call, stepped, at_code, behind_led}
use Rattle.witness.proofs.Found.{inside_ways, awaited_ways, side_found_in, awaited_found}
use Rattle.witness.proofs.search.+search.Goals as goal

pub way_in-way_of-requires : goal.way_in-way_of-requires
way_in-way_of-requires t c =
    let xs = c.args.list.now in
    let k = c.loop-place.place in
    let x = c.index-list-place.result in
    let fewer = smaller xs k x c.loop-place-test.true c.loop-place.auto.place c.index-list-place.is in
    (omega (arith, fewer, size-drop (k - 1) xs), c.requires.ways)

pub way_in-loop-place-init : goal.way_in-loop-place-init
way_in-loop-place-init t c =
    let p = program c.args.code.now in
    let x = access c.args.sought.access in
    let xs = c.args.list.now in
    subst (λ (ys : List Stmt). IsLeast length (AreShortest p x c.args.known.now) (λ way. Way p c.args.sought.pending (codes ys) way x) None)
    (sym (drop_all _ xs (search rules))) (least_end p (AreShortest p x c.args.known.now) c.args.sought.pending x)

pub way_in-loop-place-preserved : goal.way_in-loop-place-preserved
way_in-loop-place-preserved t c =
    let p = program c.args.code.now in
    let x = access c.args.sought.access in
    let xs = c.args.list.now in
    let k = c.loop-place.place in
    let s = c.index-list-place.result in
    let C = AreShortest p x c.args.known.now in
    subst (λ (b : Codes). IsLeast length C (λ way. Way p c.args.sought.pending b way x) (steps c.shorter-best.result))
    (sym (codes_before xs k s c.loop-place-test.true c.loop-place.auto.place c.index-list-place.is))
    (least_front p C c.args.sought.pending x s.label (code s.kind) (codes (drop k xs)) _ _ _ c.shorter-best.ensures c.in_ok-way.ensures
    c.loop-place.invariant)

pub way_behind-way_in-requires : goal.way_behind-way_in-requires
way_behind-way_in-requires t c =
    let ways = subst (λ (o : Option Sought). IfSome o (λ a. AreWays (program c.args.code.now) (access a.access) c.args.known.now)) c.in-Some.is c.requires.ways in
    (omega arith, ways)

pub way_behind-returns : goal.way_behind-returns
way_behind-returns t c =
    let p = program c.args.code.now in
    let s = c.in-Some.sought in
    let x = access s.access in
    let C = AreShortest p x c.args.known.now in
    IfOk-weaker c.led_on.result _ _
    (λ led e. subst (λ (o : Option Sought). MatchOption o (steps led ≡ None) (λ a. IsFound p (access a.access) c.args.known.now
    (IsLed c.args.step (λ way. Way p a.pending (codes c.args.list.now) way (access a.access))) led)) (sym c.in-Some.is)
    (behind_led C c.args.step (λ way. Way p s.pending (codes c.args.list.now) way x) _ (steps led) e (λ n. covered_less p x c.args.known.now n)
    c.in_ok-way.ensures))
    c.led_on.ensures

pub way_inside-way_behind-requires : goal.way_inside-way_behind-requires
way_inside-way_behind-requires t c =
    let is = is_If _ c.in-If.guard c.in-If.body c.in-If.other c.deref.result.now c.in-If.other.items c.in-If.is c.deref.ensures.value refl in
    (omega (arith, ap size_in is), c.requires.ways)

pub way_inside-way_behind-requires-in-If : goal.way_inside-way_behind-requires-in-If
way_inside-way_behind-requires-in-If t c =
    let is = is_If _ c.in-If.guard c.in-If.body c.in-If.other c.in-If.body.items c.deref-in-If.result.now c.in-If.is refl c.deref-in-If.ensures.value in
    (omega (arith, ap size_in is), c.requires.ways)

pub way_inside-way_behind-requires-in-While : goal.way_inside-way_behind-requires-in-While
way_inside-way_behind-requires-in-While t c =
    let is = is_While _ c.in-While.guard c.in-While.body c.deref-in-While.result.now c.in-While.is c.deref-in-While.ensures.value in
    (omega (arith, ap size_in is), c.requires.ways)

pub way_inside-way_behind-requires-in-Split : goal.way_inside-way_behind-requires-in-Split
way_inside-way_behind-requires-in-Split t c =
    let is = is_Split _ c.in-Split.sides c.in-Split.body c.deref-in-Split.result.now c.in-Split.is c.deref-in-Split.ensures.value in (
      omega (arith, ap size_in is),
      inside_ways (program c.args.code.now) c.args.known.now c.args.sought c.in-Split.sides.section.number c.in-Split.sides.left.number c.in-Split.sides.right.number
          c.in-Split.sides.left c.inside-aim.result c.inside-aim.ensures c.requires.ways,
    )

pub way_inside-way_behind-requires-in-Split-2 : goal.way_inside-way_behind-requires-in-Split-2
way_inside-way_behind-requires-in-Split-2 t c =
    let is = is_Split _ c.in-Split.sides c.in-Split.body c.deref-in-Split-2.result.now c.in-Split.is c.deref-in-Split-2.ensures.value in (
      omega (arith, ap size_in is),
      inside_ways (program c.args.code.now) c.args.known.now c.args.sought c.in-Split.sides.section.number c.in-Split.sides.left.number c.in-Split.sides.right.number
          c.in-Split.sides.right c.inside-aim-in-Split.result c.inside-aim-in-Split.ensures c.requires.ways,
    )

pub way_inside-way_behind-requires-in-Split-3 : goal.way_inside-way_behind-requires-in-Split-3
way_inside-way_behind-requires-in-Split-3 t c =
    let is = is_Split _ c.in-Split.sides c.in-Split.body c.deref-in-Split-3.result.now c.in-Split.is c.deref-in-Split-3.ensures.value in (
      omega (arith, ap size_in is),
      inside_ways (program c.args.code.now) c.args.known.now c.args.sought c.in-Split.sides.section.number c.in-Split.sides.left.number c.in-Split.sides.right.number
          c.args.sought.access.section c.inside-aim-in-Split-2.result c.inside-aim-in-Split-2.ensures c.requires.ways,
    )

pub way_inside-way_behind-requires-in-Parts : goal.way_inside-way_behind-requires-in-Parts
way_inside-way_behind-requires-in-Parts t c =
    let is = is_Parts _ c.in-Parts.pieces c.in-Parts.body c.deref-in-Parts.result.now c.in-Parts.is c.deref-in-Parts.ensures.value in (
      omega (arith, ap size_in is),
      inside_ways (program c.args.code.now) c.args.known.now c.args.sought c.in-Parts.pieces.section.number c.in-Parts.pieces.piece.number c.in-Parts.pieces.piece.number
          c.in-Parts.pieces.piece c.inside-aim-in-Parts.result c.inside-aim-in-Parts.ensures c.requires.ways,
    )

pub way_inside-way_behind-requires-in-Parts-2 : goal.way_inside-way_behind-requires-in-Parts-2
way_inside-way_behind-requires-in-Parts-2 t c =
    let is = is_Parts _ c.in-Parts.pieces c.in-Parts.body c.deref-in-Parts-2.result.now c.in-Parts.is c.deref-in-Parts-2.ensures.value in (
      omega (arith, ap size_in is),
      inside_ways (program c.args.code.now) c.args.known.now c.args.sought c.in-Parts.pieces.section.number c.in-Parts.pieces.piece.number c.in-Parts.pieces.piece.number
          c.args.sought.access.section c.inside-aim-in-Parts-2.result c.inside-aim-in-Parts-2.ensures c.requires.ways,
    )

pub way_inside-way_behind-requires-in-Async : goal.way_inside-way_behind-requires-in-Async
way_inside-way_behind-requires-in-Async t c =
    let is = is_Async _ c.in-Async.body c.deref-in-Async.result.now c.in-Async.is
    c.deref-in-Async.ensures.value in (
      omega (arith, ap size_in is),
      subst (λ (a : Sought). AreWays (program c.args.code.now) (access a.access) c.args.known.now)
          (sym c.done.ensures) c.requires.ways,
    )

pub way_inside-way_behind-requires-in-Finish : goal.way_inside-way_behind-requires-in-Finish
way_inside-way_behind-requires-in-Finish t c =
    let is = is_Finish _ c.in-Finish.body c.deref-in-Finish.result.now c.in-Finish.is
    c.deref-in-Finish.ensures.value in (
      omega (arith, ap size_in is),
      subst (λ (o : Option Sought). IfSome o (λ a. AreWays (program c.args.code.now) (access a.access)
          c.args.known.now)) (sym c.awaited.ensures)
          (awaited_ways (program c.args.code.now) c.args.known.now c.args.sought c.args.sought.pending
          c.requires.ways),
    )

pub way_inside-way_behind-requires-in-Rescue : goal.way_inside-way_behind-requires-in-Rescue
way_inside-way_behind-requires-in-Rescue t c =
    let is = is_Rescue _ c.in-Rescue.body c.in-Rescue.faults c.in-Rescue.handler c.deref-in-Rescue.result.now c.in-Rescue.handler.items c.in-Rescue.is
    c.deref-in-Rescue.ensures.value refl in (
      omega (arith, ap size_in is),
      subst (λ (o : Option Sought). IfSome o (λ a. AreWays (program c.args.code.now) (access a.access)
          c.args.known.now)) (sym c.awaited-in-Rescue.ensures)
          (awaited_ways (program c.args.code.now) c.args.known.now c.args.sought c.args.sought.pending
          c.requires.ways),
    )

pub way_inside-way_behind-requires-in-Rescue-2 : goal.way_inside-way_behind-requires-in-Rescue-2
way_inside-way_behind-requires-in-Rescue-2 t c =
    let is = is_Rescue _ c.in-Rescue.body c.in-Rescue.faults c.in-Rescue.handler c.in-Rescue.body.items c.deref-in-Rescue-2.result.now c.in-Rescue.is
    refl c.deref-in-Rescue-2.ensures.value in
    (omega (arith, ap size_in is), c.requires.ways)

pub way_inside-returns-in_ok-next-in-If : goal.way_inside-returns-in_ok-next-in-If
way_inside-returns-in_ok-next-in-If t c =
    let is = is_If _ c.in-If.guard c.in-If.body c.in-If.other c.deref.result.now c.deref-in-If.result.now c.in-If.is c.deref.ensures.value c.deref-in-If.ensures.value in
    at_code _ _ _ _ _ _ _ _ is
    (least_if _ _ _ _ _ _ _ _ _ _ _ c.shorter.ensures (stepped _ _ _ _ _ c.step-step.ensures c.in_ok-way-in-If.ensures)
    (stepped _ _ _ _ _ c.step-step-in-If.ensures c.in_ok-next-in-If.ensures))

pub way_inside-returns-in-While : goal.way_inside-returns-in-While
way_inside-returns-in-While t c =
    let is = is_While _ c.in-While.guard c.in-While.body c.deref-in-While.result.now c.in-While.is c.deref-in-While.ensures.value in
    IfOk-weaker c.way_behind-in-While.result _ _
    (λ found h. at_code _ _ _ _ _ _ _ _ is (least_while _ _ _ _ _ _ _ _ (stepped _ _ _ _ _ c.step-step-in-While.ensures h)))
    c.way_behind-in-While.ensures

pub way_inside-returns-in_ok-by_itself-in-Split : goal.way_inside-returns-in_ok-by_itself-in-Split
way_inside-returns-in_ok-by_itself-in-Split t c =
    let p = program c.args.code.now in
    let k = c.args.known.now in
    let sought = c.args.sought in
    let l = c.args.statement.now.label in
    let b = c.in-Split in
    let s = b.sides.section.number in
    let i = b.sides.left.number in
    let r = b.sides.right.number in
    let ys = b.body.items in
    at_code _ _ _ _ _ _ _ _ (is_Split _ b.sides b.body ys b.is refl)
    (least_split _ _ _ _ _ s _ i r (codes ys) _ _ _ _ _ c.shorter-in-Split.ensures c.shorter-in-Split-2.ensures
    (side_found_in p k sought Side l s i r c.deref-in-Split.result.now ys b.sides.left _ c.inside-aim.result _
    c.deref-in-Split.ensures.value c.inside-aim.ensures c.step-step-in-Split.ensures c.in_ok-by_left-in-Split.ensures)
    (side_found_in p k sought Side l s i r c.deref-in-Split-2.result.now ys b.sides.right _ c.inside-aim-in-Split.result _
    c.deref-in-Split-2.ensures.value c.inside-aim-in-Split.ensures c.step-step-in-Split.ensures c.in_ok-by_right-in-Split.ensures)
    (side_found_in p k sought Side l s i r c.deref-in-Split-3.result.now ys sought.access.section _ c.inside-aim-in-Split-2.result _
    c.deref-in-Split-3.ensures.value c.inside-aim-in-Split-2.ensures c.step-step-in-Split.ensures c.in_ok-by_itself-in-Split.ensures))

pub way_inside-returns-in_ok-by_itself-in-Parts : goal.way_inside-returns-in_ok-by_itself-in-Parts
way_inside-returns-in_ok-by_itself-in-Parts t c =
    let p = program c.args.code.now in
    let k = c.args.known.now in
    let sought = c.args.sought in
    let l = c.args.statement.now.label in
    let b = c.in-Parts in
    let s = b.pieces.section.number in
    let q = b.pieces.piece.number in
    let ys = b.body.items in
    at_code _ _ _ _ _ _ _ _ (is_Parts _ b.pieces b.body ys b.is refl)
    (least_parts _ _ _ _ _ s _ q _ (codes ys) _ _ _ c.shorter-in-Parts.ensures
    (side_found_in p k sought Piece l s q q c.deref-in-Parts.result.now ys b.pieces.piece _ c.inside-aim-in-Parts.result _
    c.deref-in-Parts.ensures.value c.inside-aim-in-Parts.ensures c.step-step-in-Parts.ensures c.in_ok-by_piece-in-Parts.ensures)
    (side_found_in p k sought Piece l s q q c.deref-in-Parts-2.result.now ys sought.access.section _ c.inside-aim-in-Parts-2.result _
    c.deref-in-Parts-2.ensures.value c.inside-aim-in-Parts-2.ensures c.step-step-in-Parts.ensures c.in_ok-by_itself-in-Parts.ensures))

pub way_inside-returns-in-Call : goal.way_inside-returns-in-Call
way_inside-returns-in-Call t c =
    let p = program c.args.code.now in
    let x = access c.args.sought.access in
    let m = c.args.sought.pending in
    let f = c.in-Call.procedure.number in
    IfOk-weaker c.way_past_call.result _ _
    (λ found h. at_code _ _ _ _ _ _ _ _ (ap code c.in-Call.is)
    (least_call p m c.args.statement.now.label x c.args.known.now f (map number c.in-Call.values.items) (map section c.in-Call.sections.items) c.requires.ways _
    (subst (λ (s : WayStep).
    IsLeast length all_covered (GoesIn c.args.known.now m f (map section c.in-Call.sections.items) x.section
    s) (steps found)) c.entering-step.ensures (subst (λ ss.
    IsLeast length all_covered (GoesIn c.args.known.now m f (map section ss) x.section c.entering-step.result)
    (steps found)) c.deref-in-Call.ensures.value h)))) c.way_past_call.ensures

pub way_inside-returns-in-Async : goal.way_inside-returns-in-Async
way_inside-returns-in-Async t c =
    let is = is_Async _ c.in-Async.body c.deref-in-Async.result.now c.in-Async.is c.deref-in-Async.ensures.value in
    let begun : Option (List WayStep) → Sought → Type 0 = λ found a.
    IsLeast length (AreShortest (program c.args.code.now) (access a.access) c.args.known.now)
    (IsLed c.step-step-in-Async.result (λ way. Way (program c.args.code.now) a.pending (codes c.deref-in-Async.result.now) way (access a.access))) found in
    IfOk-weaker c.way_behind-in-Async.result _ _
    (λ found h. at_code _ _ _ _ _ _ _ _ is
    (least_async _ _ _ _ _ _ _ (stepped _ _ _ _ _ c.step-step-in-Async.ensures (subst (begun (steps found)) c.done.ensures h))))
    c.way_behind-in-Async.ensures

pub way_inside-returns-in-Finish : goal.way_inside-returns-in-Finish
way_inside-returns-in-Finish t c =
    let is = is_Finish _ c.in-Finish.body c.deref-in-Finish.result.now c.in-Finish.is c.deref-in-Finish.ensures.value in
    IfOk-weaker c.way_behind-in-Finish.result _ _
    (λ found h. at_code _ _ _ _ _ _ _ _ is (least_finish _ _ _ _ _ _ _ (awaited_found _ c.args.known.now c.args.sought _ _ _ _ (steps found)
    c.awaited.ensures c.step-step-in-Finish.ensures h))) c.way_behind-in-Finish.ensures

pub way_inside-returns-in_ok-next-in-Rescue : goal.way_inside-returns-in_ok-next-in-Rescue
way_inside-returns-in_ok-next-in-Rescue t c =
    let is = is_Rescue _ c.in-Rescue.body c.in-Rescue.faults c.in-Rescue.handler c.deref-in-Rescue.result.now c.deref-in-Rescue-2.result.now c.in-Rescue.is
    c.deref-in-Rescue.ensures.value c.deref-in-Rescue-2.ensures.value in
    at_code _ _ _ _ _ _ _ _ is
    (least_rescue _ _ _ _ _ _ _ _ _ _ _ c.shorter-in-Rescue.ensures
    (awaited_found _ c.args.known.now c.args.sought _ _ _ _ _ c.awaited-in-Rescue.ensures c.step-step-in-Rescue.ensures c.in_ok-way-in-Rescue.ensures)
    (stepped _ _ _ _ _ c.step-step-in-Rescue-2.ensures c.in_ok-next-in-Rescue.ensures))

pub way_of-returns-then-branch : goal.way_of-returns-then-branch
way_of-returns-then-branch t c =
    let p = program c.args.code.now in
    let x = access c.args.sought.access in
    let s = c.args.statement.now in
    least_own p (AreShortest p x c.args.known.now) c.args.sought.pending s.label (code s.kind) x _ (search rules) (c.in_ok-is_own.ensures.0 c.if-branch.true)

pub way_of-returns : goal.way_of-returns
way_of-returns t c =
    let p = program c.args.code.now in
    let x = access c.args.sought.access in
    let s = c.args.statement.now in
    IfOk-weaker c.way_inside.result _ _
    (λ found h. least_on p (AreShortest p x c.args.known.now) c.args.sought.pending s.label (code s.kind) x (steps found)
    (λ own. true≢false (sym (c.in_ok-is_own.ensures.1 own) ∙ c.if-branch.false)) h)
    c.way_inside.ensures

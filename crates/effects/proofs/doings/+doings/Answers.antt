use Rattle.std.proofs.Common.{◌≡◌, ◌-◌, ◌∙◌, ◌++◌, length, map, drop, refl, sym, ap, subst, arith}
use Rattle.std.proofs.lemmas.List.{drop_all, length-map}
use Rattle.std.proofs.lemmas.Result.{on_ok_weaker}
use Rattle.sections.specs.Translation.{section}
use Rattle.types.specs.Code.{Code, Codes}
use Rattle.types.specs.Run.{procedure_of}
use Rattle.types.specs.Translation.{program, code, codes}
use Rattle.types.specs.Sound.{passed_for}
use Rattle.effects.specs.Effects.{accesses, past_parts, past_split, renamed, All}
use Rattle.effects.specs.Firsts.{AddsFirsts, AreFirsts, AreFirstsIn, kept_in}
use Rattle.effects.specs.Rows.{AllInside, Renamed}
use Rattle.effects.specs.Statements.{Block}
use Rattle.effects.specs.Translation.{access}
use Rattle.effects.proofs.DoingLemmas.{adds_end, adds_firsts, adds_front, adds_then, adds_whole, firsts_added}
use Rattle.effects.proofs.FirstLabels.{firsts_of_firsts, firsts_renamed}
use Rattle.effects.proofs.OneList.{of_same}
use Rattle.effects.proofs.StatementLemmas.{is_call, is_inside, part_at}
use Rattle.effects.proofs.Statements.{codes_before, smaller, size-drop, is_If, is_Split, is_Parts, is_Rescue}
use Rattle.effects.proofs.doings.+doings.Goals as goal

pub add_block-loop-place-init : goal.add_block-loop-place-init
add_block-loop-place-init t c =
    adds_end (program c.args.code.now) (codes (drop (length c.args.block.now) c.args.block.now)) (kept_in c.args.into.now)
    (ap codes (drop_all (length c.args.block.now) c.args.block.now (omega arith)))

pub add_block-add_inside-requires : goal.add_block-add_inside-requires
add_block-add_inside-requires t c =
    let p = program c.args.code.now in
    let xs = c.args.block.now in
    let k = c.loop-place.place in
    let x = c.index-block-place.result in
    let fewer = smaller xs k x c.loop-place-test.true c.loop-place.auto.place c.index-block-place.is in (
      omega (arith, fewer, size-drop (k - 1) xs),
      (
        c.requires.sound,
        (
          c.requires.summaries,
          part_at p xs (k - 1) x (omega arith) c.index-block-place.is c.requires.part,
        ),
      ),
    )

pub add_block-loop-place-preserved : goal.add_block-loop-place-preserved
add_block-loop-place-preserved t c =
    let p = program c.args.code.now in
    let xs = c.args.block.now in
    let k = c.loop-place.place in
    let x = c.index-block-place.result in
    let here = codes_before xs k x c.loop-place-test.true c.loop-place.auto.place c.index-block-place.is in
    let whole =
    adds_whole p x.label (code x.kind) (map access c.deref.result.now) (kept_in c.loop-place.into) (kept_in c.add_all.new.self)
    (kept_in c.add_inside.new.into) (ap (map access) c.deref.ensures.value ∙ c.in_ok-own.ensures) c.in_ok-add_all.ensures
    c.in_ok-add_inside.ensures in
    subst (λ (b : Codes). AddsFirsts (All p accesses b) (kept_in c.args.into.now) (kept_in c.add_inside.new.into)) (sym here)
    (adds_front p x.label (code x.kind) (codes (drop k xs)) (kept_in c.args.into.now) (kept_in c.loop-place.into)
    (kept_in c.add_inside.new.into) c.loop-place.invariant whole)

pub add_block-returns : goal.add_block-returns
add_block-returns t c =
    let first : c.loop-place.place ≡ 0 = omega arith in
    subst (λ k. AddsFirsts (All (program c.args.code.now) accesses (codes (drop k c.args.block.now))) (kept_in c.args.into.now)
    (kept_in c.loop-place.into)) first c.loop-place.invariant

pub add_inside-add_block-requires : goal.add_inside-add_block-requires
add_inside-add_block-requires t c =
    let is = is_If _ c.in-If.guard c.in-If.body c.in-If.other c.deref.result.now c.in-If.other.items c.in-If.is c.deref.ensures.value refl in
    let inside = is_inside (program c.args.code.now) c.args.statement.now.label (code c.args.statement.now.kind) _ _ c.requires.there is Block.if_body in
    (omega (arith, inside.small), (c.requires.sound, (c.requires.summaries, inside.part)))

pub add_inside-add_block-requires-in-If : goal.add_inside-add_block-requires-in-If
add_inside-add_block-requires-in-If t c =
    let is = is_If _ c.in-If.guard c.in-If.body c.in-If.other c.in-If.body.items c.deref-in-If.result.now c.in-If.is refl c.deref-in-If.ensures.value in
    let inside = is_inside (program c.args.code.now) c.args.statement.now.label (code c.args.statement.now.kind) _ _ c.requires.there is Block.if_other in
    (omega (arith, inside.small), (c.requires.sound, (c.requires.summaries, inside.part)))

pub add_inside-add_block-requires-in-Rescue : goal.add_inside-add_block-requires-in-Rescue
add_inside-add_block-requires-in-Rescue t c =
    let is = is_Rescue _ c.in-Rescue.body c.in-Rescue.faults c.in-Rescue.handler c.deref-in-Rescue.result.now c.in-Rescue.handler.items
    c.in-Rescue.is c.deref-in-Rescue.ensures.value refl in
    let inside = is_inside (program c.args.code.now) c.args.statement.now.label (code c.args.statement.now.kind) _ _ c.requires.there is Block.rescued in
    (omega (arith, inside.small), (c.requires.sound, (c.requires.summaries, inside.part)))

pub add_inside-add_block-requires-in-Rescue-2 : goal.add_inside-add_block-requires-in-Rescue-2
add_inside-add_block-requires-in-Rescue-2 t c =
    let is = is_Rescue _ c.in-Rescue.body c.in-Rescue.faults c.in-Rescue.handler c.in-Rescue.body.items c.deref-in-Rescue-2.result.now
    c.in-Rescue.is refl c.deref-in-Rescue-2.ensures.value in
    let inside = is_inside (program c.args.code.now) c.args.statement.now.label (code c.args.statement.now.kind) _ _ c.requires.there is Block.handler in
    (omega (arith, inside.small), (c.requires.sound, (c.requires.summaries, inside.part)))

pub add_inside-add_block-requires-in-While : goal.add_inside-add_block-requires-in-While
add_inside-add_block-requires-in-While t c =
    let k = c.args.statement.now.kind in
    let b = c.deref-in-While.result.now in
    let block = of_same k c.in-While.body (λ s. Block s (codes b)) b c.deref-in-While.ensures.value c.in-While.is (λ t. Block.while) Block.async Block.finish in
    let inside = is_inside (program c.args.code.now) c.args.statement.now.label (code k) (code k) (codes b) c.requires.there refl block in
    (omega (arith, inside.small), (c.requires.sound, (c.requires.summaries, inside.part)))

pub add_inside-add_block-requires-in-Split : goal.add_inside-add_block-requires-in-Split
add_inside-add_block-requires-in-Split t c =
    let is = is_Split _ c.in-Split.sides c.in-Split.body c.deref-in-Split.result.now c.in-Split.is c.deref-in-Split.ensures.value in
    let inside = is_inside (program c.args.code.now) c.args.statement.now.label (code c.args.statement.now.kind) _ _ c.requires.there is Block.split in
    (omega (arith, inside.small), (c.requires.sound, (c.requires.summaries, inside.part)))

pub add_inside-add_block-requires-in-Parts : goal.add_inside-add_block-requires-in-Parts
add_inside-add_block-requires-in-Parts t c =
    let is = is_Parts _ c.in-Parts.pieces c.in-Parts.body c.deref-in-Parts.result.now c.in-Parts.is c.deref-in-Parts.ensures.value in
    let inside = is_inside (program c.args.code.now) c.args.statement.now.label (code c.args.statement.now.kind) _ _ c.requires.there is Block.parts in
    (omega (arith, inside.small), (c.requires.sound, (c.requires.summaries, inside.part)))

pub add_inside-returns-in-While : goal.add_inside-returns-in-While
add_inside-returns-in-While t c =
    let old = kept_in c.args.into.now in
    let new = kept_in c.add_block-in-While.new.into in
    on_ok_weaker c.add_block-in-While.result
    (λ h. of_same c.args.statement.now.kind c.in-While.body (λ s. AddsFirsts (AllInside (program c.args.code.now) accesses s) old new)
    c.deref-in-While.result.now c.deref-in-While.ensures.value c.in-While.is (λ t. h) h h)
    c.add_block-in-While.ensures

pub add_inside-returns-in_ok-add_block-in-If : goal.add_inside-returns-in_ok-add_block-in-If
add_inside-returns-in_ok-add_block-in-If t c =
    let p = program c.args.code.now in
    let is = is_If _ c.in-If.guard c.in-If.body c.in-If.other c.deref.result.now c.deref-in-If.result.now c.in-If.is c.deref.ensures.value c.deref-in-If.ensures.value in
    on_ok_weaker c.add_block-in-If.result
    (λ h. subst (λ (k : Code). AddsFirsts (AllInside p accesses k) (kept_in c.args.into.now) (kept_in c.add_block-in-If.new.into)) (sym is)
    (adds_then (All p accesses (codes c.deref.result.now)) (All p accesses (codes c.deref-in-If.result.now)) (kept_in c.args.into.now)
    (kept_in c.add_block.new.into) (kept_in c.add_block-in-If.new.into) c.in_ok-add_block-in-If.ensures h))
    c.add_block-in-If.ensures

pub add_inside-returns-in_ok-add_block-in-Rescue : goal.add_inside-returns-in_ok-add_block-in-Rescue
add_inside-returns-in_ok-add_block-in-Rescue t c =
    let p = program c.args.code.now in
    let first = c.deref-in-Rescue.result.now in
    let second = c.deref-in-Rescue-2.result.now in
    let is = is_Rescue _ c.in-Rescue.body c.in-Rescue.faults c.in-Rescue.handler first second c.in-Rescue.is c.deref-in-Rescue.ensures.value
    c.deref-in-Rescue-2.ensures.value in
    let new = kept_in c.add_block-in-Rescue-2.new.into in
    on_ok_weaker c.add_block-in-Rescue-2.result
    (λ h. subst (λ (k : Code). AddsFirsts (AllInside p accesses k) (kept_in c.args.into.now) new) (sym is)
    (adds_then (All p accesses (codes first)) (All p accesses (codes second)) (kept_in c.args.into.now)
    (kept_in c.add_block-in-Rescue.new.into) new c.in_ok-add_block-in-Rescue.ensures h))
    c.add_block-in-Rescue-2.ensures

pub add_inside-returns-in_ok-outside-in-Split : goal.add_inside-returns-in_ok-outside-in-Split
add_inside-returns-in_ok-outside-in-Split t c =
    let p = program c.args.code.now in
    let out = past_split c.in-Split.sides.section.number c.in-Split.sides.left.number c.in-Split.sides.right.number in
    let b = codes c.deref-in-Split.result.now in
    let is = is_Split _ c.in-Split.sides c.in-Split.body c.deref-in-Split.result.now c.in-Split.is c.deref-in-Split.ensures.value in
    let inside = kept_in c.add_block-in-Split.new.into in
    let outside = kept_in c.in_ok-outside-in-Split.outside in
    let renamed_firsts : AreFirsts (Renamed p accesses out (All p accesses b)) outside =
    firsts_of_firsts (Renamed p accesses out (All p accesses b)) (map (renamed out) inside) outside
    (firsts_renamed p out (All p accesses b) inside
    (firsts_added (All p accesses b) (kept_in c.new-inside.result) inside c.new-inside.ensures c.in_ok-add_block-in-Split.ensures))
    c.in_ok-outside-in-Split.ensures in
    on_ok_weaker c.add_all.result
    (λ h. subst (λ (k : Code). AddsFirsts (AllInside p accesses k) (kept_in c.args.into.now) (kept_in c.add_all.new.self)) (sym is)
    (adds_firsts (Renamed p accesses out (All p accesses b)) outside (kept_in c.args.into.now) (kept_in c.add_all.new.self) renamed_firsts
    (subst (λ xs. AreFirstsIn (map access xs ++ kept_in c.args.into.now) (kept_in c.add_all.new.self)) c.items.ensures h)))
    c.add_all.ensures

pub add_inside-returns-in_ok-outside-in-Parts : goal.add_inside-returns-in_ok-outside-in-Parts
add_inside-returns-in_ok-outside-in-Parts t c =
    let p = program c.args.code.now in
    let out = past_parts c.in-Parts.pieces.section.number c.in-Parts.pieces.piece.number in
    let b = codes c.deref-in-Parts.result.now in
    let is = is_Parts _ c.in-Parts.pieces c.in-Parts.body c.deref-in-Parts.result.now c.in-Parts.is c.deref-in-Parts.ensures.value in
    let inside = kept_in c.add_block-in-Parts.new.into in
    let outside = kept_in c.in_ok-outside-in-Parts.outside in
    let renamed_firsts : AreFirsts (Renamed p accesses out (All p accesses b)) outside =
    firsts_of_firsts (Renamed p accesses out (All p accesses b)) (map (renamed out) inside) outside
    (firsts_renamed p out (All p accesses b) inside
    (firsts_added (All p accesses b) (kept_in c.new-inside-in-Parts.result) inside c.new-inside-in-Parts.ensures c.in_ok-add_block-in-Parts.ensures))
    c.in_ok-outside-in-Parts.ensures in
    on_ok_weaker c.add_all-in-Parts.result
    (λ h. subst (λ (k : Code). AddsFirsts (AllInside p accesses k) (kept_in c.args.into.now) (kept_in c.add_all-in-Parts.new.self)) (sym is)
    (adds_firsts (Renamed p accesses out (All p accesses b)) outside (kept_in c.args.into.now) (kept_in c.add_all-in-Parts.new.self) renamed_firsts
    (subst (λ xs. AreFirstsIn (map access xs ++ kept_in c.args.into.now) (kept_in c.add_all-in-Parts.new.self)) c.items-in-Parts.ensures h)))
    c.add_all-in-Parts.ensures

pub add_inside-add_call-requires-clause-there : goal.add_inside-add_call-requires-clause-there
add_inside-add_call-requires-clause-there t c =
    (is_call (program c.args.code.now) c.requires.sound c.args.statement.now.label (code c.args.statement.now.kind)
    c.in-Call.procedure.number _ _ c.requires.there (ap code c.in-Call.is)).there

pub add_inside-add_call-requires-clause-number : goal.add_inside-add_call-requires-clause-number
add_inside-add_call-requires-clause-number t c =
    ap length c.deref-in-Call.ensures.value ∙ sym (length-map c.in-Call.sections.items section)
    ∙ (is_call (program c.args.code.now) c.requires.sound c.args.statement.now.label (code c.args.statement.now.kind)
    c.in-Call.procedure.number _ _ c.requires.there (ap code c.in-Call.is)).number

pub add_inside-returns-in-Call : goal.add_inside-returns-in-Call
add_inside-returns-in-Call t c =
    let p = program c.args.code.now in
    let those = All p accesses (procedure_of p c.in-Call.procedure.number).body in
    let old = kept_in c.args.into.now in
    let new = kept_in c.add_call.new.into in
    on_ok_weaker c.add_call.result
    (λ h. subst (λ (k : Code). AddsFirsts (AllInside p accesses k) old new) (sym (ap code c.in-Call.is))
    (subst (λ xs. AddsFirsts (Renamed p accesses (passed_for (map section xs)) those) old new) c.deref-in-Call.ensures.value h))
    c.add_call.ensures

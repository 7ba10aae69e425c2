use Rattle.std.proofs.Common.{◌≡◌, length, rules, arith}
use Rattle.std.specs.Iterator.Adapters.{zip_first, zip_second}
use Rattle.std.specs.Slice.Iter.{iter_rest}
use Rattle.std.proofs.lemmas.Slice.Zip.{zip_turn, zip_end, length-zip}
use Rattle.std.proofs.lemmas.List.{length_push}
use Rattle.printing.proofs.Appending.{fails, first_more, first_begins, first_all}
use Rattle.printing.proofs.OutcomeText.{zip_at, zip_inside}
use Rattle.printing.proofs.emit.emit_arrays.Goals as goal

pub loop-array-preserved : goal.loop-array-preserved
loop-array-preserved g c =
    let first : iter_rest (zip_first c.into_iter-array-iterator.result) ≡ c.args.declared.now = search rules in
    let second : iter_rest (zip_second c.into_iter-array-iterator.result) ≡ c.args.contents.now = search rules in
    let turn = zip_turn c.args.declared.now c.args.contents.now c.loop-array.yielded c.into_iter-array-iterator.result
    c.loop-array.array-iterator c.next.new.self c.next.result first second c.loop-array.yielded_by
    (c.in-Some.array, c.in-Some.elements) c.in-Some.is c.next.ensures.steps in
    let pair = zip_at c.args.declared.now c.args.contents.now (length c.loop-array.yielded) c.in-Some.array.now
    c.in-Some.elements.now turn.0 turn.1 (turn.2 _) (turn.3 _) in
    let inside = zip_inside c.args.declared.now c.args.contents.now (length c.loop-array.yielded) turn.0 turn.1 in
    rw (length_push c.loop-array.yielded (c.in-Some.array, c.in-Some.elements))
    (first_more _ _ (length c.loop-array.yielded) _ _ _ _ _ inside pair c.loop-array.invariant
    (rw c.deref.ensures.value at c.in_ok-emit_array.ensures))

pub returns-in_err-emit_array : goal.returns-in_err-emit_array
returns-in_err-emit_array g c =
    let first : iter_rest (zip_first c.into_iter-array-iterator.result) ≡ c.args.declared.now = search rules in
    let second : iter_rest (zip_second c.into_iter-array-iterator.result) ≡ c.args.contents.now = search rules in
    let turn = zip_turn c.args.declared.now c.args.contents.now c.loop-array.yielded c.into_iter-array-iterator.result
    c.loop-array.array-iterator c.next.new.self c.next.result first second c.loop-array.yielded_by
    (c.in-Some.array, c.in-Some.elements) c.in-Some.is c.next.ensures.steps in
    let pair = zip_at c.args.declared.now c.args.contents.now (length c.loop-array.yielded) c.in-Some.array.now
    c.in-Some.elements.now turn.0 turn.1 (turn.2 _) (turn.3 _) in
    let inside = zip_inside c.args.declared.now c.args.contents.now (length c.loop-array.yielded) turn.0 turn.1 in
    let failed = rw c.deref.ensures.value at c.in_err-emit_array.ensures in
    fails _ c.from_residual.ensures.0 (first_begins _ _ (length c.loop-array.yielded) _ _ _ _ _ inside pair c.loop-array.invariant failed)

pub returns : goal.returns
returns g c =
    let first : iter_rest (zip_first c.into_iter-array-iterator.result) ≡ c.args.declared.now = search rules in
    let second : iter_rest (zip_second c.into_iter-array-iterator.result) ≡ c.args.contents.now = search rules in
    let all = zip_end c.args.declared.now c.args.contents.now c.loop-array.yielded c.into_iter-array-iterator.result
    c.loop-array.array-iterator c.next.new.self c.next.result first second c.loop-array.yielded_by c.in-None.is
    c.next.ensures.steps in
    let pairs = length-zip c.args.declared.now c.args.contents.now in
    first_all _ _ (length c.loop-array.yielded) _ _ (omega (arith, all, pairs)) c.loop-array.invariant

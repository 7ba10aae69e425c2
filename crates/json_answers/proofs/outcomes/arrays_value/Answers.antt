use Rattle.std.proofs.Common.{◌≡◌, ◌∙◌, ap, sym, length, rules, arith}
use Rattle.std.specs.Iterator.Adapters.{zip_first, zip_second}
use Rattle.std.specs.List.{zip}
use Rattle.std.specs.Slice.Iter.{iter_rest}
use Rattle.std.proofs.lemmas.Slice.Zip.{zip_turn, zip_end, length-zip}
use Rattle.std.proofs.lemmas.List.{length_push}
use Rattle.serde_json.specs.Data.{no_members, object}
use Rattle.serde_json.specs.View.{members_view}
use Rattle.serde_json.proofs.Views.{view-Object}
use Rattle.types.specs.Translation.{array}
use Rattle.printing.proofs.OutcomeText.{zip_at, zip_inside}
use Rattle.json_answers.specs.Outcomes.{put_arrays}
use Rattle.json_answers.proofs.Seen.{put_more, put_all, zip-map}
use Rattle.json_answers.proofs.outcomes.arrays_value.Goals as goal

pub loop-array-preserved : goal.loop-array-preserved
loop-array-preserved c =
    let first : iter_rest (zip_first c.into_iter-array-iterator.result) ≡ c.args.declared.now = search rules in
    let second : iter_rest (zip_second c.into_iter-array-iterator.result) ≡ c.args.contents.now = search rules in
    let turn = zip_turn c.args.declared.now c.args.contents.now c.loop-array.yielded c.into_iter-array-iterator.result
    c.loop-array.array-iterator c.next.new.self c.next.result first second c.loop-array.yielded_by
    (c.in-Some.array, c.in-Some.numbers) c.in-Some.is c.next.ensures.steps in
    let n = length c.loop-array.yielded in
    let pair = zip_at c.args.declared.now c.args.contents.now n c.in-Some.array.now
    c.in-Some.numbers.now turn.0 turn.1 (turn.2 _) (turn.3 _) in
    let inside = zip_inside c.args.declared.now c.args.contents.now n turn.0 turn.1 in
    rw (length_push c.loop-array.yielded (c.in-Some.array, c.in-Some.numbers))
    (rw (c.in_ok-put.ensures.ok, c.as_str.ensures.value, c.in_ok-numbers.ensures, c.deref.ensures.value)
    (put_more _ (zip c.args.declared.now c.args.contents.now) n (c.in-Some.array.now, c.in-Some.numbers.now) _ _ inside pair c.loop-array.invariant))

pub returns : goal.returns
returns c =
    let first : iter_rest (zip_first c.into_iter-array-iterator.result) ≡ c.args.declared.now = search rules in
    let second : iter_rest (zip_second c.into_iter-array-iterator.result) ≡ c.args.contents.now = search rules in
    let all = zip_end c.args.declared.now c.args.contents.now c.loop-array.yielded c.into_iter-array-iterator.result
    c.loop-array.array-iterator c.next.new.self c.next.result first second c.loop-array.yielded_by c.in-None.is
    c.next.ensures.steps in
    let pairs = length-zip c.args.declared.now c.args.contents.now in
    view-Object c.loop-array.arrays
    ∙ ap object (put_all _ (zip c.args.declared.now c.args.contents.now) (length c.loop-array.yielded)
    (members_view c.loop-array.arrays.entries) (omega (arith, all, pairs)) c.loop-array.invariant)
    ∙ ap (λ xs. object (put_arrays xs no_members)) (sym (zip-map array (λ v. v.items) c.args.declared.now c.args.contents.now))

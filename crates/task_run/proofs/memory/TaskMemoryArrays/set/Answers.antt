use Rattle.std.proofs.Common.{◌≡◌, ◌+◌, ap, arith, ◌∙◌, w64, to_z, of_z}
use Rattle.std.proofs.lemmas.Bool.{OnTrue_at, OnTrue_from}
use Rattle.std.proofs.lemmas.Int.{to_z-of_z}
use Rattle.std.specs.Bool.{OnFalse, OnTrue}
use Rattle.std.specs.Prelude.{ℤ, nat_abs, slice_index_or, Bool, IsSome, true, false}
use Rattle.sections.specs.Place.{Place}
use Rattle.types.specs.Contents.{write}
use Rattle.holdings.specs.Held.{Held, Map, Owned, numbers, owned, put}
use Rattle.holdings.specs.Holdings.{held}
use Rattle.holdings.specs.Reach.{place_at}
use Rattle.serial_run.specs.declared.spot.Span.{Span}
use Rattle.task_run.proofs.HeldPlaces.{numbers-put, owned-put, owns}
use Rattle.task_run.proofs.SpanLemmas.{in_span, placed, span_at, span_fits, where-kept}
use Rattle.task_run.proofs.memory.TaskMemoryArrays.set.Goals as goal

-- the set of owned places is unchanged, whether the place was written or not
stays_owned : (b : Bool) (q : Place) (v : ℤ) (old new : Map Held) → OnTrue b (new ≡ put q (Owned v) old)
    → OnTrue b (IsSome (owned old q)) → OnFalse b (new ≡ old) → owns new ≡ owns old
stays_owned true q v old new written there same = ap owns written ∙ owned-put q v old there
stays_owned false q v old new written there same = ap owns same

pub overflow_add-at : goal.overflow_add-at
overflow_add-at c =
    let h = c.args.self.now.holdings in let ws = c.args._windows.now in
    let fits = span_fits h _ _ (nat_abs (to_z w64 (of_z w64 c.args.index)))
    (span_at h ws c.args.spans.now c.args.section _ c.requires.finds c.requires.section) c.if-index-span.false in
    omega (arith, fits)

pub set_at-requires : goal.set_at-requires
set_at-requires c =
    let h = c.args.self.now.holdings in let ws = c.args._windows.now in
    in_span h _ _ (nat_abs (to_z w64 (of_z w64 c.args.index))) (span_at h ws c.args.spans.now c.args.section _ c.requires.finds c.requires.section)
    c.if-index-span.false

pub returns-clause-written : goal.returns-clause-written
returns-clause-written c =
    let h = c.args.self.now.holdings in let ws = c.args._windows.now in
    let m = held h in
    let s : Span = slice_index_or c.args.spans.now c.args.section (record { row = 0; at = 0; len = 0 }) in
    let q : Place = place_at h.rows.list.items s.row (s.at + nat_abs (to_z w64 (of_z w64 c.args.index))) in
    let is = span_at h ws c.args.spans.now c.args.section _ c.requires.finds c.requires.section in
    let there = placed h _ s c.args.index c.ranges.index c.if-index-lt0.false is c.if-index-span.false in
    OnTrue_from c.set_at.result _ (λ yes. record {
      place = q;
      there = there;
      written = ap numbers (OnTrue_at yes c.set_at.ensures.written) ∙ numbers-put q _ m
          ∙ ap (λ (v : ℤ). write q v (numbers m)) (to_z-of_z w64 c.args.value c.ranges.value);
    })

pub returns-clause-shape : goal.returns-clause-shape
returns-clause-shape c =
    let h = c.args.self.now.holdings in
    let s : Span = slice_index_or c.args.spans.now c.args.section (record { row = 0; at = 0; len = 0 }) in
    stays_owned c.set_at.result (place_at h.rows.list.items s.row (s.at + nat_abs (to_z w64 (of_z w64 c.args.index)))) _ (held h)
    (held c.set_at.new.self) c.set_at.ensures.written c.set_at.ensures.owned c.set_at.ensures.unchanged

pub returns-clause-finds : goal.returns-clause-finds
returns-clause-finds c = where-kept c.args.self.now.holdings c.set_at.new.self c.set_at.ensures.lie

use Rattle.std.proofs.Common.{◌≡◌, ◌-◌, ◌<◌, ◌≤◌, List, [], ◌∷◌, ◌++◌, length, take, sym, ap, ◌∙◌, subst, arith}
use Rattle.std.specs.Prelude.{slice_index_or}
use Rattle.serial_run.specs.declared.code.Flat.{Flat}
use Rattle.task_run.specs.declared.frame.TaskFrame.{TaskFrame as rFrame}
use Rattle.task_run.proofs.RunTops.{ends_in_last, one_there}
use Rattle.task_run.proofs.run.Run.next_piece.Goals as goal

pub returns-then-has_room_for : goal.returns-then-has_room_for
returns-then-has_room_for c =
    let m = c.args.self.now in
    let gs = c.deref.result.now in
    let some = c.in-Some.ensures.item.3.0 in
    let hs = take (length gs - 1) gs in
    let fs = c.deref-2.result.now in
    let number = c.in-Some-piece.number in
    let codes = c.deref-2.ensures.value in
    let lt = c.in-Some-get.ensures.lookup.3.0 in
    let it = c.in-Some-get.flat.now in
    let same : (f : Flat) → slice_index_or c.args.code.now.codes.items number f ≡ f → it ≡ f
    = λ f at.
    one_there fs number it f lt c.in-Some-get.ensures.lookup.1
    (subst (λ (fs : List Flat). slice_index_or fs number f ≡ f) (sym codes) at) in
    record {
      on = c.in-On.is;
      below = hs;
      block = c.in-Rest.block;
      first = c.in-Some-split_first.stmt.now;
      top = sym c.deref.ensures.value
          ∙ ends_in_last gs c.in-Some.top.now (length gs - 1) (omega (arith, some)) c.in-Some.ensures.item.1
          ∙ ap (λ (g : rFrame). hs ++ g ∷ []) c.in-Rest.is;
      parts = c.in-Some-split_first.ensures.cases.0;
      piece = c.in-Some-piece.ensures;
      there = subst (λ (fs : List Flat). number < length fs) codes lt;
      flat = it;
      read = subst (λ (fs : List Flat). slice_index_or fs number it ≡ it) codes (sym c.in-Some-get.ensures.lookup.1);
      scalars = λ f at.
          subst (λ (f : Flat). length m.thread.environment.scalars.items ≤ f.limits.scalars) (same f at) c.if-has_room_for.ensures.scalars;
      sections = λ f at.
          subst (λ (f : Flat). length m.thread.environment.windows.items ≤ f.limits.sections) (same f at) c.if-has_room_for.ensures.sections;
    }

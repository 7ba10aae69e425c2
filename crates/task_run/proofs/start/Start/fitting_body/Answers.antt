use Rattle.std.proofs.Common.{◌≡◌, ◌<◌, ◌≤◌, List, length, sym, subst}
use Rattle.std.specs.Prelude.{slice_index_or}
use Rattle.serial_run.specs.declared.code.Flat.{Flat}
use Rattle.task_run.proofs.RunTops.{one_there}
use Rattle.task_run.proofs.start.Start.fitting_body.Goals as goal

pub returns-then-has_room_for : goal.returns-then-has_room_for
returns-then-has_room_for c =
    let s = c.args.self.now in
    let fs = c.deref.result.now in
    let number = c.in-Some.body.number in
    let codes = c.deref.ensures.value in
    let lt = c.in-Some-get.ensures.lookup.3.0 in
    let it = c.in-Some-get.flat.now in
    let same : (f : Flat) → slice_index_or c.args.code.now.codes.items number f ≡ f → it ≡ f
    = λ f at.
    one_there fs number it f lt c.in-Some-get.ensures.lookup.1
    (subst (λ (fs : List Flat). slice_index_or fs number f ≡ f) (sym codes) at) in
    record {
      body = c.in-Some.ensures;
      there = subst (λ (fs : List Flat). number < length fs) codes lt;
      flat = it;
      read = subst (λ (fs : List Flat). slice_index_or fs number it ≡ it) codes (sym c.in-Some-get.ensures.lookup.1);
      scalars = λ f at.
          subst (λ (f : Flat). length s.environment.scalars.items ≤ f.limits.scalars) (same f at) c.if-has_room_for.ensures.scalars;
      sections = λ f at.
          subst (λ (f : Flat). length s.environment.windows.items ≤ f.limits.sections) (same f at) c.if-has_room_for.ensures.sections;
    }

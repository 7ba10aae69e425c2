use Rattle.std.proofs.Common.{◌≡◌, ◌∙◌, ◌+◌, ◌-◌, ◌≤◌, ℕ, List, Result, Ok, Err, IfOk, Vec, Global, None, arith, fold, length, map, refl, ap, subst, sym}
use Rattle.std.specs.Prelude.{Option, MatchResult, Contains}
use Rattle.std.specs.List.{AllZip, range_with_len}
use Rattle.std.specs.declared.alloc.AllocError.{AllocError}
use Rattle.std.proofs.Crossing.{crosses}
use Rattle.std.proofs.lemmas.List.{length-map}
use denote.Param.Send.{sendable}
use Rattle.rayon.specs.Lists.{map_f, min_len_base, range_start, range_end}
use Rattle.rayon.specs.Numbers.{nat_range}
use Rattle.rayon.proofs.ToStd.{nat_range-All}
use Rattle.types.specs.Code.{Program}
use Rattle.types.specs.Translation.{procedure, program}
use Rattle.race_checker.specs.Races.{IsRaceIn, LeastOf}
use Rattle.race_checker.specs.Search.{lesser_of}
use Rattle.race_checker.specs.Translation.{found}
use Rattle.race_checker.specs.declared.race.Race.{Race}
use Rattle.race_checker.proofs.Judging.{IsRaceBelow, least_of_more, least_of_program, none_below}
use Rattle.race_checker.proofs.check.least_race.Goals as goal

pub collect-requires-clause-ready : goal.collect-requires-clause-ready
collect-requires-clause-ready g c κs within =
    let items = c.args.code.now.procedures.items in
    let number : length (map procedure items) ≡ length items = length-map items procedure in
    let ends = c.into_par_iter.ensures in
    let inside = nat_range-All (λ n. n ≤ length (map procedure items)) 0 (length items + 1) (λ n low high. omega arith) in
    let last : c.len.result + 1 ≡ length items + 1 = omega (arith, c.len.ensures) in
    rw (c.map.ensures.f, c.map.ensures.base, c.with_min_len.ensures.base, ends.0, ends.1, last)
    (λ n d lt. let here = inside n d lt in ((search (sendable, crosses) depth 40, (c.requires.sound, (c.requires.summaries, search (sendable, crosses, here) depth 40))), λ y q. tt))

pub returns : goal.returns
returns g c =
    let p = program c.args.code.now in
    let items = c.args.code.now.procedures.items in
    let number : length (map procedure items) ≡ length items = length-map items procedure in
    let ends = c.into_par_iter.ensures in
    let results = c.in_ok-collect.ensures.0 in
    let chain = c.in_ok-collect.ensures.1 in
    let told = subst (λ (r : Result (Vec (Option Race) Global) AllocError). MatchResult r
    (λ v. (ys : List (Option Race)) × (results ≡ map Ok ys) × (v.items ≡ ys)) (λ e. Contains results (Err e))) c.in_ok-races.was c.in_ok-collect.ensures.2 in
    let whole : c.len.result + 1 - 0 ≡ length items + 1 = omega (arith, c.len.ensures) in
    let numbers = chain.1
    ∙ ap (λ it. nat_range (range_start (min_len_base it)) (range_end (min_len_base it))) c.map.ensures.base
    ∙ ap (λ it. nat_range (range_start it) (range_end it)) c.with_min_len.ensures.base
    ∙ (λ i. nat_range (ends.0 i) (ends.1 i)) ∙ ap (range_with_len 0) whole in
    let IsTold = λ (w : Program) (f : ℕ) (r : Result (Option Race) AllocError). IfOk r (λ race. LeastOf (IsRaceIn w f) (found race)) in
    let same : program (map_f c.map.result).2.now ≡ p = ap (λ cl. program cl.2.now) c.map.ensures.f in
    let each = subst (λ w. AllZip (IsTold w) (range_with_len 0 (length items + 1)) (map Ok told.0)) same
    (subst (λ ns. AllZip (IsTold (program (map_f c.map.result).2.now)) ns (map Ok told.0)) numbers
    (subst (λ rs. AllZip (IsTold (program (map_f c.map.result).2.now)) chain.0 rs) told.1 chain.2)) in
    let below = least_of_more p AllocError 0 (length items + 1) None told.0 (none_below p None refl) each in
    let least = c.least_of.ensures ∙ ap (λ rs. fold lesser_of None (map found rs)) (c.deref.ensures.value ∙ told.2) in
    least_of_program p (0 + (length items + 1)) (found c.least_of.result) (omega arith)
    (subst (LeastOf (IsRaceBelow p (0 + (length items + 1)))) (sym least) below)

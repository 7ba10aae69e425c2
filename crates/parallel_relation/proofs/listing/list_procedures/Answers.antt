use Rattle.std.proofs.Common.{◌≡◌, ◌<◌, length, arith, rules}
use Rattle.std.proofs.lemmas.List.{length-map}
use Rattle.types.specs.Translation.{program, procedure}
use Rattle.parallel_relation.proofs.ListingLemmas.{lists_next, lists_all}
use Rattle.parallel_relation.proofs.listing.list_procedures.Goals as goal

pub loop-number-preserved : goal.loop-number-preserved
loop-number-preserved c =
    let p = program c.args.code.now in
    let n = c.loop-number.number in
    let within : n < length p.procedures = first_of (search (rules, length-map), grind (arith, length-map)) in
    record {
      number = omega (arith, c.in_ok-push.ensures.len, c.loop-number.invariant.number);
      listed = lists_next p c.loop-number.lists.items c.push.new.self.items _ n c.of-summary.result.now c.in_ok-push.ensures.items
          c.loop-number.invariant.number within (c.of-summary.ensures.exact p c.requires) c.in_ok-all.ensures c.in_ok-pending.ensures
          c.loop-number.invariant.listed;
    }

pub returns : goal.returns
returns c =
    let p = program c.args.code.now in
    let all : c.loop-number.number ≡ length p.procedures =
    omega (arith, c.len-number-end.ensures, length-map c.args.code.now.procedures.items procedure, c.loop-number-test.false, c.loop-number.auto.number-end) in
    lists_all p c.loop-number.lists.items c.loop-number.number c.loop-number.invariant.number all c.loop-number.invariant.listed

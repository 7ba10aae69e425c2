use Rattle.std.proofs.Common.{refl}
use Rattle.std.proofs.lemmas.Option.{IfSome_then}
use Rattle.sections.specs.Translation.{window}
use Rattle.holdings.proofs.ReachLemmas.{if-none, lies-in-no-row, lies-out-of-row, row-there}
use Rattle.holdings.proofs.WritingLemmas.{item_at, no_item_at}
use Rattle.holdings.proofs.rows.BlockRows.distance.Goals as goal

pub returns-in-None-clause-none : goal.returns-in-None-clause-none
returns-in-None-clause-none c =
    let h = c.in-None.ensures.lookup in
    lies-in-no-row c.args.self.now.list.items (window c.args.window) (no_item_at c.deref.ensures.value h.3)

pub returns-in-Some-clause-found : goal.returns-in-Some-clause-found
returns-in-Some-clause-found c =
    let rs = c.args.self.now.list.items in let a = c.args.window.array.number in
    let h = c.in-Some.ensures.lookup in
    let r = c.in-Some.row.now in
    let w = item_at c.deref.ensures.value h.3.0 h.1 in
    IfSome_then c.distance.result c.distance.ensures.found (λ at is. record {
      row = r;
      there = row-there rs a r w.0 w.1;
      begins = is.0;
      reaches = is.1;
    })

pub returns-in-Some-clause-none : goal.returns-in-Some-clause-none
returns-in-Some-clause-none c =
    let rs = c.args.self.now.list.items in let a = c.args.window.array.number in
    let h = c.in-Some.ensures.lookup in
    let w = item_at c.deref.ensures.value h.3.0 h.1 in
    if-none c.distance.result c.distance.ensures.none (lies-out-of-row rs a c.in-Some.row.now w.0 w.1 (window c.args.window) refl)

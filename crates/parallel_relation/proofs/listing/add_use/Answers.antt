use Rattle.std.proofs.Common.{refl, rules}
use Rattle.parallel_relation.proofs.ListingLemmas.{use_pushed}
use Rattle.parallel_relation.proofs.listing.add_use.Goals as goal

pub returns : goal.returns
returns c =
    use_pushed c.args.labels.now c.args.section.number c.args.write c.args.found.now.items c.push.new.self.items _ c.args.label
    c.in_ok-push.ensures.items refl (c.has.ensures.0 (search rules))

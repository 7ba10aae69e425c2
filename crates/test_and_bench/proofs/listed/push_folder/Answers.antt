use Rattle.std.proofs.Common.{map, refl, string_bytes}
use Rattle.test_and_bench.specs.Listing.{of_folder}
use Rattle.test_and_bench.proofs.listed.push_folder.Goals as goal

pub returns-in-Ok-clause-added : goal.returns-in-Ok-clause-added
returns-in-Ok-clause-added g c =
    let names = map string_bytes c.in_ok-names.names.items in
    record {
      ps = map (of_folder c.args.folder.now names) (map string_bytes c.in_ok-stems.stems.items);
      are = record {
        names = names;
        given = c.in_ok-names.ensures.given;
        stems = c.in_ok-stems.stems.items;
        all = rw c.deref.ensures.value at c.in_ok-stems.ensures.all;
        ordered = c.in_ok-stems.ensures.ordered;
        are = refl;
      };
      added = rw (c.deref-2.ensures.value, c.deref-3.ensures.value) at c.in-Ok.ensures;
    }

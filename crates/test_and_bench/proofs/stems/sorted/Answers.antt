use Rattle.std.proofs.Common.{List, ℕ, map, subst}
use Rattle.std.proofs.lemmas.List.Sorted.{IsPermutation-map}
use Rattle.std.specs.Prelude.{IsPermutation}
use Rattle.std.specs.String.{string_bytes}
use Rattle.test_and_bench.proofs.stems.sorted.Goals as goal

pub returns-clause-all : goal.returns-clause-all
returns-clause-all c =
    subst (λ (xs : List (List ℕ)). IsPermutation xs (map string_bytes c.sort.new.self.items)) c.in_ok-stems.ensures
    (IsPermutation-map string_bytes c.in_ok-stems.stems.items c.sort.new.self.items c.sort.ensures.permutation)

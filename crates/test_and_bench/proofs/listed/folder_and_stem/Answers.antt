use Rattle.std.proofs.Common.{ℕ, List, refl, subst}
use Rattle.std.specs.Str.Pattern.{RFindsChar, SplitsAroundMatch}
use Rattle.test_and_bench.specs.Listing.{alone, in_folder, in_root}
use Rattle.test_and_bench.proofs.Slashes.{empty_folder, some_folder}
use Rattle.test_and_bench.proofs.listed.folder_and_stem.Goals as goal

pub returns-then-is_empty : goal.returns-then-is_empty
returns-then-is_empty c =
    let stem = c.in-Some.stem.now in
    in_root (subst (λ (f : List ℕ). SplitsAroundMatch (RFindsChar 47) c.args.base.now f stem)
    (empty_folder c.in-Some.folder.now c.is_empty.result c.is_empty.ensures c.if-is_empty.true) c.in-Some.ensures.cases) refl

pub returns-else-is_empty : goal.returns-else-is_empty
returns-else-is_empty c =
    in_folder c.in-Some.ensures.cases
    (some_folder c.in-Some.folder.now c.is_empty.result c.is_empty.ensures c.if-is_empty.false)

pub returns-in-None : goal.returns-in-None
returns-in-None c = alone c.in-None.ensures.cases refl refl

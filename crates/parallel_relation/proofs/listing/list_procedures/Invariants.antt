use Rattle.std.proofs.Common.{◌≡◌, ◌<◌, ℕ, length}
use Rattle.types.specs.Translation.{program}
use Rattle.parallel_relation.specs.Listing.{IsListedAt}
use Rattle.parallel_relation.proofs.listing.list_procedures.Given as goal

-- the accesses of the procedures so far are listed
abbrev pub invariant-loop-number : goal.invariant-loop-number
invariant-loop-number l = record {
  number : length l.lists.items ≡ l.number;
  listed : (f : ℕ) → f < l.number → IsListedAt (program l.code) l.lists.items f;
}

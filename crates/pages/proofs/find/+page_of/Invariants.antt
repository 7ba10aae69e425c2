use Rattle.std.proofs.Common.{length}
use Rattle.pages.proofs.find.+page_of.Given as goal

-- the tables that are left
abbrev pub decreases-page_of : goal.decreases-page_of
decreases-page_of l = length l.tables.now

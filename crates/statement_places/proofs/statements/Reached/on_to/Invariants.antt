use Rattle.std.proofs.Common.{◌≡◌, ◌≤◌}
use Rattle.syntax.specs.Place.{place_at}
use Rattle.statement_places.proofs.statements.Reached.on_to.Given as goal

-- so far the place is right, and small
abbrev pub invariant-loop-i : goal.invariant-loop-i
invariant-loop-i l = record {
  right : l.place ≡ place_at l.text l.i;
  before : l.i ≤ l.at;
}

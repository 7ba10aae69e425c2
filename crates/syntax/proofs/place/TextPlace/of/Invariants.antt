use Rattle.std.proofs.Common.{◌≡◌, ◌≤◌, ◌+◌, take}
use Rattle.syntax.specs.Place.{line_behind, column_behind}
use Rattle.syntax.proofs.place.TextPlace.of.Given as goal

abbrev pub invariant-loop-i : goal.invariant-loop-i
invariant-loop-i l = record {
  before : l.i ≤ l.at;
  line_is : l.line ≡ line_behind (take l.i l.text);
  column_is : l.column ≡ column_behind (take l.i l.text);
  line : l.line ≤ l.i + 1;
  column : l.column ≤ l.i + 1;
}

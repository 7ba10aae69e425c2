use Rattle.std.proofs.Common.{◌≡◌, drop}
use Rattle.syntax.specs.Place.{place_at}
use Rattle.syntax.specs.Token.{plain}
use Rattle.statement_places.proofs.BegunLemmas.{IsFound}
use Rattle.statement_places.proofs.statements.begun.Given as goal

-- the current place is correct, and the statements so far are found
abbrev pub invariant-loop-spanned : goal.invariant-loop-spanned
invariant-loop-spanned l = record {
  reached : l.reached.place ≡ place_at l.text l.reached.at;
  found : IsFound l.text (plain l.tokens) (plain (drop l.spanned-index l.tokens)) l.ended l.places.items;
}

use Rattle.std.proofs.Common.{◌≡◌, ◌++◌, ◌∷◌, [], Some, ap, ◌∙◌}
use Rattle.std.specs.Prelude.{Option, option_to_list}
use Rattle.std.proofs.lemmas.List.Elements.{All-pop}
use Rattle.tickets.specs.declared.word.Seat.{Seat}
use Rattle.workers.specs.Words.{IsFresh}
use Rattle.workers.proofs.opening.open.Goals as goal

pub state_at-state-requires : goal.state_at-state-requires
state_at-state-requires g c =
    let seats = c.args.terms.word.seats.items in
    let rest = c.pop.new.self.items in
    let items : seats ≡ rest ++ c.in-Some.seat ∷ [] = c.pop.ensures.items ∙ ap (λ (o : Option Seat). rest ++ option_to_list o) c.in-Some.is in
    (All-pop (IsFresh c.args.terms.word.tickets) seats rest (Some c.in-Some.seat) items c.requires.word.each).1

pub make_all_parts-requires : goal.make_all_parts-requires
make_all_parts-requires g c =
    let seats = c.args.terms.word.seats.items in
    let rest = c.pop.new.self.items in
    let items : seats ≡ rest ++ c.in-Some.seat ∷ [] = c.pop.ensures.items ∙ ap (λ (o : Option Seat). rest ++ option_to_list o) c.in-Some.is in
    (All-pop (IsFresh c.args.terms.word.tickets) seats rest (Some c.in-Some.seat) items c.requires.word.each).0

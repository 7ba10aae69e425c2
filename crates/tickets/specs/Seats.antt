-- Definitions that contracts use for seats and for the word.
use Rattle.std.specs.Prelude.{◌≡◌, ℕ, List, All, flat_map, length, ◌≤◌}
use Rattle.atomic_table.specs.Seated.{TableId}
use Rattle.tickets.specs.Shares.{times, one_below}
use Rattle.tickets.specs.declared.drawing.Drawn.{Drawn}
use Rattle.tickets.specs.declared.drawing.Stub.{Stub}
use Rattle.tickets.specs.declared.drawing.Ticket.{Ticket}
use Rattle.tickets.specs.declared.word.Seat.{Seat}
use Rattle.tickets.specs.declared.word.Tickets.{Tickets}

-- the numbers that the seat drew, in order
abbrev pub drawn_of : Seat → List ℕ
drawn_of s = s.place.me.0.drawn

-- the numbers that all of these seats drew
abbrev pub drawn_by : List Seat → List ℕ
drawn_by = flat_map drawn_of

-- the seat is one of this word's
abbrev pub IsSeatOf : Tickets → Seat → Type 0
IsSeatOf t s = s.place.table_id ≡ t.table.shared.table_id

-- the number of seats of the word
abbrev pub seats_of : Tickets → ℕ
seats_of t = t.table.shared.key

-- what identifies a word
abbrev pub WordId : Type 0
WordId = TableId

abbrev pub id_of : Tickets → WordId
id_of t = t.table.shared.table_id

-- the word from which the ticket of a stub was drawn
abbrev pub word_of : Stub → WordId
word_of s = s.mark.table_id

-- the ticket was drawn from this word: it has its mark, and only a draw creates a ticket
abbrev pub IsTicketOf : Tickets → Ticket → Type 0
IsTicketOf t ticket = ticket.mark.table_id ≡ t.table.shared.table_id

-- the number is that of this word's draws: it has its mark, and only closing the word creates it
abbrev pub IsCountOf : Tickets → Drawn → Type 0
IsCountOf t drawn = drawn.mark.table_id ≡ t.table.shared.table_id

-- together these seats drew the numbers below n, each once
abbrev pub AreOnly : (n : ℕ) → List Seat → Type 0
AreOnly n seats = (x : ℕ) → times x (drawn_by seats) ≡ one_below x n

-- so many seats drew the numbers below n, each once
pub record AreDrawn (count n : ℕ) : Type 0 where
  pub seats : List Seat
  pub all : length seats ≡ count
  pub once : AreOnly n seats

-- the ticket is one of those that so many seats drew: they drew the numbers below some n, each once
pub record WasDrawn (count : ℕ) (ticket : Ticket) : Type 0 where
  pub seats : List Seat
  pub all : length seats ≡ count
  pub n : ℕ
  pub once : AreOnly n seats
  pub among : 1 ≤ times ticket.number (drawn_by seats)

-- the number of this word's draws: all of its seats drew the numbers below it, each once
pub record AreAllOf (t : Tickets) (drawn : Drawn) : Type 0 where
  pub word : IsCountOf t drawn
  pub seats : List Seat
  pub of : All (IsSeatOf t) seats
  pub all : length seats ≡ seats_of t
  pub once : AreOnly drawn.number seats

-- the ticket was drawn on one of this word's seats, all of which drew the numbers below some n, each once
pub record WasDrawnFrom (t : Tickets) (ticket : Ticket) : Type 0 where
  pub word : IsTicketOf t ticket
  pub seats : List Seat
  pub of : All (IsSeatOf t) seats
  pub all : length seats ≡ seats_of t
  pub n : ℕ
  pub once : AreOnly n seats
  pub among : 1 ≤ times ticket.number (drawn_by seats)

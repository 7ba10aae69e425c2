-- The word from which the tasks of a run draw tickets.
use Rattle.std.specs.Prelude.{ℕ, ◌≡◌, [], All, Option, Some, vec_len}
use Rattle.tickets.specs.Seats.{IsSeatOf, WordId, drawn_of, id_of, seats_of, word_of}
use Rattle.tickets.specs.declared.drawing.Stub.{Stub}
use Rattle.tickets.specs.declared.word.Seat.{Seat}
use Rattle.tickets.specs.declared.word.Tickets.{Tickets}
use Rattle.workers.specs.declared.word.Word.{Word}

-- a seat of the run's tickets, on which nothing was drawn
abbrev pub IsFresh : Tickets → Seat → Type 0
IsFresh t s = IsSeatOf t s × (drawn_of s ≡ [])

-- a word from which nothing was drawn, with as many seats as workers, which are all of its seats
pub record IsFreshWord (workers : ℕ) (w : Word) : Type 0 where
  pub count : seats_of w.tickets ≡ workers
  pub all : vec_len w.seats ≡ workers
  pub each : All (IsFresh w.tickets) w.seats.items

-- the tasks of the run draw from this word
abbrev pub IsOwnWord : Option WordId → Tickets → Type 0
IsOwnWord w t = w ≡ Some (id_of t)

-- the ticket of this stub was drawn from the word of the run
abbrev pub IsOwnStub : Option WordId → Stub → Type 0
IsOwnStub w s = w ≡ Some (word_of s)

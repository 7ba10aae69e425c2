-- The meaning of the entries of a book.
use Rattle.weights.specs.declared.entry.Entry.{Entry}
use Rattle.weights.specs.Ledger.{Returned}

-- the returned weight that an entry represents
abbrev pub entry_of : Entry → Returned
entry_of e = record { path = e.path.turns.items; weight = e.weight }

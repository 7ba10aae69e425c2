use Rattle.witness.proofs.sharing.+lies_in.Given as goal

-- a section is a part of one with a smaller number
abbrev pub decreases-lies_in : goal.decreases-lies_in
decreases-lies_in l = l.inner.number

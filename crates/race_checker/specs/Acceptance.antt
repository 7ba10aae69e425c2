-- Whether a program is accepted, computed.
use Rattle.std.specs.Prelude.{ℕ, zero, suc, List, length, Bool, true, not, ◌&&◌, ◌||◌}
use Rattle.std.specs.List.{list_any}
use Rattle.sections.specs.Origins.{Origin}
use Rattle.sections.specs.Overlap.{overlap}
use Rattle.types.specs.Code.{Procedure, Program}
use Rattle.types.specs.Run.{procedure_of}
use Rattle.effects.specs.Accesses.{Access}
use Rattle.effects.specs.Effects.{accesses}
use Rattle.effects.specs.Tables.{Table}
use Rattle.effects.specs.Rounds.{summaries, pending_summaries}
use Rattle.parallel_relation.specs.Meetings.{met_in}

-- one of the two accesses writes, and their sections overlap
abbrev pub is_clash : List Origin → Access × Access → Bool
is_clash origins m = (m.0.write || m.1.write) && overlap origins m.0.section m.1.section

-- whether a procedure has a clash, by tables of what the procedures may do and leave pending
abbrev pub has_clash : (alls pendings : Table accesses) → Procedure → Bool
has_clash alls pendings g = list_any (is_clash g.sections) (met_in accesses alls pendings g.body)

module _ (p : Program) where
  -- whether a procedure has no clash
  abbrev pub accepts : Procedure → Bool
  accepts g = not (has_clash (summaries p) (pending_summaries p) g)

  -- whether none of the first n procedures has a clash
  abbrev pub accepts_below : ℕ → Bool
  accepts_below zero = true
  accepts_below (suc f) = accepts (procedure_of p f) && accepts_below f

  -- whether the program is accepted
  abbrev pub is_accepted : Bool
  is_accepted = accepts p.main && accepts_below (length p.procedures)

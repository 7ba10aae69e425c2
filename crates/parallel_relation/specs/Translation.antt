-- The Rust types as plain values.
use Rattle.std.specs.Prelude.{ℕ, List}
use Rattle.effects.specs.Translation.{access}
use Rattle.parallel_relation.specs.Order.{Meeting, meeting_key}
use Rattle.parallel_relation.specs.declared.meeting.Meeting.{Meeting as rMeeting}

-- a meeting
abbrev pub meeting : rMeeting → Meeting
meeting m = record { first = access m.first; second = access m.second }

-- the numbers by which it is ordered
abbrev pub key_in : rMeeting → List ℕ
key_in m = meeting_key (meeting m)

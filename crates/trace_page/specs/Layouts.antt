-- The layout of a trace, as `trace_layout` defines it.
use Rattle.std.specs.Prelude.{ℕ, ◌≡◌, List, [], ◌∷◌, Bool, true, false, codes, map, max}
use Rattle.std.specs.List.{flat_map}
use Rattle.serde_json.specs.Data.{Data, boolean, string}
use Rattle.trace_layout.specs.Rows.{rows_of}
use Rattle.trace_layout.specs.declared.finishes.Finish.{Finish}
use Rattle.trace_layout.specs.declared.moves.Steal.{Steal}
use Rattle.trace_layout.specs.declared.spells.Spell.{Spell}
use Rattle.trace_layout.specs.declared.spells.SpellEnd.{SpellEnd}
use Rattle.trace_layout.specs.declared.spells.SpellEnd.TheVariants.{Parked, Ended, Left, Going}
use Rattle.trace_layout.specs.declared.stretch.Stretch.{Stretch}
use Rattle.trace_page.specs.Pieces.{list_by, list_of, natural, or_null}

-- the letter of the end of a spell
abbrev pub ending_letter : SpellEnd → List ℕ
ending_letter Parked = codes "p"
ending_letter Ended = codes "e"
ending_letter Left = codes "l"
ending_letter Going = codes "g"

-- its first event, its last, its worker, and its end
abbrev pub spell_json : Spell → Data
spell_json s =
    list_of (natural s.first ∷ natural s.last ∷ natural s.worker ∷ string (ending_letter s.ending) ∷ [])

-- its event, the thief, and the worker from whom a task was stolen
abbrev pub steal_json : Steal → Data
steal_json s = list_of (natural s.at ∷ natural s.worker ∷ natural s.from ∷ [])

-- its first event, its last, whether it has passed then, at which event its owner parked, and its number
-- among the owner's
abbrev pub finish_items : Finish → List Data
finish_items f =
    natural f.first ∷ natural f.last ∷ boolean f.is_passed ∷ or_null natural f.parked
    ∷ natural f.name.number ∷ []

abbrev pub finish_json : Finish → Data
finish_json f = list_of (finish_items f)

-- the rows of the finishes' stretches, each from the first event to the last
pub record AreFinishRows (fs : List Finish) (d : Data) : Type 0 where
  pub stretches : List Stretch
  pub firsts : map (λ (s : Stretch). s.first) stretches ≡ map (λ (f : Finish). f.first) fs
  pub lasts : map (λ (s : Stretch). s.last) stretches ≡ map (λ (f : Finish). max f.first f.last) fs
  pub rows : d ≡ list_by natural (rows_of stretches)

-- `1` for an event on the longest chain
abbrev pub mark : Bool → List ℕ
mark true = codes "1"
mark false = codes "0"

-- a mark for each event
abbrev pub marks : List Bool → List ℕ
marks = flat_map mark

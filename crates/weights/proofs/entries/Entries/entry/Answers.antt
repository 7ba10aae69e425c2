use Rattle.std.proofs.Common.{◌≡◌, ◌∙◌, ap, subst, sym, Option, Some, length, List, ℕ, ◌≤◌, ◌+◌}
use Rattle.std.specs.Prelude.{option_map, slice_get, slice_range}
use Rattle.weights.specs.Ledger.{Returned}
use Rattle.std.proofs.lemmas.Option.{slice_get-map}
use Rattle.weights.specs.Lines.{said_by}
use Rattle.weights.specs.declared.entries.ReturnedWeight.{ReturnedWeight}
use Rattle.weights.proofs.Lines.{stands_at}
use Rattle.weights.proofs.entries.Entries.entry.Goals as goal

abbrev returned : List ℕ → ℕ → Option Returned
returned path weight = Some (record { path = path; weight = weight })

pub part_of-requires : goal.part_of-requires
part_of-requires c =
    let turns = c.self.inside.turns.items in
    let lines = c.self.inside.lines.items in
    let at : slice_get lines c.args.number ≡ Some c.in-Some.line =
    ap (λ (ls : List ReturnedWeight). slice_get ls c.args.number) (sym c.deref.ensures.value) ∙ sym c.line_at.ensures ∙ c.in-Some.is in
    subst (λ (xs : List ℕ). c.in-Some.line.at + c.in-Some.line.length ≤ length xs) (sym c.deref-in-Some.ensures.value)
    (stands_at turns lines c.args.number c.in-Some.line at c.self.invariant)

pub returns-in_ok-turns-in-Some : goal.returns-in_ok-turns-in-Some
returns-in_ok-turns-in-Some c =
    let turns = c.self.inside.turns.items in
    let lines = c.self.inside.lines.items in
    let line = c.in-Some.line in
    let at : slice_get lines c.args.number ≡ Some line =
    ap (λ (ls : List ReturnedWeight). slice_get ls c.args.number) (sym c.deref.ensures.value) ∙ sym c.line_at.ensures ∙ c.in-Some.is in
    let path : c.in_ok-turns-in-Some.turns.items ≡ slice_range turns line.at (line.at + line.length) =
    c.in_ok-turns-in-Some.ensures.items ∙ c.part_of.ensures
    ∙ ap (λ (xs : List ℕ). slice_range xs line.at (line.at + line.length)) c.deref-in-Some.ensures.value in
    ap (λ (p : List ℕ). returned p line.weight) path
    ∙ sym (slice_get-map (said_by turns) lines c.args.number ∙ ap (option_map (said_by turns)) at)
    ∙ ap (λ (rs : List Returned). slice_get rs c.args.number) c.self.view_is

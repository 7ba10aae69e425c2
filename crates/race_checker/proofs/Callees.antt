-- What a call may do, by the summary of its callee.
use Rattle.std.proofs.Common.{◌≡◌, ◌<◌, ◌≤◌, ◌∙◌, ℕ, List, map, length, sym, subst}
use Rattle.std.proofs.lemmas.List.{length-map}
use Rattle.std.specs.Prelude.{◌↔◌}
use Rattle.sections.specs.Translation.{section}
use Rattle.sections.specs.declared.id.SectionId.{SectionId}
use Rattle.types.specs.Code.{Codes}
use Rattle.types.specs.Run.{procedure_of}
use Rattle.types.specs.Translation.{procedure, program}
use Rattle.types.specs.declared.code.Program.{Program as rProgram}
use Rattle.effects.specs.Accesses.{Access}
use Rattle.effects.specs.AccessSets.{HasAccess}
use Rattle.types.specs.Sound.{passed_for}
use Rattle.effects.specs.Effects.{accesses, All, Pending}
use Rattle.effects.specs.Firsts.{AreFirsts, IsPassed}
use Rattle.effects.specs.Rows.{Renamed}
use Rattle.effects.specs.Sound.{IsSound}
use Rattle.effects.specs.Summarized.{IsSummary, body_of}
use Rattle.effects.specs.declared.accesses.Accesses.{Accesses}
use Rattle.effects.specs.declared.summary.Summary.{Summary}
use Rattle.effects.proofs.ComesSound.{body_of-other}
use Rattle.effects.proofs.DoingLemmas.{passed_renamed, all_in_callee}
use Rattle.race_checker.proofs.Finding.{pending_in_callee}

-- a program has as many procedures as its code
within_procedures : (code : rProgram) {f : ℕ} → f < length code.procedures.items
    → f < length (map procedure code.procedures.items)
within_procedures code {f} h = subst (λ n. f < n) (sym (length-map code.procedures.items procedure)) h

pub past_procedures : (code : rProgram) {f : ℕ} → length code.procedures.items ≤ f
    → length (map procedure code.procedures.items) ≤ f
past_procedures code {f} h = subst (λ n. n ≤ f) (sym (length-map code.procedures.items procedure)) h

module _ (code : rProgram) (f : ℕ) (ss : List SectionId) (s : Summary)
    (below : f < length code.procedures.items)
    (sound : IsSound (program code)) (told : IsSummary (program code) (body_of (program code) f) s)
    (number : length ss ≡ length (procedure_of (program code) f).parameters) where
  exact : IsSummary (program code) (procedure_of (program code) f).body s
  exact =
      subst (λ (b : Codes). IsSummary (program code) b s) (body_of-other (program code) f
      (within_procedures code below)) told

  as_many : length (map section ss) ≡ length (procedure_of (program code) f).parameters
  as_many = length-map ss section ∙ number

  -- what is kept of the callee is, passed to the call, what the callee does
  abbrev pub Passed : (kept : Accesses) (done : Access → Type 0) → Type 0
  Passed kept done =
      (xs : List Access) → AreFirsts (IsPassed (HasAccess kept) (map section ss)) xs
      → AreFirsts (Renamed (program code) accesses (passed_for (map section ss)) done) xs

  passed : (kept : Accesses) (done : Access → Type 0) → ((x : Access) → HasAccess kept x ↔ done x)
      → ((x : Access) → done x → x.section < length (map section ss)) → Passed kept done
  passed kept done exactly = passed_renamed (program code) (map section ss) (HasAccess kept) done (λ x. (exactly x).0) (λ x. (exactly x).1)

  pub callee_all : Passed s.all (All (program code) accesses (procedure_of (program code) f).body)
  callee_all = passed s.all _ exact.all (all_in_callee (program code) sound f (length (map section ss)) as_many)

  pub callee_pending : Passed s.pending (Pending (program code) accesses (procedure_of (program code) f).body)
  callee_pending = passed s.pending _ exact.pending (pending_in_callee (program code) sound f (length (map section ss)) as_many)

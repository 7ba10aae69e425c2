-- The number of labels that the flows may still bring: a round that brings some reduces it.
use Rattle.std.proofs.Common.{◌≡◌, inl, inr, ℕ, zero, suc, ◌+◌, ◌^◌, ◌<◌, ◌≤◌, List, [], ◌∷◌, refl, sym, ap, ◌∙◌, arith, true≢false}
use Rattle.std.proofs.lemmas.Bool.{cases_lt}
use Rattle.std.specs.Prelude.{Bool, true, false, if◌then◌else◌, Option, Some, None, slice_get}
use Rattle.shared_lemmas.proofs.Truths.{false_true}
use Rattle.sections.specs.Member.{Member, first, next}
use Rattle.effects.specs.Closing.{HasSome, HasIn, BringsNew}
use Rattle.effects.specs.AccessSets.{HasAccess, uses_of}
use Rattle.effects.specs.LabelSets.{HasLabel, has_label}
use Rattle.effects.specs.SummaryRows.{HasRow}
use Rattle.effects.specs.UseSets.{HasIn as HasUseIn, HasUse}
use Rattle.effects.specs.declared.flows.CallFlow.{CallFlow}
use Rattle.effects.specs.declared.label_set.LabelSet.{LabelSet}
use Rattle.effects.specs.declared.summary.SummaryRow.{SummaryRow}
use Rattle.effects.specs.declared.summary.SummaryRow.TheVariants.{All, Pending, Labels, PendingLabels}
use Rattle.effects.specs.declared.summary.Summary.{Summary}
use Rattle.effects.specs.declared.uses.Uses.{Uses}
use Rattle.effects.proofs.HasLabels.{has_label-true, from_has_label, label_within}

-- Whether a label is there, as a test

abbrev set_has : Option LabelSet → ℕ → Bool
set_has None l = false
set_has (Some s) l = has_label s l

abbrev use_has : Uses → (s l : ℕ) → Bool
use_has uses s l = set_has (slice_get uses.sets.items s) l

abbrev row_has : Summary → SummaryRow → ℕ → Bool
row_has x (All s w) l = use_has (uses_of x.all w) s.number l
row_has x (Pending s w) l = use_has (uses_of x.pending w) s.number l
row_has x Labels l = has_label x.labels l
row_has x PendingLabels l = has_label x.pending_labels l

abbrev some_has : Option Summary → SummaryRow → ℕ → Bool
some_has None r l = false
some_has (Some x) r l = row_has x r l

-- whether a table has a label in a row
abbrev pub has_in : List Summary → ℕ → SummaryRow → ℕ → Bool
has_in table f r l = some_has (slice_get table f) r l

-- a test that decides a property of labels below 2 ^ 32
record Tells (holds : ℕ → Type 0) (test : ℕ → Bool) : Type 0 where
  yes : (l : ℕ) → holds l → test l ≡ true
  from : (l : ℕ) → test l ≡ true → holds l
  within : (l : ℕ) → holds l → l < 2 ^ 32

label_told : (s : LabelSet) → Tells (HasLabel s) (has_label s)
label_told s = record { yes = has_label-true s; from = from_has_label s; within = label_within s }

set_told : (o : Option LabelSet) → Tells (HasUseIn o) (set_has o)
set_told None = record { yes = λ l h. absurd h; from = λ l e. false_true e; within = λ l h. absurd h }
set_told (Some s) = record { yes = has_label-true s; from = from_has_label s; within = label_within s }

use_told : (uses : Uses) (s : ℕ) → Tells (HasUse uses s) (use_has uses s)
unfolding HasUse
use_told uses s =
    let t = set_told (slice_get uses.sets.items s) in
    record { yes = λ l h. t.yes l h; from = λ l e. t.from l e; within = λ l h. t.within l h }

row_told : (x : Summary) (r : SummaryRow) → Tells (HasRow x r) (row_has x r)
unfolding HasAccess
row_told x (All s w) =
    let t = use_told (uses_of x.all w) s.number in record { yes = λ l h. t.yes l h; from = λ l e. t.from l e; within = λ l h. t.within l h }
row_told x (Pending s w) =
    let t = use_told (uses_of x.pending w) s.number in
    record { yes = λ l h. t.yes l h; from = λ l e. t.from l e; within = λ l h. t.within l h }
row_told x Labels = let t = label_told x.labels in record { yes = λ l h. t.yes l h; from = λ l e. t.from l e; within = λ l h. t.within l h }
row_told x PendingLabels =
    let t = label_told x.pending_labels in record { yes = λ l h. t.yes l h; from = λ l e. t.from l e; within = λ l h. t.within l h }

some_told : (o : Option Summary) (r : SummaryRow) → Tells (HasSome o r) (some_has o r)
some_told None r = record { yes = λ l h. absurd h; from = λ l e. false_true e; within = λ l h. absurd h }
some_told (Some x) r =
    let t = row_told x r in record { yes = λ l h. t.yes l h; from = λ l e. t.from l e; within = λ l h. t.within l h }

-- the number of the first n numbers that fail a test
failing : (ℕ → Bool) → ℕ → ℕ
failing test zero = 0
failing test (suc n) = (if test n then 0 else 1) + failing test n

one_fails : (b c : Bool) → (b ≡ true → c ≡ true) → (if c then 0 else 1) ≤ (if b then 0 else 1)
one_fails true true h = omega arith
one_fails true false h = absurd (true≢false (sym (h refl)))
one_fails false true h = omega arith
one_fails false false h = omega arith

fewer_fail : (test later : ℕ → Bool) → ((l : ℕ) → test l ≡ true → later l ≡ true) → (n : ℕ) → failing later n ≤ failing test n
unfolding failing
fewer_fail test later h zero = omega arith
fewer_fail test later h (suc n) =
    let one = one_fails (test n) (later n) (h n) in
    let rest = fewer_fail test later h n in
    omega (arith, one, rest)

one_less : (b c : Bool) → b ≡ false → c ≡ true → (if c then 0 else 1) < (if b then 0 else 1)
one_less true c e f = absurd (true≢false e)
one_less false true e f = omega arith
one_less false false e f = absurd (true≢false (sym f))

less_fail : (test later : ℕ → Bool) → ((l : ℕ) → test l ≡ true → later l ≡ true) → (m : ℕ) → test m ≡ false → later m ≡ true
    → (n : ℕ) → m < n → failing later n < failing test n
unfolding failing
less_fail test later h m e f zero within = absurd (omega (arith, within))
less_fail test later h m e f (suc n) within = elim (cases_lt m n) [
  | inl l ↦
      let one = one_fails (test n) (later n) (h n) in
      let rest = less_fail test later h m e f n l in
      omega (arith, one, rest)
  | inr past ↦
      let same : n ≡ m = omega (arith, within, past) in
      let one = one_less (test n) (later n) (ap test same ∙ e) (ap later same ∙ f) in
      let rest = fewer_fail test later h n in
      omega (arith, one, rest)
]

-- the number of labels that are missing in the rows into which flows bring
pub missing : List CallFlow → List Summary → ℕ
missing [] table = 0
missing (x ∷ flows) table = failing (has_in table x.caller.number x.to) (2 ^ 32) + missing flows table

module _ (before after : List Summary) (more : (f : ℕ) (r : SummaryRow) (l : ℕ) → HasIn before f r l → HasIn after f r l) where
  told_more : (f : ℕ) (r : SummaryRow) (l : ℕ) → has_in before f r l ≡ true → has_in after f r l ≡ true
  told_more f r l e =
      (some_told (slice_get after f) r).yes l (more f r l ((some_told (slice_get before f) r).from l e))

  fewer_missing : (flows : List CallFlow) → missing flows after ≤ missing flows before
  unfolding missing
  fewer_missing [] = omega arith
  fewer_missing (x ∷ flows) =
      let here = fewer_fail (has_in before x.caller.number x.to) (has_in after x.caller.number x.to) (told_more x.caller.number x.to) (2 ^ 32) in
      let rest = fewer_missing flows in
      omega (arith, here, rest)

  not_told : (f : ℕ) (r : SummaryRow) (l : ℕ) → (HasIn before f r l → ⊥) → (b : Bool) → has_in before f r l ≡ b → has_in before f r l ≡ false
  not_told f r l none true e = absurd (none ((some_told (slice_get before f) r).from l e))
  not_told f r l none false e = e

  one_brings : (x : CallFlow) (l : ℕ) → HasIn after x.caller.number x.to l → (HasIn before x.caller.number x.to l → ⊥)
      → failing (has_in after x.caller.number x.to) (2 ^ 32) < failing (has_in before x.caller.number x.to) (2 ^ 32)
  one_brings x l now none =
      let t = some_told (slice_get after x.caller.number) x.to in
      less_fail (has_in before x.caller.number x.to) (has_in after x.caller.number x.to) (told_more x.caller.number x.to) l
      (not_told x.caller.number x.to l none (has_in before x.caller.number x.to l) refl) (t.yes l now) (2 ^ 32) (t.within l now)

  less_with : (flows : List CallFlow) (x : CallFlow) → Member x flows
      → failing (has_in after x.caller.number x.to) (2 ^ 32) < failing (has_in before x.caller.number x.to) (2 ^ 32)
      → missing flows after < missing flows before
  unfolding missing
  less_with [] x m less = elim m [ ]
  less_with (y ∷ flows) x first less = let rest = fewer_missing flows in omega (arith, less, rest)
  less_with (y ∷ flows) x (next m) less =
      let here = fewer_fail (has_in before y.caller.number y.to) (has_in after y.caller.number y.to) (told_more y.caller.number y.to) (2 ^ 32) in
      let rest = less_with flows x m less in
      omega (arith, here, rest)

  -- a new label that a flow brings reduces the number
  pub less_missing : (flows : List CallFlow) → BringsNew flows before after → missing flows after < missing flows before
  less_missing flows new = less_with flows new.flow new.member (one_brings new.flow new.label new.now new.missing)

-- On one thread a run only adds to lines and faults, at their ends.
use Rattle.std.proofs.Common.{◌≡◌, ℕ, zero, suc, ◌+◌, List, [], refl, sym, ap, ◌∙◌, inr, append_assoc}
use Rattle.std.proofs.lemmas.List.{append-nil}
use Rattle.std.specs.Prelude.{ℤ}
use Rattle.types.specs.Code.{Codes, Program}
use Rattle.types.specs.Run.{Fault, State, Work, run}
use Rattle.types.specs.Meaning.{hushed, joined, one_rules_by, begin_one, one}
use Rattle.types.specs.Laws.{OnlyAdds}
use Rattle.types.proofs.Views.{View, viewed, same_told, Never, surely, Follows, IsView, whole_view, within_follows}

abbrev S : Type 0
S = State (Unit {0})

-- lines and faults from before
pub record Told : Type 0 where
  pub lines : List (List ℤ)
  pub faults : List Fault

abbrev telling : View Told (Unit {0}) (Unit {0})
telling = record { lines = λ t x. t.lines; faults = λ t x. t.faults; steps = λ t n. n; extra = λ t x. x }

-- a state with these before its own lines and faults
abbrev behind : Told → S → S
behind = viewed telling

abbrev Grows : (S → S) → Type 0
Grows go = Follows telling Never go go

-- joining commutes with adding lines and faults in front
joined_behind : (t : Told) (before out : S) → joined (behind t before) out ≡ behind t (joined before out)
joined_behind t before out =
    same_told out _ _ _ _ (append_assoc t.lines before.lines out.lines) (append_assoc t.faults before.faults out.faults)

-- the same state without anything in front of it
alone : (go to : S → S) → Follows telling Never go to → (st : S) → to st ≡ go st
alone go to h st = surely (h (record { lines = []; faults = [] }) st)

module _ (begin : Codes → S → S) (grows : (b : Codes) → Grows (begin b)) where
  view : IsView telling Never (one_rules_by begin) (one_rules_by begin)
  view =
      whole_view telling (one_rules_by begin) (one_rules_by begin) (λ t n. refl) (λ t l st. refl) (λ l. grows) finish_behind
      (λ t x y. refl)
    where
      finish_behind : (l : ℕ) (go to : S → S) → Follows telling Never go to
          → Follows telling Never (λ st. (one_rules_by begin).leave st (go ((one_rules_by begin).enter l st)))
          (λ st. (one_rules_by begin).leave st (to ((one_rules_by begin).enter l st)))
      finish_behind l go to h t st =
          inr (ap ((one_rules_by begin).leave (behind t st)) (alone go to h (hushed st)) ∙ joined_behind t st _)

  run_grows : (p : Program) (w : Work) → Grows (run p (one_rules_by begin) w)
  run_grows p w t st =
      within_follows p (one_rules_by begin) (one_rules_by begin) telling Never view (st.steps + 1) w t st

begin_grows : (p : Program) (fresh nest : ℕ) (b : Codes) → Grows (begin_one p fresh nest b)
begin_grows p fresh zero b t st = inr refl
begin_grows p fresh (suc n) b t st = inr (joined_behind t st _)

-- what a statement leaves is the old output, followed by its own output
pub only_adds : (p : Program) (fresh nest : ℕ) (w : Work) → OnlyAdds (one p fresh nest w)
only_adds p fresh nest w st =
    ap (one p fresh nest w) (same_told st _ _ _ _ (sym (append-nil st.lines)) (sym (append-nil st.faults)))
    ∙ surely (run_grows (begin_one p fresh nest) (begin_grows p fresh nest) p w (record { lines = st.lines; faults = st.faults }) (hushed st))

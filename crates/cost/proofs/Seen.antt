-- A run that keeps more with its states does what a run that keeps less does.
use Rattle.std.proofs.Common.{◌≡◌, ℕ, zero, suc, ◌+◌, [], refl, ap, ◌∙◌, inr}
use Rattle.types.specs.Code.{Codes, Program}
use Rattle.types.specs.Run.{State, Rules, Work, run, keeping}
use Rattle.types.proofs.Views.{View, Never, surely, IsView, whole_view, within_follows}

module _ {X Y : Type 0} (less : X → Y) where
  -- a state, with less of what is kept with it
  abbrev pub seen : State X → State Y
  seen st = keeping (less st.extra) st

  abbrev by_less : View (Unit {0}) X Y
  by_less = record { lines = λ i x. []; faults = λ i x. []; steps = λ i n. n; extra = λ i x. less x }

  -- each rule of the run that keeps less does with its state what the rule of the other run does
  pub record Keeps (r : Rules X) (s : Rules Y) : Type 0 where
    pub stepped : (l : ℕ) (x : X) → s.stepped l (less x) ≡ less (r.stepped l x)
    pub begin : (l : ℕ) (b : Codes) (st : State X) → s.begin l b (seen st) ≡ seen (r.begin l b st)
    pub enter : (l : ℕ) (st : State X) → s.enter l (seen st) ≡ seen (r.enter l st)
    pub leave : (before out : State X) → s.leave (seen before) (seen out) ≡ seen (r.leave before out)

  module _ (p : Program) (r : Rules X) (s : Rules Y) (keeps : Keeps r s) where
    view : IsView by_less Never r s
    view =
        whole_view by_less r s (λ i n. refl) (λ i l st. ap (λ y. keeping y st) (keeps.stepped l st.extra))
        (λ l b i st. inr (keeps.begin l b st))
        (λ l go to h i st.
        inr (ap (λ out. s.leave (seen st) out) (ap to (keeps.enter l st) ∙ surely (h tt (r.enter l st)))
        ∙ keeps.leave st (go (r.enter l st))))
        (λ i x y. refl)

    pub run-seen : (w : Work) (st : State X) → run p s w (seen st) ≡ seen (run p r w st)
    run-seen w st = surely (within_follows p r s by_less Never view (st.steps + 1) w tt st)

  -- rules under which this number of asyncs may be nested
  module _ (p : Program) (r : ℕ → Rules X) (s : ℕ → Rules Y) where
    abbrev Begins : ℕ → Type 0
    Begins n = (l : ℕ) (b : Codes) (st : State X) → (s n).begin l b (seen st) ≡ seen ((r n).begin l b st)

    abbrev Runs : ℕ → Type 0
    Runs n = (w : Work) (st : State X) → run p (s n) w (seen st) ≡ seen (run p (r n) w st)

    -- the rules for each number keep less if the rules for what they start, which allow fewer, do
    pub nested-seen : ((n : ℕ) → Begins n → Keeps (r n) (s n)) → Begins zero → ((n : ℕ) → Runs n → Begins (suc n)) → (n : ℕ) → Runs n
    nested-seen keeps first next n = run-seen p (r n) (s n) (keeps n (begins n))
      where
        begins : (n : ℕ) → Begins n
        begins zero = first
        begins (suc n) = next n (run-seen p (r n) (s n) (keeps n (begins n)))

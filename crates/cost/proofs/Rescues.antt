-- A finish with a handler as a frame.
use Rattle.std.proofs.Common.{◌≡◌, ℕ, ◌-◌, ◌≤◌, List, [], ◌∷◌, ◌++◌, Option, Some, None, length, refl, sym, ap, ◌∙◌, arith, Bor}
use Rattle.std.proofs.lemmas.List.{append-nil, length-append}
use Rattle.std.specs.Prelude.{ℤ, pos}
use Rattle.types.specs.declared.code.Stmt.{Stmt}
use Rattle.types.specs.Code.{Codes, Program}
use Rattle.types.specs.Meaning.{after_finish, hushed}
use Rattle.types.specs.Run.{Flow, On, Faulted, Stopped, Fault, State, Block, assign, block, caught, rescued_by}
use Rattle.types.specs.Translation.{codes, program}
use Rattle.cost.specs.declared.frame.CostFrame.{CostFrame}
use Rattle.cost.specs.declared.frame.CostFrame.TheVariants.{Rest, EndFinish, EndRescue}
use Rattle.cost.specs.declared.frame.Handler.{Handler}
use Rattle.cost.specs.declared.frame.OuterCosts.{OuterCosts}
use Rattle.cost.specs.declared.machine.CostMachine.{CostMachine}
use Rattle.cost.specs.Accounts.{Account, accounted, accounted_rules, enters_at, leaves_behind}
use Rattle.cost.specs.Frames.{cost}
use Rattle.cost.specs.Machines.{Does, IsSoundFrame, stack, stands, turn_of}
use Rattle.cost.specs.Resume.{Standing, lines_in, faults_in, end_finish, end_of, finish_of, acted, frame, resume}
use Rattle.cost.proofs.Frames.{standing_by_state, meant, blocked, block_on_top, resume-push, resume-pushed, finish_on_top}

on_faulted : On ≡ Faulted → ⊥
on_faulted e = cc

stopped_faulted : Stopped ≡ Faulted → ⊥
stopped_faulted e = cc

-- such a flow hasn't faulted
pub on_goes : {f : Flow} → f ≡ On → f ≡ Faulted → ⊥
on_goes e h = on_faulted (sym e ∙ h)

pub stopped_goes : {f : Flow} → f ≡ Stopped → f ≡ Faulted → ⊥
stopped_goes e h = stopped_faulted (sym e ∙ h)

-- the state at the start of the handler of a finish
abbrev pub handling : OuterCosts → (slot : ℕ) → State Account → State Account
handling o x st = record (assign x (pos (length st.faults - 0)) st) {
  flow = On;
  lines = lines_in o.told ++ st.lines;
  faults = faults_in o.told ++ [];
  extra = leaves_behind o.ended o.ended_by_label.items st.extra;
}

handling_is : (o : OuterCosts) (x : ℕ) (st : State Account) → caught x (faults_in o.told) (end_finish o st) ≡ handling o x st
handling_is o x st =
    let before = faults_in o.told in
    let at : ℕ → List Fault → State Account = λ n fs. record (assign x (pos n) st) {
      flow = On;
      lines = lines_in o.told ++ st.lines;
      faults = fs;
      extra = leaves_behind o.ended o.ended_by_label.items st.extra;
    } in
    let number : length (before ++ st.faults) - length before ≡ length st.faults - 0 = omega (arith, length-append before st.faults) in
    ap (λ n. at n before) number ∙ ap (at (length st.faults - 0)) (sym (append-nil before))

-- with another handler that does the same at its start
rescued_agree : (f : Flow) (x : ℕ) (go to : State Account → State Account) (before : List Fault) (st : State Account)
    → ((st : State Account) → go st ≡ to st) → rescued_by f x go before st ≡ rescued_by f x to before st
rescued_agree On x go to before st h = refl
rescued_agree Faulted x go to before st h = h (caught x before st)
rescued_agree Stopped x go to before st h = refl

module _ (p : Program) (fresh : ℕ) where
  -- a finish with a handler is its body above its end
  rescue_on_top : (fs gs hs : List CostFrame) (b : Bor (List Stmt)) (c : Codes) (o : OuterCosts) (h : Handler) (l : ℕ) (s t : Standing)
      → s.state.flow ≡ On → lines_in o.told ≡ s.state.lines → faults_in o.told ≡ s.state.faults
      → o.ended ≡ s.state.extra.tally.ended → o.ended_by_label.items ≡ s.state.extra.ended
      → t.state ≡ hushed (record s.state { extra = enters_at l s.state.extra }) → t.nest ≡ s.nest
      → gs ≡ fs ++ EndRescue o h ∷ [] → hs ≡ gs ++ Rest b ∷ [] → codes b.now ≡ c
      → resume p fresh hs t ≡ resume p fresh fs (acted p fresh l (finish_of (Some h) c) s)
  rescue_on_top fs gs hs b c o h l s t on lines faults ended by_label is same g k body =
      let inside = hushed (record s.state { extra = enters_at l s.state.extra }) in
      let begun : Standing = record s { state = inside } in
      let out = (blocked p fresh c begun).state in
      let d = codes h.block.now in
      let x = h.faults.number in
      let over : List (List ℤ) → List Fault → ℕ → List ℕ → State Account = λ ls fs n ns. record out {
        flow = after_finish out.flow out.faults;
        lines = ls ++ out.lines;
        faults = fs ++ out.faults;
        extra = leaves_behind n ns out.extra;
      } in
      let at : List Fault → State Account → Standing = λ fs st. record s {
        state = rescued_by st.flow x (accounted p fresh s.nest (Block d)) fs st;
      } in
      ap (resume p fresh hs) (standing_by_state s t inside is same)
      ∙ block_on_top p fresh gs hs b c begun on k body
      ∙ resume-pushed p fresh fs gs (EndRescue o h) (blocked p fresh c begun) g
      ∙ ap (λ ls. resume p fresh fs (at (faults_in o.told) (over ls (faults_in o.told) o.ended o.ended_by_label.items))) lines
      ∙ ap (λ xs. resume p fresh fs (at xs (over s.state.lines xs o.ended o.ended_by_label.items))) faults
      ∙ ap (λ n. resume p fresh fs (at s.state.faults (over s.state.lines s.state.faults n o.ended_by_label.items))) ended
      ∙ ap (λ ns. resume p fresh fs (at s.state.faults (over s.state.lines s.state.faults s.state.extra.tally.ended ns))) by_label
      ∙ ap (λ (st : State Account). resume p fresh fs (record s { state = st }))
      (rescued_agree (after_finish out.flow out.faults) x (accounted p fresh s.nest (Block d))
      (block p (accounted_rules p fresh s.nest) (accounted p fresh s.nest) d) s.state.faults
      (over s.state.lines s.state.faults s.state.extra.tally.ended s.state.extra.ended) (meant p fresh s.nest (Block d)))

  -- so is a finish, with a handler or without
  pub ends_on_top : (fs gs hs : List CostFrame) (b : Bor (List Stmt)) (c : Codes) (o : OuterCosts) (h : Option Handler) (l : ℕ) (s t : Standing)
      → s.state.flow ≡ On → lines_in o.told ≡ s.state.lines → faults_in o.told ≡ s.state.faults
      → o.ended ≡ s.state.extra.tally.ended → o.ended_by_label.items ≡ s.state.extra.ended
      → t.state ≡ hushed (record s.state { extra = enters_at l s.state.extra }) → t.nest ≡ s.nest
      → gs ≡ fs ++ end_of o h ∷ [] → hs ≡ gs ++ Rest b ∷ [] → codes b.now ≡ c
      → resume p fresh hs t ≡ resume p fresh fs (acted p fresh l (finish_of h c) s)
  ends_on_top fs gs hs b c o None l s t on lines faults ended by_label is same g k body =
      finish_on_top p fresh fs gs hs b c o l s t on lines faults ended by_label is same g k body
  ends_on_top fs gs hs b c o (Some h) l s t on lines faults ended by_label is same g k body =
      rescue_on_top fs gs hs b c o h l s t on lines faults ended by_label is same g k body

  -- a finish that has gathered faults: its handler is next
  pub handler_next : (fs : List CostFrame) (o : OuterCosts) (h : Handler) (s t : Standing)
      → after_finish s.state.flow s.state.faults ≡ Faulted → t.state ≡ handling o h.faults.number s.state → t.nest ≡ s.nest
      → resume p fresh (fs ++ Rest h.block ∷ []) t ≡ resume p fresh fs (frame p fresh (EndRescue o h) s)
  handler_next fs o h s t off is nest =
      let x = h.faults.number in
      let go = accounted p fresh s.nest (Block (codes h.block.now)) in
      let at : State Account → Standing = λ st. record s { state = st } in
      ap (resume p fresh (fs ++ Rest h.block ∷ [])) (standing_by_state s t (handling o x s.state) is nest)
      ∙ resume-push p fresh fs (Rest h.block) (at (handling o x s.state))
      ∙ ap (λ st. resume p fresh fs (at (go st))) (sym (handling_is o x s.state))
      ∙ ap (λ f. resume p fresh fs (at (rescued_by f x go (faults_in o.told) (end_finish o s.state)))) (sym off)

  -- otherwise its handler does nothing
  no_handler : (o : OuterCosts) (h : Handler) (s : Standing) → (after_finish s.state.flow s.state.faults ≡ Faulted → ⊥)
      → frame p fresh (EndFinish o) s ≡ frame p fresh (EndRescue o h) s
  no_handler o h s goes = by (after_finish s.state.flow s.state.faults) refl
    where
      at : Flow → Standing
      at f = record s {
        state = rescued_by f h.faults.number (accounted p fresh s.nest (Block (codes h.block.now)))
            (faults_in o.told) (end_finish o s.state);
      }

      by : (f : Flow) → after_finish s.state.flow s.state.faults ≡ f → frame p fresh (EndFinish o) s ≡ frame p fresh (EndRescue o h) s
      by On e = ap at (sym e)
      by Faulted e = absurd (goes e)
      by Stopped e = ap at (sym e)

-- the end of a finish costs at most two transitions
pub end_cost : (fresh : ℕ) (o : OuterCosts) (h : Option Handler) → cost fresh (end_of o h) ≤ 2
end_cost fresh o None = omega arith
end_cost fresh o (Some h) = omega arith

pub end_sound : (p : Program) (fresh : ℕ) (o : OuterCosts) (h : Option Handler) → IsSoundFrame p fresh (end_of o h)
end_sound p fresh o None = tt
end_sound p fresh o (Some h) = tt

pub does_rescue : (m new : CostMachine) (o : OuterCosts) (h : Handler)
    → (after_finish (stands m).state.flow (stands m).state.faults ≡ Faulted → ⊥)
    → Does (turn_of (EndFinish o)) m new → Does (turn_of (EndRescue o h)) m new
does_rescue m new o h goes does = record {
  plan = does.plan;
  sound = does.sound;
  comes =
      does.comes
      ∙ ap (resume (program m.plan.program.now) m.plan.budget.steps (stack m))
      (no_handler (program m.plan.program.now) m.plan.budget.steps o h (stands m) goes);
}

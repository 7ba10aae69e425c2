-- The turns of a `parts` as frames.
use Rattle.std.proofs.Common.{◌≡◌, ℕ, ◌+◌, List, [], ◌∷◌, ◌++◌, refl, sym, ap, ◌∙◌}
use Rattle.std.specs.Prelude.{true, false}
use Rattle.sections.specs.Place.{has_piece}
use Rattle.types.specs.Code.{Program}
use Rattle.types.specs.Run.{Flow, On, Faulted, Stopped, State, at_flow, window_at}
use Rattle.types.specs.Run.{with_step, choose, in_turn, stopped, act, counted, spend}
use Rattle.types.specs.Translation.{codes}
use Rattle.types.specs.Value.{Environment}
use Rattle.statement_steps.specs.declared.turns.TurnsToCome.{TurnsToCome}
use Rattle.statement_steps.specs.Turns.{begun, pieces}
use Rattle.cost.specs.declared.frame.CostFrame.{CostFrame}
use Rattle.cost.specs.declared.frame.CostFrame.TheVariants.{Rest, Turns}
use Rattle.cost.specs.Accounts.{Account, accounted, accounted_rules}
use Rattle.cost.specs.Resume.{Standing, acted, doing, resume}
use Rattle.cost.proofs.Frames.{flow_on, meant, step_taken, not_done, blocked, block_on_top, resume-pushed, paid}

module _ (p : Program) (fresh : ℕ) where
  -- the block of a turn whose step was taken, and the later turns below it
  pub turn_on_top : (fs gs hs : List CostFrame) (t : TurnsToCome) (env : Environment) (s : Standing) → s.state.flow ≡ On
      → env ≡ (in_turn t.section.number t.size t.next t.piece.number t.turn.number s.state).environment
      → gs ≡ fs ++ Turns (record t { next = t.next + 1 }) ∷ [] → hs ≡ gs ++ Rest t.body ∷ []
      → resume p fresh hs (record s { state = record s.state { environment = env } })
      ≡ resume p fresh fs (acted p fresh t.label (begun t) s)
  turn_on_top fs gs hs t env s on is g h =
      let inside : Environment → Standing = λ env. record s { state = record s.state { environment = env } } in
      let later : TurnsToCome = record t { next = t.next + 1 } in
      block_on_top p fresh gs hs t.body (codes t.body.now) (inside env) on h refl
      ∙ resume-pushed p fresh fs gs (Turns later) (blocked p fresh (codes t.body.now) (inside env)) g
      ∙ ap (λ env. resume p fresh fs (doing p fresh (pieces later) (blocked p fresh (codes t.body.now) (inside env)))) is

  -- a step taken for a turn
  pub turn_taken : (fs : List CostFrame) (t : TurnsToCome) (k : ℕ) (s : Standing) → s.state.flow ≡ On → k + 1 ≡ s.state.steps
      → has_piece (window_at s.state t.section.number) t.size t.next ≡ true
      → resume p fresh fs (acted p fresh t.label (begun t) (record s { state = paid p fresh k t.label (begun t) s.state }))
      ≡ resume p fresh fs (doing p fresh (pieces t) s)
  turn_taken fs t k s on taken left =
      let r = accounted_rules p fresh s.nest in
      let go : State Account → State Account = with_step (λ st. act p r (accounted p fresh s.nest) t.label (begun t) (counted r t.label (begun t) st)) in
      ap (λ (st : State Account). resume p fresh fs (record s { state = st }))
      (sym (step_taken p fresh s.nest k t.label (begun t) s.state taken)
      ∙ sym (ap (λ b. choose go (λ st. st) b s.state) left)
      ∙ sym (meant p fresh s.nest (pieces t) s.state)
      ∙ sym (flow_on s.state.flow s.state (accounted p fresh s.nest (pieces t)) on))

  -- no turn is left
  pub no_turn_left : (fs : List CostFrame) (t : TurnsToCome) (s : Standing)
      → has_piece (window_at s.state t.section.number) t.size t.next ≡ false
      → resume p fresh fs s ≡ resume p fresh fs (doing p fresh (pieces t) s)
  no_turn_left fs t s none = ap (λ (st : State Account). resume p fresh fs (record s { state = st })) (by_flow s.state.flow)
    where
      by_flow : (f : Flow) → s.state ≡ at_flow f s.state (accounted p fresh s.nest (pieces t))
      by_flow On =
          let r = accounted_rules p fresh s.nest in
          let go : State Account → State Account = with_step (λ st. act p r (accounted p fresh s.nest) t.label (begun t) (counted r t.label (begun t) st)) in
          sym (meant p fresh s.nest (pieces t) s.state ∙ ap (λ b. choose go (λ st. st) b s.state) none)
      by_flow Faulted = refl
      by_flow Stopped = refl

  -- a turn that isn't done: the flow wasn't on, or no step was left
  pub turn_missed : (fs : List CostFrame) (t : TurnsToCome) (s u : Standing)
      → has_piece (window_at s.state t.section.number) t.size t.next ≡ true
      → (s.state.flow ≡ On → s.state.steps ≡ 0) → u.state ≡ at_flow s.state.flow s.state stopped → u.nest ≡ s.nest
      → resume p fresh fs u ≡ resume p fresh fs (doing p fresh (pieces t) s)
  turn_missed fs t s u left none is n = not_done p fresh fs (pieces t) s u stops is n
    where
      stops : s.state.flow ≡ On → accounted p fresh s.nest (pieces t) s.state ≡ stopped s.state
      stops on =
          let r = accounted_rules p fresh s.nest in
          let act_it : State Account → State Account = λ st. act p r (accounted p fresh s.nest) t.label (begun t) (counted r t.label (begun t) st) in
          meant p fresh s.nest (pieces t) s.state
          ∙ ap (λ b. choose (with_step act_it) (λ st. st) b s.state) left
          ∙ ap (λ k. spend k s.state act_it) (none on)

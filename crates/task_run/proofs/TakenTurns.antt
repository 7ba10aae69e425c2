-- The next turn of a `parts` in Rust: it begins, no step is left for it, or there is none.
use Rattle.std.proofs.Common.{◌≡◌, ◌⊎◌, ℕ, ◌+◌, ◌≤◌, List, [], ◌∷◌, ◌++◌, Some, None, map, Vec, Global, refl, sym, ap, ◌∙◌, subst, inl, inr, arith}
use Rattle.std.specs.Prelude.{Bool, true, false, Option, ◌&&◌, if◌then◌else◌}
use Rattle.sections.specs.Place.{Window, has_piece, piece_at, piece_of}
use Rattle.sections.proofs.Pieces.{is_piece}
use Rattle.types.specs.Code.{Codes, Program}
use Rattle.types.specs.Run.{Flow, State, Rules, stopped, at_flow, with_piece, window_at}
use Rattle.types.specs.Translation.{program}
use Rattle.effects.specs.Needs.{Needs}
use Rattle.statement_steps.specs.declared.flow.Flow.{Flow as rFlow}
use Rattle.statement_steps.specs.declared.flow.Flow.TheVariants.{On as rOn, Faulted as rFaulted, Stopped as rStopped}
use Rattle.statement_steps.specs.declared.thread.Plan.{Plan}
use Rattle.statement_steps.specs.declared.thread.Thread.{Thread}
use Rattle.statement_steps.specs.declared.turns.TurnsToCome.{TurnsToCome}
use Rattle.statement_steps.specs.Standing.{MissesStep, flow as flow_of}
use Rattle.statement_steps.specs.Turns.{begun}
use Rattle.task_run.specs.Frames.{Frame, Standing, by_flow, done_at, paid}
use Rattle.task_run.specs.OwnRun.{Own, Action, own_rules}
use Rattle.task_run.specs.RunTurns.{Acts, DidNext, DidTurn, DoneAs}
use Rattle.task_run.specs.Standings.{IsAt, further, state_of, with_own}
use Rattle.task_run.specs.Stops.{is_next_over, is_over}
use Rattle.task_run.specs.Translation.{contents_of, listed, owned_by}
use Rattle.task_run.specs.declared.frame.TaskFrame.TheVariants.{Rest as rRest, Turns as rTurns}
use Rattle.task_run.specs.declared.memory.TaskMemory.{TaskMemory}
use Rattle.task_run.specs.declared.result.Listed.{Listed as rListed}
use Rattle.task_run.specs.declared.run.Run.{Run}
use Rattle.task_run.specs.declared.turn.Done.{Done}
use Rattle.task_run.specs.declared.turn.Done.TheVariants.{Gone, Exceeded}

-- whether the next turn has a piece
abbrev has_next : Run → TurnsToCome → Bool
has_next m t = has_piece (window_at (state_of m.thread) t.section.number) t.size t.next

-- the block of a turn is entered, above the later turns
pub acts_turn : (old new : Run) (t : TurnsToCome) (w : Window)
    → piece_of (window_at (state_of old.thread) t.section.number) t.size t.next ≡ Some w
    → new.plan ≡ old.plan → new.pending ≡ old.pending
    → new.thread ≡ record old.thread { environment = new.thread.environment }
    → state_of new.thread ≡ record (state_of old.thread) {
      environment = with_piece t.piece.number t.turn.number w t.next (state_of old.thread).environment;
    }
    → new.frames.items ≡ (old.frames.items ++ rTurns (record t { next = t.next + 1 }) ∷ []) ++ rRest t.body ∷ []
    → Acts t.label (begun t) old new
acts_turn old new t w cut plan pending thread state frames = λ needs close. record {
  plan = plan;
  nest = ap (λ (u : Thread TaskMemory). u.nest) thread;
  stands = λ fs x shows. record {
    own = x;
    shows = record {
      frames = (
        old.frames.items ++ rTurns (record t { next = t.next + 1 }) ∷ [],
        rRest t.body,
        frames,
        refl,
        (old.frames.items, rTurns (record t { next = t.next + 1 }), refl, refl, shows.frames),
      );
      owned = shows.owned ∙ sym (ap (λ (u : Thread TaskMemory). owned_by u.store.holdings) thread);
      pending = shows.pending ∙ sym (ap (λ (v : Vec rListed Global). map listed v.items) pending);
      few = (let a = ap (λ (u : Thread TaskMemory). u.spawned + u.steps) thread in
          let b = ap (λ (z : Plan). z.budget.steps) plan in
          let c : old.thread.spawned + old.thread.steps ≤ old.plan.budget.steps = shows.few in
          omega (arith, a, b, c));
    };
    is = ap (with_own x) (state
        ∙ ap (λ (v : Window). record (state_of old.thread) {
          environment = with_piece t.piece.number t.turn.number v t.next (state_of old.thread).environment;
        }) (is_piece (window_at (state_of old.thread) t.section.number) w t.size t.next cut).is);
  };
}

-- a piece that is there
pub some_piece : (w v : Window) (n k : ℕ) → piece_of w n k ≡ Some v → has_piece w n k ≡ true
some_piece w v n k e = by (has_piece w n k) refl e
  where
    by : (b : Bool) → has_piece w n k ≡ b → if◌then◌else◌ {A = Option Window} b (Some (piece_at n k w)) None ≡ Some v
        → has_piece w n k ≡ true
    by true is e = is
    by false is e = absurd cc

pub no_piece : (w : Window) (n k : ℕ) → piece_of w n k ≡ None → has_piece w n k ≡ false
no_piece w n k e = by (has_piece w n k) refl e
  where
    by : (b : Bool) → has_piece w n k ≡ b → if◌then◌else◌ {A = Option Window} b (Some (piece_at n k w)) None ≡ None
        → has_piece w n k ≡ false
    by true is e = absurd cc
    by false is e = is

module _ (needs : Codes → Needs) (t : TurnsToCome) (old : Run) where
  -- if a piece is left, the turn is that of the statement
  pub did_turn : (d : Done) (new : Run) → has_next old t ≡ true → DidNext needs (λ fs. fs) t.label (begun t) old d new
      → DidTurn needs (further t) old d new
  did_turn d new left next = λ close.
      let did = next close in
      let p = program old.plan.program.now in
      let r = own_rules needs old.thread.nest close in
      record {
        turns = record {
          plan = did.turns.plan;
          nest = did.turns.nest;
          stands = λ fs x shows.
              let st = with_own x (state_of old.thread) in
              subst (λ (b : Bool). IsAt new (if◌then◌else◌ {A = Standing Own} b (by_flow p r st.flow t.label (begun t) fs fs st)
              (record { frames = fs; state = st }))) (sym left) (did.turns.stands fs x shows);
        };
        noted = λ x.
            let st = with_own x (state_of old.thread) in
            subst (λ (b : Bool). DoneAs (if◌then◌else◌ {A = List Action} b (done_at needs old.thread.nest st.flow (begun t) st) [])
            (b && is_next_over old.thread.nest st.flow st.steps (begun t)) d) (sym left) (did.noted x);
      }

  -- without a piece nothing is done
  pub none_left : has_next old t ≡ false → DidTurn needs (further t) old Gone old
  none_left none = λ close.
      let p = program old.plan.program.now in
      let r = own_rules needs old.thread.nest close in
      record {
        turns = record {
          plan = refl;
          nest = refl;
          stands = λ fs x shows.
              let st = with_own x (state_of old.thread) in
              subst (λ (b : Bool). IsAt old (if◌then◌else◌ {A = Standing Own} b (by_flow p r st.flow t.label (begun t) fs fs st)
              (record { frames = fs; state = st }))) (sym none) (record { own = x; shows = shows; is = refl });
        };
        noted = λ x.
            let st = with_own x (state_of old.thread) in
            subst (λ (b : Bool). DoneAs (if◌then◌else◌ {A = List Action} b (done_at needs old.thread.nest st.flow (begun t) st) [])
            (b && is_next_over old.thread.nest st.flow st.steps (begun t)) Gone) (sym none) (refl, inl refl);
      }

  abbrev Nothing : Bool → rFlow → State Own → Type 0
  Nothing b f st =
      DoneAs (if◌then◌else◌ {A = List Action} b (done_at needs old.thread.nest (flow_of f) (begun t) st) [])
      (b && is_next_over old.thread.nest (flow_of f) st.steps (begun t)) Gone

  -- nor if the flow is off
  pub is_off : (old.thread.flow ≡ rFaulted) ⊎ (old.thread.flow ≡ rStopped) → DidTurn needs (further t) old Gone old
  is_off off = λ close.
      let p = program old.plan.program.now in
      let r = own_rules needs old.thread.nest close in
      record {
        turns = record {
          plan = refl;
          nest = refl;
          stands = λ fs x shows.
              let st = with_own x (state_of old.thread) in
              subst (IsAt old) (sym (stays p r (has_next old t) old.thread.flow off fs st)) (record { own = x; shows = shows; is = refl });
        };
        noted = λ x. nothing (has_next old t) old.thread.flow off (with_own x (state_of old.thread));
      }
    where
      stays : (p : Program) (r : Rules Own) (b : Bool) (f : rFlow) → (f ≡ rFaulted) ⊎ (f ≡ rStopped) → (fs : List (Frame Own)) (st : State Own)
          → if◌then◌else◌ {A = Standing Own} b (by_flow p r (flow_of f) t.label (begun t) fs fs st) (record { frames = fs; state = st })
          ≡ record { frames = fs; state = st }
      stays p r true f (inl e) fs st = ap (λ (g : rFlow). by_flow p r (flow_of g) t.label (begun t) fs fs st) e
      stays p r true f (inr e) fs st = ap (λ (g : rFlow). by_flow p r (flow_of g) t.label (begun t) fs fs st) e
      stays p r false f away fs st = refl

      nothing : (b : Bool) (f : rFlow) → (f ≡ rFaulted) ⊎ (f ≡ rStopped) → (st : State Own) → Nothing b f st
      nothing true f (inl e) st = subst (λ (g : rFlow). Nothing true g st) (sym e) (refl, inl refl)
      nothing true f (inr e) st = subst (λ (g : rFlow). Nothing true g st) (sym e) (refl, inl refl)
      nothing false f away st = (refl, inl refl)

  -- a piece is left, and no step
  pub missed : has_next old t ≡ true → old.thread.flow ≡ rOn → (u : Thread TaskMemory)
      → MissesStep (λ (m : TaskMemory). contents_of m.holdings) old.thread u
      → DidTurn needs (further t) old Exceeded (record old { thread = u })
  missed left on u miss = did_turn Exceeded (record old { thread = u }) left (λ close.
      let p = program old.plan.program.now in
      let r = own_rules needs old.thread.nest close in
      let is_on = ap flow_of on in
      let none = miss.none on in
      let same = miss.same in
      record {
        turns = record {
          plan = refl;
          nest = ap (λ (v : Thread TaskMemory). v.nest) same;
          stands = λ fs x shows.
              let st = with_own x (state_of old.thread) in
              let over : by_flow p r st.flow t.label (begun t) fs fs st ≡ record { frames = fs; state = stopped st }
              = ap (λ (g : Flow). by_flow p r g t.label (begun t) fs fs st) is_on
              ∙ ap (λ (k : ℕ). paid p r k t.label (begun t) fs st) none in
              subst (IsAt (record old { thread = u })) (sym over) (record {
                own = x;
                shows = record {
                  frames = shows.frames;
                  owned = shows.owned ∙ sym (ap (λ (v : Thread TaskMemory). owned_by v.store.holdings) same);
                  pending = shows.pending;
                  few = (let a = ap (λ (v : Thread TaskMemory). v.spawned + v.steps) same in
                      let c : old.thread.spawned + old.thread.steps ≤ old.plan.budget.steps = shows.few in
                      omega (arith, a, c));
                };
                is = ap (with_own x) (miss.flow ∙ ap (λ (g : Flow). at_flow g (state_of old.thread) stopped) is_on);
              });
        };
        noted = λ x.
            let st = with_own x (state_of old.thread) in
            ap (λ (g : Flow). is_next_over old.thread.nest g st.steps (begun t)) is_on
            ∙ ap (λ (k : ℕ). is_over old.thread.nest k (begun t)) none;
      })

-- Runs continue: by nothing, by a turn, by a plain statement at once, and by several of these in
-- sequence.
use Rattle.std.proofs.Common.{◌≡◌, ℕ, zero, suc, ◌+◌, ◌<◌, ◌≤◌, List, [], ◌∷◌, ◌++◌, map, Option, None, refl, sym, ap, ◌∙◌, subst, inl, arith}
use Rattle.std.specs.Borrow.{Bor}
use Rattle.types.specs.declared.code.Stmt.{Stmt}
use Rattle.types.specs.Code.{Code, Codes, End, Then, Program}
use Rattle.types.specs.Meaning.{one}
use Rattle.types.specs.Run.{State, Rules, Block, run}
use Rattle.types.specs.Translation.{code, codes, program}
use Rattle.effects.specs.Needs.{Needs}
use Rattle.statement_steps.specs.Standing.{flow as flow_of}
use Rattle.statement_steps.specs.declared.flow.Flow.TheVariants.{On as rOn}
use Rattle.statement_steps.specs.declared.thread.Plan.{Plan}
use Rattle.effects.specs.Statements.{HasStatement}
use Rattle.plain_code.specs.Pieces.{IsCodeOfProgram}
use Rattle.plain_code.specs.declared.pieces.ProgramCode.{ProgramCode}
use Rattle.plain_code.specs.Means.{times}
use Rattle.plain_code.specs.Plain.{IsPlain}
use Rattle.plain_code.proofs.PlainMeaning.{bare_beside, plain_means}
use Rattle.task_run.specs.Results.{Settled}
use Rattle.task_run.specs.OwnRun.{Own, Step, notes, own_rules}
use Rattle.task_run.specs.Frames.{Frame, Rest, Again, Further, AtEnd, OnFault, Back, Standing, done_in, turn}
use Rattle.task_run.specs.Left.{left_of}
use Rattle.task_run.specs.Passed.{HasPiece, IsPassed}
use Rattle.task_run.specs.Quiet.{IsLittle, Quietly, here, further}
use Rattle.task_run.specs.RunTurns.{FirstIsOf, GoesOn, GoesTo, IsStep, IsTurn, NextIsOf, TurnOf, turn_of}
use Rattle.task_run.specs.Standings.{Shows, Stacked, state_of, with_own}
use Rattle.task_run.specs.Translation.{listed, owned_by}
use Rattle.task_run.specs.declared.frame.TaskFrame.{TaskFrame as rFrame}
use Rattle.task_run.specs.declared.frame.TaskFrame.TheVariants.{Rest as rRest}
use Rattle.task_run.specs.declared.run.Run.{Run}
use Rattle.task_run.specs.declared.turn.Done.{Done}
use Rattle.task_run.specs.declared.turn.Done.TheVariants.{Exceeded, Gone}
use Rattle.task_run.specs.declared.turn.Step.{Step as rStep}
use Rattle.task_run.specs.declared.turn.Step.TheVariants.{Did as rDid}
use Rattle.task_run.specs.declared.turn.Turn.TheVariants.{Going, Over}
use Rattle.task_run.proofs.ListedTurns.{over_does_nothing}
use Rattle.task_run.proofs.PlainTurns.{quietly_more, statement_after, statement_passes}
use Rattle.task_run.proofs.RunSteps.{stacked-pushed}
use Rattle.task_run.proofs.RunTops.{on_this}
use Rattle.task_run.proofs.TurnsLeft.{goes_left, left_same, quiet_no_more, rest_leaves}

-- the configuration of a run that continues
abbrev Stands : (needs : Codes → Needs) → (close : State Own → Option Settled) → (old new : Run) → List (Frame Own) → State Own
    → Type 0
Stands needs close old new fs st =
    (t : Standing Own)
    × Quietly (program old.plan.program.now) needs old.thread.nest close (record { frames = fs; state = st }) t
    × GoesTo old t new

-- a step in place that did this was this turn
pub did : (needs : Codes → Needs) (old new : Run) (s : rStep) (d e : Done) → IsStep needs old s new → s ≡ rDid d → d ≡ e
    → IsTurn needs old (turn_of new e)
did needs old new s d e is to same =
    subst (λ (d : Done). IsTurn needs old (turn_of new d)) same (subst (λ (s : rStep). IsStep needs old s new) to is)

-- by nothing
pub goes_nowhere : (needs : Codes → Needs) (r : Run) → GoesOn needs r r
goes_nowhere needs r = λ close fs x shows. (
  record { frames = fs; state = with_own x (state_of r.thread) },
  here,
  record { plan = refl; nest = refl; stands = record { own = x; shows = shows; is = refl } },
)

-- by a turn that does at most a step
module _ (needs : Codes → Needs) (close : State Own → Option Settled) (old new : Run) where
  abbrev next : Frame Own → List (Frame Own) → State Own → Standing Own
  next = turn (program old.plan.program.now) (own_rules needs old.thread.nest close)

  goes : (f : Frame Own) (fs : List (Frame Own)) (st : State Own) → GoesTo old (next f fs st) new
      → IsLittle (done_in needs old.thread.nest f st) → Stands needs close old new (f ∷ fs) st
  goes f fs st to little = (next f fs st, further little here, to)

  going : (fs : List (Frame Own)) (st : State Own) → TurnOf needs close old fs st (Going new) → Stands needs close old new fs st
  going [] st h = absurd h
  going (AtEnd before ∷ fs) st h = absurd h
  going (Rest b ∷ fs) st h = goes (Rest b) fs st h.0 h.1.1
  going (Again l t b ∷ fs) st h = goes (Again l t b) fs st h.0 h.1.1
  going (Further l s n k q i b ∷ fs) st h = goes (Further l s n k q i b) fs st h.0 h.1.1
  going (OnFault before x c ∷ fs) st h = goes (OnFault before x c) fs st h.0 h.1.1
  going (Back env ∷ fs) st h = goes (Back env) fs st h.0 h.1.1

  -- or a turn that goes over the budget
  over : (fs : List (Frame Own)) (st : State Own) → TurnOf needs close old fs st (Over new) → Stands needs close old new fs st
  over [] st h = absurd h
  over (AtEnd before ∷ fs) st h = absurd h
  over (Rest b ∷ fs) st h = goes (Rest b) fs st h.0 (inl (over_does_nothing needs old.thread.nest (Rest b) st h.1))
  over (Again l t b ∷ fs) st h =
      goes (Again l t b) fs st h.0 (inl (over_does_nothing needs old.thread.nest (Again l t b) st h.1))
  over (Further l s n k q i b ∷ fs) st h =
      goes (Further l s n k q i b) fs st h.0 (inl (over_does_nothing needs old.thread.nest (Further l s n k q i b) st h.1))
  over (OnFault before x c ∷ fs) st h =
      goes (OnFault before x c) fs st h.0 (inl (over_does_nothing needs old.thread.nest (OnFault before x c) st h.1))
  over (Back env ∷ fs) st h = goes (Back env) fs st h.0 (inl (over_does_nothing needs old.thread.nest (Back env) st h.1))

pub goes_turn : (needs : Codes → Needs) (old new : Run) → IsTurn needs old (Going new) → GoesOn needs old new
goes_turn needs old new is = λ close fs x shows.
    going needs close old new fs (with_own x (state_of old.thread)) (is close fs x shows)

pub goes_over : (needs : Codes → Needs) (old new : Run) → IsTurn needs old (Over new) → GoesOn needs old new
goes_over needs old new is = λ close fs x shows.
    over needs close old new fs (with_own x (state_of old.thread)) (is close fs x shows)

-- by several of these in sequence
pub goes_more : (needs : Codes → Needs) (a b c : Run) → GoesOn needs a b → GoesOn needs b c → GoesOn needs a c
goes_more needs a b c h k = λ close fs x shows.
    let first = h close fs x shows in
    let at = first.2.stands in
    let second = k close first.0.frames at.own at.shows in
    let start : State Own → Standing Own = λ st. record { frames = first.0.frames; state = st } in
    let onward : Quietly (program a.plan.program.now) needs a.thread.nest close first.0 second.0
    = subst (λ (st : State Own). Quietly (program a.plan.program.now) needs a.thread.nest close (start st) second.0) at.is
    (subst (λ (n : ℕ). Quietly (program a.plan.program.now) needs n close (start (with_own at.own (state_of b.thread))) second.0) first.2.nest
    (subst (λ plan. Quietly (program plan.program.now) needs b.thread.nest close (start (with_own at.own (state_of b.thread))) second.0)
    first.2.plan second.1)) in (
      second.0,
      quietly_more (program a.plan.program.now) needs a.thread.nest close first.1 onward,
      record { plan = second.2.plan ∙ first.2.plan; nest = second.2.nest ∙ first.2.nest; stands = second.2.stands },
    )

-- then by a step in place that did at most a step
pub goes_did : (needs : Codes → Needs) (a b c : Run) (s : rStep) (d : Done) → GoesOn needs a b → IsStep needs b s c → s ≡ rDid d → d ≡ Gone
    → GoesOn needs a c
goes_did needs a b c s d so_far is to same = goes_more needs a b c so_far (goes_turn needs b c (did needs b c s d Gone is to same))

-- or by one that was over the budget
pub goes_exceeded : (needs : Codes → Needs) (a b c : Run) (s : rStep) (d : Done) → GoesOn needs a b → IsStep needs b s c → s ≡ rDid d
    → d ≡ Exceeded → GoesOn needs a c
goes_exceeded needs a b c s d so_far is to same = goes_more needs a b c so_far (goes_over needs b c (did needs b c s d Exceeded is to same))

-- with the same plan
pub goes_plan : (needs : Codes → Needs) (a b : Run) (fs : List (Frame Own)) (x : Own) → Shows a fs x → GoesOn needs a b
    → b.plan ≡ a.plan
goes_plan needs a b fs x shows far = (far (λ st. None) fs x shows).2.plan

-- ---- by a plain statement
-- recorded steps leave everything else unchanged
noted_owned : (n : ℕ) (x : Own) → (times n (notes Step) x).owned ≡ x.owned
noted_owned zero x = refl
noted_owned (suc n) x = noted_owned n (notes Step x)

noted_pending : (n : ℕ) (x : Own) → (times n (notes Step) x).pending ≡ x.pending
noted_pending zero x = refl
noted_pending (suc n) x = noted_pending n (notes Step x)

-- The top frame is a block, whose first statement is plain and was done at once. The number of
-- fresh steps of a child has no effect.
module _ (needs : Codes → Needs) (old new : Run) (fresh : ℕ) (hs : List rFrame) (b rest : Bor (List Stmt)) (s : Stmt) where
  abbrev p : Program
  p = program old.plan.program.now

  abbrev c : Code
  c = code s.kind

  record PassedBy : Type 0 where
    pub top : old.frames.items ≡ hs ++ rRest b ∷ []
    pub parts : b.now ≡ s ∷ rest.now
    pub put : new.frames.items ≡ hs ++ rRest rest ∷ []
    pub plan : new.plan ≡ old.plan
    pub nest : new.thread.nest ≡ old.thread.nest
    pub pending : new.pending ≡ old.pending
    pub owned : owned_by new.thread.store.holdings ≡ owned_by old.thread.store.holdings
    pub few : new.thread.spawned + new.thread.steps ≤ old.plan.budget.steps
    pub plain : IsPlain p s.label c
    pub on : old.thread.flow ≡ rOn
    pub state : state_of new.thread ≡ one p fresh old.thread.nest (Block (Then s.label c End)) (state_of old.thread)

  module _ (by : PassedBy) (close : State Own → Option Settled) (x : Own) where
    abbrev r : Rules Own
    r = own_rules needs old.thread.nest close

    abbrev st : State Own
    st = with_own x (state_of old.thread)

    -- the configuration after it
    abbrev to : List (Frame Own) → Standing Own
    to below = record { frames = Rest (codes rest.now) ∷ below; state = run p r (Block (Then s.label c End)) st }

    passed_to : (below : List (Frame Own)) (fs : List (Frame Own)) → Stacked hs below → Shows old fs x → GoesTo old (to below) new
    passed_to below fs stacked shows =
        let k = plain_means p r (notes Step) (λ l x. refl) fresh old.thread.nest (Block (Then s.label c End)) by.plain st in
        let y = times k.taken (notes Step) x in
        record {
          plan = by.plan;
          nest = by.nest;
          stands = record {
            own = y;
            shows = record {
              frames = stacked-pushed hs new.frames.items (rRest rest) (Rest (codes rest.now)) below by.put refl stacked;
              owned = noted_owned k.taken x ∙ shows.owned ∙ sym by.owned;
              pending = ap (map (λ c. c.listed)) (noted_pending k.taken x) ∙ shows.pending ∙ ap (λ v. map listed v.items) (sym by.pending);
              few = subst (λ plan. new.thread.spawned + new.thread.steps ≤ plan.budget.steps) (sym by.plan) by.few;
            };
            is = ap (with_own y) by.state
                ∙ ap (λ (v : State (Unit {0})). with_own y (one p fresh old.thread.nest (Block (Then s.label c End)) v))
                (sym (bare_beside x (state_of old.thread)))
                ∙ sym k.is;
          };
        }

    -- a fact about all frames that it may have
    by_top : (P : List (Frame Own) → Type 0) (fs : List (Frame Own)) → Shows old fs x
        → ((below : List (Frame Own)) → Stacked hs below → P (Rest (Then s.label c (codes rest.now)) ∷ below)) → P fs
    by_top P fs shows h =
        on_this old.frames.items hs (rRest b) (rRest b) (Rest (Then s.label c (codes rest.now))) fs by.top refl
        (λ f is. is ∙ ap (λ b. Rest (codes b)) by.parts) shows.frames P h

    passed : (fs : List (Frame Own)) → Shows old fs x → Stands needs close old new fs st
    passed fs shows =
        by_top (λ (fs : List (Frame Own)). Stands needs close old new fs st) fs shows (λ below stacked. (
          to below,
          statement_passes p needs old.thread.nest close s.label c (codes rest.now) by.plain below st (ap flow_of by.on),
          passed_to below fs stacked shows,
        ))

    -- fewer turns are left: `left`, `left_same`, `goes_left`, `rest_leaves` and `quiet_no_more` of
    -- TurnsLeft
    passed_leaves : (fs : List (Frame Own)) → Shows old fs x → left_of new < left_of old
    passed_leaves fs shows =
        by_top (λ (fs : List (Frame Own)). Shows old fs x → left_of new < left_of old) fs shows (λ below stacked shown.
        let n = old.thread.nest in
        let budget = old.plan.budget.steps in
        let start = left_same old _ x shown in
        let end = goes_left needs old (to below) new (passed_to below _ stacked shown) in
        let first = rest_leaves budget p needs close n (Then s.label c (codes rest.now)) below st in
        let others = quiet_no_more budget p needs close n
        (statement_after p needs n close s.label c (codes rest.now) by.plain below st (ap flow_of by.on)) in
        omega (arith, start, end, first, others)) shows

  goes_plain : PassedBy → GoesOn needs old new
  goes_plain by = λ close fs x shows. passed by close x fs shows

  plain_leaves_fewer : PassedBy → (fs : List (Frame Own)) (x : Own) → Shows old fs x → left_of new < left_of old
  plain_leaves_fewer by fs x shows = passed_leaves by (λ st. None) x fs shows

-- ---- the effect of a piece of code, for a run that has continued so far
module _ (needs : Codes → Needs) (c : ProgramCode) (number : ℕ) (rest : Bor (List Stmt)) (start old new : Run)
    (plan : old.plan ≡ start.plan) (h : HasPiece c old number rest) (done : IsPassed c number rest old new)
    (of : IsCodeOfProgram (program start.plan.program.now) c) (next : NextIsOf (program start.plan.program.now) old) where
  abbrev its : Program
  its = program old.plan.program.now

  its_code : IsCodeOfProgram its c
  its_code = subst (λ (q : Plan). IsCodeOfProgram (program q.program.now) c) (sym plan) of

  -- the statement belongs to the program
  first_stands : HasStatement its h.first.label (code h.first.kind)
  first_stands =
      let is = subst (λ (q : Plan). NextIsOf (program q.program.now) old) (sym plan) next in
      on_this old.frames.items h.below (rRest h.block) (rRest h.block) (Rest (Then h.first.label (code h.first.kind) (codes rest.now)))
      is.frames h.top refl (λ f is. is ∙ ap (λ b. Rest (codes b)) h.parts) is.shows.frames
      (λ (fs : List (Frame Own)). FirstIsOf its fs → HasStatement its h.first.label (code h.first.kind))
      (λ below stacked is. is) is.next

  passed_by : PassedBy needs old new old.plan.budget.steps h.below h.block rest h.first
  passed_by =
      let s = (its_code.pieces h.first.label number h.piece).of (code h.first.kind) first_stands in
      record {
        top = h.top;
        parts = h.parts;
        put = done.frames h.below h.block h.top;
        plan = done.plan;
        nest = done.nest;
        pending = done.pending;
        owned = done.owned;
        few = done.few;
        plain = s.plain;
        on = h.on;
        state = done.state (Then h.first.label (code h.first.kind) End) h.flat h.read (s.code h.flat h.read);
      }

  pub goes_at_once : GoesOn needs old new
  goes_at_once = goes_plain needs old new old.plan.budget.steps h.below h.block rest h.first passed_by

  pub at_once_leaves_fewer : (fs : List (Frame Own)) (x : Own) → Shows old fs x → left_of new < left_of old
  at_once_leaves_fewer = plain_leaves_fewer needs old new old.plan.budget.steps h.below h.block rest h.first passed_by

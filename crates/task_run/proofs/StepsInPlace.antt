-- A step in place is the turn of the frame that was the top one.
use Rattle.std.proofs.Common.{◌≡◌, ◌+◌, ◌-◌, ◌<◌, List, [], ◌∷◌, ◌++◌, length, map, take, refl, sym, ap, ◌∙◌, subst, inl, arith}
use Rattle.std.proofs.Common.{Global, Vec}
use Rattle.std.specs.Prelude.{ℕ, Bool, slice_index_or}
use Rattle.std.proofs.lemmas.List.{length-take-le, take_at}
use Rattle.std.specs.Borrow.{Bor}
use Rattle.std.specs.Vec.{with_item}
use Rattle.types.specs.declared.code.Stmt.{Stmt}
use Rattle.types.specs.declared.code.Truth.{Truth as rTruth}
use Rattle.types.specs.declared.fault.Fault.{Fault as rFault}
use Rattle.types.specs.declared.ids.Slot.{Slot}
use Rattle.types.specs.declared.value.Environment.{Environment as rEnvironment}
use Rattle.types.specs.Code.{Codes, End, Then, While}
use Rattle.types.specs.Translation.{code, codes, environment, fault, program, truth}
use Rattle.effects.specs.Needs.{Needs}
use Rattle.statement_steps.specs.declared.turns.TurnsToCome.{TurnsToCome}
use Rattle.task_run.specs.Frames.{Frame, Rest, Again, OnFault, Back, Standing, handled, done_in, turn}
use Rattle.task_run.specs.OwnRun.{Action, Own, own_rules}
use Rattle.task_run.specs.RunTurns.{DidNext, DidTurn, DoneAs, GoesAs, GoesTo, Going_on, IsTurn, TurnOf, Turns, below_top, taken_off, turn_of}
use Rattle.task_run.specs.Standings.{Shows, Stacked, further, state_of, with_own}
use Rattle.task_run.specs.Stops.{stops}
use Rattle.task_run.specs.declared.frame.TaskFrame.{TaskFrame as rFrame}
use Rattle.task_run.specs.declared.frame.TaskFrame.TheVariants.{Rest as rRest, Again as rAgain, Turns as rTurns}
use Rattle.task_run.specs.declared.frame.TaskFrame.TheVariants.{OnFault as rOnFault, EndCall as rEndCall}
use Rattle.task_run.specs.declared.run.Run.{Run}
use Rattle.task_run.specs.declared.turn.Done.{Done}
use Rattle.task_run.specs.declared.turn.Done.TheVariants.{Gone, Spawned, Entered, Exceeded}
use Rattle.task_run.specs.declared.turn.Turn.TheVariants.{Going}
use Rattle.task_run.proofs.RunSteps.{stacked-pushed}
use Rattle.task_run.proofs.RunTops.{ends_in_last, ends_in_set, on_this, with_own_item}

-- what a run did, together with its configuration, is a turn
goes_as : (old : Run) (next : Standing Own) (actions : List Action) (over : Bool) (d : Done) (new : Run) → GoesTo old next new
    → DoneAs actions over d → GoesAs old next actions over (turn_of new d)
goes_as old next actions over Gone new goes done = (goes, done)
goes_as old next actions over (Spawned s) new goes done = (goes, done)
goes_as old next actions over Entered new goes done = (goes, done)
goes_as old next actions over Exceeded new goes done = (goes, done)

-- the top frame was read
module _ (v : Vec rFrame Global) (g : rFrame) (some : 0 < length v.items) (read : g ≡ slice_index_or v.items (v.len - 1) g) where
  abbrev pub below : List rFrame
  below = take (v.len - 1) v.items

  count : v.len - 1 + 1 ≡ length v.items
  count = let e = v.ok.0 in omega (arith, e, some)

  pub is_above : v.items ≡ below ++ g ∷ []
  is_above = ends_in_last v.items g (v.len - 1) count read

  -- another frame replaces it
  pub is_put : (h : rFrame) → (with_item v (v.len - 1) h).items ≡ below ++ h ∷ []
  is_put h = ends_in_set v.items h (v.len - 1) count

  -- without the frame that replaces it
  pub is_off : (h : rFrame) → take (v.len - 1) (with_item v (v.len - 1) h).items ≡ below
  is_off h =
      ap (take (v.len - 1)) (is_put h)
      ∙ take_at below (h ∷ []) (v.len - 1) (length-take-le (v.len - 1) v.items (let e = v.ok.0 in omega (arith, e, some)))

  -- the same frame replaces it
  pub is_kept : with_item v (v.len - 1) g ≡ v
  is_kept = with_own_item v (v.len - 1) g read

module _ (needs : Codes → Needs) (old : Run) (hs : List rFrame) where
  -- what was done over other frames continues from there
  moved : {go : Going_on} {gs : List (Frame Own)} (v : Vec rFrame Global) (new : Run) (fs : List (Frame Own)) (x : Own)
      → Turns go (record old { frames = v }) new → Stacked v.items fs → Shows old gs x
      → GoesTo old (go fs (with_own x (state_of old.thread))) new
  moved v new fs x turns frames shows = record {
    plan = turns.plan;
    nest = turns.nest;
    stands = turns.stands fs x (record { frames = frames; owned = shows.owned; pending = shows.pending; few = shows.few });
  }

  -- the top frame is a block, of which the first statement is done and the rest stays
  pub first_is_turn : (block rest : Bor (List Stmt)) (s : Stmt) (put : Vec rFrame Global) (d : Done) (new : Run)
      → old.frames.items ≡ hs ++ rRest block ∷ [] → block.now ≡ s ∷ rest.now → put.items ≡ hs ++ rRest rest ∷ []
      → DidNext needs below_top s.label (code s.kind) (record old { frames = put }) d new → IsTurn needs old (turn_of new d)
  first_is_turn block rest s put d new top parts is_put did = λ close fs x shows.
      let f = Rest (Then s.label (code s.kind) (codes rest.now)) in
      let st = with_own x (state_of old.thread) in
      let next = did close in
      on_this old.frames.items hs (rRest block) (rRest block) f fs top refl (λ f shows. shows ∙ ap (λ b. Rest (codes b)) parts)
      shows.frames (λ (fs : List (Frame Own)). TurnOf needs close old fs st (turn_of new d))
      (λ below stacked.
      goes_as old (turn (program old.plan.program.now) (own_rules needs old.thread.nest close) f below st)
      (done_in needs old.thread.nest f st) (stops old.thread.nest f st) d new
      (moved put new (Rest (codes rest.now) ∷ below) x next.turns
      (stacked-pushed hs put.items (rRest rest) (Rest (codes rest.now)) below is_put refl stacked) shows)
      (next.noted x))

  -- it is the next iteration of a loop, and was taken off
  pub again_is_turn : (l : ℕ) (guard : Bor rTruth) (body : Bor (List Stmt)) (popped : Vec rFrame Global) (d : Done) (new : Run)
      → old.frames.items ≡ hs ++ rAgain l guard body ∷ [] → popped.items ≡ hs
      → DidNext needs (λ fs. fs) l (While (truth guard.now) (codes body.now)) (record old { frames = popped }) d new
      → IsTurn needs old (turn_of new d)
  again_is_turn l guard body popped d new top is_popped did = λ close fs x shows.
      let f = Again l (truth guard.now) (codes body.now) in
      let st = with_own x (state_of old.thread) in
      let next = did close in
      on_this old.frames.items hs (rAgain l guard body) (rAgain l guard body) f fs top refl (λ f shows. shows)
      shows.frames (λ (fs : List (Frame Own)). TurnOf needs close old fs st (turn_of new d))
      (λ below stacked.
      goes_as old (turn (program old.plan.program.now) (own_rules needs old.thread.nest close) f below st)
      (done_in needs old.thread.nest f st) (stops old.thread.nest f st) d new
      (moved popped new below x next.turns (subst (λ (gs : List rFrame). Stacked gs below) (sym is_popped) stacked) shows)
      (next.noted x))

  -- it is the turns to come of a `parts`, and was taken off
  pub turns_is_turn : (turns : TurnsToCome) (popped : Vec rFrame Global) (d : Done) (new : Run)
      → old.frames.items ≡ hs ++ rTurns turns ∷ [] → popped.items ≡ hs
      → DidTurn needs (further turns) (record old { frames = popped }) d new
      → IsTurn needs old (turn_of new d)
  turns_is_turn turns popped d new top is_popped did = λ close fs x shows.
      let f = further turns in
      let st = with_own x (state_of old.thread) in
      let next = did close in
      on_this old.frames.items hs (rTurns turns) (rTurns turns) f fs top refl (λ f shows. shows)
      shows.frames (λ (fs : List (Frame Own)). TurnOf needs close old fs st (turn_of new d))
      (λ below stacked.
      goes_as old (turn (program old.plan.program.now) (own_rules needs old.thread.nest close) f below st)
      (done_in needs old.thread.nest f st) (stops old.thread.nest f st) d new
      (moved popped new below x next.turns (subst (λ (gs : List rFrame). Stacked gs below) (sym is_popped) stacked) shows)
      (next.noted x))

  -- it is the handler of a finish, and was taken off
  abbrev pub Handles : Vec rFault Global → Slot → Bor (List Stmt) → (old new : Run) → Type 0
  Handles before x b = Turns (λ fs st. handled st.flow (map fault before.items) x.number (codes b.now) fs st)

  pub handler_is_turn : (before : Vec rFault Global) (x : Slot) (b : Bor (List Stmt)) (popped : Vec rFrame Global) (new : Run)
      → old.frames.items ≡ hs ++ rOnFault before x b ∷ [] → popped.items ≡ hs
      → Handles before x b (record old { frames = popped }) new → IsTurn needs old (Going new)
  handler_is_turn before x b popped new top is_popped turns = λ close fs y shows.
      let f = OnFault (map fault before.items) x.number (codes b.now) in
      let st = with_own y (state_of old.thread) in
      on_this old.frames.items hs (rOnFault before x b) (rOnFault before x b) f fs top refl (λ f shows. shows)
      shows.frames (λ (fs : List (Frame Own)). TurnOf needs close old fs st (Going new))
      (λ below stacked. (
        moved popped new below y turns (subst (λ (gs : List rFrame). Stacked gs below) (sym is_popped) stacked) shows,
        (refl, inl refl),
      ))

  -- it is a block at its end
  pub end_is_turn : (block : Bor (List Stmt)) (new : Run) → old.frames.items ≡ hs ++ rRest block ∷ [] → block.now ≡ []
      → Turns taken_off old new → IsTurn needs old (Going new)
  end_is_turn block new top none turns = λ close fs x shows.
      let st = with_own x (state_of old.thread) in
      on_this old.frames.items hs (rRest block) (rRest block) (Rest End) fs top refl (λ f shows. shows ∙ ap (λ b. Rest (codes b)) none)
      shows.frames (λ (fs : List (Frame Own)). TurnOf needs close old fs st (Going new))
      (λ below stacked. (
        moved old.frames new (Rest End ∷ below) x turns
            (stacked-pushed hs old.frames.items (rRest block) (Rest End) below top (ap (λ b. Rest (codes b)) (sym none)) stacked) shows,
        (refl, inl refl),
      ))

  -- it is the end of a call
  pub back_is_turn : (env : rEnvironment) (new : Run) → old.frames.items ≡ hs ++ rEndCall env ∷ [] → Turns taken_off old new
      → IsTurn needs old (Going new)
  back_is_turn env new top turns = λ close fs x shows.
      let f = Back (environment env) in
      let st = with_own x (state_of old.thread) in
      on_this old.frames.items hs (rEndCall env) (rEndCall env) f fs top refl (λ f shows. shows)
      shows.frames (λ (fs : List (Frame Own)). TurnOf needs close old fs st (Going new))
      (λ below stacked. (
        moved old.frames new (f ∷ below) x turns (stacked-pushed hs old.frames.items (rEndCall env) f below top refl stacked) shows,
        (refl, inl refl),
      ))

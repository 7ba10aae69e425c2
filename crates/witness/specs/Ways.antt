-- Ways: from statements down to an access that they may do, or leave pending, step by step.
use Rattle.std.specs.Prelude.{ℕ, ◌≡◌, ◌<◌, Bool, false, List, [], ◌∷◌, length, Some, slice_get}
use Rattle.sections.specs.Member.{Member}
use Rattle.types.specs.Code.{Number, Truth, Code, If, While, Split, Parts, Call, Async, Finish, Rescue, Codes}
use Rattle.types.specs.Code.{Then, Program}
use Rattle.types.specs.Run.{procedure_of}
use Rattle.effects.specs.Accesses.{Access, own_accesses}
use Rattle.effects.specs.Effects.{past_parts, past_split}
use Rattle.witness.specs.declared.step.Rule.{Rule}
use Rattle.witness.specs.declared.step.Rule.TheVariants.{Own, Body, Other, Turn, Side, Piece, Enter, Begin}
use Rattle.witness.specs.declared.step.Rule.TheVariants.{Await, Handler}
use Rattle.witness.specs.declared.step.WayStep.{WayStep}

-- the step at the statement with this label, if the section has this name
abbrev pub step : (label : ℕ) → Rule → (section : ℕ) → WayStep
step l rule s = record { label = l; rule = rule; section = record { number = s } }

module _ (p : Program) where
  -- the rules of the table: a statement does, or leaves pending, to the section `outer` what a list
  -- of statements does, or leaves pending, to what has the name `inner` there
  pub data Goes : (pending : Bool) → Code → Rule → (inside : Bool) → Codes → (outer inner : ℕ)
      → Type 0 where
    body : {m : Bool} {t : Truth} {b c : Codes} {s : ℕ} → Goes m (If t b c) Body m b s s
    other : {m : Bool} {t : Truth} {b c : Codes} {s : ℕ} → Goes m (If t b c) Other m c s s
    turn : {m : Bool} {t : Truth} {b : Codes} {s : ℕ} → Goes m (While t b) Turn m b s s
    -- both sides of a split belong to the section that was split
    side : {m : Bool} {s : ℕ} {e : Number} {l r : ℕ} {b : Codes} {x : ℕ}
        → Goes m (Split s e l r b) Side m b (past_split s l r x) x
    -- the piece of a `parts` belongs to its section
    piece : {m : Bool} {s : ℕ} {e : Number} {q i : ℕ} {b : Codes} {x : ℕ}
        → Goes m (Parts s e q i b) Piece m b (past_parts s q x) x
    -- parameter k is the section that is passed for it
    enter : {m : Bool} {f : ℕ} {es : List Number} {ss : List ℕ} {s k : ℕ}
        → slice_get ss k ≡ Some s → k < length (procedure_of p f).parameters
        → Goes m (Call f es ss) (Enter (record { number = f })) m (procedure_of p f).body s k
    -- an async leaves pending all that its body does
    begin : {m : Bool} {b : Codes} {s : ℕ} → Goes m (Async b) Begin false b s s
    -- a finish leaves nothing pending
    await : {b : Codes} {s : ℕ} → Goes false (Finish b) Await false b s s
    -- nor does the body of a rescue; what the handler leaves pending, the rescue leaves pending
    rescued : {n : ℕ} {b c : Codes} {s : ℕ} → Goes false (Rescue b n c) Await false b s s
    handler : {m : Bool} {n : ℕ} {b c : Codes} {s : ℕ} → Goes m (Rescue b n c) Handler m c s s

  mutual
    -- these steps lead from a statement to an access that it may do, or leave pending
    pub data WayOf : (pending : Bool) → (label : ℕ) → Code → List WayStep → Access → Type 0 where
      -- its own expressions make the access
      own : {l : ℕ} {s : Code} {x : Access} → Member x (own_accesses l s)
          → WayOf false l s (step l Own x.section ∷ []) x
      -- or statements inside it make the access, or statements of the procedure that it calls
      by : {m n : Bool} {l : ℕ} {s : Code} {rule : Rule} {b : Codes} {inner : ℕ}
          {steps : List WayStep} {x : Access}
          → Goes m s rule n b x.section inner → Way n b steps (record x { section = inner })
          → WayOf m l s (step l rule x.section ∷ steps) x

    -- a way from a list of statements is a way from one of them
    pub data Way : (pending : Bool) → Codes → List WayStep → Access → Type 0 where
      here : {m : Bool} {l : ℕ} {s : Code} {rest : Codes} {steps : List WayStep} {x : Access}
          → WayOf m l s steps x → Way m (Then l s rest) steps x
      later : {m : Bool} {l : ℕ} {s : Code} {rest : Codes} {steps : List WayStep} {x : Access}
          → Way m rest steps x → Way m (Then l s rest) steps x

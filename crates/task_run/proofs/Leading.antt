-- A statement that leads to others does in a run what it does in a task.
use Rattle.std.proofs.Common.{◌≡◌, ℕ, ◌+◌, List, [], ◌∷◌, ◌++◌, Ok, Err, Vec, Global, refl, sym, ap, ◌∙◌, subst, arith}
use Rattle.std.proofs.lemmas.List.{append_assoc, append-nil}
use Rattle.std.specs.Prelude.{Bool, true, false, ok_or}
use Rattle.sections.specs.Place.{sides_of}
use Rattle.types.specs.declared.fault.FaultKind.TheVariants.{SplitPoint, PieceSize}
use Rattle.types.specs.Code.{Code, Codes, Truth, Program, Do, If, While, Split, Parts, Begun, Call, Async, Finish, Rescue}
use Rattle.types.specs.Run.{State, Rules, number_at, numbers_at, truth_at, window_at, piece_size}
use Rattle.types.specs.Translation.{program}
use Rattle.types.specs.Value.{Valued, then_try}
use Rattle.statement_steps.specs.declared.next.Next.{Next as rNext}
use Rattle.statement_steps.specs.declared.next.Next.TheVariants.{Nothing as rNothing, Block as rBlock, Iteration as rIteration}
use Rattle.statement_steps.specs.declared.next.Next.TheVariants.{Turns as rTurns, Body as rBody}
use Rattle.statement_steps.specs.declared.thread.Thread.{Thread}
use Rattle.statement_steps.proofs.Leading.{IsControl}
use Rattle.statement_steps.specs.Leading.{Next, Nothing, Inside, Iteration, Turns, Body, Led, Leads, by_value, led, leads_to, next_of}
use Rattle.task_run.specs.Frames.{Frame, Rest, Again, Further, Back, Standing, acted, by_value as valued}
use Rattle.task_run.specs.Leading.{frames_of}
use Rattle.task_run.specs.OwnRun.{Own, own_rules}
use Rattle.task_run.specs.RunTurns.{Acts}
use Rattle.task_run.specs.Standings.{IsAt, Stacked, state_of, with_own}
use Rattle.task_run.specs.Translation.{contents_of}
use Rattle.task_run.specs.declared.frame.TaskFrame.{TaskFrame as rFrame}
use Rattle.task_run.specs.declared.frame.TaskFrame.TheVariants.{Rest as rRest, Again as rAgain, Turns as rFurther, EndCall as rEndCall}
use Rattle.task_run.specs.declared.memory.TaskMemory.{TaskMemory}
use Rattle.task_run.specs.declared.run.Run.{Run}
use Rattle.task_run.proofs.RunSteps.{shape}

-- what comes next, above frames
abbrev pub put : {X : Type 0} → Next → List (Frame X) → List (Frame X)
put Nothing fs = fs
put (Inside b) fs = Rest b ∷ fs
put (Iteration l t b) fs = Rest b ∷ Again l t b ∷ fs
put (Turns l s n k x i b) fs = Further l s n k x i b ∷ fs
put (Body b env) fs = Rest b ∷ Back env ∷ fs

-- ---- what the statement leads to

module _ (x : Own) (fs : List (Frame Own)) where
  -- with what the run keeps in addition
  abbrev pub there : Led (Unit {0}) → Standing Own
  there a = record { frames = put a.next fs; state = with_own x a.state }

  valued_led : {A : Type 0} (l : ℕ) (v : Valued A) (go : A → Led (Unit {0})) (go_own : A → Standing Own) (st : State (Unit {0}))
      → ((a : A) → go_own a ≡ there (go a))
      → valued l v go_own fs (with_own x st) ≡ there (by_value l v go st)
  valued_led l (Ok a) go go_own st same = same a
  valued_led l (Err k) go go_own st same = refl

  -- two values, one after the other
  twice : {A B : Type 0} (l : ℕ) (v : Valued A) (second : A → Valued B) (go : B → Led (Unit {0})) (go_own : B → Standing Own)
      (st : State (Unit {0})) → ((b : B) → go_own b ≡ there (go b))
      → valued l v (λ a. valued l (second a) go_own fs (with_own x st)) fs (with_own x st)
      ≡ there (by_value l (then_try v second) go st)
  twice l (Ok a) second go go_own st same = valued_led l (second a) go go_own st same
  twice l (Err k) second go go_own st same = refl

  module _ (p : Program) (r : Rules Own) (l : ℕ) where
    choice : (b c : Codes) (st : State (Unit {0})) (v : Bool)
        → Rattle.task_run.specs.Frames.chosen v (Rest b ∷ fs) (Rest c ∷ fs) (with_own x st)
        ≡ there (leads_to (Rattle.std.specs.Prelude.if◌then◌else◌ v (Inside b) (Inside c)) st)
    choice b c st true = refl
    choice b c st false = refl

    iteration : (t : Truth) (b : Codes) (st : State (Unit {0})) (v : Bool)
        → Rattle.task_run.specs.Frames.chosen v (Rest b ∷ Again l t b ∷ fs) fs (with_own x st)
        ≡ there (leads_to (Rattle.std.specs.Prelude.if◌then◌else◌ v (Iteration l t b) Nothing) st)
    iteration t b st true = refl
    iteration t b st false = refl

    pub acted_led : (c : Code) → IsControl c → (st : State (Unit {0})) → acted p r l c fs (with_own x st) ≡ there (led p l c st)
    acted_led (Do s) is st = elim is [ ]
    acted_led (If t b c) is st = valued_led l (truth_at st t) _ _ st (choice b c st)
    acted_led (While t b) is st = valued_led l (truth_at st t) _ _ st (iteration t b st)
    acted_led (Split s e y z b) is st =
        twice l (number_at st e) (λ v. ok_or (sides_of (window_at st s) v) SplitPoint) _ _ st (λ ws. refl)
    acted_led (Parts s e y i b) is st = twice l (number_at st e) (λ v. ok_or (piece_size v) PieceSize) _ _ st (λ n. refl)
    acted_led (Call f es ss) is st = valued_led l (numbers_at st es) _ _ st (λ vs. refl)
    acted_led (Begun s n k y i b) is st = elim is [ ]
    acted_led (Async b) is st = elim is [ ]
    acted_led (Finish b) is st = elim is [ ]
    acted_led (Rescue b y c) is st = elim is [ ]

-- ---- the frames in Rust

two_more : (gs : List rFrame) (a b : rFrame) → gs ++ a ∷ b ∷ [] ≡ (gs ++ a ∷ []) ++ b ∷ []
two_more gs a b = sym (append_assoc gs (a ∷ []) (b ∷ []))

pub stacked_put : (gs : List rFrame) (n : rNext) (fs : List (Frame Own)) → Stacked gs fs
    → Stacked (gs ++ frames_of n) (put (next_of n) fs)
stacked_put gs rNothing fs stacked = subst (λ hs. Stacked hs fs) (sym (append-nil gs)) stacked
stacked_put gs (rBlock b) fs stacked = (gs, rRest b, refl, refl, stacked)
stacked_put gs (rIteration l t b) fs stacked =
    (gs ++ rAgain l t b ∷ [], rRest b, two_more gs (rAgain l t b) (rRest b), refl, (gs, rAgain l t b, refl, refl, stacked))
stacked_put gs (rTurns t) fs stacked = (gs, rFurther t, refl, refl, stacked)
stacked_put gs (rBody b env) fs stacked =
    (gs ++ rEndCall env ∷ [], rRest b, two_more gs (rEndCall env) (rRest b), refl, (gs, rEndCall env, refl, refl, stacked))

-- ---- the run

-- the contents of what a task holds
abbrev pub contents : TaskMemory → Rattle.types.specs.Contents.Contents
contents m = contents_of m.holdings

-- a statement led the run's task on, and what comes next was put on its frames
pub acts_led : (old : Run) (t : Thread TaskMemory) (hs : Vec rFrame Global) (l : ℕ) (c : Code) (n : rNext) → IsControl c
    → Leads contents shape (led (program old.plan.program.now) l c (state_of old.thread)) n old.thread t
    → hs.items ≡ old.frames.items ++ frames_of n
    → Acts l c old (record old { thread = t; frames = hs })
acts_led old t hs l c n is leads frames = λ needs close.
    let p = program old.plan.program.now in
    let r = own_rules needs old.thread.nest close in
    let a = led p l c (state_of old.thread) in
    record {
      plan = refl;
      nest = leads.nest;
      stands = λ fs x shows. subst (IsAt (record old { thread = t; frames = hs })) (sym (acted_led x fs p r l c is (state_of old.thread)))
          (record {
            own = x;
            shows = record {
              frames = subst (λ gs. Stacked gs (put a.next fs)) (sym frames)
                  (subst (λ m. Stacked (old.frames.items ++ frames_of n) (put m fs)) leads.next (stacked_put old.frames.items n fs shows.frames));
              owned = shows.owned ∙ sym leads.memory;
              pending = shows.pending;
              few = omega (arith, shows.few, leads.steps, leads.spawned);
            };
            is = ap (with_own x) leads.state;
          });
    }

-- the same fact about the run that this gives
pub acts_taken : (old : Run) (t : Thread TaskMemory) (new : Run) (l : ℕ) (c : Code) (n : rNext) → IsControl c
    → Leads contents shape (led (program old.plan.program.now) l c (state_of old.thread)) n old.thread t
    → new.frames.items ≡ old.frames.items ++ frames_of n → new ≡ record old { thread = t; frames = new.frames }
    → Acts l c old new
acts_taken old t new l c n is leads frames same =
    subst (Acts l c old) (sym same) (acts_led old t new.frames l c n is leads frames)

-- Where two ways meet: one to an access that is left pending, and one to what is done after it.
use Rattle.std.specs.Prelude.{ℕ, ◌≡◌, Bool, List, ◌∷◌, true, false}
use Rattle.types.specs.Code.{Number, Truth, Code, While, Parts, Codes, Then, Program}
use Rattle.effects.specs.Accesses.{Access}
use Rattle.effects.specs.Effects.{of_pieces, past_parts}
use Rattle.effects.specs.Statements.{Block}
use Rattle.witness.specs.Ways.{Way, WayOf, step}
use Rattle.witness.specs.declared.step.Rule.TheVariants.{Piece}
use Rattle.witness.specs.declared.step.WayStep.{WayStep}
use Rattle.witness.specs.declared.crossing.RunsTogether.{RunsTogether}
use Rattle.witness.specs.declared.crossing.RunsTogether.TheVariants.{Follows, Turns}

module _ (p : Program) where
  -- a way into the block of a `parts`, to an access in the names of the block
  pub record WayInto (pending : Bool) (l s q : ℕ) (b : Codes) (way : List WayStep) (x : Access)
      : Type 0 where
    pub behind : List WayStep
    pub is : way ≡ step l Piece (past_parts s q x.section) ∷ behind
    pub leads : Way p pending b behind x

  -- two ways from a `parts`, in two of its turns, to accesses that aren't both to the piece
  pub record MeetsInTurns (l s q : ℕ) (b : Codes) (first second : List WayStep) (x y : Access)
      : Type 0 where
    pub pending : WayInto true l s q b first x
    pub later : WayInto false l s q b second y
    pub meet : of_pieces q x y ≡ false

  -- two ways, to x and to y, start at a statement that leaves x pending and at one after it in its
  -- list, or at a loop or a `parts`, in two of its turns
  pub data Meets : Codes → RunsTogether → (pending later : List WayStep) → (x y : Access) → Type 0 where
    follows : {l : ℕ} {s : Code} {rest : Codes} {first second : List WayStep} {x y : Access}
        → WayOf p true l s first x → Way p false rest second y
        → Meets (Then l s rest) Follows first second x y
    turns : {l : ℕ} {t : Truth} {b rest : Codes} {first second : List WayStep} {x y : Access}
        → WayOf p true l (While t b) first x → WayOf p false l (While t b) second y
        → Meets (Then l (While t b) rest) Turns first second x y
    pieces : {l s q i : ℕ} {e : Number} {b rest : Codes} {first second : List WayStep} {x y : Access}
        → MeetsInTurns l s q b first second x y
        → Meets (Then l (Parts s e q i b) rest) Turns first second x y
    inside : {l : ℕ} {s : Code} {b rest : Codes} {kind : RunsTogether} {first second : List WayStep}
        {x y : Access} → Block s b → Meets b kind first second x y
        → Meets (Then l s rest) kind first second x y
    later : {l : ℕ} {s : Code} {rest : Codes} {kind : RunsTogether} {first second : List WayStep}
        {x y : Access} → Meets rest kind first second x y
        → Meets (Then l s rest) kind first second x y

  -- two ways meet at a statement, at a loop, or inside one
  pub data MeetsAt : (label : ℕ) → Code → RunsTogether → (pending later : List WayStep) → (x y : Access)
      → Type 0 where
    turns : {l : ℕ} {t : Truth} {b : Codes} {first second : List WayStep} {x y : Access}
        → WayOf p true l (While t b) first x → WayOf p false l (While t b) second y
        → MeetsAt l (While t b) Turns first second x y
    pieces : {l s q i : ℕ} {e : Number} {b : Codes} {first second : List WayStep} {x y : Access}
        → MeetsInTurns l s q b first second x y → MeetsAt l (Parts s e q i b) Turns first second x y
    inside : {l : ℕ} {s : Code} {b : Codes} {kind : RunsTogether} {first second : List WayStep}
        {x y : Access} → Block s b → Meets b kind first second x y
        → MeetsAt l s kind first second x y

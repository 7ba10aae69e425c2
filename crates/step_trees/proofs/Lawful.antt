-- Statements whose `parts` follow the rules, as a leaf has them.
use Rattle.std.proofs.Common.{ℕ, List, [], ◌∷◌}
use Rattle.types.specs.Code.{Code, Do, If, While, Split, Parts, Begun, Call, Async, Finish, Rescue, Codes, End, Then, Procedure, Program}
use Rattle.types.specs.Run.{procedure_of}
use Rattle.types.specs.Sound.{IsText, IsTextOf}
use Rattle.types.specs.Trees.{Caller, Leaf, append, return_to, returned, returned_by}
use Rattle.types.specs.Value.{Environment}
use Rattle.effects.specs.Sound.{Follows, FollowsOf, IsSound, parameters_of}
use Rattle.step_trees.specs.Laws.{LawfulPartsOf, LawfulParts, HasLawfulParts}

-- the blocks of a statement are texts
abbrev pub HasTexts : Code → Type 0
HasTexts (Begun s n m x i b) = IsText b
HasTexts s = IsTextOf s

has_texts : (s : Code) → IsTextOf s → HasTexts s
has_texts (Do s) k = k
has_texts (If t b c) k = k
has_texts (While t b) k = k
has_texts (Split s e x y b) k = k
has_texts (Parts s e x i b) k = k
has_texts (Begun s n m x i b) k = absurd k
has_texts (Call f es ss) k = k
has_texts (Async b) k = k
has_texts (Finish b) k = k
has_texts (Rescue b x c) k = k

module _ (p : Program) where
  pub record Lawful (s : Code) : Type 0 where
    pub parts : LawfulPartsOf p s
    pub text : HasTexts s

  -- each statement of a list
  abbrev pub AreLawful : Codes → Type 0
  AreLawful End = Unit {0}
  AreLawful (Then l s rest) = Lawful s × AreLawful rest

  abbrev pub StacksLawful : List Caller → Type 0
  StacksLawful [] = Unit {0}
  StacksLawful (f ∷ fs) = AreLawful f.rest × StacksLawful fs

  abbrev pub IsLawful : Leaf → Type 0
  IsLawful k = AreLawful k.rest × StacksLawful k.callers

  pub are_lawful : (b : Codes) → LawfulParts p b → IsText b → AreLawful b
  are_lawful End k text = tt
  are_lawful (Then l s b) k text = (record { parts = k.0; text = has_texts s text.0 }, are_lawful b k.1 text.1)

  mutual
    lawful_of : (g : Procedure) (scope : List ℕ) (s : Code) → FollowsOf p g scope s → LawfulPartsOf p s
    lawful_of g scope (Do s) k = tt
    lawful_of g scope (If t b c) k = (lawful_parts g scope b k.1, lawful_parts g scope c k.2)
    lawful_of g scope (While t b) k = lawful_parts g scope b k.1
    lawful_of g scope (Split s e x y b) k = lawful_parts g (x ∷ y ∷ scope) b k.2
    lawful_of g scope (Parts s e x i b) k = record { procedure = g; scope = scope; cuts = k.0; follows = k.2 }
    lawful_of g scope (Begun s n m x i b) k = record { procedure = g; scope = scope; cuts = k.0; follows = k.1 }
    lawful_of g scope (Call f es ss) k = tt
    lawful_of g scope (Async b) k = lawful_parts g scope b k
    lawful_of g scope (Finish b) k = lawful_parts g scope b k
    lawful_of g scope (Rescue b x c) k = (lawful_parts g scope b k.0, lawful_parts g scope c k.2)

    pub lawful_parts : (g : Procedure) (scope : List ℕ) (b : Codes) → Follows p g scope b → LawfulParts p b
    lawful_parts g scope End k = tt
    lawful_parts g scope (Then l s b) k = (lawful_of g scope s k.0, lawful_parts g scope b k.1)

  -- a sound program has lawful `parts`
  pub sound_parts : IsSound p → HasLawfulParts p
  sound_parts sound = record {
    texts = record { procedures = λ f. (sound.procedures f).text; main = sound.main.text };
    procedures = λ f. let g = procedure_of p f in lawful_parts g (parameters_of g) g.body (sound.procedures f).body;
    main = lawful_parts p.main (parameters_of p.main) p.main.body sound.main.body;
  }

  pub lawful_append : (b c : Codes) → AreLawful b → AreLawful c → AreLawful (append b c)
  lawful_append End c h k = k
  lawful_append (Then l s b) c h k = (h.0, lawful_append b c h.1 k)

  -- back from calls
  back_by : (k : Leaf) (env : Environment) (fs : List Caller) (c : Codes) → AreLawful c → StacksLawful fs
      → IsLawful (return_to fs (record k { environment = env }))
      → IsLawful (elim c as (λ c. Leaf) [
        | End ↦ return_to fs (record k { environment = env })
        | Then l s rest ↦ record k { environment = env; rest = Then l s rest; callers = fs }
      ])
  back_by k env fs End h i deeper = deeper
  back_by k env fs (Then l s rest) h i deeper = (h, i)

  back : (fs : List Caller) (k : Leaf) → StacksLawful fs → IsLawful (return_to fs k)
  back [] k h = (tt, tt)
  back (f ∷ fs) k h = back_by k f.environment fs f.rest h.0 h.1 (back fs (record k { environment = f.environment }) h.1)

  returned_by_lawful : (c : Codes) (k : Leaf) → IsLawful k → IsLawful (returned_by c k)
  returned_by_lawful End k h = back k.callers k h.1
  returned_by_lawful (Then l s rest) k h = h

  pub returned_lawful : (k : Leaf) → IsLawful k → IsLawful (returned k)
  returned_lawful k h = returned_by_lawful k.rest k h

-- Pairs in no order are those that arise in one order or the other.
use Rattle.std.proofs.Common.{◌≡◌, ◌⊎◌, inl, inr, ℕ, ◌+◌, ◌<◌, ◌≤◌, List, [], ◌∷◌, length, map, sym, ap, subst, arith, zero, suc}
use Rattle.std.proofs.lemmas.Bool.{cases_lt}
use Rattle.std.specs.Prelude.{◌↔◌, slice_index_or}
use Rattle.types.specs.Code.{Codes, Program}
use Rattle.types.specs.Run.{procedure_of, no_procedure}
use Rattle.types.specs.Translation.{procedure}
use Rattle.types.specs.declared.code.Procedure.{Procedure as rProcedure}
use Rattle.effects.specs.Effects.{labels}
use Rattle.parallel_relation.specs.Around.{Adds, BlockMeets}
use Rattle.parallel_relation.specs.Found.{Arises}
use Rattle.parallel_relation.specs.Pairs.{HasPair}
use Rattle.parallel_relation.specs.Rows.{HasAt}
use Rattle.parallel_relation.specs.Spread.{Turns}
use Rattle.parallel_relation.specs.Together.{Together, LabelsMeet}
use Rattle.parallel_relation.specs.declared.pairs.Pairs.{Pairs}
use Rattle.parallel_relation.proofs.SpreadLemmas.{below_next, no_body}
use Rattle.parallel_relation.proofs.Sums.{adds_same, adds_joined, adds_nothing}

-- what arises in procedures of smaller numbers
pub data ArisesBelow (p : Program) (n : ℕ) (x y : ℕ) : Type 0 where
  arises : (f : ℕ) → f < n → Together p labels (procedure_of p f).body x y → ArisesBelow p n x y

module _ (p : Program) where
  -- a block that meets nothing around it
  pub adds_within : {f g : ℕ → ℕ → Type 0} (empty : ℕ → Type 0) (b : Codes) → ((y : ℕ) → empty y → ⊥)
      → Adds f (BlockMeets p empty empty b) g → Adds f (Together p labels b) g
  adds_within empty b nothing h = adds_same (Together p labels b) h to (λ x y k. BlockMeets.within k)
    where
      to : (x y : ℕ) → BlockMeets p empty empty b x y → Together p labels b x y
      to x y (BlockMeets.all a k) = absurd (nothing y k)
      to x y (BlockMeets.pending a k) = absurd (nothing y k)
      to x y (BlockMeets.within k) = k

  pub adds_no_procedure : (f : ℕ → ℕ → Type 0) → Adds f (ArisesBelow p 0) f
  adds_no_procedure f = adds_nothing f (ArisesBelow p 0) none_below
    where
      none_below : (x y : ℕ) → ArisesBelow p 0 x y → ⊥
      none_below x y (ArisesBelow.arises g h k) = omega arith

  pub adds_procedure : {f g h : ℕ → ℕ → Type 0} (n : ℕ) (b : Codes) → (procedure_of p n).body ≡ b → Adds f (ArisesBelow p n) g
      → Adds g (Together p labels b) h → Adds f (ArisesBelow p (n + 1)) h
  adds_procedure n b is below here = adds_joined (ArisesBelow p (n + 1)) below here to from
    where
      to : (x y : ℕ) → ArisesBelow p n x y ⊎ Together p labels b x y → ArisesBelow p (n + 1) x y
      to x y (inl (ArisesBelow.arises f l k)) = ArisesBelow.arises f (omega arith) k
      to x y (inr k) = ArisesBelow.arises n (omega arith) (subst (λ b. Together p labels b x y) (sym is) k)

      from : (x y : ℕ) → ArisesBelow p (n + 1) x y → ArisesBelow p n x y ⊎ Together p labels b x y
      from x y (ArisesBelow.arises f l k) = elim (below_next f n l) [
        | inl m ↦ inl (ArisesBelow.arises f m k)
        | inr e ↦ inr (subst (λ b. Together p labels b x y) is (subst (λ f. Together p labels (procedure_of p f).body x y) e k))
      ]

  together_within : (f x y : ℕ) → Together p labels (procedure_of p f).body x y → f < length p.procedures
  together_within f x y h = elim (cases_lt f (length p.procedures)) [
    | inl l ↦ l
    | inr past ↦ absurd (elim (subst (λ b. Together p labels b x y) (no_body p f past) h) [ ])
  ]

  -- all that is found arises, and all that arises is found
  pub all_arises : (n : ℕ) (f g h : ℕ → ℕ → Type 0) → length p.procedures ≤ n → ((x y : ℕ) → f x y → ⊥)
      → Adds f (ArisesBelow p n) g → Adds g (Together p labels p.main.body) h → (x y : ℕ) → h x y ↔ Arises p x y
  all_arises n f g h past nothing below main x y = (
    λ k. elim (main.only x y k) [
      | inl o ↦ elim (below.only x y o) [ inl m ↦ absurd (nothing x y m) | inr m ↦ to m ]
      | inr m ↦ Arises.in_main m
    ],
    from,
  )
    where
      to : ArisesBelow p n x y → Arises p x y
      to (ArisesBelow.arises f l k) = Arises.in_procedure f k

      from : Arises p x y → h x y
      from (Arises.in_procedure f k) = main.keeps x y (below.has x y (ArisesBelow.arises f (let l = together_within f x y k in omega arith) k))
      from (Arises.in_main k) = main.has x y k

  arises_met : (x y : ℕ) → Arises p x y → LabelsMeet p x y
  arises_met x y (Arises.in_procedure f k) = LabelsMeet.in_procedure f (inl k)
  arises_met x y (Arises.in_main k) = LabelsMeet.in_main (inl k)

  arises_turned : (x y : ℕ) → Arises p y x → LabelsMeet p x y
  arises_turned x y (Arises.in_procedure f k) = LabelsMeet.in_procedure f (inr k)
  arises_turned x y (Arises.in_main k) = LabelsMeet.in_main (inr k)

  met_arises : (x y : ℕ) → LabelsMeet p x y → Arises p x y ⊎ Arises p y x
  met_arises x y (LabelsMeet.in_procedure f (inl k)) = inl (Arises.in_procedure f k)
  met_arises x y (LabelsMeet.in_procedure f (inr k)) = inr (Arises.in_procedure f k)
  met_arises x y (LabelsMeet.in_main (inl k)) = inl (Arises.in_main k)
  met_arises x y (LabelsMeet.in_main (inr k)) = inr (Arises.in_main k)

  -- rows of pairs, where each pair is in the row of its smaller label
  pub pairs_are : (f : ℕ → ℕ → Type 0) (pairs : Pairs) → ((x y : ℕ) → f x y ↔ Arises p x y)
      → Adds f (Turns f) (HasAt pairs.rows) → (x y : ℕ) → HasPair pairs x y ↔ LabelsMeet p x y
  pairs_are f pairs found turned x y = (to, λ k. elim (met_arises x y k) [ inl a ↦ from x y a | inr a ↦ turn x y (from y x a) ])
    where
      either : (x y : ℕ) → HasAt pairs.rows x y → Arises p x y ⊎ Arises p y x
      either x y k = elim (turned.only x y k) [ inl o ↦ inl ((found x y).0 o) | inr m ↦ inr ((found y x).0 m.1) ]

      to : HasPair pairs x y → LabelsMeet p x y
      to (inl k) = elim (either x y k.1) [ inl a ↦ arises_met x y a | inr a ↦ arises_turned x y a ]
      to (inr k) = elim (either y x k.1) [ inl a ↦ arises_turned x y a | inr a ↦ arises_met x y a ]

      from : (x y : ℕ) → Arises p x y → HasPair pairs x y
      from x y a = elim (cases_lt y x) [
        | inl l ↦ inr (omega arith, turned.has y x (l, (found x y).1 a))
        | inr l ↦ inl (l, turned.keeps x y ((found x y).1 a))
      ]

      turn : (x y : ℕ) → HasPair pairs y x → HasPair pairs x y
      turn x y (inl k) = inr k
      turn x y (inr k) = inl k

-- the procedure with this number
pub procedure_at : (fs : List rProcedure) (i : ℕ) (g : rProcedure) → i < length fs → g ≡ slice_index_or fs i g
    → slice_index_or (map procedure fs) i no_procedure ≡ procedure g
procedure_at [] i g h e = absurd (omega arith)
procedure_at (f ∷ fs) zero g h e = ap procedure (sym e)
procedure_at (f ∷ fs) (suc i) g h e = procedure_at fs i g (omega arith) e

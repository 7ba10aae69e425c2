-- Rounds that mark procedures which aren't calm.
use Rattle.std.proofs.Common.{◌≡◌, ℕ, zero, suc, ◌+◌, ◌<◌, ◌≤◌, List, [], ◌∷◌, length, map, refl, sym, ap, ◌∙◌, subst, arith}
use Rattle.std.proofs.lemmas.Bool.{false≢true, eqb-false, eqb-true}
use Rattle.std.proofs.lemmas.List.{length-set, get_or-map, get_or-set_other}
use Rattle.std.specs.Bool.{OnFalse, OnTrue}
use Rattle.std.specs.Prelude.{Bool, true, false, nat_eq, slice_index_or, slice_set}
use Rattle.types.specs.Code.{Program}
use Rattle.types.specs.Run.{no_procedure, procedure_of}
use Rattle.types.specs.Translation.{codes, procedure}
use Rattle.types.specs.declared.code.Procedure.{Procedure as rProcedure}
use Rattle.plain_code.specs.Calm.{AreCalm, AreMarked, are_plain_by, calm_at, calm_count}
use Rattle.plain_code.specs.Plain.{Reaches}
use Rattle.plain_code.proofs.Calming.{block_reaches, each_calm}

-- one more mark leaves fewer
pub marked_fewer : (calm : List Bool) (k : ℕ) → k < length calm → calm_at calm k ≡ true
    → calm_count (slice_set calm k false) < calm_count calm
marked_fewer [] k lt is = absurd (omega (arith, lt))
marked_fewer (true ∷ bs) zero lt is = omega arith
marked_fewer (false ∷ bs) zero lt is = absurd (false≢true is)
marked_fewer (true ∷ bs) (suc k) lt is = let h = marked_fewer bs k (omega (arith, lt)) is in omega (arith, h)
marked_fewer (false ∷ bs) (suc k) lt is = marked_fewer bs k (omega (arith, lt)) is

-- a procedure that exists and is calm
pub record IsThere (calm : List Bool) (k : ℕ) : Type 0 where
  pub below : k < length calm
  pub told : calm_at calm k ≡ true

pub calm_there : (calm : List Bool) (k : ℕ) → slice_index_or calm k false ≡ true → IsThere calm k
calm_there [] k is = absurd (false≢true is)
calm_there (b ∷ bs) zero is = record { below = omega arith; told = is }
calm_there (b ∷ bs) (suc k) is =
    let h = calm_there bs k is in
    record { below = let lt = h.below in omega (arith, lt); told = h.told }

-- the procedures from this number have been looked at, and the calm ones among them are plain
abbrev AreLooked : Program → List Bool → (from : ℕ) → Type 0
AreLooked p calm from =
    (f : ℕ) → from ≤ f → calm_at calm f ≡ true → are_plain_by calm (procedure_of p f).body ≡ true

-- the state of a round with this number of procedures left
pub record Rounded (p : Program) (before calm : List Bool) (left : ℕ) (found : Bool) : Type 0 where
  pub within : left ≤ length p.procedures
  pub same : length calm ≡ length before
  pub marked : AreMarked p calm
  pub not_more : calm_count calm ≤ calm_count before
  pub fewer : OnTrue found (calm_count calm < calm_count before)
  pub looked : OnFalse found (AreLooked p calm left)

-- or the procedure was marked
pub marked_one : (p : Program) (before calm : List Bool) (left k : ℕ) (found : Bool) → k + 1 ≡ left → Rounded p before calm left found
    → IsThere calm k → are_plain_by calm (procedure_of p k).body ≡ false → Rounded p before (slice_set calm k false) k true
marked_one p before calm left k found e so is not =
    let h = marked_fewer calm k is.below is.told in
    let less = so.not_more in
    let reaches : Reaches p (procedure_of p k).body = block_reaches calm p so.marked (procedure_of p k).body not in
    record {
      within = let w = so.within in omega (arith, e, w);
      same = length-set calm k false ∙ so.same;
      marked = λ f told. by f (nat_eq k f) refl reaches told;
      not_more = omega (arith, h, less);
      fewer = omega (arith, h, less);
      looked = tt;
    }
  where
    by : (f : ℕ) (b : Bool) → nat_eq k f ≡ b → Reaches p (procedure_of p k).body → calm_at (slice_set calm k false) f ≡ false
        → Reaches p (procedure_of p f).body
    by f true same reaches told = subst (λ n. Reaches p (procedure_of p n).body) (eqb-true k f same) reaches
    by f false other reaches told = so.marked f (sym (get_or-set_other calm k f false true (λ same. eqb-false k f other (sym same))) ∙ told)

-- a round that marked none has looked at all
round_calms : (p : Program) (before calm : List Bool) (left : ℕ) → length before ≡ length p.procedures → left ≡ 0
    → Rounded p before calm left false → AreCalm p calm
round_calms p before calm left count none so = record {
  count = so.same ∙ count;
  each = each_calm calm p (λ f is. so.looked f (omega (arith, none)) is) so.marked;
}

pub round_ends : (p : Program) (before calm : List Bool) (left : ℕ) (found : Bool) → length before ≡ length p.procedures → left ≡ 0
    → Rounded p before calm left found → OnFalse found (AreCalm p calm)
round_ends p before calm left true count none so = tt
round_ends p before calm left false count none so = round_calms p before calm left count none so

-- the body of a procedure, as code
pub body_at : (ps : List rProcedure) (k : ℕ) (f : rProcedure) → k < length ps → f ≡ slice_index_or ps k f
    → codes f.body.items ≡ (slice_index_or (map procedure ps) k no_procedure).body
body_at ps k f lt is =
    ap (λ (g : rProcedure). (procedure g).body) is
    ∙ sym (ap (λ g. g.body) (get_or-map procedure ps k f no_procedure lt))

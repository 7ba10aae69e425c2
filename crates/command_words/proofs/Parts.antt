-- The argument that selects the shares of a cost.
use Rattle.std.proofs.Common.{◌≡◌, ℕ, ◌<◌, ◌≤◌, List, [], ◌∷◌, Option, Some, None, arith, length, get_or, map, sym, ap, ap₂, ◌∙◌, codes}
use Rattle.std.proofs.Common.{Global, String}
use Rattle.std.specs.Prelude.{Bool, if◌then◌else◌}
use Rattle.std.specs.Str.{bytes_eq}
use Rattle.std.specs.String.{string_bytes}
use Rattle.command_line.specs.declared.request.Action.{Action}
use Rattle.command_line.specs.declared.request.Action.TheVariants.{Answer}
use Rattle.command_line.specs.declared.request.Command.TheVariants.{CostByLabel, CostByProcedure}
use Rattle.command_words.specs.Reading.{read_parts}

-- the shares by whether an argument selects those of labels, or of procedures
abbrev pub parts_if : (labels procedures : Bool) → Option Action
parts_if labels procedures =
    if labels then Some (Answer CostByLabel) else (if procedures then Some (Answer CostByProcedure) else None)

-- one argument is parsed in this way
pub one_read : (ws : List (String Global)) (one d : String Global) (t u : List ℕ) (p q x y : Bool) → 1 ≤ length ws
    → length ws < 2 → one ≡ get_or ws 0 d → t ≡ string_bytes one → p ≡ bytes_eq t (codes "--by-line") → p ≡ x
    → u ≡ string_bytes one → q ≡ bytes_eq u (codes "--by-procedure") → q ≡ y
    → parts_if x y ≡ read_parts (map string_bytes ws)
one_read [] one d t u p q x y some few is t_is p_of p_is u_is q_of q_is = let never : ⊥ = omega arith in absurd never
one_read (w ∷ []) one d t u p q x y some few is t_is p_of p_is u_is q_of q_is =
    ap₂ parts_if
    (sym p_is ∙ p_of ∙ ap (λ (v : List ℕ). bytes_eq v (codes "--by-line")) (t_is ∙ ap string_bytes is))
    (sym q_is ∙ q_of ∙ ap (λ (v : List ℕ). bytes_eq v (codes "--by-procedure")) (u_is ∙ ap string_bytes is))
one_read (w ∷ v ∷ ws) one d t u p q x y some few is t_is p_of p_is u_is q_of q_is =
    let never : ⊥ = omega arith in absurd never

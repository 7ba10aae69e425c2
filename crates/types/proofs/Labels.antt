-- The labels of a resolved text are counted from 1 in the order of the text.
use Rattle.std.proofs.Common.{◌≡◌, ℕ, zero, suc, ◌+◌, List, [], ◌∷◌, ◌++◌, Option, Some, None, length}
use Rattle.std.proofs.Common.{refl, sym, ap, ◌∙◌, subst, arith}
use Rattle.std.proofs.lemmas.Option.{none-some, same_Some}
use Rattle.std.proofs.lemmas.List.{length-append}
use Rattle.std.specs.List.{range_with_len}
use Rattle.syntax_tree.specs.Tree.{Stmt, Skip, Var, Assign, Store, Print, Fault, If, IfElse, While, Split, Parts, Call, Async}
use Rattle.syntax_tree.specs.Tree.{Finish, Rescue, Block, End, Then, Expr, Parameter, Procedure, Main, Program}
use Rattle.types.proofs.Scopes.{label_with_parameters, label_with_arrays}
use Rattle.types.specs.Code as resolved
use Rattle.types.specs.Labels.{labels_inside, labels_of, labels_of_procedures, labels_of_program}
use Rattle.types.specs.Resolution.{call, code, codes, label_behind, label_behind_all, procedure_of, procedures, with_main, resolution}
use Rattle.types.specs.Scope.{Names, Scope, section_of, next, inside_async, with_sides, with_turn, out_of, behind, after}
use Rattle.types.specs.Scope.{empty_scope, in_handler, in_procedure, in_main}

-- m numbers and the next n are m + n numbers
range_with_len-append : (a m n : ℕ) → range_with_len a m ++ range_with_len (a + m) n ≡ range_with_len a (m + n)
range_with_len-append a zero n =
    let same : a + zero ≡ a = omega arith in
    let all : n ≡ zero + n = omega arith in
    ap (λ a. range_with_len a n) same ∙ ap (range_with_len a) all
range_with_len-append a (suc m) n =
    let next : a + suc m ≡ a + 1 + m = omega arith in
    let more : suc m + n ≡ suc (m + n) = omega arith in
    ap (λ b. a ∷ range_with_len (a + 1) m ++ range_with_len b n) next
    ∙ ap (λ l. a ∷ l) (range_with_len-append (a + 1) m n)
    ∙ ap (range_with_len a) (sym more)

-- the consecutive numbers from a to the one before b
record Counts (a b : ℕ) (ls : List ℕ) : Type 0 where
  turn : ls ≡ range_with_len a (length ls)
  end : b ≡ a + length ls

none : (a : ℕ) → Counts a a []
none a = record { turn = refl; end = omega arith }

first : (a b : ℕ) (ls : List ℕ) → Counts (a + 1) b ls → Counts a b (a ∷ ls)
first a b ls c = let e = c.end in record { turn = ap (λ l. a ∷ l) c.turn; end = grind (arith) }

joined : (a b c : ℕ) (xs ys : List ℕ) → Counts a b xs → Counts b c ys → Counts a c (xs ++ ys)
joined a b c xs ys x y =
    let all = length-append xs ys in
    let x_end = x.end in
    let y_end = y.end in
    record {
      turn =
          ap (λ l. l ++ ys) x.turn
          ∙ ap (λ l. range_with_len a (length xs) ++ l) y.turn
          ∙ ap (λ n. range_with_len a (length xs) ++ range_with_len n (length ys)) x.end
          ∙ range_with_len-append a (length xs) (length ys)
          ∙ ap (range_with_len a) (sym all);
      end = grind (arith);
    }

-- one label, with none inside
alone : (l : ℕ) → Counts l (l + 1) (l ∷ [])
alone l = first l (l + 1) [] (none (l + 1))

module _ (all : List Procedure) where
  nothing_in_call : (names : Names) (f : Option (ℕ × List Parameter)) (es : List Expr) → labels_inside (call all names f es) ≡ []
  nothing_in_call names None es = refl
  nothing_in_call names (Some f) es = refl

  mutual
    counts_code : (s : Stmt) (here : Scope)
        → Counts here.label (behind s here).label (here.label ∷ labels_inside (code all here s))
    counts_code Skip here = alone here.label
    counts_code (Var x e) here = alone here.label
    counts_code (Assign x e) here = alone here.label
    counts_code (Store x i e) here = alone here.label
    counts_code (Print e es) here = alone here.label
    counts_code (Fault e) here = alone here.label
    counts_code (If e b) here =
        first _ _ _ (joined _ _ _ (labels_of (codes all (next here) b)) [] (counts_codes b (next here)) (none _))
    counts_code (IfElse e b c) here =
        let there = out_of here (after b (next here)) in
        first _ _ _
        (joined _ _ _ (labels_of (codes all (next here) b)) (labels_of (codes all there c)) (counts_codes b (next here)) (counts_codes c there))
    counts_code (While e b) here = first _ _ _ (counts_codes b (next here))
    counts_code (Split x e l r b) here = first _ _ _ (counts_codes b (with_sides (section_of here.names x) l r (next here)))
    counts_code (Parts s e x i b) here = first _ _ _ (counts_codes b (with_turn (section_of here.names s) x i (next here)))
    counts_code (Call f es) here =
        subst (λ ls. Counts here.label (here.label + 1) (here.label ∷ ls))
        (sym (nothing_in_call here.names (procedure_of 0 f all) es)) (alone here.label)
    counts_code (Async b) here = first _ _ _ (counts_codes b (inside_async (next here)))
    counts_code (Finish b) here = first _ _ _ (counts_codes b (next here))
    counts_code (Rescue b x c) here =
        let there = in_handler b x here in
        first _ _ _
        (joined _ _ _ (labels_of (codes all (next here) b)) (labels_of (codes all there c)) (counts_codes b (next here)) (counts_codes c there))

    counts_codes : (b : Block) (here : Scope) → Counts here.label (after b here).label (labels_of (codes all here b))
    counts_codes End here = none here.label
    counts_codes (Then s rest) here =
        joined _ _ _ (here.label ∷ labels_inside (code all here s)) (labels_of (codes all (behind s here) rest)) (counts_code s here)
        (counts_codes rest (behind s here))

counts_procedures : (all fs : List Procedure) (label : ℕ)
    → Counts label (label_behind_all label fs) (labels_of_procedures (procedures all label fs))
counts_procedures all [] label = none label
counts_procedures all (f ∷ fs) label =
    let here = in_procedure label f.parameters in
    joined _ _ _ (labels_of (codes all here f.body)) (labels_of_procedures (procedures all (label_behind label f) fs))
    (subst (λ n. Counts n (label_behind label f) (labels_of (codes all here f.body))) (label_with_parameters f.parameters (empty_scope label))
    (counts_codes all f.body here))
    (counts_procedures all fs (label_behind label f))

counts_program : (fs : List Procedure) (m : Main)
    → Counts 1 (after m.body (in_main (label_behind_all 1 fs) m.arrays)).label (labels_of_program (with_main fs m))
counts_program fs m =
    let before = label_behind_all 1 fs in
    let here = in_main before m.arrays in
    joined _ _ _ (labels_of_procedures (procedures fs 1 fs)) (labels_of (codes fs here m.body)) (counts_procedures fs fs 1)
    (subst (λ n. Counts n (after m.body here).label (labels_of (codes fs here m.body))) (label_with_arrays m.arrays (empty_scope before))
    (counts_codes fs m.body here))

-- a program has as many labels as the label advances
pub last_label : (fs : List Procedure) (m : Main)
    → (after m.body (in_main (label_behind_all 1 fs) m.arrays)).label ≡ 1 + length (labels_of_program (with_main fs m))
last_label fs m = (counts_program fs m).end

resolved_are_counted : (fs : List Procedure) (m : Option Main) (p : resolved.Program)
    → resolution (record { procedures = fs; main = m }) ≡ Some p
    → labels_of_program p ≡ range_with_len 1 (length (labels_of_program p))
resolved_are_counted fs None p is = absurd (none-some p is)
resolved_are_counted fs (Some m) p is =
    subst (λ p. labels_of_program p ≡ range_with_len 1 (length (labels_of_program p))) (same_Some _ _ is) (counts_program fs m).turn

pub labels_are_counted : (t : Program) (p : resolved.Program) → resolution t ≡ Some p
    → labels_of_program p ≡ range_with_len 1 (length (labels_of_program p))
labels_are_counted t p is = resolved_are_counted t.procedures t.main p is

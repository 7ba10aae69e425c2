-- If a block has no errors, its labels are within the limit.
use Rattle.std.proofs.Common.{◌≡◌, ℕ, ◌≤◌, Bool, true, false, List, [], ◌∷◌, ◌++◌, refl, arith, if◌then◌else◌}
use Rattle.std.specs.Prelude.{nat_lt}
use Rattle.std.proofs.lemmas.Bool.Decides.{nat_tests}
use Rattle.syntax_tree.specs.Tree.{Stmt, Skip, Var, Assign, Store, Print, Fault, If, IfElse, While, Split, Parts, Call, Async}
use Rattle.syntax_tree.specs.Tree.{Finish, Rescue, Block, End, Then, Procedure}
use Rattle.types.specs.Rules.{limit, own_errors, inner_errors, errors}
use Rattle.types.specs.Scope.{Scope, section_of, next, inside_async, with_sides, with_turn, out_of, behind, after}
use Rattle.types.specs.Scope.{in_handler}
use Rattle.types.specs.declared.error.TypeError.{TypeError}
use Rattle.types.specs.declared.error.TypeError.TheVariants.{OverLimit}

pub none_left : (xs ys : List TypeError) → xs ++ ys ≡ [] → xs ≡ []
none_left [] ys h = refl
none_left (x ∷ xs) ys h = cc

pub none_right : (xs ys : List TypeError) → xs ++ ys ≡ [] → ys ≡ []
none_right [] ys h = h
none_right (x ∷ xs) ys h = cc

limit_by : (b : Bool) → (if b then OverLimit ∷ [] else []) ≡ [] → b ≡ false
limit_by true h = cc
limit_by false h = refl

pub within_limit : (most n : ℕ) → limit most n ≡ [] → n ≤ most
within_limit most n h = let e = limit_by (nat_lt most n) h in grind (arith, nat_tests)

module _ (fs : List Procedure) where
  mutual
    label_behind : (s : Stmt) (here : Scope) → here.label ≤ 65535 → inner_errors fs here s ≡ [] → (behind s here).label ≤ 65536
    label_behind Skip here h none = omega arith
    label_behind (Var x e) here h none = omega arith
    label_behind (Assign x e) here h none = omega arith
    label_behind (Store s i e) here h none = omega arith
    label_behind (Print e es) here h none = omega arith
    label_behind (Fault e) here h none = omega arith
    label_behind (If e b) here h none = label_after b (next here) (omega arith) none
    label_behind (IfElse e b c) here h none =
        let there = out_of here (after b (next here)) in
        label_after c there (label_after b (next here) (omega arith) (none_left (errors fs (next here) b) (errors fs there c) none))
        (none_right (errors fs (next here) b) (errors fs there c) none)
    label_behind (While e b) here h none = label_after b (next here) (omega arith) none
    label_behind (Split s e l r b) here h none = label_after b (with_sides (section_of here.names s) l r (next here)) (omega arith) none
    label_behind (Parts s e x i b) here h none = label_after b (with_turn (section_of here.names s) x i (next here)) (omega arith) none
    label_behind (Call f es) here h none = omega arith
    label_behind (Async b) here h none = label_after b (inside_async (next here)) (omega arith) none
    label_behind (Finish b) here h none = label_after b (next here) (omega arith) none
    label_behind (Rescue b x c) here h none =
        let there = in_handler b x here in
        label_after c there (label_after b (next here) (omega arith) (none_left (errors fs (next here) b) (errors fs there c) none))
        (none_right (errors fs (next here) b) (errors fs there c) none)

    pub label_after : (b : Block) (here : Scope) → here.label ≤ 65536 → errors fs here b ≡ [] → (after b here).label ≤ 65536
    label_after End here h none = h
    label_after (Then s rest) here h none =
        let mine = limit 65535 here.label in
        let all = own_errors fs here s ++ inner_errors fs here s in
        let first = none_left (mine ++ all) (errors fs (behind s here) rest) none in
        label_after rest (behind s here)
        (label_behind s here (within_limit 65535 here.label (none_left mine all first))
        (none_right (own_errors fs here s) (inner_errors fs here s) (none_right mine all first)))
        (none_right (mine ++ all) (errors fs (behind s here) rest) none)

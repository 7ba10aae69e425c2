-- What a statement resolves to, by what its parts resolve to; and an error of a part is an error of
-- the statement.
use Rattle.std.proofs.Common.{◌≡◌, ℕ, ◌+◌, List, [], ◌∷◌, ◌++◌, map, length, Vec, Global, Some, refl, sym, ap, ◌∙◌, subst}
use Rattle.syntax_tree.specs.Tree.{Stmt, Skip, Var, Assign, Store, Print, Fault, If, IfElse, While, Split, Parts, Call, Async}
use Rattle.syntax_tree.specs.Tree.{Finish, Rescue, Expr, Block, Procedure}
use Rattle.std.proofs.Common.{String}
use Rattle.std.specs.String.{string_bytes}
use Rattle.syntax_tree.specs.Tree as tree
use Rattle.syntax_tree.specs.declared.tree.Expr.{Expr as rExpr}
use Rattle.syntax_tree.specs.declared.tree.Stmt.TheVariants.{Skip as tree_Skip, Var as tree_Var, Assign as tree_Assign, Store as tree_Store}
use Rattle.syntax_tree.specs.declared.tree.Stmt.TheVariants.{Print as tree_Print, Fault as tree_Fault, Call as tree_Call}
use Rattle.types.specs.Code as code
use Rattle.types.specs.declared.code.Primitive.TheVariants.{Skip as rSkip}
use Rattle.types.specs.declared.code.Pieces.{Pieces}
use Rattle.types.specs.declared.code.Sides.{Sides}
use Rattle.types.specs.declared.code.Stmt.{Stmt as rStmt}
use Rattle.types.specs.declared.code.StmtKind.{StmtKind}
use Rattle.types.specs.declared.code.StmtKind.TheVariants.{Do as rDo, If as rIf, While as rWhile, Split as rSplit, Parts as rParts}
use Rattle.types.specs.declared.code.StmtKind.TheVariants.{Async as rAsync, Finish as rFinish, Rescue as rRescue}
use Rattle.types.specs.declared.ids.Slot.{Slot}
use Rattle.types.specs.declared.code.Truth.{Truth}
use Rattle.types.specs.declared.error.TypeError.{TypeError}
use Rattle.types.specs.NameErrors.{declaring, naming_section}
use Rattle.types.specs.ExpressionErrors.{number as number_errors, truth as truth_errors}
use Rattle.types.specs.Resolution as resolution
use Rattle.types.specs.Resolving.{left, Resolves}
use Rattle.types.specs.Rules.{errors}
use Rattle.types.specs.Scope.{Scope, ASection, AScalar, meant, section_of, section_or_0, next, inside_async, with_sides}
use Rattle.types.specs.Scope.{with_scalar, with_turn, out_of, behind, after, in_handler}
use Rattle.types.specs.Translation.{number, truth, codes}
use Rattle.types.proofs.Blocks.{code_If, code_While, code_Split, code_Parts, code_Async, code_Finish, code_Rescue}
use Rattle.types.proofs.Scopes.{left_next, left_else, left_async, left_sides, left_turn, left_handler}
use Rattle.types.proofs.Telling.{none_both}

module _ (fs : List Procedure) (here there : Scope) where
  -- ---- blocks
  -- a block that starts at a position, up to where another one starts
  pub record Inside (from : Scope) (b : Block) (v : Vec rStmt Global) (n k : ℕ) (to : Scope) : Type 0 where
    pub right : errors fs from b ≡ []
    pub code : resolution.codes fs from b ≡ codes v.items
    pub place : to ≡ left n k (after b from)

  moved_inside : (from other : Scope) (b : Block) (v : Vec rStmt Global) (n k : ℕ) (to : Scope) → from ≡ other
      → Inside from b v n k to → Inside other b v n k to
  moved_inside from other b v n k to e i = subst (λ s. Inside s b v n k to) e i

  -- the mark of the position where the statement starts
  pub record Marks (n k : ℕ) : Type 0 where
    pub names : n ≡ length here.names
    pub outside : k ≡ here.outside

  pub out_by : (from to : Scope) (b : Block) (n k : ℕ) → Marks n k → left (length here.names) here.outside (after b from) ≡ out_of here (after b from)
      → to ≡ left n k (after b from) → to ≡ out_of here (after b from)
  out_by from to b n k m out is =
      is ∙ ap (λ n. left n k (after b from)) m.names ∙ ap (λ k. left (length here.names) k (after b from)) m.outside ∙ out

  pub resolves_While : (e : Expr) (b : Block) (t : Truth) (v : Vec rStmt Global) (mid : Scope) (n k : ℕ) → Marks n k → mid ≡ next here
      → truth_errors here.label here.names e ≡ [] → resolution.truth here.names e ≡ truth t → Inside mid b v n k there
      → Resolves fs here (While e b) (rWhile t v) there
  resolves_While e b t v mid n k m at right same inside =
      let i = moved_inside mid (next here) b v n k there at inside in
      record {
        right = none_both _ _ right i.right;
        kind = ap (λ u. code.While u (resolution.codes fs (next here) b)) same ∙ ap (code.While (truth t)) i.code ∙ sym (code_While t v);
        place = out_by (next here) there b n k m (left_next here b) i.place;
      }

  pub resolves_If : (e : Expr) (b : Block) (t : Truth) (v w : Vec rStmt Global) (mid : Scope) (n k : ℕ) → Marks n k → mid ≡ next here
      → truth_errors here.label here.names e ≡ [] → resolution.truth here.names e ≡ truth t → Inside mid b v n k there
      → w.items ≡ [] → Resolves fs here (If e b) (rIf t v w) there
  resolves_If e b t v w mid n k m at right same inside empty =
      let i = moved_inside mid (next here) b v n k there at inside in
      record {
        right = none_both _ _ right i.right;
        kind = ap (λ u. code.If u (resolution.codes fs (next here) b) code.End) same ∙ ap (λ c. code.If (truth t) c code.End) i.code
            ∙ ap (λ l. code.If (truth t) (codes v.items) (codes l)) (sym empty) ∙ sym (code_If t v w);
        place = out_by (next here) there b n k m (left_next here b) i.place;
      }

  pub resolves_IfElse : (e : Expr) (b c : Block) (t : Truth) (v w : Vec rStmt Global) (mid between : Scope) (n k : ℕ) → Marks n k
      → mid ≡ next here → truth_errors here.label here.names e ≡ [] → resolution.truth here.names e ≡ truth t
      → Inside mid b v n k between → Inside between c w n k there → Resolves fs here (IfElse e b c) (rIf t v w) there
  resolves_IfElse e b c t v w mid between n k m at right same first second =
      let i = moved_inside mid (next here) b v n k between at first in
      let other = out_of here (after b (next here)) in
      let j = moved_inside between other c w n k there (out_by (next here) between b n k m (left_next here b) i.place) second in
      record {
        right = none_both _ _ right (none_both _ _ i.right j.right);
        kind = ap (λ u. code.If u (resolution.codes fs (next here) b) (resolution.codes fs other c)) same
            ∙ ap (λ x. code.If (truth t) x (resolution.codes fs other c)) i.code
            ∙ ap (code.If (truth t) (codes v.items)) j.code ∙ sym (code_If t v w);
        place = out_by other there c n k m (left_else here b c) j.place;
      }

  pub resolves_Finish : (b : Block) (v : Vec rStmt Global) (mid : Scope) (n k : ℕ) → Marks n k → mid ≡ next here → Inside mid b v n k there
      → Resolves fs here (Finish b) (rFinish v) there
  resolves_Finish b v mid n k m at inside =
      let i = moved_inside mid (next here) b v n k there at inside in
      record {
        right = i.right;
        kind = ap code.Finish i.code ∙ sym (code_Finish v);
        place = out_by (next here) there b n k m (left_next here b) i.place;
      }

  pub resolves_Rescue : (b : Block) (x : List ℕ) (c : Block) (v : Vec rStmt Global) (i : Slot) (w : Vec rStmt Global)
      (mid between inner : Scope) (n k : ℕ) → Marks n k → mid ≡ next here → Inside mid b v n k between → i.number ≡ between.slot
      → inner ≡ with_scalar x between → declaring (Some here.label) (meant x between.names) ≡ [] → Inside inner c w n k there
      → Resolves fs here (Rescue b x c) (rRescue v i w) there
  resolves_Rescue b x c v i w mid between inner n k m at first slot is declared second =
      let body = moved_inside mid (next here) b v n k between at first in
      let out = out_by (next here) between b n k m (left_next here b) body.place in
      let from = in_handler b x here in
      let handler = moved_inside inner from c w n k there (is ∙ ap (with_scalar x) out) second in
      record {
        right = none_both _ _ (subst (λ (s : Scope). declaring (Some here.label) (meant x s.names) ≡ []) out declared)
            (none_both _ _ body.right handler.right);
        kind = ap (λ y. code.Rescue y (after b (next here)).slot (resolution.codes fs from c)) body.code
            ∙ ap (λ y. code.Rescue (codes v.items) y (resolution.codes fs from c)) (sym (slot ∙ ap (λ (s : Scope). s.slot) out))
            ∙ ap (code.Rescue (codes v.items) i.number) handler.code ∙ sym (code_Rescue v i w);
        place = out_by from there c n k m (left_handler here b x c) handler.place;
      }

  pub resolves_Async : (b : Block) (v : Vec rStmt Global) (mid : Scope) (n k : ℕ) → Marks n k → mid ≡ inside_async (next here)
      → Inside mid b v n k there → Resolves fs here (Async b) (rAsync v) there
  resolves_Async b v mid n k m at inside =
      let i = moved_inside mid (inside_async (next here)) b v n k there at inside in
      record {
        right = i.right;
        kind = ap code.Async i.code ∙ sym (code_Async v);
        place = out_by (inside_async (next here)) there b n k m (left_async here b) i.place;
      }

  pub resolves_Split : (x : List ℕ) (e : Expr) (l r : List ℕ) (b : Block) (s : Sides) (v : Vec rStmt Global)
      (mid : Scope) (n k : ℕ) → Marks n k → mid ≡ with_sides s.section.number l r (next here)
      → naming_section here.label (meant x here.names) ≡ [] → meant x here.names ≡ Some (ASection s.section.number)
      → number_errors here.label here.names e ≡ [] → resolution.number here.names e ≡ number s.at
      → declaring (Some here.label) (meant r here.names)
      ++ declaring (Some here.label) (meant l ((r, ASection (length here.sections + 1)) ∷ here.names)) ≡ []
      → s.left.number ≡ length here.sections → s.right.number ≡ length here.sections + 1
      → Inside mid b v n k there → Resolves fs here (Split x e l r b) (rSplit s v) there
  resolves_Split x e l r b s v mid n k m is named known right_at same declared l_is r_is inside =
      let section : section_of here.names x ≡ s.section.number = ap section_or_0 known in
      let from = with_sides (section_of here.names x) l r (next here) in
      let i = moved_inside mid from b v n k there (is ∙ ap (λ z. with_sides z l r (next here)) (sym section)) inside in
      record {
        right = none_both _ _ (none_both _ _ named (none_both _ _ right_at declared)) i.right;
        kind = ap (λ z. code.Split z (resolution.number here.names e) (length here.sections) (length here.sections + 1) (resolution.codes fs from b)) section
            ∙ ap (λ z. code.Split s.section.number z (length here.sections) (length here.sections + 1) (resolution.codes fs from b)) same
            ∙ ap (λ z. code.Split s.section.number (number s.at) z (length here.sections + 1) (resolution.codes fs from b)) (sym l_is)
            ∙ ap (λ z. code.Split s.section.number (number s.at) s.left.number z (resolution.codes fs from b)) (sym r_is)
            ∙ ap (code.Split s.section.number (number s.at) s.left.number s.right.number) i.code
            ∙ sym (code_Split s v);
        place = out_by from there b n k m (left_sides here (section_of here.names x) l r b) i.place;
      }

  pub resolves_Parts : (s : List ℕ) (e : Expr) (x i : List ℕ) (b : Block) (p : Pieces) (v : Vec rStmt Global)
      (mid : Scope) (n k : ℕ) → Marks n k → mid ≡ with_turn p.section.number x i (next here)
      → naming_section here.label (meant s here.names) ≡ [] → meant s here.names ≡ Some (ASection p.section.number)
      → number_errors here.label here.names e ≡ [] → resolution.number here.names e ≡ number p.size
      → declaring (Some here.label) (meant i here.names)
      ++ declaring (Some here.label) (meant x ((i, AScalar here.slot) ∷ here.names)) ≡ []
      → p.piece.number ≡ length here.sections → p.turn.number ≡ here.slot
      → Inside mid b v n k there → Resolves fs here (Parts s e x i b) (rParts p v) there
  resolves_Parts s e x i b p v mid n k m is named known right_size same declared x_is i_is inside =
      let section : section_of here.names s ≡ p.section.number = ap section_or_0 known in
      let from = with_turn (section_of here.names s) x i (next here) in
      let j = moved_inside mid from b v n k there (is ∙ ap (λ z. with_turn z x i (next here)) (sym section)) inside in
      let body = resolution.codes fs from b in
      record {
        right = none_both _ _ (none_both _ _ named (none_both _ _ right_size declared)) j.right;
        kind = ap (λ z. code.Parts z (resolution.number here.names e) (length here.sections) here.slot body) section
            ∙ ap (λ z. code.Parts p.section.number z (length here.sections) here.slot body) same
            ∙ ap (λ z. code.Parts p.section.number (number p.size) z here.slot body) (sym x_is)
            ∙ ap (λ z. code.Parts p.section.number (number p.size) p.piece.number z body) (sym i_is)
            ∙ ap (code.Parts p.section.number (number p.size) p.piece.number p.turn.number) j.code
            ∙ sym (code_Parts p v);
        place = out_by from there b n k m (left_turn here (section_of here.names s) x i b) j.place;
      }

  -- ---- statements of one step
  pub resolves_Skip : there ≡ next here → Resolves fs here Skip (rDo rSkip) there
  resolves_Skip is = record { right = refl; kind = refl; place = is }

-- another statement that is equal
pub resolves_same : (fs : List Procedure) (here there : Scope) (s t : Stmt) (k : StmtKind) → s ≡ t → Resolves fs here t k there → Resolves fs here s k there
resolves_same fs here there s t k e r = subst (λ s. Resolves fs here s k there) (sym e) r

-- ---- a block, whose first statement is resolved
module _ (fs : List Procedure) (here : Scope) (s : Stmt) (rest : Block) (all : List TypeError) where
  pub rest_errors : all ≡ [] → (all ++ errors fs (behind s here) rest) ≡ errors fs (behind s here) rest
  rest_errors none = ap (λ l. l ++ errors fs (behind s here) rest) none

-- ---- the tree of a statement
pub stmt_Skip : tree.stmt tree_Skip ≡ Skip
unfolding tree.stmt
stmt_Skip = refl

pub stmt_Var : (x : String Global) (e : rExpr) → tree.stmt (tree_Var x e) ≡ Var (string_bytes x) (tree.expr e)
unfolding tree.stmt
stmt_Var x e = refl

pub stmt_Assign : (x : String Global) (e : rExpr) → tree.stmt (tree_Assign x e) ≡ Assign (string_bytes x) (tree.expr e)
unfolding tree.stmt
stmt_Assign x e = refl

pub stmt_Store : (x : String Global) (i e : rExpr) → tree.stmt (tree_Store x i e) ≡ Store (string_bytes x) (tree.expr i) (tree.expr e)
unfolding tree.stmt
stmt_Store x i e = refl

pub stmt_Print : (e : rExpr) (es : Vec rExpr Global) → tree.stmt (tree_Print e es) ≡ Print (tree.expr e) (map tree.expr es.items)
unfolding tree.stmt
stmt_Print e es = refl

pub stmt_Fault : (e : rExpr) → tree.stmt (tree_Fault e) ≡ Fault (tree.expr e)
unfolding tree.stmt
stmt_Fault e = refl

pub stmt_Call : (x : String Global) (es : Vec rExpr Global) → tree.stmt (tree_Call x es) ≡ Call (string_bytes x) (map tree.expr es.items)
unfolding tree.stmt
stmt_Call x es = refl

-- Along a text sections and slots are only added.
use Rattle.std.proofs.Common.{◌≡◌, ℕ, ◌+◌, ◌≤◌, List, [], ◌∷◌, ◌++◌, length, refl, sym, ap, ◌∙◌, arith, append_assoc, append-nil}
use Rattle.std.proofs.lemmas.List.{length-append}
use Rattle.syntax_tree.specs.Tree.{Stmt, Skip, Var, Assign, Store, Print, Fault, If, IfElse, While, Split, Parts, Call, Async}
use Rattle.syntax_tree.specs.Tree.{Finish, Rescue, Block, End, Then}
use Rattle.sections.specs.Origins.{Origin, Left, Right, Piece}
use Rattle.types.specs.Scope.{Scope, section_of, next, inside_async, with_sides, with_turn, out_of, behind, after}
use Rattle.types.specs.Scope.{with_scalar, in_handler}

-- sections and the number of slots, and later ones
pub record Grows (os : List Origin) (n : ℕ) (qs : List Origin) (m : ℕ) : Type 0 where
  pub more : List Origin
  pub sections : qs ≡ os ++ more
  pub slots : n ≤ m

abbrev pub GrowsTo : Scope → Scope → Type 0
GrowsTo here there = Grows here.sections here.slot there.sections there.slot

pub grows_none : (os : List Origin) (n m : ℕ) → n ≤ m → Grows os n os m
grows_none os n m h = record { more = []; sections = sym (append-nil os); slots = h }

pub grows_both : (a b c : Scope) → GrowsTo a b → GrowsTo b c → GrowsTo a c
grows_both a b c g h =
    let first : a.slot ≤ b.slot = g.slots in
    let others : b.slot ≤ c.slot = h.slots in
    record {
      more = g.more ++ h.more;
      sections = h.sections ∙ ap (λ os. os ++ h.more) g.sections ∙ append_assoc a.sections g.more h.more;
      slots = omega arith;
    }

pub grows_longer : (os : List Origin) (n : ℕ) (qs : List Origin) (m : ℕ) → Grows os n qs m → length os ≤ length qs
grows_longer os n qs m g =
    let all : length qs ≡ length os + length g.more = ap length g.sections ∙ length-append os g.more in omega arith

grows_sides : (s : ℕ) (l r : List ℕ) (here : Scope) → GrowsTo here (with_sides s l r here)
grows_sides s l r here = record { more = Left s ∷ Right s ∷ []; sections = refl; slots = omega arith }

grows_turn : (s : ℕ) (x i : List ℕ) (here : Scope) → GrowsTo here (with_turn s x i here)
grows_turn s x i here = record { more = Piece s ∷ []; sections = refl; slots = omega arith }

-- and one more scalar
grows_named : (x : List ℕ) (here there : Scope) → GrowsTo here there → GrowsTo here (with_scalar x there)
grows_named x here there g =
    grows_both here there (with_scalar x there) g (grows_none there.sections there.slot (there.slot + 1) (omega arith))

mutual
  pub grows_behind : (s : Stmt) (here : Scope) → GrowsTo here (behind s here)
  grows_behind Skip here = grows_none here.sections here.slot here.slot (omega arith)
  grows_behind (Var x e) here = grows_none here.sections here.slot (here.slot + 1) (omega arith)
  grows_behind (Assign x e) here = grows_none here.sections here.slot here.slot (omega arith)
  grows_behind (Store s i e) here = grows_none here.sections here.slot here.slot (omega arith)
  grows_behind (Print e es) here = grows_none here.sections here.slot here.slot (omega arith)
  grows_behind (Fault e) here = grows_none here.sections here.slot here.slot (omega arith)
  grows_behind (If e b) here = grows_after b (next here)
  grows_behind (IfElse e b c) here =
      let there = out_of here (after b (next here)) in
      grows_both here there (after c there) (grows_after b (next here)) (grows_after c there)
  grows_behind (While e b) here = grows_after b (next here)
  grows_behind (Split s e l r b) here =
      let inside = with_sides (section_of here.names s) l r (next here) in
      grows_both here inside (after b inside) (grows_sides (section_of here.names s) l r (next here)) (grows_after b inside)
  grows_behind (Parts s e x i b) here =
      let inside = with_turn (section_of here.names s) x i (next here) in
      grows_both here inside (after b inside) (grows_turn (section_of here.names s) x i (next here)) (grows_after b inside)
  grows_behind (Call f es) here = grows_none here.sections here.slot here.slot (omega arith)
  grows_behind (Async b) here = grows_after b (inside_async (next here))
  grows_behind (Finish b) here = grows_after b (next here)
  grows_behind (Rescue b x c) here =
      let there = in_handler b x here in
      grows_both here there (after c there) (grows_named x here (out_of here (after b (next here))) (grows_after b (next here)))
      (grows_after c there)

  pub grows_after : (b : Block) (here : Scope) → GrowsTo here (after b here)
  grows_after End here = grows_none here.sections here.slot here.slot (omega arith)
  grows_after (Then s rest) here =
      grows_both here (behind s here) (after rest (behind s here)) (grows_behind s here) (grows_after rest (behind s here))

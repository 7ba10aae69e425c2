-- How a scope changes: the earlier names stay, and what is known about it stays true.
use Rattle.std.proofs.Common.{◌≡◌, ℕ, ◌+◌, ◌-◌, ◌<◌, ◌≤◌, Bool, true, false, List, [], ◌∷◌, ◌++◌, length, drop, Option, Some}
use Rattle.std.proofs.Common.{refl, sym, ap, ◌∙◌, arith, if◌then◌else◌, append_assoc}
use Rattle.std.specs.Prelude.{nat_eq}
use Rattle.std.specs.Cmp.Lexicographic.{pointwise}
use Rattle.std.proofs.lemmas.List.{length-append}
use Rattle.sections.specs.Origins.{Root, Left, Right, Piece}
use Rattle.syntax_tree.specs.Tree.{Stmt, Skip, Var, Assign, Store, Print, Fault, If, IfElse, While, Split, Parts, Call, Async}
use Rattle.syntax_tree.specs.Tree.{Finish, Rescue, Block, End, Then, Parameter as Declared, Written, Read, Scalar, Array}
use Rattle.types.specs.Code.{Parameter}
use Rattle.types.specs.Scope.{Meant, ASection, AScalar, Names, meant, section_of, Scope, kind_of, with_scalar, with_root}
use Rattle.types.specs.Scope.{with_sides, with_turn, next, inside_async, out_of, behind, after, with_parameter, with_parameters, with_array}
use Rattle.types.specs.Scope.{with_arrays, empty_scope, in_handler}
use Rattle.types.specs.Resolving.{left, IsWellScoped}
use Rattle.std.proofs.lemmas.List.{drop_at}

-- ---- the earlier names stay

-- these names and some more
pub record Grown (old new : Names) : Type 0 where
  pub more : Names
  pub is : new ≡ more ++ old

grown_none : (ns : Names) → Grown ns ns
grown_none ns = record { more = []; is = refl }

grown_one : (n : List ℕ × Meant) (ns : Names) → Grown ns (n ∷ ns)
grown_one n ns = record { more = n ∷ []; is = refl }

grown_both : (a b c : Names) → Grown a b → Grown b c → Grown a c
grown_both a b c g h = record {
  more = h.more ++ g.more;
  is = h.is ∙ ap (λ ns. h.more ++ ns) g.is ∙ sym (append_assoc h.more g.more a);
}

grown_behind : (s : Stmt) (here : Scope) → Grown here.names (behind s here).names
grown_behind Skip here = grown_none here.names
grown_behind (Var x e) here = grown_one (x, AScalar here.slot) here.names
grown_behind (Assign x e) here = grown_none here.names
grown_behind (Store s i e) here = grown_none here.names
grown_behind (Print e es) here = grown_none here.names
grown_behind (Fault e) here = grown_none here.names
grown_behind (If e b) here = grown_none here.names
grown_behind (IfElse e b c) here = grown_none here.names
grown_behind (While e b) here = grown_none here.names
grown_behind (Split s e l r b) here = grown_none here.names
grown_behind (Parts s e x i b) here = grown_none here.names
grown_behind (Call f es) here = grown_none here.names
grown_behind (Async b) here = grown_none here.names
grown_behind (Finish b) here = grown_none here.names
grown_behind (Rescue b x c) here = grown_none here.names

grown_after : (b : Block) (here : Scope) → Grown here.names (after b here).names
grown_after End here = grown_none here.names
grown_after (Then s rest) here =
    grown_both here.names (behind s here).names (after rest (behind s here)).names (grown_behind s here) (grown_after rest (behind s here))

-- what remains of names of which some are dropped
drop_more : (more ns : Names) → drop (length (more ++ ns) - length ns) (more ++ ns) ≡ ns
drop_more more ns =
    let n : length (more ++ ns) - length ns ≡ length more = omega (arith, length-append more ns) in
    ap (λ k. drop k (more ++ ns)) n ∙ drop_at more ns (length more) refl

dropped : (old new : Names) → Grown old new → drop (length new - length old) new ≡ old
dropped old new g = ap (λ ns. drop (length ns - length old) ns) g.is ∙ drop_more g.more old

-- after a block, the names are those from before the position, if the block starts with these and
-- some more
pub left_is_out : (before here : Scope) (b : Block) → Grown before.names here.names
    → left (length before.names) before.outside (after b here) ≡ out_of before (after b here)
left_is_out before here b g =
    let there = after b here in
    ap (λ ns. record there { names = ns; outside = before.outside })
    (dropped before.names there.names (grown_both before.names here.names there.names g (grown_after b here)))

pub left_next : (here : Scope) (b : Block)
    → left (length here.names) here.outside (after b (next here)) ≡ out_of here (after b (next here))
left_next here b = left_is_out here (next here) b (grown_none here.names)

pub left_else : (here : Scope) (b c : Block) → let there = out_of here (after b (next here)) in
    left (length here.names) here.outside (after c there) ≡ out_of here (after c there)
left_else here b c = left_is_out here (out_of here (after b (next here))) c (grown_none here.names)

pub left_async : (here : Scope) (b : Block)
    → left (length here.names) here.outside (after b (inside_async (next here))) ≡ out_of here (after b (inside_async (next here)))
left_async here b = left_is_out here (inside_async (next here)) b (grown_none here.names)

pub left_sides : (here : Scope) (s : ℕ) (l r : List ℕ) (b : Block)
    → left (length here.names) here.outside (after b (with_sides s l r (next here))) ≡ out_of here (after b (with_sides s l r (next here)))
left_sides here s l r b = left_is_out here (with_sides s l r (next here)) b (record {
  more = (l, ASection (length here.sections)) ∷ (r, ASection (length here.sections + 1)) ∷ [];
  is = refl;
})

pub left_turn : (here : Scope) (s : ℕ) (x i : List ℕ) (b : Block)
    → left (length here.names) here.outside (after b (with_turn s x i (next here))) ≡ out_of here (after b (with_turn s x i (next here)))
left_turn here s x i b = left_is_out here (with_turn s x i (next here)) b (record {
  more = (x, ASection (length here.sections)) ∷ (i, AScalar here.slot) ∷ [];
  is = refl;
})

pub left_handler : (here : Scope) (b : Block) (x : List ℕ) (c : Block)
    → left (length here.names) here.outside (after c (in_handler b x here)) ≡ out_of here (after c (in_handler b x here))
left_handler here b x c = left_is_out here (in_handler b x here) c (grown_one (x, AScalar (after b (next here)).slot) here.names)

-- ---- what is known about a scope
abbrev IsKnown : Names → ℕ → Type 0
IsKnown ns n = (x : List ℕ) (s : ℕ) → meant x ns ≡ Some (ASection s) → s < n

known_later : (ns : Names) (n m : ℕ) → n ≤ m → IsKnown ns n → IsKnown ns m
known_later ns n m le known x s h = omega (arith, known x s h)

known_by : (b : Bool) (m : Meant) (o : Option Meant) (n : ℕ) (s : ℕ) → ((k : ℕ) → m ≡ ASection k → k < n)
    → (o ≡ Some (ASection s) → s < n) → (if b then Some m else o) ≡ Some (ASection s) → s < n
known_by true m o n s new old h = new s (cc)
known_by false m o n s new old h = old h

known_one : (x : List ℕ) (m : Meant) (ns : Names) (n : ℕ) → ((k : ℕ) → m ≡ ASection k → k < n) → IsKnown ns n → IsKnown ((x, m) ∷ ns) n
known_one x m ns n new known y s h = known_by (pointwise nat_eq y x) m (meant y ns) n s new (known y s) h

pub scoped_next : (here : Scope) → IsWellScoped here → IsWellScoped (next here)
scoped_next here w = record { known = w.known; kinds = w.kinds; slots = let h : here.slot ≤ 16 + here.label = w.slots in omega arith }

pub scoped_async : (here : Scope) → IsWellScoped here → IsWellScoped (inside_async here)
scoped_async here w = record { known = w.known; kinds = w.kinds; slots = w.slots }

scoped_var : (x : List ℕ) (here : Scope) → IsWellScoped here → IsWellScoped (with_scalar x (next here))
scoped_var x here w = record {
  known = known_one x (AScalar here.slot) here.names (length here.sections) (λ k h. absurd (cc)) w.known;
  kinds = w.kinds;
  slots = let h : here.slot ≤ 16 + here.label = w.slots in omega arith;
}

pub scoped_sides : (s : ℕ) (l r : List ℕ) (here : Scope) → IsWellScoped here → IsWellScoped (with_sides s l r here)
scoped_sides s l r here w =
    let n = length here.sections in
    let m = length (here.sections ++ Left s ∷ Right s ∷ []) in
    let count : m ≡ n + 2 = omega (arith, length-append here.sections (Left s ∷ Right s ∷ [])) in
    record {
      known = known_one l (ASection n) ((r, ASection (n + 1)) ∷ here.names) m (λ k h. let e : n ≡ k = cc in omega arith)
          (known_one r (ASection (n + 1)) here.names m (λ k h. let e : n + 1 ≡ k = cc in omega arith)
          (known_later here.names n m (omega arith) w.known));
      kinds = let k : length here.kinds ≡ n = w.kinds in
          omega (arith, length-append here.kinds (kind_of here s ∷ kind_of here s ∷ []));
      slots = w.slots;
    }

pub scoped_turn : (s : ℕ) (x i : List ℕ) (here : Scope) → IsWellScoped here → IsWellScoped (with_turn s x i (next here))
scoped_turn s x i here w =
    let n = length here.sections in
    let m = length (here.sections ++ Piece s ∷ []) in
    let count : m ≡ n + 1 = omega (arith, length-append here.sections (Piece s ∷ [])) in
    record {
      known = known_one x (ASection n) ((i, AScalar here.slot) ∷ here.names) m (λ k h. let e : n ≡ k = cc in omega arith)
          (known_one i (AScalar here.slot) here.names m (λ k h. absurd (cc))
          (known_later here.names n m (omega arith) w.known));
      kinds = let k : length here.kinds ≡ n = w.kinds in omega (arith, length-append here.kinds (kind_of here s ∷ []));
      slots = let h : here.slot ≤ 16 + here.label = w.slots in omega arith;
    }

-- a scalar without a statement of its own is one more slot
pub scoped_scalar : (x : List ℕ) (here : Scope) → here.slot + 1 ≤ 16 + here.label → IsWellScoped here → IsWellScoped (with_scalar x here)
scoped_scalar x here few w = record {
  known = known_one x (AScalar here.slot) here.names (length here.sections) (λ k h. absurd (cc)) w.known;
  kinds = w.kinds;
  slots = few;
}

-- sections are never removed
mutual
  more_behind : (s : Stmt) (here : Scope) → length here.sections ≤ length (behind s here).sections
  more_behind Skip here = omega arith
  more_behind (Var x e) here = omega arith
  more_behind (Assign x e) here = omega arith
  more_behind (Store s i e) here = omega arith
  more_behind (Print e es) here = omega arith
  more_behind (Fault e) here = omega arith
  more_behind (If e b) here = more_after b (next here)
  more_behind (IfElse e b c) here =
      let first = more_after b (next here) in
      let other = more_after c (out_of here (after b (next here))) in
      omega arith
  more_behind (While e b) here = more_after b (next here)
  more_behind (Split s e l r b) here =
      let n = section_of here.names s in
      let inner = more_after b (with_sides n l r (next here)) in
      omega (arith, length-append here.sections (Left n ∷ Right n ∷ []))
  more_behind (Parts s e x i b) here =
      let n = section_of here.names s in
      let inner = more_after b (with_turn n x i (next here)) in
      omega (arith, length-append here.sections (Piece n ∷ []))
  more_behind (Call f es) here = omega arith
  more_behind (Async b) here = more_after b (inside_async (next here))
  more_behind (Finish b) here = more_after b (next here)
  more_behind (Rescue b x c) here =
      let first = more_after b (next here) in
      let handler = more_after c (in_handler b x here) in
      omega arith

  more_after : (b : Block) (here : Scope) → length here.sections ≤ length (after b here).sections
  more_after End here = omega arith
  more_after (Then s rest) here =
      let first = more_behind s here in
      let others = more_after rest (behind s here) in
      omega arith

-- a statement adds at most as many slots as labels
mutual
  few_behind : (s : Stmt) (here : Scope) → (behind s here).slot + here.label ≤ here.slot + (behind s here).label
  few_behind Skip here = omega arith
  few_behind (Var x e) here = omega arith
  few_behind (Assign x e) here = omega arith
  few_behind (Store s i e) here = omega arith
  few_behind (Print e es) here = omega arith
  few_behind (Fault e) here = omega arith
  few_behind (If e b) here = let h = few_after b (next here) in omega arith
  few_behind (IfElse e b c) here =
      let h = few_after b (next here) in
      let k = few_after c (out_of here (after b (next here))) in
      omega arith
  few_behind (While e b) here = let h = few_after b (next here) in omega arith
  few_behind (Split s e l r b) here =
      let h = few_after b (with_sides (section_of here.names s) l r (next here)) in omega arith
  few_behind (Parts s e x i b) here =
      let h = few_after b (with_turn (section_of here.names s) x i (next here)) in omega arith
  few_behind (Call f es) here = omega arith
  few_behind (Async b) here = let h = few_after b (inside_async (next here)) in omega arith
  few_behind (Finish b) here = let h = few_after b (next here) in omega arith
  few_behind (Rescue b x c) here =
      let h = few_after b (next here) in
      let k = few_after c (in_handler b x here) in
      omega arith

  few_after : (b : Block) (here : Scope) → (after b here).slot + here.label ≤ here.slot + (after b here).label
  few_after End here = omega arith
  few_after (Then s rest) here =
      let first = few_behind s here in
      let others = few_after rest (behind s here) in
      omega arith

-- after a block
scoped_out : (before there : Scope) → IsWellScoped before → IsWellScoped there → length before.sections ≤ length there.sections
    → IsWellScoped (out_of before there)
scoped_out before there w v more = record {
  known = known_later before.names (length before.sections) (length there.sections) more w.known;
  kinds = v.kinds;
  slots = v.slots;
}

-- in the handler of a finish, after its body; the label of the finish makes room for the slot of its name
scoped_named : (b : Block) (x : List ℕ) (here : Scope) → IsWellScoped here → IsWellScoped (after b (next here))
    → IsWellScoped (in_handler b x here)
scoped_named b x here w v =
    let between = out_of here (after b (next here)) in
    let few : between.slot + (here.label + 1) ≤ here.slot + between.label = few_after b (next here) in
    let slots : here.slot ≤ 16 + here.label = w.slots in
    scoped_scalar x between (omega arith) (scoped_out here (after b (next here)) w v (more_after b (next here)))

mutual
  pub scoped_behind : (s : Stmt) (here : Scope) → IsWellScoped here → IsWellScoped (behind s here)
  scoped_behind Skip here w = scoped_next here w
  scoped_behind (Var x e) here w = scoped_var x here w
  scoped_behind (Assign x e) here w = scoped_next here w
  scoped_behind (Store s i e) here w = scoped_next here w
  scoped_behind (Print e es) here w = scoped_next here w
  scoped_behind (Fault e) here w = scoped_next here w
  scoped_behind (If e b) here w =
      scoped_out here (after b (next here)) w (scoped_after b (next here) (scoped_next here w)) (more_after b (next here))
  scoped_behind (IfElse e b c) here w =
      let there = out_of here (after b (next here)) in
      let v = scoped_out here (after b (next here)) w (scoped_after b (next here) (scoped_next here w)) (more_after b (next here)) in
      let first = more_after b (next here) in
      let other = more_after c there in
      scoped_out here (after c there) w (scoped_after c there v) (omega arith)
  scoped_behind (While e b) here w =
      scoped_out here (after b (next here)) w (scoped_after b (next here) (scoped_next here w)) (more_after b (next here))
  scoped_behind (Split s e l r b) here w =
      let n = section_of here.names s in
      let inside = with_sides n l r (next here) in
      let inner = more_after b inside in
      scoped_out here (after b inside) w (scoped_after b inside (scoped_sides n l r (next here) (scoped_next here w)))
      (omega (arith, length-append here.sections (Left n ∷ Right n ∷ [])))
  scoped_behind (Parts s e x i b) here w =
      let n = section_of here.names s in
      let inside = with_turn n x i (next here) in
      let inner = more_after b inside in
      scoped_out here (after b inside) w (scoped_after b inside (scoped_turn n x i here w))
      (omega (arith, length-append here.sections (Piece n ∷ [])))
  scoped_behind (Call f es) here w = scoped_next here w
  scoped_behind (Async b) here w =
      let inside = inside_async (next here) in
      scoped_out here (after b inside) w (scoped_after b inside (scoped_async (next here) (scoped_next here w))) (more_after b inside)
  scoped_behind (Finish b) here w =
      scoped_out here (after b (next here)) w (scoped_after b (next here) (scoped_next here w)) (more_after b (next here))
  scoped_behind (Rescue b x c) here w =
      let there = in_handler b x here in
      let first = more_after b (next here) in
      let handler = more_after c there in
      scoped_out here (after c there) w (scoped_after c there (scoped_named b x here w (scoped_after b (next here) (scoped_next here w))))
      (omega arith)

  pub scoped_after : (b : Block) (here : Scope) → IsWellScoped here → IsWellScoped (after b here)
  scoped_after End here w = w
  scoped_after (Then s rest) here w = scoped_after rest (behind s here) (scoped_behind s here w)

pub scoped_handler : (b : Block) (x : List ℕ) (here : Scope) → IsWellScoped here → IsWellScoped (in_handler b x here)
scoped_handler b x here w = scoped_named b x here w (scoped_after b (next here) (scoped_next here w))

-- ---- at the start of a procedure
pub scoped_empty : (label : ℕ) → IsWellScoped (empty_scope label)
scoped_empty label = record { known = λ x s h. absurd (cc); kinds = refl; slots = omega arith }

-- a root is one more section
pub scoped_root : (x : List ℕ) (k : Parameter) (here : Scope) → IsWellScoped here → IsWellScoped (with_root x k here)
scoped_root x k here w =
    let n = length here.sections in
    let m = length (here.sections ++ Root ∷ []) in
    let count : m ≡ n + 1 = omega (arith, length-append here.sections (Root ∷ [])) in
    record {
      known = known_one x (ASection n) here.names m (λ k h. let e : n ≡ k = cc in omega arith)
          (known_later here.names n m (omega arith) w.known);
      kinds = let l : length here.kinds ≡ n = w.kinds in omega (arith, length-append here.kinds (k ∷ []));
      slots = w.slots;
    }

pub scoped_arrays : (arrays : List Array) (here : Scope) → IsWellScoped here → IsWellScoped (with_arrays arrays here)
scoped_arrays [] here w = w
scoped_arrays (a ∷ arrays) here w = scoped_arrays arrays (with_array a here) (scoped_root a.name _ here w)

pub scoped_parameters : (ps : List Declared) (here : Scope) → here.slot + length ps ≤ 16 + here.label → IsWellScoped here
    → IsWellScoped (with_parameters ps here)
scoped_parameters [] here few w = w
scoped_parameters (Written x e ∷ ps) here few w = scoped_parameters ps (with_parameter (Written x e) here) (omega arith) (scoped_root x _ here w)
scoped_parameters (Read x e ∷ ps) here few w = scoped_parameters ps (with_parameter (Read x e) here) (omega arith) (scoped_root x _ here w)
scoped_parameters (Scalar x ∷ ps) here few w =
    scoped_parameters ps (with_parameter (Scalar x) here) (omega arith) (scoped_scalar x here (omega arith) w)

pub scoped_body : (here : Scope) (b : Block) → IsWellScoped here → IsWellScoped (out_of here (after b (next here)))
scoped_body here b w =
    scoped_out here (after b (next here)) w (scoped_after b (next here) (scoped_next here w)) (more_after b (next here))

-- declarations have no label
pub label_with_parameters : (ps : List Declared) (here : Scope) → (with_parameters ps here).label ≡ here.label
label_with_parameters [] here = refl
label_with_parameters (Written x e ∷ ps) here = label_with_parameters ps (with_parameter (Written x e) here)
label_with_parameters (Read x e ∷ ps) here = label_with_parameters ps (with_parameter (Read x e) here)
label_with_parameters (Scalar x ∷ ps) here = label_with_parameters ps (with_parameter (Scalar x) here)

pub label_with_arrays : (arrays : List Array) (here : Scope) → (with_arrays arrays here).label ≡ here.label
label_with_arrays [] here = refl
label_with_arrays (a ∷ arrays) here = label_with_arrays arrays (with_array a here)

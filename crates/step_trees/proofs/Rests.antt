-- Blocks one after the other, and nested callers.
use Rattle.std.proofs.Common.{◌≡◌, List, [], ◌∷◌, ◌++◌, length, refl, sym, ap, ◌∙◌, arith}
use Rattle.std.specs.Prelude.{true, false, nat_eq}
use Rattle.types.specs.Code.{Codes, End, Then}
use Rattle.std.proofs.lemmas.Bool.Decides.{nat_tests}
use Rattle.types.specs.Trees.{Caller, Leaf, append, is_done, return_to, returned, returned_by}
use Rattle.step_trees.specs.declared.rest.RestOfBlock.{RestOfBlock}
use Rattle.step_trees.specs.declared.rest.RestOfBlock.TheVariants.{Block, Turns}
use Rattle.step_trees.specs.declared.leaf.Caller.{Caller as rCaller}
use Rattle.step_trees.specs.Translation.{block, blocks, caller, callers}

pub append_end : (c : Codes) → append c End ≡ c
append_end End = refl
append_end (Then l s rest) = ap (Then l s) (append_end rest)

append_assoc : (a b c : Codes) → append (append a b) c ≡ append a (append b c)
append_assoc End b c = refl
append_assoc (Then l s rest) b c = ap (Then l s) (append_assoc rest b c)

-- a block on top of others is done before them
pub blocks-push : (bs : List RestOfBlock) (b : RestOfBlock) → blocks (bs ++ b ∷ []) ≡ append (block b) (blocks bs)
blocks-push [] b = sym (append_end (block b))
blocks-push (x ∷ bs) b =
    ap (λ c. append c (block x)) (blocks-push bs b) ∙ append_assoc (block b) (blocks bs) (block x)

done_behind : (c : Codes) (b : RestOfBlock) → is_done (append c (block b)) ≡ false
done_behind End (Block first others) = refl
done_behind End (Turns t) = refl
done_behind (Then l s rest) b = refl

-- a caller on top is the innermost
pub callers-push : (cs : List rCaller) (c : rCaller) → callers (cs ++ c ∷ []) ≡ caller c ∷ callers cs
callers-push [] c = refl
callers-push (x ∷ cs) c = ap (λ l. l ++ caller x ∷ []) (callers-push cs c)

-- nothing is left exactly if there is no block
pub done_is_none : (bs : List RestOfBlock) → nat_eq (length bs) 0 ≡ is_done (blocks bs)
done_is_none [] = refl
done_is_none (b ∷ bs) =
    let more : nat_eq (length (b ∷ bs)) 0 ≡ false = grind (arith, nat_tests) in
    more ∙ sym (done_behind (blocks bs) b)

pub nothing_left : (bs : List RestOfBlock) → nat_eq (length bs) 0 ≡ true → blocks bs ≡ End
nothing_left [] e = refl
nothing_left (b ∷ bs) e =
    let more : nat_eq (length (b ∷ bs)) 0 ≡ false = grind (arith, nat_tests) in
    absurd (let bad : ⊥ = cc in bad)

-- a leaf that has a statement left stays
returned_open : (c : Codes) (k : Leaf) → is_done c ≡ false → returned_by c k ≡ k
returned_open End k e = absurd (let bad : ⊥ = cc in bad)
returned_open (Then l s rest) k e = refl

pub returned-open : (k : Leaf) → is_done k.rest ≡ false → returned k ≡ k
returned-open k e = returned_open k.rest k e

-- and so does one that has nothing left, not even a caller
pub returned-last : (k : Leaf) → k.rest ≡ End → k.callers ≡ [] → returned k ≡ k
returned-last k none alone =
    ap (λ c. returned_by c k) none ∙ ap (λ fs. return_to fs k) alone
    ∙ ap (λ (c : Codes). let j : Leaf = record k { rest = c; callers = [] } in j) (sym none)
    ∙ ap (λ (fs : List Caller). let j : Leaf = record k { callers = fs } in j) (sym alone)

-- where a leaf returns doesn't depend on its remaining statements and callers
return_same : (fs gs : List Caller) (k : Leaf) (c : Codes)
    → return_to fs (record k { rest = c; callers = gs }) ≡ return_to fs k
return_same [] gs k c = refl
return_same (f ∷ fs) gs k c = by f.rest (return_same fs gs (record k { environment = f.environment }) c)
  where
    by : (d : Codes)
        → return_to fs (record k { environment = f.environment; rest = c; callers = gs }) ≡ return_to fs (record k { environment = f.environment })
        → ◌≡◌ {A = Leaf} (elim d [
          | End ↦ return_to fs (record k { environment = f.environment; rest = c; callers = gs })
          | Then l s rest ↦ record k { environment = f.environment; rest = Then l s rest; callers = fs }
        ]) (elim d [
          | End ↦ return_to fs (record k { environment = f.environment })
          | Then l s rest ↦ record k { environment = f.environment; rest = Then l s rest; callers = fs }
        ])
    by End h = h
    by (Then l s rest) h = refl

-- a leaf after a call
abbrev pub behind : Caller → List Caller → Leaf → Leaf
behind f fs k = record k { environment = f.environment; rest = f.rest; callers = fs }

-- a leaf that has nothing left continues after its innermost call
pub returned-up : (k : Leaf) (f : Caller) (fs : List Caller) → k.rest ≡ End → k.callers ≡ f ∷ fs
    → returned k ≡ returned (behind f fs k)
returned-up k f fs none in_call =
    ap (λ c. returned_by c k) none ∙ ap (λ gs. return_to gs k) in_call ∙ by f.rest
  where
    by : (d : Codes) → ◌≡◌ {A = Leaf} (elim d [
      | End ↦ return_to fs (record k { environment = f.environment })
      | Then l s rest ↦ record k { environment = f.environment; rest = Then l s rest; callers = fs }
    ]) (returned_by d (record k { environment = f.environment; rest = d; callers = fs }))
    by End = sym (return_same fs fs (record k { environment = f.environment }) End)
    by (Then l s rest) = refl

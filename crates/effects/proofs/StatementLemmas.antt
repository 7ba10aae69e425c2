-- The statements of a program: those inside one are the program's too, each label has one, and a
-- visit finds all.
use Rattle.std.proofs.Common.{◌≡◌, ◌⊎◌, inl, inr, ℕ, zero, suc, ◌+◌, ◌<◌, ◌≤◌, List, [], ◌∷◌, ◌++◌, length, map, get_or, refl, sym, ap, ◌∙◌, subst, arith}
use Rattle.std.proofs.lemmas.List.{map-append}
use Rattle.std.specs.List.{range_with_len}
use Rattle.std.specs.Prelude.{slice_index_or}
use Rattle.sections.specs.Member.{Member, first, next}
use Rattle.types.specs.Code.{Number, Code, Do, If, While, Split, Parts, Begun, Call, Async, Finish, Rescue, Codes, End, Then}
use Rattle.types.specs.Code.{Procedure, Program}
use Rattle.types.specs.Labels.{labels_of, labels_inside, labels_of_procedures}
use Rattle.types.specs.Run.{procedure_of, no_procedure}
use Rattle.types.specs.Sound.{IsText, IsTextOf}
use Rattle.types.specs.Translation.{code, codes}
use Rattle.types.specs.declared.code.Stmt.{Stmt}
use Rattle.effects.specs.Sound.{FollowsOf, Follows, IsSound, parameters_of}
use Rattle.effects.specs.Statements.{Block, Stands, HasStatement, IsPartOf}
use Rattle.effects.specs.Visits.{Visit, visits_in, visits_inside, in_async, in_finish}
use Rattle.effects.specs.declared.visits.Standing.{Standing}
use Rattle.effects.proofs.Members.{in_left, in_right, in_parts}
use Rattle.effects.proofs.Statements.{size, size_in}

pub first_or_next : {A : Type 0} {x y : A} {xs : List A} → Member x (y ∷ xs) → (x ≡ y) ⊎ Member x xs
first_or_next first = inl refl
first_or_next (next m) = inr m

pub of_one : {A : Type 0} {x y : A} → Member x (y ∷ []) → x ≡ y
of_one {A} {x} {y} m = elim (first_or_next m) [ inl e ↦ e | inr n ↦ none n ]
  where
    none : Member x [] → x ≡ y
    none n = elim n [ ]

-- ---- statements inside one
pub stands_through : {c b : Codes} {l m : ℕ} {s t : Code} → Stands c l s → Block s b → Stands b m t → Stands c m t
stands_through Stands.here k h = Stands.inside k h
stands_through (Stands.inside j g) k h = Stands.inside j (stands_through g k h)
stands_through (Stands.later g) k h = Stands.later (stands_through g k h)

-- ---- no `parts` has begun in a text
text_inside : {s : Code} {b : Codes} → Block s b → IsTextOf s → IsText b
text_inside Block.if_body h = h.0
text_inside Block.if_other h = h.1
text_inside Block.while h = h
text_inside Block.split h = h
text_inside Block.parts h = h
text_inside Block.async h = h
text_inside Block.finish h = h
text_inside Block.rescued h = h.0
text_inside Block.handler h = h.1

stands_text : {b : Codes} {l : ℕ} {s : Code} → Stands b l s → IsText b → IsTextOf s
stands_text Stands.here h = h.0
stands_text (Stands.inside k at) h = stands_text at (text_inside k h.0)
stands_text (Stands.later at) h = stands_text at h.1

pub statement_text : (p : Program) → IsSound p → (l : ℕ) (s : Code) → HasStatement p l s → IsTextOf s
statement_text p sound l s (HasStatement.in_procedure f at) = stands_text at (sound.procedures f).text
statement_text p sound l s (HasStatement.in_main at) = stands_text at sound.main.text

block_small : {s : Code} {b : Codes} → Block s b → size b ≤ size_in s
block_small Block.if_body = omega arith
block_small Block.if_other = omega arith
block_small Block.while = omega arith
block_small Block.split = omega arith
block_small Block.parts = omega arith
block_small Block.async = omega arith
block_small Block.finish = omega arith
block_small Block.rescued = omega arith
block_small Block.handler = omega arith

module _ (p : Program) where
  has_through : {b : Codes} {l m : ℕ} {s t : Code} → HasStatement p l s → Block s b → Stands b m t → HasStatement p m t
  has_through (HasStatement.in_procedure f g) k h = HasStatement.in_procedure f (stands_through g k h)
  has_through (HasStatement.in_main g) k h = HasStatement.in_main (stands_through g k h)

  pub part_inside : (l : ℕ) (k s : Code) (b : Codes) → HasStatement p l k → k ≡ s → Block s b → IsPartOf p b
  part_inside l k s b h e blk = λ m t st. has_through (subst (HasStatement p l) e h) blk st

  -- a block of a statement of the program: it has no more statements, and they belong to the
  -- program
  pub record IsInside (k : Code) (b : Codes) : Type 0 where
    pub small : size b ≤ size_in k
    pub part : IsPartOf p b

  pub is_inside : (l : ℕ) (k s : Code) (b : Codes) → HasStatement p l k → k ≡ s → Block s b → IsInside k b
  is_inside l k s b h e blk = record {
    small = subst (λ (j : Code). size b ≤ size_in j) (sym e) (block_small blk);
    part = part_inside l k s b h e blk;
  }

  -- those of a list
  pub stands_at : (ss : List Stmt) (k : ℕ) (d : Stmt) → k < length ss
      → Stands (codes ss) (get_or ss k d).label (code (get_or ss k d).kind)
  stands_at [] k d h = absurd (omega arith)
  stands_at (s ∷ ss) zero d h = Stands.here
  stands_at (s ∷ ss) (suc k) d h = Stands.later (stands_at ss k d (omega arith))

  pub part_at : (ss : List Stmt) (k : ℕ) (x : Stmt) → k < length ss → x ≡ slice_index_or ss k x → IsPartOf p (codes ss)
      → HasStatement p x.label (code x.kind)
  part_at ss k x h is part =
      subst (λ (y : Stmt). HasStatement p y.label (code y.kind)) (sym is) (part _ _ (stands_at ss k x h))

  pub part_of_procedure : (f : ℕ) (b : Codes) → b ≡ (procedure_of p f).body → IsPartOf p b
  part_of_procedure f b e = λ l s h. HasStatement.in_procedure f (subst (λ (c : Codes). Stands c l s) e h)

  pub part_of_main : (b : Codes) → b ≡ p.main.body → IsPartOf p b
  part_of_main b e = λ l s h. HasStatement.in_main (subst (λ (c : Codes). Stands c l s) e h)

-- ---- the rules at a statement's position
record FollowsThere (p : Program) (g : Procedure) (s : Code) : Type 0 where
  scope : List ℕ
  follows : FollowsOf p g scope s

module _ (p : Program) (g : Procedure) where
  record BlockFollows (b : Codes) : Type 0 where
    scope : List ℕ
    follows : Follows p g scope b

  block_follows : {s : Code} {b : Codes} → Block s b → (scope : List ℕ) → FollowsOf p g scope s → BlockFollows b
  block_follows Block.if_body scope h = record { scope = scope; follows = h.1 }
  block_follows Block.if_other scope h = record { scope = scope; follows = h.2 }
  block_follows Block.while scope h = record { scope = scope; follows = h.1 }
  block_follows (Block.split {s} {e} {l} {r} {b}) scope h = record { scope = l ∷ r ∷ scope; follows = h.2 }
  block_follows (Block.parts {s} {e} {q} {i} {b}) scope h = record { scope = q ∷ scope; follows = h.2 }
  block_follows Block.async scope h = record { scope = scope; follows = h }
  block_follows Block.finish scope h = record { scope = scope; follows = h }
  block_follows Block.rescued scope h = record { scope = scope; follows = h.0 }
  block_follows Block.handler scope h = record { scope = scope; follows = h.2 }

  follows_there : {c : Codes} {l : ℕ} {s : Code} → Stands c l s → (scope : List ℕ) → Follows p g scope c → FollowsThere p g s
  follows_there Stands.here scope h = record { scope = scope; follows = h.0 }
  follows_there (Stands.inside k g) scope h =
      let deeper = block_follows k scope h.0 in follows_there g deeper.scope deeper.follows
  follows_there (Stands.later g) scope h = follows_there g scope h.1

-- a call of a procedure passes as many sections as the procedure has parameters
pub record IsCall (p : Program) (f : ℕ) (ss : List ℕ) : Type 0 where
  pub there : f < length p.procedures
  pub number : length ss ≡ length (procedure_of p f).parameters

pub is_call : (p : Program) → IsSound p → (l : ℕ) (k : Code) (f : ℕ) (es : List Number) (ss : List ℕ) → HasStatement p l k
    → k ≡ Call f es ss → IsCall p f ss
is_call p sound l k f es ss h e = by (subst (HasStatement p l) e h)
  where
    called : (g : Procedure) → FollowsThere p g (Call f es ss) → IsCall p f ss
    called g c = record { there = c.follows.there; number = c.follows.passes.number }

    by : HasStatement p l (Call f es ss) → IsCall p f ss
    by (HasStatement.in_procedure i g) =
        called (procedure_of p i) (follows_there p (procedure_of p i) g (parameters_of (procedure_of p i)) (sound.procedures i).body)
    by (HasStatement.in_main g) = called p.main (follows_there p p.main g (parameters_of p.main) sound.main.body)

-- ---- each label has one statement
abbrev mutual
  listed_inside : Code → List (ℕ × Code)
  listed_inside (If t b c) = listed b ++ listed c
  listed_inside (While t b) = listed b
  listed_inside (Split s e l r b) = listed b
  listed_inside (Parts s e q i b) = listed b
  listed_inside (Begun s n k q i b) = listed b
  listed_inside (Async b) = listed b
  listed_inside (Finish b) = listed b
  listed_inside (Rescue b n c) = listed b ++ listed c
  listed_inside _ = []

  listed : Codes → List (ℕ × Code)
  listed End = []
  listed (Then l s rest) = (l, s) ∷ listed_inside s ++ listed rest

abbrev listed_procedures : List Procedure → List (ℕ × Code)
listed_procedures [] = []
listed_procedures (f ∷ fs) = listed f.body ++ listed_procedures fs

keys_of : List (ℕ × Code) → List ℕ
keys_of xs = map (λ x. x.0) xs

keys_joined : (xs ys : List (ℕ × Code)) → keys_of (xs ++ ys) ≡ keys_of xs ++ keys_of ys
unfolding keys_of
keys_joined xs ys = map-append (λ (x : ℕ × Code). x.0) xs ys

mutual
  unfolding keys_of

  keys_inside : (s : Code) → keys_of (listed_inside s) ≡ labels_inside s
  keys_inside (If t b c) = keys_joined (listed b) (listed c) ∙ ap (λ ks. ks ++ keys_of (listed c)) (keys_in b) ∙ ap (λ ks. labels_of b ++ ks) (keys_in c)
  keys_inside (While t b) = keys_in b
  keys_inside (Split s e l r b) = keys_in b
  keys_inside (Parts s e q i b) = keys_in b
  keys_inside (Begun s n k q i b) = keys_in b
  keys_inside (Async b) = keys_in b
  keys_inside (Finish b) = keys_in b
  keys_inside (Rescue b n c) =
      keys_joined (listed b) (listed c) ∙ ap (λ ks. ks ++ keys_of (listed c)) (keys_in b) ∙ ap (λ ks. labels_of b ++ ks) (keys_in c)
  keys_inside _ = refl

  keys_in : (b : Codes) → keys_of (listed b) ≡ labels_of b
  keys_in End = refl
  keys_in (Then l s rest) = ap (λ ks. l ∷ ks) (keys_joined (listed_inside s) (listed rest)
      ∙ ap (λ ks. ks ++ keys_of (listed rest)) (keys_inside s) ∙ ap (λ ks. labels_inside s ++ ks) (keys_in rest))

keys_in_procedures : (fs : List Procedure) → keys_of (listed_procedures fs) ≡ labels_of_procedures fs
unfolding keys_of
keys_in_procedures [] = refl
keys_in_procedures (f ∷ fs) = keys_joined (listed f.body) (listed_procedures fs)
    ∙ ap (λ ks. ks ++ keys_of (listed_procedures fs)) (keys_in f.body) ∙ ap (λ ks. labels_of f.body ++ ks) (keys_in_procedures fs)

listed_in_block : {s t : Code} {b : Codes} {m : ℕ} → Block s b → Member (m, t) (listed b) → Member (m, t) (listed_inside s)
listed_in_block (Block.if_body {t} {b} {c}) h = in_left (listed c) h
listed_in_block (Block.if_other {t} {b} {c}) h = in_right (listed b) h
listed_in_block Block.while h = h
listed_in_block Block.split h = h
listed_in_block Block.parts h = h
listed_in_block Block.async h = h
listed_in_block Block.finish h = h
listed_in_block (Block.rescued {c = c}) h = in_left (listed c) h
listed_in_block (Block.handler {b = b}) h = in_right (listed b) h

stands_listed : {b : Codes} {l : ℕ} {s : Code} → Stands b l s → Member (l, s) (listed b)
stands_listed Stands.here = first
stands_listed (Stands.inside {l} {m} {s} {t} {b} {rest} k h) = next (in_left (listed rest) (listed_in_block k (stands_listed h)))
stands_listed (Stands.later {l} {m} {s} {t} {rest} h) = next (in_right (listed_inside s) (stands_listed h))

procedures_listed : (fs : List Procedure) (f l : ℕ) (s : Code) → Stands (slice_index_or fs f no_procedure).body l s
    → Member (l, s) (listed_procedures fs)
procedures_listed [] f l s h = elim h [ ]
procedures_listed (g ∷ fs) zero l s h = in_left (listed_procedures fs) (stands_listed h)
procedures_listed (g ∷ fs) (suc f) l s h = in_right (listed g.body) (procedures_listed fs f l s h)

at_least : (xs : List (ℕ × Code)) (k n : ℕ) → keys_of xs ≡ range_with_len k n → (x : ℕ × Code) → Member x xs → k ≤ x.0
unfolding keys_of
at_least [] k n e x m = elim m [ ]
at_least (y ∷ ys) k zero e x m = cc
at_least (y ∷ ys) k (suc n) e x m =
    let head : y.0 ≡ k = cc in
    let tail : keys_of ys ≡ range_with_len (k + 1) n = cc in
    elim (first_or_next m) [
      | inl is ↦ let z : x.0 ≡ y.0 = ap (λ v. v.0) is in omega arith
      | inr later ↦ let z : k + 1 ≤ x.0 = at_least ys (k + 1) n tail x later in omega arith
    ]

once : (xs : List (ℕ × Code)) (k n : ℕ) → keys_of xs ≡ range_with_len k n → (x y : ℕ × Code) → Member x xs → Member y xs
    → x.0 ≡ y.0 → x ≡ y
unfolding keys_of
once [] k n e x y a b same = elim a [ ]
once (z ∷ zs) k zero e x y a b same = cc
once (z ∷ zs) k (suc n) e x y a b same =
    let head : z.0 ≡ k = cc in
    let tail : keys_of zs ≡ range_with_len (k + 1) n = cc in
    elim (first_or_next a) [
      | inl is ↦ elim (first_or_next b) [
        | inl it ↦ is ∙ sym it
        | inr later ↦
            let u : x.0 ≡ z.0 = ap (λ v. v.0) is in
            let v : k + 1 ≤ y.0 = at_least zs (k + 1) n tail y later in
            absurd (omega arith)
      ]
      | inr later ↦ elim (first_or_next b) [
        | inl it ↦
            let u : y.0 ≡ z.0 = ap (λ v. v.0) it in
            let v : k + 1 ≤ x.0 = at_least zs (k + 1) n tail x later in
            absurd (omega arith)
        | inr behind ↦ once zs (k + 1) n tail x y later behind same
      ]
    ]

module _ (p : Program) where
  has_listed : (l : ℕ) (s : Code) → HasStatement p l s → Member (l, s) (listed_procedures p.procedures ++ listed p.main.body)
  has_listed l s (HasStatement.in_procedure f h) = in_left (listed p.main.body) (procedures_listed p.procedures f l s h)
  has_listed l s (HasStatement.in_main h) = in_right (listed_procedures p.procedures) (stands_listed h)

  pub one_statement : IsSound p → (l : ℕ) (s t : Code) → HasStatement p l s → HasStatement p l t → s ≡ t
  one_statement sound l s t h g =
      ap (λ (x : ℕ × Code). x.1)
      (once (listed_procedures p.procedures ++ listed p.main.body) 1 _
      (keys_joined (listed_procedures p.procedures) (listed p.main.body)
      ∙ ap (λ ks. ks ++ keys_of (listed p.main.body)) (keys_in_procedures p.procedures)
      ∙ ap (λ ks. labels_of_procedures p.procedures ++ ks) (keys_in p.main.body) ∙ sound.labels)
      (l, s) (l, t) (has_listed l s h) (has_listed l t g) refl)

-- ---- visits
record InBlock (s : Code) (l : ℕ) (t : Code) : Type 0 where
  block : Codes
  inside : Block s block
  stands : Stands block l t

mutual
  visited_inside : (w : Standing) (s : Code) (v : Visit) → Member v (visits_inside w s) → InBlock s v.label v.code
  visited_inside w (Do s) v m = elim m [ ]
  visited_inside w (If t b c) v m = elim (in_parts (visits_in w b) m) [
    | inl k ↦ record { block = b; inside = Block.if_body; stands = visited w b v k }
    | inr k ↦ record { block = c; inside = Block.if_other; stands = visited w c v k }
  ]
  visited_inside w (While t b) v m = record { block = b; inside = Block.while; stands = visited w b v m }
  visited_inside w (Split s e l r b) v m = record { block = b; inside = Block.split; stands = visited w b v m }
  visited_inside w (Parts s e q i b) v m = record { block = b; inside = Block.parts; stands = visited w b v m }
  visited_inside w (Begun s n k q i b) v m = elim m [ ]
  visited_inside w (Call f es ss) v m = elim m [ ]
  visited_inside w (Async b) v m = record { block = b; inside = Block.async; stands = visited (in_async w) b v m }
  visited_inside w (Finish b) v m = record { block = b; inside = Block.finish; stands = visited (in_finish w) b v m }
  visited_inside w (Rescue b n c) v m = elim (in_parts (visits_in (in_finish w) b) m) [
    | inl k ↦ record { block = b; inside = Block.rescued; stands = visited (in_finish w) b v k }
    | inr k ↦ record { block = c; inside = Block.handler; stands = visited w c v k }
  ]

  -- what a visit finds is in the block
  pub visited : (w : Standing) (b : Codes) (v : Visit) → Member v (visits_in w b) → Stands b v.label v.code
  visited w End v m = elim m [ ]
  visited w (Then l s rest) v m = elim (first_or_next m) [
    | inl is ↦ subst (λ (u : Visit). Stands (Then l s rest) u.label u.code) (sym is) Stands.here
    | inr k ↦ elim (in_parts (visits_inside w s) k) [
      | inl a ↦ let i = visited_inside w s v a in Stands.inside i.inside i.stands
      | inr b ↦ Stands.later (visited w rest v b)
    ]
  ]

-- and what is in the block is found
pub record IsVisited (vs : List Visit) (l : ℕ) (s : Code) : Type 0 where
  pub visit : Visit
  pub among : Member visit vs
  pub label : visit.label ≡ l
  pub code : visit.code ≡ s

visited_in_more : (xs ys : List Visit) (l : ℕ) (s : Code) → ((v : Visit) → Member v xs → Member v ys) → IsVisited xs l s → IsVisited ys l s
visited_in_more xs ys l s more v = record { visit = v.visit; among = more v.visit v.among; label = v.label; code = v.code }

visited_in_block : (w : Standing) (m : ℕ) (t : Code) {s : Code} {b : Codes} → Block s b
    → ((u : Standing) → IsVisited (visits_in u b) m t) → IsVisited (visits_inside w s) m t
visited_in_block w m t (Block.if_body {t = g} {b} {c}) h =
    visited_in_more (visits_in w b) (visits_in w b ++ visits_in w c) m t (λ v a. in_left (visits_in w c) a) (h w)
visited_in_block w m t (Block.if_other {t = g} {b} {c}) h =
    visited_in_more (visits_in w c) (visits_in w b ++ visits_in w c) m t (λ v a. in_right (visits_in w b) a) (h w)
visited_in_block w m t Block.while h = h w
visited_in_block w m t Block.split h = h w
visited_in_block w m t Block.parts h = h w
visited_in_block w m t Block.async h = h (in_async w)
visited_in_block w m t Block.finish h = h (in_finish w)
visited_in_block w m t (Block.rescued {b = b} {c = c}) h =
    visited_in_more (visits_in (in_finish w) b) (visits_in (in_finish w) b ++ visits_in w c) m t (λ v a. in_left (visits_in w c) a)
    (h (in_finish w))
visited_in_block w m t (Block.handler {b = b} {c = c}) h =
    visited_in_more (visits_in w c) (visits_in (in_finish w) b ++ visits_in w c) m t (λ v a. in_right (visits_in (in_finish w) b) a) (h w)

pub is_visited : (w : Standing) {b : Codes} {m : ℕ} {t : Code} → Stands b m t → IsVisited (visits_in w b) m t
is_visited w (Stands.here {l} {s} {rest}) =
    record { visit = record { standing = w; label = l; code = s }; among = first; label = refl; code = refl }
is_visited w (Stands.inside {l} {m} {s} {t} {b} {rest} k h) =
    visited_in_more (visits_inside w s) (visits_in w (Then l s rest)) m t (λ v a. next (in_left (visits_in w rest) a))
    (visited_in_block w m t k (λ u. is_visited u h))
is_visited w (Stands.later {l} {m} {s} {t} {rest} h) =
    visited_in_more (visits_in w rest) (visits_in w (Then l s rest)) m t (λ v a. next (in_right (visits_inside w s) a)) (is_visited w h)

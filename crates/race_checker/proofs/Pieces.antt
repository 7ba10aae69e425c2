-- What is found of a list is combined from what is found of its pieces.
use Rattle.std.proofs.Common.{◌≡◌, ◌⊎◌, inl, inr, ℕ, zero, suc, ◌<◌, ◌≤◌, List, [], ◌∷◌, ◌++◌, map, length, refl}
use Rattle.std.proofs.Common.{sym, ◌∙◌, subst, arith, Result, Ok, IfOk, All as AllOfList, append_assoc, append-nil}
use Rattle.std.specs.Prelude.{◌↔◌, flat_map}
use Rattle.std.specs.List.{AllZip}
use Rattle.std.specs.Borrow.{Bor}
use Rattle.sections.specs.Origins.{Origin}
use Rattle.types.specs.declared.code.Stmt.{Stmt}
use Rattle.types.specs.Code.{Code, Codes, End, Then, Program, Procedure}
use Rattle.types.specs.Translation.{code, codes}
use Rattle.effects.specs.Accesses.{Access}
use Rattle.effects.specs.Effects.{accesses, All, AllOf, Pending, PendingOf}
use Rattle.effects.specs.Firsts.{kept_in}
use Rattle.effects.specs.Sound.{Follows, IsSound}
use Rattle.effects.specs.declared.access.Access.{Access as rAccess}
use Rattle.effects.proofs.FirstLabels.{firsts_same, firsts_of_firsts, firsts_both}
use Rattle.effects.proofs.Statements.{size}
use Rattle.effects.proofs.LeastRows.{all_lists, pending_lists}
use Rattle.effects.proofs.AccessesInScope.{pending_all}
use Rattle.parallel_relation.specs.Together.{Together}
use Rattle.race_checker.specs.Found.{Stands, IsFoundIn, IsInFront, crossing}
use Rattle.race_checker.specs.Races.{Clashes, LeastOf}
use Rattle.race_checker.specs.Search.{lesser_of}
use Rattle.race_checker.specs.Translation.{found as race_found}
use Rattle.race_checker.specs.declared.found.Found.{Found}
use Rattle.race_checker.proofs.Finding.{fronted_in, fronted_out, none_all, none_pending, none_together, least_map, least_pairs}
use Rattle.race_checker.proofs.Finding.{crossing_least, in_range, below_all}

-- Two lists, one after the other

-- what lists have, if the items of a list are those of its first statement and of its others
module _ (of_list : Codes → Access → Type 0) (of_one : ℕ → Code → Access → Type 0)
    (none : (x : Access) → of_list End x → ⊥)
    (lists : (l : ℕ) (s : Code) (b : Codes) (x : Access) → of_list (Then l s b) x ↔
    (of_one l s x ⊎ of_list b x)) where
  joined : (xs ys : List Stmt) (x : Access) → of_list (codes xs) x ⊎ of_list (codes ys) x
      → of_list (codes (xs ++ ys)) x
  joined [] ys x (inl h) = absurd (none x h)
  joined [] ys x (inr h) = h
  joined (s ∷ ss) ys x (inl h) = elim ((lists s.label (code s.kind) (codes ss) x).0 h) [
    | inl a ↦ (lists s.label (code s.kind) (codes (ss ++ ys)) x).1 (inl a)
    | inr b ↦ (lists s.label (code s.kind) (codes (ss ++ ys)) x).1 (inr (joined ss ys x (inl b)))
  ]
  joined (s ∷ ss) ys x (inr h) =
      (lists s.label (code s.kind) (codes (ss ++ ys)) x).1 (inr (joined ss ys x (inr h)))

  parted : (xs ys : List Stmt) (x : Access) → of_list (codes (xs ++ ys)) x
      → of_list (codes xs) x ⊎ of_list (codes ys) x
  parted [] ys x h = inr h
  parted (s ∷ ss) ys x h = elim ((lists s.label (code s.kind) (codes (ss ++ ys)) x).0 h) [
    | inl a ↦ inl ((lists s.label (code s.kind) (codes ss) x).1 (inl a))
    | inr b ↦ elim (parted ss ys x b) [
      | inl c ↦ inl ((lists s.label (code s.kind) (codes ss) x).1 (inr c))
      | inr c ↦ inr c
    ]
  ]

module _ (p : Program) where
  pub all_joined : (xs ys : List Stmt) (x : Access) → All p accesses (codes xs) x ⊎ All p accesses (codes ys) x
      → All p accesses (codes (xs ++ ys)) x
  all_joined = joined (All p accesses) (AllOf p accesses) (none_all p) (all_lists p accesses)

  pub all_parted : (xs ys : List Stmt) (x : Access) → All p accesses (codes (xs ++ ys)) x
      → All p accesses (codes xs) x ⊎ All p accesses (codes ys) x
  all_parted = parted (All p accesses) (AllOf p accesses) (none_all p) (all_lists p accesses)

  pub pending_joined : (xs ys : List Stmt) (x : Access) → Pending p accesses (codes xs) x ⊎ Pending p accesses (codes ys) x
      → Pending p accesses (codes (xs ++ ys)) x
  pending_joined =
      joined (Pending p accesses) (λ l. PendingOf p accesses) (none_pending p) (pending_lists p accesses)

  pub pending_parted : (xs ys : List Stmt) (x : Access) → Pending p accesses (codes (xs ++ ys)) x
      → Pending p accesses (codes xs) x ⊎ Pending p accesses (codes ys) x
  pending_parted =
      parted (Pending p accesses) (λ l. PendingOf p accesses) (none_pending p) (pending_lists p accesses)

  -- the pairs of a list that comes before another
  abbrev pub Joined : (xs ys : List Stmt) → Access → Access → Type 0
  Joined xs ys x y =
      (Pending p accesses (codes xs) x × All p accesses (codes ys) y)
      ⊎ (Together p accesses (codes xs) x y ⊎ Together p accesses (codes ys) x y)

  together_joined : (xs ys : List Stmt) (x y : Access) → Joined xs ys x y → Together p accesses (codes (xs ++ ys)) x y
  together_joined [] ys x y (inl h) = absurd (none_pending p x h.0)
  together_joined [] ys x y (inr (inl h)) = absurd (none_together p x y h)
  together_joined [] ys x y (inr (inr h)) = h
  together_joined (s ∷ ss) ys x y (inl h) =
      elim ((pending_lists p accesses s.label (code s.kind) (codes ss) x).0 h.0) [
        | inl a ↦ Together.follows a (all_joined ss ys y (inr h.1))
        | inr b ↦ Together.later (together_joined ss ys x y (inl (b, h.1)))
      ]
  together_joined (s ∷ ss) ys x y (inr (inl h)) =
      elim (fronted_in p s.label (code s.kind) (codes ss) x y h) [
        | inl a ↦ Together.follows a.0 (all_joined ss ys y (inl a.1))
        | inr (inl b) ↦ fronted_out p s.label (code s.kind) (codes (ss ++ ys)) x y (inr (inl b))
        | inr (inr b) ↦ Together.later (together_joined ss ys x y (inr (inl b)))
      ]
  together_joined (s ∷ ss) ys x y (inr (inr h)) = Together.later (together_joined ss ys x y (inr (inr h)))

  together_parted : (xs ys : List Stmt) (x y : Access) → Together p accesses (codes (xs ++ ys)) x y → Joined xs ys x y
  together_parted [] ys x y h = inr (inr h)
  together_parted (s ∷ ss) ys x y h =
      elim (fronted_in p s.label (code s.kind) (codes (ss ++ ys)) x y h) [
        | inl a ↦ elim (all_parted ss ys y a.1) [
          | inl b ↦ inr (inl (Together.follows a.0 b))
          | inr b ↦ inl ((pending_lists p accesses s.label (code s.kind) (codes ss) x).1 (inl a.0), b)
        ]
        | inr (inl b) ↦ inr (inl (fronted_out p s.label (code s.kind) (codes ss) x y (inr (inl b))))
        | inr (inr b) ↦ elim (together_parted ss ys x y b) [
          | inl c ↦ inl ((pending_lists p accesses s.label (code s.kind) (codes ss) x).1 (inr c.0), c.1)
          | inr (inl c) ↦ inr (inl (Together.later c))
          | inr (inr c) ↦ inr (inr c)
        ]
      ]

  module _ (origins : List Origin) (f : ℕ) where
    -- a piece in front of others
    pub found_joined : (xs ys : List Stmt) (here rest front : Found) → IsFoundIn p origins f (codes xs) here
        → IsFoundIn p origins f (codes ys) rest → IsInFront origins f here rest front → IsFoundIn p origins f (codes (xs ++ ys)) front
    found_joined xs ys here rest front h g e = record {
      all_firsts = firsts_same (λ x. All p accesses (codes xs) x ⊎ All p accesses (codes ys) x) (All p accesses (codes (xs ++ ys))) (kept_in front.all)
          (λ x. all_joined xs ys x) (λ x. all_parted xs ys x)
          (firsts_of_firsts (λ x. All p accesses (codes xs) x ⊎ All p accesses (codes ys) x) (kept_in here.all ++ kept_in rest.all) (kept_in front.all)
          (firsts_both (All p accesses (codes xs)) (All p accesses (codes ys)) (kept_in here.all) (kept_in rest.all) h.all_firsts g.all_firsts)
          e.all_in_front);
      pending_firsts = firsts_same (λ x. Pending p accesses (codes xs) x ⊎ Pending p accesses (codes ys) x) (Pending p accesses (codes (xs ++ ys))) (kept_in front.pending)
          (λ x. pending_joined xs ys x) (λ x. pending_parted xs ys x)
          (firsts_of_firsts (λ x. Pending p accesses (codes xs) x ⊎ Pending p accesses (codes ys) x) (kept_in here.pending ++ kept_in rest.pending) (kept_in front.pending)
          (firsts_both (Pending p accesses (codes xs)) (Pending p accesses (codes ys)) (kept_in here.pending) (kept_in rest.pending) h.pending_firsts g.pending_firsts)
          e.pending_in_front);
      least_race = subst (LeastOf (Clashes origins f (Together p accesses (codes (xs ++ ys))))) (sym e.race_in_front)
          (least_map origins f (Joined xs ys) (Together p accesses (codes (xs ++ ys))) _ (λ x y. together_joined xs ys x y)
          (λ x y. together_parted xs ys x y)
          (least_pairs origins f (λ x y. Pending p accesses (codes xs) x × All p accesses (codes ys) y)
          (λ x y. Together p accesses (codes xs) x y ⊎ Together p accesses (codes ys) x y)
          (crossing origins f (kept_in here.pending) (kept_in rest.all)) (lesser_of (race_found here.race) (race_found rest.race))
          (crossing_least origins f (Pending p accesses (codes xs)) (All p accesses (codes ys)) (kept_in here.pending) (kept_in rest.all) h.pending_firsts g.all_firsts)
          (least_pairs origins f (Together p accesses (codes xs)) (Together p accesses (codes ys))
          (race_found here.race) (race_found rest.race) h.least_race g.least_race)));
    }

  -- the pieces of a list follow the rules of the list's position

  follows_front : (g : Procedure) (scope : List ℕ) (xs ys : List Stmt) → Follows p g scope (codes (xs ++ ys)) → Follows p g scope (codes xs)
  follows_front g scope [] ys h = tt
  follows_front g scope (s ∷ ss) ys h = (h.0, follows_front g scope ss ys h.1)

  follows_back : (g : Procedure) (scope : List ℕ) (xs ys : List Stmt) → Follows p g scope (codes (xs ++ ys)) → Follows p g scope (codes ys)
  follows_back g scope [] ys h = h
  follows_back g scope (s ∷ ss) ys h = follows_back g scope ss ys h.1

  pub stands_front : (origins : List Origin) (xs ys : List Stmt) → Stands p origins (codes (xs ++ ys)) → Stands p origins (codes xs)
  stands_front origins xs ys st = record {
    around = st.around;
    follows = follows_front st.around.procedure st.around.scope xs ys st.follows;
  }

  pub stands_back : (origins : List Origin) (xs ys : List Stmt) → Stands p origins (codes (xs ++ ys)) → Stands p origins (codes ys)
  stands_back origins xs ys st = record {
    around = st.around;
    follows = follows_back st.around.procedure st.around.scope xs ys st.follows;
  }

size_front : (xs ys : List Stmt) → size (codes xs) ≤ size (codes (xs ++ ys))
size_front [] ys = omega arith
size_front (s ∷ ss) ys = let h : size (codes ss) ≤ size (codes (ss ++ ys)) = size_front ss ys in omega arith

size_back : (xs ys : List Stmt) → size (codes ys) ≤ size (codes (xs ++ ys))
size_back [] ys = omega arith
size_back (s ∷ ss) ys = let h : size (codes ys) ≤ size (codes (ss ++ ys)) = size_back ss ys in omega arith

-- Pieces of a list

-- the pieces side by side
abbrev pub side_by_side : List (List Stmt) → List Stmt
side_by_side = flat_map (λ l. l)

-- a piece follows the rules of the list, and is no larger
pub record IsPiece (p : Program) (origins : List Origin) (body piece : List Stmt) : Type 0 where
  pub stands : Stands p origins (codes piece)
  pub small : size (codes piece) ≤ size (codes body)

module _ (p : Program) (origins : List Origin) where
  front_piece : (xs ys body : List Stmt) → xs ++ ys ≡ body → Stands p origins (codes body) → IsPiece p origins body xs
  front_piece xs ys body e st = record {
    stands = stands_front p origins xs ys (subst (λ b. Stands p origins (codes b)) (sym e) st);
    small = subst (λ b. size (codes xs) ≤ size (codes b)) e (size_front xs ys);
  }

  back_piece : (xs ys body : List Stmt) → xs ++ ys ≡ body → Stands p origins (codes body) → IsPiece p origins body ys
  back_piece xs ys body e st = record {
    stands = stands_back p origins xs ys (subst (λ b. Stands p origins (codes b)) (sym e) st);
    small = subst (λ b. size (codes ys) ≤ size (codes b)) e (size_back xs ys);
  }

  smaller_body : (big body piece : List Stmt) → size (codes body) ≤ size (codes big) → IsPiece p origins body piece
      → IsPiece p origins big piece
  smaller_body big body piece le h = record {
    stands = h.stands;
    small = let k : size (codes piece) ≤ size (codes body) = h.small in omega arith;
  }

  pub pieces_of : (pieces : List (List Stmt)) (body : List Stmt) → side_by_side pieces ≡ body → Stands p origins (codes body)
      → AllOfList (IsPiece p origins body) pieces
  pieces_of [] body e st k d lt = absurd (omega arith)
  pieces_of (b ∷ bs) body e st zero d lt = front_piece b (side_by_side bs) body e st
  pieces_of (b ∷ bs) body e st (suc k) d lt =
      let rest = back_piece b (side_by_side bs) body e st in
      smaller_body body (side_by_side bs) _ rest.small (pieces_of bs (side_by_side bs) refl rest.stands k d (omega arith))

-- The pieces as they are combined

module _ (p : Program) (origins : List Origin) (f : ℕ) (body : List Stmt) where
  -- what is found of the statements so far, and of the remaining pieces
  pub record PutTogether (so_far : Found) (left : List Found) : Type 0 where
    pub front : List Stmt
    pub pieces : List (List Stmt)
    pub whole : front ++ side_by_side pieces ≡ body
    pub of_front : IsFoundIn p origins f (codes front) so_far
    pub of_pieces : AllZip (λ piece found. IsFoundIn p origins f (codes piece) found) pieces left

  module _ (sound : IsSound p) (st : Stands p origins (codes body)) where
    -- what is found is of sections of the procedure
    pub so_far_in_range : (so_far : Found) (left : List Found) → PutTogether so_far left
        → AllOfList (λ (x : rAccess). x.section.number < length origins) so_far.pending.items.items
    so_far_in_range so_far left h =
        let front = front_piece p origins h.front (side_by_side h.pieces) body h.whole st in
        in_range (Pending p accesses (codes h.front)) so_far.pending (length origins) h.of_front.pending_firsts
        (λ x k. below_all p sound origins (codes h.front) front.stands x (pending_all p k))

    pub piece_in_range : (so_far piece : Found) (left : List Found) → PutTogether so_far (piece ∷ left)
        → AllOfList (λ (x : rAccess). x.section.number < length origins) piece.all.items.items
    piece_in_range so_far piece left h = by h.pieces h.whole h.of_pieces
      where
        by : (pieces : List (List Stmt)) → h.front ++ side_by_side pieces ≡ body
            → AllZip (λ b found. IsFoundIn p origins f (codes b) found) pieces (piece ∷ left)
            → AllOfList (λ (x : rAccess). x.section.number < length origins) piece.all.items.items
        by [] e z = absurd z
        by (b ∷ bs) e z =
            let behind = back_piece p origins h.front (b ++ side_by_side bs) body e st in
            let here = front_piece p origins b (side_by_side bs) (b ++ side_by_side bs) refl behind.stands in
            in_range (All p accesses (codes b)) piece.all (length origins) z.0.all_firsts
            (below_all p sound origins (codes b) here.stands)

  -- one more piece
  pub one_more_piece : (so_far piece front : Found) (left : List Found) → PutTogether so_far (piece ∷ left)
      → IsInFront origins f so_far piece front → PutTogether front left
  one_more_piece so_far piece front left h put = by h.pieces h.whole h.of_pieces
    where
      by : (pieces : List (List Stmt)) → h.front ++ side_by_side pieces ≡ body
          → AllZip (λ b found. IsFoundIn p origins f (codes b) found) pieces (piece ∷ left) → PutTogether front left
      by [] e z = absurd z
      by (b ∷ bs) e z = record {
        front = h.front ++ b;
        pieces = bs;
        whole = append_assoc h.front b (side_by_side bs) ∙ e;
        of_front = found_joined p origins f h.front b so_far piece front h.of_front z.0 put;
        of_pieces = z.1;
      }

  -- all of them
  pub all_pieces : (so_far : Found) → PutTogether so_far [] → IsFoundIn p origins f (codes body) so_far
  all_pieces so_far h = by h.pieces h.whole h.of_pieces
    where
      by : (pieces : List (List Stmt)) → h.front ++ side_by_side pieces ≡ body
          → AllZip (λ b found. IsFoundIn p origins f (codes b) found) pieces [] → IsFoundIn p origins f (codes body) so_far
      by [] e z = subst (λ b. IsFoundIn p origins f (codes b) so_far) (sym (append-nil h.front) ∙ e) h.of_front
      by (b ∷ bs) e z = absurd z

  -- what is found of lent pieces
  pub pieces_found : (E : Type 0) (lent : List (Bor (List Stmt))) (found : List Found)
      → AllZip (λ (z : Bor (List Stmt)) (r : Result Found E). IfOk r (IsFoundIn p origins f (codes z.now))) lent (map Ok found)
      → AllZip (λ piece x. IsFoundIn p origins f (codes piece) x) (map (λ (z : Bor (List Stmt)). z.now) lent) found
  pieces_found E [] [] h = tt
  pieces_found E [] (x ∷ xs) h = absurd h
  pieces_found E (z ∷ zs) [] h = absurd h
  pieces_found E (z ∷ zs) (x ∷ xs) h = (h.0, pieces_found E zs xs h.1)

-- What is found of statements is combined from what is found of their parts.
use Rattle.std.proofs.Common.{◌≡◌, ◌⊎◌, inl, inr, ℕ, zero, suc, ◌<◌, ◌≤◌, List, [], ◌∷◌, ◌++◌, map, length, drop, refl}
use Rattle.std.proofs.Common.{sym, ap, ◌∙◌, subst, arith, Result, IfOk, All as AllOfList}
use Rattle.std.specs.Prelude.{Option, None, slice_index_or, ◌-◌, Bool, true, false, not, nat_eq, ◌&&◌, if◌then◌else◌}
use Rattle.sections.proofs.Numbered.{left_is_there, right_is_there, piece_is_there}
use Rattle.race_checker.proofs.Calming.{and_false_left, and_false_right}
use Rattle.std.specs.List.{filter}
use Rattle.rayon.proofs.ListFacts.{IfOk-then}
use Rattle.sections.specs.Member.{Member, first, next}
use Rattle.sections.specs.Origins.{Origin}
use Rattle.types.specs.declared.code.Stmt.{Stmt}
use Rattle.types.specs.Code.{Number, Truth, Code, Do, If, While, Split, Parts, Begun, Call, Async, Finish, Rescue, Codes, End}
use Rattle.types.specs.Code.{Then}
use Rattle.types.specs.Code.{Primitive, Procedure, Program}
use Rattle.types.specs.Translation.{code, codes}
use Rattle.effects.specs.Accesses.{Access, own_accesses}
use Rattle.effects.specs.Effects.{accesses, past_parts, past_split, renamed, AllOf, All, PendingOf, Pending}
use Rattle.effects.specs.Firsts.{AreFirsts, kept_in}
use Rattle.effects.specs.Rows.{AllInside, LeftBy}
use Rattle.types.specs.Run.{procedure_of}
use Rattle.effects.specs.Sound.{IsSound}
use Rattle.effects.specs.Translation.{access}
use Rattle.effects.specs.declared.access.Access.{Access as rAccess}
use Rattle.effects.specs.declared.firsts.Firsts.{Firsts}
use Rattle.effects.proofs.AccessesInScope.{allowed, allowed_of, pending_of_all, pending_all}
use Rattle.effects.proofs.DoingLemmas.{all_in_callee}
use Rattle.effects.proofs.FirstLabels.{firsts_of_none, firsts_same, firsts_of_firsts, firsts_both, firsts_renamed, as_early_itself}
use Rattle.effects.proofs.OwnAllowed.{own_allowed}
use Rattle.effects.proofs.Statements.{codes_before}
use Rattle.effects.proofs.LeastRows.{all_rows, pending_rows, all_lists, pending_lists}
use Rattle.parallel_relation.specs.Together.{Block, OfTurns, Together}
use Rattle.race_checker.specs.Found.{Stands, StandsOf, TogetherInside, TogetherInTurn, IsFound, IsFoundIn, IsFoundInside}
use Rattle.race_checker.specs.Found.{IsFoundOf, crossing, IsBoth, IsInFront, IsRenamed, IsWithOwn, IsInTurn, IsInTurns, in_piece, elsewhere}
use Rattle.race_checker.specs.Races.{Race, Clashes, LeastOf}
use Rattle.race_checker.specs.Search.{each_with, lesser_of}
use Rattle.race_checker.specs.Translation.{found as race_found}
use Rattle.race_checker.specs.declared.found.Found.{Found}
use Rattle.race_checker.proofs.LeastRaces.{least_same, least_of_both, least_among, least_of_firsts}

from_not : (b : Bool) → not b ≡ true → b ≡ false
from_not true e = cc
from_not false e = refl

-- Sections in range

kept_at : (xs : List rAccess) (k : ℕ) (d : rAccess) → k < length xs → Member (access (slice_index_or xs k d)) (map access xs)
kept_at [] k d h = absurd (omega arith)
kept_at (x ∷ xs) zero d h = first
kept_at (x ∷ xs) (suc k) d h = next (kept_at xs k d (omega arith))

pub in_range : (those : Access → Type 0) (f : Firsts) (n : ℕ) → AreFirsts those (kept_in f)
    → ((x : Access) → those x → x.section < n) → AllOfList (λ (x : rAccess). x.section.number < n) f.items.items
in_range those f n h below k d lt = below (access (slice_index_or f.items.items k d)) (h.among _ (kept_at f.items.items k d lt))

-- the same for the sections of the same procedure
pub in_these : {g h : Procedure} (xs : List rAccess) → g ≡ h
    → AllOfList (λ (x : rAccess). x.section.number < length h.sections) xs
    → AllOfList (λ (x : rAccess). x.section.number < length g.sections) xs
in_these xs same =
    subst (λ (k : Procedure). AllOfList (λ (x : rAccess). x.section.number < length k.sections) xs) (sym same)

module _ (p : Program) (sound : IsSound p) (origins : List Origin) where
  pub below_all : (b : Codes) → Stands p origins b → (x : Access) → All p accesses b x → x.section < length origins
  below_all b st x h =
      st.around.below x.section
      (allowed p sound h st.around.procedure st.around.scope st.around.numbered st.follows).in_scope

  pub below_of : (l : ℕ) (s : Code) → StandsOf p origins l s → (x : Access) → AllOf p accesses l s x → x.section < length origins
  below_of l s st x h =
      st.around.below x.section
      (allowed_of p sound h st.around.procedure st.around.scope st.around.numbered
      (own_allowed p st.around.procedure st.around.scope l s st.follows) st.follows).in_scope

  pub below_pending : (l : ℕ) (s : Code) → StandsOf p origins l s → (x : Access) → PendingOf p accesses s x
      → x.section < length origins
  below_pending l s st x h = below_of l s st x (pending_of_all p h)

-- Statements in a list, and blocks in a statement

module _ (p : Program) (origins : List Origin) where
  stands_here : (l : ℕ) (s : Code) (b : Codes) → Stands p origins (Then l s b) → StandsOf p origins l s
  stands_here l s b st = record { around = st.around; follows = st.follows.0 }

  stands_later : (l : ℕ) (s : Code) (b : Codes) → Stands p origins (Then l s b) → Stands p origins b
  stands_later l s b st = record { around = st.around; follows = st.follows.1 }

  pub stands_behind : (ss : List Stmt) (k : ℕ) → Stands p origins (codes ss) → Stands p origins (codes (drop k ss))
  stands_behind ss zero st = st
  stands_behind [] (suc k) st = st
  stands_behind (s ∷ ss) (suc k) st = stands_behind ss k (stands_later s.label (code s.kind) (codes ss) st)

  pub stands_at : (ss : List Stmt) (k : ℕ) (s : Stmt) → 0 < k → k ≤ length ss → s ≡ slice_index_or ss (k - 1) s
      → Stands p origins (codes ss) → StandsOf p origins s.label (code s.kind)
  stands_at ss k s some within is st =
      stands_here s.label (code s.kind) (codes (drop k ss))
      (subst (Stands p origins) (codes_before ss k s some within is) (stands_behind ss (k - 1) st))

  module _ (l : ℕ) (k : Code) (st : StandsOf p origins l k) where
    at_kind : (s : Code) → k ≡ s → StandsOf p origins l s
    at_kind s e = subst (StandsOf p origins l) e st

    pub stands_if_body : (t : Truth) (b c : Codes) → k ≡ If t b c → Stands p origins b
    stands_if_body t b c e = let s = at_kind (If t b c) e in record { around = s.around; follows = s.follows.1 }

    pub stands_if_other : (t : Truth) (b c : Codes) → k ≡ If t b c → Stands p origins c
    stands_if_other t b c e = let s = at_kind (If t b c) e in record { around = s.around; follows = s.follows.2 }

    pub stands_while : (t : Truth) (b : Codes) → k ≡ While t b → Stands p origins b
    stands_while t b e = let s = at_kind (While t b) e in record { around = s.around; follows = s.follows.1 }

    pub stands_async : (b : Codes) → k ≡ Async b → Stands p origins b
    stands_async b e = let s = at_kind (Async b) e in record { around = s.around; follows = s.follows }

    pub stands_finish : (b : Codes) → k ≡ Finish b → Stands p origins b
    stands_finish b e = let s = at_kind (Finish b) e in record { around = s.around; follows = s.follows }

    pub stands_rescued : (b : Codes) (n : ℕ) (c : Codes) → k ≡ Rescue b n c → Stands p origins b
    stands_rescued b n c e = let s = at_kind (Rescue b n c) e in record { around = s.around; follows = s.follows.0 }

    pub stands_handler : (b : Codes) (n : ℕ) (c : Codes) → k ≡ Rescue b n c → Stands p origins c
    stands_handler b n c e = let s = at_kind (Rescue b n c) e in record { around = s.around; follows = s.follows.2 }

    pub stands_parts : (s : ℕ) (e : Number) (q i : ℕ) (b : Codes) → k ≡ Parts s e q i b → Stands p origins b
    stands_parts s e q i b is = record {
      around = record {
        procedure = g.around.procedure;
        scope = q ∷ g.around.scope;
        same = g.around.same;
        numbered = g.around.numbered;
        below = below;
      };
      follows = g.follows.2;
    }
      where
        g : StandsOf p origins l (Parts s e q i b)
        g = at_kind (Parts s e q i b) is

        below : (z : ℕ) → Member z (q ∷ g.around.scope) → z < length origins
        below z first = subst (λ n. q < n) (ap length g.around.same) (piece_is_there g.around.procedure.sections q s g.follows.0.piece)
        below z (next m) = g.around.below z m

    pub stands_split : (s : ℕ) (e : Number) (x y : ℕ) (b : Codes) → k ≡ Split s e x y b → Stands p origins b
    stands_split s e x y b is = record {
      around = record {
        procedure = g.around.procedure;
        scope = x ∷ y ∷ g.around.scope;
        same = g.around.same;
        numbered = g.around.numbered;
        below = below;
      };
      follows = g.follows.2;
    }
      where
        g : StandsOf p origins l (Split s e x y b)
        g = at_kind (Split s e x y b) is

        long : length g.around.procedure.sections ≡ length origins
        long = ap length g.around.same

        below : (z : ℕ) → Member z (x ∷ y ∷ g.around.scope) → z < length origins
        below z first = subst (λ n. x < n) long (left_is_there g.around.procedure.sections x s g.follows.0.left)
        below z (next first) = subst (λ n. y < n) long (right_is_there g.around.procedure.sections y s g.follows.0.right)
        below z (next (next m)) = g.around.below z m

-- The first accesses to some sections

module _ (test : Access → Bool) where
  in_filter : {x : Access} {xs : List Access} → Member x xs → test x ≡ true → Member x (filter test xs)
  in_filter {x} (first {xs = xs}) e = subst (λ b. Member x (if b then x ∷ filter test xs else filter test xs)) (sym e) first
  in_filter {x} (next {y = y} {xs = xs} m) e = by (test y) (in_filter m e)
    where
      by : (b : Bool) → Member x (filter test xs) → Member x (if b then y ∷ filter test xs else filter test xs)
      by true k = next k
      by false k = k

  from_filter : {x : Access} (xs : List Access) → Member x (filter test xs) → Member x xs × (test x ≡ true)
  from_filter [] m = elim m [ ]
  from_filter {x} (y ∷ xs) m = by (test y) refl x (λ k. from_filter xs k) m
    where
      by : (b : Bool) → test y ≡ b → (z : Access) → (Member z (filter test xs) → Member z xs × (test z ≡ true))
          → Member z (if b then y ∷ filter test xs else filter test xs) → Member z (y ∷ xs) × (test z ≡ true)
      by true e z back first = (first, e)
      by true e z back (next k) = let r = back k in (next r.0, r.1)
      by false e z back k = let r = back k in (next r.0, r.1)

  firsts_filtered : ((x y : Access) → x.section ≡ y.section → test x ≡ test y) → (those : Access → Type 0) (xs : List Access)
      → AreFirsts those xs → AreFirsts (λ x. those x × (test x ≡ true)) (filter test xs)
  firsts_filtered same those xs h = record {
    among = λ x m. (let r = from_filter xs m in (h.among x r.0, r.1));
    first = λ x k. (let e = h.first x k.0 in record {
      item = e.item;
      stands = in_filter e.stands (same e.item x e.section ∙ k.1);
      section = e.section;
      write = e.write;
      label = e.label;
    });
  }

-- Pairs

module _ (origins : List Origin) (f : ℕ) (T U : Access → Access → Type 0) where
  clashes_map : (r : Race) → ((x y : Access) → T x y → U x y) → Clashes origins f T r → Clashes origins f U r
  clashes_map r go c = record {
    procedure = c.procedure;
    pair = elim c.pair [ inl a ↦ inl (go r.first r.second a) | inr b ↦ inr (go r.second r.first b) ];
    clash = c.clash;
    order = c.order;
  }

  clashes_cases : (r : Race) → Clashes origins f (λ x y. T x y ⊎ U x y) r → Clashes origins f T r ⊎ Clashes origins f U r
  clashes_cases r c = by c.pair
    where
      by : (T r.first r.second ⊎ U r.first r.second) ⊎ (T r.second r.first ⊎ U r.second r.first)
          → Clashes origins f T r ⊎ Clashes origins f U r
      by (inl (inl a)) = inl (record { procedure = c.procedure; pair = inl a; clash = c.clash; order = c.order })
      by (inl (inr a)) = inr (record { procedure = c.procedure; pair = inl a; clash = c.clash; order = c.order })
      by (inr (inl a)) = inl (record { procedure = c.procedure; pair = inr a; clash = c.clash; order = c.order })
      by (inr (inr a)) = inr (record { procedure = c.procedure; pair = inr a; clash = c.clash; order = c.order })

pub least_map : (origins : List Origin) (f : ℕ) (T U : Access → Access → Type 0) (r : Option Race)
    → ((x y : Access) → T x y → U x y) → ((x y : Access) → U x y → T x y)
    → LeastOf (Clashes origins f T) r → LeastOf (Clashes origins f U) r
least_map origins f T U r out back h =
    least_same (Clashes origins f T) (Clashes origins f U) r (λ x c. clashes_map origins f T U x out c)
    (λ x c. clashes_map origins f U T x back c) h

pub least_pairs : (origins : List Origin) (f : ℕ) (T U : Access → Access → Type 0) (r s : Option Race)
    → LeastOf (Clashes origins f T) r → LeastOf (Clashes origins f U) s
    → LeastOf (Clashes origins f (λ x y. T x y ⊎ U x y)) (lesser_of r s)
least_pairs origins f T U r s h g =
    least_same (λ x. Clashes origins f T x ⊎ Clashes origins f U x) (Clashes origins f (λ x y. T x y ⊎ U x y)) (lesser_of r s)
    (λ x c. elim c [
      | inl a ↦ clashes_map origins f T (λ x y. T x y ⊎ U x y) x (λ x y t. inl t) a
      | inr b ↦ clashes_map origins f U (λ x y. T x y ⊎ U x y) x (λ x y t. inr t) b
    ])
    (λ x c. clashes_cases origins f T U x c)
    (least_of_both (Clashes origins f T) (Clashes origins f U) r s h g)

pub least_none : (origins : List Origin) (f : ℕ) (T : Access → Access → Type 0) (r : Option Race) → r ≡ None
    → ((x y : Access) → T x y → ⊥) → LeastOf (Clashes origins f T) r
least_none origins f T r e never =
    subst (LeastOf (Clashes origins f T)) (sym e)
    (λ x c. elim c.pair [ inl a ↦ never x.first x.second a | inr b ↦ never x.second x.first b ])

pub crossing_least : (origins : List Origin) (f : ℕ) (A B : Access → Type 0) (xs ys : List Access) → AreFirsts A xs → AreFirsts B ys
    → LeastOf (Clashes origins f (λ x y. A x × B y)) (crossing origins f xs ys)
crossing_least origins f A B xs ys firsts others =
    least_of_firsts origins f A B xs ys firsts others (crossing origins f xs ys)
    (least_among origins f (each_with xs ys) (crossing origins f xs ys) refl)

-- Lists of statements

module _ (p : Program) where
  in_turn_out : (l : ℕ) (s : Code) (b : Codes) (x y : Access) → TogetherInTurn p l s x y → Together p accesses (Then l s b) x y
  in_turn_out l (Do s) b x y h = absurd h
  in_turn_out l (If t c d) b x y h = absurd h
  in_turn_out l (While t c) b x y h = Together.turns h.0 h.1
  in_turn_out l (Split s e a z c) b x y h = absurd h
  in_turn_out l (Parts s e q i c) b x y h = Together.pieces h
  in_turn_out l (Begun s n k q i c) b x y h = absurd h
  in_turn_out l (Call g es ss) b x y h = absurd h
  in_turn_out l (Async c) b x y h = absurd h
  in_turn_out l (Finish c) b x y h = absurd h
  in_turn_out l (Rescue c n d) b x y h = absurd h

  inside_out : (l : ℕ) (s : Code) (b : Codes) (x y : Access) → TogetherInside p s x y → Together p accesses (Then l s b) x y
  inside_out l (Do s) b x y h = absurd h
  inside_out l (If t c d) b x y h = elim h [ inl k ↦ Together.inside Block.if_body k | inr k ↦ Together.inside Block.if_other k ]
  inside_out l (While t c) b x y h = Together.inside Block.while h
  inside_out l (Split s e a z c) b x y h = Together.inside Block.split h
  inside_out l (Parts s e q i c) b x y h = Together.inside Block.parts h
  inside_out l (Begun s n k q i c) b x y h = absurd h
  inside_out l (Call g es ss) b x y h = absurd h
  inside_out l (Async c) b x y h = Together.inside Block.async h
  inside_out l (Finish c) b x y h = Together.inside Block.finish h
  inside_out l (Rescue c n d) b x y h = elim h [ inl k ↦ Together.inside Block.rescued k | inr k ↦ Together.inside Block.handler k ]

  inside_in : (s : Code) (c : Codes) (x y : Access) → Block s c → Together p accesses c x y → TogetherInside p s x y
  inside_in s c x y Block.if_body h = inl h
  inside_in s c x y Block.if_other h = inr h
  inside_in s c x y Block.while h = h
  inside_in s c x y Block.split h = h
  inside_in s c x y Block.parts h = h
  inside_in s c x y Block.async h = h
  inside_in s c x y Block.finish h = h
  inside_in s c x y Block.rescued h = inl h
  inside_in s c x y Block.handler h = inr h

  -- the pairs of a list with a statement in front
  abbrev pub Fronted : (l : ℕ) → Code → Codes → Access → Access → Type 0
  Fronted l s b x y =
      (PendingOf p accesses s x × All p accesses b y) ⊎
      ((TogetherInTurn p l s x y ⊎ TogetherInside p s x y) ⊎ Together p accesses b x y)

  pub fronted_out : (l : ℕ) (s : Code) (b : Codes) (x y : Access) → Fronted l s b x y → Together p accesses (Then l s b) x y
  fronted_out l s b x y (inl h) = Together.follows h.0 h.1
  fronted_out l s b x y (inr (inl (inl h))) = in_turn_out l s b x y h
  fronted_out l s b x y (inr (inl (inr h))) = inside_out l s b x y h
  fronted_out l s b x y (inr (inr h)) = Together.later h

  pub fronted_in : (l : ℕ) (s : Code) (b : Codes) (x y : Access) → Together p accesses (Then l s b) x y → Fronted l s b x y
  fronted_in l s b x y (Together.follows h k) = inl (h, k)
  fronted_in l s b x y (Together.turns h k) = inr (inl (inl (h, k)))
  fronted_in l s b x y (Together.pieces h) = inr (inl (inl h))
  fronted_in l s b x y (Together.inside k h) = inr (inl (inr (inside_in s _ x y k h)))
  fronted_in l s b x y (Together.later h) = inr (inr h)

  pub none_all : (x : Access) → All p accesses End x → ⊥
  none_all x h = elim h [ ]

  pub none_pending : (x : Access) → Pending p accesses End x → ⊥
  none_pending x h = elim h [ ]

  pub none_together : (x y : Access) → Together p accesses End x y → ⊥
  none_together x y h = elim h [ ]

  module _ (origins : List Origin) (f : ℕ) where
    -- one more statement in front
    pub found_in_front : (l : ℕ) (s : Code) (b : Codes) (here rest front : Found) → IsFoundOf p origins f l s here
        → IsFoundIn p origins f b rest → IsInFront origins f here rest front → IsFoundIn p origins f (Then l s b) front
    found_in_front l s b here rest front h g e = record {
      all_firsts = firsts_same (λ x. AllOf p accesses l s x ⊎ All p accesses b x) (All p accesses (Then l s b)) (kept_in front.all)
          (λ x. (all_lists p accesses l s b x).1) (λ x. (all_lists p accesses l s b x).0)
          (firsts_of_firsts (λ x. AllOf p accesses l s x ⊎ All p accesses b x) (kept_in here.all ++ kept_in rest.all) (kept_in front.all)
          (firsts_both (AllOf p accesses l s) (All p accesses b) (kept_in here.all) (kept_in rest.all) h.all_firsts g.all_firsts)
          e.all_in_front);
      pending_firsts = firsts_same (λ x. PendingOf p accesses s x ⊎ Pending p accesses b x) (Pending p accesses (Then l s b)) (kept_in front.pending)
          (λ x. (pending_lists p accesses l s b x).1) (λ x. (pending_lists p accesses l s b x).0)
          (firsts_of_firsts (λ x. PendingOf p accesses s x ⊎ Pending p accesses b x) (kept_in here.pending ++ kept_in rest.pending) (kept_in front.pending)
          (firsts_both (PendingOf p accesses s) (Pending p accesses b) (kept_in here.pending) (kept_in rest.pending) h.pending_firsts g.pending_firsts)
          e.pending_in_front);
      least_race = subst (LeastOf (Clashes origins f (Together p accesses (Then l s b)))) (sym e.race_in_front)
          (least_map origins f (Fronted l s b) (Together p accesses (Then l s b)) _ (λ x y. fronted_out l s b x y)
          (λ x y. fronted_in l s b x y)
          (least_pairs origins f (λ x y. PendingOf p accesses s x × All p accesses b y)
          (λ x y. (TogetherInTurn p l s x y ⊎ TogetherInside p s x y) ⊎ Together p accesses b x y)
          (crossing origins f (kept_in here.pending) (kept_in rest.all)) (lesser_of (race_found here.race) (race_found rest.race))
          (crossing_least origins f (PendingOf p accesses s) (All p accesses b) (kept_in here.pending) (kept_in rest.all) h.pending_firsts g.all_firsts)
          (least_pairs origins f (λ x y. TogetherInTurn p l s x y ⊎ TogetherInside p s x y) (Together p accesses b)
          (race_found here.race) (race_found rest.race) h.least_race g.least_race)));
    }

    -- the result for no statements
    pub found_in_none : (found : Found) → kept_in found.all ≡ [] → kept_in found.pending ≡ [] → race_found found.race ≡ None
        → IsFoundIn p origins f End found
    found_in_none found a b c = record {
      all_firsts = firsts_of_none (All p accesses End) (kept_in found.all) a none_all;
      pending_firsts = firsts_of_none (Pending p accesses End) (kept_in found.pending) b none_pending;
      least_race = least_none origins f (Together p accesses End) (race_found found.race) c none_together;
    }

    -- the result if there are only own accesses
    pub found_inside_nothing : (s : Primitive) (found : Found) → kept_in found.all ≡ [] → kept_in found.pending ≡ []
        → race_found found.race ≡ None → IsFoundInside p origins f (Do s) found
    found_inside_nothing s found a b c = record {
      all_firsts = firsts_of_none (λ x. ⊥) (kept_in found.all) a (λ x h. h);
      pending_firsts = firsts_of_none (λ x. ⊥) (kept_in found.pending) b (λ x h. h);
      least_race = least_none origins f (λ x y. ⊥) (race_found found.race) c (λ x y h. h);
    }

    -- the result for two blocks
    pub found_inside_if : (t : Truth) (b c : Codes) (one other both : Found) → IsFoundIn p origins f b one → IsFoundIn p origins f c other
        → IsBoth one other both → IsFoundInside p origins f (If t b c) both
    found_inside_if t b c one other both h g e = record {
      all_firsts = firsts_same (λ x. All p accesses c x ⊎ All p accesses b x) (λ x. All p accesses b x ⊎ All p accesses c x) (kept_in both.all)
          (λ x k. elim k [ inl a ↦ inr a | inr a ↦ inl a ]) (λ x k. elim k [ inl a ↦ inr a | inr a ↦ inl a ])
          (firsts_of_firsts (λ x. All p accesses c x ⊎ All p accesses b x) (kept_in other.all ++ kept_in one.all) (kept_in both.all)
          (firsts_both (All p accesses c) (All p accesses b) (kept_in other.all) (kept_in one.all) g.all_firsts h.all_firsts) e.all_of_both);
      pending_firsts = firsts_same (λ x. Pending p accesses c x ⊎ Pending p accesses b x) (λ x. Pending p accesses b x ⊎ Pending p accesses c x)
          (kept_in both.pending)
          (λ x k. elim k [ inl a ↦ inr a | inr a ↦ inl a ]) (λ x k. elim k [ inl a ↦ inr a | inr a ↦ inl a ])
          (firsts_of_firsts (λ x. Pending p accesses c x ⊎ Pending p accesses b x) (kept_in other.pending ++ kept_in one.pending) (kept_in both.pending)
          (firsts_both (Pending p accesses c) (Pending p accesses b) (kept_in other.pending) (kept_in one.pending) g.pending_firsts h.pending_firsts)
          e.pending_of_both);
      least_race = subst (LeastOf (Clashes origins f (λ x y. Together p accesses b x y ⊎ Together p accesses c x y))) (sym e.race_of_both)
          (least_pairs origins f (Together p accesses b) (Together p accesses c) (race_found one.race) (race_found other.race) h.least_race g.least_race);
    }

    -- the result for a block in other names
    pub found_inside_split : (s : ℕ) (e : Number) (l r : ℕ) (b : Codes) (inside outside : Found) → IsFoundIn p origins f b inside
        → IsRenamed (past_split s l r) inside outside → IsFoundInside p origins f (Split s e l r b) outside
    found_inside_split s e l r b inside outside h k = record {
      all_firsts = firsts_of_firsts _ (map (renamed (past_split s l r)) (kept_in inside.all)) (kept_in outside.all)
          (firsts_renamed p (past_split s l r) (All p accesses b) (kept_in inside.all) h.all_firsts) k.all_renamed;
      pending_firsts = firsts_of_firsts _ (map (renamed (past_split s l r)) (kept_in inside.pending)) (kept_in outside.pending)
          (firsts_renamed p (past_split s l r) (Pending p accesses b) (kept_in inside.pending) h.pending_firsts) k.pending_renamed;
      least_race = subst (LeastOf (Clashes origins f (Together p accesses b))) (sym k.race_stays) h.least_race;
    }

    -- the pairs of two turns: both accesses aren't to the piece
    turns_out : (l q : ℕ) (b : Codes) (x y : Access)
        → ((Pending p accesses b x × (nat_eq x.section q ≡ true)) × (All p accesses b y × (not (nat_eq y.section q) ≡ true)))
        ⊎ ((Pending p accesses b x × (not (nat_eq x.section q) ≡ true)) × All p accesses b y) → OfTurns p accesses l q b x y
    turns_out l q b x y (inl h) = record {
      pending = h.0.0;
      later = inr h.1.0;
      meet = and_false_right (nat_eq x.section q) (nat_eq y.section q) (from_not (nat_eq y.section q) h.1.1);
    }
    turns_out l q b x y (inr h) = record {
      pending = h.0.0;
      later = inr h.1;
      meet = and_false_left (nat_eq x.section q) (nat_eq y.section q) (from_not (nat_eq x.section q) h.0.1);
    }

    turns_in : (l q : ℕ) (b : Codes) (x y : Access) → OfTurns p accesses l q b x y
        → ((Pending p accesses b x × (nat_eq x.section q ≡ true)) × (All p accesses b y × (not (nat_eq y.section q) ≡ true)))
        ⊎ ((Pending p accesses b x × (not (nat_eq x.section q) ≡ true)) × All p accesses b y)
    turns_in l q b x y h = by (nat_eq x.section q) refl
      where
        done : All p accesses b y
        done = elim h.later [ inl m ↦ elim m [ ] | inr a ↦ a ]

        by : (c : Bool) → nat_eq x.section q ≡ c
            → ((Pending p accesses b x × (nat_eq x.section q ≡ true)) × (All p accesses b y × (not (nat_eq y.section q) ≡ true)))
            ⊎ ((Pending p accesses b x × (not (nat_eq x.section q) ≡ true)) × All p accesses b y)
        by true e = inl ((h.pending, e), (done, ap not (ap (λ c. c && nat_eq y.section q) (sym e) ∙ h.meet)))
        by false e = inr ((h.pending, ap not e), done)

    -- the result for a turn of a `parts`, in the names of its block
    pub found_in_turns : (l q : ℕ) (b : Codes) (once turns : Found) → IsFoundIn p origins f b once → IsInTurns origins f q once turns
        → IsFound origins f (All p accesses b) (Pending p accesses b)
        (λ x y. OfTurns p accesses l q b x y ⊎ Together p accesses b x y) turns
    found_in_turns l q b once turns h e = record {
      all_firsts = subst (AreFirsts (All p accesses b)) (sym e.all_stays) h.all_firsts;
      pending_firsts = subst (AreFirsts (Pending p accesses b)) (sym e.pending_stays) h.pending_firsts;
      least_race = subst (LeastOf (Clashes origins f (λ x y. OfTurns p accesses l q b x y ⊎ Together p accesses b x y))) (sym e.race_in_turns)
          (least_pairs origins f (OfTurns p accesses l q b) (Together p accesses b) _ (race_found once.race)
          (least_map origins f _ (OfTurns p accesses l q b) _ (turns_out l q b) (turns_in l q b)
          (least_pairs origins f _ _ _ _
          (crossing_least origins f _ _ (in_piece q (kept_in once.pending)) (elsewhere q (kept_in once.all))
          (firsts_filtered (λ x. nat_eq x.section q) (λ x y e. ap (λ s. nat_eq s q) e) (Pending p accesses b) (kept_in once.pending) h.pending_firsts)
          (firsts_filtered (λ x. not (nat_eq x.section q)) (λ x y e. ap (λ s. not (nat_eq s q)) e) (All p accesses b) (kept_in once.all) h.all_firsts))
          (crossing_least origins f _ _ (elsewhere q (kept_in once.pending)) (kept_in once.all)
          (firsts_filtered (λ x. not (nat_eq x.section q)) (λ x y e. ap (λ s. not (nat_eq s q)) e) (Pending p accesses b) (kept_in once.pending) h.pending_firsts)
          h.all_firsts)))
          h.least_race);
    }

    -- a `parts`, from the result for a turn, in the names around it
    module _ (l s : ℕ) (e : Number) (q i : ℕ) (b : Codes) (turns outside whole : Found)
        (h : IsFound origins f (All p accesses b) (Pending p accesses b) (λ x y. OfTurns p accesses l q b x y ⊎ Together p accesses b x y) turns)
        (k : IsRenamed (past_parts s q) turns outside) (o : IsWithOwn (own_accesses l (Parts s e q i b)) outside whole) where
      inside_all : AreFirsts (AllInside p accesses (Parts s e q i b)) (kept_in outside.all)
      inside_all = firsts_of_firsts _ (map (renamed (past_parts s q)) (kept_in turns.all)) (kept_in outside.all)
          (firsts_renamed p (past_parts s q) (All p accesses b) (kept_in turns.all) h.all_firsts) k.all_renamed

      inside_pending : AreFirsts (LeftBy p accesses (Parts s e q i b)) (kept_in outside.pending)
      inside_pending = firsts_of_firsts _ (map (renamed (past_parts s q)) (kept_in turns.pending)) (kept_in outside.pending)
          (firsts_renamed p (past_parts s q) (Pending p accesses b) (kept_in turns.pending) h.pending_firsts) k.pending_renamed

      pub found_parts : IsFoundOf p origins f l (Parts s e q i b) whole
      found_parts = record {
        all_firsts =
            firsts_same (λ x. Member x (own_accesses l (Parts s e q i b)) ⊎ AllInside p accesses (Parts s e q i b) x)
            (AllOf p accesses l (Parts s e q i b)) (kept_in whole.all)
            (λ x. (all_rows p accesses l (Parts s e q i b) x).1) (λ x. (all_rows p accesses l (Parts s e q i b) x).0)
            (firsts_of_firsts _ (own_accesses l (Parts s e q i b) ++ kept_in outside.all) (kept_in whole.all)
            (firsts_both (λ x. Member x (own_accesses l (Parts s e q i b))) (AllInside p accesses (Parts s e q i b))
            (own_accesses l (Parts s e q i b)) (kept_in outside.all)
            (record { among = λ x m. m; first = λ x m. as_early_itself x (own_accesses l (Parts s e q i b)) m }) inside_all) o.all_with_own);
        pending_firsts =
            firsts_same (LeftBy p accesses (Parts s e q i b)) (PendingOf p accesses (Parts s e q i b)) (kept_in whole.pending)
            (λ x. (pending_rows p accesses (Parts s e q i b) x).1) (λ x. (pending_rows p accesses (Parts s e q i b) x).0)
            (subst (AreFirsts (LeftBy p accesses (Parts s e q i b))) (sym o.pending_is_kept) inside_pending);
        least_race =
            subst (LeastOf (Clashes origins f (λ x y. OfTurns p accesses l q b x y ⊎ Together p accesses b x y)))
            (sym (o.race_is_kept ∙ k.race_stays)) h.least_race;
      }

    pub found_inside_async : (b : Codes) (inside outside : Found) → IsFoundIn p origins f b inside → outside.all ≡ inside.all
        → kept_in outside.pending ≡ kept_in inside.all → outside.race ≡ inside.race → IsFoundInside p origins f (Async b) outside
    found_inside_async b inside outside h all pending race = record {
      all_firsts = subst (AreFirsts (All p accesses b)) (ap kept_in (sym all)) h.all_firsts;
      pending_firsts = subst (AreFirsts (All p accesses b)) (sym pending) h.all_firsts;
      least_race = subst (LeastOf (Clashes origins f (Together p accesses b))) (ap race_found (sym race)) h.least_race;
    }

    pub found_inside_finish : (b : Codes) (inside outside : Found) → IsFoundIn p origins f b inside → outside.all ≡ inside.all
        → kept_in outside.pending ≡ [] → outside.race ≡ inside.race → IsFoundInside p origins f (Finish b) outside
    found_inside_finish b inside outside h all pending race = record {
      all_firsts = subst (AreFirsts (All p accesses b)) (ap kept_in (sym all)) h.all_firsts;
      pending_firsts = firsts_of_none (λ x. ⊥) (kept_in outside.pending) pending (λ x h. h);
      least_race = subst (LeastOf (Clashes origins f (Together p accesses b))) (ap race_found (sym race)) h.least_race;
    }

    -- a finish, whose result is `outside`, with its handler
    pub found_inside_rescue : (b : Codes) (n : ℕ) (c : Codes) (inside outside other both : Found) → IsFoundIn p origins f b inside
        → outside.all ≡ inside.all → kept_in outside.pending ≡ [] → outside.race ≡ inside.race → IsFoundIn p origins f c other
        → IsBoth outside other both → IsFoundInside p origins f (Rescue b n c) both
    found_inside_rescue b n c inside outside other both h all pending race g e = record {
      all_firsts = firsts_same (λ x. All p accesses c x ⊎ All p accesses b x) (λ x. All p accesses b x ⊎ All p accesses c x) (kept_in both.all)
          (λ x k. elim k [ inl a ↦ inr a | inr a ↦ inl a ]) (λ x k. elim k [ inl a ↦ inr a | inr a ↦ inl a ])
          (firsts_of_firsts (λ x. All p accesses c x ⊎ All p accesses b x) (kept_in other.all ++ kept_in outside.all) (kept_in both.all)
          (firsts_both (All p accesses c) (All p accesses b) (kept_in other.all) (kept_in outside.all) g.all_firsts
          (subst (AreFirsts (All p accesses b)) (ap kept_in (sym all)) h.all_firsts)) e.all_of_both);
      pending_firsts = firsts_same (λ x. Pending p accesses c x ⊎ ⊥) (Pending p accesses c) (kept_in both.pending)
          (λ x k. elim k [ inl a ↦ a | inr none ↦ absurd none ]) (λ x a. inl a)
          (firsts_of_firsts (λ x. Pending p accesses c x ⊎ ⊥) (kept_in other.pending ++ kept_in outside.pending) (kept_in both.pending)
          (firsts_both (Pending p accesses c) (λ x. ⊥) (kept_in other.pending) (kept_in outside.pending) g.pending_firsts
          (firsts_of_none (λ x. ⊥) (kept_in outside.pending) pending (λ x none. none))) e.pending_of_both);
      least_race = subst (LeastOf (Clashes origins f (λ x y. Together p accesses b x y ⊎ Together p accesses c x y))) (sym e.race_of_both)
          (least_pairs origins f (Together p accesses b) (Together p accesses c) (race_found outside.race) (race_found other.race)
          (subst (LeastOf (Clashes origins f (Together p accesses b))) (ap race_found (sym race)) h.least_race) g.least_race);
    }

    module _ (l : ℕ) (s : Code) (inside whole : Found) (h : IsFoundInside p origins f s inside) (e : IsWithOwn (own_accesses l s) inside whole) where
      all_with_own : AreFirsts (AllOf p accesses l s) (kept_in whole.all)
      all_with_own =
          firsts_same (λ x. Member x (own_accesses l s) ⊎ AllInside p accesses s x) (AllOf p accesses l s) (kept_in whole.all)
          (λ x. (all_rows p accesses l s x).1) (λ x. (all_rows p accesses l s x).0)
          (firsts_of_firsts (λ x. Member x (own_accesses l s) ⊎ AllInside p accesses s x) (own_accesses l s ++ kept_in inside.all) (kept_in whole.all)
          (firsts_both (λ x. Member x (own_accesses l s)) (AllInside p accesses s) (own_accesses l s) (kept_in inside.all)
          (record { among = λ x m. m; first = λ x m. as_early_itself x (own_accesses l s) m }) h.all_firsts) e.all_with_own)

      pending_with_own : AreFirsts (PendingOf p accesses s) (kept_in whole.pending)
      pending_with_own =
          firsts_same (LeftBy p accesses s) (PendingOf p accesses s) (kept_in whole.pending)
          (λ x. (pending_rows p accesses s x).1) (λ x. (pending_rows p accesses s x).0)
          (subst (AreFirsts (LeftBy p accesses s)) (sym e.pending_is_kept) h.pending_firsts)

      race_with_own : LeastOf (Clashes origins f (TogetherInside p s)) (race_found whole.race)
      race_with_own = subst (LeastOf (Clashes origins f (TogetherInside p s))) (sym e.race_is_kept) h.least_race

      -- a statement with its own accesses
      pub found_with_own : ((x y : Access) → TogetherInTurn p l s x y → ⊥) → IsFoundOf p origins f l s whole
      found_with_own never = record {
        all_firsts = all_with_own;
        pending_firsts = pending_with_own;
        least_race = least_map origins f (TogetherInside p s) (λ x y. TogetherInTurn p l s x y ⊎ TogetherInside p s x y)
            (race_found whole.race) (λ x y t. inr t) (λ x y t. elim t [ inl a ↦ absurd (never x y a) | inr b ↦ b ]) race_with_own;
      }

    -- a statement that isn't a loop
    pub found_of_arm : (l : ℕ) (k s : Code) → k ≡ s → ((x y : Access) → TogetherInTurn p l s x y → ⊥) → (own : List Access)
        → own ≡ own_accesses l k → (inside : Found) → IsFoundInside p origins f s inside → {E : Type 0} (r : Result Found E)
        → IfOk r (IsWithOwn own inside) → IfOk r (IsFoundOf p origins f l k)
    found_of_arm l k s e never own is inside h r w =
        subst (λ (c : Code). IfOk r (IsFoundOf p origins f l c)) (sym e)
        (IfOk-then r (IsWithOwn own inside) (IsFoundOf p origins f l s) w
        (λ whole o. found_with_own l s inside whole h
        (subst (λ (xs : List Access). IsWithOwn xs inside whole) (is ∙ ap (own_accesses l) e) o) never))

    -- a loop
    pub found_of_loop : (l : ℕ) (k : Code) (t : Truth) (b : Codes) → k ≡ While t b → (own : List Access) → own ≡ own_accesses l k
        → (inside once loop : Found) → IsFoundIn p origins f b inside → IsWithOwn own inside once → IsInTurn origins f once loop
        → IsFoundOf p origins f l k loop
    found_of_loop l k t b e own is inside once loop h o turn =
        subst (λ (c : Code). IsFoundOf p origins f l c loop) (sym e) (record {
          all_firsts = subst (AreFirsts (AllOf p accesses l (While t b))) (sym turn.all_stays) all;
          pending_firsts = subst (AreFirsts (PendingOf p accesses (While t b))) (sym turn.pending_stays) pending;
          least_race = subst
              (LeastOf (Clashes origins f (λ x y. TogetherInTurn p l (While t b) x y ⊎ TogetherInside p (While t b) x y)))
              (sym turn.race_in_turn)
              (least_pairs origins f (TogetherInTurn p l (While t b)) (TogetherInside p (While t b))
              (crossing origins f (kept_in once.pending) (kept_in once.all)) (race_found once.race)
              (crossing_least origins f (PendingOf p accesses (While t b)) (AllOf p accesses l (While t b)) (kept_in once.pending)
              (kept_in once.all) pending all)
              (race_with_own l (While t b) inside once h with));
        })
      where
        with : IsWithOwn (own_accesses l (While t b)) inside once
        with = subst (λ (xs : List Access). IsWithOwn xs inside once) (is ∙ ap (own_accesses l) e) o

        all : AreFirsts (AllOf p accesses l (While t b)) (kept_in once.all)
        all = all_with_own l (While t b) inside once h with

        pending : AreFirsts (PendingOf p accesses (While t b)) (kept_in once.pending)
        pending = pending_with_own l (While t b) inside once h with

    -- what an iteration of a loop finds is in range if the loop's own result is
    pub all_of_turn : (l : ℕ) (k : Code) (t : Truth) (b : Codes) → k ≡ While t b → (own : List Access) → own ≡ own_accesses l k
        → (inside once : Found) → IsFoundIn p origins f b inside → IsWithOwn own inside once
        → AreFirsts (AllOf p accesses l k) (kept_in once.all)
    all_of_turn l k t b e own is inside once h o =
        subst (λ (c : Code). AreFirsts (AllOf p accesses l c) (kept_in once.all)) (sym e)
        (all_with_own l (While t b) inside once h
        (subst (λ (xs : List Access). IsWithOwn xs inside once) (is ∙ ap (own_accesses l) e) o))

    pub pending_of_turn : (l : ℕ) (k : Code) (t : Truth) (b : Codes) → k ≡ While t b → (own : List Access) → own ≡ own_accesses l k
        → (inside once : Found) → IsFoundIn p origins f b inside → IsWithOwn own inside once
        → AreFirsts (PendingOf p accesses k) (kept_in once.pending)
    pending_of_turn l k t b e own is inside once h o =
        subst (λ (c : Code). AreFirsts (PendingOf p accesses c) (kept_in once.pending)) (sym e)
        (pending_with_own l (While t b) inside once h
        (subst (λ (xs : List Access). IsWithOwn xs inside once) (is ∙ ap (own_accesses l) e) o))

-- Blocks as they are walked, from the end

pub none_behind : (ss : List Stmt) → codes (drop (length ss) ss) ≡ End
none_behind [] = refl
none_behind (s ∷ ss) = none_behind ss

-- Calls

pub pending_in_callee : (p : Program) (sound : IsSound p) (f n : ℕ) → n ≡ length (procedure_of p f).parameters → (x : Access)
    → Pending p accesses (procedure_of p f).body x → x.section < n
pending_in_callee p sound f n e x h = all_in_callee p sound f n e x (pending_all p h)

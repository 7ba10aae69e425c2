-- What a statement may do, and what it leaves pending: least sets of accesses, or of labels.
use Rattle.std.specs.Prelude.{ℕ, ◌≡◌, List, [], ◌∷◌, nat_eq, Bool, false, ◌||◌, ◌&&◌, if◌then◌else◌}
use Rattle.std.proofs.Common.{refl}
use Rattle.sections.specs.Member.{Member}
use Rattle.types.specs.Code.{Number, Truth, Code, If, While, Split, Parts, Call, Async, Finish, Rescue, Codes}
use Rattle.types.specs.Code.{Then, Program}
use Rattle.types.specs.Run.{procedure_of}
use Rattle.types.specs.Sound.{passed_for}
use Rattle.effects.specs.Accesses.{Access, own_accesses}

-- in the names around a split of s, both sides are s
abbrev pub past_split : (s left right : ℕ) → ℕ → ℕ
past_split s l r x = if nat_eq l x || nat_eq r x then s else x

-- in the names around a `parts` of s, its piece is s
abbrev pub past_parts : (s piece : ℕ) → ℕ → ℕ
past_parts s q = past_split s q q

-- the access in other names
abbrev pub renamed : (ℕ → ℕ) → Access → Access
renamed out x = record x { section = out x.section }

-- whether both accesses are to the piece of a `parts`, so that in two turns they share no place
abbrev pub of_pieces : (piece : ℕ) → Access → Access → Bool
of_pieces q x y = nat_eq x.section q && nat_eq y.section q

-- what is collected: the items of a statement without its blocks, and how an item is renamed
pub record Subject : Type 1 where
  pub Item : Type 0
  pub own : (label : ℕ) → Code → List Item
  pub renamed : (ℕ → ℕ) → Item → Item
  pub kept : (x : Item) → renamed (λ s. s) x ≡ x
  -- the items of a step before a turn of a `parts`, and whether two items are apart in two turns
  pub turn : (label : ℕ) → List Item
  pub apart : (piece : ℕ) → Item → Item → Bool

-- the accesses of statements; the step before a turn makes none
abbrev pub accesses : Subject
accesses = record {
  Item = Access;
  own = own_accesses;
  renamed = renamed;
  kept = λ x. refl;
  turn = λ l. [];
  apart = of_pieces;
}

-- the labels of statements: each statement has its own label, which renaming doesn't change; no
-- two turns keep labels apart
abbrev pub labels : Subject
labels = record {
  Item = ℕ;
  own = λ l s. l ∷ [];
  renamed = λ out l. l;
  kept = λ x. refl;
  turn = λ l. l ∷ [];
  apart = λ q l m. false;
}

module _ (p : Program) where
  -- a statement runs a block in its own task; section x of the block is `out x` in the names around
  -- the statement
  pub data Inner : Code → Codes → (out : ℕ → ℕ) → Type 0 where
    if_body : {t : Truth} {b c : Codes} → Inner (If t b c) b (λ x. x)
    if_other : {t : Truth} {b c : Codes} → Inner (If t b c) c (λ x. x)
    while : {t : Truth} {b : Codes} → Inner (While t b) b (λ x. x)
    split : {s : ℕ} {e : Number} {l r : ℕ} {b : Codes}
        → Inner (Split s e l r b) b (past_split s l r)
    parts : {s : ℕ} {e : Number} {q i : ℕ} {b : Codes}
        → Inner (Parts s e q i b) b (past_parts s q)
    call : {f : ℕ} {es : List Number} {ss : List ℕ}
        → Inner (Call f es ss) (procedure_of p f).body (passed_for ss)
    handler : {n : ℕ} {b c : Codes} → Inner (Rescue b n c) c (λ x. x)

module _ (p : Program) (subject : Subject) where
  mutual
    -- everything that a statement may do, with its blocks and its call
    pub data AllOf : (label : ℕ) → Code → subject.Item → Type 0 where
      own_access : {l : ℕ} {s : Code} {x : subject.Item} → Member x (subject.own l s) → AllOf l s x
      inner : {l : ℕ} {s : Code} {b : Codes} {out : ℕ → ℕ} {x y : subject.Item}
          → Inner p s b out → All b x → y ≡ subject.renamed out x → AllOf l s y
      async : {l : ℕ} {b : Codes} {x : subject.Item} → All b x → AllOf l (Async b) x
      finish : {l : ℕ} {b : Codes} {x : subject.Item} → All b x → AllOf l (Finish b) x
      rescued : {l n : ℕ} {b c : Codes} {x : subject.Item} → All b x → AllOf l (Rescue b n c) x

    -- everything that a list of statements may do
    pub data All : Codes → subject.Item → Type 0 where
      here : {l : ℕ} {s : Code} {rest : Codes} {x : subject.Item} → AllOf l s x
          → All (Then l s rest) x
      later : {l : ℕ} {s : Code} {rest : Codes} {x : subject.Item} → All rest x
          → All (Then l s rest) x

  mutual
    -- what may still be done after a statement has finished: by tasks for which no finish waits
    pub data PendingOf : Code → subject.Item → Type 0 where
      inner : {s : Code} {b : Codes} {out : ℕ → ℕ} {x y : subject.Item}
          → Inner p s b out → Pending b x → y ≡ subject.renamed out x → PendingOf s y
      async : {b : Codes} {x : subject.Item} → All b x → PendingOf (Async b) x

    -- what may still be done after a list of statements has finished
    pub data Pending : Codes → subject.Item → Type 0 where
      here : {l : ℕ} {s : Code} {rest : Codes} {x : subject.Item} → PendingOf s x
          → Pending (Then l s rest) x
      later : {l : ℕ} {s : Code} {rest : Codes} {x : subject.Item} → Pending rest x
          → Pending (Then l s rest) x

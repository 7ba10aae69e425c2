-- Lists of blocks and rows that hold the same as others.
use Rattle.std.proofs.Common.{◌≡◌, ℕ, ◌+◌, ◌-◌, ◌/◌, ◌%◌, ◌<◌, ◌≤◌, List, [], ◌∷◌, ◌++◌, length, get_or, take}
use Rattle.std.proofs.Common.{Some, None, Bool, true, false, refl, sym, ap, ◌∙◌, arith, subst}
use Rattle.std.proofs.lemmas.List.{take_more, length-append, length-take-le}
use Rattle.std.specs.Prelude.{nat_eq, nat_le, slice_get, option_and_then, if◌then◌else◌}
use Rattle.blocks.specs.Numbers.{row_from}
use Rattle.blocks.specs.Blocks.{held_at}
use Rattle.blocks.specs.Offsets.{Agree}
use Rattle.blocks.specs.declared.block.Block.{Block}
use Rattle.holdings.specs.Rows.{block_in, block_of, held_in_list, held_of}
use Rattle.holdings.specs.declared.row.BlockRow.{BlockRow}
use Rattle.holdings.proofs.WritingLemmas.{held_of-if, item_at, slice_get-push}

-- ---- one item more of a list that is copied from the front

pub copied-more : {A : Type 0} (Alike : List A → List A → Type 0) (xs : List A) (x : A) {ys zs new : List A}
    {n : ℕ} {y : A} → zs ≡ ys → new ≡ xs ++ x ∷ [] → length xs ≡ n → n < length zs → y ≡ get_or zs n y
    → (length xs ≡ length (take n ys) → Alike (xs ++ x ∷ []) (take n ys ++ y ∷ []))
    → Alike new (take (n + 1) ys) × (length new ≡ n + 1)
copied-more {A} Alike xs x {ys} {zs} {new} {n} {y} same pushed long lt is alike =
    let at = item_at same lt is in
    let more : take (n + 1) ys ≡ take n ys ++ y ∷ [] =
    take_more ys n y at.0 ∙ ap (λ z. take n ys ++ z ∷ []) (sym at.1) in
    let within : n ≤ length ys = omega (arith, at.0) in
    let both = subst (Alike (xs ++ x ∷ [])) (sym more) (alike (long ∙ sym (length-take-le n ys within))) in (
      subst (λ (l : List A). Alike l (take (n + 1) ys)) (sym pushed) both,
      ap length pushed ∙ length-append xs (x ∷ []) ∙ ap (λ m. m + 1) long,
    )

-- ---- blocks

abbrev pub AreAlike : (xs ys : List Block) → Type 0
AreAlike xs ys = (i k : ℕ) → held_of (slice_get xs i) k ≡ held_of (slice_get ys i) k

pub held-push : (xs : List Block) (x : Block) (i k : ℕ)
    → held_of (slice_get (xs ++ x ∷ []) i) k ≡ (if nat_eq i (length xs) then held_at x k else held_of (slice_get xs i) k)
held-push xs x i k = ap (λ o. held_of o k) (slice_get-push xs x i) ∙ held_of-if (nat_eq i (length xs)) x (slice_get xs i) k

pub alike-push : (xs ys : List Block) (x y : Block) → AreAlike xs ys → length xs ≡ length ys
    → Agree (held_at x) (held_at y) → AreAlike (xs ++ x ∷ []) (ys ++ y ∷ [])
alike-push xs ys x y same long here = λ i k.
    held-push xs x i k ∙ by_eq i k (nat_eq i (length xs))
    ∙ ap (λ n. if nat_eq i n then held_at y k else held_of (slice_get ys i) k) long ∙ sym (held-push ys y i k)
  where
    by_eq : (i k : ℕ) (t : Bool) → (if t then held_at x k else held_of (slice_get xs i) k) ≡ (if t then held_at y k else held_of (slice_get ys i) k)
    by_eq i k true = here k
    by_eq i k false = same i k

pub alike-row : (first : ℕ) (xs ys : List Block) → AreAlike xs ys → (b k : ℕ)
    → held_of (row_from first xs b) k ≡ held_of (row_from first ys b) k
alike-row first xs ys same b k = by_low (nat_le first b)
  where
    by_low : (t : Bool) → held_of (if t then slice_get xs (b - first) else None) k ≡ held_of (if t then slice_get ys (b - first) else None) k
    by_low true = same (b - first) k
    by_low false = refl

-- ---- rows

abbrev pub HoldAlike : (rs ss : List BlockRow) → Type 0
HoldAlike rs ss = (i b k : ℕ) → held_of (block_of rs i b) k ≡ held_of (block_of ss i b) k

pub block_of-push : (rs : List BlockRow) (r : BlockRow) (i b : ℕ)
    → block_of (rs ++ r ∷ []) i b ≡ (if nat_eq i (length rs) then block_in r b else block_of rs i b)
block_of-push rs r i b = ap (option_and_then (λ r. block_in r b)) (slice_get-push rs r i) ∙ pick (nat_eq i (length rs))
  where
    pick : (t : Bool) → option_and_then (λ r. block_in r b) (if t then Some r else slice_get rs i) ≡ (if t then block_in r b else block_of rs i b)
    pick true = refl
    pick false = refl

pub rows-push : (rs ss : List BlockRow) (r s : BlockRow) → HoldAlike rs ss → length rs ≡ length ss
    → ((b k : ℕ) → held_of (block_in r b) k ≡ held_of (block_in s b) k) → HoldAlike (rs ++ r ∷ []) (ss ++ s ∷ [])
rows-push rs ss r s same long here = λ i b k.
    ap (λ o. held_of o k) (block_of-push rs r i b) ∙ by_eq i b k (nat_eq i (length rs))
    ∙ ap (λ n. held_of (if nat_eq i n then block_in s b else block_of ss i b) k) long
    ∙ sym (ap (λ o. held_of o k) (block_of-push ss s i b))
  where
    by_eq : (i b k : ℕ) (t : Bool) → held_of (if t then block_in r b else block_of rs i b) k ≡ held_of (if t then block_in s b else block_of ss i b) k
    by_eq i b k true = here b k
    by_eq i b k false = same i b k

pub alike-held : (rs ss : List BlockRow) → HoldAlike rs ss → held_in_list rs ≡ held_in_list ss
alike-held rs ss same = λ t q. same q.array (q.index / 256) (q.index % 256) t

-- What is cut out of blocks, and moves.
use Rattle.std.proofs.Common.{◌≡◌, ℕ, ◌+◌, ◌-◌, ◌*◌, ◌/◌, ◌%◌, ◌<◌, ◌≤◌, List, length, IsSome, is_some}
use Rattle.std.proofs.Common.{Option, Some, None, Bool, true, false, refl, sym, ap, ◌∙◌, arith, rules, subst, option_map}
use Rattle.std.proofs.lemmas.Bool.{and_parts, and_from, eqb-true, eq-eqb, false≢true, leb-true, ltb-true}
use Rattle.std.proofs.lemmas.Option.{same_Some}
use Rattle.std.specs.Prelude.{ℤ, ◌&&◌, nat_eq, nat_le, nat_lt, if◌then◌else◌}
use Rattle.sections.specs.Covers.{is_in}
use Rattle.sections.specs.Place.{In, Place, Window}
use Rattle.sections.proofs.Covering.{is_in-from}
use Rattle.blocks.specs.Blocks.{held_at, owned_at}
use Rattle.blocks.specs.Held.{Held, IsThere, Map, Owned, first_of, owned, owned_number, without}
use Rattle.blocks.specs.Offsets.{Agree, HasAll, HasOnly, in_range, inside, outside}
use Rattle.blocks.specs.Ready.{IsReady}
use Rattle.blocks.specs.declared.block.Block.{Block}
use Rattle.blocks.specs.declared.cut.Cut.{Cut}
use Rattle.blocks.proofs.BlockLemmas.{held_at-behind}
use Rattle.blocks.proofs.WalkLemmas.{in_range-high, in_range-low, in_range-true}
use Rattle.holdings.specs.Carvings.{CanMove, IsMovable, IsPiece, IsWhole, StandClear, moves, piece_of}
use Rattle.holdings.specs.Pieces.{taking}
use Rattle.holdings.specs.Rows.{Replaces, Widens, block_of, held_in_list, held_of, in_block}
use Rattle.holdings.proofs.WideningLemmas.{before-kept}
use Rattle.holdings.proofs.WritingLemmas.{held-widened}
use Rattle.holdings.specs.declared.carving.Carving.{Carving}
use Rattle.holdings.specs.declared.row.BlockRow.{BlockRow}
use Rattle.holdings.proofs.PresenceLemmas.{block-there, no_block-there}
use Rattle.holdings.proofs.BlockRowLemmas.{held-replaced, is_in-block, is_in-elsewhere}

-- ---- one block in the place of another

pub held-there : (rs : List BlockRow) (a b : ℕ) (r : Block) (q : Place) → in_block a b q ≡ true → block_of rs a b ≡ Some r
    → held_in_list rs q ≡ held_at r (q.index % 256)
held-there rs a b r q e is =
    let parts = and_parts (nat_eq q.array a) (nat_eq (q.index / 256) b) e in
    ap (λ i. held_of (block_of rs i (q.index / 256)) (q.index % 256)) (eqb-true q.array a parts.0)
    ∙ ap (λ j. held_of (block_of rs a j) (q.index % 256)) (eqb-true (q.index / 256) b parts.1)
    ∙ ap (λ o. held_of o (q.index % 256)) is

pub replaced-twice : (a b : ℕ) (x s : Block) (old mid new : List BlockRow) → Replaces a b x old mid → Replaces a b s mid new → Replaces a b s old new
replaced-twice a b x s old mid new out back = λ i j. back i j ∙ by_here i j (nat_eq i a && nat_eq j b) refl
  where
    by_here : (i j : ℕ) (c : Bool) → (nat_eq i a && nat_eq j b) ≡ c → (if c then Some s else block_of mid i j) ≡ (if c then Some s else block_of old i j)
    by_here i j true e = refl
    by_here i j false e = out i j ∙ ap (λ c. if c then Some x else block_of old i j) e

pub replaced-here : (a b : ℕ) (s : Block) (old new : List BlockRow) → Replaces a b s old new → block_of new a b ≡ Some s
replaced-here a b s old new rep =
    rep a b ∙ ap (λ c. if c then Some s else block_of old a b) (and_from _ _ (eq-eqb a a refl) (eq-eqb b b refl))

pub replaced-there : (a b : ℕ) (s : Block) (old new : List BlockRow) → Replaces a b s old new → (i j : ℕ)
    → (nat_eq i a && nat_eq j b) ≡ false → block_of new i j ≡ block_of old i j
replaced-there a b s old new rep i j e = rep i j ∙ ap (λ c. if c then Some s else block_of old i j) e

pub replaced-some : (a b : ℕ) (s : Block) (old new : List BlockRow) → Replaces a b s old new → (i j : ℕ)
    → IsSome (block_of old i j) → IsSome (block_of new i j)
replaced-some a b s old new rep i j some = by_here (nat_eq i a && nat_eq j b) refl
  where
    by_here : (c : Bool) → (nat_eq i a && nat_eq j b) ≡ c → IsSome (block_of new i j)
    by_here true e = ap is_some (rep i j ∙ ap (λ c. if c then Some s else block_of old i j) e)
    by_here false e = ap is_some (replaced-there a b s old new rep i j e) ∙ some

pub held-elsewhere : (a b : ℕ) (s : Block) (old new : List BlockRow) → Replaces a b s old new → (q : Place) → in_block a b q ≡ false
    → held_in_list new q ≡ held_in_list old q
held-elsewhere a b s old new rep q e =
    held-replaced a b s old new rep q ∙ ap (λ c. if c then held_at s (q.index % 256) else held_in_list old q) e

-- the new block holds the same
pub held-same : (a b : ℕ) (r s : Block) (old new : List BlockRow) → block_of old a b ≡ Some r → Replaces a b s old new
    → Agree (held_at s) (held_at r) → held_in_list new ≡ held_in_list old
held-same a b r s old new is rep same = λ t q. at_place q (in_block a b q) refl t
  where
    at_place : (q : Place) (c : Bool) → in_block a b q ≡ c → held_in_list new q ≡ held_in_list old q
    at_place q true e =
        held-there new a b s q e (replaced-here a b s old new rep) ∙ same (q.index % 256) ∙ sym (held-there old a b r q e is)
    at_place q false e = held-elsewhere a b s old new rep q e

-- the new block has lost a piece
pub held-left : (w : Window) (r s : Block) (old new : List BlockRow) → w.at % 256 + w.length ≤ 256 → block_of old w.array (w.at / 256) ≡ Some r
    → Replaces w.array (w.at / 256) s old new → Agree (held_at s) (outside (w.at % 256) (w.at % 256 + w.length) (held_at r))
    → held_in_list new ≡ without (is_in w) (held_in_list old)
held-left w r s old new fits is rep left = λ t q. at_place q (in_block w.array (w.at / 256) q) refl t
  where
    at_place : (q : Place) (c : Bool) → in_block w.array (w.at / 256) q ≡ c → held_in_list new q ≡ without (is_in w) (held_in_list old) q
    at_place q true e =
        held-there new w.array (w.at / 256) s q e (replaced-here w.array (w.at / 256) s old new rep) ∙ left (q.index % 256)
        ∙ ap (λ c. if c then None else held_at r (q.index % 256)) (sym (is_in-block w q e))
        ∙ ap (λ h. if is_in w q then None else h) (sym (held-there old w.array (w.at / 256) r q e is))
    at_place q false e =
        held-elsewhere w.array (w.at / 256) s old new rep q e
        ∙ ap (λ c. if c then None else held_in_list old q) (sym (is_in-elsewhere w q fits e))

-- others have received the piece, and they held nothing of its block before
pub held-taken : (w : Window) (r s : Block) (own old new : List BlockRow) → w.at % 256 + w.length ≤ 256 → block_of own w.array (w.at / 256) ≡ Some r
    → Replaces w.array (w.at / 256) s old new → Agree (held_at s) (inside (w.at % 256) (w.at % 256 + w.length) (held_at r))
    → ((q : Place) → in_block w.array (w.at / 256) q ≡ true → held_in_list old q ≡ None)
    → held_in_list new ≡ taking (is_in w) (held_in_list own) (held_in_list old)
held-taken w r s own old new fits is rep taken alone = λ t q. at_place q (in_block w.array (w.at / 256) q) refl t
  where
    at_place : (q : Place) (c : Bool) → in_block w.array (w.at / 256) q ≡ c
        → held_in_list new q ≡ taking (is_in w) (held_in_list own) (held_in_list old) q
    at_place q true e =
        held-there new w.array (w.at / 256) s q e (replaced-here w.array (w.at / 256) s old new rep) ∙ taken (q.index % 256)
        ∙ ap (λ c. if c then held_at r (q.index % 256) else None) (sym (is_in-block w q e))
        ∙ ap (λ h. if is_in w q then h else None) (sym (held-there own w.array (w.at / 256) r q e is))
        ∙ ap (λ (h : Option Held). if is_in w q then held_in_list own q else h) (sym (alone q e))
    at_place q false e =
        held-elsewhere w.array (w.at / 256) s old new rep q e
        ∙ ap (λ c. if c then held_in_list own q else held_in_list old q) (sym (is_in-elsewhere w q fits e))

-- ---- pieces of one block that are disjoint

-- an offset of one piece is none of the other
pub clear-offsets : (v w : Window) → v.at % 256 + v.length ≤ 256 → v.array ≡ w.array → v.at / 256 ≡ w.at / 256 → StandClear v w → (k : ℕ)
    → in_range (v.at % 256) (v.at % 256 + v.length) k ≡ true → in_range (w.at % 256) (w.at % 256 + w.length) k ≡ false
clear-offsets v w fits array same clear k here =
    let low = in_range-low (v.at % 256) (v.at % 256 + v.length) k here in
    let high = in_range-high (v.at % 256) (v.at % 256 + v.length) k here in
    let i : ℕ = 256 * (w.at / 256) + k in
    let q : Place = record { array = w.array; index = i } in
    let inside : In v q = record { array = sym array; low = omega (arith, low, same); high = omega (arith, high, same) } in
    let block : i / 256 ≡ w.at / 256 = omega (arith, high, fits) in
    let offset : i % 256 ≡ k = omega (arith, high, fits) in
    let at : in_block w.array (w.at / 256) q ≡ true = and_from _ _ (eq-eqb w.array w.array refl) (eq-eqb (i / 256) (w.at / 256) block) in
    ap (in_range (w.at % 256) (w.at % 256 + w.length)) (sym offset) ∙ sym (is_in-block w q at) ∙ clear q (is_in-from v q inside)

-- ---- what can move still can

pub can_move-kept : (own new : List BlockRow) (a b : ℕ) (r s : Block) (v : Window) (c : Cut) → block_of own a b ≡ Some r → Replaces a b s own new
    → (v.array ≡ a → v.at / 256 ≡ b → IsReady r (v.at % 256) (v.at % 256 + v.length) c → IsReady s (v.at % 256) (v.at % 256 + v.length) c)
    → CanMove own v c → CanMove new v c
can_move-kept own new a b r s v c is rep keeps can = by_here (nat_eq v.array a && nat_eq (v.at / 256) b) refl
  where
    by_here : (t : Bool) → (nat_eq v.array a && nat_eq (v.at / 256) b) ≡ t → CanMove new v c
    by_here true e =
        let parts = and_parts (nat_eq v.array a) (nat_eq (v.at / 256) b) e in
        let array : v.array ≡ a = eqb-true v.array a parts.0 in
        let block : v.at / 256 ≡ b = eqb-true (v.at / 256) b parts.1 in
        let at : (rs : List BlockRow) → block_of rs v.array (v.at / 256) ≡ block_of rs a b =
        λ rs. ap (λ i. block_of rs i (v.at / 256)) array ∙ ap (block_of rs a) block in
        let same : can.mine ≡ r = same_Some _ _ (sym can.there ∙ at own ∙ is) in
        record {
          mine = s;
          there = at new ∙ replaced-here a b s own new rep;
          ready = keeps array block (subst (λ z. IsReady z (v.at % 256) (v.at % 256 + v.length) c) same can.ready);
        }
    by_here false e =
        record { mine = can.mine; there = replaced-there a b s own new rep v.array (v.at / 256) e ∙ can.there; ready = can.ready }

-- a block that moves unchanged holds nothing else
pub whole-only : (own others : List BlockRow) (c : Carving) (m : IsMovable own others c) → moves c ≡ true
    → HasOnly ((piece_of c).at % 256) ((piece_of c).at % 256 + (piece_of c).length) (held_at m.ready.mine)
whole-only own others c m moved = m.ready.ready.whole (eqb-true c.cut.copied 0 moved)

-- nothing else of that block can move
pub whole-alone : (own others : List BlockRow) (c : Carving) (m : IsMovable own others c) → moves c ≡ true → (v : Window) → IsPiece v
    → (k : ℕ) → v.array ≡ (piece_of c).array → v.at / 256 ≡ (piece_of c).at / 256 → in_range (v.at % 256) (v.at % 256 + v.length) k ≡ true
    → StandClear v (piece_of c) → (owned_at m.ready.mine k ≡ None → ⊥) → ⊥
whole-alone own others c m moved v piece k array block here clear owned =
    owned (ap owned_number (whole-only own others c m moved k
    (clear-offsets v (piece_of c) piece.block array block clear k here)))

pub clear-sym : (v w : Window) → StandClear v w → StandClear w v
clear-sym v w clear q here = by_test (is_in v q) refl
  where
    by_test : (t : Bool) → is_in v q ≡ t → is_in v q ≡ false
    by_test false e = e
    by_test true e = absurd (false≢true (sym (clear q e) ∙ here))

-- two blocks of one number are one
same_block : (own : List BlockRow) (v w : Window) (r s : Block) → v.array ≡ w.array → v.at / 256 ≡ w.at / 256
    → block_of own v.array (v.at / 256) ≡ Some r → block_of own w.array (w.at / 256) ≡ Some s → r ≡ s
same_block own v w r s array block is there =
    same_Some _ _ (sym is ∙ ap (λ i. block_of own i (v.at / 256)) array ∙ ap (block_of own w.array) block ∙ there)

-- a place of the blocks of two pieces
both_blocks : (v w : Window) (q : Place) → in_block v.array (v.at / 256) q ≡ true → in_block w.array (w.at / 256) q ≡ true
    → (v.array ≡ w.array) × (v.at / 256 ≡ w.at / 256)
both_blocks v w q e f =
    let p = and_parts (nat_eq q.array v.array) (nat_eq (q.index / 256) (v.at / 256)) e in
    let o = and_parts (nat_eq q.array w.array) (nat_eq (q.index / 256) (w.at / 256)) f in (
      sym (eqb-true _ _ p.0) ∙ eqb-true _ _ o.0,
      sym (eqb-true _ _ p.1) ∙ eqb-true _ _ o.1,
    )

-- if two pieces of one block are disjoint, and one is owned, the other doesn't move the block unchanged
whole-clash : (own others : List BlockRow) (c : Carving) (m : IsMovable own others c) → moves c ≡ true → (v : Window) → IsPiece v → (r : Block)
    → block_of own v.array (v.at / 256) ≡ Some r → v.array ≡ (piece_of c).array → v.at / 256 ≡ (piece_of c).at / 256
    → StandClear v (piece_of c) → HasAll (v.at % 256) (v.at % 256 + v.length) (owned_at r) → ⊥
whole-clash own others c m moved v piece r is array block clear owned =
    let k = v.at % 256 in
    let here : in_range k (k + v.length) k ≡ true = in_range-true k (k + v.length) k (omega arith) (omega (arith, piece.some)) in
    let same = same_block own v (piece_of c) r m.ready.mine array block is m.ready.there in
    whole-alone own others c m moved v piece k array block here clear
    (λ none. owned k here (ap (λ z. owned_at z k) same ∙ none))

-- ---- others still can when one piece has moved

-- what became of the block of a piece, and of others that may have taken it in
pub record Changes (own others own' others' : List BlockRow) (w : Window) (r s : Block) : Type 0 where
  pub there : block_of own w.array (w.at / 256) ≡ Some r
  pub back : Replaces w.array (w.at / 256) s own own'
  pub rooms : (i j : ℕ) → IsSome (block_of others i j) → IsSome (block_of others' i j)
  pub held : (q : Place) → in_block w.array (w.at / 256) q ≡ false → held_in_list others' q ≡ held_in_list others q
  pub keeps : (v : Window) (c : Cut) → IsPiece v → v.array ≡ w.array → v.at / 256 ≡ w.at / 256 → StandClear v w
      → IsReady r (v.at % 256) (v.at % 256 + v.length) c → IsReady s (v.at % 256) (v.at % 256 + v.length) c

-- no other piece moves the block unchanged, since this piece of it was owned
pub still_movable : (own others own' others' : List BlockRow) (w : Window) (r s : Block) → Changes own others own' others' w r s → IsPiece w
    → HasAll (w.at % 256) (w.at % 256 + w.length) (owned_at r) → (d : Carving) → StandClear (piece_of d) w → IsMovable own others d
    → IsMovable own' others' d
still_movable own others own' others' w r s ch piece owned d clear n =
    let v = piece_of d in
    record {
      piece = n.piece;
      ready = can_move-kept own own' w.array (w.at / 256) r s v d.cut ch.there ch.back
          (λ array block ready. ch.keeps v d.cut n.piece array block clear ready) n.ready;
      room = ch.rooms v.array (v.at / 256) n.room;
      alone = λ moved q e. by_block moved q e (in_block w.array (w.at / 256) q) refl;
    }
  where
    by_block : moves d ≡ true → (q : Place) → in_block (piece_of d).array ((piece_of d).at / 256) q ≡ true → (t : Bool)
        → in_block w.array (w.at / 256) q ≡ t → held_in_list others' q ≡ None
    by_block moved q e true f =
        let both = both_blocks w (piece_of d) q f e in
        absurd (whole-clash own others d n moved w piece r ch.there both.0 both.1 (clear-sym (piece_of d) w clear) owned)
    by_block moved q e false f = ch.held q f ∙ n.alone moved q e

-- ---- the result of a cut

-- a piece of which something is owned has a block
pub piece_block : (rs : List BlockRow) (w : Window) → IsPiece w → IsThere (is_in w) (owned (held_in_list rs)) → IsSome (block_of rs w.array (w.at / 256))
piece_block rs w piece there = by_block (block_of rs w.array (w.at / 256)) refl
  where
    by_block : (o : Option Block) → block_of rs w.array (w.at / 256) ≡ o → IsSome (block_of rs w.array (w.at / 256))
    by_block (Some b) e = ap is_some e
    by_block None e = absurd (omega (arith, piece.some, no_block-there rs w owned_number refl piece.block e there))

pub piece_owned : (rs : List BlockRow) (w : Window) (r : Block) → IsPiece w → IsThere (is_in w) (owned (held_in_list rs))
    → block_of rs w.array (w.at / 256) ≡ Some r → HasAll (w.at % 256) (w.at % 256 + w.length) (owned_at r)
piece_owned rs w r piece there is = block-there rs w r owned_number piece.block is there

-- the case of a piece that is all that its block holds
pub whole_only : (rs : List BlockRow) (w : Window) (r : Block) → block_of rs w.array (w.at / 256) ≡ Some r → IsWhole (held_in_list rs) w
    → HasOnly (w.at % 256) (w.at % 256 + w.length) (held_at r)
whole_only rs w r is whole k out = by_place (nat_lt k 256) refl
  where
    here : k < 256 → held_at r k ≡ None
    here lt =
        let i : ℕ = 256 * (w.at / 256) + k in
        let q : Place = record { array = w.array; index = i } in
        let block : i / 256 ≡ w.at / 256 = omega (arith, lt) in
        let offset : i % 256 ≡ k = omega (arith, lt) in
        let at : in_block w.array (w.at / 256) q ≡ true = and_from _ _ (eq-eqb w.array w.array refl) (eq-eqb (i / 256) (w.at / 256) block) in
        let held : held_in_list rs q ≡ held_at r k = held-there rs w.array (w.at / 256) r q at is ∙ ap (held_at r) offset in
        let no : is_in w q ≡ false = is_in-block w q at ∙ ap (in_range (w.at % 256) (w.at % 256 + w.length)) offset ∙ out in
        by_held (held_at r k) refl (λ some. false≢true (sym no ∙ whole q at (λ none. some (sym held ∙ none))))
      where
        by_held : (o : Option Held) → held_at r k ≡ o → ((held_at r k ≡ None → ⊥) → ⊥) → held_at r k ≡ None
        by_held None e never = e
        by_held (Some h) e never = absurd (never (λ none. absurd (let f = sym e ∙ none in cc)))

    by_place : (t : Bool) → nat_lt k 256 ≡ t → held_at r k ≡ None
    by_place true e = here (ltb-true _ _ e)
    by_place false e = let le : 256 ≤ k = search rules in held_at-behind r k le

-- a piece that is all that its block holds
pub only_whole : (rs : List BlockRow) (w : Window) (r : Block) → block_of rs w.array (w.at / 256) ≡ Some r
    → HasOnly (w.at % 256) (w.at % 256 + w.length) (held_at r) → IsWhole (held_in_list rs) w
only_whole rs w r is only q at held = by_in (is_in w q) refl
  where
    by_in : (t : Bool) → is_in w q ≡ t → is_in w q ≡ true
    by_in true e = e
    by_in false e =
        absurd (held (held-there rs w.array (w.at / 256) r q at is ∙ only (q.index % 256) (sym (is_in-block w q at) ∙ e)))

-- if none or all of them are counted, the count is at most all of them
pub at_most : (only : Type 0) (n length : ℕ) → (only → n ≡ 0) → ((only → ⊥) → n ≡ length) → n ≤ length
at_most only n length moved counted = by_test (nat_le n length) refl
  where
    by_test : (t : Bool) → nat_le n length ≡ t → n ≤ length
    by_test true e = leb-true _ _ e
    by_test false e =
        let lt : length < n = search rules in
        omega (arith, counted (λ o. absurd (omega (arith, moved o, lt))), lt)

-- others hold nothing of a block all of which is to move
pub alone-from : (w : Window) (r : Block) (own others : List BlockRow) → block_of own w.array (w.at / 256) ≡ Some r
    → HasOnly (w.at % 256) (w.at % 256 + w.length) (held_at r)
    → ((q : Place) → (held_in_list others q ≡ None → ⊥) → held_in_list own q ≡ None → ⊥)
    → ((q : Place) → is_in w q ≡ true → held_in_list others q ≡ None)
    → (q : Place) → in_block w.array (w.at / 256) q ≡ true → held_in_list others q ≡ None
alone-from w r own others is only within clear q at = by_range (in_range (w.at % 256) (w.at % 256 + w.length) (q.index % 256)) refl
  where
    by_held : (o : Option Held) → held_in_list others q ≡ o → held_in_list own q ≡ None → held_in_list others q ≡ None
    by_held None e none = e
    by_held (Some h) e none = absurd (within q (λ f. absurd (let g = sym e ∙ f in cc)) none)

    by_range : (t : Bool) → in_range (w.at % 256) (w.at % 256 + w.length) (q.index % 256) ≡ t → held_in_list others q ≡ None
    by_range true e = clear q (is_in-block w q at ∙ e)
    by_range false e =
        by_held (held_in_list others q) refl (held-there own w.array (w.at / 256) r q at is ∙ only (q.index % 256) e)

-- ---- a block that was taken out, carved, and put back

pub record HasCarved (own own' : List BlockRow) (w : Window) (r s out : Block) (moved : Type 0) : Type 0 where
  pub there : block_of own w.array (w.at / 256) ≡ Some r
  pub back : Replaces w.array (w.at / 256) s own own'
  pub taken : moved → Agree (held_at out) (inside (w.at % 256) (w.at % 256 + w.length) (held_at r))
  pub left : Agree (held_at s) (outside (w.at % 256) (w.at % 256 + w.length) (held_at r))
  pub keeps : (f t : ℕ) (c : Cut) → f < t
      → ((k : ℕ) → in_range f t k ≡ true → in_range (w.at % 256) (w.at % 256 + w.length) k ≡ false)
      → IsReady r f t c → IsReady s f t c

pub has_carved : (own mid own' : List BlockRow) (w : Window) (n from to : ℕ) (r s out x : Block) (moved : Type 0) → n ≡ w.at / 256 → from ≡ w.at % 256
    → to ≡ w.at % 256 + w.length → block_of own w.array n ≡ Some r → Replaces w.array n x own mid → Replaces w.array n s mid own'
    → (moved → Agree (held_at out) (inside from to (held_at r))) → Agree (held_at s) (outside from to (held_at r))
    → ((f t : ℕ) (c : Cut) → f < t → ((k : ℕ) → in_range f t k ≡ true → in_range from to k ≡ false) → IsReady r f t c → IsReady s f t c)
    → HasCarved own own' w r s out moved
has_carved own mid own' w n from to r s out x moved at e g there gone back taken left keeps = record {
  there = ap (block_of own w.array) (sym at) ∙ there;
  back = subst (λ m. Replaces w.array m s own own') at (replaced-twice w.array n x s own mid own' gone back);
  taken = λ is k. taken is k ∙ range k (held_at r k) None;
  left = λ k. left k ∙ range k None (held_at r k);
  keeps = λ f t c lt apart ready. keeps f t c lt (λ k here. same k ∙ apart k here) ready;
}
  where
    same : (k : ℕ) → in_range from to k ≡ in_range (w.at % 256) (w.at % 256 + w.length) k
    same k = ap (λ f. in_range f to k) e ∙ ap (λ t. in_range (w.at % 256) t k) g

    range : (k : ℕ) (a b : Option Held) → (if in_range from to k then a else b) ≡ (if in_range (w.at % 256) (w.at % 256 + w.length) k then a else b)
    range k a b = ap (λ c. if c then a else b) (same k)

pub record HasCut (own own' : List BlockRow) (w : Window) (r s : Block) (c : Cut) : Type 0 where
  pub there : block_of own w.array (w.at / 256) ≡ Some r
  pub back : Replaces w.array (w.at / 256) s own own'
  pub same : Agree (held_at s) (held_at r)
  pub ready : IsReady s (w.at % 256) (w.at % 256 + w.length) c
  pub moved : HasOnly (w.at % 256) (w.at % 256 + w.length) (held_at r) → c.copied ≡ 0
  pub counted : (HasOnly (w.at % 256) (w.at % 256 + w.length) (held_at r) → ⊥) → c.copied ≡ w.length
  pub keeps : (f t : ℕ) (d : Cut) → IsReady r f t d → IsReady s f t d

pub has_cut : (own mid own' : List BlockRow) (w : Window) (n from to : ℕ) (r s x : Block) (c : Cut) → n ≡ w.at / 256 → from ≡ w.at % 256
    → to ≡ w.at % 256 + w.length → block_of own w.array n ≡ Some r → Replaces w.array n x own mid → Replaces w.array n s mid own'
    → Agree (held_at s) (held_at r) → IsReady s from to c → (HasOnly from to (held_at r) → c.copied ≡ 0)
    → ((HasOnly from to (held_at r) → ⊥) → c.copied ≡ to - from)
    → ((f t : ℕ) (d : Cut) → IsReady r f t d → IsReady s f t d) → HasCut own own' w r s c
has_cut own mid own' w n from to r s x c at e g there gone back same ready moved counted keeps = record {
  there = ap (block_of own w.array) (sym at) ∙ there;
  back = subst (λ m. Replaces w.array m s own own') at (replaced-twice w.array n x s own mid own' gone back);
  same = same;
  ready = subst (λ t. IsReady s (w.at % 256) t c) g (subst (λ f. IsReady s f to c) e ready);
  moved = λ only. moved (λ k out. only k (sym (range k) ∙ out));
  counted = λ never. counted (λ only. never (λ k out. only k (range k ∙ out))) ∙ omega (arith, e, g);
  keeps = keeps;
}
  where
    range : (k : ℕ) → in_range from to k ≡ in_range (w.at % 256) (w.at % 256 + w.length) k
    range k = ap (λ f. in_range f to k) e ∙ ap (λ t. in_range (w.at % 256) t k) g

-- what a block took in
pub took_in : (a b : ℕ) (r s : Block) (old new : List BlockRow) (o : ℕ → Option ℤ) → block_of old a b ≡ Some r → Replaces a b s old new
    → ((k : ℕ) → held_at s k ≡ first_of (option_map Owned (o k)) (held_at r k)) → (q : Place)
    → held_in_list new q ≡ (if in_block a b q then first_of (option_map Owned (o (q.index % 256))) (held_in_list old q) else held_in_list old q)
took_in a b r s old new o is rep says q = by_here (in_block a b q) refl
  where
    by_here : (c : Bool) → in_block a b q ≡ c
        → held_in_list new q ≡ (if c then first_of (option_map Owned (o (q.index % 256))) (held_in_list old q) else held_in_list old q)
    by_here true e =
        held-there new a b s q e (replaced-here a b s old new rep) ∙ says (q.index % 256)
        ∙ ap (first_of (option_map Owned (o (q.index % 256)))) (sym (held-there old a b r q e is))
    by_here false e = held-elsewhere a b s old new rep q e

-- ---- a piece was cut out

-- others after a cut: room is kept, and they hold the copies if there are any
pub record HasCopies (own others others' : List BlockRow) (w : Window) (c : Cut) : Type 0 where
  pub rooms : (i j : ℕ) → IsSome (block_of others i j) → IsSome (block_of others' i j)
  pub room : IsSome (block_of others' w.array (w.at / 256))
  pub taken : held_in_list others' ≡ (if nat_eq c.copied 0 then held_in_list others
      else taking (is_in w) (held_in_list own) (held_in_list others))

cut_elsewhere : (own others others' : List BlockRow) (w : Window) (b : Bool) → w.at % 256 + w.length ≤ 256
    → held_in_list others' ≡ (if b then held_in_list others else taking (is_in w) (held_in_list own) (held_in_list others))
    → (q : Place) → in_block w.array (w.at / 256) q ≡ false → held_in_list others' q ≡ held_in_list others q
cut_elsewhere own others others' w true fits taken q e = ap (λ (m : Map Held). m q) taken
cut_elsewhere own others others' w false fits taken q e =
    ap (λ (m : Map Held). m q) taken
    ∙ ap (λ b. if b then held_in_list own q else held_in_list others q) (is_in-elsewhere w q fits e)

pub cut_keeps : (own others own' others' : List BlockRow) (w : Window) (r s : Block) (c : Cut) → HasCut own own' w r s c
    → HasCopies own others others' w c → IsPiece w → HasAll (w.at % 256) (w.at % 256 + w.length) (owned_at r) → (d : Carving)
    → StandClear (piece_of d) w → IsMovable own others d → IsMovable own' others' d
cut_keeps own others own' others' w r s c h k piece owned d clear n =
    still_movable own others own' others' w r s
    (record {
      there = h.there;
      back = h.back;
      rooms = k.rooms;
      held = λ q e. cut_elsewhere own others others' w (nat_eq c.copied 0) piece.block k.taken q e;
      keeps = λ v x p array block apart ready. h.keeps (v.at % 256) (v.at % 256 + v.length) x ready;
    })
    piece owned d clear n

pub cut_movable : (own others own' others' : List BlockRow) (w : Window) (r s : Block) (c : Carving) → piece_of c ≡ w
    → HasCut own own' w r s c.cut → HasCopies own others others' w c.cut → IsPiece w
    → ((q : Place) → (held_in_list others q ≡ None → ⊥) → held_in_list own q ≡ None → ⊥)
    → ((q : Place) → is_in w q ≡ true → held_in_list others q ≡ None) → IsMovable own' others' c
cut_movable own others own' others' w r s c same h k piece within clear = record {
  piece = subst IsPiece (sym same) piece;
  ready = subst (λ v. CanMove own' v c.cut) (sym same)
      (record { mine = s; there = replaced-here w.array (w.at / 256) s own own' h.back; ready = h.ready });
  room = subst (λ (v : Window). IsSome (block_of others' v.array (v.at / 256))) (sym same) k.room;
  alone = λ moved. subst (λ (v : Window). (q : Place) → in_block v.array (v.at / 256) q ≡ true → held_in_list others' q ≡ None) (sym same)
      (λ q at.
      ap (λ (m : Map Held). m q) (k.taken
      ∙ ap (λ b. if b then held_in_list others else taking (is_in w) (held_in_list own) (held_in_list others)) moved)
      ∙ alone-from w r own others h.there (only (eqb-true c.cut.copied 0 moved)) within clear q at);
}
  where
    only : c.cut.copied ≡ 0 → HasOnly (w.at % 256) (w.at % 256 + w.length) (held_at r)
    only none k out = sym (h.same k) ∙ h.ready.whole none k out

-- ---- a piece has moved

pub carve_keeps : (own others own' others' : List BlockRow) (c : Carving) (m : IsMovable own others c) (r s out : Block) (moved : Type 0) → r ≡ m.ready.mine
    → HasCarved own own' (piece_of c) r s out moved
    → ((i j : ℕ) → IsSome (block_of others i j) → IsSome (block_of others' i j))
    → ((q : Place) → in_block (piece_of c).array ((piece_of c).at / 256) q ≡ false → held_in_list others' q ≡ held_in_list others q)
    → (d : Carving) → StandClear (piece_of d) (piece_of c) → IsMovable own others d → IsMovable own' others' d
carve_keeps own others own' others' c m r s out moved same h rooms held d clear n =
    let w = piece_of c in
    still_movable own others own' others' w r s
    (record {
      there = h.there;
      back = h.back;
      rooms = rooms;
      held = held;
      keeps = λ v x p array block apart ready.
          h.keeps (v.at % 256) (v.at % 256 + v.length) x (omega (arith, p.some)) (clear-offsets v w p.block array block apart) ready;
    })
    m.piece (subst (λ z. HasAll (w.at % 256) (w.at % 256 + w.length) (owned_at z)) (sym same) m.ready.ready.owned) d clear n

-- a block of others that was taken out, took in copies of a piece, and was put back
pub has_copies : (own others mid out others' : List BlockRow) (w : Window) (n from to : ℕ) (r t u x : Block) (c : Cut) → n ≡ w.at / 256
    → from ≡ w.at % 256 → to ≡ w.at % 256 + w.length → w.at % 256 + w.length ≤ 256 → Widens others mid
    → block_of mid w.array n ≡ Some t → Replaces w.array n x mid out → Replaces w.array n u out others'
    → block_of own w.array (w.at / 256) ≡ Some r
    → ((k : ℕ) → held_at u k ≡ (if nat_eq c.copied 0 then held_at t k else (if in_range from to k then held_at r k else held_at t k)))
    → HasCopies own others others' w c
has_copies own others mid out others' w n from to r t u x c at e g fits widens there gone back is says = record {
  rooms = λ i j some. replaced-some w.array b u mid others' rep i j
      (ap is_some (before-kept (block_of others i j) (block_of mid i j) (widens i j) some) ∙ some);
  room = ap is_some (replaced-here w.array b u mid others' rep);
  taken = by_copied (nat_eq c.copied 0) refl;
}
  where
    b : ℕ
    b = w.at / 256

    mine : block_of mid w.array b ≡ Some t
    mine = ap (block_of mid w.array) (sym at) ∙ there

    rep : Replaces w.array b u mid others'
    rep = subst (λ m. Replaces w.array m u mid others') at (replaced-twice w.array n x u mid out others' gone back)

    wider : held_in_list mid ≡ held_in_list others
    wider = held-widened others mid widens

    range : (k : ℕ) → in_range from to k ≡ in_range (w.at % 256) (w.at % 256 + w.length) k
    range k = ap (λ f. in_range f to k) e ∙ ap (λ y. in_range (w.at % 256) y k) g

    at_place : nat_eq c.copied 0 ≡ false → (q : Place) (z : Bool) → in_block w.array b q ≡ z
        → held_in_list others' q ≡ taking (is_in w) (held_in_list own) (held_in_list others) q
    at_place some q true here =
        let k = q.index % 256 in
        held-there others' w.array b u q here (replaced-here w.array b u mid others' rep) ∙ says k
        ∙ ap (λ z. if z then held_at t k else (if in_range from to k then held_at r k else held_at t k)) some
        ∙ ap (λ z. if z then held_at r k else held_at t k) (range k ∙ sym (is_in-block w q here))
        ∙ ap (λ h. if is_in w q then h else held_at t k) (sym (held-there own w.array b r q here is))
        ∙ ap (λ (h : Option Held). if is_in w q then held_in_list own q else h)
        (sym (held-there mid w.array b t q here mine) ∙ ap (λ (m : Map Held). m q) wider)
    at_place some q false here =
        held-elsewhere w.array b u mid others' rep q here ∙ ap (λ (m : Map Held). m q) wider
        ∙ ap (λ z. if z then held_in_list own q else held_in_list others q) (sym (is_in-elsewhere w q fits here))

    by_copied : (z : Bool) → nat_eq c.copied 0 ≡ z
        → held_in_list others' ≡ (if z then held_in_list others else taking (is_in w) (held_in_list own) (held_in_list others))
    by_copied true none =
        held-same w.array b t u mid others' mine rep
        (λ k. says k ∙ ap (λ z. if z then held_at t k else (if in_range from to k then held_at r k else held_at t k)) none)
        ∙ wider
    by_copied false some = λ i q. at_place some q (in_block w.array b q) refl i

-- What is computed from a stable table is what each block needs.
use Rattle.std.proofs.Common.{◌≡◌, ◌⊎◌, ℕ, List, [], ◌∷◌, ◌++◌, refl, sym, ap, ◌∙◌, subst, inl, inr, true≢false}
use Rattle.std.proofs.lemmas.Bool.{eqb-true, eq-eqb}
use Rattle.std.specs.Prelude.{Bool, true, false, nat_eq, if◌then◌else◌}
use Rattle.sections.specs.Member.{Member, first, next}
use Rattle.sections.proofs.Members.{any_member, member_any}
use Rattle.types.specs.Code.{Code, Do, If, While, Split, Parts, Begun, Call, Async, Finish, Rescue, Codes, End, Then, Program}
use Rattle.types.specs.Run.{procedure_of}
use Rattle.effects.specs.Accesses.{Access}
use Rattle.effects.specs.Tables.{Table, all_in, IsDerived, IsStable}
use Rattle.effects.specs.Needs.{Accessed, Stored, AreNeeds, ProvidesOf, ProvidesIn, Provides, among, also, written_by}
use Rattle.effects.specs.Needs.{others_by, needs_by, needs_in}
use Rattle.effects.specs.Effects.{accesses, All}
use Rattle.effects.specs.Firsts.{AreFirsts}
use Rattle.effects.proofs.Members.{in_left, in_right}
use Rattle.effects.proofs.NeedsListed.{Ascends, has_also, keeps_also, from_also, also_ascends, same_members}
use Rattle.effects.proofs.StableTables.{listed, derived}

-- ---- tests
is_among : (ss : List ℕ) (s : ℕ) → among ss s ≡ true → Member s ss
is_among ss s h = let r = any_member (nat_eq s) ss h in subst (λ t. Member t ss) (sym (eqb-true s r.item r.passes)) r.member

-- ---- accesses
-- one of these accesses is to this section
record Names (xs : List Access) (s : ℕ) : Type 0 where
  access : Access
  listed : Member access xs
  names : access.section ≡ s

record Writes (xs : List Access) (s : ℕ) : Type 0 where
  access : Access
  listed : Member access xs
  names : access.section ≡ s
  writes : access.write ≡ true

written : (xs : List Access) (x : Access) → Member x xs → x.write ≡ true → Member x.section (written_by xs)
written (y ∷ xs) x first e =
    subst (λ w. Member x.section (if w then also x.section (written_by xs) else written_by xs)) (sym e) (has_also x.section (written_by xs))
written (y ∷ xs) x (next m) e = by_test y.write (written xs x m e)
  where
    by_test : (w : Bool) → Member x.section (written_by xs) → Member x.section (if w then also y.section (written_by xs) else written_by xs)
    by_test true k = keeps_also y.section x.section (written_by xs) k
    by_test false k = k
written [] x m e = elim m [ ]

writes_later : (y : Access) (xs : List Access) (s : ℕ) → Writes xs s → Writes (y ∷ xs) s
writes_later y xs s w = record { access = w.access; listed = next w.listed; names = w.names; writes = w.writes }

names_later : (y : Access) (xs : List Access) (s : ℕ) → Names xs s → Names (y ∷ xs) s
names_later y xs s w = record { access = w.access; listed = next w.listed; names = w.names }

from_written : (xs : List Access) (s : ℕ) → Member s (written_by xs) → Writes xs s
from_written [] s m = elim m [ ]
from_written (y ∷ xs) s m = by_test y.write refl m (from_written xs s)
  where
    by_test : (w : Bool) → y.write ≡ w → Member s (if w then also y.section (written_by xs) else written_by xs)
        → (Member s (written_by xs) → Writes xs s) → Writes (y ∷ xs) s
    by_test true e m deeper = elim (from_also y.section s (written_by xs) m) [
      | inl f ↦ record { access = y; listed = first; names = sym f; writes = e }
      | inr n ↦ writes_later y xs s (deeper n)
    ]
    by_test false e m deeper = writes_later y xs s (deeper m)

read : (ws : List ℕ) (xs : List Access) (x : Access) → Member x xs → Member x.section ws ⊎ Member x.section (others_by ws xs)
read ws (y ∷ xs) x first = by_test (among ws x.section) refl
  where
    by_test : (b : Bool) → among ws x.section ≡ b
        → Member x.section ws ⊎ Member x.section (if b then others_by ws xs else also x.section (others_by ws xs))
    by_test true e = inl (is_among ws x.section e)
    by_test false e = inr (has_also x.section (others_by ws xs))
read ws (y ∷ xs) x (next m) = elim (read ws xs x m) [ inl k ↦ inl k | inr k ↦ inr (by_test (among ws y.section) k) ]
  where
    by_test : (b : Bool) → Member x.section (others_by ws xs)
        → Member x.section (if b then others_by ws xs else also y.section (others_by ws xs))
    by_test true k = k
    by_test false k = keeps_also y.section x.section (others_by ws xs) k
read ws [] x m = elim m [ ]

from_others : (ws : List ℕ) (xs : List Access) (s : ℕ) → Member s (others_by ws xs) → Names xs s
from_others ws [] s m = elim m [ ]
from_others ws (y ∷ xs) s m = by_test (among ws y.section) m (from_others ws xs s)
  where
    by_test : (b : Bool) → Member s (if b then others_by ws xs else also y.section (others_by ws xs))
        → (Member s (others_by ws xs) → Names xs s) → Names (y ∷ xs) s
    by_test true m deeper = names_later y xs s (deeper m)
    by_test false m deeper = elim (from_also y.section s (others_by ws xs) m) [
      | inl f ↦ record { access = y; listed = first; names = sym f }
      | inr n ↦ names_later y xs s (deeper n)
    ]

-- ---- the same needs
not_written : (ws : List ℕ) (xs : List Access) (s : ℕ) → Member s (others_by ws xs) → Member s ws → ⊥
not_written ws [] s m k = elim m [ ]
not_written ws (y ∷ xs) s m k = by_test (among ws y.section) refl m (λ n. not_written ws xs s n k)
  where
    by_test : (b : Bool) → among ws y.section ≡ b → Member s (if b then others_by ws xs else also y.section (others_by ws xs))
        → (Member s (others_by ws xs) → ⊥) → ⊥
    by_test true e n deeper = deeper n
    by_test false e n deeper = elim (from_also y.section s (others_by ws xs) n) [
      | inl f ↦ true≢false (sym (member_any (nat_eq y.section) ws k (eq-eqb y.section s (sym f))) ∙ e)
      | inr o ↦ deeper o
    ]

written_ascend : (xs : List Access) → Ascends (written_by xs)
written_ascend [] = tt
written_ascend (x ∷ xs) = by_test x.write (written_ascend xs)
  where
    by_test : (b : Bool) → Ascends (written_by xs) → Ascends (if b then also x.section (written_by xs) else written_by xs)
    by_test true h = also_ascends x.section (written_by xs) h
    by_test false h = h

others_ascend : (ws : List ℕ) (xs : List Access) → Ascends (others_by ws xs)
others_ascend ws [] = tt
others_ascend ws (x ∷ xs) = by_test (among ws x.section) (others_ascend ws xs)
  where
    by_test : (b : Bool) → Ascends (others_by ws xs) → Ascends (if b then others_by ws xs else also x.section (others_by ws xs))
    by_test true h = h
    by_test false h = also_ascends x.section (others_by ws xs) h

-- each access of the first list has one like it in the second
pub record IsLike (ys : List Access) (x : Access) : Type 0 where
  pub like : Access
  pub stands : Member like ys
  pub section : like.section ≡ x.section
  pub write : like.write ≡ x.write

writes_like : (xs ys : List Access) → ((x : Access) → Member x xs → IsLike ys x) → (s : ℕ) → Member s (written_by xs) → Member s (written_by ys)
writes_like xs ys alike s m =
    let w = from_written xs s m in
    let l = alike w.access w.listed in
    subst (λ n. Member n (written_by ys)) (l.section ∙ w.names) (written ys l.like l.stands (l.write ∙ w.writes))

others_like : (ws vs : List ℕ) (xs ys : List Access) → ((x : Access) → Member x xs → IsLike ys x)
    → ((s : ℕ) → Member s vs → Member s ws) → (s : ℕ) → Member s (others_by ws xs) → Member s (others_by vs ys)
others_like ws vs xs ys alike back s m =
    let w = from_others ws xs s m in
    let l = alike w.access w.listed in
    subst (λ n. Member n (others_by vs ys)) (l.section ∙ w.names)
    (elim (read vs ys l.like l.stands) [
      | inl k ↦ absurd (not_written ws xs s m (back s (subst (λ n. Member n vs) (l.section ∙ w.names) k)))
      | inr k ↦ k
    ])

-- lists with the same sections and kinds need the same
pub same_needs : (xs ys : List Access) → ((x : Access) → Member x xs → IsLike ys x) → ((y : Access) → Member y ys → IsLike xs y)
    → needs_by xs ≡ needs_by ys
same_needs xs ys out back =
    let writes : written_by xs ≡ written_by ys =
    same_members (written_by xs) (written_by ys) (written_ascend xs) (written_ascend ys) (writes_like xs ys out) (writes_like ys xs back) in
    let reads : others_by (written_by xs) xs ≡ others_by (written_by ys) ys =
    same_members (others_by (written_by xs) xs) (others_by (written_by ys) ys) (others_ascend (written_by xs) xs) (others_ascend (written_by ys) ys)
    (others_like (written_by xs) (written_by ys) xs ys out (writes_like ys xs back))
    (others_like (written_by ys) (written_by xs) ys xs back (writes_like xs ys out)) in
    ap (λ (ws : List ℕ). record { writes = ws; reads = others_by (written_by xs) xs }) writes
    ∙ ap (λ (rs : List ℕ). record { writes = written_by ys; reads = rs }) reads

module _ (p : Program) (table : Table accesses) (is_derived : IsDerived p accesses table) (stable : IsStable p accesses table) where
  -- what is computed for a block is what it needs
  pub are_needs : (b : Codes) → AreNeeds p b (needs_in table b)
  are_needs b = record { has_writes = writes; has_reads = reads; are_written = stored; are_read = accessed }
    where
      xs : List Access
      xs = all_in accesses table b

      ws : List ℕ
      ws = written_by (all_in accesses table b)

      rs : List ℕ
      rs = others_by (written_by (all_in accesses table b)) (all_in accesses table b)

      writes : (s : ℕ) → Stored p b s → Member s ws
      writes s m = subst (λ s. Member s ws) m.names (written xs m.access (derived p accesses table stable m.among) m.writes)

      in_either : (s : ℕ) → Member s ws ⊎ Member s rs → Member s (ws ++ rs)
      in_either s (inl k) = in_left rs k
      in_either s (inr k) = in_right ws k

      reads : (s : ℕ) → Accessed p b s → Member s (ws ++ rs)
      reads s m = subst (λ s. Member s (ws ++ rs)) m.names
          (in_either m.access.section (read ws xs m.access (derived p accesses table stable m.among)))

      stored : (s : ℕ) → Member s ws → Stored p b s
      stored s c = let w = from_written xs s c in
          record { access = w.access; among = listed p accesses table is_derived b w.access w.listed; names = w.names; writes = w.writes }

      accessed : (s : ℕ) → Member s rs → Accessed p b s
      accessed s c = let w = from_others ws xs s c in
          record { access = w.access; among = listed p accesses table is_derived b w.access w.listed; names = w.names }

  mutual
    provides_of : (s : Code) → ProvidesOf p (needs_in table) s
    provides_of (Do s) = tt
    provides_of (If t b c) = (provides_in b, provides_in c)
    provides_of (While t b) = provides_in b
    provides_of (Split s e x y b) = provides_in b
    provides_of (Parts s e q i b) = provides_in b
    provides_of (Begun s n k q i b) = provides_in b
    provides_of (Call f es ss) = tt
    provides_of (Async b) = (are_needs b, provides_in b)
    provides_of (Finish b) = provides_in b
    provides_of (Rescue b n c) = (provides_in b, provides_in c)

    pub provides_in : (b : Codes) → ProvidesIn p (needs_in table) b
    provides_in End = tt
    provides_in (Then l s rest) = (provides_of s, provides_in rest)

  pub provides : Provides p (needs_in table)
  provides = record { main = provides_in p.main.body; procedures = λ f. provides_in (procedure_of p f).body }

  -- the firsts of what a block may do determine what it needs
  pub needs_of_firsts : (b : Codes) (xs : List Access) → AreFirsts (All p accesses b) xs → needs_by xs ≡ needs_in table b
  needs_of_firsts b xs h = same_needs xs (all_in accesses table b) out back
    where
      out : (x : Access) → Member x xs → IsLike (all_in accesses table b) x
      out x m = record { like = x; stands = derived p accesses table stable (h.among x m); section = refl; write = refl }

      back : (y : Access) → Member y (all_in accesses table b) → IsLike xs y
      back y m = let k = h.first y (listed p accesses table is_derived b y m) in
          record { like = k.item; stands = k.stands; section = k.section; write = k.write }

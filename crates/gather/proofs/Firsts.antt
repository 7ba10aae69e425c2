-- A result is taken from the first slot with its path.
use Rattle.std.proofs.Common.{◌≡◌, ℕ, ◌+◌, ◌<◌, List, [], ◌∷◌, ◌++◌, length, get_or, set, map, Option, Some, None}
use Rattle.std.proofs.Common.{refl, sym, ap, ◌∙◌, subst, reverse, arith}
use Rattle.std.specs.Prelude.{Bool, true, false, nat_eq, cond, IfNone, if◌then◌else◌}
use Rattle.std.specs.Cmp.Lexicographic.{pointwise}
use Rattle.std.proofs.lemmas.Grind.{reverse_onto}
use Rattle.std.proofs.lemmas.List.{length-reverse, reverse-append, reverse-reverse, get_or_append_left, get_or_at, set_at, set-append_left}
use Rattle.std.proofs.lemmas.Option.{none-some, same_Some}
use Rattle.std.specs.Option.{option_flatten}
use Rattle.shared_lemmas.proofs.Truths.{false_true}
use Rattle.shared_lemmas.proofs.Lists.{same_head, same_rest}
use Rattle.task_run.specs.Settling.{behind, take}
use Rattle.task_run.specs.Translation.{task_result}
use Rattle.task_run.proofs.SettledResults.{paths_same}
use Rattle.task_run.proofs.CompleteResults.{path_same}
use Rattle.gather.specs.Unused.{is_of, left_in, first_of, said_next, next_in, AreChained}
use Rattle.gather.specs.declared.table.ResultEntry.{ResultEntry}
use Rattle.gather.proofs.Taking.{taken_here, passed}

-- ---- lists
get_behind : {A : Type 0} (p d x : A) (ps : List A) (i : ℕ) → i < length ps → get_or (reverse ps) i d ≡ x → get_or (reverse (p ∷ ps)) i d ≡ x
get_behind p d x ps i lt e =
    ap (λ l. get_or l i d) (reverse_onto ps p [])
    ∙ get_or_append_left (reverse ps) (p ∷ []) d i (omega (arith, lt, length-reverse ps))
    ∙ e

set_behind : {A : Type 0} (p d : A) (ps others : List A) (i : ℕ) → i < length ps → set (reverse ps) i d ≡ reverse others
    → set (reverse (p ∷ ps)) i d ≡ reverse (p ∷ others)
set_behind p d ps others i lt e =
    ap (λ l. set l i d) (reverse_onto ps p [])
    ∙ set-append_left (reverse ps) (p ∷ []) i d (omega (arith, lt, length-reverse ps))
    ∙ ap (λ l. l ++ p ∷ []) e
    ∙ sym (reverse_onto others p [])

get_here : {A : Type 0} (p d : A) (ps : List A) (i : ℕ) → length ps ≡ i → get_or (reverse (p ∷ ps)) i d ≡ p
get_here p d ps i e =
    ap (λ l. get_or l i d) (reverse_onto ps p []) ∙ get_or_at (reverse ps) p [] d i (length-reverse ps ∙ e)

set_here : {A : Type 0} (p d : A) (ps : List A) (i : ℕ) → length ps ≡ i → set (reverse (p ∷ ps)) i d ≡ reverse (d ∷ ps)
set_here p d ps i e =
    ap (λ l. set l i d) (reverse_onto ps p [])
    ∙ set_at (reverse ps) p [] d i (length-reverse ps ∙ e)
    ∙ sym (reverse_onto ps d [])

-- ---- paths
other_way : (p q : List ℕ) → pointwise nat_eq p q ≡ false → pointwise nat_eq q p ≡ false
other_way p q e = by (pointwise nat_eq q p) refl
  where
    by : (b : Bool) → pointwise nat_eq q p ≡ b → pointwise nat_eq q p ≡ false
    by false w = w
    by true w = absurd (false_true (sym e ∙ ap (λ l. pointwise nat_eq p l) (paths_same q p w) ∙ path_same p))

-- ---- the first result with a path
first_below : (path : List ℕ) (ps : List (Option ResultEntry)) (i : ℕ) → first_of path ps ≡ Some i → i < length ps
first_below path [] i e = absurd (none-some i e)
first_below path (None ∷ ps) i e = let h = first_below path ps i e in omega (arith, h)
first_below path (Some x ∷ ps) i e = by (first_below path ps i) (is_of path x.task) e
  where
    by : (first_of path ps ≡ Some i → i < length ps) → (b : Bool)
        → (if b then Some (length ps) else first_of path ps) ≡ Some i → i < length (Some x ∷ ps)
    by behind_it true q = let h = same_Some (length ps) i q in omega (arith, h)
    by behind_it false q = let h = behind_it q in omega (arith, h)

-- there is none
pub nowhere : (path : List ℕ) (ps : List (Option ResultEntry)) → first_of path ps ≡ None → take path (map task_result (left_in ps)) ≡ None
nowhere path [] e = refl
nowhere path (None ∷ ps) e = nowhere path ps e
nowhere path (Some x ∷ ps) e = by (nowhere path ps) (is_of path x.task) refl e
  where
    by : (first_of path ps ≡ None → take path (map task_result (left_in ps)) ≡ None) → (b : Bool) → is_of path x.task ≡ b
        → (if b then Some (length ps) else first_of path ps) ≡ None → take path (map task_result (left_in (Some x ∷ ps))) ≡ None
    by behind_it true w q = absurd (none-some (length ps) (sym q))
    by behind_it false w q = passed path x.task (left_in ps) w ∙ ap (behind (task_result x.task)) (behind_it q)

-- the entry there, and what is left without it
pub record Found (path : List ℕ) (ps : List (Option ResultEntry)) (i : ℕ) : Type 0 where
  pub entry : ResultEntry
  pub others : List (Option ResultEntry)
  pub there : get_or (reverse ps) i None ≡ Some entry
  pub without : set (reverse ps) i None ≡ reverse others
  pub as_many : length others ≡ length ps
  pub taken : take path (map task_result (left_in ps)) ≡ Some (task_result entry.task, map task_result (left_in others))
  pub fewer : length (left_in others) + 1 ≡ length (left_in ps)
  pub firsts : (other : List ℕ) → first_of other others ≡ (if pointwise nat_eq path other then entry.next else first_of other ps)
  pub chained : AreChained others

-- it is the first one
module _ (path : List ℕ) (x : ResultEntry) (ps : List (Option ResultEntry)) (chain : AreChained (Some x ∷ ps)) where
  next_is : x.next ≡ first_of x.task.path.turns.items ps
  next_is = let same : x.next ∷ said_next ps ≡ first_of x.task.path.turns.items ps ∷ next_in ps = chain in same_head same

  chain_behind : AreChained ps
  chain_behind = let same : x.next ∷ said_next ps ≡ first_of x.task.path.turns.items ps ∷ next_in ps = chain in same_rest same

  firsts_here : is_of path x.task ≡ true → (other : List ℕ)
      → first_of other ps ≡ (if pointwise nat_eq path other then x.next else first_of other (Some x ∷ ps))
  firsts_here w other = by (pointwise nat_eq path other) refl
    where
      same : x.task.path.turns.items ≡ path
      same = paths_same x.task.path.turns.items path w

      by : (b : Bool) → pointwise nat_eq path other ≡ b
          → first_of other ps ≡ (if b then x.next else first_of other (Some x ∷ ps))
      by true v = ap (λ p. first_of p ps) (sym (same ∙ paths_same path other v)) ∙ sym next_is
      by false v =
          ap (λ b. if b then Some (length ps) else first_of other ps)
          (sym (ap (λ p. pointwise nat_eq p other) same ∙ v))

  here : is_of path x.task ≡ true → (i : ℕ) → length ps ≡ i → Found path (Some x ∷ ps) i
  here w i e = record {
    entry = x;
    others = None ∷ ps;
    there = get_here (Some x) None ps i e;
    without = set_here (Some x) None ps i e;
    as_many = refl;
    taken = taken_here path x.task (left_in ps) w;
    fewer = omega arith;
    firsts = firsts_here w;
    chained = chain_behind;
  }

  -- it comes after the first one
  module _ (w : is_of path x.task ≡ false) (i : ℕ) (lt : i < length ps) (h : Found path ps i) where
    firsts_behind : (other : List ℕ)
        → first_of other (Some x ∷ h.others) ≡ (if pointwise nat_eq path other then h.entry.next else first_of other (Some x ∷ ps))
    firsts_behind other = by (pointwise nat_eq path other) refl
      where
        others_by : (b : Bool) → pointwise nat_eq path other ≡ false → (c : Bool)
            → (if c then Some (length h.others) else first_of other h.others) ≡ (if c then Some (length ps) else first_of other ps)
        others_by b v true = ap (λ n. Some n) h.as_many
        others_by b v false = h.firsts other ∙ ap (λ b. if b then h.entry.next else first_of other ps) v

        by : (b : Bool) → pointwise nat_eq path other ≡ b
            → first_of other (Some x ∷ h.others) ≡ (if b then h.entry.next else first_of other (Some x ∷ ps))
        by true v =
            ap (λ b. if b then Some (length h.others) else first_of other h.others)
            (ap (λ p. is_of p x.task) (sym (paths_same path other v)) ∙ w)
            ∙ h.firsts other
            ∙ ap (λ b. if b then h.entry.next else first_of other ps) v
        by false v = others_by false v (is_of other x.task)

    next_stays : first_of x.task.path.turns.items h.others ≡ first_of x.task.path.turns.items ps
    next_stays =
        h.firsts x.task.path.turns.items
        ∙ ap (λ b. if b then h.entry.next else first_of x.task.path.turns.items ps)
        (other_way x.task.path.turns.items path w)

    behind_first : Found path (Some x ∷ ps) i
    behind_first = record {
      entry = h.entry;
      others = Some x ∷ h.others;
      there = get_behind (Some x) None (Some h.entry) ps i lt h.there;
      without = set_behind (Some x) None ps h.others i lt h.without;
      as_many = let k = h.as_many in omega (arith, k);
      taken = passed path x.task (left_in ps) w ∙ ap (behind (task_result x.task)) h.taken;
      fewer = let k = h.fewer in omega (arith, k);
      firsts = firsts_behind;
      chained =
          ap (λ (o : Option ℕ). o ∷ said_next h.others) (next_is ∙ sym next_stays)
          ∙ ap (λ (l : List (Option ℕ)). first_of x.task.path.turns.items h.others ∷ l) h.chained;
    }

-- the first slot is empty
behind_none : (path : List ℕ) (ps : List (Option ResultEntry)) (i : ℕ) → i < length ps → Found path ps i → Found path (None ∷ ps) i
behind_none path ps i lt h = record {
  entry = h.entry;
  others = None ∷ h.others;
  there = get_behind None None (Some h.entry) ps i lt h.there;
  without = set_behind None None ps h.others i lt h.without;
  as_many = let k = h.as_many in omega (arith, k);
  taken = h.taken;
  fewer = h.fewer;
  firsts = h.firsts;
  chained = h.chained;
}

pub found : (path : List ℕ) (ps : List (Option ResultEntry)) (i : ℕ) → AreChained ps → first_of path ps ≡ Some i → Found path ps i
found path [] i chain e = absurd (none-some i e)
found path (None ∷ ps) i chain e = behind_none path ps i (first_below path ps i e) (found path ps i chain e)
found path (Some x ∷ ps) i chain e = by (found path ps i (chain_behind path x ps chain)) (is_of path x.task) refl e
  where
    by : (first_of path ps ≡ Some i → Found path ps i) → (b : Bool) → is_of path x.task ≡ b
        → (if b then Some (length ps) else first_of path ps) ≡ Some i → Found path (Some x ∷ ps) i
    by behind_it true w q = here path x ps chain w i (same_Some (length ps) i q)
    by behind_it false w q = behind_first path x ps chain w i (first_below path ps i q) (behind_it q)

-- ---- a result is taken out of slots in memory
module _ (path : List ℕ) (xs : List (Option ResultEntry)) (i : ℕ) (chain : AreChained (reverse xs))
    (at : first_of path (reverse xs) ≡ Some i) where
  abbrev it : Found path (reverse xs) i
  it = found path (reverse xs) i chain at

  pub stands : get_or xs i None ≡ Some it.entry
  stands = ap (λ l. get_or l i None) (sym (reverse-reverse xs)) ∙ it.there

  module _ (ys : List (Option ResultEntry)) (x : ResultEntry) (is : get_or xs i None ≡ Some x) (set_out : ys ≡ set xs i None) where
    entry_is : it.entry ≡ x
    entry_is = same_Some it.entry x (sym stands ∙ is)

    others_are : it.others ≡ reverse ys
    others_are =
        sym (reverse-reverse it.others)
        ∙ ap reverse (sym (set_out ∙ ap (λ l. set l i None) (sym (reverse-reverse xs)) ∙ it.without))

    pub taken_out : take path (map task_result (left_in (reverse xs))) ≡ Some (task_result x.task, map task_result (left_in (reverse ys)))
    taken_out =
        it.taken
        ∙ ap (λ (e : ResultEntry). Some (task_result e.task, map task_result (left_in it.others))) entry_is
        ∙ ap (λ l. Some (task_result x.task, map task_result (left_in l))) others_are

    pub one_fewer : length (left_in (reverse ys)) + 1 ≡ length (left_in (reverse xs))
    one_fewer = ap (λ l. length (left_in l) + 1) (sym others_are) ∙ it.fewer

    pub firsts_after : (other : List ℕ)
        → first_of other (reverse ys) ≡ (if pointwise nat_eq path other then x.next else first_of other (reverse xs))
    firsts_after other =
        ap (first_of other) (sym others_are)
        ∙ it.firsts other
        ∙ ap (λ (e : ResultEntry). if pointwise nat_eq path other then e.next else first_of other (reverse xs)) entry_is

    pub chained_after : AreChained (reverse ys)
    chained_after = subst AreChained others_are it.chained

-- ---- a result is put in front
module _ (xs ys : List (Option ResultEntry)) (x : ResultEntry) (pushed : ys ≡ xs ++ Some x ∷ []) where
  pub in_front : reverse ys ≡ Some x ∷ reverse xs
  in_front = ap reverse pushed ∙ reverse-append xs (Some x ∷ [])

  pub firsts_with : (other : List ℕ)
      → first_of other (reverse ys) ≡ (if is_of other x.task then Some (length xs) else first_of other (reverse xs))
  firsts_with other =
      ap (first_of other) in_front
      ∙ ap (λ n. if is_of other x.task then Some n else first_of other (reverse xs)) (length-reverse xs)

  pub chained_with : x.next ≡ first_of x.task.path.turns.items (reverse xs) → AreChained (reverse xs) → AreChained (reverse ys)
  chained_with next chain =
      ap said_next in_front
      ∙ ap (λ (o : Option ℕ). o ∷ said_next (reverse xs)) next
      ∙ ap (λ (l : List (Option ℕ)). first_of x.task.path.turns.items (reverse xs) ∷ l) chain
      ∙ ap next_in (sym in_front)

-- ---- the positions that a table stores

pub said_by : (b : Bool) (n : Option ℕ) (o : Option (Option ℕ)) → option_flatten (cond b (Some n) o) ≡ (if b then n else option_flatten o)
said_by true n o = refl
said_by false n o = refl

pub if_none : {A : Type 0} (P : Type 0) (o : Option A) → P → IfNone o P
if_none P None h = h
if_none P (Some x) h = tt

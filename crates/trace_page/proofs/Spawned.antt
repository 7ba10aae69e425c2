-- Tasks after one more event.
use Rattle.std.proofs.Common.{◌≡◌, ℕ, ◌+◌, ◌≤◌, List, [], ◌∷◌, ◌++◌, length, map, drop, take, Option, Some, Bool, true, false, ap, sym, ◌∙◌, refl, append_assoc, nat_eq}
use Rattle.std.specs.Prelude.{cond, count_by, slice_get, unwrap_or}
use Rattle.std.specs.Cmp.Lexicographic.{pointwise}
use Rattle.std.specs.HashMap.{get}
use Rattle.std.specs.Map.{lookup}
use Rattle.std.proofs.lemmas.List.{append-nil, drop_all, drop_more, map-append}
use Rattle.std.proofs.lemmas.List.Sums.{count_by_more_no, count_by_more_yes}
use Rattle.std.proofs.lemmas.Option.{get_or_from_slice_get, slice_get_within}
use Rattle.std.proofs.lemmas.Slice.Eq.{bytes_eq-Decides}
use Rattle.types.specs.Translation.{is_path}
use Rattle.types.specs.declared.path.Path.{Path}
use Rattle.events.specs.declared.event.Event.{Event}
use Rattle.events.specs.declared.event.Event.TheVariants.{Spawn}
use Rattle.event_worlds.specs.World.{child_path}
use Rattle.trace_page.specs.Births.{AreBornSoFar, Born, birth, births, births_from, born, is_spawn, spawns}
use Rattle.trace_page.specs.declared.births.Birth.{Birth}
use Rattle.trace_page.specs.declared.births.Births.{Births}

module _ (es : List Event) (n : ℕ) (e : Event) (at : slice_get es n ≡ Some e) where
  -- the tasks to come are that of this event and those of the events after it
  come : births_from es n (drop n es) ≡ born es n e ++ births_from es (n + 1) (drop (n + 1) es)
  come = ap (births_from es n) (drop_more es n e (slice_get_within es n e at)
      ∙ ap (λ (x : Event). x ∷ drop (n + 1) es) (get_or_from_slice_get es n e e at))

  -- the number of tasks that a task has spawned
  spawns_one : (path : List ℕ) → spawns path e ≡ true → count_by (spawns path) (take (n + 1) es) ≡ count_by (spawns path) (take n es) + 1
  spawns_one path is = count_by_more_yes (spawns path) es n e (slice_get_within es n e at)
      (ap (spawns path) (get_or_from_slice_get es n e e at) ∙ is)

  spawns_no_more : (path : List ℕ) → spawns path e ≡ false → count_by (spawns path) (take (n + 1) es) ≡ count_by (spawns path) (take n es)
  spawns_no_more path is = count_by_more_no (spawns path) es n e (slice_get_within es n e at)
      (ap (spawns path) (get_or_from_slice_get es n e e at) ∙ is)

-- ---- no task is spawned
not_born : (es : List Event) (n : ℕ) (e : Event) → is_spawn e ≡ false → born es n e ≡ []
not_born es n (Spawn path) is = absurd (let both : true ≡ false = is in cc)
not_born es n _ is = refl

spawns_none : (e : Event) (path : List ℕ) → is_spawn e ≡ false → spawns path e ≡ false
spawns_none (Spawn other) path is = absurd (let both : true ≡ false = is in cc)
spawns_none _ path is = refl

pub no_spawn : (e : Event) → ((path : Path) → e ≡ Spawn path → ⊥) → is_spawn e ≡ false
no_spawn (Spawn path) h = absurd (h path refl)
no_spawn _ h = refl

pub births_later : (es : List Event) (n : ℕ) (e : Event) (b : Births) → slice_get es n ≡ Some e → is_spawn e ≡ false
    → AreBornSoFar es n b → AreBornSoFar es (n + 1) b
births_later es n e b at is was = record {
  all = ap (λ (l : List Born). map birth b.all.items ++ l)
      (sym (come es n e at ∙ ap (λ (l : List Born). l ++ births_from es (n + 1) (drop (n + 1) es)) (not_born es n e is)))
      ∙ was.all;
  spawned = λ path. was.spawned path ∙ sym (spawns_no_more es n e at path.turns.items (spawns_none e path.turns.items is));
}

-- ---- a task is spawned
counted : (es : List Event) (n count : ℕ) (e : Event) (at : slice_get es n ≡ Some e) (key path : List ℕ) (b : Bool) (old : Option ℕ)
    → spawns path e ≡ pointwise nat_eq key path → pointwise nat_eq key path ≡ b → (key ≡ path → count ≡ unwrap_or old 0 + 1)
    → unwrap_or old 0 ≡ count_by (spawns path) (take n es)
    → unwrap_or (cond b (Some count) old) 0 ≡ count_by (spawns path) (take (n + 1) es)
counted es n count e at key path true old by same more was =
    more ((bytes_eq-Decides key path).0 same) ∙ ap (λ (c : ℕ). c + 1) was ∙ sym (spawns_one es n e at path (by ∙ same))
counted es n count e at key path false old by same more was = was ∙ sym (spawns_no_more es n e at path (by ∙ same))

-- the copy of a path, its next child, and its number among the parent's
pub record IsSpawned (n : ℕ) (path key child : Path) (count : ℕ) (old new : Births) : Type 0 where
  pub key_is : key.turns.items ≡ path.turns.items
  pub child_is : child.turns.items ≡ path.turns.items ++ count ∷ []
  pub counts : count ≡ unwrap_or (get is_path old.spawned path) 0 + 1
  pub puts : (other : Path) → get is_path new.spawned other ≡ cond (is_path key other) (Some count) (get is_path old.spawned other)
  pub adds : new.all.items ≡ old.all.items ++ record { at = n; child = child } ∷ []

module _ (es : List Event) (n : ℕ) (path key child : Path) (count : ℕ) (old new : Births) (at : slice_get es n ≡ Some (Spawn path))
    (is : IsSpawned n path key child count old new) (was : AreBornSoFar es n old) where
  number : count ≡ count_by (spawns path.turns.items) (take n es) + 1
  number = is.counts ∙ ap (λ (c : ℕ). c + 1) (was.spawned path)

  child_of : child.turns.items ≡ child_path path.turns.items (count_by (spawns path.turns.items) (take n es) + 1)
  child_of = is.child_is ∙ ap (child_path path.turns.items) number

  pub births_more : AreBornSoFar es (n + 1) new
  births_more = record {
    all =
        let b : Birth = record { at = n; child = child } in
        let rest = births_from es (n + 1) (drop (n + 1) es) in
        ap (λ (bs : List Birth). map birth bs ++ rest) is.adds
        ∙ ap (λ (bs : List Born). bs ++ rest) (map-append birth old.all.items (b ∷ []))
        ∙ append_assoc (map birth old.all.items) (birth b ∷ []) rest
        ∙ ap (λ (p : List ℕ). map birth old.all.items ++ ((record { at = n; child = p }) ∷ rest)) child_of
        ∙ ap (λ (l : List Born). map birth old.all.items ++ l) (sym (come es n (Spawn path) at))
        ∙ was.all;
    spawned = λ other.
        ap (λ (o : Option ℕ). unwrap_or o 0) (is.puts other)
        ∙ counted es n count (Spawn path) at key.turns.items other.turns.items (is_path key other) (get is_path old.spawned other)
        (ap (λ (p : List ℕ). pointwise nat_eq p other.turns.items) (sym is.key_is)) refl
        (λ equal. is.counts ∙ ap (λ (p : List ℕ). unwrap_or (lookup (λ (q : Path). pointwise nat_eq p q.turns.items) old.spawned.entries) 0 + 1)
        (sym is.key_is ∙ equal))
        (was.spawned other);
  }

-- ---- all events
pub births_all : (es : List Event) (n : ℕ) (b : Births) → length es ≤ n → AreBornSoFar es n b → map birth b.all.items ≡ births es
births_all es n b past was =
    sym (append-nil (map birth b.all.items))
    ∙ ap (λ (l : List Event). map birth b.all.items ++ births_from es n l) (sym (drop_all n es past)) ∙ was.all

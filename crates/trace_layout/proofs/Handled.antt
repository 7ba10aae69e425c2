-- The tasks in hands after one more event.
use Rattle.std.proofs.Common.{◌≡◌, ℕ, zero, suc, ◌+◌, ◌-◌, ◌<◌, ◌≤◌, List, [], ◌∷◌, ◌++◌, length, get_or, set, take, Option, Some, None, Bool, true, false, ap, sym, ◌∙◌, refl, subst, arith}
use Rattle.std.specs.Prelude.{All, cond, count_by, replicate, slice_get}
use Rattle.std.specs.Cmp.Lexicographic.{pointwise}
use Rattle.std.specs.HashMap.{get}
use Rattle.std.proofs.Common.{nat_eq}
use Rattle.std.proofs.lemmas.List.{get_or_append_left, get_or_push, length-set, length_push}
use Rattle.std.proofs.lemmas.List.Sums.{count_by_more_no, count_by_more_yes}
use Rattle.std.proofs.lemmas.List.{get_or-set_same, take_all}
use Rattle.std.proofs.lemmas.List.Elements.{All-nil}
use Rattle.std.specs.Map.{lookup}
use Rattle.std.proofs.lemmas.Option.{get_or_from_slice_get, none-some, same_Some, slice_get_within}
use Rattle.std.proofs.lemmas.Slice.Eq.{bytes_eq-Decides}
use Rattle.events.specs.declared.event.Event.{Event}
use Rattle.types.specs.Translation.{is_path}
use Rattle.types.specs.declared.path.Path.{Path}
use Rattle.trace_layout.specs.Hands.{AreHands, AreInTurn, AreSpellsSoFar, IsEmptyHand, IsEndingSoFar, IsInTurn, IsOfTask, IsSpellSoFar}
use Rattle.trace_layout.specs.Spells.{AreApart, AreInOrder, AreSpells, Hold, IsEnding, IsLatest, IsLeaving, IsSpell, ended_at, is_taking, parked_at, taken_at}
use Rattle.trace_layout.specs.declared.spells.Spells.{Spells}
use Rattle.trace_layout.specs.declared.hands.Hands.{Hands}
use Rattle.trace_layout.specs.declared.spells.Spell.{Spell}
use Rattle.trace_layout.proofs.Changes.{IsLeft, Keeps, all_later, began, changed, kept_at, left_spell, past_without}
use Rattle.trace_layout.proofs.WhichEvent.{is_leaving, leaves_none, leaving_at, never_going, takes_none, taking_at}
use Rattle.trace_layout.proofs.Turns.{latest_kept, latest_more, turns_began, turns_ended, turns_later, turns_left, turns_own, turns_past}
use Rattle.trace_layout.specs.declared.spells.SpellEnd.{SpellEnd}
use Rattle.trace_layout.specs.declared.spells.SpellEnd.TheVariants.{Parked, Ended, Left, Going}

-- ---- at the start
none_at : (n w : ℕ) → get_or (replicate {A = Option ℕ} n None) w None ≡ None
none_at zero w = refl
none_at (suc n) zero = refl
none_at (suc n) (suc w) = none_at n w

nothing_so_far : (es : List Event) (last : ℕ) → AreSpellsSoFar es 0 last (replicate 64 None) []
nothing_so_far es last = record {
  each = All-nil (IsSpellSoFar es 0 last);
  order = λ i j d lt p. absurd (omega arith);
  apart = λ i j d lt p same. absurd (omega arith);
  going = λ k d p is. absurd (omega arith);
  held = λ w k found. absurd (none-some k (sym (none_at 64 w) ∙ found));
}

pub hands_at_first : (es : List Event) (h : Hands) → h.last ≡ length es - 1 → h.spells.items ≡ [] → h.tasks.entries ≡ []
    → h.workers ≡ replicate 64 None → AreHands es 0 h
hands_at_first es h last items tasks workers = record {
  last = last;
  hands = ap length workers;
  spells = subst (λ (w : List (Option ℕ)). AreSpellsSoFar es 0 h.last w h.spells.items) (sym workers)
      (subst (AreSpellsSoFar es 0 h.last (replicate 64 None)) (sym items) (nothing_so_far es h.last));
  tasks = λ path k found. absurd (none-some k (sym (ap (lookup (is_path path)) tasks) ∙ found));
  turns = λ k d there. absurd (omega (arith, ap length items));
  count = ap length items;
}

-- ---- the number of spells
pub as_many : (es : List Event) (n : ℕ) (e : Event) → slice_get es n ≡ Some e → is_taking e ≡ false
    → count_by is_taking (take (n + 1) es) ≡ count_by is_taking (take n es)
as_many es n e at is =
    count_by_more_no is_taking es n e (slice_get_within es n e at)
    (ap is_taking (get_or_from_slice_get es n e e at) ∙ is)

pub one_more : (es : List Event) (n : ℕ) (e : Event) → slice_get es n ≡ Some e → is_taking e ≡ true
    → count_by is_taking (take (n + 1) es) ≡ count_by is_taking (take n es) + 1
one_more es n e at is =
    count_by_more_yes is_taking es n e (slice_get_within es n e at)
    (ap is_taking (get_or_from_slice_get es n e e at) ∙ is)

-- ---- no spell changes
-- no worker takes a task that was taken before
latest_on : (es : List Event) (n : ℕ) (e : Event) → slice_get es n ≡ Some e → is_taking e ≡ false
    → (s : Spell) → IsLatest es s n → IsLatest es s (n + 1)
latest_on es n e at is s =
    latest_more es n s (λ worker. takes_none es n e (record { worker = worker; path = s.path.turns.items }) at is)

task_later : (es : List Event) (n m : ℕ) (ss : List Spell) (path : List ℕ) (k : ℕ) → ((s : Spell) → IsLatest es s n → IsLatest es s m)
    → IsOfTask es n ss path k → IsOfTask es m ss path k
task_later es n m ss path k on h = record { there = h.there; same = h.same; latest = λ d. on (get_or ss k d) (h.latest d) }

with_turns : (es : List Event) (n : ℕ) (e : Event) (h : Hands) → slice_get es n ≡ Some e → is_taking e ≡ false
    → AreInTurn es (n + 1) (get is_path h.tasks) h.spells.items → AreHands es n h → AreHands es (n + 1) h
with_turns es n e h at is turns was = record {
  last = was.last;
  hands = was.hands;
  spells = all_later es n (n + 1) h.last h.workers h.spells.items (omega arith) was.spells;
  tasks = λ path k found.
      task_later es n (n + 1) h.spells.items path.turns.items k (latest_on es n e at is) (was.tasks path k found);
  turns = turns;
  count = was.count ∙ sym (as_many es n e at is);
}

pub later : (es : List Event) (n : ℕ) (e : Event) (h : Hands) → slice_get es n ≡ Some e → is_taking e ≡ false → is_leaving e ≡ false
    → AreHands es n h → AreHands es (n + 1) h
later es n e h at is stays was =
    with_turns es n e h at is
    (turns_later es n (get is_path h.tasks) h.spells.items (λ path f. leaves_none es n e path f at stays) was.turns) was

-- ---- a spell changes
task_kept : (es : List Event) (n : ℕ) (ss : List Spell) (k : ℕ) (t : Spell) (path : List ℕ) (j : ℕ) → k < length ss → ((d : Spell) → Keeps (get_or ss k d) t)
    → IsOfTask es n ss path j → IsOfTask es n (set ss k t) path j
task_kept es n ss k t path j there keeps h = record {
  there = omega (arith, length-set ss k t, h.there);
  same = λ d. (kept_at ss k t there keeps j d).path ∙ h.same d;
  latest = λ d. latest_kept es n (get_or ss j d) (get_or (set ss k t) j d) (kept_at ss k t there keeps j d) (h.latest d);
}

pub hands_changed : (es : List Event) (n m : ℕ) (h g : Hands) (k : ℕ) (t : Spell) → n ≤ m → k < length h.spells.items
    → ((d : Spell) → Keeps (get_or h.spells.items k d) t) → IsSpellSoFar es m h.last t
    → count_by is_taking (take m es) ≡ count_by is_taking (take n es) → ((s : Spell) → IsLatest es s n → IsLatest es s m)
    → AreInTurn es m (get is_path h.tasks) (set h.spells.items k t)
    → g.spells.items ≡ set h.spells.items k t → g.tasks ≡ h.tasks → g.workers ≡ h.workers → g.last ≡ h.last
    → AreHands es n h → AreHands es m g
hands_changed es n m h g k t le there keeps is many on turns items tasks workers last was = record {
  last = last ∙ was.last;
  hands = ap length workers ∙ was.hands;
  spells =
      subst (λ (l : ℕ). AreSpellsSoFar es m l g.workers g.spells.items) (sym last)
      (subst (λ (w : List (Option ℕ)). AreSpellsSoFar es m h.last w g.spells.items) (sym workers)
      (subst (AreSpellsSoFar es m h.last h.workers) (sym items)
      (changed es n m h.last h.workers h.spells.items k t le there keeps is was.spells)));
  tasks = λ path j found.
      subst (λ (ss : List Spell). IsOfTask es m ss path.turns.items j) (sym items)
      (task_kept es m h.spells.items k t path.turns.items j there keeps
      (task_later es n m h.spells.items path.turns.items j on
      (was.tasks path j (subst (λ m. get is_path m path ≡ Some j) tasks found))));
  turns =
      subst (AreInTurn es m (get is_path g.tasks)) (sym items)
      (subst (λ m_tasks. AreInTurn es m (get is_path m_tasks) (set h.spells.items k t)) (sym tasks) turns);
  count = ap length items ∙ length-set h.spells.items k t ∙ was.count ∙ sym many;
}

-- ---- a spell starts
task_stays : (es : List Event) (n : ℕ) (ss : List Spell) (s : Spell) (path : List ℕ) (j : ℕ)
    → ((worker : ℕ) → taken_at es n ≡ Some (record { worker = worker; path = path }) → ⊥)
    → IsOfTask es n ss path j → IsOfTask es (n + 1) (ss ++ s ∷ []) path j
task_stays es n ss s path j never h = record {
  there = omega (arith, length_push ss s, h.there);
  same = λ d. ap (λ (x : Spell). x.path.turns.items) (get_or_append_left ss (s ∷ []) d j h.there) ∙ h.same d;
  latest = λ d.
      subst (λ (x : Spell). IsLatest es x (n + 1)) (sym (get_or_append_left ss (s ∷ []) d j h.there))
      (latest_more es n (get_or ss j d)
      (λ worker takes. never worker (takes ∙ ap (λ (p : List ℕ). Some (record { worker = worker; path = p })) (h.same d)))
      (h.latest d));
}

new_task : (es : List Event) (n : ℕ) (ss : List Spell) (s : Spell) → s.first ≡ n → IsOfTask es (n + 1) (ss ++ s ∷ []) s.path.turns.items (length ss)
new_task es n ss s first = record {
  there = omega (arith, length_push ss s);
  same = λ d. ap (λ (x : Spell). x.path.turns.items) (get_or_push ss s d (length ss) refl);
  latest = λ d.
      subst (λ (x : Spell). IsLatest es x (n + 1)) (sym (get_or_push ss s d (length ss) refl))
      (λ m worker behind before takes. absurd (omega arith));
}

-- at one event no other task is taken
takes_one : (es : List Event) (n worker other : ℕ) (key path : List ℕ) → pointwise nat_eq key path ≡ false
    → taken_at es n ≡ Some (record { worker = worker; path = key }) → taken_at es n ≡ Some (record { worker = other; path = path }) → ⊥
takes_one es n worker other key path never takes others =
    let one = same_Some (record { worker = worker; path = key }) (record { worker = other; path = path }) (sym takes ∙ others) in
    let same : key ≡ path = ap (λ (y : Hold). y.path) one in
    let both : true ≡ false = sym ((bytes_eq-Decides key path).1 same) ∙ never in
    cc

tasks_after : (es : List Event) (n : ℕ) (b : Bool) (ss : List Spell) (s : Spell) (key other : List ℕ) (j : ℕ) (old : Option ℕ)
    → pointwise nat_eq key other ≡ b → s.path.turns.items ≡ key → s.first ≡ n
    → taken_at es n ≡ Some (record { worker = s.worker; path = s.path.turns.items })
    → ((i : ℕ) → old ≡ Some i → IsOfTask es n ss other i)
    → cond b (Some (length ss)) old ≡ Some j → IsOfTask es (n + 1) (ss ++ s ∷ []) other j
tasks_after es n true ss s key other j old same is first takes was found =
    subst (λ (p : List ℕ). IsOfTask es (n + 1) (ss ++ s ∷ []) p j) (is ∙ (bytes_eq-Decides key other).0 same)
    (subst (IsOfTask es (n + 1) (ss ++ s ∷ []) s.path.turns.items) (same_Some (length ss) j found) (new_task es n ss s first))
tasks_after es n false ss s key other j old same is first takes was found =
    task_stays es n ss s other j
    (λ worker others. takes_one es n s.worker worker key other same
    (takes ∙ ap (λ (p : List ℕ). Some (record { worker = s.worker; path = p })) is) others)
    (was j found)

pub hands_began : (es : List Event) (n : ℕ) (e : Event) (h g : Hands) (s : Spell) (key : Path) → slice_get es n ≡ Some e → is_taking e ≡ true
    → s.worker < length h.workers → s.first ≡ n → s.path.turns.items ≡ key.turns.items
    → IsSpellSoFar es (n + 1) h.last s → s.ending ≡ Going
    → g.spells.items ≡ h.spells.items ++ s ∷ []
    → ((other : Path) → get is_path g.tasks other ≡ cond (is_path key other) (Some (length h.spells.items)) (get is_path h.tasks other))
    → g.workers ≡ set h.workers s.worker (Some (length h.spells.items)) → g.last ≡ h.last
    → IsEmptyHand es n s.worker h → AreHands es (n + 1) g
hands_began es n e h g s key at takes hand first path is going items tasks workers last empty =
    let was = empty.hands in
    let takes_it : taken_at es n ≡ Some (record { worker = s.worker; path = s.path.turns.items }) =
    ap (taken_at es) (sym first) ∙ is.begins in
    let le : n ≤ h.last = omega (arith, was.last, slice_get_within es n e at) in
    record {
      last = last ∙ was.last;
      hands = ap length workers ∙ length-set h.workers s.worker (Some (length h.spells.items)) ∙ was.hands;
      spells =
          subst (λ (l : ℕ). AreSpellsSoFar es (n + 1) l g.workers g.spells.items) (sym last)
          (subst (λ (w : List (Option ℕ)). AreSpellsSoFar es (n + 1) h.last w g.spells.items) (sym workers)
          (subst (AreSpellsSoFar es (n + 1) h.last (set h.workers s.worker (Some (length h.spells.items)))) (sym items)
          (began es n h.last h.workers h.spells.items s le hand first is empty.past was.spells)));
      tasks = λ other j found.
          subst (λ (ss : List Spell). IsOfTask es (n + 1) ss other.turns.items j) (sym items)
          (tasks_after es n (is_path key other) h.spells.items s key.turns.items other.turns.items j (get is_path h.tasks other) refl path first
          takes_it (λ i old. was.tasks other i old) (sym (tasks other) ∙ found));
      turns = subst (AreInTurn es (n + 1) (get is_path g.tasks)) (sym items)
          (turns_began es n (get is_path h.tasks) (get is_path g.tasks) h.spells.items s key takes_it first going path tasks
          (λ k d there. (was.spells.each k d there).before) was.turns);
      count = ap length items ∙ length_push h.spells.items s ∙ ap (λ (c : ℕ). c + 1) was.count ∙ sym (one_more es n e at takes);
    }

-- ---- a task that is in no hand would leave it
pub later_unless : (es : List Event) (n : ℕ) (path : Path) (e : SpellEnd) (h : Hands) → IsLeaving es n path.turns.items e
    → ((k : ℕ) (d : Spell) → get is_path h.tasks path ≡ Some k → k < length h.spells.items → (get_or h.spells.items k d).ending ≡ Going → ⊥)
    → AreHands es n h → AreHands es (n + 1) h
later_unless es n path e h leaving none was =
    let at = leaving_at es n path.turns.items e leaving in
    with_turns es n at.event h at.at at.is
    (turns_past es n h.last (get is_path h.tasks) h.spells.items path e leaving none was.spells.each was.turns) was

-- ---- a task leaves its worker's hand
ends_so : (es : List Event) (n last : ℕ) (t : Spell) (e : SpellEnd) → IsLeaving es n t.path.turns.items e → t.last ≡ n → IsEndingSoFar es (n + 1) last t e
ends_so es n last t Parked h is = (ap (parked_at es) is ∙ h, omega arith)
ends_so es n last t Ended h is = (ap (ended_at es) is ∙ h, omega arith)
ends_so es n last t Left h is = absurd h
ends_so es n last t Going h is = absurd h

pub hands_ended : (es : List Event) (n : ℕ) (path : Path) (e : SpellEnd) (h g : Hands) (k own : ℕ) (s : Spell)
    → IsLeaving es n path.turns.items e → get is_path h.tasks path ≡ Some k → k < length h.spells.items → ((d : Spell) → get_or h.spells.items k d ≡ s)
    → s.ending ≡ Going → s.path.turns.items ≡ path.turns.items
    → g.spells.items ≡ set h.spells.items k (record s { own = own; last = n; ending = e }) → g.tasks ≡ h.tasks → g.workers ≡ h.workers → g.last ≡ h.last
    → AreHands es n h → AreHands es (n + 1) g
hands_ended es n path e h g k own s leaving found there at going same items tasks workers last was =
    let number = leaving_at es n path.turns.items e leaving in
    let within : n < length es = slice_get_within es n number.event number.at in
    let t : Spell = record s { own = own; last = n; ending = e } in
    let is : IsSpellSoFar es n h.last s = subst (IsSpellSoFar es n h.last) (at s) (was.spells.each k s there) in
    let to_last : s.last ≡ h.last = subst (λ (x : SpellEnd). IsEndingSoFar es n h.last s x) going is.ends in
    hands_changed es n (n + 1) h g k t (omega arith) there
    (λ d. subst (λ (x : Spell). Keeps x t) (sym (at d)) (record {
      worker = refl;
      path = refl;
      first = refl;
      last = omega (arith, was.last);
      going = λ x. absurd (never_going es n path.turns.items e leaving x);
    }))
    (record {
      begins = is.begins;
      ends = ends_so es n h.last t e (subst (λ (p : List ℕ). IsLeaving es n p e) (sym same) leaving) refl;
      forward = omega (arith, is.before);
      before = omega (arith, is.before);
      within = omega (arith, was.last);
    })
    (as_many es n number.event number.at number.is) (latest_on es n number.event number.at number.is)
    (turns_ended es n h.last (get is_path h.tasks) h.spells.items k own path e s (omega (arith, was.last)) there found going same leaving
    (subst (λ (x : Spell). IsLatest es x n) (at s) ((was.tasks path k found).latest s)) is
    (subst (IsInTurn es n (get is_path h.tasks) k) (at s) (was.turns k s there)) was.turns)
    items tasks workers last was

-- ---- a task stays in its worker's hand
pub hands_went_on : (es : List Event) (n : ℕ) (h g : Hands) (k own : ℕ) (s : Spell)
    → k < length h.spells.items → ((d : Spell) → get_or h.spells.items k d ≡ s)
    → g.spells.items ≡ set h.spells.items k (record s { own = own }) → g.tasks ≡ h.tasks → g.workers ≡ h.workers → g.last ≡ h.last
    → AreHands es n h → AreHands es n g
hands_went_on es n h g k own s there at items tasks workers last was =
    let t : Spell = record s { own = own } in
    let is : IsSpellSoFar es n h.last s = subst (IsSpellSoFar es n h.last) (at s) (was.spells.each k s there) in
    hands_changed es n n h g k t (omega arith) there
    (λ d. subst (λ (x : Spell). Keeps x t) (sym (at d))
    (record { worker = refl; path = refl; first = refl; last = omega arith; going = λ x. x }))
    (record { begins = is.begins; ends = is.ends; forward = is.forward; before = is.before; within = is.within })
    refl (λ x latest. latest)
    (turns_own es n (get is_path h.tasks) h.spells.items k own s there
    (subst (IsInTurn es n (get is_path h.tasks) k) (at s) (was.turns k s there)) was.turns)
    items tasks workers last was

-- ---- a worker leaves the task in its hand
past_last : (es : List Event) (n : ℕ) (y : Hold) (h : Hands) → taken_at es n ≡ Some y → AreHands es n h → n ≤ h.last + 1
past_last es n y h at was =
    let number = taking_at es n y at in
    let within : n < length es = slice_get_within es n number.event number.at in
    omega (arith, was.last)

pub hand_left : (es : List Event) (n : ℕ) (y : Hold) (h g : Hands) (k : ℕ) (s t : Spell) → taken_at es n ≡ Some y
    → get_or h.workers y.worker None ≡ Some k → ((d : Spell) → get_or h.spells.items k d ≡ s) → IsLeft n s t
    → g.spells.items ≡ set h.spells.items k t → g.tasks ≡ h.tasks → g.workers ≡ h.workers → g.last ≡ h.last
    → AreHands es n h → IsEmptyHand es n y.worker g
hand_left es n y h g k s t taking hand at left items tasks workers last was =
    let held = was.spells.held y.worker k hand in
    let is : IsSpellSoFar es n h.last s = subst (IsSpellSoFar es n h.last) (at s) (was.spells.each k s held.there) in
    let same : y.worker ≡ s.worker = sym (ap (λ (x : Spell). x.worker) (sym (at s)) ∙ held.same s) in
    let new = left_spell es n h.last s t y (past_last es n y h taking was) taking same is left in
    let now : AreHands es n g = hands_changed es n n h g k t (omega arith) held.there
    (λ d. subst (λ (x : Spell). Keeps x t) (sym (at d)) new.0) new.1.0 refl (λ x latest. latest)
    (turns_left es n h.last (get is_path h.tasks) h.spells.items k s t (past_last es n y h taking was) held.there left is
    (subst (IsInTurn es n (get is_path h.tasks) k) (at s) (was.turns k s held.there)) was.turns)
    items tasks workers last was in
    record {
      hands = now;
      past = past_without es n g.last g.workers g.spells.items y.worker now.spells
          (λ j d there worker going found.
          let j_is : k ≡ j = same_Some k j (sym hand ∙ ap (λ (w : List (Option ℕ)). get_or w y.worker None) (sym workers) ∙ found) in
          let this : get_or g.spells.items j d ≡ t =
          ap (λ (l : List Spell). get_or l j d) items ∙ ap (λ (i : ℕ). get_or (set h.spells.items k t) i d) (sym j_is)
          ∙ get_or-set_same h.spells.items k t d held.there in
          subst (λ (x : Spell). x.last < n) (sym this) new.1.1);
    }

-- ---- at the end
is_whole : (es : List Event) (s : Spell) (last : ℕ) (e : SpellEnd) → last + 1 ≡ length es → IsEndingSoFar es (length es) last s e → IsEnding es s e
is_whole es s last Parked is h = h.0
is_whole es s last Ended is h = h.0
is_whole es s last Left is h = h.0
is_whole es s last Going is h = omega (arith, h)

whole_spell : (es : List Event) (last : ℕ) (found : Path → Option ℕ) (k : ℕ) (s : Spell) → last ≡ length es - 1 → IsSpellSoFar es (length es) last s
    → IsInTurn es (length es) found k s → IsSpell es s
whole_spell es last found k s is h turn =
    let there : last + 1 ≡ length es = omega (arith, h.before) in
    record {
      begins = h.begins;
      ends = is_whole es s last s.ending there h.ends;
      forward = h.forward;
      within = omega (arith, h.within);
      inside = λ n e behind leaves latest.
          let at = leaving_at es n s.path.turns.items e leaves in
          turn.inside n e (slice_get_within es n at.event at.at) behind leaves latest;
      latest = turn.latest;
    }

pub all_spells : (es : List Event) (n : ℕ) (h : Hands) (r : Spells) → n ≡ length es → r.all.items ≡ h.spells.items → length r.places.items ≡ n
    → AreHands es n h → AreSpells es r
all_spells es n h r n_is items places now =
    let was : AreHands es (length es) h = subst (λ (m : ℕ). AreHands es m h) n_is now in
    record {
      each = subst (All (IsSpell es)) (sym items)
          (λ k d there.
          whole_spell es h.last (get is_path h.tasks) k (get_or h.spells.items k d) was.last (was.spells.each k d there) (was.turns k d there));
      order = subst AreInOrder (sym items) was.spells.order;
      apart = subst AreApart (sym items) was.spells.apart;
      count = ap length items ∙ was.count ∙ ap (count_by is_taking) (take_all (length es) es (omega arith));
      places = places ∙ n_is;
    }

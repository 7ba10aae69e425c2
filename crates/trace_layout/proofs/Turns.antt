-- No spell goes past a park or end of its task.
use Rattle.std.proofs.Common.{◌≡◌, ℕ, ◌+◌, ◌-◌, ◌<◌, ◌≤◌, List, [], ◌∷◌, ◌++◌, length, get_or, set, Option, Some, Bool, true, false, ap, sym, ◌∙◌, refl, subst, arith, ⊎_elim, inl, inr}
use Rattle.std.specs.Prelude.{cond}
use Rattle.std.specs.Cmp.Lexicographic.{pointwise}
use Rattle.std.proofs.Common.{nat_eq}
use Rattle.std.proofs.lemmas.Bool.{cases_eq, cases_lt}
use Rattle.std.proofs.lemmas.List.{get_or-set_other, get_or-set_same, get_or_append_left, get_or_push, length-set, length_push}
use Rattle.std.proofs.lemmas.Option.{same_Some}
use Rattle.std.proofs.lemmas.Slice.Eq.{bytes_eq-Decides}
use Rattle.events.specs.declared.event.Event.{Event}
use Rattle.types.specs.Translation.{is_path}
use Rattle.types.specs.declared.path.Path.{Path}
use Rattle.trace_layout.specs.Hands.{AreInTurn, IsInTurn, IsSpellSoFar}
use Rattle.trace_layout.specs.Spells.{IsLatest, IsLeaving, IsOver, taken_at}
use Rattle.trace_layout.specs.declared.spells.SpellEnd.{SpellEnd}
use Rattle.trace_layout.specs.declared.spells.SpellEnd.TheVariants.{Left, Going}
use Rattle.trace_layout.specs.declared.spells.Spell.{Spell}
use Rattle.trace_layout.proofs.Changes.{IsLeft, Keeps, going_to_last, is_going_or_not, past_or_going}
use Rattle.trace_layout.proofs.WhichEvent.{leaves_one, never_going, taking_leaves_none}

-- ---- whether a worker takes the task again
pub latest_more : (es : List Event) (n : ℕ) (s : Spell) → ((worker : ℕ) → taken_at es n ≡ Some (record { worker = worker; path = s.path.turns.items }) → ⊥)
    → IsLatest es s n → IsLatest es s (n + 1)
latest_more es n s never latest m worker behind before takes =
    ⊎_elim
    (λ lt. latest m worker behind lt takes)
    (λ past. let is : m ≡ n = omega arith in never worker (ap (taken_at es) (sym is) ∙ takes))
    (cases_lt m n)

pub latest_less : (es : List Event) (n : ℕ) (s : Spell) → IsLatest es s (n + 1) → IsLatest es s n
latest_less es n s latest m worker behind before takes = latest m worker behind (omega arith) takes

pub latest_kept : (es : List Event) (n : ℕ) (s t : Spell) → Keeps s t → IsLatest es s n → IsLatest es t n
latest_kept es n s t keeps latest m worker behind before takes =
    latest m worker (omega (arith, keeps.first)) before
    (takes ∙ ap (λ (p : List ℕ). Some (record { worker = worker; path = p })) keeps.path)

-- ---- one more event
turn_more : (es : List Event) (n : ℕ) (found new : Path → Option ℕ) (k : ℕ) (s : Spell)
    → ((e : SpellEnd) → s.first ≤ n → IsLeaving es n s.path.turns.items e → IsLatest es s n → IsOver s n e)
    → ((path : Path) → path.turns.items ≡ s.path.turns.items → IsLatest es s (n + 1) → found path ≡ Some k → new path ≡ Some k)
    → IsInTurn es n found k s → IsInTurn es (n + 1) new k s
turn_more es n found new k s this still was = record {
  inside = λ m e before behind leaves latest.
      ⊎_elim
      (λ lt. was.inside m e lt behind leaves latest)
      (λ past.
      let is : m ≡ n = omega arith in
      subst (λ (i : ℕ). IsOver s i e) (sym is)
      (this e (omega arith) (subst (λ (i : ℕ). IsLeaving es i s.path.turns.items e) is leaves) (subst (IsLatest es s) is latest)))
      (cases_lt m n);
  latest = was.latest;
  named = λ path same latest. still path same latest (was.named path same (latest_less es n s latest));
}

-- one at which no task leaves its worker's hand, nor comes into one
pub turns_later : (es : List Event) (n : ℕ) (found : Path → Option ℕ) (ss : List Spell)
    → ((path : List ℕ) (e : SpellEnd) → IsLeaving es n path e → ⊥) → AreInTurn es n found ss → AreInTurn es (n + 1) found ss
turns_later es n found ss never was k d there =
    turn_more es n found found k (get_or ss k d) (λ e behind leaves latest. absurd (never (get_or ss k d).path.turns.items e leaves))
    (λ path same latest is. is) (was k d there)

-- one at which a task would leave its worker's hand if it were in one
pub turns_past : (es : List Event) (n last : ℕ) (found : Path → Option ℕ) (ss : List Spell) (path : Path) (e : SpellEnd) → IsLeaving es n path.turns.items e
    → ((k : ℕ) (d : Spell) → found path ≡ Some k → k < length ss → (get_or ss k d).ending ≡ Going → ⊥)
    → ((k : ℕ) (d : Spell) → k < length ss → IsSpellSoFar es n last (get_or ss k d))
    → AreInTurn es n found ss → AreInTurn es (n + 1) found ss
turns_past es n last found ss path e leaving none each was k d there =
    let s = get_or ss k d in
    turn_more es n found found k s
    (λ f behind leaves latest.
    let one = leaves_one es n path.turns.items s.path.turns.items e f leaving leaves in
    ⊎_elim (λ past. inl past)
    (λ going. absurd (none k d ((was k d there).named path one.0 latest) there going))
    (past_or_going es n last s (each k d there)))
    (λ other same latest is. is) (was k d there)

-- ---- an open spell has passed none
passed_none : (es : List Event) (n last : ℕ) (found : Path → Option ℕ) (k : ℕ) (s : Spell) → n ≤ last + 1 → s.ending ≡ Going → IsSpellSoFar es n last s
    → IsInTurn es n found k s → (m : ℕ) (e : SpellEnd) → m < n → s.first ≤ m → IsLeaving es m s.path.turns.items e → IsLatest es s m → ⊥
passed_none es n last found k s le going is was m e before behind leaves latest =
    let to_last : s.last ≡ last = going_to_last es n last s s.ending going is.ends in
    ⊎_elim
    (λ past. omega arith)
    (λ at. never_going es m s.path.turns.items e leaves (sym at.1 ∙ going))
    (was.inside m e before behind leaves latest)

-- ---- a spell changes
pub turns_set : (es : List Event) (n m : ℕ) (found : Path → Option ℕ) (ss : List Spell) (k : ℕ) (t : Spell) → k < length ss → IsInTurn es m found k t
    → ((j : ℕ) (d : Spell) → j < length ss → (j ≡ k → ⊥) → IsInTurn es n found j (get_or ss j d) → IsInTurn es m found j (get_or ss j d))
    → AreInTurn es n found ss → AreInTurn es m found (set ss k t)
turns_set es n m found ss k t there is others was j d within =
    ⊎_elim
    (λ same. subst (λ (i : ℕ). IsInTurn es m found i (get_or (set ss k t) i d)) (sym same)
    (subst (IsInTurn es m found k) (sym (get_or-set_same ss k t d there)) is))
    (λ other.
    let before : j < length ss = omega (arith, length-set ss k t) in
    subst (IsInTurn es m found j) (sym (get_or-set_other ss k j t d other)) (others j d before other (was j d before)))
    (cases_eq j k)

-- its task leaves its worker's hand
turn_ended : (es : List Event) (n last : ℕ) (found : Path → Option ℕ) (k own : ℕ) (e : SpellEnd) (s : Spell) → n ≤ last → s.ending ≡ Going
    → IsLeaving es n s.path.turns.items e → IsLatest es s n → IsSpellSoFar es n last s
    → IsInTurn es n found k s → IsInTurn es (n + 1) found k (record s { own = own; last = n; ending = e })
turn_ended es n last found k own e s le going leaving latest is was =
    let t : Spell = record s { own = own; last = n; ending = e } in
    record {
      inside = λ m f before behind leaves last_so.
          ⊎_elim
          (λ lt. absurd (passed_none es n last found k s (omega arith) going is was m f lt behind leaves last_so))
          (λ past.
          let at : m ≡ n = omega arith in
          let one = leaves_one es n s.path.turns.items s.path.turns.items e f leaving
          (subst (λ (i : ℕ). IsLeaving es i s.path.turns.items f) at leaves) in
          inr (sym at, one.1))
          (cases_lt m n);
      latest = λ leaves. latest;
      named = λ path same so. was.named path same (latest_less es n s so);
    }

pub turns_ended : (es : List Event) (n last : ℕ) (found : Path → Option ℕ) (ss : List Spell) (k own : ℕ) (path : Path) (e : SpellEnd) (s : Spell)
    → n ≤ last → k < length ss → found path ≡ Some k → s.ending ≡ Going → s.path.turns.items ≡ path.turns.items
    → IsLeaving es n path.turns.items e → IsLatest es s n → IsSpellSoFar es n last s → IsInTurn es n found k s
    → AreInTurn es n found ss → AreInTurn es (n + 1) found (set ss k (record s { own = own; last = n; ending = e }))
turns_ended es n last found ss k own path e s le there is_found going same leaving latest is this was =
    turns_set es n (n + 1) found ss k (record s { own = own; last = n; ending = e }) there
    (turn_ended es n last found k own e s le going (subst (λ (p : List ℕ). IsLeaving es n p e) (sym same) leaving) latest is this)
    (λ j d within other turn.
    let u = get_or ss j d in
    turn_more es n found found j u
    (λ f behind leaves so.
    let one = leaves_one es n path.turns.items u.path.turns.items e f leaving leaves in
    absurd (other (same_Some j k (sym (turn.named path one.0 so) ∙ is_found))))
    (λ at p so f. f) turn)
    was

-- its task stays in its worker's hand
pub turns_own : (es : List Event) (n : ℕ) (found : Path → Option ℕ) (ss : List Spell) (k own : ℕ) (s : Spell) → k < length ss → IsInTurn es n found k s
    → AreInTurn es n found ss → AreInTurn es n found (set ss k (record s { own = own }))
turns_own es n found ss k own s there this was =
    turns_set es n n found ss k (record s { own = own }) there
    (record { inside = this.inside; latest = this.latest; named = this.named })
    (λ j d within other turn. turn) was

-- its worker leaves it
turn_left : (es : List Event) (n last : ℕ) (found : Path → Option ℕ) (k : ℕ) (s : Spell) → n ≤ last + 1 → s.ending ≡ Going → IsSpellSoFar es n last s
    → IsInTurn es n found k s → IsInTurn es n found k (record s { ending = Left; last = n - 1 })
turn_left es n last found k s le going is was = record {
  inside = λ m e before behind leaves latest. absurd (passed_none es n last found k s le going is was m e before behind leaves latest);
  latest = λ leaves. absurd leaves;
  named = was.named;
}

pub turns_left : (es : List Event) (n last : ℕ) (found : Path → Option ℕ) (ss : List Spell) (k : ℕ) (s t : Spell) → n ≤ last + 1 → k < length ss → IsLeft n s t
    → IsSpellSoFar es n last s → IsInTurn es n found k s
    → AreInTurn es n found ss → AreInTurn es n found (set ss k t)
turns_left es n last found ss k s t le there left is this was =
    turns_set es n n found ss k t there
    (⊎_elim
    (λ going. subst (IsInTurn es n found k) (sym (left.going going)) (turn_left es n last found k s le going is this))
    (λ ended. subst (IsInTurn es n found k) (sym (left.ended ended)) this)
    (is_going_or_not s.ending))
    (λ j d within other turn. turn) was

-- ---- a spell starts
found_still : (b : Bool) (found : Option ℕ) (k place : ℕ) → (b ≡ true → ⊥) → found ≡ Some k → cond b (Some place) found ≡ Some k
found_still true found k place never is = absurd (never refl)
found_still false found k place never is = is

found_new : (key path : List ℕ) (place : ℕ) (old : Option ℕ) → path ≡ key → cond (pointwise nat_eq key path) (Some place) old ≡ Some place
found_new key path place old same = ap (λ (b : Bool). cond b (Some place) old) ((bytes_eq-Decides key path).1 (sym same))

turn_new : (es : List Event) (n place : ℕ) (new : Path → Option ℕ) (s : Spell) → taken_at es n ≡ Some (record { worker = s.worker; path = s.path.turns.items })
    → s.first ≡ n → s.ending ≡ Going → ((path : Path) → path.turns.items ≡ s.path.turns.items → new path ≡ Some place)
    → IsInTurn es (n + 1) new place s
turn_new es n place new s takes first going found = record {
  inside = λ m e before behind leaves latest.
      let at : m ≡ n = omega arith in
      absurd (taking_leaves_none es n (record { worker = s.worker; path = s.path.turns.items }) s.path.turns.items e takes
      (subst (λ (i : ℕ). IsLeaving es i s.path.turns.items e) at leaves));
  latest = λ leaves. absurd (never_going es s.last s.path.turns.items s.ending leaves going);
  named = λ path same latest. found path same;
}

pub turns_began : (es : List Event) (n : ℕ) (found new : Path → Option ℕ) (ss : List Spell) (s : Spell) (key : Path)
    → taken_at es n ≡ Some (record { worker = s.worker; path = s.path.turns.items }) → s.first ≡ n → s.ending ≡ Going
    → s.path.turns.items ≡ key.turns.items → ((path : Path) → new path ≡ cond (is_path key path) (Some (length ss)) (found path))
    → ((k : ℕ) (d : Spell) → k < length ss → (get_or ss k d).first < n)
    → AreInTurn es n found ss → AreInTurn es (n + 1) new (ss ++ s ∷ [])
turns_began es n found new ss s key takes first going same is earlier was k d there =
    ⊎_elim
    (λ before.
    let u = get_or ss k d in
    subst (IsInTurn es (n + 1) new k) (sym (get_or_append_left ss (s ∷ []) d k before))
    (turn_more es n found new k u
    (λ e behind leaves latest.
    absurd (taking_leaves_none es n (record { worker = s.worker; path = s.path.turns.items }) u.path.turns.items e takes leaves))
    (λ path p latest f. is path ∙ found_still (is_path key path) (found path) k (length ss)
    (λ does. latest n s.worker (earlier k d before) (omega arith)
    (takes ∙ ap (λ (q : List ℕ). Some (record { worker = s.worker; path = q }))
    (same ∙ (bytes_eq-Decides key.turns.items path.turns.items).0 does ∙ p)))
    f)
    (was k d before)))
    (λ behind.
    let at : length ss ≡ k = omega (arith, length_push ss s) in
    subst (IsInTurn es (n + 1) new k) (sym (get_or_push ss s d k at))
    (subst (λ (i : ℕ). IsInTurn es (n + 1) new i s) at
    (turn_new es n (length ss) new s takes first going
    (λ path p. is path ∙ found_new key.turns.items path.turns.items (length ss) (found path) (p ∙ same)))))
    (cases_lt k (length ss))

-- Spells after one more event.
use Rattle.std.proofs.Common.{◌≡◌, ℕ, ◌+◌, ◌-◌, ◌<◌, ◌≤◌, List, [], ◌∷◌, ◌++◌, length, get_or, set, Option, Some, None, ap, sym, ◌∙◌, refl, subst, arith, ⊎_elim, inl, inr}
use Rattle.std.specs.Prelude.{◌⊎◌, All}
use Rattle.std.proofs.lemmas.Bool.{cases_eq, cases_lt}
use Rattle.std.proofs.lemmas.List.{get_or-set_other, get_or-set_same, get_or_append_left, get_or_push, length-set, length_push}
use Rattle.std.proofs.lemmas.List.Elements.{All-push, All-set, All-weaker}
use Rattle.std.proofs.lemmas.List.Quantifiers.{all_pairs_push}
use Rattle.std.proofs.lemmas.Option.{same_Some}
use Rattle.events.specs.declared.event.Event.{Event}
use Rattle.trace_layout.specs.Hands.{AreSpellsSoFar, IsEndingSoFar, IsOfWorker, IsSpellSoFar}
use Rattle.trace_layout.specs.Spells.{Hold, taken_at}
use Rattle.trace_layout.specs.declared.spells.SpellEnd.{SpellEnd}
use Rattle.trace_layout.specs.declared.spells.SpellEnd.TheVariants.{Parked, Ended, Left, Going}
use Rattle.trace_layout.specs.declared.spells.Spell.{Spell}

-- ---- later
ending_later : (es : List Event) (n m last : ℕ) (s : Spell) (e : SpellEnd) → n ≤ m → IsEndingSoFar es n last s e → IsEndingSoFar es m last s e
ending_later es n m last s Parked le h = (h.0, omega (arith, h.1))
ending_later es n m last s Ended le h = (h.0, omega (arith, h.1))
ending_later es n m last s Left le h = (h.0, omega (arith, h.1))
ending_later es n m last s Going le h = h

pub spell_later : (es : List Event) (n m last : ℕ) (s : Spell) → n ≤ m → IsSpellSoFar es n last s → IsSpellSoFar es m last s
spell_later es n m last s le h = record {
  begins = h.begins;
  ends = ending_later es n m last s s.ending le h.ends;
  forward = h.forward;
  before = omega (arith, h.before);
  within = h.within;
}

pub all_later : (es : List Event) (n m last : ℕ) (workers : List (Option ℕ)) (ss : List Spell) → n ≤ m
    → AreSpellsSoFar es n last workers ss → AreSpellsSoFar es m last workers ss
all_later es n m last workers ss le h = record {
  each = All-weaker (IsSpellSoFar es n last) (IsSpellSoFar es m last) (λ s p. spell_later es n m last s le p) ss h.each;
  order = h.order;
  apart = h.apart;
  going = h.going;
  held = h.held;
}

-- ---- spells that have ended
ended_or_going : (es : List Event) (n last : ℕ) (s : Spell) (e : SpellEnd) → IsEndingSoFar es n last s e → (s.last < n) ⊎ (e ≡ Going)
ended_or_going es n last s Parked h = inl h.1
ended_or_going es n last s Ended h = inl h.1
ended_or_going es n last s Left h = inl h.1
ended_or_going es n last s Going h = inr refl

pub going_to_last : (es : List Event) (n last : ℕ) (s : Spell) (e : SpellEnd) → e ≡ Going → IsEndingSoFar es n last s e → s.last ≡ last
going_to_last es n last s e is h = subst (λ (x : SpellEnd). IsEndingSoFar es n last s x) is h

pub past_or_going : (es : List Event) (n last : ℕ) (s : Spell) → IsSpellSoFar es n last s → (s.last < n) ⊎ (s.ending ≡ Going)
past_or_going es n last s h = ended_or_going es n last s s.ending h.ends

-- ---- a spell that changes
-- a spell that stays where it is, and reaches no further
pub record Keeps (s t : Spell) : Type 0 where
  pub worker : t.worker ≡ s.worker
  pub path : t.path.turns.items ≡ s.path.turns.items
  pub first : t.first ≡ s.first
  pub last : t.last ≤ s.last
  pub going : t.ending ≡ Going → s.ending ≡ Going

keeps_itself : (s : Spell) → Keeps s s
keeps_itself s = record { worker = refl; path = refl; first = refl; last = omega arith; going = λ h. h }

pub kept_at : (ss : List Spell) (k : ℕ) (t : Spell) → k < length ss → ((d : Spell) → Keeps (get_or ss k d) t)
    → (i : ℕ) (d : Spell) → Keeps (get_or ss i d) (get_or (set ss k t) i d)
kept_at ss k t there keeps i d =
    ⊎_elim
    (λ same. subst (λ (j : ℕ). Keeps (get_or ss j d) (get_or (set ss k t) j d)) (sym same)
    (subst (Keeps (get_or ss k d)) (sym (get_or-set_same ss k t d there)) (keeps d)))
    (λ other. subst (Keeps (get_or ss i d)) (sym (get_or-set_other ss k i t d other)) (keeps_itself (get_or ss i d)))
    (cases_eq i k)

pub changed : (es : List Event) (n m last : ℕ) (workers : List (Option ℕ)) (ss : List Spell) (k : ℕ) (t : Spell) → n ≤ m
    → k < length ss → ((d : Spell) → Keeps (get_or ss k d) t) → IsSpellSoFar es m last t
    → AreSpellsSoFar es n last workers ss → AreSpellsSoFar es m last workers (set ss k t)
changed es n m last workers ss k t le there keeps is h =
    let kept = kept_at ss k t there keeps in
    let within : (j : ℕ) → j < length (set ss k t) → j < length ss = λ j p. omega (arith, length-set ss k t) in
    record {
      each = All-set (IsSpellSoFar es m last) ss k t is (all_later es n m last workers ss le h).each;
      order = λ i j d lt p.
          let a : Keeps (get_or ss i d) (get_or (set ss k t) i d) = kept i d in
          let b : Keeps (get_or ss j d) (get_or (set ss k t) j d) = kept j d in
          let o = h.order i j d lt (within j p) in
          omega (arith, a.first, b.first, o);
      apart = λ i j d lt p same.
          let a : Keeps (get_or ss i d) (get_or (set ss k t) i d) = kept i d in
          let b : Keeps (get_or ss j d) (get_or (set ss k t) j d) = kept j d in
          let o = h.apart i j d lt (within j p) (sym a.worker ∙ (same ∙ b.worker)) in
          omega (arith, a.last, b.first, o);
      going = λ j d p g.
          let b : Keeps (get_or ss j d) (get_or (set ss k t) j d) = kept j d in
          ap (λ (w : ℕ). get_or workers w None) b.worker ∙ h.going j d (within j p) (b.going g);
      held = λ w j found.
          let was = h.held w j found in
          record {
            there = omega (arith, length-set ss k t, was.there);
            same = λ d. let b : Keeps (get_or ss j d) (get_or (set ss k t) j d) = kept j d in b.worker ∙ was.same d;
          };
    }

-- ---- a spell that starts
began_going : (n last : ℕ) (es : List Event) (workers : List (Option ℕ)) (ss : List Spell) (s : Spell) → n ≤ last
    → s.worker < length workers
    → All (λ t. t.worker ≡ s.worker → t.last < n) ss → AreSpellsSoFar es n last workers ss
    → (k : ℕ) (d : Spell) → k < length (ss ++ s ∷ []) → (get_or (ss ++ s ∷ []) k d).ending ≡ Going
    → get_or (set workers s.worker (Some (length ss))) (get_or (ss ++ s ∷ []) k d).worker None ≡ Some k
began_going n last es workers ss s le hand past h k d there going =
    ⊎_elim
    (λ before.
    let at : get_or (ss ++ s ∷ []) k d ≡ get_or ss k d = get_or_append_left ss (s ∷ []) d k before in
    let g : (get_or ss k d).ending ≡ Going = subst (λ (x : Spell). x.ending ≡ Going) at going in
    let to_last : (get_or ss k d).last ≡ last =
    going_to_last es n last (get_or ss k d) (get_or ss k d).ending g (h.each k d before).ends in
    let other : (get_or ss k d).worker ≡ s.worker → ⊥ = λ same. absurd (omega (arith, past k d before same)) in
    subst (λ (x : Spell). get_or (set workers s.worker (Some (length ss))) x.worker None ≡ Some k) (sym at)
    (get_or-set_other workers s.worker (get_or ss k d).worker (Some (length ss)) None other ∙ h.going k d before g))
    (λ behind.
    let is : k ≡ length ss = omega (arith, length_push ss s) in
    let at : get_or (ss ++ s ∷ []) k d ≡ s = get_or_push ss s d k (sym is) in
    subst (λ (x : Spell). get_or (set workers s.worker (Some (length ss))) x.worker None ≡ Some k) (sym at)
    (get_or-set_same workers s.worker (Some (length ss)) None hand ∙ ap (λ (x : ℕ). Some x) (sym is)))
    (cases_lt k (length ss))

began_held : (n last : ℕ) (es : List Event) (workers : List (Option ℕ)) (ss : List Spell) (s : Spell)
    → s.worker < length workers → AreSpellsSoFar es n last workers ss → (w k : ℕ)
    → get_or (set workers s.worker (Some (length ss))) w None ≡ Some k → IsOfWorker (ss ++ s ∷ []) w k
began_held n last es workers ss s hand h w k found =
    ⊎_elim
    (λ same.
    let is : length ss ≡ k = same_Some (length ss) k
    (sym (get_or-set_same workers s.worker (Some (length ss)) None hand)
    ∙ ap (λ (v : ℕ). get_or (set workers s.worker (Some (length ss))) v None) (sym same) ∙ found) in
    record {
      there = omega (arith, length_push ss s);
      same = λ d. ap (λ (x : Spell). x.worker) (get_or_push ss s d k is) ∙ sym same;
    })
    (λ other.
    let was = h.held w k (sym (get_or-set_other workers s.worker w (Some (length ss)) None other) ∙ found) in
    record {
      there = omega (arith, length_push ss s, was.there);
      same = λ d. ap (λ (x : Spell). x.worker) (get_or_append_left ss (s ∷ []) d k was.there) ∙ was.same d;
    })
    (cases_eq w s.worker)

pub began : (es : List Event) (n last : ℕ) (workers : List (Option ℕ)) (ss : List Spell) (s : Spell) → n ≤ last
    → s.worker < length workers → s.first ≡ n → IsSpellSoFar es (n + 1) last s
    → All (λ t. t.worker ≡ s.worker → t.last < n) ss → AreSpellsSoFar es n last workers ss
    → AreSpellsSoFar es (n + 1) last (set workers s.worker (Some (length ss))) (ss ++ s ∷ [])
began es n last workers ss s le hand first is past h = record {
  each = All-push (IsSpellSoFar es (n + 1) last) ss s (all_later es n (n + 1) last workers ss (omega arith) h).each is;
  order = all_pairs_push (λ a b. a.first < b.first) ss s h.order (λ k d there. omega (arith, (h.each k d there).before));
  apart = all_pairs_push (λ a b. a.worker ≡ b.worker → a.last < b.first) ss s h.apart
      (λ k d there same. omega (arith, past k d there same));
  going = began_going n last es workers ss s le hand past h;
  held = began_held n last es workers ss s hand h;
}

-- ---- a hand that is emptied
pub is_going_or_not : (e : SpellEnd) → (e ≡ Going) ⊎ (e ≡ Going → ⊥)
is_going_or_not Parked = inr (λ h. cc)
is_going_or_not Ended = inr (λ h. cc)
is_going_or_not Left = inr (λ h. cc)
is_going_or_not Going = inl refl

-- the spells of a worker whose hand is empty have ended
pub past_without : (es : List Event) (n last : ℕ) (workers : List (Option ℕ)) (ss : List Spell) (worker : ℕ)
    → AreSpellsSoFar es n last workers ss → ((k : ℕ) (d : Spell) → k < length ss → (get_or ss k d).worker ≡ worker → (get_or ss k d).ending ≡ Going
    → get_or workers worker None ≡ Some k → (get_or ss k d).last < n)
    → All (λ s. s.worker ≡ worker → s.last < n) ss
past_without es n last workers ss worker h held k d there same =
    ⊎_elim (λ past. past)
    (λ going. held k d there same going (ap (λ (w : ℕ). get_or workers w None) (sym same) ∙ h.going k d there going))
    (past_or_going es n last (get_or ss k d) (h.each k d there))

-- a spell that its worker leaves before an event
left_keeps : (es : List Event) (n last : ℕ) (s : Spell) → n ≤ last + 1 → s.ending ≡ Going → IsSpellSoFar es n last s
    → Keeps s (record s { ending = Left; last = n - 1 })
left_keeps es n last s le going h =
    let to_last : s.last ≡ last = going_to_last es n last s s.ending going h.ends in
    record { worker = refl; path = refl; first = refl; last = omega arith; going = λ e. going }

left_is : (es : List Event) (n last : ℕ) (s : Spell) (next : Hold) → n ≤ last + 1 → taken_at es n ≡ Some next → next.worker ≡ s.worker
    → IsSpellSoFar es n last s → IsSpellSoFar es n last (record s { ending = Left; last = n - 1 })
left_is es n last s next le at same h =
    let is : n - 1 + 1 ≡ n = omega (arith, h.before) in
    record {
      begins = h.begins;
      ends = ((next, ap (taken_at es) is ∙ at, same), omega (arith, h.before));
      forward = omega (arith, h.before);
      before = h.before;
      within = omega arith;
    }

-- a spell that its worker leaves changes in this way
pub record IsLeft (n : ℕ) (s t : Spell) : Type 0 where
  pub going : s.ending ≡ Going → t ≡ record s { ending = Left; last = n - 1 }
  pub ended : (s.ending ≡ Going → ⊥) → t ≡ s

pub left_spell : (es : List Event) (n last : ℕ) (s t : Spell) (next : Hold) → n ≤ last + 1 → taken_at es n ≡ Some next → next.worker ≡ s.worker
    → IsSpellSoFar es n last s → IsLeft n s t → Keeps s t × (IsSpellSoFar es n last t × (t.last < n))
left_spell es n last s t next le at same h left =
    ⊎_elim
    (λ going. subst (λ (x : Spell). Keeps s x × (IsSpellSoFar es n last x × (x.last < n))) (sym (left.going going))
    (left_keeps es n last s le going h, (left_is es n last s next le at same h, omega (arith, h.before))))
    (λ ended. subst (λ (x : Spell). Keeps s x × (IsSpellSoFar es n last x × (x.last < n))) (sym (left.ended ended))
    (keeps_itself s, (h, ⊎_elim (λ past. past) (λ going. absurd (ended going)) (past_or_going es n last s h))))
    (is_going_or_not s.ending)

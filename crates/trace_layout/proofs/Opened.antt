-- Scopes after one more event.
use Rattle.std.proofs.Common.{◌≡◌, ℕ, zero, suc, ◌+◌, ◌<◌, ◌≤◌, List, [], ◌∷◌, ◌++◌, length, get_or, set, take, Option, Some, None, Bool, true, false, ap, sym, ◌∙◌, refl, subst, arith, ⊎_elim}
use Rattle.std.specs.Prelude.{cond, count_by, slice_get, unwrap_or}
use Rattle.std.specs.Cmp.Lexicographic.{pointwise}
use Rattle.std.specs.HashMap.{get}
use Rattle.std.specs.Map.{lookup}
use Rattle.std.proofs.Common.{add-one, nat_eq}
use Rattle.std.proofs.lemmas.Slice.Eq.{bytes_eq-Decides}
use Rattle.types.specs.Translation.{is_path}
use Rattle.std.proofs.lemmas.Bool.{cases_eq, cases_lt}
use Rattle.std.proofs.lemmas.List.{get_or-set_other, get_or-set_same, get_or_append_left, get_or_push, length-set, length_push, take_all}
use Rattle.std.proofs.lemmas.List.Sums.{count_by_more_no, count_by_more_yes}
use Rattle.std.proofs.lemmas.Option.{get_or_from_slice_get, none-some, option_and_then_some, same_Some, slice_get_within}
use Rattle.events.specs.declared.event.Event.{Event}
use Rattle.events.specs.declared.event.Event.TheVariants.{Open}
use Rattle.types.specs.declared.path.Path.{Path}
use Rattle.types.specs.declared.scope_id.ScopeId.{ScopeId}
use Rattle.trace_layout.specs.Finishes.{AreFinishes, AreOpenedInOrder, IsBegun, IsFinish, IsOpened, is_opening, opener, opener_at, opens}
use Rattle.trace_layout.specs.Scopes.{AreScopes, IsAdded, IsFinishSoFar}
use Rattle.trace_layout.specs.declared.finishes.Finish.{Finish}
use Rattle.trace_layout.specs.declared.finishes.Finishes.{Finishes}
use Rattle.trace_layout.specs.declared.finishes.Scopes.{Scopes}

finish_later : (es : List Event) (n k : ℕ) (f : Finish) → IsFinishSoFar es n k f → IsFinishSoFar es (n + 1) k f
finish_later es n k f h = record { is = h.is; before = omega (arith, h.before); opened = λ there. omega (arith, h.opened there) }

-- each is the scope with its number
abbrev pub AreSoFar : List Event → (n : ℕ) → List Finish → Type 0
AreSoFar es n fs = (k : ℕ) (d : Finish) → k < length fs → IsFinishSoFar es n k (get_or fs k d)

all_later : (es : List Event) (n : ℕ) (fs : List Finish) → AreSoFar es n fs → AreSoFar es (n + 1) fs
all_later es n fs h k d there = finish_later es n k (get_or fs k d) (h k d there)

-- ---- the number of scopes that a task has opened
opens_none : (e : Event) (path : List ℕ) → is_opening e ≡ false → opens path e ≡ false
opens_none (Open other) path is = absurd (let both : true ≡ false = is in cc)
opens_none _ path is = refl

opened_later : (es : List Event) (n : ℕ) (e : Event) (path : List ℕ) → slice_get es n ≡ Some e → is_opening e ≡ false
    → count_by (opens path) (take (n + 1) es) ≡ count_by (opens path) (take n es)
opened_later es n e path at is =
    count_by_more_no (opens path) es n e (slice_get_within es n e at)
    (ap (opens path) (get_or_from_slice_get es n e e at) ∙ opens_none e path is)

opens_by : (e : Event) (key path : List ℕ) → opener e ≡ Some key → opens path e ≡ pointwise nat_eq key path
opens_by (Open other) key path h = ap (λ (p : List ℕ). pointwise nat_eq p path) (same_Some other.turns.items key h)
opens_by _ key path h = absurd (none-some key h)

-- at an event at which this key opens one
opened_one : (es : List Event) (n count : ℕ) (e : Event) (key path : List ℕ) (b : Bool) (old : Option ℕ) → slice_get es n ≡ Some e → opener e ≡ Some key
    → pointwise nat_eq key path ≡ b → (key ≡ path → count ≡ unwrap_or old 0 + 1)
    → unwrap_or old 0 ≡ count_by (opens path) (take n es)
    → unwrap_or (cond b (Some count) old) 0 ≡ count_by (opens path) (take (n + 1) es)
opened_one es n count e key path true old at by same more was =
    more ((bytes_eq-Decides key path).0 same) ∙ ap (λ (c : ℕ). c + 1) was
    ∙ sym (count_by_more_yes (opens path) es n e (slice_get_within es n e at)
    (ap (opens path) (get_or_from_slice_get es n e e at) ∙ opens_by e key path by ∙ same))
opened_one es n count e key path false old at by same more was =
    was ∙ sym (count_by_more_no (opens path) es n e (slice_get_within es n e at)
    (ap (opens path) (get_or_from_slice_get es n e e at) ∙ opens_by e key path by ∙ same))

-- ---- no scope changes
pub scopes_later : (es : List Event) (n : ℕ) (e : Event) (old new : Scopes) → slice_get es n ≡ Some e → is_opening e ≡ false
    → new.all.items ≡ old.all.items → new.last ≡ old.last → new.opened ≡ old.opened → AreScopes es n old → AreScopes es (n + 1) new
scopes_later es n e old new at is items last opened was = record {
  last = last ∙ was.last;
  each = subst (AreSoFar es (n + 1)) (sym items) (all_later es n old.all.items was.each);
  order = subst AreOpenedInOrder (sym items) was.order;
  count = ap length items ∙ was.count ∙ ap (λ (c : ℕ). c + 1) (sym
      (count_by_more_no is_opening es n e (slice_get_within es n e at) (ap is_opening (get_or_from_slice_get es n e e at) ∙ is)));
  opened = λ path.
      ap (λ m. unwrap_or (get is_path m path) 0) opened ∙ was.opened path ∙ sym (opened_later es n e path.turns.items at is);
}

pub no_opening : (e : Event) → ((path : Path) → e ≡ Open path → ⊥) → is_opening e ≡ false
no_opening (Open path) h = absurd (h path refl)
no_opening _ h = refl

-- ---- a scope changes
kept_first : (fs : List Finish) (k : ℕ) (g : Finish) → k < length fs → ((d : Finish) → (get_or fs k d).first ≡ g.first)
    → (i : ℕ) (d : Finish) → (get_or (set fs k g) i d).first ≡ (get_or fs i d).first
kept_first fs k g there same i d =
    ⊎_elim
    (λ is. ap (λ (j : ℕ). (get_or (set fs k g) j d).first) is ∙ ap (λ (f : Finish). f.first) (get_or-set_same fs k g d there)
    ∙ sym (same d) ∙ ap (λ (j : ℕ). (get_or fs j d).first) (sym is))
    (λ other. ap (λ (f : Finish). f.first) (get_or-set_other fs k i g d other))
    (cases_eq i k)

all_set : (es : List Event) (n : ℕ) (fs : List Finish) (k : ℕ) (g : Finish) → k < length fs → IsFinishSoFar es n k g
    → AreSoFar es n fs → AreSoFar es n (set fs k g)
all_set es n fs k g there is was j d within =
    ⊎_elim
    (λ same. subst (λ (i : ℕ). IsFinishSoFar es n i (get_or (set fs k g) i d)) (sym same)
    (subst (IsFinishSoFar es n k) (sym (get_or-set_same fs k g d there)) is))
    (λ other. subst (IsFinishSoFar es n j) (sym (get_or-set_other fs k j g d other)) (was j d (omega (arith, length-set fs k g))))
    (cases_eq j k)

pub scopes_changed : (es : List Event) (n : ℕ) (old new : Scopes) (k : ℕ) (g : Finish) → k < length old.all.items
    → ((d : Finish) → (get_or old.all.items k d).first ≡ g.first) → IsFinishSoFar es n k g
    → new.all.items ≡ set old.all.items k g → new.last ≡ old.last → new.opened ≡ old.opened → AreScopes es n old → AreScopes es n new
scopes_changed es n old new k g there same is items last opened was =
    let kept = kept_first old.all.items k g there same in
    record {
      last = last ∙ was.last;
      each = subst (AreSoFar es n) (sym items) (all_set es n old.all.items k g there is was.each);
      order = subst AreOpenedInOrder (sym items) (λ i j d behind lt p.
          let o = was.order i j d behind lt (omega (arith, length-set old.all.items k g)) in
          let a = kept i d in
          let b = kept j d in
          omega arith);
      count = ap length items ∙ length-set old.all.items k g ∙ was.count;
      opened = λ path. ap (λ m. unwrap_or (get is_path m path) 0) opened ∙ was.opened path;
    }

begins_still : (es : List Event) (k : ℕ) (f g : Finish) → g.name ≡ f.name → g.first ≡ f.first → IsBegun es k f → IsBegun es k g
begins_still es zero f g name first r = record {
  owner = ap (λ (i : ScopeId). i.owner.turns.items) name ∙ r.owner;
  number = ap (λ (i : ScopeId). i.number) name ∙ r.number;
  first = first ∙ r.first;
}
begins_still es (suc k) f g name first o = record {
  owner = ap (opener_at es) first ∙ o.owner ∙ ap (λ (i : ScopeId). Some i.owner.turns.items) (sym name);
  number =
      ap (λ (i : ScopeId). i.number) name ∙ o.number
      ∙ ap (λ (i : ScopeId). count_by (opens i.owner.turns.items) (take f.first es) + 1) (sym name)
      ∙ ap (λ (m : ℕ). count_by (opens g.name.owner.turns.items) (take m es) + 1) (sym first);
}

-- its owner parks there
pub parks : (es : List Event) (n k : ℕ) (f : Finish) (at : Option ℕ) → IsFinishSoFar es n k f → IsFinishSoFar es n k (record f { parked = at })
parks es n k f at h = record {
  is = record { begins = begins_still es k f (record f { parked = at }) refl refl h.is.begins; forward = h.is.forward };
  before = h.before;
  opened = h.opened;
}

-- it passes
pub passes : (es : List Event) (n k : ℕ) (f : Finish) → IsFinishSoFar es n k f → IsFinishSoFar es n k (record f { last = n; is_passed = true })
passes es n k f h = record {
  is = record { begins = begins_still es k f (record f { last = n; is_passed = true }) refl refl h.is.begins; forward = h.before };
  before = h.before;
  opened = h.opened;
}

-- ---- a scope starts
-- the event with a number, at which a task opens a scope
opener_is : (e : Event) (y : List ℕ) → opener e ≡ Some y → is_opening e ≡ true
opener_is (Open path) y h = refl
opener_is _ y h = absurd (none-some y h)

pub record IsOpening (es : List Event) (n : ℕ) (y : List ℕ) : Type 0 where
  pub event : Event
  pub at : slice_get es n ≡ Some event
  pub is : is_opening event ≡ true
  pub by : opener event ≡ Some y

opening_at : (es : List Event) (n : ℕ) (y : List ℕ) → opener_at es n ≡ Some y → IsOpening es n y
opening_at es n y h = option_and_then_some {P = IsOpening es n y} opener (slice_get es n) y h
    (λ e at is. record { event = e; at = at; is = opener_is e y is; by = is })

all_added : (es : List Event) (n : ℕ) (fs : List Finish) (f : Finish) → IsFinishSoFar es n (length fs) f
    → AreSoFar es n fs → AreSoFar es n (fs ++ f ∷ [])
all_added es n fs f is was k d there =
    ⊎_elim
    (λ before. subst (IsFinishSoFar es n k) (sym (get_or_append_left fs (f ∷ []) d k before)) (was k d before))
    (λ behind.
    let at : length fs ≡ k = omega (arith, length_push fs f) in
    subst (IsFinishSoFar es n k) (sym (get_or_push fs f d k at)) (subst (λ (i : ℕ). IsFinishSoFar es n i f) at is))
    (cases_lt k (length fs))

order_added : (fs : List Finish) (f : Finish) → AreOpenedInOrder fs
    → ((k : ℕ) (d : Finish) → 0 < k → k < length fs → (get_or fs k d).first < f.first)
    → AreOpenedInOrder (fs ++ f ∷ [])
order_added fs f was earlier i j d behind lt there =
    let left : get_or (fs ++ f ∷ []) i d ≡ get_or fs i d = get_or_append_left fs (f ∷ []) d i (omega (arith, length_push fs f)) in
    subst (λ (x : Finish). x.first < (get_or (fs ++ f ∷ []) j d).first) (sym left)
    (⊎_elim
    (λ before. subst (λ (x : Finish). (get_or fs i d).first < x.first) (sym (get_or_append_left fs (f ∷ []) d j before)) (was i j d behind lt before))
    (λ past.
    let at : length fs ≡ j = omega (arith, length_push fs f) in
    subst (λ (x : Finish). (get_or fs i d).first < x.first) (sym (get_or_push fs f d j at)) (earlier i d behind (omega arith)))
    (cases_lt j (length fs)))

-- after the root's
opened_number : (es : List Event) (n count k : ℕ) (f : Finish) → k ≡ count + 1 → IsOpened es f
    → f.first ≤ f.last → f.first < n → IsFinishSoFar es n k f
opened_number es n count k f is opens forward before =
    subst (λ (i : ℕ). IsFinishSoFar es n i f) (sym (is ∙ add-one count))
    (record { is = record { begins = opens; forward = forward }; before = omega arith; opened = λ there. before })

pub scopes_opened : (es : List Event) (n : ℕ) (path key : Path) (name : ScopeId) (old mid new : Scopes) → opener_at es n ≡ Some path.turns.items
    → name.owner.turns.items ≡ path.turns.items → key.turns.items ≡ path.turns.items
    → name.number ≡ unwrap_or (get is_path old.opened path) 0 + 1
    → ((other : Path) → get is_path mid.opened other ≡ cond (is_path key other) (Some name.number) (get is_path old.opened other))
    → mid.all.items ≡ old.all.items → mid.last ≡ old.last
    → IsAdded n name mid new → AreScopes es n old → AreScopes es (n + 1) new
scopes_opened es n path key name old mid new opens_it same key_is number put items last added was =
    let f : Finish = record { name = name; first = n; last = old.last; is_passed = false; parked = None } in
    let begun : IsAdded n name old (record new { opened = old.opened }) = record {
      all = added.all ∙ ap (λ (fs : List Finish). fs ++ record { name = name; first = n; last = mid.last; is_passed = false; parked = None } ∷ []) items
          ∙ ap (λ (l : ℕ). old.all.items ++ record { name = name; first = n; last = l; is_passed = false; parked = None } ∷ []) last;
      last = added.last ∙ last;
      opened = refl;
    } in
    let o = opening_at es n path.turns.items opens_it in
    let within : n < length es = slice_get_within es n o.event o.at in
    let is : IsFinishSoFar es (n + 1) (length old.all.items) f =
    opened_number es (n + 1) (count_by is_opening (take n es)) (length old.all.items) f was.count
    (record {
      owner = opens_it ∙ ap (λ (p : List ℕ). Some p) (sym same);
      number = number ∙ ap (λ (c : ℕ). c + 1) (was.opened path ∙ ap (λ (p : List ℕ). count_by (opens p) (take n es)) (sym same));
    })
    (omega (arith, was.last)) (omega arith) in
    record {
      last = begun.last ∙ was.last;
      each = subst (AreSoFar es (n + 1)) (sym begun.all)
          (all_added es (n + 1) old.all.items f is (all_later es n old.all.items was.each));
      order = subst AreOpenedInOrder (sym begun.all) (order_added old.all.items f was.order (λ k d behind there. (was.each k d there).opened behind));
      count = ap length begun.all ∙ length_push old.all.items f ∙ ap (λ (c : ℕ). c + 1) (was.count ∙ sym
          (count_by_more_yes is_opening es n o.event (slice_get_within es n o.event o.at)
          (ap is_opening (get_or_from_slice_get es n o.event o.event o.at) ∙ o.is)));
      opened = λ other.
          ap (λ m. unwrap_or (get is_path m other) 0) added.opened ∙ ap (λ (x : Option ℕ). unwrap_or x 0) (put other)
          ∙ opened_one es n name.number o.event key.turns.items other.turns.items (is_path key other) (get is_path old.opened other) o.at
          (o.by ∙ ap (λ (p : List ℕ). Some p) (sym key_is)) refl
          (λ is. number ∙ ap (λ (p : List ℕ). unwrap_or (lookup (λ (q : Path). pointwise nat_eq p q.turns.items) old.opened.entries) 0 + 1) (sym key_is ∙ is))
          (was.opened other);
    }

-- ---- the root's scope, and the end

pub all_finishes : (es : List Event) (n : ℕ) (s : Scopes) (r : Finishes) → n ≡ length es → r.all.items ≡ s.all.items → AreScopes es n s → AreFinishes es r
all_finishes es n s r n_is items now =
    let was : AreScopes es (length es) s = subst (λ (m : ℕ). AreScopes es m s) n_is now in
    record {
      each = subst (λ (fs : List Finish). (k : ℕ) (d : Finish) → k < length fs → IsFinish es k (get_or fs k d)) (sym items)
          (λ k d there. (was.each k d there).is);
      order = subst AreOpenedInOrder (sym items) was.order;
      count = ap length items ∙ was.count ∙ ap (λ (l : List Event). count_by is_opening l + 1) (take_all (length es) es (omega arith));
    }

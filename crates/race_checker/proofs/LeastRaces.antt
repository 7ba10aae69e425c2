-- The least of some races, composed from the least of parts.
use Rattle.std.proofs.Common.{◌≡◌, ◌⊎◌, inl, inr, ℕ, Bool, true, false, ◌&&◌, ◌||◌, List, [], ◌∷◌, map, fold}
use Rattle.std.proofs.Common.{if◌then◌else◌, refl, sym, ap, ◌∙◌, subst, true≢false}
use Rattle.std.specs.Prelude.{Option, None, Some}
use Rattle.std.proofs.Math.Bool.{or_comm}
use Rattle.std.proofs.lemmas.Bool.{and_from, and_parts}
use Rattle.sections.specs.Member.{Member, first, next}
use Rattle.sections.specs.Origins.{Origin}
use Rattle.sections.specs.Overlap.{overlap}
use Rattle.sections.proofs.Overlapping.{overlap-sym}
use Rattle.effects.specs.Accesses.{Access}
use Rattle.effects.specs.Firsts.{HasAsEarly, AreFirsts}
use Rattle.effects.proofs.Members.{in_left, in_right, in_map, in_parts, from_map}
use Rattle.race_checker.specs.Acceptance.{is_clash}
use Rattle.race_checker.specs.Clash.{Clash}
use Rattle.race_checker.specs.Races.{is_less, access_key, Race, race_key, comes_before, Clashes, LeastOf}
use Rattle.race_checker.specs.Search.{race_of, tell, each_with, lesser_of}
use Rattle.race_checker.proofs.RaceOrder.{not_less_trans, not_both_less, not_less_itself, Earlier, told, earlier_in_order}
use Rattle.race_checker.proofs.RaceOrder.{earlier_other_order}

-- a race of one of these pairs
pub record IsRaceAmong (origins : List Origin) (f : ℕ) (pairs : List (Access × Access)) (r : Race)
    : Type 0 where
  pub pair : Access × Access
  pub stands : Member pair pairs
  pub clash : is_clash origins pair ≡ true
  pub told : race_of f pair ≡ r

-- if one race is reported before the other, the other isn't reported before the first
pub before_known : (r s : Race) → comes_before r s ≡ true → comes_before s r ≡ false
before_known r s h = not_both_less (race_key r) (race_key s) h

-- s not before r, and o not before s
pub not_before_trans : (o r s : Race) → comes_before s r ≡ false → comes_before o s ≡ false → comes_before o r ≡ false
not_before_trans o r s h g = not_less_trans (race_key r) (race_key s) (race_key o) h g

-- the least of the same races
pub least_same : (P Q : Race → Type 0) (r : Option Race) → ((x : Race) → P x → Q x) → ((x : Race) → Q x → P x)
    → LeastOf P r → LeastOf Q r
least_same P Q None out back h = λ x q. h x (back x q)
least_same P Q (Some r) out back h = record { among = out r h.among; least = λ x q. h.least x (back x q) }

-- the least of two sets of races
pub least_of_both : (P Q : Race → Type 0) (r s : Option Race) → LeastOf P r → LeastOf Q s
    → LeastOf (λ x. P x ⊎ Q x) (lesser_of r s)
least_of_both P Q None None h g = λ x k. elim k [ inl a ↦ h x a | inr b ↦ g x b ]
least_of_both P Q None (Some s) h g = record {
  among = inr g.among;
  least = λ x k. elim k [ inl a ↦ absurd (h x a) | inr b ↦ g.least x b ];
}
least_of_both P Q (Some r) None h g = record {
  among = inl h.among;
  least = λ x k. elim k [ inl a ↦ h.least x a | inr b ↦ absurd (g x b) ];
}
least_of_both P Q (Some r) (Some s) h g = by (comes_before s r) refl
  where
    by : (b : Bool) → comes_before s r ≡ b → LeastOf (λ x. P x ⊎ Q x) (if b then Some s else Some r)
    by true e = record {
      among = inr g.among;
      least = λ x k. elim k [
        | inl a ↦ not_before_trans x s r (before_known s r e) (h.least x a)
        | inr b ↦ g.least x b
      ];
    }
    by false e = record {
      among = inl h.among;
      least = λ x k. elim k [
        | inl a ↦ h.least x a
        | inr b ↦ not_before_trans x r s e (g.least x b)
      ];
    }

module _ (origins : List Origin) (f : ℕ) where
  -- the race of one pair, if that pair clashes
  pub record IsRaceOf (p : Access × Access) (r : Race) : Type 0 where
    pub clash : is_clash origins p ≡ true
    pub told : race_of f p ≡ r

  -- one more pair
  tell_one : (P : Race → Type 0) (found : Option Race) (p : Access × Access) → LeastOf P found
      → LeastOf (λ r. P r ⊎ IsRaceOf p r) (tell origins f found p)
  tell_one P None p h = by (is_clash origins p) refl
    where
      by : (b : Bool) → is_clash origins p ≡ b → LeastOf (λ r. P r ⊎ IsRaceOf p r) (if b then Some (race_of f p) else None)
      by true e = record {
        among = inr (record { clash = e; told = refl });
        least = λ x k. elim k [
          | inl a ↦ absurd (h x a)
          | inr o ↦ subst (λ y. comes_before y (race_of f p) ≡ false) o.told (not_less_itself (race_key (race_of f p)))
        ];
      }
      by false e = λ x k. elim k [ inl a ↦ h x a | inr o ↦ absurd (true≢false (sym o.clash ∙ e)) ]
  tell_one P (Some r) p h = by (comes_before (race_of f p) r) (is_clash origins p) refl refl
    where
      kept : (is_clash origins p ≡ true → comes_before (race_of f p) r ≡ false) → LeastOf (λ r. P r ⊎ IsRaceOf p r) (Some r)
      kept later = record {
        among = inl h.among;
        least = λ x k. elim k [
          | inl a ↦ h.least x a
          | inr o ↦ subst (λ y. comes_before y r ≡ false) o.told (later o.clash)
        ];
      }

      by : (b c : Bool) → comes_before (race_of f p) r ≡ b → is_clash origins p ≡ c
          → LeastOf (λ r. P r ⊎ IsRaceOf p r) (if b && c then Some (race_of f p) else Some r)
      by true true e d = record {
        among = inr (record { clash = d; told = refl });
        least = λ x k. elim k [
          | inl a ↦ not_before_trans x (race_of f p) r (before_known (race_of f p) r e) (h.least x a)
          | inr o ↦ subst (λ y. comes_before y (race_of f p) ≡ false) o.told (not_less_itself (race_key (race_of f p)))
        ];
      }
      by true false e d = kept (λ c. absurd (true≢false (sym c ∙ d)))
      by false c e d = kept (λ x. e)

  among_first : (p : Access × Access) (ps : List (Access × Access)) (r : Race) → IsRaceOf p r → IsRaceAmong origins f (p ∷ ps) r
  among_first p ps r o = record { pair = p; stands = first; clash = o.clash; told = o.told }

  among_next : (p : Access × Access) (ps : List (Access × Access)) (r : Race) → IsRaceAmong origins f ps r
      → IsRaceAmong origins f (p ∷ ps) r
  among_next p ps r o = record { pair = o.pair; stands = next o.stands; clash = o.clash; told = o.told }

  among_cases : (p : Access × Access) (ps : List (Access × Access)) (r : Race) → IsRaceAmong origins f (p ∷ ps) r
      → IsRaceOf p r ⊎ IsRaceAmong origins f ps r
  among_cases p ps r o = by o.pair o.stands o.clash o.told
    where
      by : (q : Access × Access) → Member q (p ∷ ps) → is_clash origins q ≡ true → race_of f q ≡ r
          → IsRaceOf p r ⊎ IsRaceAmong origins f ps r
      by q first c t = inl (record { clash = c; told = t })
      by q (next m) c t = inr (record { pair = q; stands = m; clash = c; told = t })

  -- all pairs of a list
  tell_all : (P : Race → Type 0) (found : Option Race) (ps : List (Access × Access)) → LeastOf P found
      → LeastOf (λ r. P r ⊎ IsRaceAmong origins f ps r) (fold (tell origins f) found ps)
  tell_all P found [] h = least_same P (λ r. P r ⊎ IsRaceAmong origins f [] r) found (λ x a. inl a)
      (λ x k. elim k [ inl a ↦ a | inr o ↦ elim o.stands [ ] ]) h
  tell_all P found (p ∷ ps) h =
      least_same (λ r. (P r ⊎ IsRaceOf p r) ⊎ IsRaceAmong origins f ps r) (λ r. P r ⊎ IsRaceAmong origins f (p ∷ ps) r)
      (fold (tell origins f) (tell origins f found p) ps)
      (λ x k. elim k [
        | inl i ↦ elim i [ inl a ↦ inl a | inr o ↦ inr (among_first p ps x o) ]
        | inr o ↦ inr (among_next p ps x o)
      ])
      (λ x k. elim k [
        | inl a ↦ inl (inl a)
        | inr o ↦ elim (among_cases p ps x o) [ inl one ↦ inl (inr one) | inr more ↦ inr more ]
      ])
      (tell_all (λ r. P r ⊎ IsRaceOf p r) (tell origins f found p) ps (tell_one P found p h))

  -- what is found if nothing was found before
  pub least_among : (ps : List (Access × Access)) (found : Option Race) → found ≡ fold (tell origins f) None ps
      → LeastOf (IsRaceAmong origins f ps) found
  least_among ps found e =
      least_same (λ r. ⊥ ⊎ IsRaceAmong origins f ps r) (IsRaceAmong origins f ps) found
      (λ x k. elim k [ inl a ↦ absurd a | inr o ↦ o ]) (λ x o. inr o)
      (subst (LeastOf (λ r. ⊥ ⊎ IsRaceAmong origins f ps r)) (sym e) (tell_all (λ r. ⊥) None ps (λ x a. a)))

-- each of the first is paired with each of the second
pub each_with-stands : (xs ys : List Access) (x y : Access) → Member x xs → Member y ys → Member (x, y) (each_with xs ys)
each_with-stands [] ys x y m k = elim m [ ]
each_with-stands (z ∷ xs) ys x y first k = in_left (each_with xs ys) (in_map (λ y. (z, y)) k)
each_with-stands (z ∷ xs) ys x y (next m) k = in_right (map (λ y. (z, y)) ys) (each_with-stands xs ys x y m k)

pub each_with-from : (xs ys : List Access) (p : Access × Access) → Member p (each_with xs ys) → Member p.0 xs × Member p.1 ys
each_with-from [] ys p m = elim m [ ]
each_with-from (x ∷ xs) ys p m = elim (in_parts (map (λ y. (x, y)) ys) m) [
  | inl a ↦
      let r = from_map (λ (y : Access). let q : Access × Access = (x, y) in q) ys a in
      (subst (λ (q : Access × Access). Member q.0 (x ∷ xs)) (sym r.2) first, subst (λ (q : Access × Access). Member q.1 ys) (sym r.2) r.1)
  | inr b ↦ let r = each_with-from xs ys p b in (next r.0, r.1)
]

-- Firsts decide: the least clash of two sets is that of their firsts.

clash_from : (origins : List Origin) (x y : Access) → is_clash origins (x, y) ≡ true → Clash origins x y
clash_from origins x y h =
    let parts = and_parts (x.write || y.write) (overlap origins x.section y.section) h in
    record { writes = parts.0; overlap = parts.1 }

clash_test : (origins : List Origin) (x y : Access) → Clash origins x y → is_clash origins (x, y) ≡ true
clash_test origins x y h = and_from (x.write || y.write) (overlap origins x.section y.section) h.writes h.overlap

pub clash_turned : (origins : List Origin) (x y : Access) → Clash origins x y → Clash origins y x
clash_turned origins x y h = record {
  writes = or_comm y.write x.write ∙ h.writes;
  overlap = overlap-sym origins y.section x.section ∙ h.overlap;
}

clash_moved : (origins : List Origin) (x y a b : Access) → Earlier a x → Earlier b y → Clash origins x y → Clash origins a b
clash_moved origins x y a b h g c = record {
  writes = ap (λ w. w || b.write) h.write ∙ ap (λ w. x.write || w) g.write ∙ c.writes;
  overlap = ap (λ s. overlap origins s b.section) h.section ∙ ap (overlap origins x.section) g.section ∙ c.overlap;
}

-- what isn't reported before two accesses in the order in which they come isn't reported before
-- their race
told_either : (f : ℕ) (x y a b : Access)
    → (is_less (access_key b) (access_key a) ≡ true → comes_before (told f x y) (told f b a) ≡ false)
    → (is_less (access_key b) (access_key a) ≡ false → comes_before (told f x y) (told f a b) ≡ false)
    → comes_before (told f x y) (race_of f (a, b)) ≡ false
told_either f x y a b turned as_given = by (is_less (access_key b) (access_key a)) refl
  where
    by : (c : Bool) → is_less (access_key b) (access_key a) ≡ c
        → comes_before (told f x y) (if c then told f b a else told f a b) ≡ false
    by true e = turned e
    by false e = as_given e

-- a race isn't reported before that of two earlier accesses, given in either order
earlier_race : (f : ℕ) (x y a b : Access) → Earlier a x → Earlier b y
    → is_less (access_key y) (access_key x) ≡ false
    → comes_before (told f x y) (race_of f (a, b)) ≡ false
earlier_race f x y a b h g order =
    told_either f x y a b (λ e. earlier_other_order f x y a b h g order
    (not_both_less (access_key b) (access_key a) e)) (λ e. earlier_in_order f x y a b h g)

earlier_turned : (f : ℕ) (x y a b : Access) → Earlier a x → Earlier b y → is_less (access_key y) (access_key x) ≡ false
    → comes_before (told f x y) (race_of f (b, a)) ≡ false
earlier_turned f x y a b h g order =
    told_either f x y b a (λ e. earlier_in_order f x y a b h g)
    (λ e. earlier_other_order f x y a b h g order e)

-- the race of a pair that clashes
pub race_of-clashes : (origins : List Origin) (f : ℕ) (pairs : Access → Access → Type 0) (x y : Access) → pairs x y → Clash origins x y
    → Clashes origins f pairs (race_of f (x, y))
race_of-clashes origins f pairs x y p c = by (is_less (access_key y) (access_key x)) refl
  where
    by : (b : Bool) → is_less (access_key y) (access_key x) ≡ b
        → Clashes origins f pairs
        (if b then record { procedure = f; first = y; second = x } else record { procedure = f; first = x; second = y })
    by true e = record {
      procedure = refl;
      pair = inr p;
      clash = clash_turned origins x y c;
      order = not_both_less (access_key y) (access_key x) e;
    }
    by false e = record { procedure = refl; pair = inl p; clash = c; order = e }

module _ (origins : List Origin) (f : ℕ) (A B : Access → Type 0) (xs ys : List Access) where
  -- one of the first with one of the second
  abbrev pub Crossed : Access → Access → Type 0
  Crossed x y = A x × B y

  -- a race that isn't reported later than this one
  record NoLater (r : Race) : Type 0 where
    pub race : Race
    pub among : IsRaceAmong origins f (each_with xs ys) race
    pub later : comes_before r race ≡ false

  earlier_of : (zs : List Access) (x : Access) (h : HasAsEarly zs x) → Earlier h.item x
  earlier_of zs x h = record { section = h.section; write = h.write; label = h.label }

  among_of : (x y a b : Access) → Earlier a x → Earlier b y → Member a xs → Member b ys → Clash origins x y
      → IsRaceAmong origins f (each_with xs ys) (race_of f (a, b))
  among_of x y a b h g m n c = record {
    pair = (a, b);
    stands = each_with-stands xs ys a b m n;
    clash = clash_test origins a b (clash_moved origins x y a b h g c);
    told = refl;
  }

  no_later : (firsts : AreFirsts A xs) (others : AreFirsts B ys) (r : Race) → Clashes origins f Crossed r → NoLater r
  no_later firsts others r c =
      elim c.pair [
        | inl p ↦
            let h = firsts.first r.first p.0 in
            let g = others.first r.second p.1 in
            record {
              race = race_of f (h.item, g.item);
              among = among_of r.first r.second h.item g.item (earlier_of xs r.first h) (earlier_of ys r.second g) h.stands g.stands c.clash;
              later = named (race_of f (h.item, g.item))
                  (earlier_race f r.first r.second h.item g.item (earlier_of xs r.first h) (earlier_of ys r.second g) c.order);
            }
        | inr p ↦
            let h = firsts.first r.second p.0 in
            let g = others.first r.first p.1 in
            record {
              race = race_of f (h.item, g.item);
              among = among_of r.second r.first h.item g.item (earlier_of xs r.second h) (earlier_of ys r.first g) h.stands g.stands
                  (clash_turned origins r.first r.second c.clash);
              later = named (race_of f (h.item, g.item))
                  (earlier_turned f r.first r.second g.item h.item (earlier_of ys r.first g) (earlier_of xs r.second h) c.order);
            }
      ]
    where
      named : (s : Race) → comes_before (told f r.first r.second) s ≡ false → comes_before r s ≡ false
      named s h = subst (λ n. comes_before (told n r.first r.second) s ≡ false) (sym c.procedure) h

  found_is_crossed : (firsts : AreFirsts A xs) (others : AreFirsts B ys) (r : Race)
      → IsRaceAmong origins f (each_with xs ys) r → Clashes origins f Crossed r
  found_is_crossed firsts others r o =
      let m = each_with-from xs ys o.pair o.stands in
      subst (Clashes origins f Crossed) o.told
      (race_of-clashes origins f Crossed o.pair.0 o.pair.1 (firsts.among o.pair.0 m.0, others.among o.pair.1 m.1)
      (clash_from origins o.pair.0 o.pair.1 o.clash))

  -- the least race of the firsts is the least of all
  pub least_of_firsts : (firsts : AreFirsts A xs) (others : AreFirsts B ys) (found : Option Race)
      → LeastOf (IsRaceAmong origins f (each_with xs ys)) found → LeastOf (Clashes origins f Crossed) found
  least_of_firsts firsts others None h = λ r c. let e = no_later firsts others r c in h e.race e.among
  least_of_firsts firsts others (Some m) h = record {
    among = found_is_crossed firsts others m h.among;
    least = λ r c. let e = no_later firsts others r c in not_before_trans r m e.race (h.least e.race e.among) e.later;
  }

-- Which accesses are kept by section and kind.
use Rattle.std.proofs.Common.{◌≡◌, ◌⊎◌, inl, inr, ℕ, zero, suc, ◌+◌, ◌<◌, ◌≤◌, List, [], ◌∷◌, ◌++◌, length, map, min}
use Rattle.std.proofs.Common.{take, get_or, set, refl, sym, ap, ◌∙◌, subst, arith}
use Rattle.std.proofs.Common.{Result, Ok, Err, OnOk}
use Rattle.std.proofs.Math.Seq.{take-suc}
use Rattle.std.proofs.lemmas.Bool.{eqb-true, eqb-false}
use Rattle.std.specs.Prelude.{Bool, true, false, ◌≢◌, None, Some, nat_eq, slice_index_or}
use Rattle.std.proofs.lemmas.List.{map-append, append-nil, take_all}
use Rattle.sections.specs.Member.{Member, first, next}
use Rattle.sections.specs.Translation.{section}
use Rattle.sections.specs.declared.id.SectionId.{SectionId}
use Rattle.effects.specs.Accesses.{Access}
use Rattle.types.specs.Code.{Program}
use Rattle.effects.specs.Effects.{accesses, renamed}
use Rattle.effects.specs.Rows.{Renamed}
use Rattle.effects.specs.Least.{IsFirst}
use Rattle.effects.specs.Firsts.{HasAsEarly, AreFirsts, AreFirstsIn, IsAlikeAt, IsPassed, IsPassedAs}
use Rattle.effects.specs.Translation.{access}
use Rattle.effects.specs.declared.access.Access.{Access as rAccess}
use Rattle.effects.proofs.Members.{in_left, in_right, in_map, in_parts, from_map}

pub as_early_itself : (x : Access) (xs : List Access) → Member x xs → HasAsEarly xs x
as_early_itself x xs m = record { item = x; stands = m; section = refl; write = refl; label = omega arith }

-- an access as early as an early one is early
pub as_early_through : (x : Access) (xs ys : List Access) → HasAsEarly ys x
    → ((y : Access) → Member y ys → HasAsEarly xs y) → HasAsEarly xs x
as_early_through x xs ys h go =
    let k = go h.item h.stands in
    record {
      item = k.item;
      stands = k.stands;
      section = k.section ∙ h.section;
      write = k.write ∙ h.write;
      label = let one : k.item.label ≤ h.item.label = k.label in let two : h.item.label ≤ x.label = h.label in omega arith;
    }

-- firsts of the same accesses
pub firsts_same : (those these : Access → Type 0) (xs : List Access) → ((x : Access) → those x → these x)
    → ((x : Access) → these x → those x) → AreFirsts those xs → AreFirsts these xs
firsts_same those these xs out back h = record {
  among = λ x m. out x (h.among x m);
  first = λ x k. h.first x (back x k);
}

-- if there are no accesses, an empty list keeps their firsts
pub firsts_of_none : (those : Access → Type 0) (xs : List Access) → xs ≡ [] → ((x : Access) → those x → ⊥) → AreFirsts those xs
firsts_of_none those xs e none =
    subst (AreFirsts those) (sym e) (record { among = λ x m. elim m [ ]; first = λ x h. absurd (none x h) })

-- firsts of what is kept are firsts of all
pub firsts_of_firsts : (those : Access → Type 0) (ys xs : List Access) → AreFirsts those ys → AreFirstsIn ys xs
    → AreFirsts those xs
firsts_of_firsts those ys xs h k = record {
  among = λ x m. h.among x (k.among x m);
  first = λ x m. as_early_through x xs ys (h.first x m) k.first;
}

-- an early item is also in a longer list
early_among : {x : Access} {xs zs : List Access} → HasAsEarly xs x
    → ((y : Access) → Member y xs → Member y zs) → HasAsEarly zs x
early_among h among = record {
  item = h.item;
  stands = among h.item h.stands;
  section = h.section;
  write = h.write;
  label = h.label;
}

-- two kept lists together
pub firsts_both : (those these : Access → Type 0) (xs ys : List Access) → AreFirsts those xs → AreFirsts these ys
    → AreFirsts (λ x. those x ⊎ these x) (xs ++ ys)
firsts_both those these xs ys h k = record {
  among = λ x m. elim (in_parts xs m) [ inl a ↦ inl (h.among x a) | inr b ↦ inr (k.among x b) ];
  first =
      λ x m. elim m [
        | inl a ↦ early_among (h.first x a) (λ y. in_left ys)
        | inr b ↦ early_among (k.first x b)
            (λ y. in_right xs)
      ];
}

-- the firsts of these accesses in other names
pub firsts_renamed : (p : Program) (out : ℕ → ℕ) (those : Access → Type 0) (xs : List Access) → AreFirsts those xs
    → AreFirsts (Renamed p accesses out those) (map (renamed out) xs)
firsts_renamed p out those xs h = record {
  among = λ y m. let r = from_map (renamed out) xs m in record { item = r.0; among = h.among r.0 r.1; same = r.2 };
  first = λ y m.
      let k = h.first m.item m.among in
      record {
        item = renamed out k.item;
        stands = in_map (renamed out) k.stands;
        section = ap out k.section ∙ sym (ap (λ (z : Access). z.section) m.same);
        write = k.write ∙ sym (ap (λ (z : Access). z.write) m.same);
        label = subst (λ n. k.item.label ≤ n) (sym (ap (λ (z : Access). z.label) m.same)) k.label;
      };
}

-- an item whose label becomes the smaller of two represents both
lesser_of : (m n : ℕ) → (min m n ≡ m) ⊎ (min m n ≡ n)
lesser_of m n = grind arith

min_left : (m n : ℕ) → min m n ≤ m
min_left m n = omega arith

min_right : (m n : ℕ) → min m n ≤ n
min_right m n = omega arith

abbrev with_label : rAccess → ℕ → rAccess
with_label x n = record x { label = n }

lowered_here : (a x : rAccess) (xs : List Access) → x.section ≡ a.section → x.write ≡ a.write
    → AreFirstsIn (access a ∷ access x ∷ xs) (access (with_label x (min x.label a.label)) ∷ xs)
lowered_here a x xs s w = record { among = among; first = kept }
  where
    among : (y : Access) → Member y (access (with_label x (min x.label a.label)) ∷ xs) → Member y (access a ∷ access x ∷ xs)
    among y first = elim (lesser_of x.label a.label) [
      | inl e ↦ subst (λ z. Member z (access a ∷ access x ∷ xs)) (ap (λ n. access (with_label x n)) (sym e)) (next first)
      | inr e ↦ subst (λ z. Member z (access a ∷ access x ∷ xs)) (alike (sym e)) first
    ]
      where
        alike : a.label ≡ min x.label a.label → access a ≡ access (with_label x (min x.label a.label))
        alike e = cc (s, w, e)
    among y (next m) = next (next m)

    kept : (y : Access) → Member y (access a ∷ access x ∷ xs) → HasAsEarly (access (with_label x (min x.label a.label)) ∷ xs) y
    kept y first = record {
      item = access (with_label x (min x.label a.label));
      stands = first;
      section = ap (λ z. z.number) s;
      write = w;
      label = min_right x.label a.label;
    }
    kept y (next first) = record {
      item = access (with_label x (min x.label a.label));
      stands = first;
      section = refl;
      write = refl;
      label = min_left x.label a.label;
    }
    kept y (next (next m)) = as_early_itself y _ (next m)

one_between : (a b z : Access) (xs : List Access) → Member z (a ∷ xs) → Member z (a ∷ b ∷ xs)
one_between a b z xs first = first
one_between a b z xs (next k) = next (next k)

only_one : (a x : Access) (ys : List Access) → Member x (a ∷ []) → Member x (a ∷ ys)
only_one a x ys first = first
only_one a x ys (next k) = elim k [ ]

-- one more access in front of both
widened : (a b : Access) (xs ys : List Access) → AreFirstsIn (a ∷ xs) ys → AreFirstsIn (a ∷ b ∷ xs) (b ∷ ys)
widened a b xs ys h = record { among = among; first = kept }
  where
    among : (z : Access) → Member z (b ∷ ys) → Member z (a ∷ b ∷ xs)
    among z first = next first
    among z (next m) = one_between a b z xs (h.among z m)

    kept : (z : Access) → Member z (a ∷ b ∷ xs) → HasAsEarly (b ∷ ys) z
    kept z first = early_among (h.first z first) (λ y. next)
    kept z (next first) = as_early_itself z (b ∷ ys) first
    kept z (next (next m)) = early_among (h.first z (next m)) (λ y. next)

-- the item at this index gets the smaller label
pub lowered : (a : rAccess) (xs : List rAccess) (k : ℕ) → k < length xs → (get_or xs k a).section ≡ a.section
    → (get_or xs k a).write ≡ a.write
    → AreFirstsIn (access a ∷ map access xs) (map access (set xs k (with_label (get_or xs k a) (min (get_or xs k a).label a.label))))
lowered a [] k h s w = absurd (omega arith)
lowered a (x ∷ xs) zero h s w = lowered_here a x (map access xs) s w
lowered a (x ∷ xs) (suc k) h s w = widened (access a) (access x) (map access xs) _ (lowered a xs k (omega arith) s w)

same_item : (xs : List rAccess) (k : ℕ) (a b : rAccess) → k < length xs → get_or xs k a ≡ get_or xs k b
same_item [] k a b h = absurd (omega arith)
same_item (x ∷ xs) zero a b h = refl
same_item (x ∷ xs) (suc k) a b h = same_item xs k a b (omega arith)

-- the same in a vector
pub lowered_by : (a d item : rAccess) (xs : List rAccess) (k n : ℕ) → IsAlikeAt xs a k → item ≡ get_or xs k d
    → n ≡ min item.label a.label
    → AreFirstsIn (access a ∷ map access xs) (map access (set xs k (with_label item n)))
lowered_by a d item xs k n h is least =
    subst (λ (y : rAccess). AreFirstsIn (access a ∷ map access xs) (map access (set xs k y)))
    (ap (λ (y : rAccess). with_label y (min y.label a.label)) (same_item xs k a d h.below ∙ sym is) ∙ ap (with_label item) (sym least))
    (lowered a xs k h.below h.section h.write)

-- an access that is unlike all others
pub put_behind : (a : rAccess) (xs : List rAccess) → AreFirstsIn (access a ∷ map access xs) (map access (xs ++ a ∷ []))
put_behind a [] = record { among = λ x m. m; first = λ x m. as_early_itself x _ m }
put_behind a (x ∷ xs) = widened (access a) (access x) (map access xs) _ (put_behind a xs)

-- an access at the end of the first part is one in front
moved_front : (xs : List Access) (a x : Access) (ys : List Access) → Member x ((xs ++ a ∷ []) ++ ys)
    → Member x (a ∷ (xs ++ ys))
moved_front xs a x ys m = elim (in_parts (xs ++ a ∷ []) m) [
  | inl l ↦ elim (in_parts xs l) [ inl k ↦ next (in_left ys k) | inr k ↦ only_one a x (xs ++ ys) k ]
  | inr r ↦ next (in_right xs r)
]

moved_back : (xs : List Access) (a x : Access) (ys : List Access) → Member x (a ∷ (xs ++ ys))
    → Member x ((xs ++ a ∷ []) ++ ys)
moved_back xs a x ys first = in_left ys (in_right xs first)
moved_back xs a x ys (next m) = elim (in_parts xs m) [ inl k ↦ in_left ys (in_left (a ∷ []) k) | inr k ↦ in_right (xs ++ a ∷ []) k ]

-- with one more access of the list, the firsts are those of a longer part of it
pub firsts_of_more : (f : rAccess → Access) (xs : List rAccess) (i : ℕ) (old now new : List Access) (d : rAccess) (a : Access)
    → i < length xs → a ≡ f (get_or xs i d) → AreFirstsIn (map f (take i xs) ++ old) now → AreFirstsIn (a ∷ now) new
    → AreFirstsIn (map f (take (i + 1) xs) ++ old) new
firsts_of_more f xs i old now new d a h e all one =
    subst (λ (ys : List Access). AreFirstsIn (ys ++ old) new) (sym longer)
    (firsts_same _ _ new (λ x m. moved_back (map f (take i xs)) a x old m) (λ x m. moved_front (map f (take i xs)) a x old m)
    (firsts_of_firsts _ (a ∷ now) new with_it one))
  where
    longer : map f (take (i + 1) xs) ≡ map f (take i xs) ++ a ∷ []
    longer = ap (λ n. map f (take n xs)) (let k : i + 1 ≡ suc i = omega arith in k) ∙ ap (map f) (take-suc xs i d h)
        ∙ map-append f (take i xs) (get_or xs i d ∷ []) ∙ ap (λ (y : Access). map f (take i xs) ++ y ∷ []) (sym e)

    among : (x : Access) → Member x (a ∷ now) → Member x (a ∷ (map f (take i xs) ++ old))
    among x first = first
    among x (next m) = next (all.among x m)

    kept : (x : Access) → Member x (a ∷ (map f (take i xs) ++ old)) → HasAsEarly (a ∷ now) x
    kept x first = as_early_itself x _ first
    kept x (next m) = early_among (all.first x m) (λ y. next)

    with_it : AreFirstsIn (a ∷ (map f (take i xs) ++ old)) (a ∷ now)
    with_it = record { among = among; first = kept }

-- this is so if nothing was kept before
pub firsts_of_longer : (f : rAccess → Access) (xs : List rAccess) (i : ℕ) (now new : List Access) (d : rAccess) (a : Access)
    → i < length xs → a ≡ f (get_or xs i d) → AreFirstsIn (map f (take i xs)) now → AreFirstsIn (a ∷ now) new
    → AreFirstsIn (map f (take (i + 1) xs)) new
firsts_of_longer f xs i now new d a h e all one =
    subst (λ (ys : List Access). AreFirstsIn ys new) (append-nil (map f (take (i + 1) xs)))
    (firsts_of_more f xs i [] now new d a h e (subst (λ (ys : List Access). AreFirstsIn ys now) (sym (append-nil (map f (take i xs)))) all) one)

-- after all accesses
pub firsts_of_all : (f : rAccess → Access) (g : Access → Access) (xs ys : List rAccess) (i : ℕ) (now : List Access)
    → ((x : rAccess) → f x ≡ g (access x)) → length xs ≤ i → xs ≡ ys → AreFirstsIn (map f (take i xs)) now
    → AreFirstsIn (map g (map access ys)) now
firsts_of_all f g xs ys i now same h e all =
    subst (λ (zs : List Access). AreFirstsIn zs now) (ap (map f) (take_all i xs h) ∙ through xs ∙ ap (λ zs. map g (map access zs)) e) all
  where
    through : (zs : List rAccess) → map f zs ≡ map g (map access zs)
    through [] = refl
    through (z ∷ zs) = ap (λ y. y ∷ map f zs) (same z) ∙ ap (λ rest. g (access z) ∷ rest) (through zs)

pub nothing_kept : (xs : List Access) → xs ≡ [] → AreFirstsIn [] xs
nothing_kept xs e = subst (λ (ys : List Access). AreFirstsIn [] ys) (sym e) (record { among = λ x m. m; first = λ x m. elim m [ ] })

-- Accesses to parameters, in the names around a call

-- no access of a kind to a parameter
pub none_passed : (those : Access → Type 0) (k s : ℕ) (w : Bool) (xs : List Access) → IsFirst those k w None
    → AreFirsts (λ y. IsPassedAs those k s w y ⊎ Member y xs) xs
none_passed those k s w xs h = record {
  among = λ x m. inr m;
  first = λ x m. elim m [
    | inl p ↦ absurd (h x.label (subst (λ (b : Bool). those (record { label = x.label; section = k; write = b })) p.kind p.among))
    | inr r ↦ as_early_itself x xs r
  ];
}

-- the first one of a kind to a parameter
pub one_passed : (those : Access → Type 0) (k s l : ℕ) (w : Bool) (xs ys : List Access) → IsFirst those k w (Some l)
    → AreFirstsIn (record { label = l; section = s; write = w } ∷ xs) ys
    → AreFirsts (λ y. IsPassedAs those k s w y ⊎ Member y xs) ys
one_passed those k s l w xs ys h one = record { among = λ x m. which x (one.among x m); first = λ x m. kept x m }
  where
    which : (x : Access) → Member x (record { label = l; section = s; write = w } ∷ xs) → IsPassedAs those k s w x ⊎ Member x xs
    which x first = inl (record { among = h.0; named = refl; kind = refl })
    which x (next m) = inr m

    kept : (x : Access) → IsPassedAs those k s w x ⊎ Member x xs → HasAsEarly ys x
    kept x (inl p) =
        let e = one.first (record { label = l; section = s; write = w }) first in
        record {
          item = e.item;
          stands = e.stands;
          section = e.section ∙ sym p.named;
          write = e.write ∙ sym p.kind;
          label = let low : e.item.label ≤ l = e.label in let least : l ≤ x.label = h.1 x.label (subst (λ (b : Bool). those (record { label = x.label; section = k; write = b })) p.kind p.among) in omega arith;
        }
    kept x (inr m) = one.first x (next m)

-- the accesses to the first parameters
pub record IsPassedBelow (those : Access → Type 0) (sections : List ℕ) (n : ℕ) (y : Access) : Type 0 where
  pub parameter : ℕ
  pub below : parameter < n
  pub among : those (record y { section = parameter })
  pub named : y.section ≡ slice_index_or sections parameter 0

pub none_passed_below : (those : Access → Type 0) (ss : List ℕ) (xs : List Access) → xs ≡ [] → AreFirsts (IsPassedBelow those ss 0) xs
none_passed_below those ss xs e =
    subst (λ (ys : List Access). AreFirsts (IsPassedBelow those ss 0) ys) (sym e)
    (record { among = λ x m. elim m [ ]; first = λ x p. let h : p.parameter < 0 = p.below in absurd (omega arith) })

-- one more parameter, in both kinds
pub more_passed : (those : Access → Type 0) (ss : List ℕ) (n s : ℕ) (xs ys zs : List Access) → s ≡ slice_index_or ss n 0
    → AreFirsts (IsPassedBelow those ss n) xs
    → AreFirsts (λ y. IsPassedAs those n s false y ⊎ Member y xs) ys
    → AreFirsts (λ y. IsPassedAs those n s true y ⊎ Member y ys) zs
    → AreFirsts (IsPassedBelow those ss (n + 1)) zs
more_passed those ss n s xs ys zs e all reads writes = record { among = λ x m. which x (writes.among x m); first = λ x p. kept x p }
  where
    here : (x : Access) (w : Bool) → IsPassedAs those n s w x → IsPassedBelow those ss (n + 1) x
    here x w p = record { parameter = n; below = omega arith; among = p.among; named = p.named ∙ e }

    before : (x : Access) → IsPassedBelow those ss n x → IsPassedBelow those ss (n + 1) x
    before x p = record {
      parameter = p.parameter;
      below = let h : p.parameter < n = p.below in omega arith;
      among = p.among;
      named = p.named;
    }

    read : (x : Access) → IsPassedAs those n s false x ⊎ Member x xs → IsPassedBelow those ss (n + 1) x
    read x (inl p) = here x false p
    read x (inr m) = before x (all.among x m)

    which : (x : Access) → IsPassedAs those n s true x ⊎ Member x ys → IsPassedBelow those ss (n + 1) x
    which x (inl p) = here x true p
    which x (inr m) = read x (reads.among x m)

    through : (x : Access) → HasAsEarly ys x → HasAsEarly zs x
    through x h = as_early_through x zs ys h (λ y m. writes.first y (inr m))

    as_passed : (x : Access) (p : IsPassedBelow those ss (n + 1) x) → p.parameter ≡ n → IsPassedAs those n s x.write x
    as_passed x p d = record {
      among = subst (λ k. those (record x { section = k })) d p.among;
      named = p.named ∙ ap (λ k. slice_index_or ss k 0) d ∙ sym e;
      kind = refl;
    }

    of_kind : (x : Access) (w : Bool) → x.write ≡ w → IsPassedAs those n s x.write x → HasAsEarly zs x
    of_kind x true d p = writes.first x (inl (record { among = p.among; named = p.named; kind = d }))
    of_kind x false d p = through x (reads.first x (inl (record { among = p.among; named = p.named; kind = d })))

    kept : (x : Access) → IsPassedBelow those ss (n + 1) x → HasAsEarly zs x
    kept x p = by (nat_eq p.parameter n) refl
      where
        by : (b : Bool) → nat_eq p.parameter n ≡ b → HasAsEarly zs x
        by true d = of_kind x x.write refl (as_passed x p (eqb-true p.parameter n d))
        by false d =
            let h : p.parameter < n + 1 = p.below in
            let ne : p.parameter ≢ n = eqb-false p.parameter n d in
            let k : HasAsEarly xs x =
            all.first x (record { parameter = p.parameter; below = omega arith; among = p.among; named = p.named }) in
            through x (as_early_through x ys xs k (λ y m. reads.first y (inr m)))

pub all_passed : (those : Access → Type 0) (ss : List ℕ) (n : ℕ) (xs : List Access) → length ss ≤ n → n ≤ length ss
    → AreFirsts (IsPassedBelow those ss n) xs → AreFirsts (IsPassed those ss) xs
all_passed those ss n xs h g all =
    firsts_same (IsPassedBelow those ss n) (IsPassed those ss) xs
    (λ x p. record {
      parameter = p.parameter;
      below = let k : p.parameter < n = p.below in omega arith;
      among = p.among;
      named = p.named;
    })
    (λ x p. record {
      parameter = p.parameter;
      below = let k : p.parameter < length ss = p.below in omega arith;
      among = p.among;
      named = p.named;
    })
    all

-- a fact that follows if a call succeeds
pub on_ok_from : {A E : Type 0} (P Q : Type 0) (r : Result A E) → (P → Q) → OnOk r P → OnOk r Q
on_ok_from P Q (Ok x) f h = f h
on_ok_from P Q (Err e) f h = tt

pub number_at : (ss : List SectionId) (n : ℕ) (d : SectionId) → n < length ss → (get_or ss n d).number ≡ slice_index_or (map section ss) n 0
number_at [] n d h = absurd (omega arith)
number_at (s ∷ ss) zero d h = refl
number_at (s ∷ ss) (suc n) d h = number_at ss n d (omega arith)

-- Rounds over the entries. Each round covers one more step.
use Rattle.std.proofs.Common.{◌≡◌, ◌⊎◌, inl, inr, ℕ, zero, suc, ◌+◌, ◌^◌, ◌≤◌, ◌<◌, List, [], ◌∷◌, length, refl, sym, ap, ◌∙◌, subst, arith, true≢false}
use Rattle.std.proofs.lemmas.Bool.{cases_lt}
use Rattle.std.proofs.lemmas.Option.{slice_get_within, same_Some}
use Rattle.std.specs.Prelude.{Bool, true, false, ◌||◌, Option, None, Some, IfSome, slice_get}
use Rattle.types.specs.Code.{Program}
use Rattle.types.specs.Run.{procedure_of}
use Rattle.effects.specs.Accesses.{Access}
use Rattle.witness.specs.Known.{AreNoLonger, AreShortest, AreWays, IsFrom, way_at, way_known, entry}
use Rattle.witness.specs.Least.{AtMost, IsLeast}
use Rattle.witness.specs.Settled.{HasPut, Improves, IsShortestAt, ListsAll, Rounded, total, weight}
use Rattle.witness.specs.Ways.{Way}
use Rattle.witness.specs.declared.known.Entry.{Entry}
use Rattle.witness.specs.declared.known.Known.{Known}
use Rattle.witness.specs.declared.step.WayStep.{WayStep}
use Rattle.witness.proofs.Leasts.{at_most_more}

-- ---- how far ways can still be shortened
weight_no_more : (a b : Option (List WayStep)) → ((n : ℕ) → AtMost length a n → AtMost length b n) → weight b ≤ weight a
weight_no_more None None h = omega arith
weight_no_more None (Some w) h = omega arith
weight_no_more (Some v) None h = absurd (h (length v) (omega arith))
weight_no_more (Some v) (Some w) h = let k : length w ≤ length v = h (length v) (omega arith) in omega (arith, k)

weight_less : (a b : Option (List WayStep)) (way : List WayStep) → b ≡ Some way → length way < 2 ^ 64
    → ((n : ℕ) → AtMost length a n → length way < n) → weight b < weight a
weight_less a b way e fits shorter = subst (λ (o : Option (List WayStep)). weight o < weight a) (sym e) (by a shorter)
  where
    by : (a : Option (List WayStep)) → ((n : ℕ) → AtMost length a n → length way < n) → weight (Some way) < weight a
    by None h = omega (arith, fits)
    by (Some v) h = let k : length way < length v = h (length v) (omega arith) in omega (arith, k, fits)

weight_at_no_more : (e : Entry) (old new : Known) → AreNoLonger old new → weight (way_at new e) ≤ weight (way_at old e)
weight_at_no_more e old new no_longer =
    weight_no_more (way_at old e) (way_at new e) (λ n h. no_longer e.pending e.procedure.number e.parameter.number n h)

total_no_more : (es : List Entry) (old new : Known) → AreNoLonger old new → total es new ≤ total es old
total_no_more [] old new h = omega arith
total_no_more (e ∷ es) old new h =
    let here = weight_at_no_more e old new h in let behind = total_no_more es old new h in omega (arith, here, behind)

total_less : (es : List Entry) (i : ℕ) (e : Entry) (old new : Known) → slice_get es i ≡ Some e → AreNoLonger old new
    → weight (way_at new e) < weight (way_at old e) → total es new < total es old
total_less [] i e old new there h less = absurd (none there)
  where
    none : None ≡ Some e → ⊥
    none q = cc
total_less (y ∷ es) zero e old new there h less =
    let here : weight (way_at new y) < weight (way_at old y) =
    subst (λ (z : Entry). weight (way_at new z) < weight (way_at old z)) (sym (same_Some y e there)) less in
    let behind = total_no_more es old new h in omega (arith, here, behind)
total_less (y ∷ es) (suc i) e old new there h less =
    let here = weight_at_no_more y old new h in
    let behind = total_less es i e old new there h less in omega (arith, here, behind)

-- ---- one way
pub put_same : (e : Entry) (way : List WayStep) (known : Known) → AtMost length (way_at known e) (length way) → HasPut e way false known known
put_same e way known h = record {
  known = h;
  same = λ b. refl;
  put = λ b. absurd (true≢false (sym b));
  fits = λ b. absurd (true≢false (sym b));
  shorter = λ b. absurd (true≢false (sym b));
}

-- ---- one entry
module _ (p : Program) (x : Access) where
  -- a shortest way stays shortest if no way becomes longer
  pub still_shortest : (old new : Known) → AreNoLonger old new → (n : ℕ) → AreShortest p x old n → AreShortest p x new n
  still_shortest old new h n close m f k way from less = h m f k (length way) (close m f k way from less)

  pub fewer_steps : (known : Known) (m n : ℕ) → m ≤ n → AreShortest p x known n → AreShortest p x known m
  fewer_steps known m n le close a f k way from less = close a f k way from (omega (arith, less, le))

  module _ (e : Entry) (way : List WayStep) (better : Bool) (old new : Known) (put : HasPut e way better old new) where
    -- what a table has after a change
    abbrev Changed : (m : Bool) (f k : ℕ) → Type 0
    Changed m f k =
        (way_known new m f k ≡ way_known old m f k) ⊎ ((better ≡ true) × (e ≡ entry m f k) × (way_known new m f k ≡ Some way))

    changed : (m : Bool) (f k : ℕ) → Changed m f k
    changed m f k = by better refl
      where
        by : (b : Bool) → better ≡ b → Changed m f k
        by false h = inl (ap (λ (t : Known). way_known t m f k) (put.same h))
        by true h = elim ((put.put h).others m f k) [
          | inl same ↦ inl same
          | inr is ↦ inr (h, is, ap (λ (y : Entry). way_at new y) (sym is) ∙ (put.put h).here)
        ]

    put_no_longer : AreNoLonger old new
    put_no_longer m f k n h = elim (changed m f k) [
      | inl same ↦ subst (λ (o : Option (List WayStep)). AtMost length o n) (sym same) h
      | inr c ↦
          let old_there : AtMost length (way_at old e) n = subst (λ (y : Entry). AtMost length (way_at old y) n) (sym c.1) h in
          let less = put.shorter c.0 n old_there in
          subst (λ (o : Option (List WayStep)). AtMost length o n) (sym c.2) (omega (arith, less))
    ]

    pub improves_put : AreWays p x old → e.parameter.number < length (procedure_of p e.procedure.number).parameters
        → IsLeast length (AreShortest p x old) (λ w. Way p e.pending (procedure_of p e.procedure.number).body w (record x { section = e.parameter.number })) (Some way)
        → Improves p x e better old new
    improves_put ways there found = record {
      ways = λ m f k. elim (changed m f k) [
        | inl same ↦ subst (λ (o : Option (List WayStep)). IfSome o (IsFrom p m f (record x { section = k }))) (sym same) (ways m f k)
        | inr c ↦ subst (λ (o : Option (List WayStep)). IfSome o (IsFrom p m f (record x { section = k }))) (sym c.2)
            (subst (λ (y : Entry). IsFrom p y.pending y.procedure.number (record x { section = y.parameter.number }) way) c.1
            (record { parameter = there; leads = found.among }))
      ];
      no_longer = put_no_longer;
      shortest = λ n close w from less.
          at_most_more length (way_at new e) (length way) (length w)
          (found.least w from.leads (fewer_steps old (length w) n (omega (arith, less)) close)) put.known;
      same = put.same;
      less = λ h. weight_less (way_at old e) (way_at new e) way (put.put h).here (put.fits h) (put.shorter h);
    }

  -- ---- a round
  pub rounded_none : (es : List Entry) (known : Known) → AreWays p x known → Rounded p x es 0 false known known
  rounded_none es known ways = record {
    ways = ways;
    no_longer = λ m f k n h. h;
    shortest = λ i h e there n close. absurd (omega (arith, h));
    same = λ h. refl;
    less = λ h. absurd (true≢false (sym h));
  }

  pub rounded_more : (es : List Entry) (i : ℕ) (e : Entry) (better here : Bool) (old now new : Known) → slice_get es i ≡ Some e
      → Rounded p x es i better old now → Improves p x e here now new → Rounded p x es (i + 1) (better || here) old new
  rounded_more es i e better here old now new there r s = record {
    ways = s.ways;
    no_longer = λ m f k n h. s.no_longer m f k n (r.no_longer m f k n h);
    shortest = λ j below y at n close way from less. elim (cases_lt j i) [
      | inl before ↦ s.no_longer y.pending y.procedure.number y.parameter.number (length way) (r.shortest j before y at n close way from less)
      | inr past ↦
          let same : j ≡ i = omega (arith, below, past) in
          let is : e ≡ y = same_Some e y (sym there ∙ ap (slice_get es) (sym same) ∙ at) in
          subst (λ (z : Entry). IsShortestAt p x new z (n + 1)) is (s.shortest n (still_shortest old now r.no_longer n close)) way from less
    ];
    same = λ none. by_neither better here refl refl none;
    less = λ some. by_either better here refl refl some;
  }
    where
      by_neither : (a b : Bool) → better ≡ a → here ≡ b → (a || b) ≡ false → new ≡ old
      by_neither true b f g h = absurd (true≢false h)
      by_neither false true f g h = absurd (true≢false h)
      by_neither false false f g h = s.same g ∙ r.same f

      by_either : (a b : Bool) → better ≡ a → here ≡ b → (a || b) ≡ true → total es new < total es old
      by_either true b f g h =
          let k = r.less f in let j = total_no_more es now new s.no_longer in omega (arith, k, j)
      by_either false true f g h =
          let k = total_no_more es old now r.no_longer in
          let j = total_less es i e now new there s.no_longer (s.less g) in omega (arith, k, j)
      by_either false false f g h = absurd (true≢false (sym h))

  -- if a round finds no shorter way, there is none
  pub settled_shortest : (es : List Entry) (known new : Known) → ListsAll p 0 es → Rounded p x es (length es) false known new
      → (n : ℕ) → AreShortest p x known n
  settled_shortest es known new all r zero m f k way from less = absurd (omega (arith, less))
  settled_shortest es known new all r (suc n) m f k way from less =
      let at = all m f k (omega arith) from.parameter in
      let within = slice_get_within es at.place (entry m f k) at.there in
      subst (λ (t : Known). AtMost length (way_known t m f k) (length way)) (r.same refl)
      (r.shortest at.place within (entry m f k) at.there n (settled_shortest es known new all r n) way from (omega (arith, less)))

  pub rounded_all : (es : List Entry) (i : ℕ) (better : Bool) (old new : Known) → length es ≤ i → Rounded p x es i better old new
      → Rounded p x es (length es) better old new
  rounded_all es i better old new all r = record {
    ways = r.ways;
    no_longer = r.no_longer;
    shortest = λ j h e there n close. r.shortest j (omega (arith, h, all)) e there n close;
    same = r.same;
    less = r.less;
  }

  pub ways_none : (known : Known) → ((m : Bool) (f k : ℕ) → way_known known m f k ≡ None) → AreWays p x known
  ways_none known none m f k = subst (λ (o : Option (List WayStep)). IfSome o (IsFrom p m f (record x { section = k }))) (sym (none m f k)) tt

  pub settled_end : (es ds : List Entry) (better : Bool) (known new : Known) → ds ≡ es → better ≡ false → ListsAll p 0 es
      → Rounded p x ds (length ds) better known new → (n : ℕ) → AreShortest p x new n
  settled_end es ds better known new e done all r n =
      let s : Rounded p x es (length es) false known new =
      subst (λ (ys : List Entry). Rounded p x ys (length ys) false known new) e
      (subst (λ (b : Bool). Rounded p x ds (length ds) b known new) done r) in
      subst (λ (t : Known). AreShortest p x t n) (sym (s.same refl)) (settled_shortest es known new all s n)

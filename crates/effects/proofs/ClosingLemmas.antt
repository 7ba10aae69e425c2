-- Tables of summaries, and the rows that flows bring labels into.
use Rattle.std.proofs.Common.{◌≡◌, ◌⊎◌, inl, inr, ℕ, zero, suc, ◌<◌, List, [], ◌∷◌, length, take, refl, sym, ap, subst, ◌∙◌, arith}
use Rattle.std.proofs.Common.{Option, Some, ◌+◌, ◌≤◌, get_or, add-one, take_all}
use Rattle.std.proofs.Math.ListN.{set}
use Rattle.std.specs.Prelude.{◌↔◌, Bool, true, false, ◌||◌, slice_get}
use Rattle.std.proofs.lemmas.Option.{slice_get_read}
use Rattle.std.proofs.lemmas.Bool.{or_parts}
use Rattle.shared_lemmas.proofs.Truths.{false_true}
use Rattle.sections.specs.Member.{Member, first, next}
use Rattle.effects.specs.Closing.{HasSome, HasIn, Reached, start, flow, Brings, BringsNew, IsClosed}
use Rattle.effects.specs.LabelSets.{HasLabel, HasNew}
use Rattle.effects.specs.SummaryRows.{HasRow}
use Rattle.effects.specs.declared.flows.CallFlow.{CallFlow}
use Rattle.effects.specs.declared.label_set.LabelSet.{LabelSet}
use Rattle.effects.specs.declared.summary.SummaryRow.{SummaryRow}
use Rattle.effects.specs.declared.summary.Summary.{Summary}

-- one of the summaries has more labels
rows_set : (xs : List Summary) (i : ℕ) (y : Summary) (more : SummaryRow → ℕ → Type 0) → i < length xs
    → ((r : SummaryRow) (l : ℕ) → HasRow y r l ↔ (HasSome (slice_get xs i) r l ⊎ more r l)) → (f : ℕ) (r : SummaryRow) (l : ℕ)
    → HasSome (slice_get (set xs i y) f) r l ↔ (HasSome (slice_get xs f) r l ⊎ ((f ≡ i) × more r l))
rows_set [] i y more h both f r l = absurd (omega (arith, h))
rows_set (x ∷ xs) zero y more h both zero r l = (
  λ k. elim ((both r l).0 k) [ inl a ↦ inl a | inr b ↦ inr (refl, b) ],
  λ k. (both r l).1 (elim k [ inl a ↦ inl a | inr b ↦ inr b.1 ]),
)
rows_set (x ∷ xs) zero y more h both (suc f) r l =
    (λ k. inl k, λ k. elim k [ inl a ↦ a | inr b ↦ let e : suc f ≡ zero = b.0 in absurd (omega arith) ])
rows_set (x ∷ xs) (suc i) y more h both zero r l =
    (λ k. inl k, λ k. elim k [ inl a ↦ a | inr b ↦ let e : zero ≡ suc i = b.0 in absurd (omega arith) ])
rows_set (x ∷ xs) (suc i) y more h both (suc f) r l =
    let deeper = rows_set xs i y more (omega (arith, h)) both f r l in (
      λ k. elim (deeper.0 k) [ inl a ↦ inl a | inr b ↦ inr (ap suc b.0, b.1) ],
      λ k. deeper.1 (elim k [ inl a ↦ inl a | inr b ↦ inr (let e : suc f ≡ suc i = b.0 in omega arith, b.1) ]),
    )

-- what a table contains if it has a summary
pub has_some : (o : Option Summary) (x : Summary) (r : SummaryRow) (l : ℕ) → o ≡ Some x → HasRow x r l ↔ HasSome o r l
has_some o x r l e = (λ h. subst (λ (p : Option Summary). HasSome p r l) (sym e) h, λ h. subst (λ (p : Option Summary). HasSome p r l) e h)

-- a flow brings the labels of its row
pub brought : (table : List Summary) (x : CallFlow) (callee caller new : Summary) (labels : LabelSet)
    → slice_get table x.callee.number ≡ Some callee → slice_get table x.caller.number ≡ Some caller → x.caller.number < length table
    → ((l : ℕ) → HasLabel labels l ↔ HasRow callee x.from l)
    → ((r : SummaryRow) (l : ℕ) → HasRow new r l ↔ (HasRow caller r l ⊎ ((r ≡ x.to) × HasLabel labels l)))
    → (f : ℕ) (r : SummaryRow) (l : ℕ)
    → HasIn (set table x.caller.number new) f r l ↔ (HasIn table f r l ⊎ Brings x table f r l)
brought table x callee caller new labels from to there same both f r l =
    let changed = rows_set table x.caller.number new (λ r l. (r ≡ x.to) × HasLabel labels l) there
    (subst (λ (o : Option Summary). (r : SummaryRow) (l : ℕ) → HasRow new r l ↔ (HasSome o r l ⊎ ((r ≡ x.to) × HasLabel labels l))) (sym to) both) f r l in
    let at = has_some (slice_get table x.callee.number) callee x.from l from in (
      λ h. elim (changed.0 h) [
        | inl a ↦ inl a
        | inr b ↦ inr (record { there = there; caller = b.0; to = b.1.0; label = at.0 ((same l).0 b.1.1) })
      ],
      λ h. changed.1 (elim h [ inl a ↦ inl a | inr b ↦ inr (b.caller, (b.to, (same l).1 (at.1 b.label))) ]),
    )

-- if the flows bring nothing new to a table, it has everything that is reached
pub closed_has : (flows : List CallFlow) (before table : List Summary) → length table ≡ length before
    → ((f : ℕ) (r : SummaryRow) (l : ℕ) → HasIn before f r l → HasIn table f r l) → IsClosed flows table
    → {f : ℕ} {r : SummaryRow} {l : ℕ} → Reached flows before f r l → HasIn table f r l
closed_has flows before table n more closed (start {f = f} {r = r} {l = l} h) = more f r l h
closed_has flows before table n more closed (flow {l = l} x m there h) =
    closed x m x.caller.number x.to l (record {
      there = omega (arith, there, n);
      caller = refl;
      to = refl;
      label = closed_has flows before table n more closed h;
    })

-- what is reached from what is reached is reached
pub reached_through : (flows : List CallFlow) (before table : List Summary) → length table ≡ length before
    → ((f : ℕ) (r : SummaryRow) (l : ℕ) → HasIn table f r l → Reached flows before f r l)
    → {f : ℕ} {r : SummaryRow} {l : ℕ} → Reached flows table f r l → Reached flows before f r l
reached_through flows before table n reached (start {f = f} {r = r} {l = l} h) = reached f r l h
reached_through flows before table n reached (flow {l = l} x m there h) =
    flow x m (omega (arith, there, n)) (reached_through flows before table n reached h)

-- what a flow brings is reached
pub brings_reached : (flows : List CallFlow) (before table : List Summary) (x : CallFlow) → Member x flows → length table ≡ length before
    → ((f : ℕ) (r : SummaryRow) (l : ℕ) → HasIn table f r l → Reached flows before f r l)
    → (f : ℕ) (r : SummaryRow) (l : ℕ) → Brings x table f r l → Reached flows before f r l
brings_reached flows before table x m n reached f r l b =
    subst (λ g. Reached flows before g r l) (sym b.caller)
    (subst (λ (q : SummaryRow). Reached flows before x.caller.number q l) (sym b.to)
    (flow x m (omega (arith, b.there, n)) (reached x.callee.number x.from l b.label)))

-- what is read from a list is in the list
pub got : {X : Type 0} (xs ys : List X) (s : ℕ) (x : X) → xs ≡ ys → s < length xs → x ≡ get_or xs s x → slice_get ys s ≡ Some x
got {X} xs ys s x e h at = ap (λ (zs : List X). slice_get zs s) (sym e) ∙ slice_get_read xs (length xs) s x refl h at

pub got_member : {X : Type 0} (xs : List X) (k : ℕ) (x : X) → slice_get xs k ≡ Some x → Member x xs
got_member [] k x e = cc
got_member {X} (y ∷ ys) zero x e = let same : y ≡ x = cc in subst (λ z. Member z (y ∷ ys)) same first
got_member (y ∷ ys) (suc k) x e = next (got_member ys k x e)

-- the next element of a list is the element at that index
pub taken : {X : Type 0} (xs : List X) (k : ℕ) (x y : X) → slice_get xs k ≡ Some x → Member y (take (suc k) xs)
    → Member y (take k xs) ⊎ (y ≡ x)
taken [] k x y e m = cc
taken (z ∷ zs) zero x y e first = inr cc
taken (z ∷ zs) zero x y e (next m) = elim m [ ]
taken (z ∷ zs) (suc k) x y e first = inl first
taken (z ∷ zs) (suc k) x y e (next m) = elim (taken zs k x y e m) [ inl a ↦ inl (next a) | inr b ↦ inr b ]

-- what a round has done with the first k flows
pub record Rounded (flows : List CallFlow) (before table : List Summary) (grown : Bool) (k : ℕ) : Type 0 where
  pub number : length table ≡ length before
  pub more : (f : ℕ) (r : SummaryRow) (l : ℕ) → HasIn before f r l → HasIn table f r l
  pub reached : (f : ℕ) (r : SummaryRow) (l : ℕ) → HasIn table f r l → Reached flows before f r l
  pub same : grown ≡ false → (f : ℕ) (r : SummaryRow) (l : ℕ) → HasIn table f r l → HasIn before f r l
  pub closed : grown ≡ false → IsClosed (take k flows) before
  pub new : grown ≡ true → BringsNew flows before table

pub rounded_none : (flows : List CallFlow) (before : List Summary) → Rounded flows before before false 0
rounded_none flows before = record {
  number = refl;
  more = λ f r l h. h;
  reached = λ f r l h. start h;
  same = λ none f r l h. h;
  closed = λ none x m f r l b. elim m [ ];
  new = λ some. false_true some;
}

moved : (x : CallFlow) (before table : List Summary) → length table ≡ length before
    → ((f : ℕ) (r : SummaryRow) (l : ℕ) → HasIn before f r l → HasIn table f r l) → (f : ℕ) (r : SummaryRow) (l : ℕ)
    → Brings x before f r l → Brings x table f r l
moved x before table n more f r l b = record {
  there = omega (arith, b.there, n);
  caller = b.caller;
  to = b.to;
  label = more x.callee.number x.from l b.label;
}

had : (x : CallFlow) (table : List Summary) (f : ℕ) (r : SummaryRow) (l : ℕ) → Brings x table f r l
    → ((l : ℕ) → Brings x table x.caller.number x.to l → HasIn table x.caller.number x.to l) → HasIn table f r l
had x table f r l b has =
    subst (λ g. HasIn table g r l) (sym b.caller)
    (subst (λ (q : SummaryRow). HasIn table x.caller.number q l) (sym b.to)
    (has l (record { there = b.there; caller = refl; to = refl; label = b.label })))

-- and with one more flow
pub rounded_more : (flows : List CallFlow) (before table new : List Summary) (grown here : Bool) (k : ℕ) (x : CallFlow)
    → Rounded flows before table grown k → slice_get flows k ≡ Some x → length new ≡ length table
    → ((f : ℕ) (r : SummaryRow) (l : ℕ) → HasIn new f r l ↔ (HasIn table f r l ⊎ Brings x table f r l))
    → (here ≡ false → (l : ℕ) → Brings x table x.caller.number x.to l → HasIn table x.caller.number x.to l)
    → (here ≡ true → HasNew (HasIn table x.caller.number x.to) (Brings x table x.caller.number x.to))
    → Rounded flows before new (grown || here) (k + 1)
rounded_more flows before table new grown here k x so_far at n both has brings = record {
  number = n ∙ so_far.number;
  more = λ f r l h. (both f r l).1 (inl (so_far.more f r l h));
  reached = λ f r l h. elim ((both f r l).0 h) [
    | inl a ↦ so_far.reached f r l a
    | inr b ↦ brings_reached flows before table x (got_member flows k x at) so_far.number so_far.reached f r l b
  ];
  same = λ none f r l h.
      let none_so_far = or_parts grown here none in
      so_far.same none_so_far.0 f r l
      (elim ((both f r l).0 h) [ inl a ↦ a | inr b ↦ had x table f r l b (has none_so_far.1) ]);
  closed = λ none y m f r l b.
      let none_so_far = or_parts grown here none in
      elim (taken flows k x y at (subst (λ (n : ℕ). Member y (take n flows)) (add-one k) m)) [
        | inl a ↦ so_far.closed none_so_far.0 y a f r l b
        | inr e ↦ so_far.same none_so_far.0 f r l
            (had x table f r l
            (moved x before table so_far.number so_far.more f r l (subst (λ (z : CallFlow). Brings z before f r l) e b))
            (has none_so_far.1))
      ];
  new = λ some. by_either grown here refl refl some;
}
  where
    by_either : (g h : Bool) → grown ≡ g → here ≡ h → (g || h) ≡ true → BringsNew flows before new
    by_either true h e f some =
        let r = so_far.new e in
        record {
          flow = r.flow;
          member = r.member;
          label = r.label;
          now = (both r.flow.caller.number r.flow.to r.label).1 (inl r.now);
          missing = r.missing;
        }
    by_either false true e f some =
        let r = brings f in
        record {
          flow = x;
          member = got_member flows k x at;
          label = r.label;
          now = (both x.caller.number x.to r.label).1 (inr r.among);
          missing = λ h. r.missing (so_far.more x.caller.number x.to r.label h);
        }
    by_either false false e f some = false_true some

pub rounded_all : (flows : List CallFlow) (before table : List Summary) (grown : Bool) (k : ℕ) → Rounded flows before table grown k
    → length flows ≤ k → grown ≡ false → IsClosed flows before
rounded_all flows before table grown k rounded h none =
    subst (λ (xs : List CallFlow). IsClosed xs before) (take_all k flows h) (rounded.closed none)

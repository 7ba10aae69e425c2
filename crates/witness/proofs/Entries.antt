-- The list of all entries.
use Rattle.std.proofs.Common.{◌≡◌, inl, inr, ℕ, zero, suc, ◌+◌, ◌-◌, ◌≤◌, ◌<◌, List, [], ◌∷◌, ◌++◌, length, map, refl, sym, ap, subst, arith}
use Rattle.std.proofs.lemmas.Bool.{cases_lt}
use Rattle.std.proofs.lemmas.List.{length-map}
use Rattle.std.specs.Prelude.{Bool, true, false, slice_index_or}
use Rattle.types.specs.Code.{Procedure}
use Rattle.types.specs.Run.{procedure_of, no_procedure}
use Rattle.types.specs.Translation.{parameter, procedure, program}
use Rattle.types.specs.declared.code.Procedure.{Procedure as rProcedure}
use Rattle.types.specs.declared.code.Program.{Program as rProgram}
use Rattle.witness.specs.Known.{entry}
use Rattle.witness.specs.Settled.{AreAdded, Lists, ListsAll}
use Rattle.witness.specs.declared.known.Entry.{Entry}
use Rattle.shared_lemmas.proofs.Lists.{get-append_last, get-append_left}

pushed_kept : (xs : List Entry) (y e : Entry) → Lists xs e → Lists (xs ++ y ∷ []) e
pushed_kept xs y e h = record { place = h.place; there = get-append_left xs (y ∷ []) h.place e h.there }

pushed_last : (xs : List Entry) (y : Entry) → Lists (xs ++ y ∷ []) y
pushed_last xs y = record { place = length xs; there = get-append_last xs y }

-- both entries of a parameter
pub added_none : (f : ℕ) (xs : List Entry) → AreAdded f 0 xs xs
added_none f xs = record { kept = λ e h. h; added = λ m k h. absurd (omega (arith, h)) }

pub added_more : (f k : ℕ) (old now mid new : List Entry) → AreAdded f k old now → mid ≡ now ++ entry false f k ∷ [] → new ≡ mid ++ entry true f k ∷ []
    → AreAdded f (k + 1) old new
added_more f k old now mid new a e g = record {
  kept = λ y h. keep y (a.kept y h);
  added = λ m j h. elim (cases_lt j k) [
    | inl before ↦ keep (entry m f j) (a.added m j before)
    | inr past ↦ let same : k ≡ j = omega (arith, h, past) in subst (λ (i : ℕ). Lists new (entry m f i)) same (both m)
  ];
}
  where
    keep : (y : Entry) → Lists now y → Lists new y
    keep y h = subst (λ (es : List Entry). Lists es y) (sym g)
        (pushed_kept mid (entry true f k) y (subst (λ (es : List Entry). Lists es y) (sym e) (pushed_kept now (entry false f k) y h)))

    both : (m : Bool) → Lists new (entry m f k)
    both true = subst (λ (es : List Entry). Lists es (entry true f k)) (sym g) (pushed_last mid (entry true f k))
    both false = subst (λ (es : List Entry). Lists es (entry false f k)) (sym g)
        (pushed_kept mid (entry true f k) (entry false f k)
        (subst (λ (es : List Entry). Lists es (entry false f k)) (sym e) (pushed_last now (entry false f k))))

pub added_all : (f k n : ℕ) (old new : List Entry) → n ≤ k → AreAdded f k old new → AreAdded f n old new
added_all f k n old new le a = record { kept = a.kept; added = λ m j h. a.added m j (omega (arith, h, le)) }

-- the procedure with a number
pub callee : (xs : List rProcedure) (f : ℕ) (d : rProcedure) (e : Procedure) → f < length xs → d ≡ slice_index_or xs f d
    → procedure d ≡ slice_index_or (map procedure xs) f e
callee [] f d e h k = absurd (omega (arith, h))
callee (x ∷ xs) zero d e h k = ap procedure k
callee (x ∷ xs) (suc f) d e h k = callee xs f d e (omega (arith, h)) k

pub callee_past : (xs : List rProcedure) (f : ℕ) (e : Procedure) → length xs ≤ f → slice_index_or (map procedure xs) f e ≡ e
callee_past [] f e h = refl
callee_past (x ∷ xs) zero e h = absurd (omega (arith, h))
callee_past (x ∷ xs) (suc f) e h = callee_past xs f e (omega (arith, h))

-- after the last procedure there is none with a parameter
pub lists_none : (q : rProgram) (first : ℕ) (es : List Entry) → length q.procedures.items ≤ first → ListsAll (program q) first es
lists_none q first es past m f k from below =
    let none : procedure_of (program q) f ≡ no_procedure = callee_past q.procedures.items f no_procedure (omega (arith, past, from)) in
    let few : k < length (no_procedure.parameters) = subst (λ (g : Procedure). k < length g.parameters) none below in
    absurd (omega (arith, few))

-- the entries of one more procedure, from the end
pub lists_more : (q : rProgram) (i n : ℕ) (d : rProcedure) (old new : List Entry) → 0 < i → i ≤ length q.procedures.items
    → d ≡ slice_index_or q.procedures.items (i - 1) d → n ≡ length d.parameters.items → ListsAll (program q) i old
    → AreAdded (i - 1) n old new → ListsAll (program q) (i - 1) new
lists_more q i n d old new some within is many all a m f k from below = elim (cases_lt f i) [
  | inr past ↦ a.kept (entry m f k) (all m f k (omega (arith, past)) below)
  | inl before ↦
      let same : i - 1 ≡ f = omega (arith, before, from) in
      let at : procedure d ≡ procedure_of (program q) (i - 1) = callee q.procedures.items (i - 1) d no_procedure (omega (arith, some, within)) is in
      let there : k < length (procedure_of (program q) (i - 1)).parameters = subst (λ (g : ℕ). k < length (procedure_of (program q) g).parameters) (sym same) below in
      let few : k < length (procedure d).parameters = subst (λ (g : Procedure). k < length g.parameters) (sym at) there in
      subst (λ (g : ℕ). Lists new (entry m g k)) same (a.added m k (omega (arith, few, many, length-map d.parameters.items parameter)))
]

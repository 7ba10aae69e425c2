-- A statement of one step reads and writes only places of its own accesses.
use Rattle.std.proofs.Common.{◌≡◌, ℕ, zero, suc, ◌+◌, ◌<◌, List, [], ◌∷◌, length, Some, None, Ok, Err, ℤ, pos, negsuc}
use Rattle.std.proofs.Common.{refl, sym, subst, arith}
use Rattle.std.specs.Prelude.{Bool, true, false, Contains, slice_index_or, nat_lt, if◌then◌else◌, ok_or}
use Rattle.std.proofs.lemmas.Bool.{ltb-true}
use Rattle.sections.specs.Place.{Window, Place, In, same_place}
use Rattle.sections.proofs.Windows.{places_same}
use Rattle.sections.specs.Member.{Member, first, next}
use Rattle.types.specs.declared.fault.FaultKind.TheVariants.{Index}
use Rattle.types.specs.Code.{Number, Truth, Primitive, Skip, Assign, Store, Print, Raise, Do, Program}
use Rattle.types.specs.Contents.{Contents, write}
use Rattle.types.specs.Indexed.{indexed, indexed_truth}
use Rattle.types.specs.Value.{Environment, Valued, element_of, holds_number, number, truth}
use Rattle.types.specs.Laws.{SameOn}
use Rattle.types.specs.Run.{State, with_value, number_at, numbers_at, window_at, put, print, assign, fault, primitive}
use Rattle.types.specs.Run.{array_of}
use Rattle.types.proofs.Readings.{number_same, truth_same}
use Rattle.effects.specs.Accesses.{reads, own_accesses}
use Rattle.effects.specs.Footprint.{Touches, Overwrites}
use Rattle.effects.proofs.Members.{in_map}

member_at : {A : Type 0} (x : A) (xs : List A) (k : ℕ) → k < length xs → slice_index_or xs k x ≡ x → Member x xs
member_at x [] k h e = absurd (omega arith)
member_at x (y ∷ ys) zero h e = subst (λ z. Member x (z ∷ ys)) (sym e) first
member_at x (y ∷ ys) (suc k) h e = next (member_at x ys k (omega arith) e)

pub contained : {A : Type 0} (x : A) (xs : List A) → Contains xs x → Member x xs
contained x xs c = member_at x xs c.0 c.1 c.2

module _ (env : Environment) (l : ℕ) (read other : Place → ℤ) where
  -- the readings agree on what reads of these sections may touch
  abbrev pub Agree : List ℕ → Type 0
  Agree ss = (q : Place) → Touches env (λ x. Member x (reads l ss)) q → read q ≡ other q

  same_on : (ss : List ℕ) → Agree ss → SameOn env ss read other
  same_on ss h s c q i = h q (record {
    access = record { label = l; section = s; write = false };
    among = in_map (λ s. record { label = l; section = s; write = false }) (contained s ss c);
    place = i;
  })

  pub number_of_reads : (e : Number) → Agree (indexed e) → number env read e ≡ number env other e
  number_of_reads e h = number_same env read other e (same_on (indexed e) h)

  pub truth_of_reads : (t : Truth) → Agree (indexed_truth t) → truth env read t ≡ truth env other t
  truth_of_reads t h = truth_same env read other t (same_on (indexed_truth t) h)

-- the place of an element lies in its window
abbrev IsIn : Window → Valued Place → Type 0
IsIn w (Ok q) = In w q
IsIn w (Err f) = Unit {0}

pub element_of-in : (w : Window) (v : ℤ) → IsIn w (element_of w v)
element_of-in w (negsuc n) = tt
element_of-in w (pos n) = go (nat_lt n w.length) refl
  where
    go : (b : Bool) → nat_lt n w.length ≡ b → IsIn w (ok_or (if b then Some (record { array = w.array; index = w.at + n }) else None) Index)
    go true e = record { array = refl; low = omega arith; high = omega (arith, ltb-true n w.length e) }
    go false e = tt

-- what is written elsewhere isn't written here
write-other : (q r : Place) (v : ℤ) (c : Contents) → (same_place q r ≡ true → ⊥) → write q v c r ≡ c r
write-other q r v c h = go (same_place q r) refl
  where
    go : (b : Bool) → same_place q r ≡ b → (if b then Some v else c r) ≡ c r
    go true e = absurd (h e)
    go false e = refl

module _ (p : Program) {X : Type 0} (l : ℕ) (q : Place) where
  -- the number at the place stays
  abbrev Stays : State X → State X → Type 0
  Stays st out = out.store q ≡ st.store q

  value_stays : {A : Type 0} (v : Valued A) (go : A → State X → State X) (st : State X) → ((a : A) → v ≡ Ok a → Stays st (go a st))
      → Stays st (with_value l v go st)
  value_stays (Ok a) go st h = h a refl
  value_stays (Err f) go st h = refl

  put_stays : (fits : Bool) (r : Place) (v : ℤ) (st : State X) → (same_place r q ≡ true → ⊥) → Stays st (put l fits r v st)
  put_stays true r v st h = write-other r q v st.store h
  put_stays false r v st h = refl

  -- a statement of one step writes only places of its own writes
  pub primitive_stays : (s : Primitive) (st : State X) → (Overwrites st.environment (λ x. Member x (own_accesses l (Do s))) q → ⊥)
      → Stays st (primitive p l s st)
  primitive_stays Skip st h = refl
  primitive_stays (Assign x e) st h = value_stays (number_at st e) (assign x) st (λ a k. refl)
  primitive_stays (Store s i e) st h =
      value_stays (number_at st i)
      (λ at. with_value l (number_at st e)
      (λ v. with_value l (element_of (window_at st s) at) (λ q. put l (holds_number (array_of p q.array).element v) q v))) st (λ at j.
      value_stays (number_at st e)
      (λ v. with_value l (element_of (window_at st s) at) (λ q. put l (holds_number (array_of p q.array).element v) q v)) st (λ v k.
      value_stays (element_of (window_at st s) at) (λ q. put l (holds_number (array_of p q.array).element v) q v) st (λ r m.
      put_stays (holds_number (array_of p r.array).element v) r v st (λ n. h (record {
        access = record { label = l; section = s; write = true };
        among = first;
        place = subst (λ q. In (window_at st s) q) (places_same r q n)
            (subst (IsIn (window_at st s)) m (element_of-in (window_at st s) at));
        writes = refl;
      })))))
  primitive_stays (Print es) st h = value_stays (numbers_at st es) print st (λ a k. refl)
  primitive_stays (Raise e) st h = value_stays (number_at st e) (λ v. fault l _) st (λ a k. refl)

-- Tests of lists, and members of lists.
use Rattle.std.proofs.Common.{◌≡◌, inl, inr, List, [], ◌∷◌}
use Rattle.std.proofs.lemmas.Bool.{or_cases, or_left, or_right, false≢true}
use Rattle.std.specs.Prelude.{Bool, true}
use Rattle.std.specs.List.{list_any}
use Rattle.sections.specs.Member.{Member, first, next}

-- an element of the list that passes the test
pub record Passes {A : Type 0} (test : A → Bool) (xs : List A) : Type 0 where
  pub item : A
  pub member : Member item xs
  pub passes : test item ≡ true

pub any_member : {A : Type 0} (test : A → Bool) (xs : List A) → list_any test xs ≡ true → Passes test xs
any_member test [] h = absurd (false≢true h)
any_member test (x ∷ xs) h = elim (or_cases (test x) (list_any test xs) h) [
  | inl k ↦ record { item = x; member = first; passes = k }
  | inr k ↦ (let r = any_member test xs k in record { item = r.item; member = next r.member; passes = r.passes })
]

pub member_any : {A : Type 0} (test : A → Bool) {x : A} (xs : List A) → Member x xs → test x ≡ true → list_any test xs ≡ true
member_any test [] h e = elim h [ ]
member_any test (x ∷ xs) first e = or_left (test x) (list_any test xs) e
member_any test (y ∷ xs) (next h) e = or_right (test y) (list_any test xs) (member_any test xs h e)

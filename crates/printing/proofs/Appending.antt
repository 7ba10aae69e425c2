-- Writing one text after another.
use Rattle.std.proofs.Common.{◌≡◌, ℕ, ◌+◌, ◌<◌, ◌≤◌, List, [], ◌++◌, length, take, drop, get_or, sym, ap, ◌∙◌, subst}
use Rattle.std.proofs.Common.{append_assoc, take-append-drop, take_all}
use Rattle.std.specs.Prelude.{Option, Result, Ok, Err}
use Rattle.std.specs.Result.{IsErr}
use Rattle.std.specs.List.{flat_map}
use Rattle.std.specs.Io.KnownBytes.{Appends}
use Rattle.std.proofs.KnownBytes.{Appends-trans}
use Rattle.std.proofs.lemmas.List.{append-nil, take_more, flat_map_more}
use Rattle.std.proofs.lemmas.List.Concat.{flat_map-append}
use Rattle.std.proofs.lemmas.Result.{MatchResult-from_err}
use Rattle.printing.specs.Appending.{AppendsBeginning, Writes}

-- a prefix was appended, whether or not everything was accepted
pub beginning_written : {T E : Type 0} (a b : Option (List ℕ)) (r : Result T E) (t : List ℕ) → Writes a b r t → AppendsBeginning a b t
beginning_written a b (Ok x) t written = record { begun = t; rest = []; parts = sym (append-nil t); appended = written }
beginning_written a b (Err e) t begun = begun

-- a prefix of a text is a prefix of a longer text
pub begins_longer : (a b : Option (List ℕ)) (s t : List ℕ) → AppendsBeginning a b s → AppendsBeginning a b (s ++ t)
begins_longer a b s t p = record {
  begun = p.begun;
  rest = p.rest ++ t;
  parts = ap (λ l. l ++ t) p.parts ∙ append_assoc p.begun p.rest t;
  appended = p.appended;
}

-- a text, and then a prefix of the next
pub then_begins : (a b c : Option (List ℕ)) (s t : List ℕ) → Appends a b s → AppendsBeginning b c t → AppendsBeginning a c (s ++ t)
then_begins a b c s t first p = record {
  begun = s ++ p.begun;
  rest = p.rest;
  parts = ap (λ l. s ++ l) p.parts ∙ sym (append_assoc s p.begun p.rest);
  appended = Appends-trans a b c s p.begun first p.appended;
}

-- a text, and then a call that writes the next
pub then_writes : {T E : Type 0} (a b c : Option (List ℕ)) (r : Result T E) (s t : List ℕ) → Appends a b s
    → Writes b c r t → Writes a c r (s ++ t)
then_writes a b c (Ok x) s t first p = Appends-trans a b c s t first p
then_writes a b c (Err e) s t first p = then_begins a b c s t first p

-- a call that fails after a prefix of the text
pub fails : {T E : Type 0} {a b : Option (List ℕ)} {t : List ℕ} (r : Result T E) → IsErr r → AppendsBeginning a b t → Writes a b r t
fails r failed p = MatchResult-from_err r _ _ failed (λ _. p)

-- ---- the texts of a list's elements, one after the other

-- the texts of the first n elements were appended
pub record AppendsFirst {A : Type 0} (text : A → List ℕ) (xs : List A) (n : ℕ) (a b : Option (List ℕ)) : Type 0 where
  pub so_far : Appends a b (flat_map text (take n xs))

module _ {A : Type 0} (text : A → List ℕ) (xs : List A) where
  -- the text of one more element
  flat_map_one_more : (n : ℕ) (x d : A) → n < length xs → x ≡ get_or xs n d
      → flat_map text (take (n + 1) xs) ≡ flat_map text (take n xs) ++ text x
  flat_map_one_more n x d inside is =
      ap (flat_map text) (take_more xs n d inside) ∙ sym (flat_map_more text [] (take n xs) (get_or xs n d))
      ∙ ap (λ y. flat_map text (take n xs) ++ text y) (sym is)

  pub first_more : (n : ℕ) (x d : A) (a b c : Option (List ℕ)) → n < length xs → x ≡ get_or xs n d
      → AppendsFirst text xs n a b → Appends b c (text x) → AppendsFirst text xs (n + 1) a c
  first_more n x d a b c inside is p next = record {
    so_far = subst (Appends a c) (sym (flat_map_one_more n x d inside is)) (Appends-trans a b c _ _ p.so_far next);
  }

  -- a prefix of the text of the next element
  pub first_begins : (n : ℕ) (x d : A) (a b c : Option (List ℕ)) → n < length xs → x ≡ get_or xs n d
      → AppendsFirst text xs n a b → AppendsBeginning b c (text x) → AppendsBeginning a c (flat_map text xs)
  first_begins n x d a b c inside is p next =
      let whole : flat_map text xs ≡ (flat_map text (take n xs) ++ text x) ++ flat_map text (drop (n + 1) xs) =
      ap (flat_map text) (sym (take-append-drop (n + 1) xs)) ∙ flat_map-append text (take (n + 1) xs) (drop (n + 1) xs)
      ∙ ap (λ l. l ++ flat_map text (drop (n + 1) xs)) (flat_map_one_more n x d inside is) in
      subst (AppendsBeginning a c) (sym whole) (begins_longer a c _ _ (then_begins a b c _ _ p.so_far next))

  pub first_all : (n : ℕ) (a b : Option (List ℕ)) → length xs ≤ n → AppendsFirst text xs n a b → Appends a b (flat_map text xs)
  first_all n a b all p = subst (Appends a b) (ap (flat_map text) (take_all n xs all)) p.so_far

-- Programs, tested one after the other.
use Rattle.std.proofs.Common.{◌≡◌, ℕ, ◌+◌, ◌<◌, ◌≤◌, List, [], ◌∷◌, ◌++◌, length, map, take, drop, get_or}
use Rattle.std.proofs.Common.{append_assoc, arith, refl, sym, ap, ◌∙◌, subst, string_bytes}
use Rattle.std.proofs.lemmas.List.{drop_all, drop_more, map-append, take_more}
use Rattle.std.specs.List.{flat_map}
use Rattle.std.specs.Prelude.{Bool, true, false}
use Rattle.command_line.specs.Requests.{Settings}
use Rattle.files.specs.Held.{Held}
use Rattle.test_and_bench.specs.Listing.{Listed, listed}
use Rattle.test_and_bench.specs.Trials.{AreTested, IsJudged, Judged, counted, judged, more, none, passed_of}
use Rattle.test_and_bench.specs.declared.listed.Listed.{Listed as rListed}
use Rattle.test_and_bench.specs.declared.trial.Tested.{Tested as rTested}

module _ (writes : Bool) (under : Settings) (held : Held) (ps : List rListed) where
  -- the first n of them are tested
  abbrev pub HaveTested : (now : Held) → (n : ℕ) → (js : List Judged) → Type 0
  HaveTested now n js = AreTested writes under held (map listed (take n ps)) js now

  pub none_tested : HaveTested held 0 []
  none_tested = none

  taken_more : (n : ℕ) (p d : rListed) → n < length ps → p ≡ get_or ps n d
      → map listed (take n ps) ++ listed p ∷ [] ≡ map listed (take (n + 1) ps)
  taken_more n p d inside is =
      ap (λ (x : rListed). map listed (take n ps) ++ listed x ∷ []) is
      ∙ sym (map-append listed (take n ps) (get_or ps n d ∷ [])) ∙ sym (ap (map listed) (take_more ps n d inside))

  -- one more
  pub one_more : (mid now : Held) (n : ℕ) (p d : rListed) (js longer : List Judged) (j : Judged) → n < length ps
      → p ≡ get_or ps n d → HaveTested mid n js
      → IsJudged writes mid (record { program = listed p; settings = under }) now j → longer ≡ js ++ j ∷ []
      → HaveTested now (n + 1) longer
  one_more mid now n p d js longer j inside is so_far verdict added =
      subst (λ (ks : List Judged). HaveTested now (n + 1) ks) (sym added)
      (subst (λ (xs : List Listed). AreTested writes under held xs (js ++ j ∷ []) now) (taken_more n p d inside is)
      (more (map listed (take n ps)) (listed p) js j mid now so_far verdict))

-- files are unchanged if nothing is written
module _ (under : Settings) (held : Held) where
  kept_so : {later : Held} {ps : List Listed} {js : List Judged} → AreTested false under held ps js later → later ≡ held
  kept_so none = refl
  kept_so (more ps p js j mid later so_far judged) = judged.verdict.0 ∙ kept_so so_far

  pub kept : (writes : Bool) (later : Held) (ps : List Listed) (js : List Judged) → AreTested writes under held ps js later
      → writes ≡ false → later ≡ held
  kept writes later ps js tested is = kept_so (subst (λ (w : Bool). AreTested w under held ps js later) is tested)

-- for files with the same contents before
pub tested_after : (writes : Bool) (under : Settings) (mid held : Held) (ps : List Listed) (js : List Judged) (later : Held)
    → mid ≡ held → AreTested writes under mid ps js later → AreTested writes under held ps js later
tested_after writes under mid held ps js later same tested =
    subst (λ (h : Held). AreTested writes under h ps js later) same tested

-- ---- how many passed, and their lines

counted_so : (b : Bool) (n m : ℕ) → counted b n + m ≡ n + counted b m
counted_so true n m = omega arith
counted_so false n m = refl

-- one more at most
pub few_counted : (b : Bool) (n now i : ℕ) → now ≡ counted b n → n ≤ i → now ≤ i + 1
few_counted true n now i is few = let more : now ≡ n + 1 = is in omega arith
few_counted false n now i is few = let same : now ≡ n = is in omega arith

module _ (ts : List rTested) where
  -- those from the n-th on
  abbrev pub left : (n : ℕ) → List Judged
  left n = map judged (drop n ts)

  left_more : (n : ℕ) (t d : rTested) → n < length ts → t ≡ get_or ts n d → left n ≡ judged t ∷ left (n + 1)
  left_more n t d inside is =
      ap (map judged) (drop_more ts n d inside ∙ ap (λ (x : rTested). x ∷ drop (n + 1) ts) (sym is))

  pub one_counted : (n passed now : ℕ) (t d : rTested) → n < length ts → t ≡ get_or ts n d
      → now ≡ counted t.verdict.passes passed → passed_of (left (n + 1)) + now ≡ passed_of (left n) + passed
  one_counted n passed now t d inside is counts =
      ap (λ (m : ℕ). passed_of (left (n + 1)) + m) counts
      ∙ sym (counted_so t.verdict.passes (passed_of (left (n + 1))) passed)
      ∙ sym (ap (λ (js : List Judged). passed_of js + passed) (left_more n t d inside is))

  -- all of them
  pub all_counted : (n passed : ℕ) → length ts ≤ n → passed_of (left n) + passed ≡ passed_of (map judged ts)
      → passed ≡ passed_of (map judged ts)
  all_counted n passed all so_far =
      let none : 0 + passed ≡ passed = omega arith in
      sym none ∙ sym (ap (λ (xs : List rTested). passed_of (map judged xs) + passed) (drop_all n ts all)) ∙ so_far

  pub one_shown : (n : ℕ) (text longer : List ℕ) (t d : rTested) → n < length ts → t ≡ get_or ts n d
      → longer ≡ text ++ string_bytes t.verdict.lines
      → longer ++ flat_map (λ j. j.lines) (left (n + 1)) ≡ text ++ flat_map (λ j. j.lines) (left n)
  one_shown n text longer t d inside is added =
      ap (λ (l : List ℕ). l ++ flat_map (λ j. j.lines) (left (n + 1))) added
      ∙ append_assoc text (string_bytes t.verdict.lines) (flat_map (λ j. j.lines) (left (n + 1)))
      ∙ sym (ap (λ (js : List Judged). text ++ flat_map (λ j. j.lines) js) (left_more n t d inside is))

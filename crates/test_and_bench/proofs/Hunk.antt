-- The lines in which two texts differ, for lines that are given by references.
use Rattle.std.proofs.Common.{◌≡◌, ℕ, ◌+◌, ◌-◌, List, [], ◌∷◌, ◌++◌, length, map, take, drop, refl, sym, ap, ◌∙◌}
use Rattle.std.proofs.lemmas.List.{drop-map, length-map, map-append, reverse-append, take-map}
use Rattle.std.proofs.lemmas.List.Folds.{flat_map-map}
use Rattle.std.specs.Prelude.{codes, if◌then◌else◌, min, reverse, slice_range}
use Rattle.std.specs.Fmt.{decimal}
use Rattle.std.specs.Str.{bytes_eq}
use Rattle.test_and_bench.specs.Differences.{description, differing_line}
use Rattle.test_and_bench.specs.Hunks.{common, hunk, lines_of, signed, signed_line}

-- a line that is given as it is
abbrev pub itself : List ℕ → List ℕ
itself line = line

-- the hunk of texts with these numbers of lines, of which these many are equal at both ends
abbrev hunk_at : {X : Type 0} → (line : X → List ℕ) → (before behind n m : ℕ) → (told wanted : List X) → List ℕ
hunk_at line before behind n m told wanted =
    signed line 32 (slice_range told (before - 3) before)
    ++ (signed line 45 (slice_range wanted before (m - behind))
    ++ (signed line 43 (slice_range told before (n - behind))
    ++ signed line 32 (slice_range told (n - behind) (n - behind + min (behind - 1) 3))))

module _ {X : Type 0} (line : X → List ℕ) where
  signed_by : (sign : ℕ) (xs : List X) → signed line sign xs ≡ signed itself sign (map line xs)
  signed_by sign xs = sym (flat_map-map (signed_line sign) line xs)

  range_by : (a b : ℕ) (xs : List X) → map line (slice_range xs a b) ≡ slice_range (map line xs) a b
  range_by a b xs = sym (take-map line (b - a) (drop a xs)) ∙ ap (take (b - a)) (sym (drop-map line a xs))

  part_by : (sign a b : ℕ) (xs : List X)
      → signed line sign (slice_range xs a b) ≡ signed itself sign (slice_range (map line xs) a b)
  part_by sign a b xs = signed_by sign (slice_range xs a b) ∙ ap (signed itself sign) (range_by a b xs)

  common_by : (xs ys : List X) → common line xs ys ≡ common itself (map line xs) (map line ys)
  common_by [] ys = refl
  common_by (x ∷ xs) [] = refl
  common_by (x ∷ xs) (y ∷ ys) =
      ap (λ (n : ℕ). if bytes_eq (line x) (line y) then 1 + n else 0) (common_by xs ys)

  reverse_by : (xs : List X) → reverse (map line xs) ≡ map line (reverse xs)
  reverse_by [] = refl
  reverse_by (x ∷ xs) =
      reverse-append (line x ∷ []) (map line xs) ∙ ap (λ (ls : List (List ℕ)). ls ++ line x ∷ []) (reverse_by xs)
      ∙ sym (map-append line (reverse xs) (x ∷ [])) ∙ sym (ap (map line) (reverse-append (x ∷ []) xs))

  end_by : (before : ℕ) (xs : List X) → map line (reverse (drop before xs)) ≡ reverse (drop before (map line xs))
  end_by before xs = sym (reverse_by (drop before xs)) ∙ ap reverse (sym (drop-map line before xs))

  module _ (told wanted : List X) where
    behind_by : (before : ℕ) → common line (reverse (drop before told)) (reverse (drop before wanted))
        ≡ common itself (reverse (drop before (map line told))) (reverse (drop before (map line wanted)))
    behind_by before =
        common_by (reverse (drop before told)) (reverse (drop before wanted))
        ∙ ap (λ (ls : List (List ℕ)). common itself ls (map line (reverse (drop before wanted)))) (end_by before told)
        ∙ ap (common itself (reverse (drop before (map line told)))) (end_by before wanted)

    at_by : (before behind n m : ℕ)
        → hunk_at line before behind n m told wanted ≡ hunk_at itself before behind n m (map line told) (map line wanted)
    at_by before behind n m =
        let a = signed itself 32 (slice_range (map line told) (before - 3) before) in
        let b = signed itself 45 (slice_range (map line wanted) before (m - behind)) in
        let c = signed itself 43 (slice_range (map line told) before (n - behind)) in
        let e = signed line 45 (slice_range wanted before (m - behind)) in
        let f = signed line 43 (slice_range told before (n - behind)) in
        let g = signed line 32 (slice_range told (n - behind) (n - behind + min (behind - 1) 3)) in
        ap (λ (x : List ℕ). x ++ (e ++ (f ++ g))) (part_by 32 (before - 3) before told)
        ∙ ap (λ (x : List ℕ). a ++ (x ++ (f ++ g))) (part_by 45 before (m - behind) wanted)
        ∙ ap (λ (x : List ℕ). a ++ (b ++ (x ++ g))) (part_by 43 before (n - behind) told)
        ∙ ap (λ (x : List ℕ). a ++ (b ++ (c ++ x))) (part_by 32 (n - behind) (n - behind + min (behind - 1) 3) told)

    -- it is the hunk of these lines
    pub hunk_by : hunk line told wanted ≡ hunk itself (map line told) (map line wanted)
    hunk_by =
        let ts = map line told in let ws = map line wanted in
        let before = common line told wanted in
        let behind = common line (reverse (drop before told)) (reverse (drop before wanted)) in
        at_by before behind (length told) (length wanted)
        ∙ ap (λ (k : ℕ). hunk_at itself before k (length told) (length wanted) ts ws) (behind_by before)
        ∙ ap (λ (n : ℕ). hunk_at itself before (common itself (reverse (drop before ts)) (reverse (drop before ws)))
        n (length wanted) ts ws) (sym (length-map told line))
        ∙ ap (λ (m : ℕ). hunk_at itself before (common itself (reverse (drop before ts)) (reverse (drop before ws)))
        (length ts) m ts ws) (sym (length-map wanted line))
        ∙ ap (λ (n : ℕ). hunk_at itself n (common itself (reverse (drop n ts)) (reverse (drop n ws)))
        (length ts) (length ws) ts ws) (common_by told wanted)

  -- the whole description
  pub described_so : (told wanted text new : List ℕ) (ts ws : List X) (n : ℕ) → n ≡ differing_line 1 told wanted
      → text ≡ codes "differs at line " ++ (decimal n ++ codes "\n") → map line ts ≡ lines_of told
      → map line ws ≡ lines_of wanted → new ≡ text ++ hunk line ts ws → new ≡ description told wanted
  described_so told wanted text new ts ws n at head are wanted_are is =
      is
      ∙ ap (λ (t : List ℕ). t ++ hunk line ts ws)
      (head ∙ ap (λ (m : ℕ). codes "differs at line " ++ (decimal m ++ codes "\n")) at)
      ∙ ap (λ (h : List ℕ). (codes "differs at line " ++ (decimal (differing_line 1 told wanted) ++ codes "\n")) ++ h)
      (hunk_by ts ws ∙ ap (λ (ls : List (List ℕ)). hunk itself ls (map line ws)) are ∙ ap (hunk itself (lines_of told)) wanted_are)

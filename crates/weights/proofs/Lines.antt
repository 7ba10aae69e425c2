-- More turns and lines after those of entries.
use Rattle.std.proofs.Common.{◌≡◌, ℕ, ◌+◌, ◌-◌, ◌≤◌, List, [], ◌∷◌, ◌++◌, length, take, drop, Some, zero, suc, refl, sym, ap, subst, ◌∙◌, arith}
use Rattle.std.specs.Prelude.{slice_get, slice_range}
use Rattle.std.proofs.lemmas.List.{drop-append-le, drop_at, length-append, length-drop, map_push, take-append-le}
use Rattle.std.proofs.lemmas.Option.{none-some, same_Some}
use Rattle.std.proofs.Math.Seq.{take-length}
use Rattle.weights.specs.Ledger.{Returned}
use Rattle.weights.specs.Lines.{StandAmong, said_by, said_in}
use Rattle.weights.specs.declared.entries.ReturnedWeight.{ReturnedWeight}

-- a part of a list is unchanged if more is appended to the list
range_stays : (turns more : List ℕ) (at n : ℕ) → at + n ≤ length turns
    → slice_range (turns ++ more) at (at + n) ≡ slice_range turns at (at + n)
range_stays turns more at n within =
    let low : at ≤ length turns = omega (arith, within) in
    let long = length-drop at turns in
    let few : (at + n) - at ≤ length (drop at turns) = omega (arith, within, long) in
    ap (λ (xs : List ℕ). take ((at + n) - at) xs) (drop-append-le at turns more low)
    ∙ take-append-le ((at + n) - at) (drop at turns) more few

-- the entries that lines represent are unchanged
pub said_stays : (turns more : List ℕ) (lines : List ReturnedWeight) → StandAmong turns lines
    → said_in (turns ++ more) lines ≡ said_in turns lines
said_stays turns more [] among = refl
said_stays turns more (l ∷ lines) among =
    ap (λ (p : List ℕ). record { path = p; weight = l.weight } ∷ said_in (turns ++ more) lines)
    (range_stays turns more l.at l.length among.0)
    ∙ ap (λ (rs : List Returned). said_by turns l ∷ rs) (said_stays turns more lines among.1)

-- their paths are parts of the longer list of turns
pub stands_among_more : (turns more : List ℕ) (lines : List ReturnedWeight) (l : ReturnedWeight) → StandAmong turns lines
    → l.at + l.length ≤ length (turns ++ more) → StandAmong (turns ++ more) (lines ++ l ∷ [])
stands_among_more turns more [] l among within = (within, tt)
stands_among_more turns more (x ∷ lines) l among within =
    let long = length-append turns more in
    let low = among.0 in
    (omega (arith, long, low), stands_among_more turns more lines l among.1 within)

-- a line for what is appended to all turns
pub line_added : (turns path : List ℕ) (lines : List ReturnedWeight) (at n weight : ℕ) → StandAmong turns lines
    → at ≡ length turns → n ≡ length path
    → said_in (turns ++ path) (lines ++ record { at = at; length = n; weight = weight } ∷ [])
    ≡ said_in turns lines ++ record { path = path; weight = weight } ∷ []
line_added turns path lines at n weight among is_at is_long =
    let l : ReturnedWeight = record { at = at; length = n; weight = weight } in
    let many : (at + n) - at ≡ length path = omega (arith, is_long) in
    let its : slice_range (turns ++ path) at (at + n) ≡ path =
    ap (λ (xs : List ℕ). take ((at + n) - at) xs) (drop_at turns path at (sym is_at))
    ∙ ap (λ (k : ℕ). take k path) many ∙ take-length path in
    map_push (said_by (turns ++ path)) lines l
    ∙ ap (λ (rs : List Returned). rs ++ said_by (turns ++ path) l ∷ []) (said_stays turns path lines among)
    ∙ ap (λ (p : List ℕ). said_in turns lines ++ record { path = p; weight = weight } ∷ []) its

-- one line more, and its path after the turns
pub one_more : (turns path more : List ℕ) (lines many : List ReturnedWeight) (at n weight : ℕ) → StandAmong turns lines
    → at ≡ length turns → n ≡ length path → more ≡ turns ++ path
    → many ≡ lines ++ record { at = at; length = n; weight = weight } ∷ []
    → StandAmong more many × (said_in more many ≡ said_in turns lines ++ record { path = path; weight = weight } ∷ [])
one_more turns path more lines many at n weight among is_at is_long is_more is_many =
    let l : ReturnedWeight = record { at = at; length = n; weight = weight } in
    let long = length-append turns path in
    let within : at + n ≤ length (turns ++ path) = omega (arith, long, is_at, is_long) in (
      subst (λ (ts : List ℕ). StandAmong ts many) (sym is_more)
          (subst (StandAmong (turns ++ path)) (sym is_many) (stands_among_more turns path lines l among within)),
      ap (λ (ts : List ℕ). said_in ts many) is_more
          ∙ ap (said_in (turns ++ path)) is_many
          ∙ line_added turns path lines at n weight among is_at is_long,
    )

-- the path of the line with a number is part of the turns
pub stands_at : (turns : List ℕ) (lines : List ReturnedWeight) (number : ℕ) (l : ReturnedWeight) → slice_get lines number ≡ Some l
    → StandAmong turns lines → l.at + l.length ≤ length turns
stands_at turns (x ∷ lines) zero l is among = subst (λ (y : ReturnedWeight). y.at + y.length ≤ length turns) (same_Some _ _ is) among.0
stands_at turns (x ∷ lines) (suc number) l is among = stands_at turns lines number l is among.1
stands_at turns [] number l is among = absurd (none-some l is)

-- What follows `--set=` in an argument.
use Rattle.std.proofs.Common.{◌≡◌, ◌≢◌, ℕ, List, ◌++◌, take, drop, Option, Some, None, Bor}
use Rattle.std.proofs.Common.{refl, sym, ap, ◌∙◌, codes}
use Rattle.std.proofs.Math.Seq.{take-append_seam}
use Rattle.std.proofs.lemmas.List.{take-append-drop}
use Rattle.std.proofs.lemmas.Slice.Eq.{bytes_eq-Decides}
use Rattle.std.specs.Prelude.{Bool, true, false, if◌then◌else◌, MatchOption, option_map}
use Rattle.std.specs.Str.{bytes_eq}
use Rattle.std.specs.Str.Pattern.{FindsTextPrefix, StripsPrefix}
use Rattle.command_line.specs.Lists.{attached}

abbrev front : List ℕ
front = codes "--set="

abbrev attached_by : Bool → (word : List ℕ) → Option (List ℕ)
attached_by b w = if b then Some (drop 6 w) else None

-- an argument that starts with it
starts : (w : List ℕ) → w ≡ front ++ drop 6 w → bytes_eq (take 6 w) front ≡ true
starts w whole =
    (bytes_eq-Decides (take 6 w) front).1 (ap (take 6) whole ∙ take-append_seam front (drop 6 w))

-- one that doesn't
lacks : (w : List ℕ) → ((more : List ℕ) → w ≢ front ++ more) → (b : Bool) → bytes_eq (take 6 w) front ≡ b
    → None ≡ attached_by b w
lacks w without true is =
    absurd (without (drop 6 w) (sym (take-append-drop 6 w)
    ∙ ap (λ (t : List ℕ). t ++ drop 6 w) ((bytes_eq-Decides (take 6 w) front).0 is)))
lacks w without false is = refl

-- what `strip_prefix` returns
pub prefix_stripped : (w : List ℕ) (r : Option (Bor (List ℕ)))
    → MatchOption r (FindsTextPrefix front w None) (λ x. StripsPrefix (FindsTextPrefix front) w x.now)
    → option_map (λ l. l.now) r ≡ attached w
prefix_stripped w None without = lacks w without (bytes_eq (take 6 w) front) refl
prefix_stripped w (Some x) found =
    let six = found.1.0 in
    let whole : w ≡ front ++ drop 6 w = found.1.1 ∙ ap (λ (n : ℕ). front ++ drop n w) six in
    ap Some (found.2 ∙ ap (λ (n : ℕ). drop n w) six) ∙ sym (ap (λ (b : Bool). attached_by b w) (starts w whole))

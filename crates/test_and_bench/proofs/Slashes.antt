-- Whether a name has a folder.
use Rattle.std.proofs.Common.{◌≡◌, ◌≢◌, ℕ, List, [], length, sym, ap, ◌∙◌, eqb, true-eqb, true≢false}
use Rattle.std.proofs.lemmas.List.{nil_from_length}
use Rattle.std.specs.Prelude.{Bool, true, false}

pub empty_folder : (folder : List ℕ) (b : Bool) → b ≡ eqb (length folder) 0 → b ≡ true → folder ≡ []
empty_folder folder b of is = nil_from_length folder (true-eqb (length folder) 0 (sym is ∙ of))

pub some_folder : (folder : List ℕ) (b : Bool) → b ≡ eqb (length folder) 0 → b ≡ false → folder ≢ []
some_folder folder b of is same =
    true≢false (sym (of ∙ ap (λ (f : List ℕ). eqb (length f) 0) same) ∙ is)

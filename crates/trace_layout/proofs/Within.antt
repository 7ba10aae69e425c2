-- What is true of all so far, and of one more.
use Rattle.std.proofs.Common.{◌≡◌, ℕ, ◌+◌, ◌<◌, List, length, get_or, take, subst}
use Rattle.std.specs.Prelude.{All}
use Rattle.std.proofs.lemmas.List.Elements.{All-more, All-weaker}

pub more_within : {X : Type 0} (P Q : X → Type 0) (xs : List X) (i : ℕ) (x d : X) → ((y : X) → P y → Q y)
    → i < length xs → x ≡ get_or xs i d → All P (take i xs) → Q x → All Q (take (i + 1) xs)
more_within P Q xs i x d weaker there is all this =
    All-more Q xs i d there (All-weaker P Q weaker (take i xs) all) (subst Q is this)

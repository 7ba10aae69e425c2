-- Choices that a random number generator draws by a fixed rule.
use Rattle.std.specs.Prelude.{ℕ, ℤ, zero, suc, ◌+◌, ◌*◌, ◌/◌, ◌%◌, List, [], ◌∷◌, Option, Some, None}
use Rattle.std.specs.Prelude.{if◌then◌else◌, nat_eq}
use Rattle.types.specs.Code.{Program}
use Rattle.types.specs.Contents.{Contents, held_by}
use Rattle.types.specs.Trees.{Tree, ready}
use Rattle.types.specs.TreeSteps.{step, first_tree}

-- the generator's next number after this one, of 64 bits
abbrev pub next_number : ℕ → ℕ
next_number n = (n * 6364136223846793005 + 1442695040888963407) % 18446744073709551616

-- the leaf that a number of 64 bits names, among this number of leaves: its upper half decides
abbrev pub picked : (number leaves : ℕ) → ℕ
picked number leaves = (number / 4294967296) % leaves

-- the choices after a step
abbrev pub behind : (Tree → Contents → List ℕ) → Option (Tree × Contents) → List ℕ
behind go None = []
behind go (Some ta) = go ta.0 ta.1

module _ (p : Program) where
  -- at most this number of choices, by the generator's numbers after this one, until no leaf may
  -- step
  unfoldable pub drawn : (most number : ℕ) → Tree → Contents → List ℕ
  drawn zero number t a = []
  drawn (suc most) number t a =
      if nat_eq (ready t) 0 then []
      else (let n = next_number number in let c = picked n (ready t) in
      c ∷ behind (drawn most n) (step p c t a))

-- the choices that are drawn from a seed for the run of a program on an input
abbrev pub drawn_choices : Program → (input : List (List ℤ)) → (seed : ℕ) → List ℕ
drawn_choices p input seed = drawn p 1000000 seed (first_tree p) (held_by input)

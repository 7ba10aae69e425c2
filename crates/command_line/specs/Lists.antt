-- The lists that `--set` gives among the arguments of a command line.
use Rattle.std.specs.Prelude.{ℕ, Bool, true, false, List, [], ◌∷◌, codes, Option, None, Some, drop, take}
use Rattle.std.specs.Prelude.{if◌then◌else◌}
use Rattle.std.specs.Str.{bytes_eq}

-- what follows `--set=` in an argument
abbrev pub attached : (word : List ℕ) → Option (List ℕ)
attached w = if bytes_eq (take 6 w) (codes "--set=") then Some (drop 6 w) else None

-- the list that an argument gives, if it gives one: all of it after `--set`, or what follows `--set=`
abbrev pub list_in : (awaited : Bool) → (word : List ℕ) → Option (List ℕ)
list_in true w = Some w
list_in false w = attached w

-- the argument after this one is a list
abbrev pub awaits : (awaited : Bool) → (word : List ℕ) → Bool
awaits true w = false
awaits false w = bytes_eq w (codes "--set")

-- a list before others, if it is given
abbrev pub with_list : Option (List ℕ) → List (List ℕ) → List (List ℕ)
with_list None ls = ls
with_list (Some l) ls = l ∷ ls

-- all lists, if the first argument is one or isn't
abbrev pub lists_from : (awaited : Bool) → (words : List (List ℕ)) → List (List ℕ)
lists_from awaited [] = []
lists_from awaited (w ∷ ws) = with_list (list_in awaited w) (lists_from (awaits awaited w) ws)

abbrev pub lists_in : (words : List (List ℕ)) → List (List ℕ)
lists_in ws = lists_from false ws

-- An action that is done with several files, one after the other.
use Rattle.std.proofs.Common.{◌≡◌, ℕ, ◌+◌, ◌<◌, List, [], ◌∷◌, ◌++◌, length, map, take, get_or, Option}
use Rattle.std.proofs.Common.{sym, ap, ◌∙◌, subst, String, Global}
use Rattle.std.proofs.lemmas.List.{map-append, take_more}
use Rattle.std.specs.String.{string_bytes}
use Rattle.command_line.specs.Requests.{Asked}
use Rattle.command_line.specs.declared.request.Action.{Action}
use Rattle.command_line.specs.declared.request.Telling.{Telling}
use Rattle.files.specs.Held.{Held}
use Rattle.driver.specs.declared.more.More.{More}
use Rattle.driver.specs.Orders.{ActsOnEach, ActsOnOne, asked_for, larger, none, more}
use Rattle.driver.specs.declared.doing.TextOrder.{TextOrder}
use Rattle.driver.specs.declared.doing.TextOrder.TheVariants.{Answering}

module _ (m : More) (x : Action) (t : Telling) (held : Held) (old err_old : Option (List ℕ))
    (fs : List (String Global)) where
  -- it was done with the first n of them
  abbrev pub HaveActed : (n : ℕ) → (now : Held) → (new err_new : Option (List ℕ)) → (status : ℕ) → Type 0
  HaveActed n now new err_new status =
      ActsOnEach m x t held old err_old (map string_bytes (take n fs)) now new err_new status

  pub none_acted : HaveActed 0 held old err_old 0
  none_acted = none

  taken_more : (n : ℕ) (f d : String Global) → n < length fs → f ≡ get_or fs n d
      → map string_bytes (take n fs) ++ string_bytes f ∷ [] ≡ map string_bytes (take (n + 1) fs)
  taken_more n f d inside is =
      ap (λ (g : String Global). map string_bytes (take n fs) ++ string_bytes g ∷ []) is
      ∙ sym (map-append string_bytes (take n fs) (get_or fs n d ∷ []))
      ∙ sym (ap (map string_bytes) (take_more fs n d inside))

  -- one more
  pub one_more : (n : ℕ) (f d : String Global) (name : List ℕ) (e : More) (doing : TextOrder) (a : Asked)
      (mid later : Held) (between new err_between err_new : Option (List ℕ)) (s k w : ℕ) → n < length fs
      → f ≡ get_or fs n d → name ≡ string_bytes f → e ≡ m → doing ≡ Answering → a ≡ asked_for x t name
      → HaveActed n mid between err_between s
      → ActsOnOne e doing a mid later between new err_between err_new k → w ≡ larger s k
      → HaveActed (n + 1) later new err_new w
  one_more n f d name e doing a mid later between new err_between err_new s k w inside is named follows answers asked
      so_far acts worst =
      subst (λ (v : ℕ). HaveActed (n + 1) later new err_new v) (sym worst)
      (subst (λ (names : List (List ℕ)). ActsOnEach m x t held old err_old names later new err_new (larger s k))
      (taken_more n f d inside is)
      (more (map string_bytes (take n fs)) (string_bytes f) mid later between new err_between err_new s k so_far
      (subst (λ (b : More). ActsOnOne b Answering (asked_for x t (string_bytes f)) mid later between new err_between err_new k)
      follows
      (subst (λ (b : TextOrder). ActsOnOne e b (asked_for x t (string_bytes f)) mid later between new err_between err_new k)
      answers
      (subst (λ (b : Asked). ActsOnOne e doing b mid later between new err_between err_new k)
      (asked ∙ ap (asked_for x t) named) acts)))))

-- The JSON members of the lists among arguments.
use Rattle.std.proofs.Common.{◌≡◌, ◌∷◌, ◌++◌, ◌+◌, ◌<◌, ◌≤◌, ℕ, List, [], codes, Option, Some, None, Bor, String, Global}
use Rattle.std.proofs.Common.{append_assoc, arith, refl, ap, ap₂, sym, ◌∙◌, length, map, drop, take, take_all, get_or}
use Rattle.std.proofs.lemmas.List.{append-nil, drop_all, drop_more}
use Rattle.std.proofs.lemmas.Str.Pattern.{split_once_first}
use Rattle.std.specs.Prelude.{Bool}
use Rattle.std.specs.List.{position_or_len}
use Rattle.std.specs.Str.Pattern.{FindsChar, SplitsAroundMatch}
use Rattle.std.specs.String.{string_bytes}
use Rattle.command_line.specs.Lists.{awaits, list_in, lists_from, with_list}
use Rattle.files.specs.Held.{behind_list, is_equals, member, member_of, members, shown}

-- ---- one list

-- at its first equals sign
pub member_in_parts : (list : List ℕ) (name elements : Bor (List ℕ))
    → SplitsAroundMatch (FindsChar 61) list name.now elements.now
    → member_of name.now elements.now ≡ member list
member_in_parts list name elements splits =
    let parts = split_once_first 61 list (Some (name, elements)) splits (omega arith) in
    ap₂ member_of parts.1 parts.2

-- without one
pub member_without_equals : (list : List ℕ) → FindsChar 61 list None → member_of list [] ≡ member list
member_without_equals list none =
    let at : position_or_len is_equals list ≡ length list = split_once_first 61 list None none (omega arith) in
    ap₂ member_of
    (sym (ap (λ (n : ℕ). take n list) at ∙ take_all (length list) list (omega arith)))
    (sym (ap (λ (n : ℕ). drop (n + 1) list) at ∙ drop_all (length list + 1) list (omega arith)))

-- ---- all lists

-- a list before others
one_before : (before : List ℕ) (o : Option (List ℕ)) (ls : List (List ℕ))
    → members before (with_list o ls) ≡ shown before o ++ members (behind_list before o) ls
one_before before None ls = refl
one_before before (Some l) ls = sym (append_assoc before (member l) (members (codes ",") ls))

module _ (words : List (String Global)) where
  -- those that are left from the n-th argument on
  abbrev pub left : (n : ℕ) → (awaited : Bool) → (before : List ℕ) → List ℕ
  left n awaited before = members before (lists_from awaited (map string_bytes (drop n words)))

  -- after one more argument
  pub one_more : (n : ℕ) (word none : String Global) (awaited later : Bool) (before behind text longer : List ℕ)
      (list : Option (List ℕ)) → n < length words → word ≡ get_or words n none
      → list ≡ list_in awaited (string_bytes word) → later ≡ awaits awaited (string_bytes word)
      → longer ≡ text ++ shown before list → behind ≡ behind_list before list
      → longer ++ left (n + 1) later behind ≡ text ++ left n awaited before
  one_more n word none awaited later before behind text longer list inside is given next added after =
      let others = map string_bytes (drop (n + 1) words) in
      let rest = lists_from (awaits awaited (string_bytes word)) others in
      let here : drop n words ≡ word ∷ drop (n + 1) words =
      drop_more words n none inside ∙ ap (λ (w : String Global). w ∷ drop (n + 1) words) (sym is) in
      ap₂ (λ (t : List ℕ) (b : List ℕ). t ++ members b (lists_from later others)) added after
      ∙ ap (λ (b : Bool). (text ++ shown before list) ++ members (behind_list before list) (lists_from b others)) next
      ∙ append_assoc text (shown before list) (members (behind_list before list) rest)
      ∙ ap (λ (t : List ℕ). text ++ t) (sym (one_before before list rest))
      ∙ ap (λ (o : Option (List ℕ)). text ++ members before (with_list o rest)) given
      ∙ ap (λ (ws : List (String Global)). text ++ members before (lists_from awaited (map string_bytes ws))) (sym here)

  -- none is left after all arguments
  pub all_added : (n : ℕ) (awaited : Bool) (before text whole : List ℕ) → length words ≤ n
      → text ++ left n awaited before ≡ whole → text ≡ whole
  all_added n awaited before text whole past added =
      sym (append-nil text)
      ∙ ap (λ (ws : List (String Global)). text ++ members before (lists_from awaited (map string_bytes ws)))
      (sym (drop_all n words past))
      ∙ added

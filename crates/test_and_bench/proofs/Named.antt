-- The programs of names, one name after the other.
use Rattle.std.proofs.Common.{◌≡◌, ℕ, ◌+◌, ◌<◌, List, [], ◌∷◌, ◌++◌, length, map, take, drop, get_or, String, Global}
use Rattle.std.proofs.Common.{refl, sym, ap, ◌∙◌, subst}
use Rattle.std.proofs.lemmas.List.{map-append, take-append-drop, take_more}
use Rattle.std.proofs.lemmas.List.Elements.{Contains-append_left, Contains-push}
use Rattle.std.specs.List.{Contains}
use Rattle.std.specs.String.{string_bytes}
use Rattle.files.specs.Held.{Held}
use Rattle.failures.specs.declared.failure.Failure.{Failure}
use Rattle.test_and_bench.specs.Folders.{Folders}
use Rattle.test_and_bench.specs.Listing.{AddsNamed, AreAllNamed, AreNamed, Listed, TellsUnlisted, TellsUnlistedName, none, more}

module _ (named : Folders) (held : Held) (ns : List (String Global)) where
  -- those of the first n names, and nothing is changed
  pub record HaveListed (now_named : Folders) (now : Held) (n : ℕ) (ps : List Listed) : Type 0 where
    pub all : AreAllNamed named (map string_bytes (take n ns)) ps
    pub keeps : now ≡ held
    pub stays : now_named ≡ named

  pub none_listed : HaveListed named held 0 []
  none_listed = record { all = none; keeps = refl; stays = refl }

  taken_more : (n : ℕ) (s d : String Global) → n < length ns → s ≡ get_or ns n d
      → map string_bytes (take n ns) ++ string_bytes s ∷ [] ≡ map string_bytes (take (n + 1) ns)
  taken_more n s d inside is =
      ap (λ (x : String Global). map string_bytes (take n ns) ++ string_bytes x ∷ []) is
      ∙ sym (map-append string_bytes (take n ns) (get_or ns n d ∷ []))
      ∙ sym (ap (map string_bytes) (take_more ns n d inside))

  -- those of one more name
  pub one_listed : (mid_named later_named : Folders) (mid later : Held) (n : ℕ) (s d : String Global) (name : List ℕ)
      (ps qs : List Listed) → n < length ns → s ≡ get_or ns n d → name ≡ string_bytes s → HaveListed mid_named mid n ps
      → AddsNamed mid_named name ps qs → later ≡ mid → later_named ≡ mid_named → HaveListed later_named later (n + 1) qs
  one_listed mid_named later_named mid later n s d name ps qs inside is called so_far adds same stays = record {
    all = subst (λ (xs : List (List ℕ)). AreAllNamed named xs qs) (taken_more n s d inside is)
        (subst (λ (rs : List Listed). AreAllNamed named (map string_bytes (take n ns) ++ string_bytes s ∷ []) rs) (sym adds.added)
        (more (map string_bytes (take n ns)) (string_bytes s) ps adds.ps so_far.all
        (subst (λ (m : Folders). AreNamed m (string_bytes s) adds.ps) so_far.stays
        (subst (λ (x : List ℕ). AreNamed mid_named x adds.ps) called adds.are))));
    keeps = same ∙ so_far.keeps;
    stays = stays ∙ so_far.stays;
  }

  contains_name : (n : ℕ) (s d : String Global) → n < length ns → s ≡ get_or ns n d
      → Contains (map string_bytes ns) (string_bytes s)
  contains_name n s d inside is =
      subst (λ (xs : List (List ℕ)). Contains xs (string_bytes s))
      (sym (map-append string_bytes (take (n + 1) ns) (drop (n + 1) ns)) ∙ ap (map string_bytes) (take-append-drop (n + 1) ns))
      (Contains-append_left (map string_bytes (take (n + 1) ns)) (map string_bytes (drop (n + 1) ns)) (string_bytes s)
      (subst (λ (xs : List (List ℕ)). Contains xs (string_bytes s)) (taken_more n s d inside is)
      (Contains-push (map string_bytes (take n ns)) (string_bytes s))))

  -- one of them has none
  pub not_listed : (mid_named : Folders) (mid : Held) (n : ℕ) (s d : String Global) (name : List ℕ) (ps : List Listed)
      (f : Failure) → n < length ns → s ≡ get_or ns n d → name ≡ string_bytes s → HaveListed mid_named mid n ps
      → TellsUnlistedName mid_named name f → TellsUnlisted named (map string_bytes ns) f
  not_listed mid_named mid n s d name ps f inside is called so_far why = record {
    name = string_bytes s;
    among = contains_name n s d inside is;
    why = subst (λ (m : Folders). TellsUnlistedName m (string_bytes s) f) so_far.stays
        (subst (λ (x : List ℕ). TellsUnlistedName mid_named x f) called why);
  }

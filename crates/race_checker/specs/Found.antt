-- What is found of statements: what they do and leave pending, by first labels, and their least
-- race.
use Rattle.std.specs.Prelude.{ℕ, ◌≡◌, ◌<◌, ◌⊎◌, ◌++◌, List, map, length, fold, nat_eq, not, Option, None}
use Rattle.std.specs.List.{filter}
use Rattle.sections.specs.Member.{Member}
use Rattle.sections.specs.Origins.{Origin, IsNumbered}
use Rattle.types.specs.Code.{Code, Do, If, While, Split, Parts, Begun, Call, Async, Finish, Rescue, Codes}
use Rattle.types.specs.Code.{Procedure, Program}
use Rattle.effects.specs.Accesses.{Access}
use Rattle.effects.specs.Effects.{accesses, renamed, AllOf, All, PendingOf, Pending}
use Rattle.effects.specs.Firsts.{AreFirsts, AreFirstsIn, kept_in}
use Rattle.effects.specs.Rows.{AllInside, LeftBy}
use Rattle.effects.specs.Sound.{Follows, FollowsOf}
use Rattle.parallel_relation.specs.Together.{OfTurns, Together}
use Rattle.race_checker.specs.Races.{Race, Clashes, LeastOf}
use Rattle.race_checker.specs.Search.{tell, each_with, lesser_of}
use Rattle.race_checker.specs.Translation.{found as race_found}
use Rattle.race_checker.specs.declared.found.Found.{Found}

-- a procedure, and the sections that may be named at a position of it
pub record Around (origins : List Origin) : Type 0 where
  pub procedure : Procedure
  pub scope : List ℕ
  pub same : procedure.sections ≡ origins
  pub numbered : IsNumbered procedure.sections
  pub below : (s : ℕ) → Member s scope → s < length origins

-- the names in a list of statements follow the rules of the list's position
pub record Stands (p : Program) (origins : List Origin) (b : Codes) : Type 0 where
  pub around : Around origins
  pub follows : Follows p around.procedure around.scope b

-- the names in a statement follow the rules of its position
pub record StandsOf (p : Program) (origins : List Origin) (l : ℕ) (s : Code) : Type 0 where
  pub around : Around origins
  pub follows : FollowsOf p around.procedure around.scope s

module _ (origins : List Origin) (f : ℕ) where
  -- `found` has the firsts of all accesses, the firsts of the pending ones, and the least clash of
  -- the pairs
  pub record IsFound (all pending : Access → Type 0) (pairs : (x y : Access) → Type 0) (found : Found)
      : Type 0 where
    pub all_firsts : AreFirsts all (kept_in found.all)
    pub pending_firsts : AreFirsts pending (kept_in found.pending)
    pub least_race : LeastOf (Clashes origins f pairs) (race_found found.race)

module _ (p : Program) where
  -- the pairs inside a statement, without those of a loop, or of a `parts`, with itself
  abbrev pub TogetherInside : Code → (x y : Access) → Type 0
  TogetherInside (Do s) x y = ⊥
  TogetherInside (If t b c) x y = Together p accesses b x y ⊎ Together p accesses c x y
  TogetherInside (While t b) x y = Together p accesses b x y
  TogetherInside (Split s e l r b) x y = Together p accesses b x y
  TogetherInside (Parts s e q i b) x y = Together p accesses b x y
  TogetherInside (Begun s n k q i b) x y = ⊥
  TogetherInside (Call f es ss) x y = ⊥
  TogetherInside (Async b) x y = Together p accesses b x y
  TogetherInside (Finish b) x y = Together p accesses b x y
  TogetherInside (Rescue b n c) x y = Together p accesses b x y ⊎ Together p accesses c x y

  -- the pairs of a loop, or of a `parts`, with itself
  abbrev pub TogetherInTurn : (label : ℕ) → Code → (x y : Access) → Type 0
  TogetherInTurn l (While t b) x y =
      PendingOf p accesses (While t b) x × AllOf p accesses l (While t b) y
  TogetherInTurn l (Parts s e q i b) x y = OfTurns p accesses l q b x y
  TogetherInTurn l _ x y = ⊥

  module _ (origins : List Origin) (f : ℕ) where
    -- what is found of a list of statements
    abbrev pub IsFoundIn : Codes → Found → Type 0
    IsFoundIn b =
        IsFound origins f (All p accesses b) (Pending p accesses b) (Together p accesses b)

    -- what is found of the blocks and the call of a statement
    abbrev pub IsFoundInside : Code → Found → Type 0
    IsFoundInside s =
        IsFound origins f (AllInside p accesses s) (LeftBy p accesses s) (TogetherInside s)

    -- what is found of a statement
    abbrev pub IsFoundOf : (label : ℕ) → Code → Found → Type 0
    IsFoundOf l s =
        IsFound origins f (AllOf p accesses l s) (PendingOf p accesses s)
        (λ x y. TogetherInTurn l s x y ⊎ TogetherInside s x y)

-- How results are combined

-- the least clash of what is pending with what comes later
abbrev pub crossing : List Origin → (f : ℕ) → (pending later : List Access) → Option Race
crossing origins f xs ys = fold (tell origins f) None (each_with xs ys)

-- the result for two blocks
pub record IsBoth (one other both : Found) : Type 0 where
  pub all_of_both : AreFirstsIn (kept_in other.all ++ kept_in one.all) (kept_in both.all)
  pub pending_of_both : AreFirstsIn (kept_in other.pending ++ kept_in one.pending) (kept_in both.pending)
  pub race_of_both : race_found both.race ≡ lesser_of (race_found one.race) (race_found other.race)

-- the result for a statement in front of a list
pub record IsInFront (origins : List Origin) (f : ℕ) (here rest front : Found) : Type 0 where
  pub all_in_front : AreFirstsIn (kept_in here.all ++ kept_in rest.all) (kept_in front.all)
  pub pending_in_front :
      AreFirstsIn (kept_in here.pending ++ kept_in rest.pending) (kept_in front.pending)
  pub race_in_front : race_found front.race
      ≡ lesser_of (crossing origins f (kept_in here.pending) (kept_in rest.all))
      (lesser_of (race_found here.race) (race_found rest.race))

-- the result in other names
pub record IsRenamed (out : ℕ → ℕ) (inside outside : Found) : Type 0 where
  pub all_renamed : AreFirstsIn (map (renamed out) (kept_in inside.all)) (kept_in outside.all)
  pub pending_renamed :
      AreFirstsIn (map (renamed out) (kept_in inside.pending)) (kept_in outside.pending)
  pub race_stays : race_found outside.race ≡ race_found inside.race

-- the result with a statement's own accesses
pub record IsWithOwn (own : List Access) (inside whole : Found) : Type 0 where
  pub all_with_own : AreFirstsIn (own ++ kept_in inside.all) (kept_in whole.all)
  pub pending_is_kept : kept_in whole.pending ≡ kept_in inside.pending
  pub race_is_kept : race_found whole.race ≡ race_found inside.race

-- the result for a loop, whose next iteration comes after what is pending
pub record IsInTurn (origins : List Origin) (f : ℕ) (once loop : Found) : Type 0 where
  pub all_stays : kept_in loop.all ≡ kept_in once.all
  pub pending_stays : kept_in loop.pending ≡ kept_in once.pending
  pub race_in_turn : race_found loop.race
      ≡ lesser_of (crossing origins f (kept_in once.pending) (kept_in once.all))
      (race_found once.race)

-- the accesses to the piece of a `parts`, and the others
abbrev pub in_piece : (piece : ℕ) → List Access → List Access
in_piece q = filter (λ x. nat_eq x.section q)

abbrev pub elsewhere : (piece : ℕ) → List Access → List Access
elsewhere q = filter (λ x. not (nat_eq x.section q))

-- the result for a turn of a `parts`, after which later turns come; two pieces are apart
pub record IsInTurns (origins : List Origin) (f piece : ℕ) (once turns : Found) : Type 0 where
  pub all_stays : kept_in turns.all ≡ kept_in once.all
  pub pending_stays : kept_in turns.pending ≡ kept_in once.pending
  pub race_in_turns : race_found turns.race
      ≡ lesser_of (lesser_of
      (crossing origins f (in_piece piece (kept_in once.pending)) (elsewhere piece (kept_in once.all)))
      (crossing origins f (elsewhere piece (kept_in once.pending)) (kept_in once.all)))
      (race_found once.race)

-- A statement that leaves nothing pending adds no pairs.
use Rattle.std.proofs.Common.{◌≡◌, ℕ, List, [], ◌∷◌, ◌++◌, map, refl, ap, ◌∙◌}
use Rattle.types.specs.Code.{Code, Do, If, While, Split, Parts, Begun, Call, Async, Finish, Rescue, Codes}
use Rattle.effects.specs.Effects.{Subject}
use Rattle.effects.specs.Tables.{Table, all_in, all_of, left_by}
use Rattle.parallel_relation.specs.Meetings.{crossed, met_by_turns, turned, added}

nothing_mapped : {A B : Type 0} (f : A → B) (xs : List A) → map f xs ≡ [] → xs ≡ []
nothing_mapped f [] e = refl
nothing_mapped f (x ∷ xs) e = cc

module _ (subject : Subject) (alls pendings : Table subject) where
  nothing_turned : (l : ℕ) (s : Code) → left_by subject alls pendings s ≡ [] → turned subject alls pendings l s ≡ []
  nothing_turned l (Do s) e = refl
  nothing_turned l (If t b c) e = refl
  nothing_turned l (While t b) e = ap (λ (xs : List subject.Item). crossed xs (all_of subject alls l (While t b))) e
  nothing_turned l (Split s n x y b) e = refl
  nothing_turned l (Parts s n q i b) e =
      ap (λ (xs : List subject.Item). met_by_turns subject q xs (subject.turn l ++ all_in subject alls b)) (nothing_mapped _ _ e)
  nothing_turned l (Begun s n k q i b) e = refl
  nothing_turned l (Call f es ss) e = refl
  nothing_turned l (Async b) e = refl
  nothing_turned l (Finish b) e = refl
  nothing_turned l (Rescue b n c) e = refl

  pub nothing_added : (l : ℕ) (s : Code) (rest : Codes) → left_by subject alls pendings s ≡ []
      → added subject alls pendings l s rest ≡ []
  nothing_added l s rest e =
      ap (λ (xs : List subject.Item). crossed xs (all_in subject alls rest) ++ turned subject alls pendings l s) e
      ∙ nothing_turned l s e

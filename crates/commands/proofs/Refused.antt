-- From a race that was found to the failure that keeps it.
use Rattle.std.proofs.Common.{◌≡◌, ◌∙◌, subst, sym, Result, Ok, Err, List, ℕ}
use Rattle.std.specs.Prelude.{IfErr}
use Rattle.shared_lemmas.proofs.Results.{ok_is_no_error}
use Rattle.types.specs.Typed.{code_of}
use Rattle.types.specs.declared.typed.Typed.{Typed}
use Rattle.race_checker.specs.Races.{IsLeastRace}
use Rattle.race_checker.specs.Refusal.{IsRefusalOf}
use Rattle.race_checker.specs.Translation.{race as race_of}
use Rattle.race_checker.specs.declared.accepted.Accepted.{Accepted}
use Rattle.race_checker.specs.declared.check.Refused.{Refused}
use Rattle.race_checker.specs.declared.check.Refused.TheVariants.{Race}
use Rattle.race_checker.specs.declared.race.Race.{Race as FoundRace}
use Rattle.failures.specs.declared.least_race.LeastRace.{LeastRace}
use Rattle.commands.specs.Answers.{HasRace, IsCodeOf}

error_is : {A E : Type 0} (d e : E) → (let r : Result A E = Err d in r) ≡ Err e → d ≡ e
error_is d e is = cc

module _ (typed back : Typed) (race : FoundRace) (e : Refused) (r : Result Accepted Refused) (is : r ≡ Err e)
    (of : e ≡ Race race back) where
  -- the race in an error of `check`
  refusal_in : (s : Result Accepted Refused) → s ≡ Err e → IfErr s (IsRefusalOf typed) → IsRefusalOf typed (Race race back)
  refusal_in (Ok x) same refused = absurd (ok_is_no_error x e same)
  refusal_in (Err d) same refused = subst (IsRefusalOf typed) (error_is d e same ∙ of) refused

  -- it is the least one of the program that comes back
  pub least_of_back : IfErr r (IsRefusalOf typed) → IsLeastRace (code_of back) (race_of race)
  least_of_back refused =
      let known = refusal_in r is refused in
      subst (λ (t : Typed). IsLeastRace (code_of t) (race_of race)) (sym known.0) known.1

  -- and the failure that keeps it is one of the text
  pub race_kept : (text : List ℕ) (found : LeastRace) → IsCodeOf text (code_of typed) → found.typed ≡ back
      → found.race ≡ race → IfErr r (IsRefusalOf typed) → HasRace text found
  race_kept text found is_code keeps_typed keeps_race refused =
      let known = refusal_in r is refused in
      let same : found.typed ≡ typed = keeps_typed ∙ known.0 in
      record {
        is_code = subst (λ (t : Typed). IsCodeOf text (code_of t)) (sym same) is_code;
        least = subst (λ (t : Typed). IsLeastRace (code_of t) (race_of found.race)) (sym same)
            (subst (λ (q : FoundRace). IsLeastRace (code_of typed) (race_of q)) (sym keeps_race) known.1);
      }

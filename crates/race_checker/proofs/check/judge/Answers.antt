use Rattle.std.proofs.Common.{refl, subst}
use Rattle.std.specs.Prelude.{Option}
use Rattle.types.specs.Code.{Program}
use Rattle.types.specs.Typed.{code_of}
use Rattle.race_checker.specs.Races.{IsRace, LeastOf}
use Rattle.race_checker.specs.Translation.{found}
use Rattle.race_checker.specs.declared.race.Race.{Race}
use Rattle.race_checker.proofs.Judging.{accepted_from}
use Rattle.race_checker.proofs.check.judge.Goals as goal

pub returns-in-Some-clause-refused : goal.returns-in-Some-clause-refused
returns-in-Some-clause-refused g c =
    (refl, subst (λ (r : Option Race). LeastOf (IsRace (code_of c.args.typed)) (found r)) c.in-Some.is (subst (λ (q : Program). LeastOf (IsRace q) (found c.in-Ok.least)) c.code.ensures.code c.in-Ok.ensures))

pub returns-in-None-clause-no_clash : goal.returns-in-None-clause-no_clash
returns-in-None-clause-no_clash g c =
    accepted_from (code_of c.args.typed)
    (subst (λ (r : Option Race). LeastOf (IsRace (code_of c.args.typed)) (found r)) c.in-None.is (subst (λ (q : Program). LeastOf (IsRace q) (found c.in-Ok.least)) c.code.ensures.code c.in-Ok.ensures))

pub invariant_of-result : goal.invariant_of-result
invariant_of-result g c = record {
  no_clash = accepted_from (code_of c.args.typed)
      (subst (λ (r : Option Race). LeastOf (IsRace (code_of c.args.typed)) (found r)) c.in-None.is (subst (λ (q : Program). LeastOf (IsRace q) (found c.in-Ok.least)) c.code.ensures.code c.in-Ok.ensures));
  exact = ∣ c.requires.summaries ∣₁;
}

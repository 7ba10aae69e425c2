-- A program that is run with its own options.
use Rattle.std.proofs.Common.{◌≡◌, ℕ, List, Option, Some, None, Result, Ok, Err, String, Global, refl, sym, subst, codes}
use Rattle.std.specs.Prelude.{Bool, true, false, IfOk, IsSomeAnd, MatchBool, MatchOption}
use Rattle.std.specs.String.{string_bytes}
use Rattle.types.specs.Translation.{budget}
use Rattle.command_line.specs.Requests.{Asked, spread}
use Rattle.command_words.specs.Orders.{AreLimitsOf}
use Rattle.command_words.specs.declared.limits.Limits.{Limits as rLimits}
use Rattle.files.specs.Held.{HasNoText, HasText, Held, TellsNoText}
use Rattle.failures.specs.Failures.{TellsNotUtf8}
use Rattle.failures.specs.declared.failure.Failure.{Failure}
use Rattle.failures.specs.declared.failure.Failure.TheVariants.{NoMemory, NotUtf8}
use Rattle.test_and_bench.specs.Trials.{AsksLines, Fulfils, HasOptions, IsCompared, IsLimited, IsLineOfOutput, IsLineOfRun}
use Rattle.test_and_bench.specs.Trials.{LacksOptions, Limits, TellsNoOptions, Trial, file, limited, of_output, trial}
use Rattle.test_and_bench.specs.declared.trial.Trial.{Trial as rTrial}

-- ---- what was found

pub limited_so : (held : Held) (t : Trial) (o : Option rTrial) (u : rTrial) → o ≡ Some u
    → MatchOption o (LacksOptions held t) (λ v. IsLimited held t (trial v)) → IsLimited held t (trial u)
limited_so held t o u is found =
    subst (λ (p : Option rTrial). MatchOption p (LacksOptions held t) (λ v. IsLimited held t (trial v))) is found

pub lacks_so : (held : Held) (t : Trial) (o : Option rTrial) → o ≡ None
    → MatchOption o (LacksOptions held t) (λ v. IsLimited held t (trial v)) → LacksOptions held t
lacks_so held t o is found =
    subst (λ (p : Option rTrial). MatchOption p (LacksOptions held t) (λ v. IsLimited held t (trial v))) is found

-- ---- its output

output_line : (held : Held) (t u : Trial) → IsLimited held t u → (line : Option (String Global))
    → MatchOption line (IsCompared held u None) (λ l. IsLineOfOutput held u (string_bytes l))
    → MatchOption line (Fulfils held t) (λ l. IsLineOfRun held t (string_bytes l))
output_line held t u is None compared = record { trial = u; is_limited = is; compared = compared }
output_line held t u is (Some l) of = of_output u is of

-- it was compared after its options were read
pub output_so : (held mid : Held) (t u : Trial) → mid ≡ held → IsLimited held t u
    → (r : Result (Option (String Global)) Failure)
    → IfOk r (λ line. MatchOption line (IsCompared mid u None) (λ l. IsLineOfOutput mid u (string_bytes l)))
    → IfOk r (λ line. MatchOption line (Fulfils held t) (λ l. IsLineOfRun held t (string_bytes l)))
output_so held mid t u same is (Ok line) told =
    output_line held t u is line (subst (λ (h : Held). MatchOption line (IsCompared h u None) (λ l. IsLineOfOutput h u (string_bytes l))) same told)
output_so held mid t u same is (Err f) told = tt

-- ---- an `.args` file

-- one that can't be read
pub no_options_memory : (held : Held) (t : Trial) (f : Failure) → t.program.has_options ≡ true → f ≡ NoMemory
    → TellsNoOptions held t f
no_options_memory held t f has is = (has, subst (TellsNoText held (file t (codes ".args"))) (sym is) tt)

pub not_text : (held : Held) (name : List ℕ) (f : Failure) → TellsNotUtf8 name f → HasNoText held name → TellsNoText held name f
not_text held name (NotUtf8 told) is no_text = (is, no_text)
not_text held name NoMemory is no_text = tt
not_text held name _ is no_text = absurd is

module _ (held : Held) (t : Trial) (text shown : List ℕ) (found : Option rLimits) where
  -- what its lines ask for
  abbrev Found : Option rLimits → Type 0
  Found o = (a : Asked) → AsksLines shown a → IsSomeAnd o (λ l. AreLimitsOf l a)

  pub with_limits : (l : rLimits) → t.program.has_options ≡ true → HasText held (file t (codes ".args")) text → shown ≡ text
      → found ≡ Some l → Found found
      → IsLimited held t (limited t (record { budget = budget l.budget; spread = spread l.spread }))
  with_limits l has has_text same is asks =
      let limits : Limits = record { budget = budget l.budget; spread = spread l.spread } in
      let options : HasOptions held t limits = record {
        text = shown;
        has_text = subst (HasText held (file t (codes ".args"))) (sym same) has_text;
        are = λ a asked. subst (λ (o : Option rLimits). IsSomeAnd o (λ m. AreLimitsOf m a)) is (asks a asked);
      } in
      record {
        limits = limits;
        has = subst (λ (b : Bool). MatchBool b (HasOptions held t limits)
            (limits ≡ (record { budget = t.settings.budget; spread = t.settings.spread }))) (sym has) options;
        is = refl;
      }

  pub lacking : t.program.has_options ≡ true → HasText held (file t (codes ".args")) text → shown ≡ text → found ≡ None
      → Found found → LacksOptions held t
  lacking has has_text same is asks = record {
    has = has;
    text = shown;
    has_text = subst (HasText held (file t (codes ".args"))) (sym same) has_text;
    none = λ a asked. subst (λ (o : Option rLimits). IsSomeAnd o (λ m. AreLimitsOf m a)) is (asks a asked);
  }

-- one that there isn't
pub as_usual : (held : Held) (t : Trial) → t.program.has_options ≡ false → IsLimited held t t
as_usual held t has =
    let limits : Limits = record { budget = t.settings.budget; spread = t.settings.spread } in
    record {
      limits = limits;
      has = subst (λ (b : Bool). MatchBool b (HasOptions held t limits)
          (limits ≡ (record { budget = t.settings.budget; spread = t.settings.spread }))) (sym has) refl;
      is = refl;
    }

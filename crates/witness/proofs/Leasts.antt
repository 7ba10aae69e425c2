-- The smallest value that is found, put together from the smallest of its parts.
use Rattle.std.proofs.Common.{◌≡◌, ◌⊎◌, inl, inr, ℕ, suc, ◌≤◌, List, ◌∷◌, length, refl, sym, ap, subst, arith}
use Rattle.std.specs.Prelude.{Option, None, Some, IfSome, option_map}
use Rattle.witness.specs.Least.{AtMost, IsLesserOf, IsLeast, all_covered}
use Rattle.witness.specs.Searched.{IsLed}
use Rattle.witness.specs.declared.step.WayStep.{WayStep}

if_some : {A : Type 0} (P Q : A → Type 0) (found : Option A) → ((a : A) → P a → Q a) → IfSome found P → IfSome found Q
if_some P Q None f h = h
if_some P Q (Some a) f h = f a h

pub at_most_more : {A : Type 0} (size : A → ℕ) (found : Option A) (m n : ℕ) → m ≤ n → AtMost size found m → AtMost size found n
at_most_more size None m n le h = h
at_most_more size (Some a) m n le h = omega (arith, h, le)

-- if something is found, what is at most its size
pub at_most_same : {A : Type 0} (size : A → ℕ) (found : Option A) (a : A) → found ≡ Some a → AtMost size found (size a)
at_most_same size found a e = subst (λ o. AtMost size o (size a)) (sym e) (omega arith)

module _ {A : Type 0} (size : A → ℕ) (covered : ℕ → Type 0) where
  pub least_none : (those : A → Type 0) → ((a : A) → those a → ⊥) → IsLeast size covered those None
  least_none those none = record { among = tt; least = λ a h c. absurd (none a h) }

  -- of the same things
  pub least_same : (P Q : A → Type 0) (found : Option A) → ((a : A) → P a → Q a) → ((a : A) → Q a → P a)
      → IsLeast size covered P found → IsLeast size covered Q found
  least_same P Q found f g h = record {
    among = if_some P Q found f h.among;
    least = λ a q c. h.least a (g a q) c;
  }

  -- of the union of two sets of values
  pub least_either : (P Q R : A → Type 0) (one other found : Option A) → IsLesserOf size one other found
      → ((a : A) → P a → R a) → ((a : A) → Q a → R a) → ((a : A) → R a → P a ⊎ Q a)
      → IsLeast size covered P one → IsLeast size covered Q other → IsLeast size covered R found
  least_either P Q R one other found l f g h p q = record {
    among = elim l.either [
      | inl e ↦ subst (λ o. IfSome o R) (sym e) (if_some P R one f p.among)
      | inr e ↦ subst (λ o. IfSome o R) (sym e) (if_some Q R other g q.among)
    ];
    least = λ a r c. elim (h a r) [
      | inl k ↦ l.first (size a) (p.least a k c)
      | inr k ↦ l.second (size a) (q.least a k c)
    ];
  }

  -- if all sizes are covered
  pub least_covered : (those : A → Type 0) (found : Option A) → ((n : ℕ) → covered n) → IsLeast size covered those found
      → IsLeast size all_covered those found
  least_covered those found all h = record { among = h.among; least = λ a t c. h.least a t (all (size a)) }

-- of one thing
pub least_itself : {A : Type 0} (size : A → ℕ) (found : Option A) → IsLeast size all_covered (λ a. found ≡ Some a) found
least_itself {A} size found = record { among = itself found; least = λ a e c. at_most_same size found a e }
  where
    itself : (found : Option A) → IfSome found (λ a. found ≡ Some a)
    itself None = tt
    itself (Some a) = refl

module _ (covered : ℕ → Type 0) (s : WayStep) (those : List WayStep → Type 0) where
  -- of all ways with a step in front
  pub least_led : (found : Option (List WayStep)) → ((n : ℕ) → covered (suc n) → covered n) → IsLeast length covered those found
      → IsLeast length covered (IsLed s those) (option_map (λ way. s ∷ way) found)
  least_led None less h = record {
    among = tt;
    least = λ way l c. h.least l.behind l.leads (less (length l.behind) (subst (λ (w : List WayStep). covered (length w)) l.is c));
  }
  least_led (Some w) less h = record {
    among = record { behind = w; is = refl; leads = h.among };
    least = λ way l c.
        let k : length w ≤ length l.behind =
        h.least l.behind l.leads (less (length l.behind) (subst (λ (w : List WayStep). covered (length w)) l.is c)) in
        let e : length way ≡ suc (length l.behind) = ap length l.is in
        omega (arith, k, e);
  }

  pub least_led_at : (found led : Option (List WayStep)) → led ≡ option_map (λ way. s ∷ way) found → ((n : ℕ) → covered (suc n) → covered n)
      → IsLeast length covered those found → IsLeast length covered (IsLed s those) led
  least_led_at found led e less h = subst (IsLeast length covered (IsLed s those)) (sym e) (least_led found less h)

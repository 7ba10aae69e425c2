-- The numbers of tasks, birth by birth.
use Rattle.std.proofs.Common.{◌≡◌, ℕ, ◌+◌, List, [], ◌∷◌, Option, Some, Bool, true, false, ap, sym, ◌∙◌, refl, drop, map}
use Rattle.std.specs.Prelude.{cond, nat_eq, unwrap_or}
use Rattle.std.specs.Cmp.Lexicographic.{pointwise}
use Rattle.types.specs.Translation.{is_path}
use Rattle.types.specs.declared.path.Path.{Path}
use Rattle.trace_page.specs.Births.{birth}
use Rattle.trace_page.specs.Tasks.{number_from, number_of}
use Rattle.trace_page.specs.declared.births.Birth.{Birth}

-- the numbers so far, and those to come
pub record AreNumbered (births : List Birth) (n : ℕ) (found : Path → Option ℕ) : Type 0 where
  pub numbers : (path : Path)
      → number_from path.turns.items (n + 1) (unwrap_or (found path) 0) (map birth (drop n births))
      ≡ number_of (map birth births) path.turns.items

kept : (b : Bool) (number : ℕ) (old : Option ℕ) → unwrap_or (cond b (Some number) old) 0 ≡ cond b number (unwrap_or old 0)
kept true number old = refl
kept false number old = refl

module _ (births : List Birth) (n : ℕ) (b : Birth) (child : Path) (old new : Path → Option ℕ)
    (split : drop n births ≡ b ∷ drop (n + 1) births) (same : child.turns.items ≡ b.child.turns.items)
    (puts : (q : Path) → new q ≡ cond (is_path child q) (Some (n + 1)) (old q)) where
  pub numbered_more : AreNumbered births n old → AreNumbered births (n + 1) new
  numbered_more was = record {
    numbers = λ path.
        ap (λ (known : ℕ). number_from path.turns.items (n + 1 + 1) known (map birth (drop (n + 1) births)))
        (ap (λ (o : Option ℕ). unwrap_or o 0) (puts path) ∙ kept (is_path child path) (n + 1) (old path)
        ∙ ap (λ (p : List ℕ). cond (pointwise nat_eq p path.turns.items) (n + 1) (unwrap_or (old path) 0)) same)
        ∙ sym (ap (λ (l : List Birth). number_from path.turns.items (n + 1) (unwrap_or (old path) 0) (map birth l)) split)
        ∙ was.numbers path;
  }

pub numbered_all : (births : List Birth) (n : ℕ) (found : Path → Option ℕ) → drop n births ≡ [] → AreNumbered births n found
    → (path : Path) → unwrap_or (found path) 0 ≡ number_of (map birth births) path.turns.items
numbered_all births n found none was path =
    sym (ap (λ (l : List Birth). number_from path.turns.items (n + 1) (unwrap_or (found path) 0) (map birth l)) none)
    ∙ was.numbers path

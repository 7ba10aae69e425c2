-- The effect of `fmt --write`, and the reasons for failures.
use Rattle.std.proofs.Common.{◌≡◌, ℕ, List, Option, Result, Ok, Err, subst, sym}
use Rattle.std.specs.Prelude.{IfErr, IsErrAnd}
use Rattle.std.specs.Str.{chars}
use Rattle.syntax.specs.Lexical.{AreTokensOf}
use Rattle.syntax.specs.Spelling.{spelling}
use Rattle.syntax_tree.specs.Tree as tree
use Rattle.failures.specs.Failures.{TellsUnwritten}
use Rattle.files.specs.Held.{Held, IsGiven, KeepsOthers}
use Rattle.failures.specs.declared.failure.Failure.{Failure}
use Rattle.failures.specs.declared.failure.Failure.TheVariants.{CannotWrite, CannotWriteOutput, NoMemory}
use Rattle.commands.specs.Answers.{Done, IsLayoutOf, NeedsLayout}
use Rattle.commands.specs.Rewriting.{AnswersRewrite, ExplainsRewrite, LeavesLaidOut, LeavesRewritten, rewritten}
use Rattle.commands.proofs.Answering.{IsOther, other_failure, passed_on}

module _ (file text : List ℕ) where
  module _ (b : Option (List ℕ)) (r : Result ℕ Failure) (f : Failure) (is : IsErrAnd r (λ y. y ≡ f)) where
    passes_why : ExplainsRewrite file text f → IsOther f → Done (AnswersRewrite text) (ExplainsRewrite file text) b b r
    passes_why why other =
        passed_on (AnswersRewrite text) (ExplainsRewrite file text) b r f is why (other_failure f other)

  unwritten_explained : NeedsLayout text → (f : Failure) → TellsUnwritten file f → ExplainsRewrite file text f
  unwritten_explained needs (CannotWrite told) why = (why, needs)
  unwritten_explained needs NoMemory why = tt
  unwritten_explained needs _ why = absurd why

  unwritten_other : (f : Failure) → TellsUnwritten file f → IsOther f
  unwritten_other (CannotWrite told) why = tt
  unwritten_other NoMemory why = tt
  unwritten_other _ why = absurd why

  -- a file that can't be written
  pub rewrite_unwritten : (b : Option (List ℕ)) (r : Result ℕ Failure) (f : Failure) → IsErrAnd r (λ y. y ≡ f)
      → NeedsLayout text → TellsUnwritten file f → Done (AnswersRewrite text) (ExplainsRewrite file text) b b r
  rewrite_unwritten b r f is needs why =
      passes_why b r f is (unwritten_explained needs f why) (unwritten_other f why)

  -- ---- files

  module _ (held later : Held) where
    pub leaves_anyway : (r : Result ℕ Failure) → LeavesLaidOut file text held later → IfErr r (λ f. f ≡ CannotWriteOutput)
        → LeavesRewritten file text held later r
    leaves_anyway (Ok n) leaves only = leaves
    leaves_anyway (Err f) leaves only =
        subst (λ (g : Failure). LeavesRewritten file text held later (Err g)) (sym only) leaves

-- what was written
pub rewrote : (file text laid bytes : List ℕ) (held later : Held) (program : tree.Program) → bytes ≡ laid
    → AreTokensOf (chars text) (spelling program) → IsLayoutOf text program laid → IsGiven (later file) (Ok bytes)
    → KeepsOthers file held later → LeavesLaidOut file text held later
rewrote file text laid bytes held later program of spelled layout given others = rewritten (record {
  bytes = laid;
  program = program;
  spelled = spelled;
  layout = layout;
  given = subst (λ (l : List ℕ). IsGiven (later file) (Ok l)) of given;
  others = others;
})

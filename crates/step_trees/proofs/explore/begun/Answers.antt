use Rattle.std.proofs.Common.{subst, sym}
use Rattle.std.proofs.lemmas.Result.{IfOk-weaker}
use Rattle.types.specs.Contents.{FitsArrays}
use Rattle.types.specs.Translation.{input}
use Rattle.types.specs.Typed.{code_of}
use Rattle.types.specs.declared.typed.Typed.{Typed}
use Rattle.step_trees.specs.Exploring.{Begins}
use Rattle.step_trees.proofs.explore.begun.Goals as goal

pub begun_of-requires : goal.begun_of-requires
begun_of-requires c =
    subst (λ (t : Typed). FitsArrays (code_of t).arrays (input c.args.input.now)) (sym c.typed.ensures.field) c.requires

pub returns : goal.returns
returns c =
    IfOk-weaker c.begun_of.result _ _
    (λ r begins. subst (λ (t : Typed). Begins (code_of t) (input c.args.input.now) r) c.typed.ensures.field begins)
    c.begun_of.ensures

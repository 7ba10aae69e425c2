-- Lists of operands as the chains that they form.
use Rattle.std.specs.Prelude.{List, [], ◌∷◌}
use Rattle.types.specs.declared.code.Link.{Link as rLink}
use Rattle.types.specs.declared.code.Truth.{Truth as rTruth}
use Rattle.types.specs.Code.{Links, Done, Link, Truths, NoMore, Also}
use Rattle.types.specs.Translation.{number, truth}

abbrev pub links : List rLink → Links
links [] = Done
links (l ∷ rest) = Link l.operator (number l.operand) (links rest)

abbrev pub truths : List rTruth → Truths
truths [] = NoMore
truths (t ∷ rest) = Also (truth t) (truths rest)

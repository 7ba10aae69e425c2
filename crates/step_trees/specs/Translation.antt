-- The plain values of the Rust types.
use Rattle.std.specs.Prelude.{◌≡◌, List, [], ◌∷◌, ◌++◌, map, Option, Some, None}
use Rattle.std.specs.Prelude.{ℕ, if◌then◌else◌}
use Rattle.sections.specs.Place.{Window, has_piece}
use Rattle.types.specs.Code.{Code, Codes, End, Then}
use Rattle.types.specs.Trees.{Caller, Leaf, Handler, NoHandler, HandledBy, append}
use Rattle.types.specs.Translation.{code, codes, environment, fault}
use Rattle.statement_steps.specs.declared.turns.TurnsToCome.{TurnsToCome}
use Rattle.statement_steps.specs.Turns.{begun}
use Rattle.step_trees.specs.declared.rest.NextStep.{NextStep}
use Rattle.step_trees.specs.declared.rest.NextStep.TheVariants.{Statement, Turn}
use Rattle.step_trees.specs.declared.rest.RestOfBlock.{RestOfBlock}
use Rattle.step_trees.specs.declared.rest.RestOfBlock.TheVariants.{Block, Turns}
use Rattle.step_trees.specs.declared.leaf.Caller.{Caller as rCaller}
use Rattle.step_trees.specs.declared.leaf.Handler.{Handler as rHandler}
use Rattle.step_trees.specs.declared.leaf.Leaf.{Leaf as rLeaf}

-- the statements of a block, or the turns to come of a `parts`
abbrev pub block : RestOfBlock → Codes
block (Block first others) = Then first.now.label (code first.now.kind) (codes others.now)
block (Turns t) = Then t.label (begun t) End

-- the label of what is next in a block
abbrev pub label_of : RestOfBlock → ℕ
label_of (Block first others) = first.now.label
label_of (Turns t) = t.label

-- the turns of a `parts` of a section with this window before other statements, if one is left
abbrev pub with_turns : TurnsToCome → Window → Codes → Codes
with_turns t w rest = if has_piece w t.size t.next then Then t.label (begun t) rest else rest

-- the statements of several blocks, the last of which runs first
abbrev pub blocks : List RestOfBlock → Codes
blocks [] = End
blocks (b ∷ bs) = append (blocks bs) (block b)

-- what waits for a call to end
abbrev pub caller : rCaller → Caller
caller c = record { environment = environment c.environment; rest = blocks c.rest.items }

-- callers, the last of which is the innermost
abbrev pub callers : List rCaller → List Caller
callers [] = []
callers (c ∷ cs) = callers cs ++ caller c ∷ []

-- a leaf
abbrev pub leaf_of : rLeaf → Leaf
leaf_of k = record {
  environment = environment k.environment;
  rest = blocks k.rest.items;
  callers = callers k.callers.items;
  path = k.path.turns.items;
  spawned = k.spawned;
  lines = map (λ v. v.items) k.lines.items;
  faults = map fault k.faults.items;
}

-- what a leaf does with the faults of the finish that it waits for
abbrev pub handler_of : Option rHandler → Handler
handler_of None = NoHandler
handler_of (Some h) = HandledBy h.faults.number (codes h.block.now)

-- what is next, as a statement and its label
abbrev pub next_label : NextStep → ℕ
next_label (Statement s) = s.now.label
next_label (Turn t) = t.label

abbrev pub next_code : NextStep → Code
next_code (Statement s) = code s.now.kind
next_code (Turn t) = begun t

-- what is next is removed, or nothing is left
abbrev pub Takes : Option NextStep → (old new : Codes) → Type 0
Takes None old new = (old ≡ End) × (new ≡ End)
Takes (Some s) old new = old ≡ Then (next_label s) (next_code s) new

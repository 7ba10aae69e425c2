-- What is in scope at a position in a text, and how the scope changes from statement to statement.
use Rattle.std.specs.Prelude.{ℕ, ◌+◌, List, [], ◌∷◌, ◌++◌, length, true, false, Option, Some, None, nat_eq}
use Rattle.std.specs.Prelude.{if◌then◌else◌, slice_index_or}
use Rattle.std.specs.Cmp.Lexicographic.{pointwise}
use Rattle.syntax_tree.specs.declared.tree.ElementType.TheVariants.{Int}
use Rattle.syntax_tree.specs.Tree.{Stmt, Skip, Var, Assign, Store, Print, Fault, If, IfElse, While, Split}
use Rattle.syntax_tree.specs.Tree.{Parts, Call, Async, Finish, Rescue, Block, End, Then, Array}
use Rattle.syntax_tree.specs.Tree.{Parameter as Declared, Written, Read, Scalar}
use Rattle.sections.specs.Origins.{Origin, Root, Left, Right, Piece}
use Rattle.types.specs.Code.{Parameter}

-- the meaning of a name
pub data Meant : Type 0 where
  ASection : (section : ℕ) → Meant
  AScalar : (slot : ℕ) → Meant

-- names with their meanings, the latest first
abbrev pub Names : Type 0
Names = List (List ℕ × Meant)

-- the meaning of the first of these names that is x
abbrev pub meant : List ℕ → Names → Option Meant
meant x [] = None
meant x (n ∷ ns) = if pointwise nat_eq x n.0 then Some n.1 else meant x ns

-- the number of the section, and the slot of the scalar, with that meaning; 0 otherwise
abbrev pub section_or_0 : Option Meant → ℕ
section_or_0 (Some (ASection s)) = s
section_or_0 (Some (AScalar k)) = 0
section_or_0 None = 0

abbrev pub slot_or_0 : Option Meant → ℕ
slot_or_0 (Some (AScalar k)) = k
slot_or_0 (Some (ASection s)) = 0
slot_or_0 None = 0

abbrev pub section_of : Names → List ℕ → ℕ
section_of names x = section_or_0 (meant x names)

abbrev pub slot_of : Names → List ℕ → ℕ
slot_of names x = slot_or_0 (meant x names)

-- a position in a text: the names in scope there, and the label and the slot that come next. Slots
-- below `outside` belong to scalars that were declared outside the innermost async body. For each
-- section of the procedure so far: its origin, its name, whether it may be written, and its element
-- type
pub record Scope : Type 0 where
  pub names : Names
  pub label : ℕ
  pub slot : ℕ
  pub outside : ℕ
  pub sections : List Origin
  pub section_names : List (List ℕ)
  pub kinds : List Parameter

-- a section that doesn't exist may not be written
abbrev pub no_section : Parameter
no_section = record { may_write = false; element = Int }

-- whether a section may be written, and its element type
abbrev pub kind_of : Scope → (section : ℕ) → Parameter
kind_of here s = slice_index_or here.kinds s no_section

-- the scope if nothing is declared yet and the next statement has the label
abbrev pub empty_scope : (label : ℕ) → Scope
empty_scope label = record {
  names = [];
  label = label;
  slot = 0;
  outside = 0;
  sections = [];
  section_names = [];
  kinds = [];
}

-- after the declaration of a scalar
abbrev pub with_scalar : List ℕ → Scope → Scope
with_scalar x here = record here { names = (x, AScalar here.slot) ∷ here.names; slot = here.slot + 1 }

-- after the declaration of a section that is no side
abbrev pub with_root : List ℕ → Parameter → Scope → Scope
with_root x kind here = record here {
  names = (x, ASection (length here.sections)) ∷ here.names;
  sections = here.sections ++ Root ∷ [];
  section_names = here.section_names ++ x ∷ [];
  kinds = here.kinds ++ kind ∷ [];
}

-- in the block of a split of s into l and r; a side may be written if s may, and has the element
-- type of s
abbrev pub with_sides : (s : ℕ) → (l r : List ℕ) → Scope → Scope
with_sides s l r here = record here {
  names = (l, ASection (length here.sections)) ∷ (r, ASection (length here.sections + 1)) ∷ here.names;
  sections = here.sections ++ Left s ∷ Right s ∷ [];
  section_names = here.section_names ++ l ∷ r ∷ [];
  kinds = here.kinds ++ kind_of here s ∷ kind_of here s ∷ [];
}

-- after the declaration of a piece of s, which may be written if s may, and has the element type of s
abbrev pub with_piece : (s : ℕ) → List ℕ → Scope → Scope
with_piece s x here = record here {
  names = (x, ASection (length here.sections)) ∷ here.names;
  sections = here.sections ++ Piece s ∷ [];
  section_names = here.section_names ++ x ∷ [];
  kinds = here.kinds ++ kind_of here s ∷ [];
}

-- in the block of a `parts` of s with the piece x and the turn i
abbrev pub with_turn : (s : ℕ) → (x i : List ℕ) → Scope → Scope
with_turn s x i here = with_piece s x (with_scalar i here)

-- after the label of a statement
abbrev pub next : Scope → Scope
next here = record here { label = here.label + 1 }

-- at the start of an async body
abbrev pub inside_async : Scope → Scope
inside_async here = record here { outside = here.slot }

-- after a block: the names are those from before it; labels, slots and sections continue
abbrev pub out_of : (before : Scope) → Scope → Scope
out_of before there = record there { names = before.names; outside = before.outside }

abbrev mutual
  -- after a statement: a `var` is in scope from here to the end of its block
  pub behind : Stmt → Scope → Scope
  behind Skip here = next here
  behind (Var x e) here = with_scalar x (next here)
  behind (Assign x e) here = next here
  behind (Store s i e) here = next here
  behind (Print e es) here = next here
  behind (Fault e) here = next here
  behind (If e b) here = out_of here (after b (next here))
  behind (IfElse e b c) here = out_of here (after c (out_of here (after b (next here))))
  behind (While e b) here = out_of here (after b (next here))
  behind (Split s e l r b) here = out_of here (after b (with_sides (section_of here.names s) l r (next here)))
  behind (Parts s e x i b) here = out_of here (after b (with_turn (section_of here.names s) x i (next here)))
  behind (Call f es) here = next here
  behind (Async b) here = out_of here (after b (inside_async (next here)))
  behind (Finish b) here = out_of here (after b (next here))
  behind (Rescue b x c) here =
      out_of here (after c (with_scalar x (out_of here (after b (next here)))))

  -- after the statements of a block
  pub after : Block → Scope → Scope
  after End here = here
  after (Then s rest) here = after rest (behind s here)

-- in the handler of a finish with this body; its number of faults has the name x
abbrev pub in_handler : Block → (x : List ℕ) → Scope → Scope
in_handler b x here = with_scalar x (out_of here (after b (next here)))

-- after the declaration of a parameter, and of several
abbrev pub with_parameter : Declared → Scope → Scope
with_parameter (Written x e) here = with_root x (record { may_write = true; element = e }) here
with_parameter (Read x e) here = with_root x (record { may_write = false; element = e }) here
with_parameter (Scalar x) here = with_scalar x here

abbrev pub with_parameters : List Declared → Scope → Scope
with_parameters [] here = here
with_parameters (p ∷ ps) here = with_parameters ps (with_parameter p here)

-- after the declaration of an array, and of several
abbrev pub with_array : Array → Scope → Scope
with_array a here = with_root a.name (record { may_write = true; element = a.element }) here

abbrev pub with_arrays : List Array → Scope → Scope
with_arrays [] here = here
with_arrays (a ∷ arrays) here = with_arrays arrays (with_array a here)

-- where the body of a procedure starts, and that of `main`, whose first statement has the label
abbrev pub in_procedure : (label : ℕ) → List Declared → Scope
in_procedure label ps = with_parameters ps (empty_scope label)

abbrev pub in_main : (label : ℕ) → List Array → Scope
in_main label arrays = with_arrays arrays (empty_scope label)

-- Statements without errors follow the rules.
use Rattle.std.proofs.Common.{◌≡◌, ℕ, ◌+◌, ◌<◌, ◌≤◌, List, [], ◌∷◌, ◌++◌, length, true, Option, Some, None, refl, sym, ap, ◌∙◌, arith}
use Rattle.std.proofs.Math.ListN.{get_or-append}
use Rattle.std.proofs.lemmas.List.{length-append, get_or-append-add}
use Rattle.sections.specs.Member.{Member}
use Rattle.sections.specs.Origins.{Root, Left, Right, Piece, origin_of}
use Rattle.syntax_tree.specs.Tree.{Stmt, Skip, Var, Assign, Store, Print, Fault, If, IfElse, While, Split, Parts, Call, Async}
use Rattle.syntax_tree.specs.Tree.{Finish, Rescue, Block, End, Then, Procedure as DeclaredProcedure, Parameter as Declared}
use Rattle.types.specs.Code.{Procedure, Program}
use Rattle.types.specs.ExpressionErrors as errors
use Rattle.types.specs.NameErrors.{naming_section, naming_written, naming_assigned}
use Rattle.types.specs.Resolution.{code, codes, procedure_of}
use Rattle.types.specs.Rules.{limit, own_errors, errors_in}
use Rattle.types.specs.Rules as rules
use Rattle.types.specs.Scope.{Meant, ASection, AScalar, meant, section_or_0, slot_or_0, section_of, Scope, next}
use Rattle.types.specs.Scope.{kind_of, inside_async, with_sides, with_turn, out_of, behind, after, in_handler}
use Rattle.types.specs.Sound.{SplitsWell, CutsWell, Follows, FollowsOf}
use Rattle.types.proofs.CallsFollow.{Callable, kind_is, knows, call_follows}
use Rattle.types.proofs.ExpressionsFollow.{number_follows, truth_follows, numbers_follow}
use Rattle.types.proofs.Growth.{Grows, grows_both, grows_behind, grows_after}
use Rattle.types.proofs.Known.{KnownAt, known_behind, known_after, known_in_handler, known_in_split, known_in_turn}
use Rattle.types.proofs.Known.{split_is_there, cut_is_there}
use Rattle.types.proofs.Telling.{none_both}
use Rattle.types.proofs.LabelLimit.{none_left, none_right}
use Rattle.types.proofs.Refused.{refused, test_passed}

-- a name that is written, or assigned
module _ (label : ℕ) (here : Scope) where
  record Written (scope : List ℕ) (s : ℕ) : Type 0 where
    in_scope : Member s scope
    writable : (kind_of here s).may_write ≡ true

  written_there : (scope : List ℕ) (m : Option Meant) → ((s : ℕ) → m ≡ Some (ASection s) → Member s scope)
      → naming_written label here m ≡ [] → Written scope (section_or_0 m)
  written_there scope None there none = refused none
  written_there scope (Some (AScalar k)) there none = refused none
  written_there scope (Some (ASection s)) there none =
      record { in_scope = there s refl; writable = test_passed (kind_of here s).may_write _ none }

  assigned_there : (slots : ℕ) (m : Option Meant) → ((k : ℕ) → m ≡ Some (AScalar k) → k < slots)
      → naming_assigned label here m ≡ [] → slot_or_0 m < slots
  assigned_there slots None there none = refused none
  assigned_there slots (Some (ASection s)) there none = refused none
  assigned_there slots (Some (AScalar k)) there none = there k refl

module _ (p : Program) (g : Procedure) (fs : List DeclaredProcedure)
    (callable : (x : List ℕ) (k : ℕ) (ps : List Declared) → procedure_of 0 x fs ≡ Some (k, ps) → Callable p k ps) where
  -- the procedure contains all sections and slots so far
  abbrev pub Within : Scope → Type 0
  Within here = Grows here.sections here.slot g.sections g.slots

  before : (s : Stmt) (here : Scope) → Within (behind s here) → Within here
  before s here w =
      let end : Scope = record here { sections = g.sections; slot = g.slots } in
      grows_both here (behind s here) end (grows_behind s here) w

  before_block : (b : Block) (here : Scope) → Within (after b here) → Within here
  before_block b here w =
      let end : Scope = record here { sections = g.sections; slot = g.slots } in
      grows_both here (after b here) end (grows_after b here) w

  store_follows : (here : Scope) (scope : List ℕ) (known : KnownAt g.parameters scope here) (w : Within here) (s : List ℕ) (i e : _)
      → own_errors fs here (Store s i e) ≡ [] → FollowsOf p g scope (code fs here (Store s i e))
  store_follows here scope known w s i e none =
      let named = naming_written here.label here (meant s here.names) in
      let at = written_there here.label here scope (meant s here.names) (known.sections s) (none_left named _ none) in
      let others = none_right named _ none in
      let k = knows g scope here known w in
      record {
        in_scope = at.in_scope;
        writable = ap (λ x. x.may_write) (sym (kind_is g scope here known w (section_of here.names s) at.in_scope)) ∙ at.writable;
        at = number_follows g scope here.label here.names k i (none_left (errors.number here.label here.names i) _ others);
        stored = number_follows g scope here.label here.names k e (none_right (errors.number here.label here.names i) _ others);
      }

  split_is : (here : Scope) (scope : List ℕ) (known : KnownAt g.parameters scope here) (s l r : List ℕ) (e : _) (b : Block)
      → Within (with_sides (section_of here.names s) l r (next here)) → own_errors fs here (Split s e l r b) ≡ []
      → SplitsWell g scope (section_of here.names s) (length here.sections) (length here.sections + 1)
  split_is here scope known s l r e b w none =
      let n = section_of here.names s in
      let os = here.sections in
      let all : length (os ++ Left n ∷ Right n ∷ []) ≡ length os + 2 = length-append os (Left n ∷ Right n ∷ []) in
      record {
        in_scope = split_is_there g.parameters fs here scope known s l r e b none;
        left =
            let same : length os ≡ length os + 0 = omega arith in
            ap (λ qs. origin_of qs (length os)) w.sections
            ∙ get_or-append (os ++ Left n ∷ Right n ∷ []) w.more Root (length os) (omega arith)
            ∙ ap (origin_of (os ++ Left n ∷ Right n ∷ [])) same
            ∙ get_or-append-add os (Left n ∷ Right n ∷ []) 0 Root;
        right =
            ap (λ qs. origin_of qs (length os + 1)) w.sections
            ∙ get_or-append (os ++ Left n ∷ Right n ∷ []) w.more Root (length os + 1) (omega arith)
            ∙ get_or-append-add os (Left n ∷ Right n ∷ []) 1 Root;
        next = refl;
        later = known.below;
      }

  cut_is : (here : Scope) (scope : List ℕ) (known : KnownAt g.parameters scope here) (s x i : List ℕ) (e : _) (b : Block)
      → Within (with_turn (section_of here.names s) x i (next here)) → own_errors fs here (Parts s e x i b) ≡ []
      → CutsWell g scope (section_of here.names s) (length here.sections) here.slot
  cut_is here scope known s x i e b w none =
      let n = section_of here.names s in
      let os = here.sections in
      let all : length (os ++ Piece n ∷ []) ≡ length os + 1 = length-append os (Piece n ∷ []) in
      let same : length os ≡ length os + 0 = omega arith in
      let slots : here.slot + 1 ≤ g.slots = w.slots in
      record {
        in_scope = cut_is_there g.parameters fs here scope known s x i e b none;
        piece =
            ap (λ qs. origin_of qs (length os)) w.sections
            ∙ get_or-append (os ++ Piece n ∷ []) w.more Root (length os) (omega arith)
            ∙ ap (origin_of (os ++ Piece n ∷ [])) same
            ∙ get_or-append-add os (Piece n ∷ []) 0 Root;
        later = known.below;
        slot = omega arith;
      }

  -- the first of two blocks, as if it were the only one
  no_errors_if : (here : Scope) (e : _) (b : Block) → errors.truth here.label here.names e ≡ []
      → rules.errors fs (next here) b ≡ []
      → errors_in fs here (If e b) ≡ []
  no_errors_if here e b guard inner = none_both (errors.truth here.label here.names e) (rules.errors fs (next here) b) guard inner

  mutual
    pub follows_of : (s : Stmt) (here : Scope) (scope : List ℕ) → KnownAt g.parameters scope here → errors_in fs here s ≡ []
        → Within (behind s here) → FollowsOf p g scope (code fs here s)
    follows_of Skip here scope known none w = tt
    follows_of (Var x e) here scope known none w =
        let own = none_left (own_errors fs here (Var x e)) _ none in
        let more : here.slot + 1 ≤ g.slots = w.slots in (
          omega arith,
          number_follows g scope here.label here.names (knows g scope here known (before (Var x e) here w)) e
              (none_left (errors.number here.label here.names e) _ own),
        )
    follows_of (Assign x e) here scope known none w =
        let own = none_left (own_errors fs here (Assign x e)) _ none in
        let named = naming_assigned here.label here (meant x here.names) in
        let k = knows g scope here known w in (
          assigned_there here.label here g.slots (meant x here.names) (k.scalars x) (none_left named _ own),
          number_follows g scope here.label here.names k e (none_right named _ own),
        )
    follows_of (Store s i e) here scope known none w =
        store_follows here scope known w s i e (none_left (own_errors fs here (Store s i e)) _ none)
    follows_of (Print e es) here scope known none w =
        numbers_follow g scope here.label here.names (knows g scope here known w) (e ∷ es)
        (none_left (own_errors fs here (Print e es)) _ none)
    follows_of (Fault e) here scope known none w =
        number_follows g scope here.label here.names (knows g scope here known w) e (none_left (own_errors fs here (Fault e)) _ none)
    follows_of (If e b) here scope known none w = (
      truth_follows g scope here.label here.names (knows g scope here known (before (If e b) here w)) e
          (none_left (own_errors fs here (If e b)) _ none),
      follows b (next here) scope known (none_right (own_errors fs here (If e b)) _ none) w,
      tt,
    )
    follows_of (IfElse e b c) here scope known none w =
        let there = out_of here (after b (next here)) in
        let inner = none_right (own_errors fs here (IfElse e b c)) _ none in
        let first = none_left (rules.errors fs (next here) b) _ inner in
        let guard = none_left (own_errors fs here (IfElse e b c)) _ none in
        let between = known_behind g.parameters fs (If e b) here scope known (no_errors_if here e b guard first) in (
          truth_follows g scope here.label here.names (knows g scope here known (before (IfElse e b c) here w)) e guard,
          follows b (next here) scope known first (before_block c there w),
          follows c there scope between (none_right (rules.errors fs (next here) b) _ inner) w,
        )
    follows_of (While e b) here scope known none w = (
      truth_follows g scope here.label here.names (knows g scope here known (before (While e b) here w)) e
          (none_left (own_errors fs here (While e b)) _ none),
      follows b (next here) scope known (none_right (own_errors fs here (While e b)) _ none) w,
    )
    follows_of (Split s e l r b) here scope known none w =
        let inside = with_sides (section_of here.names s) l r (next here) in
        let own = none_left (own_errors fs here (Split s e l r b)) _ none in
        let named = naming_section here.label (meant s here.names) in (
          split_is here scope known s l r e b (before_block b inside w) own,
          number_follows g scope here.label here.names (knows g scope here known (before (Split s e l r b) here w)) e
              (none_left (errors.number here.label here.names e) _ (none_right named _ own)),
          follows b inside (length here.sections ∷ (length here.sections + 1) ∷ scope)
              (known_in_split g.parameters fs here scope known s l r e b own)
              (none_right (own_errors fs here (Split s e l r b)) _ none) w,
        )
    follows_of (Parts s e x i b) here scope known none w =
        let inside = with_turn (section_of here.names s) x i (next here) in
        let own = none_left (own_errors fs here (Parts s e x i b)) _ none in
        let named = naming_section here.label (meant s here.names) in (
          cut_is here scope known s x i e b (before_block b inside w) own,
          number_follows g scope here.label here.names (knows g scope here known (before (Parts s e x i b) here w)) e
              (none_left (errors.number here.label here.names e) _ (none_right named _ own)),
          follows b inside (length here.sections ∷ scope) (known_in_turn g.parameters fs here scope known s x i e b own)
              (none_right (own_errors fs here (Parts s e x i b)) _ none) w,
        )
    follows_of (Call f es) here scope known none w =
        call_follows g scope here known w here.label p fs (procedure_of 0 f fs) es (callable f)
        (none_left (own_errors fs here (Call f es)) _ none)
    follows_of (Async b) here scope known none w =
        follows b (inside_async (next here)) scope known (none_right (own_errors fs here (Async b)) _ none) w
    follows_of (Finish b) here scope known none w =
        follows b (next here) scope known (none_right (own_errors fs here (Finish b)) _ none) w
    follows_of (Rescue b x c) here scope known none w =
        let there = in_handler b x here in
        let inner = none_right (own_errors fs here (Rescue b x c)) _ none in
        let first = none_left (rules.errors fs (next here) b) _ inner in
        let within = before_block c there w in
        let slots : (after b (next here)).slot + 1 ≤ g.slots = within.slots in
        let body : Within (after b (next here)) = record { more = within.more; sections = within.sections; slots = omega arith } in (
          follows b (next here) scope known first body,
          omega arith,
          follows c there scope
              (known_in_handler g.parameters scope here b x known (known_after g.parameters fs b (next here) scope known first))
              (none_right (rules.errors fs (next here) b) _ inner) w,
        )

    pub follows : (b : Block) (here : Scope) (scope : List ℕ) → KnownAt g.parameters scope here → rules.errors fs here b ≡ []
        → Within (after b here) → Follows p g scope (codes fs here b)
    follows End here scope known none w = tt
    follows (Then s rest) here scope known none w =
        let own = none_right (limit 65535 here.label) _ (none_left (limit 65535 here.label ++ errors_in fs here s) _ none) in (
          follows_of s here scope known own (before_block rest (behind s here) w),
          follows rest (behind s here) scope (known_behind g.parameters fs s here scope known own)
              (none_right (limit 65535 here.label ++ errors_in fs here s) _ none) w,
        )

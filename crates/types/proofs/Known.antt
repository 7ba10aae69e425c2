-- What is known at each position of a text that breaks no rule: the names in scope, and the
-- sections so far.
use Rattle.std.proofs.Common.{◌≡◌, inl, inr, ℕ, zero, suc, ◌+◌, ◌-◌, ◌<◌, ◌≤◌, Bool, true, false, List, [], ◌∷◌, ◌++◌, length}
use Rattle.std.proofs.Common.{Option, Some, None, refl, sym, ap, ◌∙◌, subst, arith, if◌then◌else◌}
use Rattle.std.proofs.Math.ListN.{get_or-append}
use Rattle.std.proofs.lemmas.Bool.{cases_lt}
use Rattle.std.proofs.lemmas.List.{length-append, get_or-append-add}
use Rattle.std.specs.Prelude.{nat_eq, slice_index_or}
use Rattle.std.specs.Cmp.Lexicographic.{pointwise}
use Rattle.sections.specs.Member.{Member, first, next as further}
use Rattle.sections.specs.Origins.{Origin, Left, Right, Piece, origin_of, IsNumbered, IsChildOf, left, right, piece}
use Rattle.sections.specs.Overlap.{root_of}
use Rattle.sections.proofs.Lines.{root_of-side}
use Rattle.sections.proofs.Numbered.{continued, sides_continue, piece_continues}
use Rattle.syntax_tree.specs.Tree.{Stmt, Skip, Var, Assign, Store, Print, Fault, If, IfElse, While, Split, Parts, Call, Async}
use Rattle.syntax_tree.specs.Tree.{Finish, Rescue, Block, End, Then, Procedure as Declared}
use Rattle.types.specs.Code.{Parameter}
use Rattle.types.specs.NameErrors.{naming_section}
use Rattle.types.specs.Rules.{limit, own_errors, errors_in, errors}
use Rattle.types.specs.Scope.{Meant, ASection, AScalar, Names, meant, section_or_0, section_of, Scope, no_section, next}
use Rattle.types.specs.Scope.{inside_async, with_sides, with_turn, out_of, behind, after, in_handler}
use Rattle.types.specs.Sound.{parameter_at}
use Rattle.types.proofs.Growth.{GrowsTo, grows_both, grows_longer, grows_behind, grows_after}
use Rattle.types.proofs.Prefixes.{root-prefix}
use Rattle.types.proofs.LabelLimit.{none_left, none_right}
use Rattle.types.proofs.Refused.{refused}

-- each section has the kind of the parameter that contains it
pub record HasKinds (ps : List Parameter) (os : List Origin) (ks : List Parameter) : Type 0 where
  pub numbered : IsNumbered os
  pub count : length ks ≡ length os
  pub kind : (s : ℕ) → s < length os → slice_index_or ks s no_section ≡ parameter_at ps (root_of os s)

-- the sides of a split have the kind of the section that is split
module _ (ps : List Parameter) (os : List Origin) (ks : List Parameter) (known : HasKinds ps os ks) (s : ℕ) (there : s < length os) where
  abbrev kind : Parameter
  kind = slice_index_or ks s no_section

  numbered : IsNumbered (os ++ Left s ∷ Right s ∷ [])
  numbered = continued os (Left s ∷ Right s ∷ []) known.numbered (sides_continue (length os) s there)

  kind_of_side : (a : ℕ) → IsChildOf (os ++ Left s ∷ Right s ∷ []) s a
      → slice_index_or (ks ++ kind ∷ kind ∷ []) a no_section ≡ kind
      → slice_index_or (ks ++ kind ∷ kind ∷ []) a no_section ≡ parameter_at ps (root_of (os ++ Left s ∷ Right s ∷ []) a)
  kind_of_side a side is =
      is ∙ known.kind s there
      ∙ ap (parameter_at ps) (sym (root-prefix os (Left s ∷ Right s ∷ []) known.numbered s there))
      ∙ ap (parameter_at ps) (sym (root_of-side (os ++ Left s ∷ Right s ∷ []) numbered a s side))

  kind_behind : (a b : ℕ) → a ≡ length os + b → b < 2
      → slice_index_or (ks ++ kind ∷ kind ∷ []) a no_section ≡ parameter_at ps (root_of (os ++ Left s ∷ Right s ∷ []) a)
  kind_behind a zero at h =
      let count = known.count in
      let same : a ≡ length ks + 0 = omega arith in
      kind_of_side a
      (left (ap (origin_of (os ++ Left s ∷ Right s ∷ [])) at ∙ get_or-append-add os (Left s ∷ Right s ∷ []) 0 _))
      (ap (λ n. slice_index_or (ks ++ kind ∷ kind ∷ []) n no_section) same ∙ get_or-append-add ks (kind ∷ kind ∷ []) 0 no_section)
  kind_behind a (suc zero) at h =
      let count = known.count in
      let same : a ≡ length ks + 1 = omega arith in
      kind_of_side a
      (right (ap (origin_of (os ++ Left s ∷ Right s ∷ [])) at ∙ get_or-append-add os (Left s ∷ Right s ∷ []) 1 _))
      (ap (λ n. slice_index_or (ks ++ kind ∷ kind ∷ []) n no_section) same ∙ get_or-append-add ks (kind ∷ kind ∷ []) 1 no_section)
  kind_behind a (suc (suc b)) at h = absurd (omega arith)

  kind_at : (a : ℕ) → a < length (os ++ Left s ∷ Right s ∷ [])
      → slice_index_or (ks ++ kind ∷ kind ∷ []) a no_section ≡ parameter_at ps (root_of (os ++ Left s ∷ Right s ∷ []) a)
  kind_at a h =
      let count = known.count in
      let all : length (os ++ Left s ∷ Right s ∷ []) ≡ length os + 2 = length-append os (Left s ∷ Right s ∷ []) in
      elim (cases_lt a (length os)) [
        | inl k ↦
            (let inside : a < length ks = omega arith in
            get_or-append ks (kind ∷ kind ∷ []) no_section a inside ∙ known.kind a k
            ∙ ap (parameter_at ps) (sym (root-prefix os (Left s ∷ Right s ∷ []) known.numbered a k)))
        | inr k ↦ kind_behind a (a - length os) (omega arith) (omega arith)
      ]

  pub kinds_of_sides : HasKinds ps (os ++ Left s ∷ Right s ∷ []) (ks ++ kind ∷ kind ∷ [])
  kinds_of_sides = record {
    numbered = numbered;
    count =
        let count = known.count in
        let more = length-append os (Left s ∷ Right s ∷ []) in
        let kinds = length-append ks (kind ∷ kind ∷ []) in
        omega arith;
    kind = kind_at;
  }

-- the piece of a `parts` has the kind of the section that is cut
module _ (ps : List Parameter) (os : List Origin) (ks : List Parameter) (known : HasKinds ps os ks) (s : ℕ) (there : s < length os) where
  abbrev kind_cut : Parameter
  kind_cut = slice_index_or ks s no_section

  still_numbered : IsNumbered (os ++ Piece s ∷ [])
  still_numbered = continued os (Piece s ∷ []) known.numbered (piece_continues (length os) s there)

  kind_of_piece : (a : ℕ) → a ≡ length os
      → slice_index_or (ks ++ kind_cut ∷ []) a no_section ≡ parameter_at ps (root_of (os ++ Piece s ∷ []) a)
  kind_of_piece a at =
      let count = known.count in
      let same : a ≡ length ks + 0 = omega arith in
      let last : a ≡ length os + 0 = omega arith in
      let child : IsChildOf (os ++ Piece s ∷ []) s a =
      piece (ap (origin_of (os ++ Piece s ∷ [])) last ∙ get_or-append-add os (Piece s ∷ []) 0 _) in
      ap (λ n. slice_index_or (ks ++ kind_cut ∷ []) n no_section) same
      ∙ get_or-append-add ks (kind_cut ∷ []) 0 no_section
      ∙ known.kind s there
      ∙ ap (parameter_at ps) (sym (root-prefix os (Piece s ∷ []) known.numbered s there))
      ∙ ap (parameter_at ps) (sym (root_of-side (os ++ Piece s ∷ []) still_numbered a s child))

  kind_of_each : (a : ℕ) → a < length (os ++ Piece s ∷ [])
      → slice_index_or (ks ++ kind_cut ∷ []) a no_section ≡ parameter_at ps (root_of (os ++ Piece s ∷ []) a)
  kind_of_each a h =
      let count = known.count in
      let all : length (os ++ Piece s ∷ []) ≡ length os + 1 = length-append os (Piece s ∷ []) in
      elim (cases_lt a (length os)) [
        | inl k ↦
            (let inside : a < length ks = omega arith in
            get_or-append ks (kind_cut ∷ []) no_section a inside ∙ known.kind a k
            ∙ ap (parameter_at ps) (sym (root-prefix os (Piece s ∷ []) known.numbered a k)))
        | inr k ↦ kind_of_piece a (omega arith)
      ]

  pub kinds_of_piece : HasKinds ps (os ++ Piece s ∷ []) (ks ++ kind_cut ∷ [])
  kinds_of_piece = record {
    numbered = still_numbered;
    count =
        let count = known.count in
        let more = length-append os (Piece s ∷ []) in
        let kinds = length-append ks (kind_cut ∷ []) in
        omega arith;
    kind = kind_of_each;
  }

-- the names at a position mean sections of the scope and slots that exist
pub record Known (ps : List Parameter) (scope : List ℕ) (names : Names) (slots : ℕ) (os : List Origin) (ks : List Parameter) : Type 0 where
  pub sections : (x : List ℕ) (s : ℕ) → meant x names ≡ Some (ASection s) → Member s scope
  pub scalars : (x : List ℕ) (k : ℕ) → meant x names ≡ Some (AScalar k) → k < slots
  pub below : (s : ℕ) → Member s scope → s < length os
  pub kinds : HasKinds ps os ks

abbrev pub KnownAt : List Parameter → List ℕ → Scope → Type 0
KnownAt ps scope here = Known ps scope here.names here.slot here.sections here.kinds

-- one more name, by whether it is the one that is looked up
pub section_or_later : (b : Bool) (k s : ℕ) (o : Option Meant) → (if b then Some (AScalar k) else o) ≡ Some (ASection s)
    → o ≡ Some (ASection s)
section_or_later true k s o h = absurd cc
section_or_later false k s o h = h

scalar_or_later : (b : Bool) (n k : ℕ) (o : Option Meant) → (o ≡ Some (AScalar k) → k < n)
    → (if b then Some (AScalar n) else o) ≡ Some (AScalar k) → k < n + 1
scalar_or_later true n k o old h = let e : n ≡ k = cc in omega arith
scalar_or_later false n k o old h = let lt : k < n = old h in omega arith

side_or_later : (b : Bool) (n s : ℕ) (o : Option Meant) (scope : List ℕ) → (o ≡ Some (ASection s) → Member s scope)
    → (if b then Some (ASection n) else o) ≡ Some (ASection s) → Member s (n ∷ scope)
side_or_later true n s o scope old h = let e : n ≡ s = cc in subst (λ k. Member k (n ∷ scope)) e first
side_or_later false n s o scope old h = further (old h)

pub past_section : (b : Bool) (n k : ℕ) (o : Option Meant) → (if b then Some (ASection n) else o) ≡ Some (AScalar k)
    → o ≡ Some (AScalar k)
past_section true n k o h = absurd cc
past_section false n k o h = h

pub known_scalar : (ps : List Parameter) (scope : List ℕ) (names : Names) (slots : ℕ) (os : List Origin) (ks : List Parameter) (x : List ℕ)
    → Known ps scope names slots os ks → Known ps scope ((x, AScalar slots) ∷ names) (slots + 1) os ks
known_scalar ps scope names slots os ks x known = record {
  sections = λ y s h. known.sections y s (section_or_later (pointwise nat_eq y x) slots s (meant y names) h);
  scalars = λ y k h. scalar_or_later (pointwise nat_eq y x) slots k (meant y names) (known.scalars y k) h;
  below = known.below;
  kinds = known.kinds;
}

below_sides : (scope : List ℕ) (n s : ℕ) → ((t : ℕ) → Member t scope → t < n) → Member s (n ∷ (n + 1) ∷ scope) → s < n + 2
below_sides scope n s h first = omega arith
below_sides scope n s h (further first) = omega arith
below_sides scope n s h (further (further m)) = let lt : s < n = h s m in omega arith

known_sides : (ps : List Parameter) (scope : List ℕ) (here : Scope) (s : ℕ) (l r : List ℕ) → Member s scope
    → KnownAt ps scope here → KnownAt ps (length here.sections ∷ (length here.sections + 1) ∷ scope) (with_sides s l r here)
known_sides ps scope here s l r there known =
    let n = length here.sections in
    record {
      sections = λ y t h. side_or_later (pointwise nat_eq y l) n t (meant y ((r, ASection (n + 1)) ∷ here.names)) ((n + 1) ∷ scope)
          (side_or_later (pointwise nat_eq y r) (n + 1) t (meant y here.names) scope (known.sections y t)) h;
      scalars = λ y k h. known.scalars y k (past_section (pointwise nat_eq y r) (n + 1) k (meant y here.names)
          (past_section (pointwise nat_eq y l) n k (meant y ((r, ASection (n + 1)) ∷ here.names)) h));
      below = λ t m.
          (let lt : t < n + 2 = below_sides scope n t known.below m in
          let all = length-append here.sections (Left s ∷ Right s ∷ []) in
          omega arith);
      kinds = kinds_of_sides ps here.sections here.kinds known.kinds s (known.below s there);
    }

below_piece : (scope : List ℕ) (n s : ℕ) → ((t : ℕ) → Member t scope → t < n) → Member s (n ∷ scope) → s < n + 1
below_piece scope n s h first = omega arith
below_piece scope n s h (further m) = let lt : s < n = h s m in omega arith

known_turn : (ps : List Parameter) (scope : List ℕ) (here : Scope) (s : ℕ) (x i : List ℕ) → Member s scope
    → KnownAt ps scope here → KnownAt ps (length here.sections ∷ scope) (with_turn s x i here)
known_turn ps scope here s x i there known =
    let n = length here.sections in
    let m = here.slot in
    record {
      sections = λ y t h. side_or_later (pointwise nat_eq y x) n t (meant y ((i, AScalar m) ∷ here.names)) scope
          (λ k. known.sections y t (section_or_later (pointwise nat_eq y i) m t (meant y here.names) k)) h;
      scalars = λ y k h. scalar_or_later (pointwise nat_eq y i) m k (meant y here.names) (known.scalars y k)
          (past_section (pointwise nat_eq y x) n k (meant y ((i, AScalar m) ∷ here.names)) h);
      below = λ t q.
          (let lt : t < n + 1 = below_piece scope n t known.below q in
          let all = length-append here.sections (Piece s ∷ []) in
          omega arith);
      kinds = kinds_of_piece ps here.sections here.kinds known.kinds s (known.below s there);
    }

-- after a block
known_out : (ps : List Parameter) (scope : List ℕ) (here there : Scope) → KnownAt ps scope here → GrowsTo here there
    → HasKinds ps there.sections there.kinds → KnownAt ps scope (out_of here there)
known_out ps scope here there known grows kinds =
    let more : here.slot ≤ there.slot = grows.slots in
    let longer : length here.sections ≤ length there.sections = grows_longer here.sections here.slot there.sections there.slot grows in
    record {
      sections = known.sections;
      scalars = λ x k h. (let lt : k < here.slot = known.scalars x k h in omega arith);
      below = λ s m. (let lt : s < length here.sections = known.below s m in omega arith);
      kinds = kinds;
    }

-- in the handler of a finish, after its body
pub known_in_handler : (ps : List Parameter) (scope : List ℕ) (here : Scope) (b : Block) (x : List ℕ) → KnownAt ps scope here
    → KnownAt ps scope (after b (next here)) → KnownAt ps scope (in_handler b x here)
known_in_handler ps scope here b x known end =
    let there = after b (next here) in
    known_scalar ps scope here.names there.slot there.sections there.kinds x
    (known_out ps scope here there known (grows_after b (next here)) end.kinds)

pub named_is_there : (label : ℕ) (scope : List ℕ) (m : Option Meant) → ((s : ℕ) → m ≡ Some (ASection s) → Member s scope)
    → naming_section label m ≡ [] → Member (section_or_0 m) scope
named_is_there label scope None there none = refused none
named_is_there label scope (Some (AScalar k)) there none = refused none
named_is_there label scope (Some (ASection s)) there none = there s refl

module _ (ps : List Parameter) (fs : List Declared) where
  -- the section that is split is in scope
  pub split_is_there : (here : Scope) (scope : List ℕ) → KnownAt ps scope here → (s l r : List ℕ) (e : _) (b : Block)
      → own_errors fs here (Split s e l r b) ≡ [] → Member (section_of here.names s) scope
  split_is_there here scope known s l r e b none =
      named_is_there here.label scope (meant s here.names) (known.sections s)
      (none_left (naming_section here.label (meant s here.names)) _ none)

  -- and so is the section that is cut
  pub cut_is_there : (here : Scope) (scope : List ℕ) → KnownAt ps scope here → (s x i : List ℕ) (e : _) (b : Block)
      → own_errors fs here (Parts s e x i b) ≡ [] → Member (section_of here.names s) scope
  cut_is_there here scope known s x i e b none =
      named_is_there here.label scope (meant s here.names) (known.sections s)
      (none_left (naming_section here.label (meant s here.names)) _ none)

  mutual
    pub known_behind : (s : Stmt) (here : Scope) (scope : List ℕ) → KnownAt ps scope here → errors_in fs here s ≡ []
        → KnownAt ps scope (behind s here)
    known_behind Skip here scope known none = known
    known_behind (Var x e) here scope known none = known_scalar ps scope here.names here.slot here.sections here.kinds x known
    known_behind (Assign x e) here scope known none = known
    known_behind (Store s i e) here scope known none = known
    known_behind (Print e es) here scope known none = known
    known_behind (Fault e) here scope known none = known
    known_behind (If e b) here scope known none =
        known_out ps scope here (after b (next here)) known (grows_after b (next here))
        (known_after b (next here) scope known (none_right (own_errors fs here (If e b)) _ none)).kinds
    known_behind (IfElse e b c) here scope known none =
        let there = out_of here (after b (next here)) in
        let inner = none_right (own_errors fs here (IfElse e b c)) _ none in
        let between = known_out ps scope here (after b (next here)) known (grows_after b (next here))
        (known_after b (next here) scope known (none_left (errors fs (next here) b) _ inner)).kinds in
        known_out ps scope here (after c there) known
        (grows_both here there (after c there) (grows_after b (next here)) (grows_after c there))
        (known_after c there scope between (none_right (errors fs (next here) b) _ inner)).kinds
    known_behind (While e b) here scope known none =
        known_out ps scope here (after b (next here)) known (grows_after b (next here))
        (known_after b (next here) scope known (none_right (own_errors fs here (While e b)) _ none)).kinds
    known_behind (Split s e l r b) here scope known none =
        let n = section_of here.names s in
        let inside = with_sides n l r (next here) in
        let own = none_left (own_errors fs here (Split s e l r b)) _ none in
        let there = split_is_there here scope known s l r e b own in
        known_out ps scope here (after b inside) known (grows_behind (Split s e l r b) here)
        (known_after b inside (length here.sections ∷ (length here.sections + 1) ∷ scope)
        (known_sides ps scope (next here) n l r there known)
        (none_right (own_errors fs here (Split s e l r b)) _ none)).kinds
    known_behind (Parts s e x i b) here scope known none =
        let n = section_of here.names s in
        let inside = with_turn n x i (next here) in
        let own = none_left (own_errors fs here (Parts s e x i b)) _ none in
        let there = cut_is_there here scope known s x i e b own in
        known_out ps scope here (after b inside) known (grows_behind (Parts s e x i b) here)
        (known_after b inside (length here.sections ∷ scope) (known_turn ps scope (next here) n x i there known)
        (none_right (own_errors fs here (Parts s e x i b)) _ none)).kinds
    known_behind (Call f es) here scope known none = known
    known_behind (Async b) here scope known none =
        known_out ps scope here (after b (inside_async (next here))) known (grows_after b (inside_async (next here)))
        (known_after b (inside_async (next here)) scope known (none_right (own_errors fs here (Async b)) _ none)).kinds
    known_behind (Finish b) here scope known none =
        known_out ps scope here (after b (next here)) known (grows_after b (next here))
        (known_after b (next here) scope known (none_right (own_errors fs here (Finish b)) _ none)).kinds
    known_behind (Rescue b x c) here scope known none =
        let there = in_handler b x here in
        let inner = none_right (own_errors fs here (Rescue b x c)) _ none in
        known_out ps scope here (after c there) known (grows_behind (Rescue b x c) here)
        (known_after c there scope
        (known_in_handler ps scope here b x known (known_after b (next here) scope known (none_left (errors fs (next here) b) _ inner)))
        (none_right (errors fs (next here) b) _ inner)).kinds

    pub known_after : (b : Block) (here : Scope) (scope : List ℕ) → KnownAt ps scope here → errors fs here b ≡ []
        → KnownAt ps scope (after b here)
    known_after End here scope known none = known
    known_after (Then s rest) here scope known none =
        known_after rest (behind s here) scope
        (known_behind s here scope known
        (none_right (limit 65535 here.label) _ (none_left (limit 65535 here.label ++ errors_in fs here s) _ none)))
        (none_right (limit 65535 here.label ++ errors_in fs here s) _ none)

  -- what is known in the block of a split
  pub known_in_split : (here : Scope) (scope : List ℕ) → KnownAt ps scope here → (s l r : List ℕ) (e : _) (b : Block)
      → own_errors fs here (Split s e l r b) ≡ []
      → KnownAt ps (length here.sections ∷ (length here.sections + 1) ∷ scope) (with_sides (section_of here.names s) l r (next here))
  known_in_split here scope known s l r e b none =
      known_sides ps scope (next here) (section_of here.names s) l r (split_is_there here scope known s l r e b none) known

  -- and in the block of a `parts`
  pub known_in_turn : (here : Scope) (scope : List ℕ) → KnownAt ps scope here → (s x i : List ℕ) (e : _) (b : Block)
      → own_errors fs here (Parts s e x i b) ≡ []
      → KnownAt ps (length here.sections ∷ scope) (with_turn (section_of here.names s) x i (next here))
  known_in_turn here scope known s x i e b none =
      known_turn ps scope (next here) (section_of here.names s) x i (cut_is_there here scope known s x i e b none) known

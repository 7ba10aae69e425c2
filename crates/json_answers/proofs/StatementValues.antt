-- The values of statements: one after the other, without floats, and nested no deeper than the parser accepts.
use Rattle.std.proofs.Common.{◌≡◌, ◌≤◌, ◌<◌, ◌+◌, ℕ, suc, List, [], ◌∷◌, ◌++◌, length, map, drop, get_or, refl, sym, ap, ◌∙◌, arith}
use Rattle.std.proofs.Common.{append_assoc, Vec, Global}
use Rattle.std.proofs.lemmas.Bool.{or_from}
use Rattle.std.proofs.lemmas.List.{append-nil, drop_all, drop_more, map-append}
use Rattle.std.specs.Option.{option_map}
use Rattle.std.specs.Prelude.{slice_get, slice_index, false}
use Rattle.std.specs.String.{string_bytes}
use Rattle.serde_json.specs.Data.{Data, array, string, depth, items_depth}
use Rattle.serde_json.specs.Read.{max_depth}
use Rattle.serde_json.specs.View.{view, items_of}
use Rattle.serde_json.specs.Written.{has_float, items_have_float}
use Rattle.serde_json.specs.declared.value.Value.{Value, Array}
use Rattle.serde_json.proofs.Views.{view-Array}
use Rattle.syntax.specs.declared.place.TextPlace.{TextPlace}
use Rattle.cost.specs.declared.cost.Cost.{Cost}
use Rattle.trace_numbers.specs.Faults.{Gathered}
use Rattle.trace_numbers.specs.Tables.{gathered}
use Rattle.trace_numbers.specs.declared.summary.TraceSummary.{TraceSummary}
use Rattle.commands.specs.declared.statements.NamedStatements.{NamedStatements}
use Rattle.json_answers.specs.Pieces.{natural, object_of}
use Rattle.json_answers.specs.Statements.{list_of, members_with, numbered, share_json, share_members, shares_json, statement_json}
use Rattle.json_answers.specs.Statements.{statement_members, statements_json, statements_members, text_json}
use Rattle.json_answers.specs.Summaries.{finish_json, finish_members, summary_json, summary_members}
use Rattle.json_answers.proofs.NoFloats.{HasNoFloat, list_has_none, natural_has_none, object_has_none, or_null_has_none, string_has_none}
use Rattle.json_answers.proofs.Shallow.{Within, list_within, natural_within, object_within, or_null_within, string_within}

-- ---- one after the other

-- the values so far, and those that are left
abbrev pub SoFar : (f : ℕ → TextPlace → Data) → List TextPlace → (n : ℕ) → List Value → Type 0
SoFar f places n vs = map view vs ++ numbered f n (drop n places) ≡ numbered f 0 places

-- an element of one list is that of an equal one
pub got : (xs ys : List TextPlace) (n : ℕ) (p d : TextPlace) → xs ≡ ys → p ≡ get_or xs n d → p ≡ get_or ys n d
got xs ys n p d same is = is ∙ ap (λ (l : List TextPlace). get_or l n d) same

pub one_more_value : (f : ℕ → TextPlace → Data) (places : List TextPlace) (n : ℕ) (p d : TextPlace) (vs : List Value) (v : Value)
    → n < length places → p ≡ get_or places n d → SoFar f places n vs → view v ≡ f n p
    → SoFar f places (n + 1) (vs ++ v ∷ [])
one_more_value f places n p d vs v inside is so_far new =
    let behind = numbered f (n + 1) (drop (n + 1) places) in
    let parts : drop n places ≡ p ∷ drop (n + 1) places =
    drop_more places n d inside ∙ ap (λ (q : TextPlace). q ∷ drop (n + 1) places) (sym is) in
    ap (λ (l : List Data). l ++ behind) (map-append view vs (v ∷ []))
    ∙ append_assoc (map view vs) (view v ∷ []) behind
    ∙ ap (λ (x : Data). map view vs ++ (x ∷ behind)) new
    ∙ ap (λ (l : List TextPlace). map view vs ++ numbered f n l) (sym parts)
    ∙ so_far

-- the value of one statement, from that of its text
pub statement_told : (s : NamedStatements) (n : ℕ) (p : TextPlace) (text v : Value) → view text ≡ text_json s n
    → view v ≡ object_of (statement_members (n + 1) p (view text)) → view v ≡ statement_json s n p
statement_told s n p text v text_is is = is ∙ ap (λ (t : Data). object_of (statement_members (n + 1) p t)) text_is

-- with its share
pub share_told : (s : NamedStatements) (work span : List ℕ) (n : ℕ) (p : TextPlace) (steps longest : ℕ) (text v : Value)
    → view text ≡ text_json s n → steps ≡ slice_index work (n + 1) → longest ≡ slice_index span (n + 1)
    → view v ≡ object_of (share_members (n + 1) p (view text) steps longest) → view v ≡ share_json s work span n p
share_told s work span n p steps longest text v text_is work_is span_is is =
    is
    ∙ ap (λ (t : Data). object_of (share_members (n + 1) p t steps longest)) text_is
    ∙ ap (λ (k : ℕ). object_of (share_members (n + 1) p (text_json s n) k longest)) work_is
    ∙ ap (λ (k : ℕ). object_of (share_members (n + 1) p (text_json s n) (slice_index work (n + 1)) k)) span_is

pub all_values : (f : ℕ → TextPlace → Data) (s : NamedStatements) (n : ℕ) (v : Vec Value Global)
    → length s.places.items ≤ n → SoFar f s.places.items n v.items → view (Array v) ≡ list_of f s
all_values f s n v all so_far =
    view-Array v
    ∙ ap (λ (ds : List Data). array (items_of ds))
    (sym (append-nil (map view v.items))
    ∙ ap (λ (l : List TextPlace). map view v.items ++ numbered f n l) (sym (drop_all n s.places.items all))
    ∙ so_far)

-- ---- without floats

numbered_has_none : (f : ℕ → TextPlace → Data) → ((n : ℕ) (p : TextPlace) → HasNoFloat (f n p)) → (n : ℕ) (places : List TextPlace)
    → items_have_float (items_of (numbered f n places)) ≡ false
numbered_has_none f none n [] = refl
numbered_has_none f none n (p ∷ places) =
    or_from (has_float (f n p)) (items_have_float (items_of (numbered f (n + 1) places))) (none n p)
    (numbered_has_none f none (n + 1) places)

text_has_none : (s : NamedStatements) (n : ℕ) → HasNoFloat (text_json s n)
text_has_none s n = or_null_has_none string (option_map string_bytes (slice_get s.heads.items n)) string_has_none

share_has_none : (s : NamedStatements) (work span : List ℕ) (n : ℕ) (p : TextPlace) → HasNoFloat (share_json s work span n p)
share_has_none s work span n p =
    object_has_none (share_members (n + 1) p (text_json s n) (slice_index work (n + 1)) (slice_index span (n + 1)))
    (refl, (refl, (refl, (refl, (text_has_none s n, (refl, tt))))))

statement_has_none : (s : NamedStatements) (n : ℕ) (p : TextPlace) → HasNoFloat (statement_json s n p)
statement_has_none s n p =
    object_has_none (statement_members (n + 1) p (text_json s n)) (refl, (refl, (refl, (text_has_none s n, tt))))

pub statements_have_none : (s : NamedStatements) → HasNoFloat (statements_json s)
statements_have_none s =
    object_has_none (statements_members s)
    (numbered_has_none (statement_json s) (statement_has_none s) 0 s.places.items, (refl, tt))

pub shares_have_none : (c : Cost) (s : NamedStatements) (work span : List ℕ) → HasNoFloat (shares_json c s work span)
shares_have_none c s work span =
    object_has_none (members_with c (list_of (share_json s work span) s)) (
      refl,
      (
        refl,
        (
          refl,
          (
            refl,
            (
              refl,
              (
                numbered_has_none (share_json s work span) (share_has_none s work span) 0 s.places.items,
                (refl, (refl, (refl, tt))),
              ),
            ),
          ),
        ),
      ),
    )

finish_has_none : (g : Gathered) → HasNoFloat (finish_json g)
finish_has_none g = object_has_none (finish_members g) (refl, (refl, tt))

pub summary_has_none : (workers : ℕ) (s : TraceSummary) → HasNoFloat (summary_json workers s)
summary_has_none workers s =
    object_has_none (summary_members workers s) (
      refl,
      (
        list_has_none finish_json (map gathered s.faults.items) finish_has_none,
        (
          refl,
          (
            refl,
            (
              refl,
              (
                refl,
                (refl, (refl, (list_has_none natural s.by_worker.items natural_has_none, (refl, (refl, tt))))),
              ),
            ),
          ),
        ),
      ),
    )

-- ---- nested no deeper

numbered_within : (m : ℕ) (f : ℕ → TextPlace → Data) → ((n : ℕ) (p : TextPlace) → Within m (f n p)) → (n : ℕ)
    (places : List TextPlace) → items_depth (items_of (numbered f n places)) ≤ m
numbered_within m f within n [] = omega arith
numbered_within m f within n (p ∷ places) =
    let here = within n p in
    let rest = numbered_within m f within (n + 1) places in
    omega arith

list_of_within : (m : ℕ) (f : ℕ → TextPlace → Data) (s : NamedStatements) → ((n : ℕ) (p : TextPlace) → Within m (f n p))
    → Within (suc m) (list_of f s)
list_of_within m f s within = let all = numbered_within m f within 0 s.places.items in omega arith

text_within : (s : NamedStatements) (n : ℕ) → Within 0 (text_json s n)
text_within s n = or_null_within 0 string (option_map string_bytes (slice_get s.heads.items n)) string_within

share_within : (s : NamedStatements) (work span : List ℕ) (n : ℕ) (p : TextPlace) → Within 1 (share_json s work span n p)
share_within s work span n p =
    object_within 0 (share_members (n + 1) p (text_json s n) (slice_index work (n + 1)) (slice_index span (n + 1)))
    (omega arith, (omega arith, (omega arith, (omega arith, (text_within s n, (omega arith, tt))))))

statement_within : (s : NamedStatements) (n : ℕ) (p : TextPlace) → Within 1 (statement_json s n p)
statement_within s n p =
    object_within 0 (statement_members (n + 1) p (text_json s n)) (omega arith, (omega arith, (omega arith, (text_within s n, tt))))

pub statements_within : (s : NamedStatements) → depth (statements_json s) ≤ max_depth
statements_within s =
    let whole = object_within 2 (statements_members s)
    (list_of_within 1 (statement_json s) s (statement_within s), (omega arith, tt)) in
    omega arith

pub shares_within : (c : Cost) (s : NamedStatements) (work span : List ℕ) → depth (shares_json c s work span) ≤ max_depth
shares_within c s work span =
    let whole = object_within 2 (members_with c (list_of (share_json s work span) s)) (
      omega arith,
      (
        omega arith,
        (
          omega arith,
          (
            omega arith,
            (
              omega arith,
              (
                list_of_within 1 (share_json s work span) s (share_within s work span),
                (omega arith, (omega arith, (omega arith, tt))),
              ),
            ),
          ),
        ),
      ),
    ) in
    omega arith

finish_within : (g : Gathered) → Within 1 (finish_json g)
finish_within g = object_within 0 (finish_members g) (omega arith, (omega arith, tt))

pub summary_within : (workers : ℕ) (s : TraceSummary) → depth (summary_json workers s) ≤ max_depth
summary_within workers s =
    let by_worker = list_within 0 natural s.by_worker.items natural_within in
    let whole = object_within 2 (summary_members workers s) (
      omega arith,
      (
        list_within 1 finish_json (map gathered s.faults.items) finish_within,
        (
          omega arith,
          (
            omega arith,
            (
              omega arith,
              (
                omega arith,
                (
                  omega arith,
                  (omega arith, (omega (arith, by_worker), (omega arith, (omega arith, tt)))),
                ),
              ),
            ),
          ),
        ),
      ),
    ) in
    omega arith

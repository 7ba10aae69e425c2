-- A text is the trace of at most one header and one list of events.
use Rattle.std.proofs.Common.{◌≡◌, ℕ, ◌^◌, ◌<◌, ◌≤◌, List, [], ◌∷◌, ◌++◌, length, Option, Some, None, refl, ap, ap₂, sym, subst, ◌∙◌, arith, append-nil, append_assoc, length-append, codes}
use Rattle.std.specs.Fmt.{decimal}
use Rattle.std.specs.List.{All, flat_map}
use Rattle.std.proofs.lemmas.Bool.{false≢true}
use Rattle.std.proofs.lemmas.Fmt.{decimal_injective}
use Rattle.std.proofs.lemmas.List.{append_cancel_left}
use Rattle.std.proofs.lemmas.List.Elements.{All-head, All-tail}
use Rattle.std.proofs.lemmas.Option.{none-some, same_Some}
use Rattle.types.specs.Names.{path_text}
use Rattle.events.specs.Events.{Event, Take, Steal, Steps, Replenish, Spawns, Opens, Parks, Ends, Pass, Resume, ScopeId}
use Rattle.serde_json.specs.Data.{Data}
use Rattle.serde_json.specs.Written.{compact_text}
use Rattle.trace_text.specs.Fields.{counted_fields, fields, pass_fields, steal_fields, task_fields, worker_field, worker_fields}
use Rattle.trace_text.specs.Headers.{IsHeader, TraceHeader, format_number}
use Rattle.trace_text.specs.Kinds.{kind_name, kind_of, task_of}
use Rattle.trace_text.specs.Lines.{event_line, event_object, header_line, header_object, line}
use Rattle.trace_text.specs.Reading.{IsTrace}
use Rattle.trace_text.specs.Spelled.{IsCut, IsPath, IsScope, IsSpelled, IsTheft, IsTurn, IsWorkers, Lacks}
use Rattle.trace_text.specs.declared.format.Format.{Format}
use Rattle.trace_text.specs.declared.format.Format.TheVariants.{One, Two}
use Rattle.trace_text.specs.declared.kind.EventKind.{EventKind}
use Rattle.trace_text.proofs.Arms.{behind_format, behind_nest, behind_steps, behind_w0, count_small, kind_then_quote, most_format, same_kind}
use Rattle.trace_text.proofs.Arms.{text_of_event, text_of_front}
use Rattle.trace_text.proofs.Arms.{told_resume, told_steal, told_take}
use Rattle.trace_text.proofs.Cuts.{left_text, one_cut, root_is, root_lacks, turn_is}
use Rattle.trace_text.proofs.Found.{line_then}
use Rattle.trace_text.proofs.Marks.{Lacks-number, number_then_brace, number_then_comma, path_then_quote, turns_text}
use Rattle.trace_text.proofs.NoFeeds.{Lacks-event, Lacks-header}

-- ---- paths
-- the turns of a path, cut at their dots
cut_turns : (front ns : List ℕ) → Lacks 46 front → IsCut front (left_text ns) (front ++ turns_text ns)
cut_turns front [] lacks = (sym (append-nil front), lacks)
cut_turns front (n ∷ ns) lacks = record { parts = refl; first = lacks }

one_left : (p q : List ℕ) → All IsTurn p → All IsTurn q → left_text p ≡ left_text q → p ≡ q
one_left [] [] hp hq e = refl
one_left [] (m ∷ ms) hp hq e = absurd (none-some _ e)
one_left (n ∷ ns) [] hp hq e = absurd (none-some _ (sym e))
one_left (n ∷ ns) (m ∷ ms) hp hq e =
    let texts : decimal n ++ turns_text ns ≡ decimal m ++ turns_text ms = same_Some _ _ e in
    let pieces = turn_is (decimal m) (left_text ms) (decimal m ++ turns_text ms) n ns (sym texts)
    (cut_turns (decimal m) ms (Lacks-number m)) in
    let of_n = All-head IsTurn n ns hp in
    let of_m = All-head IsTurn m ms hq in
    let heads : n ≡ m = decimal_injective n m (omega (arith, of_n.1)) (omega (arith, of_m.1)) (sym pieces.0) in
    ap₂ (λ (x : ℕ) (xs : List ℕ). x ∷ xs) heads
    (one_left ns ms (All-tail IsTurn n ns hp) (All-tail IsTurn m ms hq) (sym pieces.1))

one_path : (p q : List ℕ) → IsPath p → IsPath q → path_text p ≡ path_text q → p ≡ q
one_path p q hp hq e =
    one_left p q hp.turns_fit hq.turns_fit
    (sym (root_is (codes "0") (left_text q) (path_text q) p (sym e) (cut_turns (codes "0") q root_lacks)).1)

-- ---- pieces of a line
-- a path before a quote, and what follows
path_then : (p q rest left : List ℕ) → IsPath p → IsPath q → path_text p ++ (34 ∷ rest) ≡ path_text q ++ (34 ∷ left)
    → (p ≡ q) × (rest ≡ left)
path_then p q rest left hp hq e =
    let both = one_cut 34 (path_text p) rest (path_text q) left (path_then_quote p) (path_then_quote q) e in
    (one_path p q hp hq both.0, both.1)

-- a number before a comma, and what follows
number_then : (m n : ℕ) (rest left : List ℕ) → m ≤ 4294967296 → n ≤ 4294967296 → decimal m ++ (44 ∷ rest) ≡ decimal n ++ (44 ∷ left)
    → (m ≡ n) × (rest ≡ left)
number_then m n rest left hm hn e =
    let both = one_cut 44 (decimal m) rest (decimal n) left (number_then_comma m) (number_then_comma n) e in
    (decimal_injective m n (omega (arith, hm)) (omega (arith, hn)) both.0, both.1)

-- a number before the last brace
number_last : (m n : ℕ) → m ≤ 64 → n ≤ 64 → decimal m ++ codes "}" ≡ decimal n ++ codes "}" → m ≡ n
number_last m n hm hn e =
    let both = one_cut 125 (decimal m) [] (decimal n) [] (number_then_brace m) (number_then_brace n) e in
    decimal_injective m n (omega (arith, hm)) (omega (arith, hn)) both.0

-- ---- fields
one_worker : (v w : ℕ) → v < 64 → w < 64 → worker_field v ≡ worker_field w → v ≡ w
one_worker v w hv hw e =
    number_last v w (omega (arith, hv)) (omega (arith, hw))
    (append_cancel_left (codes ",\"worker\":") (decimal v ++ codes "}") (decimal w ++ codes "}") e)

one_workers : (v w : ℕ) (p q : List ℕ) → IsWorkers v p → IsWorkers w q → worker_fields v p ≡ worker_fields w q → (v ≡ w) × (p ≡ q)
one_workers v w p q hv hw e =
    let both = path_then p q (worker_field v) (worker_field w) hv.task hw.task
    (append_cancel_left (codes ",\"path\":\"") (path_text p ++ (34 ∷ worker_field v)) (path_text q ++ (34 ∷ worker_field w)) e) in
    (one_worker v w hv.worker_fits hw.worker_fits both.1, both.0)

one_task : (p q : List ℕ) → IsPath p → IsPath q → task_fields p ≡ task_fields q → p ≡ q
one_task p q hp hq e =
    (path_then p q (codes "}") (codes "}") hp hq
    (append_cancel_left (codes ",\"path\":\"") (path_text p ++ codes "\"}") (path_text q ++ codes "\"}") e)).0

one_theft : (v w f g : ℕ) (p q : List ℕ) → IsTheft v f p → IsTheft w g q → steal_fields v f p ≡ steal_fields w g q
    → (v ≡ w) × ((f ≡ g) × (p ≡ q))
one_theft v w f g p q hv hw e =
    let f_fits = hv.from_fits in
    let g_fits = hw.from_fits in
    let from = number_then f g _ _ (omega (arith, f_fits)) (omega (arith, g_fits))
    (append_cancel_left (codes ",\"from\":") (decimal f ++ worker_fields v p) (decimal g ++ worker_fields w q) e) in
    let both = one_workers v w p q hv.thief hw.thief (ap (λ (l : List ℕ). 44 ∷ l) from.1) in
    (both.0, (from.0, both.1))

one_counted : (v w m n : ℕ) (p q : List ℕ) → IsWorkers v p → IsWorkers w q → m < 2 ^ 32 → n < 2 ^ 32
    → counted_fields v p m ≡ counted_fields w q n → (v ≡ w) × ((m ≡ n) × (p ≡ q))
one_counted v w m n p q hv hw hm hn e =
    let number = number_then m n _ _ (omega (arith, hm)) (omega (arith, hn))
    (append_cancel_left (codes ",\"faults\":") (decimal m ++ worker_fields v p) (decimal n ++ worker_fields w q) e) in
    let both = one_workers v w p q hv hw (ap (λ (l : List ℕ). 44 ∷ l) number.1) in
    (both.0, (number.0, both.1))

one_pass : (m n : ℕ) (p q : List ℕ) → m < 2 ^ 32 → n < 2 ^ 32 → IsPath p → IsPath q → pass_fields m p ≡ pass_fields n q
    → (m ≡ n) × (p ≡ q)
one_pass m n p q hm hn hp hq e =
    let number = number_then m n _ _ (omega (arith, hm)) (omega (arith, hn))
    (append_cancel_left (codes ",\"number\":") (decimal m ++ (codes ",\"owner\":\"" ++ (path_text p ++ codes "\"}")))
    (decimal n ++ (codes ",\"owner\":\"" ++ (path_text q ++ codes "\"}"))) e) in
    let owner = path_then p q (codes "}") (codes "}") hp hq
    (append_cancel_left (codes "\"owner\":\"") (path_text p ++ codes "\"}") (path_text q ++ codes "\"}") number.1) in
    (number.0, owner.0)

-- ---- events
-- two events of one kind with the same fields
same_fields : (a : Format) (e f : Event) → IsSpelled a e → IsSpelled a f → kind_of e ≡ kind_of f → fields e ≡ fields f → e ≡ f
same_fields a (Take v p) (Take w q) he hf kind same =
    let both = one_workers v w p q he hf same in ap₂ (λ (n : ℕ) (l : List ℕ). Take n l) both.0 both.1
same_fields a (Steal v f p) (Steal w g q) he hf kind same =
    let all = one_theft v w f g p q he hf same in
    ap₂ (λ (n : ℕ) (l : List ℕ). Steal n f l) all.0 all.1.1 ∙ ap (λ (n : ℕ). Steal w n q) all.1.0
same_fields a (Steps p) (Steps q) he hf kind same = ap Steps (one_task p q he hf same)
same_fields a (Replenish p) (Replenish q) he hf kind same = ap Replenish (one_task p q he hf same)
same_fields a (Spawns p) (Spawns q) he hf kind same = ap Spawns (one_task p q he hf same)
same_fields a (Opens p) (Opens q) he hf kind same = ap Opens (one_task p q he hf same)
same_fields a (Parks p) (Parks q) he hf kind same = ap Parks (one_task p q he hf same)
same_fields a (Ends p) (Ends q) he hf kind same = ap Ends (one_task p q he hf same)
same_fields a (Pass s) (Pass t) he hf kind same =
    let both = one_pass s.number t.number s.owner t.owner he.number hf.number he.owner hf.owner same in
    ap Pass (ap₂ (λ (n : ℕ) (l : List ℕ). record { owner = l; number = n }) both.0 both.1)
same_fields One (Resume v p None) (Resume w q None) he hf kind same =
    let both = one_workers v w p q he.by hf.by same in ap₂ (λ (n : ℕ) (l : List ℕ). Resume n l None) both.0 both.1
same_fields One (Resume v p None) (Resume w q (Some n)) he hf kind same = absurd (false≢true hf.count)
same_fields One (Resume v p (Some m)) (Resume w q n) he hf kind same = absurd (false≢true he.count)
same_fields Two (Resume v p (Some m)) (Resume w q (Some n)) he hf kind same =
    let all = one_counted v w m n p q he.by hf.by (count_small m he.count) (count_small n hf.count) same in
    ap₂ (λ (k : ℕ) (l : List ℕ). Resume k l (Some m)) all.0 all.1.1 ∙ ap (λ (k : ℕ). Resume w q (Some k)) all.1.0
same_fields Two (Resume v p (Some m)) (Resume w q None) he hf kind same = absurd (false≢true hf.count)
same_fields Two (Resume v p None) (Resume w q n) he hf kind same = absurd (false≢true he.count)
same_fields a e f he hf kind same = absurd cc

one_event : (a : Format) (e f : Event) → IsSpelled a e → IsSpelled a f → compact_text (event_object e) ≡ compact_text (event_object f) → e ≡ f
one_event a e f he hf same =
    let texts = append_cancel_left (codes "{\"e\":\"") (kind_name (kind_of e) ++ (34 ∷ fields e)) (kind_name (kind_of f) ++ (34 ∷ fields f))
    (sym (text_of_event e) ∙ same ∙ text_of_event f) in
    let both = one_cut 34 (kind_name (kind_of e)) (fields e) (kind_name (kind_of f)) (fields f)
    (kind_then_quote (kind_of e)) (kind_then_quote (kind_of f)) texts in
    same_fields a e f he hf (same_kind (kind_of e) (kind_of f) both.0) both.1

-- ---- headers
one_header : (h g : TraceHeader) → IsHeader h → IsHeader g → compact_text (header_object h) ≡ compact_text (header_object g) → h ≡ g
one_header h g fits other same =
    let f = number_then (format_number h.format) (format_number g.format) (behind_format h) (behind_format g)
    (most_format h.format) (most_format g.format)
    (append_cancel_left (codes "{\"format\":") (decimal (format_number h.format) ++ (codes "," ++ behind_format h))
    (decimal (format_number g.format) ++ (codes "," ++ behind_format g)) (sym (text_of_front h) ∙ same ∙ text_of_front g)) in
    let n = number_then h.nest g.nest (behind_nest h) (behind_nest g) (let m = fits.most_nest in omega (arith, m))
    (let m = other.most_nest in omega (arith, m))
    (append_cancel_left (codes "\"nest\":") (decimal h.nest ++ (codes "," ++ behind_nest h))
    (decimal g.nest ++ (codes "," ++ behind_nest g)) f.1) in
    let s = number_then h.steps g.steps (behind_steps h) (behind_steps g) (let m = fits.most_steps in omega (arith, m))
    (let m = other.most_steps in omega (arith, m))
    (append_cancel_left (codes "\"steps\":") (decimal h.steps ++ (codes "," ++ behind_steps h))
    (decimal g.steps ++ (codes "," ++ behind_steps g)) n.1) in
    let w = number_then h.w0 g.w0 (behind_w0 h) (behind_w0 g) fits.most_weight other.most_weight
    (append_cancel_left (codes "\"w0\":") (decimal h.w0 ++ (codes "," ++ behind_w0 h))
    (decimal g.w0 ++ (codes "," ++ behind_w0 g)) s.1) in
    let k = number_last h.workers g.workers fits.most_workers other.most_workers
    (append_cancel_left (codes "\"workers\":") (decimal h.workers ++ codes "}") (decimal g.workers ++ codes "}") w.1) in
    alike h g (same_format h.format g.format f.0) s.0 n.0 w.0 k
  where
    same_format : (a b : Format) → format_number a ≡ format_number b → a ≡ b
    same_format One One e = refl
    same_format Two Two e = refl
    same_format One Two e = absurd (omega (arith, e))
    same_format Two One e = absurd (omega (arith, e))

    alike : (h g : TraceHeader) → h.format ≡ g.format → h.steps ≡ g.steps → h.nest ≡ g.nest → h.w0 ≡ g.w0
        → h.workers ≡ g.workers → h ≡ g
    alike h g f s n w k = λ i. record { format = f i; steps = s i; nest = n i; w0 = w i; workers = k i }

-- ---- lines
-- two texts that begin with lines
lines_then : (d b : Data) (rest left : List ℕ) → Lacks 10 (compact_text d) → Lacks 10 (compact_text b) → line d ++ rest ≡ line b ++ left
    → (compact_text d ≡ compact_text b) × (rest ≡ left)
lines_then d b rest left ld lb e = one_cut 10 (compact_text d) rest (compact_text b) left ld lb (sym (line_then d rest) ∙ e ∙ line_then b left)

-- a line isn't empty
some_line : (d : Data) (rest : List ℕ) → line d ++ rest ≡ [] → ⊥
some_line d rest e =
    let long = ap length (sym (line_then d rest) ∙ e) in
    omega (arith, long, length-append (compact_text d) (10 ∷ rest))

one_list : (a : Format) (es fs : List Event) → All (IsSpelled a) es → All (IsSpelled a) fs
    → flat_map event_line es ≡ flat_map event_line fs → es ≡ fs
one_list a [] [] he hf same = refl
one_list a [] (f ∷ fs) he hf same = absurd (some_line (event_object f) (flat_map event_line fs) (sym same))
one_list a (e ∷ es) [] he hf same = absurd (some_line (event_object e) (flat_map event_line es) same)
one_list a (e ∷ es) (f ∷ fs) he hf same =
    let both = lines_then (event_object e) (event_object f) (flat_map event_line es) (flat_map event_line fs)
    (Lacks-event e) (Lacks-event f) same in
    ap₂ (λ (x : Event) (xs : List Event). x ∷ xs)
    (one_event a e f (All-head (IsSpelled a) e es he) (All-head (IsSpelled a) f fs hf) both.0)
    (one_list a es fs (All-tail (IsSpelled a) e es he) (All-tail (IsSpelled a) f fs hf) both.1)

pub one_trace : (text : List ℕ) (h g : TraceHeader) (es fs : List Event) → IsTrace h es text → IsTrace g fs text
    → (h ≡ g) × (es ≡ fs)
one_trace text h g es fs first second =
    let both = lines_then (header_object h) (header_object g) (flat_map event_line es) (flat_map event_line fs)
    (Lacks-header h) (Lacks-header g) (sym first.lines ∙ second.lines) in
    let is = one_header h g first.fits second.fits both.0 in (
      is,
      one_list g.format es fs (subst (λ (h : TraceHeader). All (IsSpelled h.format) es) is first.spelled) second.spelled both.1,
    )

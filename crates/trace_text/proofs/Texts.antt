-- The text of each line, written out.
use Rattle.std.proofs.Common.{◌≡◌, ℕ, Bool, true, false, List, [], ◌∷◌, ◌++◌, codes}
use Rattle.std.proofs.Common.{refl, ap, ◌∙◌, append_assoc}
use Rattle.std.specs.Fmt.{decimal}
use Rattle.types.specs.Names.{path_text}
use Rattle.json.specs.Print.{escape, escape_byte, quoted}
use Rattle.serde_json.specs.Data.{Members, no_members, object}
use Rattle.serde_json.specs.Written.{comma_if, compact_text, members_text}
use Rattle.trace_text.proofs.Marks.{escape-path}
use Rattle.trace_text.specs.Headers.{TraceHeader, format_number}
use Rattle.trace_text.specs.Kinds.{kind_name}
use Rattle.trace_text.specs.Lines.{line, text_under, number_under, task_object, worker_object, steal_object, counted_object, pass_object, header_object}
use Rattle.trace_text.specs.declared.kind.EventKind.{EventKind}
use Rattle.trace_text.specs.declared.kind.EventKind.TheVariants.{Take, Steal, Pass, Resume}

-- bytes that are unchanged in a line
abbrev pub IsPlain : List ℕ → Type 0
IsPlain s = escape s ≡ s

pub IsPlain-kind : (k : EventKind) → IsPlain (kind_name k)
unfolding escape_byte
IsPlain-kind Take = refl
IsPlain-kind _ = refl

-- ---- one key more
quoted_then : (s rest : List ℕ) → IsPlain s → quoted s ++ rest ≡ 34 ∷ (s ++ (34 ∷ rest))
quoted_then s rest plain =
    ap (λ (l : List ℕ). 34 ∷ ((l ++ (34 ∷ [])) ++ rest)) plain
    ∙ ap (λ (l : List ℕ). 34 ∷ l) (append_assoc s (34 ∷ []) rest)

member_then : (later : Bool) (k text more rest : List ℕ) → IsPlain k
    → (comma_if later ++ (quoted k ++ (58 ∷ (text ++ more)))) ++ rest
    ≡ comma_if later ++ (34 ∷ (k ++ (34 ∷ (58 ∷ (text ++ (more ++ rest))))))
member_then later k text more rest plain =
    append_assoc (comma_if later) (quoted k ++ (58 ∷ (text ++ more))) rest
    ∙ ap (λ (l : List ℕ). comma_if later ++ l)
    (append_assoc (quoted k) (58 ∷ (text ++ more)) rest
    ∙ ap (λ (l : List ℕ). quoted k ++ (58 ∷ l)) (append_assoc text more rest)
    ∙ quoted_then k (58 ∷ (text ++ (more ++ rest))) plain)

text_then : (later : Bool) (k s rest : List ℕ) (ms : Members) → IsPlain k → IsPlain s
    → members_text later (text_under k s ms) ++ rest
    ≡ comma_if later ++ (34 ∷ (k ++ (34 ∷ (58 ∷ (34 ∷ (s ++ (34 ∷ (members_text true ms ++ rest))))))))
text_then later k s rest ms plain_key plain =
    member_then later k (quoted s) (members_text true ms) rest plain_key
    ∙ ap (λ (l : List ℕ). comma_if later ++ (34 ∷ (k ++ (34 ∷ (58 ∷ l)))))
    (quoted_then s (members_text true ms ++ rest) plain)

number_then : (later : Bool) (k rest : List ℕ) (n : ℕ) (ms : Members) → IsPlain k
    → members_text later (number_under k n ms) ++ rest
    ≡ comma_if later ++ (34 ∷ (k ++ (34 ∷ (58 ∷ (decimal n ++ (members_text true ms ++ rest))))))
number_then later k rest n ms plain_key = member_then later k (decimal n) (members_text true ms) rest plain_key

-- the kind comes first
kind_then : (kind : EventKind) (rest : List ℕ) (ms : Members)
    → compact_text (object (text_under (codes "e") (kind_name kind) ms)) ++ rest
    ≡ codes "{\"e\":\"" ++ (kind_name kind ++ (34 ∷ (members_text true ms ++ rest)))
unfolding escape_byte
kind_then kind rest ms =
    ap (λ (l : List ℕ). 123 ∷ l) (text_then false (codes "e") (kind_name kind) rest ms refl (IsPlain-kind kind))

-- a task comes last
task_then : (path rest : List ℕ)
    → members_text true (text_under (codes "path") (path_text path) no_members) ++ rest
    ≡ codes ",\"path\":\"" ++ (path_text path ++ (codes "\"}" ++ rest))
unfolding escape_byte
task_then path rest = text_then true (codes "path") (path_text path) rest no_members refl (escape-path path)

-- a task and a worker come last
worker_then : (worker : ℕ) (path rest : List ℕ)
    → members_text true (text_under (codes "path") (path_text path) (number_under (codes "worker") worker no_members)) ++ rest
    ≡ codes ",\"path\":\"" ++ (path_text path ++ (codes "\",\"worker\":" ++ (decimal worker ++ (codes "}" ++ rest))))
unfolding escape_byte
worker_then worker path rest =
    let last = number_under (codes "worker") worker no_members in
    text_then true (codes "path") (path_text path) rest last refl (escape-path path)
    ∙ ap (λ (l : List ℕ). codes ",\"path\":\"" ++ (path_text path ++ (34 ∷ l)))
    (number_then true (codes "worker") rest worker no_members refl)

-- ---- lines, with the text after the object
abbrev pub task_words : (kind path rest : List ℕ) → List ℕ
task_words kind path rest =
    codes "{\"e\":\"" ++ (kind ++ (codes "\",\"path\":\"" ++ (path ++ (codes "\"}" ++ rest))))

pub text_of_task : (kind : EventKind) (path rest : List ℕ)
    → compact_text (task_object kind path) ++ rest ≡ task_words (kind_name kind) (path_text path) rest
text_of_task kind path rest =
    kind_then kind rest (text_under (codes "path") (path_text path) no_members)
    ∙ ap (λ (l : List ℕ). codes "{\"e\":\"" ++ (kind_name kind ++ (34 ∷ l))) (task_then path rest)

abbrev pub worker_words : (kind path worker rest : List ℕ) → List ℕ
worker_words kind path worker rest =
    codes "{\"e\":\"" ++ (kind ++ (codes "\",\"path\":\"" ++ (path ++ (codes "\",\"worker\":" ++ (worker ++ (codes "}" ++ rest))))))

pub text_of_worker : (kind : EventKind) (worker : ℕ) (path rest : List ℕ)
    → compact_text (worker_object kind worker path) ++ rest
    ≡ worker_words (kind_name kind) (path_text path) (decimal worker) rest
text_of_worker kind worker path rest =
    let last = number_under (codes "worker") worker no_members in
    kind_then kind rest (text_under (codes "path") (path_text path) last)
    ∙ ap (λ (l : List ℕ). codes "{\"e\":\"" ++ (kind_name kind ++ (34 ∷ l))) (worker_then worker path rest)

abbrev pub steal_words : (from path worker rest : List ℕ) → List ℕ
steal_words from path worker rest =
    codes "{\"e\":\"steal\",\"from\":" ++ (from ++ (codes ",\"path\":\"" ++ (path ++ (codes "\",\"worker\":" ++ (worker ++ (codes "}" ++ rest))))))

pub text_of_steal : (worker from : ℕ) (path rest : List ℕ)
    → compact_text (steal_object worker from path) ++ rest
    ≡ steal_words (decimal from) (path_text path) (decimal worker) rest
unfolding escape_byte
text_of_steal worker from path rest =
    let last = number_under (codes "worker") worker no_members in
    let third = text_under (codes "path") (path_text path) last in
    kind_then Steal rest (number_under (codes "from") from third)
    ∙ ap (λ (l : List ℕ). codes "{\"e\":\"steal\"" ++ l)
    (number_then true (codes "from") rest from third refl
    ∙ ap (λ (l : List ℕ). codes ",\"from\":" ++ (decimal from ++ l)) (worker_then worker path rest))

abbrev pub counted_words : (faults path worker rest : List ℕ) → List ℕ
counted_words faults path worker rest =
    codes "{\"e\":\"resume\",\"faults\":" ++ (faults ++ (codes ",\"path\":\"" ++ (path ++ (codes "\",\"worker\":" ++ (worker ++ (codes "}" ++ rest))))))

pub text_of_counted : (worker : ℕ) (path : List ℕ) (faults : ℕ) (rest : List ℕ)
    → compact_text (counted_object worker path faults) ++ rest
    ≡ counted_words (decimal faults) (path_text path) (decimal worker) rest
unfolding escape_byte
text_of_counted worker path faults rest =
    let last = number_under (codes "worker") worker no_members in
    let third = text_under (codes "path") (path_text path) last in
    kind_then Resume rest (number_under (codes "faults") faults third)
    ∙ ap (λ (l : List ℕ). codes "{\"e\":\"resume\"" ++ l)
    (number_then true (codes "faults") rest faults third refl
    ∙ ap (λ (l : List ℕ). codes ",\"faults\":" ++ (decimal faults ++ l)) (worker_then worker path rest))

abbrev pub pass_words : (n owner rest : List ℕ) → List ℕ
pass_words n owner rest =
    codes "{\"e\":\"pass\",\"number\":" ++ (n ++ (codes ",\"owner\":\"" ++ (owner ++ (codes "\"}" ++ rest))))

pub text_of_pass : (n : ℕ) (owner rest : List ℕ)
    → compact_text (pass_object n owner) ++ rest ≡ pass_words (decimal n) (path_text owner) rest
unfolding escape_byte
text_of_pass n owner rest =
    let last = text_under (codes "owner") (path_text owner) no_members in
    kind_then Pass rest (number_under (codes "number") n last)
    ∙ ap (λ (l : List ℕ). codes "{\"e\":\"pass\"" ++ l)
    (number_then true (codes "number") rest n last refl
    ∙ ap (λ (l : List ℕ). codes ",\"number\":" ++ (decimal n ++ l))
    (text_then true (codes "owner") (path_text owner) rest no_members refl (escape-path owner)))

abbrev pub header_words : (format nest steps w0 workers rest : List ℕ) → List ℕ
header_words format nest steps w0 workers rest =
    codes "{\"format\":" ++ (format ++ (codes ",\"nest\":" ++ (nest ++ (codes ",\"steps\":" ++ (steps ++ (codes ",\"w0\":" ++ (w0 ++ (codes ",\"workers\":" ++ (workers ++ (codes "}" ++ rest))))))))))

pub text_of_header : (h : TraceHeader) (rest : List ℕ)
    → compact_text (header_object h) ++ rest
    ≡ header_words (decimal (format_number h.format)) (decimal h.nest) (decimal h.steps) (decimal h.w0) (decimal h.workers) rest
unfolding escape_byte
text_of_header h rest =
    let fifth = number_under (codes "workers") h.workers no_members in
    let fourth = number_under (codes "w0") h.w0 fifth in
    let third = number_under (codes "steps") h.steps fourth in
    let second = number_under (codes "nest") h.nest third in
    ap (λ (l : List ℕ). 123 ∷ l) (number_then false (codes "format") rest (format_number h.format) second refl)
    ∙ ap (λ (l : List ℕ). codes "{\"format\":" ++ (decimal (format_number h.format) ++ l))
    (number_then true (codes "nest") rest h.nest third refl
    ∙ ap (λ (l : List ℕ). codes ",\"nest\":" ++ (decimal h.nest ++ l))
    (number_then true (codes "steps") rest h.steps fourth refl
    ∙ ap (λ (l : List ℕ). codes ",\"steps\":" ++ (decimal h.steps ++ l))
    (number_then true (codes "w0") rest h.w0 fifth refl
    ∙ ap (λ (l : List ℕ). codes ",\"w0\":" ++ (decimal h.w0 ++ l))
    (number_then true (codes "workers") rest h.workers no_members refl))))

-- ---- whole lines
pub line_of_task : (kind : EventKind) (path : List ℕ)
    → line (task_object kind path) ≡ task_words (kind_name kind) (path_text path) (codes "\n")
unfolding line
line_of_task kind path = text_of_task kind path (codes "\n")

pub line_of_worker : (kind : EventKind) (worker : ℕ) (path : List ℕ)
    → line (worker_object kind worker path)
    ≡ worker_words (kind_name kind) (path_text path) (decimal worker) (codes "\n")
unfolding line
line_of_worker kind worker path = text_of_worker kind worker path (codes "\n")

pub line_of_steal : (worker from : ℕ) (path : List ℕ)
    → line (steal_object worker from path)
    ≡ steal_words (decimal from) (path_text path) (decimal worker) (codes "\n")
unfolding line
line_of_steal worker from path = text_of_steal worker from path (codes "\n")

pub line_of_counted : (worker : ℕ) (path : List ℕ) (faults : ℕ)
    → line (counted_object worker path faults)
    ≡ counted_words (decimal faults) (path_text path) (decimal worker) (codes "\n")
unfolding line
line_of_counted worker path faults = text_of_counted worker path faults (codes "\n")

pub line_of_pass : (n : ℕ) (owner : List ℕ)
    → line (pass_object n owner) ≡ pass_words (decimal n) (path_text owner) (codes "\n")
unfolding line
line_of_pass n owner = text_of_pass n owner (codes "\n")

pub line_of_header : (h : TraceHeader)
    → line (header_object h)
    ≡ header_words (decimal (format_number h.format)) (decimal h.nest) (decimal h.steps) (decimal h.w0) (decimal h.workers) (codes "\n")
unfolding line
line_of_header h = text_of_header h (codes "\n")

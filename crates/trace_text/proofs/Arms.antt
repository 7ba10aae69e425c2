-- The text of an event's line for each kind, and the part of it that identifies the event.
use Rattle.std.proofs.Common.{◌≡◌, ◌≤◌, ◌<◌, ◌^◌, ℕ, true, arith, leb-true, List, [], ◌∷◌, ◌++◌, Option, Some, refl, ap, sym, ◌∙◌, append-nil, codes}
use Rattle.std.specs.Prelude.{None, sum, nat_eq, if◌then◌else◌}
use Rattle.std.specs.Fmt.{decimal}
use Rattle.events.specs.Events.{Event, Take, Steal, Pass, Resume}
use Rattle.serde_json.specs.Written.{compact_text}
use Rattle.std.proofs.lemmas.Bool.{false≢true}
use Rattle.trace_text.specs.Fields.{counted_fields, fields, resume_fields, steal_fields, worker_fields}
use Rattle.trace_text.specs.Headers.{TraceHeader, format_number, header_of}
use Rattle.trace_text.specs.Kinds.{kind_name, kind_of, task_of}
use Rattle.trace_text.specs.Lines.{event_object, header_object}
use Rattle.trace_text.specs.Spelled.{Lacks, IsResumption, IsSpelled, IsTheft, IsWorkers, has_count}
use Rattle.trace_text.specs.declared.format.Format.{Format}
use Rattle.trace_text.specs.declared.format.Format.TheVariants.{One, Two}
use Rattle.trace_text.specs.declared.header.Header.{Header}
use Rattle.trace_text.specs.declared.kind.EventKind.{EventKind}
use Rattle.trace_text.specs.declared.kind.EventKind.TheVariants.{Take as IsTake, Steal as IsSteal, Step as IsStep}
use Rattle.trace_text.specs.declared.kind.EventKind.TheVariants.{Replenish as IsReplenish, Spawn as IsSpawn}
use Rattle.trace_text.specs.declared.kind.EventKind.TheVariants.{Open as IsOpen, Park as IsPark, End as IsEnd}
use Rattle.trace_text.specs.declared.kind.EventKind.TheVariants.{Pass as IsPass, Resume as IsResume}
use Rattle.trace_text.proofs.Marks.{above, Lacks-above}
use Rattle.trace_text.proofs.Texts.{text_of_counted, text_of_header, text_of_pass, text_of_steal, text_of_task, text_of_worker}

-- a text with nothing after it
bare : {text words : List ℕ} → text ++ [] ≡ words → text ≡ words
bare {text} {words} same = sym (append-nil text) ∙ same

-- ---- the text of a header's line
abbrev pub behind_w0 : TraceHeader → List ℕ
behind_w0 h = codes "\"workers\":" ++ (decimal h.workers ++ codes "}")

abbrev pub behind_steps : TraceHeader → List ℕ
behind_steps h = codes "\"w0\":" ++ (decimal h.w0 ++ (codes "," ++ behind_w0 h))

abbrev pub behind_nest : TraceHeader → List ℕ
behind_nest h = codes "\"steps\":" ++ (decimal h.steps ++ (codes "," ++ behind_steps h))

abbrev pub behind_format : TraceHeader → List ℕ
behind_format h = codes "\"nest\":" ++ (decimal h.nest ++ (codes "," ++ behind_nest h))

pub most_format : (f : Format) → format_number f ≤ 4294967296
most_format One = omega arith
most_format Two = omega arith

pub text_of_front : (h : TraceHeader)
    → compact_text (header_object h) ≡ codes "{\"format\":" ++ (decimal (format_number h.format) ++ (codes "," ++ behind_format h))
text_of_front h = bare (text_of_header h [])

-- ---- kinds
above_kind : (k : EventKind) → above 97 (kind_name k) ≡ true
above_kind IsTake = refl
above_kind _ = refl

pub kind_then_quote : (k : EventKind) → Lacks 34 (kind_name k)
kind_then_quote k = Lacks-above 97 34 (kind_name k) (above_kind k) (omega arith)

abbrev all_kinds : List EventKind
all_kinds = IsTake ∷ IsSteal ∷ IsStep ∷ IsReplenish ∷ IsSpawn ∷ IsOpen ∷ IsPark ∷ IsEnd ∷ IsPass ∷ IsResume ∷ []

-- the kind whose letters have this sum
abbrev named : (letters : ℕ) → List EventKind → EventKind
named letters [] = IsTake
named letters (k ∷ ks) = if nat_eq letters (sum (kind_name k)) then k else named letters ks

named_is : (k : EventKind) → named (sum (kind_name k)) all_kinds ≡ k
named_is IsTake = refl
named_is _ = refl

-- a kind is determined by its name
pub same_kind : (j k : EventKind) → kind_name j ≡ kind_name k → j ≡ k
same_kind j k e = sym (named_is j) ∙ ap (λ (name : List ℕ). named (sum name) all_kinds) e ∙ named_is k

-- the text of an event's line: the kind, and the fields after it
pub text_of_event : (e : Event)
    → compact_text (event_object e) ≡ codes "{\"e\":\"" ++ (kind_name (kind_of e) ++ (34 ∷ fields e))
text_of_event (Take worker path) = bare (text_of_worker IsTake worker path [])
text_of_event (Steal worker from path) = bare (text_of_steal worker from path [])
text_of_event (Resume worker path None) = bare (text_of_worker IsResume worker path [])
text_of_event (Resume worker path (Some n)) = bare (text_of_counted worker path n [])
text_of_event (Pass scope) = bare (text_of_pass scope.number scope.owner [])
text_of_event e = bare (text_of_task (kind_of e) (task_of e) [])

-- what is known of a line's fields is known of the one event that has them
pub told_take : (f : Format) (rest : List ℕ) (o : Option Event)
    → ((w : ℕ) (p : List ℕ) → IsWorkers w p → rest ≡ worker_fields w p → o ≡ Some (Take w p))
    → (e : Event) → IsSpelled f e → IsTake ≡ kind_of e → rest ≡ fields e → o ≡ Some e
told_take f rest o found (Take w p) h kind same = found w p h same
told_take f rest o found e h kind same = absurd cc

pub told_resume : (f : Format) (rest : List ℕ) (o : Option Event)
    → ((w : ℕ) (p : List ℕ) (n : Option ℕ) → IsResumption f w p n → rest ≡ resume_fields w p n → o ≡ Some (Resume w p n))
    → (e : Event) → IsSpelled f e → IsResume ≡ kind_of e → rest ≡ fields e → o ≡ Some e
told_resume f rest o found (Resume w p n) h kind same = found w p n h same
told_resume f rest o found e h kind same = absurd cc

-- the number of faults of a resume is small
pub count_small : (n : ℕ) → has_count Two (Some n) ≡ true → n < 2 ^ 32
count_small n e = let most = leb-true n 4294967295 e in omega (arith, most)

-- what is known of a format's resumes is known of all that it has
pub told_plain : (rest : List ℕ) (o : Option Event)
    → ((w : ℕ) (p : List ℕ) → IsWorkers w p → rest ≡ worker_fields w p → o ≡ Some (Resume w p None))
    → (w : ℕ) (p : List ℕ) (n : Option ℕ) → IsResumption One w p n → rest ≡ resume_fields w p n → o ≡ Some (Resume w p n)
told_plain rest o found w p None h same = found w p h.by same
told_plain rest o found w p (Some n) h same = absurd (false≢true h.count)

pub told_counted : (rest : List ℕ) (o : Option Event)
    → ((w : ℕ) (p : List ℕ) (n : ℕ) → IsWorkers w p → n < 2 ^ 32 → rest ≡ counted_fields w p n → o ≡ Some (Resume w p (Some n)))
    → (w : ℕ) (p : List ℕ) (n : Option ℕ) → IsResumption Two w p n → rest ≡ resume_fields w p n → o ≡ Some (Resume w p n)
told_counted rest o found w p None h same = absurd (false≢true h.count)
told_counted rest o found w p (Some n) h same = found w p n h.by (count_small n h.count) same

pub no_format : (f : Format) → None ≡ Some f → ⊥
no_format f e = cc

-- headers with the same values
abbrev header_with : Format → (steps nest w0 workers : ℕ) → TraceHeader
header_with f s n w k = record { format = f; steps = s; nest = n; w0 = w; workers = k }

same_values : (f g : Format) (s t n m w v k l : ℕ) → f ≡ g → s ≡ t → n ≡ m → w ≡ v → k ≡ l
    → header_with f s n w k ≡ header_with g t m v l
same_values f g s t n m w v k l format steps nest w0 workers =
    ap (λ (x : Format). header_with x s n w k) format
    ∙ (ap (λ (x : ℕ). header_with g x n w k) steps
    ∙ (ap (λ (x : ℕ). header_with g t x w k) nest
    ∙ (ap (λ (x : ℕ). header_with g t m x k) w0 ∙ ap (λ (x : ℕ). header_with g t m v x) workers)))

some_same : (f g : Format) → Some f ≡ Some g → f ≡ g
some_same f g e = cc

pub told_header : (r : Header) (h : TraceHeader) → Some r.format ≡ Some h.format → r.budget.steps ≡ h.steps → r.budget.nest ≡ h.nest
    → r.w0 ≡ h.w0 → r.workers ≡ h.workers → Some (header_of r) ≡ Some h
told_header r h format steps nest w0 workers =
    ap (λ (x : TraceHeader). Some x)
    (same_values r.format h.format r.budget.steps h.steps r.budget.nest h.nest r.w0 h.w0 r.workers h.workers
    (some_same r.format h.format format) steps nest w0 workers)

pub told_steal : (f : Format) (rest : List ℕ) (o : Option Event)
    → ((w from : ℕ) (p : List ℕ) → IsTheft w from p → rest ≡ steal_fields w from p → o ≡ Some (Steal w from p))
    → (e : Event) → IsSpelled f e → IsSteal ≡ kind_of e → rest ≡ fields e → o ≡ Some e
told_steal f rest o found (Steal w from p) h kind same = found w from p h same
told_steal f rest o found e h kind same = absurd cc

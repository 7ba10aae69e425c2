-- No line feed occurs in the object of a line.
use Rattle.std.proofs.Common.{◌≡◌, ℕ, true, List, [], ◌++◌, Some, None, codes, refl, ap, sym, ◌∙◌, append-nil}
use Rattle.std.specs.Fmt.{decimal}
use Rattle.types.specs.Names.{path_text}
use Rattle.events.specs.Events.{Event, Take, Steal, Pass, Resume}
use Rattle.serde_json.specs.Written.{compact_text}
use Rattle.trace_text.specs.Headers.{TraceHeader, format_number}
use Rattle.trace_text.specs.Kinds.{kind_name, kind_of, task_of}
use Rattle.trace_text.specs.Lines.{event_object, header_object, task_object, worker_object, steal_object, counted_object, pass_object}
use Rattle.trace_text.specs.Spelled.{Lacks}
use Rattle.trace_text.specs.declared.kind.EventKind.{EventKind}
use Rattle.trace_text.specs.declared.kind.EventKind.TheVariants.{Take as IsTake, Resume as IsResume}
use Rattle.trace_text.proofs.Marks.{visible, visible-append, visible-path, visible-number, Lacks-visible}
use Rattle.trace_text.proofs.Texts.{text_of_task, text_of_worker, text_of_steal, text_of_counted, text_of_pass, text_of_header}

visible_kind : (k : EventKind) → visible (kind_name k) ≡ true
visible_kind IsTake = refl
visible_kind _ = refl

-- a text with nothing after it is visible
lacks_as : (text words : List ℕ) → text ++ [] ≡ words → visible words ≡ true → Lacks 10 text
lacks_as text words same seen =
    Lacks-visible text (ap visible (sym (append-nil text) ∙ same) ∙ seen)

lacks_task : (kind : EventKind) (path : List ℕ) → Lacks 10 (compact_text (task_object kind path))
lacks_task kind path =
    lacks_as (compact_text (task_object kind path)) _ (text_of_task kind path [])
    (visible-append (kind_name kind) (codes "\",\"path\":\"" ++ (path_text path ++ codes "\"}")) (visible_kind kind)
    (visible-append (path_text path) (codes "\"}") (visible-path path) refl))

-- the text after the key of a path, if a worker is named too
visible_worker : (worker : ℕ) (path : List ℕ)
    → visible (path_text path ++ (codes "\",\"worker\":" ++ (decimal worker ++ codes "}"))) ≡ true
visible_worker worker path =
    visible-append (path_text path) (codes "\",\"worker\":" ++ (decimal worker ++ codes "}"))
    (visible-path path) (visible-append (decimal worker) (codes "}") (visible-number worker) refl)

lacks_worker : (kind : EventKind) (worker : ℕ) (path : List ℕ)
    → Lacks 10 (compact_text (worker_object kind worker path))
lacks_worker kind worker path =
    lacks_as (compact_text (worker_object kind worker path)) _ (text_of_worker kind worker path [])
    (visible-append (kind_name kind)
    (codes "\",\"path\":\"" ++ (path_text path ++ (codes "\",\"worker\":" ++ (decimal worker ++ codes "}"))))
    (visible_kind kind) (visible_worker worker path))

lacks_steal : (worker from : ℕ) (path : List ℕ)
    → Lacks 10 (compact_text (steal_object worker from path))
lacks_steal worker from path =
    lacks_as (compact_text (steal_object worker from path)) _ (text_of_steal worker from path [])
    (visible-append (decimal from)
    (codes ",\"path\":\"" ++ (path_text path ++ (codes "\",\"worker\":" ++ (decimal worker ++ codes "}"))))
    (visible-number from) (visible_worker worker path))

lacks_counted : (worker : ℕ) (path : List ℕ) (faults : ℕ)
    → Lacks 10 (compact_text (counted_object worker path faults))
lacks_counted worker path faults =
    lacks_as (compact_text (counted_object worker path faults)) _ (text_of_counted worker path faults [])
    (visible-append (decimal faults)
    (codes ",\"path\":\"" ++ (path_text path ++ (codes "\",\"worker\":" ++ (decimal worker ++ codes "}"))))
    (visible-number faults) (visible_worker worker path))

lacks_pass : (n : ℕ) (owner : List ℕ) → Lacks 10 (compact_text (pass_object n owner))
lacks_pass n owner =
    lacks_as (compact_text (pass_object n owner)) _ (text_of_pass n owner [])
    (visible-append (decimal n) (codes ",\"owner\":\"" ++ (path_text owner ++ codes "\"}")) (visible-number n)
    (visible-append (path_text owner) (codes "\"}") (visible-path owner) refl))

pub Lacks-event : (e : Event) → Lacks 10 (compact_text (event_object e))
Lacks-event (Take worker path) = lacks_worker IsTake worker path
Lacks-event (Steal worker from path) = lacks_steal worker from path
Lacks-event (Resume worker path None) = lacks_worker IsResume worker path
Lacks-event (Resume worker path (Some n)) = lacks_counted worker path n
Lacks-event (Pass scope) = lacks_pass scope.number scope.owner
Lacks-event e = lacks_task (kind_of e) (task_of e)

pub Lacks-header : (h : TraceHeader) → Lacks 10 (compact_text (header_object h))
Lacks-header h =
    let last = decimal h.workers ++ codes "}" in
    let fourth = decimal h.w0 ++ (codes ",\"workers\":" ++ last) in
    let third = decimal h.steps ++ (codes ",\"w0\":" ++ fourth) in
    let second = decimal h.nest ++ (codes ",\"steps\":" ++ third) in
    lacks_as (compact_text (header_object h)) _ (text_of_header h [])
    (visible-append (decimal (format_number h.format)) (codes ",\"nest\":" ++ second) (visible-number (format_number h.format))
    (visible-append (decimal h.nest) (codes ",\"steps\":" ++ third) (visible-number h.nest)
    (visible-append (decimal h.steps) (codes ",\"w0\":" ++ fourth) (visible-number h.steps)
    (visible-append (decimal h.w0) (codes ",\"workers\":" ++ last) (visible-number h.w0)
    (visible-append (decimal h.workers) (codes "}") (visible-number h.workers) refl)))))

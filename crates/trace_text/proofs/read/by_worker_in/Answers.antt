use Rattle.std.proofs.Common.{◌≡◌, Some, rules}
use Rattle.std.specs.Prelude.{option_map}
use Rattle.types.specs.Names.{path_text}
use Rattle.events.specs.Events.{turns_of}
use Rattle.trace_text.specs.Fields.{worker_field}
use Rattle.trace_text.proofs.Marks.{path_then_quote}
use Rattle.trace_text.proofs.read.by_worker_in.Goals as goal

pub returns-in_default-clause-told : goal.returns-in_default-clause-told
returns-in_default-clause-told c = λ w p h same.
    absurd (c.in_default.ensures (path_text p) (worker_field w) (path_then_quote p) same)

pub returns-in_default-worker_in-clause-told : goal.returns-in_default-worker_in-clause-told
returns-in_default-worker_in-clause-told c = λ w p h same.
    let cut = c.in-Some.ensures (path_text p) (worker_field w) (path_then_quote p) same in
    let found : c.worker_in.result ≡ Some w = c.worker_in.ensures w h.worker_fits cut.1 in
    let none = c.in_default-worker_in.is in
    cc

pub returns-clause-told : goal.returns-clause-told
returns-clause-told c = λ w p h same.
    let cut = c.in-Some.ensures (path_text p) (worker_field w) (path_then_quote p) same in
    let found : c.worker_in.result ≡ Some w = c.worker_in.ensures w h.worker_fits cut.1 in
    let is = c.in-Some-worker_in.is in
    let worker : c.in-Some-worker_in.worker ≡ w = cc in
    let path : option_map turns_of c.in_ok-read_path.field-0 ≡ Some p = c.in_ok-read_path.ensures.spelled p h.task cut.0 in
    search rules

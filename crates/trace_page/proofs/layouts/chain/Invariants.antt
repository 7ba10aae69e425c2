use Rattle.std.proofs.Common.{◌≡◌, ◌++◌, drop}
use Rattle.std.specs.String.{string_bytes}
use Rattle.trace_page.specs.Layouts.{marks}
use Rattle.trace_page.proofs.layouts.chain.Given as goal

-- the marks so far, and those to come
abbrev pub invariant-loop-is_on : goal.invariant-loop-is_on
invariant-loop-is_on l = string_bytes l.text ++ marks (drop l.is_on-index l.on_it) ≡ marks l.on_it

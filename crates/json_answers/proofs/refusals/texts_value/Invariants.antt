use Rattle.std.proofs.Common.{string_bytes}
use Rattle.serde_json.specs.Data.{string}
use Rattle.json_answers.proofs.Seen.{SeenFirst}
use Rattle.json_answers.proofs.refusals.texts_value.Given as goal

-- the values so far represent the first texts
abbrev pub invariant-loop-text : goal.invariant-loop-text
invariant-loop-text l = SeenFirst (λ t. string (string_bytes t)) l.texts l.text-index l.list.items

use Rattle.std.proofs.Common.{◌∙◌, ap}
use Rattle.std.specs.HashMap.{get}
use Rattle.witness.specs.Known.{is_key, steps}
use Rattle.witness.proofs.Knowns.{looked_up, at_pending, at_done}
use Rattle.witness.proofs.known.Known.way.Goals as goal

pub returns-then-entry : goal.returns-then-entry
returns-then-entry c =
    looked_up c.get.result _ c.get.ensures.value ∙ ap (λ q. steps (get is_key c.args.self.now.pending q)) c.key-key.ensures
    ∙ at_pending c.args.self.now c.args.entry c.if-entry.true

pub returns-else-entry : goal.returns-else-entry
returns-else-entry c =
    looked_up c.get-else-entry.result _ c.get-else-entry.ensures.value ∙ ap (λ q. steps (get is_key c.args.self.now.done q)) c.key-key.ensures
    ∙ at_done c.args.self.now c.args.entry c.if-entry.false

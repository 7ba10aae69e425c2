use Rattle.layout.proofs.GoingLemmas.{only_memory}
use Rattle.layout.proofs.text.tokens.Goals as goal

pub no_memory-requires : goal.no_memory-requires
no_memory-requires c = only_memory c.args.text.now c.requires.0 c.in-Err.unread c.requires.1 c.in-Err.ensures.unread

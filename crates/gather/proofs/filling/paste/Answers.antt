use Rattle.gather.proofs.filling.paste.Goals as goal

pub returns-in-Ok-clause-pasted : goal.returns-in-Ok-clause-pasted
returns-in-Ok-clause-pasted c = c.in-Ok.ensures.pasted

use Rattle.std.proofs.Common.{sym, subst}
use Rattle.std.specs.Prelude.{IfOk, IfSome, option_map}
use Rattle.shared_lemmas.proofs.Results.{if_ok_then}
use Rattle.events.specs.Events.{event}
use Rattle.trace_text.specs.Spelled.{IsResumption, IsSpelled}
use Rattle.trace_text.specs.declared.format.Format.{Format}
use Rattle.trace_text.proofs.Arms.{told_counted, told_plain}
use Rattle.trace_text.proofs.read.resume_in.Goals as goal

pub returns-in-One-clause-spelled : goal.returns-in-One-clause-spelled
returns-in-One-clause-spelled c =
    subst (λ (f : Format). IfOk c.plain_resume_in.result (λ o. IfSome o (λ e. IsSpelled f (event e)))) (sym c.in-One.is)
    c.plain_resume_in.ensures.spelled

pub returns-in-Two-clause-spelled : goal.returns-in-Two-clause-spelled
returns-in-Two-clause-spelled c =
    subst (λ (f : Format). IfOk c.counted_resume_in.result (λ o. IfSome o (λ e. IsSpelled f (event e)))) (sym c.in-Two.is)
    c.counted_resume_in.ensures.spelled

pub returns-in-One-clause-told : goal.returns-in-One-clause-told
returns-in-One-clause-told c =
    if_ok_then c.plain_resume_in.result c.plain_resume_in.ensures.told (λ o found w p n h same.
    told_plain c.args.rest.now (option_map event o) found w p n (subst (λ (f : Format). IsResumption f w p n) c.in-One.is h) same)

pub returns-in-Two-clause-told : goal.returns-in-Two-clause-told
returns-in-Two-clause-told c =
    if_ok_then c.counted_resume_in.result c.counted_resume_in.ensures.told (λ o found w p n h same.
    told_counted c.args.rest.now (option_map event o) found w p n (subst (λ (f : Format). IsResumption f w p n) c.in-Two.is h) same)

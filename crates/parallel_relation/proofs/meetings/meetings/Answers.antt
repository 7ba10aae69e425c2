use Rattle.std.proofs.Common.{◌≡◌, ◌++◌, ◌∙◌, List, map, ap, subst}
use Rattle.std.specs.Prelude.{None}
use Rattle.types.specs.Code.{Program}
use Rattle.types.specs.Translation.{codes, program}
use Rattle.types.specs.Typed.{code_of}
use Rattle.effects.specs.Summarized.{body_of}
use Rattle.parallel_relation.specs.Listing.{AreListsOf}
use Rattle.parallel_relation.specs.Translation.{meeting}
use Rattle.parallel_relation.specs.declared.listing.ListedAccesses.{ListedAccesses}
use Rattle.parallel_relation.specs.declared.meeting.Meeting.{Meeting as rMeeting}
use Rattle.parallel_relation.proofs.ExactSummaries.{exact_of}
use Rattle.parallel_relation.proofs.MeetingLemmas.{those, are_meetings}
use Rattle.parallel_relation.proofs.meetings.meetings.Goals as goal

pub list_procedures-requires : goal.list_procedures-requires
list_procedures-requires c =
    exact_of (code_of c.args.typed.now) (program c.code-code.result.now) c.args.summaries.now c.code-code.ensures.code c.requires

pub returns : goal.returns
returns c =
    let p = code_of c.args.typed.now in
    let n = c.args.procedure.number in
    let lists = c.in_ok-lists.lists.items in
    let are : AreListsOf p lists = subst (λ (q : Program). AreListsOf q lists) c.code-code.ensures.code c.in_ok-lists.ensures in
    let body : codes c.body_of.result.now ≡ body_of p n =
    c.body_of.ensures ∙ ap (λ (q : Program). body_of q n) c.code-code.ensures.code in
    let found : map meeting c.add_meetings.new.into.items ≡ those lists None (body_of p n) =
    c.in_ok-add_meetings.ensures
    ∙ ap (λ (xs : List rMeeting). map meeting xs ++ those c.deref.result.now None (codes c.body_of.result.now)) c.new-found.ensures.items
    ∙ ap (λ (ls : List ListedAccesses). those ls None (codes c.body_of.result.now)) c.deref.ensures.value
    ∙ ap (those lists None) body in
    are_meetings p lists are (body_of p n) (map meeting c.add_meetings.new.into.items) (map meeting c.put_in_order.new.meetings.items) found
    c.put_in_order.ensures.ascending c.put_in_order.ensures.same

use Rattle.std.proofs.Common.{◌≡◌, ◌+◌, ◌++◌, ◌∙◌, List, length, map, sym, ap, subst, arith}
use Rattle.std.proofs.lemmas.List.{length-map}
use Rattle.std.specs.Prelude.{Some}
use Rattle.types.specs.Code.{Program}
use Rattle.types.specs.Translation.{codes, procedure, program}
use Rattle.types.specs.Typed.{code_of}
use Rattle.effects.specs.Summarized.{body_of}
use Rattle.parallel_relation.specs.Listing.{AreListsOf}
use Rattle.parallel_relation.specs.Translation.{meeting}
use Rattle.parallel_relation.specs.declared.listing.ListedAccesses.{ListedAccesses}
use Rattle.parallel_relation.proofs.ExactSummaries.{exact_of}
use Rattle.parallel_relation.proofs.MeetingLemmas.{those, those_next, main_body, are_meetings_at}
use Rattle.parallel_relation.proofs.meetings.meetings_at.Goals as goal

pub list_procedures-requires : goal.list_procedures-requires
list_procedures-requires c =
    exact_of (code_of c.args.typed.now) (program c.code-code.result.now) c.args.summaries.now c.code-code.ensures.code c.requires

pub returns : goal.returns
returns c =
    let p = code_of c.args.typed.now in
    let q = program c.code-code.result.now in
    let l = c.args.label in
    let n = c.loop-number.number in
    let lists = c.in_ok-lists.lists.items in
    let same : q ≡ p = c.code-code.ensures.code in
    let are : AreListsOf p lists = subst (λ (q : Program). AreListsOf q lists) same c.in_ok-lists.ensures in
    let all : n ≡ length q.procedures =
    omega (arith, c.len-number-end.ensures, length-map c.code-code.result.now.procedures.items procedure, c.loop-number-test.false, c.loop-number.auto.number-end) in
    let end : n ≡ length p.procedures = all ∙ ap (λ (r : Program). length r.procedures) same in
    let body : codes c.deref-3.result.now ≡ body_of p n =
    ap codes c.deref-3.ensures.value ∙ ap (λ (r : Program). r.main.body) same ∙ sym (main_body p n end) in
    let found : map meeting c.add_meetings-2.new.into.items ≡ map meeting c.loop-number.found.items ++ those lists (Some l) (codes c.deref-3.result.now) =
    c.in_ok-add_meetings-2.ensures
    ∙ ap (λ (ls : List ListedAccesses). map meeting c.loop-number.found.items ++ those ls (Some l) (codes c.deref-3.result.now)) c.deref-2.ensures.value in
    are_meetings_at p lists are l (n + 1) (map meeting c.add_meetings-2.new.into.items) (map meeting c.put_in_order.new.meetings.items)
    (omega (arith, end))
    (those_next lists p l n (codes c.deref-3.result.now) (map meeting c.loop-number.found.items) (map meeting c.add_meetings-2.new.into.items)
    body c.loop-number.invariant found)
    c.put_in_order.ensures.ascending c.put_in_order.ensures.same

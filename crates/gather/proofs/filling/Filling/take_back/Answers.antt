use Rattle.std.proofs.Common.{◌≡◌, ◌∙◌, ap, map, rules, sym}
use Rattle.std.proofs.lemmas.Result.{IfErr-weaker, on_ok_weaker}
use Rattle.std.specs.Prelude.{length, nat_eq}
use Rattle.shared_lemmas.proofs.Truths.{false_true}
use Rattle.sections.specs.Translation.{window}
use Rattle.task_run.specs.Places.{Places, meets}
use Rattle.gather.specs.Stages.{IsClear}
use Rattle.gather.proofs.Pasting.{apart_is_once, back-just, from-none, given-pasted, just-back, none-from, once_is_apart, owned-clear, refuses_back}
use Rattle.gather.proofs.filling.Filling.take_back.Goals.{else-is_empty-via-then-is_empty+else-owns_just, else-is_empty-via-else-is_empty}
use Rattle.gather.proofs.filling.Filling.take_back.Goals as goal

pub returns-then-owns_just-clause-taken : goal.returns-then-owns_just-clause-taken
returns-then-owns_just-clause-taken c =
    let ws = c.args.windows.items in
    let back = back-just c.args.child c.deref.result.now ws c.deref.ensures.value (c.owns_just.ensures.0 c.if-owns_just.true) in
    on_ok_weaker c.paste.result (given-pasted c.args.self.now (map window ws) c.args.child c.paste.new.holdings back) c.paste.ensures.pasted

pub returns-then-owns_just-clause-apart : goal.returns-then-owns_just-clause-apart
returns-then-owns_just-clause-apart c =
    let f = c.args.self.now in
    let ws = c.args.windows.items in
    let back = back-just c.args.child c.deref.result.now ws c.deref.ensures.value (c.owns_just.ensures.0 c.if-owns_just.true) in
    let empty : nat_eq (length f.strays.items) 0 ≡ c.is_empty.result = search rules in
    let clear : IsClear f = none-from f.strays.items (empty ∙ c.if-is_empty.true) in
    on_ok_weaker c.paste.result
    (λ apart. ap (λ (o : Places). meets o (map window ws)) (owned-clear f clear)
    ∙ apart_is_once f.so_far.holdings c.args.child c.paste.new.holdings (map window ws) back apart)
    c.paste.ensures.apart

pub returns-then-owns_just-clause-refused : goal.returns-then-owns_just-clause-refused
returns-then-owns_just-clause-refused c =
    let f = c.args.self.now in
    let ws = c.args.windows.items in
    let back = back-just c.args.child c.deref.result.now ws c.deref.ensures.value (c.owns_just.ensures.0 c.if-owns_just.true) in
    let empty : nat_eq (length f.strays.items) 0 ≡ c.is_empty.result = search rules in
    let clear : IsClear f = none-from f.strays.items (empty ∙ c.if-is_empty.true) in
    IfErr-weaker c.paste.result _ _
    (λ e. refuses_back e c.args.path _ _
    (λ once. once_is_apart f.so_far.holdings c.args.child c.paste.new.holdings (map window ws) back
    (ap (λ (o : Places). meets o (map window ws)) (sym (owned-clear f clear)) ∙ once)))
    c.paste.ensures.refused

pub returns-clause-clear : goal.returns-clause-clear
returns-clause-clear c =
    on_ok_weaker c.take_strays.result
    (λ taken clear back.
    let f = c.args.self.now in
    let empty : nat_eq (length f.strays.items) 0 ≡ c.is_empty.result = search rules in
    elim c.else-is_empty.branch [
      | else-is_empty-via-then-is_empty+else-owns_just w ↦
          false_true (sym w.if-owns_just.false
          ∙ w.owns_just.ensures.1 (just-back c.args.child w.deref.result.now c.args.windows.items w.deref.ensures.value back))
      | else-is_empty-via-else-is_empty w ↦ false_true (sym w.if-is_empty.false ∙ sym empty ∙ from-none f.strays.items clear)
    ])
    c.take_strays.ensures.taken

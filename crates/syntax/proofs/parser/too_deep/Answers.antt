use Rattle.std.proofs.Common.{◌+◌, ◌<◌, take, drop, length, refl, ap, sym, ◌∙◌, subst, arith}
use Rattle.std.proofs.lemmas.List.{take_all}
use Rattle.syntax.specs.Brackets.{AreShallow, open_behind}
use Rattle.syntax.specs.Token.{plain, token}
use Rattle.syntax.proofs.Shallow.{open_after, open_after-push, shallow_more, few_behind, parted_at, plain_more}
use Rattle.syntax.proofs.parser.too_deep.Goals as goal

pub returns-then-count-gt-MOST_OPEN-clause-some : goal.returns-then-count-gt-MOST_OPEN-clause-some
returns-then-count-gt-MOST_OPEN-clause-some c =
    let tokens = c.args.tokens.now in
    let i = c.loop-spanned.spanned-index in
    let here = c.spanned-item.result in
    let within : i < length tokens = omega arith in
    record {
      before = take i tokens;
      last = here;
      after = drop (i + 1) tokens;
      found_are = parted_at tokens i here within c.spanned-item.is;
      shallow = c.loop-spanned.invariant.shallow;
      deep = λ shallow.
          let few = few_behind 0 (plain (take i tokens)) (token here.token) shallow in
          let opened = ap (λ n. open_behind n (token here.token)) c.loop-spanned.invariant.opened in
          absurd (omega (arith, few, opened, c.open_behind-count.ensures, c.if-count-gt-MOST_OPEN.true));
      there = refl;
    }

pub loop-spanned-preserved : goal.loop-spanned-preserved
loop-spanned-preserved c =
    let tokens = c.args.tokens.now in
    let i = c.loop-spanned.spanned-index in
    let here = c.spanned-item.result in
    let within : i < length tokens = omega arith in
    let few = c.if-count-gt-MOST_OPEN.false in
    let opened = c.open_behind-count.ensures ∙ ap (λ n. open_behind n (token here.token)) c.loop-spanned.invariant.opened in
    let more = plain_more tokens i here within c.spanned-item.is in
    record {
      few = few;
      opened = opened ∙ sym (ap (open_after 0) more ∙ open_after-push 0 (plain (take i tokens)) (token here.token));
      shallow = subst (AreShallow 0) (sym more)
          (shallow_more 0 (plain (take i tokens))
          (token here.token) c.loop-spanned.invariant.shallow (omega (arith, opened, few)));
    }

pub returns-clause-none : goal.returns-clause-none
returns-clause-none c = subst (λ l. AreShallow 0 (plain l)) (take_all _ c.args.tokens.now (omega arith)) c.loop-spanned.invariant.shallow

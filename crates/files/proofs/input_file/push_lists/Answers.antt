use Rattle.std.proofs.Common.{◌∙◌, arith, ap, rules}
use Rattle.std.specs.String.{string_bytes}
use Rattle.command_line.specs.Lists.{awaits, list_in}
use Rattle.files.proofs.Members.{all_added, one_more}
use Rattle.files.proofs.input_file.push_lists.Goals as goal

pub loop-word-preserved : goal.loop-word-preserved
loop-word-preserved c = (
  search rules,
  one_more c.args.words.now c.loop-word.word-index c.word-item.result _ c.loop-word.awaited c.awaits-awaited.result
      c.loop-word.before.now _ (string_bytes c.loop-word.text) _ _ (omega arith) c.word-item.is
      (c.list_of-list.ensures ∙ ap (list_in c.loop-word.awaited) c.as_str.ensures.value)
      (c.awaits-awaited.ensures ∙ ap (awaits c.loop-word.awaited) c.as_str-in-loop-word.ensures.value)
      c.in_ok-before.ensures.added c.in_ok-before.ensures.behind
      ∙ c.loop-word.invariant.1,
)

pub returns : goal.returns
returns c =
    all_added c.args.words.now c.loop-word.word-index c.loop-word.awaited c.loop-word.before.now
    (string_bytes c.loop-word.text) _ (omega arith) c.loop-word.invariant.1

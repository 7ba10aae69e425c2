use Rattle.std.proofs.Common.{◌≡◌, ◌+◌, ◌<◌, List, drop, length, ap, sym, ◌∙◌, subst, arith}
use Rattle.std.proofs.lemmas.Bool.{and_left}
use Rattle.std.proofs.lemmas.List.{drop_all}
use Rattle.syntax.specs.declared.token.Spanned.{Spanned}
use Rattle.syntax.specs.Place.{place_at}
use Rattle.syntax.specs.Token.{plain, token}
use Rattle.statement_places.specs.Starts.{begins_if_line}
use Rattle.statement_places.specs.declared.statements.Reached.{Reached}
use Rattle.statement_places.proofs.BegunLemmas.{IsFound, all_found, begins_here, begins_not, found_no_more, found_one_more}
use Rattle.statement_places.proofs.statements.begun.Goals as goal
use Rattle.statement_places.proofs.statements.begun.Goals.{then-ended+then-begins_statement+in_ok-push, else-ended}
use Rattle.statement_places.proofs.statements.begun.Goals.{else-ended-via-then-ended+else-begins_statement, else-ended-via-else-ended}

pub loop-spanned-preserved : goal.loop-spanned-preserved
loop-spanned-preserved c =
    let text = c.args.text.now in
    let tokens = c.args.tokens.now in
    let i = c.loop-spanned.spanned-index in
    let s = c.spanned-item.result in
    let first = begins_if_line (token s.token) in
    let ended = c.loop-spanned.ended in
    let next = c.ends_line-ended.result in
    let within : i < length tokens = omega arith in
    let found = c.loop-spanned.invariant.found in
    elim c.if-ended.branch [
      | then-ended+then-begins_statement+in_ok-push w ↦
          let right = w.on_to-reached.ensures.place in
          record {
            reached = subst (λ (r : Reached). r.place ≡ place_at text r.at) (sym w.reached-is)
                (right ∙ ap (place_at text) (sym w.on_to-reached.ensures.at));
            found = subst (IsFound text (plain tokens) (plain (drop (i + 1) tokens)) next)
                (sym (ap (λ v. v.items) w.places-is ∙ w.in_ok-push.ensures.items))
                (found_one_more text tokens i s within c.spanned-item.is ended c.loop-spanned.places.items found
                c.requires.read c.requires.placed w.on_to-reached.result.place right next c.ends_line-ended.ensures
                (begins_here ended first w.begins_statement.result w.if-ended.true w.if-begins_statement.true
                w.begins_statement.ensures));
          }
      | else-ended w ↦ record {
        reached = subst (λ (r : Reached). r.place ≡ place_at text r.at) (sym w.reached-is) c.loop-spanned.invariant.reached;
        found = subst (IsFound text (plain tokens) (plain (drop (i + 1) tokens)) next) (sym (ap (λ v. v.items) w.places-is))
            (elim w.else-ended.branch [
              | else-ended-via-then-ended+else-begins_statement v ↦
                  found_no_more text tokens i s within c.spanned-item.is ended c.loop-spanned.places.items found next
                  c.ends_line-ended.ensures
                  (begins_not ended first v.begins_statement.result v.if-begins_statement.false v.begins_statement.ensures)
              | else-ended-via-else-ended v ↦
                  found_no_more text tokens i s within c.spanned-item.is ended c.loop-spanned.places.items found next
                  c.ends_line-ended.ensures (and_left ended first v.if-ended.false)
            ]);
      }
    ]

pub returns : goal.returns
returns c =
    let text = c.args.text.now in
    let tokens = c.args.tokens.now in
    let i = c.loop-spanned.spanned-index in
    all_found text (plain tokens) c.loop-spanned.ended c.loop-spanned.places.items
    (subst (λ (l : List Spanned). IsFound text (plain tokens) (plain l) c.loop-spanned.ended c.loop-spanned.places.items)
    (drop_all i tokens (omega arith)) c.loop-spanned.invariant.found)

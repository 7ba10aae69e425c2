use Rattle.std.proofs.Common.{◌∙◌, ap, sym, subst, length, List, ℕ, arith}
use Rattle.syntax.specs.Token.{token}
use Rattle.layout.specs.Laid.{token_written}
use Rattle.layout.specs.Spot.{behind_token, spot}
use Rattle.layout.specs.Writing.{Adds, GoesOn}
use Rattle.layout.proofs.GoingLemmas.{first_token, letters_taken, rest_left, some_letters, token_passed, within_text}
use Rattle.layout.proofs.text.token.Goals as goal

pub split_at-requires : goal.split_at-requires
split_at-requires c =
    let text = c.args.text.now in
    let t = token c.args.token.now in
    let ts = c.requires.first.1 in
    let going = c.requires.first.2 in
    let here = first_token text t ts going.pieces c.requires.no_blank c.requires.no_comment going.cut going.tokens in
    within_text text t ts going.pieces here c.token_length.result (c.token_length.ensures here.piece here.rest here.begins here.token)

pub token-requires-clause-some : goal.token-requires-clause-some
token-requires-clause-some c =
    let text = c.args.text.now in
    let t = token c.args.token.now in
    let ts = c.requires.first.1 in
    let going = c.requires.first.2 in
    let here = first_token text t ts going.pieces c.requires.no_blank c.requires.no_comment going.cut going.tokens in
    let long = c.token_length.ensures here.piece here.rest here.begins here.token in
    let front = c.split_at.ensures.front ∙ letters_taken text t ts going.pieces here c.token_length.result long in
    omega (arith, ap length front, some_letters here.piece here.rest t here.begins.fits here.token)

pub returns-clause-passed : goal.returns-clause-passed
returns-clause-passed c whole ts going =
    let text = c.args.text.now in
    let t = token c.args.token.now in
    let old = c.args.writer.now in
    let new = c.token.new.self in
    let here = first_token text t ts going.pieces c.requires.no_blank c.requires.no_comment going.cut going.tokens in
    let long = c.token_length.ensures here.piece here.rest here.begins here.token in
    let front = c.split_at.ensures.front ∙ letters_taken text t ts going.pieces here c.token_length.result long in
    let back = c.split_at.ensures.back ∙ rest_left text t ts going.pieces here c.token_length.result long in
    subst (GoesOn whole ts new) (sym back)
    (token_passed whole text t ts old new going here
    (subst (λ (l : List ℕ). Adds old new (token_written (spot old.spot) t l) (behind_token (spot old.spot) t)) front
    c.in_ok-token.ensures.written))

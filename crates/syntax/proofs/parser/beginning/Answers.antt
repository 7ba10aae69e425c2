use Rattle.std.proofs.Common.{◌+◌, take, drop}
use Rattle.syntax.specs.Refusals.{at_token}
use Rattle.syntax.specs.Token.{token, plain}
use Rattle.syntax.proofs.Shallow.{parted_at}
use Rattle.syntax.proofs.parser.beginning.Goals as goal

pub returns-in-Some : goal.returns-in-Some
returns-in-Some c =
    let tokens = c.args.tokens.now in
    let i = c.saturating_sub.result in
    let here = c.in-Some.token.now in
    let found = c.in-Some.ensures.lookup in
    let stands = c.requires (take i tokens) here (drop (i + 1) tokens) (parted_at tokens i here found.3.0 found.1) in
    at_token (plain (take i tokens)) (token here.token) stands

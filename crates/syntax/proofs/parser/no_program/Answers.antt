use Rattle.syntax.specs.Token.{plain}
use Rattle.syntax.proofs.parser.no_program.Goals as goal

pub returns-in-Unexpected-clause-told : goal.returns-in-Unexpected-clause-told
returns-in-Unexpected-clause-told c = record {
  at = c.beginning.result;
  fact = record {
    tokens = plain c.args.tokens.now;
    read = c.requires.read;
    shallow = c.requires.shallow;
    no_program = c.requires.refused (λ memory. cc (c.in-Unexpected.is, memory));
    begins = c.beginning.ensures;
  };
  there = c.of.ensures;
}

use Rattle.std.proofs.Common.{[], ◌∷◌, ◌++◌, ◌||◌, ◌∙◌, ap, refl, sym, arith}
use Rattle.std.specs.Char.{is_ascii_digit}
use Rattle.std.proofs.lemmas.List.Sums.{prefix_len-le-length}
use Rattle.syntax.specs.Lexical.{begins_name, is_in_name, NumberPiece}
use Rattle.syntax.specs.Token.{NumberToken}
use Rattle.syntax.proofs.LexicalLemmas.{cut_at, passes_at, stops_at, begins_at}
use Rattle.syntax.proofs.lexer.token.Goals as goal

pub split_at-requires : goal.split_at-requires
split_at-requires c = omega (arith, c.name_length.ensures, prefix_len-le-length is_in_name c.args.chars.now)

pub split_at-requires-then-is_ascii_digit : goal.split_at-requires-then-is_ascii_digit
split_at-requires-then-is_ascii_digit c = omega (arith, c.digits_length.ensures, prefix_len-le-length is_ascii_digit c.args.chars.now)

pub word_or_name-requires-clause-begins : goal.word_or_name-requires-clause-begins
word_or_name-requires-clause-begins c =
    let begins = sym c.begins_name.ensures ∙ c.if-begins_name.true in
    let in_name = ap (λ b. b || is_ascii_digit c.in-Some.first.now) begins in
    begins_at is_in_name begins_name _ _ c.args.chars.now _ _ c.in-Some.ensures.cases.0 c.name_length.ensures
    c.split_at.ensures.front in_name begins

pub word_or_name-requires-clause-in_name : goal.word_or_name-requires-clause-in_name
word_or_name-requires-clause-in_name c = passes_at is_in_name _ c.args.chars.now _ c.name_length.ensures c.split_at.ensures.front

pub returns-then-begins_name-clause-found : goal.returns-then-begins_name-clause-found
returns-then-begins_name-clause-found c =
    let split = c.split_at.ensures in
    let word = c.in_ok-word_or_name.ensures in
    record {
      piece = word.piece;
      begins = record {
        spelled = cut_at _ c.args.chars.now _ _ split.front split.back ∙ ap (λ l. l ++ c.split_at.result.1.now) word.spelled;
        fits = word.stands _ (stops_at is_in_name _ c.args.chars.now _ c.name_length.ensures split.back);
      };
      tokens = word.tokens;
    }

pub returns-then-is_ascii_digit-clause-found : goal.returns-then-is_ascii_digit-clause-found
returns-then-is_ascii_digit-clause-found c =
    let split = c.split_at-then-is_ascii_digit.ensures in
    let digits = c.split_at-then-is_ascii_digit.result.0.now in
    let digit = sym c.is_ascii_digit.ensures.value ∙ c.if-is_ascii_digit.true in
    record {
      piece = NumberPiece digits;
      begins = record {
        spelled = cut_at _ c.args.chars.now _ _ split.front split.back;
        fits = record {
          begins = begins_at is_ascii_digit is_ascii_digit _ _ c.args.chars.now _ _ c.in-Some.ensures.cases.0
              c.digits_length.ensures split.front digit digit;
          digits = passes_at is_ascii_digit _ c.args.chars.now _ c.digits_length.ensures split.front;
          ends = stops_at is_ascii_digit _ c.args.chars.now _ c.digits_length.ensures split.back;
          fits = omega (arith, c.in-Some-value_of.ensures.found, c.in-Some-value_of.ensures.small);
        };
      };
      tokens = ap (λ n. NumberToken n ∷ []) (sym c.in-Some-value_of.ensures.found);
    }

pub returns-in_default-value_of-clause-absent : goal.returns-in_default-value_of-clause-absent
returns-in_default-value_of-clause-absent c =
    let split = c.split_at-then-is_ascii_digit.ensures in
    let digit = sym c.is_ascii_digit.ensures.value ∙ c.if-is_ascii_digit.true in
    let all = passes_at is_ascii_digit _ c.args.chars.now _ c.digits_length.ensures split.front in (
      refl,
      record {
        digits = c.split_at-then-is_ascii_digit.result.0.now;
        behind = c.split_at-then-is_ascii_digit.result.1.now;
        spelled = cut_at _ c.args.chars.now _ _ split.front split.back;
        begins = begins_at is_ascii_digit is_ascii_digit _ _ c.args.chars.now _ _ c.in-Some.ensures.cases.0
            c.digits_length.ensures split.front digit digit;
        all_digits = all;
        ends = stops_at is_ascii_digit _ c.args.chars.now _ c.digits_length.ensures split.back;
        over = c.in_default-value_of.ensures.large all;
      },
    )

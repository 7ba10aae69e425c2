-- A path that is parsed turn by turn.
use Rattle.std.proofs.Common.{◌≡◌, ℕ, suc, ◌^◌, ◌<◌, ◌≤◌, List, [], ◌∷◌, ◌++◌, length, Option, Some, None, Result, Ok}
use Rattle.std.proofs.Common.{refl, ap, sym, subst, ◌∙◌, arith, append_assoc, length-append}
use Rattle.std.specs.Fmt.{decimal}
use Rattle.std.specs.List.{All}
use Rattle.std.specs.Str.Parse.{ParsesUnsigned}
use Rattle.std.proofs.lemmas.Fmt.{parse-decimal}
use Rattle.std.proofs.lemmas.List.Elements.{All-nil, All-head, All-push, All-tail}
use Rattle.types.specs.Names.{path_text}
use Rattle.trace_text.specs.Spelled.{IsCut, IsPath, IsTurn}
use Rattle.trace_text.proofs.Cuts.{left_text, root_is, turn_is}
use Rattle.trace_text.proofs.Marks.{turns_text}

-- remaining turns of a path, and the rest of its text
pub record IsLeft (turns : List ℕ) (rest : Option (List ℕ)) (p : List ℕ) : Type 0 where
  pub left : List ℕ
  pub parts : p ≡ turns ++ left
  pub text : rest ≡ left_text left

-- these turns were parsed from the path that a text spells, if it spells one
pub record ReadSoFar (turns : List ℕ) (rest : Option (List ℕ)) (text : List ℕ) : Type 0 where
  pub few : length turns ≤ 1000
  pub fit : All IsTurn turns
  pub spelled : (p : List ℕ) → IsPath p → text ≡ path_text p → IsLeft turns rest p

pub read_start : (root : List ℕ) (rest : Option (List ℕ)) (text : List ℕ) → IsCut root rest text → ReadSoFar [] rest text
read_start root rest text cut = record {
  few = omega arith;
  fit = All-nil IsTurn;
  spelled = λ p h same. record { left = p; parts = refl; text = (root_is root rest text p same cut).1 };
}

-- the next turn of a path
pub record Next {E : Type 0} (turns : List ℕ) (behind : Option (List ℕ)) (r : Result ℕ E) (p : List ℕ) : Type 0 where
  pub turn : ℕ
  pub more : List ℕ
  pub parsed : r ≡ Ok turn
  pub some : 1 ≤ turn
  pub few : length turns < 1000
  pub parts : p ≡ turns ++ (turn ∷ more)
  pub text : behind ≡ left_text more

behind_fit : (turns left : List ℕ) → All IsTurn (turns ++ left) → All IsTurn left
behind_fit [] left h = h
behind_fit (t ∷ ts) left h = behind_fit ts left (All-tail IsTurn t (ts ++ left) h)

next_of : {E : Type 0} (turns : List ℕ) (more piece : List ℕ) (behind : Option (List ℕ)) (r : Result ℕ E) (p left : List ℕ)
    → IsPath p → p ≡ turns ++ left → Some more ≡ left_text left → IsCut piece behind more → ParsesUnsigned 32 10 piece r
    → Next turns behind r p
next_of turns more piece behind r p [] h parts text cut parses = absurd cc
next_of turns more piece behind r p (n ∷ ns) h parts text cut parses =
    let is : more ≡ decimal n ++ turns_text ns = cc in
    let pieces = turn_is piece behind more n ns is cut in
    let fits : IsTurn n = All-head IsTurn n ns (behind_fit turns (n ∷ ns) (subst (All IsTurn) parts h.turns_fit)) in
    let word : n < 2 ^ 32 = fits.1 in
    let number : n < 2 ^ 64 = omega arith in
    let long = ap length parts ∙ length-append turns (n ∷ ns) in
    record {
      turn = n;
      more = ns;
      parsed = parse-decimal 32 n piece r word number pieces.0 parses;
      some = fits.0;
      few = omega (arith, long, h.few);
      parts = parts;
      text = pieces.1;
    }

pub next_turn : {E : Type 0} (turns more piece text : List ℕ) (behind : Option (List ℕ)) (r : Result ℕ E)
    → ReadSoFar turns (Some more) text → IsCut piece behind more → ParsesUnsigned 32 10 piece r
    → (p : List ℕ) → IsPath p → text ≡ path_text p → Next turns behind r p
next_turn turns more piece text behind r so_far cut parses p h same =
    let l = so_far.spelled p h same in
    next_of turns more piece behind r p l.left h l.parts l.text cut parses

pub read_more : {E : Type 0} (turns more piece text : List ℕ) (behind : Option (List ℕ)) (r : Result ℕ E) (turn : ℕ)
    → ReadSoFar turns (Some more) text → IsCut piece behind more → ParsesUnsigned 32 10 piece r → r ≡ Ok turn
    → IsTurn turn → length turns < 1000 → ReadSoFar (turns ++ (turn ∷ [])) behind text
read_more turns more piece text behind r turn so_far cut parses parsed fits few =
    let long = length-append turns (turn ∷ []) in
    record {
      few = omega (arith, long);
      fit = All-push IsTurn turns turn so_far.fit fits;
      spelled = λ p h same.
          let n = next_turn turns more piece text behind r so_far cut parses p h same in
          let both : Ok turn ≡ Ok n.turn = sym parsed ∙ n.parsed in
          let one : n.turn ≡ turn = cc in
          record {
            left = n.more;
            parts = n.parts ∙ ap (λ (t : ℕ). turns ++ (t ∷ n.more)) one ∙ sym (append_assoc turns (turn ∷ []) n.more);
            text = n.text;
          };
    }

-- the length of the rest
abbrev pub left_length : Option (List ℕ) → ℕ
left_length None = 0
left_length (Some rest) = suc (length rest)

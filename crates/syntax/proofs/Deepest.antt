-- The first position at which too many brackets of a text are open is unique.
use Rattle.std.proofs.Common.{◌≡◌, ℕ, ◌<◌, ◌⊎◌, inl, inr, ⊎_elim, List, [], ◌∷◌, ◌++◌, length, drop, refl, ap, sym, ◌∙◌, subst, arith}
use Rattle.std.specs.List.{flat_map}
use Rattle.std.proofs.lemmas.List.{length-drop}
use Rattle.std.proofs.lemmas.Grind.{flat_map-append}
use Rattle.syntax.specs.Brackets.{AreShallow}
use Rattle.syntax.specs.Lexical.{Piece, token_of, Begins, AreCut}
use Rattle.syntax.specs.Refusals.{IsTooDeep}
use Rattle.syntax.proofs.Pieces.{one_piece, piece_is_some}
use Rattle.syntax.proofs.Shallow.{shallow_up_to}

-- after pieces up to this rest, others continue with what comes first in the rest
record GoesOn (rest : List ℕ) (ps qs : List Piece) : Type 0 where
  next : Piece
  more : List Piece
  behind : List ℕ
  begins : Begins rest next behind
  whole : qs ≡ ps ++ next ∷ more

one_further : (rest : List ℕ) (p q : Piece) (ps qs : List Piece) → p ≡ q → GoesOn rest ps qs → GoesOn rest (p ∷ ps) (q ∷ qs)
one_further rest p q ps qs same on = record {
  next = on.next;
  more = on.more;
  behind = on.behind;
  begins = on.begins;
  whole = ap (λ x. x ∷ qs) (sym same) ∙ ap (λ l. p ∷ l) on.whole;
}

-- of two cuts of a text, one continues after the other, or both end at the same position
cuts_compare : (text : List ℕ) (ps qs : List Piece) (r s : List ℕ) → AreCut text ps r → AreCut text qs s
    → GoesOn r ps qs ⊎ (GoesOn s qs ps ⊎ (r ≡ s))
cuts_compare text [] [] r s c d = inr (inr (sym c ∙ d))
cuts_compare text [] (q ∷ qs) r s c d =
    inl (record { next = q; more = qs; behind = d.0; begins = subst (λ t. Begins t q d.0) c d.1; whole = refl })
cuts_compare text (p ∷ ps) [] r s c d =
    inr (inl (record { next = p; more = ps; behind = c.0; begins = subst (λ t. Begins t p c.0) d c.1; whole = refl }))
cuts_compare text (p ∷ ps) (q ∷ qs) r s c d =
    let same = one_piece text p q c.0 d.0 c.1 d.1 in
    ⊎_elim
    (λ on. inl (one_further r p q ps qs same.0 on))
    (⊎_elim (λ on. inr (inl (one_further s q p qs ps (sym same.0) on))) (λ e. inr (inr e)))
    (cuts_compare c.0 ps qs r s c.2 (subst (λ t. AreCut t qs s) (sym same.1) d.2))

-- if too many brackets are open at a token, too many are open after it, too
no_deeper : (text : List ℕ) (at other : ℕ) (here : IsTooDeep text at) (there : IsTooDeep text other)
    → GoesOn (drop at text) here.stands.read.pieces there.stands.read.pieces → ⊥
no_deeper text at other here there on =
    let read = here.stands.stands in
    let next = (one_piece (drop at text) on.next read.piece on.behind here.stands.behind on.begins read.begins).0 in
    let token : token_of on.next ≡ here.last ∷ [] = ap token_of next ∙ read.tokens in
    let behind = flat_map token_of on.more in
    let pieces = here.stands.read.pieces in
    let parted = ap (flat_map token_of) on.whole ∙ flat_map-append token_of pieces (on.next ∷ on.more) in
    let front = ap (λ l. l ++ (token_of on.next ++ behind)) here.stands.read.tokens in
    let before = sym there.stands.read.tokens ∙ parted ∙ front ∙ ap (λ l. here.before ++ (l ++ behind)) token in
    here.deep (shallow_up_to 0 here.before here.last behind (subst (AreShallow 0) before there.shallow))

some_left : (l : List ℕ) → (l ≡ [] → ⊥) → 0 < length l
some_left [] some = absurd (some refl)
some_left (c ∷ cs) some = omega arith

deep_within : (text : List ℕ) (at : ℕ) → IsTooDeep text at → at < length text
deep_within text at deep =
    let read = deep.stands.stands in
    let some = some_left (drop at text) (λ e. piece_is_some read.piece deep.stands.behind read.begins.fits (sym read.begins.spelled ∙ e)) in
    omega (arith, some, length-drop at text)

pub one_deepest : (text : List ℕ) (at other : ℕ) → IsTooDeep text at → IsTooDeep text other → at ≡ other
one_deepest text at other here there =
    ⊎_elim
    (λ on. absurd (no_deeper text at other here there on))
    (⊎_elim
    (λ on. absurd (no_deeper text other at there here on))
    (λ e. omega (arith, deep_within text at here, deep_within text other there, ap length e, length-drop at text, length-drop other text)))
    (cuts_compare text here.stands.read.pieces there.stands.read.pieces (drop at text)
    (drop other text) here.stands.read.cut there.stands.read.cut)

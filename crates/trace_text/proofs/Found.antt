-- What a line is, and which line a text starts with.
use Rattle.std.proofs.Common.{◌≡◌, ◌≢◌, ℕ, ◌+◌, ◌<◌, List, [], ◌∷◌, ◌++◌, length, Option, Some, None, map}
use Rattle.std.proofs.Common.{refl, ap, sym, subst, ◌∙◌, arith, append_assoc, append-nil, length-append, codes, inr}
use Rattle.std.specs.List.{All, flat_map}
use Rattle.std.proofs.lemmas.List.{append_cancel_right, length-map, map-append}
use Rattle.std.proofs.lemmas.List.Concat.{flat_map-append}
use Rattle.std.proofs.lemmas.List.Elements.{All-push}
use Rattle.std.proofs.lemmas.Slice.Eq.{bytes_eq-Decides}
use Rattle.std.specs.Str.{bytes_eq}
use Rattle.std.specs.Prelude.{Bool, true, false, IsTrue, IfNone}
use Rattle.std.specs.Bool.{then_some}
use Rattle.events.specs.Events.{Event, event}
use Rattle.events.specs.declared.event.Event.{Event as rEvent}
use Rattle.serde_json.specs.Data.{Data}
use Rattle.serde_json.specs.Written.{compact_text}
use Rattle.trace_text.specs.Headers.{TraceHeader, IsHeader}
use Rattle.trace_text.specs.Lines.{line, event_line, event_object, header_line, header_object}
use Rattle.trace_text.specs.Reading.{BeginsWithEvent, BeginsWithHeader, IsBadEvent, IsEventRefusal, IsRefusal}
use Rattle.trace_text.specs.declared.error.TraceError.{TraceError}
use Rattle.trace_text.specs.declared.error.TraceError.TheVariants.{NotALine, NoMemory}
use Rattle.trace_text.specs.Spelled.{IsCutAt, IsSpelled, Lacks}
use Rattle.trace_text.specs.declared.format.Format.{Format}
use Rattle.trace_text.proofs.Cuts.{not_lacking, one_cut}
use Rattle.trace_text.proofs.NoFeeds.{Lacks-event, Lacks-header}

-- ---- one line
-- a line without its line feed is its object's text
body_is : (text : List ℕ) (d : Data) → text ++ codes "\n" ≡ line d → text ≡ compact_text d
unfolding line
body_is text d same = append_cancel_right text (compact_text d) (codes "\n") same

-- ---- the first line of a text
pub line_then : (d : Data) (behind : List ℕ) → line d ++ behind ≡ compact_text d ++ (10 ∷ behind)
unfolding line
line_then d behind = append_assoc (compact_text d) (codes "\n") behind

line_is : (text : List ℕ) (d : Data) → text ≡ compact_text d → text ++ codes "\n" ≡ line d
unfolding line
line_is text d same = ap (λ (l : List ℕ). l ++ codes "\n") same

first_line : (text before rest behind : List ℕ) (d : Data) → Lacks 10 (compact_text d) → text ≡ line d ++ behind
    → IsCutAt 10 before rest text → before ++ codes "\n" ≡ line d
first_line text before rest behind d lacks same cut =
    let both = one_cut 10 before rest (compact_text d) behind cut.first lacks (sym cut.parts ∙ same ∙ line_then d behind) in
    line_is before d both.0

-- a text without a line feed doesn't start with a line
pub no_line : (text behind : List ℕ) (d : Data) → text ≡ line d ++ behind → Lacks 10 text → ⊥
no_line text behind d same lacks =
    not_lacking 10 (compact_text d) behind (subst (Lacks 10) (same ∙ line_then d behind) lacks)

-- a text whose first line is wrong starts neither with a header's line nor with an event's
pub no_header_first : (text before rest : List ℕ) → IsCutAt 10 before rest text
    → ((h : TraceHeader) → IsHeader h → before ++ codes "\n" ≡ header_line h → ⊥) → BeginsWithHeader text → ⊥
no_header_first text before rest cut none b =
    none b.header b.fits
    (first_line text before rest b.behind (header_object b.header) (Lacks-header b.header) b.parts cut)

pub no_event_first : {f : Format} (text before rest : List ℕ) → IsCutAt 10 before rest text
    → ((e : Event) → IsSpelled f e → before ++ codes "\n" ≡ event_line e → ⊥) → BeginsWithEvent f text → ⊥
no_event_first text before rest cut none b =
    none b.event b.spelled
    (first_line text before rest b.behind (event_object b.event) (Lacks-event b.event) b.parts cut)

-- ---- lines one after the other
-- the lines of events precede what is left of a text
pub record Front (f : Format) (text rest : List ℕ) (es : List Event) : Type 0 where
  pub spelled : All (IsSpelled f) es
  pub parts : text ≡ flat_map event_line es ++ rest

pub cut_line : (text before rest : List ℕ) → IsCutAt 10 before rest text → text ≡ (before ++ codes "\n") ++ rest
cut_line text before rest cut = cut.parts ∙ sym (append_assoc before (codes "\n") rest)

-- with one line more
pub front_more : {f : Format} (text rest before behind : List ℕ) (es : List Event) (e : Event) → Front f text rest es
    → IsCutAt 10 before behind rest → IsSpelled f e → before ++ codes "\n" ≡ event_line e
    → Front f text behind (es ++ e ∷ [])
front_more {f} text rest before behind es e front cut spelled same =
    let lines = flat_map event_line es in
    let one : flat_map event_line (e ∷ []) ≡ event_line e = append-nil (event_line e) in
    record {
      spelled = All-push (IsSpelled f) es e front.spelled spelled;
      parts =
          front.parts
          ∙ ap (λ (l : List ℕ). lines ++ l) (cut_line rest before behind cut ∙ ap (λ (l : List ℕ). l ++ behind) (same ∙ sym one))
          ∙ sym (append_assoc lines (flat_map event_line (e ∷ [])) behind)
          ∙ ap (λ (l : List ℕ). l ++ behind) (sym (flat_map-append event_line es (e ∷ [])));
    }

-- events in Rust, of which one is pushed
pub front_pushed : {f : Format} (text rest before behind : List ℕ) (es pushed : List rEvent) (e : rEvent)
    → Front f text rest (map event es) → IsCutAt 10 before behind rest → IsSpelled f (event e)
    → before ++ codes "\n" ≡ event_line (event e) → pushed ≡ es ++ e ∷ [] → Front f text behind (map event pushed)
front_pushed {f} text rest before behind es pushed e front cut spelled same is =
    subst (Front f text behind) (sym (ap (λ (l : List rEvent). map event l) is ∙ map-append event es (e ∷ [])))
    (front_more text rest before behind (map event es) (event e) front cut spelled same)

-- something is left that doesn't start with an event's line
pub front_bad : {f : Format} (text rest : List ℕ) (es : List rEvent) → Front f text rest (map event es) → rest ≢ []
    → (BeginsWithEvent f rest → ⊥) → IsBadEvent f (length es + 2) text
front_bad text rest es front some bad =
    let told = map event es in
    record {
      events = told;
      before = flat_map event_line told;
      rest = rest;
      good = record { spelled = front.spelled; lines = refl };
      parts = front.parts;
      number = ap (λ (n : ℕ). n + 2) (sym (length-map es event));
      some = some;
      bad = bad;
    }

pub cut_some : (text before behind : List ℕ) → IsCutAt 10 before behind text → text ≢ []
cut_some text before behind cut none =
    let total = ap length (sym none ∙ cut.parts) ∙ length-append before (10 ∷ behind) in
    absurd (omega (arith, total))

pub long_some : (text : List ℕ) → 0 < length text → text ≢ []
long_some text long none = absurd (omega (arith, ap length none))

-- what is wrong after a header's line is wrong in the whole text
pub refused_behind : (text rest : List ℕ) (h : TraceHeader) (e : TraceError) → IsHeader h → text ≡ header_line h ++ rest
    → IsEventRefusal h.format rest e → IsRefusal text e
refused_behind text rest h (NotALine n) fits parts bad =
    inr (record { first = record { header = h; behind = rest; fits = fits; parts = parts }; later = bad })
refused_behind text rest h NoMemory fits parts bad = bad

-- ---- a line that is formatted again
-- the header or event that a text represents, if it is the line of any
module _ {A : Type 0} (Fits : A → Type 0) (object : A → Data) (text : List ℕ) (o : Option A)
    (told : (a : A) → Fits a → text ≡ compact_text (object a) → o ≡ Some a) where
  -- if a line is the text of something, that is what was found in it
  told_by_line : (a : A) → Fits a → text ++ codes "\n" ≡ line (object a) → o ≡ Some a
  told_by_line a h same = told a h (body_is text (object a) same)

  -- a line in which nothing was found
  pub not_told : o ≡ None → (a : A) → Fits a → text ++ codes "\n" ≡ line (object a) → ⊥
  not_told none a h same = let one : o ≡ Some a = told_by_line a h same in cc

  -- a line that isn't the text of what was found in it
  pub misspelled : (found : A) (b : Bool) → o ≡ Some found
      → (text ++ codes "\n" ≡ line (object found) → IsTrue b) → b ≡ false
      → (a : A) → Fits a → text ++ codes "\n" ≡ line (object a) → ⊥
  misspelled found b is decides differs a h same =
      let one : o ≡ Some a = told_by_line a h same in
      let both : a ≡ found = cc in
      let yes : b ≡ true = decides (same ∙ ap (λ (x : A). line (object x)) both) in cc

-- what is dropped if a test fails
pub if_let_go : {A : Type 0} {P : Type 0} (same : Bool) (x : A) (o : Option A) → o ≡ then_some same x
    → (same ≡ false → P) → IfNone o P
if_let_go {A} {P} true x o is holds = subst (λ (v : Option A). IfNone v P) (sym is) tt
if_let_go {A} {P} false x o is holds = subst (λ (v : Option A). IfNone v P) (sym is) (holds refl)

-- whether a line with its line feed equals a text that ends with one
pub line_decided : (front text again : List ℕ) (r : Bool) → again ≡ front ++ (10 ∷ []) → r ≡ bytes_eq front text
    → (IsTrue r → text ++ codes "\n" ≡ again) × (text ++ codes "\n" ≡ again → IsTrue r)
line_decided front text again r is equal =
    let d = bytes_eq-Decides front text in (
      (λ t. ap (λ (l : List ℕ). l ++ codes "\n") (sym (d.0 (sym equal ∙ t))) ∙ sym is),
      (λ same. equal ∙ d.1 (append_cancel_right front text (codes "\n") (sym is ∙ sym same))),
    )

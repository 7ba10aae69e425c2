-- Arguments with an order are parsed as that order.
use Rattle.std.proofs.Common.{◌≡◌, ℕ, ◌<◌, List, [], ◌∷◌, Option, Some, None, Bor, arith, length, map, refl, sym, ap, ◌∙◌, subst, codes}
use Rattle.std.specs.Prelude.{Bool, true, false, option_map}
use Rattle.std.specs.Str.{bytes_eq}
use Rattle.std.specs.String.{string_bytes}
use Rattle.std.proofs.Common.{true≢false, Global, String}
use Rattle.std.proofs.lemmas.Slice.Eq.{bytes_eq-Decides}
use Rattle.command_line.specs.Requests.{Asked, Asks}
use Rattle.command_words.specs.Orders.{Order, AsText, AsObject, Times, TimesAsObject, Tests, TestsEach, TestsAsObject, Each}
use Rattle.command_words.specs.Orders.{Walks, Explores, Inspects, Orders}
use Rattle.command_words.specs.Orders.{AsksForObject, AsksToTest, AsksToTimeAsObject, IsTested, IsTimed}
use Rattle.command_words.specs.Orders.{subject_of}
use Rattle.command_words.specs.Reading.{taken}
use Rattle.command_words.specs.declared.order.Subject.{Subject}
use Rattle.command_words.proofs.Reading.{Lacks, bench_asks_nothing, some_is_none, test_asks_nothing, asks_no_form}

-- ---- lists and options

head_is : (x y : List ℕ) (xs ys : List (List ℕ)) → x ∷ xs ≡ y ∷ ys → x ≡ y
head_is x y xs ys is = cc

tail_is : (x y : List ℕ) (xs ys : List (List ℕ)) → x ∷ xs ≡ y ∷ ys → xs ≡ ys
tail_is x y xs ys is = cc

none_begins : (y : List ℕ) (ys : List (List ℕ)) → (let xs : List (List ℕ) = [] in xs) ≡ y ∷ ys → ⊥
none_begins y ys is = cc

test_is_bench : codes "test" ≡ codes "bench" → ⊥
test_is_bench is = cc

no_subject_is : (x : Subject) → (let o : Option Subject = None in o) ≡ Some x → ⊥
no_subject_is x is = cc

pub subject_is : (x y : Subject) → Some x ≡ Some y → x ≡ y
subject_is x y is = cc

-- an argument that was found to equal another text
pub is_word : (b : Bool) (word other : List ℕ) → b ≡ bytes_eq word other → b ≡ true → word ≡ other
is_word b word other of is = (bytes_eq-Decides word other).0 (sym of ∙ is)

pub is_not_word : (b : Bool) (word other : List ℕ) → b ≡ bytes_eq word other → b ≡ false → word ≡ other → ⊥
is_not_word b word other of is same = true≢false (sym ((bytes_eq-Decides word other).1 same) ∙ sym of ∙ is)

-- ---- one object

pub no_subject : (x : Subject) (r a : Asked) → r ≡ a → (let o : Option Subject = None in o) ≡ subject_of r.action
    → subject_of a.action ≡ Some x → ⊥
no_subject x r a same none told = no_subject_is x (none ∙ ap (λ (b : Asked). subject_of b.action) same ∙ told)

pub object_is : (x y : Subject) (r a : Asked) → r ≡ a → Some y ≡ subject_of r.action → subject_of a.action ≡ Some x
    → AsObject y r ≡ AsObject x a
object_is x y r a same is told =
    ap (λ (z : Subject). AsObject z r) (subject_is y x (is ∙ ap (λ (b : Asked). subject_of b.action) same ∙ told))
    ∙ ap (AsObject x) same

-- an explicit format doesn't occur in arguments with a request
pub form_said : (command : List ℕ) (behind : List (List ℕ)) (a : Asked) (t : Option (Bor (List ℕ))) (form : Bor (List ℕ))
    → option_map (λ v. v.now) t ≡ (taken (codes "--format") behind).0 → t ≡ Some form → Asks (command ∷ behind) a → ⊥
form_said command behind a t form said is asks =
    let lacks : Lacks (codes "--format") behind = asks_no_form (command ∷ behind) a asks in
    some_is_none form.now
    (sym (ap (option_map (λ (v : Bor (List ℕ)). v.now)) is) ∙ said
    ∙ ap (λ (p : Option (List ℕ) × List (List ℕ)). p.0) lacks)

-- the request after the format
pub object_asked : (command : List ℕ) (behind rest : List (List ℕ)) (x : Subject) (a : Asked)
    → rest ≡ (taken (codes "--format") behind).1 → (p : AsksForObject (command ∷ behind) x a) → Asks (command ∷ rest) a
object_asked command behind rest x a is p =
    let first = head_is command p.command behind (codes "--format" ∷ codes "json" ∷ p.behind) p.words_are in
    let others = tail_is command p.command behind (codes "--format" ∷ codes "json" ∷ p.behind) p.words_are in
    let left : rest ≡ p.behind = is ∙ ap (λ (ws : List (List ℕ)). (taken (codes "--format") ws).1) others in
    subst (λ (ws : List (List ℕ)). Asks (command ∷ ws) a) (sym left)
    (subst (λ (c : List ℕ). Asks (c ∷ p.behind) a) (sym first) p.asks)

-- ---- durations as one object

-- the format occurs in arguments that request them so
pub form_unsaid : (behind : List (List ℕ)) (a : Asked) (t : Option (Bor (List ℕ)))
    → option_map (λ v. v.now) t ≡ (taken (codes "--format") behind).0 → t ≡ None
    → AsksToTimeAsObject (codes "bench" ∷ behind) a → ⊥
form_unsaid behind a t said none p =
    let others = tail_is (codes "bench") (codes "bench") behind (codes "--format" ∷ codes "json" ∷ p.behind) p.words_are in
    some_is_none (codes "json")
    (sym (ap (λ (ws : List (List ℕ)). (taken (codes "--format") ws).0) others) ∙ sym said
    ∙ ap (option_map (λ (v : Bor (List ℕ)). v.now)) none)

-- the request after the format
pub times_asked : (behind rest : List (List ℕ)) (a : Asked) → rest ≡ (taken (codes "--format") behind).1
    → (p : AsksToTimeAsObject (codes "bench" ∷ behind) a) → Asks (codes "run" ∷ rest) a
times_asked behind rest a is p =
    let others = tail_is (codes "bench") (codes "bench") behind (codes "--format" ∷ codes "json" ∷ p.behind) p.words_are in
    let left : rest ≡ p.behind = is ∙ ap (λ (ws : List (List ℕ)). (taken (codes "--format") ws).1) others in
    subst (λ (ws : List (List ℕ)). Asks (codes "run" ∷ ws) a) (sym left) p.asks

-- ---- tests

-- the request of a test
pub run_asked : (behind : List (List ℕ)) (a : Asked) → (p : AsksToTest (codes "test" ∷ behind) a) → Asks (codes "run" ∷ behind) a
run_asked behind a p =
    subst (λ (ws : List (List ℕ)). Asks (codes "run" ∷ ws) a)
    (sym (tail_is (codes "test") (codes "test") behind p.behind p.words_are)) p.asks

-- ---- no arguments

-- the order is the request of these arguments, answered as text
pub record IsAsked (words : List (List ℕ)) (o : Order) : Type 0 where
  pub a : Asked
  pub is : o ≡ AsText a
  pub asks : Asks words a

pub none_asked : (o : Order) → Orders [] o → IsAsked [] o
none_asked (AsText a) asks = record { a = a; is = refl; asks = asks }
none_asked (AsObject x a) p = absurd (none_begins p.command (codes "--format" ∷ codes "json" ∷ p.behind) p.words_are)
none_asked (Times a) p = absurd (none_begins (codes "bench") p.behind p.words_are)
none_asked (TimesAsObject a) p = absurd (none_begins (codes "bench") (codes "--format" ∷ codes "json" ∷ p.behind) p.words_are)
none_asked (Tests a) p = absurd (none_begins (codes "test") p.behind p.words_are)
none_asked (TestsEach writes names s) p = absurd p
none_asked (TestsAsObject writes names s) p = absurd p
none_asked (Each x files t) p = absurd p
none_asked (Walks seed a) p = absurd p
none_asked (Explores x a) p = absurd p
none_asked (Inspects a) p = absurd p

pub no_words : (ws : List (String Global)) → length ws < 1 → map string_bytes ws ≡ []
no_words [] short = refl
no_words (w ∷ ws) short = let never : ⊥ = omega arith in absurd never

-- ---- programs that are timed, and folders

module _ (command : List ℕ) (behind : List (List ℕ)) where
  -- a command without a request orders a timing or a test
  orders_else : (P : Order → Type 0) → ((others : List (List ℕ)) (a : Asked) → Asks (command ∷ others) a → ⊥)
      → ((a : Asked) → Orders (command ∷ behind) (Times a) → P (Times a))
      → ((a : Asked) → Orders (command ∷ behind) (TimesAsObject a) → P (TimesAsObject a))
      → ((a : Asked) → Orders (command ∷ behind) (Tests a) → P (Tests a))
      → (o : Order) → Orders (command ∷ behind) o → P o
  orders_else P nothing times objects tests (AsText a) asks = absurd (nothing behind a asks)
  orders_else P nothing times objects tests (AsObject x a) p =
      let first = head_is command p.command behind (codes "--format" ∷ codes "json" ∷ p.behind) p.words_are in
      absurd (nothing p.behind a (subst (λ (c : List ℕ). Asks (c ∷ p.behind) a) (sym first) p.asks))
  orders_else P nothing times objects tests (Times a) p = times a p
  orders_else P nothing times objects tests (TimesAsObject a) p = objects a p
  orders_else P nothing times objects tests (Tests a) p = tests a p
  orders_else P nothing times objects tests (TestsEach writes names s) p = absurd p
  orders_else P nothing times objects tests (TestsAsObject writes names s) p = absurd p
  orders_else P nothing times objects tests (Each x files t) p = absurd p
  orders_else P nothing times objects tests (Walks seed a) p = absurd p
  orders_else P nothing times objects tests (Explores x a) p = absurd p
  orders_else P nothing times objects tests (Inspects a) p = absurd p

  -- `bench` orders a timing
  pub bench_times : (P : Order → Type 0) → command ≡ codes "bench"
      → ((a : Asked) → Asks (codes "run" ∷ behind) a → IsTimed a → P (Times a))
      → ((a : Asked) → AsksToTimeAsObject (codes "bench" ∷ behind) a → P (TimesAsObject a))
      → (o : Order) → Orders (command ∷ behind) o → P o
  bench_times P is times objects =
      orders_else P (λ others a asks. bench_asks_nothing others a (subst (λ (c : List ℕ). Asks (c ∷ others) a) is asks))
      (λ a p.
      let others = tail_is command (codes "bench") behind p.behind p.words_are in
      times a (subst (λ (ws : List (List ℕ)). Asks (codes "run" ∷ ws) a) (sym others) p.asks) p.timed)
      (λ a p. objects a (subst (λ (c : List ℕ). AsksToTimeAsObject (c ∷ behind) a) is p))
      (λ a p. absurd (test_is_bench (sym (head_is command (codes "test") behind p.behind p.words_are) ∙ is)))

  -- `test` orders a test
  pub test_tests : (P : Order → Type 0) → command ≡ codes "test"
      → ((a : Asked) → Asks (codes "run" ∷ behind) a → IsTested a → P (Tests a))
      → (o : Order) → Orders (command ∷ behind) o → P o
  test_tests P is tests =
      orders_else P (λ others a asks. test_asks_nothing others a (subst (λ (c : List ℕ). Asks (c ∷ others) a) is asks))
      (λ a p. absurd (test_is_bench (sym is ∙ head_is command (codes "bench") behind p.behind p.words_are)))
      (λ a p.
      let rest = codes "--format" ∷ codes "json" ∷ p.behind in
      absurd (test_is_bench (sym is ∙ head_is command (codes "bench") behind rest p.words_are)))
      (λ a p.
      let others = tail_is command (codes "test") behind p.behind p.words_are in
      tests a (subst (λ (ws : List (List ℕ)). Asks (codes "run" ∷ ws) a) (sym others) p.asks) p.tested)

  -- no other command orders a timing or a test
  pub told_only : (P : Order → Type 0) → (command ≡ codes "test" → ⊥) → (command ≡ codes "bench" → ⊥)
      → ((a : Asked) → Asks (command ∷ behind) a → P (AsText a))
      → ((x : Subject) (a : Asked) → AsksForObject (command ∷ behind) x a → P (AsObject x a))
      → (o : Order) → Orders (command ∷ behind) o → P o
  told_only P no_test no_bench text object (AsText a) asks = text a asks
  told_only P no_test no_bench text object (AsObject x a) p = object x a p
  told_only P no_test no_bench text object (Times a) p =
      absurd (no_bench (head_is command (codes "bench") behind p.behind p.words_are))
  told_only P no_test no_bench text object (TimesAsObject a) p =
      absurd (no_bench (head_is command (codes "bench") behind (codes "--format" ∷ codes "json" ∷ p.behind) p.words_are))
  told_only P no_test no_bench text object (Tests a) p =
      absurd (no_test (head_is command (codes "test") behind p.behind p.words_are))
  told_only P no_test no_bench text object (TestsEach writes names s) p = absurd p
  told_only P no_test no_bench text object (TestsAsObject writes names s) p = absurd p
  told_only P no_test no_bench text object (Each x files t) p = absurd p
  told_only P no_test no_bench text object (Walks seed a) p = absurd p
  told_only P no_test no_bench text object (Explores x a) p = absurd p
  told_only P no_test no_bench text object (Inspects a) p = absurd p

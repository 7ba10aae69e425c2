-- What the first bytes of a file say about the whole file.
use Rattle.std.proofs.Common.{◌≡◌, inl, inr, ℕ, ◌<◌, ◌≤◌, List, length, take, sym, ap, ◌∙◌, subst, refl, arith}
use Rattle.std.proofs.lemmas.Bool.{cases_lt}
use Rattle.std.proofs.lemmas.List.{length-take-le, take_all}
use Rattle.std.proofs.lemmas.Bool.Decides.{nat_tests}
use Rattle.std.specs.Prelude.{Bool, true, if◌then◌else◌, nat_lt, Option, None, Some, Ok, Err, option_map}
use Rattle.files.specs.Choices.{filed_within, nothing_read, read_of_file}
use Rattle.failures.specs.Failures.{TellsNotUtf8, TellsUnread}
use Rattle.files.specs.Held.{Bytes, Held, HasNoProgramText, IsGiven, IsTooLong, TellsNoProgram, first}
use Rattle.failures.specs.declared.failure.Failure.{Failure}
use Rattle.failures.specs.declared.failure.Failure.TheVariants.{CannotRead, NotUtf8, NoMemory}
use Rattle.files.specs.declared.file_source.FileError.{FileError}
use Rattle.files.specs.declared.file_source.FileError.TheVariants.{Failed as Unread, NoMemory as NoMemoryInFile}

-- ---- prefixes of a list

too_few : (n m k : ℕ) → n < m → k ≤ n → k ≡ m → ⊥
too_few n m k less few is = omega arith

-- a prefix that is shorter than it could be is the whole list
all_taken : (n m : ℕ) (xs : List ℕ) → n < m → length (take m xs) ≤ n → take m xs ≡ xs
all_taken n m xs less few = elim (cases_lt m (length xs)) [
  | inl more ↦ absurd (too_few n m (length (take m xs)) less few (length-take-le m xs (omega arith)))
  | inr rest ↦ take_all m xs rest
]

beyond : (n m k l : ℕ) → n < k → k ≡ m → m < l → n < l
beyond n m k l long is more = omega arith

-- a prefix is no longer than the whole list
no_longer : (n m : ℕ) (xs : List ℕ) → n < length (take m xs) → n < length xs
no_longer n m xs long = elim (cases_lt m (length xs)) [
  | inl more ↦ beyond n m (length (take m xs)) (length xs) long (length-take-le m xs (omega arith)) more
  | inr rest ↦ subst (λ (ys : List ℕ). n < length ys) (take_all m xs rest) long
]

-- ---- what is known about a file, and what was read of it

abbrev read : List ℕ → Bytes
read xs = Ok xs

abbrev refused : FileError → Bytes
refused e = Err e

same_bytes : (xs ys : List ℕ) → read xs ≡ read ys → xs ≡ ys
same_bytes xs ys is = cc

was_read : (xs : List ℕ) (e : FileError) → read xs ≡ refused e → ⊥
was_read xs e is = cc

whole_of : (known : Option Bytes) (n m : ℕ) (xs : List ℕ) → n < m → length xs ≤ n
    → IsGiven (option_map (first m) known) (Ok xs) → IsGiven known (Ok xs)
whole_of None n m xs less few given = tt
whole_of (Some (Ok whole)) n m xs less few given = λ other.
    let is : xs ≡ take m whole = same_bytes xs (take m whole) (given other) in
    ap read (is ∙ all_taken n m whole less (subst (λ (ys : List ℕ). length ys ≤ n) is few))
whole_of (Some (Err e)) n m xs less few given = λ other. absurd (was_read xs e (given other))

-- a file of which less was read than the limit has no more
pub given_whole : (held : Held) (name : List ℕ) (xs : List ℕ) → length xs ≤ 1048576
    → IsGiven (option_map (first 1048577) (held name)) (Ok xs) → IsGiven (held name) (Ok xs)
given_whole held name xs few given = whole_of (held name) 1048576 1048577 xs (omega arith) few given

-- all that a file may have, given something true of it
pub record Whole (known : Option Bytes) (Holds : List ℕ → Type 0) : Type 0 where
  pub whole : List ℕ
  pub given : IsGiven known (Ok whole)
  pub holds : Holds whole

-- what its first bytes are, and what is true of them
all_given : (known : Option Bytes) (Holds : List ℕ → Type 0) (m : ℕ) (xs : List ℕ) → Holds xs
    → ((whole : List ℕ) → xs ≡ take m whole → Holds whole) → IsGiven (option_map (first m) known) (Ok xs) → Whole known Holds
all_given None Holds m xs here more given = record { whole = xs; given = tt; holds = here }
all_given (Some (Ok whole)) Holds m xs here more given = record {
  whole = whole;
  given = λ other. refl;
  holds = more whole (same_bytes xs (take m whole) (given (was_read xs NoMemoryInFile)));
}
all_given (Some (Err e)) Holds m xs here more given = absurd (was_read xs e (given (was_read xs NoMemoryInFile)))

-- a file may have more bytes than these
has_more : (known : Option Bytes) (n m : ℕ) (xs : List ℕ) → n < length xs → IsGiven (option_map (first m) known) (Ok xs)
    → Whole known (λ ys. n < length ys)
has_more known n m xs more given =
    all_given known (λ ys. n < length ys) m xs more
    (λ whole is. no_longer n m whole (subst (λ (ys : List ℕ). n < length ys) is more)) given

-- a file of which too much was read is too long
pub too_long : (held : Held) (name : List ℕ) (xs : List ℕ) → 1048576 < length xs
    → IsGiven (option_map (first 1048577) (held name)) (Ok xs) → IsTooLong held name
too_long held name xs more given =
    let all = has_more (held name) 1048576 1048577 xs more given in
    record { bytes = all.whole; given = all.given; long = all.holds }

-- ---- choices

longer_says_none : (n : ℕ) (xs : List ℕ) → n < length xs → filed_within n xs ≡ None
longer_says_none n xs more =
    let long : nat_lt n (length xs) ≡ true = grind (arith, nat_tests) in
    ap (λ (z : Bool). if z then None else read_of_file nothing_read xs) long

-- a prefix gives the same choices as the whole, if one byte more than the limit was read
filed_begun : (n m : ℕ) (xs : List ℕ) → n < m → filed_within n (take m xs) ≡ filed_within n xs
filed_begun n m xs less = elim (cases_lt n (length (take m xs))) [
  | inl more ↦ longer_says_none n (take m xs) more ∙ sym (longer_says_none n xs (no_longer n m xs more))
  | inr few ↦ ap (filed_within n) (all_taken n m xs less few)
]

-- the whole of a file that gives the same choices as its first bytes
pub filed_whole : (known : Option Bytes) (n m : ℕ) (xs : List ℕ) → n < m → IsGiven (option_map (first m) known) (Ok xs)
    → Whole known (λ ys. filed_within n ys ≡ filed_within n xs)
filed_whole known n m xs less given =
    all_given known (λ ys. filed_within n ys ≡ filed_within n xs) m xs refl
    (λ whole is. sym (filed_begun n m whole less) ∙ ap (filed_within n) (sym is)) given

-- a file whose first bytes can't be read can't be read
pub not_read : (known : Option Bytes) (m : ℕ) → IsGiven (option_map (first m) known) (Err Unread) → IsGiven known (Err Unread)
not_read None m given = tt
not_read (Some (Ok whole)) m given = λ other. absurd (was_read (take m whole) Unread (sym (given other)))
not_read (Some (Err e)) m given = given

pub no_program_unread : (held : Held) (name : List ℕ) (f : Failure) → TellsUnread name f
    → IsGiven (option_map (first 1048577) (held name)) (Err Unread) → TellsNoProgram held name f
no_program_unread held name (CannotRead told) is given = (is, not_read (held name) 1048577 given)
no_program_unread held name NoMemory is given = tt
no_program_unread held name _ is given = absurd is

-- a file whose bytes aren't UTF-8 has no text
pub no_program_text : (held : Held) (name : List ℕ) (f : Failure) → TellsNotUtf8 name f → HasNoProgramText held name
    → TellsNoProgram held name f
no_program_text held name (NotUtf8 told) is bytes = (is, bytes)
no_program_text held name NoMemory is bytes = tt
no_program_text held name _ is bytes = absurd is

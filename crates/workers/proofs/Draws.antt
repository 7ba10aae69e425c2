-- Draws below the maximum of tasks, and what reports say together.
use Rattle.std.proofs.Common.{◌≡◌, ℕ, ◌+◌, ◌<◌, ◌≤◌, ◌==◌, cond, List, [], ◌∷◌, ◌++◌, Option, Some, None, All, length}
use Rattle.std.proofs.Common.{sym, refl, ap, subst, ◌∙◌, arith, ◌⊎◌, inl, inr, length-append}
use Rattle.std.specs.Prelude.{IfErr, IfOk, IfSome, Result}
use Rattle.std.proofs.lemmas.Grind.{flat_map-append}
use Rattle.std.proofs.lemmas.List.{append-nil}
use Rattle.std.proofs.lemmas.List.Elements.{All-nil, All-push}
use Rattle.std.proofs.lemmas.Option.{none-some}
use Rattle.std.proofs.lemmas.Result.{IfOk-weaker, IfErr-weaker}
use Rattle.std.proofs.lemmas.List.Sums.{sum_by-append, sum_by_push}
use Rattle.types.specs.Translation.{outcome}
use Rattle.types.specs.declared.outcome.Outcome.{Outcome}
use Rattle.task_run.specs.Jobs.{outcome_of}
use Rattle.task_run.specs.declared.job.Job.{Job}
use Rattle.finish_scope.specs.declared.run_error.RunError.{RunError}
use Rattle.finish_scope.specs.declared.run_error.RunError.TheVariants.{OutOfMemory, RefusedPush, RefusedThread}
use Rattle.finish_scope.specs.declared.run_error.RunError.TheVariants.{IssuedTooOften, TooManyTasks, Gather}
use Rattle.finish_scope.specs.declared.run_error.RunError.TheVariants.{NotDue, NoOwner, NoScope, NoReport, Unlogged}
use Rattle.tickets.specs.Seats.{AreAllOf, AreDrawn, AreOnly, IsSeatOf, drawn_by, drawn_of, seats_of}
use Rattle.tickets.specs.Shares.{times, one_below}
use Rattle.tickets.specs.declared.drawing.Drawn.{Drawn}
use Rattle.tickets.specs.declared.word.Seat.{Seat}
use Rattle.tickets.specs.declared.word.Tickets.{Tickets}
use Rattle.workers.specs.Causes.{HasDrawn, HasTicket, HasTicketFrom, IsReason}
use Rattle.workers.specs.Words.{IsFresh}
use Rattle.workers.specs.WorkerStates.{AreBelow, DrawsForEach, EndsRun, Fails, HasSeat, TellTogether}

-- ---- one seat

pub fresh : (t : Tickets) (tasks : ℕ) (s : Seat) → IsFresh t s → HasSeat t tasks s
fresh t tasks s is = record {
  of = is.0;
  few = let none : length (drawn_of s) ≡ 0 = ap length is.1 in omega (arith, none);
  below = λ x least. ap (times x) is.1;
}

one_more : (x n : ℕ) (xs : List ℕ) → times x (xs ++ n ∷ []) ≡ times x xs + cond (n == x) 1 0
one_more x n xs = sum_by_push (λ y. cond (y == x) 1 0) xs n

other : (x n : ℕ) → n < x → ◌≡◌ {A = ℕ} (cond (n == x) 1 0) 0
other x n less = grind (arith, less)

same : (n : ℕ) → ◌≡◌ {A = ℕ} (cond (n == n) 1 0) 1
same n = grind arith

-- a number below the maximum was drawn
pub drawn_below : (t : Tickets) (tasks : ℕ) (s s' : Seat) (n : ℕ) → HasSeat t tasks s → IsSeatOf t s'
    → drawn_of s' ≡ drawn_of s ++ n ∷ [] → length (drawn_of s) ≤ n → n < tasks → HasSeat t tasks s'
drawn_below t tasks s s' n has of drawn least less = record {
  of = of;
  few = let longer = ap length drawn ∙ length-append (drawn_of s) (n ∷ []) in omega (arith, longer, least, less);
  below =
      λ x from.
      let more = ap (times x) drawn ∙ one_more x n (drawn_of s) in
      omega (arith, more, has.below x from, other x n (omega (arith, less, from)));
}

-- the number that was drawn is among the draws
pub drawn_last : (s s' : Seat) (n : ℕ) → drawn_of s' ≡ drawn_of s ++ n ∷ [] → 1 ≤ times n (drawn_of s')
drawn_last s s' n drawn =
    let more = ap (times n) drawn ∙ one_more n n (drawn_of s) in
    omega (arith, more, same n)

-- one more was drawn
pub drawn_longer : (s s' : Seat) (n : ℕ) → drawn_of s' ≡ drawn_of s ++ n ∷ []
    → length (drawn_of s') ≡ length (drawn_of s) + 1
drawn_longer s s' n drawn = ap length drawn ∙ length-append (drawn_of s) (n ∷ [])

-- ---- draws for tasks

-- a ticket was drawn, and a task was put in
pub draws_for_one : {T : Type 0} (s s' : Seat) (xs ys : List T) (x : T)
    → length (drawn_of s') ≡ length (drawn_of s) + 1 → ys ≡ xs ++ x ∷ [] → DrawsForEach 0 s s' xs ys
draws_for_one s s' xs ys x drawn put =
    let more = ap length put ∙ length-append xs (x ∷ []) in omega (arith, drawn, more)

-- a ticket was drawn for another task before
pub draws_for_another : {T : Type 0} (s s' s'' : Seat) (xs ys : List T)
    → length (drawn_of s') ≡ length (drawn_of s) + 1 → DrawsForEach 0 s' s'' xs ys → DrawsForEach 1 s s'' xs ys
draws_for_another s s' s'' xs ys drawn each = omega (arith, drawn, each)

-- what was drawn from one moment to the next, and from that to a later one
pub draws_for_both : {T : Type 0} (s s' s'' : Seat) (xs ys zs : List T) → DrawsForEach 0 s s' xs ys
    → DrawsForEach 0 s' s'' ys zs → DrawsForEach 0 s s'' xs zs
draws_for_both s s' s'' xs ys zs first second = omega (arith, first, second)

-- tickets were drawn for asyncs in place before
pub draws_in_place : {T : Type 0} (s s' s'' : Seat) (n : ℕ) (xs ys : List T)
    → length (drawn_of s') ≡ length (drawn_of s) + n → DrawsForEach 0 s' s'' xs ys → DrawsForEach n s s'' xs ys
draws_in_place s s' s'' n xs ys drawn each = omega (arith, drawn, each)

-- tickets were drawn only for asyncs in place
pub draws_only_in_place : {T : Type 0} (s s' : Seat) (n : ℕ) (xs : List T)
    → length (drawn_of s') ≡ length (drawn_of s) + n → DrawsForEach n s s' xs xs
draws_only_in_place s s' n xs drawn = omega (arith, drawn)

-- ---- all seats

times_append : (x : ℕ) (xs ys : List ℕ) → times x (xs ++ ys) ≡ times x xs + times x ys
times_append x xs ys = sum_by-append (λ y. cond (y == x) 1 0) xs ys

pushed : (seats : List Seat) (s : Seat) → drawn_by (seats ++ s ∷ []) ≡ drawn_by seats ++ drawn_of s
pushed seats s =
    flat_map-append drawn_of seats (s ∷ []) ∙ ap (λ (l : List ℕ). drawn_by seats ++ l) (append-nil (drawn_of s))

-- what was drawn is drawn if there are more draws
drawn_more : (t : Tickets) (e : RunError) (xs ys : List ℕ) → ((n : ℕ) → 1 ≤ times n xs → 1 ≤ times n ys)
    → HasDrawn t xs e → HasDrawn t ys e
drawn_more t OutOfMemory xs ys more has = tt
drawn_more t (RefusedPush c) xs ys more has = tt
drawn_more t (RefusedThread c) xs ys more has = tt
drawn_more t (IssuedTooOften c) xs ys more has = tt
drawn_more t (TooManyTasks ticket) xs ys more has = (has.0, more ticket.number has.1)
drawn_more t (Gather u) xs ys more has = tt
drawn_more t (NotDue c) xs ys more has = tt
drawn_more t (NoOwner c) xs ys more has = tt
drawn_more t (NoScope c) xs ys more has = tt
drawn_more t (NoReport c) xs ys more has = tt
drawn_more t Unlogged xs ys more has = tt

both : (seats : List Seat) (s : Seat) (n : ℕ) → times n (drawn_by (seats ++ s ∷ [])) ≡ times n (drawn_by seats) + times n (drawn_of s)
both seats s n = ap (times n) (pushed seats s) ∙ times_append n (drawn_by seats) (drawn_of s)

-- the draws end below the maximum
pub at_most : (tasks n : ℕ) (seats : List Seat) → AreOnly n seats → AreBelow tasks (drawn_by seats) → n ≤ tasks
at_most tasks n seats only below =
    let none : one_below tasks n ≡ 0 = sym (only tasks) ∙ below tasks (omega arith) in
    grind (arith, none)

-- the ticket of an error is that of a closed word
pub ticket_from : (t : Tickets) (n : ℕ) (e : RunError) (seats : List Seat) → All (IsSeatOf t) seats → length seats ≡ seats_of t
    → AreOnly n seats → HasDrawn t (drawn_by seats) e → HasTicketFrom t e
ticket_from t n OutOfMemory seats of all only has = tt
ticket_from t n (RefusedPush c) seats of all only has = tt
ticket_from t n (RefusedThread c) seats of all only has = tt
ticket_from t n (IssuedTooOften c) seats of all only has = tt
ticket_from t n (TooManyTasks ticket) seats of all only has = record {
  word = has.0;
  seats = seats;
  of = of;
  all = all;
  n = n;
  once = only;
  among = has.1;
}
ticket_from t n (Gather u) seats of all only has = tt
ticket_from t n (NotDue c) seats of all only has = tt
ticket_from t n (NoOwner c) seats of all only has = tt
ticket_from t n (NoScope c) seats of all only has = tt
ticket_from t n (NoReport c) seats of all only has = tt
ticket_from t n Unlogged seats of all only has = tt

-- the ticket of an error was drawn by as many seats as workers
ticket_of_some : (t : Tickets) (workers : ℕ) → seats_of t ≡ workers → (e : RunError) → HasTicketFrom t e → HasTicket workers e
ticket_of_some t workers count OutOfMemory has = tt
ticket_of_some t workers count (RefusedPush c) has = tt
ticket_of_some t workers count (RefusedThread c) has = tt
ticket_of_some t workers count (IssuedTooOften c) has = tt
ticket_of_some t workers count (TooManyTasks ticket) has = record {
  seats = has.seats;
  all = has.all ∙ count;
  n = has.n;
  once = has.once;
  among = has.among;
}
ticket_of_some t workers count (Gather u) has = tt
ticket_of_some t workers count (NotDue c) has = tt
ticket_of_some t workers count (NoOwner c) has = tt
ticket_of_some t workers count (NoScope c) has = tt
ticket_of_some t workers count (NoReport c) has = tt
ticket_of_some t workers count Unlogged has = tt

pub tickets_of_some : {T : Type 0} (t : Tickets) (workers : ℕ) → seats_of t ≡ workers → (r : Result T RunError)
    → IfErr r (HasTicketFrom t) → IfErr r (HasTicket workers)
tickets_of_some t workers count r has = IfErr-weaker r (HasTicketFrom t) (HasTicket workers) (ticket_of_some t workers count) has

-- so many seats as workers drew the numbers below that of a word's draws
pub drawn_by_some : {T : Type 0} (t : Tickets) (workers : ℕ) → seats_of t ≡ workers → (tasks : T → Drawn) (r : Result T RunError)
    → IfOk r (λ x. AreAllOf t (tasks x)) → IfOk r (λ x. AreDrawn workers (tasks x).number)
drawn_by_some t workers count tasks r are =
    IfOk-weaker r (λ x. AreAllOf t (tasks x)) (λ x. AreDrawn workers (tasks x).number)
    (λ x h. record { seats = h.seats; all = h.all ∙ count; once = h.once }) are

module _ (o : Option Job) (t : Tickets) (j : Job) (tasks : ℕ) where
  abbrev pub IsTold : Option Outcome → Type 0
  IsTold x = IfSome x (λ y. outcome y ≡ outcome_of j)

  pub none_yet : TellTogether o t j tasks None None []
  none_yet = record { of = All-nil (IsSeatOf t); outcome = tt; failed = tt; below = λ is x from. refl }

  more : (e : Option RunError) (seats : List Seat) (s : Seat) → IfSome e (EndsRun o t tasks seats) → IfSome e (EndsRun o t tasks (seats ++ s ∷ []))
  more None seats s ends = tt
  more (Some e) seats s ends = record {
    own = ends.own;
    cause = ends.cause;
    drawn = drawn_more t e (drawn_by seats) (drawn_by (seats ++ s ∷ [])) (λ n has. omega (arith, has, both seats s n)) ends.drawn;
    happened = ends.happened;
  }

  last : (e : RunError) (seats : List Seat) (s : Seat) → Fails o t tasks s e → EndsRun o t tasks (seats ++ s ∷ []) e
  last e seats s fails = record {
    own = fails.own;
    cause = fails.cause;
    drawn = drawn_more t e (drawn_of s) (drawn_by (seats ++ s ∷ [])) (λ n has. omega (arith, has, both seats s n)) fails.drawn;
    happened = fails.happened;
  }

  -- a report without an error
  pub tell_ok : (x x' : Option Outcome) (e : Option RunError) (seats : List Seat) (s : Seat)
      → TellTogether o t j tasks x e seats → IsSeatOf t s → AreBelow tasks (drawn_of s) → IsTold x'
      → TellTogether o t j tasks x' e (seats ++ s ∷ [])
  tell_ok x x' e seats s was of low told = record {
    of = All-push (IsSeatOf t) seats s was.of of;
    outcome = told;
    failed = more e seats s was.failed;
    below = λ none n from. omega (arith, was.below none n from, low n from, both seats s n);
  }

  -- a report with an error, which is told, or an earlier one is
  pub tell_err : (x : Option Outcome) (e : Option RunError) (seats : List Seat) (s : Seat) (f g : RunError)
      → TellTogether o t j tasks x e seats → Fails o t tasks s f → (g ≡ f) ⊎ (e ≡ Some g)
      → TellTogether o t j tasks x (Some g) (seats ++ s ∷ [])
  tell_err x e seats s f g was fails (inl is) = record {
    of = All-push (IsSeatOf t) seats s was.of fails.of;
    outcome = was.outcome;
    failed = last g seats s (subst (Fails o t tasks s) (sym is) fails);
    below = λ none. absurd (none-some g (sym none));
  }
  tell_err x e seats s f g was fails (inr is) = record {
    of = All-push (IsSeatOf t) seats s was.of fails.of;
    outcome = was.outcome;
    failed = more (Some g) seats s (subst (λ (y : Option RunError). IfSome y (EndsRun o t tasks seats)) is was.failed);
    below = λ none. absurd (none-some g (sym none));
  }

  -- why a run has no outcome, once the word is closed
  pub reason : (n : ℕ) (e : RunError) (seats : List Seat) → All (IsSeatOf t) seats → length seats ≡ seats_of t → AreOnly n seats
      → EndsRun o t tasks seats e → IsReason o t tasks e
  reason n e seats of all only ends = record {
    cause = ends.cause;
    ticket = ticket_from t n e seats of all only ends.drawn;
    happened = ends.happened;
  }

-- If a block is plain, so are the statements in it.
use Rattle.std.proofs.Common.{ℕ}
use Rattle.types.specs.Code.{Code, Do, If, While, Split, Parts, Begun, Call, Async, Finish, Rescue, Codes, Then}
use Rattle.types.specs.Code.{Program}
use Rattle.types.specs.Run.{procedure_of}
use Rattle.effects.specs.Statements.{Block, Stands}
use Rattle.plain_code.specs.Plain.{ArePlain, Reaches}

module _ (p : Program) where
  -- if the statements of one block are also in the other
  reaches_more : {b c : Codes} → ((l : ℕ) (s : Code) → Stands b l s → Stands c l s) → Reaches p b → Reaches p c
  reaches_more h (Reaches.async at) = Reaches.async (h _ _ at)
  reaches_more h (Reaches.finish at) = Reaches.finish (h _ _ at)
  reaches_more h (Reaches.rescue at) = Reaches.rescue (h _ _ at)
  reaches_more h (Reaches.call at r) = Reaches.call (h _ _ at) r
  reaches_more h (Reaches.turn at r) = Reaches.turn (h _ _ at) r

  pub plain_less : {b c : Codes} → ((l : ℕ) (s : Code) → Stands b l s → Stands c l s) → ArePlain p c → ArePlain p b
  plain_less h plain = λ r. plain (reaches_more h r)

  pub reaches_behind : {l : ℕ} {s : Code} {rest : Codes} → Reaches p rest → Reaches p (Then l s rest)
  reaches_behind r = reaches_more (λ m t at. Stands.later at) r

  pub reaches_inside : {l : ℕ} {s : Code} {b rest : Codes} → Block s b → Reaches p b → Reaches p (Then l s rest)
  reaches_inside k r = reaches_more (λ m t at. Stands.inside k at) r

  -- a block inside a statement
  plain_inside : {l : ℕ} {s : Code} {b rest : Codes} → Block s b → ArePlain p (Then l s rest) → ArePlain p b
  plain_inside k plain = plain_less (λ m t at. Stands.inside k at) plain

  -- the statements after one are plain
  pub plain_behind : (l : ℕ) (s : Code) (rest : Codes) → ArePlain p (Then l s rest) → ArePlain p rest
  plain_behind l s rest plain = plain_less (λ m t at. Stands.later at) plain

  -- what a plain statement contains, one level down
  abbrev pub Inside : Code → Type 0
  Inside (Do s) = Unit {0}
  Inside (If t b c) = ArePlain p b × ArePlain p c
  Inside (While t b) = ArePlain p b
  Inside (Split s e x y b) = ArePlain p b
  Inside (Parts s e q i b) = ArePlain p b
  Inside (Begun s n k q i b) = ArePlain p b
  Inside (Call f es ss) = ArePlain p (procedure_of p f).body
  Inside (Async b) = ⊥
  Inside (Finish b) = ⊥
  Inside (Rescue b x c) = ⊥

  pub inside : (l : ℕ) (s : Code) (rest : Codes) → ArePlain p (Then l s rest) → Inside s
  inside l (Do s) rest plain = tt
  inside l (If t b c) rest plain = (plain_inside Block.if_body plain, plain_inside Block.if_other plain)
  inside l (While t b) rest plain = plain_inside Block.while plain
  inside l (Split s e x y b) rest plain = plain_inside Block.split plain
  inside l (Parts s e q i b) rest plain = plain_inside Block.parts plain
  inside l (Begun s n k q i b) rest plain = λ r. plain (Reaches.turn Stands.here r)
  inside l (Call f es ss) rest plain = λ r. plain (Reaches.call Stands.here r)
  inside l (Async b) rest plain = plain (Reaches.async Stands.here)
  inside l (Finish b) rest plain = plain (Reaches.finish Stands.here)
  inside l (Rescue b x c) rest plain = plain (Reaches.rescue Stands.here)

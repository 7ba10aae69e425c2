-- Which replies are mistakes.
use Rattle.std.proofs.Common.{inl, inr}
use Rattle.options.specs.Replies.{IsConflict, IsMistake}
use Rattle.options.specs.declared.reply.Reply.{Reply}
use Rattle.options.specs.declared.reply.Reply.TheVariants.{Said, Page, NoPage}

pub conflict_is_mistake : (reply : Reply) → IsConflict reply → IsMistake reply
conflict_is_mistake (Said error) (inl is) = (λ help. (cc), λ version. (cc))
conflict_is_mistake (Said error) (inr is) = (λ help. (cc), λ version. (cc))
conflict_is_mistake (Page text) is = absurd is
conflict_is_mistake (NoPage line) is = absurd is

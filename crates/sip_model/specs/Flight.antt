-- Messages in flight, and the actors that they go between.
use Rattle.std.specs.Prelude.{ℕ, ◌+◌, List, []}
use Rattle.sip_model.specs.declared.message.Body.{Body}
use Rattle.sip_model.specs.declared.message.Message.{Message}

-- a message in flight; a Reply and a Put carry the elements of their block, the others carry none
pub record Flying : Type 0 where
  pub message : Message
  pub words : List ℕ

-- the number of the master among the actors; workers go by their own numbers
abbrev pub master_actor : ℕ
master_actor = 255

-- the number of a server among the actors
abbrev pub server_actor : (server : ℕ) → ℕ
server_actor server = 64 + server

-- a message with the elements of a block
abbrev pub carrying : (from to : ℕ) → Body → (words : List ℕ) → Flying
carrying from to body words = record { message = record { from = from; to = to; body = body }; words = words }

-- a message without elements
abbrev pub bare : (from to : ℕ) → Body → Flying
bare from to body = carrying from to body []

-- Where shared blocks live: distributed ones at workers by the placement, served ones at servers in turn.
use Rattle.std.specs.Prelude.{ℕ, ◌%◌, List, [], ◌∷◌, length, slice_index_or}
use Rattle.sial_syntax.specs.declared.access.Class.{Class}
use Rattle.sial_syntax.specs.declared.access.Class.TheVariants.{Distributed, Served}
use Rattle.sial_syntax.specs.Boxes.{numbers_from}
use Rattle.sip_model.specs.declared.options.Options.{Options}
use Rattle.sial_meaning.specs.Statement.{Named}
use Rattle.sip_model.specs.Flight.{server_actor}

-- the homes in turn, all workers where none are given
abbrev pub homes_in_turn : (workers : ℕ) → List ℕ → List ℕ
homes_in_turn workers [] = numbers_from 0 workers
homes_in_turn workers (home ∷ homes) = home ∷ homes

-- the home at a place of the homes in turn
abbrev pub home_among : (workers : ℕ) → List ℕ → (block : ℕ) → ℕ
home_among workers homes block = slice_index_or homes (block % length homes) 0 % workers

-- the worker at which a distributed block lives
abbrev pub home_of : Options → (block : ℕ) → ℕ
home_of o block = home_among o.workers (homes_in_turn o.workers o.place) block

-- the server at which a served block lives
abbrev pub server_of : Options → (block : ℕ) → ℕ
server_of o block = block % o.servers

-- the actor that owns a block
abbrev pub owner_by : Options → Class → (block : ℕ) → ℕ
owner_by o Distributed block = home_of o block
owner_by o Served block = server_actor (server_of o block)

-- the actor that owns a named block
abbrev pub owner_of : Options → Named → ℕ
owner_of o block = owner_by o block.class block.block

-- The master: which iterations it gives, and when a sync point is passed.
use Rattle.std.specs.Prelude.{ℕ, ◌+◌, ◌-◌, ◌*◌, ◌/◌, max, List, [], ◌∷◌, ◌++◌, map, length, replicate, Bool, true, false, ◌==◌, ◌&&◌, if◌then◌else◌, nat_lt, fold, take_while, slice_index_or, slice_set, Option, Some, None}
use Rattle.std.specs.List.{list_any, list_all}
use Rattle.sial_syntax.specs.Boxes.{numbers_from}
use Rattle.sial_meaning.specs.Number.{plus}
use Rattle.sip_model.specs.declared.message.Given.{Given}
use Rattle.sip_model.specs.declared.message.Given.TheVariants as given

-- an instance: the place of its pardo once it was asked for, its next number, and the workers that were told that none is left
pub record Instance : Type 0 where
  pub place : Option ℕ
  pub next : ℕ
  pub told : List ℕ

-- a worker at a sync point: its sync count, the place, and what it contributes, 0 at one that doesn't collect
pub record Arrival : Type 0 where
  pub sync : ℕ
  pub place : ℕ
  pub value : ℕ

-- the master: instances by their numbers, and for each worker its arrival that isn't answered
pub record Master : Type 0 where
  pub instances : List Instance
  pub arrived : List (Option Arrival)

-- an instance that nobody asked for
abbrev pub unopened : Instance
unopened = record { place = None; next = 0; told = [] }

-- the master as the program begins
abbrev pub start_master : (workers : ℕ) → Master
start_master workers = record { instances = []; arrived = replicate workers None }

-- an instance by its number
abbrev pub instance_at : Master → (number : ℕ) → Instance
instance_at m number = slice_index_or m.instances number unopened

-- instances with one replaced or added
abbrev pub with_instance : (number : ℕ) → Instance → List Instance → List Instance
with_instance number i instances =
    if nat_lt number (length instances)
    then slice_set instances number i
    else instances ++ (replicate (number - length instances) unopened ++ i ∷ [])

-- whether all workers were told that no number of an instance is left
abbrev pub is_finished : (workers : ℕ) → Instance → Bool
is_finished workers i = list_all (λ w. list_any (λ told. told == w) i.told) (numbers_from 0 workers)

-- the base: the first instance of which not all workers were told that none is left
abbrev pub base : (workers : ℕ) → Master → ℕ
base workers m = length (take_while (is_finished workers) m.instances)

-- how many instances from the base on may be open
abbrev pub window : ℕ
window = 4

-- whether an instance isn't open at another place
abbrev pub is_at : (place : ℕ) → Option ℕ → Bool
is_at place None = true
is_at place (Some other) = other == place

-- whether numbers of an instance may be asked for at a place
abbrev pub may_ask : (workers : ℕ) → Master → (instance place : ℕ) → Bool
may_ask workers m instance place = nat_lt instance (base workers m + window) && is_at place (instance_at m instance).place

-- how many of the numbers that are left make the next chunk
abbrev pub chunk_of : (workers remaining : ℕ) → ℕ
chunk_of workers remaining = max 1 (remaining / (2 * workers))

-- an instance after numbers of it were given at a place
abbrev pub chunk_taken : (place count : ℕ) → Instance → Instance
chunk_taken place count i = record i { place = Some place; next = i.next + count }

-- an instance after a worker was told at a place that none is left
abbrev pub none_told : (place worker : ℕ) → Instance → Instance
none_told place worker i = record i { place = Some place; told = i.told ++ worker ∷ [] }

-- the master after a chunk was given
abbrev pub after_chunk : (number place count : ℕ) → Master → Master
after_chunk number place count m =
    record m { instances = with_instance number (chunk_taken place count (instance_at m number)) m.instances }

-- the master after a worker was told that none is left
abbrev pub after_none : (worker number place : ℕ) → Master → Master
after_none worker number place m =
    record m { instances = with_instance number (none_told place worker (instance_at m number)) m.instances }

-- the master's answer to an Ask, with the master after it
pub record Answered : Type 0 where
  pub master : Master
  pub given : Given

-- so many numbers of an instance given
abbrev pub chunk_given : (number place count : ℕ) → Master → Answered
chunk_given number place count m =
    record { master = after_chunk number place count m; given = given.Chunk (instance_at m number).next count }

-- word that none is left
abbrev pub none_given : (worker number place : ℕ) → Master → Answered
none_given worker number place m = record { master = after_none worker number place m; given = given.NoneLeft }

-- an Ask of a worker for numbers of a box of so many
abbrev pub answered : (workers worker number place box : ℕ) → Master → Answered
answered workers worker number place box m =
    if nat_lt (instance_at m number).next box
    then chunk_given number place (chunk_of workers (box - (instance_at m number).next)) m
    else none_given worker number place m

-- the arrival of a worker, if it waits at a sync point
abbrev pub arrival_at : Master → (worker : ℕ) → Option Arrival
arrival_at m worker = slice_index_or m.arrived worker None

-- the master after a worker arrived
abbrev pub with_arrival : (worker : ℕ) → Arrival → Master → Master
with_arrival worker arrival m = record m { arrived = slice_set m.arrived worker (Some arrival) }

-- whether a worker arrived at this sync count and this place
abbrev pub is_there : (sync place : ℕ) → Option Arrival → Bool
is_there sync place None = false
is_there sync place (Some arrival) = (arrival.sync == sync) && (arrival.place == place)

-- whether all workers arrived at one sync count and one place
abbrev pub is_met : (workers sync place : ℕ) → Master → Bool
is_met workers sync place m = list_all (λ w. is_there sync place (arrival_at m w)) (numbers_from 0 workers)

-- the master after all were answered
abbrev pub after_meeting : (workers : ℕ) → Master → Master
after_meeting workers m = record m { arrived = replicate workers None }

-- what a worker contributed
abbrev pub share_of : Option Arrival → ℕ
share_of None = 0
share_of (Some arrival) = arrival.value

-- the sum of what all workers contributed
abbrev pub sum_of_shares : (workers : ℕ) → Master → ℕ
sum_of_shares workers m = fold plus 0 (map (λ w. share_of (arrival_at m w)) (numbers_from 0 workers))

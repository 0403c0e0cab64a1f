-- What a contract sees of the messages in flight.
use Rattle.std.specs.Prelude.{ℕ, List, [], ◌∷◌, ◌++◌, refl}
use Rattle.std.specs.List.{remove}
use Rattle.std.specs.Coded.{Coded, code_by, coded×, coded_list, coded_ℕ}

-- the messages in order of posting, and how many there may be
pub record InFlight (T : Type 0) : Type 0 where
  pub items : List T
  pub room : ℕ

-- messages are told apart by their list and room
abbrev pub in_flight_code : {T : Type 0} → Coded T → Coded (InFlight T)
in_flight_code {T} code =
    code_by (List T × ℕ) (coded× (coded_list code) coded_ℕ) (λ n. (n.items, n.room)) (λ p. record { items = p.0; room = p.1 }) (λ _. refl)

-- none of so many
abbrev pub none_of : {T : Type 0} → ℕ → InFlight T
none_of room = record { items = []; room = room }

-- one more at the end
abbrev pub with_posted : {T : Type 0} → InFlight T → T → InFlight T
with_posted net item = record net { items = net.items ++ item ∷ [] }

-- one less, and the others in their order
abbrev pub without : {T : Type 0} → InFlight T → ℕ → InFlight T
without net place = record net { items = remove net.items place }

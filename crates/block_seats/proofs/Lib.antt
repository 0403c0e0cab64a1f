pub mod LeavingLemmas
pub mod SeatLemmas
pub mod PuttingLemmas
pub mod ClosingLemmas
pub mod CountLemmas
pub mod EmptyLemmas
pub mod RoomLemmas
pub mod Laws

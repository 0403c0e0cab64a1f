-- Recorded runs of a pardo of three iterations with two workers, entry by entry, under three lists of choices.
use Rattle.std.specs.Prelude.{◌≡◌, ◌+◌, ◌*◌, List, [], ◌∷◌, length, replicate}
use Rattle.sial_worked.specs.Chunks.{chunks, chunks_three, chunks_none}
use Rattle.sip_model.specs.declared.entry.Entry.{Entry}
use Rattle.sip_model.specs.Legal.{AllDone, choices_of, least_recent_run}
use Rattle.machine_worked.specs.Records.{quiet, of_workers, Recorded}

-- its entries where each choice is 0
abbrev pub chunks_three_zeros : List Entry
chunks_three_zeros =
    quiet 2 0 1 0 0 ∷ quiet 2 0 7 0 0 ∷ quiet 2 0 1 1 0 ∷ quiet 2 0 7 1 0 ∷ quiet 2 0 20 0 255 ∷ quiet 2 0 20 1 255 ∷
    quiet 2 0 21 255 0 ∷ quiet 2 0 1 0 0 ∷ quiet 2 0 7 0 0 ∷ quiet 2 0 21 255 1 ∷ quiet 2 0 1 1 0 ∷ quiet 2 0 7 1 0 ∷
    quiet 2 0 20 0 255 ∷ quiet 2 0 20 1 255 ∷ quiet 2 0 21 255 0 ∷ quiet 2 0 1 0 0 ∷ quiet 2 0 7 0 0 ∷ quiet 2 0 21 255 1 ∷
    quiet 2 0 1 1 0 ∷ quiet 1 0 20 0 255 ∷ quiet 1 0 21 255 0 ∷ quiet 1 0 1 0 0 ∷ []

-- its entries where the choices are all 5
abbrev pub chunks_three_late : List Entry
chunks_three_late =
    quiet 2 1 1 1 0 ∷ quiet 2 1 7 1 0 ∷ quiet 2 1 20 1 255 ∷ quiet 2 1 21 255 1 ∷ quiet 2 1 1 1 0 ∷ quiet 2 1 7 1 0 ∷
    quiet 2 1 20 1 255 ∷ quiet 2 1 21 255 1 ∷ quiet 2 1 1 1 0 ∷ quiet 2 1 7 1 0 ∷ quiet 2 1 20 1 255 ∷ quiet 2 1 21 255 1 ∷
    quiet 2 1 1 1 0 ∷ quiet 2 1 7 1 0 ∷ quiet 2 1 20 1 255 ∷ quiet 2 1 21 255 1 ∷ quiet 2 1 1 1 0 ∷ quiet 1 0 1 0 0 ∷ quiet 1 0 7 0 0 ∷
    quiet 1 0 20 0 255 ∷ quiet 1 0 21 255 0 ∷ quiet 1 0 1 0 0 ∷ []

-- its entries where the choices are mixed
abbrev pub chunks_three_mixed : List Entry
chunks_three_mixed =
    quiet 2 1 1 1 0 ∷ quiet 2 0 1 0 0 ∷ quiet 2 0 7 0 0 ∷ quiet 2 1 20 0 255 ∷ quiet 2 1 21 255 0 ∷ quiet 2 1 7 1 0 ∷ quiet 2 0 1 0 0 ∷
    quiet 2 0 7 0 0 ∷ quiet 2 1 20 0 255 ∷ quiet 2 0 20 1 255 ∷ quiet 2 0 21 255 0 ∷ quiet 2 1 21 255 1 ∷ quiet 2 1 1 1 0 ∷
    quiet 2 0 1 0 0 ∷ quiet 2 1 7 1 0 ∷ quiet 2 0 7 0 0 ∷ quiet 2 1 20 0 255 ∷ quiet 2 1 21 255 0 ∷ quiet 2 0 1 0 0 ∷
    quiet 1 0 20 1 255 ∷ quiet 1 0 21 255 1 ∷ quiet 1 0 1 1 0 ∷ []

-- they come out of the definitions
pub record ChunksRecorded : Type 0 where
  pub zeros : Recorded chunks_three (of_workers 2)
      []
      chunks_three_zeros AllDone []
  pub late : Recorded chunks_three (of_workers 2)
      (replicate 22 5)
      chunks_three_late AllDone []
  pub mixed : Recorded chunks_three (of_workers 2)
      (1 ∷ 0 ∷ 2 ∷ 5 ∷ 3 ∷ 1 ∷ 4 ∷ 0 ∷ 7 ∷ 2 ∷ 2 ∷ 9 ∷ 1 ∷ 0 ∷ 3 ∷ 6 ∷ 5 ∷ 1 ∷ 8 ∷ 0 ∷ 2 ∷ 4 ∷ [])
      chunks_three_mixed AllDone []

-- a pardo of N iterations in c chunks has 2W + N + 3(c + W) entries, whatever the choices are
pub record ChunksCounted : Type 0 where
  -- chunks of 4, 3 and 2, and seven of 1
  pub sixteen : length (least_recent_run chunks (of_workers 2) (choices_of []) 99).entries ≡ 2 * 2 + 16 + 3 * (10 + 2)
  pub sixteen_mixed : length (least_recent_run chunks (of_workers 2) (choices_of (replicate 40 7)) 99).entries ≡ 2 * 2 + 16 + 3 * (10 + 2)
  -- three chunks of 1
  pub three : length (least_recent_run chunks_three (of_workers 32) (choices_of (replicate 99 41)) 199).entries ≡ 2 * 32 + 3 + 3 * (3 + 32)
  pub none : length (least_recent_run chunks_none (of_workers 2) (choices_of []) 99).entries ≡ 2 * 2 + 0 + 3 * (0 + 2)

-- Recorded runs of served blocks with a server that caches one, entry by entry, under three lists of choices.
use Rattle.std.specs.Prelude.{List, [], ◌∷◌, replicate, codes}
use Rattle.sial_worked.specs.Disk.{disk}
use Rattle.sip_model.specs.declared.entry.Entry.{Entry}
use Rattle.sip_model.specs.Legal.{AllDone}
use Rattle.machine_worked.specs.Records.{quiet, about, dropping, from, of_workers, Recorded}

-- its entries where each choice is 0
abbrev pub disk_zeros : List Entry
disk_zeros =
    quiet 1 0 1 0 0 ∷ quiet 1 0 7 0 0 ∷ quiet 1 0 20 0 255 ∷ quiet 1 0 21 255 0 ∷ quiet 1 0 1 0 0 ∷ quiet 1 0 1 0 0 ∷
    about 1 0 4 0 0 2 0 ∷ quiet 2 0 7 0 0 ∷ about 2 0 18 0 64 2 0 ∷ quiet 3 0 20 0 255 ∷ quiet 3 0 19 64 0 ∷ quiet 2 0 21 255 0 ∷
    quiet 2 0 1 0 0 ∷ quiet 2 0 1 0 0 ∷ from 0 1 0 (about 2 0 4 0 0 2 1) ∷ quiet 3 0 7 0 0 ∷
    dropping 2147483648 (from 0 1 0 (about 3 0 18 0 64 2 1)) ∷ quiet 3 0 20 0 255 ∷ quiet 3 0 19 64 0 ∷ quiet 2 0 21 255 0 ∷
    quiet 2 0 1 0 0 ∷ quiet 2 0 1 0 0 ∷ from 0 2 0 (about 2 0 4 0 0 2 2) ∷ quiet 3 0 7 0 0 ∷
    dropping 2147483649 (from 0 2 0 (about 3 0 18 0 64 2 2)) ∷ quiet 3 0 20 0 255 ∷ quiet 3 0 19 64 0 ∷ quiet 2 0 21 255 0 ∷
    quiet 2 0 1 0 0 ∷ quiet 2 0 5 0 0 ∷ quiet 2 0 22 0 255 ∷ quiet 2 0 23 255 0 ∷ quiet 2 0 1 0 0 ∷ about 2 0 3 0 0 2 0 ∷
    quiet 3 0 1 0 0 ∷ dropping 2147483650 (about 2 0 16 0 64 2 0) ∷ about 1 0 17 64 0 2 0 ∷ quiet 1 0 1 0 0 ∷ quiet 1 0 1 0 0 ∷
    quiet 1 0 1 0 0 ∷ about 1 0 3 0 0 2 1 ∷ quiet 2 0 1 0 0 ∷ dropping 2147483648 (about 1 0 16 0 64 2 1) ∷ about 1 0 17 64 0 2 1 ∷
    quiet 1 0 1 0 0 ∷ quiet 1 0 1 0 0 ∷ quiet 1 0 1 0 0 ∷ about 1 0 3 0 0 2 2 ∷ quiet 2 0 1 0 0 ∷
    dropping 2147483649 (about 1 0 16 0 64 2 2) ∷ about 1 0 17 64 0 2 2 ∷ quiet 1 0 1 0 0 ∷ quiet 1 0 1 0 0 ∷ quiet 1 0 1 0 0 ∷ []

-- its entries where the choices are all 5
abbrev pub disk_late : List Entry
disk_late =
    quiet 1 0 1 0 0 ∷ quiet 1 0 7 0 0 ∷ quiet 1 0 20 0 255 ∷ quiet 1 0 21 255 0 ∷ quiet 1 0 1 0 0 ∷ quiet 1 0 1 0 0 ∷
    about 1 0 4 0 0 2 0 ∷ about 2 1 18 0 64 2 0 ∷ about 3 2 32 64 0 2 0 ∷ quiet 2 1 19 64 0 ∷ quiet 1 0 7 0 0 ∷ quiet 1 0 20 0 255 ∷
    quiet 1 0 21 255 0 ∷ quiet 1 0 1 0 0 ∷ quiet 1 0 1 0 0 ∷ from 0 1 0 (about 1 0 4 0 0 2 1) ∷
    dropping 2147483648 (from 0 1 0 (about 2 1 18 0 64 2 1)) ∷ about 3 2 32 64 0 2 1 ∷ quiet 2 1 19 64 0 ∷ quiet 1 0 7 0 0 ∷
    quiet 1 0 20 0 255 ∷ quiet 1 0 21 255 0 ∷ quiet 1 0 1 0 0 ∷ quiet 1 0 1 0 0 ∷ from 0 2 0 (about 1 0 4 0 0 2 2) ∷
    dropping 2147483649 (from 0 2 0 (about 2 1 18 0 64 2 2)) ∷ about 3 2 32 64 0 2 2 ∷ quiet 2 1 19 64 0 ∷ quiet 1 0 7 0 0 ∷
    quiet 1 0 20 0 255 ∷ quiet 1 0 21 255 0 ∷ quiet 1 0 1 0 0 ∷ quiet 1 0 5 0 0 ∷ quiet 1 0 22 0 255 ∷ quiet 1 0 23 255 0 ∷
    quiet 1 0 1 0 0 ∷ about 1 0 3 0 0 2 0 ∷ dropping 2147483650 (about 2 1 16 0 64 2 0) ∷ about 2 1 17 64 0 2 0 ∷ quiet 1 0 1 0 0 ∷
    quiet 1 0 1 0 0 ∷ quiet 1 0 1 0 0 ∷ quiet 1 0 1 0 0 ∷ about 1 0 3 0 0 2 1 ∷ dropping 2147483648 (about 2 1 16 0 64 2 1) ∷
    about 2 1 17 64 0 2 1 ∷ quiet 1 0 1 0 0 ∷ quiet 1 0 1 0 0 ∷ quiet 1 0 1 0 0 ∷ quiet 1 0 1 0 0 ∷ about 1 0 3 0 0 2 2 ∷
    dropping 2147483649 (about 2 1 16 0 64 2 2) ∷ about 2 1 17 64 0 2 2 ∷ quiet 1 0 1 0 0 ∷ quiet 1 0 1 0 0 ∷ quiet 1 0 1 0 0 ∷
    quiet 1 0 1 0 0 ∷ []

-- its entries where the choices are mixed
abbrev pub disk_mixed : List Entry
disk_mixed =
    quiet 1 0 1 0 0 ∷ quiet 1 0 7 0 0 ∷ quiet 1 0 20 0 255 ∷ quiet 1 0 21 255 0 ∷ quiet 1 0 1 0 0 ∷ quiet 1 0 1 0 0 ∷
    about 1 0 4 0 0 2 0 ∷ quiet 2 0 7 0 0 ∷ quiet 2 1 20 0 255 ∷ about 2 0 18 0 64 2 0 ∷ about 3 2 32 64 0 2 0 ∷ quiet 2 1 19 64 0 ∷
    quiet 1 0 21 255 0 ∷ quiet 1 0 1 0 0 ∷ quiet 1 0 1 0 0 ∷ from 0 1 0 (about 1 0 4 0 0 2 1) ∷
    dropping 2147483648 (from 0 1 0 (about 2 1 18 0 64 2 1)) ∷ quiet 3 1 19 64 0 ∷ quiet 2 0 7 0 0 ∷ quiet 2 0 20 0 255 ∷
    quiet 2 0 21 255 0 ∷ quiet 2 0 1 0 0 ∷ about 2 1 32 64 0 2 1 ∷ quiet 1 0 1 0 0 ∷ from 0 2 0 (about 1 0 4 0 0 2 2) ∷
    dropping 2147483649 (from 0 2 0 (about 2 1 18 0 64 2 2)) ∷ about 3 2 32 64 0 2 2 ∷ quiet 2 1 19 64 0 ∷ quiet 1 0 7 0 0 ∷
    quiet 1 0 20 0 255 ∷ quiet 1 0 21 255 0 ∷ quiet 1 0 1 0 0 ∷ quiet 1 0 5 0 0 ∷ quiet 1 0 22 0 255 ∷ quiet 1 0 23 255 0 ∷
    quiet 1 0 1 0 0 ∷ about 1 0 3 0 0 2 0 ∷ quiet 2 0 1 0 0 ∷ dropping 2147483650 (about 1 0 16 0 64 2 0) ∷ about 1 0 17 64 0 2 0 ∷
    quiet 1 0 1 0 0 ∷ quiet 1 0 1 0 0 ∷ quiet 1 0 1 0 0 ∷ about 1 0 3 0 0 2 1 ∷ quiet 2 0 1 0 0 ∷
    dropping 2147483648 (about 1 0 16 0 64 2 1) ∷ about 1 0 17 64 0 2 1 ∷ quiet 1 0 1 0 0 ∷ quiet 1 0 1 0 0 ∷ quiet 1 0 1 0 0 ∷
    about 1 0 3 0 0 2 2 ∷ quiet 2 0 1 0 0 ∷ dropping 2147483649 (about 1 0 16 0 64 2 2) ∷ about 1 0 17 64 0 2 2 ∷ quiet 1 0 1 0 0 ∷
    quiet 1 0 1 0 0 ∷ quiet 1 0 1 0 0 ∷ []

-- they come out of the definitions
pub record DiskRecorded : Type 0 where
  pub zeros : Recorded disk (record (of_workers 1) { server_cache = 1 })
      []
      disk_zeros AllDone (codes "s 1" ∷ codes "s 2" ∷ codes "s 3" ∷ [])
  pub late : Recorded disk (record (of_workers 1) { server_cache = 1 })
      (replicate 57 5)
      disk_late AllDone (codes "s 1" ∷ codes "s 2" ∷ codes "s 3" ∷ [])
  pub mixed : Recorded disk (record (of_workers 1) { server_cache = 1 })
      (1 ∷ 0 ∷ 2 ∷ 5 ∷ 3 ∷ 1 ∷ 4 ∷ 0 ∷ 7 ∷ 2 ∷ 2 ∷ 9 ∷ 1 ∷ 0 ∷ 3 ∷ 6 ∷ 5 ∷ 1 ∷ 8 ∷ 0 ∷ 2 ∷ 4 ∷ 1 ∷ 3 ∷ 0 ∷ 5 ∷ 2 ∷ 7 ∷ 1 ∷ 6 ∷ [])
      disk_mixed AllDone (codes "s 1" ∷ codes "s 2" ∷ codes "s 3" ∷ [])

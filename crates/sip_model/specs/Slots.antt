-- How many slots of each size class a worker needs, and how many words all take; and how many a state holds.
use Rattle.std.specs.Prelude.{ℕ, ◌+◌, ◌*◌, List, [], ◌∷◌, map, filter, length, sum_by, count_by, zip, is_some, Bool, true, false, ◌==◌, ◌&&◌, if◌then◌else◌, slice_index_or, Option, Some, None}
use Rattle.std.specs.List.{list_any, enumerate_from}
use Rattle.sial_syntax.specs.declared.array.ArrayDecl.{ArrayDecl}
use Rattle.sial_syntax.specs.declared.array.ArrayKind.{ArrayKind}
use Rattle.sial_syntax.specs.declared.array.ArrayKind.TheVariants.{Static, Temp, Local, Distributed, Served}
use Rattle.sial_syntax.specs.Boxes.{numbers_from}
use Rattle.sial_syntax.specs.Spaces.{same_kind, blocks_of}
use Rattle.sial_syntax.specs.Widths.{most_of}
use Rattle.sial_meaning.specs.Costs.{block_width, arrays_of, elements_of}
use Rattle.sial_meaning.specs.Own.{Held}
use Rattle.sial_meaning.specs.Setting.{Setting, array_of, block_count, first_of_class}
use Rattle.sip_model.specs.declared.options.Options.{Options}
use Rattle.sip_model.specs.Machines.{Machine, worker_at}
use Rattle.sip_model.specs.Moments.{ArraySet, moments}
use Rattle.sip_model.specs.Owners.{Cell, is_homed}
use Rattle.sip_model.specs.Placement.{home_of}
use Rattle.sip_model.specs.SizeClasses.{class_count, size_class, class_at, shared_class, widest_class, widths}
use Rattle.sip_model.specs.Workers.{places_taken}

-- whether an array is of this kind and this size class
abbrev pub is_sized : Setting → ArrayKind → (class : ℕ) → ArrayDecl → Bool
is_sized g kind class a = same_kind a.kind kind && (size_class g a == class)

-- the arrays of a kind and a size class
abbrev pub sized : Setting → ArrayKind → (class : ℕ) → List ArrayDecl
sized g kind class = filter (is_sized g kind class) g.program.arrays

-- the blocks of all arrays of a kind and a size class
abbrev pub blocks_sized : Setting → ArrayKind → (class : ℕ) → ℕ
blocks_sized g kind class = sum_by (blocks_of g.spaces) (sized g kind class)

-- how many blocks of a distributed array live at a worker
abbrev pub homed_count : Setting → Options → (worker array : ℕ) → ℕ
homed_count g o worker array = count_by (λ k. home_of o (first_of_class g array + k) == worker) (numbers_from 0 (block_count g array))

-- the blocks of one array, by its number and whether it is in the set
abbrev pub homed_if : Setting → Options → (worker class : ℕ) → ℕ × Bool → ℕ
homed_if g o worker class e = if e.1 && is_sized g Distributed class (array_of g e.0) then homed_count g o worker e.0 else 0

-- the blocks of a size class homed at a worker, of the arrays of a set
abbrev pub homed_of : Setting → Options → (worker class : ℕ) → ArraySet → ℕ
homed_of g o worker class set = sum_by (homed_if g o worker class) (enumerate_from 0 set)

-- the most of these over the moments
abbrev pub peak : Setting → Options → (worker class : ℕ) → ℕ
peak g o worker class = most_of (map (homed_of g o worker class) (moments g))

-- so many where a class is this one
abbrev pub at_class : (class this number : ℕ) → ℕ
at_class class this number = if class == this then number else 0

-- the slots of a size class at a worker: static blocks, homed ones, temps, local blocks, the cache's places and the puts, and one for a
-- right side
abbrev pub slots_of : Setting → Options → (worker class : ℕ) → ℕ
slots_of g o worker class =
    blocks_sized g Static class
    + (peak g o worker class
    + (length (sized g Temp class)
    + (blocks_sized g Local class
    + (at_class class (shared_class g) (o.cache + o.puts)
    + at_class class (widest_class g) 1))))

-- the slots of a worker, by size class
abbrev pub slots_at : Setting → Options → (worker : ℕ) → List ℕ
slots_at g o worker = map (slots_of g o worker) (numbers_from 0 class_count)

-- the slots of all workers
abbrev pub worker_slots : Setting → Options → List (List ℕ)
worker_slots g o = map (slots_at g o) (numbers_from 0 o.workers)

-- the words of a worker's slots
abbrev pub words_at : Setting → List ℕ → ℕ
words_at g slots = sum_by (λ (p : ℕ × ℕ). p.0 * p.1) (zip slots (widths g))

-- the words of all pools
abbrev pub pool_words : Setting → Options → ℕ
pool_words g o = sum_by (words_at g) (worker_slots g o) + block_width g * (o.servers * o.server_cache)

-- the words of the store
abbrev pub store_words : Setting → ℕ
store_words g = sum_by (elements_of g.spaces) (arrays_of g Served Served)

-- the blocks of the arrays of a size class that are present, counted in each array
abbrev pub over_arrays : Setting → (class : ℕ) → (ℕ → ℕ) → ℕ
over_arrays g class count = sum_by (λ a. if class_at g a == class then count a else 0) (numbers_from 0 (length g.program.arrays))

-- one where a temp holds a block
abbrev pub held_by_temp : Option Held → ℕ
held_by_temp None = 0
held_by_temp (Some held) = 1

-- whether there are elements
abbrev pub is_filled : List ℕ → Bool
is_filled [] = false
is_filled (n ∷ ns) = true

-- whether a distributed block is one of an array of this size class, and lives at a worker
abbrev pub is_homed_sized : Setting → Options → (worker class block : ℕ) → Bool
is_homed_sized g o worker class block =
    list_any (λ a. is_sized g Distributed class (array_of g a) && is_homed g o worker a block) (numbers_from 0 (length g.program.arrays))

-- whether a block is there
abbrev pub is_present : Cell → Bool
is_present cell = is_filled cell.words

-- how many slots of a size class a worker holds: static blocks, present homed blocks, blocks of temps, allocated local blocks, and in
-- the shared class cached and awaited blocks and puts
abbrev pub held : Setting → Options → (worker class : ℕ) → Machine → ℕ
held g o worker class s =
    over_arrays g class (λ a. length (slice_index_or (worker_at g s worker).own.statics a []))
    + (count_by (λ (e : ℕ × Cell). is_present e.1 && is_homed_sized g o worker class e.0) (enumerate_from 0 s.homed)
    + (over_arrays g class (λ a. held_by_temp (slice_index_or (worker_at g s worker).own.temps a None))
    + (over_arrays g class (λ a. count_by is_some (slice_index_or (worker_at g s worker).own.locals a []))
    + at_class class (shared_class g) (places_taken (worker_at g s worker) + length (worker_at g s worker).puts))))

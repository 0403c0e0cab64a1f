-- What deeds of one kind come to, in whatever order they are applied: adds their sum, maxes the greatest, one store its value.
use Rattle.std.specs.Prelude.{◌≡◌, ℕ, ◌^◌, ◌<◌, ◌≤◌, max, List, map, length, Bool, true, false, ◌==◌, ◌&&◌, if◌then◌else◌, slice_index_or, sum_by, count_by, fold, ◌⊎◌, ◌↔◌, IsTrue, nat_le}
use Rattle.std.specs.List.{list_all}
use Rattle.std.specs.List.Sorted.{IsPermutation}
use Rattle.sial_syntax.specs.declared.access.Access.{Access}
use Rattle.sial_syntax.specs.declared.access.Class.{Class}
use Rattle.sial_syntax.specs.Spaces.{same_class}
use Rattle.sial_meaning.specs.Accepted.{is_add, is_max, is_store}
use Rattle.sial_meaning.specs.Access.{Touch}
use Rattle.sial_meaning.specs.Deeds.{Deed, Reads, Writes, Adds, Traps, written}
use Rattle.sial_meaning.specs.Number.{plus}
use Rattle.sial_meaning.specs.State.{Shared, shared_block}

-- an element of a block, 0 past its end
abbrev pub element_at : (words : List ℕ) → (place : ℕ) → ℕ
element_at words place = slice_index_or words place 0

-- whether an access is to this block
abbrev pub is_to : Class → (block : ℕ) → Touch → Bool
is_to class block touch = same_class touch.class class && (touch.block == block)

-- whether a deed writes this block
abbrev pub writes_to : Class → (block : ℕ) → Deed → Bool
writes_to class block (Reads touch) = false
writes_to class block (Writes touch words) = is_to class block touch
writes_to class block (Adds scalar number) = false
writes_to class block (Traps trap) = false

-- the number that a deed brings for this element of a block, 0 where it brings none
abbrev pub brings : Class → (block place : ℕ) → Deed → ℕ
brings class block place (Reads touch) = 0
brings class block place (Writes touch words) = if is_to class block touch then element_at words place else 0
brings class block place (Adds scalar number) = 0
brings class block place (Traps trap) = 0

-- whether a deed that writes this block is of such a kind, with so many elements
abbrev pub is_only : Class → (block : ℕ) → (Access → Bool) → (long : ℕ) → Deed → Bool
is_only class block kind long (Reads touch) = true
is_only class block kind long (Writes touch words) = if is_to class block touch then kind touch.kind && (length words == long) else true
is_only class block kind long (Adds scalar number) = true
is_only class block kind long (Traps trap) = true

-- all deeds that write this block are of such a kind, with as many elements as it has
abbrev pub AreOnly : Shared → Class → (block : ℕ) → (Access → Bool) → List Deed → Type 0
AreOnly shared class block kind deeds = IsTrue (list_all (is_only class block kind (length (shared_block shared class block))) deeds)

-- an element of a block
abbrev pub element_in : Shared → Class → (block place : ℕ) → ℕ
element_in shared class block place = element_at (shared_block shared class block) place

-- adds alone: the element before and all that they bring, modulo 2^64
abbrev pub AddsComeToTheSum : Type 0
AddsComeToTheSum =
    (shared : Shared) (class : Class) (block place : ℕ) (deeds : List Deed)
    → AreOnly shared class block is_add deeds → element_in shared class block place < 2 ^ 64
    → element_in (written deeds shared) class block place ≡ plus (element_in shared class block place) (sum_by (brings class block place) deeds)

-- maxes alone: the greatest of the element before and all that they bring
abbrev pub MaxesComeToTheGreatest : Type 0
MaxesComeToTheGreatest =
    (shared : Shared) (class : Class) (block place : ℕ) (deeds : List Deed)
    → AreOnly shared class block is_max deeds
    → element_in (written deeds shared) class block place ≡ fold max (element_in shared class block place) (map (brings class block place) deeds)

-- the same by counts: it is as great as a number where the element before was, or where some deed brings as great a one
abbrev pub MaxesByCounts : Type 0
MaxesByCounts =
    (shared : Shared) (class : Class) (block place number : ℕ) (deeds : List Deed)
    → AreOnly shared class block is_max deeds
    → (number ≤ element_in (written deeds shared) class block place)
    ↔ ((number ≤ element_in shared class block place) ⊎ (1 ≤ count_by (λ d. nat_le number (brings class block place d)) deeds))

-- one store and no other write: what it brings
abbrev pub OneStoreIsItsValue : Type 0
OneStoreIsItsValue =
    (shared : Shared) (class : Class) (block place : ℕ) (deeds : List Deed)
    → AreOnly shared class block is_store deeds → count_by (writes_to class block) deeds ≡ 1
    → element_in (written deeds shared) class block place ≡ sum_by (brings class block place) deeds

-- no write: nothing changes
abbrev pub OtherBlocksStay : Type 0
OtherBlocksStay =
    (shared : Shared) (class : Class) (block : ℕ) (deeds : List Deed)
    → count_by (writes_to class block) deeds ≡ 0 → shared_block (written deeds shared) class block ≡ shared_block shared class block

-- deeds that write a block in one way: adds alone, maxes alone, or one store
abbrev pub AreAlike : Shared → Class → (block : ℕ) → List Deed → Type 0
AreAlike shared class block deeds =
    AreOnly shared class block is_add deeds
    ⊎ (AreOnly shared class block is_max deeds ⊎ (AreOnly shared class block is_store deeds × (count_by (writes_to class block) deeds ≡ 1)))

-- such deeds in another order come to the same
abbrev pub OrderDoesNotMatter : Type 0
OrderDoesNotMatter =
    (shared : Shared) (class : Class) (block place : ℕ) (deeds others : List Deed)
    → AreAlike shared class block deeds → element_in shared class block place < 2 ^ 64 → IsPermutation deeds others
    → element_in (written others shared) class block place ≡ element_in (written deeds shared) class block place

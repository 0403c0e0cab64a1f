-- Fields of a file, read from its front: each reader takes all bytes and a place, and gives a value and the place behind it, or the first fault.
use Rattle.std.specs.Prelude.{◌≡◌, ℕ, zero, suc, ◌+◌, ◌*◌, ◌-◌, List, [], ◌∷◌, ◌++◌, Bool, true, ◌==◌, ◌&&◌, nat_lt, nat_le, if◌then◌else◌, length, take, drop, Option, Some, None, Result, Ok, Err, slice_get}
use Rattle.byteorder.specs.Endian.{big_number}
use Rattle.sial_syntax.specs.Names.{is_name, is_text}
use Rattle.table_file.specs.declared.fault.TableFault.{TableFault}
use Rattle.table_file.specs.declared.fault.TableFault.TheVariants.{Magic, Version, Short, Field, Rest, TooMany, OutOfMemory}

infixl 10 ◌>>=◌
-- a step behind another one
abbrev pub ◌>>=◌ : {A B : Type 0} → Result A TableFault → (A → Result B TableFault) → Result B TableFault
(Ok x) >>= f = f x
(Err fault) >>= f = Err fault

-- an answer that gives no value tells of want of memory, or of the fault
abbrev pub Fails : {Y : Type 0} → TableFault → Result Y TableFault → Type 0
Fails Magic read = read ≡ Err Magic
Fails Version read = read ≡ Err Version
Fails (Short at) read = read ≡ Err (Short at)
Fails (Field at) read = read ≡ Err (Field at)
Fails (Rest at) read = read ≡ Err (Rest at)
Fails (TooMany at) read = read ≡ Err (TooMany at)
Fails OutOfMemory read = Unit {0}

-- an answer, seen so, is what a reading gives, unless memory ran out
abbrev pub Gives : {X Y : Type 0} → (X → Y) → Result X TableFault → Result Y TableFault → Type 0
Gives view (Ok x) read = read ≡ Ok (view x)
Gives view (Err fault) read = Fails fault read

-- a value that is there, else a fault of the field at this place
abbrev pub or_field : {X : Type 0} → Option X → (at : ℕ) → Result X TableFault
or_field (Some x) at = Ok x
or_field None at = Err (Field at)

-- a byte that is there, with the place behind it
abbrev pub byte_or_short : Option ℕ → (len at : ℕ) → Result (ℕ × ℕ) TableFault
byte_or_short (Some byte) len at = Ok (byte, at + 1)
byte_or_short None len at = Err (Short len)

-- one byte
abbrev pub byte : List ℕ → (at : ℕ) → Result (ℕ × ℕ) TableFault
byte bytes at = byte_or_short (slice_get bytes at) (length bytes) at

-- a number of so many bytes, the highest first
abbrev pub number : (size : ℕ) → List ℕ → (at : ℕ) → Result (ℕ × ℕ) TableFault
number size bytes at = if nat_lt (length (drop at bytes)) size then Err (Short (length bytes)) else Ok (big_number size (drop at bytes), at + size)

-- so many bytes as they are
abbrev pub taken : (size : ℕ) → List ℕ → (at : ℕ) → Result (List ℕ × ℕ) TableFault
taken size bytes at = if nat_lt (length (drop at bytes)) size then Err (Short (length bytes)) else Ok (take size (drop at bytes), at + size)

-- a byte that has to be this one
unfoldable pub exactly : (wanted : ℕ) → List ℕ → (at : ℕ) → Result ℕ TableFault
exactly wanted bytes at = do
  b ← byte bytes at
  if b.0 == wanted then Ok b.1 else Err (Field at)

-- so many bytes, each a field of its own, that have to be this one
unfoldable pub all_exactly : (wanted count : ℕ) → List ℕ → (at : ℕ) → Result ℕ TableFault
all_exactly wanted zero bytes at = Ok at
all_exactly wanted (suc count) bytes at = do
  next ← exactly wanted bytes at
  all_exactly wanted count bytes next

-- bytes that nothing uses
abbrev pub unused : (count : ℕ) → List ℕ → (at : ℕ) → Result ℕ TableFault
unused count bytes at = all_exactly 0 count bytes at

-- whether a text is a name, where there is one
abbrev pub is_name_or_none : Option (List ℕ) → Bool
is_name_or_none (Some text) = is_name text
is_name_or_none None = true

-- whether a text may be printed, where there is one
abbrev pub is_text_or_none : Option (List ℕ) → Bool
is_text_or_none (Some text) = is_text text
is_text_or_none None = true

-- the number of a name among the texts; where there is a text of that number, it is a name
unfoldable pub name : (texts : List (List ℕ)) → (size : ℕ) → List ℕ → (at : ℕ) → Result (ℕ × ℕ) TableFault
name texts size bytes at = do
  n ← number size bytes at
  if is_name_or_none (slice_get texts n.0) then Ok n else Err (Field at)

-- the number of a printed text among the texts; where there is a text of that number, it may be printed
unfoldable pub printed : (texts : List (List ℕ)) → List ℕ → (at : ℕ) → Result (ℕ × ℕ) TableFault
printed texts bytes at = do
  n ← number 4 bytes at
  if is_text_or_none (slice_get texts n.0) then Ok n else Err (Field at)

-- how many places of a tuple are used: one to six
unfoldable pub rank : List ℕ → (at : ℕ) → Result (ℕ × ℕ) TableFault
rank bytes at = do
  r ← byte bytes at
  if nat_le 1 r.0 && nat_le r.0 6 then Ok r else Err (Field at)

-- so many entries of one kind
unfoldable pub entries : {X : Type 0} → (List ℕ → ℕ → Result (X × ℕ) TableFault) → (count : ℕ) → List ℕ → (at : ℕ) → Result (List X × ℕ) TableFault
entries entry zero bytes at = Ok ([], at)
entries entry (suc count) bytes at = do
  first ← entry bytes at
  others ← entries entry count bytes first.1
  Ok (first.0 ∷ others.0, others.1)

-- what was read before, and then what a reading gives
abbrev pub behind : {X : Type 0} → List X → Result (List X × ℕ) TableFault → Result (List X × ℕ) TableFault
behind front (Ok x) = Ok (front ++ x.0, x.1)
behind front (Err fault) = Err fault

-- so many numbers of two bytes
abbrev pub numbers : (count : ℕ) → List ℕ → (at : ℕ) → Result (List ℕ × ℕ) TableFault
numbers count bytes at = entries (number 2) count bytes at

-- the six places of a tuple, of which so many are used; all bits of the others are set
unfoldable pub tuple : (rank : ℕ) → List ℕ → (at : ℕ) → Result (List ℕ × ℕ) TableFault
tuple rank bytes at = do
  used ← numbers rank bytes at
  next ← all_exactly 255 (12 - 2 * rank) bytes used.1
  Ok (used.0, next)

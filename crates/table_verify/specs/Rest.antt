-- What is left of code and texts while they are read from the front.
use Rattle.std.specs.Prelude.{◌≡◌, ℕ, ◌+◌, List, [], ◌∷◌, ◌==◌, if◌then◌else◌, Option, Some, None, Result, Ok, Err, drop}
use Rattle.sip_tables.specs.declared.instruction.Instruction.{Instruction}
use Rattle.table_verify.specs.declared.read_fault.ReadFault.{ReadFault}
use Rattle.table_verify.specs.declared.read_fault.ReadFault.TheVariants.{NotAProgram, OutOfMemory}
use Rattle.table_verify.specs.declared.rest.Rest.{Rest}

-- instructions and texts, with the numbers of the first of each
pub record Left : Type 0 where
  pub at : ℕ
  pub text : ℕ
  pub code : List Instruction
  pub texts : List (List ℕ)

-- what the code's reader has left
abbrev pub seen : Rest → Left
seen r = record { at = r.at; text = r.text; code = drop r.at r.code.now; texts = drop r.text r.texts.now }

-- something read, and what is left behind it
abbrev pub Read : Type 0 → Type 0
Read A = Option (A × Left)

infixl 10 ◌>>=◌
-- what follows a reading
abbrev pub ◌>>=◌ : {A B : Type 0} → Option A → (A → Option B) → Option B
(Some x) >>= f = f x
None >>= f = None

-- a fault tells of want of memory, or that nothing is read
abbrev pub Fails : {Y : Type 0} → ReadFault → Option Y → Type 0
Fails NotAProgram read = read ≡ None
Fails OutOfMemory read = Unit {0}

-- an answer, seen so, is what a reading gives, unless memory ran out
abbrev pub Gives : {X Y : Type 0} → (X → Y) → Result X ReadFault → Option Y → Type 0
Gives view (Ok x) read = read ≡ Some (view x)
Gives view (Err fault) read = Fails fault read

-- the next instruction
abbrev pub next_of : Left → List Instruction → Read Instruction
next_of left [] = None
next_of left (i ∷ rest) = Some (i, record left { at = left.at + 1; code = rest })

abbrev pub next : Left → Read Instruction
next left = next_of left left.code

-- the next text
abbrev pub text_of : Left → List (List ℕ) → Read (List ℕ)
text_of left [] = None
text_of left (t ∷ rest) = Some (t, record left { text = left.text + 1; texts = rest })

abbrev pub text : Left → Read (List ℕ)
text left = text_of left left.texts

-- the text of this number, if it is the next one
unfoldable pub numbered : ℕ → Left → Read (List ℕ)
numbered number left = if number == left.text then text left else None

-- Where bodies and statements of a program stand in its code, and what they print among its texts.
use Rattle.std.specs.Prelude.{◌≡◌, ℕ, List, ◌++◌, length, Some, slice_get, IsTrue}
use Rattle.sial_syntax.specs.Proper.{proper_body, proper_form}
use Rattle.sial_syntax.specs.Tree.{Tree, Block, Plain}
use Rattle.sip_tables.specs.Code.{form_code, body_code, entries_of}
use Rattle.sip_tables.specs.declared.instruction.Instruction.{Instruction}
use Rattle.sip_tables.specs.Flatten.{flatten}
use Rattle.sip_tables.specs.Texts.{prints, body_prints}

-- a part of a list stands at a place
pub record PartAt {X : Type 0} (at : ℕ) (part whole : List X) : Type 0 where
  pub front : List X
  pub back : List X
  pub whole_is : whole ≡ front ++ (part ++ back)
  pub before : length front ≡ at

-- a program's code has an instruction at a place
abbrev pub HasAt : Tree → (at : ℕ) → Instruction → Type 0
HasAt p at i = slice_get (flatten p).code at ≡ Some i

-- a body stands at a place of a program's code: all that it names is there, and its texts are among the program's
pub record BodyStands (p : Tree) (at : ℕ) (body : Block) : Type 0 where
  pub proper : IsTrue (proper_body p body)
  pub text : ℕ
  pub code : PartAt at (body_code (entries_of p) at text body) (flatten p).code
  pub texts : PartAt text (body_prints body) (flatten p).texts

-- the same of one statement
pub record FormStands (p : Tree) (at line : ℕ) (form : Plain) : Type 0 where
  pub proper : IsTrue (proper_form p form)
  pub text : ℕ
  pub code : PartAt at (form_code (entries_of p) at text line form) (flatten p).code
  pub texts : PartAt text (prints form) (flatten p).texts

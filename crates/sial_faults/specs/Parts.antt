-- The parts of a program's text: what may have to stand next.
use Rattle.std.specs.Prelude.{ℕ, List}

-- a word that has to be just so
pub data Fixed : Type 0 where
  sial : Fixed
  of : Fixed
  line_end : Fixed
  opening : Fixed
  equals : Fixed
  plus_equals : Fixed
  comma : Fixed

-- what a name has to be declared as
pub data Asked : Type 0 where
  an_index : Asked
  an_array : Asked
  a_scalar : Asked
  a_scalar_or_array : Asked
  an_index_or_scalar : Asked

-- what a new name names
pub data Named : Type 0 where
  a_range : Named
  a_subindex : Named
  a_new_scalar : Named
  a_new_array : Named
  a_procedure : Named

-- what a body belongs to, which says how it ends
pub data Ending : Type 0 where
  of_program : Ending
  of_procedure : Ending
  of_do : Ending
  of_pardo : Ending
  of_if : Ending
  of_else : Ending

-- what may have to stand next; room is how many names a list may still have, and inner how many bodies may nest in a body
pub data Part : Type 0 where
  fixed : Fixed → Part
  text_end : Part
  -- the program's name, a new name, the line end of a declaration, a name that is declared, the name of a procedure
  title : Part
  new : Named → Part
  enters : Named → (name : List ℕ) → Part
  asked : Asked → Part
  called : Part
  -- single words
  bound : Part
  number : Part
  quoted : Part
  value : Part
  test : Part
  access : Part
  executed : Part
  -- a name of a block or a declaration, and what stands behind one; the same of slots, and of the indices of a pardo
  dim : (room : ℕ) → Part
  dim_end : (room : ℕ) → Part
  slot : (room : ℕ) → Part
  slot_end : (room : ℕ) → Part
  along : (inner room : ℕ) → (names : List (List ℕ)) → Part
  along_end : (inner room : ℕ) → (names : List (List ℕ)) → Part
  -- a right side from its first operand on, what stands behind that, a second operand, what stands behind a name of these
  right : Part
  bin_or_end : Part
  operand : Part
  dims_or_bin : Part
  dims_or_end : Part
  -- the sign of an assignment, with or without a list before it
  assign : Part
  dims_or_assign : Part
  -- `[name] NL` behind a request's block; the index of a loop, and what stands behind it
  index_or_end : Part
  loop : (inner : ℕ) → Part
  in_or_end : Part
  -- the name behind an end word, the names behind `endpardo`
  named_end : (opener : List ℕ) → Part
  list_end : (opener : List (List ℕ)) → Part
  list_name : (opener : List (List ℕ)) → Part
  list_more : (opener : List (List ℕ)) → Part
  -- statements up to the end word, conditions before them, procedures or declarations before those
  body : Ending → (inner : ℕ) → Part
  wheres : (inner : ℕ) → Part
  procedures : Part
  declarations : Part

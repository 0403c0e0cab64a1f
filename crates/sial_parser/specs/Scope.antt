-- What is declared, and what each name is declared as.
use Rattle.std.specs.Prelude.{◌≡◌, ℕ, List, [], ◌∷◌, ◌++◌, if◌then◌else◌, length, Option, Some, None}
use Rattle.std.specs.Str.{bytes_eq}
use Rattle.sial_syntax.specs.declared.array.ArrayDecl.{ArrayDecl}
use Rattle.sial_syntax.specs.declared.index.IndexDecl.{IndexDecl}
use Rattle.sial_parser.specs.declared.thing.Thing.{Thing}
use Rattle.sial_parser.specs.declared.thing.Thing.TheVariants.{Index, Array, Scalar, Proc}

-- a declared name
pub record Entry : Type 0 where
  pub name : List ℕ
  pub thing : Thing

-- the names declared so far, in order
abbrev pub Scope : Type 0
Scope = List Entry

-- what a name is declared as
abbrev pub thing_of : Scope → (name : List ℕ) → Option Thing
thing_of [] name = None
thing_of (e ∷ es) name = if bytes_eq name e.name then Some e.thing else thing_of es name

-- a name is free
abbrev pub IsFree : Scope → (name : List ℕ) → Type 0
IsFree s name = thing_of s name ≡ None

-- a name is declared as the index, array, scalar or procedure of a number
abbrev pub IsIndex : Scope → (name : List ℕ) → ℕ → Type 0
IsIndex s name i = thing_of s name ≡ Some (Index i)

abbrev pub IsArray : Scope → (name : List ℕ) → ℕ → Type 0
IsArray s name a = thing_of s name ≡ Some (Array a)

abbrev pub IsScalar : Scope → (name : List ℕ) → ℕ → Type 0
IsScalar s name x = thing_of s name ≡ Some (Scalar x)

abbrev pub IsProc : Scope → (name : List ℕ) → ℕ → Type 0
IsProc s name p = thing_of s name ≡ Some (Proc p)

-- what declarations declare, beside their names
pub record Declared : Type 0 where
  pub scope : Scope
  pub indices : List IndexDecl
  pub arrays : List ArrayDecl
  pub scalars : List (List ℕ)

-- nothing declared
abbrev pub nothing : Declared
nothing = record { scope = []; indices = []; arrays = []; scalars = [] }

-- with one more index, array or scalar, whose number is how many there were
abbrev pub with_index : Declared → IndexDecl → Declared
with_index d x = record {
  scope = d.scope ++ record { name = x.name; thing = Index (length d.indices) } ∷ [];
  indices = d.indices ++ x ∷ [];
  arrays = d.arrays;
  scalars = d.scalars;
}

abbrev pub with_array : Declared → ArrayDecl → Declared
with_array d x = record {
  scope = d.scope ++ record { name = x.name; thing = Array (length d.arrays) } ∷ [];
  indices = d.indices;
  arrays = d.arrays ++ x ∷ [];
  scalars = d.scalars;
}

abbrev pub with_scalar : Declared → (name : List ℕ) → Declared
with_scalar d name = record {
  scope = d.scope ++ record { name = name; thing = Scalar (length d.scalars) } ∷ [];
  indices = d.indices;
  arrays = d.arrays;
  scalars = d.scalars ++ name ∷ [];
}

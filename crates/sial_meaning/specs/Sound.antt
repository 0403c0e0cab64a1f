-- Settings that are a program's own: its classes, its spaces with some input, and start values that fit it.
use Rattle.std.specs.Prelude.{◌≡◌, List, [], ◌∷◌, length, Bool, true, false, ◌==◌, ◌&&◌, ◌||◌, nat_lt, IsTrue}
use Rattle.std.specs.List.{list_all, list_any}
use Rattle.sial_syntax.specs.declared.array.ArrayKind.{ArrayKind}
use Rattle.sial_syntax.specs.declared.array.ArrayKind.TheVariants.{Static, Temp, Local, Distributed, Served}
use Rattle.sial_syntax.specs.Proper.{IsProper, is_number}
use Rattle.sial_syntax.specs.Resolved.{AreSpacesOf}
use Rattle.sial_syntax.specs.SideRules.{IsGranted}
use Rattle.sial_syntax.specs.Sides.{scalar_classes, array_sides}
use Rattle.sial_meaning.specs.Setting.{Setting, Given, array_kind, block_count, block_words}

-- whether an input may give blocks of an array of this kind
abbrev pub may_be_given : ArrayKind → Bool
may_be_given Static = true
may_be_given Temp = false
may_be_given Local = false
may_be_given Distributed = false
may_be_given Served = true

-- whether a given block is one of a static or served array, with as many numbers as it has elements
abbrev pub is_start : Setting → Given → Bool
is_start g b =
    may_be_given (array_kind g b.array)
    && (nat_lt b.number (block_count g b.array) && ((length b.words == block_words g b.array b.number) && list_all is_number b.words))

-- whether two given blocks are one
abbrev pub same_given : Given → Given → Bool
same_given a b = (a.array == b.array) && (a.number == b.number)

-- whether a block is given twice
abbrev pub given_twice : List Given → Bool
given_twice [] = false
given_twice (b ∷ bs) = list_any (same_given b) bs || given_twice bs

-- a setting whose program is proper and granted, with the classes and sides that are the program's own
pub record IsGrantedSetting (g : Setting) : Type 0 where
  pub proper : IsProper g.program
  pub granted : IsGranted g.program
  pub scalars : g.scalars ≡ scalar_classes g.program
  pub sides : g.sides ≡ array_sides g.program

-- one that also has the program's spaces with some input, and start values that fit it
pub record IsSound (g : Setting) : Type 0 where
  pub setting : IsGrantedSetting g
  pub spaces : AreSpacesOf g.program g.spaces
  pub count : length g.numbers ≡ length g.program.scalars
  pub numbers : IsTrue (list_all is_number g.numbers)
  pub blocks : IsTrue (list_all (is_start g) g.blocks)
  pub once : given_twice g.blocks ≡ false

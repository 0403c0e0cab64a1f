-- Where tables are first the tables of no program.
use Rattle.std.specs.Prelude.{◌≡◌, ℕ, ◌+◌, Bool, ◌&&◌, IsTrue, nat_le, length, take}
use Rattle.std.specs.List.{list_all}
use Rattle.sial_syntax.specs.Limits.{most_nesting}
use Rattle.sial_syntax.specs.Proper.{body_nesting}
use Rattle.sial_syntax.specs.Tree.{Tree, Procedure, Block}
use Rattle.sip_tables.specs.Flatten.{flatten}
use Rattle.sip_tables.specs.Lists.{Lists}
use Rattle.table_verify.specs.Outline.{outline}

-- whether no more nests in a body than may
abbrev pub is_shallow : Block → Bool
is_shallow body = nat_le (body_nesting body) most_nesting

-- whether this is so in all bodies of a tree
abbrev pub is_nested : Tree → Bool
is_nested p = is_shallow p.body && list_all (λ (q : Procedure). is_shallow q.body) p.procedures

-- the first instructions of tables, so many, are by their lines and roles those of a program that has as many procedures; where there are no
-- more than so many in the tables, there are no more in the program
pub record Agrees (count : ℕ) (t : Lists) (p : Tree) : Type 0 where
  pub procedures : length p.procedures ≡ length t.procedures
  pub nested : IsTrue (is_nested p)
  pub front : take count (outline (flatten p).code) ≡ take count (outline t.code)

-- so many instructions begin the code of some program
abbrev pub Begins : ℕ → Lists → Type 0
Begins count t = (p : Tree) × Agrees count t p

-- nesting breaks at an instruction: those before it begin the code of some program, but not with it; where the code ends too early, that is
-- the number of its instructions
abbrev pub NestAt : ℕ → Lists → Type 0
NestAt at t = Begins at t × (Begins (at + 1) t → ⊥)

-- nesting breaks nowhere: some program has all these lines and roles
pub record Nests (t : Lists) (p : Tree) : Type 0 where
  pub procedures : length p.procedures ≡ length t.procedures
  pub nested : IsTrue (is_nested p)
  pub all : outline (flatten p).code ≡ outline t.code

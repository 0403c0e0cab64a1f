-- Numbers of things and texts, looked at one by one.
use Rattle.std.specs.Prelude.{ℕ, ◌+◌, ◌-◌, List, [], ◌∷◌, Bool, ◌&&◌, if◌then◌else◌, nat_le, length, Option, Some, None}
use Rattle.std.specs.List.{list_all}
use Rattle.sial_syntax.specs.Limits.{most_statements}
use Rattle.sial_syntax.specs.Tree.{Tree}
use Rattle.sip_tables.specs.declared.instruction.Instruction.{Instruction}
use Rattle.sip_tables.specs.declared.instruction.Operation.{Operation}
use Rattle.sip_tables.specs.declared.instruction.Operation.TheVariants as op
use Rattle.sip_tables.specs.Lists.{Lists}
use Rattle.table_verify.specs.Passing.{passes_lists, passes_names, passes_procedure}
use Rattle.table_verify.specs.Reading.{heads}
use Rattle.table_verify.specs.Rest.{◌>>=◌}
use Rattle.table_verify.specs.Things.{is_right, prints_in, begun_in}

-- whether a program's name and what it declares is proper
abbrev pub passes_heads : Tree → Bool
passes_heads p = passes_lists p && (passes_names p && list_all (passes_procedure p) p.procedures)

-- whether no text is left behind all that is printed, and no more statements begin than may
abbrev pub is_used : Lists → (next : ℕ) → Bool
is_used t next = nat_le (length t.texts - next) (prints_in t.code) && nat_le (begun_in t.code) most_statements

-- the program that tables declare, with no statement yet, and the number of the first text behind its names
unfoldable pub declared : Lists → Option (Tree × ℕ)
declared t = heads t >>= λ x. if passes_heads x.0 && is_used t x.1.text then Some (x.0, x.1.text) else None

-- the next text behind an operation that is right
abbrev pub next_after : ℕ → Operation → ℕ
next_after next (op.Print number) = number + 1
next_after next _ = next

-- the first instruction that isn't
abbrev pub first_other : Tree → List (List ℕ) → (next at : ℕ) → List Instruction → Option ℕ
first_other p texts next at [] = None
first_other p texts next at (i ∷ code) =
    if is_right p texts next i.operation then first_other p texts (next_after next i.operation) (at + 1) code else Some at

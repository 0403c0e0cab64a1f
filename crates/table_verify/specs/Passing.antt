-- What is left to look at in a program that was read.
use Rattle.std.specs.Prelude.{List, Bool, ◌&&◌, nat_le, length, Option, Some, None, if◌then◌else◌}
use Rattle.std.specs.List.{list_all, enumerate_from}
use Rattle.sial_syntax.specs.Limits.{most_names, most_statements}
use Rattle.sial_syntax.specs.Names.{is_name}
use Rattle.sial_syntax.specs.Proper.{proper_index, proper_array, proper_body, all_statements}
use Rattle.sial_syntax.specs.Tree.{Tree, Procedure}
use Rattle.sip_tables.specs.Lists.{Lists}
use Rattle.table_verify.specs.Numbers.{body_numbers}
use Rattle.table_verify.specs.Reading.{read}
use Rattle.table_verify.specs.Rest.{◌>>=◌}

-- a procedure's name is one, and the parts of its statements are there
abbrev pub passes_procedure : Tree → Procedure → Bool
passes_procedure p procedure = is_name procedure.name && proper_body p procedure.body

-- names are names, and what is declared is proper
abbrev pub passes_names : Tree → Bool
passes_names p = is_name p.name && (list_all proper_index (enumerate_from 0 p.indices) && (list_all (proper_array p) p.arrays && list_all is_name p.scalars))

-- the parts of all statements are there
abbrev pub passes_bodies : Tree → Bool
passes_bodies p = list_all (passes_procedure p) p.procedures && proper_body p p.body

-- no list is longer than it may be
abbrev pub passes_lists : Tree → Bool
passes_lists p = nat_le (length p.indices) most_names && (nat_le (length p.arrays) most_names && (nat_le (length p.scalars) most_names && nat_le (length p.procedures) most_names))

-- all of these
abbrev pub passes : Tree → Bool
passes p = passes_lists p && (passes_names p && (passes_bodies p && nat_le (all_statements p) most_statements))

-- a program that was read, if it passes
unfoldable pub verified : Lists → Option Tree
verified t = read t >>= λ p. if passes p then Some p else None

-- the numbers of all statements are numbers
abbrev pub procedures_numbers : List Procedure → Bool
procedures_numbers procedures = list_all (λ (q : Procedure). body_numbers q.body) procedures

abbrev pub all_numbers : Tree → Bool
all_numbers p = procedures_numbers p.procedures && body_numbers p.body

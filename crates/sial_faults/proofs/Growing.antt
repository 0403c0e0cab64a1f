-- A declaration that is read adds one to what is declared.
use Rattle.std.proofs.Common.{◌≡◌, ℕ, ◌+◌, ◌<◌, List, [], ◌∷◌, Bool, true, false, cond, nat_lt, length, Ok, Err, refl, sym, subst, arith}
use Rattle.std.proofs.lemmas.Bool.{ltb-true}
use Rattle.std.proofs.lemmas.List.{length-append}
use Rattle.sial_syntax.specs.Limits.{most_names}
use Rattle.sial_syntax.specs.declared.array.ArrayKind.{ArrayKind}
use Rattle.sial_syntax.specs.declared.array.ArrayKind.TheVariants as arrays
use Rattle.sial_syntax.specs.declared.index.IndexDecl.{IndexDecl}
use Rattle.sial_syntax.specs.declared.index.Kind.{Kind}
use Rattle.sial_syntax.specs.declared.index.Kind.TheVariants as kind
use Rattle.sial_syntax.specs.declared.index.Range.TheVariants as range
use Rattle.sial_parser.specs.Grammar.{at}
use Rattle.sial_parser.specs.Parsing.{Read, line_of, skip, name, index, dims, is_some, is_line_end, is_comma, is_equals, is_of, new_by, new_name, bound_at, segments_at, subindex_at, scalar_decl_at, array_decl_at, declaration_by, declaration}
use Rattle.sial_parser.specs.Scope.{Scope, thing_of, Declared, with_index}
use Rattle.sial_parser.specs.declared.fault.Counted.{Counted}
use Rattle.sial_parser.specs.declared.fault.ParseFault.TheVariants.{TooMany}
use Rattle.sial_parser.specs.declared.keyword.Keyword.{Keyword}
use Rattle.sial_parser.specs.declared.keyword.Keyword.TheVariants as key
use Rattle.sial_parser.specs.declared.word.Symbol.{Symbol}
use Rattle.sial_parser.specs.declared.word.Symbol.TheVariants.{Key}
use Rattle.sial_parser.specs.declared.word.Word.{Word}
use Rattle.sial_parser.proofs.DeclarationsSound.{Few}
use Rattle.sial_parser.proofs.ProgramAgain.{total}
use Rattle.sial_parser.proofs.Rights.{Right, right_then}
use Rattle.sial_faults.proofs.Counts.{any_then}

-- a new name has its number
new_room : (b c : Bool) (l count : ℕ) (which : Counted) (x : List ℕ) (rest : List Word) → nat_lt count most_names ≡ c → Right (λ y rest. count < most_names) (new_by l count which b x rest)
new_room true c l count which x rest e = tt
new_room false true l count which x rest e = subst (λ c. Right (λ y rest. count < most_names) (cond c (Ok (x, rest)) (Err (TooMany l which)))) (sym e) (ltb-true count most_names e)
new_room false false l count which x rest e = subst (λ c. Right (λ y rest. count < most_names) (cond c (Ok (x, rest)) (Err (TooMany l which)))) (sym e) tt

pub new_right : (s : Scope) (count : ℕ) (which : Counted) (ws : List Word) → Right (λ y rest. count < most_names) (new_name s count which ws)
unfolding new_name
new_right s count which ws = any_then (λ y rest. count < most_names) (name ws) _ (λ x. new_room (is_some (thing_of s x.0)) (nat_lt count most_names) (line_of ws) count which x.0 x.1 refl)

-- one more of what is declared
pub record Grows (d e : Declared) : Type 0 where
  pub one : total d + 1 ≡ total e
  pub few : Few d → Few e

module _ (d : Declared) where
  abbrev Growing : Read Declared → Type 0
  Growing r = Right (λ e rest. Grows d e) r

  index_grows : (x : IndexDecl) → length d.indices < most_names → Grows d (with_index d x)
  index_grows x room = let k = length-append d.indices (x ∷ []) in record { one = omega (arith, k); few = λ few. record { indices = omega (arith, k, room); arrays = few.arrays; scalars = few.scalars } }

  segments_grow : (which : Kind) (line : ℕ) (ws : List Word) → Growing (segments_at d which line ws)
  unfolding segments_at
  segments_grow which line ws = right_then (λ y rest. length d.indices < most_names) (λ e rest. Grows d e) (new_name d.scope (length d.indices) _ ws) _ (new_right d.scope (length d.indices) _ ws)
      (λ x rest room. any_then (λ e rest. Grows d e) (skip is_equals rest) _ (λ ws. any_then (λ e rest. Grows d e) (bound_at ws) _ (λ lo. any_then (λ e rest. Grows d e) (skip is_comma lo.1) _ (λ ws. any_then (λ e rest. Grows d e) (bound_at ws) _ (λ hi. any_then (λ e rest. Grows d e) (skip is_line_end hi.1) _
      (λ rest. index_grows (record { name = x; line = line; range = range.Segments which lo.0 hi.0 }) room))))))

  subindex_grows : (line : ℕ) (ws : List Word) → Growing (subindex_at d line ws)
  unfolding subindex_at
  subindex_grows line ws = right_then (λ y rest. length d.indices < most_names) (λ e rest. Grows d e) (new_name d.scope (length d.indices) _ ws) _ (new_right d.scope (length d.indices) _ ws)
      (λ x rest room. any_then (λ e rest. Grows d e) (skip is_of rest) _ (λ ws. any_then (λ e rest. Grows d e) (index d.scope ws) _ (λ i. any_then (λ e rest. Grows d e) (skip is_line_end i.1) _ (λ rest. index_grows (record { name = x; line = line; range = range.Sub i.0 }) room))))

  scalar_grows : (ws : List Word) → Growing (scalar_decl_at d ws)
  unfolding scalar_decl_at
  scalar_grows ws = right_then (λ y rest. length d.scalars < most_names) (λ e rest. Grows d e) (new_name d.scope (length d.scalars) _ ws) _ (new_right d.scope (length d.scalars) _ ws)
      (λ x rest room. any_then (λ e rest. Grows d e) (skip is_line_end rest) _ (λ rest. let k = length-append d.scalars (x ∷ []) in record { one = omega (arith, k); few = λ few. record { indices = few.indices; arrays = few.arrays; scalars = omega (arith, k, room) } }))

  array_grows : (which : ArrayKind) (line : ℕ) (ws : List Word) → Growing (array_decl_at d which line ws)
  unfolding array_decl_at
  array_grows which line ws = right_then (λ y rest. length d.arrays < most_names) (λ e rest. Grows d e) (new_name d.scope (length d.arrays) _ ws) _ (new_right d.scope (length d.arrays) _ ws)
      (λ x rest room. any_then (λ e rest. Grows d e) (dims d.scope rest) _ (λ is. any_then (λ e rest. Grows d e) (skip is_line_end is.1) _
      (λ rest. let k = length-append d.arrays (record { name = x; line = line; kind = which; dims = is.0 } ∷ []) in record { one = omega (arith, k); few = λ few. record { indices = few.indices; arrays = omega (arith, k, room); scalars = few.scalars } })))

  declaration_grows : (k : Keyword) (line : ℕ) (ws : List Word) → Growing (declaration_by d (Key k) (at line (Key k)) ws)
  declaration_grows key.AoIndex line ws = segments_grow kind.Ao line ws
  declaration_grows key.MoIndex line ws = segments_grow kind.Mo line ws
  declaration_grows key.MoaIndex line ws = segments_grow kind.Moa line ws
  declaration_grows key.MobIndex line ws = segments_grow kind.Mob line ws
  declaration_grows key.Index line ws = segments_grow kind.Index line ws
  declaration_grows key.SubIndex line ws = subindex_grows line ws
  declaration_grows key.Scalar line ws = scalar_grows ws
  declaration_grows key.Static line ws = array_grows arrays.Static line ws
  declaration_grows key.Temp line ws = array_grows arrays.Temp line ws
  declaration_grows key.Local line ws = array_grows arrays.Local line ws
  declaration_grows key.Distributed line ws = array_grows arrays.Distributed line ws
  declaration_grows key.Served line ws = array_grows arrays.Served line ws
  declaration_grows _ line ws = tt

  symbol_grows : (what : Symbol) (line : ℕ) (ws : List Word) → Growing (declaration_by d what (at line what) ws)
  symbol_grows (Key k) line ws = declaration_grows k line ws
  symbol_grows _ line ws = tt

  pub grows : (w : Word) (ws : List Word) → Growing (declaration d (w ∷ ws))
  unfolding declaration
  grows w ws = symbol_grows w.symbol w.line ws

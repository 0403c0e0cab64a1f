-- How a tree is looked through for the first profile: step by step, each step exact.
use Rattle.std.specs.Prelude.{ℕ, List, [], ◌∷◌, length, Bool, true, false, ◌==◌, ◌&&◌, nat_lt, Option, Some, None}
use Rattle.std.specs.List.{list_all}
use Rattle.sial_syntax.specs.Tree.{Tree, Procedure, Block, End, Then, Plain, Do, Assign, PrintScalar}
use Rattle.sial_syntax.specs.declared.array.ArrayDecl.{ArrayDecl}
use Rattle.sial_syntax.specs.declared.array.ArrayKind.{ArrayKind}
use Rattle.sial_syntax.specs.declared.array.ArrayKind.TheVariants.{Static}
use Rattle.sial_syntax.specs.declared.index.IndexDecl.{IndexDecl}
use Rattle.sial_syntax.specs.declared.index.Kind.TheVariants.{Ao}
use Rattle.sial_syntax.specs.declared.index.Range.{Range}
use Rattle.sial_syntax.specs.declared.index.Range.TheVariants.{Segments}
use Rattle.sial_syntax.specs.declared.operand.Bin.TheVariants.{Times}
use Rattle.sial_syntax.specs.declared.operand.BlockRef.{BlockRef}
use Rattle.sial_syntax.specs.declared.operand.Op.{Op}
use Rattle.sial_syntax.specs.declared.operand.Op.TheVariants.{Set, Add}
use Rattle.sial_syntax.specs.declared.operand.Operand.TheVariants as operand
use Rattle.sial_syntax.specs.declared.operand.Right.{Right}
use Rattle.sial_syntax.specs.declared.operand.Right.TheVariants.{One, Two}
use Rattle.sial_syntax.specs.declared.operand.Target.{Target}
use Rattle.sial_syntax.specs.declared.operand.Target.TheVariants as target
use Rattle.first_profile.specs.FirstTree.{dims_in}

-- whether a range is of ao segments
abbrev pub is_ao : Range → Bool
is_ao (Segments Ao lo hi) = true
is_ao _ = false

-- whether an index is an `aoindex`
abbrev pub is_ao_index : IndexDecl → Bool
is_ao_index index = is_ao index.range

-- whether there is one number, below this one
abbrev pub is_one_below : ℕ → List ℕ → Bool
is_one_below most (x ∷ []) = nat_lt x most
is_one_below most _ = false

-- whether a kind is that of static arrays
abbrev pub is_static : ArrayKind → Bool
is_static Static = true
is_static _ = false

-- whether an array is static and has one index
abbrev pub is_array : (indices : ℕ) → ArrayDecl → Bool
is_array indices array = is_static array.kind && is_one_below indices array.dims

-- whether an index is the only one
abbrev pub is_only : List ℕ → ℕ → Bool
is_only (x ∷ []) index = x == index
is_only _ index = false

-- whether a block stands in the loop over its only index, which is its array's
abbrev pub is_block : Tree → Option ℕ → BlockRef → Bool
is_block p None block = false
is_block p (Some index) block = is_only block.at index && is_only (dims_in p block.array) index

-- whether a scalar is there
abbrev pub is_scalar : Tree → ℕ → Bool
is_scalar p scalar = nat_lt scalar (length p.scalars)

-- whether an assignment to a block is of the profile
abbrev pub is_block_assignment : Tree → Option ℕ → BlockRef → Op → Right → Bool
is_block_assignment p loop block Set (One (operand.Number n)) = is_block p loop block
is_block_assignment p loop block Add (One (operand.Block other)) = is_block p loop block && is_block p loop other
is_block_assignment p loop block _ _ = false

-- whether an assignment to a scalar is of the profile
abbrev pub is_scalar_assignment : Tree → Option ℕ → ℕ → Op → Right → Bool
is_scalar_assignment p loop scalar Set (One (operand.Number n)) = is_scalar p scalar
is_scalar_assignment p loop scalar Add (One (operand.Number n)) = is_scalar p scalar
is_scalar_assignment p loop scalar Set (Two (operand.Block a) Times (operand.Block b)) =
    is_scalar p scalar && (is_block p loop a && is_block p loop b)
is_scalar_assignment p loop scalar _ _ = false

-- whether an assignment is of the profile
abbrev pub is_assignment : Tree → Option ℕ → Target → Op → Right → Bool
is_assignment p loop (target.Block block) op right = is_block_assignment p loop block op right
is_assignment p loop (target.Scalar scalar) op right = is_scalar_assignment p loop scalar op right

-- whether a statement that is no loop is of the profile, in the loop over an index or outside
abbrev pub is_simple : Tree → Option ℕ → Plain → Bool
is_simple p loop (Assign target op right) = is_assignment p loop target op right
is_simple p loop (PrintScalar scalar) = is_scalar p scalar
is_simple p loop _ = false

-- whether all statements are so
abbrev pub are_simple : Tree → Option ℕ → Block → Bool
are_simple p loop End = true
are_simple p loop (Then line form rest) = is_simple p loop form && are_simple p loop rest

-- whether a statement outside of loops is of the profile
abbrev pub is_form : Tree → Plain → Bool
is_form p (Do index body) = nat_lt index (length p.indices) && are_simple p (Some index) body
is_form p form = is_simple p None form

-- whether all statements are so
abbrev pub are_forms : Tree → Block → Bool
are_forms p End = true
are_forms p (Then line form rest) = is_form p form && are_forms p rest

-- whether all statements of a procedure are so
abbrev pub is_procedure : Tree → Procedure → Bool
is_procedure p q = are_forms p q.body

-- whether a tree is of the first profile
abbrev pub is_first_tree : Tree → Bool
is_first_tree p =
    list_all is_ao_index p.indices
    && (list_all (is_array (length p.indices)) p.arrays
    && (list_all (is_procedure p) p.procedures && are_forms p p.body))

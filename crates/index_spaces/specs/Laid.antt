-- The counts of blocks that are kept for arrays.
use Rattle.std.specs.Prelude.{◌≡◌, ℕ, ◌+◌, ◌≤◌, List, [], ◌∷◌, ◌++◌, map, Bool, true, false, ◌==◌, ◌&&◌, ◌||◌}
use Rattle.std.specs.List.{list_all}
use Rattle.sial_syntax.specs.declared.array.ArrayDecl.{ArrayDecl}
use Rattle.sial_syntax.specs.declared.array.ArrayKind.{ArrayKind}
use Rattle.sial_syntax.specs.declared.array.ArrayKind.TheVariants.{Temp}
use Rattle.sial_syntax.specs.Limits.{most_together}
use Rattle.sial_syntax.specs.Resolved.{has_few_blocks}
use Rattle.sial_syntax.specs.Spaces as sp
use Rattle.sial_syntax.specs.Spaces.{Cut, Spaces}
use Rattle.index_spaces.specs.declared.blocks.Blocks.{Blocks}
use Rattle.index_spaces.specs.Placed.{is_temp}

-- the array whose blocks are kept
abbrev pub decl_of : Blocks → ArrayDecl
decl_of b = record { name = []; line = 0; kind = b.kind; dims = b.dims }

-- the arrays whose blocks are kept
abbrev pub decls_of : List Blocks → List ArrayDecl
decls_of blocks = map decl_of blocks

-- no segments
abbrev pub no_cut : Cut
no_cut = record { segments = []; piece = 0 }

-- spaces in which indices run over these spans; how many blocks arrays have depends on nothing else
abbrev pub over : List sp.Span → Spaces
over spans = record { ao = no_cut; mo = no_cut; moa = no_cut; mob = no_cut; spans = spans }

-- whether what is kept of an array behind others is right; a temp's blocks aren't counted
abbrev pub is_laid : List sp.Span → (before : List ArrayDecl) → Blocks → Bool
is_laid spans before b =
    is_temp (decl_of b) || ((b.count == sp.blocks_of (over spans) (decl_of b)) && (b.first == sp.blocks_together (over spans) b.kind before))

-- whether what is kept of arrays behind others is right
abbrev pub are_laid : List sp.Span → (before : List ArrayDecl) → List Blocks → Bool
are_laid spans before [] = true
are_laid spans before (b ∷ bs) = is_laid spans before b && are_laid spans (before ++ decl_of b ∷ []) bs

-- how many blocks are kept for an array, where it is of a kind
abbrev pub kept_if : Bool → Blocks → ℕ
kept_if true b = b.count
kept_if false b = 0

-- how many blocks are kept for the arrays of a kind
abbrev pub kept_together : ArrayKind → List Blocks → ℕ
kept_together kind [] = 0
kept_together kind (b ∷ bs) = kept_if (sp.same_kind b.kind kind) b + kept_together kind bs

-- the arrays of each kind but temp have not too many blocks together
abbrev pub AreFewTogether : List sp.Span → List ArrayDecl → Type 0
AreFewTogether spans arrays = (kind : ArrayKind) → sp.same_kind kind Temp ≡ false → sp.blocks_together (over spans) kind arrays ≤ most_together

-- each array but temps has not too many blocks
abbrev pub are_few : List sp.Span → List ArrayDecl → Bool
are_few spans arrays = list_all (has_few_blocks (over spans)) arrays

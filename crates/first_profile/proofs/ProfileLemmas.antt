-- Trees that are found to be of the first profile.
use Rattle.std.proofs.Common.{◌≡◌, ℕ, zero, suc, ◌<◌, List, [], ◌∷◌, length, map, Bool, true, ◌&&◌, nat_lt, Option, Some, None, slice_index_or, eqb-true, refl, ap, ◌∙◌, sym, subst, arith}
use Rattle.std.specs.List.{list_all, All}
use Rattle.std.specs.Prelude.{IsTrue, ◌↔◌}
use Rattle.std.proofs.lemmas.Bool.{ltb-true, lt-ltb, eq-eqb}
use Rattle.std.proofs.lemmas.List.Elements.{All-nil, All-cons, All-head, All-tail}
use Rattle.std.proofs.lemmas.List.Folds.{list_all-map}
use Rattle.sial_syntax.specs.declared.array.ArrayDecl.{ArrayDecl}
use Rattle.sial_syntax.specs.declared.array.ArrayKind.{ArrayKind}
use Rattle.sial_syntax.specs.declared.array.ArrayKind.TheVariants.{Static}
use Rattle.sial_syntax.specs.declared.index.Bound.{Bound}
use Rattle.sial_syntax.specs.declared.index.IndexDecl.{IndexDecl}
use Rattle.sial_syntax.specs.declared.index.Kind.TheVariants.{Ao}
use Rattle.sial_syntax.specs.declared.index.Range.{Range}
use Rattle.sial_syntax.specs.declared.index.Range.TheVariants.{Segments}
use Rattle.sial_syntax.specs.declared.operand.Bin.TheVariants.{Times}
use Rattle.sial_syntax.specs.declared.operand.BlockRef.{BlockRef}
use Rattle.sial_syntax.specs.declared.operand.Op.TheVariants.{Set, Add}
use Rattle.sial_syntax.specs.declared.operand.Operand.TheVariants as operand
use Rattle.sial_syntax.specs.declared.operand.Right.TheVariants.{One, Two}
use Rattle.sial_syntax.specs.declared.operand.Target.TheVariants as target
use Rattle.sial_syntax.specs.declared.program.Proc.{Proc}
use Rattle.sial_syntax.specs.declared.statement.Stmt.{Stmt}
use Rattle.sial_syntax.specs.Tree.{Tree, Procedure, Block, End, Then, Plain, Do, Assign, PrintScalar, block, plain_form, procedure}
use Rattle.sial_syntax.proofs.TreeLemmas.{seen_block}
use Rattle.first_profile.proofs.SoundLemmas.{first_of_two, last_of_two, both}
use Rattle.first_profile.specs.FirstTree.{IsAoIndex, IsArray, IsBlock, IsBody, IsFirstTree, IsForm, IsProcedure, IsScalar, OneBelow, dims_in}
use Rattle.first_profile.specs.Looking.{are_forms, are_simple, is_ao, is_ao_index, is_array, is_block, is_first_tree, is_form, is_one_below, is_only, is_procedure, is_scalar, is_simple, is_static}

-- One number below another.
below_is : (most : ℕ) (xs : List ℕ) → is_one_below most xs ≡ true → OneBelow most xs
below_is most [] e = cc
below_is most (x ∷ []) e = ltb-true x most e
below_is most (x ∷ y ∷ more) e = cc

below_again : (most : ℕ) (xs : List ℕ) → OneBelow most xs → is_one_below most xs ≡ true
below_again most [] h = absurd h
below_again most (x ∷ []) h = lt-ltb x most h
below_again most (x ∷ y ∷ more) h = absurd h

static_is : (kind : ArrayKind) → is_static kind ≡ true → kind ≡ Static
static_is Static e = refl
static_is kind e = cc

array_is : (n : ℕ) (array : ArrayDecl) → is_array n array ≡ true → IsArray n array
array_is n array e =
    (static_is array.kind (first_of_two (is_static array.kind) (is_one_below n array.dims) e), below_is n array.dims (last_of_two (is_static array.kind) (is_one_below n array.dims) e))

array_again : (n : ℕ) (array : ArrayDecl) → IsArray n array → is_array n array ≡ true
array_again n array h = both (is_static array.kind) (is_one_below n array.dims) (ap is_static h.0) (below_again n array.dims h.1)

-- Parts that are all found to be of the profile are.
all_are : {X : Type 0} (test : X → Bool) (P : X → Type 0) → ((x : X) → test x ≡ true → P x) → (xs : List X) → list_all test xs ≡ true → All P xs
all_are test P is [] e = All-nil P
all_are test P is (x ∷ xs) e =
    All-cons P x xs (is x (first_of_two (test x) (list_all test xs) e)) (all_are test P is xs (last_of_two (test x) (list_all test xs) e))

all_again : {X : Type 0} (test : X → Bool) (P : X → Type 0) → ((x : X) → P x → test x ≡ true) → (xs : List X) → All P xs → list_all test xs ≡ true
all_again test P again [] h = refl
all_again test P again (x ∷ xs) h = both (test x) (list_all test xs) (again x (All-head P x xs h)) (all_again test P again xs (All-tail P x xs h))

ao_is : (range : Range) → is_ao range ≡ true → (lo : Bound) × (hi : Bound) × (range ≡ Segments Ao lo hi)
ao_is (Segments Ao lo hi) e = (lo, hi, refl)
ao_is range e = absurd cc

ao_again : (index : IndexDecl) → IsAoIndex index → is_ao_index index ≡ true
ao_again index h = ap is_ao h.2

-- An index that is the only one.
only_is : (xs : List ℕ) (index : ℕ) → is_only xs index ≡ true → xs ≡ index ∷ []
only_is [] index e = cc
only_is (x ∷ []) index e = ap (λ n. n ∷ []) (eqb-true x index e)
only_is (x ∷ y ∷ more) index e = cc

only_again : (xs : List ℕ) (index : ℕ) → xs ≡ index ∷ [] → is_only xs index ≡ true
only_again xs index e = ap (λ l. is_only l index) e ∙ eq-eqb index index refl

-- an array that isn't there
abbrev no_array : ArrayDecl
no_array = record { name = []; line = 0; kind = Static; dims = [] }

-- An array with an index is there.
is_there : (arrays : List ArrayDecl) (k index : ℕ) → (slice_index_or arrays k no_array).dims ≡ index ∷ [] → k < length arrays
is_there [] k index e = absurd cc
is_there (a ∷ others) zero index e = omega arith
is_there (a ∷ others) (suc k) index e = let h : k < length others = is_there others k index e in omega (arith, h)

block_is : (p : Tree) (loop : Option ℕ) (block : BlockRef) → is_block p loop block ≡ true → IsBlock p loop block
block_is p None block e = absurd cc
block_is p (Some index) block e =
    let at : block.at ≡ index ∷ [] = only_is block.at index (first_of_two (is_only block.at index) (is_only (dims_in p block.array) index) e) in
    let dims : dims_in p block.array ≡ index ∷ [] = only_is (dims_in p block.array) index (last_of_two (is_only block.at index) (is_only (dims_in p block.array) index) e) in
    record { array = is_there p.arrays block.array index dims; declared = dims ∙ sym at; looped = (index, refl, at) }

block_again : (p : Tree) (loop : Option ℕ) (block : BlockRef) → IsBlock p loop block → is_block p loop block ≡ true
block_again p loop block h =
    let index : ℕ = h.looped.0 in
    ap (λ (l : Option ℕ). is_block p l block) h.looped.1
    ∙ both (is_only block.at index) (is_only (dims_in p block.array) index) (only_again block.at index h.looped.2) (only_again (dims_in p block.array) index (h.declared ∙ h.looped.2))

scalar_is : (p : Tree) (scalar : ℕ) → is_scalar p scalar ≡ true → IsScalar p scalar
scalar_is p scalar e = ltb-true scalar (length p.scalars) e

scalar_again : (p : Tree) (scalar : ℕ) → IsScalar p scalar → is_scalar p scalar ≡ true
scalar_again p scalar h = lt-ltb scalar (length p.scalars) h

simple_is : (p : Tree) (loop : Option ℕ) (form : Plain) → is_simple p loop form ≡ true → IsForm p loop form
simple_is p None (Do index body) e = absurd cc
simple_is p (Some outer) (Do index body) e = absurd cc
simple_is p loop (Assign (target.Block t) Set (One (operand.Number n))) e = block_is p loop t e
simple_is p loop (Assign (target.Block t) Add (One (operand.Block b))) e =
    (block_is p loop t (first_of_two (is_block p loop t) (is_block p loop b) e), block_is p loop b (last_of_two (is_block p loop t) (is_block p loop b) e))
simple_is p loop (Assign (target.Scalar s) Set (One (operand.Number n))) e = scalar_is p s e
simple_is p loop (Assign (target.Scalar s) Add (One (operand.Number n))) e = scalar_is p s e
simple_is p loop (Assign (target.Scalar s) Set (Two (operand.Block a) Times (operand.Block b))) e =
    let blocks : (is_block p loop a && is_block p loop b) ≡ true = last_of_two (is_scalar p s) (is_block p loop a && is_block p loop b) e in (
      scalar_is p s (first_of_two (is_scalar p s) (is_block p loop a && is_block p loop b) e),
      block_is p loop a (first_of_two (is_block p loop a) (is_block p loop b) blocks),
      block_is p loop b (last_of_two (is_block p loop a) (is_block p loop b) blocks),
    )
simple_is p loop (PrintScalar s) e = scalar_is p s e
simple_is p loop form e = absurd cc

simple_again : (p : Tree) (loop : Option ℕ) (form : Plain) → IsForm p loop form → ((index : ℕ) (body : Block) → form ≡ Do index body → ⊥) → is_simple p loop form ≡ true
simple_again p None (Do index body) h not = absurd (not index body refl)
simple_again p (Some outer) (Do index body) h not = absurd h
simple_again p loop (Assign (target.Block t) Set (One (operand.Number n))) h not = block_again p loop t h
simple_again p loop (Assign (target.Block t) Add (One (operand.Block b))) h not = both (is_block p loop t) (is_block p loop b) (block_again p loop t h.0) (block_again p loop b h.1)
simple_again p loop (Assign (target.Scalar s) Set (One (operand.Number n))) h not = scalar_again p s h
simple_again p loop (Assign (target.Scalar s) Add (One (operand.Number n))) h not = scalar_again p s h
simple_again p loop (Assign (target.Scalar s) Set (Two (operand.Block a) Times (operand.Block b))) h not =
    both (is_scalar p s) (is_block p loop a && is_block p loop b) (scalar_again p s h.0) (both (is_block p loop a) (is_block p loop b) (block_again p loop a h.1) (block_again p loop b h.2))
simple_again p loop (PrintScalar s) h not = scalar_again p s h
simple_again p loop form h not = absurd h

simple_are : (p : Tree) (loop : Option ℕ) (body : Block) → are_simple p loop body ≡ true → IsBody p loop body
simple_are p loop End e = tt
simple_are p loop (Then line form rest) e =
    (simple_is p loop form (first_of_two (is_simple p loop form) (are_simple p loop rest) e), simple_are p loop rest (last_of_two (is_simple p loop form) (are_simple p loop rest) e))

-- a statement within a loop is none itself
no_loop : (p : Tree) (outer : ℕ) (form : Plain) → IsForm p (Some outer) form → (index : ℕ) (body : Block) → form ≡ Do index body → ⊥
no_loop p outer form h index body e = subst (λ (f : Plain). IsForm p (Some outer) f) e h

simple_all_again : (p : Tree) (outer : ℕ) (body : Block) → IsBody p (Some outer) body → are_simple p (Some outer) body ≡ true
simple_all_again p outer End h = refl
simple_all_again p outer (Then line form rest) h =
    both (is_simple p (Some outer) form) (are_simple p (Some outer) rest) (simple_again p (Some outer) form h.0 (no_loop p outer form h.0)) (simple_all_again p outer rest h.1)

form_is : (p : Tree) (form : Plain) → is_form p form ≡ true → IsForm p None form
form_is p (Do index body) e = (
  ltb-true index (length p.indices) (first_of_two (nat_lt index (length p.indices)) (are_simple p (Some index) body) e),
  simple_are p (Some index) body (last_of_two (nat_lt index (length p.indices)) (are_simple p (Some index) body) e),
)
form_is p form e = simple_is p None form e

form_again : (p : Tree) (form : Plain) → IsForm p None form → is_form p form ≡ true
form_again p (Do index body) h =
    both (nat_lt index (length p.indices)) (are_simple p (Some index) body) (lt-ltb index (length p.indices) h.0) (simple_all_again p index body h.1)
form_again p form h = simple_again p None form h (λ index body e. absurd cc)

forms_are : (p : Tree) (body : Block) → are_forms p body ≡ true → IsBody p None body
forms_are p End e = tt
forms_are p (Then line form rest) e =
    (form_is p form (first_of_two (is_form p form) (are_forms p rest) e), forms_are p rest (last_of_two (is_form p form) (are_forms p rest) e))

forms_again : (p : Tree) (body : Block) → IsBody p None body → are_forms p body ≡ true
forms_again p End h = refl
forms_again p (Then line form rest) h = both (is_form p form) (are_forms p rest) (form_again p form h.0) (forms_again p rest h.1)

-- A tree that is found to be of the first profile is.
pub tree_is : (p : Tree) → is_first_tree p ≡ true → IsFirstTree p
tree_is p e =
    let beside : (list_all (is_array (length p.indices)) p.arrays && (list_all (is_procedure p) p.procedures && are_forms p p.body)) ≡ true =
    last_of_two (list_all is_ao_index p.indices) _ e in
    let statements : (list_all (is_procedure p) p.procedures && are_forms p p.body) ≡ true = last_of_two (list_all (is_array (length p.indices)) p.arrays) _ beside in
    record {
      indices = all_are is_ao_index IsAoIndex (λ (i : IndexDecl). ao_is i.range) p.indices (first_of_two (list_all is_ao_index p.indices) _ e);
      arrays = all_are (is_array (length p.indices)) (IsArray (length p.indices)) (array_is (length p.indices)) p.arrays (first_of_two (list_all (is_array (length p.indices)) p.arrays) _ beside);
      procedures = all_are (is_procedure p) (IsProcedure p) (λ (q : Procedure). forms_are p q.body) p.procedures (first_of_two (list_all (is_procedure p) p.procedures) _ statements);
      body = forms_are p p.body (last_of_two (list_all (is_procedure p) p.procedures) (are_forms p p.body) statements);
    }

-- One that is is found to be.
pub tree_again : (p : Tree) → IsFirstTree p → is_first_tree p ≡ true
tree_again p h =
    both (list_all is_ao_index p.indices) _ (all_again is_ao_index IsAoIndex ao_again p.indices h.indices)
    (both (list_all (is_array (length p.indices)) p.arrays) _ (all_again (is_array (length p.indices)) (IsArray (length p.indices)) (array_again (length p.indices)) p.arrays h.arrays)
    (both (list_all (is_procedure p) p.procedures) (are_forms p p.body) (all_again (is_procedure p) (IsProcedure p) (λ (q : Procedure). forms_again p q.body) p.procedures h.procedures)
    (forms_again p p.body h.body)))

-- So the test tells.
pub found : (p : Tree) (test : Bool) → test ≡ is_first_tree p → IsTrue test ↔ IsFirstTree p
found p test e = (λ holds. tree_is p (sym e ∙ holds), λ h. e ∙ tree_again p h)

-- The statements of a loop, looked through one after another.
pub simple_listed : (p : Tree) (loop : Option ℕ) (stmts : List Stmt) → are_simple p loop (block stmts) ≡ list_all (λ (s : Stmt). is_simple p loop (plain_form s.form)) stmts
simple_listed p loop [] = refl
simple_listed p loop (s ∷ ss) = ap (are_simple p loop) (seen_block s ss) ∙ ap (λ t. is_simple p loop (plain_form s.form) && t) (simple_listed p loop ss)

-- Those outside of loops.
pub forms_listed : (p : Tree) (stmts : List Stmt) → are_forms p (block stmts) ≡ list_all (λ (s : Stmt). is_form p (plain_form s.form)) stmts
forms_listed p [] = refl
forms_listed p (s ∷ ss) = ap (are_forms p) (seen_block s ss) ∙ ap (λ t. is_form p (plain_form s.form) && t) (forms_listed p ss)

-- The procedures, looked through one after another.
pub procedures_listed : (p : Tree) (procs : List Proc) → list_all (is_procedure p) (map procedure procs) ≡ list_all (λ (q : Proc). is_procedure p (procedure q)) procs
procedures_listed p procs = list_all-map (is_procedure p) procedure procs

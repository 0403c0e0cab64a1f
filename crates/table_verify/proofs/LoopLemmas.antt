-- Loops that read as long as something comes next.
use Rattle.std.proofs.Common.{◌≡◌, ℕ, zero, suc, ◌+◌, ◌<◌, length, drop, slice_index_or, List, [], ◌∷◌, ◌++◌, Bool, true, false, cond, Some, None, sym, ap, ◌∙◌}
use Rattle.std.proofs.lemmas.List.{drop_more}
use Rattle.sial_syntax.specs.declared.condition.Cond.{Cond}
use Rattle.sial_syntax.specs.Tree.{Block, Plain, block_of}
use Rattle.table_verify.specs.declared.read_fault.ReadFault.{ReadFault}
use Rattle.table_verify.specs.declared.read_fault.ReadFault.TheVariants.{NotAProgram, OutOfMemory}
use Rattle.table_verify.specs.Rest.{Left, Read, Fails, ◌>>=◌}
use Rattle.table_verify.specs.Closings.{begin, more, where_at, wheres}
use Rattle.table_verify.specs.Names.{each}
use Rattle.table_verify.specs.Statements.{Inner, statement, turns}

-- no condition comes next
pub wheres_end : (line n : ℕ) (front : List Cond) (left : Left) (whole : Read (List Cond)) → wheres line n front left ≡ whole → where_at line left ≡ None → whole ≡ Some (front, left)
unfolding wheres
wheres_end line zero front left whole leads none = sym leads
wheres_end line (suc n) front left whole leads none = sym leads ∙ ap (λ (o : Read Cond). more o (front, left) (λ x. wheres line n (front ++ x.0 ∷ []) x.1)) none

-- no turn is left
pub wheres_full : (line n : ℕ) (front : List Cond) (left : Left) (whole : Read (List Cond)) → wheres line n front left ≡ whole → n ≡ 0 → whole ≡ Some (front, left)
unfolding wheres
wheres_full line n front left whole leads is = sym leads ∙ ap (λ (m : ℕ). wheres line m front left) is

-- one condition more
pub wheres_on : (line n m : ℕ) (front : List Cond) (left : Left) (whole : Read (List Cond)) (test : Cond) (behind : Left) → n ≡ suc m → wheres line n front left ≡ whole → where_at line left ≡ Some (test, behind)
    → wheres line m (front ++ test ∷ []) behind ≡ whole
unfolding wheres
wheres_on line n m front left whole test behind is leads found =
    sym (ap (λ (o : Read Cond). more o (front, left) (λ x. wheres line m (front ++ x.0 ∷ []) x.1)) found) ∙ sym (ap (λ (k : ℕ). wheres line k front left) is) ∙ leads

-- one turn of a body
abbrev pub turn_of : (entries : List ℕ) → (most : ℕ) → Inner → (n : ℕ) → (front : List (ℕ × Plain)) → Left → Bool → Read (ℕ × Plain) → Read Block
turn_of entries most inner n front left begins read = cond begins (read >>= λ x. turns entries most inner n (front ++ x.0 ∷ []) x.1) (Some (block_of front, left))

-- no statement comes next
pub turns_end : (entries : List ℕ) (most : ℕ) (inner : Inner) (n : ℕ) (front : List (ℕ × Plain)) (left : Left) (whole : Read Block) → turns entries most inner n front left ≡ whole → begin left.code ≡ false
    → whole ≡ Some (block_of front, left)
unfolding turns
turns_end entries most inner zero front left whole leads none = sym leads
turns_end entries most inner (suc n) front left whole leads none =
    sym leads ∙ ap (λ (b : Bool). turn_of entries most inner n front left b (statement entries most inner left)) none

-- no turn is left
pub turns_full : (entries : List ℕ) (most : ℕ) (inner : Inner) (n : ℕ) (front : List (ℕ × Plain)) (left : Left) (whole : Read Block) → turns entries most inner n front left ≡ whole → n ≡ 0
    → whole ≡ Some (block_of front, left)
unfolding turns
turns_full entries most inner n front left whole leads is = sym leads ∙ ap (λ (m : ℕ). turns entries most inner m front left) is

-- what a turn makes of what was read
turned : (entries : List ℕ) (most : ℕ) (inner : Inner) (n m : ℕ) (front : List (ℕ × Plain)) (left : Left) (whole : Read Block) (read : Read (ℕ × Plain)) → n ≡ suc m → turns entries most inner n front left ≡ whole → begin left.code ≡ true
    → statement entries most inner left ≡ read → turn_of entries most inner m front left true read ≡ whole
unfolding turns
turned entries most inner n m front left whole read is leads begins found =
    sym (ap (λ (r : Read (ℕ × Plain)). turn_of entries most inner m front left true r) found)
    ∙ sym (ap (λ (b : Bool). turn_of entries most inner m front left b (statement entries most inner left)) begins)
    ∙ sym (ap (λ (k : ℕ). turns entries most inner k front left) is)
    ∙ leads

-- one statement more
pub turns_on : (entries : List ℕ) (most : ℕ) (inner : Inner) (n m : ℕ) (front : List (ℕ × Plain)) (left : Left) (whole : Read Block) (x : ℕ × Plain) (behind : Left) → n ≡ suc m → turns entries most inner n front left ≡ whole → begin left.code ≡ true
    → statement entries most inner left ≡ Some (x, behind) → turns entries most inner m (front ++ x ∷ []) behind ≡ whole
turns_on entries most inner n m front left whole x behind is leads begins found = turned entries most inner n m front left whole (Some (x, behind)) is leads begins found

-- a statement that isn't read
pub turns_fail : (entries : List ℕ) (most : ℕ) (inner : Inner) (n m : ℕ) (front : List (ℕ × Plain)) (left : Left) (whole : Read Block) (fault : ReadFault) → n ≡ suc m → turns entries most inner n front left ≡ whole → begin left.code ≡ true
    → Fails fault (statement entries most inner left) → Fails fault whole
turns_fail entries most inner n m front left whole NotAProgram is leads begins found = sym (turned entries most inner n m front left whole None is leads begins found)
turns_fail entries most inner n m front left whole OutOfMemory is leads begins found = tt

-- what is left of entries begins with the one at hand
pub entries_left : {E : Type 0} (es : List E) (i : ℕ) (e : E) → i < length es → e ≡ slice_index_or es i e → drop i es ≡ e ∷ drop (i + 1) es
entries_left es i e within is = drop_more es i e within ∙ ap (λ (x : _). x ∷ drop (i + 1) es) (sym is)

-- what the other entries make of what was read for the first
eached : {E D : Type 0} (read : E → Left → Read D) (front : List D) (xs ys : List E) (e : E) (left : Left) (whole : Read (List D)) (found : Read D) → each read front xs left ≡ whole → read e left ≡ found → xs ≡ e ∷ ys
    → (found >>= λ x. each read (front ++ x.0 ∷ []) ys x.1) ≡ whole
unfolding each
eached read front xs ys e left whole found leads given split =
    sym (ap (λ r. r >>= λ x. each read (front ++ x.0 ∷ []) ys x.1) given) ∙ sym (ap (λ zs. each read front zs left) split) ∙ leads

-- one entry more
pub each_on : {E D : Type 0} (read : E → Left → Read D) (front : List D) (xs ys : List E) (e : E) (left : Left) (whole : Read (List D)) (x : D) (behind : Left) → each read front xs left ≡ whole → read e left ≡ Some (x, behind)
    → xs ≡ e ∷ ys → each read (front ++ x ∷ []) ys behind ≡ whole
each_on read front xs ys e left whole x behind leads given split = eached read front xs ys e left whole (Some (x, behind)) leads given split

-- an entry that isn't read
pub each_fail : {E D : Type 0} (read : E → Left → Read D) (front : List D) (xs ys : List E) (e : E) (left : Left) (whole : Read (List D)) (fault : ReadFault) → each read front xs left ≡ whole → Fails fault (read e left)
    → xs ≡ e ∷ ys → Fails fault whole
each_fail read front xs ys e left whole NotAProgram leads given split = sym (eached read front xs ys e left whole None leads given split)
each_fail read front xs ys e left whole OutOfMemory leads given split = tt

-- no entry is left
pub each_done : {E D : Type 0} (read : E → Left → Read D) (front : List D) (xs : List E) (left : Left) (whole : Read (List D)) → each read front xs left ≡ whole → xs ≡ [] → whole ≡ Some (front, left)
unfolding each
each_done read front xs left whole leads none = sym leads ∙ ap (λ zs. each read front zs left) none

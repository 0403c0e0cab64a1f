-- Each statement of the first profile, as the sequential meaning has it.
use Rattle.std.proofs.Common.{◌≡◌, ℕ, ◌-◌, ◌<◌, Bool, true, false, List, [], ◌∷◌, ◌++◌, Option, Some, None, Ok, map, length, replicate, slice_index_or, slice_set, sym, ap, ◌∙◌, subst, append-nil, drop, if◌then◌else◌}
use Rattle.std.specs.List.{list_any}
use Rattle.std.proofs.lemmas.List.{map-set, get_or-map}
use Rattle.block_math.specs.Elements.{sums, dot_of}
use Rattle.sial_syntax.specs.Boxes.{place_of}
use Rattle.sial_syntax.specs.Spaces.{Extent, Segments, span_of, span_extent, first_of, count_of, kind_of, segment, extent, box_of, from_firsts}
use Rattle.sial_syntax.specs.Tree.{Assign, PrintScalar}
use Rattle.sial_syntax.specs.declared.array.ArrayKind.{ArrayKind}
use Rattle.sial_syntax.specs.declared.array.ArrayKind.TheVariants.{Static}
use Rattle.sial_syntax.specs.declared.classes.ScalarClass.{ScalarClass}
use Rattle.sial_syntax.specs.declared.classes.ScalarClass.TheVariants.{Replicated}
use Rattle.sial_syntax.specs.declared.operand.Bin.TheVariants.{Times}
use Rattle.sial_syntax.specs.declared.operand.BlockRef.{BlockRef}
use Rattle.sial_syntax.specs.declared.operand.Op.{Op}
use Rattle.sial_syntax.specs.declared.operand.Op.TheVariants.{Set, Add}
use Rattle.sial_syntax.specs.declared.operand.Operand.TheVariants as operand
use Rattle.sial_syntax.specs.declared.operand.Right.TheVariants.{One, Two}
use Rattle.sial_syntax.specs.declared.operand.Target.TheVariants as target
use Rattle.sial_meaning.specs.LocalStep.{and_then, or_trap, to_scalar, to_block, to_target, is_shared_kind, words_by_kind, scalar_assigned, scalar_line, old_words, quiet, with_words as with_words_own}
use Rattle.sial_meaning.specs.declared.trap.TrapKind.TheVariants.{UnsetScalar, NotCreated}
use Rattle.sial_meaning.specs.Meaning.{form_meaning}
use Rattle.sial_meaning.specs.Number.{plus}
use Rattle.sial_meaning.specs.Own.{Own, start_own, number_of, scalar_of, sight, static_block}
use Rattle.sial_meaning.specs.Right.{Plain as Uniform, Shown, Side, Alone, Joined, assigned}
use Rattle.sial_meaning.specs.Setting.{scalar_class, array_kind, dims_of, Setting}
use Rattle.sial_meaning.specs.State.{State, start_state}
use Rattle.sial_meaning.specs.Statement.{Outcome, Went, Present, local_done, unless_trapped, is_missing, reads_logged, values_of}
use Rattle.sial_meaning.specs.Sight.{Sight}
use Rattle.first_profile.specs.Running.{Numbers, segment_len, state_of, words_of, with_words, with_scalar, scalar_in, number_in, line_of}
use Rattle.first_profile.proofs.BlocksSeen.{one, filled-one, added-one, product-one}
use Rattle.first_profile.proofs.Places.{place-one}
use Rattle.first_profile.specs.Fits.{Fits}

-- the worker's part of that state
abbrev pub own_of : Setting → Numbers → Own
own_of g m = record (start_own g) { values = m.values; scalars = map Some m.scalars; statics = m.statics }

-- each scalar is replicated
abbrev pub AllReplicated : Setting → Type 0
AllReplicated g = (scalar : ℕ) → scalar_class g scalar ≡ Replicated

-- a scalar that is there has its number
pub scalar-is : (g : Setting) (m : Numbers) (scalar : ℕ) → scalar < length g.program.scalars → Fits g m → scalar_of (own_of g m) scalar ≡ Some (scalar_in m scalar)
scalar-is g m scalar within fits = get_or-map Some m.scalars scalar 0 None (subst (λ n. scalar < n) (sym fits.scalars) within)

-- `execute print_scalar s`
pub print-law : (g : Setting) (call : ℕ → State → Outcome) (line : ℕ) (m : Numbers) (lines : List (List ℕ)) (scalar : ℕ) → scalar < length g.program.scalars → Fits g m → form_meaning Present g call line (PrintScalar scalar) (state_of g m lines) ≡ Went (state_of g m (lines ++ line_of g m scalar ∷ []))
print-law g call line m lines scalar within fits =
    ap
    (λ (o : Option ℕ). local_done line (state_of g m lines) (and_then (or_trap UnsetScalar o) (λ n. Ok (record { own = own_of g m; partials = (state_of g m lines).partials; printed = scalar_line g scalar n ∷ [] }))))
    (scalar-is g m scalar within fits)

-- where a statement leads that gave these scalars and blocks and printed nothing
abbrev pub went : Setting → Numbers → List (Option ℕ) → List (List (List ℕ)) → List (List ℕ) → Outcome
went g m scalars statics lines = Went (record (start_state g) {
  own = record (start_own g) { values = m.values; scalars = scalars; statics = statics };
  lines = lines;
})

-- a scalar set
pub went_scalar : (g : Setting) (m : Numbers) (lines : List (List ℕ)) (scalar n : ℕ) → went g m (slice_set (map Some m.scalars) scalar (Some n)) m.statics (lines ++ []) ≡ Went (state_of g (with_scalar scalar n m) lines)
went_scalar g m lines scalar n =
    ap (went g m (slice_set (map Some m.scalars) scalar (Some n)) m.statics) (append-nil lines)
    ∙ ap (λ scalars. went g m scalars m.statics lines) (sym (map-set Some m.scalars scalar n))

-- `s = N`
pub set-law : (g : Setting) (classes : AllReplicated g) (call : ℕ → State → Outcome) (line : ℕ) (m : Numbers) (lines : List (List ℕ)) (scalar n : ℕ) → form_meaning Present g call line (Assign (target.Scalar scalar) Set (One (operand.Number n))) (state_of g m lines) ≡ Went (state_of g (with_scalar scalar n m) lines)
set-law g classes call line m lines scalar n =
    ap (λ (c : ScalarClass). local_done line (state_of g m lines) (to_scalar g c scalar Set (Alone (Uniform n)) (own_of g m) (state_of g m lines).partials)) (classes scalar)
    ∙ went_scalar g m lines scalar n

-- `s += N`
pub increase-law : (g : Setting) (classes : AllReplicated g) (call : ℕ → State → Outcome) (line : ℕ) (m : Numbers) (lines : List (List ℕ)) (scalar n : ℕ) → scalar < length g.program.scalars → Fits g m → form_meaning Present g call line (Assign (target.Scalar scalar) Add (One (operand.Number n))) (state_of g m lines) ≡ Went (state_of g (with_scalar scalar (plus (scalar_in m scalar) n) m) lines)
increase-law g classes call line m lines scalar n within fits =
    ap (λ (c : ScalarClass). local_done line (state_of g m lines) (to_scalar g c scalar Add (Alone (Uniform n)) (own_of g m) (state_of g m lines).partials)) (classes scalar)
    ∙ (ap
    (λ (o : Option ℕ). local_done line (state_of g m lines) (scalar_assigned scalar Add n (own_of g m) (state_of g m lines).partials true (or_trap UnsetScalar o)))
    (scalar-is g m scalar within fits)
    ∙ went_scalar g m lines scalar (plus (scalar_in m scalar) n))

-- a block of a static array over one index, in the loop over it
pub record IsThere (g : Setting) (m : Numbers) (array index : ℕ) : Type 0 where
  pub kind : array_kind g array ≡ Static
  pub dims : dims_of g array ≡ index ∷ []
  pub span : span_of g.spaces index ≡ Segments (kind_of g.spaces index) (first_of g.spaces index) (count_of g.spaces index)
  pub len : length (words_of g m (record { array = array; at = index ∷ [] })) ≡ segment_len g index (slice_index_or m.values index 0)

-- a block of an array over one index
abbrev pub over_one : (array index : ℕ) → BlockRef
over_one array index = record { array = array; at = index ∷ [] }

-- what the index of a loop lies on
abbrev pub extent_of : Setting → Numbers → ℕ → Extent
extent_of g m index = segment g.spaces (kind_of g.spaces index) (slice_index_or m.values index 0)

-- the index of a loop lies on its segment
pub extent-is : (g : Setting) (m : Numbers) (array index : ℕ) → IsThere g m array index → extent g.spaces m.values index ≡ extent_of g m index
extent-is g m array index there = ap (span_extent g.spaces m.values index) there.span

-- the number of a block within its array
pub number-is : (g : Setting) (m : Numbers) (array index : ℕ) → IsThere g m array index → number_of g (own_of g m) (over_one array index) ≡ number_in g m (over_one array index)
number-is g m array index there =
    ap
    (λ (ds : List ℕ). place_of (box_of g.spaces ds) (from_firsts g.spaces ds (slice_index_or m.values index 0 ∷ [])))
    there.dims
    ∙ place-one (count_of g.spaces index) (slice_index_or m.values index 0 - first_of g.spaces index)

-- a named block as the meaning sees it
pub sight-is : (g : Setting) (m : Numbers) (array index : ℕ) → IsThere g m array index → sight g (own_of g m) (over_one array index) (static_block (own_of g m) array (number_of g (own_of g m) (over_one array index))) ≡ one index (extent_of g m index) (words_of g m (over_one array index))
sight-is g m array index there =
    ap (λ e. one index e (static_block (own_of g m) array (number_of g (own_of g m) (over_one array index)))) (extent-is g m array index there)
    ∙ ap (λ k. one index (extent_of g m index) (static_block (own_of g m) array k)) (number-is g m array index there)

-- where a statement leads that gave a block these elements
abbrev pub stored : Setting → Numbers → (array number : ℕ) → List ℕ → List (List ℕ) → Outcome
stored g m array number words lines = went g m (map Some m.scalars) (slice_set m.statics array (slice_set (slice_index_or m.statics array []) number words)) lines

-- a block that got elements by its old ones
pub went_block : (g : Setting) (m : Numbers) (lines : List (List ℕ)) (array index : ℕ) (words : List ℕ) (f : Sight → List ℕ) → IsThere g m array index → f (one index (extent_of g m index) (words_of g m (over_one array index))) ≡ words → stored g m array (number_of g (own_of g m) (over_one array index)) (f (sight g (own_of g m) (over_one array index) (static_block (own_of g m) array (number_of g (own_of g m) (over_one array index))))) (lines ++ []) ≡ Went (state_of g (with_words g (over_one array index) words m) lines)
went_block g m lines array index words f there gives =
    ap (λ (x : Sight). stored g m array (number_of g (own_of g m) (over_one array index)) (f x) (lines ++ [])) (sight-is g m array index there)
    ∙ (ap (λ ws. stored g m array (number_of g (own_of g m) (over_one array index)) ws (lines ++ [])) gives
    ∙ (ap (λ k. stored g m array k words (lines ++ [])) (number-is g m array index there)
    ∙ ap (stored g m array (number_in g m (over_one array index)) words) (append-nil lines)))

-- an assignment to a block, its right side read
pub block-law : (g : Setting) (line : ℕ) (m : Numbers) (lines : List (List ℕ)) (array index : ℕ) (op : Op) (side : Side) (needed : Bool) (words : List ℕ) → IsThere g m array index → assigned g.spaces op (one index (extent_of g m index) (words_of g m (over_one array index))) side ≡ words → local_done line (state_of g m lines) (and_then (old_words g (own_of g m) (over_one array index) needed (array_kind g array)) (λ old. quiet (with_words_own g (over_one array index) (assigned g.spaces op (sight g (own_of g m) (over_one array index) old) side) (own_of g m) (array_kind g array)) (state_of g m lines).partials)) ≡ Went (state_of g (with_words g (over_one array index) words m) lines)
block-law g line m lines array index op side needed words there gives =
    ap
    (λ (k : ArrayKind). local_done line (state_of g m lines) (and_then (old_words g (own_of g m) (over_one array index) needed k) (λ old. quiet (with_words_own g (over_one array index) (assigned g.spaces op (sight g (own_of g m) (over_one array index) old) side) (own_of g m) k) (state_of g m lines).partials)))
    there.kind
    ∙ went_block g m lines array index words (λ x. assigned g.spaces op x side) there gives

-- `a(x) = N`
pub fill-law : (g : Setting) (call : ℕ → State → Outcome) (line : ℕ) (m : Numbers) (lines : List (List ℕ)) (array index n : ℕ) → IsThere g m array index → form_meaning Present g call line (Assign (target.Block (over_one array index)) Set (One (operand.Number n))) (state_of g m lines) ≡ Went (state_of g (with_words g (over_one array index) (replicate (length (words_of g m (over_one array index))) n) m) lines)
fill-law g call line m lines array index n there =
    block-law g line m lines array index Set (Alone (Uniform n)) false (replicate (length (words_of g m (over_one array index))) n) there
    (filled-one g.spaces index (extent_of g m index) (words_of g m (over_one array index)) n ∙ ap (λ l. replicate l n) (sym there.len))

-- `a(x) += b(x)`
pub add-law : (g : Setting) (call : ℕ → State → Outcome) (line : ℕ) (m : Numbers) (lines : List (List ℕ)) (array other index : ℕ) → IsThere g m array index → IsThere g m other index → form_meaning Present g call line (Assign (target.Block (over_one array index)) Add (One (operand.Block (over_one other index)))) (state_of g m lines) ≡ Went (state_of g (with_words g (over_one array index) (sums (words_of g m (over_one array index)) (words_of g m (over_one other index))) m) lines)
add-law g call line m lines array other index there there_other =
    let b = over_one other index in
    let st = state_of g m lines in
    ap
    (λ (k : ArrayKind). unless_trapped line st (if list_any (is_missing g st.own) (map (λ (r : BlockRef). r.array) (if is_shared_kind k then b ∷ [] else [])) then Some NotCreated else None)
    (λ s. local_done line (reads_logged g line (if is_shared_kind k then b ∷ [] else []) s)
    (and_then
    (and_then (and_then (words_by_kind g s.own b (values_of g Present s (if is_shared_kind k then b ∷ [] else [])) k) (λ words. Ok (Shown (sight g s.own b words)))) (λ x. Ok (Alone x)))
    (λ side. to_target g (target.Block (over_one array index)) Add side s.own s.partials))))
    there_other.kind
    ∙ (ap
    (λ (x : Sight). local_done line st (to_block g (over_one array index) Add (Alone (Shown x)) st.own st.partials))
    (sight-is g m other index there_other)
    ∙ block-law g line m lines array index Add (Alone (Shown (one index (extent_of g m index) (words_of g m b)))) true (sums (words_of g m (over_one array index)) (words_of g m b)) there
    (added-one g.spaces index (extent_of g m index) (words_of g m (over_one array index)) (words_of g m b) there.len there_other.len))

-- `s = a(x) * b(x)`
pub contract-law : (g : Setting) (classes : AllReplicated g) (call : ℕ → State → Outcome) (line : ℕ) (m : Numbers) (lines : List (List ℕ)) (scalar left right index : ℕ) → IsThere g m left index → IsThere g m right index → form_meaning Present g call line (Assign (target.Scalar scalar) Set (Two (operand.Block (over_one left index)) Times (operand.Block (over_one right index)))) (state_of g m lines) ≡ Went (state_of g (with_scalar scalar (dot_of (words_of g m (over_one left index)) (words_of g m (over_one right index))) m) lines)
contract-law g classes call line m lines scalar left right index there_left there_right =
    let a = over_one left index in
    let b = over_one right index in
    let st = state_of g m lines in
    let refs : ArrayKind → BlockRef → List BlockRef = λ k r. if is_shared_kind k then r ∷ [] else [] in
    let whole : ArrayKind → ArrayKind → Outcome = λ ka kb. unless_trapped line st (if list_any (is_missing g st.own) (map (λ (r : BlockRef). r.array) (refs ka a ++ refs kb b)) then Some NotCreated else None)
    (λ s. local_done line (reads_logged g line (refs ka a ++ refs kb b) s)
    (and_then
    (and_then
    (and_then (words_by_kind g s.own a (values_of g Present s (refs ka a ++ refs kb b)) ka) (λ words. Ok (Shown (sight g s.own a words))))
    (λ x. and_then
    (and_then (words_by_kind g s.own b (drop (length (refs ka a)) (values_of g Present s (refs ka a ++ refs kb b))) kb) (λ words. Ok (Shown (sight g s.own b words))))
    (λ y. Ok (Joined x Times y))))
    (λ side. to_target g (target.Scalar scalar) Set side s.own s.partials))) in
    ap (λ ka. whole ka (array_kind g right)) there_left.kind
    ∙ (ap (λ kb. whole Static kb) there_right.kind
    ∙ (ap (λ (c : ScalarClass). local_done line st (to_scalar g c scalar Set (Joined (Shown (sight g st.own a (static_block st.own left (number_of g st.own a)))) Times (Shown (sight g st.own b (static_block st.own right (number_of g st.own b))))) st.own st.partials)) (classes scalar)
    ∙ (ap (λ (x : Sight). local_done line st (to_scalar g Replicated scalar Set (Joined (Shown x) Times (Shown (sight g st.own b (static_block st.own right (number_of g st.own b))))) st.own st.partials)) (sight-is g m left index there_left)
    ∙ (ap (λ (y : Sight). local_done line st (to_scalar g Replicated scalar Set (Joined (Shown (one index (extent_of g m index) (words_of g m a))) Times (Shown y)) st.own st.partials)) (sight-is g m right index there_right)
    ∙ (ap (λ n. went g m (slice_set (map Some m.scalars) scalar (Some n)) m.statics (lines ++ [])) (product-one g.spaces index (extent_of g m index) (words_of g m a) (words_of g m b) there_left.len there_right.len)
    ∙ went_scalar g m lines scalar (dot_of (words_of g m a) (words_of g m b)))))))

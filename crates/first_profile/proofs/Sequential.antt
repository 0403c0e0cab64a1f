-- A run of the first profile is the sequential meaning.
use Rattle.std.proofs.Common.{◌≡◌, ℕ, zero, suc, ◌+◌, ◌-◌, ◌<◌, ◌≤◌, List, [], ◌∷◌, ◌++◌, Option, Some, None, length, slice_index_or, refl, sym, ap, ◌∙◌, subst, arith, append_assoc, append-nil}
use Rattle.std.proofs.lemmas.List.Elements.{All-get_or}
use Rattle.sial_syntax.specs.Boxes.{numbers_from}
use Rattle.sial_syntax.specs.Spaces.{Spaces, Span, Segments, Pieces, span_of, span_kind, kind_of, span_first, span_count, first_of, count_of}
use Rattle.sial_syntax.specs.Tree.{Block, End, Then, Plain, Do, Assign, PrintScalar}
use Rattle.sial_syntax.specs.declared.array.ArrayDecl.{ArrayDecl}
use Rattle.sial_syntax.specs.declared.array.ArrayKind.TheVariants.{Static}
use Rattle.sial_syntax.specs.declared.operand.Bin.TheVariants.{Times}
use Rattle.sial_syntax.specs.declared.operand.BlockRef.{BlockRef}
use Rattle.sial_syntax.specs.declared.operand.Op.TheVariants.{Set, Add}
use Rattle.sial_syntax.specs.declared.operand.Operand.TheVariants as operand
use Rattle.sial_syntax.specs.declared.operand.Right.TheVariants.{One, Two}
use Rattle.sial_syntax.specs.declared.operand.Target.TheVariants as target
use Rattle.sial_meaning.specs.Meaning.{form_meaning, block_meaning, over, then_own, on_own}
use Rattle.sial_meaning.specs.Own.{bound}
use Rattle.sial_meaning.specs.Setting.{no_array, Setting}
use Rattle.sial_meaning.specs.State.{State}
use Rattle.sial_meaning.specs.Statement.{Outcome, Went, Present, after}
use Rattle.first_profile.specs.Running.{Numbers, segment_len, words_of, with_value, state_of}
use Rattle.first_profile.proofs.Worked.{body_lines, form_lines, ran, ran_form, through, lines_through}
use Rattle.first_profile.proofs.FitsLemmas.{fits_form, fits_body, fits_value, within_form, within_at, at_segment, length-words}
use Rattle.first_profile.proofs.FormLaws.{IsThere, over_one, print-law, set-law, increase-law, fill-law, add-law, contract-law}
use Rattle.first_profile.specs.FirstTree.{IsArray, IsBlock, IsBody, IsForm, OneBelow}
use Rattle.first_profile.specs.Fits.{Fits, IsAt, IsWithin}
use Rattle.first_profile.proofs.ClassLemmas.{class-is}
use Rattle.first_profile.specs.Ready.{IsFirstSetting}

-- a list read where it has an element gives that element, whatever the default
pub read-any : {X : Type 0} (xs : List X) (i : ℕ) (d e : X) → i < length xs → slice_index_or xs i d ≡ slice_index_or xs i e
read-any [] i d e within = absurd (omega (arith, within))
read-any (x ∷ xs) zero d e within = refl
read-any (x ∷ xs) (suc i) d e within = read-any xs i d e (omega (arith, within))

-- a span with a segment is some segments
some-segments : (spaces : Spaces) (s : Span) → 0 < span_count s → s ≡ Segments (span_kind spaces s) (span_first s) (span_count s)
some-segments spaces (Segments kind first count) some = refl
some-segments spaces (Pieces super) some = absurd (omega (arith, some))

-- the index of a loop runs over segments
pub span-is : (g : Setting) (m : Numbers) (index : ℕ) → IsAt g m index → span_of g.spaces index ≡ Segments (kind_of g.spaces index) (first_of g.spaces index) (count_of g.spaces index)
span-is g m index here = some-segments g.spaces (span_of g.spaces index) (omega (arith, here.from, here.below))

-- one number below another
pub one_below : (n index : ℕ) (dims : List ℕ) → dims ≡ index ∷ [] → OneBelow n dims → index < n
one_below n index dims is below = subst (λ (ds : List ℕ). OneBelow n ds) is below

-- an index is one
pub some_is : (a b : ℕ) → Some a ≡ Some b → a ≡ b
some_is a b e = cc

-- the index of a block in a loop is the loop's
pub at-is : (g : Setting) (loop : Option ℕ) (block : BlockRef) (index : ℕ) → loop ≡ Some index → IsBlock g.program loop block → block.at ≡ index ∷ []
at-is g loop block index looped is = is.looped.2 ∙ ap (λ i. i ∷ []) (some_is is.looped.0 index (sym is.looped.1 ∙ looped))

-- an array that isn't declared
abbrev none : ArrayDecl
none = record { name = []; line = 0; kind = Static; dims = [] }

-- the declared indices of a block's array
pub dims-are : (g : Setting) (loop : Option ℕ) (block : BlockRef) (index : ℕ) → loop ≡ Some index → IsBlock g.program loop block → (slice_index_or g.program.arrays block.array no_array).dims ≡ index ∷ []
dims-are g loop block index looped is =
    ap (λ (a : ArrayDecl). a.dims) (read-any g.program.arrays block.array no_array none is.array) ∙ (is.declared ∙ at-is g loop block index looped is)

-- a block of the first profile in the loop over its index is there
pub there : (g : Setting) (m : Numbers) (loop : Option ℕ) (block : BlockRef) (index : ℕ) → loop ≡ Some index → IsFirstSetting g → IsBlock g.program loop block → Fits g m → IsWithin g m loop → IsThere g m block.array index
there g m loop block index looped is block_is fits within =
    let array_is = All-get_or (IsArray (length g.program.indices)) g.program.arrays block.array no_array block_is.array is.tree.arrays in
    let dims = dims-are g loop block index looped block_is in
    let here = within_at g m loop index looped within in
    let number : first_of g.spaces index + (slice_index_or m.values index 0 - first_of g.spaces index) ≡ slice_index_or m.values index 0 = omega (arith, here.from) in
    record {
      kind = array_is.0;
      dims = dims;
      span = span-is g m index here;
      len =
          ap (λ (at : List ℕ). length (words_of g m (record { array = block.array; at = at }))) (sym (at-is g loop block index looped block_is))
          ∙ (length-words g m loop block index looped fits within block_is ∙ ap (segment_len g index) number);
    }

-- a statement that printed nothing
pub quiet_law : (g : Setting) (m : Numbers) (lines : List (List ℕ)) (o : Outcome) → o ≡ Went (state_of g m lines) → o ≡ Went (state_of g m (lines ++ []))
quiet_law g m lines o is = is ∙ ap (λ ls. Went (state_of g m ls)) (sym (append-nil lines))

-- one thing after another for each number of a row
pub over-law : (g : Setting) (turn : ℕ → State → Outcome) (next : ℕ → Numbers → Numbers) (said : ℕ → Numbers → List (List ℕ)) (first count : ℕ) → ((k : ℕ) (m : Numbers) (lines : List (List ℕ)) → first ≤ k → k < (first + count) → Fits g m → (turn k (state_of g m lines) ≡ Went (state_of g (next k m) (lines ++ said k m))) × Fits g (next k m)) → (m : Numbers) (lines : List (List ℕ)) → Fits g m → over (numbers_from first count) turn (state_of g m lines) ≡ Went (state_of g (through (numbers_from first count) next m) (lines ++ lines_through (numbers_from first count) next said m))
over-law g turn next said first zero each m lines fits = ap (λ ls. Went (state_of g m ls)) (sym (append-nil lines))
over-law g turn next said first (suc n) each m lines fits =
    let here = each first m lines (omega arith) (omega arith) fits in
    ap (λ o. after o (over (numbers_from (first + 1) n) turn)) here.0
    ∙ (over-law g turn next said (first + 1) n (λ k o ls from below kept. each k o ls (omega (arith, from)) (omega (arith, below)) kept) (next first m) (lines ++ said first m) here.1
    ∙ ap
    (λ ls. Went (state_of g (through (numbers_from (first + 1) n) next (next first m)) ls))
    (append_assoc lines (said first m) (lines_through (numbers_from (first + 1) n) next said (next first m))))

mutual
  -- a statement of the first profile, as the meaning has it
  pub form_law : (g : Setting) (call : ℕ → State → Outcome) (loop : Option ℕ) (line : ℕ) (form : Plain) (m : Numbers) (lines : List (List ℕ)) → IsFirstSetting g → IsForm g.program loop form → Fits g m → IsWithin g m loop → form_meaning Present g call line form (state_of g m lines) ≡ Went (state_of g (ran_form g form m) (lines ++ form_lines g form m))
  form_law g call None line (Do index body) m lines is form_is fits within =
      ap
      (λ o. then_own o (bound index 0))
      (over-law
      g
      (λ k t. block_meaning Present g call body (on_own (bound index k) t))
      (λ k n. ran g body (with_value index k n))
      (λ k n. body_lines g body (with_value index k n))
      (first_of g.spaces index)
      (count_of g.spaces index)
      (λ k n ls from below kept.
      let at = at_segment g n index k form_is.0 kept from below in
      let kept_value = fits_value g n index k kept in (
        body_law g call (Some index) body (with_value index k n) ls is form_is.1 kept_value at,
        fits_body g (Some index) body (with_value index k n) form_is.1 kept_value at,
      ))
      m
      lines
      fits)
  form_law g call (Some outer) line (Do index body) m lines is form_is fits within = absurd form_is
  form_law g call None line (Assign (target.Block t) Set (One (operand.Number n))) m lines is form_is fits within = absurd cc
  form_law g call (Some i) line (Assign (target.Block t) Set (One (operand.Number n))) m lines is form_is fits within =
      quiet_law g (ran_form g (Assign (target.Block t) Set (One (operand.Number n))) m) lines _
      (subst
      (λ (at : List ℕ). form_meaning Present g call line (Assign (target.Block (record { array = t.array; at = at })) Set (One (operand.Number n))) (state_of g m lines) ≡ Went (state_of g (ran_form g (Assign (target.Block (record { array = t.array; at = at })) Set (One (operand.Number n))) m) lines))
      (sym (at-is g (Some i) t i refl form_is))
      (fill-law g call line m lines t.array i n (there g m (Some i) t i refl is form_is fits within)))
  form_law g call None line (Assign (target.Block t) Add (One (operand.Block b))) m lines is form_is fits within = absurd cc
  form_law g call (Some i) line (Assign (target.Block t) Add (One (operand.Block b))) m lines is form_is fits within =
      quiet_law g (ran_form g (Assign (target.Block t) Add (One (operand.Block b))) m) lines _
      (subst
      (λ (at : List ℕ). form_meaning Present g call line (Assign (target.Block (record { array = t.array; at = at })) Add (One (operand.Block b))) (state_of g m lines) ≡ Went (state_of g (ran_form g (Assign (target.Block (record { array = t.array; at = at })) Add (One (operand.Block b))) m) lines))
      (sym (at-is g (Some i) t i refl form_is.0))
      (subst
      (λ (at : List ℕ). form_meaning Present g call line (Assign (target.Block (over_one t.array i)) Add (One (operand.Block (record { array = b.array; at = at })))) (state_of g m lines) ≡ Went (state_of g (ran_form g (Assign (target.Block (over_one t.array i)) Add (One (operand.Block (record { array = b.array; at = at })))) m) lines))
      (sym (at-is g (Some i) b i refl form_is.1))
      (add-law g call line m lines t.array b.array i (there g m (Some i) t i refl is form_is.0 fits within) (there g m (Some i) b i refl is form_is.1 fits within))))
  form_law g call loop line (Assign (target.Scalar s) Set (One (operand.Number n))) m lines is form_is fits within =
      quiet_law g (ran_form g (Assign (target.Scalar s) Set (One (operand.Number n))) m) lines _ (set-law g (class-is g is) call line m lines s n)
  form_law g call loop line (Assign (target.Scalar s) Add (One (operand.Number n))) m lines is form_is fits within =
      quiet_law g (ran_form g (Assign (target.Scalar s) Add (One (operand.Number n))) m) lines _ (increase-law g (class-is g is) call line m lines s n form_is fits)
  form_law g call None line (Assign (target.Scalar s) Set (Two (operand.Block a) Times (operand.Block b))) m lines is form_is fits within = absurd cc
  form_law g call (Some i) line (Assign (target.Scalar s) Set (Two (operand.Block a) Times (operand.Block b))) m lines is form_is fits within =
      quiet_law g (ran_form g (Assign (target.Scalar s) Set (Two (operand.Block a) Times (operand.Block b))) m) lines _
      (subst
      (λ (at : List ℕ). form_meaning Present g call line (Assign (target.Scalar s) Set (Two (operand.Block (record { array = a.array; at = at })) Times (operand.Block b))) (state_of g m lines) ≡ Went (state_of g (ran_form g (Assign (target.Scalar s) Set (Two (operand.Block (record { array = a.array; at = at })) Times (operand.Block b))) m) lines))
      (sym (at-is g (Some i) a i refl form_is.1))
      (subst
      (λ (at : List ℕ). form_meaning Present g call line (Assign (target.Scalar s) Set (Two (operand.Block (over_one a.array i)) Times (operand.Block (record { array = b.array; at = at })))) (state_of g m lines) ≡ Went (state_of g (ran_form g (Assign (target.Scalar s) Set (Two (operand.Block (over_one a.array i)) Times (operand.Block (record { array = b.array; at = at })))) m) lines))
      (sym (at-is g (Some i) b i refl form_is.2))
      (contract-law g (class-is g is) call line m lines s a.array b.array i (there g m (Some i) a i refl is form_is.1 fits within) (there g m (Some i) b i refl is form_is.2 fits within))))
  form_law g call loop line (PrintScalar s) m lines is form_is fits within = print-law g call line m lines s form_is fits
  form_law g call loop line form m lines is form_is fits within = absurd form_is

  -- statements of the first profile, as the meaning has them
  pub body_law : (g : Setting) (call : ℕ → State → Outcome) (loop : Option ℕ) (body : Block) (m : Numbers) (lines : List (List ℕ)) → IsFirstSetting g → IsBody g.program loop body → Fits g m → IsWithin g m loop → block_meaning Present g call body (state_of g m lines) ≡ Went (state_of g (ran g body m) (lines ++ body_lines g body m))
  body_law g call loop End m lines is body_is fits within = ap (λ ls. Went (state_of g m ls)) (sym (append-nil lines))
  body_law g call loop (Then line form rest) m lines is body_is fits within =
      ap (λ o. after o (block_meaning Present g call rest)) (form_law g call loop line form m lines is body_is.0 fits within)
      ∙ (body_law g call loop rest (ran_form g form m) (lines ++ form_lines g form m) is body_is.1 (fits_form g loop form m body_is.0 fits within) (within_form g loop form m body_is.0 within)
      ∙ ap (λ ls. Went (state_of g (ran g rest (ran_form g form m)) ls)) (append_assoc lines (form_lines g form m) (body_lines g rest (ran_form g form m))))

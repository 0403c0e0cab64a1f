-- What the rules grant is ready for a run.
use Rattle.std.proofs.Common.{◌≡◌, ℕ, List, [], ◌∷◌, map, length, Bool, true, false, ◌&&◌, ◌==◌, Option, Some, None, eqb-true, refl, sym, ap, ◌∙◌, subst}
use Rattle.std.specs.Prelude.{unwrap_or}
use Rattle.std.specs.List.{All, enumerate_from}
use Rattle.std.proofs.lemmas.Bool.{and_parts}
use Rattle.std.proofs.lemmas.List.{length-map}
use Rattle.std.proofs.lemmas.List.Elements.{All-nil, All-cons, All-map, All-weaker}
use Rattle.std.proofs.lemmas.List.FromFn.{length-enumerate_from}
use Rattle.sial_syntax.specs.Agreeing.{array_in}
use Rattle.sial_syntax.specs.Spaces.{Spaces, rank_of, words_in}
use Rattle.sial_syntax.specs.Sides.{scalar_classes}
use Rattle.sial_syntax.specs.Tree.{Tree, tree}
use Rattle.sial_syntax.proofs.RankLemmas.{numbers-of-rank, rank-within}
use Rattle.sial_meaning.specs.Setting.{Setting}
use Rattle.sip_input.specs.Given.{constants_of}
use Rattle.sip_input.specs.declared.input.Input.{Input}
use Rattle.sip_input.specs.declared.start_line.BlockLine.{BlockLine}
use Rattle.index_spaces.specs.Given.{array_named, block_given, number_given, spaces_by}
use Rattle.index_spaces.specs.Refusing.{AtLine, or_else, without_line, soonest, bad_start, may_be_given, are_segments, fits_array, means_fitting, block_refusal, scalar_refusal, indices_refusal, arrays_refusal, statements_refusal, starts_refusal, refusal}
use Rattle.index_spaces.proofs.GrantedLemmas.{has-place, neither}
use Rattle.index_spaces.proofs.SoonerLemmas.{neither-sooner}
use Rattle.sip_setting.specs.Given.{given, setting_by}
use Rattle.sip_setting.specs.Seen.{setting_of}
use Rattle.first_profile.specs.FirstLaws.{GrantedIsReady, GrantedTreesRun}
use Rattle.first_profile.specs.Ready.{IsStart}
use Rattle.first_profile.proofs.ThroughLemmas.{no_trap}

-- a start value that isn't refused fits
fits-then : (fits : Bool) (line : ℕ) (name : List ℕ) → bad_start fits line name ≡ None → fits ≡ true
fits-then true line name none = refl
fits-then false line name none = absurd cc

-- a block that isn't refused has as many elements as its array's block
long-enough : (p : Tree) (spaces : Spaces) (l : BlockLine) (place : ℕ) → block_refusal p spaces l ≡ None → array_named p l.name ≡ Some place
    → length l.elements.items ≡ words_in spaces (array_in p place).dims l.segments.items
long-enough p spaces l place none named =
    let a = array_in p place in
    let test = means_fitting p spaces (array_named p l.name) l.segments.items l.elements.items in
    let fits : fits_array spaces a l.segments.items l.elements.items ≡ true =
    ap (λ (found : Option ℕ). means_fitting p spaces found l.segments.items l.elements.items) (sym named) ∙ fits-then test l.line l.name none in
    let same = length l.elements.items == words_in spaces a.dims l.segments.items in
    let both = and_parts (may_be_given a.kind) (are_segments spaces a.dims l.segments.items && same) fits in
    eqb-true (length l.elements.items) (words_in spaces a.dims l.segments.items) (and_parts (are_segments spaces a.dims l.segments.items) same both.1).1

-- the block of a line that isn't refused is one of an array's, with its elements
line-starts : (p : Tree) (input : Input) (l : BlockLine) → block_refusal p (spaces_by p input) l ≡ None → IsStart (setting_by p input) (given (block_given p (spaces_by p input) l))
line-starts p input l none =
    let spaces = spaces_by p input in
    let has = has-place p spaces l none in
    let dims = (array_in p has.place).dims in
    let place : unwrap_or (array_named p l.name) 0 ≡ has.place = ap (λ (found : Option ℕ). unwrap_or found 0) has.named in
    subst
    (λ k. IsStart (setting_by p input) (record { array = k; number = rank_of spaces (array_in p k).dims l.segments.items; words = l.elements.items }))
    (sym place)
    (record {
      array = has.within;
      number = rank-within spaces dims l.segments.items has.segments;
      words = long-enough p spaces l has.place none has.named ∙ ap (words_in spaces dims) (sym (numbers-of-rank spaces dims l.segments.items has.segments));
    })

-- things none of which is refused
all-none : {X : Type 0} (f : X → Option AtLine) (xs : List X) → soonest f xs ≡ None → All (λ x. f x ≡ None) xs
all-none f [] none = All-nil (λ x. f x ≡ None)
all-none f (x ∷ xs) none =
    let parts = neither-sooner (f x) (soonest f xs) none in
    All-cons (λ y. f y ≡ None) x xs parts.0 (all-none f xs parts.1)

-- a refusal that isn't there has no line
no-line : (found : Option AtLine) → without_line found ≡ None → found ≡ None
no-line None none = refl
no-line (Some r) none = absurd cc

-- no block of an input that fits is refused
blocks-fit : (p : Tree) (input : Input) → refusal p (scalar_classes p) input ≡ None → soonest (block_refusal p (spaces_by p input)) input.blocks.items ≡ None
blocks-fit p input none =
    let spaces = spaces_by p input in
    let first = soonest (scalar_refusal p (scalar_classes p)) input.scalars.items in
    let starts = without_line (starts_refusal p spaces (scalar_classes p) input) in
    let statements = without_line (statements_refusal p spaces) in
    let behind = neither (indices_refusal (constants_of input) spaces p.indices) (or_else (arrays_refusal spaces [] p.arrays) (or_else statements starts)) none in
    let last = neither statements starts (neither (arrays_refusal spaces [] p.arrays) (or_else statements starts) behind.1).1 in
    (neither-sooner first (soonest (block_refusal p spaces) input.blocks.items) (no-line (starts_refusal p spaces (scalar_classes p) input) last.1)).1

-- all given blocks of an input that fits
all-start : (p : Tree) (input : Input) → refusal p (scalar_classes p) input ≡ None → All (IsStart (setting_by p input)) (setting_by p input).blocks
all-start p input none =
    let g = setting_by p input in
    let spaces = spaces_by p input in
    let lines : All (λ (l : BlockLine). IsStart g (given (block_given p spaces l))) input.blocks.items =
    All-weaker (λ (l : BlockLine). block_refusal p spaces l ≡ None) (λ (l : BlockLine). IsStart g (given (block_given p spaces l))) (λ l fits. line-starts p input l fits) input.blocks.items
    (all-none (block_refusal p spaces) input.blocks.items (blocks-fit p input none)) in
    All-map (IsStart g) given (map (block_given p spaces) input.blocks.items) (All-map (λ b. IsStart g (given b)) (block_given p spaces) input.blocks.items lines)

-- a number for each scalar
numbers-long : (p : Tree) (input : Input) → length (setting_by p input).numbers ≡ length p.scalars
numbers-long p input =
    length-map (enumerate_from 0 p.scalars) (λ (x : ℕ × List ℕ). number_given p.scalars input.scalars.items x.0) ∙ length-enumerate_from 0 p.scalars

-- what the rules grant is ready
pub is-ready : GrantedIsReady
is-ready input job granted =
    let p = tree job.program in
    record {
      classes = ap (λ (g : Setting). g.scalars) granted.setting;
      spaces = (constants_of input, granted.spaces);
      numbers = ap (λ (g : Setting). length g.numbers) granted.setting ∙ numbers-long p input;
      blocks = subst (λ (g : Setting). All (IsStart g) g.blocks) (sym granted.setting) (all-start p input granted.granted.fits);
    }

-- and runs to its end, where its tree is of the first profile
pub trees-run : GrantedTreesRun
trees-run input job granted first = no_trap (setting_of job) first (is-ready input job granted)

-- Given blocks set over zeros are what the sequential meaning begins with.
use Rattle.std.proofs.Common.{◌≡◌, ℕ, zero, suc, ◌+◌, ◌<◌, inl, inr, List, [], ◌∷◌, Bool, true, false, ◌==◌, ◌&&◌, cond, Some, map, length, slice_index_or, slice_set, eqb-true, refl, sym, ap, ◌∙◌, subst, arith}
use Rattle.std.specs.Prelude.{find, ◌≢◌}
use Rattle.std.proofs.lemmas.Bool.{and_parts}
use Rattle.std.proofs.lemmas.Bool.Decides.{eqb_tells}
use Rattle.std.proofs.lemmas.List.{length-map, length-set, get_or-map}
use Rattle.std.proofs.lemmas.List.Elements.{All-get_or, All-head, All-tail}
use Rattle.std.specs.List.{All}
use Rattle.sial_syntax.specs.Boxes.{numbers_from}
use Rattle.sial_syntax.proofs.BoxLemmas.{map-from, numbers-length, numbers-read}
use Rattle.sial_meaning.specs.Own.{given_or, for_each}
use Rattle.sial_meaning.specs.Setting.{Setting, Given, block_count, block_words, zeros}
use Rattle.index_spaces.specs.declared.start.StartBlock.{StartBlock}
use Rattle.index_spaces.specs.Starting.{given_of}
use Rattle.sip_setting.specs.Given.{given}
use Rattle.first_profile.specs.Fits.{HasBlock}
use Rattle.first_profile.specs.Ready.{IsStart}
use Rattle.first_profile.specs.Running.{Numbers, with_all_given}
use Rattle.first_profile.proofs.FitsLemmas.{length_at}

-- what each number gives, but for one that gives something else
pub set-each : {X : Type 0} (f h : ℕ → X) (first n i j : ℕ) (x : X) → j ≡ first + i → h j ≡ x → ((k : ℕ) → k ≢ j → h k ≡ f k)
    → slice_set (map f (numbers_from first n)) i x ≡ map h (numbers_from first n)
set-each f h first zero i j x is here others = refl
set-each f h first (suc n) zero j x is here others =
    let at : j ≡ first = omega (arith, is) in
    ap (λ y. y ∷ map f (numbers_from (first + 1) n)) (sym here ∙ ap h at)
    ∙ ap (λ ys. h first ∷ ys) (map-from f h (first + 1) n (λ k from below. sym (others k (λ e. omega (arith, from, at, e)))))
set-each f h first (suc n) (suc i) j x is here others =
    ap (λ y. y ∷ slice_set (map f (numbers_from (first + 1) n)) i x) (sym (others first (λ e. omega (arith, is, e))))
    ∙ ap (λ ys. h first ∷ ys) (set-each f h (first + 1) n i j x (omega (arith, is)) here others)

-- what one of so many numbers gives
pub read-each : {X : Type 0} (f : ℕ → X) (n k : ℕ) (d : X) → k < n → slice_index_or (for_each n f) k d ≡ f k
read-each f n k d within =
    get_or-map f (numbers_from 0 n) k 0 d (subst (λ m. k < m) (sym (numbers-length 0 n)) within) ∙ (ap f (numbers-read 0 n k 0 within) ∙ ap f (plain k))
  where
    plain : (j : ℕ) → 0 + j ≡ j
    plain j = omega arith

-- whether a given block is this one
abbrev pub is_block : (array number : ℕ) → Given → Bool
is_block array number b = (b.array == array) && (b.number == number)

-- the blocks of an array, the first that is given or zeros
abbrev pub begun : Setting → List Given → (array : ℕ) → List (List ℕ)
begun g bs array = for_each (block_count g array) (λ number. given_or (find (is_block array number) bs) (zeros g array number))

-- a block is itself
itself : (b : Given) → is_block b.array b.number b ≡ true
itself b = self b.array b.number
  where
    same : (n : ℕ) → (n == n) ≡ true
    same n = elim (eqb_tells n n) as (λ q. (n == n) ≡ true) [ inl hit ↦ hit.0 | inr differs ↦ absurd (differs.1 refl) ]

    self : (m n : ℕ) → ((m == m) && (n == n)) ≡ true
    self m n = ap (λ b. b && (n == n)) (same m) ∙ same n

-- it is none of another number
other-number : (b : Given) (array number : ℕ) → number ≢ b.number → is_block array number b ≡ false
other-number b array number differs =
    elim (eqb_tells b.number number) as (λ q. is_block array number b ≡ false) [
      | inl hit ↦ absurd (differs (sym hit.1))
      | inr differ ↦ ap (λ c. (b.array == array) && c) differ.0 ∙ and-false (b.array == array)
    ]
  where
    and-false : (c : Bool) → (c && false) ≡ false
    and-false true = refl
    and-false false = refl

-- and none of another array
other-array : (b : Given) (array number : ℕ) → array ≢ b.array → is_block array number b ≡ false
other-array b array number differs =
    elim (eqb_tells b.array array) as (λ q. is_block array number b ≡ false) [
      | inl hit ↦ absurd (differs (sym hit.1))
      | inr differ ↦ ap (λ c. c && (b.number == number)) differ.0
    ]

-- one more given block: it, where it is the one
found-here : (b : Given) (bs : List Given) (array number : ℕ) (none : List ℕ) → is_block array number b ≡ true
    → given_or (find (is_block array number) (b ∷ bs)) none ≡ b.words
found-here b bs array number none is = ap (λ c. given_or (cond c (Some b) (find (is_block array number) bs)) none) is

-- what was there, where it isn't
found-before : (b : Given) (bs : List Given) (array number : ℕ) (none : List ℕ) → is_block array number b ≡ false
    → given_or (find (is_block array number) (b ∷ bs)) none ≡ given_or (find (is_block array number) bs) none
found-before b bs array number none is = ap (λ c. given_or (cond c (Some b) (find (is_block array number) bs)) none) is

-- the blocks of its array
set-own : (g : Setting) (b : Given) (bs : List Given) → slice_set (begun g bs b.array) b.number b.words ≡ begun g (b ∷ bs) b.array
set-own g b bs =
    set-each
    (λ number. given_or (find (is_block b.array number) bs) (zeros g b.array number))
    (λ number. given_or (find (is_block b.array number) (b ∷ bs)) (zeros g b.array number))
    0
    (block_count g b.array)
    b.number
    b.number
    b.words
    (omega arith)
    (found-here b bs b.array b.number (zeros g b.array b.number) (itself b))
    (λ number differs. found-before b bs b.array number (zeros g b.array number) (other-number b b.array number differs))

-- those of another array
set-others : (g : Setting) (b : Given) (bs : List Given) (array : ℕ) → array ≢ b.array → begun g (b ∷ bs) array ≡ begun g bs array
set-others g b bs array differs =
    map-from
    (λ number. given_or (find (is_block array number) (b ∷ bs)) (zeros g array number))
    (λ number. given_or (find (is_block array number) bs) (zeros g array number))
    0
    (block_count g array)
    (λ number from below. found-before b bs array number (zeros g array number) (other-array b array number differs))

-- the arrays with one more given block
set-all : (g : Setting) (b : Given) (bs : List Given) (n : ℕ) → b.array < n
    → slice_set (for_each n (begun g bs)) b.array (slice_set (slice_index_or (for_each n (begun g bs)) b.array []) b.number b.words)
    ≡ for_each n (begun g (b ∷ bs))
set-all g b bs n within =
    let read : slice_index_or (for_each n (begun g bs)) b.array [] ≡ begun g bs b.array = read-each (begun g bs) n b.array [] within in
    set-each
    (begun g bs)
    (begun g (b ∷ bs))
    0
    n
    b.array
    b.array
    (slice_set (slice_index_or (for_each n (begun g bs)) b.array []) b.number b.words)
    (omega arith)
    (sym (ap (λ (blocks : List (List ℕ)). slice_set blocks b.number b.words) read ∙ set-own g b bs))
    (λ array differs. set-others g b bs array differs)

-- all given blocks
pub all-given : (g : Setting) (m : Numbers) (bs : List Given) (n : ℕ) → All (λ (b : Given). b.array < n) bs → m.statics ≡ for_each n (begun g [])
    → (with_all_given bs m).statics ≡ for_each n (begun g bs)
all-given g m [] n within start = start
all-given g m (b ∷ bs) n within start =
    let before = all-given g m bs n (All-tail (λ (b : Given). b.array < n) b bs within) start in
    ap (λ (s : List (List (List ℕ))). slice_set s b.array (slice_set (slice_index_or s b.array []) b.number b.words)) before
    ∙ set-all g b bs n (All-head (λ (b : Given). b.array < n) b bs within)

-- other numbers stay
pub others-stay : (bs : List Given) (m : Numbers) → (with_all_given bs m).values ≡ m.values
others-stay [] m = refl
others-stay (b ∷ bs) m = others-stay bs m

-- and the scalars
pub scalars-stay : (bs : List Given) (m : Numbers) → (with_all_given bs m).scalars ≡ m.scalars
scalars-stay [] m = refl
scalars-stay (b ∷ bs) m = scalars-stay bs m

-- as many arrays
arrays-stay : (bs : List Given) (m : Numbers) → length (with_all_given bs m).statics ≡ length m.statics
arrays-stay [] m = refl
arrays-stay (b ∷ bs) m =
    length-set (with_all_given bs m).statics b.array (slice_set (slice_index_or (with_all_given bs m).statics b.array []) b.number b.words) ∙ arrays-stay bs m

-- each with as many blocks
blocks-stay : (bs : List Given) (m : Numbers) (array : ℕ) → length (slice_index_or (with_all_given bs m).statics array []) ≡ length (slice_index_or m.statics array [])
blocks-stay [] m array = refl
blocks-stay (b ∷ bs) m array =
    let old = with_all_given bs m in
    length_at old.statics b.array array (slice_set (slice_index_or old.statics b.array []) b.number b.words) (length-set (slice_index_or old.statics b.array []) b.number b.words)
    ∙ blocks-stay bs m array

-- a block that was there is there still
pub has-still : (bs : List Given) (m : Numbers) (b : Given) → HasBlock m b → HasBlock (with_all_given bs m) b
has-still bs m b has = (subst (λ n. b.array < n) (sym (arrays-stay bs m)) has.0, subst (λ n. b.number < n) (sym (blocks-stay bs m b.array)) has.1)

-- a block has its length where it is given
found-long : (g : Setting) (b : Given) (bs : List Given) (array number : ℕ) → IsStart g b → is_block array number b ≡ true
    → length (given_or (find (is_block array number) (b ∷ bs)) (zeros g array number)) ≡ block_words g array number
found-long g b bs array number start is =
    let parts = and_parts (b.array == array) (b.number == number) is in
    ap length (found-here b bs array number (zeros g array number) is)
    ∙ (start.words ∙ (ap (λ a. block_words g a b.number) (eqb-true b.array array parts.0) ∙ ap (block_words g array) (eqb-true b.number number parts.1)))

-- and where it isn't
pub words-given : (g : Setting) (bs : List Given) (array number : ℕ) → All (IsStart g) bs → length (zeros g array number) ≡ block_words g array number
    → length (given_or (find (is_block array number) bs) (zeros g array number)) ≡ block_words g array number
words-given g [] array number all zero-words = zero-words
words-given g (b ∷ bs) array number all zero-words =
    elim (is_block array number b) as (λ c. is_block array number b ≡ c → length (given_or (find (is_block array number) (b ∷ bs)) (zeros g array number)) ≡ block_words g array number) [
      | true ↦ λ is. found-long g b bs array number (All-head (IsStart g) b bs all) is
      | false ↦ λ is.
          ap length (found-before b bs array number (zeros g array number) is) ∙ words-given g bs array number (All-tail (IsStart g) b bs all) zero-words
    ] refl

-- the block at hand is there still, when others are set
pub turn-has : (old m : Numbers) (blocks : List StartBlock) (rest : List Given) (i : ℕ) (b : StartBlock) → All (HasBlock old) (map given (map given_of blocks))
    → i < length blocks → b ≡ slice_index_or blocks i b → m ≡ with_all_given rest old → HasBlock m (given (given_of b))
turn-has old m blocks rest i b all within is same =
    let here = given (given_of b) in
    let once : length (map given_of blocks) ≡ length blocks = length-map blocks given_of in
    let twice : length (map given (map given_of blocks)) ≡ length (map given_of blocks) = length-map (map given_of blocks) given in
    let read : slice_index_or (map given (map given_of blocks)) i here ≡ here =
    get_or-map given (map given_of blocks) i (given_of b) here (omega (arith, within, once))
    ∙ (ap given (get_or-map given_of blocks i b (given_of b) within) ∙ ap (λ (x : StartBlock). given (given_of x)) (sym is)) in
    let held : HasBlock old here = subst (HasBlock old) read (All-get_or (HasBlock old) (map given (map given_of blocks)) i here (omega (arith, within, once, twice)) all) in
    subst (λ (n : Numbers). HasBlock n here) (sym same) (has-still rest old here held)

-- Lists of numbers, right sides and assignments stay below 2^64.
use Rattle.std.proofs.Common.{◌≡◌, ℕ, zero, suc, ◌+◌, ◌-◌, ◌*◌, ◌%◌, ◌^◌, List, [], ◌∷◌, map, zip, slice_index_or, slice_set, replicate, true, false, if◌then◌else◌, inl, inr, Option, Some, None, unwrap_or, sym, subst, arith}
use Rattle.std.proofs.lemmas.Bool.{ltb-true}
use Rattle.std.proofs.lemmas.Nat.{mod_below}
use Rattle.std.specs.List.{list_all}
use Rattle.std.specs.Option.{IfSome}
use Rattle.sial_syntax.specs.Boxes.{tuples}
use Rattle.sial_syntax.specs.Proper.{is_number}
use Rattle.sial_syntax.specs.Spaces.{Spaces}
use Rattle.sial_syntax.specs.declared.access.Access.{Access}
use Rattle.sial_syntax.specs.declared.access.Access.TheVariants as access
use Rattle.sial_syntax.specs.declared.operand.Bin.{Bin}
use Rattle.sial_syntax.specs.declared.operand.Bin.TheVariants.{Plus, Minus, Times, Outer}
use Rattle.sial_syntax.specs.declared.operand.Op.{Op}
use Rattle.sial_syntax.specs.declared.operand.Op.TheVariants.{Set, Add, Subtract, Scale}
use Rattle.sial_meaning.specs.Number.{plus, minus, times, combined, accessed}
use Rattle.sial_meaning.specs.NumberStates.{IsNumber, AreNumbers}
use Rattle.sial_meaning.specs.Right.{Term, Plain, Shown, Side, Alone, Joined, both, term_at, joined_at, side_at, met, assigned}
use Rattle.sial_meaning.specs.Sight.{Sight, Places, element, all_lie, positions_of, offsets, word_at, places_at, lengths}
use Rattle.sial_meaning.specs.State.{accessed_words}
use Rattle.sial_meaning.proofs.StatesAreWhole.OwnLengths.{set-read}
use Rattle.sial_meaning.proofs.AcceptedInOtherWords.Pairs.{first-holds, second-holds}

-- 0 is a number
pub none-number : IsNumber 0
none-number = omega arith

-- what is left of a division by 2^64 is a number
pub left-number : (n : ℕ) → IsNumber (n % 2 ^ 64)
left-number n = mod_below n (2 ^ 64) (omega arith)

-- no entries are numbers
pub nothing-numbers : AreNumbers []
nothing-numbers k = none-number

-- one more number
pub more-numbers : (n : ℕ) (ns : List ℕ) → IsNumber n → AreNumbers ns → AreNumbers (n ∷ ns)
more-numbers n ns first rest zero = first
more-numbers n ns first rest (suc k) = rest k

-- a list that was tested
pub tested-numbers : (ns : List ℕ) → list_all is_number ns ≡ true → AreNumbers ns
tested-numbers [] all = nothing-numbers
tested-numbers (n ∷ ns) all =
    more-numbers n ns (ltb-true n (2 ^ 64) (first-holds (is_number n) (list_all is_number ns) all)) (tested-numbers ns (second-holds (is_number n) (list_all is_number ns) all))

-- one thing for each
pub mapped-numbers : {X : Type 0} (f : X → ℕ) (xs : List X) → ((x : X) → IsNumber (f x)) → AreNumbers (map f xs)
mapped-numbers f [] each = nothing-numbers
mapped-numbers f (x ∷ xs) each = more-numbers (f x) (map f xs) (each x) (mapped-numbers f xs each)

-- so many zeros
pub zero-numbers : (n : ℕ) → AreNumbers (replicate n 0)
zero-numbers zero = nothing-numbers
zero-numbers (suc n) = more-numbers 0 (replicate n 0) none-number (zero-numbers n)

-- one entry replaced
pub replaced-numbers : (ns : List ℕ) (i n : ℕ) → AreNumbers ns → IsNumber n → AreNumbers (slice_set ns i n)
replaced-numbers ns i n all number k =
    elim (set-read ns i k n 0) as (λ q. IsNumber (slice_index_or (slice_set ns i n) k 0)) [
      | inl same ↦ subst IsNumber (sym same.1) number
      | inr other ↦ subst IsNumber (sym other) (all k)
    ]

-- what is there has a property, in a list with one entry replaced
pub replaced-has : {X : Type 0} (P : X → Type 0) (xs : List X) (i : ℕ) (x d : X) → ((k : ℕ) → P (slice_index_or xs k d)) → P x → (k : ℕ) → P (slice_index_or (slice_set xs i x) k d)
replaced-has P xs i x d all has k =
    elim (set-read xs i k x d) as (λ q. P (slice_index_or (slice_set xs i x) k d)) [
      | inl same ↦ subst P (sym same.1) has
      | inr other ↦ subst P (sym other) (all k)
    ]

-- and in a list of one thing for each
pub mapped-has : {X Y : Type 0} (P : Y → Type 0) (f : X → Y) (xs : List X) (d : Y) → ((x : X) → P (f x)) → P d → (k : ℕ) → P (slice_index_or (map f xs) k d)
mapped-has P f [] d each none k = none
mapped-has P f (x ∷ xs) d each none zero = each x
mapped-has P f (x ∷ xs) d each none (suc k) = mapped-has P f xs d each none k

-- and in a list of one thing
pub alike-has : {X : Type 0} (P : X → Type 0) (n : ℕ) (x d : X) → P x → P d → (k : ℕ) → P (slice_index_or (replicate n x) k d)
alike-has P zero x d has none k = none
alike-has P (suc n) x d has none zero = has
alike-has P (suc n) x d has none (suc k) = alike-has P n x d has none k

-- an old number combined with a value
pub combined-number : (op : Op) (old value : ℕ) → IsNumber value → IsNumber (combined op old value)
combined-number Set old value number = number
combined-number Add old value number = left-number (old + value)
combined-number Subtract old value number = left-number (old + (2 ^ 64 - value))
combined-number Scale old value number = left-number (old * value)

-- an old number after an access
accessed-number : (how : Access) (old value : ℕ) → IsNumber old → IsNumber value → IsNumber (accessed how old value)
accessed-number access.Read old value first second = first
accessed-number access.Add old value first second = left-number (old + value)
accessed-number access.Max old value first second = omega (arith, first, second)
accessed-number access.Store old value first second = second

-- a block after an access
pub accessed-numbers : (how : Access) (old words : List ℕ) → AreNumbers old → AreNumbers words → AreNumbers (accessed_words how old words)
accessed-numbers how [] words first second = nothing-numbers
accessed-numbers how (o ∷ os) [] first second = nothing-numbers
accessed-numbers how (o ∷ os) (w ∷ ws) first second =
    more-numbers (accessed how o w) (accessed_words how os ws) (accessed-number how o w (first 0) (second 0)) (accessed-numbers how os ws (λ k. first (suc k)) (λ k. second (suc k)))

-- an operand that was read has numbers
abbrev pub TermHas : Term → Type 0
TermHas (Plain n) = IsNumber n
TermHas (Shown sight) = AreNumbers sight.words

-- a right side whose operands have
abbrev pub SideHas : Side → Type 0
SideHas (Alone a) = TermHas a
SideHas (Joined a bin b) = TermHas a × TermHas b

-- an element of a block
element-number : (spaces : Spaces) (places : Places) (sight : Sight) → AreNumbers sight.words → IfSome (element spaces places sight) IsNumber
element-number spaces places sight has =
    elim (all_lie sight.extents (positions_of spaces places sight)) as (λ b. IfSome (if b then Some (word_at sight (offsets sight.extents (positions_of spaces places sight))) else None) IsNumber) [
      | true ↦ has _
      | false ↦ tt
    ]

-- an operand at places
term-number : (spaces : Spaces) (places : Places) (a : Term) → TermHas a → IfSome (term_at spaces places a) IsNumber
term-number spaces places (Plain n) has = has
term-number spaces places (Shown sight) has = element-number spaces places sight has

-- two numbers combined
both-number : (f : ℕ → ℕ → ℕ) (a b : Option ℕ) → ((x y : ℕ) → IsNumber (f x y)) → IfSome (both f a b) IsNumber
both-number f None b each = tt
both-number f (Some x) None each = tt
both-number f (Some x) (Some y) each = each x y

plus-number : (x y : ℕ) → IsNumber (plus x y)
plus-number x y = left-number (x + y)

minus-number : (x y : ℕ) → IsNumber (minus x y)
minus-number x y = left-number (x + (2 ^ 64 - y))

times-number : (x y : ℕ) → IsNumber (times x y)
times-number x y = left-number (x * y)

-- two operands at places
joined-number : (spaces : Spaces) (places : Places) (a : Term) (bin : Bin) (b : Term) → IfSome (joined_at spaces places a bin b) IsNumber
joined-number spaces places a Plus b = both-number plus (term_at spaces places a) (term_at spaces places b) plus-number
joined-number spaces places a Minus b = both-number minus (term_at spaces places a) (term_at spaces places b) minus-number
joined-number spaces places (Plain n) Times b = both-number times (Some n) (term_at spaces places b) times-number
joined-number spaces places (Shown a) Times (Plain n) = both-number times (element spaces places a) (Some n) times-number
joined-number spaces places (Shown a) Times (Shown b) = left-number _
joined-number spaces places a Outer b = both-number times (term_at spaces places a) (term_at spaces places b) times-number

-- a right side at places
pub side-number : (spaces : Spaces) (places : Places) (side : Side) → SideHas side → IfSome (side_at spaces places side) IsNumber
side-number spaces places (Alone a) has = term-number spaces places a has
side-number spaces places (Joined a bin b) has = joined-number spaces places a bin b

-- a number that may be missing, or 0
pub or-none : (n : Option ℕ) → IfSome n IsNumber → IsNumber (unwrap_or n 0)
or-none None has = none-number
or-none (Some n) has = has

-- an element after an assignment
met-number : (op : Op) (old : ℕ) (value : Option ℕ) → IsNumber old → IfSome value IsNumber → IsNumber (met op old value)
met-number op old None number has = number
met-number op old (Some value) number has = combined-number op old value has

-- a block after an assignment
pub assigned-numbers : (spaces : Spaces) (op : Op) (target : Sight) (side : Side) → AreNumbers target.words → SideHas side → AreNumbers (assigned spaces op target side)
assigned-numbers spaces op target side old has =
    mapped-numbers (λ t. met op (word_at target t) (side_at spaces (places_at (zip target.at target.extents) t) side)) (tuples (lengths target.extents))
    (λ t. met-number op (word_at target t) (side_at spaces (places_at (zip target.at target.extents) t) side) (old _) (side-number spaces (places_at (zip target.at target.extents) t) side has))

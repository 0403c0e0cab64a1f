-- The lines of a text: what they say adds up, one after the other, or the first that is wrong has a fault.
use Rattle.std.specs.Prelude.{◌≡◌, ℕ, ◌+◌, ◌⊎◌, List, [], ◌∷◌, if◌then◌else◌, ◌==◌, Option, Some, None}
use Rattle.input_text.specs.declared.fault.InputFault.{InputFault}
use Rattle.input_text.specs.declared.fault.InputFault.TheVariants as fault
use Rattle.input_text.specs.declared.fault.Wrong.{Wrong}
use Rattle.input_text.specs.declared.fault.Wrong.TheVariants.{BadLine, TooWide, Twice, TooMany}

-- a byte before the others of its line
abbrev pub before : ℕ → List (List ℕ) → List (List ℕ)
before b [] = (b ∷ []) ∷ []
before b (line ∷ lines) = (b ∷ line) ∷ lines

-- the lines of a text, each with the line feed that ends it; the last may have none
abbrev pub lines_of : List ℕ → List (List ℕ)
lines_of [] = []
lines_of (b ∷ bs) = if b == 10 then (b ∷ []) ∷ lines_of bs else before b (lines_of bs)

-- the fault of a line
abbrev pub fault_at : (line : ℕ) → Wrong → InputFault
fault_at n BadLine = fault.BadLine n
fault_at n TooWide = fault.TooWide n
fault_at n Twice = fault.Twice n
fault_at n TooMany = fault.TooMany n

-- Lines from a number on lead from what is given before them to what is given behind them: each says something (`Says`), nothing is wrong
-- with it after what is given before it (`wrong`), and it adds it (`added`).
abbrev pub LeadTo :
    {G S : Type 0} → (Says : (line : List ℕ) → S → Type 0) → (wrong : G → S → Option Wrong) → (added : G → (line : ℕ) → S → G)
    → (line : ℕ) → G → List (List ℕ) → G → Type 0
LeadTo Says wrong added n g [] end = end ≡ g
LeadTo {S = S} Says wrong added n g (line ∷ lines) end =
    (said : S) × Says line said × (wrong g said ≡ None) × LeadTo Says wrong added (n + 1) (added g n said) lines end

-- what is wrong with a line: it says nothing, or what it says is too wide, given before or too many
abbrev pub IsWrong :
    {G S : Type 0} → (Says : (line : List ℕ) → S → Type 0) → (wrong : G → S → Option Wrong) → G → (line : List ℕ) → Wrong → Type 0
IsWrong {S = S} Says wrong g line BadLine = (said : S) → Says line said → ⊥
IsWrong {S = S} Says wrong g line TooWide = (said : S) × Says line said × (wrong g said ≡ Some TooWide)
IsWrong {S = S} Says wrong g line Twice = (said : S) × Says line said × (wrong g said ≡ Some Twice)
IsWrong {S = S} Says wrong g line TooMany = (said : S) × Says line said × (wrong g said ≡ Some TooMany)

-- the first wrong line of lines has a fault: each line before it says something that isn't wrong
abbrev pub HaveFault :
    {G S : Type 0} → (Says : (line : List ℕ) → S → Type 0) → (wrong : G → S → Option Wrong) → (added : G → (line : ℕ) → S → G)
    → (line : ℕ) → G → List (List ℕ) → InputFault → Type 0
HaveFault Says wrong added n g [] fault = ⊥
HaveFault {S = S} Says wrong added n g (line ∷ lines) fault =
    ((what : Wrong) × IsWrong Says wrong g line what × (fault ≡ fault_at n what))
    ⊎ ((said : S) × Says line said × (wrong g said ≡ None) × HaveFault Says wrong added (n + 1) (added g n said) lines fault)

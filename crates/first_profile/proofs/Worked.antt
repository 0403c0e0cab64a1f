-- What statements of the first profile come to, worked out on plain numbers.
use Rattle.std.specs.Prelude.{ℕ, List, [], ◌∷◌, ◌++◌, length, replicate}
use Rattle.sial_syntax.specs.Tree.{Block, End, Then, Plain, Do, Assign, PrintScalar}
use Rattle.sial_syntax.specs.declared.operand.Bin.TheVariants.{Times}
use Rattle.sial_syntax.specs.declared.operand.Op.TheVariants.{Set, Add}
use Rattle.sial_syntax.specs.declared.operand.Operand.TheVariants as operand
use Rattle.sial_syntax.specs.declared.operand.Right.TheVariants.{One, Two}
use Rattle.sial_syntax.specs.declared.operand.Target.TheVariants as target
use Rattle.sial_meaning.specs.Number.{plus}
use Rattle.block_math.specs.Elements.{sums, dot_of}
use Rattle.first_profile.specs.Running.{Numbers, words_of, with_words, with_scalar, scalar_in, with_value, line_of, segments_in}
use Rattle.sial_meaning.specs.Setting.{Setting}

-- one thing after another for each number
abbrev pub through : List ℕ → (ℕ → Numbers → Numbers) → Numbers → Numbers
through [] turn m = m
through (k ∷ ks) turn m = through ks turn (turn k m)

-- the lines of one thing after another
abbrev pub lines_through : List ℕ → (ℕ → Numbers → Numbers) → (ℕ → Numbers → List (List ℕ)) → Numbers → List (List ℕ)
lines_through [] turn lines m = []
lines_through (k ∷ ks) turn lines m = lines k m ++ lines_through ks turn lines (turn k m)

abbrev mutual
  -- the numbers after one statement
  pub ran_form : Setting → Plain → Numbers → Numbers
  ran_form g (Do index body) m = with_value index 0 (through (segments_in g index) (λ k n. ran g body (with_value index k n)) m)
  ran_form g (Assign (target.Block t) Set (One (operand.Number n))) m = with_words g t (replicate (length (words_of g m t)) n) m
  ran_form g (Assign (target.Block t) Add (One (operand.Block b))) m = with_words g t (sums (words_of g m t) (words_of g m b)) m
  ran_form g (Assign (target.Scalar s) Set (One (operand.Number n))) m = with_scalar s n m
  ran_form g (Assign (target.Scalar s) Add (One (operand.Number n))) m = with_scalar s (plus (scalar_in m s) n) m
  ran_form g (Assign (target.Scalar s) Set (Two (operand.Block a) Times (operand.Block b))) m =
      with_scalar s (dot_of (words_of g m a) (words_of g m b)) m
  ran_form g _ m = m

  -- the numbers after some statements
  pub ran : Setting → Block → Numbers → Numbers
  ran g End m = m
  ran g (Then line form rest) m = ran g rest (ran_form g form m)

abbrev mutual
  -- the lines that one statement prints
  pub form_lines : Setting → Plain → Numbers → List (List ℕ)
  form_lines g (Do index body) m =
      lines_through (segments_in g index) (λ k n. ran g body (with_value index k n)) (λ k n. body_lines g body (with_value index k n)) m
  form_lines g (PrintScalar s) m = line_of g m s ∷ []
  form_lines g _ m = []

  -- the lines that some statements print
  pub body_lines : Setting → Block → Numbers → List (List ℕ)
  body_lines g End m = []
  body_lines g (Then line form rest) m = form_lines g form m ++ body_lines g rest (ran_form g form m)

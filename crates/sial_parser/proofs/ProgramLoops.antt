-- One turn of the loops over declarations and procedures, and their ends.
use Rattle.std.proofs.Common.{◌≡◌, ℕ, suc, ◌+◌, ◌-◌, ◌<◌, ◌≤◌, List, [], ◌∷◌, ◌++◌, Bool, true, false, cond, length, Some, None, Ok, sym, ap, ◌∙◌, arith}
use Rattle.sial_syntax.specs.Tree.{Procedure}
use Rattle.sial_parser.specs.Answers.{Fails}
use Rattle.sial_parser.specs.Parsing.{◌>>=◌, Read, unexpected, declared_one, declarations, Procedures, proc_one, with_proc, procs}
use Rattle.sial_parser.specs.Scope.{Scope, Declared}
use Rattle.sial_parser.specs.declared.fault.ParseFault.{ParseFault}
use Rattle.sial_parser.specs.declared.thing.Thing.TheVariants.{Proc}
use Rattle.sial_parser.specs.declared.word.Word.{Word}
use Rattle.sial_parser.proofs.LoopLemmas.{fails_first}

module _ (n i : ℕ) (d : Declared) (ws : List Word) (total : Read Declared) (below : i < n) (whole : declarations (n - i) d ws ≡ total) where
  declarations_turn : (declared_one d ws >>= λ x. cond x.0.1 (declarations (n - (i + 1)) x.0.0 x.1) (Ok (x.0.0, x.1))) ≡ total
  unfolding declarations
  declarations_turn = let k : n - i ≡ suc (n - (i + 1)) = omega arith in sym (ap (λ m. declarations m d ws) k) ∙ whole

  pub declarations_fail : (fault : ParseFault) → Fails fault (declared_one d ws) → Fails fault total
  declarations_fail fault h = fails_first fault (declared_one d ws) _ total declarations_turn h

  pub declarations_on : (e : Declared) (rest : List Word) → declared_one d ws ≡ Ok ((e, true), rest) → declarations (n - (i + 1)) e rest ≡ total
  declarations_on e rest is = sym (ap (λ r. r >>= λ x. cond x.0.1 (declarations (n - (i + 1)) x.0.0 x.1) (Ok (x.0.0, x.1))) is) ∙ declarations_turn

  pub declarations_end : (e : Declared) (rest : List Word) → declared_one d ws ≡ Ok ((e, false), rest) → total ≡ Ok (e, rest)
  declarations_end e rest is = sym declarations_turn ∙ ap (λ r. r >>= λ x. cond x.0.1 (declarations (n - (i + 1)) x.0.0 x.1) (Ok (x.0.0, x.1))) is

-- no turn is left
pub declarations_full : (n i : ℕ) (d : Declared) (ws : List Word) → n ≤ i → declarations (n - i) d ws ≡ unexpected ws
unfolding declarations
declarations_full n i d ws past = let k : n - i ≡ 0 = omega arith in ap (λ m. declarations m d ws) k

module _ (strict : Bool) (s : Scope) (n i k : ℕ) (before : Scope) (front : List Procedure) (left : ℕ) (ws : List Word) (total : Read Procedures) (below : i < n) (so_many : length front ≡ k) (whole : procs strict s (n - i) before front left ws ≡ total) where
  procs_turn : (proc_one strict s before k left ws >>= λ x. with_proc (procs strict s (n - (i + 1))) before front left x.0 x.1) ≡ total
  unfolding procs
  procs_turn =
      let m : n - i ≡ suc (n - (i + 1)) = omega arith in
      ap (λ c. proc_one strict s before c left ws >>= λ x. with_proc (procs strict s (n - (i + 1))) before front left x.0 x.1) (sym so_many) ∙ sym (ap (λ m. procs strict s m before front left ws) m) ∙ whole

  pub procs_fail : (fault : ParseFault) → Fails fault (proc_one strict s before k left ws) → Fails fault total
  procs_fail fault h = fails_first fault (proc_one strict s before k left ws) _ total procs_turn h

  pub procs_on : (p : Procedure × ℕ) (rest : List Word) → proc_one strict s before k left ws ≡ Ok (Some p, rest)
      → procs strict s (n - (i + 1)) (before ++ record { name = p.0.name; thing = Proc k } ∷ []) (front ++ p.0 ∷ []) p.1 rest ≡ total
  procs_on p rest e =
      ap (λ c. procs strict s (n - (i + 1)) (before ++ record { name = p.0.name; thing = Proc c } ∷ []) (front ++ p.0 ∷ []) p.1 rest) (sym so_many)
      ∙ sym (ap (λ r. r >>= λ x. with_proc (procs strict s (n - (i + 1))) before front left x.0 x.1) e) ∙ procs_turn

  pub procs_end : (rest : List Word) → proc_one strict s before k left ws ≡ Ok (None, rest) → total ≡ Ok ((front, left), rest)
  procs_end rest e = sym procs_turn ∙ ap (λ r. r >>= λ x. with_proc (procs strict s (n - (i + 1))) before front left x.0 x.1) e

-- no turn is left
pub procs_full : (strict : Bool) (s : Scope) (n i : ℕ) (before : Scope) (front : List Procedure) (left : ℕ) (ws : List Word) → n ≤ i → procs strict s (n - i) before front left ws ≡ unexpected ws
unfolding procs
procs_full strict s n i before front left ws past = let k : n - i ≡ 0 = omega arith in ap (λ m. procs strict s m before front left ws) k

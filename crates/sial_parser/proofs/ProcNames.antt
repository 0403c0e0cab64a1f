-- The names of a program's procedures are declared one after the other.
use Rattle.std.proofs.Common.{◌≡◌, ℕ, ◌+◌, ◌<◌, ◌≤◌, List, [], ◌∷◌, ◌++◌, true, cond, ◌&&◌, not, length, sym, ap, ◌∙◌, append_assoc, append-nil, arith}
use Rattle.std.proofs.lemmas.Bool.{lt-ltb}
use Rattle.sial_syntax.specs.Limits.{most_names}
use Rattle.sial_syntax.specs.Tree.{Procedure}
use Rattle.sial_parser.specs.Grammar.{AreProcs, numbered, names_of}
use Rattle.sial_parser.specs.Parsing.{is_some, is_new, with_procs}
use Rattle.sial_parser.specs.Scope.{Scope, IsFree, thing_of}
use Rattle.sial_parser.specs.declared.thing.Thing.TheVariants.{Proc}
use Rattle.sial_parser.specs.declared.word.Word.{Word}

-- a free name is new while there is room
pub free_is_new : (s : Scope) (number : ℕ) (name : List ℕ) → IsFree s name → number < most_names → is_new s number name ≡ true
free_is_new s number name free room = ap (λ b. b && not (is_some (thing_of s name))) (lt-ltb number most_names room) ∙ ap (λ t. not (is_some t)) free

-- with procedures that stand there
pub procs_scope : (s before : Scope) (number : ℕ) (ps : List Procedure) (ws rest : List Word) → AreProcs s before number ps ws rest → number + length ps ≤ most_names
    → with_procs before number (names_of ps) ≡ before ++ numbered number (names_of ps)
procs_scope s _ _ _ _ _ (AreProcs.none {before = before} e) few = sym (append-nil before)
procs_scope s _ _ _ _ _ (AreProcs.more {before = before} {n = number} {name = x} {others = ps} {between = between} {rest = rest} free h end others) few =
    ap (λ b. cond b (with_procs (before ++ record { name = x; thing = Proc number } ∷ []) (number + 1) (names_of ps)) (with_procs before number (names_of ps))) (free_is_new before number x free (omega (arith, few)))
    ∙ procs_scope s (before ++ record { name = x; thing = Proc number } ∷ []) (number + 1) ps between rest others (omega (arith, few))
    ∙ append_assoc before (record { name = x; thing = Proc number } ∷ []) (numbered (number + 1) (names_of ps))

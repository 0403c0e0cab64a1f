-- The conditions of a pardo.
use Rattle.std.proofs.Common.{◌≡◌, ℕ, zero, suc, ◌<◌, List, [], ◌∷◌, ◌++◌, Bool, true, false, cond, length, Some, None, Result, Ok, Err, refl, sym, ap, subst, arith}
use Rattle.sial_syntax.specs.declared.condition.Cond.{Cond}
use Rattle.sial_parser.specs.Grammar.{is_where, IsCond}
use Rattle.sial_parser.specs.Parsing.{◌>>=◌, Read, condition, wheres}
use Rattle.sial_parser.specs.Scope.{Scope}
use Rattle.sial_parser.specs.declared.fault.ParseFault.{ParseFault}
use Rattle.sial_parser.specs.declared.fault.ParseFault.TheVariants.{Expected}
use Rattle.sial_parser.specs.declared.word.Word.{Word}
use Rattle.sial_parser.proofs.OperandsAgain.{cond_short}
use Rattle.sial_parser.proofs.OperandsSound.{condition_right}
use Rattle.sial_parser.proofs.Rights.{Right}
use Rattle.sial_parser.proofs.Shapes.{where_shape, where_empty}
use Rattle.sial_faults.specs.Faults.{Past, told, checked, body_fault, past_body}
use Rattle.sial_faults.specs.Forms.{less, after_body}
use Rattle.sial_faults.specs.Parts.{Part, an_index, line_end, of_pardo}
use Rattle.sial_faults.specs.Forms as form
use Rattle.sial_faults.specs.Parts as part
use Rattle.sial_faults.proofs.Agreeing.{Agrees, AreAlike}
use Rattle.sial_faults.proofs.AgreeOperands.{condition_agrees}

-- one reading behind another, with what is known of the first
pub right_agrees : (callable : (name : List ℕ) → Bool) {A B : Type 0} (P : A → List Word → Type 0) (first : Result Past ParseFault) (between : A → Past) (parts : A → List Part) (later : B → Past) (last : B → List Part) (r : Read A) (go : A → List Word → Read B) → Right P r
    → Agrees callable first between parts r → ((x : A) (ws : List Word) → P x ws → Agrees callable (checked callable (between x) (parts x) ws) later last (go x ws)) → Agrees callable first later last (r >>= λ y. go y.0 y.1)
right_agrees callable P first between parts later last (Ok y) go right h k = subst (λ (t : Result Past ParseFault). Agrees callable t later last (go y.0 y.1)) (sym h) (k y.0 y.1 right)
right_agrees callable P first between parts later last (Err fault) go right h k = h

-- {"where" cond NL}
module _ (callable : (name : List ℕ) → Bool) (s : Scope) (past : Past) (alike : AreAlike s past.scope) (inner : ℕ) (parts : List Part) where
  where_told : (b : Bool) (w : Word) (ws : List Word) → is_where w.symbol ≡ b → checked callable past (part.wheres inner ∷ parts) (w ∷ ws)
      ≡ told w.line (cond b (Some (form.condition (part.wheres inner ∷ []))) (after_body of_pardo inner w.symbol)) (cond b None (body_fault past inner w.line w.symbol ws)) (λ more. checked callable (cond b past (past_body w.symbol past)) (more ++ parts) ws)
  where_told b w ws e =
      ap (λ b. told w.line (cond b (Some (form.condition (part.wheres inner ∷ []))) (after_body of_pardo inner w.symbol)) (cond b None (body_fault past inner w.line w.symbol ws)) (λ more. checked callable (cond b past (past_body w.symbol past)) (more ++ parts) ws)) e

  where_by : (b : Bool) (n : ℕ) (front : List Cond) (w : Word) (ws : List Word) → is_where w.symbol ≡ b → length ws < n
      → ((front : List Cond) (ws : List Word) → length ws < n → Agrees callable (checked callable past (part.wheres inner ∷ parts) ws) (λ y. past) (λ y. part.body of_pardo inner ∷ parts) (wheres s n front ws))
      → Agrees callable (checked callable past (part.wheres inner ∷ parts) (w ∷ ws)) (λ y. past) (λ y. part.body of_pardo inner ∷ parts) (cond b (condition s ws >>= λ c. wheres s n (front ++ c.0 ∷ []) c.1) (Ok (front, w ∷ ws)))
  where_by true n front w ws e few k =
      subst (λ (t : Result Past ParseFault). Agrees callable t (λ y. past) (λ y. part.body of_pardo inner ∷ parts) (condition s ws >>= λ c. wheres s n (front ++ c.0 ∷ []) c.1)) (sym (where_told true w ws e))
      (right_agrees callable (λ c rest. IsCond s c ws rest) (checked callable past (form.condition (part.wheres inner ∷ parts)) ws) (λ y. past) (λ y. part.wheres inner ∷ parts) (λ y. past) (λ y. part.body of_pardo inner ∷ parts) (condition s ws) (λ c ws. wheres s n (front ++ c ∷ []) ws)
      (condition_right s ws) (condition_agrees callable s past alike (part.wheres inner ∷ parts) ws) (λ c rest is. k (front ++ c ∷ []) rest (omega (arith, few, cond_short s c ws rest is))))
  where_by false n front w ws e few k = where_told false w ws e

  pub wheres_agree : (n : ℕ) (front : List Cond) (ws : List Word) → length ws < n → Agrees callable (checked callable past (part.wheres inner ∷ parts) ws) (λ y. past) (λ y. part.body of_pardo inner ∷ parts) (wheres s n front ws)
  wheres_agree zero front ws few = absurd (omega (arith, few))
  wheres_agree (suc n) front [] few = subst (Agrees callable (Err (Expected 0)) (λ y. past) (λ y. part.body of_pardo inner ∷ parts)) (sym (where_empty s n front)) refl
  wheres_agree (suc n) front (w ∷ ws) few =
      subst (Agrees callable (checked callable past (part.wheres inner ∷ parts) (w ∷ ws)) (λ y. past) (λ y. part.body of_pardo inner ∷ parts)) (sym (where_shape s n front w ws))
      (where_by (is_where w.symbol) n front w ws refl (omega (arith, few)) (wheres_agree n))

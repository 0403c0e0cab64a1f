-- The word `proc` stands nowhere but before the name of a procedure.
use Rattle.std.proofs.Common.{◌≡◌, ℕ, List, [], ◌∷◌, ◌++◌, false, cond, refl, ap, ◌∙◌}
use Rattle.sial_syntax.specs.Tree.{Block, Plain, Procedure}
use Rattle.sial_syntax.specs.declared.access.Access.{Access}
use Rattle.sial_syntax.specs.declared.condition.Cond.{Cond}
use Rattle.sial_syntax.specs.declared.condition.Value.{Value}
use Rattle.sial_syntax.specs.declared.operand.BlockRef.{BlockRef}
use Rattle.sial_syntax.specs.declared.operand.Operand.{Operand}
use Rattle.sial_syntax.specs.declared.operand.Right.{Right}
use Rattle.sial_syntax.specs.declared.operand.Slot.{Slot}
use Rattle.sial_syntax.specs.declared.operand.Target.{Target}
use Rattle.sial_parser.specs.Grammar.{at, sign_at, begins_proc, AreIndices, AreDims, IsBlock, IsSlot, AreSlots, IsNumber, IsOperand, IsRight, IsValue, IsCond, IsTarget, IsAccess, IsNamedEnd, IsListedEnd, AreWheres, IsStatement, IsBody, AreProcs, names_of}
use Rattle.sial_parser.specs.Parsing.{proc_names, first_name}
use Rattle.sial_parser.specs.Scope.{Scope}
use Rattle.sial_parser.specs.declared.sign.Sign.TheVariants as sign
use Rattle.sial_parser.specs.declared.word.Symbol.{Symbol}
use Rattle.sial_parser.specs.declared.word.Symbol.TheVariants.{Key, Name, Number, Quoted, LineEnd, End}
use Rattle.sial_parser.specs.declared.word.Symbol.TheVariants as symbol
use Rattle.sial_parser.specs.declared.word.Word.{Word}

-- a word that begins no procedure
over : (what : Symbol) (k : ℕ) (rest : List Word) → begins_proc what ≡ false → proc_names (at k what ∷ rest) ≡ proc_names rest
over what k rest e = ap (λ b. cond b (first_name rest ++ proc_names rest) (proc_names rest)) e

module _ (s : Scope) where
  indices_same : (closing : Symbol) → begins_proc closing ≡ false → (is : List ℕ) (ws rest : List Word) → AreIndices s closing is ws rest → proc_names ws ≡ proc_names rest
  indices_same closing e _ _ _ (AreIndices.last {k = k} {rest = rest} i) = over closing k rest e
  indices_same closing e _ _ _ (AreIndices.more i others) = indices_same closing e _ _ _ others

  dims_same : (is : List ℕ) (ws rest : List Word) → AreDims s is ws rest → proc_names ws ≡ proc_names rest
  dims_same _ _ _ (AreDims.dims is few) = indices_same (symbol.Sign sign.Close) refl _ _ _ is

  block_same : (b : BlockRef) (ws rest : List Word) → IsBlock s b ws rest → proc_names ws ≡ proc_names rest
  block_same _ _ _ (IsBlock.block a are) = dims_same _ _ _ are

  slot_same : (x : Slot) (what : Symbol) → IsSlot s x what → begins_proc what ≡ false
  slot_same _ _ (IsSlot.one i) = refl
  slot_same _ _ IsSlot.all = refl

  slots_same : (xs : List Slot) (ws rest : List Word) → AreSlots s xs ws rest → proc_names ws ≡ proc_names rest
  slots_same _ _ _ (AreSlots.last {what = what} {l = l} {k = k} {rest = rest} x) = over what l (sign_at k sign.Close ∷ rest) (slot_same _ _ x)
  slots_same _ _ _ (AreSlots.more {what = what} {l = l} {k = k} {ws = ws} x others) = over what l (sign_at k sign.Comma ∷ ws) (slot_same _ _ x) ∙ slots_same _ _ _ others

  number_same : (n : ℕ) (ws rest : List Word) → IsNumber n ws rest → proc_names ws ≡ proc_names rest
  number_same _ _ _ IsNumber.plain = refl
  number_same _ _ _ IsNumber.minus = refl

  operand_same : (o : Operand) (ws rest : List Word) → IsOperand s o ws rest → proc_names ws ≡ proc_names rest
  operand_same _ _ _ (IsOperand.number n) = number_same _ _ _ n
  operand_same _ _ _ (IsOperand.scalar x e) = refl
  operand_same _ _ _ (IsOperand.block b) = block_same _ _ _ b

  right_same : (r : Right) (ws rest : List Word) → IsRight s r ws rest → proc_names ws ≡ proc_names rest
  right_same _ _ _ (IsRight.one a) = operand_same _ _ _ a
  right_same _ _ _ (IsRight.two a how b) = operand_same _ _ _ a ∙ operand_same _ _ _ b

  value_same : (v : Value) (ws rest : List Word) → IsValue s v ws rest → proc_names ws ≡ proc_names rest
  value_same _ _ _ (IsValue.number n) = number_same _ _ _ n
  value_same _ _ _ (IsValue.scalar x) = refl
  value_same _ _ _ (IsValue.index i) = refl

  cond_same : (c : Cond) (ws rest : List Word) → IsCond s c ws rest → proc_names ws ≡ proc_names rest
  cond_same _ _ _ (IsCond.cond a how b) = value_same _ _ _ a ∙ value_same _ _ _ b

  target_same : (t : Target) (ws rest : List Word) → IsTarget s t ws rest → proc_names ws ≡ proc_names rest
  target_same _ _ _ (IsTarget.scalar x e) = refl
  target_same _ _ _ (IsTarget.block b) = block_same _ _ _ b

  access_same : (how : Access) (ws rest : List Word) → IsAccess how ws rest → proc_names ws ≡ proc_names rest
  access_same _ _ _ IsAccess.store = refl
  access_same _ _ _ IsAccess.add = refl
  access_same _ _ _ IsAccess.greatest = refl

  named_end_same : (name : List ℕ) (ws rest : List Word) → IsNamedEnd name ws rest → proc_names ws ≡ proc_names rest
  named_end_same _ _ _ IsNamedEnd.bare = refl
  named_end_same _ _ _ IsNamedEnd.named = refl

  listed_end_same : (is : List ℕ) (ws rest : List Word) → IsListedEnd s is ws rest → proc_names ws ≡ proc_names rest
  listed_end_same _ _ _ IsListedEnd.bare = refl
  listed_end_same _ _ _ (IsListedEnd.listed is) = indices_same LineEnd refl _ _ _ is

  wheres_same : (cs : List Cond) (ws rest : List Word) → AreWheres s cs ws rest → proc_names ws ≡ proc_names rest
  wheres_same _ _ _ (AreWheres.none e) = refl
  wheres_same _ _ _ (AreWheres.more c others) = cond_same _ _ _ c ∙ wheres_same _ _ _ others

  mutual
    statement_same : (form : Plain) (ws rest : List Word) → IsStatement s form ws rest → proc_names ws ≡ proc_names rest
    statement_same _ _ _ (IsStatement.do_ i body end) = body_same _ _ _ body ∙ named_end_same _ _ _ end
    statement_same _ _ _ (IsStatement.do_in ii i body end) = body_same _ _ _ body ∙ named_end_same _ _ _ end
    statement_same _ _ _ (IsStatement.pardo is few wheres body end) = indices_same LineEnd refl _ _ _ is ∙ wheres_same _ _ _ wheres ∙ body_same _ _ _ body ∙ listed_end_same _ _ _ end
    statement_same _ _ _ (IsStatement.if_ c body) = cond_same _ _ _ c ∙ body_same _ _ _ body
    statement_same _ _ _ (IsStatement.if_else c body other) = cond_same _ _ _ c ∙ body_same _ _ _ body ∙ body_same _ _ _ other
    statement_same _ _ _ (IsStatement.call p) = refl
    statement_same _ _ _ (IsStatement.assign t how r) = target_same _ _ _ t ∙ right_same _ _ _ r
    statement_same _ _ _ (IsStatement.get b) = block_same _ _ _ b
    statement_same _ _ _ (IsStatement.request b) = block_same _ _ _ b
    statement_same _ _ _ (IsStatement.request_along b i) = block_same _ _ _ b
    statement_same _ _ _ (IsStatement.put b how from) = block_same _ _ _ b ∙ access_same _ _ _ how ∙ block_same _ _ _ from
    statement_same _ _ _ (IsStatement.prepare b how from) = block_same _ _ _ b ∙ access_same _ _ _ how ∙ block_same _ _ _ from
    statement_same _ _ _ (IsStatement.create a) = refl
    statement_same _ _ _ (IsStatement.delete a) = refl
    statement_same _ _ _ (IsStatement.allocate a slots few) = slots_same _ _ _ slots
    statement_same _ _ _ (IsStatement.deallocate a slots few) = slots_same _ _ _ slots
    statement_same _ _ _ (IsStatement.collective x y) = refl
    statement_same _ _ _ IsStatement.sip_barrier = refl
    statement_same _ _ _ IsStatement.server_barrier = refl
    statement_same _ _ _ IsStatement.print = refl
    statement_same _ _ _ (IsStatement.print_scalar x) = refl
    statement_same _ _ _ (IsStatement.integrals b) = block_same _ _ _ b

    body_same : (body : Block) (ws rest : List Word) → IsBody s body ws rest → proc_names ws ≡ proc_names rest
    body_same _ _ _ (IsBody.none e) = refl
    body_same _ _ _ (IsBody.more statement others) = statement_same _ _ _ statement ∙ body_same _ _ _ others

  -- the names behind `proc` are those of the procedures
  pub procs_named : (before : Scope) (n : ℕ) (ps : List Procedure) (ws rest : List Word) → AreProcs s before n ps ws rest → proc_names ws ≡ names_of ps ++ proc_names rest
  procs_named _ _ _ _ _ (AreProcs.none e) = refl
  procs_named _ _ _ _ _ (AreProcs.more {name = name} free body end others) = ap (λ names. name ∷ names) (body_same _ _ _ body ∙ named_end_same _ _ _ end ∙ procs_named _ _ _ _ _ others)

  -- nor does it stand in a body, nor behind the last end word
  pub end_named : (body : Block) (name : List ℕ) (j h : ℕ) (ws ends : List Word) (what : Symbol) → begins_proc what ≡ false → IsBody s body ws (at j what ∷ ends) → IsNamedEnd name ends (at h End ∷ []) → proc_names ws ≡ []
  end_named body name j h ws ends what e is end = body_same _ _ _ is ∙ over what j ends e ∙ named_end_same _ _ _ end

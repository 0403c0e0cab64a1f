-- What stands inside a statement, and behind one.
use Rattle.std.proofs.Common.{◌≡◌, ℕ, ◌+◌, List, [], ◌∷◌, ◌++◌, length, refl, ap, sym, subst, arith, length-append, append_assoc, ◌&&◌}
use Rattle.std.specs.List.{list_all}
use Rattle.std.proofs.lemmas.Bool.{and_parts}
use Rattle.sial_syntax.specs.declared.condition.Cond.{Cond}
use Rattle.sial_syntax.specs.Limits.{most_pardo}
use Rattle.sial_syntax.specs.Numbering.{size, sizes}
use Rattle.sial_syntax.specs.Proper.{proper_form, proper_body, proper_cond, has_index, has_length}
use Rattle.sial_syntax.specs.Tree.{Tree, Block, Then, Plain, Do, DoIn, Pardo, If, IfElse}
use Rattle.sip_tables.specs.Code.{instruction, alone, wheres_code, form_code, body_code, entries_of}
use Rattle.sip_tables.specs.declared.instruction.Instruction.{Instruction}
use Rattle.sip_tables.specs.declared.instruction.Operation.TheVariants as op
use Rattle.sip_tables.specs.Flatten.{flatten}
use Rattle.sip_tables.specs.Texts.{prints, body_prints}
use Rattle.sip_tables.proofs.CodeLemmas.{length-wheres_code, length-form_code, length-body_code}
use Rattle.code_places.proofs.Pieces.{within, first_part, second_part}
use Rattle.code_places.specs.Standing.{BodyStands, FormStands}

-- a body stands at an equal place
pub body_moved : (p : Tree) (at n : ℕ) (body : Block) → at ≡ n → BodyStands p at body → BodyStands p n body
body_moved p at n body e stands = subst (λ (m : ℕ). BodyStands p m body) e stands

-- the first statement of a body
pub body_first : (p : Tree) (at line : ℕ) (form : Plain) (rest : Block) → BodyStands p at (Then line form rest) → FormStands p at line form
body_first p at line form rest stands = record {
  proper = (and_parts (proper_form p form) (proper_body p rest) stands.proper).0;
  text = stands.text;
  code = first_part at (form_code (entries_of p) at stands.text line form) (body_code (entries_of p) (at + size form) (stands.text + length (prints form)) rest) (flatten p).code stands.code;
  texts = first_part stands.text (prints form) (body_prints rest) (flatten p).texts stands.texts;
}

-- the others
pub body_others : (p : Tree) (at line : ℕ) (form : Plain) (rest : Block) → BodyStands p at (Then line form rest) → BodyStands p (at + size form) rest
body_others p at line form rest stands =
    let len = length-form_code (entries_of p) at stands.text line form in
    record {
      proper = (and_parts (proper_form p form) (proper_body p rest) stands.proper).1;
      text = stands.text + length (prints form);
      code = second_part at (at + size form) (form_code (entries_of p) at stands.text line form) (body_code (entries_of p) (at + size form) (stands.text + length (prints form)) rest) (flatten p).code stands.code (omega (arith, len));
      texts = second_part stands.text (stands.text + length (prints form)) (prints form) (body_prints rest) (flatten p).texts stands.texts refl;
    }

-- the body of a loop
pub do_body : (p : Tree) (at line index : ℕ) (body : Block) → FormStands p at line (Do index body) → BodyStands p (at + 1) body
do_body p at line index body stands = record {
  proper = (and_parts (has_index p index) (proper_body p body) stands.proper).1;
  text = stands.text;
  code = within at (at + 1) (form_code (entries_of p) at stands.text line (Do index body)) (flatten p).code (instruction line (op.Do index (at + size (Do index body))) ∷ []) (body_code (entries_of p) (at + 1) stands.text body) (alone line (op.EndDo at)) stands.code refl refl;
  texts = stands.texts;
}

-- the body of a loop over pieces
pub do_in_body : (p : Tree) (at line sub index : ℕ) (body : Block) → FormStands p at line (DoIn sub index body) → BodyStands p (at + 1) body
do_in_body p at line sub index body stands = record {
  proper = (and_parts (has_index p index) (proper_body p body) (and_parts (has_index p sub) (has_index p index && proper_body p body) stands.proper).1).1;
  text = stands.text;
  code = within at (at + 1) (form_code (entries_of p) at stands.text line (DoIn sub index body)) (flatten p).code (instruction line (op.DoIn sub index (at + size (DoIn sub index body))) ∷ []) (body_code (entries_of p) (at + 1) stands.text body) (alone line (op.EndDo at)) stands.code refl refl;
  texts = stands.texts;
}

-- the body of a pardo
pub pardo_body : (p : Tree) (at line : ℕ) (indices : List ℕ) (wheres : List Cond) (body : Block) → FormStands p at line (Pardo indices wheres body) → BodyStands p (at + (1 + length wheres)) body
pardo_body p at line indices wheres body stands =
    let len = length-wheres_code line wheres in
    let first = and_parts (has_length most_pardo indices) (list_all (has_index p) indices && (list_all (proper_cond p) wheres && proper_body p body)) stands.proper in
    let second = and_parts (list_all (has_index p) indices) (list_all (proper_cond p) wheres && proper_body p body) first.1 in
    record {
      proper = (and_parts (list_all (proper_cond p) wheres) (proper_body p body) second.1).1;
      text = stands.text;
      code = within at (at + (1 + length wheres)) (form_code (entries_of p) at stands.text line (Pardo indices wheres body)) (flatten p).code (instruction line (op.Pardo indices (at + (1 + (length wheres + sizes body)))) ∷ wheres_code line wheres) (body_code (entries_of p) (at + (1 + length wheres)) stands.text body) (alone line (op.EndPardo at)) stands.code refl (omega (arith, len));
      texts = stands.texts;
    }

-- the body of an `if`
pub if_body : (p : Tree) (at line : ℕ) (cond : Cond) (body : Block) → FormStands p at line (If cond body) → BodyStands p (at + 1) body
if_body p at line cond body stands = record {
  proper = (and_parts (proper_cond p cond) (proper_body p body) stands.proper).1;
  text = stands.text;
  code = within at (at + 1) (form_code (entries_of p) at stands.text line (If cond body)) (flatten p).code (instruction line (op.If cond (at + size (If cond body))) ∷ []) (body_code (entries_of p) (at + 1) stands.text body) (alone line op.EndIf) stands.code refl refl;
  texts = stands.texts;
}

-- the first branch of an `if` with `else`
pub met_body : (p : Tree) (at line : ℕ) (cond : Cond) (body other : Block) → FormStands p at line (IfElse cond body other) → BodyStands p (at + 1) body
met_body p at line cond body other stands = record {
  proper = (and_parts (proper_body p body) (proper_body p other) (and_parts (proper_cond p cond) (proper_body p body && proper_body p other) stands.proper).1).0;
  text = stands.text;
  code = within at (at + 1) (form_code (entries_of p) at stands.text line (IfElse cond body other)) (flatten p).code (instruction line (op.If cond (at + (sizes body + 2))) ∷ []) (body_code (entries_of p) (at + 1) stands.text body) (instruction line (op.Else (at + size (IfElse cond body other))) ∷ (body_code (entries_of p) (at + (sizes body + 2)) (stands.text + length (body_prints body)) other ++ alone line op.EndIf)) stands.code refl refl;
  texts = first_part stands.text (body_prints body) (body_prints other) (flatten p).texts stands.texts;
}

-- its other branch
pub unmet_body : (p : Tree) (at line : ℕ) (cond : Cond) (body other : Block) → FormStands p at line (IfElse cond body other) → BodyStands p (at + (sizes body + 2)) other
unmet_body p at line cond body other stands =
    let head = instruction line (op.If cond (at + (sizes body + 2))) in
    let middle = instruction line (op.Else (at + size (IfElse cond body other))) in
    let first = body_code (entries_of p) (at + 1) stands.text body in
    let second = body_code (entries_of p) (at + (sizes body + 2)) (stands.text + length (body_prints body)) other in
    let last = alone line op.EndIf in
    let len = length-body_code (entries_of p) (at + 1) stands.text body in
    let both = length-append first (middle ∷ []) in
    record {
      proper = (and_parts (proper_body p body) (proper_body p other) (and_parts (proper_cond p cond) (proper_body p body && proper_body p other) stands.proper).1).1;
      text = stands.text + length (body_prints body);
      code = within at (at + (sizes body + 2)) (form_code (entries_of p) at stands.text line (IfElse cond body other)) (flatten p).code (head ∷ (first ++ middle ∷ [])) second last stands.code (ap (λ (x : List Instruction). head ∷ x) (sym (append_assoc first (middle ∷ []) (second ++ last)))) (omega (arith, len, both));
      texts = second_part stands.text (stands.text + length (body_prints body)) (body_prints body) (body_prints other) (flatten p).texts stands.texts refl;
    }

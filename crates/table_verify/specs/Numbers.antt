-- Whether the numbers that statements write out are numbers, and their lines those of texts.
use Rattle.std.specs.Prelude.{Bool, true, ◌&&◌}
use Rattle.std.specs.List.{list_all, flat_map}
use Rattle.sial_syntax.specs.Parts.{condition_numbers, operand_number, operands}
use Rattle.sial_syntax.specs.Proper.{is_number, is_line}
use Rattle.sial_syntax.specs.Tree.{Block, End, Then, Plain, Do, DoIn, Pardo, If, IfElse, Assign}

abbrev mutual
  -- a statement with those inside
  pub form_numbers : Plain → Bool
  form_numbers (Do index body) = body_numbers body
  form_numbers (DoIn sub index body) = body_numbers body
  form_numbers (Pardo indices wheres body) = list_all is_number (flat_map condition_numbers wheres) && body_numbers body
  form_numbers (If test body) = list_all is_number (condition_numbers test) && body_numbers body
  form_numbers (IfElse test body other) = list_all is_number (condition_numbers test) && (body_numbers body && body_numbers other)
  form_numbers (Assign target op right) = list_all is_number (flat_map operand_number (operands right))
  form_numbers _ = true

  -- all statements of a body
  pub body_numbers : Block → Bool
  body_numbers End = true
  body_numbers (Then line form rest) = (is_line line && form_numbers form) && body_numbers rest

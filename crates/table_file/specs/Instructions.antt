-- Instructions, read field by field.
use Rattle.std.specs.Prelude.{ℕ, List, Result}
use Rattle.sip_tables.specs.declared.instruction.Operation.TheVariants as op
use Rattle.sip_tables.specs.declared.instruction.Instruction.{Instruction}
use Rattle.table_file.specs.declared.fault.TableFault.{TableFault}
use Rattle.table_file.specs.declared.opcode.Opcode.{Opcode}
use Rattle.table_file.specs.Control.{ending, loop_head, pieces_head, branch, pardo_head, where_line, call, end_do, past_else, end_pardo}
use Rattle.table_file.specs.Simple.{assignment, collection, print, get, request, integrals, create, delete, print_scalar, put, prepare, allocate, deallocate}
use Rattle.table_file.specs.declared.opcode.Opcode.TheVariants as code

-- the rest of an instruction behind its operation
unfoldable pub instruction : (version : ℕ) → (texts : List (List ℕ)) → Opcode → List ℕ → (at : ℕ) → Result (Instruction × ℕ) TableFault
instruction version texts code.Stop bytes at = ending op.Stop bytes at
instruction version texts code.Return bytes at = ending op.Return bytes at
instruction version texts code.Do bytes at = loop_head bytes at
instruction version texts code.EndDo bytes at = end_do bytes at
instruction version texts code.DoIn bytes at = pieces_head bytes at
instruction version texts code.If bytes at = branch bytes at
instruction version texts code.Else bytes at = past_else bytes at
instruction version texts code.EndIf bytes at = ending op.EndIf bytes at
instruction version texts code.Pardo bytes at = pardo_head bytes at
instruction version texts code.Where bytes at = where_line bytes at
instruction version texts code.EndPardo bytes at = end_pardo bytes at
instruction version texts code.Call bytes at = call bytes at
instruction version texts code.Assign bytes at = assignment bytes at
instruction version texts code.Get bytes at = get bytes at
instruction version texts code.Put bytes at = put version bytes at
instruction version texts code.Request bytes at = request bytes at
instruction version texts code.Prepare bytes at = prepare version bytes at
instruction version texts code.Create bytes at = create bytes at
instruction version texts code.Delete bytes at = delete bytes at
instruction version texts code.Allocate bytes at = allocate bytes at
instruction version texts code.Deallocate bytes at = deallocate bytes at
instruction version texts code.Collective bytes at = collection bytes at
instruction version texts code.SipBarrier bytes at = ending op.SipBarrier bytes at
instruction version texts code.ServerBarrier bytes at = ending op.ServerBarrier bytes at
instruction version texts code.Print bytes at = print texts bytes at
instruction version texts code.PrintScalar bytes at = print_scalar bytes at
instruction version texts code.Integrals bytes at = integrals bytes at

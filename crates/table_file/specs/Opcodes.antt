-- Operations by their numbers alone.
use Rattle.std.specs.Prelude.{ℕ, Bool, true, false, ◌==◌, if◌then◌else◌, Option, Some, None}
use Rattle.table_file.specs.declared.opcode.Opcode.{Opcode}
use Rattle.table_file.specs.declared.opcode.Opcode.TheVariants as code

-- the operation of a number
abbrev pub opcode_of : ℕ → Option Opcode
opcode_of n =
    if n == 1 then Some code.Stop
    else if n == 2 then Some code.Return
    else if n == 3 then Some code.Do
    else if n == 4 then Some code.EndDo
    else if n == 5 then Some code.DoIn
    else if n == 7 then Some code.If
    else if n == 8 then Some code.Else
    else if n == 9 then Some code.EndIf
    else if n == 10 then Some code.Pardo
    else if n == 11 then Some code.Where
    else if n == 12 then Some code.EndPardo
    else if n == 13 then Some code.Call
    else if n == 14 then Some code.Assign
    else if n == 15 then Some code.Get
    else if n == 16 then Some code.Put
    else if n == 17 then Some code.Request
    else if n == 18 then Some code.Prepare
    else if n == 19 then Some code.Create
    else if n == 20 then Some code.Delete
    else if n == 21 then Some code.Allocate
    else if n == 22 then Some code.Deallocate
    else if n == 23 then Some code.Collective
    else if n == 24 then Some code.SipBarrier
    else if n == 25 then Some code.ServerBarrier
    else if n == 26 then Some code.Print
    else if n == 27 then Some code.PrintScalar
    else if n == 28 then Some code.Integrals
    else None

-- whether an operation begins a statement
abbrev pub begins_statement : Opcode → Bool
begins_statement code.Stop = false
begins_statement code.Return = false
begins_statement code.EndDo = false
begins_statement code.Else = false
begins_statement code.EndIf = false
begins_statement code.Where = false
begins_statement code.EndPardo = false
begins_statement _ = true

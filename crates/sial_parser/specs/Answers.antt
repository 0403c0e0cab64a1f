-- What a call answers is what a reading gives, unless memory ran out.
use Rattle.std.specs.Prelude.{◌≡◌, Result, Ok, Err}
use Rattle.sial_parser.specs.declared.fault.ParseFault.{ParseFault}
use Rattle.sial_parser.specs.declared.fault.ParseFault.TheVariants.{Lex, Expected, Undeclared, Twice, EndName, TooMany, TooDeep, OutOfMemory}

-- a fault tells of want of memory, or is the reading's
abbrev pub Fails : {Y : Type 0} → ParseFault → Result Y ParseFault → Type 0
Fails OutOfMemory read = Unit {0}
Fails (Lex fault) read = read ≡ Err (Lex fault)
Fails (Expected line) read = read ≡ Err (Expected line)
Fails (Undeclared line) read = read ≡ Err (Undeclared line)
Fails (Twice line) read = read ≡ Err (Twice line)
Fails (EndName line) read = read ≡ Err (EndName line)
Fails (TooMany line which) read = read ≡ Err (TooMany line which)
Fails (TooDeep line) read = read ≡ Err (TooDeep line)

-- an answer, seen so, is what a reading gives
abbrev pub Gives : {X Y : Type 0} → (X → Y) → Result X ParseFault → Result Y ParseFault → Type 0
Gives view (Ok x) read = read ≡ Ok (view x)
Gives view (Err fault) read = Fails fault read

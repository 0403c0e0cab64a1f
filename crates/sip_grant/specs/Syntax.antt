-- What a fault of a program's file says of the file.
use Rattle.std.specs.Prelude.{◌≡◌, ◌≢◌, ◌⊎◌, ℕ, List, true, false, Some, Err}
use Rattle.sial_faults.specs.Faults.{fault_of}
use Rattle.sial_lexer.specs.Cut.{HasTokens}
use Rattle.sial_lexer.specs.Faults as lexer
use Rattle.sial_lexer.specs.declared.fault.LexFault.{LexFault}
use Rattle.sial_lexer.specs.declared.token.Token.{Token}
use Rattle.sial_parser.specs.Whole.{HasNoTree}
use Rattle.sial_parser.specs.Words.{words_of}
use Rattle.sial_parser.specs.declared.fault.ParseFault.{ParseFault}
use Rattle.sial_parser.specs.declared.fault.ParseFault.TheVariants.{Lex, OutOfMemory}
use Rattle.sial_syntax.specs.Proper.{IsProper}
use Rattle.sial_syntax.specs.Tree.{Tree}
use Rattle.sip_grant.specs.Sources.{is_table}
use Rattle.sip_grant.specs.declared.refusal.SyntaxFault.{SyntaxFault}
use Rattle.sip_grant.specs.declared.refusal.SyntaxFault.TheVariants.{Text, File, Tables}
use Rattle.sip_tables.specs.Flatten.{flatten}
use Rattle.sip_tables.specs.Lists.{Lists}
use Rattle.table_file.specs.Fits.{IsFileOf}
use Rattle.table_file.specs.Reading.{decode_of}
use Rattle.table_file.specs.declared.fault.TableFault.{TableFault}
use Rattle.table_file.specs.declared.fault.TableFault.TheVariants as file
use Rattle.table_verify.specs.FirstFaults.{Tells}
use Rattle.table_verify.specs.declared.fault.VerifyFault.{VerifyFault}
use Rattle.table_verify.specs.declared.fault.VerifyFault.TheVariants as verify

-- the first fault of a text: where it has no tokens, the lexer's; else that of its words which stands first
abbrev pub IsFirst : (text : List ℕ) → ParseFault → Type 0
IsFirst text fault =
    ((lex : LexFault) × lexer.IsFaultOf text lex × (fault ≡ Lex lex))
    ⊎ ((tokens : List Token) × HasTokens text tokens × (fault_of (words_of text tokens) ≡ Some fault))

-- a text's fault: the text is that of no tree, and this is its first fault
pub record IsFaultOfText (text : List ℕ) (fault : ParseFault) : Type 0 where
  pub no_tree : HasNoTree text
  pub first : IsFirst text fault
  pub no_want : fault ≢ OutOfMemory

-- a table file's fault: it is the file of no tables, and this is its first fault in reading order
pub record IsFaultOfFile (bytes : List ℕ) (fault : TableFault) : Type 0 where
  pub no_tables : (t : Lists) → IsFileOf bytes t → ⊥
  pub first : decode_of bytes ≡ Err fault
  pub no_want : fault ≢ file.OutOfMemory

-- the fault of a table file's tables: they are those of no program, and this is their first fault by instruction and then by kind
pub record IsFaultOfTables (bytes : List ℕ) (fault : VerifyFault) : Type 0 where
  pub tables : Lists
  pub file_is : IsFileOf bytes tables
  pub no_program : (p : Tree) → IsProper p → flatten p ≡ tables → ⊥
  pub first : Tells tables fault
  pub no_want : fault ≢ verify.OutOfMemory

-- a file's fault
abbrev pub IsFaultOf : List ℕ → SyntaxFault → Type 0
IsFaultOf bytes (Text fault) = (is_table bytes ≡ false) × IsFaultOfText bytes fault
IsFaultOf bytes (File fault) = (is_table bytes ≡ true) × IsFaultOfFile bytes fault
IsFaultOf bytes (Tables fault) = (is_table bytes ≡ true) × IsFaultOfTables bytes fault

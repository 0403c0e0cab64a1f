-- The program of a file, and what is wrong with a file.
use Rattle.std.proofs.Common.{◌≡◌, ◌≢◌, ℕ, List, Bool, true, false, Result, Ok, Err, subst, sym, refl}
use Rattle.sial_parser.specs.Answers as parser
use Rattle.sial_parser.specs.Whole.{IsRefused, parse_of}
use Rattle.sial_parser.specs.Words.{IsTextOf}
use Rattle.sial_parser.specs.declared.fault.ParseFault.{ParseFault}
use Rattle.sial_parser.specs.declared.fault.ParseFault.TheVariants as parse
use Rattle.sial_syntax.specs.Proper.{IsProper}
use Rattle.sial_syntax.specs.Tree.{Tree}
use Rattle.sip_grant.proofs.SyntaxLemmas.{fault_is}
use Rattle.sip_grant.specs.Sources.{is_table, IsSourceBy, IsSourceOf}
use Rattle.sip_grant.specs.Syntax.{IsFaultOf}
use Rattle.sip_grant.specs.declared.refusal.SyntaxFault.TheVariants.{Text, File, Tables}
use Rattle.sip_tables.specs.Flatten.{flatten}
use Rattle.sip_tables.specs.Lists.{Lists}
use Rattle.table_file.specs.Fields.{Fails}
use Rattle.table_file.specs.Fits.{IsFileOf}
use Rattle.table_file.specs.Reading.{decode_of}
use Rattle.table_file.specs.declared.fault.TableFault.{TableFault}
use Rattle.table_file.specs.declared.fault.TableFault.TheVariants as file
use Rattle.table_verify.specs.Answers.{Answers}
use Rattle.table_verify.specs.FirstFaults.{Tells}
use Rattle.table_verify.specs.declared.fault.VerifyFault.{VerifyFault}
use Rattle.table_verify.specs.declared.fault.VerifyFault.TheVariants as verify

-- A text that isn't a table file is its program's file.
pub source_of_text : (text : List ℕ) (p : Tree) → is_table text ≡ false → IsTextOf text p → IsSourceOf text p
source_of_text text p e is = subst (λ (table : Bool). IsSourceBy table text p) (sym e) is

-- The file of a proper program's tables is the program's.
pub source_of_tables : (bytes : List ℕ) (p : Tree) (t : Lists) → is_table bytes ≡ true → IsFileOf bytes t → IsProper p → flatten p ≡ t → IsSourceOf bytes p
source_of_tables bytes p t e is proper same =
    subst (λ (table : Bool). IsSourceBy table bytes p) (sym e)
    (record { proper = proper; file = subst (λ (l : Lists). IsFileOf bytes l) (sym same) is })

-- What `parse` refuses with, unless memory ran out, is the file's fault.
pub text_blames :
    (text : List ℕ) (fault : ParseFault)
    → is_table text ≡ false → IsRefused text fault → parser.Fails fault (parse_of text) → fault ≢ parse.OutOfMemory → IsFaultOf text (Text fault)
text_blames text fault e none found not = (e, fault_is text fault none found not)

-- a fault isn't want of memory where it is answered to a file of tables
no_file : (fault : TableFault) (t : Lists) → Fails {Y = Lists} fault (Ok t) → fault ≢ file.OutOfMemory → ⊥
no_file file.Magic t fails not = absurd cc
no_file file.Version t fails not = absurd cc
no_file (file.Short at) t fails not = absurd cc
no_file (file.Field at) t fails not = absurd cc
no_file (file.Rest at) t fails not = absurd cc
no_file (file.TooMany at) t fails not = absurd cc
no_file file.OutOfMemory t fails not = not refl

-- what a reading fails with
fails_so : (fault : TableFault) (read : Result Lists TableFault) → Fails fault read → fault ≢ file.OutOfMemory → read ≡ Err fault
fails_so file.Magic read fails not = fails
fails_so file.Version read fails not = fails
fails_so (file.Short at) read fails not = fails
fails_so (file.Field at) read fails not = fails
fails_so (file.Rest at) read fails not = fails
fails_so (file.TooMany at) read fails not = fails
fails_so file.OutOfMemory read fails not = absurd (not refl)

-- The same of `decode`.
pub file_blames :
    (bytes : List ℕ) (fault : TableFault)
    → is_table bytes ≡ true
    → ((t : Lists) → IsFileOf bytes t → Fails {Y = Lists} fault (Ok t))
    → Fails fault (decode_of bytes)
    → fault ≢ file.OutOfMemory
    → IsFaultOf bytes (File fault)
file_blames bytes fault e only found not =
    (e, record { no_tables = λ t is. no_file fault t (only t is) not; first = fails_so fault (decode_of bytes) found not; no_want = not })

-- what is answered to the tables of a program is want of memory
no_program : (p : Tree) (fault : VerifyFault) → Answers p (Err fault) → fault ≢ verify.OutOfMemory → ⊥
no_program p (verify.Nest at) is not = is
no_program p (verify.Target at) is not = is
no_program p (verify.Id at) is not = is
no_program p verify.OutOfMemory is not = not refl

-- The same of `unflatten`.
pub tables_blame :
    (bytes : List ℕ) (t : Lists) (fault : VerifyFault)
    → is_table bytes ≡ true
    → IsFileOf bytes t
    → ((p : Tree) → IsProper p → flatten p ≡ t → Answers p (Err fault))
    → Tells t fault
    → fault ≢ verify.OutOfMemory
    → IsFaultOf bytes (Tables fault)
tables_blame bytes t fault e is only first not =
    (e, record { tables = t; file_is = is; no_program = λ p proper same. no_program p fault (only p proper same) not; first = first; no_want = not })

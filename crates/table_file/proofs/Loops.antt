-- Reading one thing after the other, as a loop does.
use Rattle.std.proofs.Common.{◌≡◌, ℕ, suc, ◌-◌, ◌+◌, ◌≤◌, ◌<◌, List, [], ◌∷◌, ◌++◌, Result, Ok, Err, refl, sym, ap, ◌∙◌, append_assoc, append-nil, arith}
use Rattle.sip_tables.specs.declared.instruction.Instruction.{Instruction}
use Rattle.table_file.specs.declared.fault.TableFault.{TableFault}
use Rattle.table_file.specs.declared.fault.TableFault.TheVariants.{Magic, Version, Short, Field, Rest, TooMany, OutOfMemory}
use Rattle.table_file.specs.declared.opcode.Opcode.{Opcode}
use Rattle.table_file.specs.Fields.{◌>>=◌, Fails, exactly, all_exactly, entries, behind}
use Rattle.table_file.specs.Entries.{program_name, text}
use Rattle.table_file.specs.Instructions.{instruction}
use Rattle.table_file.specs.Reading.{operation, counted, instructions, some_texts}

-- a fault of a part is a fault of the whole, where the part's fault decides
pub fails_on : {X Y : Type 0} (fault : TableFault) (part : Result X TableFault) (whole : Result Y TableFault) → ((f : TableFault) → part ≡ Err f → whole ≡ Err f) → Fails fault part → Fails fault whole
fails_on Magic part whole decides fails = decides Magic fails
fails_on Version part whole decides fails = decides Version fails
fails_on (Short at) part whole decides fails = decides (Short at) fails
fails_on (Field at) part whole decides fails = decides (Field at) fails
fails_on (Rest at) part whole decides fails = decides (Rest at) fails
fails_on (TooMany at) part whole decides fails = decides (TooMany at) fails
fails_on OutOfMemory part whole decides fails = tt

-- a fault behind a first part is a fault of all
behind-err : {X : Type 0} (front : List X) (part : Result (List X × ℕ) TableFault) (f : TableFault) → part ≡ Err f → behind front part ≡ Err f
behind-err front part f e = ap (behind front) e

-- ---- bytes that have to be these

pub byte_goes_on : (wanted count i : ℕ) (bytes : List ℕ) (at next : ℕ) (total : Result ℕ TableFault) → i < count → exactly wanted bytes at ≡ Ok next
    → all_exactly wanted (count - i) bytes at ≡ total → all_exactly wanted (count - (i + 1)) bytes next ≡ total
unfolding all_exactly
byte_goes_on wanted count i bytes at next total lt h so_far =
    let k : count - i ≡ suc (count - (i + 1)) = omega arith in
    let one : all_exactly wanted (count - i) bytes at ≡ all_exactly wanted (count - (i + 1)) bytes next = rw (k, h) refl in
    sym one ∙ so_far

pub byte_ends : (fault : TableFault) (wanted count i : ℕ) (bytes : List ℕ) (at : ℕ) (total : Result ℕ TableFault) → i < count → Fails fault (exactly wanted bytes at)
    → all_exactly wanted (count - i) bytes at ≡ total → Fails fault total
unfolding all_exactly
byte_ends fault wanted count i bytes at total lt fails so_far =
    let k : count - i ≡ suc (count - (i + 1)) = omega arith in
    fails_on fault (exactly wanted bytes at) total (λ f h. let one : all_exactly wanted (count - i) bytes at ≡ Err f = rw (k, h) refl in sym so_far ∙ one) fails

pub bytes_done : (wanted count i : ℕ) (bytes : List ℕ) (at : ℕ) (total : Result ℕ TableFault) → count ≤ i → all_exactly wanted (count - i) bytes at ≡ total → total ≡ Ok at
unfolding all_exactly
bytes_done wanted count i bytes at total le so_far =
    let k : count - i ≡ 0 = omega arith in
    let one : all_exactly wanted (count - i) bytes at ≡ Ok at = rw k refl in
    sym so_far ∙ one

-- ---- entries of one kind

regroup : {X : Type 0} (front : List X) (x : X) (read : Result (List X × ℕ) TableFault) → behind front (read >>= λ o. Ok (x ∷ o.0, o.1)) ≡ behind (front ++ x ∷ []) read
regroup front x (Ok o) = ap (λ xs. Ok (xs, o.1)) (sym (append_assoc front (x ∷ []) o.0))
regroup front x (Err f) = refl

pub entry_goes_on : {X : Type 0} (entry : List ℕ → ℕ → Result (X × ℕ) TableFault) (front : List X) (count i : ℕ) (bytes : List ℕ) (at : ℕ) (x : X) (next : ℕ) (total : Result (List X × ℕ) TableFault) → i < count → entry bytes at ≡ Ok (x, next)
    → behind front (entries entry (count - i) bytes at) ≡ total → behind (front ++ x ∷ []) (entries entry (count - (i + 1)) bytes next) ≡ total
unfolding entries
entry_goes_on entry front count i bytes at x next total lt h so_far =
    let k : count - i ≡ suc (count - (i + 1)) = omega arith in
    let one : behind front (entries entry (count - i) bytes at) ≡ behind (front ++ x ∷ []) (entries entry (count - (i + 1)) bytes next) = rw (k, h) (regroup front x (entries entry (count - (i + 1)) bytes next)) in
    sym one ∙ so_far

pub entry_ends : {X : Type 0} (entry : List ℕ → ℕ → Result (X × ℕ) TableFault) (fault : TableFault) (front : List X) (count i : ℕ) (bytes : List ℕ) (at : ℕ) (total : Result (List X × ℕ) TableFault) → i < count → Fails fault (entry bytes at)
    → behind front (entries entry (count - i) bytes at) ≡ total → Fails fault total
unfolding entries
entry_ends entry fault front count i bytes at total lt fails so_far =
    let k : count - i ≡ suc (count - (i + 1)) = omega arith in
    fails_on fault (entry bytes at) total (λ f h. let one : behind front (entries entry (count - i) bytes at) ≡ Err f = rw (k, h) refl in sym so_far ∙ one) fails

pub entries_done : {X : Type 0} (entry : List ℕ → ℕ → Result (X × ℕ) TableFault) (front : List X) (count i : ℕ) (bytes : List ℕ) (at : ℕ) (total : Result (List X × ℕ) TableFault) → count ≤ i → behind front (entries entry (count - i) bytes at) ≡ total → total ≡ Ok (front, at)
unfolding entries
entries_done entry front count i bytes at total le so_far =
    let k : count - i ≡ 0 = omega arith in
    let one : behind front (entries entry (count - i) bytes at) ≡ Ok (front, at) = rw k (ap (λ xs. Ok (xs, at)) (append-nil front)) in
    sym so_far ∙ one

-- with nothing before them
pub behind_nothing : {X : Type 0} (read : Result (List X × ℕ) TableFault) → behind [] read ≡ read
behind_nothing (Ok x) = refl
behind_nothing (Err f) = refl

-- ---- instructions, with the count of statements before each

pub code_goes_on : (version : ℕ) (texts : List (List ℕ)) (statements more : ℕ) (opcode : Opcode) (front : List Instruction) (count i : ℕ) (bytes : List ℕ) (at mid : ℕ) (x : Instruction) (next : ℕ) (total : Result (List Instruction × ℕ) TableFault)
    → i < count → operation bytes at ≡ Ok (opcode, mid) → counted statements opcode at ≡ Ok more → instruction version texts opcode bytes mid ≡ Ok (x, next)
    → behind front (instructions version texts statements (count - i) bytes at) ≡ total → behind (front ++ x ∷ []) (instructions version texts more (count - (i + 1)) bytes next) ≡ total
unfolding instructions
code_goes_on version texts statements more opcode front count i bytes at mid x next total lt first second third so_far =
    let k : count - i ≡ suc (count - (i + 1)) = omega arith in
    let one : behind front (instructions version texts statements (count - i) bytes at) ≡ behind (front ++ x ∷ []) (instructions version texts more (count - (i + 1)) bytes next) =
    rw (k, first, second, third) (regroup front x (instructions version texts more (count - (i + 1)) bytes next)) in
    sym one ∙ so_far

-- a fault of one instruction is the code's
pub code_ends : {Y : Type 0} (fault : TableFault) (part : Result Y TableFault) (version : ℕ) (texts : List (List ℕ)) (statements : ℕ) (front : List Instruction) (count i : ℕ) (bytes : List ℕ) (at : ℕ) (total : Result (List Instruction × ℕ) TableFault)
    → i < count → ((f : TableFault) (n : ℕ) → part ≡ Err f → instructions version texts statements (suc n) bytes at ≡ Err f) → Fails fault part
    → behind front (instructions version texts statements (count - i) bytes at) ≡ total → Fails fault total
code_ends fault part version texts statements front count i bytes at total lt decides fails so_far =
    let k : count - i ≡ suc (count - (i + 1)) = omega arith in
    fails_on fault part total (λ f h. sym so_far ∙ ap (λ n. behind front (instructions version texts statements n bytes at)) k ∙ ap (behind front) (decides f (count - (i + 1)) h)) fails

pub operation_fails : (version : ℕ) (texts : List (List ℕ)) (statements : ℕ) (bytes : List ℕ) (at : ℕ) (f : TableFault) (n : ℕ) → operation bytes at ≡ Err f → instructions version texts statements (suc n) bytes at ≡ Err f
unfolding instructions
operation_fails version texts statements bytes at f n h = rw h refl

pub counted_fails : (version : ℕ) (texts : List (List ℕ)) (statements : ℕ) (opcode : Opcode) (bytes : List ℕ) (at mid : ℕ) (f : TableFault) (n : ℕ) → operation bytes at ≡ Ok (opcode, mid) → counted statements opcode at ≡ Err f → instructions version texts statements (suc n) bytes at ≡ Err f
unfolding instructions
counted_fails version texts statements opcode bytes at mid f n first h = rw (first, h) refl

pub instruction_fails : (version : ℕ) (texts : List (List ℕ)) (statements more : ℕ) (opcode : Opcode) (bytes : List ℕ) (at mid : ℕ) (f : TableFault) (n : ℕ) → operation bytes at ≡ Ok (opcode, mid) → counted statements opcode at ≡ Ok more → instruction version texts opcode bytes mid ≡ Err f → instructions version texts statements (suc n) bytes at ≡ Err f
unfolding instructions
instruction_fails version texts statements more opcode bytes at mid f n first second h = rw (first, second, h) refl

pub code_done : (version : ℕ) (texts : List (List ℕ)) (statements : ℕ) (front : List Instruction) (count i : ℕ) (bytes : List ℕ) (at : ℕ) (total : Result (List Instruction × ℕ) TableFault) → count ≤ i → behind front (instructions version texts statements (count - i) bytes at) ≡ total → total ≡ Ok (front, at)
unfolding instructions
code_done version texts statements front count i bytes at total le so_far =
    let k : count - i ≡ 0 = omega arith in
    let one : behind front (instructions version texts statements (count - i) bytes at) ≡ Ok (front, at) = rw k (ap (λ xs. Ok (xs, at)) (append-nil front)) in
    sym so_far ∙ one

-- ---- texts

first_text : {X : Type 0} (x : X) (read : Result (List X × ℕ) TableFault) → behind (x ∷ []) read ≡ (read >>= λ o. Ok (x ∷ o.0, o.1))
first_text x (Ok o) = refl
first_text x (Err f) = refl

-- the program's name, and the other texts behind it
pub texts_behind : (count : ℕ) (bytes : List ℕ) (at : ℕ) (name : List ℕ) (next : ℕ) (front : List (List ℕ)) → 0 < count → program_name bytes at ≡ Ok (name, next) → front ≡ name ∷ []
    → behind front (entries text (count - 1) bytes next) ≡ some_texts count bytes at
unfolding some_texts
texts_behind count bytes at name next front some first is =
    let k : count ≡ suc (count - 1) = omega arith in
    let whole : behind (name ∷ []) (entries text (count - 1) bytes next) ≡ some_texts (suc (count - 1)) bytes at = rw first (first_text name (entries text (count - 1) bytes next)) in
    ap (λ f. behind f (entries text (count - 1) bytes next)) is ∙ whole ∙ ap (λ n. some_texts n bytes at) (sym k)

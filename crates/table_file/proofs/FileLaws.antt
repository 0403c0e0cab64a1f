-- Files: they are read exactly where they are the file of some tables, and as these.
use Rattle.std.proofs.Common.{◌≡◌, ℕ, zero, suc, ◌+◌, ◌≤◌, Bool, true, false, cond, eqb, ◌&&◌, List, [], ◌∷◌, ◌++◌, length, drop, Result, Ok, Err, IfOk, refl, sym, ap, subst, ◌∙◌, arith, append-nil}
use Rattle.std.specs.Prelude.{codes, nat_le, nat_lt}
use Rattle.std.specs.List.{flat_map, list_any, AllByRecursion}
use Rattle.std.specs.Str.{bytes_eq}
use Rattle.std.proofs.lemmas.Bool.{ltb-false, le-ltb, eqb-true, eq-eqb, leb-true, le-leb}
use Rattle.std.proofs.lemmas.List.{drop_all}
use Rattle.std.proofs.lemmas.List.Concat.{flat_map-cons}
use Rattle.std.proofs.lemmas.Slice.Eq.{bytes_eq-Decides}
use Rattle.sial_syntax.specs.Limits.{most_names}
use Rattle.sip_tables.specs.declared.array.ArrayEntry.{ArrayEntry}
use Rattle.sip_tables.specs.declared.index.IndexEntry.{IndexEntry}
use Rattle.sip_tables.specs.declared.instruction.Instruction.{Instruction}
use Rattle.sip_tables.specs.declared.procedure.ProcedureEntry.{ProcedureEntry}
use Rattle.sip_tables.specs.Lists.{Lists}
use Rattle.table_file.specs.declared.fault.TableFault.{TableFault}
use Rattle.table_file.specs.declared.fault.TableFault.TheVariants.{Magic, Version, Field, Rest, TooMany}
use Rattle.table_file.specs.Bytes.{short, word, text_bytes, index_bytes, array_bytes, scalar_bytes, procedure_bytes, instruction_bytes, puts_max, version, list_bytes, head_bytes, bytes as file_of}
use Rattle.table_file.specs.Entries.{program_name, text, index, array, scalar, procedure}
use Rattle.table_file.specs.Fields.{◌>>=◌, Gives, number, taken, entries}
use Rattle.table_file.specs.Fits.{IsWithin, IsNamed, IsShort, AreTexts, IndexFits, ArrayFits, ProcedureFits, CodeFits, ListFits, HaveFile, IsFileOf}
use Rattle.table_file.specs.Reading.{short_list, some_texts, texts, code_list, file_head, lists, decode_of}
use Rattle.table_file.proofs.NumberLemmas.{IsBytes}
use Rattle.table_file.proofs.ReadsLemmas.{ReaderOf, Stands, Reads, Builds, stands_then, stands_apart, stands_nothing, nothing_ends, ok_is, bind_ok, passed, not_failed, first_then, turned, built}
use Rattle.table_file.proofs.FieldLaws.{short_reads, word_reads, taken_reads, entries_read}
use Rattle.table_file.proofs.TextLaws.{program_name_reads, text_reads}
use Rattle.table_file.proofs.EntryLaws.{index_reads, array_reads, scalar_reads, procedure_reads}
use Rattle.table_file.proofs.InstructionLaws.{VersionFits}
use Rattle.table_file.proofs.CodeLaws.{code_reads}

-- ---- lists with their counts

short_list_reads : {X : Type 0} (entry : ReaderOf X) (write : X → List ℕ) (Fits : X → Type 0) → Reads entry write Fits → Reads {X = List X} (short_list entry) (list_bytes write) (ListFits Fits)
unfolding short_list
short_list_reads entry write Fits reads = record {
  takes = λ bytes at z fits e.
      let s = bind_ok (number 4 bytes at) (λ count. cond (nat_le count.0 most_names) (entries entry count.0 bytes count.1) (Err (TooMany at))) z e in
      let g = passed (nat_le s.0.0 most_names) (TooMany at) (entries entry s.0.0 bytes s.0.1) z s.2 in
      let n = word_reads.takes bytes at s.0 fits s.1 in
      let t = (entries_read entry write Fits reads s.0.0).takes bytes s.0.1 z fits g.1 in
      let both = stands_then bytes at s.0.1 z.1 (word s.0.0) (flat_map write z.0) n.0 t.0 in
      let few : s.0.0 ≤ most_names = leb-true _ _ g.0 in
      (subst (λ (k : ℕ). Stands bytes at z.1 (word k ++ flat_map write z.0)) (sym t.1.0) both, (omega (arith, few, t.1.0), t.1.1));
  again = λ bytes at end xs st fits.
      let parts = stands_apart bytes at end (word (length xs)) (flat_map write xs) st in
      let n = word_reads.again bytes at (at + 4) (length xs) parts.0 (omega (arith, fits.0)) in
      let few : nat_le (length xs) most_names ≡ true = le-leb _ _ fits.0 in
      let r = (entries_read entry write Fits reads (length xs)).again bytes (at + 4) end xs parts.1 (refl, fits.1) in
      rw (n, few, r) refl;
}

-- ---- texts

some_texts_take : (count : ℕ) (bytes : List ℕ) (at : ℕ) (z : List (List ℕ) × ℕ) → IsBytes bytes → some_texts count bytes at ≡ Ok z → Stands bytes at z.1 (flat_map text_bytes z.0) × ((length z.0 ≡ count) × AreTexts z.0)
unfolding some_texts
some_texts_take zero bytes at z fits e =
    subst (λ (y : List (List ℕ) × ℕ). Stands bytes at y.1 (flat_map text_bytes y.0) × ((length y.0 ≡ 0) × AreTexts y.0)) (ok_is ([], at) z e) (stands_nothing bytes at, (refl, tt))
some_texts_take (suc count) bytes at z fits e =
    let a = bind_ok (program_name bytes at) _ z e in
    let b = bind_ok (entries text count bytes a.0.1) (λ o. Ok (a.0.0 ∷ o.0, o.1)) z a.2 in
    let first = program_name_reads.takes bytes at a.0 fits a.1 in
    let others = (entries_read text text_bytes IsShort text_reads count).takes bytes a.0.1 b.0 fits b.1 in
    let both = stands_then bytes at a.0.1 b.0.1 (text_bytes a.0.0) (flat_map text_bytes b.0.0) first.0 others.0 in
    subst (λ (y : List (List ℕ) × ℕ). Stands bytes at y.1 (flat_map text_bytes y.0) × ((length y.0 ≡ suc count) × AreTexts y.0)) (ok_is (a.0.0 ∷ b.0.0, b.0.1) z b.2)
    (rw flat_map-cons both, (ap suc others.1.0, (first.1, others.1.1)))

some_texts_again : (bytes : List ℕ) (at end : ℕ) (ts : List (List ℕ)) → Stands bytes at end (flat_map text_bytes ts) → AreTexts ts → some_texts (length ts) bytes at ≡ Ok (ts, end)
unfolding some_texts
some_texts_again bytes at end [] st fits = ap (λ (n : ℕ). Ok ([], n)) (sym (nothing_ends bytes at end st))
some_texts_again bytes at end (t ∷ ts) st fits =
    let split : flat_map text_bytes (t ∷ ts) ≡ text_bytes t ++ flat_map text_bytes ts = flat_map-cons text_bytes t ts in
    let parts = stands_apart bytes at end (text_bytes t) (flat_map text_bytes ts) (subst (λ (x : List ℕ). Stands bytes at end x) split st) in
    let a = program_name_reads.again bytes at (at + length (text_bytes t)) t parts.0 fits.0 in
    let b = (entries_read text text_bytes IsShort text_reads (length ts)).again bytes (at + length (text_bytes t)) end ts parts.1 (refl, fits.1) in
    rw (a, b) refl

texts_reads : Reads {X = List (List ℕ)} texts (list_bytes text_bytes) (λ ts. IsWithin 32 (length ts) × AreTexts ts)
unfolding texts
texts_reads = record {
  takes = λ bytes at z fits e.
      let s = bind_ok (number 4 bytes at) (λ count. some_texts count.0 bytes count.1) z e in
      let n = word_reads.takes bytes at s.0 fits s.1 in
      let t = some_texts_take s.0.0 bytes s.0.1 z fits s.2 in
      let both = stands_then bytes at s.0.1 z.1 (word s.0.0) (flat_map text_bytes z.0) n.0 t.0 in
      (subst (λ (k : ℕ). Stands bytes at z.1 (word k ++ flat_map text_bytes z.0)) (sym t.1.0) both, (subst (λ (k : ℕ). IsWithin 32 k) (sym t.1.0) n.1, t.1.1));
  again = λ bytes at end ts st fits.
      let parts = stands_apart bytes at end (word (length ts)) (flat_map text_bytes ts) st in
      let n = word_reads.again bytes at (at + 4) (length ts) parts.0 fits.0 in
      let r = some_texts_again bytes (at + 4) end ts parts.1 fits.1 in
      rw (n, r) refl;
}

-- ---- the six lists

abbrev Six : Type 0
Six = List (List ℕ) × (List IndexEntry × (List ArrayEntry × (List ℕ × (List ProcedureEntry × List Instruction))))

abbrev AllVersion : ℕ → List Instruction → Type 0
AllVersion said code = AllByRecursion (λ (i : Instruction). VersionFits said i.operation) code

lists_builds : (said : ℕ)
    → Builds {P = Six} {Z = Lists} (lists said)
    (λ p. record { texts = p.0; indices = p.1.0; arrays = p.1.1.0; scalars = p.1.1.1.0; procedures = p.1.1.1.1.0; code = p.1.1.1.1.1 })
    (λ p. list_bytes text_bytes p.0 ++ (list_bytes index_bytes p.1.0 ++ (list_bytes array_bytes p.1.1.0 ++ (list_bytes scalar_bytes p.1.1.1.0
    ++ (list_bytes procedure_bytes p.1.1.1.1.0 ++ list_bytes instruction_bytes p.1.1.1.1.1)))))
    (λ p. (IsWithin 32 (length p.0) × AreTexts p.0) × (ListFits (IndexFits p.0) p.1.0 × (ListFits (ArrayFits p.0) p.1.1.0 × (ListFits (IsNamed p.0 32) p.1.1.1.0
    × (ListFits (ProcedureFits p.0) p.1.1.1.1.0 × (CodeFits p.0 p.1.1.1.1.1 × AllVersion said p.1.1.1.1.1))))))
unfolding lists
lists_builds said =
    first_then texts (list_bytes text_bytes) (λ ts. IsWithin 32 (length ts) × AreTexts ts) _ _ _ _ texts_reads (λ t f.
    first_then (short_list (index t)) (list_bytes index_bytes) (ListFits (IndexFits t)) _ _ _ _ (short_list_reads (index t) index_bytes (IndexFits t) (index_reads t)) (λ i f.
    first_then (short_list (array t)) (list_bytes array_bytes) (ListFits (ArrayFits t)) _ _ _ _ (short_list_reads (array t) array_bytes (ArrayFits t) (array_reads t)) (λ a f.
    first_then (short_list (scalar t)) (list_bytes scalar_bytes) (ListFits (IsNamed t 32)) _ _ _ _ (short_list_reads (scalar t) scalar_bytes (IsNamed t 32) (scalar_reads t)) (λ s f.
    first_then (short_list (procedure t)) (list_bytes procedure_bytes) (ListFits (ProcedureFits t)) _ _ _ _ (short_list_reads (procedure t) procedure_bytes (ProcedureFits t) (procedure_reads t)) (λ p f.
    turned (code_list said t) (list_bytes instruction_bytes) (λ c. CodeFits t c × AllVersion said c) (λ c. record { texts = t; indices = i; arrays = a; scalars = s; procedures = p; code = c }) (code_reads said t))))))

-- what stands in a file behind its head
abbrev lists_of : Lists → List ℕ
lists_of t =
    list_bytes text_bytes t.texts
    ++ (list_bytes index_bytes t.indices
    ++ (list_bytes array_bytes t.arrays
    ++ (list_bytes scalar_bytes t.scalars
    ++ (list_bytes procedure_bytes t.procedures
    ++ list_bytes instruction_bytes t.code))))

lists_take : (said : ℕ) (bytes : List ℕ) (at : ℕ) (z : Lists × ℕ) → IsBytes bytes → lists said bytes at ≡ Ok z → Stands bytes at z.1 (lists_of z.0) × HaveFile z.0
lists_take said bytes at z fits e =
    built _ _ _ _ (lists_builds said) bytes at z fits e (λ (t : Lists). Stands bytes at z.1 (lists_of t) × HaveFile t)
    (λ p st f. (st, record { few_texts = f.0.0; texts = f.0.1; indices = f.1.0; arrays = f.1.1.0; scalars = f.1.1.1.0; procedures = f.1.1.1.1.0; code = f.1.1.1.1.1.0 }))

lists_again : (said : ℕ) (bytes : List ℕ) (at end : ℕ) (t : Lists) → Stands bytes at end (lists_of t) → HaveFile t → AllVersion said t.code → lists said bytes at ≡ Ok (t, end)
lists_again said bytes at end t st f versions =
    (lists_builds said).again bytes at end (t.texts, (t.indices, (t.arrays, (t.scalars, (t.procedures, t.code))))) st
    ((f.few_texts, f.texts), (f.indices, (f.arrays, (f.scalars, (f.procedures, (f.code, versions))))))

-- ---- the version

any_here : {X : Type 0} (p : X → Bool) (x : X) (xs : List X) → p x ≡ true → list_any p (x ∷ xs) ≡ true
any_here p x xs h = rw h refl

any_behind : {X : Type 0} (p : X → Bool) (x : X) (xs : List X) → list_any p xs ≡ true → list_any p (x ∷ xs) ≡ true
any_behind p x xs h =
    elim (p x) as (λ b. p x ≡ b → list_any p (x ∷ xs) ≡ true) [ true ↦ λ e. any_here p x xs e | false ↦ λ e. rw (e, h) refl ] refl

all_weaker : {X : Type 0} (P Q : X → Type 0) → ((x : X) → P x → Q x) → (xs : List X) → AllByRecursion P xs → AllByRecursion Q xs
all_weaker P Q weaker [] f = tt
all_weaker P Q weaker (x ∷ xs) f = (weaker x f.0, all_weaker P Q weaker xs f.1)

all_any : {X : Type 0} (p : X → Bool) (xs : List X) → AllByRecursion (λ (x : X). p x ≡ true → list_any p xs ≡ true) xs
all_any p [] = tt
all_any {X = X} p (x ∷ xs) = (
  λ h. any_here p x xs h,
  all_weaker (λ (y : X). p y ≡ true → list_any p xs ≡ true) (λ (y : X). p y ≡ true → list_any p (x ∷ xs) ≡ true) (λ y f h. any_behind p x xs (f h)) xs (all_any p xs),
)

-- the version of some code is that which its instructions need
all_versions : (code : List Instruction) → AllVersion (version code) code
all_versions code =
    let p = λ (i : Instruction). puts_max i.operation in
    all_weaker (λ (i : Instruction). p i ≡ true → list_any p code ≡ true) (λ (i : Instruction). VersionFits (version code) i.operation)
    (λ i f h. let some : list_any p code ≡ true = f h in rw some refl) code (all_any p code)

-- it is 1 or 2
version_small : (code : List Instruction) → (1 ≤ version code) × (version code ≤ 2)
version_small code =
    elim (list_any (λ (i : Instruction). puts_max i.operation) code) as (λ b. (1 ≤ cond b 2 1) × (cond b 2 1 ≤ 2)) [ true ↦ (omega arith, omega arith) | false ↦ (omega arith, omega arith) ]

-- ---- the head

abbrev versions_tested : List ℕ → ℕ × ℕ → Result (ℕ × ℕ) TableFault
versions_tested bytes v = cond (nat_le 1 v.0 && nat_le v.0 2) (Ok v) (Err Version)

head_takes : (bytes : List ℕ) (z : ℕ × ℕ) → IsBytes bytes → file_head bytes ≡ Ok z → Stands bytes 0 z.1 (codes "SIPT" ++ short z.0)
unfolding file_head
head_takes bytes z fits e =
    let m = bind_ok (taken 4 bytes 0) (λ mark. cond (bytes_eq mark.0 (codes "SIPT")) (number 2 bytes mark.1 >>= λ v. versions_tested bytes v) (Err Magic)) z e in
    let g = passed (bytes_eq m.0.0 (codes "SIPT")) Magic (number 2 bytes m.0.1 >>= λ v. versions_tested bytes v) z m.2 in
    let v = bind_ok (number 2 bytes m.0.1) (λ v. versions_tested bytes v) z g.1 in
    let h = passed (nat_le 1 v.0.0 && nat_le v.0.0 2) Version (Ok v.0) z v.2 in
    let same : m.0.0 ≡ codes "SIPT" = (bytes_eq-Decides m.0.0 (codes "SIPT")).0 g.0 in
    let mark = ((taken_reads 4).takes bytes 0 m.0 fits m.1).0 in
    let number_ = (short_reads.takes bytes m.0.1 v.0 fits v.1).0 in
    let both = stands_then bytes 0 m.0.1 v.0.1 (codes "SIPT") (short v.0.0) (subst (λ (t : List ℕ). Stands bytes 0 m.0.1 t) same mark) number_ in
    subst (λ (y : ℕ × ℕ). Stands bytes 0 y.1 (codes "SIPT" ++ short y.0)) (ok_is v.0 z h.1) both

head_again : (bytes : List ℕ) (end said : ℕ) → Stands bytes 0 end (codes "SIPT" ++ short said) → 1 ≤ said → said ≤ 2 → file_head bytes ≡ Ok (said, end)
unfolding file_head
head_again bytes end said st some few =
    let parts = stands_apart bytes 0 end (codes "SIPT") (short said) st in
    let m = (taken_reads 4).again bytes 0 4 (codes "SIPT") parts.0 refl in
    let v = short_reads.again bytes 4 end said parts.1 (omega (arith, few)) in
    rw (m, v, le-leb 1 said some, le-leb said 2 few) refl

-- ---- the whole file

-- what is read from a file is its tables
pub decode_takes : (bytes : List ℕ) (t : Lists) → IsBytes bytes → decode_of bytes ≡ Ok t → IsFileOf bytes t
unfolding decode_of
decode_takes bytes t fits e =
    let h = bind_ok (file_head bytes) _ t e in
    let l = bind_ok (lists h.0.0 bytes h.0.1) _ t h.2 in
    let g = not_failed (nat_lt l.0.1 (length bytes)) (Rest l.0.1) (cond (eqb (version l.0.0.code) h.0.0) (Ok l.0.0) (Err (Field 4))) t l.2 in
    let v = passed (eqb (version l.0.0.code) h.0.0) (Field 4) (Ok l.0.0) t g.1 in
    let said : version l.0.0.code ≡ h.0.0 = eqb-true _ _ v.0 in
    let all : length bytes ≤ l.0.1 = ltb-false _ _ g.0 in
    let head : Stands bytes 0 h.0.1 (head_bytes l.0.0.code) = subst (λ (n : ℕ). Stands bytes 0 h.0.1 (codes "SIPT" ++ short n)) (sym said) (head_takes bytes h.0 fits h.1) in
    let rest = lists_take h.0.0 bytes h.0.1 l.0 fits l.1 in
    let whole = stands_then bytes 0 h.0.1 l.0.1 (head_bytes l.0.0.code) (lists_of l.0.0) head rest.0 in
    let none : drop l.0.1 bytes ≡ [] = drop_all _ _ all in
    let same : bytes ≡ file_of l.0.0 = whole.here ∙ ap (λ (x : List ℕ). file_of l.0.0 ++ x) none ∙ append-nil (file_of l.0.0) in
    subst (λ (y : Lists). IsFileOf bytes y) (ok_is l.0.0 t v.1) (rest.1, same)

-- the file of some tables is read as these
pub decode_again : (bytes : List ℕ) (t : Lists) → IsFileOf bytes t → decode_of bytes ≡ Ok t
unfolding decode_of
decode_again bytes t file =
    let past : length bytes ≤ length bytes = omega arith in
    let none : drop (length bytes) bytes ≡ [] = drop_all _ _ past in
    let len : length bytes ≡ length (file_of t) = ap (λ (x : List ℕ). length x) file.1 in
    let whole : Stands bytes 0 (length bytes) (file_of t) = record {
      here = file.1 ∙ sym (append-nil (file_of t)) ∙ ap (λ (x : List ℕ). file_of t ++ x) (sym none);
      place = omega (arith, len);
    } in
    let parts = stands_apart bytes 0 (length bytes) (head_bytes t.code) (lists_of t) whole in
    let small = version_small t.code in
    let h = head_again bytes 6 (version t.code) parts.0 small.0 small.1 in
    let l = lists_again (version t.code) bytes 6 (length bytes) t parts.1 file.0 (all_versions t.code) in
    let all : nat_lt (length bytes) (length bytes) ≡ false = le-ltb _ _ past in
    let said : eqb (version t.code) (version t.code) ≡ true = eq-eqb (version t.code) (version t.code) refl in
    rw (h, l, all, said) refl

-- ---- answers

pub found_from : (r : Result Lists TableFault) (bytes : List ℕ) → IsBytes bytes → Gives (λ t. t) r (decode_of bytes) → IfOk r (λ t. IsFileOf bytes t)
found_from (Ok t) bytes fits gives = decode_takes bytes t fits gives
found_from (Err fault) bytes fits gives = tt

pub only_from : (r : Result Lists TableFault) (bytes : List ℕ) (t : Lists) → Gives (λ t. t) r (decode_of bytes) → IsFileOf bytes t → Gives (λ t. t) r (Ok t)
only_from r bytes t gives file = subst (λ (read : Result Lists TableFault). Gives (λ t. t) r read) (decode_again bytes t file) gives

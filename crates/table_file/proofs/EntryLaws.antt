-- Entries of indices, arrays, scalars and procedures: what a reader takes is what is written, and what is written is taken again.
use Rattle.std.proofs.Common.{◌≡◌, ℕ, ◌+◌, ◌<◌, ◌≤◌, false, cond, eqb, List, [], ◌∷◌, ◌++◌, length, replicate, Some, Ok, Err, refl, sym, ap, subst, arith}
use Rattle.sial_syntax.specs.declared.array.ArrayKind.{ArrayKind}
use Rattle.sial_syntax.specs.declared.array.ArrayKind.TheVariants.{Static, Temp, Local, Distributed, Served}
use Rattle.sial_syntax.specs.declared.index.Kind.{Kind}
use Rattle.sial_syntax.specs.declared.index.Kind.TheVariants.{Ao, Mo, Moa, Mob, Index}
use Rattle.sip_tables.specs.declared.array.ArrayEntry.{ArrayEntry}
use Rattle.sip_tables.specs.declared.index.BoundEntry.{BoundEntry}
use Rattle.sip_tables.specs.declared.index.BoundEntry.TheVariants.{Number, Named}
use Rattle.sip_tables.specs.declared.index.IndexEntry.{IndexEntry}
use Rattle.sip_tables.specs.declared.index.RangeEntry.{RangeEntry}
use Rattle.sip_tables.specs.declared.index.RangeEntry.TheVariants.{Segments, Sub}
use Rattle.table_file.specs.declared.fault.TableFault.TheVariants.{Field}
use Rattle.table_file.specs.Bytes.{word, long, places, bound_bytes, index_bytes, array_bytes, scalar_bytes, procedure_bytes}
use Rattle.table_file.specs.Entries.{kind_of, array_kind_of, text, bound, segments, subindex, index, array_kind, array, scalar, procedure}
use Rattle.table_file.specs.Fields.{◌>>=◌, or_field, byte, number, exactly, unused, name, rank, tuple}
use Rattle.table_file.specs.Fits.{IsWithin, IsNamed, BoundFits, IndexFits, ArrayFits, ProcedureFits}
use Rattle.table_file.specs.Numbers.{kind_number, array_number}
use Rattle.table_file.proofs.ReadsLemmas.{ReaderOf, Stands, Reads, Builds, stands_then, stands_apart, bind_ok, first_then, skip_then, gives, turned, of_parts, seen_as, built, chosen, listed}
use Rattle.table_file.proofs.FieldLaws.{word_reads, long_reads, name_4_reads, name_8_reads, byte_reads, exactly_skips, unused_skips, is_some, looked_up}
use Rattle.table_file.proofs.TextLaws.{Ranked, rank_reads, tuple_reads, low_is}

-- ---- bounds and indices

kind_found : (n : ℕ) (k : Kind) → kind_of n ≡ Some k → n ≡ kind_number k
kind_found n k e =
    listed kind_number n 1 Ao _ k refl e (λ e. listed kind_number n 2 Mo _ k refl e (λ e. listed kind_number n 3 Moa _ k refl e
    (λ e. listed kind_number n 4 Mob _ k refl e (λ e. listed kind_number n 5 Index _ k refl e (λ e. absurd cc)))))

kind_known : (k : Kind) → kind_of (kind_number k) ≡ Some k
kind_known Ao = refl
kind_known Mo = refl
kind_known Moa = refl
kind_known Mob = refl
kind_known Index = refl

kind_number_small : (k : Kind) → (kind_number k < 256) × (eqb (kind_number k) 6 ≡ false)
kind_number_small Ao = (omega arith, refl)
kind_number_small Mo = (omega arith, refl)
kind_number_small Moa = (omega arith, refl)
kind_number_small Mob = (omega arith, refl)
kind_number_small Index = (omega arith, refl)

array_kind_found : (n : ℕ) (k : ArrayKind) → array_kind_of n ≡ Some k → n ≡ array_number k
array_kind_found n k e =
    listed array_number n 1 Static _ k refl e (λ e. listed array_number n 2 Temp _ k refl e (λ e. listed array_number n 3 Local _ k refl e
    (λ e. listed array_number n 4 Distributed _ k refl e (λ e. listed array_number n 5 Served _ k refl e (λ e. absurd cc)))))

array_kind_known : (k : ArrayKind) → (array_kind_of (array_number k) ≡ Some k) × (array_number k < 256)
array_kind_known Static = (refl, omega arith)
array_kind_known Temp = (refl, omega arith)
array_kind_known Local = (refl, omega arith)
array_kind_known Distributed = (refl, omega arith)
array_kind_known Served = (refl, omega arith)

array_kind_reads : Reads array_kind (λ k. array_number k ∷ []) (λ k. Unit {0})
unfolding array_kind
array_kind_reads = looked_up array_kind_of array_number (λ k. Unit {0}) (λ n k e. (array_kind_found n k e, tt)) (λ k f. array_kind_known k)

-- behind its tag, a bound
bound_behind : List (List ℕ) → (at n : ℕ) → ReaderOf BoundEntry
bound_behind texts at n = λ bytes from.
    cond (eqb n 0) (number 8 bytes from >>= λ x. Ok (Number x.0, x.1)) (cond (eqb n 1) (name texts 8 bytes from >>= λ x. Ok (Named x.0, x.1)) (Err (Field at)))

number_bound : Builds {P = ℕ} {Z = BoundEntry} (λ bytes at. number 8 bytes at >>= λ x. Ok (Number x.0, x.1)) (λ n. Number n) long (IsWithin 64)
number_bound = turned (number 8) long (IsWithin 64) (λ n. Number n) long_reads

named_bound : (texts : List (List ℕ)) → Builds {P = ℕ} {Z = BoundEntry} (λ bytes at. name texts 8 bytes at >>= λ x. Ok (Named x.0, x.1)) (λ n. Named n) long (IsNamed texts 64)
named_bound texts = turned (name texts 8) long (IsNamed texts 64) (λ n. Named n) (name_8_reads texts)

bound_again : (texts : List (List ℕ)) (bytes : List ℕ) (at end : ℕ) (z : BoundEntry) → Stands bytes at end (bound_bytes z) → BoundFits texts z → bound texts bytes at ≡ Ok (z, end)
unfolding bound bound_behind
bound_again texts bytes at end (Number n) st fits =
    let parts = stands_apart bytes at end (0 ∷ []) (long n) st in
    let a = byte_reads.again bytes at (at + 1) 0 parts.0 (omega arith) in
    let b = long_reads.again bytes (at + 1) end n parts.1 fits in
    rw (a, b) refl
bound_again texts bytes at end (Named n) st fits =
    let parts = stands_apart bytes at end (1 ∷ []) (long n) st in
    let a = byte_reads.again bytes at (at + 1) 1 parts.0 (omega arith) in
    let b = (name_8_reads texts).again bytes (at + 1) end n parts.1 fits in
    rw (a, b) refl

pub bound_reads : (texts : List (List ℕ)) → Reads (bound texts) bound_bytes (BoundFits texts)
unfolding bound bound_behind
bound_reads texts = record {
  takes = λ bytes at z fits e.
      let s = bind_ok (byte bytes at) (λ t. bound_behind texts at t.0 bytes t.1) z e in
      let tag = byte_reads.takes bytes at s.0 fits s.1 in
      let G = λ (b : BoundEntry). Stands bytes at z.1 (bound_bytes b) × BoundFits texts b in
      let behind = λ (n : ℕ) (same : s.0.0 ≡ n) (text : List ℕ) (st : Stands bytes s.0.1 z.1 text).
      stands_then bytes at s.0.1 z.1 (n ∷ []) text (subst (λ (n : ℕ). Stands bytes at s.0.1 (n ∷ [])) same tag.0) st
      in
      chosen s.0.0 0 _ _ z (G z.0) s.2
      (λ same e. built _ _ _ _ number_bound bytes s.0.1 z fits e G (λ p st f. (behind 0 same (long p) st, f)))
      (λ e. chosen s.0.0 1 _ _ z (G z.0) e
      (λ same e. built _ _ _ _ (named_bound texts) bytes s.0.1 z fits e G (λ p st f. (behind 1 same (long p) st, f)))
      (λ e. absurd cc));
  again = λ bytes at end z st fits. bound_again texts bytes at end z st fits;
}

-- an index over segments, behind what it counts
segments_builds : (texts : List (List ℕ)) (kind : Kind)
    → Builds {P = ℕ × (ℕ × (BoundEntry × BoundEntry))} {Z = IndexEntry} (segments texts kind)
    (λ p. record { text = p.0; line = p.1.0; range = Segments kind p.1.1.0 p.1.1.1 })
    (λ p. word p.0 ++ (word p.1.0 ++ (bound_bytes p.1.1.0 ++ bound_bytes p.1.1.1)))
    (λ p. IsNamed texts 32 p.0 × (IsWithin 32 p.1.0 × (BoundFits texts p.1.1.0 × BoundFits texts p.1.1.1)))
unfolding segments
segments_builds texts kind =
    first_then (name texts 4) word (IsNamed texts 32) _ _ _ _ (name_4_reads texts) (λ text f.
    first_then (number 4) word (IsWithin 32) _ _ _ _ word_reads (λ line f.
    first_then (bound texts) bound_bytes (BoundFits texts) _ _ _ _ (bound_reads texts) (λ lo f.
    turned (bound texts) bound_bytes (BoundFits texts) (λ hi. record { text = text; line = line; range = Segments kind lo hi }) (bound_reads texts))))

-- a subindex, behind what it counts
subindex_builds : (texts : List (List ℕ))
    → Builds {P = ℕ × (ℕ × (ℕ × Unit {0}))} {Z = IndexEntry} (subindex texts)
    (λ p. record { text = p.0; line = p.1.0; range = Sub p.1.1.0 })
    (λ p. word p.0 ++ (word p.1.0 ++ ((2 ∷ []) ++ (long p.1.1.0 ++ ((2 ∷ []) ++ (replicate 8 0 ++ []))))))
    (λ p. IsNamed texts 32 p.0 × (IsWithin 32 p.1.0 × (IsWithin 64 p.1.1.0 × Unit {0})))
unfolding subindex
subindex_builds texts =
    first_then (name texts 4) word (IsNamed texts 32) _ _ _ _ (name_4_reads texts) (λ text f.
    first_then (number 4) word (IsWithin 32) _ _ _ _ word_reads (λ line f.
    skip_then (exactly 2) (2 ∷ []) _ _ _ _ (exactly_skips 2 (omega arith))
    (first_then (number 8) long (IsWithin 64) _ _ _ _ long_reads (λ super f.
    skip_then (exactly 2) (2 ∷ []) _ _ _ _ (exactly_skips 2 (omega arith))
    (skip_then (unused 8) (replicate 8 0) _ _ _ _ (unused_skips 8)
    (gives (record { text = text; line = line; range = Sub super })))))))

-- behind what it counts, an index
index_behind : List (List ℕ) → (at n : ℕ) → ReaderOf IndexEntry
index_behind texts at n = λ bytes from. cond (eqb n 6) (subindex texts bytes from) (or_field (kind_of n) at >>= λ kind. segments texts kind bytes from)

index_again : (texts : List (List ℕ)) (text line : ℕ) (range : RangeEntry) (bytes : List ℕ) (at end : ℕ) → Stands bytes at end (index_bytes (record { text = text; line = line; range = range }))
    → IndexFits texts (record { text = text; line = line; range = range }) → index texts bytes at ≡ Ok (record { text = text; line = line; range = range }, end)
unfolding index
index_again texts text line (Segments kind lo hi) bytes at end st fits =
    let parts = stands_apart bytes at end (kind_number kind ∷ []) (word text ++ (word line ++ (bound_bytes lo ++ bound_bytes hi))) st in
    let small = kind_number_small kind in
    let a = byte_reads.again bytes at (at + 1) (kind_number kind) parts.0 small.0 in
    let b = (segments_builds texts kind).again bytes (at + 1) end (text, (line, (lo, hi))) parts.1 (fits.text, (fits.line, fits.range)) in
    rw (a, small.1, kind_known kind, b) refl
index_again texts text line (Sub super) bytes at end st fits =
    let parts = stands_apart bytes at end (6 ∷ []) (word text ++ (word line ++ ((2 ∷ []) ++ (long super ++ ((2 ∷ []) ++ (replicate 8 0 ++ [])))))) st in
    let a = byte_reads.again bytes at (at + 1) 6 parts.0 (omega arith) in
    let b = (subindex_builds texts).again bytes (at + 1) end (text, (line, (super, tt))) parts.1 (fits.text, (fits.line, (fits.range, tt))) in
    rw (a, b) refl

pub index_reads : (texts : List (List ℕ)) → Reads (index texts) index_bytes (IndexFits texts)
unfolding index index_behind
index_reads texts = record {
  takes = λ bytes at z fits e.
      let s = bind_ok (byte bytes at) (λ t. index_behind texts at t.0 bytes t.1) z e in
      let counted = byte_reads.takes bytes at s.0 fits s.1 in
      let G = λ (i : IndexEntry). Stands bytes at z.1 (index_bytes i) × IndexFits texts i in
      let behind = λ (n : ℕ) (same : s.0.0 ≡ n) (text : List ℕ) (st : Stands bytes s.0.1 z.1 text).
      stands_then bytes at s.0.1 z.1 (n ∷ []) text (subst (λ (n : ℕ). Stands bytes at s.0.1 (n ∷ [])) same counted.0) st
      in
      chosen s.0.0 6 _ _ z (G z.0) s.2
      (λ same e. built _ _ _ _ (subindex_builds texts) bytes s.0.1 z fits e G
      (λ p st f. (behind 6 same _ st, record { text = f.0; line = f.1.0; range = f.1.1.0 })))
      (λ e.
      let k = bind_ok (or_field (kind_of s.0.0) at) (λ kind. segments texts kind bytes s.0.1) z e in
      let same = kind_found s.0.0 k.0 (is_some (kind_of s.0.0) at k.0 k.1) in
      built _ _ _ _ (segments_builds texts k.0) bytes s.0.1 z fits k.2 G
      (λ p st f. (behind (kind_number k.0) same _ st, record { text = f.0; line = f.1.0; range = f.1.1 })));
  again = λ bytes at end z st fits. index_again texts z.text z.line z.range bytes at end st fits;
}

-- an array
array_builds : (texts : List (List ℕ))
    → Builds {P = ArrayKind × (ℕ × (ℕ × (ℕ × (List ℕ × Unit {0}))))} {Z = ArrayEntry} (array texts)
    (λ p. record { text = p.1.0; line = p.1.1.0; kind = p.0; dims = p.1.1.1.1.0 })
    (λ p. (array_number p.0 ∷ []) ++ (word p.1.0 ++ (word p.1.1.0 ++ ((p.1.1.1.0 ∷ []) ++ (places p.1.1.1.1.0 ++ [])))))
    (λ p. Unit {0} × (IsNamed texts 32 p.1.0 × (IsWithin 32 p.1.1.0 × (((1 ≤ p.1.1.1.0) × (p.1.1.1.0 ≤ 6)) × (Ranked p.1.1.1.0 p.1.1.1.1.0 × Unit {0})))))
unfolding array
array_builds texts =
    first_then array_kind (λ k. array_number k ∷ []) (λ k. Unit {0}) _ _ _ _ array_kind_reads (λ kind f.
    first_then (name texts 4) word (IsNamed texts 32) _ _ _ _ (name_4_reads texts) (λ text f.
    first_then (number 4) word (IsWithin 32) _ _ _ _ word_reads (λ line f.
    first_then rank (λ r. r ∷ []) (λ r. (1 ≤ r) × (r ≤ 6)) _ _ _ _ rank_reads (λ r f.
    first_then (tuple r) places (Ranked r) _ _ _ _ (tuple_reads r f.1) (λ dims f.
    gives (record { text = text; line = line; kind = kind; dims = dims }))))))

pub array_reads : (texts : List (List ℕ)) → Reads (array texts) array_bytes (ArrayFits texts)
array_reads texts =
    seen_as (array texts) _ array_bytes _ (ArrayFits texts)
    (λ z f. record { text = f.1.0; line = f.1.1.0; dims = record { some = f.1.1.1.0.0; few = f.1.1.1.0.1; within = f.1.1.1.1.0.1 } })
    (λ z f. (tt, (f.text, (f.line, ((f.dims.some, f.dims.few), ((refl, f.dims.within), tt))))))
    (λ z f.
    let same = low_is (length z.dims) (omega (arith, f.1.1.1.0.1)) in
    ap (λ (n : ℕ). array_number z.kind ∷ (word z.text ++ (word z.line ++ (n ∷ places z.dims)))) (sym same))
    (of_parts (array texts) _ _ _ (λ z. (z.kind, (z.text, (z.line, (length z.dims, (z.dims, tt))))))
    (λ p f. ap (λ (n : ℕ). (p.0, (p.1.0, (p.1.1.0, (n, (p.1.1.1.1.0, tt {0})))))) f.1.1.1.1.0.0)
    (λ z. refl)
    (array_builds texts))

pub scalar_reads : (texts : List (List ℕ)) → Reads (scalar texts) scalar_bytes (IsNamed texts 32)
scalar_reads texts = name_4_reads texts

pub procedure_reads : (texts : List (List ℕ)) → Reads (procedure texts) procedure_bytes (ProcedureFits texts)
unfolding procedure
procedure_reads texts =
    seen_as _ _ procedure_bytes _ (ProcedureFits texts)
    (λ z f. record { text = f.0; entry = f.1.0 }) (λ z f. (f.text, (f.entry, tt))) (λ z f. refl)
    (of_parts _ _ _ _ (λ z. (z.text, (z.entry, tt))) (λ p f. refl) (λ z. refl)
    (first_then (name texts 4) word (IsNamed texts 32) _ _ _ _ (name_4_reads texts) (λ text f.
    first_then (number 4) word (IsWithin 32) _ _ _ _ word_reads (λ entry f.
    gives (record { text = text; entry = entry })))))

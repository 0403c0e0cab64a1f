-- Fields: numbers, bytes, texts, tuples. What a reader takes is what is written for it, and what is written is taken again.
use Rattle.std.proofs.Common.{◌≡◌, ℕ, zero, suc, ◌+◌, ◌^◌, ◌<◌, ◌≤◌, Bool, true, false, cond, ltb, eqb, List, [], ◌∷◌, ◌++◌, length, take, drop, replicate, Option, Some, None, slice_get, Ok, Err, refl, sym, ap, subst, ◌∙◌, arith, length-take, length-append}
use Rattle.std.specs.Int.{bytes_high_first}
use Rattle.std.specs.List.{flat_map, AllByRecursion}
use Rattle.std.proofs.lemmas.Bool.{ltb-false, le-ltb, eqb-true, eq-eqb}
use Rattle.std.proofs.lemmas.List.{take_at, take-append-drop, drop-drop, get_or-drop}
use Rattle.std.proofs.lemmas.List.Concat.{flat_map-cons}
use Rattle.std.proofs.lemmas.Option.{get_or_from_slice_get}
use Rattle.byteorder.specs.Endian.{big_number}
use Rattle.byteorder.specs.Numbers.{big_number-reads_back, length-bytes_high_first, big_from-lt}
use Rattle.table_file.specs.declared.fault.TableFault.{TableFault}
use Rattle.table_file.specs.declared.fault.TableFault.TheVariants.{Short, Field}
use Rattle.table_file.specs.Bytes.{short, word, long}
use Rattle.table_file.specs.Fields.{◌>>=◌, or_field, byte_or_short, byte, number, taken, exactly, all_exactly, unused, entries, name, printed, is_name_or_none, is_text_or_none}
use Rattle.table_file.specs.Fits.{IsWithin, IsNamed, IsPrinted}
use Rattle.table_file.proofs.NumberLemmas.{IsBytes, bytes_of_number}
use Rattle.table_file.proofs.ReadsLemmas.{ReaderOf, Stands, Reads, Skips, stands_then, stands_apart, stands_nothing, nothing_ends, behind_text, ok_is, bind_ok, passed, not_failed}

IsBytes-drop : (n : ℕ) (bytes : List ℕ) → IsBytes bytes → IsBytes (drop n bytes)
IsBytes-drop n bytes h i = rw get_or-drop (h (n + i))

-- ---- numbers

number_reads : (size : ℕ) → Reads (number size) (bytes_high_first size) (λ n. n < 256 ^ size)
number_reads size = record {
  takes = λ bytes at x fits e.
      let g = not_failed (ltb (length (drop at bytes)) size) (Short (length bytes)) (Ok (big_number size (drop at bytes), at + size)) x e in
      let same = ok_is (big_number size (drop at bytes), at + size) x g.1 in
      let long : size ≤ length (drop at bytes) = ltb-false _ _ g.0 in
      let rest_fits : IsBytes (drop at bytes) = IsBytes-drop at bytes fits in
      let n = big_number size (drop at bytes) in
      let parts : drop at bytes ≡ bytes_high_first size n ++ drop (at + size) bytes =
      sym (take-append-drop size (drop at bytes)) ∙ ap (λ (t : List ℕ). t ++ drop size (drop at bytes)) (sym (bytes_of_number size (drop at bytes) long rest_fits))
      ∙ ap (λ (t : List ℕ). bytes_high_first size n ++ t) (drop-drop size at bytes) in
      let stands : Stands bytes at (at + size) (bytes_high_first size n) = record { here = parts; place = ap (λ (k : ℕ). at + k) (sym (length-bytes_high_first size n)) } in
      subst (λ (y : ℕ × ℕ). Stands bytes at y.1 (bytes_high_first size y.0) × (y.0 < 256 ^ size)) same (stands, big_from-lt 0 size (drop at bytes) rest_fits);
  again = λ bytes at end x st fits.
      let l : length (bytes_high_first size x) ≡ size = length-bytes_high_first size x in
      let len : length (drop at bytes) ≡ size + length (drop end bytes) =
      ap (λ (t : List ℕ). length t) st.here ∙ length-append (bytes_high_first size x) (drop end bytes) ∙ ap (λ (n : ℕ). n + length (drop end bytes)) l in
      let long : ltb (length (drop at bytes)) size ≡ false = le-ltb _ _ (omega (arith, len)) in
      let same : big_number size (drop at bytes) ≡ x = ap (big_number size) st.here ∙ big_number-reads_back size x (drop end bytes) fits in
      let place : at + size ≡ end = ap (λ (n : ℕ). at + n) (sym l) ∙ sym st.place in
      rw (long, same, place) refl;
}

-- numbers of two, four and eight bytes
pub short_reads : Reads (number 2) short (IsWithin 16)
short_reads = record {
  takes = λ bytes at x fits e. (number_reads 2).takes bytes at x fits e;
  again = λ bytes at end x st fits. (number_reads 2).again bytes at end x st fits;
}

pub word_reads : Reads (number 4) word (IsWithin 32)
word_reads = record {
  takes = λ bytes at x fits e. (number_reads 4).takes bytes at x fits e;
  again = λ bytes at end x st fits. (number_reads 4).again bytes at end x st fits;
}

pub long_reads : Reads (number 8) long (IsWithin 64)
long_reads = record {
  takes = λ bytes at x fits e. (number_reads 8).takes bytes at x fits e;
  again = λ bytes at end x st fits. (number_reads 8).again bytes at end x st fits;
}

-- ---- a reader with a test of its value

pub tested : {X : Type 0} (r : ReaderOf X) (w : X → List ℕ) (F : X → Type 0) (test : X → Bool) (fault : ℕ → TableFault) → Reads r w F
    → Reads {X = X} (λ bytes at. r bytes at >>= λ x. cond (test x.0) (Ok x) (Err (fault at))) w (λ x. F x × (test x ≡ true))
tested {X = X} r w F test fault reads = record {
  takes = λ bytes at z fits e.
      let s = bind_ok (r bytes at) (λ x. cond (test x.0) (Ok x) (Err (fault at))) z e in
      let g = passed (test s.0.0) (fault at) (Ok s.0) z s.2 in
      let a = reads.takes bytes at s.0 fits s.1 in
      subst (λ (y : X × ℕ). Stands bytes at y.1 (w y.0) × (F y.0 × (test y.0 ≡ true))) (ok_is s.0 z g.1) (a.0, (a.1, g.0));
  again = λ bytes at end x st fits.
      let a = reads.again bytes at end x st fits.0 in
      rw (a, fits.1) refl;
}

-- numbers of names and of printed texts
pub name_4_reads : (texts : List (List ℕ)) → Reads (name texts 4) word (IsNamed texts 32)
unfolding name
name_4_reads texts = tested (number 4) word (IsWithin 32) (λ n. is_name_or_none (slice_get texts n)) Field word_reads

pub name_8_reads : (texts : List (List ℕ)) → Reads (name texts 8) long (IsNamed texts 64)
unfolding name
name_8_reads texts = tested (number 8) long (IsWithin 64) (λ n. is_name_or_none (slice_get texts n)) Field long_reads

pub printed_reads : (texts : List (List ℕ)) → Reads (printed texts) word (IsPrinted texts)
unfolding printed
printed_reads texts = tested (number 4) word (IsWithin 32) (λ n. is_text_or_none (slice_get texts n)) Field word_reads

-- ---- one byte

pub is_some : {K : Type 0} (o : Option K) (at : ℕ) (k : K) → or_field o at ≡ Ok k → o ≡ Some k
is_some (Some x) at k e = ap (λ (y : _). Some y) (ok_is x k e)
is_some None at k e = absurd cc

there_begins : (bytes : List ℕ) (at b : ℕ) → slice_get bytes at ≡ Some b → (rest : List ℕ) × (drop at bytes ≡ b ∷ rest)
there_begins [] at b e = absurd cc
there_begins (x ∷ xs) zero b e = let same : x ≡ b = cc in (xs, ap (λ (y : ℕ). y ∷ xs) same)
there_begins (x ∷ xs) (suc at) b e = there_begins xs at b e

begins_there : (bytes : List ℕ) (at b : ℕ) (rest : List ℕ) → drop at bytes ≡ b ∷ rest → slice_get bytes at ≡ Some b
begins_there [] zero b rest e = absurd cc
begins_there [] (suc at) b rest e = absurd cc
begins_there (x ∷ xs) zero b rest e = let same : x ≡ b = cc in ap Some same
begins_there (x ∷ xs) (suc at) b rest e = begins_there xs at b rest e

byte_taken : (o : Option ℕ) (len at : ℕ) (x : ℕ × ℕ) → byte_or_short o len at ≡ Ok x → (o ≡ Some x.0) × (x.1 ≡ at + 1)
byte_taken (Some b) len at x e = let same = ok_is (b, at + 1) x e in (ap (λ (y : ℕ × ℕ). Some y.0) same, ap (λ (y : ℕ × ℕ). y.1) (sym same))
byte_taken None len at x e = absurd cc

pub byte_reads : Reads byte (λ b. b ∷ []) (λ b. b < 256)
byte_reads = record {
  takes = λ bytes at x fits e.
      let t = byte_taken (slice_get bytes at) (length bytes) at x e in
      let r = there_begins bytes at x.0 t.0 in
      let rest : drop x.1 bytes ≡ r.0 = ap (λ (n : ℕ). drop n bytes) t.1 ∙ behind_text bytes at (x.0 ∷ []) r.0 r.1 in
      let value = get_or_from_slice_get bytes at x.0 0 t.0 in
      let stands : Stands bytes at x.1 (x.0 ∷ []) = record { here = r.1 ∙ ap (λ (y : List ℕ). x.0 ∷ y) (sym rest); place = t.1 } in
      (stands, rw (← value) (fits at));
  again = λ bytes at end x st fits.
      let one : end ≡ at + 1 = st.place in
      ap (λ (o : Option ℕ). byte_or_short o (length bytes) at) (begins_there bytes at x (drop end bytes) st.here) ∙ ap (λ (n : ℕ). Ok (x, n)) (sym one);
}

-- ---- bytes that have to be these

pub exactly_skips : (wanted : ℕ) → wanted < 256 → Skips (exactly wanted) (wanted ∷ [])
unfolding exactly
exactly_skips wanted small = record {
  takes = λ bytes at end fits e.
      let b = bind_ok (byte bytes at) (λ b. cond (eqb b.0 wanted) (Ok b.1) (Err (Field at))) end e in
      let g = passed (eqb b.0.0 wanted) (Field at) (Ok b.0.1) end b.2 in
      let t = byte_reads.takes bytes at b.0 fits b.1 in
      let same : b.0.0 ≡ wanted = eqb-true _ _ g.0 in
      subst (λ (n : ℕ). Stands bytes at n (wanted ∷ [])) (ok_is b.0.1 end g.1) (subst (λ (w : ℕ). Stands bytes at b.0.1 (w ∷ [])) same t.0);
  again = λ bytes at end st.
      let b = byte_reads.again bytes at end wanted st small in
      rw (b, eq-eqb wanted wanted refl) refl;
}

pub all_skip : (wanted count : ℕ) → wanted < 256 → Skips (all_exactly wanted count) (replicate count wanted)
unfolding all_exactly
all_skip wanted zero small = record {
  takes = λ bytes at end fits e. subst (λ (n : ℕ). Stands bytes at n []) (ok_is at end e) (stands_nothing bytes at);
  again = λ bytes at end st. ap (λ (n : ℕ). Ok n) (sym (nothing_ends bytes at end st));
}
all_skip wanted (suc count) small = record {
  takes = λ bytes at end fits e.
      let a = bind_ok (exactly wanted bytes at) (λ next. all_exactly wanted count bytes next) end e in
      stands_then bytes at a.0 end (wanted ∷ []) (replicate count wanted) ((exactly_skips wanted small).takes bytes at a.0 fits a.1) ((all_skip wanted count small).takes bytes a.0 end fits a.2);
  again = λ bytes at end st.
      let parts = stands_apart bytes at end (wanted ∷ []) (replicate count wanted) st in
      let a = (exactly_skips wanted small).again bytes at (at + 1) parts.0 in
      let b = (all_skip wanted count small).again bytes (at + 1) end parts.1 in
      rw a b;
}

pub unused_skips : (count : ℕ) → Skips (unused count) (replicate count 0)
unused_skips count = all_skip 0 count (omega arith)

-- ---- bytes as they are

pub taken_reads : (size : ℕ) → Reads (taken size) (λ t. t) (λ t. length t ≡ size)
taken_reads size = record {
  takes = λ bytes at x fits e.
      let g = not_failed (ltb (length (drop at bytes)) size) (Short (length bytes)) (Ok (take size (drop at bytes), at + size)) x e in
      let same = ok_is (take size (drop at bytes), at + size) x g.1 in
      let long : size ≤ length (drop at bytes) = ltb-false _ _ g.0 in
      let len : length (take size (drop at bytes)) ≡ size = let l = length-take size (drop at bytes) in omega (arith, long, l) in
      let parts : drop at bytes ≡ take size (drop at bytes) ++ drop (at + size) bytes =
      sym (take-append-drop size (drop at bytes)) ∙ ap (λ (t : List ℕ). take size (drop at bytes) ++ t) (drop-drop size at bytes) in
      let stands : Stands bytes at (at + size) (take size (drop at bytes)) = record { here = parts; place = ap (λ (n : ℕ). at + n) (sym len) } in
      subst (λ (y : List ℕ × ℕ). Stands bytes at y.1 y.0 × (length y.0 ≡ size)) same (stands, len);
  again = λ bytes at end x st fits.
      let len : length (drop at bytes) ≡ length x + length (drop end bytes) = ap (λ (t : List ℕ). length t) st.here ∙ length-append x (drop end bytes) in
      let long : ltb (length (drop at bytes)) size ≡ false = le-ltb _ _ (omega (arith, len, fits)) in
      let same : take size (drop at bytes) ≡ x = ap (take size) st.here ∙ take_at x (drop end bytes) size fits in
      let place : at + size ≡ end = omega (arith, fits, st.place) in
      rw (long, same, place) refl;
}

-- ---- so many entries

entries_take : {X : Type 0} (entry : ReaderOf X) (write : X → List ℕ) (Fits : X → Type 0) → Reads entry write Fits → (count : ℕ) (bytes : List ℕ) (at : ℕ) (x : List X × ℕ) → IsBytes bytes → entries entry count bytes at ≡ Ok x
    → Stands bytes at x.1 (flat_map write x.0) × ((length x.0 ≡ count) × AllByRecursion Fits x.0)
unfolding entries
entries_take {X = X} entry write Fits reads zero bytes at x fits e =
    subst (λ (y : List X × ℕ). Stands bytes at y.1 (flat_map write y.0) × ((length y.0 ≡ 0) × AllByRecursion Fits y.0)) (ok_is ([], at) x e) (stands_nothing bytes at, (refl, tt))
entries_take {X = X} entry write Fits reads (suc count) bytes at x fits e =
    let a = bind_ok (entry bytes at) (λ first. entries entry count bytes first.1 >>= λ o. Ok (first.0 ∷ o.0, o.1)) x e in
    let b = bind_ok (entries entry count bytes a.0.1) (λ o. Ok (a.0.0 ∷ o.0, o.1)) x a.2 in
    let first = reads.takes bytes at a.0 fits a.1 in
    let second = entries_take entry write Fits reads count bytes a.0.1 b.0 fits b.1 in
    let both = stands_then bytes at a.0.1 b.0.1 (write a.0.0) (flat_map write b.0.0) first.0 second.0 in
    let made : List X × ℕ = (a.0.0 ∷ b.0.0, b.0.1) in
    subst (λ (y : List X × ℕ). Stands bytes at y.1 (flat_map write y.0) × ((length y.0 ≡ suc count) × AllByRecursion Fits y.0)) (ok_is made x b.2)
    (rw flat_map-cons both, (ap suc second.1.0, (first.1, second.1.1)))

entries_again : {X : Type 0} (entry : ReaderOf X) (write : X → List ℕ) (Fits : X → Type 0) → Reads entry write Fits → (count : ℕ) (bytes : List ℕ) (at end : ℕ) (xs : List X) → Stands bytes at end (flat_map write xs) → length xs ≡ count → AllByRecursion Fits xs
    → entries entry count bytes at ≡ Ok (xs, end)
unfolding entries
entries_again entry write Fits reads zero bytes at end [] st len fits = ap (λ (m : ℕ). Ok ([], m)) (sym (nothing_ends bytes at end st))
entries_again entry write Fits reads zero bytes at end (x ∷ xs) st len fits = absurd (omega (arith, len))
entries_again entry write Fits reads (suc count) bytes at end [] st len fits = absurd (omega (arith, len))
entries_again entry write Fits reads (suc count) bytes at end (x ∷ xs) st len fits =
    let split : flat_map write (x ∷ xs) ≡ write x ++ flat_map write xs = flat_map-cons write x xs in
    let parts = stands_apart bytes at end (write x) (flat_map write xs) (subst (λ (t : List ℕ). Stands bytes at end t) split st) in
    let a = reads.again bytes at (at + length (write x)) x parts.0 fits.0 in
    let b = entries_again entry write Fits reads count bytes (at + length (write x)) end xs parts.1 (omega (arith, len)) fits.1 in
    rw (a, b) refl

pub entries_read : {X : Type 0} (entry : ReaderOf X) (write : X → List ℕ) (Fits : X → Type 0) → Reads entry write Fits → (count : ℕ) → Reads {X = List X} (entries entry count) (flat_map write) (λ xs. (length xs ≡ count) × AllByRecursion Fits xs)
entries_read entry write Fits reads count = record {
  takes = entries_take entry write Fits reads count;
  again = λ bytes at end xs st fits. entries_again entry write Fits reads count bytes at end xs st fits.0 fits.1;
}

-- ---- numbers of kinds

-- a byte that is looked up
pub looked_up : {K : Type 0} (lookup : ℕ → Option K) (code : K → ℕ) (F : K → Type 0) → ((n : ℕ) (k : K) → lookup n ≡ Some k → (n ≡ code k) × F k) → ((k : K) → F k → (lookup (code k) ≡ Some k) × (code k < 256))
    → Reads {X = K} (λ bytes at. byte bytes at >>= λ n. or_field (lookup n.0) at >>= λ k. Ok (k, n.1)) (λ k. code k ∷ []) F
looked_up {K = K} lookup code F found known = record {
  takes = λ bytes at z fits e.
      let s = bind_ok (byte bytes at) (λ n. or_field (lookup n.0) at >>= λ k. Ok (k, n.1)) z e in
      let g = bind_ok (or_field (lookup s.0.0) at) (λ k. Ok (k, s.0.1)) z s.2 in
      let f = found s.0.0 g.0 (is_some (lookup s.0.0) at g.0 g.1) in
      let a = byte_reads.takes bytes at s.0 fits s.1 in
      let stands : Stands bytes at s.0.1 (code g.0 ∷ []) = subst (λ (n : ℕ). Stands bytes at s.0.1 (n ∷ [])) f.0 a.0 in
      subst (λ (y : K × ℕ). Stands bytes at y.1 (code y.0 ∷ []) × F y.0) (ok_is (g.0, s.0.1) z g.2) (stands, f.1);
  again = λ bytes at end k st fits.
      let f = known k fits in
      let a = byte_reads.again bytes at end (code k) st f.1 in
      rw (a, f.0) refl;
}

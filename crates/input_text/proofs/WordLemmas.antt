-- The words that are read of a line are its words, and its words are read; and one turn of the loop that reads them.
use Rattle.std.proofs.Common.{◌≡◌, ℕ, zero, suc, ◌+◌, ◌-◌, ◌<◌, ◌≤◌, List, [], ◌∷◌, ◌++◌, take, drop, length, Option, Some, None, refl, sym, ap, ◌∙◌, subst, arith, append_assoc, append-nil}
use Rattle.std.proofs.lemmas.List.{length-drop}
use Rattle.input_text.specs.Parts.{part_at, taken, step, after_step, words_from, words_in}
use Rattle.input_text.specs.Words.{IsPart, IsCutInto, HasWords, word_of, words_of_parts}
use Rattle.input_text.specs.declared.word.Part.{Part}
use Rattle.input_text.specs.declared.word.Word.{Word}
use Rattle.input_text.proofs.PartLemmas.{IsSound, front_sound, cut_off, found_again, has_bytes}

-- what a reading says of the bytes that it read
abbrev Explains : Option (List Word) → List Word → List ℕ → Type 0
Explains (Some all) words bytes = (parts : List Part) × IsCutInto parts bytes × (all ≡ words ++ words_of_parts parts)
Explains None words bytes = Unit {0}

one_more : (p : Part) (bytes : List ℕ) (words : List Word) (read : Option (List Word)) → (p.len ≤ length bytes) × IsPart p.word (take p.len bytes) (drop p.len bytes)
    → Explains read (words ++ word_of p.word) (drop p.len bytes) → Explains read words bytes
one_more p bytes words (Some all) cut e = (p ∷ e.0, (cut.0, cut.1, e.1), e.2 ∙ append_assoc words (word_of p.word) (words_of_parts e.0))
one_more p bytes words None cut e = tt

by_front : (n : ℕ) (words : List Word) (b : ℕ) (bs : List ℕ) (read : Option Part) → IsSound read (b ∷ bs)
    → ((ws : List Word) (rest : List ℕ) → length rest ≤ n → Explains (words_from n ws rest) ws rest) → length (b ∷ bs) ≤ suc n → Explains (after_step (words_from n) (taken words (b ∷ bs) read)) words (b ∷ bs)
by_front n words b bs (Some p) sound go few =
    let cut = cut_off p (b ∷ bs) sound in
    one_more p (b ∷ bs) words (words_from n (words ++ word_of p.word) (drop p.len (b ∷ bs))) cut
    (go (words ++ word_of p.word) (drop p.len (b ∷ bs)) (omega (arith, length-drop p.len (b ∷ bs), has_bytes p.word p.len (b ∷ bs) cut.1)))
by_front n words b bs None sound go few = tt

explained : (n : ℕ) (words : List Word) (bytes : List ℕ) → length bytes ≤ n → Explains (words_from n words bytes) words bytes
explained zero words [] few = ([], refl, sym (append-nil words))
explained zero words (b ∷ bs) few = absurd (omega arith)
explained (suc n) words [] few = ([], refl, sym (append-nil words))
explained (suc n) words (b ∷ bs) few = by_front n words b bs (part_at (b ∷ bs)) (front_sound b bs) (λ ws rest h. explained n ws rest h) few

-- what is read are the line's words
pub words_found : (line : List ℕ) (words : List Word) → words_in line ≡ Some words → HasWords line words
words_found line words e =
    let h = subst (λ r. Explains r [] line) e (explained (length line) [] line (omega arith)) in
    record { parts = h.0; cut = h.1; of_parts = h.2 }

-- where nothing is left, the reading has ended
pub at_end : (n : ℕ) (words : List Word) (rest : List ℕ) → length rest ≡ 0 → words_from n words rest ≡ Some words
at_end zero words rest none = refl
at_end (suc n) words [] none = refl
at_end (suc n) words (b ∷ bs) none = absurd (omega arith)

-- a step over a part that is cut off
step_again : (n : ℕ) (words : List Word) (p : Part) (bytes : List ℕ) → length bytes ≤ n → p.len ≤ length bytes → IsPart p.word (take p.len bytes) (drop p.len bytes)
    → (m : ℕ) × (length (drop p.len bytes) ≤ m) × (words_from n words bytes ≡ words_from m (words ++ word_of p.word) (drop p.len bytes))
step_again zero words p bytes few within is = absurd (omega (arith, has_bytes p.word p.len bytes is))
step_again (suc n) words p [] few within is = absurd (omega (arith, has_bytes p.word p.len [] is))
step_again (suc n) words p (b ∷ bs) few within is =
    (n, omega (arith, length-drop p.len (b ∷ bs), has_bytes p.word p.len (b ∷ bs) is), ap (λ r. after_step (words_from n) (taken words (b ∷ bs) r)) (found_again p (b ∷ bs) within is))

read_again : (parts : List Part) (n : ℕ) (words : List Word) (bytes : List ℕ) → length bytes ≤ n → IsCutInto parts bytes → words_from n words bytes ≡ Some (words ++ words_of_parts parts)
read_again [] n words bytes few cut = at_end n words bytes (ap length cut) ∙ ap Some (sym (append-nil words))
read_again (p ∷ ps) n words bytes few cut =
    let next = step_again n words p bytes few cut.0 cut.1 in
    next.2 ∙ read_again ps next.0 (words ++ word_of p.word) (drop p.len bytes) next.1 cut.2 ∙ ap Some (append_assoc words (word_of p.word) (words_of_parts ps))

-- the line's words are read
pub words_read : (line : List ℕ) (words : List Word) → HasWords line words → words_in line ≡ Some words
words_read line words h = read_again h.parts (length line) [] line (omega arith) h.cut ∙ ap Some (sym h.of_parts)

-- a rest that isn't empty is read by a step, and what follows
pub one_turn : (n i : ℕ) (words : List Word) (rest : List ℕ) → i < n → 0 < length rest → words_from (n - i) words rest ≡ after_step (words_from (n - (i + 1))) (step words rest)
one_turn n i words [] below some = absurd (omega arith)
one_turn n i words (b ∷ bs) below some = let k : n - i ≡ suc (n - (i + 1)) = omega arith in ap (λ m. words_from m words (b ∷ bs)) k

-- a step that gives a part leaves the rest to read
pub moved : (n i : ℕ) (words more : List Word) (rest left : List ℕ) (total : Option (List Word)) → i < n → 0 < length rest → step words rest ≡ Some (more, left) → words_from (n - i) words rest ≡ total
    → words_from (n - (i + 1)) more left ≡ total
moved n i words more rest left total below some is whole = sym (ap (after_step (words_from (n - (i + 1)))) is) ∙ sym (one_turn n i words rest below some) ∙ whole

-- a step that gives none ends the reading
pub stopped : (n i : ℕ) (words : List Word) (rest : List ℕ) (total : Option (List Word)) → i < n → 0 < length rest → step words rest ≡ None → words_from (n - i) words rest ≡ total → total ≡ None
stopped n i words rest total below some is whole = sym whole ∙ one_turn n i words rest below some ∙ ap (after_step (words_from (n - (i + 1)))) is

-- after as many turns as there were bytes, nothing is read any more
pub no_turns : (n i : ℕ) (words : List Word) (rest : List ℕ) → n ≤ i → words_from (n - i) words rest ≡ Some words
no_turns n i words rest past = let k : n - i ≡ 0 = omega arith in ap (λ m. words_from m words rest) k

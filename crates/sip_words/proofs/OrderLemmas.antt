-- The order of settings doesn't matter.
use Rattle.std.proofs.Common.{◌≡◌, ℕ, ◌+◌, ◌<◌, ◌≤◌, List, [], ◌∷◌, length, Bool, true, false, cond, ◌&&◌, ◌||◌, nat_le, Option, Some, None, zero, suc, refl, sym, ap, ◌∙◌, subst, arith}
use Rattle.std.specs.List.{list_all, list_any, sum_by, count_by, flat_map}
use Rattle.std.specs.List.Sorted.{IsPermutation}
use Rattle.std.specs.Str.{bytes_eq}
use Rattle.std.proofs.Math.Path.{fun_ext}
use Rattle.std.proofs.lemmas.Bool.{and_parts, leb-true}
use Rattle.std.proofs.lemmas.List.{length-append}
use Rattle.std.proofs.lemmas.List.Concat.{length-flat_map}
use Rattle.std.proofs.lemmas.List.Sums.{sum_by-cons}
use Rattle.std.proofs.lemmas.List.Sorted.{sum_by-IsPermutation, list_any-IsPermutation}
use Rattle.std.proofs.lemmas.Slice.Eq.{bytes_eq-Decides}
use Rattle.sip_words.specs.Commands.{is_setting_of}
use Rattle.sip_words.specs.Laws.{OrderDoesNotMatter}
use Rattle.sip_words.specs.Plain.{call}
use Rattle.sip_words.specs.Settings.{Setting, sets, given, are_once, words_of}
use Rattle.sip_words.specs.declared.command.Command.{Command}

only_first : (b : Bool) → ((true && b) || false) ≡ true → b ≡ true
only_first true e = refl
only_first false e = e

-- a test that holds of all fails of none
all_by_sum : {X : Type 0} (p : X → Bool) (xs : List X) → list_all p xs ≡ true → ◌≡◌ {A = ℕ} (sum_by (λ x. cond (p x) 0 1) xs) 0
all_by_sum p [] e = refl
all_by_sum p (x ∷ xs) e =
    let parts = and_parts (p x) (list_all p xs) e in
    let more = sum_by-cons (λ x. cond (p x) 0 1) x xs in
    let here : ◌≡◌ {A = ℕ} (cond (p x) 0 1) 0 = ap (λ b. cond b 0 1) parts.0 in
    let rest = all_by_sum p xs parts.1 in
    omega (arith, more, here, rest)

sum_by_all : {X : Type 0} (p : X → Bool) (xs : List X) → ◌≡◌ {A = ℕ} (sum_by (λ x. cond (p x) 0 1) xs) 0 → list_all p xs ≡ true
sum_by_all p [] e = refl
sum_by_all p (x ∷ xs) e = by_test (p x) refl (sum_by_all p xs)
  where
    by_test : (b : Bool) → p x ≡ b → (◌≡◌ {A = ℕ} (sum_by (λ x. cond (p x) 0 1) xs) 0 → list_all p xs ≡ true) → list_all p (x ∷ xs) ≡ true
    by_test true h rest =
        let more = sum_by-cons (λ x. cond (p x) 0 1) x xs in
        ap (λ b. b && list_all p xs) h ∙ rest (omega (arith, more, e))
    by_test false h rest =
        let more = sum_by-cons (λ x. cond (p x) 0 1) x xs in
        let one : ◌≡◌ {A = ℕ} (cond (p x) 0 1) 1 = ap (λ b. cond b 0 1) h in
        absurd (omega (arith, more, one, e))

-- a test that holds of all doesn't depend on the order
all_permuted : {X : Type 0} (p : X → Bool) (xs ys : List X) → IsPermutation xs ys → list_all p xs ≡ true → list_all p ys ≡ true
all_permuted p xs ys perm e = sum_by_all p ys (sum_by-IsPermutation (λ x. cond (p x) 0 1) xs ys perm ∙ all_by_sum p xs e)

-- how often a setting more sets an option
count_more : (option : List ℕ) (s : Setting) (more : List Setting) (b : Bool) → sets option s ≡ b
    → count_by (sets option) (s ∷ more) ≡ cond b 1 0 + count_by (sets option) more
count_more option s more b e = sum_by-cons (λ x. cond (sets option x) 1 0) s more ∙ ap (λ c. cond c 1 0 + count_by (sets option) more) e

-- whether a setting is an option with this value
abbrev is_pair : (option value : List ℕ) → Setting → Bool
is_pair option value s = sets option s && bytes_eq s.value value

-- a text is itself
same_text : (text : List ℕ) → bytes_eq text text ≡ true
same_text text = (bytes_eq-Decides text text).1 refl

-- one more setting among which a value stands, by whether it sets the option
first_stands : (a b c : Bool) → a ≡ true → b ≡ true → ((a && b) || c) ≡ true
first_stands a b c e f = rw (e, f) refl

later_stands : (a b c : Bool) → c ≡ true → ((a && b) || c) ≡ true
later_stands true true c e = refl
later_stands true false c e = e
later_stands false b c e = e

-- a value that is given stands in a setting
given_stands : (option value : List ℕ) (settings : List Setting) → given settings option ≡ Some value → list_any (is_pair option value) settings ≡ true
given_stands option value [] e = absurd cc
given_stands option value (s ∷ more) e = by_first (sets option s) refl (given_stands option value more)
  where
    by_first : (b : Bool) → sets option s ≡ b → (given more option ≡ Some value → list_any (is_pair option value) more ≡ true)
        → list_any (is_pair option value) (s ∷ more) ≡ true
    by_first true first later =
        let here : Some s.value ≡ Some value = rw first at e in
        let is : s.value ≡ value = cc in
        first_stands (sets option s) (bytes_eq s.value value) (list_any (is_pair option value) more) first ((bytes_eq-Decides s.value value).1 is)
    by_first false first later =
        let there : given more option ≡ Some value = rw first at e in
        later_stands (sets option s) (bytes_eq s.value value) (list_any (is_pair option value) more) (later there)

-- where a value stands, its option is set
stands_counts : (option value : List ℕ) (settings : List Setting) → list_any (is_pair option value) settings ≡ true → 0 < count_by (sets option) settings
stands_counts option value [] e = absurd cc
stands_counts option value (s ∷ more) e = by_first (sets option s) refl (stands_counts option value more)
  where
    by_first : (b : Bool) → sets option s ≡ b → (list_any (is_pair option value) more ≡ true → 0 < count_by (sets option) more)
        → 0 < count_by (sets option) (s ∷ more)
    by_first true first later = let n = count_more option s more true first in omega (arith, n)
    by_first false first later =
        let n = count_more option s more false first in
        let there : list_any (is_pair option value) more ≡ true = rw first at e in
        let counts = later there in
        omega (arith, n, counts)

-- a value that stands in a setting is given, where its option is set once
stands_given : (option value : List ℕ) (settings : List Setting) → list_any (is_pair option value) settings ≡ true
    → count_by (sets option) settings ≤ 1 → given settings option ≡ Some value
stands_given option value [] e once = absurd cc
stands_given option value (s ∷ more) e once = by_first (sets option s) refl (list_any (is_pair option value) more) refl (stands_given option value more)
  where
    by_first : (b : Bool) → sets option s ≡ b → (c : Bool) → list_any (is_pair option value) more ≡ c
        → (list_any (is_pair option value) more ≡ true → count_by (sets option) more ≤ 1 → given more option ≡ Some value)
        → given (s ∷ more) option ≡ Some value
    by_first true first true there later =
        let n = count_more option s more true first in
        let counts = stands_counts option value more there in
        absurd (omega (arith, n, counts, once))
    by_first true first false there later =
        let here : ((true && bytes_eq s.value value) || false) ≡ true = rw (first, there) at e in
        rw first (ap Some ((bytes_eq-Decides s.value value).0 (only_first (bytes_eq s.value value) here)))
    by_first false first c there later =
        let n = count_more option s more false first in
        let behind : list_any (is_pair option value) more ≡ true = rw first at e in
        rw first (later behind (omega (arith, n, once)))

-- an option that isn't given is not set, and the other way round
not_given : (option : List ℕ) (settings : List Setting) → given settings option ≡ None → ◌≡◌ {A = ℕ} (count_by (sets option) settings) 0
not_given option [] e = refl
not_given option (s ∷ more) e = by_first (sets option s) refl (not_given option more)
  where
    by_first : (b : Bool) → sets option s ≡ b → (given more option ≡ None → ◌≡◌ {A = ℕ} (count_by (sets option) more) 0)
        → ◌≡◌ {A = ℕ} (count_by (sets option) (s ∷ more)) 0
    by_first true first later = let here : Some s.value ≡ None = rw first at e in absurd cc
    by_first false first later =
        let n = count_more option s more false first in
        let there : given more option ≡ None = rw first at e in
        let none = later there in
        omega (arith, n, none)

not_set : (option : List ℕ) (settings : List Setting) → ◌≡◌ {A = ℕ} (count_by (sets option) settings) 0 → given settings option ≡ None
not_set option [] e = refl
not_set option (s ∷ more) e = by_first (sets option s) refl (not_set option more)
  where
    by_first : (b : Bool) → sets option s ≡ b → (◌≡◌ {A = ℕ} (count_by (sets option) more) 0 → given more option ≡ None)
        → given (s ∷ more) option ≡ None
    by_first true first later = let n = count_more option s more true first in absurd (omega (arith, n, e))
    by_first false first later = let n = count_more option s more false first in rw first (later (omega (arith, n, e)))

-- each option, of the settings or not, is set at most once
set_once : (option : List ℕ) (all settings : List Setting) → list_all (λ s. nat_le (count_by (sets s.option) all) 1) settings ≡ true
    → 0 < count_by (sets option) settings → count_by (sets option) all ≤ 1
set_once option all [] e some = absurd (omega (arith, some))
set_once option all (s ∷ more) e some = by_first (sets option s) refl (set_once option all more parts.1)
  where
    parts : (nat_le (count_by (sets s.option) all) 1 ≡ true) × (list_all (λ x. nat_le (count_by (sets x.option) all) 1) more ≡ true)
    parts = and_parts (nat_le (count_by (sets s.option) all) 1) (list_all (λ x. nat_le (count_by (sets x.option) all) 1) more) e

    by_first : (b : Bool) → sets option s ≡ b → (0 < count_by (sets option) more → count_by (sets option) all ≤ 1) → count_by (sets option) all ≤ 1
    by_first true first later =
        let is : s.option ≡ option = (bytes_eq-Decides s.option option).0 first in
        subst (λ (o : List ℕ). count_by (sets o) all ≤ 1) is (leb-true (count_by (sets s.option) all) 1 parts.0)
    by_first false first later = let n = count_more option s more false first in later (omega (arith, n, some))

at_most_one : (n : ℕ) → (0 < n → n ≤ 1) → n ≤ 1
at_most_one zero h = omega arith
at_most_one (suc n) h = h (omega arith)

once_set : (option : List ℕ) (settings : List Setting) → are_once settings ≡ true → count_by (sets option) settings ≤ 1
once_set option settings e = at_most_one (count_by (sets option) settings) (set_once option settings settings e)

-- how often an option is set doesn't depend on the order
counts_alike : (option : List ℕ) (settings others : List Setting) → IsPermutation settings others
    → ◌≡◌ {A = ℕ} (count_by (sets option) others) (count_by (sets option) settings)
counts_alike option settings others perm = sum_by-IsPermutation (λ s. cond (sets option s) 1 0) settings others perm

-- nor does what is given
given_alike : (settings others : List Setting) → IsPermutation settings others → are_once settings ≡ true
    → (option : List ℕ) → given others option ≡ given settings option
given_alike settings others perm once option = by_given (given settings option) refl
  where
    by_given : (found : Option (List ℕ)) → given settings option ≡ found → given others option ≡ found
    by_given None e = not_set option others (counts_alike option settings others perm ∙ not_given option settings e)
    by_given (Some value) e =
        stands_given option value others (sym (list_any-IsPermutation (is_pair option value) settings others perm) ∙ given_stands option value settings e)
        (let n = counts_alike option settings others perm in let one = once_set option settings once in omega (arith, n, one))

-- two tests that agree
all_alike : {X : Type 0} (p q : X → Bool) → ((x : X) → p x ≡ q x) → (xs : List X) → list_all p xs ≡ list_all q xs
all_alike p q same [] = refl
all_alike p q same (x ∷ xs) = rw (same x, all_alike p q same xs) refl

-- each option is set once in the other order too
once_alike : (settings others : List Setting) → IsPermutation settings others → are_once settings ≡ true → are_once others ≡ true
once_alike settings others perm once =
    all_alike (λ s. nat_le (count_by (sets s.option) others) 1) (λ s. nat_le (count_by (sets s.option) settings) 1)
    (λ s. ap (λ n. nat_le n 1) (counts_alike s.option settings others perm)) others
    ∙ all_permuted (λ s. nat_le (count_by (sets s.option) settings) 1) settings others perm once

-- the words are as many
lengths_alike : (name : List ℕ) (command : Command) (operands : List (List ℕ)) (settings others : List Setting) → IsPermutation settings others
    → ◌≡◌ {A = ℕ} (length (call name command operands others)) (length (call name command operands settings))
lengths_alike name command operands settings others perm =
    let a = length-append operands (flat_map words_of settings) in
    let b = length-append operands (flat_map words_of others) in
    let c = length-flat_map words_of settings in
    let d = length-flat_map words_of others in
    let e = sum_by-IsPermutation (λ s. length (words_of s)) settings others perm in
    omega (arith, a, b, c, d, e)

pub order_is_free : OrderDoesNotMatter
order_is_free name command operands settings others request asks few perm =
    let same : given others ≡ given settings = fun_ext (given_alike settings others perm asks.once) in
    let lengths = lengths_alike name command operands settings others perm in
    record {
      few = omega (arith, few, lengths);
      name = name;
      command = command;
      operands = operands;
      settings = others;
      are = refl;
      asks = record {
        names = asks.names;
        options = all_permuted (is_setting_of command) settings others perm asks.options;
        once = once_alike settings others perm asks.once;
        together = rw same asks.together;
        asks = rw same asks.asks;
      };
    }

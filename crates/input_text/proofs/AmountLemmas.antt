-- Numbers and start values are read as they are written.
use Rattle.std.proofs.Common.{◌≡◌, ℕ, List, [], ◌∷◌, ◌++◌, Bool, true, false, ◌&&◌, cond, nat_le, nat_lt, map, Option, Some, None, refl, sym, ap, ◌∙◌, append_assoc, append-nil}
use Rattle.std.specs.List.{list_all}
use Rattle.std.proofs.lemmas.Bool.{le-ltb, le-leb, leb-true, ltb-false}
use Rattle.input_text.specs.Reading.{number_in, with_number, numbers_from, values_from, value_in}
use Rattle.input_text.specs.Statements.{number, value_words, values_words, has_some}
use Rattle.input_text.specs.declared.values.Value.{Value}
use Rattle.input_text.specs.declared.word.Word.{Word}
use Rattle.input_text.specs.declared.word.Word.TheVariants.{Name, Number, Equals, Minus}
use Rattle.input_text.proofs.KeyLemmas.{both, and_true}

-- numbers within a range
abbrev pub is_within : (least most n : ℕ) → Bool
is_within least most n = nat_le least n && nat_le n most

module _ (least most : ℕ) where
  abbrev pub IsOne : Option ℕ → Word → Type 0
  IsOne (Some n) w = (w ≡ number n) × (is_within least most n ≡ true)
  IsOne None w = Unit {0}

  pub within_by : (n : ℕ) (low high : Bool) → nat_lt n least ≡ low → nat_lt most n ≡ high → IsOne (cond low None (cond high None (Some n))) (number n)
  within_by n true high e f = tt
  within_by n false true e f = tt
  within_by n false false e f = (refl, and_true (nat_le least n) (nat_le n most) (le-leb least n (ltb-false n least e)) (le-leb n most (ltb-false most n f)))

  pub one_sound : (w : Word) → IsOne (number_in least most w) w
  one_sound (Name name) = tt
  one_sound (Number None) = tt
  one_sound (Number (Some n)) = within_by n (nat_lt n least) (nat_lt most n) refl refl
  one_sound Equals = tt
  one_sound Minus = tt

  pub one_again : (n : ℕ) → is_within least most n ≡ true → number_in least most (number n) ≡ Some n
  one_again n h =
      let parts = both (nat_le least n) (nat_le n most) h in
      ap (λ b. cond b None (cond (nat_lt most n) None (Some n))) (le-ltb n least (leb-true least n parts.0))
      ∙ ap (λ b. cond b None (Some n)) (le-ltb most n (leb-true n most parts.1))

  abbrev pub AreNumbers : (so_far : List ℕ) → Option (List ℕ) → List Word → Type 0
  AreNumbers so_far (Some all) words = (more : List ℕ) × (all ≡ so_far ++ more) × (words ≡ map number more) × (list_all (is_within least most) more ≡ true)
  AreNumbers so_far None words = Unit {0}

  pub more_numbers : (so_far : List ℕ) (n : ℕ) (w : Word) (ws : List Word) (read : Option (List ℕ)) → w ≡ number n → is_within least most n ≡ true → AreNumbers (so_far ++ n ∷ []) read ws → AreNumbers so_far read (w ∷ ws)
  more_numbers so_far n w ws (Some all) is in_range e =
      (n ∷ e.0, e.1 ∙ append_assoc so_far (n ∷ []) e.0, ap (λ x. x ∷ ws) is ∙ ap (λ xs. number n ∷ xs) e.2, and_true (is_within least most n) (list_all (is_within least most) e.0) in_range e.3)
  more_numbers so_far n w ws None is in_range e = tt

  pub by_number : (so_far : List ℕ) (w : Word) (ws : List Word) (one : Option ℕ) → IsOne one w → ((more : List ℕ) → AreNumbers more (numbers_from least most more ws) ws)
      → AreNumbers so_far (with_number (λ more. numbers_from least most more ws) so_far one) (w ∷ ws)
  by_number so_far w ws (Some n) is go = more_numbers so_far n w ws (numbers_from least most (so_far ++ n ∷ []) ws) is.0 is.1 (go (so_far ++ n ∷ []))
  by_number so_far w ws None is go = tt

  pub numbers_sound : (so_far : List ℕ) (words : List Word) → AreNumbers so_far (numbers_from least most so_far words) words
  numbers_sound so_far [] = ([], sym (append-nil so_far), refl, refl)
  numbers_sound so_far (w ∷ ws) = by_number so_far w ws (number_in least most w) (one_sound w) (λ more. numbers_sound more ws)

  pub numbers_again : (so_far ns : List ℕ) → list_all (is_within least most) ns ≡ true → numbers_from least most so_far (map number ns) ≡ Some (so_far ++ ns)
  numbers_again so_far [] h = ap Some (sym (append-nil so_far))
  numbers_again so_far (n ∷ ns) h =
      let parts = both (is_within least most n) (list_all (is_within least most) ns) h in
      ap (with_number (λ more. numbers_from least most more (map number ns)) so_far) (one_again n parts.0)
      ∙ numbers_again (so_far ++ n ∷ []) ns parts.1 ∙ ap Some (append_assoc so_far (n ∷ []) ns)

-- values
abbrev pub marked : Bool → List Word → List Word
marked true words = Minus ∷ words
marked false words = words

abbrev pub AreValues : (so_far : List Value) → Bool → Option (List Value) → List Word → Type 0
AreValues so_far negative (Some all) words = (more : List Value) × (all ≡ so_far ++ more) × (marked negative words ≡ values_words more)
AreValues so_far negative None words = Unit {0}

pub more_values : (so_far : List Value) (negative : Bool) (n : Option ℕ) (ws : List Word) (read : Option (List Value)) → marked negative (Number n ∷ ws) ≡ value_words (record { negative = negative; number = n }) ++ ws
    → AreValues (so_far ++ (record { negative = negative; number = n }) ∷ []) false read ws → AreValues so_far negative read (Number n ∷ ws)
more_values so_far negative n ws (Some all) is e =
    ((record { negative = negative; number = n }) ∷ e.0, e.1 ∙ append_assoc so_far ((record { negative = negative; number = n }) ∷ []) e.0, is ∙ ap (λ xs. value_words (record { negative = negative; number = n }) ++ xs) e.2)
more_values so_far negative n ws None is e = tt

pub behind_minus : (so_far : List Value) (ws : List Word) (read : Option (List Value)) → AreValues so_far true read ws → AreValues so_far false read (Minus ∷ ws)
behind_minus so_far ws (Some all) e = e
behind_minus so_far ws None e = tt

pub values_sound : (so_far : List Value) (negative : Bool) (words : List Word) → AreValues so_far negative (values_from so_far negative words) words
values_sound so_far false [] = ([], sym (append-nil so_far), refl)
values_sound so_far true [] = tt
values_sound so_far false (Name name ∷ ws) = tt
values_sound so_far true (Name name ∷ ws) = tt
values_sound so_far false (Number n ∷ ws) = more_values so_far false n ws (values_from (so_far ++ (record { negative = false; number = n }) ∷ []) false ws) refl (values_sound (so_far ++ (record { negative = false; number = n }) ∷ []) false ws)
values_sound so_far true (Number n ∷ ws) = more_values so_far true n ws (values_from (so_far ++ (record { negative = true; number = n }) ∷ []) false ws) refl (values_sound (so_far ++ (record { negative = true; number = n }) ∷ []) false ws)
values_sound so_far false (Equals ∷ ws) = tt
values_sound so_far true (Equals ∷ ws) = tt
values_sound so_far false (Minus ∷ ws) = behind_minus so_far ws (values_from so_far true ws) (values_sound so_far true ws)
values_sound so_far true (Minus ∷ ws) = tt

pub one_value : (so_far : List Value) (negative : Bool) (n : Option ℕ) (ws : List Word) → values_from so_far false (value_words (record { negative = negative; number = n }) ++ ws) ≡ values_from (so_far ++ (record { negative = negative; number = n }) ∷ []) false ws
one_value so_far true n ws = refl
one_value so_far false n ws = refl

pub values_again : (so_far vs : List Value) → values_from so_far false (values_words vs) ≡ Some (so_far ++ vs)
values_again so_far [] = ap Some (sym (append-nil so_far))
values_again so_far (v ∷ vs) = one_value so_far v.negative v.number (values_words vs) ∙ values_again (so_far ++ v ∷ []) vs ∙ ap Some (append_assoc so_far (v ∷ []) vs)

-- one value
abbrev pub IsValue : Option Value → List Word → Type 0
IsValue (Some v) words = words ≡ value_words v
IsValue None words = Unit {0}

pub value_sound : (words : List Word) → IsValue (value_in words) words
value_sound [] = tt
value_sound (Name name ∷ ws) = tt
value_sound (Number n ∷ []) = refl
value_sound (Number n ∷ w ∷ ws) = tt
value_sound (Equals ∷ ws) = tt
value_sound (Minus ∷ []) = tt
value_sound (Minus ∷ Name name ∷ []) = tt
value_sound (Minus ∷ Number n ∷ []) = refl
value_sound (Minus ∷ Equals ∷ []) = tt
value_sound (Minus ∷ Minus ∷ []) = tt
value_sound (Minus ∷ w ∷ v ∷ ws) = tt

pub value_again : (negative : Bool) (n : Option ℕ) → value_in (value_words (record { negative = negative; number = n })) ≡ Some (record { negative = negative; number = n })
value_again true n = refl
value_again false n = refl

pub has_words : {A : Type 0} (f : A → Word) (w : Word) (ws : List Word) (xs : List A) → w ∷ ws ≡ map f xs → has_some xs ≡ true
has_words f w ws [] e = absurd cc
has_words f w ws (x ∷ xs) e = refl

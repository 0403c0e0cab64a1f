-- Words mixed into others, one more at a time.
use Rattle.std.proofs.Common.{◌≡◌, ℕ, zero, suc, ◌+◌, ◌<◌, ◌≤◌, List, [], ◌∷◌, ◌++◌, length, get_or, set, take, refl, ap, arith, add-one}
use Rattle.block_pool.specs.declared.how.How.{How}
use Rattle.block_pool.specs.declared.how.How.TheVariants.{Set}
use Rattle.block_pool.specs.Memory.{with_front}
use Rattle.block_pool.specs.Mixed.{mixed, mixed_word}

module _ (how : How) where
  -- as many words
  pub length-mixed : (n : ℕ) (xs ys : List ℕ) → length (mixed how n xs ys) ≡ length xs
  length-mixed zero xs ys = refl
  length-mixed (suc n) [] ys = refl
  length-mixed (suc n) (x ∷ xs) [] = refl
  length-mixed (suc n) (x ∷ xs) (y ∷ ys) = ap suc (length-mixed n xs ys)

  -- the next word has met none
  pub get_or-mixed : (n : ℕ) (xs ys : List ℕ) (d : ℕ) → get_or (mixed how n xs ys) n d ≡ get_or xs n d
  get_or-mixed zero xs ys d = refl
  get_or-mixed (suc n) [] ys d = refl
  get_or-mixed (suc n) (x ∷ xs) [] d = refl
  get_or-mixed (suc n) (x ∷ xs) (y ∷ ys) d = get_or-mixed n xs ys d

  -- the next word
  more : (n : ℕ) (xs ys : List ℕ) → n < length xs → n < length ys
      → set (mixed how n xs ys) n (mixed_word how (get_or xs n 0) (get_or ys n 0)) ≡ mixed how (suc n) xs ys
  more zero (x ∷ xs) (y ∷ ys) h k = refl
  more (suc n) (x ∷ xs) (y ∷ ys) h k = ap (λ r. mixed_word how x y ∷ r) (more n xs ys (omega arith) (omega arith))
  more n [] ys h k = absurd (omega arith)
  more n (x ∷ xs) [] h k = absurd (omega arith)

  -- the next word, read from the list as it is
  pub mixed_more : (n : ℕ) (xs ys : List ℕ) → n < length xs → n < length ys
      → set (mixed how n xs ys) n (mixed_word how (get_or (mixed how n xs ys) n 0) (get_or ys n 0)) ≡ mixed how (n + 1) xs ys
  mixed_more n xs ys h k = rw (get_or-mixed n xs ys 0, add-one) (more n xs ys h k)

  -- words behind the first ones don't count
  pub mixed_front : (n m : ℕ) (xs ys : List ℕ) → n ≤ m → mixed how n xs (take m ys) ≡ mixed how n xs ys
  mixed_front zero m xs ys h = refl
  mixed_front (suc n) zero xs ys h = absurd (omega arith)
  mixed_front (suc n) (suc m) [] ys h = refl
  mixed_front (suc n) (suc m) (x ∷ xs) [] h = refl
  mixed_front (suc n) (suc m) (x ∷ xs) (y ∷ ys) h = ap (λ r. mixed_word how x y ∷ r) (mixed_front n m xs ys (omega arith))

  -- words behind those that are met stay
  pub mixed-append : (n : ℕ) (xs zs ys : List ℕ) → n ≤ length xs → mixed how n (xs ++ zs) ys ≡ mixed how n xs ys ++ zs
  mixed-append zero xs zs ys h = refl
  mixed-append (suc n) [] zs ys h = absurd (omega arith)
  mixed-append (suc n) (x ∷ xs) zs [] h = refl
  mixed-append (suc n) (x ∷ xs) zs (y ∷ ys) h = ap (λ r. mixed_word how x y ∷ r) (mixed-append n xs zs ys (omega arith))

  -- one turn of a loop that mixes in place
  pub mixed_step : (n : ℕ) (now old from : List ℕ) → now ≡ mixed how n old from → n < length old → n < length from
      → set now n (mixed_word how (get_or now n 0) (get_or from n 0)) ≡ mixed how (n + 1) old from
  mixed_step n now old from is h k = rw is (mixed_more n old from h k)

-- words that replace the front
pub mixed-Set : (n : ℕ) (xs ys : List ℕ) → n ≤ length xs → n ≤ length ys → mixed Set n xs ys ≡ with_front xs (take n ys)
mixed-Set zero xs ys h k = refl
mixed-Set (suc n) [] ys h k = absurd (omega arith)
mixed-Set (suc n) (x ∷ xs) [] h k = absurd (omega arith)
mixed-Set (suc n) (x ∷ xs) (y ∷ ys) h k = ap (λ r. y ∷ r) (mixed-Set n xs ys (omega arith) (omega arith))

-- all the words replace the front
pub mixed-Set_all : (xs ys : List ℕ) → length ys ≤ length xs → mixed Set (length ys) xs ys ≡ with_front xs ys
mixed-Set_all xs [] h = refl
mixed-Set_all [] (y ∷ ys) h = absurd (omega arith)
mixed-Set_all (x ∷ xs) (y ∷ ys) h = ap (λ r. y ∷ r) (mixed-Set_all xs ys (omega arith))

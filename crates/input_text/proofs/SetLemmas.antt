-- A set of names beside a list of what they name.
use Rattle.std.proofs.Common.{◌≡◌, List, [], ◌∷◌, ◌++◌, Bool, true, false, ◌||◌, cond, not, map, refl, sym, ap, ◌∙◌}
use Rattle.std.specs.List.{list_any}

any_map : {A B : Type 0} (f : A → B) (p : B → Bool) (xs : List A) → list_any p (map f xs) ≡ list_any (λ x. p (f x)) xs
any_map f p [] = refl
any_map f p (x ∷ xs) = ap (λ b. p (f x) || b) (any_map f p xs)

-- a test of names has the same answer on both sides
pub asked : {A B N : Type 0} (f : A → N) (g : B → N) (p : N → Bool) (keys : List A) (items : List B) → map f keys ≡ map g items → list_any (λ k. p (f k)) keys ≡ list_any (λ x. p (g x)) items
asked f g p keys items tied = sym (any_map f p keys) ∙ ap (list_any p) tied ∙ any_map g p items

map_push : {A B : Type 0} (f : A → B) (xs : List A) (x : A) → map f (xs ++ x ∷ []) ≡ map f xs ++ f x ∷ []
map_push f [] x = refl
map_push f (y ∷ ys) x = ap (λ zs. f y ∷ zs) (map_push f ys x)

pub is_new : (b : Bool) → not b ≡ true → b ≡ false
is_new true e = absurd cc
is_new false e = refl

-- a new name goes last on both sides
pub pushed : {A B N : Type 0} (f : A → N) (g : B → N) (known : Bool) (keys now : List A) (key : A) (items : List B) (item : B) → known ≡ false → now ≡ cond known keys (keys ++ key ∷ []) → f key ≡ g item → map f keys ≡ map g items
    → map f now ≡ map g (items ++ item ∷ [])
pushed f g known keys now key items item new is same tied =
    ap (map f) (is ∙ ap (λ b. cond b keys (keys ++ key ∷ [])) new) ∙ map_push f keys key ∙ ap (λ xs. xs ++ f key ∷ []) tied ∙ ap (λ x. map g items ++ x ∷ []) same ∙ sym (map_push g items item)

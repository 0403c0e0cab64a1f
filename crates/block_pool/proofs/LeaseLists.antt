-- Leases read from elements of other lists.
use Rattle.std.proofs.Common.{◌≡◌, ℕ, ◌<◌, List, [], ◌∷◌, ◌++◌, ◌+◌, ◌-◌, set, length, map, get_or, refl, ap, sym, ◌∙◌, arith, Option, Some, None}
use Rattle.std.specs.List.{remove}
use Rattle.std.specs.Option.{unwrap_or}
use Rattle.std.proofs.lemmas.List.{get_or-map, map_push, get_or_append_left, get_or-append-add, get_or_default, set-append_right, length-map}
use Rattle.block_pool.specs.declared.state.State.{State}
use Rattle.block_pool.specs.Memory.{Memory, words_at}
use Rattle.block_pool.specs.Standing.{Holds, Keeps, Named, Frames, lease_at, contents, words_of}
use Rattle.block_pool.proofs.Leases.{map-remove, read_words}

-- the lease of an element that was read
pub read_lease : {E : Type 0} (lease : E → ℕ) (es : List E) (i : ℕ) (e : E) → i < length es → e ≡ get_or es i e
    → lease_at (map (λ x. Some (lease x)) es) i ≡ Some (lease e)
read_lease {E} lease es i e within read = get_or-map (λ (x : E). Some (lease x)) es i e None within ∙ ap (λ (x : E). Some (lease x)) (sym read)

-- the same list under another name
pub keeps_at : {p : Memory} {s : State} {xs ys : List (Option ℕ)} {ws : List (Option (List ℕ))} → ys ≡ xs → Keeps p s xs ws → Keeps p s ys ws
keeps_at {p} {s} {xs} {ys} {ws} e k = rw e k

-- what is read of elements, after one was taken out
pub after_remove : {E V : Type 0} (f : E → V) (es es1 : List E) (i : ℕ) → es1 ≡ remove es i → map f es1 ≡ remove (map f es) i
after_remove f es es1 i e = ap (map f) e ∙ map-remove f es i

-- what is read of elements, after one more
pub after_push : {E V : Type 0} (f : E → V) (es es1 : List E) (x : E) → es1 ≡ es ++ x ∷ [] → map f es1 ≡ map f es ++ f x ∷ []
after_push f es es1 x e = ap (map f) e ∙ map_push f es x

-- the same list under another name
pub named_at : {p : Memory} {class : ℕ} {xs ys : List (Option ℕ)} → ys ≡ xs → Named p class xs → Named p class ys
named_at {p} {class} {xs} {ys} e k = rw e k

-- a lease of the first of two lists
pub first_lease : (firsts : List ℕ) (seconds : List (Option ℕ)) (i t : ℕ) → i < length firsts → t ≡ get_or firsts i t → lease_at (map Some firsts ++ seconds) i ≡ Some t
first_lease firsts seconds i t within read =
    get_or_append_left (map Some firsts) seconds None i (rw length-map within) ∙ (get_or-map Some firsts i t None within ∙ ap Some (sym read))

-- the words of a lease that was read
pub words_there : (p : Memory) (xs : List (Option ℕ)) (i t : ℕ) → lease_at xs i ≡ Some t → words_of (contents p xs) i ≡ words_at p.words t
words_there p xs i t here = ap (λ o. unwrap_or o []) (read_words p xs i t here)

-- the number beside it
pub number_there : {E : Type 0} (number : E → ℕ) (es : List E) (i : ℕ) (e : E) → i < length es → e ≡ get_or es i e → number e ≡ get_or (map number es) i 0
number_there {E} number es i e within read = ap number read ∙ sym (get_or-map number es i e 0 within)

-- a lease of the second of two lists
pub second_lease : (firsts : List ℕ) (seconds : List (Option ℕ)) (i : ℕ) (d : Option ℕ) → i < length seconds → lease_at (map Some firsts ++ seconds) (length firsts + i) ≡ get_or seconds i d
second_lease firsts seconds i d within =
    ap (λ n. lease_at (map Some firsts ++ seconds) (n + i)) (sym (length-map firsts Some)) ∙ (get_or-append-add (map Some firsts) seconds i None ∙ get_or_default seconds i None d within)

-- a write to the second of two lists
pub second_set : (firsts : List ℕ) (seconds : List (Option ℕ)) (i : ℕ) (v : Option ℕ) → map Some firsts ++ set seconds i v ≡ set (map Some firsts ++ seconds) (length firsts + i) v
second_set firsts seconds i v =
    let back : length firsts + i - length firsts ≡ i = omega arith in
    sym (set-append_right (map Some firsts) seconds (length firsts) (length firsts + i) v (length-map firsts Some) (omega arith) ∙ ap (λ n. map Some firsts ++ set seconds n v) back)

-- a place that was read
pub place_read : (xs : List (Option ℕ)) (i t : ℕ) (o : Option ℕ) → i < length xs → o ≡ get_or xs i o → o ≡ Some t → lease_at xs i ≡ Some t
place_read xs i t o within read some = get_or_default xs i None o within ∙ (sym read ∙ some)

-- a place of an array that was read
pub place_is : (xs : List (Option ℕ)) (i t : ℕ) (o : Option ℕ) → i < length xs → get_or xs i o ≡ Some t → lease_at xs i ≡ Some t
place_is xs i t o within some = get_or_default xs i None o within ∙ some

-- an array of two that was taken apart
pub two_places : (xs : List (Option ℕ)) (a b : Option ℕ) → length xs ≡ 2 → a ≡ get_or xs 0 a → b ≡ get_or xs 1 b → xs ≡ a ∷ b ∷ []
two_places [] a b len is_a is_b = absurd (omega arith)
two_places (x ∷ []) a b len is_a is_b = absurd (omega arith)
two_places (x ∷ y ∷ []) a b len is_a is_b = rw (is_a, is_b) refl
two_places (x ∷ y ∷ z ∷ zs) a b len is_a is_b = absurd (omega arith)

-- the leases of such an array
pub holds_two : {p : Memory} {s : State} {a b : Option ℕ} (xs : List (Option ℕ)) → Holds p s xs → length xs ≡ 2 → a ≡ get_or xs 0 a → b ≡ get_or xs 1 b → Holds p s (a ∷ b ∷ [])
holds_two {p} {s} {a} {b} xs h len is_a is_b = rw (← two_places xs a b len is_a is_b) h

-- and what others hold
pub frames_two : {old new : Memory} {a b : Option ℕ} {ys : List (Option ℕ)} (xs : List (Option ℕ)) → Frames old new (a ∷ b ∷ []) ys → length xs ≡ 2 → a ≡ get_or xs 0 a → b ≡ get_or xs 1 b → Frames old new xs ys
frames_two {old} {new} {a} {b} {ys} xs f len is_a is_b = rw (two_places xs a b len is_a is_b) f

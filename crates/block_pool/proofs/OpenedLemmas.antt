-- What an opening's start means.
use Rattle.std.proofs.Common.{◌≡◌, ℕ, zero, suc, ◌-◌, ◌<◌, List, [], ◌∷◌, length, map, get_or, set, replicate, refl, ap, ◌∙◌, arith, append-nil, eqb-true}
use Rattle.std.proofs.lemmas.List.{get_or-replicate, get_or-map, length-replicate, length-map}
use Rattle.std.proofs.lemmas.List.FromFn.{get_or-range_with_len}
use Rattle.block_pool.specs.declared.state.State.TheVariants.{Free}
use Rattle.block_pool.specs.Memory.{free_in, free_slots, group_of}
use Rattle.block_pool.specs.Changes.{HasWidth}
use Rattle.block_pool.specs.Opened.{opened, opened_classes, started, classes_from, each_class}
use Rattle.block_pool.proofs.Members.{free_slots-replicate, members-replicate_same, members-classes_from}

-- a run of equal elements
pub map-replicate : {A B : Type 0} (f : A → B) (n : ℕ) (x : A) → map f (replicate n x) ≡ replicate n (f x)
map-replicate f zero x = refl
map-replicate f (suc n) x = ap (λ r. f x ∷ r) (map-replicate f n x)

-- slots of class 16 alone
pub started-opened : (n w : ℕ) → started (set (replicate 17 0) 16 n) (set (replicate 17 0) 16 w) (replicate 17 16) 16 ≡ opened n w
started-opened n w = rw (append-nil, length-replicate, map-replicate) refl

-- each class names all slots
pub free_in-opened : (n w class : ℕ) → class < 17 → free_in (opened n w) class ≡ n
free_in-opened n w class h =
    let group : group_of (replicate 17 16) class ≡ 16 = get_or-replicate 17 class 16 17 h in
    let all : free_slots 16 (replicate n 16) (replicate (length (replicate {A = ℕ} n 16)) Free) ≡ n = free_slots-replicate 16 (replicate n 16) ∙ members-replicate_same 16 n in
    rw group (rw (length-replicate {A = ℕ} n 16) at all)

-- all slots are so wide
pub width-opened : (n w class : ℕ) → HasWidth (opened n w) class w
width-opened n w class slot within named =
    let low : slot < n = rw length-replicate at within in
    rw (get_or-replicate n slot (replicate {A = ℕ} w 0) [] low) (length-replicate {A = ℕ} w 0)

-- each class names its own slots
group-each_class : (class : ℕ) → class < 17 → group_of each_class class ≡ class
group-each_class class h = get_or-range_with_len 0 17 class 17 h ∙ omega arith

-- each class names as many slots as were asked for
pub free_in-opened_classes : (slots widths : List ℕ) (class : ℕ) → class < 17 → free_in (opened_classes slots widths) class ≡ get_or slots class 0
free_in-opened_classes slots widths class h =
    let back : class - 0 ≡ class = omega arith in
    let count = members-classes_from 0 class slots (omega arith) in
    rw (group-each_class class h) (free_slots-replicate class (classes_from 0 slots) ∙ rw back at count)

-- and they are as wide
pub width-opened_classes : (slots widths : List ℕ) (class : ℕ) → class < 17 → HasWidth (opened_classes slots widths) class (get_or widths class 0)
width-opened_classes slots widths class h slot within named =
    let low : slot < length (classes_from 0 slots) = rw length-map at within in
    let is : get_or (classes_from 0 slots) slot 0 ≡ class = eqb-true _ _ named ∙ group-each_class class h in
    let row = get_or-map (λ (c : ℕ). replicate {A = ℕ} (get_or widths c 0) 0) (classes_from 0 slots) slot 0 [] low in
    rw (row, is) (length-replicate {A = ℕ} (get_or widths class 0) 0)

-- Looking up and replacing entries, as the map sees it.
use Rattle.std.proofs.Common.{◌≡◌, ℕ, zero, suc, ◌+◌, ◌<◌, Bool, true, false, cond, List, [], ◌∷◌, ◌++◌, map, length, get_or, set, Some, None, refl, sym, ap, ◌∙◌, arith, position, Result, Ok, Err, unwrap_or}
use Rattle.std.specs.Prelude.{OnOk, OnErr}
use Rattle.std.specs.FinMap as finite
use Rattle.std.specs.FinMap.{find, same_map, get-from_entries, get-insert, from_entries_push, slice_cmp-IsAntisymmetric, nat_cmp-IsAntisymmetric}
use Rattle.std.specs.Ordering.{nat_cmp, eq_by_cmp}
use Rattle.std.specs.Cmp.Lexicographic.{slice_cmp}
use Rattle.std.proofs.lemmas.Cmp.{nat_list_cmp_total}
use Rattle.std.proofs.lemmas.Map.Text.{is_eq-slice_cmp}
use Rattle.std.proofs.lemmas.Slice.Eq.{bytes_eq-Decides}
use Rattle.std.proofs.lemmas.List.{map_push}
use Rattle.std.proofs.lemmas.List.Quantifiers.{position-Some}
use Rattle.std.proofs.lemmas.Iterator.Adapters.{position_from-zero}
use Rattle.std.specs.List.{position_from}
use Rattle.sip_files.proofs.WritingLemmas.{insert-there}
use Rattle.sip_files.specs.Files.{Folder}
use Rattle.sip_files.specs.Writing.{bytes_in}
use Rattle.sip_files.specs.Entries.{pair, folder_of, has_name}
use Rattle.sip_files.specs.declared.folder.Entry.{Entry}

-- the order of names tells apart what the test tells apart
same_test : (name : List ℕ) (e : Entry) → eq_by_cmp (slice_cmp nat_cmp) name e.name.items ≡ has_name name e
same_test name e = is_eq-slice_cmp name e.name.items

-- a name that no entry has isn't found
absent_from : (name : List ℕ) (i : ℕ) (es : List Entry) → position_from (has_name name) i es ≡ None → find (slice_cmp nat_cmp) name (map pair es) ≡ None
absent_from name i [] h = refl
absent_from name i (e ∷ es) h =
    elim (has_name name e) as (λ b. has_name name e ≡ b → cond b (Some i) (position_from (has_name name) (i + 1) es) ≡ None → find (slice_cmp nat_cmp) name (map pair (e ∷ es)) ≡ None) [
      | true ↦ λ is h. absurd (cc h)
      | false ↦ λ is h. ap (λ b. cond b (Some e.bytes.items) (find (slice_cmp nat_cmp) name (map pair es))) (same_test name e ∙ is) ∙ absent_from name (i + 1) es h
    ] refl h

pub absent : (name : List ℕ) (es : List Entry) → position (has_name name) es ≡ None → find (slice_cmp nat_cmp) name (map pair es) ≡ None
absent name es h = absent_from name 0 es (sym (position_from-zero (has_name name) es) ∙ h)

-- the first entry of a name is what is found
pub at_place : (name : List ℕ) (es : List Entry) (at : ℕ) (d : Entry) → at < length es → has_name name (get_or es at d) ≡ true → ((k : ℕ) → k < at → has_name name (get_or es k d) ≡ false) → find (slice_cmp nat_cmp) name (map pair es) ≡ Some (get_or es at d).bytes.items
at_place name [] at d within is before = absurd (omega arith)
at_place name (e ∷ es) zero d within is before = ap (λ b. cond b (Some e.bytes.items) (find (slice_cmp nat_cmp) name (map pair es))) (same_test name e ∙ is)
at_place name (e ∷ es) (suc at) d within is before =
    ap (λ b. cond b (Some e.bytes.items) (find (slice_cmp nat_cmp) name (map pair es))) (same_test name e ∙ before 0 (omega arith))
    ∙ at_place name es at d (omega arith) is (λ k h. before (suc k) (omega arith))

-- two tests of one key: the inner one is never reached
shadowed : {A : Type 0} (b : Bool) (x y z : A) → cond b x z ≡ cond b x (cond b y z)
shadowed true x y z = refl
shadowed false x y z = refl

-- tests that don't both hold may come in either order
swapped : {A : Type 0} (a b : Bool) (x y z : A) → (a ≡ true → b ≡ true → ⊥) → cond a x (cond b y z) ≡ cond b y (cond a x z)
swapped true true x y z apart = absurd (apart refl refl)
swapped true false x y z apart = refl
swapped false b x y z apart = refl

-- entries of different names aren't both of one name
apart : (name q : List ℕ) (e : Entry) → has_name name e ≡ false → eq_by_cmp (slice_cmp nat_cmp) q e.name.items ≡ true → eq_by_cmp (slice_cmp nat_cmp) q name ≡ true → ⊥
apart name q e differs first second =
    let same_e : q ≡ e.name.items = (bytes_eq-Decides q e.name.items).0 (sym (is_eq-slice_cmp q e.name.items) ∙ first) in
    let same_name : q ≡ name = (bytes_eq-Decides q name).0 (sym (is_eq-slice_cmp q name) ∙ second) in
    let is : has_name name e ≡ true = (bytes_eq-Decides name e.name.items).1 (sym same_name ∙ same_e) in
    absurd cc

-- the first entry of a name is replaced by one of that name: all other names have what they had
pub find-replaced : (name bytes q : List ℕ) (es : List Entry) (at : ℕ) (d new : Entry) → at < length es → has_name name (get_or es at d) ≡ true → ((k : ℕ) → k < at → has_name name (get_or es k d) ≡ false) → new.name.items ≡ name → new.bytes.items ≡ bytes → find (slice_cmp nat_cmp) q (map pair (set es at new)) ≡ cond (eq_by_cmp (slice_cmp nat_cmp) q name) (Some bytes) (find (slice_cmp nat_cmp) q (map pair es))
find-replaced name bytes q [] at d new within is before named holds = absurd (omega arith)
find-replaced name bytes q (e ∷ es) zero d new within is before named holds =
    let same : name ≡ e.name.items = (bytes_eq-Decides name e.name.items).0 is in
    ap (λ n. cond (eq_by_cmp (slice_cmp nat_cmp) q n) (Some new.bytes.items) (find (slice_cmp nat_cmp) q (map pair es))) named
    ∙ ap (λ b. cond (eq_by_cmp (slice_cmp nat_cmp) q name) (Some b) (find (slice_cmp nat_cmp) q (map pair es))) holds
    ∙ shadowed (eq_by_cmp (slice_cmp nat_cmp) q name) (Some bytes) (Some e.bytes.items) _
    ∙ ap (λ n. cond (eq_by_cmp (slice_cmp nat_cmp) q name) (Some bytes) (cond (eq_by_cmp (slice_cmp nat_cmp) q n) (Some e.bytes.items) (find (slice_cmp nat_cmp) q (map pair es)))) same
find-replaced name bytes q (e ∷ es) (suc at) d new within is before named holds =
    ap (cond (eq_by_cmp (slice_cmp nat_cmp) q e.name.items) (Some e.bytes.items)) (find-replaced name bytes q es at d new (omega arith) is (λ k h. before (suc k) (omega arith)) named holds)
    ∙ swapped (eq_by_cmp (slice_cmp nat_cmp) q e.name.items) (eq_by_cmp (slice_cmp nat_cmp) q name) _ _ _ (apart name q e (before 0 (omega arith)))

-- what a name has, at its place
pub get-place : (name : List ℕ) (es : List Entry) (at : ℕ) (d : Entry) → position (has_name name) es ≡ Some at → finite.get (folder_of es) name ≡ Some (get_or es at d).bytes.items
get-place name es at d is =
    let (within, named, before) = position-Some (has_name name) es at d is in
    get-from_entries nat_list_cmp_total (map pair es) name ∙ at_place name es at d within named before

-- a name without a place has nothing
pub get-no_place : (name : List ℕ) (es : List Entry) → position (has_name name) es ≡ None → finite.get (folder_of es) name ≡ None
get-no_place name es is = get-from_entries nat_list_cmp_total (map pair es) name ∙ absent name es is

-- replacing the entry of a name is to insert into the map
pub folder_of-set : (name bytes : List ℕ) (es : List Entry) (at : ℕ) (d new : Entry) → position (has_name name) es ≡ Some at → new.name.items ≡ (get_or es at d).name.items → new.bytes.items ≡ bytes → folder_of (set es at new) ≡ finite.insert (folder_of es) name bytes
folder_of-set name bytes es at d new is same_name holds =
    let (within, named, before) = position-Some (has_name name) es at d is in
    let new_named : new.name.items ≡ name = same_name ∙ sym ((bytes_eq-Decides name (get_or es at d).name.items).0 named) in
    same_map nat_list_cmp_total (slice_cmp-IsAntisymmetric nat_cmp-IsAntisymmetric) _ _ (λ q.
    get-from_entries nat_list_cmp_total (map pair (set es at new)) q
    ∙ find-replaced name bytes q es at d new within named before new_named holds
    ∙ ap (cond (eq_by_cmp (slice_cmp nat_cmp) q name) (Some bytes)) (sym (get-from_entries nat_list_cmp_total (map pair es) q))
    ∙ sym (get-insert nat_list_cmp_total (folder_of es) name bytes q))

-- an entry of a new name at the end is to insert into the map
pub folder_of-push : (name bytes : List ℕ) (es : List Entry) (new : Entry) → position (has_name name) es ≡ None → new.name.items ≡ name → new.bytes.items ≡ bytes → folder_of (es ++ new ∷ []) ≡ finite.insert (folder_of es) name bytes
folder_of-push name bytes es new is named holds =
    let one : pair new ≡ (name, bytes) = λ i. (named i, holds i) in
    ap finite.from_entries (map_push pair es new)
    ∙ ap (λ e. finite.from_entries (map pair es ++ e ∷ [])) one
    ∙ from_entries_push nat_list_cmp_total (slice_cmp-IsAntisymmetric nat_cmp-IsAntisymmetric) (map pair es) name bytes (absent name es is)

-- an entry replaced by one with the same name and bytes
pub folder_of-same : (name : List ℕ) (es : List Entry) (at : ℕ) (d new : Entry) → position (has_name name) es ≡ Some at → new.name.items ≡ (get_or es at d).name.items → new.bytes.items ≡ (get_or es at d).bytes.items → folder_of (set es at new) ≡ folder_of es
folder_of-same name es at d new is same_name same_bytes =
    folder_of-set name (get_or es at d).bytes.items es at d new is same_name same_bytes
    ∙ insert-there (folder_of es) name (get_or es at d).bytes.items (get-place name es at d is)

-- an entry replaced by one with the same name and more bytes
pub folder_of-longer : (name bytes : List ℕ) (es : List Entry) (at : ℕ) (d new : Entry) → position (has_name name) es ≡ Some at → new.name.items ≡ (get_or es at d).name.items → new.bytes.items ≡ (get_or es at d).bytes.items ++ bytes → folder_of (set es at new) ≡ finite.insert (folder_of es) name (bytes_in (folder_of es) name ++ bytes)
folder_of-longer name bytes es at d new is same_name longer =
    folder_of-set name ((get_or es at d).bytes.items ++ bytes) es at d new is same_name longer
    ∙ ap (λ held. finite.insert (folder_of es) name (unwrap_or held [] ++ bytes)) (sym (get-place name es at d is))

-- bytes for a name that had none are bytes behind none
pub put-behind_none : {E : Type 0} (result : Result (Unit {0}) E) (files new : Folder) (name bytes : List ℕ) → finite.get files name ≡ None → OnOk result (new ≡ finite.insert files name bytes) → OnOk result (new ≡ finite.insert files name (bytes_in files name ++ bytes))
put-behind_none (Ok done) files new name bytes none is = is ∙ ap (λ held. finite.insert files name (unwrap_or held [] ++ bytes)) (sym none)
put-behind_none (Err e) files new name bytes none is = tt

-- what holds anyway holds on an error
pub on-error : {A E P : Type 0} (result : Result A E) → P → OnErr result P
on-error (Ok done) p = tt
on-error (Err e) p = p

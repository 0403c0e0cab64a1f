-- What a call that writes one file leaves, as maps see it.
use Rattle.std.proofs.Common.{◌≡◌, ℕ, Bool, true, false, cond, List, [], ◌++◌, Option, Some, None, Result, Ok, Err, unwrap_or, refl, sym, ap, ◌∙◌, append-nil}
use Rattle.std.specs.Prelude.{◌∷◌, OnOk, OnErr}
use Rattle.std.specs.Borrow.{GName}
use Rattle.std.specs.FinMap as map
use Rattle.std.specs.FinMap.{same_map, get-insert, get-remove, slice_cmp-IsAntisymmetric, nat_cmp-IsAntisymmetric}
use Rattle.std.specs.Ordering.{nat_cmp, eq_by_cmp}
use Rattle.std.specs.Cmp.Lexicographic.{slice_cmp}
use Rattle.std.proofs.lemmas.Cmp.{nat_list_cmp_total}
use Rattle.std.proofs.lemmas.Map.Text.{is_eq-slice_cmp}
use Rattle.std.proofs.lemmas.Slice.Eq.{bytes_eq-Decides}
use Rattle.sip_files.specs.Files.{Folder, Rose, CountsOnly}
use Rattle.sip_files.specs.Kept.{at_end_of}
use Rattle.sip_files.specs.Sink.{Gains, GainsPart, Wrote}
use Rattle.sip_files.specs.Writing.{bytes_in, bytes_of, others_of, appended}
use Rattle.sip_files.specs.declared.call.Call.{Call}
use Rattle.sip_files.specs.declared.call.Call.TheVariants.{Load, Clear, Append, ReadAt, WriteAt}

-- a way that brings what the other brings
same_ways : {A : Type 0} (b : Bool) (x y : A) → (b ≡ true → y ≡ x) → cond b x y ≡ y
same_ways true x y is = sym (is refl)
same_ways false x y is = refl

-- what the test hides needs no second test
hidden : {A : Type 0} (b : Bool) (x y z : A) → cond b x (cond b y z) ≡ cond b x z
hidden true x y z = refl
hidden false x y z = refl

-- a name with what it has already
pub insert-there : (files : Folder) (name bytes : List ℕ) → map.get files name ≡ Some bytes → map.insert files name bytes ≡ files
insert-there files name bytes there =
    same_map nat_list_cmp_total (slice_cmp-IsAntisymmetric nat_cmp-IsAntisymmetric) _ _ (λ q.
    get-insert nat_list_cmp_total files name bytes q
    ∙ same_ways (eq_by_cmp (slice_cmp nat_cmp) q name) (Some bytes) (map.get files q) (λ is.
    ap (map.get files) ((bytes_eq-Decides q name).0 (sym (is_eq-slice_cmp q name) ∙ is)) ∙ there))

-- what a name has once it was given bytes
pub bytes_in-insert : (files : Folder) (name bytes : List ℕ) → bytes_in (map.insert files name bytes) name ≡ bytes
bytes_in-insert files name bytes =
    let same : eq_by_cmp (slice_cmp nat_cmp) name name ≡ true = is_eq-slice_cmp name name ∙ (bytes_eq-Decides name name).1 refl in
    ap (λ held. unwrap_or held []) (get-insert nat_list_cmp_total files name bytes name)
    ∙ ap (λ b. unwrap_or (cond b (Some bytes) (map.get files name)) []) same

-- all others once a name was given bytes
pub remove_insert : (files : Folder) (name bytes : List ℕ) → map.remove (map.insert files name bytes) name ≡ map.remove files name
remove_insert files name bytes =
    same_map nat_list_cmp_total (slice_cmp-IsAntisymmetric nat_cmp-IsAntisymmetric) _ _ (λ q.
    get-remove nat_list_cmp_total (map.insert files name bytes) name q
    ∙ ap (cond (eq_by_cmp (slice_cmp nat_cmp) q name) None) (get-insert nat_list_cmp_total files name bytes q)
    ∙ hidden (eq_by_cmp (slice_cmp nat_cmp) q name) None (Some bytes) (map.get files q)
    ∙ sym (get-remove nat_list_cmp_total files name q))

-- what was added is gained
pub appended-gains : (old new : Option Folder) (name bytes : List ℕ) → new ≡ appended old name bytes → Gains (bytes_of old name) (bytes_of new name) bytes
appended-gains None new name bytes is = ap (λ told. bytes_of told name) is
appended-gains (Some files) new name bytes is =
    ap (λ told. bytes_of told name) is ∙ ap Some (bytes_in-insert files name (bytes_in files name ++ bytes))

-- files that stay gain nothing, a first part of anything
pub same_gains : (told : Option Folder) (name bytes : List ℕ) → GainsPart (bytes_of told name) (bytes_of told name) bytes
same_gains None name bytes = ([], (bytes, refl), refl)
same_gains (Some files) name bytes = ([], (bytes, refl), ap Some (sym (append-nil (bytes_in files name))))

-- what a sink at the end of a file keeps
kept-same : (loan : GName) (l m : List GName) (name : List ℕ) (old new : Option Folder) (before now : Call → ℕ) (o p : ℕ) → m ≡ l → others_of new name ≡ others_of old name → CountsOnly Append before now → p ≡ o → at_end_of loan m name new now p ≡ at_end_of loan l name old before o
kept-same loan l m name old new before now o p loans others counts overlong =
    let load = counts.others Load (λ e. absurd cc) in
    let clear = counts.others Clear (λ e. absurd cc) in
    let read = counts.others ReadAt (λ e. absurd cc) in
    let write = counts.others WriteAt (λ e. absurd cc) in
    λ i. record { loans = loan ∷ loans i; name = name; others = others i; counts = load i ∷ clear i ∷ read i ∷ write i ∷ overlong i ∷ [] }

-- an append, as a sink at the end of the file sees it
pub append-wrote : {E : Type 0} (result : Result (Unit {0}) E) (loan : GName) (l m : List GName) (name bytes : List ℕ) (old new : Option Folder) (before now : Call → ℕ) (o p : ℕ)
    → OnOk result (new ≡ appended old name bytes) → OnErr result (GainsPart (bytes_of old name) (bytes_of new name) bytes) → others_of new name ≡ others_of old name → OnErr result (Rose (before Append) (now Append)) → CountsOnly Append before now → p ≡ o → m ≡ l
    → Wrote {E = E} (bytes_of old name) (bytes_of new name) (before Append) (now Append) (at_end_of loan l name old before o) (at_end_of loan m name new now p) bytes result
append-wrote (Ok done) loan l m name bytes old new before now o p ok part others cause counts overlong loans = record {
  ok = appended-gains old new name bytes ok;
  err = tt;
  later = counts.later;
  cause = tt;
  kept = kept-same loan l m name old new before now o p loans others counts overlong;
}
append-wrote (Err e) loan l m name bytes old new before now o p ok part others cause counts overlong loans = record {
  ok = tt;
  err = part;
  later = counts.later;
  cause = cause;
  kept = kept-same loan l m name old new before now o p loans others counts overlong;
}

-- What was read as declarations has their entries and their texts.
use Rattle.std.proofs.Common.{◌≡◌, ℕ, suc, ◌+◌, ◌^◌, List, [], ◌∷◌, ◌++◌, nat_lt, length, map, Some, refl, sym, ap, subst, ◌∙◌, arith, append_assoc, append-nil, length-append}
use Rattle.std.specs.List.{flat_map}
use Rattle.std.proofs.lemmas.List.Concat.{flat_map-cons}
use Rattle.sial_syntax.specs.declared.array.ArrayDecl.{ArrayDecl}
use Rattle.sial_syntax.specs.declared.index.Bound.{Bound}
use Rattle.sial_syntax.specs.declared.index.Bound.TheVariants as bound
use Rattle.sial_syntax.specs.declared.index.IndexDecl.{IndexDecl}
use Rattle.sial_syntax.specs.declared.index.Kind.{Kind}
use Rattle.sial_syntax.specs.declared.index.Range.{Range}
use Rattle.sial_syntax.specs.declared.index.Range.TheVariants as range
use Rattle.sial_syntax.specs.Tree.{Procedure, End}
use Rattle.sip_tables.specs.declared.array.ArrayEntry.{ArrayEntry}
use Rattle.sip_tables.specs.declared.index.BoundEntry.{BoundEntry}
use Rattle.sip_tables.specs.declared.index.BoundEntry.TheVariants.{Number, Named}
use Rattle.sip_tables.specs.declared.index.IndexEntry.{IndexEntry}
use Rattle.sip_tables.specs.declared.index.RangeEntry.{RangeEntry}
use Rattle.sip_tables.specs.declared.index.RangeEntry.TheVariants.{Segments, Sub}
use Rattle.sip_tables.specs.declared.procedure.ProcedureEntry.{ProcedureEntry}
use Rattle.sip_tables.specs.Entries.{bound_entry, range_entry, index_entry, index_entries, array_entries, scalar_entries, procedure_entries}
use Rattle.sip_tables.specs.Texts.{bound_texts, range_texts, index_texts}
use Rattle.table_verify.specs.Rest.{Left, Read, numbered, ◌>>=◌}
use Rattle.table_verify.specs.Names.{each, bound_of, segments, range_of, index, array, named}
use Rattle.table_verify.specs.Reading.{entries_in}
use Rattle.table_verify.proofs.Closed.{then_some, kept, TakesText, numbered_taken}

-- ---- lists

-- each entry is read where what was read before it ended
abbrev pub Chain : {E D : Type 0} → (E → Left → Read D) → List E → List D → Left → Left → Type 0
Chain read [] [] left new = left ≡ new
Chain read [] (d ∷ ds) left new = ⊥
Chain read (e ∷ es) [] left new = ⊥
Chain read (e ∷ es) (d ∷ ds) left new = (mid : Left) × ((read e left ≡ Some (d, mid)) × Chain read es ds mid new)

abbrev Chained : {E D : Type 0} → (E → Left → Read D) → (front : List D) → List E → Left → List D → Left → Type 0
Chained read front es left all new = (ds : List _) × ((all ≡ front ++ ds) × Chain read es ds left new)

chained : {E D : Type 0} (read : E → Left → Read D) (front : List D) (es : List E) (left : Left) (all : List D) (new : Left) → each read front es left ≡ Some (all, new) → Chained read front es left all new
unfolding each
chained {D = D} read front [] left all new h =
    let p : ◌≡◌ {A = List D × Left} (front, left) (all, new) = cc in
    subst (λ (q : List D × Left). Chained read front [] left q.0 q.1) p ([], (sym (append-nil front), refl))
chained read front (e ∷ es) left all new h =
    then_some (Chained read front (e ∷ es) left all new) (read e left) (λ x. each read (front ++ x.0 ∷ []) es x.1) (all, new) h (λ x first r.
    let rest = chained read (front ++ x.0 ∷ []) es x.1 all new r in
    (x.0 ∷ rest.0, (rest.1.0 ∙ append_assoc front (x.0 ∷ []) rest.0, (x.1, (first, rest.1.1)))))

-- all of them
pub each_found : {E D : Type 0} (read : E → Left → Read D) (es : List E) (left : Left) (all : List D) (new : Left) → each read [] es left ≡ Some (all, new) → Chain read es all left new
each_found read es left all new h =
    let c = chained read [] es left all new h in
    subst (λ (ds : List _). Chain read es ds left new) (sym c.1.0) c.1.1

-- ---- names

-- names were taken from the front
pub record TakesNames (names : List (List ℕ)) (old new : Left) : Type 0 where
  pub code : old.code ≡ new.code
  pub at : new.at ≡ old.at
  pub texts : old.texts ≡ names ++ new.texts
  pub text : new.text ≡ old.text + length names

nothing : (left : Left) → TakesNames [] left left
nothing left = record { code = refl; at = refl; texts = refl; text = let k : left.text ≡ left.text + 0 = omega arith in k }

-- no name more, where nothing was taken
nothing_to : (left new : Left) → left ≡ new → TakesNames [] left new
nothing_to left new same = subst (λ (l : Left). TakesNames [] left l) same (nothing left)

pub one_name : (name : List ℕ) (old new : Left) → TakesText name old new → TakesNames (name ∷ []) old new
one_name name old new t = record { code = t.code; at = t.at; texts = t.texts; text = t.text }

pub and_names : (first second : List (List ℕ)) (old mid new : Left) → TakesNames first old mid → TakesNames second mid new → TakesNames (first ++ second) old new
and_names first second old mid new a b =
    let x = a.text in
    let y = b.text in
    let z = length-append first second in
    record {
      code = a.code ∙ b.code;
      at = b.at ∙ a.at;
      texts = a.texts ∙ ap (λ (t : List (List ℕ)). first ++ t) b.texts ∙ sym (append_assoc first second new.texts);
      text = omega (arith, x, y, z);
    }

-- ---- what is declared

bound_found : (e : BoundEntry) (left new : Left) (b : Bound) → bound_of e left ≡ Some (b, new) → (e ≡ bound_entry left.text b) × TakesNames (bound_texts b) left new
bound_found (Number n) left new b h =
    let p : ◌≡◌ {A = Bound × Left} (bound.Number n, left) (b, new) = cc in
    subst (λ (q : Bound × Left). (Number n ≡ bound_entry left.text q.0) × TakesNames (bound_texts q.0) left q.1) p (refl, nothing left)
bound_found (Named number) left new b h =
    then_some ((Named number ≡ bound_entry left.text b) × TakesNames (bound_texts b) left new) (numbered number left) (λ x. Some (bound.Named x.0, x.1)) (b, new) h (λ x first k.
    let t = numbered_taken number left x.0 x.1 first in
    let p : ◌≡◌ {A = Bound × Left} (bound.Named x.0, x.1) (b, new) = cc in
    subst (λ (q : Bound × Left). (Named number ≡ bound_entry left.text q.0) × TakesNames (bound_texts q.0) left q.1) p (ap Named t.0, one_name x.0 left x.1 t.1))

segments_found : (kind : Kind) (lo hi : BoundEntry) (left new : Left) (r : Range) → segments kind lo hi left ≡ Some (r, new) → (Segments kind lo hi ≡ range_entry left.text r) × TakesNames (range_texts r) left new
unfolding segments
segments_found kind lo hi left new r h =
    let G = (Segments kind lo hi ≡ range_entry left.text r) × TakesNames (range_texts r) left new in
    then_some G (bound_of lo left) (λ x. bound_of hi x.1 >>= λ y. Some (range.Segments kind x.0 y.0, y.1)) (r, new) h (λ x first g. then_some G (bound_of hi x.1) (λ y. Some (range.Segments kind x.0 y.0, y.1)) (r, new) g (λ y second k.
    let a = bound_found lo left x.1 x.0 first in
    let b = bound_found hi x.1 y.1 y.0 second in
    let p : ◌≡◌ {A = Range × Left} (range.Segments kind x.0 y.0, y.1) (r, new) = cc in
    subst (λ (q : Range × Left). (Segments kind lo hi ≡ range_entry left.text q.0) × TakesNames (range_texts q.0) left q.1) p
    (ap (λ e. Segments kind e hi) a.0 ∙ ap (λ e. Segments kind (bound_entry left.text x.0) e) (b.0 ∙ ap (λ (n : ℕ). bound_entry n y.0) a.1.text), and_names (bound_texts x.0) (bound_texts y.0) left x.1 y.1 a.1 b.1)))

range_found : (e : RangeEntry) (left new : Left) (r : Range) → range_of e left ≡ Some (r, new) → (e ≡ range_entry left.text r) × TakesNames (range_texts r) left new
range_found (Segments kind lo hi) left new r h = segments_found kind lo hi left new r h
range_found (Sub super) left new r h =
    kept ((Sub super ≡ range_entry left.text r) × TakesNames (range_texts r) left new) (nat_lt super (2 ^ 16)) (range.Sub super, left) (r, new) h (λ holds same.
    subst (λ (q : Range × Left). (Sub super ≡ range_entry left.text q.0) × TakesNames (range_texts q.0) left q.1) same (refl, nothing left))

index_found : (e : IndexEntry) (left new : Left) (d : IndexDecl) → index e left ≡ Some (d, new) → (e ≡ index_entry left.text d) × TakesNames (index_texts d) left new
unfolding index
index_found e left new d h =
    let G = (e ≡ index_entry left.text d) × TakesNames (index_texts d) left new in
    then_some G (numbered e.text left) (λ x. range_of e.range x.1 >>= λ y. Some (record { name = x.0; line = e.line; range = y.0 }, y.1)) (d, new) h (λ x first g.
    then_some G (range_of e.range x.1) (λ y. Some (record { name = x.0; line = e.line; range = y.0 }, y.1)) (d, new) g (λ y second k.
    let t = numbered_taken e.text left x.0 x.1 first in
    let r = range_found e.range x.1 y.1 y.0 second in
    let p : ◌≡◌ {A = IndexDecl × Left} (record { name = x.0; line = e.line; range = y.0 }, y.1) (d, new) = cc in
    let here : e ≡ record { text = left.text; line = e.line; range = range_entry (left.text + 1) y.0 } =
    ap (λ (n : ℕ). record { text = n; line = e.line; range = e.range }) t.0 ∙ ap (λ (q : RangeEntry). record { text = left.text; line = e.line; range = q }) (r.0 ∙ ap (λ (n : ℕ). range_entry n y.0) t.1.text) in
    subst (λ (q : IndexDecl × Left). (e ≡ index_entry left.text q.0) × TakesNames (index_texts q.0) left q.1) p
    (here, and_names (x.0 ∷ []) (range_texts y.0) left x.1 y.1 (one_name x.0 left x.1 t.1) r.1)))

pub indices_found : (es : List IndexEntry) (ds : List IndexDecl) (left new : Left) → Chain index es ds left new → (es ≡ index_entries left.text ds) × TakesNames (flat_map index_texts ds) left new
indices_found [] [] left new c = (refl, nothing_to left new c)
indices_found [] (d ∷ ds) left new c = absurd c
indices_found (e ∷ es) [] left new c = absurd c
indices_found (e ∷ es) (d ∷ ds) left new c =
    let a = index_found e left c.0 d c.1.0 in
    let b = indices_found es ds c.0 new c.1.1 in (
      ap (λ x. x ∷ es) a.0 ∙ ap (λ xs. index_entry left.text d ∷ xs) (b.0 ∙ ap (λ (n : ℕ). index_entries n ds) a.1.text),
      subst (λ (names : List (List ℕ)). TakesNames names left new) (sym (flat_map-cons index_texts d ds)) (and_names (index_texts d) (flat_map index_texts ds) left c.0 new a.1 b.1),
    )

array_found : (e : ArrayEntry) (left new : Left) (d : ArrayDecl) → array e left ≡ Some (d, new) → (e ≡ record { text = left.text; line = d.line; kind = d.kind; dims = d.dims }) × TakesNames (d.name ∷ []) left new
unfolding array
array_found e left new d h =
    then_some ((e ≡ record { text = left.text; line = d.line; kind = d.kind; dims = d.dims }) × TakesNames (d.name ∷ []) left new) (numbered e.text left)
    (λ x. Some (record { name = x.0; line = e.line; kind = e.kind; dims = e.dims }, x.1)) (d, new) h (λ x first k.
    let t = numbered_taken e.text left x.0 x.1 first in
    let p : ◌≡◌ {A = ArrayDecl × Left} (record { name = x.0; line = e.line; kind = e.kind; dims = e.dims }, x.1) (d, new) = cc in
    subst (λ (q : ArrayDecl × Left). (e ≡ record { text = left.text; line = q.0.line; kind = q.0.kind; dims = q.0.dims }) × TakesNames (q.0.name ∷ []) left q.1) p
    (ap (λ (n : ℕ). record { text = n; line = e.line; kind = e.kind; dims = e.dims }) t.0, one_name x.0 left x.1 t.1))

pub arrays_found : (es : List ArrayEntry) (ds : List ArrayDecl) (left new : Left) → Chain array es ds left new → (es ≡ array_entries left.text ds) × TakesNames (map (λ (a : ArrayDecl). a.name) ds) left new
arrays_found [] [] left new c = (refl, nothing_to left new c)
arrays_found [] (d ∷ ds) left new c = absurd c
arrays_found (e ∷ es) [] left new c = absurd c
arrays_found (e ∷ es) (d ∷ ds) left new c =
    let a = array_found e left c.0 d c.1.0 in
    let b = arrays_found es ds c.0 new c.1.1 in (
      ap (λ x. x ∷ es) a.0 ∙ ap (λ xs. (record { text = left.text; line = d.line; kind = d.kind; dims = d.dims }) ∷ xs) (b.0 ∙ ap (λ (n : ℕ). array_entries n ds) a.1.text),
      and_names (d.name ∷ []) (map (λ (x : ArrayDecl). x.name) ds) left c.0 new a.1 b.1,
    )

pub scalars_found : (es : List ℕ) (ds : List (List ℕ)) (left new : Left) → Chain numbered es ds left new → (es ≡ scalar_entries left.text ds) × TakesNames ds left new
scalars_found [] [] left new c = (refl, nothing_to left new c)
scalars_found [] (d ∷ ds) left new c = absurd c
scalars_found (e ∷ es) [] left new c = absurd c
scalars_found (e ∷ es) (d ∷ ds) left new c =
    let a = numbered_taken e left d c.0 c.1.0 in
    let t = one_name d left c.0 a.1 in
    let b = scalars_found es ds c.0 new c.1.1 in
    (ap (λ x. x ∷ es) a.0 ∙ ap (λ xs. left.text ∷ xs) (b.0 ∙ ap (λ (n : ℕ). scalar_entries n ds) t.text), and_names (d ∷ []) ds left c.0 new t b.1)

named_found : (e : ProcedureEntry) (left new : Left) (d : Procedure) → named e left ≡ Some (d, new) → (e ≡ record { text = left.text; entry = e.entry }) × TakesNames (d.name ∷ []) left new
unfolding named
named_found e left new d h =
    then_some ((e ≡ record { text = left.text; entry = e.entry }) × TakesNames (d.name ∷ []) left new) (numbered e.text left) (λ x. Some (record { name = x.0; body = End }, x.1)) (d, new) h (λ x first k.
    let t = numbered_taken e.text left x.0 x.1 first in
    let p : ◌≡◌ {A = Procedure × Left} (record { name = x.0; body = End }, x.1) (d, new) = cc in
    subst (λ (q : Procedure × Left). (e ≡ record { text = left.text; entry = e.entry }) × TakesNames (q.0.name ∷ []) left q.1) p
    (ap (λ (n : ℕ). record { text = n; entry = e.entry }) t.0, one_name x.0 left x.1 t.1))

-- procedures by name; where they begin is said by their entries
pub procedures_found : (es : List ProcedureEntry) (ds : List Procedure) (left new : Left) → Chain named es ds left new
    → ((es ≡ procedure_entries left.text (entries_in es)) × TakesNames (map (λ (q : Procedure). q.name) ds) left new) × (length es ≡ length ds)
procedures_found [] [] left new c = ((refl, nothing_to left new c), refl)
procedures_found [] (d ∷ ds) left new c = absurd c
procedures_found (e ∷ es) [] left new c = absurd c
procedures_found (e ∷ es) (d ∷ ds) left new c =
    let a = named_found e left c.0 d c.1.0 in
    let b = procedures_found es ds c.0 new c.1.1 in (
      (
        ap (λ x. x ∷ es) a.0 ∙ ap (λ xs. (record { text = left.text; entry = e.entry }) ∷ xs) (b.0.0 ∙ ap (λ (n : ℕ). procedure_entries n (entries_in es)) a.1.text),
        and_names (d.name ∷ []) (map (λ (q : Procedure). q.name) ds) left c.0 new a.1 b.0.1,
      ),
      ap suc b.1,
    )

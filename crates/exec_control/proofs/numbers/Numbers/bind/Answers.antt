use Rattle.std.proofs.Common.{◌≡◌, ℕ, ◌<◌, List, [], map, get_or, set, length, sym, ap, ◌∙◌, arith, Vec, Global, subst}
use Rattle.std.proofs.lemmas.List.{map-set, get_or-map, length-map, length-set}
use Rattle.std.specs.Vec.{with_item}
use Rattle.exec_control.specs.Bindings.{Bindings, AreRows, bindings_at}
use Rattle.exec_control.proofs.RowLemmas.{rows_set, bound_row}
use Rattle.exec_control.proofs.numbers.Numbers.bind.Goals as goal

-- the row of the last call is the one that the code reads
row_here : (rows : List (Vec ℕ Global)) (depth : ℕ) (row : Vec ℕ Global) → AreRows (map (λ (r : Vec ℕ Global). r.items) rows) depth → row ≡ get_or rows depth row
    → row.items ≡ get_or (map (λ (r : Vec ℕ Global). r.items) rows) depth []
row_here rows depth row are is =
    let below : depth < length rows = omega (arith, are.count, are.within, length-map rows (λ (r : Vec ℕ Global). r.items)) in
    ap (λ (r : Vec ℕ Global). r.items) is ∙ sym (get_or-map (λ (r : Vec ℕ Global). r.items) rows depth row [] below)

pub invariant_of-self : goal.invariant_of-self
invariant_of-self c =
    let rows = c.self.inside.rows.items in
    let depth = c.self.inside.depth in
    let row = c.index_mut.result.now in
    let is = row_here rows depth row c.self.invariant c.index_mut.ensures.value in
    subst (λ (rs : List (List ℕ)). AreRows rs depth)
    (sym (map-set (λ (r : Vec ℕ Global). r.items) rows depth (with_item row c.args.index c.args.number)))
    (rows_set (map (λ (r : Vec ℕ Global). r.items) rows) depth depth depth (set row.items c.args.index c.args.number) c.self.invariant c.self.invariant.within c.self.invariant.within (length-set row.items c.args.index c.args.number ∙ ap length is))

pub returns : goal.returns
returns c =
    let rows = c.self.inside.rows.items in
    let depth = c.self.inside.depth in
    let row = c.index_mut.result.now in
    let is = row_here rows depth row c.self.invariant c.index_mut.ensures.value in
    ap (λ (rs : List (List ℕ)). bindings_at rs depth) (map-set (λ (r : Vec ℕ Global). r.items) rows depth (with_item row c.args.index c.args.number))
    ∙ (bound_row (map (λ (r : Vec ℕ Global). r.items) rows) depth c.args.index c.args.number row.items c.self.invariant is
    ∙ ap (λ (b : Bindings). record { values = set b.values c.args.index c.args.number; saved = b.saved }) c.self.view_is)

use Rattle.std.proofs.Common.{◌≡◌, ℕ, ◌+◌, ◌<◌, List, [], ◌∷◌, ◌++◌, map, take, get_or, length, replicate, sym, ap, ◌∙◌, arith, Vec, Global, subst}
use Rattle.std.proofs.lemmas.List.{map-set, get_or-map, length-map, length-replicate}
use Rattle.std.specs.Vec.{vec_len}
use Rattle.exec_control.specs.Bindings.{Bindings, AreRows, bindings_at}
use Rattle.exec_control.proofs.RowLemmas.{rows_set, called_row, saved_are}
use Rattle.exec_control.proofs.numbers.Numbers.call.Goals as goal

-- the next row is one of the rows, filled with zeros
row_next : (rows : List (Vec ℕ Global)) (depth : ℕ) (row : Vec ℕ Global) (saved : List (List ℕ)) → AreRows (map (λ (r : Vec ℕ Global). r.items) rows) depth
    → take depth (map (λ (r : Vec ℕ Global). r.items) rows) ≡ saved → length saved < 16 → row ≡ get_or rows (depth + 1) row
    → (depth + 1 < 17) × (row.items ≡ get_or (map (λ (r : Vec ℕ Global). r.items) rows) (depth + 1) [])
row_next rows depth row saved are taken few is =
    let count = saved_are (map (λ (r : Vec ℕ Global). r.items) rows) depth are in
    let below : depth + 1 < 17 = omega (arith, count, few, ap length taken) in
    let within : depth + 1 < length rows = omega (arith, are.count, below, length-map rows (λ (r : Vec ℕ Global). r.items)) in
    (below, ap (λ (r : Vec ℕ Global). r.items) is ∙ sym (get_or-map (λ (r : Vec ℕ Global). r.items) rows (depth + 1) row [] within))

pub invariant_of-self : goal.invariant_of-self
invariant_of-self c =
    let rows = c.self.inside.rows.items in
    let depth = c.self.inside.depth in
    let row = c.index_mut.result.now in
    let next = row_next rows depth row c.args.self.now.saved c.self.invariant (ap (λ (b : Bindings). b.saved) c.self.view_is) c.requires c.index_mut.ensures.value in
    let zeros : c.fill.new.self.items ≡ replicate {A = ℕ} (vec_len row) 0 = c.fill.ensures.items (λ y same. same) in
    let len : vec_len row ≡ length row.items = omega (arith, row.ok.0) in
    subst (λ (rs : List (List ℕ)). AreRows rs (depth + 1))
    (sym (map-set (λ (r : Vec ℕ Global). r.items) rows (depth + 1) c.fill.new.self))
    (rows_set (map (λ (r : Vec ℕ Global). r.items) rows) depth (depth + 1) (depth + 1) c.fill.new.self.items c.self.invariant next.0 next.0 (ap length zeros ∙ (length-replicate {A = ℕ} (vec_len row) 0 ∙ (len ∙ ap length next.1))))

pub returns : goal.returns
returns c =
    let rows = c.self.inside.rows.items in
    let depth = c.self.inside.depth in
    let row = c.index_mut.result.now in
    let next = row_next rows depth row c.args.self.now.saved c.self.invariant (ap (λ (b : Bindings). b.saved) c.self.view_is) c.requires c.index_mut.ensures.value in
    let zeros : c.fill.new.self.items ≡ replicate {A = ℕ} (vec_len row) 0 = c.fill.ensures.items (λ y same. same) in
    let len : vec_len row ≡ length row.items = omega (arith, row.ok.0) in
    ap (λ (rs : List (List ℕ)). bindings_at rs (depth + 1)) (map-set (λ (r : Vec ℕ Global). r.items) rows (depth + 1) c.fill.new.self)
    ∙ (called_row (map (λ (r : Vec ℕ Global). r.items) rows) depth c.fill.new.self.items c.self.invariant next.0 (zeros ∙ ap (λ (n : ℕ). replicate {A = ℕ} n 0) (len ∙ ap length next.1))
    ∙ ap (λ (b : Bindings). record { values = replicate (length b.values) 0; saved = b.saved ++ b.values ∷ [] }) c.self.view_is)

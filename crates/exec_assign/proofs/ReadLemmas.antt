-- Right sides, read operand by operand.
use Rattle.std.proofs.Common.{◌≡◌, ℕ, List, [], ◌∷◌, ◌++◌, map, drop, length, true, Ok, Option, refl, sym, ap, ◌∙◌, subst}
use Rattle.std.proofs.lemmas.List.{append-nil, length-map}
use Rattle.block_pool.specs.Memory.{Memory}
use Rattle.sial_syntax.specs.declared.operand.Bin.{Bin}
use Rattle.sial_syntax.specs.declared.operand.BlockRef.{BlockRef}
use Rattle.sial_syntax.specs.declared.operand.Operand.{Operand}
use Rattle.sial_syntax.specs.declared.operand.Operand.TheVariants as operand
use Rattle.sial_syntax.specs.declared.operand.Right.{Right}
use Rattle.sial_syntax.specs.declared.operand.Right.TheVariants.{One, Two}
use Rattle.sial_syntax.specs.Boxes.{volume}
use Rattle.sial_syntax.specs.Spaces.{Extent, extent}
use Rattle.sial_meaning.specs.LocalStep.{Answer, and_then, first_value, is_shared_kind, shared_operand, side_read, term_of, words_of}
use Rattle.sial_meaning.specs.Own.{Own, sight}
use Rattle.sial_meaning.specs.Right.{Term, Shown, Alone, Joined}
use Rattle.sial_meaning.specs.Setting.{Setting, array_kind}
use Rattle.sial_meaning.specs.Sight.{lengths}
use Rattle.exec_sides.specs.Short.{volume_now}
use Rattle.exec_assign.specs.declared.leases.Leases.{Leases}
use Rattle.exec_assign.specs.Lent.{lent_words, operand_values, side_values, slot_of}
use Rattle.exec_assign.proofs.ElementLemmas.{front_value}

-- what comes behind the first
behind : {X : Type 0} (xs ys : List X) → drop (length xs) (xs ++ ys) ≡ ys
behind [] ys = refl
behind (x ∷ xs) ys = behind xs ys

module _ (g : Setting) (p : Memory) (values : List ℕ) (leases : Leases) (own : Own) where
  -- an operand is read so, whatever values come behind its own
  abbrev Reads : (lease : Option ℕ) → Operand → Answer Term → Type 0
  Reads lease a read = (more : List (List ℕ)) → term_of g own a (operand_values g p values lease a ++ more) ≡ read

  -- one operand
  pub one_read : (right : Right) (a : Operand) (read : Answer Term) → right ≡ One a → Reads (slot_of leases.first) a read
      → side_read g own right (side_values g p values leases right) ≡ and_then read (λ x. Ok (Alone x))
  one_read right a read is reads =
      let mine = operand_values g p values (slot_of leases.first) a in
      let there : term_of g own a mine ≡ read = subst (λ (all : List (List ℕ)). term_of g own a all ≡ read) (append-nil mine) (reads []) in
      subst (λ (r : Right). side_read g own r (side_values g p values leases r) ≡ and_then read (λ x. Ok (Alone x))) (sym is) (ap (λ (t : Answer Term). and_then t (λ x. Ok (Alone x))) there)

  -- the first of two, and what comes of the second
  pub first_read : (a b : Operand) (bin : Bin) (read : Answer Term) → Reads (slot_of leases.first) a read
      → side_read g own (Two a bin b) (side_values g p values leases (Two a bin b))
      ≡ and_then read (λ x. and_then (term_of g own b (operand_values g p values (slot_of leases.second) b)) (λ y. Ok (Joined x bin y)))
  first_read a b bin read reads =
      let mine = operand_values g p values (slot_of leases.first) a in
      let others = operand_values g p values (slot_of leases.second) b in
      let many : length (shared_operand g a) ≡ length mine = sym (length-map (shared_operand g a) (λ (x : BlockRef). lent_words p (volume_now g.spaces values x.at) (slot_of leases.first))) in
      let rest : drop (length (shared_operand g a)) (mine ++ others) ≡ others = ap (λ n. drop n (mine ++ others)) many ∙ behind mine others in
      ap (λ (t : Answer Term). and_then t (λ x. and_then (term_of g own b (drop (length (shared_operand g a)) (mine ++ others))) (λ y. Ok (Joined x bin y)))) (reads others)
      ∙ ap (λ (left : List (List ℕ)). and_then read (λ x. and_then (term_of g own b left) (λ y. Ok (Joined x bin y)))) rest

  -- two operands
  pub two_read : (a b : Operand) (bin : Bin) (read other : Answer Term) → Reads (slot_of leases.first) a read → Reads (slot_of leases.second) b other
      → side_read g own (Two a bin b) (side_values g p values leases (Two a bin b)) ≡ and_then read (λ x. and_then other (λ y. Ok (Joined x bin y)))
  two_read a b bin read other reads reads_other =
      let mine = operand_values g p values (slot_of leases.second) b in
      let there : term_of g own b mine ≡ other = subst (λ (all : List (List ℕ)). term_of g own b all ≡ other) (append-nil mine) (reads_other []) in
      first_read a b bin read reads ∙ ap (λ (t : Answer Term). and_then read (λ x. and_then t (λ y. Ok (Joined x bin y)))) there

-- a block, by its elements or their trap, whatever values come behind its own
pub block_read : (g : Setting) (p : Memory) (values : List ℕ) (lease : Option ℕ) (own : Own) (block : BlockRef) (at : List ℕ) (extents : List Extent) (more : List (List ℕ)) (found : Answer (List ℕ))
    → own.values ≡ values → at ≡ block.at → extents ≡ map (extent g.spaces values) block.at
    → ((all : List (List ℕ)) → (is_shared_kind (array_kind g block.array) ≡ true → first_value all ≡ lent_words p (volume (lengths extents)) lease) → words_of g own block all ≡ found)
    → term_of g own (operand.Block block) (operand_values g p values lease (operand.Block block) ++ more) ≡ and_then found (λ words. Ok (Shown (record { at = at; extents = extents; words = words })))
block_read g p values lease own block at extents more found same here lie reads =
    let all = operand_values g p values lease (operand.Block block) ++ more in
    let read : words_of g own block all ≡ found = reads all (λ is. front_value g p values lease block more is ∙ ap (λ (es : List Extent). lent_words p (volume (lengths es)) lease) (sym lie)) in
    let now : map (extent g.spaces own.values) block.at ≡ extents = ap (λ (vs : List ℕ). map (extent g.spaces vs) block.at) same ∙ sym lie in
    ap (λ (w : Answer (List ℕ)). and_then w (λ ws. Ok (Shown (sight g own block ws)))) read
    ∙ (ap (λ (es : List Extent). and_then found (λ ws. Ok (Shown (record { at = block.at; extents = es; words = ws })))) now
    ∙ ap (λ (a : List ℕ). and_then found (λ ws. Ok (Shown (record { at = a; extents = extents; words = ws })))) (sym here))

-- Parts of a target that are replaced one after the other.
use Rattle.std.proofs.Common.{◌≡◌, ℕ, ◌+◌, ◌-◌, ◌<◌, ◌≤◌, ◌⊎◌, inl, inr, List, length, get_or, set, ap, sym, subst, ◌∙◌, arith, length-set, get_or-set_same, get_or-set_other}
use Rattle.kernel_permute.specs.How.{combined}
use Rattle.kernel_permute.specs.declared.how.How.{How}
use Rattle.kernel_contract.specs.Parts.{AreTargets, Replaced}

split : (j c : ℕ) → (j < c) ⊎ (c ≤ j)
split j c = grind arith

-- rows and columns may change positions
pub Replaced-turned : (how : How) (T V : ℕ → ℕ → ℕ) (m n : ℕ) (old new : List ℕ) → Replaced how T V m n old new
    → Replaced how (λ i j. T j i) (λ i j. V j i) n m old new
Replaced-turned how T V m n old new r = record {
  named = λ i j h w. r.named j i w h;
  others = λ k h. r.others k (λ i j w v. h j i v w);
  len = r.len;
}

pub AreTargets-turned : (T : ℕ → ℕ → ℕ) (m n len : ℕ) → AreTargets T m n len → AreTargets (λ i j. T j i) n m len
AreTargets-turned T m n len t = record {
  within = λ i j h w. t.within j i w h;
  differ = λ i j k l hi hj hk hl e. let d = t.differ j i l k hj hi hl hk e in (d.1, d.0);
}

-- fewer columns of targets
pub AreTargets-columns : (T : ℕ → ℕ → ℕ) (m c n N len : ℕ) → c + n ≤ N → AreTargets T m N len → AreTargets (λ i j. T i (c + j)) m n len
AreTargets-columns T m c n N len fits t = record {
  within = λ i j h w. t.within i (c + j) h (omega arith);
  differ = λ i j k l hi hj hk hl e.
      let d = t.differ i (c + j) k (c + l) hi (omega arith) hk (omega arith) e in
      let second = d.1 in
      (d.0, omega arith);
}

-- fewer rows of targets
pub AreTargets-rows : (T : ℕ → ℕ → ℕ) (r m M n len : ℕ) → r + m ≤ M → AreTargets T M n len → AreTargets (λ i j. T (r + i) j) m n len
AreTargets-rows T r m M n len fits t =
    AreTargets-turned (λ i j. T (r + j) i) n m len (AreTargets-columns (λ i j. T j i) n r m M len fits (AreTargets-turned T M n len t))

-- the same targets and values under other names
pub AreTargets-same : (T U : ℕ → ℕ → ℕ) (m n len : ℕ) → ((i j : ℕ) → i < m → j < n → U i j ≡ T i j) → AreTargets T m n len → AreTargets U m n len
AreTargets-same T U m n len e t = record {
  within = λ i j h w. subst (λ x. x < len) (sym (e i j h w)) (t.within i j h w);
  differ = λ i j k l hi hj hk hl p. t.differ i j k l hi hj hk hl (sym (e i j hi hj) ∙ p ∙ e k l hk hl);
}

pub Replaced-same : (how : How) (T V U W : ℕ → ℕ → ℕ) (m n : ℕ) (old new : List ℕ)
    → ((i j : ℕ) → i < m → j < n → U i j ≡ T i j) → ((i j : ℕ) → i < m → j < n → W i j ≡ V i j)
    → Replaced how T V m n old new → Replaced how U W m n old new
Replaced-same how T V U W m n old new t v r = record {
  named = λ i j h w.
      let target = t i j h w in
      let value = v i j h w in
      rw (target, value) (r.named i j h w);
  others = λ k h. r.others k (λ i j w c e. h i j w c (t i j w c ∙ e));
  len = r.len;
}

-- further columns
pub Replaced-columns : (how : How) (T V : ℕ → ℕ → ℕ) (m c n N len : ℕ) (old mid new : List ℕ) → c + n ≤ N → AreTargets T m N len
    → Replaced how T V m c old mid → Replaced how (λ i j. T i (c + j)) (λ i j. V i (c + j)) m n mid new
    → Replaced how T V m (c + n) old new
Replaced-columns how T V m c n N len old mid new fits t first second = record {
  named = λ i j hi hj. elim (split j c) [
    | inl low ↦
        second.others (T i j) (λ k l hk hl e. let d = t.differ k (c + l) i j hk (omega arith) hi (omega arith) e in let same = d.1 in absurd (omega arith))
        ∙ first.named i j hi low
    | inr high ↦
        let at : c + (j - c) ≡ j = omega arith in
        let before : get_or mid (T i j) 0 ≡ get_or old (T i j) 0 =
        first.others (T i j) (λ k l hk hl e. let d = t.differ k l i j hk (omega arith) hi (omega arith) e in let same = d.1 in absurd (omega arith)) in
        let there = second.named i (j - c) hi (omega arith) in
        let here : get_or new (T i j) 0 ≡ combined how (get_or mid (T i j) 0) (V i j) =
        subst (λ x. get_or new (T i x) 0 ≡ combined how (get_or mid (T i x) 0) (V i x)) at there in
        here ∙ ap (λ x. combined how x (V i j)) before
  ];
  others = λ k h. second.others k (λ i j hi hj. h i (c + j) hi (omega arith)) ∙ first.others k (λ i j hi hj. h i j hi (omega arith));
  len = second.len ∙ first.len;
}

-- further rows
pub Replaced-rows : (how : How) (T V : ℕ → ℕ → ℕ) (r m n M len : ℕ) (old mid new : List ℕ) → r + m ≤ M → AreTargets T M n len
    → Replaced how T V r n old mid → Replaced how (λ i j. T (r + i) j) (λ i j. V (r + i) j) m n mid new
    → Replaced how T V (r + m) n old new
Replaced-rows how T V r m n M len old mid new fits t first second =
    Replaced-turned how (λ i j. T j i) (λ i j. V j i) n (r + m) old new
    (Replaced-columns how (λ i j. T j i) (λ i j. V j i) n r m M len old mid new fits (AreTargets-turned T M n len t)
    (Replaced-turned how T V r n old mid first)
    (Replaced-turned how (λ i j. T (r + i) j) (λ i j. V (r + i) j) m n mid new second))

-- one number
pub Replaced-one : (how : How) (T V : ℕ → ℕ → ℕ) (old : List ℕ) (at number : ℕ) → at < length old
    → T 0 0 ≡ at → number ≡ combined how (get_or old at 0) (V 0 0) → Replaced how T V 1 1 old (set old at number)
Replaced-one how T V old at number inside t v = record {
  named = λ i j hi hj.
      let row : i ≡ 0 = omega arith in
      let column : j ≡ 0 = omega arith in
      rw (row, column, t) (get_or-set_same old at number 0 inside ∙ v);
  others = λ k h. get_or-set_other old at k number 0 (λ e. h 0 0 (omega arith) (omega arith) (t ∙ sym e));
  len = length-set old at number;
}

-- one more column of a single row
pub Replaced-next : (how : How) (T V : ℕ → ℕ → ℕ) (c N len : ℕ) (old mid : List ℕ) (at number : ℕ) → c < N → AreTargets T 1 N len → at < length mid
    → Replaced how T V 1 c old mid → T 0 c ≡ at → number ≡ combined how (get_or mid at 0) (V 0 c)
    → Replaced how T V 1 (c + 1) old (set mid at number)
Replaced-next how T V c N len old mid at number low t inside r e v =
    let none : c + 0 ≡ c = omega arith in
    Replaced-columns how T V 1 c 1 N len old mid (set mid at number) (omega arith) t r
    (Replaced-one how (λ i j. T i (c + j)) (λ i j. V i (c + j)) mid at number inside (ap (λ x. T 0 x) none ∙ e)
    (v ∙ ap (λ x. combined how (get_or mid at 0) (V 0 x)) (sym none)))

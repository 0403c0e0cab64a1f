-- A reader and what is written for it: what it takes is what is written, and what is written is taken again; readers one behind another.
use Rattle.std.proofs.Common.{◌≡◌, ℕ, ◌+◌, Bool, true, false, cond, eqb, Option, Some, List, [], ◌++◌, length, drop, Result, Ok, Err, refl, sym, ap, subst, ◌∙◌, append_assoc, arith, length-append}
use Rattle.std.proofs.lemmas.Bool.{eqb-true}
use Rattle.std.proofs.lemmas.List.{drop_at, drop-drop}
use Rattle.table_file.specs.declared.fault.TableFault.{TableFault}
use Rattle.table_file.specs.Fields.{◌>>=◌}
use Rattle.table_file.proofs.NumberLemmas.{IsBytes}

-- readers of a value, and of nothing but the place behind
abbrev pub ReaderOf : Type 0 → Type 0
ReaderOf X = List ℕ → ℕ → Result (X × ℕ) TableFault

-- a text stands from one place to another
pub record Stands (bytes : List ℕ) (at end : ℕ) (text : List ℕ) : Type 0 where
  pub here : drop at bytes ≡ text ++ drop end bytes
  pub place : end ≡ at + length text

-- a reader of values, each with what is written for it
pub record Reads {X : Type 0} (reader : ReaderOf X) (write : X → List ℕ) (Fits : X → Type 0) : Type 0 where
  pub takes : (bytes : List ℕ) (at : ℕ) (x : X × ℕ) → IsBytes bytes → reader bytes at ≡ Ok x → Stands bytes at x.1 (write x.0) × Fits x.0
  pub again : (bytes : List ℕ) (at end : ℕ) (x : X) → Stands bytes at end (write x) → Fits x → reader bytes at ≡ Ok (x, end)

-- a reader of values that are made of parts
pub record Builds {P Z : Type 0} (reader : ReaderOf Z) (make : P → Z) (write : P → List ℕ) (Fits : P → Type 0) : Type 0 where
  pub takes : (bytes : List ℕ) (at : ℕ) (x : Z × ℕ) → IsBytes bytes → reader bytes at ≡ Ok x → (p : P) × (make p ≡ x.0) × Stands bytes at x.1 (write p) × Fits p
  pub again : (bytes : List ℕ) (at end : ℕ) (p : P) → Stands bytes at end (write p) → Fits p → reader bytes at ≡ Ok (make p, end)

-- a reader that gives nothing but the place behind
pub record Skips (reader : List ℕ → ℕ → Result ℕ TableFault) (text : List ℕ) : Type 0 where
  pub takes : (bytes : List ℕ) (at end : ℕ) → IsBytes bytes → reader bytes at ≡ Ok end → Stands bytes at end text
  pub again : (bytes : List ℕ) (at end : ℕ) → Stands bytes at end text → reader bytes at ≡ Ok end

-- ---- texts one behind another

pub stands_then : (bytes : List ℕ) (at mid end : ℕ) (x y : List ℕ) → Stands bytes at mid x → Stands bytes mid end y → Stands bytes at end (x ++ y)
stands_then bytes at mid end x y p q = record {
  here = p.here ∙ ap (λ (t : List ℕ). x ++ t) q.here ∙ sym (append_assoc x y (drop end bytes));
  place = let l = length-append x y in omega (arith, p.place, q.place, l);
}

-- what follows a text stands behind it
pub behind_text : (bytes : List ℕ) (at : ℕ) (text rest : List ℕ) → drop at bytes ≡ text ++ rest → drop (at + length text) bytes ≡ rest
behind_text bytes at text rest e = sym (drop-drop (length text) at bytes) ∙ ap (drop (length text)) e ∙ drop_at text rest (length text) refl

-- one text behind another stands behind it
pub stands_apart : (bytes : List ℕ) (at end : ℕ) (x y : List ℕ) → Stands bytes at end (x ++ y) → Stands bytes at (at + length x) x × Stands bytes (at + length x) end y
stands_apart bytes at end x y s =
    let parts : drop at bytes ≡ x ++ (y ++ drop end bytes) = s.here ∙ append_assoc x y (drop end bytes) in
    let rest : drop (at + length x) bytes ≡ y ++ drop end bytes = behind_text bytes at x (y ++ drop end bytes) parts in
    let l = length-append x y in (
      record { here = parts ∙ ap (λ (t : List ℕ). x ++ t) (sym rest); place = refl },
      record { here = rest; place = omega (arith, s.place, l) },
    )

-- nothing stands at each place
pub stands_nothing : (bytes : List ℕ) (at : ℕ) → Stands bytes at at []
stands_nothing bytes at = record { here = refl; place = omega arith }

-- where nothing stands, it ends where it begins
pub nothing_ends : (bytes : List ℕ) (at end : ℕ) → Stands bytes at end [] → end ≡ at
nothing_ends bytes at end s = let p : end ≡ at + 0 = s.place in omega (arith, p)

-- ---- answers of steps

abbrev pub done : {A : Type 0} → A → Result A TableFault
done x = Ok x

pub ok_is : {A : Type 0} (x y : A) → done x ≡ done y → x ≡ y
ok_is x y e = cc

-- the value of a step that didn't fail
pub bind_ok : {A B : Type 0} (r : Result A TableFault) (f : A → Result B TableFault) (y : B) → (r >>= f) ≡ Ok y → (x : A) × (r ≡ Ok x) × (f x ≡ Ok y)
bind_ok (Ok x) f y e = (x, refl, e)
bind_ok (Err d) f y e = absurd cc

-- a test that let a step go on
pub passed : {A : Type 0} (b : Bool) (d : TableFault) (r : Result A TableFault) (y : A) → cond b r (Err d) ≡ Ok y → (b ≡ true) × (r ≡ Ok y)
passed true d r y e = (refl, e)
passed false d r y e = absurd cc

-- a test that didn't fail
pub not_failed : {A : Type 0} (b : Bool) (d : TableFault) (r : Result A TableFault) (y : A) → cond b (Err d) r ≡ Ok y → (b ≡ false) × (r ≡ Ok y)
not_failed true d r y e = absurd cc
not_failed false d r y e = (refl, e)

-- ---- readers one behind another

-- what is read before, and what is read behind it, which may depend on it
pub first_then : {X P Z : Type 0} (r : ReaderOf X) (w : X → List ℕ) (F : X → Type 0) (S : X → ReaderOf Z) (make : X → P → Z) (write : X → P → List ℕ) (Fits : X → P → Type 0)
    → Reads r w F → ((x : X) → F x → Builds (S x) (make x) (write x) (Fits x))
    → Builds {P = X × P} {Z = Z} (λ bytes at. r bytes at >>= λ x. S x.0 bytes x.1) (λ p. make p.0 p.1) (λ p. w p.0 ++ write p.0 p.1) (λ p. F p.0 × Fits p.0 p.1)
first_then r w F S make write Fits first rest = record {
  takes = λ bytes at z fits e.
      let s = bind_ok (r bytes at) (λ x. S x.0 bytes x.1) z e in
      let a = first.takes bytes at s.0 fits s.1 in
      let b = (rest s.0.0 a.1).takes bytes s.0.1 z fits s.2 in
      ((s.0.0, b.0), b.1, stands_then bytes at s.0.1 z.1 (w s.0.0) (write s.0.0 b.0) a.0 b.2, (a.1, b.3));
  again = λ bytes at end p st fits.
      let parts = stands_apart bytes at end (w p.0) (write p.0 p.1) st in
      let a = first.again bytes at (at + length (w p.0)) p.0 parts.0 fits.0 in
      let b = (rest p.0 fits.0).again bytes (at + length (w p.0)) end p.1 parts.1 fits.1 in
      rw a b;
}

-- bytes that have to be these, and what is read behind them
pub skip_then : {P Z : Type 0} (r : List ℕ → ℕ → Result ℕ TableFault) (text : List ℕ) (S : ReaderOf Z) (make : P → Z) (write : P → List ℕ) (Fits : P → Type 0)
    → Skips r text → Builds S make write Fits → Builds {P = P} {Z = Z} (λ bytes at. r bytes at >>= λ next. S bytes next) make (λ p. text ++ write p) Fits
skip_then r text S make write Fits first rest = record {
  takes = λ bytes at z fits e.
      let s = bind_ok (r bytes at) (λ next. S bytes next) z e in
      let a = first.takes bytes at s.0 fits s.1 in
      let b = rest.takes bytes s.0 z fits s.2 in
      (b.0, b.1, stands_then bytes at s.0 z.1 text (write b.0) a b.2, b.3);
  again = λ bytes at end p st fits.
      let parts = stands_apart bytes at end text (write p) st in
      let a = first.again bytes at (at + length text) parts.0 in
      let b = rest.again bytes (at + length text) end p parts.1 fits in
      rw a b;
}

-- a value that is given at the end
pub gives : {Z : Type 0} (z : Z) → Builds {P = Unit {0}} {Z = Z} (λ bytes at. Ok (z, at)) (λ u. z) (λ u. []) (λ u. Unit {0})
gives {Z = Z} z = record {
  takes = λ bytes at x fits e.
      let same : ◌≡◌ {A = Z × ℕ} (z, at) x = ok_is (z, at) x e in
      (tt, ap (λ (y : Z × ℕ). y.0) same, subst (λ (n : ℕ). Stands bytes at n []) (ap (λ (y : Z × ℕ). y.1) same) (stands_nothing bytes at), tt);
  again = λ bytes at end p st fits. ap (λ (n : ℕ). Ok (z, n)) (sym (nothing_ends bytes at end st));
}

-- a reader that stands last
pub reads_last : {X : Type 0} (r : ReaderOf X) (w : X → List ℕ) (F : X → Type 0) → Reads r w F → Builds {P = X} {Z = X} r (λ x. x) w F
reads_last r w F reads = record {
  takes = λ bytes at x fits e. let t = reads.takes bytes at x fits e in (x.0, refl, t.0, t.1);
  again = λ bytes at end p st fits. reads.again bytes at end p st fits;
}

-- a value that is turned into another
pub turned : {X Z : Type 0} (r : ReaderOf X) (w : X → List ℕ) (F : X → Type 0) (f : X → Z) → Reads r w F → Builds {P = X} {Z = Z} (λ bytes at. r bytes at >>= λ x. Ok (f x.0, x.1)) f w F
turned {X = X} {Z = Z} r w F f reads = record {
  takes = λ bytes at z fits e.
      let s = bind_ok (r bytes at) (λ x. done (f x.0, x.1)) z e in
      let a = reads.takes bytes at s.0 fits s.1 in
      let same : ◌≡◌ {A = Z × ℕ} (f s.0.0, s.0.1) z = ok_is (f s.0.0, s.0.1) z s.2 in
      (s.0.0, ap (λ (y : Z × ℕ). y.0) same, subst (λ (n : ℕ). Stands bytes at n (w s.0.0)) (ap (λ (y : Z × ℕ). y.1) same) a.0, a.1);
  again = λ bytes at end x st fits. let a = reads.again bytes at end x st fits in rw a refl;
}

-- values whose parts are found in them
pub of_parts : {P Z : Type 0} (r : ReaderOf Z) (make : P → Z) (write : P → List ℕ) (Fits : P → Type 0) (parts : Z → P) → ((p : P) → Fits p → parts (make p) ≡ p) → ((z : Z) → make (parts z) ≡ z)
    → Builds r make write Fits → Reads {X = Z} r (λ z. write (parts z)) (λ z. Fits (parts z))
of_parts r make write Fits parts left right builds = record {
  takes = λ bytes at x fits e.
      let t = builds.takes bytes at x fits e in
      let same : parts x.0 ≡ t.0 = ap parts (sym t.1) ∙ left t.0 t.3 in
      rw same (t.2, t.3);
  again = λ bytes at end z st fits. builds.again bytes at end (parts z) st fits ∙ ap (λ y. Ok (y, end)) (right z);
}

-- the same text and the same condition in other words
pub seen_as : {X : Type 0} (r : ReaderOf X) (w v : X → List ℕ) (F G : X → Type 0) → ((x : X) → F x → G x) → ((x : X) → G x → F x) → ((x : X) → F x → w x ≡ v x) → Reads r w F → Reads r v G
seen_as r w v F G there back same reads = record {
  takes = λ bytes at x fits e.
      let t = reads.takes bytes at x fits e in
      (subst (λ (text : List ℕ). Stands bytes at x.1 text) (same x.0 t.1) t.0, there x.0 t.1);
  again = λ bytes at end x st fits.
      let f = back x fits in
      reads.again bytes at end x (subst (λ (text : List ℕ). Stands bytes at end text) (sym (same x f)) st) f;
}

-- what is known of each value that is made of parts is known of what was read
pub built : {P Z : Type 0} (r : ReaderOf Z) (make : P → Z) (write : P → List ℕ) (Fits : P → Type 0) → Builds r make write Fits → (bytes : List ℕ) (at : ℕ) (x : Z × ℕ) → IsBytes bytes → r bytes at ≡ Ok x
    → (G : Z → Type 0) → ((p : P) → Stands bytes at x.1 (write p) → Fits p → G (make p)) → G x.0
built r make write Fits builds bytes at x fits e G all = let t = builds.takes bytes at x fits e in subst G t.1 (all t.0 t.2 t.3)

-- ---- choices by a number

abbrev pub some_of : {K : Type 0} → K → Option K
some_of x = Some x

pub some_is : {K : Type 0} (x y : K) → some_of x ≡ some_of y → x ≡ y
some_is x y e = cc

-- the first of two where a number is this one, else the second
pub chosen : {A : Type 0} (n i : ℕ) (r s : Result A TableFault) (y : A) (G : Type 0) → cond (eqb n i) r s ≡ Ok y → (n ≡ i → r ≡ Ok y → G) → (s ≡ Ok y → G) → G
chosen n i r s y G e first second =
    elim (eqb n i) as (λ b. eqb n i ≡ b → G) [
      | true ↦ λ h. first (eqb-true n i h) (subst (λ (b : Bool). cond b r s ≡ Ok y) h e)
      | false ↦ λ h. second (subst (λ (b : Bool). cond b r s ≡ Ok y) h e)
    ] refl

-- the same of any two
pub chosen_of : {A : Type 0} (n i : ℕ) (r s y : A) (G : Type 0) → cond (eqb n i) r s ≡ y → (n ≡ i → r ≡ y → G) → (s ≡ y → G) → G
chosen_of n i r s y G e first second =
    elim (eqb n i) as (λ b. eqb n i ≡ b → G) [
      | true ↦ λ h. first (eqb-true n i h) (subst (λ (b : Bool). cond b r s ≡ y) h e)
      | false ↦ λ h. second (subst (λ (b : Bool). cond b r s ≡ y) h e)
    ] refl

-- a value that a list of numbers has, each with its own value
pub listed : {K : Type 0} (number : K → ℕ) (n i : ℕ) (x : K) (rest : Option K) (k : K) → number x ≡ i → cond (eqb n i) (Some x) rest ≡ Some k → (rest ≡ Some k → n ≡ number k) → n ≡ number k
listed number n i x rest k is e others =
    elim (eqb n i) as (λ b. eqb n i ≡ b → n ≡ number k) [
      | true ↦ λ h.
          let found : some_of x ≡ some_of k = subst (λ (b : Bool). cond b (Some x) rest ≡ Some k) h e in
          let same : x ≡ k = some_is x k found in
          eqb-true n i h ∙ sym is ∙ ap number same
      | false ↦ λ h. others (subst (λ (b : Bool). cond b (Some x) rest ≡ Some k) h e)
    ] refl

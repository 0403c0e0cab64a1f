-- Modes of assignments and of blocks that are put: what a reader takes is what is written, and what is written is taken again.
use Rattle.std.proofs.Common.{◌≡◌, ◌≢◌, ℕ, ◌+◌, ◌*◌, ◌/◌, ◌%◌, ◌<◌, Bool, true, false, cond, eqb, [], ◌∷◌, Option, Some, None, Ok, refl, subst, arith}
use Rattle.std.proofs.Math.Nat.{div-add-mod}
use Rattle.sial_syntax.specs.declared.access.Access.{Access}
use Rattle.sial_syntax.specs.declared.access.Access.TheVariants as access
use Rattle.sial_syntax.specs.declared.operand.Bin.{Bin}
use Rattle.sial_syntax.specs.declared.operand.Bin.TheVariants.{Plus, Minus, Times, Outer}
use Rattle.sial_syntax.specs.declared.operand.Op.{Op}
use Rattle.sial_syntax.specs.declared.operand.Op.TheVariants as op
use Rattle.table_file.specs.Bytes.{is_max}
use Rattle.table_file.specs.Fields.{◌>>=◌, or_field, byte}
use Rattle.table_file.specs.Heads.{op_of, bin_of, how_of, assign_mode, put_mode}
use Rattle.table_file.specs.Numbers.{op_number, bin_number, how_number}
use Rattle.table_file.proofs.ReadsLemmas.{Stands, Reads, ok_is, bind_ok, some_of, some_is, chosen_of, listed}
use Rattle.table_file.proofs.FieldLaws.{byte_reads, is_some, looked_up}

-- ---- assignments

op_found : (n : ℕ) (k : Op) → op_of n ≡ Some k → n ≡ op_number k
op_found n k e =
    listed op_number n 1 op.Set _ k refl e (λ e. listed op_number n 2 op.Add _ k refl e (λ e. listed op_number n 3 op.Subtract _ k refl e
    (λ e. listed op_number n 4 op.Scale _ k refl e (λ e. absurd cc))))

-- the number of what stands between two operands, or of nothing
abbrev pub bin_code : Option Bin → ℕ
bin_code None = 0
bin_code (Some bin) = bin_number bin

bin_found : (n : ℕ) (k : Option Bin) → bin_of n ≡ Some k → n ≡ bin_code k
bin_found n k e =
    listed bin_code n 0 None _ k refl e (λ e. listed bin_code n 1 (Some Plus) _ k refl e (λ e. listed bin_code n 2 (Some Minus) _ k refl e
    (λ e. listed bin_code n 3 (Some Times) _ k refl e (λ e. listed bin_code n 4 (Some Outer) _ k refl e (λ e. absurd cc)))))

-- the mode of an assignment
abbrev pub mode_of : Op → Option Bin → ℕ
mode_of combining bin = 16 * op_number combining + bin_code bin

-- it has both its parts
record Modes (o : Op) (b : Option Bin) : Type 0 where
  op : op_of (mode_of o b / 16) ≡ Some o
  bin : bin_of (mode_of o b % 16) ≡ Some b
  small : mode_of o b < 256

mode_known : (o : Op) (b : Option Bin) → Modes o b
mode_known op.Set None = record { op = refl; bin = refl; small = omega arith }
mode_known op.Set (Some Plus) = record { op = refl; bin = refl; small = omega arith }
mode_known op.Set (Some Minus) = record { op = refl; bin = refl; small = omega arith }
mode_known op.Set (Some Times) = record { op = refl; bin = refl; small = omega arith }
mode_known op.Set (Some Outer) = record { op = refl; bin = refl; small = omega arith }
mode_known op.Add None = record { op = refl; bin = refl; small = omega arith }
mode_known op.Add (Some Plus) = record { op = refl; bin = refl; small = omega arith }
mode_known op.Add (Some Minus) = record { op = refl; bin = refl; small = omega arith }
mode_known op.Add (Some Times) = record { op = refl; bin = refl; small = omega arith }
mode_known op.Add (Some Outer) = record { op = refl; bin = refl; small = omega arith }
mode_known op.Subtract None = record { op = refl; bin = refl; small = omega arith }
mode_known op.Subtract (Some Plus) = record { op = refl; bin = refl; small = omega arith }
mode_known op.Subtract (Some Minus) = record { op = refl; bin = refl; small = omega arith }
mode_known op.Subtract (Some Times) = record { op = refl; bin = refl; small = omega arith }
mode_known op.Subtract (Some Outer) = record { op = refl; bin = refl; small = omega arith }
mode_known op.Scale None = record { op = refl; bin = refl; small = omega arith }
mode_known op.Scale (Some Plus) = record { op = refl; bin = refl; small = omega arith }
mode_known op.Scale (Some Minus) = record { op = refl; bin = refl; small = omega arith }
mode_known op.Scale (Some Times) = record { op = refl; bin = refl; small = omega arith }
mode_known op.Scale (Some Outer) = record { op = refl; bin = refl; small = omega arith }

pub assign_mode_reads : Reads {X = Op × Option Bin} assign_mode (λ x. mode_of x.0 x.1 ∷ []) (λ x. Unit {0})
unfolding assign_mode
assign_mode_reads = record {
  takes = λ bytes at z fits e.
      let s = bind_ok (byte bytes at) (λ n. or_field (op_of (n.0 / 16)) at >>= λ o. or_field (bin_of (n.0 % 16)) at >>= λ b. Ok ((o, b), n.1)) z e in
      let o = bind_ok (or_field (op_of (s.0.0 / 16)) at) (λ o. or_field (bin_of (s.0.0 % 16)) at >>= λ b. Ok ((o, b), s.0.1)) z s.2 in
      let b = bind_ok (or_field (bin_of (s.0.0 % 16)) at) (λ b. Ok ((o.0, b), s.0.1)) z o.2 in
      let high = op_found (s.0.0 / 16) o.0 (is_some (op_of (s.0.0 / 16)) at o.0 o.1) in
      let lower = bin_found (s.0.0 % 16) b.0 (is_some (bin_of (s.0.0 % 16)) at b.0 b.1) in
      let parts = div-add-mod s.0.0 16 in
      let same : s.0.0 ≡ mode_of o.0 b.0 = omega (arith, high, lower, parts) in
      let a = byte_reads.takes bytes at s.0 fits s.1 in
      let stands : Stands bytes at s.0.1 (mode_of o.0 b.0 ∷ []) = subst (λ (n : ℕ). Stands bytes at s.0.1 (n ∷ [])) same a.0 in
      subst (λ (y : (Op × Option Bin) × ℕ). Stands bytes at y.1 (mode_of y.0.0 y.0.1 ∷ []) × Unit {0}) (ok_is ((o.0, b.0), s.0.1) z b.2) (stands, tt);
  again = λ bytes at end x st fits.
      let k = mode_known x.0 x.1 in
      let a = byte_reads.again bytes at end (mode_of x.0 x.1) st k.small in
      rw (a, k.op, k.bin) refl;
}

-- ---- blocks that are put

-- an access that writes; a file of version 1 has none that keeps the greater number
abbrev pub HowFits : (version : ℕ) → Access → Type 0
HowFits version access.Read = ⊥
HowFits version access.Store = Unit {0}
HowFits version access.Add = Unit {0}
HowFits version access.Max = eqb version 2 ≡ true

how_found : (version n : ℕ) (k : Access) → how_of version n ≡ Some k → (n ≡ how_number k) × HowFits version k
how_found version n k e =
    let G = (n ≡ how_number k) × HowFits version k in
    let found = λ (x : Access) (same : n ≡ how_number x) (fits : HowFits version x) (h : some_of x ≡ some_of k).
    subst (λ (y : Access). (n ≡ how_number y) × HowFits version y) (some_is x k h) (same, fits)
    in
    chosen_of n 1 (Some access.Store) _ (Some k) G e (λ same h. found access.Store same tt h) (λ e.
    chosen_of n 2 (Some access.Add) _ (Some k) G e (λ same h. found access.Add same tt h) (λ e.
    chosen_of n 3 (cond (eqb version 2) (Some access.Max) None) _ (Some k) G e
    (λ same h.
    elim (eqb version 2) as (λ b. eqb version 2 ≡ b → G) [
      | true ↦ λ two. found access.Max same two (subst (λ (b : Bool). cond b (Some access.Max) None ≡ Some k) two h)
      | false ↦ λ one. absurd (let g = subst (λ (b : Bool). cond b (Some access.Max) None ≡ Some k) one h in cc)
    ] refl)
    (λ e. absurd cc)))

how_known : (version : ℕ) (k : Access) → HowFits version k → (how_of version (how_number k) ≡ Some k) × (how_number k < 256)
how_known version access.Read f = absurd f
how_known version access.Store f = (refl, omega arith)
how_known version access.Add f = (refl, omega arith)
how_known version access.Max f = (rw f refl, omega arith)

pub put_mode_reads : (version : ℕ) → Reads (put_mode version) (λ k. how_number k ∷ []) (HowFits version)
unfolding put_mode
put_mode_reads version = looked_up (how_of version) how_number (HowFits version) (how_found version) (how_known version)

-- an access that writes, and the version where it keeps the greater number
pub how_apart : (version : ℕ) (k : Access) → HowFits version k → (k ≢ access.Read) × (is_max k ≡ true → eqb version 2 ≡ true)
how_apart version access.Read f = absurd f
how_apart version access.Store f = (λ e. absurd cc, λ e. absurd cc)
how_apart version access.Add f = (λ e. absurd cc, λ e. absurd cc)
how_apart version access.Max f = (λ e. absurd cc, λ e. f)

pub how_together : (version : ℕ) (k : Access) → k ≢ access.Read → (is_max k ≡ true → eqb version 2 ≡ true) → HowFits version k
how_together version access.Read f g = absurd (f refl)
how_together version access.Store f g = tt
how_together version access.Add f g = tt
how_together version access.Max f g = g refl

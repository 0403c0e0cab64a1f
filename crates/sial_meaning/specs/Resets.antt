-- Partial scalars along the course: at each point the number is the sum of the additions behind the last reset.
use Rattle.std.specs.Prelude.{◌≡◌, ℕ, zero, suc, ◌%◌, ◌^◌, List, [], ◌++◌, Bool, false, ◌==◌, ◌&&◌, if◌then◌else◌, nat_le, sum_by, slice_index_or}
use Rattle.sial_syntax.specs.declared.classes.ScalarClass.TheVariants.{Partial}
use Rattle.sial_syntax.specs.Agreeing.{contains}
use Rattle.sial_syntax.specs.Parts.{scalars_written}
use Rattle.sial_syntax.specs.SideRules.{sets_zero}
use Rattle.sial_meaning.specs.Course.{course}
use Rattle.sial_meaning.specs.CourseDeeds.{deeds_at}
use Rattle.sial_meaning.specs.Deeds.{Deed, Reads, Writes, Adds, Traps}
use Rattle.sial_meaning.specs.Rest.{Rest, Over, Next, Turn, Join, Back, Within}
use Rattle.sial_meaning.specs.Setting.{Setting, scalar_class}
use Rattle.sial_meaning.specs.Sound.{IsGrantedSetting}

-- whether the work begins with a statement that sets a scalar to 0
abbrev pub resets : (scalar : ℕ) → Rest → Bool
resets scalar (Next at line form rest) = sets_zero form && contains (scalars_written form) scalar
resets scalar (Over at) = false
resets scalar (Turn loop last rest) = false
resets scalar (Join at rest) = false
resets scalar (Back at values rest) = false
resets scalar (Within pardo number rest) = false

-- the point behind the last reset of a scalar before this one, or the first point, at which the number is 0
abbrev pub last_reset : Setting → (scalar : ℕ) → ℕ → ℕ
last_reset g scalar zero = 0
last_reset g scalar (suc t) = if resets scalar (course g t).work.rest then suc t else last_reset g scalar t

-- the deeds of the steps from one point to another
abbrev pub deeds_between : Setting → (from : ℕ) → ℕ → List Deed
deeds_between g from zero = []
deeds_between g from (suc t) = if nat_le from t then deeds_between g from t ++ deeds_at g t else []

-- what a deed adds to a scalar
abbrev pub adds_to : (scalar : ℕ) → Deed → ℕ
adds_to scalar (Reads touch) = 0
adds_to scalar (Writes touch words) = 0
adds_to scalar (Adds s number) = if s == scalar then number else 0
adds_to scalar (Traps trap) = 0

-- the number of a partial scalar is the sum of the additions behind its last reset, modulo 2^64
abbrev pub PartialsAreSums : Type 0
PartialsAreSums =
    (g : Setting) → IsGrantedSetting g
    → (t scalar : ℕ) → scalar_class g scalar ≡ Partial
    → slice_index_or (course g t).work.state.partials scalar 0 ≡ sum_by (adds_to scalar) (deeds_between g (last_reset g scalar t) t) % 2 ^ 64

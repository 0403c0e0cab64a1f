-- Control before the first instruction stands for the whole work.
use Rattle.std.proofs.Common.{◌≡◌, ℕ, ◌^◌, ◌<◌, List, [], length, replicate, refl, sym, ap, ◌∙◌, subst}
use Rattle.std.proofs.lemmas.List.{length-replicate}
use Rattle.sial_syntax.specs.Numbering.{stop_at}
use Rattle.sial_syntax.specs.Proper.{IsProper}
use Rattle.sial_meaning.specs.Own.{start_own}
use Rattle.sial_meaning.specs.Rest.{Over}
use Rattle.sial_meaning.specs.Setting.{Setting}
use Rattle.sial_meaning.specs.Step.{start_work}
use Rattle.sip_tables.specs.Flatten.{flatten}
use Rattle.code_places.proofs.Pushing.{work_starts, starts_at_first, starts_without_calls, values_push}
use Rattle.exec_control.specs.Bindings.{Bindings}
use Rattle.exec_control.specs.Position.{Position, at_start}
use Rattle.exec_control.specs.Stands.{ControlStands}
use Rattle.exec_control.proofs.NestLemmas.{start_nests, lasts_push}

-- what an opening makes
pub opened : (b : Bindings) (returns lasts : List ℕ) (n m : ℕ) → b ≡ record { values = replicate n 0; saved = [] } → n ≡ m → returns ≡ [] → lasts ≡ []
    → record { at = 0; values = b.values; returns = returns; saved = b.saved; lasts = lasts } ≡ at_start m
opened b returns lasts n m bindings count returns_are lasts_are =
    ap (λ (x : Bindings). record { at = 0; values = x.values; returns = returns; saved = x.saved; lasts = lasts }) bindings
    ∙ (ap (λ (k : ℕ). record { at = 0; values = replicate k 0; returns = returns; saved = []; lasts = lasts }) count
    ∙ (ap (λ (r : List ℕ). record { at = 0; values = replicate m 0; returns = r; saved = []; lasts = lasts }) returns_are
    ∙ ap (λ (l : List ℕ). record { at = 0; values = replicate m 0; returns = []; saved = []; lasts = l }) lasts_are))

-- it stands for the work from its start
pub starts : (g : Setting) (c : Position) → IsProper g.program → length (flatten g.program).code < 2 ^ 32 → c ≡ at_start (length g.program.indices) → ControlStands g c (start_work g).rest (start_own g)
starts g c proper short is = subst (λ (p : Position). ControlStands g p (start_work g).rest (start_own g)) (sym is) (record {
  proper = proper;
  short = short;
  follows = work_starts g proper;
  nests = start_nests g proper;
  at = sym (starts_at_first g);
  values = refl;
  long = length-replicate (length g.program.indices) 0;
  returns = sym (starts_without_calls g);
  saved = sym (values_push 0 g.program.body (Over (stop_at g.program)));
  lasts = sym (lasts_push 0 g.program.body (Over (stop_at g.program)));
})

-- A block is put down at its place: the blocks are those of the state with this block.
use Rattle.std.proofs.Common.{◌≡◌, ◌≢◌, ℕ, ◌<◌, List, [], length, slice_index_or, slice_set, true, false, inl, inr, refl, sym, ap, ◌∙◌, length-set, arith, Option, Some, None}
use Rattle.std.specs.Option.{option_map}
use Rattle.std.proofs.lemmas.Bool.{cases_eq}
use Rattle.std.proofs.lemmas.List.{get_or-set_same, get_or-set_other}
use Rattle.sial_syntax.specs.declared.array.ArrayKind.{ArrayKind}
use Rattle.sial_syntax.specs.declared.array.ArrayKind.TheVariants.{Static, Temp, Local}
use Rattle.sial_syntax.specs.Spaces.{same_kind}
use Rattle.sial_meaning.specs.Own.{Own, Held, static_block, local_block, temp_of, with_static, with_local, with_temp}
use Rattle.sial_meaning.specs.Setting.{Setting, array_kind, block_count}
use Rattle.block_pool.specs.Memory.{Memory}
use Rattle.block_seats.specs.Seated.{Seated, block_at}
use Rattle.block_seats.specs.Putting.{Puts}
use Rattle.exec_blocks.specs.Kept.{Kept, place_by}
use Rattle.exec_blocks.specs.Standing.{IsLaidOut, BlocksStand}
use Rattle.exec_blocks.proofs.RowLemmas.{row-other, entry-same, entry-other, rows-long}
use Rattle.exec_blocks.proofs.PlaceLemmas.{places-differ, static-below, local-below}

-- the layout stays
pub laid-after : {p p1 : Memory} {place : ℕ} {words : Option (List ℕ)} (g : Setting) (b : Kept) (after : Seated) → Puts p p1 b.seats after place words → IsLaidOut g b → IsLaidOut g (record b { seats = after })
laid-after g b after puts laid = record {
  locals_at = laid.locals_at;
  temps_at = laid.temps_at;
  places = puts.places ∙ laid.places;
  tuples = laid.tuples;
  ranks = laid.ranks;
}

-- an array of another kind is another array
pub kind-apart : (g : Setting) (kind : ArrayKind) (c a : ℕ) → same_kind (array_kind g c) kind ≡ false → array_kind g a ≡ kind → same_kind kind kind ≡ true → c ≡ a → ⊥
kind-apart g kind c a other is self e =
    let both : same_kind (array_kind g c) kind ≡ true = ap (λ (x : ℕ). same_kind (array_kind g x) kind) e ∙ (ap (λ (k : ArrayKind). same_kind k kind) is ∙ self) in
    absurd (cc (both, other))

module _ {p p1 : Memory} (g : Setting) (b : Kept) (after : Seated) (own : Own) (laid : IsLaidOut g b) (stands : BlocksStand g p b own) (a : ℕ) where
  -- a static block
  pub put-static : (n : ℕ) (w : List ℕ) → array_kind g a ≡ Static → n < block_count g a → a < length g.program.arrays → Puts p p1 b.seats after (place_by g b a n Static) (Some w)
      → BlocksStand g p1 (record b { seats = after }) (with_static a n w own)
  put-static n w is below there puts =
      let inside : a < length own.statics = omega (arith, there, stands.rows.statics) in
      let within : n < length (slice_index_or own.statics a []) = omega (arith, below, stands.rows.static_rows a is) in
      record {
        rows = record {
          statics = length-set own.statics a _ ∙ stands.rows.statics;
          temps = stands.rows.temps;
          locals = stands.rows.locals;
          static_rows = λ c kind. rows-long own.statics a n w [] inside c ∙ stands.rows.static_rows c kind;
          local_rows = stands.rows.local_rows;
        };
        statics = λ c m kind under. elim (cases_eq (place_by g b c m Static) (place_by g b a n Static)) as (λ _. block_at p1 after (place_by g b c m Static) ≡ Some (static_block (with_static a n w own) c m)) [
          | inl e ↦ (
              elim (cases_eq c a) as (λ _. block_at p1 after (place_by g b c m Static) ≡ Some (static_block (with_static a n w own) c m)) [
                | inl ca ↦ (
                    let mn : m ≡ n = omega (arith, e, ap (λ x. place_by g b x 0 Static) ca) in
                    rw (ca, mn) (puts.here ∙ ap Some (sym (entry-same own.statics a n w [] inside within)))
                    )
                | inr ne ↦ absurd (places-differ g Static a n c m refl is kind below under (λ ca. absurd (ne ca)) e)
              ]
              )
          | inr ne ↦ puts.others (place_by g b c m Static) ne ∙ (stands.statics c m kind under ∙ ap Some (sym (entry-other own.statics a n w [] inside c m (λ ca mn. ne (rw (ca, mn) refl)))))
        ];
        locals = λ c m kind under. puts.others (place_by g b c m Local) (λ e. absurd (omega (arith, e, static-below g b a n laid is below))) ∙ stands.locals c m kind under;
        temps = λ c declared kind. puts.others (place_by g b c 0 Temp) (λ e. absurd (omega (arith, e, static-below g b a n laid is below, laid.temps_at))) ∙ stands.temps c declared kind;
        tuples = stands.tuples;
        others = λ c declared. let none = stands.others c declared in (
          λ kind. row-other own.statics a n w [] inside c (λ e. kind-apart g Static c a kind is refl e) ∙ none.0 kind,
          none.1,
          λ kind. ((none.2 kind).0, puts.others (place_by g b c 0 Temp) (λ e. absurd (omega (arith, e, static-below g b a n laid is below, laid.temps_at))) ∙ (none.2 kind).1),
        );
      }

  -- a local block, put down or taken away
  pub put-local : (n : ℕ) (w : Option (List ℕ)) → array_kind g a ≡ Local → n < block_count g a → a < length g.program.arrays → Puts p p1 b.seats after (place_by g b a n Local) w
      → BlocksStand g p1 (record b { seats = after }) (with_local a n w own)
  put-local n w is below there puts =
      let inside : a < length own.locals = omega (arith, there, stands.rows.locals) in
      let within : n < length (slice_index_or own.locals a []) = omega (arith, below, stands.rows.local_rows a is) in
      record {
        rows = record {
          statics = stands.rows.statics;
          temps = stands.rows.temps;
          locals = length-set own.locals a _ ∙ stands.rows.locals;
          static_rows = stands.rows.static_rows;
          local_rows = λ c kind. rows-long own.locals a n w None inside c ∙ stands.rows.local_rows c kind;
        };
        statics = λ c m kind under. puts.others (place_by g b c m Static) (λ e. absurd (omega (arith, e, static-below g b c m laid kind under))) ∙ stands.statics c m kind under;
        locals = λ c m kind under. elim (cases_eq (place_by g b c m Local) (place_by g b a n Local)) as (λ _. block_at p1 after (place_by g b c m Local) ≡ local_block (with_local a n w own) c m) [
          | inl e ↦ (
              elim (cases_eq c a) as (λ _. block_at p1 after (place_by g b c m Local) ≡ local_block (with_local a n w own) c m) [
                | inl ca ↦ (
                    let mn : m ≡ n = omega (arith, e, ap (λ x. place_by g b x 0 Local) ca) in
                    rw (ca, mn) (puts.here ∙ sym (entry-same own.locals a n w None inside within))
                    )
                | inr ne ↦ absurd (places-differ g Local a n c m refl is kind below under (λ ca. absurd (ne ca)) (omega (arith, e)))
              ]
              )
          | inr ne ↦ puts.others (place_by g b c m Local) ne ∙ (stands.locals c m kind under ∙ sym (entry-other own.locals a n w None inside c m (λ ca mn. ne (rw (ca, mn) refl))))
        ];
        temps = λ c declared kind. puts.others (place_by g b c 0 Temp) (λ e. absurd (omega (arith, e, local-below g b a n laid is below))) ∙ stands.temps c declared kind;
        tuples = stands.tuples;
        others = λ c declared. let none = stands.others c declared in (
          none.0,
          λ kind. row-other own.locals a n w None inside c (λ e. kind-apart g Local c a kind is refl e) ∙ none.1 kind,
          λ kind. ((none.2 kind).0, puts.others (place_by g b c 0 Temp) (λ e. absurd (omega (arith, e, local-below g b a n laid is below))) ∙ (none.2 kind).1),
        );
      }

  -- the block of a temp, with its tuple
  pub put-temp : (held : Held) → array_kind g a ≡ Temp → a < length g.program.arrays → Puts p p1 b.seats after (place_by g b a 0 Temp) (Some held.words)
      → BlocksStand g p1 (record b { seats = after; tuples = slice_set b.tuples a held.members }) (with_temp a held own)
  put-temp held is there puts =
      let inside : a < length own.temps = omega (arith, there, stands.rows.temps) in
      let kept : a < length b.tuples = omega (arith, there, laid.tuples) in
      let now : temp_of (with_temp a held own) a ≡ Some held = get_or-set_same own.temps a (Some held) None inside in
      record {
        rows = record {
          statics = stands.rows.statics;
          temps = length-set own.temps a (Some held) ∙ stands.rows.temps;
          locals = stands.rows.locals;
          static_rows = stands.rows.static_rows;
          local_rows = stands.rows.local_rows;
        };
        statics = λ c m kind under. puts.others (place_by g b c m Static) (λ e. absurd (omega (arith, e, static-below g b c m laid kind under, laid.temps_at))) ∙ stands.statics c m kind under;
        locals = λ c m kind under. puts.others (place_by g b c m Local) (λ e. absurd (omega (arith, e, local-below g b c m laid kind under))) ∙ stands.locals c m kind under;
        temps = λ c declared kind. elim (cases_eq c a) as (λ _. block_at p1 after (place_by g b c 0 Temp) ≡ option_map (λ (h : Held). h.words) (temp_of (with_temp a held own) c)) [
          | inl e ↦ rw e (puts.here ∙ ap (option_map (λ (h : Held). h.words)) (sym now))
          | inr ne ↦ puts.others (place_by g b c 0 Temp) (λ z. ne (omega (arith, z))) ∙ (stands.temps c declared kind ∙ ap (option_map (λ (h : Held). h.words)) (sym (get_or-set_other own.temps a c (Some held) None ne)))
        ];
        tuples = λ c h declared kind has. elim (cases_eq c a) as (λ _. slice_index_or (slice_set b.tuples a held.members) c [] ≡ h.members) [
          | inl e ↦ (
              let same : held ≡ h = cc (now, ap (temp_of (with_temp a held own)) e, has) in
              rw e (get_or-set_same b.tuples a held.members [] kept ∙ ap (λ (x : Held). x.members) same)
              )
          | inr ne ↦ get_or-set_other b.tuples a c held.members [] ne ∙ stands.tuples c h declared kind (sym (get_or-set_other own.temps a c (Some held) None ne) ∙ has)
        ];
        others = λ c declared. let none = stands.others c declared in (
          none.0,
          none.1,
          λ kind. let apart : c ≢ a = λ e. kind-apart g Temp c a kind is refl e in (
            get_or-set_other own.temps a c (Some held) None apart ∙ (none.2 kind).0,
            puts.others (place_by g b c 0 Temp) (λ z. apart (omega (arith, z))) ∙ (none.2 kind).1,
          ),
        );
      }

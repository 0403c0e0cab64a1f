-- A block is written, comes to a place or is taken away: what becomes of all of them.
use Rattle.std.proofs.Common.{◌≡◌, ◌≢◌, ℕ, ◌<◌, ◌≤◌, List, length, drop, get_or, set, replicate, inl, inr, refl, sym, ap, ◌∙◌, length-set, arith, Option, Some, None}
use Rattle.std.proofs.lemmas.Bool.{cases_eq}
use Rattle.std.proofs.lemmas.List.{get_or-set_same, get_or-set_other, take-replicate}
use Rattle.std.proofs.Math.Seq.{take-append_seam}
use Rattle.block_pool.specs.declared.state.State.TheVariants.{Free, Owned}
use Rattle.block_pool.specs.Memory.{Memory, words_at, with_front, zeros_at, last_class}
use Rattle.block_pool.specs.Changes.{Stands, Writes, Takes}
use Rattle.block_pool.specs.Standing.{lease_at}
use Rattle.block_pool.proofs.CutLemmas.{set_present}
use Rattle.block_pool.proofs.OneChange.{words_same}
use Rattle.block_pool.proofs.Leases.{written, placed, cleared, keep_refl, not_at_other, lease_within, named_set, named_cleared, named_still}
use Rattle.block_pool.proofs.Counting.{memory_after}
use Rattle.block_seats.specs.Seated.{Seated, SeatsStand}
use Rattle.block_seats.specs.Putting.{Puts}
use Rattle.block_seats.proofs.LeavingLemmas.{leaves-written, leaves-taken, leaves-cleared, leaves-refl, leaves-then}
use Rattle.block_seats.proofs.SeatLemmas.{read-other, long-other, away-from}

-- other words for a block that is there
pub puts-written : {p p1 : Memory} (s : Seated) (i t : ℕ) (v : List ℕ) → SeatsStand p s → lease_at s.slots i ≡ Some t → length v ≤ length (words_at p.words t)
    → Writes p p1 t Owned (with_front (words_at p.words t) v) → Puts p p1 s (record { slots = s.slots; lens = set s.lens i (length v) }) i (Some v)
puts-written {p} {p1} s i t v stands here fits wrote =
    let ch = wrote.changes in
    let st : Stands p Owned t = stands.holds.stands i t here in
    let within : i < length s.slots = lease_within s.slots i t here in
    let len-here : get_or (set s.lens i (length v)) i 0 ≡ length v = get_or-set_same s.lens i (length v) 0 (omega (arith, within, stands.listed)) in
    record {
      stands = record {
        sound = memory_after ch stands.sound;
        holds = (written ch i here (keep_refl s.slots stands.holds)).holds;
        named = named_still ch stands.named;
        fits = λ j x there. elim (cases_eq j i) as (λ _. get_or (set s.lens i (length v)) j 0 ≤ length (words_at p1.words x)) [
          | inl e ↦ (
              let same : x ≡ t = cc (ap (lease_at s.slots) e, here, there) in
              let long : length (words_at p1.words t) ≡ length (words_at p.words t) = ap length (words_same ch st) ∙ ch.width in
              rw (e, len-here, same, long) fits
              )
          | inr ne ↦ rw (get_or-set_other s.lens i j (length v) 0 ne) (long-other ch s.slots _ x j there (away-from s.slots i t j stands.holds here ne x there) (stands.fits j x there))
        ];
        listed = length-set s.lens i (length v) ∙ stands.listed;
      };
      here = rw (here, len-here, words_same ch st) (ap Some (take-append_seam v (drop (length v) (words_at p.words t))));
      others = λ j ne. read-other ch (lease_at s.slots j) _ _ (get_or-set_other s.lens i j (length v) 0 ne) (λ x there. away-from s.slots i t j stands.holds here ne x there);
      places = refl;
      leaves = leaves-written ch wrote.is_lifted stands.sound s.slots i here st refl;
    }

-- a block of zeros comes to an empty place
pub puts-taken : {p p1 : Memory} (s : Seated) (i t n : ℕ) → SeatsStand p s → i < length s.slots → lease_at s.slots i ≡ None → n ≤ length (words_at p.words t)
    → Takes last_class p p1 t Owned (zeros_at p t) → Puts p p1 s (record { slots = set s.slots i (Some t); lens = set s.lens i n }) i (Some (replicate n 0))
puts-taken {p} {p1} s i t n stands within none fits took =
    let ch = took.changes in
    let st : Stands p Free t = took.was in
    let len-here : get_or (set s.lens i n) i 0 ≡ n = get_or-set_same s.lens i n 0 (omega (arith, within, stands.listed)) in
    let now-here : lease_at (set s.slots i (Some t)) i ≡ Some t = get_or-set_same s.slots i (Some t) None within in
    let apart : (j x : ℕ) → lease_at s.slots j ≡ Some x → x ≢ t = not_at_other stands.holds st (λ e. absurd cc) in
    record {
      stands = record {
        sound = memory_after ch stands.sound;
        holds = (placed ch i within st (λ e. absurd cc) (keep_refl s.slots stands.holds)).holds;
        named = named_still ch (named_set s.slots i t within took.named stands.named);
        fits = λ j x there. elim (cases_eq j i) as (λ _. get_or (set s.lens i n) j 0 ≤ length (words_at p1.words x)) [
          | inl e ↦ (
              let same : x ≡ t = cc (ap (lease_at (set s.slots i (Some t))) e, now-here, there) in
              let long : length (words_at p1.words t) ≡ length (words_at p.words t) = ap length (words_same ch st) ∙ ch.width in
              rw (e, len-here, same, long) fits
              )
          | inr ne ↦ (
              let was : lease_at s.slots j ≡ Some x = sym (get_or-set_other s.slots i j (Some t) None ne) ∙ there in
              rw (get_or-set_other s.lens i j n 0 ne) (long-other ch s.slots _ x j was (apart j x was) (stands.fits j x was))
              )
        ];
        listed = length-set s.lens i n ∙ (stands.listed ∙ sym (length-set s.slots i (Some t)));
      };
      here = rw (now-here, len-here, words_same ch st) (ap Some (take-replicate n (length (words_at p.words t)) 0 fits));
      others = λ j ne. rw (get_or-set_other s.slots i j (Some t) None ne) (read-other ch (lease_at s.slots j) _ _ (get_or-set_other s.lens i j n 0 ne) (apart j));
      places = length-set s.slots i (Some t);
      leaves = leaves-taken ch took.is_lifted stands.sound s.slots i within none st refl;
    }

-- a block is taken away
pub puts-cleared : {p p1 : Memory} (s : Seated) (i t : ℕ) → SeatsStand p s → lease_at s.slots i ≡ Some t
    → Writes p p1 t Free (words_at p.words t) → Puts p p1 s (record { slots = set s.slots i None; lens = s.lens }) i None
puts-cleared {p} {p1} s i t stands here gave =
    let ch = gave.changes in
    let st : Stands p Owned t = stands.holds.stands i t here in
    let within : i < length s.slots = lease_within s.slots i t here in
    let now-here : lease_at (set s.slots i None) i ≡ None = get_or-set_same s.slots i None None within in
    record {
      stands = record {
        sound = memory_after ch stands.sound;
        holds = (cleared ch i here (keep_refl s.slots stands.holds)).holds;
        named = named_still ch (named_cleared s.slots i within stands.named);
        fits = λ j x there. elim (cases_eq j i) as (λ _. get_or s.lens j 0 ≤ length (words_at p1.words x)) [
          | inl e ↦ absurd (cc (ap (lease_at (set s.slots i None)) e, now-here, there))
          | inr ne ↦ (
              let was : lease_at s.slots j ≡ Some x = sym (get_or-set_other s.slots i j None None ne) ∙ there in
              long-other ch s.slots _ x j was (away-from s.slots i t j stands.holds here ne x was) (stands.fits j x was)
              )
        ];
        listed = stands.listed ∙ sym (length-set s.slots i None);
      };
      here = rw now-here refl;
      others = λ j ne. rw (get_or-set_other s.slots i j None None ne) (read-other ch (lease_at s.slots j) _ _ refl (λ x there. away-from s.slots i t j stands.holds here ne x there));
      places = length-set s.slots i None;
      leaves = leaves-cleared ch gave.is_lifted stands.sound s.slots i here st refl;
    }

-- two changes at one place are one
pub puts-then : {p p1 p2 : Memory} {a b c : Seated} {i : ℕ} {x y : Option (List ℕ)} → Puts p p1 a b i x → Puts p1 p2 b c i y → Puts p p2 a c i y
puts-then first second = record {
  stands = second.stands;
  here = second.here;
  others = λ j ne. second.others j ne ∙ first.others j ne;
  places = second.places ∙ first.places;
  leaves = leaves-then first.leaves second.leaves;
}

-- nothing was there to be taken away
pub puts-nothing : {p : Memory} (s : Seated) (i : ℕ) → SeatsStand p s → lease_at s.slots i ≡ None → Puts p p s (record { slots = set s.slots i None; lens = s.lens }) i None
puts-nothing {p} s i stands none =
    rw (set_present s.slots i None None none) (record {
      stands = stands;
      here = rw none refl;
      others = λ j ne. refl;
      places = refl;
      leaves = leaves-refl s.slots;
    })

-- One slot of a pool changes.
use Rattle.std.proofs.Common.{◌≡◌, ◌≢◌, ℕ, List, [], ◌<◌, length, set, refl, ap, sym, ◌∙◌, length-set}
use Rattle.std.proofs.lemmas.List.{get_or-set_same, get_or-set_other, set-set, set_comm, length-replicate}
use Rattle.block_pool.specs.declared.state.State.{State}
use Rattle.block_pool.specs.declared.state.State.TheVariants.{Free, Lifted}
use Rattle.block_pool.specs.Memory.{Memory, Apart, words_at, state_at, with_words}
use Rattle.block_pool.specs.Changes.{Changes, Stands, Lifts, StandsLifted}
use Rattle.block_pool.specs.Lends.{refilled}
use Rattle.block_pool.proofs.CutLemmas.{set_present, length-written_back, written_back_is}

-- what stood before, after a change of one slot
module _ {p p1 : Memory} {t : ℕ} {s1 : State} {w : List ℕ} (ch : Changes p p1 t s1 w) where
  -- another slot stands as before
  pub stands_other : {s : State} {x : ℕ} → Stands p s x → x ≢ t → Stands p1 s x
  stands_other {s} {x} h ne = record {
    state = ap (λ (ss : List State). state_at ss x) ch.states ∙ (get_or-set_other p.states t x s1 _ ne ∙ h.state);
    within = rw (ch.words, length-set) h.within;
    listed = rw (ch.states, length-set) h.listed;
  }

  -- the slot stands as it is now
  pub stands_at : {s : State} → Stands p s t → Stands p1 s1 t
  stands_at {s} h = record {
    state = ap (λ (ss : List State). state_at ss t) ch.states ∙ get_or-set_same p.states t s1 _ h.listed;
    within = rw (ch.words, length-set) h.within;
    listed = rw (ch.states, length-set) h.listed;
  }

  -- another slot keeps its words
  pub words_other : (x : ℕ) → x ≢ t → words_at p1.words x ≡ words_at p.words x
  words_other x ne = ap (λ (ws : List (List ℕ)). words_at ws x) ch.words ∙ get_or-set_other p.words t x w _ ne

  -- the slot has the words that it was given
  pub words_same : {s : State} → Stands p s t → words_at p1.words t ≡ w
  words_same {s} h = ap (λ (ws : List (List ℕ)). words_at ws t) ch.words ∙ get_or-set_same p.words t w _ h.within

-- two changes of one slot are one
pub changes_twice : {p p1 p2 : Memory} {t : ℕ} {s0 s1 s2 : State} {w v : List ℕ} → Stands p s0 t → Changes p p1 t s1 w → Changes p1 p2 t s2 v → Changes p p2 t s2 v
changes_twice {p} {p1} {p2} {t} {s0} {s1} {s2} {w} {v} st a b = record {
  states = b.states ∙ rw a.states (set-set p.states t s1 s2);
  words = b.words ∙ rw a.words (set-set p.words t w v);
  width = b.width ∙ (ap length (words_same a st) ∙ a.width);
  classes = b.classes ∙ a.classes;
  groups = b.groups ∙ a.groups;
  widest = b.widest ∙ a.widest;
  most = b.most ∙ a.most;
}

-- the words of a slot were lent, and as many are there now
pub refilled_is : (p : Memory) (t : ℕ) (ws : List ℕ) → t < length p.words → length ws ≡ length (words_at p.words t) → refilled p t ws ≡ with_words p t ws
refilled_is p t ws within len = ap (λ (words : List (List ℕ)). record p { words = words }) (written_back_is p.words t ws within len)

-- whatever was lent, all slots stand as before
pub refilled_stands : (p : Memory) (t : ℕ) (ws : List ℕ) (s : State) (x : ℕ) → Stands p s x → Stands (refilled p t ws) s x
refilled_stands p t ws s x st = record { state = st.state; within = rw (length-written_back p.words t ws) st.within; listed = st.listed }

-- so only that slot has changed
pub refilled_changes : (p : Memory) (t : ℕ) (s : State) (ws : List ℕ) → Stands p s t → length ws ≡ length (words_at p.words t) → Changes p (refilled p t ws) t s ws
refilled_changes p t s ws st len = record {
  states = sym (set_present p.states t _ s st.state);
  words = written_back_is p.words t ws st.within len;
  width = len;
  classes = refl;
  groups = refl;
  widest = refl;
  most = refl;
}

-- what stands between the lift of a slot and its lowering
pub lift_write_lower : {p p1 p2 p3 : Memory} {t u : ℕ} {s : State} {w : List ℕ} → Stands p Free t → Stands p s u → Free ≢ s
    → Changes p p1 t Lifted (words_at p.words t) → Changes p1 p2 u s w → Changes p2 p3 t Free (words_at p2.words t) → Changes p p3 u s w
lift_write_lower {p} {p1} {p2} {p3} {t} {u} {s} {w} free st diff up mid down =
    let apart : t ≢ u = λ z. diff (sym free.state ∙ (ap (state_at p.states) z ∙ st.state)) in
    let same_words : p1.words ≡ p.words = up.words ∙ set_present p.words t [] _ refl in
    record {
      states = down.states ∙ rw (mid.states, up.states, set_comm p.states t u Lifted s apart, set-set)
          (set_present (set p.states u s) t Free Free (get_or-set_other p.states u t s Free apart ∙ free.state));
      words = down.words ∙ (set_present p2.words t [] _ refl ∙ rw (mid.words, same_words) refl);
      width = mid.width ∙ ap (λ (r : List (List ℕ)). length (words_at r u)) same_words;
      classes = down.classes ∙ (mid.classes ∙ up.classes);
      groups = down.groups ∙ (mid.groups ∙ up.groups);
      widest = down.widest ∙ (mid.widest ∙ up.widest);
      most = down.most ∙ (mid.most ∙ up.most);
    }

-- a slot that was lifted stands
pub lifts_stands : {p p1 : Memory} {lifted : Apart} → Lifts p p1 lifted → StandsLifted p1 lifted
lifts_stands {p} {p1} {lifted} l = record {
  slot = stands_at l.changes l.was;
  width = ap length l.words ∙ (length-replicate p.most 0 ∙ sym l.changes.most);
}

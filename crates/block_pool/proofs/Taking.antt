-- What follows of a slot that was taken.
use Rattle.std.proofs.Common.{◌≡◌, ℕ, ◌≢◌, List, [], length, take, ap, ◌∙◌, refl, arith, append-nil}
use Rattle.std.proofs.lemmas.List.{get_or-set_same, get_or-set_other, set-set, drop_all}
use Rattle.block_pool.specs.declared.state.State.{State}
use Rattle.block_pool.specs.declared.state.State.TheVariants.{Owned}
use Rattle.block_pool.specs.Memory.{Memory, with_words, with_front, words_at, state_at}
use Rattle.block_pool.specs.Changes.{Takes, Stands}

module _ (class : ℕ) (p p1 : Memory) (slot : ℕ) (s : State) (ws : List ℕ) (took : Takes class p p1 slot s ws) where
  -- no owned slot was taken
  pub taken_apart : (from : ℕ) → Stands p Owned from → from ≢ slot
  taken_apart from stands = λ e. absurd (cc (ap (state_at p.states) e, stands.state, took.was.state))

  -- its words
  pub words_of_taken : words_at p1.words slot ≡ ws
  words_of_taken = ap (λ (w : List (List ℕ)). words_at w slot) took.changes.words ∙ get_or-set_same p.words slot ws [] took.was.within

  -- the others' words
  pub words_of_others : (from : ℕ) → from ≢ slot → words_at p1.words from ≡ words_at p.words from
  words_of_others from ne = ap (λ (w : List (List ℕ)). words_at w from) took.changes.words ∙ get_or-set_other p.words slot from ws [] ne

  -- a copy into the slot that was taken
  pub taken_then_copied : (from n : ℕ) → Stands p Owned from
      → with_front (words_at p1.words slot) (take n (words_at p1.words from)) ≡ with_front ws (take n (words_at p.words from))
  taken_then_copied from n stands = rw (words_of_taken, words_of_others from (taken_apart from stands)) refl

  -- other words in the slot that was taken
  pub taken_then_written : (p2 : Memory) (new : List ℕ) → length new ≡ length ws → p2 ≡ with_words p1 slot new → Takes class p p2 slot s new
  taken_then_written p2 new len is = record {
    was = took.was;
    named = took.named;
    changes = record {
      states = ap (λ (q : Memory). q.states) is ∙ took.changes.states;
      words = ap (λ (q : Memory). q.words) is ∙ rw took.changes.words (set-set p.words slot ws new);
      width = len ∙ took.changes.width;
      classes = ap (λ (q : Memory). q.classes) is ∙ took.changes.classes;
      groups = ap (λ (q : Memory). q.groups) is ∙ took.changes.groups;
      widest = ap (λ (q : Memory). q.widest) is ∙ took.changes.widest;
      most = ap (λ (q : Memory). q.most) is ∙ took.changes.most;
    };
    is_lifted = ap (λ (q : Memory). q.is_lifted) is ∙ took.is_lifted;
  }

-- as many words in front as there were
pub with_front-all : (old new : List ℕ) → length new ≡ length old → with_front old new ≡ new
with_front-all old new e = rw (drop_all (length new) old (omega arith)) (append-nil new)

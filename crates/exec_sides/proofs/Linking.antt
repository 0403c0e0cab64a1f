-- Blocks that are named lie well, and what meets each number is the assignment of the definitions.
use Rattle.std.proofs.Common.{◌≡◌, ℕ, true, List, [], ◌∷◌, map, length, refl, sym, ap, ◌∙◌, subst}
use Rattle.kernel_permute.specs.How as kernel
use Rattle.kernel_permute.specs.declared.how.How.{How}
use Rattle.kernel_permute.specs.declared.how.How.TheVariants.{Set, Add, Subtract}
use Rattle.std.proofs.lemmas.List.{length-map}
use Rattle.sial_syntax.specs.Agreeing.{all_in, contains, same_set}
use Rattle.sial_syntax.specs.Boxes.{volume, IsTupleOf}
use Rattle.sial_syntax.specs.Spaces.{Spaces, Extent, extent}
use Rattle.sial_meaning.specs.JoinLaws.{word_under}
use Rattle.sial_meaning.specs.Number.{combined}
use Rattle.sial_meaning.specs.ReadBackLaws.{named_block, after_assignment, under}
use Rattle.sial_meaning.specs.Right.{Side, Alone, Shown, assigned}
use Rattle.sial_meaning.specs.Sight.{Sight, lengths, word_at}
use Rattle.sial_meaning.proofs.AcceptedInOtherWords.Pairs.{second-holds}
use Rattle.sial_meaning.proofs.AssignmentsReadBack.Elements.{as-many-elements, copies-by-name}
use Rattle.exec_sides.specs.Fits.{IsNamed}
use Rattle.exec_sides.specs.Met.{Met}
use Rattle.exec_sides.specs.Named.{AgreeInLength, IsCopy, IsLaid, length_under}
use Rattle.exec_sides.specs.Seen.{op_of}
use Rattle.exec_sides.proofs.Names.{under-image}
use Rattle.exec_sides.proofs.Tuples.{same-blocks}

-- a value meets a number as the assignment says
pub same-meeting : (how : How) (old value : ℕ) → kernel.combined how old value ≡ combined (op_of how) old value
same-meeting Set old value = refl
same-meeting Add old value = refl
same-meeting Subtract old value = refl

-- what meets each number is an assignment
pub assigned-by : (spaces : Spaces) (how : How) (target : Sight) (side : Side) (value : List ℕ → ℕ) (new : List ℕ) → length target.words ≡ volume (lengths target.extents)
    → Met how (lengths target.extents) value target.words new
    → ((tuple : List ℕ) → IsTupleOf (lengths target.extents) tuple → word_at (after_assignment spaces (op_of how) target side) tuple ≡ combined (op_of how) (word_at target tuple) (value tuple))
    → new ≡ assigned spaces (op_of how) target side
assigned-by spaces how target side value new long met says =
    same-blocks (lengths target.extents) new (assigned spaces (op_of how) target side) (met.len ∙ long) (as-many-elements spaces (op_of how) target side)
    (λ tuple are. met.each tuple are ∙ (same-meeting how _ (value tuple) ∙ sym (says tuple are)))

-- a named block is one of the definitions
pub named-is : (spaces : Spaces) (values : List ℕ) (block : Sight) → IsNamed spaces values block → block ≡ named_block spaces values block.at block.words
named-is spaces values block named = ap (λ (es : List Extent). record { at = block.at; extents = es; words = block.words }) named.extents

-- the lengths of what indices lie on
pub lengths-on : (f : ℕ → Extent) (is : List ℕ) → lengths (map f is) ≡ map (λ i. (f i).len) is
lengths-on f [] = refl
lengths-on f (i ∷ is) = ap (λ ns. (f i).len ∷ ns) (lengths-on f is)

-- an index of a named block is as long as what it lies on
pub named-length : (spaces : Spaces) (values : List ℕ) (block : Sight) → IsNamed spaces values block → (i : ℕ) → contains block.at i ≡ true → length_under block i ≡ (extent spaces values i).len
named-length spaces values block named i in-block =
    ap (λ es. under block.at (lengths es) i) named.extents
    ∙ (ap (λ ns. under block.at ns i) (lengths-on (extent spaces values) block.at) ∙ under-image (λ i. (extent spaces values i).len) block.at i in-block)

-- a named block lies by its extents
pub named-laid : (spaces : Spaces) (values : List ℕ) (block : Sight) → IsNamed spaces values block → IsLaid block
named-laid spaces values block named = record {
  once = named.once;
  most = named.most;
  extents = ap length named.extents ∙ length-map block.at (extent spaces values);
  words = named.words;
  few = named.few;
}

-- two of them have one length for each index
pub named-alike : (spaces : Spaces) (values : List ℕ) (a b : Sight) → IsNamed spaces values a → IsNamed spaces values b → AgreeInLength a b
named-alike spaces values a b first second i in-a in-b = named-length spaces values a first i in-a ∙ sym (named-length spaces values b second i in-b)

-- two with the same indices can be copied
pub named-copy : (spaces : Spaces) (values : List ℕ) (to from : Sight) → IsNamed spaces values to → IsNamed spaces values from → same_set to.at from.at ≡ true → IsCopy to from
named-copy spaces values to from target source same = record {
  target = named-laid spaces values to target;
  source = named-laid spaces values from source;
  some = target.some;
  same = same;
  alike = named-alike spaces values to from target source;
}

-- a copy by name is the assignment
pub copy-assigned : (spaces : Spaces) (values : List ℕ) (how : How) (to from : Sight) (new : List ℕ) → IsNamed spaces values to → IsNamed spaces values from → same_set to.at from.at ≡ true
    → Met how (lengths to.extents) (λ t. word_under to.at t from) to.words new → new ≡ assigned spaces (op_of how) to (Alone (Shown from))
copy-assigned spaces values how to from new target source same met =
    assigned-by spaces how to (Alone (Shown from)) (λ t. word_under to.at t from) new target.words met
    (λ tuple are.
    let as-target = named-is spaces values to target in
    let as-source = named-is spaces values from source in
    subst (λ (x : Sight). word_at (after_assignment spaces (op_of how) x (Alone (Shown from))) tuple ≡ combined (op_of how) (word_at x tuple) (word_under to.at tuple from)) (sym as-target)
    (subst (λ (x : Sight). word_at (after_assignment spaces (op_of how) (named_block spaces values to.at to.words) (Alone (Shown x))) tuple ≡ combined (op_of how) (word_at (named_block spaces values to.at to.words) tuple) (word_under to.at tuple x)) (sym as-source)
    (copies-by-name spaces (op_of how) values to.at from.at to.words from.words tuple target.once (second-holds (all_in to.at from.at) (all_in from.at to.at) same)
    (subst (λ (es : List Extent). IsTupleOf (lengths es) tuple) target.extents are))))

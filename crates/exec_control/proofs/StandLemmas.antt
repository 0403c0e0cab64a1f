-- Control that stands for the rest of the work: its place in the code, its stacks, and where it stands afterwards.
use Rattle.std.proofs.Common.{◌≡◌, ℕ, ◌+◌, ◌-◌, ◌^◌, ◌<◌, List, [], ◌∷◌, ◌++◌, take, length, length-append, get_or, refl, sym, ap, ◌∙◌, subst, arith}
use Rattle.std.proofs.lemmas.Option.{slice_get_within}
use Rattle.std.proofs.Math.Seq.{get_or-append_seam, take-append_seam}
use Rattle.sial_syntax.specs.Proper.{IsProper}
use Rattle.sial_syntax.specs.Tree.{Tree}
use Rattle.sial_meaning.specs.Control.{Led, Goes, control}
use Rattle.sial_meaning.specs.Own.{Own}
use Rattle.sial_meaning.specs.Rest.{Rest, Over, Next, Turn, Join, Back, Within, place, depth}
use Rattle.sial_meaning.specs.Setting.{Setting}
use Rattle.sip_tables.specs.declared.instruction.Instruction.{Instruction}
use Rattle.sip_tables.specs.Flatten.{flatten}
use Rattle.code_places.specs.Follows.{Follows, return_places, saved_values}
use Rattle.code_places.specs.Items.{ItemOf, IsBack}
use Rattle.code_places.specs.Standing.{HasAt}
use Rattle.code_places.specs.StepLaws.{LedFollows}
use Rattle.code_places.proofs.ControlLemmas.{control_follows}
use Rattle.code_places.proofs.HeadLemmas.{head_is}
use Rattle.code_places.proofs.ItemLemmas.{item_told}
use Rattle.code_places.proofs.Pushing.{returns_are_depth}
use Rattle.exec_control.specs.Depth.{lasts_of, LedNests}
use Rattle.exec_control.specs.Position.{Position, innermost}
use Rattle.exec_control.specs.Stands.{ControlStands}
use Rattle.exec_control.proofs.NestLemmas.{control_nests}

-- the work stands within the code
pub place_in_code : (p : Tree) (rest : Rest) → IsProper p → Follows p rest → place rest < length (flatten p).code
place_in_code p rest proper follows =
    let head = head_is p rest proper follows in
    slice_get_within (flatten p).code (place rest) head.0 head.1

-- so does control
pub at_in_code : (g : Setting) (c : Position) (rest : Rest) (own : Own) → ControlStands g c rest own → c.at < length (flatten g.program).code
at_in_code g c rest own st = let below = place_in_code g.program rest st.proper st.follows in omega (arith, below, st.at)

-- an instruction is within the code
pub has_in_code : (p : Tree) (at : ℕ) (i : Instruction) → HasAt p at i → at < length (flatten p).code
has_in_code p at i has = slice_get_within (flatten p).code at i has

-- one place has one instruction
pub same_instruction : (p : Tree) (at : ℕ) (i j : Instruction) → HasAt p at i → HasAt p at j → i ≡ j
same_instruction p at i j one other = cc

-- the instruction at the cursor tells the first item
pub item_is : (g : Setting) (c : Position) (rest : Rest) (own : Own) (i : Instruction) → ControlStands g c rest own → HasAt g.program c.at i → ItemOf g.program rest i.line i.operation
item_is g c rest own i st has = item_told g.program rest i st.proper st.follows (subst (λ (n : ℕ). HasAt g.program n i) st.at has)

-- as many places to return to as callers' numbers
same_count : (rest : Rest) → length (return_places rest) ≡ length (saved_values rest)
same_count (Over at) = refl
same_count (Next at line form rest) = same_count rest
same_count (Turn loop last rest) = same_count rest
same_count (Join at rest) = same_count rest
same_count (Back at values rest) =
    let one = length-append (return_places rest) (place rest ∷ []) in
    let other = length-append (saved_values rest) (values ∷ []) in
    let same = same_count rest in
    omega (arith, one, other, same)
same_count (Within pardo number rest) = same_count rest

pub stacks_agree : (g : Setting) (c : Position) (rest : Rest) (own : Own) → ControlStands g c rest own → length c.returns ≡ length c.saved
stacks_agree g c rest own st = ap length st.returns ∙ (same_count rest ∙ sym (ap length st.saved))

-- as many as calls are in progress
pub returns_counted : (g : Setting) (c : Position) (rest : Rest) (own : Own) → ControlStands g c rest own → length c.returns ≡ depth rest
returns_counted g c rest own st = ap length st.returns ∙ returns_are_depth rest

-- the last of a stack, and the others
pub innermost_is : (lasts front : List ℕ) (last : ℕ) → lasts ≡ front ++ last ∷ [] → innermost lasts ≡ last
innermost_is lasts front last is =
    let count = length-append front (last ∷ []) in
    let before : length lasts - 1 ≡ length front = omega (arith, ap length is, count) in
    ap (λ n. get_or lasts n 0) before ∙ (ap (λ xs. get_or xs (length front) 0) is ∙ get_or-append_seam front last [] 0)

pub others_are : (lasts front : List ℕ) (last : ℕ) → lasts ≡ front ++ last ∷ [] → take (length lasts - 1) lasts ≡ front
others_are lasts front last is =
    let count = length-append front (last ∷ []) in
    let before : length lasts - 1 ≡ length front = omega (arith, ap length is, count) in
    ap (λ n. take n lasts) before ∙ (ap (λ xs. take (length front) xs) is ∙ take-append_seam front (last ∷ []))

-- stacks with a last entry that are one have the same last entry and the same others
pub snoc_same : {X : Type 0} (xs ys : List X) (x y : X) → xs ++ x ∷ [] ≡ ys ++ y ∷ [] → (xs ≡ ys) × (x ≡ y)
snoc_same [] [] x y same = (refl, head_same x y [] [] same)
  where
    head_same : {X : Type 0} (a b : X) (as' bs : List X) → ◌≡◌ {A = List X} (a ∷ as') (b ∷ bs) → a ≡ b
    head_same a b as' bs e = cc
snoc_same [] (b ∷ bs) x y same = let long = length-append bs (y ∷ []) in absurd (omega (arith, ap length same, long))
snoc_same (a ∷ as') [] x y same = let long = length-append as' (x ∷ []) in absurd (omega (arith, ap length same, long))
snoc_same (a ∷ as') (b ∷ bs) x y same =
    let rest = snoc_same as' bs x y (tail_same a b (as' ++ x ∷ []) (bs ++ y ∷ []) same) in
    let first : a ≡ b = head_same a b (as' ++ x ∷ []) (bs ++ y ∷ []) same in
    (rw (first, rest.0) refl, rest.1)
  where
    head_same : {X : Type 0} (a b : X) (as' bs : List X) → ◌≡◌ {A = List X} (a ∷ as') (b ∷ bs) → a ≡ b
    head_same a b as' bs e = cc

    tail_same : {X : Type 0} (a b : X) (as' bs : List X) → ◌≡◌ {A = List X} (a ∷ as') (b ∷ bs) → as' ≡ bs
    tail_same a b as' bs e = cc

-- what control shows of the rest of the work and of index numbers
pub record Shows (c : Position) (rest : Rest) (own : Own) : Type 0 where
  pub at : c.at ≡ place rest
  pub values : c.values ≡ own.values
  pub returns : c.returns ≡ return_places rest
  pub saved : c.saved ≡ saved_values rest
  pub lasts : c.lasts ≡ lasts_of rest

-- control stands where the definitions lead it, if it shows that
pub stands_by : (g : Setting) (old c : Position) (rest to : Rest) (own held : Own) → ControlStands g old rest own → control g rest own ≡ Goes to held → Shows c to held → length c.values ≡ length old.values → ControlStands g c to held
stands_by g old c rest to own held st led shows long = record {
  proper = st.proper;
  short = st.short;
  follows = subst (λ (l : Led). LedFollows g.program l) led (control_follows g rest own st.proper st.follows);
  nests = subst LedNests led (control_nests g rest own st.proper st.nests);
  at = shows.at;
  values = shows.values;
  long = long ∙ st.long;
  returns = shows.returns;
  saved = shows.saved;
  lasts = shows.lasts;
}

-- where they lead is a number that the code has
pub led_short : (g : Setting) (old : Position) (rest to : Rest) (own held : Own) → ControlStands g old rest own → control g rest own ≡ Goes to held → place to < 2 ^ 32
led_short g old rest to own held st led =
    let follows : Follows g.program to = subst (λ (l : Led). LedFollows g.program l) led (control_follows g rest own st.proper st.follows) in
    let below = place_in_code g.program to st.proper follows in
    omega (arith, below, st.short)

-- the number behind one that more work follows is a number too
pub next_short : (g : Setting) (c : Position) (rest more : Rest) (own : Own) → ControlStands g c rest own → Follows g.program more → place more ≡ place rest + 1 → c.at + 1 < 2 ^ 32
next_short g c rest more own st follows behind =
    let below = place_in_code g.program more st.proper follows in
    omega (arith, below, st.short, st.at, behind)

-- at the end of a procedure there is a place to return to
pub some_return : (g : Setting) (c : Position) (rest : Rest) (own : Own) → ControlStands g c rest own → IsBack g.program rest → 0 < length c.returns
some_return g c rest own st back =
    let returns : c.returns ≡ return_places back.more ++ place back.more ∷ [] = st.returns ∙ ap return_places back.is in
    let count = length-append (return_places back.more) (place back.more ∷ []) in
    omega (arith, ap length returns, count)

-- it stands for whatever the worker holds beside these index numbers
pub other_own : (g : Setting) (c : Position) (rest : Rest) (own held : Own) → ControlStands g c rest own → held.values ≡ own.values → ControlStands g c rest held
other_own g c rest own held st same = record {
  proper = st.proper;
  short = st.short;
  follows = st.follows;
  nests = st.nests;
  at = st.at;
  values = st.values ∙ sym same;
  long = st.long;
  returns = st.returns;
  saved = st.saved;
  lasts = st.lasts;
}

-- The positions that a block's indices have among a target's places.
use Rattle.std.proofs.Common.{◌≡◌, ℕ, suc, ◌+◌, ◌⊎◌, inl, inr, Bool, true, false, ◌==◌, ◌||◌, not, List, [], ◌∷◌, map, zip, length, None, refl, sym, ap, ◌∙◌, subst, arith}
use Rattle.std.proofs.lemmas.Bool.{eqb-true, eq-eqb, false_from_ne_true, ne_eqb}
use Rattle.std.specs.Prelude.{find}
use Rattle.sial_syntax.specs.Agreeing.{contains, has_twice}
use Rattle.sial_syntax.specs.Boxes.{IsTupleOf}
use Rattle.sial_syntax.specs.Spaces.{Spaces, Extent, Span, Segments, Pieces, span_of}
use Rattle.sial_meaning.specs.LocalStep.{whole_positions}
use Rattle.sial_meaning.specs.ReadBackLaws.{NoPartOfPart, cuts_each}
use Rattle.sial_meaning.specs.Sight.{cuts, is_pieces_of, stands_for, itself_or, position, places_at, lengths}
use Rattle.sial_meaning.proofs.AcceptedInOtherWords.Pairs.{never, first-holds, second-holds, both-hold, not-so}
use Rattle.sial_meaning.proofs.AssignmentsReadBack.Places.{Beside, either-holds, or-left, or-right, beside-in, beside-turned, beside-once, beside-some, find-one, find-none}

-- the places of a tuple are the indices beside its whole positions
pub places-zip : (at : List ℕ) (es : List Extent) (tuple : List ℕ) → places_at (zip at es) tuple ≡ zip at (whole_positions es tuple)
places-zip [] es tuple = refl
places-zip (i ∷ is) [] tuple = refl
places-zip (i ∷ is) (e ∷ es) [] = refl
places-zip (i ∷ is) (e ∷ es) (k ∷ ks) = ap (λ rest. (i, e.start + k) ∷ rest) (places-zip is es ks)

-- an index that stands among places has the position beside it
pub position-named : (spaces : Spaces) (own ts ps : List ℕ) (t p : ℕ) → has_twice ts ≡ false → Beside ts ps t p → position spaces own (zip ts ps) t ≡ p
position-named spaces own ts ps t p once at =
    ap
    (λ x. itself_or x (find (λ (q : ℕ × ℕ). stands_for spaces own t q.0) (zip ts ps)))
    (find-one (λ u. u == t) ts ps t p once at (λ u in-ts same. eqb-true u t same) (eq-eqb t t refl))

-- an index that doesn't stand among places has the position beside the one that stands for it
pub position-part : (spaces : Spaces) (own ts ps : List ℕ) (s t p : ℕ) → has_twice ts ≡ false → Beside ts ps t p → ((u : ℕ) → contains ts u ≡ true → (u == s) ≡ false) →
    ((u : ℕ) → contains ts u ≡ true → stands_for spaces own s u ≡ true → u ≡ t) → stands_for spaces own s t ≡ true → position spaces own (zip ts ps) s ≡ p
position-part spaces own ts ps s t p once at apart one is =
    ap (λ x. itself_or x (find (λ (q : ℕ × ℕ). stands_for spaces own s q.0) (zip ts ps))) (find-none (λ u. u == s) ts ps apart)
    ∙ ap (itself_or None) (find-one (stands_for spaces own s) ts ps t p once at one is)

-- an index cuts one other
pub cuts-span : (x : Span) (s : ℕ) → is_pieces_of x s ≡ true → x ≡ Pieces s
cuts-span (Segments kind first count) s is = absurd (never is)
cuts-span (Pieces super) s is = ap Pieces (eqb-true super s is)

pieces-same : (a b : ℕ) → is_pieces_of (Pieces a) b ≡ true → a ≡ b
pieces-same a b is = eqb-true a b is

-- an index cuts at most one
pub cuts-one : (spaces : Spaces) (u s t : ℕ) → cuts spaces u s ≡ true → cuts spaces u t ≡ true → s ≡ t
cuts-one spaces u s t first second =
    pieces-same s t (ap (λ x. is_pieces_of x t) (sym (cuts-span (span_of spaces u) s first)) ∙ second)

-- parts and wholes go side by side
pub cuts-beside : (spaces : Spaces) (xs ws : List ℕ) (x w : ℕ) → cuts_each spaces xs ws ≡ true → Beside xs ws x w → (x ≡ w) ⊎ (cuts spaces x w ≡ true)
unfolding Beside
cuts-beside spaces [] ws x w cut at = absurd at
cuts-beside spaces (a ∷ as') [] x w cut at = absurd at
cuts-beside spaces (a ∷ as') (b ∷ bs) x w cut (inl e) =
    elim (either-holds (a == b) (cuts spaces a b) (first-holds ((a == b) || cuts spaces a b) (cuts_each spaces as' bs) cut)) as (λ q. (x ≡ w) ⊎ (cuts spaces x w ≡ true)) [
      | inl same ↦ inl (sym e.0 ∙ (eqb-true a b same ∙ e.1))
      | inr is ↦ inr (ap (λ y. cuts spaces y w) (sym e.0) ∙ (ap (cuts spaces a) (sym e.1) ∙ is))
    ]
cuts-beside spaces (a ∷ as') (b ∷ bs) x w cut (inr at) = cuts-beside spaces as' bs x w (second-holds ((a == b) || cuts spaces a b) (cuts_each spaces as' bs) cut) at

-- parts and wholes are equally many
pub cuts-long : (spaces : Spaces) (xs ws : List ℕ) → cuts_each spaces xs ws ≡ true → length xs ≡ length ws
cuts-long spaces [] [] cut = refl
cuts-long spaces [] (w ∷ ws) cut = absurd (never cut)
cuts-long spaces (x ∷ xs) [] cut = absurd (never cut)
cuts-long spaces (x ∷ xs) (w ∷ ws) cut = ap suc (cuts-long spaces xs ws (second-holds ((x == w) || cuts spaces x w) (cuts_each spaces xs ws) cut))

-- what stands for an index isn't named, and cuts it or is cut by it
stands-parts : (spaces : Spaces) (own : List ℕ) (s u : ℕ) → stands_for spaces own s u ≡ true → (contains own u ≡ false) × ((cuts spaces u s ≡ true) ⊎ (cuts spaces s u ≡ true))
stands-parts spaces own s u is =
    let first = first-holds (not (contains own u)) (cuts spaces u s || cuts spaces s u) is in
    let second = second-holds (not (contains own u)) (cuts spaces u s || cuts spaces s u) is in
    (not-so (contains own u) first, either-holds (cuts spaces u s) (cuts spaces s u) second)

fails-not : (b : Bool) → b ≡ false → not b ≡ true
fails-not true is = absurd (never (sym is))
fails-not false is = refl

stands-made : (spaces : Spaces) (own : List ℕ) (s u : ℕ) → (contains own u ≡ true → ⊥) → (cuts spaces u s || cuts spaces s u) ≡ true → stands_for spaces own s u ≡ true
stands-made spaces own s u fails is =
    both-hold (not (contains own u)) (cuts spaces u s || cuts spaces s u) (fails-not (contains own u) (false_from_ne_true (contains own u) fails)) is

-- a slice's source: the position of each index is that beside the target's
pub slice-position : (spaces : Spaces) (ts ss ps : List ℕ) (s t p : ℕ) → NoPartOfPart spaces → has_twice ts ≡ false → has_twice ss ≡ false → cuts_each spaces ts ss ≡ true →
    Beside ts ss t s → Beside ts ps t p → position spaces ss (zip ts ps) s ≡ p
slice-position spaces ts ss ps s t p whole once-t once-s cut beside at =
    elim (cuts-beside spaces ts ss t s cut beside) as (λ q. position spaces ss (zip ts ps) s ≡ p) [
      | inl same ↦ ap (position spaces ss (zip ts ps)) (sym same) ∙ position-named spaces ss ts ps t p once-t at
      | inr is ↦
          elim (t == s) as (λ b. (t == s) ≡ b → position spaces ss (zip ts ps) s ≡ p) [
            | true ↦ λ e. ap (position spaces ss (zip ts ps)) (sym (eqb-true t s e)) ∙ position-named spaces ss ts ps t p once-t at
            | false ↦ λ e.
                let long = cuts-long spaces ts ss cut in
                let turned = beside-turned ts ss t s beside in
                position-part spaces ss ts ps s t p once-t at
                (λ u in-ts. ne_eqb u s (λ same.
                let other = beside-some ts ss u long in-ts in
                elim (cuts-beside spaces ts ss u other.0 cut other.1) as (λ q. ⊥) [
                  | inl equal ↦ never (sym e ∙ eq-eqb t s (beside-once ss ts s t u once-s turned (subst (λ v. Beside ss ts v u) (sym equal ∙ same) (beside-turned ts ss u other.0 other.1)) ∙ same))
                  | inr part ↦ whole t s other.0 is (subst (λ v. cuts spaces v other.0 ≡ true) same part)
                ]))
                (λ u in-ts stands.
                let parts = stands-parts spaces ss s u stands in
                let other = beside-some ts ss u long in-ts in
                elim (cuts-beside spaces ts ss u other.0 cut other.1) as (λ q. u ≡ t) [
                  | inl equal ↦ absurd (never (sym parts.0 ∙ (ap (contains ss) equal ∙ beside-in ss ts other.0 u (beside-turned ts ss u other.0 other.1))))
                  | inr part ↦
                      elim parts.1 as (λ q. u ≡ t) [
                        | inl under ↦ beside-once ss ts s u t once-s (subst (λ v. Beside ss ts v u) (cuts-one spaces u other.0 s part under) (beside-turned ts ss u other.0 other.1)) turned
                        | inr above ↦ absurd (whole t s u is above)
                      ]
                ])
                (stands-made spaces ss s t
                (λ named.
                let other = beside-some ss ts t (sym long) named in
                elim (cuts-beside spaces ts ss other.0 t cut (beside-turned ss ts t other.0 other.1)) as (λ q. ⊥) [
                  | inl equal ↦ never (sym e ∙ eq-eqb t s (beside-once ts ss t t s once-t (subst (λ v. Beside ts ss v t) equal (beside-turned ss ts t other.0 other.1)) beside))
                  | inr part ↦ whole other.0 t s part is
                ])
                (or-left (cuts spaces t s) (cuts spaces s t) is))
          ] refl
    ]

-- an inserted source: the position of each index is that beside the target's
pub insert-position : (spaces : Spaces) (ts ss ps : List ℕ) (s t p : ℕ) → NoPartOfPart spaces → has_twice ts ≡ false → has_twice ss ≡ false → cuts_each spaces ss ts ≡ true →
    Beside ts ss t s → Beside ts ps t p → position spaces ss (zip ts ps) s ≡ p
insert-position spaces ts ss ps s t p whole once-t once-s cut beside at =
    let turned = beside-turned ts ss t s beside in
    elim (cuts-beside spaces ss ts s t cut turned) as (λ q. position spaces ss (zip ts ps) s ≡ p) [
      | inl same ↦ ap (position spaces ss (zip ts ps)) same ∙ position-named spaces ss ts ps t p once-t at
      | inr is ↦
          elim (t == s) as (λ b. (t == s) ≡ b → position spaces ss (zip ts ps) s ≡ p) [
            | true ↦ λ e. ap (position spaces ss (zip ts ps)) (sym (eqb-true t s e)) ∙ position-named spaces ss ts ps t p once-t at
            | false ↦ λ e.
                let long = cuts-long spaces ss ts cut in
                position-part spaces ss ts ps s t p once-t at
                (λ u in-ts. ne_eqb u s (λ same.
                let other = beside-some ts ss u (sym long) in-ts in
                elim (cuts-beside spaces ss ts other.0 u cut (beside-turned ts ss u other.0 other.1)) as (λ q. ⊥) [
                  | inl equal ↦ never (sym e ∙ eq-eqb t s (beside-once ss ts s t u once-s turned (subst (λ v. Beside ss ts v u) (equal ∙ same) (beside-turned ts ss u other.0 other.1)) ∙ same))
                  | inr part ↦ whole other.0 s t (subst (λ v. cuts spaces other.0 v ≡ true) same part) is
                ]))
                (λ u in-ts stands.
                let parts = stands-parts spaces ss s u stands in
                elim parts.1 as (λ q. u ≡ t) [
                  | inl under ↦ absurd (whole u s t under is)
                  | inr above ↦ cuts-one spaces s u t above is
                ])
                (stands-made spaces ss s t
                (λ named.
                let other = beside-some ss ts t long named in
                elim (cuts-beside spaces ss ts t other.0 cut other.1) as (λ q. ⊥) [
                  | inl equal ↦ never (sym e ∙ eq-eqb t s (beside-once ts ss t t s once-t (subst (λ v. Beside ts ss v t) (sym equal) (beside-turned ss ts t other.0 other.1)) beside))
                  | inr part ↦ whole s t other.0 is part
                ])
                (or-right (cuts spaces t s) (cuts spaces s t) is))
          ] refl
    ]

-- position by position, where each index has the position beside the target's
pub positions-beside : (spaces : Spaces) (own ts ps : List ℕ) (ss us qs : List ℕ) → length ss ≡ length us → length us ≡ length qs
    → ((s u q : ℕ) → Beside us ss u s → Beside us qs u q → position spaces own (zip ts ps) s ≡ q)
    → map (position spaces own (zip ts ps)) ss ≡ qs
unfolding Beside
positions-beside spaces own ts ps [] [] [] long longer same = refl
positions-beside spaces own ts ps [] [] (q ∷ qs) long longer same = absurd (omega (arith, longer))
positions-beside spaces own ts ps [] (u ∷ us) qs long longer same = absurd (omega (arith, long))
positions-beside spaces own ts ps (s ∷ ss) [] qs long longer same = absurd (omega (arith, long))
positions-beside spaces own ts ps (s ∷ ss) (u ∷ us) [] long longer same = absurd (omega (arith, longer))
positions-beside spaces own ts ps (s ∷ ss) (u ∷ us) (q ∷ qs) long longer same =
    ap (λ x. x ∷ map (position spaces own (zip ts ps)) ss) (same s u q (inl (refl, refl)) (inl (refl, refl)))
    ∙ ap (λ rest. q ∷ rest)
    (positions-beside spaces own ts ps ss us qs (omega (arith, long)) (omega (arith, longer)) (λ x y z at beside. same x y z (inr at) (inr beside)))

-- a tuple of a box has a whole position for each length
pub whole-long : (es : List Extent) (tuple : List ℕ) → IsTupleOf (lengths es) tuple → length (whole_positions es tuple) ≡ length es
whole-long [] tuple is = refl
whole-long (e ∷ es) [] is = absurd is
whole-long (e ∷ es) (k ∷ ks) is = ap suc (whole-long es ks is.1)

-- What is left of an iteration stands where the rules grant it, and its bodies keep the numbers of their indices.
use Rattle.std.proofs.Common.{◌≡◌, ℕ, ◌+◌, ◌-◌, ◌<◌, List, [], ◌∷◌, ◌++◌, Bool, false, length, refl, sym, ap, ◌∙◌, subst, inl, inr, append_assoc, append-nil, IsTrue}
use Rattle.sial_syntax.proofs.AmongLemmas.{Among, among_left, among_right}
use Rattle.sial_syntax.specs.Agreeing.{share_any}
use Rattle.sial_syntax.specs.Numbering.{size}
use Rattle.sial_syntax.specs.Parts.{indices_bound}
use Rattle.sial_syntax.specs.Proper.{proper_body, proper_form}
use Rattle.sial_syntax.specs.Sides.{called_by}
use Rattle.sial_syntax.specs.Tree.{Block, End, Then, Plain}
use Rattle.sial_syntax.specs.Visits.{Visit, visits, inner_visits}
use Rattle.sial_meaning.specs.Control.{depth_left}
use Rattle.sial_meaning.specs.Deeds.{Deed}
use Rattle.sial_meaning.specs.Meaning.{block_meaning, calls, call_depth}
use Rattle.sial_meaning.specs.Own.{Own}
use Rattle.sial_meaning.specs.Ran.{View, Ran, Through, Broke, outcome_in, behind, and_so, statement_ran, block_ran, form_ran, calls_ran}
use Rattle.sial_meaning.specs.Rest.{Rest, Over, Next, Turn, Join, Back, Within, push}
use Rattle.sial_meaning.specs.Setting.{Setting}
use Rattle.sial_meaning.specs.Sound.{IsGrantedSetting}
use Rattle.sial_meaning.specs.State.{State}
use Rattle.sial_meaning.specs.Statement.{Went, Copied, statement}
use Rattle.sial_meaning.specs.ToCome.{rest_ran}
use Rattle.sial_meaning.proofs.PardosKeepTheControl.Statement.{Calm}
use Rattle.sial_meaning.proofs.CourseFollowsTheFold.Stand.{CalledWithin}
use Rattle.sial_meaning.proofs.IterationsAreTheirDeeds.Fold.{block_is, calls_are}
use Rattle.sial_meaning.proofs.IterationsAreTheirDeeds.Statement.{statement_is}
use Rattle.sial_meaning.proofs.StepsReachTheFold.BoundNumbers.{Kept, kept_went, calls_go, block_kept}
use Rattle.sial_meaning.proofs.StepsReachTheFold.KeptNumbers.{GoesWith, statement_goes}
use Rattle.sial_meaning.proofs.StepsReachTheFold.Rules.{Unbroken, both, unbroken_cons, unbroken_append, unbound_there}
use Rattle.sial_meaning.proofs.StepsReachTheFold.Turns.{depth_pushed}

-- nothing before
pub behind_none : (x : Ran) → behind [] x ≡ x
behind_none (Through ds own) = refl
behind_none (Broke ds trap own) = refl

-- some deeds before, and others before those
pub behind_append : (a b : List Deed) (x : Ran) → behind (a ++ b) x ≡ behind a (behind b x)
behind_append a b (Through ds own) = ap (λ es. Through es own) (append_assoc a b ds)
behind_append a b (Broke ds trap own) = ap (λ es. Broke es trap own) (append_assoc a b ds)

-- what follows deeds that were done
and_behind : (ds : List Deed) (x : Ran) (f : Own → Ran) → and_so (behind ds x) f ≡ behind ds (and_so x f)
and_behind ds (Through es own) f = behind_append ds es (f own)
and_behind ds (Broke es trap own) f = refl

-- one thing after another, and then a third
pub and_and : (x : Ran) (f h : Own → Ran) → and_so (and_so x f) h ≡ and_so x (λ o. and_so (f o) h)
and_and (Through ds own) f h = and_behind ds (f own) h
and_and (Broke ds trap own) f h = refl

-- one thing and nothing more
pub and_none : (x : Ran) → and_so x (Through []) ≡ x
and_none (Through ds own) = ap (λ es. Through es own) (append-nil ds)
and_none (Broke ds trap own) = refl

-- what follows is the same wherever the first thing leads
pub and_same : (x : Ran) (f h : Own → Ran) → ((ds : List Deed) (o : Own) → x ≡ Through ds o → f o ≡ h o) → and_so x f ≡ and_so x h
and_same (Through ds own) f h e = ap (behind ds) (e ds own refl)
and_same (Broke ds trap own) f h e = refl

-- statements before the rest
pub pushed_ran : (g : Setting) (v : View) (at : ℕ) (body : Block) (rest : Rest) (own : Own) → rest_ran g v (push at body rest) own ≡ and_so (block_ran g v (calls_ran g v (depth_left rest)) body own) (rest_ran g v rest)
pushed_ran g v at End rest own = sym (behind_none (rest_ran g v rest own))
pushed_ran g v at (Then line form more) rest own =
    ap (λ d. and_so (form_ran g v (calls_ran g v (call_depth - d)) line form own) (rest_ran g v (push (at + size form) more rest))) (depth_pushed (at + size form) more rest)
    ∙ (and_same
    (form_ran g v (calls_ran g v (depth_left rest)) line form own)
    (rest_ran g v (push (at + size form) more rest))
    (λ o. and_so (block_ran g v (calls_ran g v (depth_left rest)) more o) (rest_ran g v rest))
    (λ ds o e. pushed_ran g v (at + size form) more rest o)
    ∙ sym (and_and (form_ran g v (calls_ran g v (depth_left rest)) line form own) (block_ran g v (calls_ran g v (depth_left rest)) more) (rest_ran g v rest)))

-- a state that an iteration sees so
abbrev bare : View → Own → State
bare v own = record { own = own; partials = []; shared = v.copies; copies = v.copies; epochs = v.epochs; lines = []; log = [] }

-- where an outcome went, and what the worker held there
went_own : (s : State) (x : Ran) (ds : List Deed) (o : Own) → x ≡ Through ds o → (t : State) × (outcome_in s x ≡ Went t) × (t.own ≡ o)
went_own s x ds o e = (_, ap (outcome_in s) e, refl)

module _ (g : Setting) (set : IsGrantedSetting g) where
  -- statements that stand inside a pardo, where these indices are bound
  pub record BodyIn (indices : List ℕ) (within : Bool) (body : Block) : Type 0 where
    pub proper : IsTrue (proper_body g.program body)
    pub unbroken : Unbroken g.program (visits indices within body)
    pub calm : (v : Visit) → Among v (visits indices within body) → Calm g v.form × ((q : ℕ) → Among q (called_by v.form) → CalledWithin g set q)

  -- a statement that stands so
  pub record FormIn (indices : List ℕ) (within : Bool) (form : Plain) : Type 0 where
    pub proper : IsTrue (proper_form g.program form)
    pub out : share_any (indices_bound form) indices ≡ false
    pub unbroken : Unbroken g.program (inner_visits indices within form)
    pub here : Calm g form × ((q : ℕ) → Among q (called_by form) → CalledWithin g set q)
    pub calm : (v : Visit) → Among v (inner_visits indices within form) → Calm g v.form × ((q : ℕ) → Among q (called_by v.form) → CalledWithin g set q)

  -- all that is left of an iteration stands so
  abbrev pub RestIn : Rest → Type 0
  RestIn (Over at) = ⊥
  RestIn (Next at line form rest) = ((indices : List ℕ) × (within : Bool) × FormIn indices within form) × RestIn rest
  RestIn (Turn loop last rest) = ((indices : List ℕ) × (within : Bool) × BodyIn (loop.index ∷ indices) within loop.body × (loop.index < length g.program.indices)) × RestIn rest
  RestIn (Join at rest) = RestIn rest
  RestIn (Back at values rest) = (length values ≡ length g.program.indices) × RestIn rest
  RestIn (Within pardo number rest) = Unit {0}

  -- there are as many numbers as indices
  abbrev pub AsMany : Own → Type 0
  AsMany own = length own.values ≡ length g.program.indices

  -- the first of some statements
  pub first_in : (indices : List ℕ) (within : Bool) (line : ℕ) (form : Plain) (rest : Block) → BodyIn indices within (Then line form rest) → FormIn indices within form × BodyIn indices within rest
  first_in indices within line form rest b =
      let here : Visit = record { line = line; form = form; bound = indices; within = within } in
      let parts = both (proper_form g.program form) (proper_body g.program rest) b.proper in
      let first = unbroken_cons g.program here (inner_visits indices within form ++ visits indices within rest) b.unbroken in
      let inner = unbroken_append g.program (inner_visits indices within form) (visits indices within rest) first.1 in (
        record {
          proper = parts.0;
          out = unbound_there g.program here first.0;
          unbroken = inner.0;
          here = b.calm here (inl refl);
          calm = λ v m. b.calm v (inr (among_left v (inner_visits indices within form) (visits indices within rest) m));
        },
        record {
          proper = parts.1;
          unbroken = inner.1;
          calm = λ v m. b.calm v (inr (among_right v (inner_visits indices within form) (visits indices within rest) m));
        },
      )

  -- statements before the rest
  pub pushed_in : (indices : List ℕ) (within : Bool) (at : ℕ) (body : Block) (rest : Rest) → BodyIn indices within body → RestIn rest → RestIn (push at body rest)
  pushed_in indices within at End rest b r = r
  pushed_in indices within at (Then line form more) rest b r =
      let first = first_in indices within line form more b in ((indices, within, first.0), pushed_in indices within (at + size form) more rest first.1 r)

  -- a body leaves the numbers of the indices that are bound there
  pub body_keeps : (v : View) (d : ℕ) (indices : List ℕ) (within : Bool) (body : Block) → BodyIn indices within body → (own o : Own) (ds : List Deed) → block_ran g v (calls_ran g v d) body own ≡ Through ds o → Kept indices own o
  body_keeps v d indices within body b own o ds e =
      let s : State = bare v own in
      let went = went_own s (block_ran g v (calls_ran g v d) body own) ds o e in
      let same : block_meaning Copied g (calls Copied g d) body s ≡ Went went.0 =
      block_is g (calls Copied g d) (λ v. calls_ran g v d) indices within body (λ v m. let calm = b.calm v m in (calm.0, λ q c. calls_are g set d q (calm.1 q c))) s ∙ went.1 in
      subst
      (λ (x : Own). Kept indices own x)
      went.2
      (kept_went indices own (block_meaning Copied g (calls Copied g d) body s) went.0 (block_kept Copied g (calls Copied g d) (calls_go Copied g d) indices within body b.unbroken s) same)

  -- a statement leaves all numbers
  pub statement_keeps : (v : View) (line : ℕ) (form : Plain) → Calm g form → (own o : Own) (ds : List Deed) → statement_ran g v line form own ≡ Through ds o → o.values ≡ own.values
  statement_keeps v line form calm own o ds e =
      let s : State = bare v own in
      let went = went_own s (statement_ran g v line form own) ds o e in
      let same : statement Copied g line form s ≡ Went went.0 = statement_is g line form calm s ∙ went.1 in
      subst (λ (x : Own). x.values ≡ own.values) went.2 (subst (GoesWith own.values) same (statement_goes Copied g line form s))

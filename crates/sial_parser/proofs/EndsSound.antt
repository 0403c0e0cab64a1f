-- What is read behind an end word stands with its words; so do the lines of `where`.
use Rattle.std.proofs.Common.{◌≡◌, ℕ, zero, suc, List, [], ◌∷◌, ◌++◌, Bool, true, false, cond, Option, Some, None, Result, Ok, Err, refl, sym, ap, ◌∙◌, subst, append_assoc, append-nil}
use Rattle.std.specs.Str.{bytes_eq}
use Rattle.std.proofs.lemmas.Bool.{eqb-true}
use Rattle.sial_syntax.specs.declared.condition.Cond.{Cond}
use Rattle.sial_parser.specs.Grammar.{at, sign_at, is_where, AreIndices, IsNamedEnd, IsListedEnd, IsCond, AreWheres}
use Rattle.sial_parser.specs.Parsing.{◌>>=◌, unexpected, line_of, skip, goes_on, is_line_end, is_comma, is_index, named_end, named_end_by, listed, listed_more, listed_end, condition, wheres}
use Rattle.sial_parser.specs.Scope.{Scope, thing_of, IsIndex}
use Rattle.sial_parser.specs.declared.fault.ParseFault.{ParseFault}
use Rattle.sial_parser.specs.declared.fault.ParseFault.TheVariants.{EndName}
use Rattle.sial_parser.specs.declared.keyword.Keyword.TheVariants as key
use Rattle.sial_parser.specs.declared.sign.Sign.TheVariants as sign
use Rattle.sial_parser.specs.declared.thing.Thing.{Thing}
use Rattle.sial_parser.specs.declared.thing.Thing.TheVariants as thing
use Rattle.sial_parser.specs.declared.word.Symbol.{Symbol}
use Rattle.sial_parser.specs.declared.word.Symbol.TheVariants.{Key, Name, LineEnd}
use Rattle.sial_parser.specs.declared.word.Word.{Word}
use Rattle.sial_parser.proofs.OperandsSound.{same_bytes, condition_right}
use Rattle.sial_parser.proofs.Shapes.{where_shape, where_empty}
use Rattle.sial_parser.proofs.Rights.{Right, right_then, right_map, Good, name_good, skip_last, Says, line_end_says, comma_says}

-- [name] NL
end_named : (opener x : List ℕ) (l : ℕ) (ws : List Word) (b : Bool) → bytes_eq x opener ≡ b → Good (λ rest. IsNamedEnd opener (at l (Name x) ∷ ws) rest) (cond b (skip is_line_end ws) (Err (EndName l)))
end_named opener x l ws true e = skip_last is_line_end LineEnd line_end_says (λ w. w ≡ ws) (λ rest. IsNamedEnd opener (at l (Name x) ∷ ws) rest) ws refl
    (λ k rest h. subst (λ (w : List Word). IsNamedEnd opener (at l (Name x) ∷ w) rest) h (subst (λ (y : List ℕ). IsNamedEnd opener (at l (Name y) ∷ at k LineEnd ∷ rest) rest) (sym (same_bytes x opener e)) IsNamedEnd.named))
end_named opener x l ws false e = tt

end_symbol : (opener : List ℕ) (what : Symbol) (l : ℕ) (ws : List Word) → Good (λ rest. IsNamedEnd opener (at l what ∷ ws) rest) (named_end_by opener what (at l what) ws)
end_symbol opener LineEnd l ws = IsNamedEnd.bare
end_symbol opener (Name x) l ws = end_named opener x l ws (bytes_eq x opener) refl
end_symbol opener _ l ws = tt

pub named_end_right : (opener : List ℕ) (ws : List Word) → Good (λ rest. IsNamedEnd opener ws rest) (named_end opener ws)
unfolding named_end
named_end_right opener [] = tt
named_end_right opener (w ∷ ws) = end_symbol opener w.symbol w.line ws

-- a comma, or a line end, behind what was read before
module _ {X : Type 0} (test : Symbol → Bool) (what : Symbol) (says : Says test what) (H : List Word → Type 0) (P : X → Type 0) where
  good_going : (b c : Bool) (w : Word) (ws : List Word) (f : Bool × List Word → Result X ParseFault) → is_comma w.symbol ≡ b → test w.symbol ≡ c → H (w ∷ ws)
      → ((l : ℕ) (rest : List Word) → H (sign_at l sign.Comma ∷ rest) → Good P (f (true, rest))) → ((l : ℕ) (rest : List Word) → H (at l what ∷ rest) → Good P (f (false, rest)))
      → Good P (cond b (Ok (true, ws)) (cond c (Ok (false, ws)) (unexpected (w ∷ ws))) >>= f)
  good_going true c w ws f d e h more last = more w.line ws (subst (λ (s : Symbol). H (at w.line s ∷ ws)) (comma_says w.symbol d) h)
  good_going false true w ws f d e h more last = last w.line ws (subst (λ (s : Symbol). H (at w.line s ∷ ws)) (says w.symbol e) h)
  good_going false false w ws f d e h more last = tt

  pub goes_on_good : (ws : List Word) (f : Bool × List Word → Result X ParseFault) → H ws → ((l : ℕ) (rest : List Word) → H (sign_at l sign.Comma ∷ rest) → Good P (f (true, rest))) → ((l : ℕ) (rest : List Word) → H (at l what ∷ rest) → Good P (f (false, rest)))
      → Good P (goes_on test ws >>= f)
  unfolding goes_on
  goes_on_good [] f h more last = tt
  goes_on_good (w ∷ ws) f h more last = good_going (is_comma w.symbol) (test w.symbol) w ws f refl refl h more last

module _ (s : Scope) where
  by_thing : (i : ℕ) (x : List ℕ) (t : Option Thing) → thing_of s x ≡ t → is_index i t ≡ true → IsIndex s x i
  by_thing i x (Some (thing.Index j)) e h = e ∙ ap (λ k. Some (thing.Index k)) (sym (eqb-true i j h))
  by_thing i x (Some (thing.Array j)) e h = absurd cc
  by_thing i x (Some (thing.Scalar j)) e h = absurd cc
  by_thing i x (Some (thing.Proc j)) e h = absurd cc
  by_thing i x None e h = absurd cc

  -- no name is left
  listed_none : (ws : List Word) → Good (λ rest. AreIndices s LineEnd [] ws rest) (listed s [] ws)
  unfolding listed
  listed_none ws = name_good (λ w. Unit {0}) (λ rest. AreIndices s LineEnd [] ws rest) ws _ tt (λ l x rest h. tt)

  -- a line end behind the last name
  listed_last : (is : List ℕ) (i : ℕ) (x : List ℕ) (l k : ℕ) (start rest ws : List Word) (go : List Word → Result (List Word) ParseFault) → IsIndex s x i → at l (Name x) ∷ at k LineEnd ∷ rest ≡ start
      → Good (λ rest. AreIndices s LineEnd (i ∷ is) start rest) (listed_more is false rest go ws)
  listed_last [] i x l k start rest ws go index words = subst (λ (w : List Word). AreIndices s LineEnd (i ∷ []) w rest) words (AreIndices.last index)
  listed_last (j ∷ is) i x l k start rest ws go index words = tt

  -- the others behind a comma
  listed_others : (is : List ℕ) (i : ℕ) (x : List ℕ) (l k : ℕ) (start rest : List Word) (r : Result (List Word) ParseFault) → Good (λ rest2. AreIndices s LineEnd is rest rest2) r → IsIndex s x i → at l (Name x) ∷ sign_at k sign.Comma ∷ rest ≡ start
      → Good (λ rest2. AreIndices s LineEnd (i ∷ is) start rest2) r
  listed_others is i x l k start rest (Ok rest2) h index words = subst (λ (w : List Word). AreIndices s LineEnd (i ∷ is) w rest2) words (AreIndices.more index h)
  listed_others is i x l k start rest (Err fault) h index words = tt

  -- one more name, and what follows it
  listed_one : (i : ℕ) (is : List ℕ) (x : List ℕ) (l : ℕ) (start ws : List Word) (line : ℕ) (b : Bool) → is_index i (thing_of s x) ≡ b → at l (Name x) ∷ ws ≡ start → ((rest : List Word) → Good (λ rest2. AreIndices s LineEnd is rest rest2) (listed s is rest))
      → Good (λ rest. AreIndices s LineEnd (i ∷ is) start rest) (cond b (goes_on is_line_end ws >>= λ y. listed_more is y.0 y.1 (listed s is) ws) (Err (EndName line)))
  listed_one i is x l start ws line false e words others = tt
  listed_one i is x l start ws line true e words others =
      let index : IsIndex s x i = by_thing i x (thing_of s x) refl e in
      goes_on_good is_line_end LineEnd line_end_says (λ w. at l (Name x) ∷ w ≡ start) (λ rest. AreIndices s LineEnd (i ∷ is) start rest) ws _ words
      (λ k rest h. listed_others is i x l k start rest (listed s is rest) (others rest) index h)
      (λ k rest h. listed_last is i x l k start rest ws (listed s is) index h)

  listed_right : (is : List ℕ) (ws : List Word) → Good (λ rest. AreIndices s LineEnd is ws rest) (listed s is ws)
  unfolding listed
  listed_right [] ws = listed_none ws
  listed_right (i ∷ is) ws = name_good (λ w. w ≡ ws) (λ rest. AreIndices s LineEnd (i ∷ is) ws rest) ws _ refl (λ l x rest h. listed_one i is x l ws rest (line_of ws) (is_index i (thing_of s x)) refl h (λ rest2. listed_right is rest2))

  as_listed : (is : List ℕ) (ws : List Word) (r : Result (List Word) ParseFault) → Good (λ rest. AreIndices s LineEnd is ws rest) r → Good (λ rest. IsListedEnd s is ws rest) r
  as_listed is ws (Ok rest) h = IsListedEnd.listed h
  as_listed is ws (Err fault) h = tt

  listed_by : (is : List ℕ) (w : Word) (ws : List Word) (b : Bool) → is_line_end w.symbol ≡ b → Good (λ rest. IsListedEnd s is (w ∷ ws) rest) (cond b (Ok ws) (listed s is (w ∷ ws)))
  listed_by is w ws true e = subst (λ (what : Symbol). IsListedEnd s is (at w.line what ∷ ws) ws) (sym (line_end_says w.symbol e)) IsListedEnd.bare
  listed_by is w ws false e = as_listed is (w ∷ ws) (listed s is (w ∷ ws)) (listed_right is (w ∷ ws))

  pub listed_end_right : (is : List ℕ) (ws : List Word) → Good (λ rest. IsListedEnd s is ws rest) (listed_end s is ws)
  unfolding listed_end
  listed_end_right is [] = tt
  listed_end_right is (w ∷ ws) = listed_by is w ws (is_line_end w.symbol) refl

  where_says : Says is_where (Key key.Where)
  where_says (Key key.Where) e = refl
  where_says _ e = absurd cc

  wheres_by : (b : Bool) (n : ℕ) (front : List Cond) (w : Word) (ws : List Word) → is_where w.symbol ≡ b
      → ((more : List Cond) (rest : List Word) → Right (λ cs rest2. (m : List Cond) × (cs ≡ more ++ m) × AreWheres s m rest rest2) (wheres s n more rest))
      → Right (λ cs rest. (m : List Cond) × (cs ≡ front ++ m) × AreWheres s m (w ∷ ws) rest) (cond b (condition s ws >>= λ c. wheres s n (front ++ c.0 ∷ []) c.1) (Ok (front, w ∷ ws)))
  wheres_by true n front w ws e others =
      right_then (λ c rest. IsCond s c ws rest) (λ cs rest. (m : List Cond) × (cs ≡ front ++ m) × AreWheres s m (w ∷ ws) rest) (condition s ws) _ (condition_right s ws) (λ c rest h.
      right_map (λ cs rest2. (m : List Cond) × (cs ≡ (front ++ c ∷ []) ++ m) × AreWheres s m rest rest2) (λ cs rest2. (m : List Cond) × (cs ≡ front ++ m) × AreWheres s m (w ∷ ws) rest2) (wheres s n (front ++ c ∷ []) rest)
      (λ cs rest2 m. (c ∷ m.0, m.1 ∙ append_assoc front (c ∷ []) m.0, subst (λ (what : Symbol). AreWheres s (c ∷ m.0) (at w.line what ∷ ws) rest2) (sym (where_says w.symbol e)) (AreWheres.more h m.2)))
      (others (front ++ c ∷ []) rest))
  wheres_by false n front w ws e others = ([], sym (append-nil front), AreWheres.none e)

  wheres_last : (n : ℕ) (front : List Cond) → Right (λ cs rest. (m : List Cond) × (cs ≡ front ++ m) × AreWheres s m [] rest) (wheres s (suc n) front [])
  wheres_last n front = subst (Right (λ cs rest. (m : List Cond) × (cs ≡ front ++ m) × AreWheres s m [] rest)) (sym (where_empty s n front)) tt

  pub wheres_right : (n : ℕ) (front : List Cond) (ws : List Word) → Right (λ cs rest. (m : List Cond) × (cs ≡ front ++ m) × AreWheres s m ws rest) (wheres s n front ws)
  unfolding wheres
  wheres_right zero front ws = tt
  wheres_right (suc n) front [] = wheres_last n front
  wheres_right (suc n) front (w ∷ ws) =
      subst (Right (λ cs rest. (m : List Cond) × (cs ≡ front ++ m) × AreWheres s m (w ∷ ws) rest)) (sym (where_shape s n front w ws)) (wheres_by (is_where w.symbol) n front w ws refl (λ more rest. wheres_right n more rest))

-- The lines of a statement stand with it, but for the lines that are kept in it.
use Rattle.std.proofs.Common.{◌≡◌, ℕ, ◌+◌, List, [], ◌∷◌, ◌++◌, true, map, length, Some, refl, sym, ap, ◌∙◌, subst}
use Rattle.std.specs.Prelude.{IsTrue}
use Rattle.sial_syntax.specs.Names.{is_name}
use Rattle.sial_syntax.specs.Tree.{Tree, Block, Then, Plain, Do, DoIn, Pardo, If, IfElse, Allocate, Deallocate}
use Rattle.sial_parser.specs.declared.keyword.Keyword.TheVariants as key
use Rattle.sial_parser.specs.declared.sign.Sign.TheVariants as sign
use Rattle.sial_parser.specs.declared.word.Symbol.{Symbol}
use Rattle.sial_parser.specs.declared.word.Symbol.TheVariants.{Key, Name, Number, Quoted}
use Rattle.sial_parser.specs.declared.word.Symbol.TheVariants as symbol
use Rattle.sial_parser.specs.Grammar.{at, sign_at, ends_body, IsNamedEnd, IsListedEnd, AreWheres, IsStatement, IsBody}
use Rattle.sial_parser.specs.Scope.{Scope, thing_of}
use Rattle.sial_parser.specs.Sound.{AreSound}
use Rattle.sial_parser.specs.declared.thing.Thing.{Thing}
use Rattle.sial_parser.specs.declared.thing.Thing.TheVariants as thing
use Rattle.sial_parser.specs.declared.word.Symbol.TheVariants.{LineEnd}
use Rattle.sial_parser.specs.declared.word.Word.{Word}
use Rattle.sial_parser.proofs.ProperOperands.{Covers, indices_proper, cond_proper, target_proper, wheres_proper}
use Rattle.sial_parser.proofs.ProperBodies.{statement_proper, body_proper}
use Rattle.sial_printer.specs.Lines.{where_line, statement, statements}
use Rattle.sial_printer.specs.Placed.{placed_line, placed, AreSaid, IsLine, AreLines}
use Rattle.sial_printer.specs.Relined.{relined_form, relined}
use Rattle.sial_printer.specs.Symbols.{index_name, array_name, scalar_name, procedure_name, names, block, slots, op_sign, right_symbols, cond_symbols, access_symbols}
use Rattle.sial_printer.proofs.OperandsStand.{Begin, IsStart, every_appended, name_of, op_closed, op_is, placed_append, names_said, names_stand, block_said, block_stands, slots_open, slots_said, slots_stand, right_said, right_stands, cond_said, cond_stands, wheres_said, wheres_stand, target_said, target_stands, target_begins, access_said, access_stands}

module _ (p : Tree) (s t : Scope) (covers : Covers p s) (carries : (x : List ℕ) (u : Thing) → thing_of s x ≡ Some u → thing_of t (name_of p u) ≡ Some u) (named : (x : List ℕ) (u : Thing) → thing_of s x ≡ Some u → IsTrue (is_name (name_of p u))) where
  -- a statement's lines stand with it, from any line on
  pub record Stands (form : Plain) : Type 0 where
    pub said : AreLines (statement p form)
    pub begin : (line : ℕ) (behind : List Word) → Begin line (placed line (statement p form) behind)
    pub is : (line : ℕ) (behind : List Word) → IsStatement t (relined_form p line form) (placed line (statement p form) behind) behind

  -- and so do those of a body, before a word that ends it
  pub record BodyStands (body : Block) : Type 0 where
    pub said : AreLines (statements p body)
    pub begin : (line k : ℕ) (what : Symbol) (behind : List Word) → IsStart what → (w : Word) × (others : List Word) × (placed line (statements p body) (at k what ∷ behind) ≡ w ∷ others) × IsStart w.symbol
    pub is : (line k : ℕ) (what : Symbol) (behind : List Word) → ends_body what ≡ true → IsBody t (relined p line body) (placed line (statements p body) (at k what ∷ behind)) (at k what ∷ behind)

  -- a statement before others
  body_more : (line : ℕ) (form : Plain) (others : Block) (ws between behind : List Word) → Begin line ws → IsStatement t form ws between → IsBody t others between behind → IsBody t (Then line form others) ws behind
  body_more line form others ws between behind b is rest =
      subst (λ (x : List Word). IsBody t (Then line form others) x behind) (sym b.are) (IsBody.more (subst (λ (x : List Word). IsStatement t form x between) b.are is) rest)

  mutual
    pub statement_stands : (form : Plain) (ws rest : List Word) → IsStatement s form ws rest → AreSound ws → Stands form
    statement_stands _ _ _ (IsStatement.do_ {name = x} {i = i} {body = b} {ws = ws} {ends = ends} {rest = rest} e body end) h =
        let o = body_stands b ws _ body h.1.1.1 in
        let n = named x (thing.Index i) e in
        let last : List (List Symbol) = (Key key.EndDo ∷ Name (index_name p i) ∷ []) ∷ [] in
        record {
          said = ((tt, (n, tt)), every_appended IsLine (statements p b) last o.said ((tt, (n, tt)), tt));
          begin = λ line behind. record { what = Key key.Do; others = at line (Name (index_name p i)) ∷ at line LineEnd ∷ placed (line + 1) (statements p b ++ last) behind; are = refl; start = (refl, refl, refl) };
          is = λ line behind. subst (λ (vs : List Word). IsStatement t (Do i (relined p (line + 1) b)) (at line (Key key.Do) ∷ at line (Name (index_name p i)) ∷ at line LineEnd ∷ vs) behind) (sym (placed_append (line + 1) (statements p b) last behind))
              (IsStatement.do_ (carries x (thing.Index i) e) (o.is (line + 1) (line + 1 + length (statements p b)) (Key key.EndDo) _ refl) IsNamedEnd.named);
        }
    statement_stands _ _ _ (IsStatement.do_in {sub = x} {name = y} {ii = ii} {i = i} {body = b} {ws = ws} {ends = ends} {rest = rest} e f body end) h =
        let o = body_stands b ws _ body h.1.1.1.1.1 in
        let n = named x (thing.Index ii) e in
        let last : List (List Symbol) = (Key key.EndDo ∷ Name (index_name p ii) ∷ []) ∷ [] in
        record {
          said = ((tt, (n, (tt, (named y (thing.Index i) f, tt)))), every_appended IsLine (statements p b) last o.said ((tt, (n, tt)), tt));
          begin = λ line behind. record { what = Key key.Do; others = at line (Name (index_name p ii)) ∷ at line (Key key.In) ∷ at line (Name (index_name p i)) ∷ at line LineEnd ∷ placed (line + 1) (statements p b ++ last) behind; are = refl; start = (refl, refl, refl) };
          is = λ line behind. subst (λ (vs : List Word). IsStatement t (DoIn ii i (relined p (line + 1) b)) (at line (Key key.Do) ∷ at line (Name (index_name p ii)) ∷ at line (Key key.In) ∷ at line (Name (index_name p i)) ∷ at line LineEnd ∷ vs) behind) (sym (placed_append (line + 1) (statements p b) last behind))
              (IsStatement.do_in (carries x (thing.Index ii) e) (carries y (thing.Index i) f) (o.is (line + 1) (line + 1 + length (statements p b)) (Key key.EndDo) _ refl) IsNamedEnd.named);
        }
    statement_stands _ _ _ (IsStatement.pardo {is = is} {conds = cs} {body = b} {ws = ws} {wheres = mid} {first = first} {ends = ends} {rest = rest} are few conds body end) h =
        let a = indices_proper p s covers LineEnd is ws mid are h.1 in
        let w = wheres_proper p s covers cs mid first conds a.sound in
        let o = body_stands b first _ body w.1 in
        let list = names p is [] in
        let listed_said = names_said p s t covers carries named LineEnd is ws mid are [] tt in
        let last : List (List Symbol) = (Key key.EndPardo ∷ list) ∷ [] in
        let tail : List (List Symbol) = statements p b ++ last in
        record {
          said = ((tt, listed_said), every_appended IsLine (map (where_line p) cs) tail (wheres_said p s t covers carries named cs mid first conds a.sound) (every_appended IsLine (statements p b) last o.said ((tt, listed_said), tt)));
          begin = λ line behind. record { what = Key key.Pardo; others = placed_line line list (placed (line + 1) (map (where_line p) cs ++ tail) behind); are = refl; start = (refl, refl, refl) };
          is = λ line behind.
              let here = line + 1 + length (map (where_line p) cs) in
              let there = here + length (statements p b) in
              let ending : List Word = placed_line there list behind in
              let start = o.begin here there (Key key.EndPardo) ending (refl, refl, refl) in
              subst (λ (vs : List Word). IsStatement t (Pardo is cs (relined p here b)) (at line (Key key.Pardo) ∷ placed_line line list vs) behind)
              (sym (placed_append (line + 1) (map (where_line p) cs) tail behind ∙ ap (placed (line + 1) (map (where_line p) cs)) (placed_append here (statements p b) last behind)))
              (IsStatement.pardo (names_stand p s t covers carries named LineEnd is ws mid are line line [] (placed (line + 1) (map (where_line p) cs) (placed here (statements p b) (at there (Key key.EndPardo) ∷ ending))) (placed (line + 1) (map (where_line p) cs) (placed here (statements p b) (at there (Key key.EndPardo) ∷ ending))) refl) few
              (subst (λ (vs : List Word). AreWheres t cs (placed (line + 1) (map (where_line p) cs) vs) vs) (sym start.2)
              (wheres_stand p s t covers carries named cs mid first conds (line + 1) start.0.line start.0.symbol start.1 start.3.0))
              (o.is here there (Key key.EndPardo) ending refl)
              (IsListedEnd.listed (names_stand p s t covers carries named LineEnd is ws mid are there there [] behind behind refl)));
        }
    statement_stands _ _ _ (IsStatement.if_ {c = c} {body = b} {ws = ws} {first = first} {rest = rest} e body) h =
        let o = body_stands b first _ body (cond_proper p s covers c ws first e h.1).1 in
        let said = cond_said p s t covers carries named c ws first e h.1 in
        let last : List (List Symbol) = (Key key.EndIf ∷ []) ∷ [] in
        record {
          said = ((tt, said), every_appended IsLine (statements p b) last o.said ((tt, tt), tt));
          begin = λ line behind. record { what = Key key.If; others = placed_line line (cond_symbols p c) (placed (line + 1) (statements p b ++ last) behind); are = refl; start = (refl, refl, refl) };
          is = λ line behind. subst (λ (vs : List Word). IsStatement t (If c (relined p (line + 1) b)) (at line (Key key.If) ∷ placed_line line (cond_symbols p c) vs) behind) (sym (placed_append (line + 1) (statements p b) last behind))
              (IsStatement.if_ (cond_stands p s t covers carries named c ws first e line _) (o.is (line + 1) (line + 1 + length (statements p b)) (Key key.EndIf) _ refl));
        }
    statement_stands _ _ _ (IsStatement.if_else {c = c} {body = b} {other = d} {ws = ws} {first = first} {second = second} {rest = rest} e body other) h =
        let v = cond_proper p s covers c ws first e h.1 in
        let o = body_stands b first _ body v.1 in
        let q = body_stands d second _ other (body_proper p s covers b first _ body v.1).sound.1.1 in
        let said = cond_said p s t covers carries named c ws first e h.1 in
        let last : List (List Symbol) = (Key key.EndIf ∷ []) ∷ [] in
        let tail : List (List Symbol) = (Key key.Else ∷ []) ∷ (statements p d ++ last) in
        record {
          said = ((tt, said), every_appended IsLine (statements p b) tail o.said ((tt, tt), every_appended IsLine (statements p d) last q.said ((tt, tt), tt)));
          begin = λ line behind. record { what = Key key.If; others = placed_line line (cond_symbols p c) (placed (line + 1) (statements p b ++ tail) behind); are = refl; start = (refl, refl, refl) };
          is = λ line behind.
              let here = line + 1 + length (statements p b) in
              let there = here + 1 + length (statements p d) in
              subst (λ (vs : List Word). IsStatement t (IfElse c (relined p (line + 1) b) (relined p (here + 1) d)) (at line (Key key.If) ∷ placed_line line (cond_symbols p c) vs) behind)
              (sym (placed_append (line + 1) (statements p b) tail behind ∙ ap (λ vs. placed (line + 1) (statements p b) (at here (Key key.Else) ∷ at here LineEnd ∷ vs)) (placed_append (here + 1) (statements p d) last behind)))
              (IsStatement.if_else (cond_stands p s t covers carries named c ws first e line _) (o.is (line + 1) here (Key key.Else) _ refl) (q.is (here + 1) there (Key key.EndIf) _ refl));
        }
    statement_stands _ _ _ (IsStatement.call {name = x} {p = q} e) h =
        record {
          said = ((tt, (named x (thing.Proc q) e, tt)), tt);
          begin = λ line behind. record { what = Key key.Call; others = at line (Name (procedure_name p q)) ∷ at line LineEnd ∷ behind; are = refl; start = (refl, refl, refl) };
          is = λ line behind. IsStatement.call (carries x (thing.Proc q) e);
        }
    statement_stands _ _ _ (IsStatement.assign {t = g} {how = how} {r = r} {ws = ws} {between = between} {rest = rest} target_is how_is right_is) h =
        let v = target_proper p s covers g ws _ target_is h in
        let back = right_symbols p r in
        let said = right_said p s t covers carries named r between rest right_is v.1.1 in
        record {
          said = (target_said p s t covers carries named g ws _ target_is (symbol.Sign (op_sign how) ∷ back) (tt, said), tt);
          begin = λ line behind. target_begins p s t covers carries named g ws _ target_is line (symbol.Sign (op_sign how) ∷ back) behind;
          is = λ line behind. IsStatement.assign (target_stands p s t covers carries named g ws _ target_is line (symbol.Sign (op_sign how) ∷ back) behind (op_closed how)) (op_is how) (right_stands p s t covers carries named r between rest right_is line behind);
        }
    statement_stands _ _ _ (IsStatement.get {b = b} {ws = ws} e) h =
        record {
          said = ((tt, block_said p s t covers carries named b ws _ e [] tt), tt);
          begin = λ line behind. record { what = Key key.Get; others = placed_line line (block p b []) behind; are = refl; start = (refl, refl, refl) };
          is = λ line behind. IsStatement.get (block_stands p s t covers carries named b ws _ e line [] behind);
        }
    statement_stands _ _ _ (IsStatement.request {b = b} {ws = ws} e) h =
        record {
          said = ((tt, block_said p s t covers carries named b ws _ e [] tt), tt);
          begin = λ line behind. record { what = Key key.Request; others = placed_line line (block p b []) behind; are = refl; start = (refl, refl, refl) };
          is = λ line behind. IsStatement.request (block_stands p s t covers carries named b ws _ e line [] behind);
        }
    statement_stands _ _ _ (IsStatement.request_along {b = b} {ws = ws} e f) h =
        record {
          said = ((tt, block_said p s t covers carries named b ws _ e [] tt), tt);
          begin = λ line behind. record { what = Key key.Request; others = placed_line line (block p b []) behind; are = refl; start = (refl, refl, refl) };
          is = λ line behind. IsStatement.request (block_stands p s t covers carries named b ws _ e line [] behind);
        }
    statement_stands _ _ _ (IsStatement.put {b = b} {from = from} {how = how} {ws = ws} {between = between} {source = source} e how_is f) h =
        let back = block p from [] in
        let said = block_said p s t covers carries named from source _ f [] tt in
        record {
          said = ((tt, block_said p s t covers carries named b ws between e (access_symbols how back) (access_said p s t covers carries named how between source how_is back said)), tt);
          begin = λ line behind. record { what = Key key.Put; others = placed_line line (block p b (access_symbols how back)) behind; are = refl; start = (refl, refl, refl) };
          is = λ line behind. IsStatement.put (block_stands p s t covers carries named b ws between e line (access_symbols how back) behind) (access_stands p s t covers carries named how between source how_is line back behind) (block_stands p s t covers carries named from source _ f line [] behind);
        }
    statement_stands _ _ _ (IsStatement.prepare {b = b} {from = from} {how = how} {ws = ws} {between = between} {source = source} e how_is f) h =
        let back = block p from [] in
        let said = block_said p s t covers carries named from source _ f [] tt in
        record {
          said = ((tt, block_said p s t covers carries named b ws between e (access_symbols how back) (access_said p s t covers carries named how between source how_is back said)), tt);
          begin = λ line behind. record { what = Key key.Prepare; others = placed_line line (block p b (access_symbols how back)) behind; are = refl; start = (refl, refl, refl) };
          is = λ line behind. IsStatement.prepare (block_stands p s t covers carries named b ws between e line (access_symbols how back) behind) (access_stands p s t covers carries named how between source how_is line back behind) (block_stands p s t covers carries named from source _ f line [] behind);
        }
    statement_stands _ _ _ (IsStatement.create {name = x} {a = a} e) h =
        record {
          said = ((tt, (named x (thing.Array a) e, tt)), tt);
          begin = λ line behind. record { what = Key key.Create; others = at line (Name (array_name p a)) ∷ at line LineEnd ∷ behind; are = refl; start = (refl, refl, refl) };
          is = λ line behind. IsStatement.create (carries x (thing.Array a) e);
        }
    statement_stands _ _ _ (IsStatement.delete {name = x} {a = a} e) h =
        record {
          said = ((tt, (named x (thing.Array a) e, tt)), tt);
          begin = λ line behind. record { what = Key key.Delete; others = at line (Name (array_name p a)) ∷ at line LineEnd ∷ behind; are = refl; start = (refl, refl, refl) };
          is = λ line behind. IsStatement.delete (carries x (thing.Array a) e);
        }
    statement_stands _ _ _ (IsStatement.allocate {name = x} {slots = xs} {a = a} {ws = ws} e are few) h =
        let opened = slots_open p s t covers carries named xs ws _ are [] in
        record {
          said = ((tt, (named x (thing.Array a) e, subst AreSaid (sym opened) (tt, slots_said p s t covers carries named xs ws _ are (symbol.Sign sign.Close ∷ []) (tt, tt)))), tt);
          begin = λ line behind. record { what = Key key.Allocate; others = at line (Name (array_name p a)) ∷ placed_line line (slots p xs []) behind; are = refl; start = (refl, refl, refl) };
          is = λ line behind. subst (λ (ys : List Symbol). IsStatement t (Allocate a xs) (at line (Key key.Allocate) ∷ at line (Name (array_name p a)) ∷ placed_line line ys behind) behind) (sym opened)
              (IsStatement.allocate (carries x (thing.Array a) e) (slots_stand p s t covers carries named xs ws _ are line [] behind) few);
        }
    statement_stands _ _ _ (IsStatement.deallocate {name = x} {slots = xs} {a = a} {ws = ws} e are few) h =
        let opened = slots_open p s t covers carries named xs ws _ are [] in
        record {
          said = ((tt, (named x (thing.Array a) e, subst AreSaid (sym opened) (tt, slots_said p s t covers carries named xs ws _ are (symbol.Sign sign.Close ∷ []) (tt, tt)))), tt);
          begin = λ line behind. record { what = Key key.Deallocate; others = at line (Name (array_name p a)) ∷ placed_line line (slots p xs []) behind; are = refl; start = (refl, refl, refl) };
          is = λ line behind. subst (λ (ys : List Symbol). IsStatement t (Deallocate a xs) (at line (Key key.Deallocate) ∷ at line (Name (array_name p a)) ∷ placed_line line ys behind) behind) (sym opened)
              (IsStatement.deallocate (carries x (thing.Array a) e) (slots_stand p s t covers carries named xs ws _ are line [] behind) few);
        }
    statement_stands _ _ _ (IsStatement.collective {into = x} {from = y} {x = m} {y = n} e f) h =
        record {
          said = ((tt, (named x (thing.Scalar m) e, (tt, (named y (thing.Scalar n) f, tt)))), tt);
          begin = λ line behind. record { what = Key key.Collective; others = at line (Name (scalar_name p m)) ∷ sign_at line sign.PlusEquals ∷ at line (Name (scalar_name p n)) ∷ at line LineEnd ∷ behind; are = refl; start = (refl, refl, refl) };
          is = λ line behind. IsStatement.collective (carries x (thing.Scalar m) e) (carries y (thing.Scalar n) f);
        }
    statement_stands _ _ _ IsStatement.sip_barrier h =
        record {
          said = ((tt, tt), tt);
          begin = λ line behind. record { what = Key key.SipBarrier; others = at line LineEnd ∷ behind; are = refl; start = (refl, refl, refl) };
          is = λ line behind. IsStatement.sip_barrier;
        }
    statement_stands _ _ _ IsStatement.server_barrier h =
        record {
          said = ((tt, tt), tt);
          begin = λ line behind. record { what = Key key.ServerBarrier; others = at line LineEnd ∷ behind; are = refl; start = (refl, refl, refl) };
          is = λ line behind. IsStatement.server_barrier;
        }
    statement_stands _ _ _ (IsStatement.print {text = text}) h =
        record {
          said = ((tt, (h.1.0.1, tt)), tt);
          begin = λ line behind. record { what = Key key.Print; others = at line (Quoted text) ∷ at line LineEnd ∷ behind; are = refl; start = (refl, refl, refl) };
          is = λ line behind. IsStatement.print;
        }
    statement_stands _ _ _ (IsStatement.print_scalar {name = x} {x = n} e) h =
        record {
          said = ((tt, (tt, (named x (thing.Scalar n) e, tt))), tt);
          begin = λ line behind. record { what = Key key.Execute; others = at line (Key key.PrintScalar) ∷ at line (Name (scalar_name p n)) ∷ at line LineEnd ∷ behind; are = refl; start = (refl, refl, refl) };
          is = λ line behind. IsStatement.print_scalar (carries x (thing.Scalar n) e);
        }
    statement_stands _ _ _ (IsStatement.integrals {b = b} {ws = ws} e) h =
        record {
          said = ((tt, (tt, block_said p s t covers carries named b ws _ e [] tt)), tt);
          begin = λ line behind. record { what = Key key.Execute; others = at line (Key key.ComputeIntegrals) ∷ placed_line line (block p b []) behind; are = refl; start = (refl, refl, refl) };
          is = λ line behind. IsStatement.integrals (block_stands p s t covers carries named b ws _ e line [] behind);
        }

    pub body_stands : (b : Block) (ws rest : List Word) → IsBody s b ws rest → AreSound ws → BodyStands b
    body_stands _ _ _ (IsBody.none e) h = record {
      said = tt;
      begin = λ line k what behind start. (at k what, behind, refl, start);
      is = λ line k what behind ends. IsBody.none ends;
    }
    body_stands _ _ _ (IsBody.more {form = form} {others = others} {w = w} {ws = ws} {between = between} {rest = rest} is tail) h =
        let o = statement_stands form (w ∷ ws) between is h in
        let q = body_stands others between rest tail (statement_proper p s covers form (w ∷ ws) between is h).sound in
        record {
          said = every_appended IsLine (statement p form) (statements p others) o.said q.said;
          begin = λ line k what behind start.
              let b = o.begin line (placed (line + length (statement p form)) (statements p others) (at k what ∷ behind)) in
              (at line b.what, b.others, placed_append line (statement p form) (statements p others) (at k what ∷ behind) ∙ b.are, b.start);
          is = λ line k what behind ends.
              let between_words = placed (line + length (statement p form)) (statements p others) (at k what ∷ behind) in
              subst (λ (vs : List Word). IsBody t (Then line (relined_form p line form) (relined p (line + length (statement p form)) others)) vs (at k what ∷ behind))
              (sym (placed_append line (statement p form) (statements p others) (at k what ∷ behind)))
              (body_more line (relined_form p line form) (relined p (line + length (statement p form)) others) (placed line (statement p form) between_words) between_words (at k what ∷ behind) (o.begin line between_words) (o.is line between_words)
              (q.is (line + length (statement p form)) k what behind ends));
        }

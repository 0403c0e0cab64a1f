-- Declarations, procedures and programs.
use Rattle.std.proofs.Common.{◌≡◌, ℕ, zero, suc, ◌+◌, ◌*◌, ◌≤◌, List, [], ◌∷◌, ◌++◌, Bool, true, false, cond, nat_lt, length, Some, None, Ok, Err, refl, sym, ap, ◌∙◌, subst, append_assoc, arith, Result}
use Rattle.std.proofs.lemmas.List.{length-append}
use Rattle.sial_syntax.specs.Limits.{most_names, most_statements, most_rank}
use Rattle.sial_syntax.specs.declared.array.ArrayDecl.{ArrayDecl}
use Rattle.sial_syntax.specs.declared.array.ArrayKind.{ArrayKind}
use Rattle.sial_syntax.specs.declared.array.ArrayKind.TheVariants as arrays
use Rattle.sial_syntax.specs.declared.index.IndexDecl.{IndexDecl}
use Rattle.sial_syntax.specs.declared.index.Kind.{Kind}
use Rattle.sial_syntax.specs.declared.index.Kind.TheVariants as kind
use Rattle.sial_syntax.specs.declared.index.Range.TheVariants as range
use Rattle.sial_parser.specs.Grammar.{at, begins_declaration}
use Rattle.sial_parser.specs.Parsing.{◌>>=◌, Read, unexpected, skip, index, dims, is_some, is_line_end, is_comma, is_equals, is_of, new_by, new_name, bound_by, bound_at, segments_at, subindex_at, scalar_decl_at, array_decl_at, declaration_by, declaration, declared_one, declarations}
use Rattle.sial_parser.specs.Scope.{thing_of, Declared, with_index, with_array, with_scalar}
use Rattle.sial_parser.specs.declared.fault.ParseFault.{ParseFault}
use Rattle.sial_parser.specs.declared.fault.ParseFault.TheVariants.{Twice, TooMany}
use Rattle.sial_parser.specs.declared.keyword.Keyword.{Keyword}
use Rattle.sial_parser.specs.declared.keyword.Keyword.TheVariants as key
use Rattle.sial_parser.specs.declared.word.Symbol.{Symbol}
use Rattle.sial_parser.specs.declared.word.Symbol.TheVariants.{Key, Name, Number}
use Rattle.sial_parser.specs.declared.word.Word.{Word}
use Rattle.sial_parser.proofs.DeclarationsSound.{Few}
use Rattle.sial_parser.proofs.ProgramAgain.{total}
use Rattle.sial_parser.proofs.Shapes.{declared_shape}
use Rattle.sial_faults.specs.Faults.{Past, entered, count_of, counted_as, unless, told, checked, past_after, procedures_fault, past_procedures}
use Rattle.sial_faults.specs.Forms.{says, where_so, after_new, after_body, after_procedures}
use Rattle.sial_faults.specs.Parts.{Part, Named, a_range, a_subindex, a_new_scalar, a_new_array, a_procedure, Ending, of_program, of_procedure, an_index, Fixed, line_end, equals, comma, of, opening}
use Rattle.sial_faults.specs.Forms as form
use Rattle.sial_faults.specs.Parts as part
use Rattle.sial_faults.proofs.Agreeing.{Agrees, then_agrees, skip_agrees, index_agrees}
use Rattle.sial_faults.proofs.AgreeLists.{dims_agree}
use Rattle.sial_faults.proofs.AgreeWheres.{right_agrees}
use Rattle.sial_faults.proofs.Growing.{Grows, grows}

-- what declarations say of the words so far
abbrev pub past_of : Declared → Past
past_of d = record { scope = d.scope; indices = length d.indices; arrays = length d.arrays; scalars = length d.scalars; procs = 0; left = most_statements }

module _ (callable : (name : List ℕ) → Bool) where
  module _ {B : Type 0} (later : B → Past) (last : B → List Part) where
    -- a new name
    new_by_agrees : (named : Named) (b c : Bool) (l count : ℕ) (x : List ℕ) (ws : List Word) (go : List ℕ → List Word → Read B) (go_on : List Part → Result Past ParseFault) → nat_lt count most_names ≡ c → Agrees callable (go_on (after_new named x)) later last (go x ws)
        → Agrees callable (told l (Some (after_new named x)) (cond b (Some (Twice l)) (unless c (TooMany l (counted_as named)) None)) go_on) later last (new_by l count (counted_as named) b x ws >>= λ y. go y.0 y.1)
    new_by_agrees named true c l count x ws go go_on e h = refl
    new_by_agrees named false true l count x ws go go_on e h = subst (λ c. Agrees callable (go_on (after_new named x)) later last (cond c (Ok (x, ws)) (Err (TooMany l (counted_as named))) >>= λ (y : List ℕ × List Word). go y.0 y.1)) (sym e) h
    new_by_agrees named false false l count x ws go go_on e h = subst (λ c. Agrees callable (Err (TooMany l (counted_as named))) later last (cond c (Ok (x, ws)) (Err (TooMany l (counted_as named))) >>= λ (y : List ℕ × List Word). go y.0 y.1)) (sym e) refl

    -- that of a declaration
    module _ (named : Named) (past : Past) (parts : List Part) (go : List ℕ → List Word → Read B) (is_new_now : (l : ℕ) (x : List ℕ) (ws : List Word) → checked callable past (part.new named ∷ parts) (at l (Name x) ∷ ws)
        ≡ told l (Some (after_new named x)) (cond (is_some (thing_of past.scope x)) (Some (Twice l)) (unless (nat_lt (count_of named past) most_names) (TooMany l (counted_as named)) None)) (λ more. checked callable (past_after (part.new named) (Name x) past) (more ++ parts) ws))
        (h : (x : List ℕ) (ws : List Word) → Agrees callable (checked callable (past_after (part.new named) (Name x) past) (after_new named x ++ parts) ws) later last (go x ws)) where
      new_at : (l : ℕ) (what : Symbol) (ws : List Word) → Agrees callable (checked callable past (part.new named ∷ parts) (at l what ∷ ws)) later last (new_name past.scope (count_of named past) (counted_as named) (at l what ∷ ws) >>= λ y. go y.0 y.1)
      unfolding new_name
      new_at l (Name x) ws =
          subst (λ t. Agrees callable t later last (new_by l (count_of named past) (counted_as named) (is_some (thing_of past.scope x)) x ws >>= λ y. go y.0 y.1)) (sym (is_new_now l x ws))
          (new_by_agrees named (is_some (thing_of past.scope x)) (nat_lt (count_of named past) most_names) l (count_of named past) x ws go (λ more. checked callable (past_after (part.new named) (Name x) past) (more ++ parts) ws) refl (h x ws))
      new_at l _ ws = refl

      pub new_agrees : (ws : List Word) → Agrees callable (checked callable past (part.new named ∷ parts) ws) later last (new_name past.scope (count_of named past) (counted_as named) ws >>= λ y. go y.0 y.1)
      unfolding new_name
      new_agrees [] = refl
      new_agrees (w ∷ ws) = new_at w.line w.symbol ws

    -- the line end of a declaration
    enters_by : (named : Named) (b : Bool) (x : List ℕ) (past : Past) (parts : List Part) (w : Word) (ws : List Word) (go : List Word → Read B) → Agrees callable (checked callable (entered named x past) parts ws) later last (go ws)
        → Agrees callable (told w.line (where_so b []) None (λ more. checked callable (entered named x past) (more ++ parts) ws)) later last (cond b (Ok ws) (unexpected (w ∷ ws)) >>= go)
    enters_by named true x past parts w ws go h = h
    enters_by named false x past parts w ws go h = refl

    pub enters_agrees : (named : Named) (x : List ℕ) (past : Past) (parts : List Part) (ws : List Word) (go : List Word → Read B) → ((rest : List Word) → Agrees callable (checked callable (entered named x past) parts rest) later last (go rest))
        → Agrees callable (checked callable past (part.enters named x ∷ parts) ws) later last (skip is_line_end ws >>= go)
    enters_agrees named x past parts [] go h = refl
    enters_agrees named x past parts (w ∷ ws) go h = enters_by named (is_line_end w.symbol) x past parts w ws go (h ws)

  -- bound
  bound_here : (past : Past) (parts : List Part) (l : ℕ) (what : Symbol) (ws : List Word) → Agrees callable (checked callable past (part.bound ∷ parts) (at l what ∷ ws)) (λ y. past) (λ y. parts) (bound_by what (at l what) ws)
  bound_here past parts l (Number n) ws = refl
  bound_here past parts l (Name x) ws = refl
  bound_here past parts l _ ws = refl

  bound_agrees : (past : Past) (parts : List Part) (ws : List Word) → Agrees callable (checked callable past (part.bound ∷ parts) ws) (λ y. past) (λ y. parts) (bound_at ws)
  unfolding bound_at
  bound_agrees past parts [] = refl
  bound_agrees past parts (w ∷ ws) = bound_here past parts w.line w.symbol ws

  module _ (d : Declared) (parts : List Part) where
    abbrev Declaring : List Part → (List Word → Read Declared) → Type 0
    Declaring first read = (ws : List Word) → Agrees callable (checked callable (past_of d) (first ++ parts) ws) past_of (λ e. parts) (read ws)

    grown_index : (x : IndexDecl) (rest : List Word) → checked callable (entered a_range x.name (past_of d)) parts rest ≡ checked callable (past_of (with_index d x)) parts rest
    grown_index x rest = ap (λ n. checked callable (record (past_of d) { scope = (with_index d x).scope; indices = n }) parts rest) (sym (length-append d.indices (x ∷ [])))

    grown_scalar : (x : List ℕ) (rest : List Word) → checked callable (entered a_new_scalar x (past_of d)) parts rest ≡ checked callable (past_of (with_scalar d x)) parts rest
    grown_scalar x rest = ap (λ n. checked callable (record (past_of d) { scope = (with_scalar d x).scope; scalars = n }) parts rest) (sym (length-append d.scalars (x ∷ [])))

    grown_array : (x : ArrayDecl) (rest : List Word) → checked callable (entered a_new_array x.name (past_of d)) parts rest ≡ checked callable (past_of (with_array d x)) parts rest
    grown_array x rest = ap (λ n. checked callable (record (past_of d) { scope = (with_array d x).scope; arrays = n }) parts rest) (sym (length-append d.arrays (x ∷ [])))

    -- name "=" bound "," bound NL
    segments_agree : (which : Kind) (line : ℕ) → Declaring (part.new a_range ∷ []) (segments_at d which line)
    unfolding segments_at
    segments_agree which line ws =
        new_agrees past_of (λ e. parts) a_range (past_of d) parts (λ x ws. skip is_equals ws >>= λ ws. bound_at ws >>= λ lo. skip is_comma lo.1 >>= λ ws. bound_at ws >>= λ hi. skip is_line_end hi.1 >>= λ rest. Ok (with_index d (record { name = x; line = line; range = range.Segments which lo.0 hi.0 }), rest)) (λ l x ws. refl)
        (λ x ws. skip_agrees callable past_of (λ e. parts) equals (past_of d) (part.bound ∷ part.fixed comma ∷ part.bound ∷ part.enters a_range x ∷ parts) ws
        (λ ws. bound_at ws >>= λ lo. skip is_comma lo.1 >>= λ ws. bound_at ws >>= λ hi. skip is_line_end hi.1 >>= λ rest. Ok (with_index d (record { name = x; line = line; range = range.Segments which lo.0 hi.0 }), rest))
        (λ ws. then_agrees callable (checked callable (past_of d) (part.bound ∷ part.fixed comma ∷ part.bound ∷ part.enters a_range x ∷ parts) ws) (λ lo. past_of d) (λ lo. part.fixed comma ∷ part.bound ∷ part.enters a_range x ∷ parts) past_of (λ e. parts) (bound_at ws)
        (λ lo ws. skip is_comma ws >>= λ ws. bound_at ws >>= λ hi. skip is_line_end hi.1 >>= λ rest. Ok (with_index d (record { name = x; line = line; range = range.Segments which lo hi.0 }), rest)) (bound_agrees (past_of d) (part.fixed comma ∷ part.bound ∷ part.enters a_range x ∷ parts) ws)
        (λ lo ws. skip_agrees callable past_of (λ e. parts) comma (past_of d) (part.bound ∷ part.enters a_range x ∷ parts) ws (λ ws. bound_at ws >>= λ hi. skip is_line_end hi.1 >>= λ rest. Ok (with_index d (record { name = x; line = line; range = range.Segments which lo hi.0 }), rest))
        (λ ws. then_agrees callable (checked callable (past_of d) (part.bound ∷ part.enters a_range x ∷ parts) ws) (λ hi. past_of d) (λ hi. part.enters a_range x ∷ parts) past_of (λ e. parts) (bound_at ws)
        (λ hi ws. skip is_line_end ws >>= λ rest. Ok (with_index d (record { name = x; line = line; range = range.Segments which lo hi }), rest)) (bound_agrees (past_of d) (part.enters a_range x ∷ parts) ws)
        (λ hi ws. enters_agrees past_of (λ e. parts) a_range x (past_of d) parts ws (λ rest. Ok (with_index d (record { name = x; line = line; range = range.Segments which lo hi }), rest)) (λ rest. grown_index (record { name = x; line = line; range = range.Segments which lo hi }) rest))))))
        ws

    -- name "of" name NL
    subindex_agrees : (line : ℕ) → Declaring (part.new a_subindex ∷ []) (subindex_at d line)
    unfolding subindex_at
    subindex_agrees line ws =
        new_agrees past_of (λ e. parts) a_subindex (past_of d) parts (λ x ws. skip is_of ws >>= λ ws. index d.scope ws >>= λ i. skip is_line_end i.1 >>= λ rest. Ok (with_index d (record { name = x; line = line; range = range.Sub i.0 }), rest)) (λ l x ws. refl)
        (λ x ws. skip_agrees callable past_of (λ e. parts) of (past_of d) (part.asked an_index ∷ part.enters a_subindex x ∷ parts) ws (λ ws. index d.scope ws >>= λ i. skip is_line_end i.1 >>= λ rest. Ok (with_index d (record { name = x; line = line; range = range.Sub i.0 }), rest))
        (λ ws. then_agrees callable (checked callable (past_of d) (part.asked an_index ∷ part.enters a_subindex x ∷ parts) ws) (λ i. past_of d) (λ i. part.enters a_subindex x ∷ parts) past_of (λ e. parts) (index d.scope ws)
        (λ i ws. skip is_line_end ws >>= λ rest. Ok (with_index d (record { name = x; line = line; range = range.Sub i }), rest)) (index_agrees callable d.scope (past_of d) (λ x. refl) (part.enters a_subindex x ∷ parts) ws)
        (λ i ws. enters_agrees past_of (λ e. parts) a_subindex x (past_of d) parts ws (λ rest. Ok (with_index d (record { name = x; line = line; range = range.Sub i }), rest)) (λ rest. grown_index (record { name = x; line = line; range = range.Sub i }) rest))))
        ws

    -- name NL
    scalar_agrees : Declaring (part.new a_new_scalar ∷ []) (scalar_decl_at d)
    unfolding scalar_decl_at
    scalar_agrees ws =
        new_agrees past_of (λ e. parts) a_new_scalar (past_of d) parts (λ x ws. skip is_line_end ws >>= λ rest. Ok (with_scalar d x, rest)) (λ l x ws. refl)
        (λ x ws. enters_agrees past_of (λ e. parts) a_new_scalar x (past_of d) parts ws (λ rest. Ok (with_scalar d x, rest)) (λ rest. grown_scalar x rest)) ws

    -- name "(" names ")" NL
    array_agrees : (which : ArrayKind) (line : ℕ) → Declaring (part.new a_new_array ∷ []) (array_decl_at d which line)
    unfolding array_decl_at
    array_agrees which line ws =
        new_agrees past_of (λ e. parts) a_new_array (past_of d) parts (λ x ws. dims d.scope ws >>= λ is. skip is_line_end is.1 >>= λ rest. Ok (with_array d (record { name = x; line = line; kind = which; dims = is.0 }), rest)) (λ l x ws. refl)
        (λ x ws. then_agrees callable (checked callable (past_of d) (part.fixed opening ∷ part.dim most_rank ∷ part.enters a_new_array x ∷ parts) ws) (λ is. past_of d) (λ is. part.enters a_new_array x ∷ parts) past_of (λ e. parts) (dims d.scope ws)
        (λ is ws. skip is_line_end ws >>= λ rest. Ok (with_array d (record { name = x; line = line; kind = which; dims = is }), rest)) (dims_agree callable d.scope (past_of d) (λ x. refl) (part.enters a_new_array x ∷ parts) ws)
        (λ is ws. enters_agrees past_of (λ e. parts) a_new_array x (past_of d) parts ws (λ rest. Ok (with_array d (record { name = x; line = line; kind = which; dims = is }), rest)) (λ rest. grown_array (record { name = x; line = line; kind = which; dims = is }) rest)))
        ws

    key_agrees : (k : Keyword) (line : ℕ) → begins_declaration (Key k) ≡ true → Declaring (form.declaration (Key k)) (declaration_by d (Key k) (at line (Key k)))
    key_agrees key.AoIndex line h ws = segments_agree kind.Ao line ws
    key_agrees key.MoIndex line h ws = segments_agree kind.Mo line ws
    key_agrees key.MoaIndex line h ws = segments_agree kind.Moa line ws
    key_agrees key.MobIndex line h ws = segments_agree kind.Mob line ws
    key_agrees key.Index line h ws = segments_agree kind.Index line ws
    key_agrees key.SubIndex line h ws = subindex_agrees line ws
    key_agrees key.Scalar line h ws = scalar_agrees ws
    key_agrees key.Static line h ws = array_agrees arrays.Static line ws
    key_agrees key.Temp line h ws = array_agrees arrays.Temp line ws
    key_agrees key.Local line h ws = array_agrees arrays.Local line ws
    key_agrees key.Distributed line h ws = array_agrees arrays.Distributed line ws
    key_agrees key.Served line h ws = array_agrees arrays.Served line ws
    key_agrees _ line h ws = absurd cc

    symbol_agrees : (what : Symbol) (line : ℕ) → begins_declaration what ≡ true → Declaring (form.declaration what) (declaration_by d what (at line what))
    symbol_agrees (Key k) line h ws = key_agrees k line h ws
    symbol_agrees _ line h ws = absurd cc

    pub declaration_agrees : (w : Word) (ws : List Word) → begins_declaration w.symbol ≡ true → Agrees callable (checked callable (past_of d) (form.declaration w.symbol ++ parts) ws) past_of (λ e. parts) (declaration d (w ∷ ws))
    unfolding declaration
    declaration_agrees w ws h = symbol_agrees w.symbol w.line h ws

  -- {decl NL}
  module _ (parts : List Part) where
    declarations_told : (b : Bool) (d : Declared) (w : Word) (ws : List Word) → begins_declaration w.symbol ≡ b → checked callable (past_of d) (part.declarations ∷ parts) (w ∷ ws)
        ≡ told w.line (cond b (Some (form.declaration w.symbol ++ part.declarations ∷ [])) (after_procedures w.symbol)) (cond b None (procedures_fault (past_of d) w.line w.symbol ws)) (λ more. checked callable (cond b (past_of d) (past_procedures w.symbol (past_of d))) (more ++ parts) ws)
    declarations_told b d w ws e =
        ap (λ b. told w.line (cond b (Some (form.declaration w.symbol ++ part.declarations ∷ [])) (after_procedures w.symbol)) (cond b None (procedures_fault (past_of d) w.line w.symbol ws)) (λ more. checked callable (cond b (past_of d) (past_procedures w.symbol (past_of d))) (more ++ parts) ws)) e

    declarations_by : (b : Bool) (n : ℕ) (d : Declared) (w : Word) (ws : List Word) → begins_declaration w.symbol ≡ b → Few d → 3 * most_names + 1 ≤ total d + suc n
        → ((e : Declared) (ws : List Word) → Few e → 3 * most_names + 1 ≤ total e + n → Agrees callable (checked callable (past_of e) (part.declarations ∷ parts) ws) past_of (λ e. part.procedures ∷ parts) (declarations n e ws))
        → Agrees callable (checked callable (past_of d) (part.declarations ∷ parts) (w ∷ ws)) past_of (λ e. part.procedures ∷ parts) (cond b (declaration d (w ∷ ws) >>= λ e. declarations n e.0 e.1) (Ok (d, w ∷ ws)))
    declarations_by true n d w ws e few room k =
        subst (λ t. Agrees callable t past_of (λ e. part.procedures ∷ parts) (declaration d (w ∷ ws) >>= λ e. declarations n e.0 e.1)) (sym (declarations_told true d w ws e ∙ ap (λ ps. checked callable (past_of d) ps ws) (append_assoc (form.declaration w.symbol) (part.declarations ∷ []) parts)))
        (right_agrees callable (λ e rest. Grows d e) (checked callable (past_of d) (form.declaration w.symbol ++ part.declarations ∷ parts) ws) past_of (λ e. part.declarations ∷ parts) past_of (λ e. part.procedures ∷ parts) (declaration d (w ∷ ws)) (λ e ws. declarations n e ws) (grows d w ws)
        (declaration_agrees d (part.declarations ∷ parts) w ws e) (λ e ws g. k e ws (g.few few) (omega (arith, room, g.one))))
    declarations_by false n d w ws e few room k = declarations_told false d w ws e

    pub declarations_agree : (n : ℕ) (d : Declared) (ws : List Word) → Few d → 3 * most_names + 1 ≤ total d + n → Agrees callable (checked callable (past_of d) (part.declarations ∷ parts) ws) past_of (λ e. part.procedures ∷ parts) (declarations n d ws)
    unfolding declarations declared_one
    declarations_agree zero d ws few room = absurd (omega (arith, few.indices, few.arrays, few.scalars, room))
    declarations_agree (suc n) d [] few room = refl
    declarations_agree (suc n) d (w ∷ ws) few room =
        subst (Agrees callable (checked callable (past_of d) (part.declarations ∷ parts) (w ∷ ws)) past_of (λ e. part.procedures ∷ parts)) (sym (declared_shape n d w ws))
        (declarations_by (begins_declaration w.symbol) n d w ws refl few room (declarations_agree n))

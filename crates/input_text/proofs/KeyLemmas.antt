-- Keywords and kinds are read as they are spelled.
use Rattle.std.proofs.Common.{◌≡◌, ℕ, List, Bool, true, false, ◌&&◌, cond, codes, Option, Some, None, refl, ap, ◌∙◌}
use Rattle.std.specs.Str.{bytes_eq}
use Rattle.std.proofs.lemmas.Slice.Eq.{bytes_eq-Decides}
use Rattle.sial_syntax.specs.declared.index.Kind.{Kind}
use Rattle.sial_syntax.specs.declared.index.Kind.TheVariants as kind
use Rattle.input_text.specs.Reading.{keyword_of, kind_of}
use Rattle.input_text.specs.Statements.{kind_name, is_cut_by_inputs}
use Rattle.input_text.specs.declared.keyword.Keyword.{Keyword}
use Rattle.input_text.specs.declared.keyword.Keyword.TheVariants as key

-- how keywords are spelled
abbrev pub spelling : Keyword → List ℕ
spelling key.Const = codes "const"
spelling key.Segments = codes "segments"
spelling key.Subsegment = codes "subsegment"
spelling key.Scalar = codes "scalar"
spelling key.Block = codes "block"

-- keywords and kinds
abbrev pub IsKey : Option Keyword → List ℕ → Type 0
IsKey (Some k) name = name ≡ spelling k
IsKey None name = Unit {0}

pub key_by : (name : List ℕ) (a b c d e : Bool) → bytes_eq name (codes "const") ≡ a → bytes_eq name (codes "segments") ≡ b → bytes_eq name (codes "subsegment") ≡ c → bytes_eq name (codes "scalar") ≡ d → bytes_eq name (codes "block") ≡ e
    → IsKey (cond a (Some key.Const) (cond b (Some key.Segments) (cond c (Some key.Subsegment) (cond d (Some key.Scalar) (cond e (Some key.Block) None))))) name
key_by name true b c d e h0 h1 h2 h3 h4 = (bytes_eq-Decides name (codes "const")).0 h0
key_by name false true c d e h0 h1 h2 h3 h4 = (bytes_eq-Decides name (codes "segments")).0 h1
key_by name false false true d e h0 h1 h2 h3 h4 = (bytes_eq-Decides name (codes "subsegment")).0 h2
key_by name false false false true e h0 h1 h2 h3 h4 = (bytes_eq-Decides name (codes "scalar")).0 h3
key_by name false false false false true h0 h1 h2 h3 h4 = (bytes_eq-Decides name (codes "block")).0 h4
key_by name false false false false false h0 h1 h2 h3 h4 = tt

pub key_sound : (name : List ℕ) → IsKey (keyword_of name) name
key_sound name = key_by name (bytes_eq name (codes "const")) (bytes_eq name (codes "segments")) (bytes_eq name (codes "subsegment")) (bytes_eq name (codes "scalar")) (bytes_eq name (codes "block")) refl refl refl refl refl

abbrev pub IsKindOf : Option Kind → List ℕ → Type 0
IsKindOf (Some k) name = (name ≡ kind_name k) × (is_cut_by_inputs k ≡ true)
IsKindOf None name = Unit {0}

pub kind_by : (name : List ℕ) (a b c d : Bool) → bytes_eq name (codes "ao") ≡ a → bytes_eq name (codes "mo") ≡ b → bytes_eq name (codes "moa") ≡ c → bytes_eq name (codes "mob") ≡ d
    → IsKindOf (cond a (Some kind.Ao) (cond b (Some kind.Mo) (cond c (Some kind.Moa) (cond d (Some kind.Mob) None)))) name
kind_by name true b c d h0 h1 h2 h3 = ((bytes_eq-Decides name (codes "ao")).0 h0, refl)
kind_by name false true c d h0 h1 h2 h3 = ((bytes_eq-Decides name (codes "mo")).0 h1, refl)
kind_by name false false true d h0 h1 h2 h3 = ((bytes_eq-Decides name (codes "moa")).0 h2, refl)
kind_by name false false false true h0 h1 h2 h3 = ((bytes_eq-Decides name (codes "mob")).0 h3, refl)
kind_by name false false false false h0 h1 h2 h3 = tt

pub kind_sound : (name : List ℕ) → IsKindOf (kind_of name) name
kind_sound name = kind_by name (bytes_eq name (codes "ao")) (bytes_eq name (codes "mo")) (bytes_eq name (codes "moa")) (bytes_eq name (codes "mob")) refl refl refl refl

pub kind_again : (k : Kind) → is_cut_by_inputs k ≡ true → kind_of (kind_name k) ≡ Some k
kind_again kind.Ao h = refl
kind_again kind.Mo h = refl
kind_again kind.Moa h = refl
kind_again kind.Mob h = refl
kind_again kind.Index h = absurd cc

pub both : (a b : Bool) → a && b ≡ true → (a ≡ true) × (b ≡ true)
both true b h = (refl, h)
both false b h = absurd cc

pub and_true : (a b : Bool) → a ≡ true → b ≡ true → a && b ≡ true
and_true a b h k = ap (λ x. x && b) h ∙ k

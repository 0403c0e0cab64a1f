-- Names and printed texts: which bytes they have.
use Rattle.std.specs.Prelude.{ℕ, List, [], ◌∷◌, Bool, false, ◌==◌, ◌&&◌, ◌||◌, not, nat_le, length, codes}
use Rattle.std.specs.List.{list_all, list_any}
use Rattle.std.specs.Str.{bytes_eq}
use Rattle.sial_syntax.specs.Limits.{most_name, most_text}

-- whether a byte is a small letter
abbrev pub is_letter : ℕ → Bool
is_letter b = nat_le 97 b && nat_le b 122

-- whether a byte is a digit
abbrev pub is_digit : ℕ → Bool
is_digit b = nat_le 48 b && nat_le b 57

-- whether a byte stands in names: a small letter, a digit or `_`
abbrev pub is_name_byte : ℕ → Bool
is_name_byte b = is_letter b || (is_digit b || (b == 95))

-- the words that are never names
abbrev pub reserved : List (List ℕ)
reserved =
    codes "sial" ∷ codes "endsial" ∷ codes "aoindex" ∷ codes "moindex" ∷ codes "moaindex" ∷ codes "mobindex" ∷ codes "index" ∷ codes "subindex"
    ∷ codes "of" ∷ codes "scalar" ∷ codes "static" ∷ codes "temp" ∷ codes "local" ∷ codes "distributed" ∷ codes "served" ∷ codes "proc" ∷ codes "endproc"
    ∷ codes "do" ∷ codes "in" ∷ codes "enddo" ∷ codes "pardo" ∷ codes "where" ∷ codes "endpardo" ∷ codes "if" ∷ codes "else" ∷ codes "endif" ∷ codes "call"
    ∷ codes "get" ∷ codes "put" ∷ codes "request" ∷ codes "prepare" ∷ codes "create" ∷ codes "delete" ∷ codes "allocate" ∷ codes "deallocate"
    ∷ codes "collective" ∷ codes "sip_barrier" ∷ codes "server_barrier" ∷ codes "print" ∷ codes "execute" ∷ codes "print_scalar" ∷ codes "compute_integrals" ∷ []

-- whether a word is reserved
abbrev pub is_reserved : List ℕ → Bool
is_reserved word = list_any (bytes_eq word) reserved

-- whether the first byte is a letter
abbrev pub begins_with_letter : List ℕ → Bool
begins_with_letter [] = false
begins_with_letter (b ∷ bs) = is_letter b

-- whether bytes have the form of a name: a letter, then letters, digits and `_`, not too many
abbrev pub has_name_form : List ℕ → Bool
has_name_form name = begins_with_letter name && (list_all is_name_byte name && nat_le (length name) most_name)

-- whether bytes are a name: they have its form, and are no reserved word
abbrev pub is_name : List ℕ → Bool
is_name name = has_name_form name && not (is_reserved name)

-- whether a byte stands in printed texts
abbrev pub is_text_byte : ℕ → Bool
is_text_byte b = nat_le 32 b && (nat_le b 126 && not (b == 34))

-- whether bytes are a printed text
abbrev pub is_text : List ℕ → Bool
is_text text = list_all is_text_byte text && nat_le (length text) most_text

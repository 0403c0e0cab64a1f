-- Small facts on what loads answer.
use Rattle.std.proofs.Common.{◌≡◌, ℕ, List, [], Option, Some, None, sym, ap, ◌++◌}
use Rattle.sip_files.specs.Files.{IsPartOf}

-- nothing is a first part of anything
pub empty_is_part : (part : List ℕ) (held : Option (List ℕ)) → part ≡ [] → IsPartOf part held
empty_is_part part None none = none
empty_is_part part (Some bytes) none = (bytes, ap (λ front. front ++ bytes) (sym none))

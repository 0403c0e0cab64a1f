-- What single reads and writes of a stream come to.
use Rattle.std.proofs.Common.{◌≡◌, ℕ, ◌<◌, min, List, [], ◌∷◌, ◌++◌, Option, Some, None, IfSome, option_map, length, take, drop, refl, sym, ap, ◌∙◌, subst, append_assoc, append-nil, arith}
use Rattle.std.proofs.lemmas.List.{take_all, length-take, take-append-drop}
use Rattle.std.specs.Io.KnownBytes.{Appends, Consumes}
use Rattle.sip_files.specs.Files.{IsPrefix}
use Rattle.sip_files.specs.Stream.{AppendsPart, Took}

-- nothing was appended
appends-none : (known : Option (List ℕ)) → Appends known known []
appends-none None = tt
appends-none (Some held) = sym (append-nil held)

-- what was appended in a row
appends-both : (a b c : Option (List ℕ)) (first second : List ℕ) → Appends a b first → Appends b c second → Appends a c (first ++ second)
appends-both None b c first second p q = tt
appends-both (Some x) None c first second p q = absurd p
appends-both (Some x) (Some y) None first second p q = absurd q
appends-both (Some x) (Some y) (Some z) first second p q = q ∙ ap (λ l. l ++ second) p ∙ append_assoc x first second

-- before the first write all bytes are left
pub took_none : (known : Option (List ℕ)) (bytes : List ℕ) → Took known known bytes bytes
took_none known bytes = record { part = []; split = refl; taken = appends-none known }

-- two writes in a row
pub took_more : {a b c : Option (List ℕ)} {bytes rest left : List ℕ} → Took a b bytes rest → Took b c rest left → Took a c bytes left
took_more {a = a} {b = b} {c = c} {left = left} first second = record {
  part = first.part ++ second.part;
  split = first.split ∙ ap (λ back. first.part ++ back) second.split ∙ sym (append_assoc first.part second.part left);
  taken = appends-both a b c first.part second.part first.taken second.taken;
}

-- where nothing is left, all bytes were taken
pub took_all : {a b : Option (List ℕ)} {bytes rest : List ℕ} → Took a b bytes rest → length rest ≡ 0 → Appends a b bytes
took_all {a = a} {b = b} {rest = []} took none = subst (λ (l : List ℕ). Appends a b l) (sym (took.split ∙ append-nil took.part)) took.taken
took_all {rest = x ∷ rest} took none = absurd (omega (arith, none))

-- what was taken so far is a first part of the bytes
pub took_part : {a b : Option (List ℕ)} {bytes rest : List ℕ} → Took a b bytes rest → AppendsPart a b bytes
took_part {rest = rest} took = (took.part, (rest, took.split), took.taken)

-- what a reader gave begins with all that it had
pub read_part : {R : Type 0} (remaining : R → Option (List ℕ)) (stream inner : R) (left : Option (List ℕ)) (limit : ℕ) (old new : List ℕ) → inner ≡ stream → old ≡ [] → Consumes (option_map (take limit) (remaining inner)) left (drop (length old) new) → IfSome (remaining stream) (IsPrefix new)
read_part remaining stream inner left limit old new same none gave =
    subst
    (λ (s : _). IfSome (remaining s) (IsPrefix new))
    same
    (front (remaining inner) left (subst (λ (l : List ℕ). Consumes (option_map (take limit) (remaining inner)) left (drop (length l) new)) none gave))
  where
    front : (known left : Option (List ℕ)) → Consumes (option_map (take limit) known) left new → IfSome known (IsPrefix new)
    front None left gave = tt
    front (Some bytes) None gave = absurd gave
    front (Some bytes) (Some rest) gave = (rest ++ drop limit bytes, sym (take-append-drop limit bytes) ∙ ap (λ l. l ++ drop limit bytes) gave ∙ append_assoc new rest (drop limit bytes))

-- a reader that was read to its end below the limit gave all that it had
pub read_all : {R : Type 0} (remaining : R → Option (List ℕ)) (stream inner : R) (limit : ℕ) (old new : List ℕ) → inner ≡ stream → old ≡ [] → length new < limit → IfSome (option_map (take limit) (remaining inner)) (λ bytes. new ≡ old ++ bytes) → IfSome (remaining stream) (λ bytes. new ≡ bytes)
read_all remaining stream inner limit old new same none below gave =
    subst
    (λ (s : _). IfSome (remaining s) (λ bytes. new ≡ bytes))
    same
    (whole (remaining inner) (subst (λ (l : List ℕ). IfSome (option_map (take limit) (remaining inner)) (λ bytes. new ≡ l ++ bytes)) none gave))
  where
    whole : (known : Option (List ℕ)) → IfSome (option_map (take limit) known) (λ bytes. new ≡ bytes) → IfSome known (λ bytes. new ≡ bytes)
    whole None gave = tt
    whole (Some bytes) gave =
        let len : length new ≡ min limit (length bytes) = ap length gave ∙ length-take limit bytes in
        gave ∙ take_all limit bytes (omega (arith, len, below))

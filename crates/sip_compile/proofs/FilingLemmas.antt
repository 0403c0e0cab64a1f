-- What a file has that was cleared and added to.
use Rattle.std.proofs.Common.{◌≡◌, ℕ, List, [], Option, Some, None, Result, Ok, Err, OnOk, OnErr, refl, sym, ap, ◌∙◌, subst, inr, arith}
use Rattle.sip_files.specs.Files.{CountsOnly, Folder, Rose}
use Rattle.sip_files.specs.Sink.{Gains, GainsPart}
use Rattle.sip_files.specs.Writing.{bytes_of, cleared}
use Rattle.sip_files.specs.declared.call.Call.{Call}
use Rattle.sip_files.specs.declared.call.Call.TheVariants.{Load, Clear, Append}
use Rattle.sip_files.specs.declared.fault.Failed.{Failed}
use Rattle.sip_files.proofs.WritingLemmas.{bytes_in-insert}
use Rattle.sip_compile.specs.Filing.{CountsFiles, CountsWrites, Holds, HoldsPart, IsUnfiled}

-- bytes that are told are what the file has
told_holds : (told : Option Folder) (name bytes : List ℕ) → bytes_of told name ≡ Some bytes → Holds told name bytes
told_holds None name bytes is = absurd cc
told_holds (Some files) name bytes is = is

-- files that tell nothing hold anything
untold_holds : (told : Option Folder) (name bytes : List ℕ) → bytes_of told name ≡ None → Holds told name bytes
untold_holds None name bytes is = refl
untold_holds (Some files) name bytes is = absurd cc

-- What a cleared file gains is what it has.
pub gained_holds : (old mid new : Option Folder) (name bytes : List ℕ) → mid ≡ cleared old name → Gains (bytes_of mid name) (bytes_of new name) bytes → Holds new name bytes
gained_holds None mid new name bytes is gains =
    untold_holds new name bytes (subst (λ (m : Option Folder). Gains (bytes_of m name) (bytes_of new name) bytes) is gains)
gained_holds (Some files) mid new name bytes is gains =
    let empty : bytes_of mid name ≡ Some [] = ap (λ (m : Option Folder). bytes_of m name) is ∙ ap Some (bytes_in-insert files name []) in
    told_holds new name bytes (subst (λ (m : Option (List ℕ)). Gains m (bytes_of new name) bytes) empty gains)

-- The same of a first part.
pub part_holds : (old mid new : Option Folder) (name bytes : List ℕ) → mid ≡ cleared old name → GainsPart (bytes_of mid name) (bytes_of new name) bytes → HoldsPart new name bytes
part_holds old mid new name bytes is (part, front, gains) = (part, front, gained_holds old mid new name part is gains)

-- An answer whose bytes are the same.
pub same_part : (r : Result (Unit {0}) Failed) (old new this : Option (List ℕ)) (bytes : List ℕ) → this ≡ new → OnErr r (GainsPart old new bytes) → OnErr r (GainsPart old this bytes)
same_part (Ok done) old new this bytes same gains = tt
same_part (Err failed) old new this bytes same gains = subst (λ (n : Option (List ℕ)). GainsPart old n bytes) (sym same) gains

-- A file that was cleared and added to.
pub filed : (r : Result (Unit {0}) Failed) (old mid new : Option Folder) (name bytes : List ℕ) → mid ≡ cleared old name → OnOk r (Gains (bytes_of mid name) (bytes_of new name) bytes) → OnOk r (Holds new name bytes)
filed (Ok done) old mid new name bytes is gains = gained_holds old mid new name bytes is gains
filed (Err failed) old mid new name bytes is gains = tt

-- A file that was cleared, and to which not all was added.
pub unfiled :
    (r : Result (Unit {0}) Failed)
    (old mid new : Option Folder)
    (name bytes : List ℕ)
    (before between now : Call → ℕ)
    → mid ≡ cleared old name
    → between Append ≡ before Append
    → OnErr r (Rose (between Append) (now Append))
    → OnErr r (GainsPart (bytes_of mid name) (bytes_of new name) bytes)
    → OnErr r (IsUnfiled new name bytes before now)
unfiled (Ok done) old mid new name bytes before between now is same rose part = tt
unfiled (Err failed) old mid new name bytes before between now is same rose part =
    inr (subst (λ (n : ℕ). Rose n (now Append)) same rose, part_holds old mid new name bytes is part)

-- Counts of loads alone.
pub counts_loads : (before now : Call → ℕ) → CountsOnly Load before now → CountsFiles before now
counts_loads before now only = record {
  load = only.later;
  clear = let same : now Clear ≡ before Clear = only.others Clear (λ e. absurd cc) in omega (arith, same);
  append = let same : now Append ≡ before Append = only.others Append (λ e. absurd cc) in omega (arith, same);
  others = λ other load clear append. only.others other load;
}

-- Counts of loads, and then of writes.
pub counts_both : (before between now : Call → ℕ) → CountsOnly Load before between → CountsWrites between now → CountsFiles before now
counts_both before between now only writes = record {
  load = let same : now Load ≡ between Load = writes.others Load (λ e. absurd cc) (λ e. absurd cc) in omega (arith, same, only.later);
  clear = let same : between Clear ≡ before Clear = only.others Clear (λ e. absurd cc) in omega (arith, same, writes.clear);
  append = let same : between Append ≡ before Append = only.others Append (λ e. absurd cc) in omega (arith, same, writes.append);
  others = λ other load clear append. writes.others other clear append ∙ only.others other load;
}

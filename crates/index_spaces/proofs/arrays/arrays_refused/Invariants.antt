use Rattle.std.proofs.Common.{◌≡◌, [], drop, take}
use Rattle.index_spaces.specs.Refusing.{arrays_refusal}
use Rattle.index_spaces.proofs.arrays.arrays_refused.Given as goal

-- the arrays that are left are refused for what all are
abbrev pub invariant-loop-place : goal.invariant-loop-place
invariant-loop-place l =
    arrays_refusal l.spaces.spaces (take l.place l.arrays) (drop l.place l.arrays) ≡ arrays_refusal l.spaces.spaces [] l.arrays

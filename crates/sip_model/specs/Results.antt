-- The result of a machine's state and of the sequential state, and its text.
use Rattle.std.specs.Prelude.{ℕ, ◌+◌, List, [], ◌∷◌, ◌++◌, map, length, fold, Bool, true, false, slice_index_or, Option, Some, None, codes, decimal}
use Rattle.std.specs.List.{flat_map, enumerate_from}
use Rattle.sial_syntax.specs.declared.array.ArrayKind.{ArrayKind}
use Rattle.sial_syntax.specs.declared.array.ArrayKind.TheVariants.{Static, Temp, Local, Distributed, Served}
use Rattle.sial_syntax.specs.declared.classes.ScalarClass.{ScalarClass}
use Rattle.sial_syntax.specs.declared.classes.ScalarClass.TheVariants.{Replicated, Private, Partial}
use Rattle.sial_syntax.specs.Boxes.{numbers_from}
use Rattle.sial_syntax.specs.Spaces.{numbers_at}
use Rattle.sial_meaning.specs.Number.{plus}
use Rattle.sial_meaning.specs.Own.{Own, for_each, scalar_of}
use Rattle.sial_meaning.specs.Setting.{Setting, scalar_class, scalar_name, array_kind, block_count, first_of_class, dims_of, array_of}
use Rattle.sial_meaning.specs.State.{State}
use Rattle.sip_model.specs.declared.options.Options.{Options}
use Rattle.sip_model.specs.Machines.{Machine, worker_at, server_at}
use Rattle.sip_model.specs.Owners.{Cell}
use Rattle.sip_model.specs.Placement.{server_of}
use Rattle.sip_model.specs.Servers.{kept_at, served_words}

-- a result: each scalar's number, none for a private one, and the blocks of the arrays; distributed and served blocks by their numbers
pub record Result : Type 0 where
  pub scalars : List (Option ℕ)
  pub statics : List (List (List ℕ))
  pub created : List Bool
  pub distributed : List (List ℕ)
  pub served : List (List ℕ)

-- a scalar of a result: what each worker holds where it is replicated, the sum of all parts where it is partial
abbrev pub result_scalar : ScalarClass → (held : Option ℕ) → (sum : ℕ) → Option ℕ
result_scalar Replicated held sum = held
result_scalar Private held sum = None
result_scalar Partial held sum = Some sum

-- the scalars of a result
abbrev pub result_scalars : Setting → Own → (sum : ℕ → ℕ) → List (Option ℕ)
result_scalars g own sum = for_each (length g.program.scalars) (λ s. result_scalar (scalar_class g s) (scalar_of own s) (sum s))

-- the sum of the workers' parts of a scalar
abbrev pub sum_of_parts : Setting → Options → Machine → (scalar : ℕ) → ℕ
sum_of_parts g o s scalar = fold plus 0 (map (λ w. slice_index_or (worker_at g s w).partials scalar 0) (numbers_from 0 o.workers))

-- a served block: its server's, or else the store's
abbrev pub served_block : Options → Machine → ℕ × Cell → List ℕ
served_block o s e = served_words (kept_at (server_at s (server_of o e.0)) e.0) e.1

-- the result of a machine: scalars and statics of worker 0, distributed blocks of their homes, served ones of their servers and the store
abbrev pub result : Setting → Options → Machine → Result
result g o s = record {
  scalars = result_scalars g (worker_at g s 0).own (sum_of_parts g o s);
  statics = (worker_at g s 0).own.statics;
  created = (worker_at g s 0).own.created;
  distributed = map (λ (cell : Cell). cell.words) s.homed;
  served = map (served_block o s) (enumerate_from 0 s.stored);
}

-- the result of a sequential state
abbrev pub sequential_result : Setting → State → Result
sequential_result g s = record {
  scalars = result_scalars g s.own (λ scalar. slice_index_or s.partials scalar 0);
  statics = s.own.statics;
  created = s.own.created;
  distributed = s.shared.distributed;
  served = s.shared.served;
}

-- the lines of a machine: those that worker 0 printed
abbrev pub lines : Setting → Machine → List (List ℕ)
lines g s = (worker_at g s 0).lines

-- a line of a text with its end
abbrev pub ended_line : List ℕ → List ℕ
ended_line line = line ++ 10 ∷ []

-- the text of printed lines
abbrev pub text_of_lines : List (List ℕ) → List ℕ
text_of_lines printed = flat_map ended_line printed

-- numbers, each behind a space
abbrev pub spaced : List ℕ → List ℕ
spaced numbers = flat_map (λ n. codes " " ++ decimal n) numbers

-- the line of a scalar
abbrev pub scalar_text : Setting → (scalar : ℕ) → Option ℕ → List ℕ
scalar_text g scalar None = []
scalar_text g scalar (Some number) = ended_line (codes "scalar " ++ (scalar_name g scalar ++ (codes " = " ++ decimal number)))

-- the line of a block: its segment numbers, then its elements
abbrev pub block_text : Setting → (array : ℕ) → ℕ × List ℕ → List ℕ
block_text g array e =
    ended_line (codes "block " ++ ((array_of g array).name
    ++ (spaced (numbers_at g.spaces (dims_of g array) e.0) ++ (codes " =" ++ spaced e.1))))

-- the blocks of an array among those of its class
abbrev pub blocks_from : Setting → (array : ℕ) → List (List ℕ) → List (List ℕ)
blocks_from g array blocks = for_each (block_count g array) (λ k. slice_index_or blocks (first_of_class g array + k) [])

-- the blocks of an array in a result, none where it has none there
abbrev pub result_blocks : Setting → Result → (array : ℕ) → (created : Bool) → ArrayKind → List (List ℕ)
result_blocks g r array created Static = slice_index_or r.statics array []
result_blocks g r array created Temp = []
result_blocks g r array created Local = []
result_blocks g r array true Distributed = blocks_from g array r.distributed
result_blocks g r array false Distributed = []
result_blocks g r array created Served = blocks_from g array r.served

-- the lines of an array
abbrev pub array_text : Setting → Result → (array : ℕ) → List ℕ
array_text g r array =
    flat_map (block_text g array) (enumerate_from 0 (result_blocks g r array (slice_index_or r.created array false) (array_kind g array)))

-- the text of a result: scalars that aren't private, then static, distributed and served arrays, both in order of declaration
abbrev pub result_text : Setting → Result → List ℕ
result_text g r =
    flat_map (λ (e : ℕ × Option ℕ). scalar_text g e.0 e.1) (enumerate_from 0 r.scalars)
    ++ flat_map (array_text g r) (numbers_from 0 (length g.program.arrays))

use Rattle.std.proofs.Common.{◌≡◌, ◌<◌, ◌*◌, ◌^◌, ◌∙◌, ap, length, arith, rules}
use Rattle.kernel_permute.specs.Positions.{product, strides_of}
use Rattle.kernel_permute.specs.Strided.{reach}
use Rattle.kernel_permute.proofs.OrderLemmas.{positive_from_picked}
use Rattle.kernel_permute.proofs.PermutingLemmas.{axes_of, axes_done, lengths-axes_of, reach_within, permuted_is, permuted_none}
use Rattle.kernel_permute.proofs.permuting.permute.Goals as goal

pub returns-then-is_empty : goal.returns-then-is_empty
returns-then-is_empty g c =
    let none : length c.args.to.now ≡ 0 = grind arith in
    record { value = permuted_none c.args.how c.args.dims.now c.args.order.now c.args.from.now c.args.to.now none }

pub strides-apart-requires : goal.strides-apart-requires
strides-apart-requires g c =
    let some : 0 < length c.args.to.now = grind arith in
    let all : 0 < product c.args.dims.now = positive_from_picked c.args.order.now c.args.dims.now c.requires.order (omega arith) (omega arith) in
    let fits : length c.args.from.now < 2 ^ 64 = search rules in
    let one : g.row.R * 4 < 2 ^ 63 = omega arith in
    let two : g.row.R * 8 < 2 ^ 63 = omega arith in
    (one, (two, (all, omega arith)))

pub offset_bounds-axes-k : goal.offset_bounds-axes-k
offset_bounds-axes-k g c = omega arith

pub shared_whole_as_slice-read : goal.shared_whole_as_slice-read
shared_whole_as_slice-read g c = omega arith

pub read-requires-clause-same_length : goal.read-requires-clause-same_length
read-requires-clause-same_length g c =
    let made : c.loop-k.axes ≡ axes_of c.args.dims.now c.strides-apart.result c.args.order.now = axes_done c.loop-k.axes c.args.dims.now c.strides-apart.result c.args.order.now c.loop-k.k (omega arith) c.loop-k.invariant.long c.loop-k.invariant.done in
    rw made (rw (lengths-axes_of c.args.dims.now c.strides-apart.result c.args.order.now) c.requires.to_length)

pub read-requires-clause-within : goal.read-requires-clause-within
read-requires-clause-within g c =
    let some : 0 < length c.args.to.now = grind arith in
    let all : 0 < product c.args.dims.now = positive_from_picked c.args.order.now c.args.dims.now c.requires.order (omega arith) (omega arith) in
    let made : c.loop-k.axes ≡ axes_of c.args.dims.now (strides_of c.args.dims.now) c.args.order.now = axes_done c.loop-k.axes c.args.dims.now c.strides-apart.result c.args.order.now c.loop-k.k (omega arith) c.loop-k.invariant.long c.loop-k.invariant.done ∙ ap (λ ss. axes_of c.args.dims.now ss c.args.order.now) c.strides-apart.ensures.value in
    let below : reach (axes_of c.args.dims.now (strides_of c.args.dims.now) c.args.order.now) < product c.args.dims.now = reach_within c.args.dims.now c.args.order.now c.requires.order (omega arith) all in
    rw made (omega arith)

pub returns : goal.returns
returns g c =
    let made : c.loop-k.axes ≡ axes_of c.args.dims.now (strides_of c.args.dims.now) c.args.order.now = axes_done c.loop-k.axes c.args.dims.now c.strides-apart.result c.args.order.now c.loop-k.k (omega arith) c.loop-k.invariant.long c.loop-k.invariant.done ∙ ap (λ ss. axes_of c.args.dims.now ss c.args.order.now) c.strides-apart.ensures.value in
    record { value = c.read.ensures.value ∙ permuted_is c.args.how c.args.dims.now c.args.order.now c.args.from.now c.args.to.now c.loop-k.axes c.requires.order (omega arith) made }

use Rattle.std.proofs.Common.{sym, ◌≡◌, ◌+◌, ◌*◌, ◌≤◌, length, refl, ◌∙◌, arith}
use lib.ListN.{set}
use Rattle.lists.specs.Part.{part}
use Rattle.model.specs.Poly.{block}
use Rattle.model.specs.Product.{grown}
use Rattle.product.specs.Line.{room-full, room-lens, room-plain, room-four, room_five, made-four, made_five}
use Rattle.product.specs.Line.{made_plain, line-within, line-raises, line-none, First, up-shape, up-lens}
use Rattle.product.specs.Line.{up-wide, Second, line-room, lens-k, small-k, len3, line_joins, line_made}
use Rattle.product.specs.Chosen.{by_number}
use Rattle.product.specs.declared.kernel.Way.TheVariants.{LineRight, LineLeft}
use Rattle.product.proofs.kernel.+linear_product_product.Goals as goal

pub linear_product-offset_bounds-work-p : goal.linear_product-offset_bounds-work-p
linear_product-offset_bounds-work-p t c = omega (arith, c.requires.lies.ends, c.requires.lies.below, line-within c.requires)

pub linear_product-slice_bounds-raise_to-start : goal.linear_product-slice_bounds-raise_to-start
linear_product-slice_bounds-raise_to-start t c = omega (arith, c.requires.lies.ends, c.requires.lies.below, line-within c.requires)

pub linear_product-slice_bounds-raise_to-count : goal.linear_product-slice_bounds-raise_to-count
linear_product-slice_bounds-raise_to-count t c = omega (arith, c.requires.lies.ends, c.requires.lies.below, line-within c.requires)

pub linear_product-slice_bounds-raise_to-end : goal.linear_product-slice_bounds-raise_to-end
linear_product-slice_bounds-raise_to-end t c = omega (arith, c.requires.lies.ends, c.requires.lies.below, line-within c.requires)

pub linear_product-raise_to-r-requires : goal.linear_product-raise_to-r-requires
linear_product-raise_to-r-requires t c = line-raises c.requires

pub linear_product-returns-then-c : goal.linear_product-returns-then-c
linear_product-returns-then-c t c = line-none c.requires c.args.line c.raise_to-r.ensures c.if-c.true _

pub linear_product-count_of-z-requires : goal.linear_product-count_of-z-requires
linear_product-count_of-z-requires t c =
    let shape : c.raise_to-r.result ≡ grown c.args.limits c.args.line.variable c.args.n = up-shape c.args.limits c.args.line.variable
    c.args.line.m (block c.args.n (part c.args.p c.args.e c.args.work.now)) c.raise_to-r.ensures in
    up-lens c.requires shape

pub linear_product-keep-requires : goal.linear_product-keep-requires
linear_product-keep-requires t c =
    let shape : c.raise_to-r.result ≡ grown c.args.limits c.args.line.variable c.args.n = up-shape c.args.limits c.args.line.variable
    c.args.line.m (block c.args.n (part c.args.p c.args.e c.args.work.now)) c.raise_to-r.ensures in
    let wide : (c.count_of-z.result ≤ length c.args.out.now) × (c.args.spare + (2 * c.count_of-z.result + 1) ≤ length c.args.work.now) =
    up-wide c.requires shape c.count_of-z.ensures in
    (omega (arith, wide, c.raise_to-r.auto.out), omega (arith, wide))

pub linear_product-overflow_add-q : goal.linear_product-overflow_add-q
linear_product-overflow_add-q t c =
    let shape : c.raise_to-r.result ≡ grown c.args.limits c.args.line.variable c.args.n = up-shape c.args.limits c.args.line.variable
    c.args.line.m (block c.args.n (part c.args.p c.args.e c.args.work.now)) c.raise_to-r.ensures in
    let wide : (c.count_of-z.result ≤ length c.args.out.now) × (c.args.spare + (2 * c.count_of-z.result + 1) ≤ length c.args.work.now) =
    up-wide c.requires shape c.count_of-z.ensures in
    omega (arith, wide)

pub linear_product-offset_bounds-work-q : goal.linear_product-offset_bounds-work-q
linear_product-offset_bounds-work-q t c =
    let shape : c.raise_to-r.result ≡ grown c.args.limits c.args.line.variable c.args.n = up-shape c.args.limits c.args.line.variable
    c.args.line.m (block c.args.n (part c.args.p c.args.e c.args.work.now)) c.raise_to-r.ensures in
    let wide : (c.count_of-z.result ≤ length c.args.out.now) × (c.args.spare + (2 * c.count_of-z.result + 1) ≤ length c.args.work.now) =
    up-wide c.requires shape c.count_of-z.ensures in
    omega (arith, wide)

pub linear_product-overflow_add-t : goal.linear_product-overflow_add-t
linear_product-overflow_add-t t c =
    let shape : c.raise_to-r.result ≡ grown c.args.limits c.args.line.variable c.args.n = up-shape c.args.limits c.args.line.variable
    c.args.line.m (block c.args.n (part c.args.p c.args.e c.args.work.now)) c.raise_to-r.ensures in
    let wide : (c.count_of-z.result ≤ length c.args.out.now) × (c.args.spare + (2 * c.count_of-z.result + 1) ≤ length c.args.work.now) =
    up-wide c.requires shape c.count_of-z.ensures in
    omega (arith, wide)

pub linear_product-bounds-work-q : goal.linear_product-bounds-work-q
linear_product-bounds-work-q t c =
    let shape : c.raise_to-r.result ≡ grown c.args.limits c.args.line.variable c.args.n = up-shape c.args.limits c.args.line.variable
    c.args.line.m (block c.args.n (part c.args.p c.args.e c.args.work.now)) c.raise_to-r.ensures in
    let wide : (c.count_of-z.result ≤ length c.args.out.now) × (c.args.spare + (2 * c.count_of-z.result + 1) ≤ length c.args.work.now) =
    up-wide c.requires shape c.count_of-z.ensures in
    omega (arith, wide, c.keep.ensures.below.len)

pub linear_product-product-k-requires : goal.linear_product-product-k-requires
linear_product-product-k-requires t c =
    let first : First c.args.work.now (length c.args.out.now) c.args.p c.args.e c.args.n c.args.line.variable c.args.spare c.args.limits
    c.args.stage c.raise_to-r.result c.count_of-z.result c.args.line.m c.args.line.c c.args.out.now c.raise_to-r.new.out c.keep.new.work
    (set c.keep.new.work (c.args.spare + c.count_of-z.result) c.args.line.c) =
    record { room = c.requires; up = c.raise_to-r.ensures; en = c.count_of-z.ensures; kept = c.keep.ensures; const = refl } in
    (omega (arith, c.decreases, c.requires.some), line-room first c.raise_to-r.auto.out)

pub linear_product-count_of-y-requires : goal.linear_product-count_of-y-requires
linear_product-count_of-y-requires t c =
    let first : First c.args.work.now (length c.args.out.now) c.args.p c.args.e c.args.n c.args.line.variable c.args.spare c.args.limits
    c.args.stage c.raise_to-r.result c.count_of-z.result c.args.line.m c.args.line.c c.args.out.now c.raise_to-r.new.out c.keep.new.work
    (set c.keep.new.work (c.args.spare + c.count_of-z.result) c.args.line.c) =
    record { room = c.requires; up = c.raise_to-r.ensures; en = c.count_of-z.ensures; kept = c.keep.ensures; const = refl } in
    let second : Second c.args.work.now (length c.args.out.now) c.args.p c.args.e c.args.n c.args.line.variable c.args.spare c.args.limits
    c.args.stage c.raise_to-r.result c.count_of-z.result c.args.line.m c.args.line.c c.args.out.now c.raise_to-r.new.out c.keep.new.work
    (set c.keep.new.work (c.args.spare + c.count_of-z.result) c.args.line.c) c.product-k.result c.product-k.new.work c.product-k.new.out =
    record { first = first; made = c.product-k.ensures } in
    lens-k second

pub linear_product-keep-requires-2 : goal.linear_product-keep-requires-2
linear_product-keep-requires-2 t c =
    let shape : c.raise_to-r.result ≡ grown c.args.limits c.args.line.variable c.args.n = up-shape c.args.limits c.args.line.variable
    c.args.line.m (block c.args.n (part c.args.p c.args.e c.args.work.now)) c.raise_to-r.ensures in
    let wide : (c.count_of-z.result ≤ length c.args.out.now) × (c.args.spare + (2 * c.count_of-z.result + 1) ≤ length c.args.work.now) =
    up-wide c.requires shape c.count_of-z.ensures in
    let first : First c.args.work.now (length c.args.out.now) c.args.p c.args.e c.args.n c.args.line.variable c.args.spare c.args.limits
    c.args.stage c.raise_to-r.result c.count_of-z.result c.args.line.m c.args.line.c c.args.out.now c.raise_to-r.new.out c.keep.new.work
    (set c.keep.new.work (c.args.spare + c.count_of-z.result) c.args.line.c) =
    record { room = c.requires; up = c.raise_to-r.ensures; en = c.count_of-z.ensures; kept = c.keep.ensures; const = refl } in
    let second : Second c.args.work.now (length c.args.out.now) c.args.p c.args.e c.args.n c.args.line.variable c.args.spare c.args.limits
    c.args.stage c.raise_to-r.result c.count_of-z.result c.args.line.m c.args.line.c c.args.out.now c.raise_to-r.new.out c.keep.new.work
    (set c.keep.new.work (c.args.spare + c.count_of-z.result) c.args.line.c) c.product-k.result c.product-k.new.work c.product-k.new.out =
    record { first = first; made = c.product-k.ensures } in (
      omega (arith, c.count_of-y.ensures, small-k second, wide, c.raise_to-r.auto.out, c.product-k.auto.out),
      omega (arith, c.count_of-y.ensures, small-k second, wide, len3 second),
    )

pub linear_product-overflow_add-u : goal.linear_product-overflow_add-u
linear_product-overflow_add-u t c =
    let shape : c.raise_to-r.result ≡ grown c.args.limits c.args.line.variable c.args.n = up-shape c.args.limits c.args.line.variable
    c.args.line.m (block c.args.n (part c.args.p c.args.e c.args.work.now)) c.raise_to-r.ensures in
    let wide : (c.count_of-z.result ≤ length c.args.out.now) × (c.args.spare + (2 * c.count_of-z.result + 1) ≤ length c.args.work.now) =
    up-wide c.requires shape c.count_of-z.ensures in
    let first : First c.args.work.now (length c.args.out.now) c.args.p c.args.e c.args.n c.args.line.variable c.args.spare c.args.limits
    c.args.stage c.raise_to-r.result c.count_of-z.result c.args.line.m c.args.line.c c.args.out.now c.raise_to-r.new.out c.keep.new.work
    (set c.keep.new.work (c.args.spare + c.count_of-z.result) c.args.line.c) =
    record { room = c.requires; up = c.raise_to-r.ensures; en = c.count_of-z.ensures; kept = c.keep.ensures; const = refl } in
    let second : Second c.args.work.now (length c.args.out.now) c.args.p c.args.e c.args.n c.args.line.variable c.args.spare c.args.limits
    c.args.stage c.raise_to-r.result c.count_of-z.result c.args.line.m c.args.line.c c.args.out.now c.raise_to-r.new.out c.keep.new.work
    (set c.keep.new.work (c.args.spare + c.count_of-z.result) c.args.line.c) c.product-k.result c.product-k.new.work c.product-k.new.out =
    record { first = first; made = c.product-k.ensures } in
    omega (arith, c.count_of-y.ensures, small-k second, wide)

pub linear_product-slice_bounds-add_blocks-end : goal.linear_product-slice_bounds-add_blocks-end
linear_product-slice_bounds-add_blocks-end t c =
    let shape : c.raise_to-r.result ≡ grown c.args.limits c.args.line.variable c.args.n = up-shape c.args.limits c.args.line.variable
    c.args.line.m (block c.args.n (part c.args.p c.args.e c.args.work.now)) c.raise_to-r.ensures in
    let wide : (c.count_of-z.result ≤ length c.args.out.now) × (c.args.spare + (2 * c.count_of-z.result + 1) ≤ length c.args.work.now) =
    up-wide c.requires shape c.count_of-z.ensures in
    let first : First c.args.work.now (length c.args.out.now) c.args.p c.args.e c.args.n c.args.line.variable c.args.spare c.args.limits
    c.args.stage c.raise_to-r.result c.count_of-z.result c.args.line.m c.args.line.c c.args.out.now c.raise_to-r.new.out c.keep.new.work
    (set c.keep.new.work (c.args.spare + c.count_of-z.result) c.args.line.c) =
    record { room = c.requires; up = c.raise_to-r.ensures; en = c.count_of-z.ensures; kept = c.keep.ensures; const = refl } in
    let second : Second c.args.work.now (length c.args.out.now) c.args.p c.args.e c.args.n c.args.line.variable c.args.spare c.args.limits
    c.args.stage c.raise_to-r.result c.count_of-z.result c.args.line.m c.args.line.c c.args.out.now c.raise_to-r.new.out c.keep.new.work
    (set c.keep.new.work (c.args.spare + c.count_of-z.result) c.args.line.c) c.product-k.result c.product-k.new.work c.product-k.new.out =
    record { first = first; made = c.product-k.ensures } in
    omega (arith, wide, c.keep-2.auto.work, len3 second)

pub linear_product-slice_bounds-add_blocks-end-2 : goal.linear_product-slice_bounds-add_blocks-end-2
linear_product-slice_bounds-add_blocks-end-2 t c =
    let shape : c.raise_to-r.result ≡ grown c.args.limits c.args.line.variable c.args.n = up-shape c.args.limits c.args.line.variable
    c.args.line.m (block c.args.n (part c.args.p c.args.e c.args.work.now)) c.raise_to-r.ensures in
    let wide : (c.count_of-z.result ≤ length c.args.out.now) × (c.args.spare + (2 * c.count_of-z.result + 1) ≤ length c.args.work.now) =
    up-wide c.requires shape c.count_of-z.ensures in
    let first : First c.args.work.now (length c.args.out.now) c.args.p c.args.e c.args.n c.args.line.variable c.args.spare c.args.limits
    c.args.stage c.raise_to-r.result c.count_of-z.result c.args.line.m c.args.line.c c.args.out.now c.raise_to-r.new.out c.keep.new.work
    (set c.keep.new.work (c.args.spare + c.count_of-z.result) c.args.line.c) =
    record { room = c.requires; up = c.raise_to-r.ensures; en = c.count_of-z.ensures; kept = c.keep.ensures; const = refl } in
    let second : Second c.args.work.now (length c.args.out.now) c.args.p c.args.e c.args.n c.args.line.variable c.args.spare c.args.limits
    c.args.stage c.raise_to-r.result c.count_of-z.result c.args.line.m c.args.line.c c.args.out.now c.raise_to-r.new.out c.keep.new.work
    (set c.keep.new.work (c.args.spare + c.count_of-z.result) c.args.line.c) c.product-k.result c.product-k.new.work c.product-k.new.out =
    record { first = first; made = c.product-k.ensures } in
    omega (arith, c.count_of-y.ensures, small-k second, wide, c.keep-2.auto.work, len3 second)

pub linear_product-add_blocks-requires : goal.linear_product-add_blocks-requires
linear_product-add_blocks-requires t c =
    let first : First c.args.work.now (length c.args.out.now) c.args.p c.args.e c.args.n c.args.line.variable c.args.spare c.args.limits
    c.args.stage c.raise_to-r.result c.count_of-z.result c.args.line.m c.args.line.c c.args.out.now c.raise_to-r.new.out c.keep.new.work
    (set c.keep.new.work (c.args.spare + c.count_of-z.result) c.args.line.c) =
    record { room = c.requires; up = c.raise_to-r.ensures; en = c.count_of-z.ensures; kept = c.keep.ensures; const = refl } in
    let second : Second c.args.work.now (length c.args.out.now) c.args.p c.args.e c.args.n c.args.line.variable c.args.spare c.args.limits
    c.args.stage c.raise_to-r.result c.count_of-z.result c.args.line.m c.args.line.c c.args.out.now c.raise_to-r.new.out c.keep.new.work
    (set c.keep.new.work (c.args.spare + c.count_of-z.result) c.args.line.c) c.product-k.result c.product-k.new.work c.product-k.new.out =
    record { first = first; made = c.product-k.ensures } in
    line_joins second c.count_of-y.ensures c.keep-2.ensures (c.product-k.auto.out ∙ c.raise_to-r.auto.out)

pub linear_product-shape_of-work : goal.linear_product-shape_of-work
linear_product-shape_of-work t c =
    let first : First c.args.work.now (length c.args.out.now) c.args.p c.args.e c.args.n c.args.line.variable c.args.spare c.args.limits
    c.args.stage c.raise_to-r.result c.count_of-z.result c.args.line.m c.args.line.c c.args.out.now c.raise_to-r.new.out c.keep.new.work
    (set c.keep.new.work (c.args.spare + c.count_of-z.result) c.args.line.c) =
    record { room = c.requires; up = c.raise_to-r.ensures; en = c.count_of-z.ensures; kept = c.keep.ensures; const = refl } in
    let second : Second c.args.work.now (length c.args.out.now) c.args.p c.args.e c.args.n c.args.line.variable c.args.spare c.args.limits
    c.args.stage c.raise_to-r.result c.count_of-z.result c.args.line.m c.args.line.c c.args.out.now c.raise_to-r.new.out c.keep.new.work
    (set c.keep.new.work (c.args.spare + c.count_of-z.result) c.args.line.c) c.product-k.result c.product-k.new.work c.product-k.new.out =
    record { first = first; made = c.product-k.ensures } in
    c.keep-2.auto.work ∙ len3 second

pub linear_product-shape_of-out : goal.linear_product-shape_of-out
linear_product-shape_of-out t c = c.add_blocks.auto.out ∙ (c.product-k.auto.out ∙ c.raise_to-r.auto.out)

pub linear_product-returns : goal.linear_product-returns
linear_product-returns t c =
    let first : First c.args.work.now (length c.args.out.now) c.args.p c.args.e c.args.n c.args.line.variable c.args.spare c.args.limits
    c.args.stage c.raise_to-r.result c.count_of-z.result c.args.line.m c.args.line.c c.args.out.now c.raise_to-r.new.out c.keep.new.work
    (set c.keep.new.work (c.args.spare + c.count_of-z.result) c.args.line.c) =
    record { room = c.requires; up = c.raise_to-r.ensures; en = c.count_of-z.ensures; kept = c.keep.ensures; const = refl } in
    let second : Second c.args.work.now (length c.args.out.now) c.args.p c.args.e c.args.n c.args.line.variable c.args.spare c.args.limits
    c.args.stage c.raise_to-r.result c.count_of-z.result c.args.line.m c.args.line.c c.args.out.now c.raise_to-r.new.out c.keep.new.work
    (set c.keep.new.work (c.args.spare + c.count_of-z.result) c.args.line.c) c.product-k.result c.product-k.new.work c.product-k.new.out =
    record { first = first; made = c.product-k.ensures } in
    line_made second c.count_of-y.ensures c.keep-2.ensures c.args.line refl refl refl c.if-c.false c.add_blocks.ensures

pub product-choose-w-requires : goal.product-choose-w-requires
product-choose-w-requires t c = record {
  fact_1 = (room-lens c.requires).0;
  fact_2 = (room-lens c.requires).1;
  fact_3 = (room-full
      c.requires).0;
  fact_4 = (room-full c.requires).1;
}

pub product-plain-requires : goal.product-plain-requires
product-plain-requires t c = room-plain c.requires

pub product-linear_product-requires : goal.product-linear_product-requires
product-linear_product-requires t c = (
  omega (arith, c.decreases),
  room-four c.requires (LineRight c.in-LineRight.line) (sym c.in-LineRight.is ∙ c.choose-w.ensures) refl,
)

pub product-linear_product-requires-in-LineLeft : goal.product-linear_product-requires-in-LineLeft
product-linear_product-requires-in-LineLeft t c = (
  omega (arith, c.decreases),
  room_five c.requires (LineLeft c.in-LineLeft.line) (sym c.in-LineLeft.is ∙ c.choose-w.ensures) refl,
)

pub product-returns-in-LineRight : goal.product-returns-in-LineRight
product-returns-in-LineRight t c =
    made-four c.args.limits c.args.stage
    (block c.args.la (part c.args.pa c.args.ea c.args.work.now))
    (block c.args.lb (part c.args.pb c.args.eb c.args.work.now))
    (LineRight c.in-LineRight.line) (sym c.in-LineRight.is ∙ c.choose-w.ensures) refl c.linear_product.ensures

pub product-returns-in-LineLeft : goal.product-returns-in-LineLeft
product-returns-in-LineLeft t c =
    made_five c.args.limits c.args.stage
    (block c.args.la (part c.args.pa c.args.ea c.args.work.now))
    (block c.args.lb (part c.args.pb c.args.eb c.args.work.now))
    (LineLeft c.in-LineLeft.line) (sym c.in-LineLeft.is ∙ c.choose-w.ensures) refl c.linear_product-in-LineLeft.ensures

pub product-returns-in_default : goal.product-returns-in_default
product-returns-in_default t c =
    made_plain c.args.limits c.args.stage
    (block c.args.la (part c.args.pa c.args.ea c.args.work.now))
    (block c.args.lb (part c.args.pb c.args.eb c.args.work.now))
    c.choose-w.result c.choose-w.ensures
    (λ z. c.in_default.not-LineRight _ (by_number _ z))
    (λ z. c.in_default.not-LineLeft _ (by_number _ z)) c.plain.ensures refl

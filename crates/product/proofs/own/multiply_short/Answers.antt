use Rattle.product.specs.Owned.{short-written, short-cleared}
use native.Mathlib.Omega.{arith}
use mathlib.Core.Path.{◌≡◌, refl, sym, ap, ◌∙◌}
use lib.Seq.{length-take-le}
use Rattle.model.specs.Header.{stored}
use Rattle.model.specs.Word.{header_of}
use Rattle.shape_words.specs.Lengths.{lengths_of_lem}
use Rattle.product.proofs.own.multiply_short.Goals as goal

pub stored_of-n-requires : goal.stored_of-n-requires
stored_of-n-requires c = rw c.header_of-x.ensures c.requires.good.regular.rules

pub overflow_mul-room : goal.overflow_mul-room
overflow_mul-room c =
    let counted : c.stored_of-n.result ≡ stored (header_of c.args.ah) =
    c.stored_of-n.ensures ∙ ap stored c.header_of-x.ensures in
    omega (arith, counted, c.requires.good.most)

pub slice_bounds-short_into-end : goal.slice_bounds-short_into-end
slice_bounds-short_into-end c =
    let counted : c.stored_of-n.result ≡ stored (header_of c.args.ah) =
    c.stored_of-n.ensures ∙ ap stored c.header_of-x.ensures in
    sym (length-take-le _ _
    (omega (arith, counted, c.requires.full)))

pub slice_bounds-short_into-end-2 : goal.slice_bounds-short_into-end-2
slice_bounds-short_into-end-2 c =
    let counted : c.stored_of-n.result ≡ stored (header_of c.args.ah) =
    c.stored_of-n.ensures ∙ ap stored c.header_of-x.ensures in
    omega (arith, counted, c.requires.lent)

pub slice_bounds-short_into-end-3 : goal.slice_bounds-short_into-end-3
slice_bounds-short_into-end-3 c =
    let counted : c.stored_of-n.result ≡ stored (header_of c.args.ah) =
    c.stored_of-n.ensures ∙ ap stored c.header_of-x.ensures in
    sym (length-take-le _ _ (omega (arith, counted, c.requires.lent)))

pub short_into-requires : goal.short_into-requires
short_into-requires c =
    let counted : c.stored_of-n.result ≡ stored (header_of c.args.ah) =
    c.stored_of-n.ensures ∙ ap stored c.header_of-x.ensures in
    record {
      lens =
          lengths_of_lem {h = c.header_of-x.result} (rw c.header_of-x.ensures c.requires.good.regular.rules);
      full = length-take-le _ _ (omega (arith, counted, c.requires.full)) ∙ c.stored_of-n.ensures;
      room = length-take-le _ _ (omega (arith, counted, c.requires.lent)) ∙ c.stored_of-n.ensures;
      kind = c.requires.kind;
      var = c.requires.var;
    }

pub slice_bounds-clear-end : goal.slice_bounds-clear-end
slice_bounds-clear-end c =
    let counted : c.stored_of-n.result ≡ stored (header_of c.args.ah) =
    c.stored_of-n.ensures ∙ ap stored c.header_of-x.ensures in
    omega (arith, counted, c.requires.room)

pub slice_bounds-clear-end-2 : goal.slice_bounds-clear-end-2
slice_bounds-clear-end-2 c =
    let counted : c.stored_of-n.result ≡ stored (header_of c.args.ah) =
    c.stored_of-n.ensures ∙ ap stored c.header_of-x.ensures in
    sym (length-take-le _ _ (omega (arith, counted, c.requires.room)))

pub returns : goal.returns
returns c =
    let counted : c.stored_of-n.result ≡ stored (header_of c.args.ah) =
    c.stored_of-n.ensures ∙ ap stored c.header_of-x.ensures in
    record {
      answer = refl;
      written = short-written (header_of c.args.ah) (counted) c.args.out.now c.args.w
          c.header_of-x.ensures c.args.a.now
          c.short_into.ensures;
      cleared = short-cleared (header_of c.args.ah) (counted) c.args.scratch.now
          c.clear.ensures (length-take-le _ _ (omega (arith, counted, c.requires.room)));
    }
